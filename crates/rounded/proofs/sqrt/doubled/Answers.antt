-- `sqrt::doubled` meets its contract: the square is less than the number, or it is the number.
-- Assumes nothing.
use mathlib.Core.Path.{refl}
use native.Mathlib.Omega.{arith}
use Rattle.rounded.specs.laws.RootValue.{whole, cut}
use Rattle.rounded.proofs.sqrt.doubled.Goals as goal

pub returns-then-product-n : goal.returns-then-product-n
returns-then-product-n c = record { r = c.mended-r.result; root = c.mended-r.ensures; twice = cut (omega arith) refl }

pub returns-else-product-n : goal.returns-else-product-n
returns-else-product-n c = record { r = c.mended-r.result; root = c.mended-r.ensures; twice = let h = c.mended-r.ensures.within in whole (omega arith) refl }
