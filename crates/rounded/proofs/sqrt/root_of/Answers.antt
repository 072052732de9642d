-- `sqrt::root_of` meets its contract: x is digits × 2^place / 2^1136, and digits × 2^44, or × 2^45, has the root's digits.
-- Assumes nothing.
use mathlib.Core.Path.{sym, ◌∙◌, subst}
use Prim.Native.Nat.{◌+◌, ◌*◌, ◌/◌, ◌%◌, ◌^◌}
use native.Mathlib.Omega.{arith}
use lib.Dec.{T}
use Rattle.rounded.proofs.sqrt.Places.{full, packed, held_up, held_full, held_small}
use Rattle.rounded.proofs.sqrt.root_of.Goals as goal

pub guess-start-requires : goal.guess-start-requires
guess-start-requires c = let f = full c.args.x _ _ _ c.requires c.split-parts.ensures in record { le_bits = omega arith; bits_bound = omega (arith, c.split-parts.ensures.shape.short) }

pub doubled-w-requires : goal.doubled-w-requires
doubled-w-requires c = held_small c.split-parts.result.digits (44 + c.split-parts.result.place % 2) c.split-parts.ensures.shape.short (omega arith)

pub returns : goal.returns
returns c =
    let d = c.split-parts.result.digits in
    let p = c.split-parts.result.place in
    let f = full c.args.x _ _ _ c.requires c.split-parts.ensures in
    c.pack.ensures
    ∙ packed c.args.x _ d p
    c.requires
    c.split-parts.ensures
    (44 + p % 2)
    (d * 2 ^ (44 + p % 2) % 340282366920938463463374607431768211456)
    (p / 2 + 484)
    (p / 2 + 1745)
    _
    (subst T (sym c.well_formed.0.1) tt)
    (held_up d (44 + p % 2) c.split-parts.ensures.shape.short (omega arith))
    (omega arith)
    (omega arith)
    (held_full d (44 + p % 2) f c.split-parts.ensures.shape.short (omega arith) (omega arith))
    c.doubled-w.ensures
