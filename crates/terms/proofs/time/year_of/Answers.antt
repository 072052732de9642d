-- `year_of` meets its contract. Assumes nothing.
use mathlib.Core.Path.{refl}
use lib.Ieee.{of_int, of_bits}
use borrow.Author.Tests.{ne_eqb}
use Rattle.terms.proofs.time.year_of.Goals as goal

pub returns-then-code-eq0 : goal.returns-then-code-eq0
unfolding of_int of_bits
returns-then-code-eq0 c = rw c.if-code-eq0.true refl

pub returns-else-code-eq0 : goal.returns-else-code-eq0
unfolding of_int of_bits
returns-else-code-eq0 c = rw (ne_eqb _ _ c.if-code-eq0.false) refl
