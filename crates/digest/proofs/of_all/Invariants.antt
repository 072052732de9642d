-- `of_all` meets its contract. Assumes nothing.
use Rattle.std.specs.Prelude.{length, slice_index_or}
use Rattle.digest.proofs.Mixing.{Mixing}
use Rattle.digest.proofs.of_all.Given as goal

abbrev pub invariant-loop-x : goal.invariant-loop-x
invariant-loop-x g l = (d : _) → Mixing l.h (λ i. g.T.Counts.counted (slice_index_or l.xs i d)) (length l.xs) l.d l.x-index
