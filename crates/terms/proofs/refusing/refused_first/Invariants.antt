-- `refused_first` meets its contract: in the loop, the cause holds at no index before. Assumes nothing.
use Rattle.std.proofs.Common.{◌≡◌, ◌<◌, ℕ, Bool}
use Rattle.terms.proofs.Seeking.{Seeking}
use Rattle.terms.proofs.refusing.refused_first.Given as goal

abbrev pub invariant-loop-i : goal.invariant-loop-i
invariant-loop-i g l = (cause : ℕ → Bool) → ((i : ℕ) (r : Bool) → i < l.count → goal.F-post g l.bad i r → r ≡ cause i) → Seeking l.reason cause l.count l.i
