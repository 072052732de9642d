-- What the solver evaluates, by the case of what is priced: the cashflows at a yield, or the fitted tree at a spread. Assumes nothing.
use Rattle.std.specs.Prelude.{ℕ, ◌≡◌, cond, length, Float}
use Rattle.std.specs.Float.{binary64}
use Rattle.std.specs.Float.Ieee.{sub, lt}
use Rattle.floats.specs.Answers.{Answer, one, refusal, follow, on_outcome, tested}
use Rattle.terms.specs.Numbers.{float}
use Rattle.terms.specs.Market.{leg_of}
use Rattle.terms.specs.Checks.{beyond}
use Rattle.backwardinduction.specs.Walk.{walk_from}
use Rattle.rollback.specs.declared.walking.Lattice.{Lattice}
use Rattle.rollback.specs.declared.walking.Events.{Events}
use Rattle.rollback.specs.Walking.{root_at, Walkable}
use Rattle.sought.specs.declared.Priced.{Priced}
use Rattle.sought.specs.declared.Priced.TheVariants.{Cashflows, Tree}
use Rattle.sought.specs.Objectives.{objective}
use Rattle.floats.specs.declared.Reason.TheVariants as reason

-- The root's value at a spread less the target; 36 above 1, 4 where the spread is no input of the tree.
unfoldable pub spread_at : Lattice → Events → Float → Float → Answer
unfolding walk_from on_outcome sub lt
spread_at lattice events target s =
    cond (lt one s) (refusal reason.SpreadAbove 0)
    (cond (beyond (float 1) s) (refusal reason.Number 0)
    (follow (root_at lattice events s) λ x. tested (sub binary64 x target) 0))

-- The objective of what is priced. The kinds of the cashflows play no part in it.
unfoldable pub sought_at : Priced → Float → Float → Answer
unfolding objective spread_at
sought_at (Cashflows settlement leg rate) target x = objective settlement (leg_of leg) rate target x
sought_at (Tree lattice events) target x = spread_at lattice events target x

-- What is priced can be worked out: as many amounts as days, or a tree that can be walked back in two rows of the given lengths.
unfoldable pub Ready : Priced → ℕ → ℕ → Type 0
Ready (Cashflows settlement leg rate) first second = length leg.amounts.now ≡ length leg.days.now
Ready (Tree lattice events) first second = Walkable lattice events first second

-- Rows that were written to keep their lengths.
pub still_ready : (p : Priced) {first second first' second' : ℕ} → Ready p first second → first' ≡ first → second' ≡ second → Ready p first' second'
still_ready p {first} {second} r e f = rw (e, f) r
