-- A layer has at most 2,000,004 nodes, so that all of them can be counted. Assumes nothing.
use Rattle.std.specs.Prelude.{ℕ, zero, suc, ◌+◌, ◌*◌, ◌≤◌, ◌≡◌, refl, Bool, true, false, cond, List, [], ◌∷◌, leb, length, ℤ, Float, Ok}
use Rattle.std.proofs.Common.{arith}
use Rattle.floats.specs.declared.Reason.{Reason}
use Rattle.floats.specs.declared.Reason.TheVariants as reason
use Rattle.floats.specs.Answers.{Answer, Outcome, follow, refusal}
use Rattle.terms.specs.laws.Outcomes.{same_given, given_or_refused, of_given}
use Rattle.widths.specs.Widths.{widths_from, flat_widths, total}

pub few_last : (room : ℕ) (decay spacing : Float) (ns : List ℤ) (k : ℕ) (ws : List ℕ) → length ns ≤ 2000004 → widths_from room decay spacing ns k [] ≡ Ok ws → total ws ≤ 2000004 * 1
unfolding widths_from total
few_last room decay spacing ns k ws f e = rw (← same_given e) (omega arith)

pub cond-given : {A : Type 0} (b : Bool) (o : Outcome A) (why : Reason) (k : ℕ) {x : A} → cond b o (refusal why k) ≡ Ok x → o ≡ Ok x
cond-given true o why k e = e
cond-given false o why k e = absurd (given_or_refused e refl)

pub of_value_lem : {A : Type 0} (a : Answer) (k : Float → Outcome A) {x : A} → follow a k ≡ Ok x → (y : Float) × (a ≡ Ok y) × (k y ≡ Ok x)
of_value_lem a k e = of_given a k e

pub few-flat : (room k left : ℕ) (ws : List ℕ) → flat_widths room k left ≡ Ok ws → total ws ≤ left + 1
unfolding flat_widths total
few-flat room k zero ws e = rw (← same_given e) (omega arith)
few-flat room k (suc left) ws e =
    let (rest, p, q) = of_given (flat_widths room (suc k) left) (λ ws. Ok (1 ∷ ws)) (cond-given (leb 2 room) _ reason.NoRoom (suc k) e) in
    let r = few-flat room (suc k) left rest p in
    rw (← same_given q) (omega arith)
