-- One entry over its steps by any test and price: it is the definition's, it depends on the test and the price at these steps alone, and where one step alone is eligible it changes that one. Assumes nothing.
use Rattle.std.specs.Prelude.{Ok}
use Prim.Native.Nat.{ℕ, zero, suc, ◌+◌, ◌≤◌, ◌<◌}
use native.Mathlib.Omega.{arith}
use mathlib.Core.Path.{◌≡◌, refl, ap, ◌∙◌}
use mathlib.Core.Bool.{Bool, true, false, cond}
use mathlib.Core.List.{List, [], ◌∷◌}
use lib.ListN.{length, get_or, set}
use Rattle.floats.specs.Answers.{Answer, Outcome, follow, on_outcome}
use Rattle.terms.specs.Terms.{Bond}
use Rattle.bondevents.specs.declared.Side.{Side}
use Rattle.bondevents.specs.declared.Exercise.{Exercise}
use Rattle.bondevents.specs.Steps.{Axis}
use Rattle.bondevents.specs.Calls.{Entry, eligible, call_price, keep, over_steps}
use Rattle.bondevents.specs.Parts.{over_prices}
use Rattle.bondevents.proofs.Outcomes.{follow-follow}
use Rattle.bondevents.proofs.Scanning.{stepped}

-- The definition's steps of an entry.
pub by_prices : (side : Side) (a : Axis) (bond : Bond) (e : Entry) (count step : ℕ) (cs : List Exercise) → over_steps side a bond e count step cs ≡ over_prices side (eligible a e) (call_price a bond e) count step cs
unfolding over_steps over_prices
by_prices side a bond e zero step cs = refl
by_prices side a bond e (suc count) step [] = refl
by_prices side a bond e (suc count) step (c ∷ cs) =
    ap (λ (z : Outcome (List Exercise)). follow (stepped side (eligible a e) (call_price a bond e) step c) λ c. follow z λ cs. Ok (c ∷ cs)) (by_prices side a bond e count (suc step) cs)

-- Tests and prices that agree at these steps.
pub agree :
    (side : Side) (E F : ℕ → Bool) (P Q : ℕ → Answer) (count step : ℕ) (cs : List Exercise)
    → ((s : ℕ) → step ≤ s → s < step + count → E s ≡ F s)
    → ((s : ℕ) → step ≤ s → s < step + count → P s ≡ Q s)
    → over_prices side E P count step cs ≡ over_prices side F Q count step cs
unfolding over_prices
agree side E F P Q zero step cs e p = refl
agree side E F P Q (suc count) step [] e p = refl
agree side E F P Q (suc count) step (c ∷ cs) e p =
    ap (λ (z : Outcome Exercise). follow z λ c. follow (over_prices side E P count (suc step) cs) λ cs. Ok (c ∷ cs)) here
    ∙ ap (λ (z : Outcome (List Exercise)). follow (stepped side F Q step c) λ c. follow z λ cs. Ok (c ∷ cs))
    (agree side E F P Q count (suc step) cs (λ s l h. e s (omega arith) (omega arith)) (λ s l h. p s (omega arith) (omega arith)))
  where
    here : stepped side E P step c ≡ stepped side F Q step c
    here =
        ap (λ (b : Bool). cond b (follow (P step) λ x. Ok (keep side c x)) (Ok c)) (e step (omega arith) (omega arith))
        ∙ ap (λ (a : Answer). cond (F step) (follow a λ x. Ok (keep side c x)) (Ok c)) (p step (omega arith) (omega arith))

module _ (side : Side) (E : ℕ → Bool) (P : ℕ → Answer) where
  -- No step is eligible.
  pub nowhere : (count step : ℕ) (cs : List Exercise) → ((s : ℕ) → step ≤ s → s < step + count → E s ≡ false) → over_prices side E P count step cs ≡ Ok cs
  unfolding over_prices on_outcome
  nowhere zero step cs h = refl
  nowhere (suc count) step [] h = refl
  nowhere (suc count) step (c ∷ cs) h = rw (h step (omega arith) (omega arith), nowhere count (suc step) cs (λ s l b. h s (omega arith) (omega arith))) refl

  -- Step k alone, the j-th of those that are left.
  pub single :
      (j count step k : ℕ) (cs : List Exercise) (d : Exercise)
      → k ≡ step + j
      → j < count
      → j < length cs
      → E k ≡ true
      → ((s : ℕ) → step ≤ s → s < step + count → (s ≡ k → ⊥) → E s ≡ false)
      → over_prices side E P count step cs ≡ follow (P k) λ x. Ok (set cs j (keep side (get_or cs j d) x))
  unfolding over_prices on_outcome
  single j zero step k cs d e h l t n = absurd (omega arith)
  single j (suc count) step k [] d e h l t n = absurd (omega arith)
  single zero (suc count) step k (c ∷ cs) d e h l t n =
      let q : step ≡ k = omega arith in
      rw (q, t, nowhere count (suc k) cs (λ s a b. n s (omega arith) (omega arith) (λ w. omega arith)))
      (follow-follow (P k) (λ x. Ok (keep side c x)) (λ c. Ok (c ∷ cs)))
  single (suc j) (suc count) step k (c ∷ cs) d e h l t n =
      rw (n step (omega arith) (omega arith) (λ w. omega arith), single j count (suc step) k cs d (omega arith) (omega arith) (omega arith) t (λ s a b w. n s (omega arith) (omega arith) w))
      (follow-follow (P k) (λ x. Ok (set cs j (keep side (get_or cs j d) x))) (λ cs. Ok (c ∷ cs)))
