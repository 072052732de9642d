-- The variances step by step, as a loop works them out. Assumes nothing.
use Prim.Native.Nat.{ℕ, zero, suc, ◌+◌, ◌-◌, ◌≤◌, ◌<◌}
use Rattle.std.proofs.Math.Numerals.{add-one}
use native.Mathlib.Omega.{arith}
use Rattle.std.specs.Prelude.{◌≡◌, List, [], ◌∷◌, length, set, Float, Ok, Err}
use Rattle.std.proofs.Math.Path.{refl}
use Rattle.std.proofs.Common.{sym, ◌∙◌}
use Rattle.floats.specs.Refusals.{Refusal}
use Rattle.floats.specs.Answers.{Answer, on_outcome, Check, follow}
use Rattle.terms.specs.Terms.{HullWhite}
use Rattle.hullwhite.specs.Variance.{step_variance, variances_from}
use Rattle.hullwhite.specs.laws.Filled.{Filled, Filling, filling-none, filling-refused, filling-done, filling_more}

module _ (model : HullWhite) (dt : Float) where
  -- step k's variance, and then those of the steps after it
  variances_more : (steps k : ℕ) → k < steps → variances_from model dt (steps - k) k ≡ follow (step_variance model dt k) (λ v. follow (variances_from model dt (steps - (k + 1)) (k + 1)) λ vs. Ok (v ∷ vs))
  unfolding variances_from
  variances_more steps k h =
      let e : steps - k ≡ suc (steps - (k + 1)) = omega arith in
      rw (e, add-one k) (one (steps - suc k))
    where
      one : (n : ℕ) → variances_from model dt (suc n) k ≡ follow (step_variance model dt k) (λ v. follow (variances_from model dt n (suc k)) λ vs. Ok (v ∷ vs))
      one n = refl

  variances-end : (steps k : ℕ) → steps ≤ k → variances_from model dt (steps - k) k ≡ Ok []
  unfolding variances_from
  variances-end steps k h = let e : steps - k ≡ zero = omega arith in rw e

  -- Steps 0 to k − 1 are in the row.
  pub record Reached (steps : ℕ) (before after : List Float) (k : ℕ) : Type 0 where
    pub within : k ≤ steps
    pub room : steps ≤ length before
    pub filling : Filling (variances_from model dt steps 0) (variances_from model dt (steps - k) k) before after k

  pub reached-none : (steps : ℕ) (row : List Float) → steps ≤ length row → Reached steps row row 0
  reached-none steps row h = record { within = omega arith; room = h; filling = let e : steps - 0 ≡ steps = omega arith in rw e (filling-none (variances_from model dt steps 0) row) }

  module _ (steps : ℕ) (before after : List Float) (k : ℕ) (r : Reached steps before after k) where
    pub reached-refused : {a : Answer} {q : Check} {p : Refusal} → k < steps → a ≡ step_variance model dt k → a ≡ Err p → q ≡ Err p → Filled (variances_from model dt steps 0) q before after
    unfolding on_outcome
    reached-refused h e g c =
        let w = variances_more steps k h in
        rw c (filling-refused _ _ before after k r.filling (rw (w, ← e, g)))

    pub reached_more : {a : Answer} {v : Float} → k < steps → a ≡ step_variance model dt k → a ≡ Ok v → Reached steps before (set after k v) (k + 1)
    reached_more {a} {v} h e g =
        let b = r.room in
        record {
          within = omega arith;
          room = r.room;
          filling =
              filling_more _ _ before after k r.filling (step_variance model dt k) v (variances_from model dt (steps - (k + 1)) (k + 1)) (omega arith)
              (variances_more steps k h)
              (sym e ∙ g);
        }

    pub reached_all : steps ≤ k → Filled (variances_from model dt steps 0) (Ok tt) before after
    reached_all h = filling-done _ _ before after k r.filling (let a = r.within in let b = r.room in omega arith) (variances-end steps k h)
