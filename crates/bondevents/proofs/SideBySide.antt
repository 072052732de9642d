-- Call and put price of each step side by side: what stands at each place, and a loop that writes two places a turn. Assumes nothing.
use Prim.Native.Nat.{ℕ, zero, suc, ◌+◌, ◌*◌, ◌≤◌, ◌<◌}
use native.Mathlib.Omega.{arith}
use mathlib.Core.Path.{◌≡◌, refl, sym, subst, ◌∙◌}
use mathlib.Core.List.{List, [], ◌∷◌}
use lib.ListN.{length, get_or, set}
use lib.Seq.{ext_get_or}
use lib.Ieee.{Float, nan}
use Rattle.bondevents.specs.declared.CallStep.{CallStep}
use Rattle.bondevents.specs.Parts.{step_prices}
use Rattle.bondevents.proofs.Filling.{Filling, more}

prices-long : (steps : List CallStep) → length (step_prices steps) ≡ length steps * 2
unfolding step_prices
prices-long [] = refl
prices-long (s ∷ steps) = let e = prices-long steps in omega arith

call_at_lem : (steps : List CallStep) (k : ℕ) (d : CallStep) → k < length steps → get_or (step_prices steps) (k * 2) nan ≡ (get_or steps k d).call.price
unfolding step_prices
call_at_lem [] k d h = absurd (omega arith)
call_at_lem (s ∷ steps) zero d h = refl
call_at_lem (s ∷ steps) (suc k) d h = subst (λ (n : ℕ). get_or (step_prices (s ∷ steps)) n nan ≡ (get_or steps k d).call.price) {x = suc (suc (k * 2))} {y = suc k * 2} (omega arith) (call_at_lem steps k d (omega arith))

put_at_lem : (steps : List CallStep) (k : ℕ) (d : CallStep) → k < length steps → get_or (step_prices steps) (k * 2 + 1) nan ≡ (get_or steps k d).put.price
unfolding step_prices
put_at_lem [] k d h = absurd (omega arith)
put_at_lem (s ∷ steps) zero d h = refl
put_at_lem (s ∷ steps) (suc k) d h = subst (λ (n : ℕ). get_or (step_prices (s ∷ steps)) n nan ≡ (get_or steps k d).put.price) {x = suc (suc (k * 2 + 1))} {y = suc k * 2 + 1} (omega arith) (put_at_lem steps k d (omega arith))

module _ (steps : List CallStep) (whole : length steps ≡ 513) where
  -- The places of the steps before i are written.
  abbrev pub Pairing : ℕ → List Float → Type 0
  Pairing i table = Filling (λ k. get_or (step_prices steps) k nan) nan 1026 (i * 2) table

  -- One step more.
  pub pair : (i : ℕ) (table : List Float) {x y : Float} (d : CallStep) → Pairing i table → i < 513 → x ≡ (get_or steps i d).call.price → y ≡ (get_or steps i d).put.price
      → Pairing (i + 1) (set (set table (i * 2) x) (i * 2 + 1) y)
  pair i table {x} {y} d s h e f =
      let one = more (λ k. get_or (step_prices steps) k nan) nan 1026 (i * 2) table s (omega arith) (e ∙ sym (call_at_lem steps i d (omega arith))) in
      subst (λ (n : ℕ). Filling (λ k. get_or (step_prices steps) k nan) nan 1026 n (set (set table (i * 2) x) (i * 2 + 1) y)) (omega arith)
      (more (λ k. get_or (step_prices steps) k nan) nan 1026 (i * 2 + 1) (set table (i * 2) x) one (omega arith) (f ∙ sym (put_at_lem steps i d (omega arith))))

  pub paired : (i : ℕ) (table : List Float) → 513 ≤ i → Pairing i table → table ≡ step_prices steps
  paired i table l s =
      let long = prices-long steps in
      ext_get_or nan table (step_prices steps) (s.sized ∙ omega arith) (λ k h. s.at k (omega (arith, s.sized)))
