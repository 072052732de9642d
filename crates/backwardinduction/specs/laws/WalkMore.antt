-- The walk over all layers: the steps as marks and prices, and the row that is left. Assumes nothing.
use Rattle.std.specs.Prelude.{ℕ, zero, suc, ◌+◌, ◌*◌, ◌%◌, ◌≤◌, ◌<◌, ◌≡◌, refl, List, [], ◌∷◌, eqb, ltb, length, get_or, replicate, ℤ, Float}
use Rattle.std.proofs.Common.{ap, ◌∙◌, arith}
use Rattle.std.specs.Float.{nan}
use Rattle.bondevents.specs.declared.CallStep.{CallStep}
use Rattle.bondevents.specs.Calls.{new_step}
use Rattle.lattice.specs.Layers.{At}
use Rattle.backwardinduction.specs.Walk.{final_row}
use Rattle.lattice.specs.laws.Stored.{row_of}

-- A step, from its mark and its two prices: mark 1 is a call, 2 a put, 3 both.
abbrev pub call_of : ℕ → Float → Float → CallStep
call_of mark call put =
    record {
      call = record { marked = eqb (mark % 2) 1; price = call };
      put = record { marked = ltb 1 mark; price = put };
    }

-- All steps: a mark each, and call and put price side by side.
unfoldable pub calls_of : List ℕ → List Float → List CallStep
calls_of (m ∷ marks) (c ∷ p ∷ prices) = call_of m c p ∷ calls_of marks prices
calls_of (m ∷ marks) (c ∷ []) = []
calls_of (m ∷ marks) [] = []
calls_of [] prices = []

-- ---- what a step reads

pub calls_at : (marks : List ℕ) (prices : List Float) (k : ℕ) → k < length marks → length prices ≡ length marks * 2 → get_or (calls_of marks prices) k new_step ≡ call_of (get_or marks k 0) (get_or prices (k * 2) nan) (get_or prices (k * 2 + 1) nan)
unfolding calls_of
calls_at [] prices k h e = absurd (omega arith)
calls_at (m ∷ marks) [] k h e = absurd (omega arith)
calls_at (m ∷ marks) (c ∷ []) k h e = absurd (omega arith)
calls_at (m ∷ marks) (c ∷ p ∷ prices) zero h e = refl
calls_at (m ∷ marks) (c ∷ p ∷ prices) (suc k) h e =
    calls_at marks prices k (omega arith) (omega arith)
    ∙ ap (λ (n : ℕ). call_of (get_or marks k 0) (get_or (c ∷ p ∷ prices) n nan) (get_or prices (k * 2 + 1) nan)) {x = suc (suc (k * 2))} {y = suc k * 2} (omega arith)
    ∙ ap (λ (n : ℕ). call_of (get_or marks k 0) (get_or (c ∷ p ∷ prices) (suc k * 2) nan) (get_or (c ∷ p ∷ prices) n nan)) {x = suc (suc (k * 2 + 1))} {y = suc k * 2 + 1} (omega arith)

-- ---- the last row

pub final_row_lem : (v : Float) (ns : List ℤ) (k : ℕ) → length ns ≤ k → final_row v ns ≡ row_of ns (replicate k v)
unfolding final_row row_of
final_row_lem v [] k h = refl
final_row_lem v (n ∷ ns) zero h = absurd (omega arith)
final_row_lem v (n ∷ ns) (suc k) h = ap (λ (r : List At). record { node = n; value = v } ∷ r) (final_row_lem v ns k (omega arith))
