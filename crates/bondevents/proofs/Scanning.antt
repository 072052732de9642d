-- One entry over its steps: what the loop knows at each step, one turn, a refusal, and its end; and where one step alone is eligible. Assumes nothing.
use Rattle.std.specs.Prelude.{Ok, Err}
use Prim.Native.Nat.{ℕ, suc, ◌+◌, ◌-◌, ◌≤◌, ◌<◌}
use native.Mathlib.Omega.{arith}
use native.Mathlib.Numerals.{add-one}
use borrow.Author.Rules.{rules}
use mathlib.Core.Path.{◌≡◌, refl, sym, ap, ◌∙◌}
use mathlib.Core.Bool.{Bool, true, false, cond}
use mathlib.Core.List.{List, [], ◌∷◌, ◌++◌, append_assoc}
use lib.ListN.{length, get_or, take, drop, set, length-set, take-append-drop}
use lib.Seq.{drop-cons, take-suc-set, drop-set-lt, set-get_or}
use lib.Ieee.{Float}
use Rattle.floats.specs.Refusals.{Refusal}
use Rattle.floats.specs.Answers.{Answer, on_outcome, Outcome, follow}
use Rattle.bondevents.specs.declared.Side.{Side}
use Rattle.bondevents.specs.declared.Exercise.{Exercise}
use Rattle.bondevents.specs.Calls.{none, keep}
use Rattle.bondevents.specs.Parts.{over_prices}
use Rattle.bondevents.proofs.Outcomes.{follow-given, follow-follow, follow_same}

-- What a step c becomes.
abbrev pub stepped : Side → (ℕ → Bool) → (ℕ → Answer) → ℕ → Exercise → Outcome Exercise
stepped side E P step c = cond (E step) (follow (P step) λ x. Ok (keep side c x)) (Ok c)

-- What is left to do from step i on, behind the steps that are done, is the whole.
pub record Scanning (side : Side) (E : ℕ → Bool) (P : ℕ → Answer) (steps : ℕ) (row kept : List Exercise) (i : ℕ) : Type 0 where
  pub within : i ≤ steps
  pub size : length kept ≡ 513
  pub rest : follow (over_prices side E P (steps - i) i (drop i kept)) (λ cs. Ok (take i kept ++ cs)) ≡ over_prices side E P steps 0 row

module _ (side : Side) (E : ℕ → Bool) (P : ℕ → Answer) (steps : ℕ) (few : steps ≤ 512) (row : List Exercise) where
  pub begin : length row ≡ 513 → Scanning side E P steps row row 0
  begin h = record { within = omega arith; size = h; rest = let e : steps - 0 ≡ steps = omega arith in rw e (follow-given (over_prices side E P steps 0 row)) }

  module _ (kept : List Exercise) (i : ℕ) (s : Scanning side E P steps row kept i) (h : i < steps) (d : Exercise) where
    -- One step, of those that are left.
    one_of : over_prices side E P (steps - i) i (drop i kept) ≡ follow (stepped side E P i (get_or kept i d)) λ c. follow (over_prices side E P (steps - suc i) (suc i) (drop (suc i) kept)) λ cs. Ok (c ∷ cs)
    one_of =
        let e : steps - i ≡ suc (steps - suc i) = omega arith in
        let l : i < length kept = omega (arith, s.size) in
        rw (e, drop-cons kept i d l) (unfold over_prices in refl)

    pub turn : (c : Exercise) → stepped side E P i (get_or kept i d) ≡ Ok c → Scanning side E P steps row (set kept i c) (i + 1)
    unfolding on_outcome
    turn c e =
        record {
          within = omega arith;
          size = length-set kept i c ∙ s.size;
          rest = rw add-one (same ∙ s.rest);
        }
      where
        left : Outcome (List Exercise)
        left = over_prices side E P (steps - suc i) (suc i) (drop (suc i) kept)

        l : i < length kept
        l = omega (arith, s.size)

        joined : (cs : List Exercise) → take (suc i) (set kept i c) ++ cs ≡ take i kept ++ (c ∷ cs)
        joined cs = rw (take-suc-set kept i c l) (append_assoc (take i kept) (c ∷ []) cs)

        same : follow (over_prices side E P (steps - suc i) (suc i) (drop (suc i) (set kept i c))) (λ cs. Ok (take (suc i) (set kept i c) ++ cs)) ≡ follow (over_prices side E P (steps - i) i (drop i kept)) (λ cs. Ok (take i kept ++ cs))
        same =
            rw (drop-set-lt (suc i) kept i c (omega arith), one_of, e)
            (follow_same left (λ cs. Ok (take (suc i) (set kept i c) ++ cs)) (λ cs. Ok (take i kept ++ (c ∷ cs))) (λ cs. ap Ok (joined cs))
            ∙ sym (follow-follow left (λ cs. Ok (c ∷ cs)) (λ cs. Ok (take i kept ++ cs))))

    pub stopped : (q : Refusal) → stepped side E P i (get_or kept i d) ≡ Err q → over_prices side E P steps 0 row ≡ Err q
    unfolding on_outcome
    stopped q e = sym s.rest ∙ rw (one_of, e) refl

  -- A step that isn't eligible stays as it is.
  pub skip : (kept : List Exercise) (i : ℕ) → Scanning side E P steps row kept i → i < steps → (d : Exercise) → E i ≡ false → Scanning side E P steps row kept (i + 1)
  skip kept i s h d e =
      let t = turn kept i s h d (get_or kept i d) (ap (λ (b : Bool). cond b (follow (P i) λ x. Ok (keep side (get_or kept i d) x)) (Ok (get_or kept i d))) e) in
      rw (set-get_or kept i d) at t

  pub done : (kept : List Exercise) (i : ℕ) → Scanning side E P steps row kept i → steps ≤ i → over_prices side E P steps 0 row ≡ Ok kept
  unfolding on_outcome
  done kept i s h =
      let e : steps - i ≡ 0 = omega arith in
      sym s.rest ∙ rw e (unfold over_prices in ap Ok (take-append-drop i kept))

  -- ---- the same, from what the code's tests and row say

  module _ (kept : List Exercise) (i : ℕ) (s : Scanning side E P steps row kept i) (h : i < steps) {f : Bool} (e : f ≡ E i) where
    pub pass_over : f ≡ false → Scanning side E P steps row kept (i + 1)
    pass_over t = skip kept i s h none (sym e ∙ t)

    module _ (t : f ≡ true) {a : Answer} (g : a ≡ P i) where
      at_answer : (d : Exercise) → stepped side E P i (get_or kept i d) ≡ follow a λ x. Ok (keep side (get_or kept i d) x)
      at_answer d =
          ap (λ (b : Bool). cond b (follow (P i) λ x. Ok (keep side (get_or kept i d) x)) (Ok (get_or kept i d))) (sym e ∙ t)
          ∙ ap (λ (b : Answer). follow b λ x. Ok (keep side (get_or kept i d) x)) (sym g)

      pub keeps : {x : Float} {k : Exercise} (d : Exercise) → a ≡ Ok x → k ≡ keep side (get_or kept i d) x → Scanning side E P steps row (set kept i k) (i + 1)
      unfolding on_outcome
      keeps {x} {k} d v w = turn kept i s h d k (at_answer d ∙ ap (λ (b : Answer). follow b λ x. Ok (keep side (get_or kept i d) x)) v ∙ ap Ok (sym w))

      pub refuse : {q : Refusal} {z : Outcome (List Exercise)} → a ≡ Err q → z ≡ Err q → z ≡ over_prices side E P steps 0 row
      unfolding on_outcome
      refuse {q} v w =
          w
          ∙ sym
          (stopped kept i s h none q
          (at_answer none ∙ ap (λ (b : Answer). follow b λ x. Ok (keep side (get_or kept i none) x)) v))

  pub finish : (kept : List Exercise) (i : ℕ) → Scanning side E P steps row kept i → steps ≤ i → Ok kept ≡ over_prices side E P steps 0 row
  finish kept i s h = sym (done kept i s h)

-- The laws of the loop over the steps.
pub ruleset scanning = (begin, pass_over, keeps, refuse, finish, rules)
