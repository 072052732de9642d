-- A loop that looks for the two pillars around a time, from the front: what it knows at each pillar, and what the curve is where it stops. Assumes nothing.
use Rattle.std.specs.Prelude.{Ok}
use Prim.Native.Nat.{ℕ, suc, ◌+◌, ◌≤◌, ◌<◌}
use native.Mathlib.Omega.{arith}
use native.Mathlib.Numerals.{add-one}
use mathlib.Core.Path.{◌≡◌, refl, sym, ap, subst, ◌∙◌}
use mathlib.Core.Bool.{Bool, true, false, cond}
use mathlib.Core.List.{List, [], ◌∷◌}
use borrow.Author.Rules.{rules}
use lib.ListN.{length, get_or, drop, drop_of_length-le}
use lib.Seq.{drop-cons}
use lib.Ieee.{Float, lt}
use Rattle.floats.specs.Answers.{Answer, plus_zero}
use Rattle.terms.specs.Curve.{between, curve_over}

module _ (t : Float) (place : ℕ) where
  -- ---- the definition, case by case

  curve-step : (t0 t1 : Float) (times : List Float) (d0 d1 : Float) (factors : List Float) → curve_over (t0 ∷ t1 ∷ times) (d0 ∷ d1 ∷ factors) t place ≡ cond (lt t t1) (between t t0 d0 t1 d1 place) (curve_over (t1 ∷ times) (d1 ∷ factors) t place)
  unfolding curve_over
  curve-step t0 t1 times d0 d1 factors = refl

  last_time : (t0 d0 : Float) (factors : List Float) → curve_over (t0 ∷ []) (d0 ∷ factors) t place ≡ Ok d0
  unfolding curve_over
  last_time t0 d0 factors = refl

  last_factor : (t0 : Float) (times : List Float) (d0 : Float) → curve_over (t0 ∷ times) (d0 ∷ []) t place ≡ Ok d0
  unfolding curve_over
  last_factor t0 [] d0 = refl
  last_factor t0 (t1 ∷ times) d0 = refl

  no_time : (factors : List Float) → curve_over [] factors t place ≡ Ok plus_zero
  unfolding curve_over
  no_time factors = refl

  no_factor : (times : List Float) → curve_over times [] t place ≡ Ok plus_zero
  unfolding curve_over
  no_factor [] = refl
  no_factor (t0 ∷ times) = refl

  module _ (times : List Float) (factors : List Float) where
    pub without_times : {r : Answer} → length times ≡ 0 → r ≡ Ok plus_zero → r ≡ curve_over times factors t place
    without_times h p = let e : drop 0 times ≡ [] = drop_of_length-le times {i = 0} (omega arith) in p ∙ sym (rw e (no_time factors))

    pub without_factors : {r : Answer} → length factors ≡ 0 → r ≡ Ok plus_zero → r ≡ curve_over times factors t place
    without_factors h p = let e : drop 0 factors ≡ [] = drop_of_length-le factors {i = 0} (omega arith) in p ∙ sym (rw e (no_factor times))

    -- The time is not before pillar i: what is left of the curve from there on is the whole.
    pub record Curving (i : ℕ) : Type 0 where
      pub time-there : i < length times
      pub factor-there : i < length factors
      pub rest : curve_over (drop i times) (drop i factors) t place ≡ curve_over times factors t place

    pub begin : 0 < length times → 0 < length factors → Curving 0
    begin h k = record { time-there = h; factor-there = k; rest = refl }

    -- Pillar i and the one that follows it.
    two_of_lem : (i : ℕ) → suc i < length times → suc i < length factors → curve_over (drop i times) (drop i factors) t place ≡ cond (lt t (get_or times (suc i) plus_zero)) (between t (get_or times i plus_zero) (get_or factors i plus_zero) (get_or times (suc i) plus_zero) (get_or factors (suc i) plus_zero) place) (curve_over (drop (suc i) times) (drop (suc i) factors) t place)
    two_of_lem i h k =
        let l : i < length times = omega arith in
        let m : i < length factors = omega arith in
        let t0 = get_or times i plus_zero in
        let t1 = get_or times (suc i) plus_zero in
        let d0 = get_or factors i plus_zero in
        let d1 = get_or factors (suc i) plus_zero in
        let test = lt t t1 in
        let piece = between t t0 d0 t1 d1 place in
        ap (λ (xs : List Float). curve_over xs (drop i factors) t place) (drop-cons times i plus_zero l ∙ ap (λ (xs : List Float). t0 ∷ xs) (drop-cons times (suc i) plus_zero h))
        ∙ ap (λ (xs : List Float). curve_over (t0 ∷ t1 ∷ drop (suc (suc i)) times) xs t place) (drop-cons factors i plus_zero m ∙ ap (λ (xs : List Float). d0 ∷ xs) (drop-cons factors (suc i) plus_zero k))
        ∙ curve-step t0 t1 (drop (suc (suc i)) times) d0 d1 (drop (suc (suc i)) factors)
        ∙ ap (λ (xs : List Float). cond test piece (curve_over xs (d1 ∷ drop (suc (suc i)) factors) t place)) (sym (drop-cons times (suc i) plus_zero h))
        ∙ ap (λ (xs : List Float). cond test piece (curve_over (drop (suc i) times) xs t place)) (sym (drop-cons factors (suc i) plus_zero k))

    -- The same with the flag of the code's test.
    told : (i : ℕ) (b : Bool) {f : Bool} → i + 1 < length times → i + 1 < length factors → f ≡ lt t (get_or times (i + 1) plus_zero) → f ≡ b → curve_over (drop i times) (drop i factors) t place ≡ cond b (between t (get_or times i plus_zero) (get_or factors i plus_zero) (get_or times (i + 1) plus_zero) (get_or factors (i + 1) plus_zero) place) (curve_over (drop (i + 1) times) (drop (i + 1) factors) t place)
    told i b h k e q =
        subst
        (λ (j : ℕ).
        lt t (get_or times j plus_zero) ≡ b
        → curve_over (drop i times) (drop i factors) t place
        ≡ cond b (between t (get_or times i plus_zero) (get_or factors i plus_zero) (get_or times j plus_zero) (get_or factors j plus_zero) place) (curve_over (drop j times) (drop j factors) t place))
        (sym (add-one i))
        (λ w.
        two_of_lem i (omega arith) (omega arith)
        ∙ ap (λ (z : Bool). cond z (between t (get_or times i plus_zero) (get_or factors i plus_zero) (get_or times (suc i) plus_zero) (get_or factors (suc i) plus_zero) place) (curve_over (drop (suc i) times) (drop (suc i) factors) t place)) w)
        (sym e ∙ q)

    pub turn : (i : ℕ) {f : Bool} → Curving i → i + 1 < length times → i + 1 < length factors → f ≡ lt t (get_or times (i + 1) plus_zero) → f ≡ false → Curving (i + 1)
    turn i c h k e q = record { time-there = h; factor-there = k; rest = sym (told i false h k e q) ∙ c.rest }

    pub found : (i : ℕ) {f : Bool} {r : Answer} → Curving i → i + 1 < length times → i + 1 < length factors → f ≡ lt t (get_or times (i + 1) plus_zero) → f ≡ true → r ≡ between t (get_or times i plus_zero) (get_or factors i plus_zero) (get_or times (i + 1) plus_zero) (get_or factors (i + 1) plus_zero) place → r ≡ curve_over times factors t place
    found i c h k e q p = p ∙ sym (told i true h k e q) ∙ c.rest

    -- From the last pillar on, its factor; the same where the factors end first.
    pub times-end : (i : ℕ) {v : Float} {r : Answer} → Curving i → length times ≤ i + 1 → v ≡ get_or factors i plus_zero → r ≡ Ok v → r ≡ curve_over times factors t place
    times-end i c h e p =
        let none : drop (suc i) times ≡ [] = drop_of_length-le times {i = suc i} (omega arith) in
        let d0 = get_or factors i plus_zero in
        p ∙ ap Ok e
        ∙ sym
        (ap (λ (xs : List Float). curve_over xs (drop i factors) t place) (drop-cons times i plus_zero c.time-there ∙ ap (λ (xs : List Float). get_or times i plus_zero ∷ xs) none)
        ∙ ap (λ (xs : List Float). curve_over (get_or times i plus_zero ∷ []) xs t place) (drop-cons factors i plus_zero c.factor-there)
        ∙ last_time (get_or times i plus_zero) d0 (drop (suc i) factors))
        ∙ c.rest

    pub factors-end : (i : ℕ) {v : Float} {r : Answer} → Curving i → length factors ≤ i + 1 → v ≡ get_or factors i plus_zero → r ≡ Ok v → r ≡ curve_over times factors t place
    factors-end i c h e p =
        let none : drop (suc i) factors ≡ [] = drop_of_length-le factors {i = suc i} (omega arith) in
        let d0 = get_or factors i plus_zero in
        p ∙ ap Ok e
        ∙ sym
        (ap (λ (xs : List Float). curve_over xs (drop i factors) t place) (drop-cons times i plus_zero c.time-there)
        ∙ ap (λ (xs : List Float). curve_over (get_or times i plus_zero ∷ drop (suc i) times) xs t place) (drop-cons factors i plus_zero c.factor-there ∙ ap (λ (xs : List Float). d0 ∷ xs) none)
        ∙ last_factor (get_or times i plus_zero) (drop (suc i) times) d0)
        ∙ c.rest

-- The line between two pillars, by the values that were read.
pub between-read : (t : Float) (place : ℕ) {r : Answer} {a a' b b' c c' d d' : Float} → a ≡ a' → b ≡ b' → c ≡ c' → d ≡ d' → r ≡ between t a b c d place → r ≡ between t a' b' c' d' place
between-read t place ea eb ec ed p = rw (← ea, ← eb, ← ec, ← ed) p

-- The laws of such a loop.
pub ruleset curving = (begin, turn, found, times-end, factors-end, without_times, without_factors, rules)
