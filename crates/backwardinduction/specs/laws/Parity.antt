-- The two lent rows by a step's parity, where a part of one of them was written. Assumes nothing.
use Rattle.std.specs.Prelude.{ℕ, ◌+◌, ◌%◌, ◌≤◌, ◌≡◌, true, false, List, ◌++◌, length, take, drop, replicate, Float}
use Rattle.std.proofs.Common.{ap, ◌∙◌, arith, eq-eqb, ne_eqb, length-take-le, take_at}
use Rattle.std.proofs.lemmas.List.{length-replicate}
use Rattle.floats.specs.Answers.{Check, Outcome, outcome_of}
use Rattle.lattice.specs.laws.Rows.{even, current_part}

module _ (step : ℕ) (h : step % 2 ≡ 0) where
  pub even_now : even step ≡ true
  even_now = eq-eqb (step % 2) 0 h

  pub even_next : even (step + 1) ≡ false
  even_next = ne_eqb ((step + 1) % 2) 0 (λ z. omega arith)

module _ (step : ℕ) (h : step % 2 ≡ 0 → ⊥) where
  pub odd_now : even step ≡ false
  odd_now = ne_eqb (step % 2) 0 h

  pub odd_next : even (step + 1) ≡ true
  odd_next = let e : step % 2 ≡ 1 = omega arith in eq-eqb ((step + 1) % 2) 0 (omega arith)

-- what was left of a part is the part of the whole
front_left : {A : Type 0} (c : ℕ) (row l : List A) → c ≤ length row → length l ≡ length (take c row) → take c (l ++ drop c row) ≡ l
front_left c row l h e = take_at l (drop c row) c (e ∙ length-take-le c row h)

-- ---- a part filled with one value

module _ (c : ℕ) (v : Float) (l : List Float) where
  front-filled : (row : List Float) → c ≤ length row → l ≡ replicate (length (take c row)) v → take c (l ++ drop c row) ≡ replicate c v
  front-filled row h e =
      let n : length (take c row) ≡ c = length-take-le c row h in
      front_left c row l h (ap length e ∙ length-replicate (length (take c row)) v) ∙ e ∙ rw n

  pub even-filled : (step : ℕ) (first second : List Float) → step % 2 ≡ 0 → c ≤ length first → l ≡ replicate (length (take c first)) v → current_part step c (l ++ drop c first) second ≡ replicate c v
  even-filled step first second p h e = rw (even_now step p) (front-filled first h e)

  pub odd-filled : (step : ℕ) (first second : List Float) → (step % 2 ≡ 0 → ⊥) → c ≤ length second → l ≡ replicate (length (take c second)) v → current_part step c first (l ++ drop c second) ≡ replicate c v
  odd-filled step first second p h e = rw (odd_now step p) (front-filled second h e)

-- ---- a part made from the other row's

module _ (c n : ℕ) (s : Check) (l : List Float) (f : List Float → List Float → Outcome (List Float)) where
  pub even-made : (step : ℕ) (first second : List Float) → step % 2 ≡ 0 → c ≤ length first → length l ≡ length (take c first) → outcome_of s l ≡ f (take n second) (take c first)
      → outcome_of s (current_part step c (l ++ drop c first) second) ≡ f (current_part (step + 1) n first second) (current_part step c first second)
  even-made step first second p h k e = rw (even_now step p, even_next step p, front_left c first l h k) e

  pub odd-made : (step : ℕ) (first second : List Float) → (step % 2 ≡ 0 → ⊥) → c ≤ length second → length l ≡ length (take c second) → outcome_of s l ≡ f (take n first) (take c second)
      → outcome_of s (current_part step c first (l ++ drop c second)) ≡ f (current_part (step + 1) n first second) (current_part step c first second)
  odd-made step first second p h k e = rw (odd_now step p, odd_next step p, front_left c second l h k) e
