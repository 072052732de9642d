-- Digits put one after the other, and counted. Assumes nothing.
use mathlib.Core.Bool.{Bool, true, false, cond}
use lib.Dec.{ltb}
use Prim.Native.Nat.{ℕ, zero, suc, ◌+◌, ◌-◌, ◌/◌, ◌%◌, ◌≤◌, ◌<◌}
use native.Mathlib.Numerals.{add-one}
use native.Mathlib.Omega.{arith}
use mathlib.Core.Path.{◌≡◌, refl, sym, ap, ◌∙◌}
use Rattle.floats.proofs.Laws.{taken_lt, left_lt}
use Rattle.bondreport.specs.declared.Leftward.{Leftward}
use Rattle.bondreport.specs.Numbers.{byte_left, digits_left, width_from, width_of}

-- The digits that are left give the whole.
pub record Digits (count : ℕ) (c : Leftward) (n : ℕ) (done : Leftward) (rest i : ℕ) : Type 0 where
  pub within : i ≤ count
  pub same : digits_left (count - i) done rest ≡ digits_left count c n

module _ (count : ℕ) (c : Leftward) (n : ℕ) where
  pub digits-begin : Digits count c n c n 0
  digits-begin = let e : count - 0 ≡ count = omega arith in record { within = omega arith; same = rw e }

  module _ (done : Leftward) (rest i : ℕ) (d : Digits count c n done rest i) where
    pub digits-turn : {next : Leftward} → i < count → next ≡ byte_left done (48 + rest % 10) → Digits count c n next (rest / 10) (i + 1)
    unfolding digits_left
    digits-turn {next} h e =
        let one : count - i ≡ suc (count - (i + 1)) = omega arith in
        record {
          within = omega arith;
          same =
              ap (λ (l : Leftward). digits_left (count - (i + 1)) l (rest / 10)) e
              ∙ ap (λ (z : ℕ). digits_left z done rest) (sym one)
              ∙ d.same;
        }

    pub digits-done : count ≤ i → done ≡ digits_left count c n
    unfolding digits_left
    digits-done h = let none : count - i ≡ 0 = omega arith in ap (λ (z : ℕ). digits_left z done rest) (sym none) ∙ d.same

-- The digits that are left to count give the whole.
pub record Counting (n rest count : ℕ) : Type 0 where
  pub within : count ≤ 20
  pub same : width_from (20 - count) count rest ≡ width_of n

module _ (n : ℕ) where
  pub count-begin : Counting n n 1
  unfolding width_of
  count-begin = record { within = omega arith; same = refl }

  module _ (rest count : ℕ) (k : Counting n rest count) where
    one_more : count < 20 → 20 - count ≡ suc (20 - (count + 1))
    one_more h = omega arith

    pub count_last : count < 20 → rest < 10 → count ≡ width_of n
    unfolding width_from
    count_last h l =
        taken_lt rest 10 count (width_from (20 - (count + 1)) (suc count) (rest / 10)) l refl
        ∙ ap (λ (z : ℕ). width_from z count rest) (sym (one_more h))
        ∙ k.same

    pub count_turn : count < 20 → 10 ≤ rest → Counting n (rest / 10) (count + 1)
    unfolding width_from
    count_turn h l =
        record {
          within = omega arith;
          same =
              ap (λ (z : ℕ). width_from (20 - (count + 1)) z (rest / 10)) (add-one count)
              ∙ left_lt rest 10 count (width_from (20 - (count + 1)) (suc count) (rest / 10)) l refl
              ∙ ap (λ (z : ℕ). width_from z count rest) (sym (one_more h))
              ∙ k.same;
        }

    pub count-done : 20 ≤ count → count ≡ width_of n
    unfolding width_from
    count-done h = let none : 20 - count ≡ 0 = omega arith in ap (λ (z : ℕ). width_from z count rest) (sym none) ∙ k.same

few_from : (room count n : ℕ) → width_from room count n ≤ count + room
unfolding width_from
few_from zero count n = omega arith
few_from (suc room) count n = go (ltb n 10) (few_from room (suc count) (n / 10))
  where
    go : (b : Bool) → width_from room (suc count) (n / 10) ≤ suc count + room → cond b count (width_from room (suc count) (n / 10)) ≤ count + suc room
    go true h = omega arith
    go false h = omega arith

pub few : {w : ℕ} (n : ℕ) → w ≡ width_of n → w ≤ 20
unfolding width_of
few n e = omega (arith, e, few_from 19 1 n)

pub ruleset digits = (digits-begin, digits-turn, digits-done)

pub ruleset counting = (count-begin, count_last, count_turn, count-done)
