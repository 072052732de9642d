-- A test on indices holds somewhere below a count, or nowhere below it; an index is below a count, or not. Assumes nothing.
use Rattle.std.specs.Prelude.{◌⊎◌, Bool, not, ℕ, zero, suc, ◌<◌, ◌≤◌, T, ltb}
use Rattle.std.proofs.Common.{inl, inr, eq-or-lt_of_le, le_of_suc-le-suc, arith, ltb→lt, nltb→le}
use Rattle.floats.specs.laws.Fractions.{decide}

-- An index below the count at which the test holds.
pub record Somewhere (test : ℕ → Bool) (count : ℕ) : Type 0 where
  pub index : ℕ
  pub below : index < count
  pub holds : T (test index)

-- The test fails at each index below the count.
abbrev pub Nowhere : (ℕ → Bool) → ℕ → Type 0
Nowhere test count = (i : ℕ) → i < count → T (not (test i))

nowhere_more : (test : ℕ → Bool) (count : ℕ) → Nowhere test count → T (not (test count)) → Nowhere test (suc count)
nowhere_more test count below here i h =
    elim (eq-or-lt_of_le (le_of_suc-le-suc h)) [
      | inl e ↦ rw e here
      | inr l ↦ below i l
    ]

pub somewhere : (test : ℕ → Bool) (count : ℕ) → Somewhere test count ⊎ Nowhere test count
somewhere test zero = inr (λ i h. absurd (omega arith))
somewhere test (suc count) =
    elim (somewhere test count) [
      | inl s ↦ inl (record { index = s.index; below = omega arith; holds = s.holds })
      | inr none ↦
          elim (decide (test count)) [
            | inl h ↦ inl (record { index = count; below = omega arith; holds = h })
            | inr h ↦ inr (nowhere_more test count none h)
          ]
    ]

-- Below another or not.
pub below_or_not : (m n : ℕ) → (m < n) ⊎ (n ≤ m)
below_or_not m n = elim (decide (ltb m n)) [ inl l ↦ inl (ltb→lt m n l) | inr l ↦ inr (nltb→le m n l) ]
