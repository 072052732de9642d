-- A list made from another is no longer than that one; a reordered list takes every entry of the first, which is then a reordering of it. Assumes nothing.
use Rattle.std.specs.Prelude.{◌≡◌, ◌⊎◌, ℕ, ◌<◌, ◌≤◌, T, Float}
use Rattle.std.proofs.Common.{sym, ap, ◌∙◌, subst, inl, inr, arith}
use Rattle.std.specs.Float.Ieee.{le}
use Rattle.floats.specs.laws.Order.{number_of_le, le_refl}
use Rattle.terms.specs.Terms.{CallSchedule}
use Rattle.terms.specs.CallLists.{Entries, MadeFrom, Reordered, size, start_of, end_of, strike_of}
use Rattle.terms.specs.laws.Searching.{below_or_not}
use Rattle.terms.specs.laws.Pairing.{Into, no_more, Taken, all_taken}

made_into : (first second : CallSchedule) → (m : MadeFrom first second) → Into m.partner (size second) (size first)
made_into first second m = record { lands = m.of_first; apart = m.no_two }

-- A list made from another is no longer than that one.
pub made-size : (first second : CallSchedule) → MadeFrom first second → size second ≤ size first
made-size first second m = no_more m.partner (size second) (size first) (made_into first second m)

-- A reordered list takes every entry of the first.
pub reordered_all : (first second : CallSchedule) (r : Reordered first second) (j : ℕ) → j < size first → Taken r.made.partner (size second) j
reordered_all first second r j h =
    all_taken r.made.partner (size second) (rw (← r.all_paired) at (made_into first second r.made)) j (omega arith)

-- ---- a reordering turned round

module _ (first second : CallSchedule) (r : Reordered first second) where
  turned_from : (i : ℕ) → (i < size first) ⊎ (size first ≤ i) → ℕ
  turned_from i (inl l) = (reordered_all first second r i l).by
  turned_from i (inr l) = 0

  -- the entry of the second list that is paired with entry i of the first
  turned : ℕ → ℕ
  turned i = turned_from i (below_or_not i (size first))

  turned-pairs : (i : ℕ) → i < size first → (turned i < size second) × (r.made.partner (turned i) ≡ i)
  unfolding turned turned_from
  turned-pairs i h = go (below_or_not i (size first))
    where
      go : (d : (i < size first) ⊎ (size first ≤ i)) → (turned_from i d < size second) × (r.made.partner (turned_from i d) ≡ i)
      go (inl l) = let t = reordered_all first second r i l in (t.below-size, t.is)
      go (inr l) = absurd (omega arith)

  -- The first list is a reordering of the second.
  pub reordered-back : Entries first → Reordered second first
  reordered-back n =
      record {
        made =
            record {
              entries = n;
              partner = turned;
              of_first = λ i l. (turned-pairs i l).0;
              no_two = λ i j l m e. sym (turned-pairs i l).1 ∙ ap r.made.partner e ∙ (turned-pairs j m).1;
              same_start = λ i l. back (λ (j : ℕ). start_of first j) i l ∙ sym (r.made.same_start (turned i) (turned-pairs i l).0);
              same_end = λ i l. back (λ (j : ℕ). end_of first j) i l ∙ sym (r.made.same_end (turned i) (turned-pairs i l).0);
              strike_as_high = λ i l.
                  subst (λ (x : Float). T (le (strike_of second (turned i)) x)) (sym (strikes i l))
                  (le_refl (strike_of second (turned i)) (number_of_le (strike_of first (r.made.partner (turned i))) (strike_of second (turned i)) (r.made.strike_as_high (turned i) (turned-pairs i l).0)).1);
            };
        all_paired = sym r.all_paired;
        equal_strike = strikes;
      }
    where
      back : {A : Type 0} (f : ℕ → A) (i : ℕ) → i < size first → f i ≡ f (r.made.partner (turned i))
      back f i l = ap f (sym (turned-pairs i l).1)

      strikes : (i : ℕ) → i < size first → strike_of first i ≡ strike_of second (turned i)
      strikes i l = back (λ (j : ℕ). strike_of first j) i l ∙ sym (r.equal_strike (turned i) (turned-pairs i l).0)
