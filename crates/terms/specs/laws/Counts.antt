-- The check of parallel lists: passed exactly where the count is inside its limits and the other lists are as long. Assumes nothing.
use Rattle.std.specs.Prelude.{◌≡◌, Bool, not, ◌||◌, ℕ, T, eqb, Ok}
use Rattle.terms.specs.Checks.{single}
use Rattle.terms.specs.laws.Sequence.{single-passed, single_of_not}
use Rattle.terms.specs.laws.Ranges.{neither, none_of, not_or, same_length, not_unequal}
use Rattle.floats.specs.declared.Reason.TheVariants as reason

module _ (bad : Bool) (count other : ℕ) where
  -- Two parallel lists.
  pub parallel_two : single reason.Count 0 (bad || not (eqb other count)) ≡ Ok tt → T (not bad) × (other ≡ count)
  parallel_two h =
      let b = neither bad (not (eqb other count)) (single-passed reason.Count 0 (bad || not (eqb other count)) h) in
      (b.0, same_length other count b.1)

  pub parallel-two_of : T (not bad) → other ≡ count → single reason.Count 0 (bad || not (eqb other count)) ≡ Ok tt
  parallel-two_of h e =
      single_of_not reason.Count 0 (bad || not (eqb other count)) (not_or bad (not (eqb other count)) h (not_unequal other count e))

module _ (bad : Bool) (count second third : ℕ) where
  abbrev wrong : Bool
  wrong = bad || (not (eqb second count) || not (eqb third count))

  -- Three parallel lists.
  pub parallel_three : single reason.Count 0 wrong ≡ Ok tt → T (not bad) × (second ≡ count) × (third ≡ count)
  parallel_three h =
      let b = none_of bad (not (eqb second count)) (not (eqb third count)) (single-passed reason.Count 0 wrong h) in
      (b.0, same_length second count b.1, same_length third count b.2)

  pub parallel_three_of : T (not bad) → second ≡ count → third ≡ count → single reason.Count 0 wrong ≡ Ok tt
  parallel_three_of h e f =
      single_of_not reason.Count 0 wrong
      (not_or bad (not (eqb second count) || not (eqb third count)) h
      (not_or (not (eqb second count)) (not (eqb third count)) (not_unequal second count e) (not_unequal third count f)))
