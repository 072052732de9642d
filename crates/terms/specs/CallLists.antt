-- Definitions only. Call lists made from another (document 01, "What contracts say", e), and put lists.
use Rattle.std.specs.Prelude.{ℕ, ◌<◌, ◌≡◌, length, get_or, T, Float}
use Rattle.std.specs.Float.Ieee.{le, lt}
use Rattle.floats.specs.Answers.{plus_zero}
use Rattle.terms.specs.Numbers.{million}
use Rattle.terms.specs.Terms.{CallSchedule}

-- How many entries a list has.
abbrev pub size : CallSchedule → ℕ
size c = length c.starts

abbrev pub start_of : CallSchedule → ℕ → ℕ
start_of c i = get_or c.starts i 0

abbrev pub end_of : CallSchedule → ℕ → ℕ
end_of c i = get_or c.ends i 0

abbrev pub strike_of : CallSchedule → ℕ → Float
strike_of c i = get_or c.strikes i plus_zero

-- A list of entries: as many ends and strikes as starts.
pub record Entries (c : CallSchedule) : Type 0 where
  pub ends_too : length c.ends ≡ size c
  pub strikes_too : length c.strikes ≡ size c

-- A second list is made from a first when each of its entries is paired with one of the first's, no two with the same one, at the same start and end day and a strike at least as high.
pub record MadeFrom (first second : CallSchedule) : Type 0 where
  pub entries : Entries second
  pub partner : ℕ → ℕ
  pub of_first : (i : ℕ) → i < size second → partner i < size first
  pub no_two : (i j : ℕ) → i < size second → j < size second → partner i ≡ partner j → i ≡ j
  pub same_start : (i : ℕ) → i < size second → start_of second i ≡ start_of first (partner i)
  pub same_end : (i : ℕ) → i < size second → end_of second i ≡ end_of first (partner i)
  pub strike_as_high : (i : ℕ) → i < size second → T (le (strike_of first (partner i)) (strike_of second i))

-- A second put list is made from a first in the same way, at a strike at most as high.
pub record LoweredFrom (first second : CallSchedule) : Type 0 where
  pub entries : Entries second
  pub partner : ℕ → ℕ
  pub of_first : (i : ℕ) → i < size second → partner i < size first
  pub no_two : (i k : ℕ) → i < size second → k < size second → partner i ≡ partner k → i ≡ k
  pub same_start : (i : ℕ) → i < size second → start_of second i ≡ start_of first (partner i)
  pub same_end : (i : ℕ) → i < size second → end_of second i ≡ end_of first (partner i)
  pub strike_as_low : (i : ℕ) → i < size second → T (le (strike_of second i) (strike_of first (partner i)))

-- Reordering pairs them all, at equal strikes.
pub record Reordered (first second : CallSchedule) : Type 0 where
  pub made : MadeFrom first second
  pub all_paired : size second ≡ size first
  pub equal_strike : (i : ℕ) → i < size second → strike_of second i ≡ strike_of first (made.partner i)

-- One of a list's strikes is above 1,000,000.
pub record StrikeAbove (c : CallSchedule) : Type 0 where
  pub entry : ℕ
  pub of_list : entry < size c
  pub above : T (lt million (strike_of c entry))
