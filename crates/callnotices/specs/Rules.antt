-- Definitions only. What is promised of the call list: notices in another order give the same list; its order is by series, rising; an accepted list passes the checks of calls.
use Rattle.std.specs.Prelude.{ℕ, ◌<◌, ◌≤◌, ◌≡◌, get_or}
use Rattle.floats.specs.Answers.{plus_zero}
use Rattle.floats.specs.Reasons.{refusal_number}
use Rattle.terms.specs.laws.Pairing.{Into, Taken}
use Rattle.terms.specs.laws.Groups.{CallsPassed}
use Rattle.callnotices.specs.declared.CallList.{CallList}
use Rattle.callnotices.specs.Notices.{Notices, Parallel, size, series_at, version_at, action_at, start_at, end_at, strike_at}
use Rattle.callnotices.specs.Lists.{call_list, schedule_of}

-- ---- notices in another order give the same list

-- Each of the second is paired with one of the first, no two with the same one, and all are paired. A pair has the same series, version and action; where it is a set, the same call fields.
pub record OtherOrder (a b : Notices) : Type 0 where
  pub first_parallel : Parallel a
  pub second-parallel : Parallel b
  pub all_paired : size b ≡ size a
  pub partner : ℕ → ℕ
  pub paired : Into partner (size b) (size a)
  pub same_series : (i : ℕ) → i < size b → series_at b i ≡ series_at a (partner i)
  pub same_version : (i : ℕ) → i < size b → version_at b i ≡ version_at a (partner i)
  pub same_action : (i : ℕ) → i < size b → action_at b i ≡ action_at a (partner i)
  pub same_start : (i : ℕ) → i < size b → action_at b i ≡ 0 → start_at b i ≡ start_at a (partner i)
  pub same_end : (i : ℕ) → i < size b → action_at b i ≡ 0 → end_at b i ≡ end_at a (partner i)
  pub same_strike : (i : ℕ) → i < size b → action_at b i ≡ 0 → strike_at b i ≡ strike_at a (partner i)

-- The same list, and the same number of a refusal; its place may be another.
pub record SameList (x y : CallList) : Type 0 where
  pub same_number : refusal_number y.refusal ≡ refusal_number x.refusal
  pub same_count : y.count ≡ x.count
  pub same_starts : y.starts ≡ x.starts
  pub same_ends : y.ends ≡ x.ends
  pub same_strikes : y.strikes ≡ x.strikes

abbrev pub AnyOrder : Type 0
AnyOrder = (a b : Notices) → OtherOrder a b → SameList (call_list a) (call_list b)

-- ---- by series, rising

-- No notice of the same series has a higher version.
abbrev pub Highest : Notices → ℕ → Type 0
Highest n i = (j : ℕ) → j < size n → series_at n j ≡ series_at n i → version_at n j ≤ version_at n i

-- The notice behind an entry is a set and the highest version of its series.
pub record Behind (n : Notices) (l : CallList) (k i : ℕ) : Type 0 where
  pub is_notice : i < size n
  pub is_set_lem : action_at n i ≡ 0
  pub is_highest : Highest n i
  pub its_start : get_or l.starts k 0 ≡ start_at n i
  pub its_end : get_or l.ends k 0 ≡ end_at n i
  pub its_strike : get_or l.strikes k plus_zero ≡ strike_at n i

-- Entries come from notices whose series rise, and from every set notice that is the highest version of its series.
pub record BySeries (n : Notices) (l : CallList) : Type 0 where
  pub notice : ℕ → ℕ
  pub behind : (k : ℕ) → k < l.count → Behind n l k (notice k)
  pub rising : (j k : ℕ) → j < k → k < l.count → series_at n (notice j) < series_at n (notice k)
  pub none-missing : (i : ℕ) → i < size n → action_at n i ≡ 0 → Highest n i → Taken notice l.count i

abbrev pub RisingSeries : Type 0
RisingSeries = (n : Notices) → refusal_number (call_list n).refusal ≡ 0 → BySeries n (call_list n)

-- ---- an accepted list passes 01's checks of calls: their count, days, strikes and order

abbrev pub ListAccepted : Type 0
ListAccepted = (n : Notices) → refusal_number (call_list n).refusal ≡ 0 → CallsPassed (schedule_of (call_list n))
