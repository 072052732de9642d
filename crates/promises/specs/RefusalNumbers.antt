-- Definitions only. Which refusal numbers the tree value and spread from price end in.
use Rattle.std.specs.Prelude.{ℕ, ◌≡◌, Bool, false, ◌||◌, List, [], ◌∷◌, T, eqb, Err}
use Rattle.floats.specs.Reasons.{reason_number}
use Rattle.floats.specs.declared.Reason.{Reason}
use Rattle.floats.specs.Refusals.{Refusal}
use Rattle.terms.specs.Terms.{CallSchedule, Market}
use Rattle.lattice.specs.Layers.{Room}
use Rattle.lattice.specs.laws.Proper.{Each}
use Rattle.treebasedbondpricer.specs.Tree.{tree_value}
use Rattle.brackets.specs.Brackets.{no_root}
use Rattle.spreads.specs.Spreads.{Quoted, spread_from_price}

abbrev pub member : ℕ → List ℕ → Bool
member n [] = false
member n (k ∷ ks) = eqb n k || member n ks

pub record Among (numbers : List ℕ) (n : ℕ) : Type 0 where
  pub is_one : T (member n numbers)

-- The tree value's.
abbrev pub tree_refusals : List ℕ
tree_refusals = 1 ∷ 2 ∷ 3 ∷ 4 ∷ 5 ∷ 6 ∷ 7 ∷ 8 ∷ 20 ∷ 21 ∷ 22 ∷ 23 ∷ 25 ∷ 26 ∷ 27 ∷ 33 ∷ 34 ∷ 35 ∷ 37 ∷ 38 ∷ 44 ∷ []

-- A spread's: these, no bracket, and a spread above 1.
abbrev pub spread_refusals : List ℕ
spread_refusals = 29 ∷ 36 ∷ tree_refusals

-- Whatever is refused is refused with one of them.
abbrev pub TreeNumbers : Type 0
TreeNumbers = (m : Market) (calls : CallSchedule) (room : Room) (q : Refusal) → tree_value m calls room ≡ Err q → Among tree_refusals (reason_number q.reason)

abbrev pub SpreadNumbers : Type 0
SpreadNumbers =
    (asked : Quoted) (calls : CallSchedule) (room : Room) (q : Refusal) (n : ℕ)
    → spread_from_price asked calls room ≡ no_root q n
    → Among spread_refusals (reason_number q.reason)

-- Terms that the tree value refuses with this number.
pub record Met (number : ℕ) : Type 0 where
  pub market : Market
  pub calls : CallSchedule
  pub room : Room
  pub reason : Reason
  pub numbered : reason_number reason ≡ number
  pub place : ℕ
  pub refused : tree_value market calls room ≡ Err (record { reason = reason; place = place })

-- None stands there in vain.
abbrev pub EachMet : Type 0
EachMet = Each Met tree_refusals

-- Quoted terms that spread from price refuses with this number.
pub record MetBySpread (number : ℕ) : Type 0 where
  pub asked : Quoted
  pub calls : CallSchedule
  pub room : Room
  pub reason : Reason
  pub numbered : reason_number reason ≡ number
  pub place : ℕ
  pub tries : ℕ
  pub refused : spread_from_price asked calls room ≡ no_root (record { reason = reason; place = place }) tries

-- Nor does any of a spread's.
abbrev pub EachMetBySpread : Type 0
EachMetBySpread = Each MetBySpread spread_refusals
