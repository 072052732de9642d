-- Definitions only. What is lent never changes a figure: longer slices, or others, give the same tree value and the same spread from price, or one of the two calls finds no room.
use Rattle.std.specs.Prelude.{ℕ, ◌≡◌, Float, Ok, Err}
use Rattle.terms.specs.Terms.{CallSchedule, Market}
use Rattle.lattice.specs.Layers.{Room}
use Rattle.treebasedbondpricer.specs.declared.TreeValue.{TreeValue}
use Rattle.floats.specs.Answers.{Outcome}
use Rattle.treebasedbondpricer.specs.Tree.{tree_value, Lent}
use Rattle.treebasedbondpricer.specs.Entry.{Entered}
use Rattle.brackets.specs.declared.Root.{Root}
use Rattle.brackets.specs.Brackets.{Searched, no_root}
use Rattle.spreads.specs.Spreads.{Quoted, spread_from_price, Solved}
use Rattle.floats.specs.declared.Reason.TheVariants as reason

-- The same answer, or one of the two is refused with 21, at whatever place.
pub data SameOr21 {A : Type 0} (with21 : ℕ → A) : A → A → Type 0 where
  same : {v : A} → SameOr21 with21 v v
  first_21 : {place : ℕ} {v : A} → SameOr21 with21 (with21 place) v
  second_21 : {place : ℕ} {v : A} → SameOr21 with21 v (with21 place)

-- ---- the tree value

-- The same value and node count or the same refusal and place; or one of the two is refused with 21.
abbrev pub SameValueOr21 : Outcome TreeValue → Outcome TreeValue → Type 0
SameValueOr21 = SameOr21 (λ place. Err (record { reason = reason.NoRoom; place = place }))

-- The same terms in any two rooms.
abbrev pub RoomRule : Type 0
RoomRule = (m : Market) (calls : CallSchedule) (a b : Room) → SameValueOr21 (tree_value m calls a) (tree_value m calls b)

-- Two values of the same terms are one, and their trees have as many nodes.
abbrev pub OneValue : Type 0
OneValue =
    (m : Market) (calls : CallSchedule) (a b : Room) (x y : Float) (n k : ℕ)
    → tree_value m calls a ≡ Ok (record { value = x; nodes = n })
    → tree_value m calls b ≡ Ok (record { value = y; nodes = k })
    → (x ≡ y) × (n ≡ k)

-- What any two calls of the entry with the same terms answer, whatever is lent to each.
abbrev pub EntryRoomRule : Type 0
EntryRoomRule =
    (m : Market) (calls : CallSchedule) (a b : Outcome TreeValue) (lent-first lent-second left_first left_second : Lent)
    → Entered m calls a lent-first left_first
    → Entered m calls b lent-second left_second
    → SameValueOr21 a b

-- ---- spread from price

-- The same spread and tries or the same refusal, place and tries; or one of the two is refused with 21, at the first spread that is tried.
abbrev pub SameSpreadOr21 : Searched Root → Searched Root → Type 0
SameSpreadOr21 = SameOr21 (λ place. no_root (record { reason = reason.NoRoom; place = place }) 1)

-- The same quoted terms in any two rooms.
abbrev pub SpreadRoomRule : Type 0
SpreadRoomRule = (asked : Quoted) (calls : CallSchedule) (a b : Room) → SameSpreadOr21 (spread_from_price asked calls a) (spread_from_price asked calls b)

-- What any two calls of the entry with the same quoted terms answer, whatever is lent to each.
abbrev pub EntrySpreadRoomRule : Type 0
EntrySpreadRoomRule =
    (asked : Quoted) (calls : CallSchedule) (a b : Searched Root) (lent-first lent-second left_first left_second : Lent)
    → Solved asked calls a lent-first left_first
    → Solved asked calls b lent-second left_second
    → SameSpreadOr21 a b
