-- The lent slices stay as long as they were. Assumes nothing.
use Prim.Native.Nat.{ℕ, ◌+◌, ◌<◌}
use mathlib.Core.Path.{◌≡◌, refl, ap, ◌∙◌}
use mathlib.Core.List.{List}
use lib.ListN.{length, get_or}
use lib.IntN.{ℤ}
use lib.Ieee.{Float, nan}
use Rattle.lattice.specs.Layers.{Room}
use Rattle.treebasedbondpricer.specs.Tree.{Lent, room_of}
use Rattle.spreadtable.specs.declared.Written.{Written}
use Rattle.spreadtable.specs.Page.{row_text}
use Rattle.spreadtable.specs.laws.Writing.{appended}
use Rattle.spreadtable.proofs.laws.Stacking.{Stacking, stack_turn}

pub record SameRows (first₀ second₀ first second : List Float) : Type 0 where
  pub same_first : length first ≡ length first₀
  pub same_second : length second ≡ length second₀

pub rows-begin : (first second : List Float) → SameRows first second first second
rows-begin first second = record { same_first = refl; same_second = refl }

pub rows-turn : {first₀ second₀ : List Float} {first second next other : List Float} → SameRows first₀ second₀ first second → length next ≡ length first → length other ≡ length second → SameRows first₀ second₀ next other
rows-turn r e f = record { same_first = e ∙ r.same_first; same_second = f ∙ r.same_second }

-- All four.
abbrev pub lent_of : List ℤ → List Float → List Float → List Float → Lent
lent_of nodes probabilities first second = record { nodes = nodes; probabilities = probabilities; first = first; second = second }

pub record SameLent (before now : Lent) : Type 0 where
  pub same_nodes : length now.nodes ≡ length before.nodes
  pub same_probabilities : length now.probabilities ≡ length before.probabilities
  pub same_first : length now.first ≡ length before.first
  pub same_second : length now.second ≡ length before.second

pub lent-begin : (before : Lent) → SameLent before before
lent-begin before = record { same_nodes = refl; same_probabilities = refl; same_first = refl; same_second = refl }

pub lent-turn : {before now next : Lent} → SameLent before now → SameLent now next → SameLent before next
lent-turn s t =
    record {
      same_nodes = t.same_nodes ∙ s.same_nodes;
      same_probabilities = t.same_probabilities ∙ s.same_probabilities;
      same_first = t.same_first ∙ s.same_first;
      same_second = t.same_second ∙ s.same_second;
    }

lent-room : {before now : Lent} → SameLent before now → room_of now ≡ room_of before
lent-room s = rw (s.same_nodes, s.same_probabilities, s.same_first, s.same_second)

-- A row in slices as long is the row in those that were lent.
pub page-turn : (cell : Room → Float → Float → List ℕ) (spreads shifts : List Float) {before now : Lent} {rows next : Written} {i : ℕ} → SameLent before now → Stacking (cell (room_of before)) spreads shifts rows i → i < length shifts
    → next ≡ appended rows (row_text (cell (room_of now) (get_or shifts i nan)) spreads) → Stacking (cell (room_of before)) spreads shifts next (i + 1)
page-turn cell spreads shifts {before} {now} {rows} {next} {i} s p h e =
    stack_turn (cell (room_of before)) spreads shifts rows i p h
    (e ∙ ap (λ (r : Room). appended rows (row_text (cell r (get_or shifts i nan)) spreads)) (lent-room s))
