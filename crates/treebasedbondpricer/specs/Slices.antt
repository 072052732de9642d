-- Definitions only. What the four lent slices hold, gathered: where a call begins, and where it ends.
use Rattle.std.specs.Prelude.{List, ℤ, Float}
use Rattle.std.specs.Borrow.{MutBor}
use denote.Triple.Both.{Both}
use Rattle.lattice.specs.Layers.{Room}
use Rattle.treebasedbondpricer.specs.Tree.{Lent, room_of}

abbrev pub lent_in : {X Y Z W : Type 0} → Both (MutBor (List ℤ)) X → Both (MutBor (List Float)) Y → Both (MutBor (List Float)) Z → Both (MutBor (List Float)) W → Lent
lent_in nodes probabilities first second =
    record { nodes = nodes.entry.now; probabilities = probabilities.entry.now; first = first.entry.now; second = second.entry.now }

abbrev pub lent_out : {X Y Z W : Type 0} → Both X (MutBor (List ℤ)) → Both Y (MutBor (List Float)) → Both Z (MutBor (List Float)) → Both W (MutBor (List Float)) → Lent
lent_out nodes probabilities first second =
    record { nodes = nodes.exit.now; probabilities = probabilities.exit.now; first = first.exit.now; second = second.exit.now }

-- The room that they are.
abbrev pub room_in : {X Y Z W : Type 0} → Both (MutBor (List ℤ)) X → Both (MutBor (List Float)) Y → Both (MutBor (List Float)) Z → Both (MutBor (List Float)) W → Room
room_in nodes probabilities first second = room_of (lent_in nodes probabilities first second)
