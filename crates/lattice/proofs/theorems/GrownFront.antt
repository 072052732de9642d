-- What a step that was grown brings: its transitions go along its layer, the next layer is known, its spacing is not below 0, and it fits. Assumes nothing.
use Rattle.std.specs.Prelude.{ℕ, ◌+◌, ◌<◌, List, [], ◌∷◌, T, length, ℤ, Float}
use Rattle.std.proofs.Common.{arith}
use Rattle.std.specs.Float.Ieee.{le}
use Rattle.floats.specs.Answers.{plus_zero}
use Rattle.terms.specs.laws.Outcomes.{Gives, gives, gives-follow}
use Rattle.lattice.specs.declared.Transition.{Transition}
use Rattle.lattice.specs.Layers.{Room, fits}
use Rattle.lattice.specs.Lattice.{destinations}
use Rattle.lattice.specs.laws.RoomTest.{fitting}
use Rattle.lattice.specs.laws.RisingMiddles.{Climbs}
use Rattle.lattice.proofs.theorems.RisingMiddles.{around-laid}
use Rattle.lattice.specs.laws.Middles.{transitions-along}
use Rattle.lattice.specs.laws.NextLayer.{NextLayer, step-sound, upright}
use Rattle.lattice.proofs.theorems.NextLayer.{next_layer}
use Rattle.lattice.specs.laws.Growing.{grown_next}
use Rattle.lattice.specs.laws.GrownFront.{Next, gives-true}

pub grown_next_lem : (room : Room) (decay spacing : Float) (low : ℤ) (nodes : List ℤ) (k : ℕ) (v : Float) → 0 < length nodes → Climbs low nodes → T (le plus_zero spacing) → T (le plus_zero decay) → Gives (Next room nodes) (grown_next room decay spacing nodes k v)
unfolding grown_next
grown_next_lem room decay spacing low [] k v h c a b = absurd (omega arith)
grown_next_lem room decay spacing low (n ∷ ns) k v h c a b =
    gives-follow _ _ (step-sound spacing decay v k) λ s sound.
    gives-follow _ _ (transitions-along s (n ∷ ns)) λ ts along.
    let d = length (destinations ts) in
    gives-true (fits room (length (n ∷ ns) + d) d) _ _ λ e.
    gives (record { step = s; along = along; next = next_layer (upright sound a b) c along; new = sound.new; fit = fitting room (length (n ∷ ns) + d) d e })

-- The next layer has nodes.
pub next_some : {ts : List Transition} → NextLayer ts → 0 < length (destinations ts)
next_some x = rw (x.around_them, around-laid 0 x.first x.others x.rising) (omega arith)
