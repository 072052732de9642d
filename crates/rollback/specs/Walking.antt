-- Definitions only. A fitted tree and its events as the slices hold them, the walk back over them, and what it asks of them.
use Rattle.std.specs.Prelude.{ℕ, ◌*◌, ◌^◌, ◌<◌, ◌≡◌, List, length, get_or, Float}
use Rattle.floats.specs.Answers.{Answer, Outcome}
use Rattle.bondevents.specs.declared.CallStep.{CallStep}
use Rattle.lattice.specs.Layers.{At}
use Rattle.lattice.specs.Lattice.{root_layer}
use Rattle.lattice.specs.laws.Stored.{numbers_in}
use Rattle.lattice.specs.laws.Laid.{front_nodes, layers_in, final_in, Laid}
use Rattle.backwardinduction.specs.Walk.{walk_from}
use Rattle.backwardinduction.specs.laws.WalkMore.{calls_of}
use Rattle.backwardinduction.specs.laws.WalkRoot.{root_of}
use Rattle.rollback.specs.declared.walking.Lattice.{Lattice}
use Rattle.rollback.specs.declared.walking.Events.{Events}

-- The calls and puts of all steps.
abbrev pub steps_of : Events → List CallStep
steps_of events = calls_of events.marks.now events.prices.now

-- The row of a step at a spread, from all the layers behind it.
abbrev pub walk_over : Lattice → Events → Float → ℕ → Outcome (List At)
walk_over lattice events spread step =
    walk_from lattice.dt spread events.cashflows.now (steps_of events) step
    (layers_in lattice.flat lattice.counts.now lattice.spacings.now lattice.nodes.now lattice.probabilities.now)
    lattice.shifts.now
    (final_in lattice.counts.now lattice.spacings.now lattice.nodes.now)

-- The root's value at a spread, or the refusal met on the way to it.
abbrev pub root_at : Lattice → Events → Float → Answer
root_at lattice events spread = root_of (walk_over lattice events spread 0)

-- ---- what the slices have to be like

-- A tree that is laid, with two rows of the given lengths.
abbrev pub LaidIn : Lattice → ℕ → ℕ → Type 0
LaidIn lattice first second = Laid lattice.flat first second lattice.counts.now lattice.spacings.now lattice.nodes.now lattice.probabilities.now

-- As many marks as cashflows, and two prices for each.
abbrev pub Aligned : Events → Type 0
Aligned events =
    (length events.marks.now ≡ length events.cashflows.now) × (length events.prices.now ≡ length events.cashflows.now * 2)

-- A tree that can be walked back from its root.
pub record Walkable (lattice : Lattice) (events : Events) (first second : ℕ) : Type 0 where
  pub laid : LaidIn lattice first second
  pub root : (get_or lattice.counts.now 0 0 ≡ 1) × (numbers_in (front_nodes 1 lattice.nodes.now) ≡ root_layer)
  pub steps :
      (length lattice.shifts.now ≡ length lattice.spacings.now)
      × (length lattice.spacings.now < length events.cashflows.now)
      × (length events.cashflows.now < 2 ^ 32)
  pub calls : Aligned events
