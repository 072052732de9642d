-- `walking::walk` meets its contract. Assumes nothing.
use Prim.Native.Nat.{◌+◌, ◌<◌}
use mathlib.Core.Path.{◌≡◌, sym}
use native.Mathlib.Nat.{le_refl}
use native.Mathlib.Omega.{arith}
use borrow.Author.Rules.{rules}
use borrow.Author.Tests.{eqb-false}
use Rattle.std.proofs.Common.{eqb-true}
use lib.ListN.{length}
use lib.Seq.{length-take-le}
use Rattle.lattice.specs.laws.Parts.{part_from, part_length}
use Rattle.forwardinduction.specs.laws.LaidFront.{fronted, behind_of, laid-parts}
use Rattle.forwardinduction.specs.laws.FitMore.{layered_of}
use Rattle.backwardinduction.proofs.laws.WalkBack.{walk_last, walk-stopped, walk_step}
use Rattle.rollback.specs.Walking.{steps_of}
use Rattle.rollback.proofs.walking.+walk.Goals as goal

pub returns-then-is_empty : goal.returns-then-is_empty
returns-then-is_empty t c =
    let a = c.args in
    walk_last a.lattice.dt a.spread a.events.cashflows.now (steps_of a.events) a.step (omega (arith, c.requires.steps.1)) c.requires.laid a.lattice.shifts.now (eqb-true _ _ (sym c.if-is_empty.ensures)) (record { first = c.final_row.new.first; second = c.final_row.new.second }) c.final_row.ensures

pub walk-requires : goal.walk-requires
walk-requires t c =
    let some : length c.args.lattice.spacings.now ≡ 0 → ⊥ = eqb-false _ _ (sym c.if-is_empty.ensures) in
    let lens = c.requires.steps in
    let some_spacing : 0 < length c.args.lattice.spacings.now = omega (arith, some) in
    let e : length (part_from 1 c.args.lattice.spacings.now) + 1 ≡ length c.args.lattice.spacings.now = omega (arith, part_length 1 c.args.lattice.spacings.now, some_spacing) in
    let f : length (part_from 1 c.args.lattice.shifts.now) + 1 ≡ length c.args.lattice.shifts.now = omega (arith, part_length 1 c.args.lattice.shifts.now, some_spacing, lens.0) in
    (omega (arith, e), (laid-parts (behind_of c.requires.laid some), ((omega (arith, e, f, lens.0), omega (arith, e, lens.1), lens.2), c.requires.calls)))

pub returns-in_err-walk : goal.returns-in_err-walk
returns-in_err-walk t c =
    let a = c.args in
    let rows = c.walk.new in
    walk-stopped a.lattice.dt a.spread a.events.cashflows.now (steps_of a.events) a.step (omega (arith, c.requires.steps.1)) c.requires.laid a.lattice.shifts.now (eqb-false _ _ (sym c.if-is_empty.ensures)) c.requires.steps.0 (record { first = rows.first; second = rows.second }) (record { first = rows.first; second = rows.second }) c.in_err-walk.was (search rules) c.walk.ensures

pub slice_bounds-roll_step-end : goal.slice_bounds-roll_step-end
slice_bounds-roll_step-end t c = sym (length-take-le _ _ (fronted c.requires.laid).pairs)

pub slice_bounds-roll_step-end-2 : goal.slice_bounds-roll_step-end-2
slice_bounds-roll_step-end-2 t c = sym (length-take-le _ _ (behind_of c.requires.laid (eqb-false _ _ (sym c.if-is_empty.ensures))).stepped.threes)

pub roll_step-requires-clause-count_in_bounds : goal.roll_step-requires-clause-count_in_bounds
roll_step-requires-clause-count_in_bounds t c =
    let s = (behind_of c.requires.laid (eqb-false _ _ (sym c.if-is_empty.ensures))).stepped in
    rw (c.walk.auto.first, c.walk.auto.second) (s.first_room, s.second-room, s.next_first, s.next_second)

pub roll_step-requires-clause-layered : goal.roll_step-requires-clause-layered
roll_step-requires-clause-layered t c = layered_of (behind_of c.requires.laid (eqb-false _ _ (sym c.if-is_empty.ensures))).stepped _ (le_refl _)

pub returns : goal.returns
returns t c =
    let a = c.args in
    let rows = c.walk in
    let here = c.roll_step in
    walk_step a.lattice.dt a.spread a.events.cashflows.now (steps_of a.events) a.step (omega (arith, c.requires.steps.1)) c.requires.laid a.lattice.shifts.now (eqb-false _ _ (sym c.if-is_empty.ensures)) c.requires.steps.0 here.result (record { first = rows.new.first; second = rows.new.second }) (record { first = here.new.first; second = here.new.second }) rows.auto.first rows.auto.second c.in_ok-walk.was rows.ensures c.call_at.ensures here.ensures
