-- `fitting::fit` meets its contract. Assumes nothing.
use native.Mathlib.Omega.{arith}
use borrow.Author.Rules.{rules}
use lib.ListN.{length}
use Rattle.forwardinduction.specs.laws.FitMore.{layered_of}
use Rattle.lattice.specs.laws.Parts.{part_length, rest-length}
use Rattle.forwardinduction.specs.laws.LaidFront.{behind_of, laid-parts, laid-over}
use Rattle.forwardinduction.specs.laws.FitLaid.{found_none, found-refused, found_more}
use Rattle.forwardinduction.proofs.fitting.+fit.Goals as goal

pub returns-then-spacings-eq0 : goal.returns-then-spacings-eq0
returns-then-spacings-eq0 t c = found_none _ _ _ _ _ c.requires.laid c.requires.shifts_len.0 c.if-spacings-eq0.true

pub fit_step-requires-clause-layered : goal.fit_step-requires-clause-layered
fit_step-requires-clause-layered t c =
    let a = behind_of c.requires.laid c.if-spacings-eq0.false in
    (layered_of a.stepped _ a.stepped.next_first, layered_of a.stepped _ a.stepped.next_second)

pub returns-in_err-shift : goal.returns-in_err-shift
returns-in_err-shift t c = found-refused _ _ _ _ _ _ _ _ _ _ (behind_of c.requires.laid c.if-spacings-eq0.false) c.fit_step.ensures _ c.in_err-shift.was (search rules)

pub fit-requires : goal.fit-requires
fit-requires t c =
    let s = c.args.spacings.now in
    let one = c.args.first.now in
    let two = c.args.second.now in
    let kept = c.fit_step.auto in
    let some = c.if-spacings-eq0.false in
    let n = part_length 1 s in
    (omega (arith, n, some), (laid-over {one = length one} {two = length two} kept.first kept.second (laid-parts (behind_of c.requires.laid some)), (omega (arith, n, rest-length c.args.shifts.now c.in_ok-shift.shift, c.requires.shifts_len.0), omega (arith, n, c.requires.shifts_len.1, some))))

pub returns : goal.returns
returns t c =
    let s = c.args.spacings.now in
    found_more _ _ _ _ _ _ _ _ _ _ (behind_of c.requires.laid c.if-spacings-eq0.false) c.fit_step.ensures _ c.args.shifts.now c.fit.new.shifts (omega (arith, c.requires.shifts_len.0, c.if-spacings-eq0.false)) c.in_ok-shift.was c.fit.ensures
