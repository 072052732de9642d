-- `row_of` meets its contract: what the call says at a spread is the cell there. Assumes nothing.
use Rattle.std.proofs.Common.{arith, ap, ◌≡◌, length}
use Rattle.floats.proofs.Laws.{answers}
use Rattle.spreadtable.specs.declared.Written.{Written}
use Rattle.spreadtable.specs.laws.Filling.{fill-turn, fill_done}
use Rattle.spreadtable.proofs.rows.row_of.Goals as goal

pub loop-spread-preserved : goal.loop-spread-preserved
loop-spread-preserved g c =
    let inv = c.loop-spread.invariant in
    let l : length c.cell-text.result ≡ 16 = search answers in
    let e = ap (λ (w : Written). w.length) c.append-row.ensures in
    (omega (arith, c.loop-spread-test.true), omega (arith, inv.1), λ text says. fill-turn _ _ _ _ _ (inv.2 text says) c.loop-spread-test.true (says _ _ c.cell-text.ensures) l c.append-row.ensures)

pub returns : goal.returns
returns g c = λ text says. fill_done _ _ _ _ _ (c.loop-spread.invariant.2 text says) c.loop-spread-test.false c.append.ensures
