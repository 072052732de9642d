-- `widen_by` meets its contract: the middles take their nodes' places, or a node's refusal is handed up; then the next layer is laid. Assumes nothing.
use Rattle.std.specs.Prelude.{◌≡◌, Err}
use Rattle.std.proofs.Common.{rules}
use Rattle.widths.specs.laws.Widening.{widened-stopped, middled, widened_by}
use Rattle.widths.proofs.widen.widen_by.Goals as goal

pub fill-requires : goal.fill-requires
fill-requires c = c.requires.0.room

pub returns-in_err-fill : goal.returns-in_err-fill
returns-in_err-fill c =
    let a = c.args in
    let x : c.from_residual.result ≡ Err c.in_err-fill.field-0.0 = search rules in
    rw x (widened-stopped a.layer.spacing a.decay a.new_spacing a.step a.layer.count a.nodes.now _ (rw c.in_err-fill.was at c.fill.ensures))

pub place_next-requires : goal.place_next-requires
place_next-requires c =
    let a = c.args in
    let p = c.requires in
    let m = middled a.layer.spacing a.decay a.new_spacing a.step a.layer.count a.nodes.now _ p.0 p.1 (rw c.in_ok-fill.was at c.fill.ensures) in
    (m.room, m.known, p.2)

pub returns : goal.returns
returns c =
    let a = c.args in
    let p = c.requires in
    let m = middled a.layer.spacing a.decay a.new_spacing a.step a.layer.count a.nodes.now _ p.0 p.1 (rw c.in_ok-fill.was at c.fill.ensures) in
    widened_by a.layer.spacing a.decay a.new_spacing a.step a.layer.count a.nodes.now _ m c.place_next.ensures
