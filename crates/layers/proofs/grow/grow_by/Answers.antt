-- `grow_by` meets its contract: the layer is filled, or a node's refusal is handed up; then the next one is laid in the part behind. Assumes nothing.
use Rattle.std.specs.Prelude.{◌≡◌, Err}
use Prim.Native.Nat.{◌*◌}
use native.Mathlib.Omega.{arith}
use mathlib.Core.Path.{refl}
use lib.ListN.{drop}
use Rattle.lattice.specs.laws.Parts.{part_from_lem}
use Rattle.lattice.specs.laws.Growing.{room_left}
use Rattle.lattice.proofs.theorems.FilledFront.{filled-front}
use Rattle.lattice.specs.laws.Grown.{grown-stopped}
use Rattle.layers.specs.laws.Behind.{front-room, grown-behind}
use borrow.Author.Rules.{rules}
use Rattle.layers.proofs.grow.grow_by.Goals as goal

pub fill-requires : goal.fill-requires
fill-requires c =
    let p = c.requires in
    let a = c.args in
    let h = front-room a.before a.nodes.now a.probabilities.now p.front.0 in
    record { count_in_bounds = (h.0, h.1, p.known_le_before.0); known = p.known_le_before.1 }

pub returns-in_err-fill : goal.returns-in_err-fill
returns-in_err-fill c =
    let p = c.requires.front in
    let e = c.fill.ensures in
    let a = c.args in
    let d = drop (a.before * 2) a.nodes.now in
    let q = drop (a.before * 3) a.probabilities.now in
    let x : c.from_residual.result ≡ Err c.in_err-fill.field-0.0 = search rules in
    rw x (record { grown = grown-stopped (room_left d q a.rows.first a.rows.second) p.0 (rw c.in_err-fill.was at e.filled); behind = e.behind })

pub lay_next-requires : goal.lay_next-requires
lay_next-requires c =
    let p = c.requires.front in
    let e = c.fill.ensures in
    let f = filled-front p.0 p.1 (rw c.in_ok-fill.was at e.filled) in
    let a = c.args in
    rw (part_from_lem (a.before * 2) c.fill.new.nodes) (f.some-node, f.pairs, f.within, p.2)

pub returns : goal.returns
returns c =
    let p = c.requires.front in
    let e = c.fill.ensures in
    let f = filled-front p.0 p.1 (rw c.in_ok-fill.was at e.filled) in
    let a = c.args in
    let h = front-room a.before a.nodes.now a.probabilities.now p.0 in
    grown-behind a.rows.first a.rows.second _ (omega (arith, h.0, e.behind.kept)) refl f e.behind c.lay_next.ensures
