-- `fill` meets its contract: the invariant is that the first i nodes behind are filled, the rest gives the whole, and the nodes in front are as they were. Assumes nothing.
use Rattle.std.specs.Prelude.{◌≡◌, Err}
use borrow.Author.Rules.{rules}
use native.Mathlib.Omega.{arith}
use mir.Syntax.{w32}
use mir.Facts.{to_z-of_z}
use Rattle.lattice.specs.laws.Bounds.{within-numbered}
use Rattle.lattice.proofs.Signed.{back-numbered}
use Rattle.layers.specs.laws.Behind.{behind-begun, still_known, behind_all, behind-stopped, behind-within, behind-stored}
use Rattle.layers.proofs.layers.fill.Goals as goal

pub loop-i-init : goal.loop-i-init
loop-i-init c = let p = c.requires in let q = p.count_in_bounds in record { filling = behind-begun q.0 q.1 q.2 p.known; pairs = q.0; threes = q.1 }

pub not_below-j-requires : goal.not_below-j-requires
not_below-j-requires c = (still_known c.loop-i.invariant.filling).pairs

pub known_or_made-requires : goal.known_or_made-requires
known_or_made-requires c = still_known c.loop-i.invariant.filling

pub returns-in_err-t : goal.returns-in_err-t
returns-in_err-t c =
    let m = c.known_or_made in
    let read = to_z-of_z {w = w32} (record { sfits = c.node-1.given }) in
    let e : c.from_residual.result ≡ Err c.in_err-t.field-0.0 = search rules in
    rw e (behind-stopped c.loop-i.invariant.filling m.result c.loop-i-test.true read m.ensures c.in_err-t.was)

pub loop-i-preserved : goal.loop-i-preserved
loop-i-preserved c =
    let f = c.loop-i.invariant.filling in
    let m = c.known_or_made in
    let t = c.loop-i-test.true in
    let e = c.in_ok-t.was in
    let read = to_z-of_z {w = w32} (record { sfits = c.node-1.given }) in
    let within = behind-within f m.result t read m.ensures e in
    let g = behind-stored f m.result t read m.ensures e (back-numbered (within-numbered within)) in
    record { filling = g; pairs = omega (arith, g.pairs, g.behind.kept); threes = omega (arith, g.threes, g.behind.kept_too) }

pub returns : goal.returns
returns c = behind_all c.loop-i.invariant.filling c.loop-i-test.false
