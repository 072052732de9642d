-- `push` meets its contract: by the test on the highest node reached. Assumes nothing.
use borrow.Author.Rules.{rules}
use Prim.Native.Nat.{ℕ, ◌+◌, ◌≤◌}
use mathlib.Core.Path.{◌≡◌, sym}
use mathlib.Core.Bool.{true}
use mathlib.Core.List.{List}
use lib.IntN.{ℤ}
use Rattle.lattice.specs.declared.reach.Reach.{Reach}
use lib.ListN.{length}
use mir.Facts.{to_z-of_z}
use Rattle.lattice.specs.Layers.{below}
use Rattle.lattice.specs.laws.Reaching.{reach_one, one_more, no_more}
use Rattle.widths.specs.laws.Placing.{placed-new, placed-old}
use Rattle.lattice.proofs.Signed.{below_by}
use Rattle.widths.proofs.layer.push.Goals as goal

room : (r : Reach) (node : ℤ) (from : ℕ) (nodes : List ℤ) → below r.top node ≡ true → from + (reach_one r node).count ≤ length nodes → from + (r.count + 1) ≤ length nodes
room r node from nodes e h = rw (one_more r node e) at h

pub overflow_add-node : goal.overflow_add-node
overflow_add-node c = let h = room c.args.r c.args.node c.args.from c.args.nodes.now (below_by c.args.r.top c.args.node (record { sfits = c.struct_told-1.given.0.1 }) c.ranges.node c.if-top-node.true) c.requires.0 in search rules

pub offset_bounds-nodes-from : goal.offset_bounds-nodes-from
offset_bounds-nodes-from c = let h = room c.args.r c.args.node c.args.from c.args.nodes.now (below_by c.args.r.top c.args.node (record { sfits = c.struct_told-1.given.0.1 }) c.ranges.node c.if-top-node.true) c.requires.0 in search rules

pub bounds-nodes-from : goal.bounds-nodes-from
bounds-nodes-from c = let h = room c.args.r c.args.node c.args.from c.args.nodes.now (below_by c.args.r.top c.args.node (record { sfits = c.struct_told-1.given.0.1 }) c.ranges.node c.if-top-node.true) c.requires.0 in search rules

pub overflow_add-result : goal.overflow_add-result
overflow_add-result c = let h = room c.args.r c.args.node c.args.from c.args.nodes.now (below_by c.args.r.top c.args.node (record { sfits = c.struct_told-1.given.0.1 }) c.ranges.node c.if-top-node.true) c.requires.0 in search rules

pub returns-then-top-node : goal.returns-then-top-node
returns-then-top-node c =
    let a = c.args in
    let e = to_z-of_z c.ranges.node in
    record {
      reach = rw e (sym (one_more a.r a.node (below_by c.args.r.top c.args.node (record { sfits = c.struct_told-1.given.0.1 }) c.ranges.node c.if-top-node.true)));
      slice = rw e (sym (placed-new a.from a.r a.node a.nodes.now (below_by c.args.r.top c.args.node (record { sfits = c.struct_told-1.given.0.1 }) c.ranges.node c.if-top-node.true)));
    }

pub returns : goal.returns
returns c =
    let a = c.args in
    let b = below_by a.r.top a.node (record { sfits = c.struct_told-1.given.0.1 }) c.ranges.node c.if-top-node.false in
    record { reach = sym (no_more a.r a.node b); slice = sym (placed-old a.from a.r a.node a.nodes.now b) }
