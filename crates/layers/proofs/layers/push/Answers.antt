-- `push` meets its contract: by the test on the highest node reached. Assumes nothing.
use borrow.Author.Rules.{rules}
use Prim.Native.Nat.{ℕ, ◌+◌, ◌*◌, ◌≤◌}
use native.Mathlib.Omega.{arith}
use mathlib.Core.Path.{◌≡◌, sym}
use mathlib.Core.Bool.{true}
use lib.IntN.{ℤ}
use Rattle.lattice.specs.declared.reach.Reach.{Reach}
use mathlib.Core.List.{List}
use lib.ListN.{length, length-set}
use mir.Facts.{to_z-of_z}
use Rattle.lattice.specs.Layers.{below}
use Rattle.lattice.specs.laws.Reaching.{reach_one, one_more, no_more}
use Rattle.lattice.specs.laws.Laying.{pushed-new, pushed-old}
use Rattle.lattice.proofs.Signed.{below_by}
use Rattle.layers.proofs.layers.push.Goals as goal

room : (r : Reach) (node : ℤ) (from : ℕ) (nodes : List ℤ) → below r.top node ≡ true → 2 * (from + (reach_one r node).count) ≤ length nodes → 2 * (from + (r.count + 1)) ≤ length nodes
room r node from nodes e h = rw (one_more r node e) at h

pub overflow_add-at : goal.overflow_add-at
overflow_add-at c = let h = room c.args.r c.args.node c.args.from c.args.nodes.now (below_by c.args.r.top c.args.node (record { sfits = c.struct_told-1.given.0.1 }) c.ranges.node c.if-top-node.true) c.requires.0 in search rules

pub overflow_mul-at : goal.overflow_mul-at
overflow_mul-at c = let h = room c.args.r c.args.node c.args.from c.args.nodes.now (below_by c.args.r.top c.args.node (record { sfits = c.struct_told-1.given.0.1 }) c.ranges.node c.if-top-node.true) c.requires.0 in search rules

pub offset_bounds-nodes-at : goal.offset_bounds-nodes-at
offset_bounds-nodes-at c = let h = room c.args.r c.args.node c.args.from c.args.nodes.now (below_by c.args.r.top c.args.node (record { sfits = c.struct_told-1.given.0.1 }) c.ranges.node c.if-top-node.true) c.requires.0 in search rules

pub bounds-nodes-at : goal.bounds-nodes-at
bounds-nodes-at c = let h = room c.args.r c.args.node c.args.from c.args.nodes.now (below_by c.args.r.top c.args.node (record { sfits = c.struct_told-1.given.0.1 }) c.ranges.node c.if-top-node.true) c.requires.0 in search rules

pub overflow_add-nodes : goal.overflow_add-nodes
overflow_add-nodes c = let h = room c.args.r c.args.node c.args.from c.args.nodes.now (below_by c.args.r.top c.args.node (record { sfits = c.struct_told-1.given.0.1 }) c.ranges.node c.if-top-node.true) c.requires.0 in search rules

pub offset_bounds-nodes-at-then-top-node : goal.offset_bounds-nodes-at-then-top-node
offset_bounds-nodes-at-then-top-node c = let h = room c.args.r c.args.node c.args.from c.args.nodes.now (below_by c.args.r.top c.args.node (record { sfits = c.struct_told-1.given.0.1 }) c.ranges.node c.if-top-node.true) c.requires.0 in search rules

pub slice_set_of-nodes : goal.slice_set_of-nodes
slice_set_of-nodes c = let h = room c.args.r c.args.node c.args.from c.args.nodes.now (below_by c.args.r.top c.args.node (record { sfits = c.struct_told-1.given.0.1 }) c.ranges.node c.if-top-node.true) c.requires.0 in simp (length-set) (omega arith)

pub overflow_add-result : goal.overflow_add-result
overflow_add-result c = let h = room c.args.r c.args.node c.args.from c.args.nodes.now (below_by c.args.r.top c.args.node (record { sfits = c.struct_told-1.given.0.1 }) c.ranges.node c.if-top-node.true) c.requires.0 in search rules

pub returns-then-top-node : goal.returns-then-top-node
returns-then-top-node c =
    let a = c.args in
    let e = to_z-of_z c.ranges.node in
    record {
      reach = rw e (sym (one_more a.r a.node (below_by c.args.r.top c.args.node (record { sfits = c.struct_told-1.given.0.1 }) c.ranges.node c.if-top-node.true)));
      slice = rw e (sym (pushed-new a.from a.r a.node a.nodes.now (below_by c.args.r.top c.args.node (record { sfits = c.struct_told-1.given.0.1 }) c.ranges.node c.if-top-node.true)));
    }

pub returns : goal.returns
returns c =
    let a = c.args in
    let b = below_by a.r.top a.node (record { sfits = c.struct_told-1.given.0.1 }) c.ranges.node c.if-top-node.false in
    record { reach = sym (no_more a.r a.node b); slice = sym (pushed-old a.from a.r a.node a.nodes.now b) }
