-- `rooted` meets its contract: by the test of the room. Assumes nothing.
use mathlib.Core.Path.{◌∙◌}
use lib.ListN.{length-set}
use lib.IntN.{pos}
use Rattle.widths.specs.laws.Summing.{root_none, root-laid, root-set}
use Rattle.widths.proofs.tree.rooted.Goals as goal

pub returns-then-nodes-lt1 : goal.returns-then-nodes-lt1
returns-then-nodes-lt1 c = let a = c.args in root_none _ a.decay a.spacing a.variances.now c.if-nodes-lt1.true

pub layers-requires : goal.layers-requires
layers-requires c =
    let l = c.args.nodes.now in
    let p = c.requires in
    let h = c.if-nodes-lt1.false in
    (p.0, p.1, p.2, rw (length-set l 0 (pos 0)) h, root-set l h)

pub returns : goal.returns
returns c =
    let a = c.args in
    (rw (length-set a.nodes.now 0 (pos 0)) at c.layers.ensures) ∙ root-laid _ a.decay a.spacing a.variances.now c.if-nodes-lt1.false
