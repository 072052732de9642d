-- `known_or_made` meets its contract: what stands at a known node is its transition. Assumes nothing.
use native.Mathlib.Omega.{arith}
use mathlib.Core.Path.{◌∙◌}
use mir.Facts.{to_z-of_z}
use Rattle.layers.specs.laws.Known.{known-within, known_is}
use Rattle.layers.proofs.layers.known_or_made.Goals as goal

pub stands_at-requires : goal.stands_at-requires
stands_at-requires c = c.requires.pairs

pub known_at-requires : goal.known_at-requires
known_at-requires c =
    let k = c.requires in
    let h = c.stands_at.ensures.inside c.if-stands_at.true in
    (omega (arith, h, k.pairs), omega (arith, h, k.threes), known-within (k.each _ h))

pub returns-then-stands_at : goal.returns-then-stands_at
returns-then-stands_at c =
    let k = c.requires in
    let s = c.stands_at.ensures in
    let t = c.if-stands_at.true in
    rw c.known_at.ensures (known_is (k.each _ (s.inside t)) (s.number t ∙ to_z-of_z c.ranges.node))

pub returns : goal.returns
returns c = rw (to_z-of_z c.ranges.node) at c.transition_of.ensures
