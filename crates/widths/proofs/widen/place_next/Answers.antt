-- `place_next` meets its contract: by the test of the room. Assumes nothing.
use native.Mathlib.Omega.{arith}
use Rattle.std.specs.Prelude.{ℕ, ◌+◌, ◌-◌, ◌≤◌, ◌≡◌, List, length, take, drop, ℤ}
use Rattle.std.proofs.Common.{length-drop, zero-add}
use lib.Seq.{paste, take-paste}
use mathlib.Core.Path.{ap, ◌∙◌}
use Rattle.lattice.specs.declared.reach.Reach.{Reach}
use Rattle.widths.specs.laws.Widening.{placed-some, placed-many, placed-few, placed-none, placed_next}
use Rattle.widths.proofs.widen.place_next.Goals as goal

-- What is copied to the front.
moved : (l : List ℤ) (from to n : ℕ) → to - from ≡ n → from + n ≤ length l → take n (paste l 0 (drop from l) (to - from)) ≡ take n (drop from l)
moved l from to n e h = rw (e, zero-add n) (rw (zero-add n) at (take-paste l 0 (drop from l) n (omega arith) (omega (arith, h, length-drop from l))))

pub count_next-reached-requires : goal.count_next-reached-requires
count_next-reached-requires c =
    let a = c.args in
    let p = c.requires in
    (placed-some a.spacing a.step a.count a.nodes.now p.0 p.1, p.0, omega (arith, p.0, c.well_formed), p.1.within)

pub overflow_add-count : goal.overflow_add-count
overflow_add-count c =
    let a = c.args in
    let p = c.requires in
    let n = ap (λ (r : Reach). r.count) c.count_next-reached.ensures in
    let f = placed-few a.spacing a.step a.count a.nodes.now p.0 p.1 n in
    record { fits = omega (arith, p.0, c.well_formed) }

pub returns-then-nodes-count : goal.returns-then-nodes-count
returns-then-nodes-count c =
    let a = c.args in
    let p = c.requires in
    let n = ap (λ (r : Reach). r.count) c.count_next-reached.ensures in
    placed-none a.spacing a.step a.count a.nodes.now p.0 p.1 (placed-many a.spacing a.step a.count a.nodes.now p.0 p.1 n) c.if-nodes-count.true

pub spread-requires : goal.spread-requires
spread-requires c =
    let a = c.args in
    let p = c.requires in
    let n = ap (λ (r : Reach). r.count) c.count_next-reached.ensures in
    (placed-some a.spacing a.step a.count a.nodes.now p.0 p.1, omega (arith, n, c.if-nodes-count.false), p.1.within)

pub returns : goal.returns
returns c =
    let a = c.args in
    let p = c.requires in
    let n = ap (λ (r : Reach). r.count) c.count_next-reached.ensures in
    let h = c.if-nodes-count.false in
    let k = c.spread.auto.nodes in
    placed_next a.spacing a.step a.count a.nodes.now p.0 p.1 (placed-many a.spacing a.step a.count a.nodes.now p.0 p.1 n) h c.spread.ensures
    (ap (take _) c.copy_within.ensures.after ∙ moved _ a.count _ _ (omega arith) (omega (arith, h, k)))
    c.copy_within.ensures.len
