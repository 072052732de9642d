-- `fused` meets its contract: the three numbers are their parts, and with a zero one part is left alone, else the two are joined.
use Prim.Native.Nat.{◌+◌, ◌*◌, ◌^◌}
use native.Mathlib.Omega.{arith}
use lib.Ieee.{unlike}
use Rattle.rounded.proofs.mul_add.Gathering.{upper, joinable, vanished, unadded, multiplied, by_parts}
use Rattle.rounded.proofs.mul_add.fused.Goals as goal

pub join-requires-clause-joinable : goal.join-requires-clause-joinable
join-requires-clause-joinable c =
    let a = c.split-a in
    let b = c.split-b in
    let d = c.split-c in
    let u = upper d.result.digits (omega (arith, d.ensures.shape.short)) in
    rw u (joinable c.product.result a.result.digits b.result.digits d.result.digits a.ensures.shape b.ensures.shape d.ensures.shape c.product.ensures c.if-both-eq0.false (rw u at c.if-addend-eq0.false))

pub returns-then-both-eq0 : goal.returns-then-both-eq0
returns-then-both-eq0 c =
    let a = c.split-a.result in
    let b = c.split-b.result in
    let d = c.split-c.result in
    let u = upper d.digits (omega (arith, c.split-c.ensures.shape.short)) in
    by_parts c.args.x c.args.y c.args.z a.neg b.neg d.neg a.digits a.place b.digits b.place d.digits d.place c.split-a.ensures c.split-b.ensures c.split-c.ensures
    (vanished (unlike a.neg b.neg) d.neg c.product.result a.digits b.digits (a.place + b.place + 64) (d.digits * 18446744073709551616 * 2 ^ (d.place + 1136)) c.product.ensures c.if-both-eq0.true (rw u at c.unless_zero.ensures))

pub returns-then-addend-eq0 : goal.returns-then-addend-eq0
returns-then-addend-eq0 c =
    let a = c.split-a.result in
    let b = c.split-b.result in
    let d = c.split-c.result in
    let u = upper d.digits (omega (arith, c.split-c.ensures.shape.short)) in
    by_parts c.args.x c.args.y c.args.z a.neg b.neg d.neg a.digits a.place b.digits b.place d.digits d.place c.split-a.ensures c.split-b.ensures c.split-c.ensures
    (unadded (unlike a.neg b.neg) d.neg c.product.result a.digits b.digits (a.place + b.place + 64) (d.digits * 18446744073709551616) (d.place + 1136) c.product.ensures (rw u at c.if-addend-eq0.true) c.unless_zero-then-addend-eq0.ensures)

pub returns-else-addend-eq0 : goal.returns-else-addend-eq0
returns-else-addend-eq0 c =
    let a = c.split-a.result in
    let b = c.split-b.result in
    let d = c.split-c.result in
    let u = upper d.digits (omega (arith, c.split-c.ensures.shape.short)) in
    by_parts c.args.x c.args.y c.args.z a.neg b.neg d.neg a.digits a.place b.digits b.place d.digits d.place c.split-a.ensures c.split-b.ensures c.split-c.ensures
    (multiplied (unlike a.neg b.neg) d.neg c.product.result a.digits b.digits (a.place + b.place + 64) (d.digits * 18446744073709551616 * 2 ^ (d.place + 1136)) c.product.ensures (rw u at c.join.ensures))
