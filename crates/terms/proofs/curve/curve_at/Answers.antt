-- `curve_at` meets its contract: in the loop, the time is not before pillar i, and what is left of the curve from there on is the whole. Assumes nothing.
use Rattle.std.proofs.Common.{arith, refl, ◌≡◌, ◌-◌, ◌+◌, ◌<◌, sym, ap, ◌∙◌, ℕ, length}
use Rattle.std.proofs.Math.ListN.{get_or}
use lib.Ieee.{lt, nan}
use Rattle.floats.specs.Answers.{plus_zero}
use Rattle.terms.proofs.Laws.{same_at}
use Rattle.terms.proofs.Curving.{turn, found, times-end, factors-end, without_times, without_factors}
use Rattle.terms.proofs.curve.curve_at.Goals as goal

pub returns-then-times-eq0 : goal.returns-then-times-eq0
returns-then-times-eq0 c = without_times _ _ _ _ (omega arith) refl

pub returns-then-factors-eq0 : goal.returns-then-factors-eq0
returns-then-factors-eq0 c = without_factors _ _ _ _ (omega arith) refl

pub returns-then-factors-i : goal.returns-then-factors-i
returns-then-factors-i c =
    factors-end _ _ _ _ _ c.loop-i.invariant (omega arith) (same_at c.args.factors.now c.loop-i.i nan plus_zero c.loop-i.invariant.factor-there) refl

pub returns-then-t-times : goal.returns-then-t-times
returns-then-t-times c =
    let later : c.loop-i.i + 1 < length c.args.times.now = omega arith in
    found _ _ _ _ _ c.loop-i.invariant later (omega arith) (ap (lt c.args.t) (same_at c.args.times.now (c.loop-i.i + 1) nan plus_zero later)) c.if-t-times.true c.on_piece.ensures

pub loop-i-preserved : goal.loop-i-preserved
loop-i-preserved c =
    let later : c.loop-i.i + 1 < length c.args.times.now = omega arith in
    turn _ _ _ _ _ c.loop-i.invariant later (omega arith) (ap (lt c.args.t) (same_at c.args.times.now (c.loop-i.i + 1) nan plus_zero later)) c.if-t-times.false

pub returns : goal.returns
returns c =
    let last : c.loop-i.i ≡ length c.args.times.now - 1 = omega arith in
    times-end _ _ _ _ _ c.loop-i.invariant (omega arith)
    (sym (ap (λ (k : ℕ). get_or c.args.factors.now k nan) last) ∙ same_at c.args.factors.now c.loop-i.i nan plus_zero c.loop-i.invariant.factor-there)
    refl
