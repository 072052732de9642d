-- `hull_white_piecewise_variance` meets its contract: the invariant is that the pieces from entry i on give the whole. Assumes nothing.
use Rattle.std.specs.Prelude.{◌≡◌, Err, Float}
use mathlib.Core.Path.{sym, ap, ◌∙◌}
use native.Mathlib.Omega.{arith}
use borrow.Author.Rules.{rules}
use borrow.Author.Tests.{eqb-false}
use Rattle.floats.specs.Extremes.{min_of, max_of}
use Rattle.hullwhite.specs.laws.Pieces.{none, begun, ended, last, refused, next}
use Rattle.hullwhite.proofs.variance.hull_white_piecewise_variance.Goals as goal

pub returns-then-is_empty : goal.returns-then-is_empty
returns-then-is_empty c = let m = c.args.model in none m.alpha m.sigma.times.now m.sigma.sigmas.now c.args.start c.args.end c.args.place (search rules)

pub loop-i-init : goal.loop-i-init
loop-i-init c =
    let m = c.args.model in
    let h = eqb-false _ _ (sym c.if-is_empty.ensures) in
    begun m.alpha m.sigma.times.now m.sigma.sigmas.now c.args.start c.args.end c.args.place (omega arith)

pub returns-in_default : goal.returns-in_default
returns-in_default c =
    let m = c.args.model in
    let l = c.loop-i in
    let e = c.in_default.ensures.lookup in
    last m.alpha m.sigma.times.now m.sigma.sigmas.now c.args.start c.args.end c.args.place l.total l.lower l.i l.invariant _ c.with_piece.ensures c.loop-i-test.true (omega arith)

pub returns-in_err-total : goal.returns-in_err-total
returns-in_err-total c =
    let m = c.args.model in
    let l = c.loop-i in
    let f = c.in-Some.ensures.lookup in
    let e : c.from_residual.result ≡ Err c.in_err-total.field-0.0 = search rules in
    e ∙ sym c.in_err-total.was
    ∙ refused m.alpha m.sigma.times.now m.sigma.sigmas.now c.args.start c.args.end c.args.place l.total l.lower l.i l.invariant _ c.with_piece-in-loop-i.ensures
    (c.lesser.ensures ∙ ap (λ (z : Float). min_of c.args.end z) (f.3.1 _)) c.loop-i-test.true (omega arith) c.in_err-total.was

pub loop-i-preserved : goal.loop-i-preserved
loop-i-preserved c =
    let m = c.args.model in
    let l = c.loop-i in
    let f = c.in-Some.ensures.lookup in
    next m.alpha m.sigma.times.now m.sigma.sigmas.now c.args.start c.args.end c.args.place l.total l.lower l.i l.invariant _ c.with_piece-in-loop-i.ensures
    (c.lesser.ensures ∙ ap (λ (z : Float). min_of c.args.end z) (f.3.1 _)) c.loop-i-test.true (omega arith) c.in_ok-total.was
    (c.greater-lower.ensures ∙ ap (λ (z : Float). max_of c.args.start z) (f.3.1 _))

pub returns : goal.returns
returns c =
    let m = c.args.model in
    let l = c.loop-i in
    ended m.alpha m.sigma.times.now m.sigma.sigmas.now c.args.start c.args.end c.args.place l.total l.lower l.i l.invariant c.loop-i-test.false
