-- `sqrt::sqrt_at` meets its contract: what passes the test is the argument, and neither below 0 nor 0 it is positive.
-- Assumes nothing.
use mathlib.Core.Path.{sym, ◌∙◌}
use borrow.Author.Rules.{rules}
use Rattle.rounded.proofs.sqrt.Signs.{zero-value, positive-value, passed, refused, below_zero, root_at}
use Rattle.rounded.proofs.sqrt.sqrt_at.Goals as goal

pub returns-then-x-2 : goal.returns-then-x-2
returns-then-x-2 c = root_at c.args.x c.args.place (sym c.tested.ensures ∙ c.in_ok-x.was) _ c.if-x.false (zero-value _ c.if-x-2.true)

pub root_of-requires : goal.root_of-requires
root_of-requires c = positive-value _ (passed c.args.x c.args.place (sym c.tested.ensures ∙ c.in_ok-x.was)) c.if-x.false c.if-x-2.false

pub returns : goal.returns
returns c = root_at c.args.x c.args.place (sym c.tested.ensures ∙ c.in_ok-x.was) _ c.if-x.false c.root_of.ensures

pub returns-in_err-x : goal.returns-in_err-x
returns-in_err-x c = refused c.args.x c.args.place (sym c.tested.ensures ∙ c.in_err-x.was) (search rules)

pub returns-then-x : goal.returns-then-x
returns-then-x c = below_zero c.args.x c.args.place (sym c.tested.ensures ∙ c.in_ok-x.was) c.if-x.true
