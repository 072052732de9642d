-- `bondevents::calls::at_step` meets its contract: the price is worked out, then kept at the step. Assumes nothing.
use borrow.Author.Rules.{rules}
use native.Mathlib.Omega.{arith}
use mathlib.Core.Path.{sym, ◌∙◌}
use Rattle.floats.proofs.Laws.{valued, refused}
use Rattle.floats.proofs.Lent.{passes, refuses-call}
use Rattle.bondevents.proofs.Outcomes.{kept_at}
use Rattle.bondevents.proofs.calls.at_step.Goals as goal

pub returns-in_err-price : goal.returns-in_err-price
returns-in_err-price c =
    record {
      written = refused _ _ _ c.call_price.ensures c.in_err-price.was (refuses-call _ (search rules));
      untouched = search rules;
    }

pub returns : goal.returns
returns c =
    record {
      written = valued _ _ _ c.call_price.ensures c.in_ok-price.was (passes _ ∙ sym (kept_at _ _ _ _ _ c.keep.ensures (omega arith)));
      untouched = search rules;
    }
