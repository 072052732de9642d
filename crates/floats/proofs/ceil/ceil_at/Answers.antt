-- `ceil_at` meets its contract: the test of the result is left out, since a finite number's is finite. Assumes nothing.
use Rattle.std.specs.Prelude.{Ok}
use Rattle.std.proofs.Common.{sym, ap, ◌∙◌}
use Rattle.floats.specs.Whole.{ceiled}
use Rattle.floats.specs.laws.Whole.{ceil-answers}
use Rattle.floats.specs.laws.Propagation.{passed_test}
use Rattle.floats.proofs.Laws.{answers}
use Rattle.floats.proofs.ceil.ceil_at.Goals as goal

pub returns : goal.returns
returns c =
    let q = passed_test c.args.x c.args.place (sym c.tested.ensures ∙ c.in_ok-tested.was) in
    ap Ok (c.upwards.ensures ∙ ap ceiled q.0) ∙ sym (ceil-answers c.args.x c.args.place (search answers) q.1)
