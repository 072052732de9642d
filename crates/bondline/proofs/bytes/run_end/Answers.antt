-- `run_end` meets its contract: it counts the bytes at the front that pass. Assumes nothing.
use Rattle.std.proofs.Common.{rules, ◌+◌, drop, ap, ◌∙◌}
use Rattle.std.proofs.lemmas.Iterator.{YieldsList-from_slice}
use Rattle.std.proofs.lemmas.Iterator.Consumers.{count_from_yields_List}
use Rattle.std.proofs.lemmas.Iterator.Search.{YieldsList-from_take_while}
use Rattle.std.proofs.lemmas.List.{take_rest, Folds.{length-prefix_len}}
use Rattle.bondline.proofs.bytes.run_end.Goals as goal

pub returns-clause-end : goal.returns-clause-end
returns-clause-end g c = λ p t.
    ap (λ n. c.args.from + n) (
    count_from_yields_List c.take_while.result _ c.count.ensures.ran (YieldsList-from_take_while _ p (YieldsList-from_slice _ (cc (take_rest c.args.text.now c.args.from))) c.take_while.ensures.closure c.take_while.ensures.done (λ x b q k. search (rules, t)))
    ∙ length-prefix_len p (drop c.args.from c.args.text.now)
    )
