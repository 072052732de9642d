-- `checked` meets its contract. Assumes nothing.
use Rattle.std.proofs.Common.{◌≡◌, length, get_or, sym, ap, ◌∙◌, arith}
use Rattle.std.proofs.lemmas.Result.{err_from_is_err_and}
use Rattle.std.proofs.lemmas.Iterator.Consumers.{YieldsList-from_first, YieldsList-turn, YieldsList-end}
use Rattle.std.proofs.lemmas.List.{length_push}
use Rattle.bondline.specs.Forms.{Said}
use Rattle.bondfile.specs.Entries.{kind_of}
use Rattle.bondfile.specs.File.{entries_of}
use Rattle.bondfile.specs.Walks.{lines_left, numbered_line}
use Rattle.bondfile.specs.Checks.{verdict_of}
use Rattle.filecheck.proofs.Checking.{check_more, check_stop, check_refused, check_none, check_small}
use Rattle.filecheck.proofs.check.checked.Goals as goal

pub returns-in-Err : goal.returns-in-Err
returns-in-Err c =
    let t = YieldsList-turn (YieldsList-from_first numbered_line lines_left (entries_of c.args.text.now) (cc)) c.loop-line.yielded c.loop-line.line-iterator c.loop-line.yielded_by _ c.next.new.self (c.in-Some.line, c.in-Some.said) c.in-Some.is c.next.ensures.steps in
    check_refused c.loop-line.counts (entries_of c.args.text.now) (length c.loop-line.yielded) c.in-Some.line c.in-Err.fault (numbered_line (c.in-Some.line, c.in-Some.said)) (ap (λ (s : Said). numbered_line (c.in-Some.line, s)) c.in-Err.is) t.0 t.1 ∙ c.loop-line.invariant.2 ∙ check_small c.args.text.now c.if-text-gt-MOST_BYTES.false

pub returns-in_err-counts : goal.returns-in_err-counts
returns-in_err-counts c =
    let t = YieldsList-turn (YieldsList-from_first numbered_line lines_left (entries_of c.args.text.now) (cc)) c.loop-line.yielded c.loop-line.line-iterator c.loop-line.yielded_by _ c.next.new.self (c.in-Some.line, c.in-Some.said) c.in-Some.is c.next.ensures.steps in
    let same : c.number_of-kind.result ≡ kind_of c.in-Some.said = c.number_of-kind.ensures.number ∙ c.kind_of.ensures ∙ sym (ap kind_of c.in-Ok.is) in
    let p = err_from_is_err_and c.from_residual.result c.from_residual.ensures.1 in
    rw (p.1, p.2) (check_stop c.loop-line.counts (entries_of c.args.text.now) (length c.loop-line.yielded) (numbered_line (c.in-Some.line, c.in-Some.said)) t.0 t.1 c.number_of-kind.result c.in_err-counts.field-0.0 same (ap (λ s. verdict_of s c.in-Some.line (get_or c.loop-line.counts c.number_of-kind.result 0)) c.in-Ok.is ∙ sym c.verdict.ensures ∙ c.in_err-counts.was) ∙ c.loop-line.invariant.2 ∙ check_small c.args.text.now c.if-text-gt-MOST_BYTES.false)

pub loop-line-preserved : goal.loop-line-preserved
loop-line-preserved c =
    let t = YieldsList-turn (YieldsList-from_first numbered_line lines_left (entries_of c.args.text.now) (cc)) c.loop-line.yielded c.loop-line.line-iterator c.loop-line.yielded_by _ c.next.new.self (c.in-Some.line, c.in-Some.said) c.in-Some.is c.next.ensures.steps in
    let same : c.number_of-kind.result ≡ kind_of c.in-Some.said = c.number_of-kind.ensures.number ∙ c.kind_of.ensures ∙ sym (ap kind_of c.in-Ok.is) in
    (tt, tt, rw (length_push c.loop-line.yielded (c.in-Some.line, c.in-Some.said)) (check_more c.loop-line.counts (entries_of c.args.text.now) (length c.loop-line.yielded) (numbered_line (c.in-Some.line, c.in-Some.said)) t.0 t.1 c.number_of-kind.result c.in_ok-counts.field-0 same (ap (λ s. verdict_of s c.in-Some.line (get_or c.loop-line.counts c.number_of-kind.result 0)) c.in-Ok.is ∙ sym c.verdict.ensures ∙ c.in_ok-counts.was) ∙ c.loop-line.invariant.2))

pub returns : goal.returns
returns c =
    let t = YieldsList-end (YieldsList-from_first numbered_line lines_left (entries_of c.args.text.now) (cc)) c.loop-line.yielded c.loop-line.line-iterator c.loop-line.yielded_by _ c.next.new.self c.in-None.is c.next.ensures.steps in
    c.all_there.ensures ∙ sym (check_none c.loop-line.counts (entries_of c.args.text.now) (length c.loop-line.yielded) (omega (arith))) ∙ c.loop-line.invariant.2 ∙ check_small c.args.text.now c.if-text-gt-MOST_BYTES.false
