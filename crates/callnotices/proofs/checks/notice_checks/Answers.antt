-- `notice_checks` meets its contract: the stages follow one another as in the definition; what a stage requires follows from the counts, which passed before it. Assumes nothing.
use borrow.Author.Rules.{rules}
use Rattle.terms.proofs.Laws.{passed_first, refused_first, only_one}
use Rattle.callnotices.specs.laws.Stages.{as_notices}
use Rattle.callnotices.proofs.checks.notice_checks.Goals as goal

pub returns-in_err-notice_counts : goal.returns-in_err-notice_counts
returns-in_err-notice_counts c = as_notices _ (refused_first _ _ c.notice_counts.ensures.same c.in_err-notice_counts.was (search rules))

pub returns-in_err-notice_fields : goal.returns-in_err-notice_fields
returns-in_err-notice_fields c = as_notices _ (passed_first _ _ c.notice_counts.ensures.same c.in_ok-notice_counts.was (refused_first _ _ c.notice_fields.ensures c.in_err-notice_fields.was (search rules)))

pub returns : goal.returns
returns c = as_notices _ (passed_first _ _ c.notice_counts.ensures.same c.in_ok-notice_counts.was (passed_first _ _ c.notice_fields.ensures c.in_ok-notice_fields.was (only_one _ c.set_fields.ensures)))
