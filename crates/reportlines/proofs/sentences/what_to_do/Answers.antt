-- `sentences::what_to_do` meets its contract. Assumes nothing.
use Rattle.bondreport.specs.Sentences.{sentence_for}
use Rattle.bondreport.proofs.Advising.{unnamed}
use Rattle.reportlines.proofs.sentences.what_to_do.Goals as goal

pub returns-in_default : goal.returns-in_default
unfolding sentence_for
returns-in_default c = unnamed _ c.in_default.in_default-own.rest c.text_line-in_default.ensures
