-- `first_of` meets its contract: what a kind's first entry says is no fault. Assumes nothing.
use Rattle.std.proofs.Common.{sym, ◌∙◌}
use Rattle.bondfile.specs.laws.OfKinds.{field_known}
use Rattle.bondfile.proofs.singles.first_of.Goals as goal

pub returns-in-Err : goal.returns-in-Err
returns-in-Err c = absurd (field_known c.number_of.result c.args.text.now c.number_of.ensures.within (sym c.first_said.ensures ∙ c.in-Err.is))
