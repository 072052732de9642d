-- `typed::line_start` meets its contract. Assumes nothing.
use Rattle.reportlines.proofs.typed.Beginning.{beginning}
use Rattle.reportlines.proofs.typed.line_start.Goals as goal

pub loop-init : goal.loop-init
loop-init c = search beginning

pub loop-preserved : goal.loop-preserved
loop-preserved c = search beginning

pub returns : goal.returns
returns c = search beginning
