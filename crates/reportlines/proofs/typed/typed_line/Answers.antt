-- `typed::typed_line` meets its contract. Assumes nothing.
use Rattle.reportlines.proofs.typed.Beginning.{beginning}
use Rattle.reportlines.proofs.typed.typed_line.Goals as goal

pub returns : goal.returns
returns c = search beginning
