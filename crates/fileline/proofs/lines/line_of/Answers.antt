-- `lines::line_of` meets its contract. Assumes nothing.
use native.Mathlib.Omega.{arith}
use Rattle.fileline.proofs.Reading.{no_line, line-there}
use Rattle.fileline.proofs.lines.line_of.Goals as goal

pub returns-then-place-ge-MOST_ENTRIES : goal.returns-then-place-ge-MOST_ENTRIES
returns-then-place-ge-MOST_ENTRIES c = no_line _ _ _ (omega arith)

pub returns : goal.returns
returns c = line-there _ _ _ _ _ c.entry_lines.ensures (omega arith)
