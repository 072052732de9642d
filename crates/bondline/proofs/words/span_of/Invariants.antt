-- In the loop the span is that of the words passed. Assumes nothing.
use Rattle.std.proofs.Common.{◌≡◌, ◌≤◌, length}
use Rattle.bondline.specs.Words.{span_of}
use Rattle.bondline.proofs.words.span_of.Given as goal

abbrev pub invariant-loop : goal.invariant-loop
invariant-loop l =
    (l.span ≡ span_of l.line l.counter) × (l.span.start ≤ l.span.end) × (l.span.end ≤ length l.line)
