-- `exps::arguments` meets its contract. The invariant: the entries passed hold their nodes' arguments. Assumes nothing.
use Rattle.std.proofs.Common.{◌≡◌, ◌≤◌}
use lib.Ieee.{Float}
use Rattle.elementary.specs.laws.Rows.{Filled}
use Rattle.forwardinduction.specs.laws.Exps.{argument_of}
use Rattle.forwardinduction.proofs.exps.arguments.Given as goal

abbrev pub invariant-loop-k : goal.invariant-loop-k
invariant-loop-k g l = (l.k ≤ l.n) × ((f : Float → Float) → ((x r : Float) → goal.F-post g l.argument x r → r ≡ f x) → Filled (argument_of f l.nodes l.first) l.initial.xs l.xs l.k)
