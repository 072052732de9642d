-- `walking::root_value` meets its contract. Assumes nothing.
use native.Mathlib.Omega.{arith}
use borrow.Author.Rules.{rules}
use mathlib.Core.Path.{◌≡◌, refl}
use mathlib.Core.List.{List, [], ◌∷◌}
use lib.ListN.{get_or, take}
use lib.Ieee.{Float, nan}
use Rattle.forwardinduction.specs.laws.LaidFront.{fronted}
use Rattle.backwardinduction.specs.laws.WalkRoot.{root-passed, root-refused}
use Rattle.rollback.proofs.walking.root_value.Goals as goal

-- The current row of step 0 begins as the first row does.
first_of : (row : List Float) → get_or (take 1 row) 0 nan ≡ get_or row 0 nan
first_of [] = refl
first_of (x ∷ row) = refl

pub returns : goal.returns
returns c = rw (c.current-row.ensures, first_of c.walk.new.first) (root-passed (get_or c.args.lattice.counts.now 0 0) c.args.lattice.nodes.now (record { first = c.walk.new.first; second = c.walk.new.second }) c.walk.ensures c.in_ok-walk.was c.requires.root.0 c.requires.root.1 (omega (arith, (fronted c.requires.laid).first_room, c.requires.root.0, c.walk.auto.first)))

pub returns-in_err-walk : goal.returns-in_err-walk
returns-in_err-walk c = root-refused (get_or c.args.lattice.counts.now 0 0) c.args.lattice.nodes.now (record { first = c.walk.new.first; second = c.walk.new.second }) c.walk.ensures c.in_err-walk.was (search rules)
