-- `row_of` meets its contract: in the loop, the row is filled so far with what each cell says, and has room for the rest. Assumes nothing.
use Rattle.std.specs.Prelude.{ℕ, ◌+◌, ◌-◌, ◌*◌, ◌≤◌, ◌≡◌, List, length, Float}
use Rattle.spreadtable.specs.laws.Filling.{Filling}
use Rattle.spreadtable.proofs.rows.row_of.Given as goal

abbrev pub invariant-loop-spread : goal.invariant-loop-spread
invariant-loop-spread g l =
    (l.spread-index ≤ length l.spreads)
    × (l.row.length + 16 * (length l.spreads - l.spread-index) + 1 ≤ 4112)
    × ((text : Float → List ℕ) → ((s : Float) (r : List ℕ) → goal.F-post g l.cell s r → r ≡ text s) → Filling text l.spreads l.initial.row l.row l.spread-index)
