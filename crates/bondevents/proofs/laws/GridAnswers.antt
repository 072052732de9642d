-- The grid entry's answer: where it is accepted, and that a reordered call list has the very same one. Assumes nothing.
use Rattle.std.specs.Prelude.{ℕ, ◌<◌, ◌≡◌, T, Float, Ok, Err}
use Rattle.std.proofs.Math.Path.{refl}
use Rattle.std.proofs.Common.{sym, ◌∙◌, arith}
use Rattle.std.specs.Float.Ieee.{lt}
use Rattle.floats.specs.Answers.{plus_zero, Check, Outcome, on_outcome}
use Rattle.terms.specs.declared.Settlement.{Settlement}
use Rattle.terms.specs.Terms.{CallSchedule, Bond, TimeGrid, bond_with_puts}
use Rattle.terms.specs.CallLists.{Entries, MadeFrom, LoweredFrom, Reordered, size, strike_of}
use Rattle.terms.specs.Checks.{on_check, units_range}
use Rattle.terms.specs.Entries.{grid_checks}
use Rattle.terms.specs.laws.Lockstep.{GivenOr27}
use Rattle.terms.specs.laws.CallChecks.{call-counted}
use Rattle.terms.specs.laws.TermChecks.{units-passed}
use Rattle.terms.specs.laws.Groups.{CallsPassed}
use Rattle.terms.specs.laws.GridChecks.{grid-terms, grid-calls, grid-puts-alike}
use Rattle.terms.proofs.MadeLists as lists
use Rattle.terms.specs.laws.MadeLists.{accepted-strike}
use Rattle.floats.specs.Reasons.{refusal_number}
use Rattle.floats.specs.laws.Reasons.{reason-above_zero}
use Rattle.bondevents.specs.declared.BondEventGrid.{BondEventGrid}
use Rattle.bondevents.specs.Grid.{event_grid, grid_answer, refused_grid, accepted_grid}
use Rattle.bondevents.specs.laws.NoLower.{NoLowerGrid}
use Rattle.bondevents.specs.laws.Pricing.{Above}
use Rattle.bondevents.proofs.laws.Grids as grids
use Rattle.bondevents.proofs.laws.Grids.{grid-no_lower, grid-puts-no_lower, grid-puts-reordered}

-- ---- what the checks say, as the grid's laws ask it

pub units-above : (units : Float) → units_range units ≡ Ok tt → Above units
units-above units h = let a = units-passed units h in record { is_finite = a.is_finite; is-above = a.above_zero }

pub call-entries : (calls : CallSchedule) → CallsPassed calls → Entries calls
call-entries calls k = (call-counted calls k.counted).entries

pub strikes-above : (calls : CallSchedule) → CallsPassed calls → (i : ℕ) → i < size calls → T (lt plus_zero (strike_of calls i))
strikes-above calls k i l = (accepted-strike calls k i l).above_zero

-- ---- accepted

-- The checks are passed, and the grid is given.
pub record Accepted (settlement : Settlement) (bond : Bond) (calls : CallSchedule) (controls : TimeGrid) : Type 0 where
  pub checked : grid_checks settlement bond calls controls ≡ Ok tt
  pub grid : BondEventGrid
  pub has-grid : event_grid settlement bond calls controls ≡ Ok grid

module _ (settlement : Settlement) (bond : Bond) (calls : CallSchedule) (controls : TimeGrid) where
  answer_is : (c : Check) (o : Outcome BondEventGrid) → grid_checks settlement bond calls controls ≡ c → event_grid settlement bond calls controls ≡ o
      → grid_answer settlement bond calls controls ≡ on_check c refused_grid (on_outcome o refused_grid accepted_grid)
  unfolding grid_answer
  answer_is c o e h = cc

  -- Number 0 is answered only then.
  pub accepted : refusal_number (grid_answer settlement bond calls controls).refusal ≡ 0 → Accepted settlement bond calls controls
  unfolding on_check on_outcome grid_answer
  accepted zeroed = go (grid_checks settlement bond calls controls) (event_grid settlement bond calls controls) refl refl zeroed
    where
      go : (c : Check) (o : Outcome BondEventGrid) → grid_checks settlement bond calls controls ≡ c → event_grid settlement bond calls controls ≡ o → refusal_number (on_check c refused_grid (on_outcome o refused_grid accepted_grid)).refusal ≡ 0 → Accepted settlement bond calls controls
      go (Err r) o e h z = let p = reason-above_zero r.reason in absurd (omega arith)
      go (Ok u) (Ok g) e h z = record { checked = e; grid = g; has-grid = h }
      go (Ok u) (Err r) e h z = let p = reason-above_zero r.reason in absurd (omega arith)

  pub answer_of_lem : (a : Accepted settlement bond calls controls) → grid_answer settlement bond calls controls ≡ accepted_grid a.grid
  unfolding on_check on_outcome
  answer_of_lem a = answer_is (Ok tt) (Ok a.grid) a.checked a.has-grid

-- ---- of two lists

module _ (settlement : Settlement) (bond : Bond) (first second : CallSchedule) (controls : TimeGrid) where
  -- Calls dropped and strikes raised: the grid of terms that pass the checks.
  pub checked-no_lower : grid_checks settlement bond first controls ≡ Ok tt → MadeFrom first second → (g : BondEventGrid) → event_grid settlement bond first controls ≡ Ok g → GivenOr27 (NoLowerGrid g) (event_grid settlement bond second controls)
  checked-no_lower h m g e =
      grid-no_lower settlement bond first second controls
      (call-entries first (grid-calls settlement bond first controls h))
      (call-entries bond.puts (grid-terms settlement bond first controls h).puts)
      (units-above bond.units (grid-terms settlement bond first controls h).units)
      g e m

  -- Reordered: the very same grid is accepted.
  pub reordered-accepted : (a : Accepted settlement bond first controls) → Reordered first second → (grid_checks settlement bond second controls ≡ Ok tt) × (event_grid settlement bond second controls ≡ Ok a.grid)
  reordered-accepted a r =
      let k = grid-calls settlement bond first controls a.checked in (
        lists.grid-reordered first second r settlement bond controls a.checked,
        grids.grid-reordered settlement bond first second controls
            (call-entries first k)
            (call-entries bond.puts (grid-terms settlement bond first controls a.checked).puts)
            (units-above bond.units (grid-terms settlement bond first controls a.checked).units)
            a.grid a.has-grid
            (strikes-above first k)
            r,
      )

  pub answer-reordered : Accepted settlement bond first controls → Reordered first second → grid_answer settlement bond second controls ≡ grid_answer settlement bond first controls
  answer-reordered a r =
      let (p, q) = reordered-accepted a r in
      answer_of_lem settlement bond second controls (record { checked = p; grid = a.grid; has-grid = q }) ∙ sym (answer_of_lem settlement bond first controls a)

-- ---- of two put lists

module _ (settlement : Settlement) (bond : Bond) (calls : CallSchedule) (controls : TimeGrid) (first second : CallSchedule) where
  -- Puts dropped and strikes lowered, the first list's terms passing the checks.
  pub checked-puts : grid_checks settlement (bond_with_puts bond first) calls controls ≡ Ok tt → LoweredFrom first second → (g h : BondEventGrid)
      → event_grid settlement (bond_with_puts bond first) calls controls ≡ Ok g → event_grid settlement (bond_with_puts bond second) calls controls ≡ Ok h → NoLowerGrid h g
  checked-puts c m g h d e =
      let t = grid-terms settlement (bond_with_puts bond first) calls controls c in
      grid-puts-no_lower settlement bond calls controls first second (call-entries first t.puts) (units-above bond.units t.units) g d
      (call-entries calls (grid-calls settlement (bond_with_puts bond first) calls controls c)) m h e

  -- Reordered: the very same grid is accepted.
  pub puts-reordered-accepted : (a : Accepted settlement (bond_with_puts bond first) calls controls) → Reordered first second
      → (grid_checks settlement (bond_with_puts bond second) calls controls ≡ Ok tt) × (event_grid settlement (bond_with_puts bond second) calls controls ≡ Ok a.grid)
  puts-reordered-accepted a r =
      let t = grid-terms settlement (bond_with_puts bond first) calls controls a.checked in (
        grid-puts-alike settlement bond calls controls first second t.puts (lists.reordered-calls first second r t.puts) ∙ a.checked,
        grid-puts-reordered settlement bond calls controls first second (call-entries first t.puts) (units-above bond.units t.units) a.grid a.has-grid (strikes-above first t.puts) r,
      )

  pub answer-puts-reordered : Accepted settlement (bond_with_puts bond first) calls controls → Reordered first second
      → grid_answer settlement (bond_with_puts bond second) calls controls ≡ grid_answer settlement (bond_with_puts bond first) calls controls
  answer-puts-reordered a r =
      let (p, q) = puts-reordered-accepted a r in
      answer_of_lem settlement (bond_with_puts bond second) calls controls (record { checked = p; grid = a.grid; has-grid = q }) ∙ sym (answer_of_lem settlement (bond_with_puts bond first) calls controls a)
