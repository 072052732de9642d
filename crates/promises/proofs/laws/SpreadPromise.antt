-- The promise of a spread: the difference there is within 1e-12 of 0 as the solver evaluates it, or the spread is the middle of a last bracket less than 1e-14 wide at whose ends the differences are neither both above 0 nor both below (`IsRoot`). At most 386 spreads are tried, none where the input is refused. Assumes nothing.
use Rattle.std.specs.Prelude.{ℕ, ◌≤◌, ◌≡◌, Float, Ok, Err}
use Rattle.std.proofs.Math.Path.{subst}
use Rattle.std.specs.Float.Ieee.{neg}
use native.Mathlib.Omega.{arith}
use Rattle.floats.specs.Answers.{Answer, one, Check}
use Rattle.terms.specs.Terms.{CallSchedule}
use Rattle.terms.specs.Checks.{on_check}
use Rattle.lattice.specs.Layers.{Room}
use Rattle.brackets.specs.Brackets.{no_root, found_root, evaluations_of}
use Rattle.sought.specs.Objectives.{first_lower, first_upper}
use Rattle.brackets.specs.laws.Roots.{IsRoot, RootKeeps, root-keeps}
use Rattle.brackets.specs.laws.Evaluations.{at_most_386}
use Rattle.spreads.specs.Spreads.{Quoted, quoted_checks, spread_objective, solve_spread, spread_from_price}

module _ (asked : Quoted) (calls : CallSchedule) (room : Room) where
  abbrev difference : Float → Answer
  difference = spread_objective asked calls room

  kept : (c : Check) → RootKeeps difference (on_check c (λ r. no_root r 0) (solve_spread asked calls room))
  unfolding on_check
  kept (Ok tt) = (root-keeps difference first_lower first_upper (neg one)).it
  kept (Err r) = tt

  -- Whatever spread is answered is a root of tree value less target.
  pub spread-found : (x : Float) (n : ℕ) → spread_from_price asked calls room ≡ found_root x n → IsRoot difference x
  unfolding spread_from_price
  spread-found x n h = subst (RootKeeps difference) h (kept (quoted_checks asked calls))

  counted : (c : Check) → evaluations_of (on_check c (λ r. no_root r 0) (solve_spread asked calls room)) ≤ 386
  unfolding on_check
  counted (Ok tt) = at_most_386 difference first_lower first_upper (neg one)
  counted (Err r) = omega arith

  -- At most 386 spreads are tried, on refusals too.
  pub spreads_at_most_386 : evaluations_of (spread_from_price asked calls room) ≤ 386
  unfolding spread_from_price
  spreads_at_most_386 = counted (quoted_checks asked calls)
