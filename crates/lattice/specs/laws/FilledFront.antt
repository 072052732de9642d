-- The layer in front once it is filled: its transitions and middles, and what is known of the next layer. Assumes nothing.
use Rattle.std.specs.Prelude.{ℕ, suc, ◌*◌, ◌≤◌, ◌<◌, ◌≡◌, refl, List, ◌++◌, length, drop, ℤ, Float, Ok, Err}
use Rattle.std.proofs.Common.{arith, ap}
use Rattle.floats.specs.Answers.{Outcome}
use Rattle.hullwhite.specs.laws.Filled.{check_of}
use Rattle.lattice.specs.declared.Transition.{Transition}
use Rattle.lattice.specs.Transitions.{Step}
use Rattle.lattice.specs.Lattice.{transitions_of}
use Rattle.lattice.specs.laws.Stored.{numbers_in, pairs_of, threes_of}
use Rattle.lattice.specs.laws.Bounds.{AllWithin, no_middle, one_middle}
use Rattle.lattice.specs.laws.Counting.{middles_from}
use Rattle.lattice.specs.laws.Middles.{Along, no_node, one_node, middles_of}
use Rattle.lattice.specs.laws.NextLayer.{NextLayer}
use Rattle.lattice.specs.laws.Laid.{front_nodes}

pub along-count : {s : Step} {ns : List ℤ} {ts : List Transition} → Along s ns ts → length ns ≡ length ts
along-count no_node = refl
along-count (one_node f a) = ap suc (along-count a)

pub along-within : {s : Step} {ns : List ℤ} {ts : List Transition} → Along s ns ts → AllWithin (middles_of ts)
unfolding middles_of
along-within no_node = no_middle
along-within (one_node f a) = one_middle f.within (along-within a)

pub passed-given : {A : Type 0} (o : Outcome A) → (Ok tt) ≡ check_of o → (x : A) × (o ≡ Ok x)
unfolding check_of
passed-given (Ok x) e = (x, refl)
passed-given (Err r) e = let z : ◌≡◌ {A = ℕ} 0 1 = cc in absurd (omega arith)

-- What is known of the layer in front once it is filled.
pub record FilledFront (s : Step) (c : ℕ) (before mid : List ℤ) (beforeP midP : List Float) : Type 0 where
  pub made : List Transition
  pub is_made : transitions_of s (numbers_in (front_nodes c before)) ≡ Ok made
  pub numbers-many : length (numbers_in (front_nodes c before)) ≡ c
  pub many : length made ≡ c
  pub some-node : 0 < c
  pub next : NextLayer made
  pub slice : mid ≡ pairs_of (numbers_in (front_nodes c before)) made ++ drop (c * 2) before
  pub threes : midP ≡ threes_of made ++ drop (c * 3) beforeP
  pub middles : middles_from mid 0 c ≡ middles_of made
  pub within : AllWithin (middles_from mid 0 c)
  pub pairs : 2 * c ≤ length mid
  pub kept : length mid ≡ length before
  pub kept_too : length midP ≡ length beforeP
