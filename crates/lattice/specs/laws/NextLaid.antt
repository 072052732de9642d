-- The next layer behind one whose middles are there: counted, its room tried, then laid. Assumes nothing.
use Rattle.std.specs.Prelude.{ℕ, suc, ◌+◌, refl, Bool, true, false, cond, List, get_or, ℤ, pos, Float, Ok, Err}
use Rattle.std.proofs.Math.Numerals.{add-one}
use Rattle.std.proofs.Common.{arith, ◌∙◌}
use Rattle.std.proofs.Math.Path.{◌≡◌, ap}
use Rattle.std.proofs.Math.ListN.{length}
use Rattle.floats.specs.Answers.{refusal, Outcome}
use Rattle.lattice.specs.declared.NextLayer.{NextLayer}
use Rattle.lattice.specs.Layers.{Room, fits}
use Rattle.lattice.specs.laws.Reaching.{reach_all, nothing_below}
use Rattle.lattice.specs.laws.Counting.{middles_from}
use Rattle.lattice.specs.laws.Laying.{pushed_all, all_length}
use Rattle.lattice.specs.laws.Growing.{next_outcome}
use Rattle.floats.specs.declared.Reason.TheVariants as reason

abbrev pub room_of : ℕ → ℕ → ℕ → ℕ → Room
room_of nodes probabilities one two = record { nodes = nodes; probabilities = probabilities; first = one; second = two }

-- How many nodes the middles of the layer in front reach.
abbrev pub reached : ℕ → List ℤ → ℕ
reached count nodes = (reach_all (nothing_below (get_or nodes 1 (pos 0))) (middles_from nodes 0 count)).count

-- The next layer, where it fits, behind one whose middles are there.
pub record LaidNext (room : Room) (spacing : Float) (k count : ℕ) (r : Outcome NextLayer) (before after : List ℤ) : Type 0 where
  pub outcome : next_outcome r ≡ cond (fits room (count + reached count before) (reached count before)) (Ok (record { spacing = spacing; count = reached count before })) (refusal reason.NoRoom (suc k))
  pub nodes : fits room (count + reached count before) (reached count before) ≡ true → after ≡ pushed_all count (nothing_below (get_or before 1 (pos 0))) (middles_from before 0 count) before
  pub kept : length after ≡ length before

-- With the flag and the count that the code has in hand.
module _ (room : Room) (spacing : Float) (k count : ℕ) (before : List ℤ) {n : ℕ} {flag : Bool} (many : n ≡ reached count before) (tried : flag ≡ fits room (count + n) n) where
  flag_is : flag ≡ fits room (count + reached count before) (reached count before)
  flag_is = tried ∙ ap (λ (z : ℕ). fits room (count + z) z) many

  pub laid_next : {after : List ℤ} → flag ≡ true → after ≡ pushed_all count (nothing_below (get_or before 1 (pos 0))) (middles_from before 0 count) before → LaidNext room spacing k count (Ok (record { spacing = spacing; count = n })) before after
  unfolding next_outcome
  laid_next {after} h e =
      record {
        outcome = rw (← flag_is, h, many);
        nodes = λ _. e;
        kept = ap length e ∙ all_length count (nothing_below (get_or before 1 (pos 0))) (middles_from before 0 count) before;
      }

  pub no_room : flag ≡ false → LaidNext room spacing k count (Err (record { reason = reason.NoRoom; place = k + 1 })) before before
  unfolding next_outcome
  no_room h =
      record {
        outcome = rw (← flag_is, h, add-one k);
        nodes = λ t. let z : ◌≡◌ {A = ℕ} 0 1 = cc (flag_is) in absurd (omega arith);
        kept = refl;
      }
