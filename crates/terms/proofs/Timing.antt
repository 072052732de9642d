-- A loop that works out the time of each day, at the front of a table. Assumes nothing.
use Prim.Native.Nat.{ℕ, ◌+◌, ◌≤◌, ◌<◌, min}
use native.Mathlib.Omega.{arith}
use borrow.Author.Count.{below_more}
use mathlib.Core.Path.{◌≡◌, sym, ap, ◌∙◌}
use mathlib.Core.List.{List, map}
use borrow.Author.Rules.{rules}
use lib.ListN.{length, get_or, set, take, replicate, length-set, length-replicate, length-map, get_or-map}
use lib.Seq.{get_or-set_same, get_or-set_other, get_or-take, length-take-le, ext_get_or}
use lib.Ieee.{Float}
use Rattle.terms.specs.declared.Settlement.{Settlement}
use Rattle.terms.specs.declared.Epoch.{Epoch}
use Rattle.floats.specs.Answers.{Check}
use Rattle.terms.specs.Times.{epoch_of, time_from, year_fraction}
use Rattle.terms.specs.Curve.{pillar_times, CurveTimes}
use Rattle.terms.specs.Checks.{same_times}

-- The times before i are those of the days.
pub record Timed (f : ℕ → Float) (days : List ℕ) (size : ℕ) (times : List Float) (i : ℕ) : Type 0 where
  pub within : i ≤ length days
  pub sized : length times ≡ size
  pub at : (k : ℕ) → k < i → get_or times k (f 0) ≡ f (get_or days k 0)

module _ (f : ℕ → Float) (days : List ℕ) (size : ℕ) where
  pub begin : (x : Float) → Timed f days size (replicate size x) 0
  begin x = record { within = omega arith; sized = length-replicate size x; at = λ k l. absurd (omega arith) }

  module _ (times : List Float) (i : ℕ) (s : Timed f days size times i) (room : length days ≤ size) where
    pub turn : {x : Float} → i < length days → x ≡ f (get_or days i 0) → Timed f days size (set times i x) (i + 1)
    turn {x} h e =
        record {
          within = omega arith;
          sized = length-set times i x ∙ s.sized;
          at =
              below_more (λ k. get_or (set times i x) k (f 0) ≡ f (get_or days k 0)) i
              (λ k l. get_or-set_other times i k x (f 0) (λ (q : k ≡ i). omega arith) ∙ s.at k l)
              (get_or-set_same times i x (f 0) (omega (arith, s.sized)) ∙ e);
        }

    pub done : length days ≤ i → take (length days) times ≡ map f days
    done h =
        let long = length-take-le (length days) times (omega (arith, s.sized)) in
        ext_get_or (f 0) (take (length days) times) (map f days) (long ∙ sym (length-map days f))
        λ k l. get_or-take (length days) times k (f 0) (omega (arith, long)) ∙ s.at k (omega (arith, long)) ∙ sym (get_or-map f days k 0)

-- The table that is handed back, and an empty one where there are too many days.
module _ (settlement : Settlement) (days : List ℕ) where
  pub timed : {e : Epoch} {times : List Float} {i : ℕ} → e ≡ epoch_of settlement → Timed (time_from e) days 256 times i → length days ≤ i → CurveTimes settlement days (take (min 256 (length days)) times)
  timed {e} {times} {i} p s h =
      record {
        timed = λ room.
            let n : min 256 (length days) ≡ length days = omega arith in
            ap (λ (k : ℕ). take k times) n ∙ done (time_from e) days 256 times i s room h ∙ ap (λ (z : Epoch). map (time_from z) days) p;
      }

  pub too_many : (times : List Float) → 256 < length days → CurveTimes settlement days times
  too_many times h = record { timed = λ room. absurd (omega arith) }

pub ruleset timing = (begin, turn, timed, too_many, rules)

-- The front of the table, as long as was worked out.
pub fronted : (settlement : Settlement) (days : List ℕ) (table : List Float) {k : ℕ} → k ≡ min 256 (length days) → CurveTimes settlement days (take (min 256 (length days)) table) → CurveTimes settlement days (take k table)
fronted settlement days table e t = record { timed = λ room. ap (λ (n : ℕ). take n table) e ∙ t.timed room }

-- ---- 34, of the times that were worked out

module _ (settlement : Settlement) (days : List ℕ) {times : List Float} (e : times ≡ pillar_times settlement days) where
  -- As many as pillars.
  pub times-few : length days ≤ 256 → length times ≤ 256
  times-few h = omega (arith, ap length e, length-map days (year_fraction settlement))

  pub times-told : {r : Check} → r ≡ same_times times → r ≡ same_times (pillar_times settlement days)
  times-told p = p ∙ ap same_times e
