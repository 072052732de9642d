-- The middles of a layer whose nodes rise: within their limit, never falling; the next layer rises, and is as wide as the reach counts. Assumes nothing.
use Rattle.std.specs.Prelude.{ℕ, zero, suc, ◌+◌, ◌-◌, ◌≤◌, ◌≡◌, refl, Bool, true, false, cond, T, length, get_or, ℤ, pos, negsuc, Float, Ok}
use Rattle.std.proofs.Common.{arith, sym, ap, ◌∙◌, ltb-true}
use mathlib.Core.List.{List, [], ◌∷◌}
use Rattle.std.proofs.Math.IntN.{pred_ℤ, suc_ℤ}
use Rattle.std.specs.Float.Ieee.{le}
use Rattle.floats.specs.Answers.{plus_zero}
use Rattle.rounded.specs.laws.RootBounds.{NotBelow}
use Rattle.terms.specs.laws.Outcomes.{Gives, gives, gives-follow, given_of}
use Rattle.lattice.specs.declared.Middle.{Middle}
use Rattle.lattice.specs.declared.Transition.{Transition}
use Rattle.lattice.specs.declared.reach.Reach.{Reach}
use Rattle.lattice.specs.Layers.{below}
use Rattle.lattice.specs.Transitions.{Step}
use Rattle.lattice.specs.laws.Bounds.{Within, AllWithin, no_middle, one_middle, held_both, Numbered, within-numbered, numbered-suc, numbered_pred}
use Rattle.lattice.specs.laws.Making.{step_from}
use Rattle.lattice.specs.laws.Middles.{MiddleFrom, FromNode, middle_from, Along, no_node, one_node, Upright}
use Rattle.lattice.specs.laws.Middles as middles
use Rattle.lattice.proofs.theorems.NextLayer.{next_layer}
use Rattle.lattice.specs.laws.Reaching.{reach_one, reach, reach_all, nothing_below}
use Rattle.lattice.specs.laws.RisingMiddles.{Rising, Climbs, around, laid}
use Rattle.lattice.specs.laws.LaidBehind.{laid-count}
use Rattle.lattice.proofs.theorems.LaidBehind.{laid-around}
use Rattle.widths.specs.Widths.{middle_nodes}

-- ---- what is known of a node's middle is known of every transition with this middle

abbrev alike : ℤ → Transition
alike m =
    record {
      down = pred_ℤ m;
      middle = m;
      up = suc_ℤ m;
      probability_down = plus_zero;
      probability_middle = plus_zero;
      probability_up = plus_zero;
    }

alike_from : {s : Step} {n : ℤ} {m : Middle} → MiddleFrom s n m → FromNode s n (alike m.node)
alike_from {m = m} f =
    let e = ap (λ (k : Middle). k.node) f.is in
    record {
      state-finite = f.state-finite;
      expectation-finite = f.expectation-finite;
      quotient-finite = f.quotient-finite;
      within = f.within;
      spread = record { down = ap pred_ℤ e; middle = e; up = ap suc_ℤ e };
    }

-- The transitions with these middles.
unfoldable pub all_alike : List ℤ → List Transition
all_alike [] = []
all_alike (m ∷ ms) = alike m ∷ all_alike ms

alike-middles : (ms : List ℤ) → middles.middles_of (all_alike ms) ≡ ms
unfolding all_alike middles.middles_of
alike-middles [] = refl
alike-middles (m ∷ ms) = ap (λ (l : List ℤ). m ∷ l) (alike-middles ms)

along-within : {s : Step} {ns : List ℤ} (ms : List ℤ) → Along s ns (all_alike ms) → AllWithin ms
unfolding all_alike
along-within [] a = no_middle
along-within (m ∷ ms) (one_node f a) = one_middle f.within (along-within ms a)

module _ (s : Step) where
  abbrev AlongAll : List ℤ → List ℤ → Type 0
  AlongAll ns ms = Along s ns (all_alike ms)

  middles-along : (ns : List ℤ) → Gives (AlongAll ns) (middle_nodes s.spacing s.decay s.new_spacing s.place ns)
  unfolding all_alike middle_nodes
  middles-along [] = gives no_node
  middles-along (n ∷ ns) =
      gives-follow _ _ (middle_from s n) λ m f.
      gives-follow _ _ (middles-along ns) λ ms a. gives (one_node (alike_from f) a)

along-length : {s : Step} {ns : List ℤ} (ms : List ℤ) → Along s ns (all_alike ms) → length ms ≡ length ns
unfolding all_alike
along-length [] no_node = refl
along-length (m ∷ ms) (one_node f a) = ap suc (along-length ms a)

-- A middle for each node.
pub middles-length : (spacing decay new : Float) (place : ℕ) (ns ms : List ℤ) → middle_nodes spacing decay new place ns ≡ Ok ms → length ms ≡ length ns
middles-length spacing decay new place ns ms e = along-length ms (given_of (middles-along (step_from spacing decay new plus_zero plus_zero place) ns) e)

-- ---- the next layer

pub record Reached (ms : List ℤ) : Type 0 where
  pub first : ℤ
  pub others : List ℤ
  pub is : ms ≡ first ∷ others
  pub rising : Rising first others
  pub climbs : Climbs (pred_ℤ (pred_ℤ first)) (around ms)
  pub within : AllWithin ms

module _ (spacing decay new : Float) (place : ℕ) (u : T (le plus_zero spacing)) (v : T (le plus_zero decay)) (w : NotBelow new) where
  pub reached : {t n : ℤ} {ns ms : List ℤ} → Climbs t (n ∷ ns) → middle_nodes spacing decay new place (n ∷ ns) ≡ Ok ms → Reached ms
  reached {t} {n} {ns} {ms} c e =
      let s = step_from spacing decay new plus_zero plus_zero place in
      let a = given_of (middles-along s (n ∷ ns)) e in
      let up : Upright s = record { spacing-above = u; decay-above = v; new-finite = w.is_finite; new-above = w.not_below_lem } in
      let l = next_layer up c a in
      let p = sym (alike-middles ms) ∙ l.middles in
      record {
        first = l.first;
        others = l.others;
        is = p;
        rising = l.rising;
        climbs = rw (l.around_them, ← p) at l.climbs;
        within = along-within ms a;
      }

-- What is reached is laid, and counted.
pub reached-around : {ms : List ℤ} (r : Reached ms) → laid (nothing_below (get_or ms 0 (pos 0))) ms ≡ around ms
reached-around r = rw r.is (laid-around r.first r.others r.rising)

pub reached-many : {ms : List ℤ} (r : Reached ms) → (reach_all (nothing_below (get_or ms 0 (pos 0))) ms).count ≡ length (around ms)
reached-many {ms} r = rw (← reached-around r) (omega (arith, laid-count (nothing_below (get_or ms 0 (pos 0))) ms))

-- ---- a layer has at most 2,000,004 nodes

-- How far a node lies above −1,000,003.
unfoldable off : ℤ → ℕ
off (pos a) = 1000003 + a
off (negsuc b) = 1000002 - b

off-rises : (t n : ℤ) → Numbered n → below t n ≡ true → off t + 1 ≤ off n
unfolding off
off-rises (pos a) (pos b) w e = let k = w.numbered in let h = ltb-true a b e in omega arith
off-rises (pos a) (negsuc b) w e = let z : ◌≡◌ {A = Bool} false true = e in absurd (let y : ◌≡◌ {A = ℕ} 0 1 = cc in omega arith)
off-rises (negsuc a) (pos b) w e = let k = w.numbered in omega arith
off-rises (negsuc a) (negsuc b) w e = let k = w.numbered in let h = ltb-true b a e in omega arith

off-most : (n : ℤ) → Numbered n → off n ≤ 2000004
unfolding off
off-most (pos a) w = let k = w.numbered in omega arith
off-most (negsuc b) w = omega arith

-- So many are reached at most.
record Few (r : Reach) : Type 0 where
  few : r.count ≤ off r.top
  low : off r.top ≤ 2000004

few_one : (r : Reach) (n : ℤ) → Numbered n → Few r → Few (reach_one r n)
unfolding reach_one
few_one r n w f = go (below r.top n) refl
  where
    go : (b : Bool) → below r.top n ≡ b → Few (cond b (record { top = n; count = r.count + 1 }) r)
    go true e = let k = f.few in let h = off-rises r.top n w e in record { few = omega arith; low = off-most n w }
    go false e = f

few_all : (r : Reach) (ms : List ℤ) → AllWithin ms → Few r → Few (reach_all r ms)
unfolding reach_all reach
few_all r [] no_middle f = f
few_all r (m ∷ ms) (one_middle w a) f =
    few_all (reach r m) ms a (few_one _ (suc_ℤ m) (numbered-suc w) (few_one _ m (within-numbered w) (few_one r (pred_ℤ m) (numbered_pred w) f)))

off_pred : (n : ℤ) → off (pred_ℤ n) ≤ off n
unfolding off
off_pred (pos zero) = omega arith
off_pred (pos (suc a)) = omega arith
off_pred (negsuc b) = omega arith

few-none : (m : ℤ) → Within m → Few (nothing_below m)
few-none m w = record { few = omega arith; low = omega (arith, off_pred (pred_ℤ m), off_pred m, off-most m (within-numbered w)) }

few_from : (m : ℤ) (ms : List ℤ) → AllWithin (m ∷ ms) → (reach_all (nothing_below m) (m ∷ ms)).count ≤ 2000004
few_from m ms a = let f = few_all (nothing_below m) (m ∷ ms) a (few-none m (held_both a).0) in let p = f.few in let q = f.low in omega arith

pub few-around : {ms : List ℤ} (r : Reached ms) → length (around ms) ≤ 2000004
few-around {ms} r = rw (← reached-many r, r.is) (few_from r.first r.others (rw r.is at r.within))
