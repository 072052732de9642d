-- The tree from its root on: the decay is not below 0, the root is a front that can grow, and what is refused before it. Assumes nothing.
use Rattle.std.specs.Prelude.{ℕ, ◌≤◌, ◌<◌, ◌≡◌, Bool, true, false, cond, T, get_or, set, ℤ, pos, negsuc, Float, Ok, Err}
use Rattle.std.proofs.Common.{arith, sym, ◌∙◌, length-set}
use Rattle.std.proofs.Math.Path.{refl}
use mathlib.Core.List.{List, [], ◌∷◌}
use Rattle.std.proofs.Math.ListN.{length}
use Rattle.std.specs.Float.{binary64, nan}
use Rattle.std.specs.Float.Ieee.{mul, neg, le}
use Rattle.floats.specs.Refusals.{Refusal}
use Rattle.floats.specs.Answers.{Answer, plus_zero, not_finite, refusal, Check, Outcome, follow}
use Rattle.elementary.specs.Exponential.{exp_at}
use Rattle.elementary.specs.laws.Values.{exp-value}
use Rattle.terms.specs.laws.Outcomes.{given_or_refused, valued-value, valued-refused}
use Rattle.hullwhite.specs.laws.Filled.{check_of}
use Rattle.lattice.specs.Layers.{Room, fits}
use Rattle.lattice.specs.Lattice.{Lattice, with_room, spacing_of, grown, root_layer, decay_of, curved}
use Rattle.lattice.specs.laws.RisingMiddles.{none, above}
use Rattle.lattice.specs.laws.Stored.{numbers_in}
use Rattle.lattice.specs.laws.Laid.{front_nodes}
use Rattle.lattice.specs.laws.LaidTree.{LaysTree}
use Rattle.lattice.specs.laws.Growing.{Front, room_left}
use Rattle.lattice.specs.laws.RoomTest.{fitting}
use Rattle.floats.specs.declared.Reason.TheVariants as reason

-- The tree once decay and spacing 0 are known.
unfoldable pub from_root : Room → Float → Float → List Float → Outcome Lattice
unfolding grown
from_root room decay spacing variances = with_room room 0 root_layer 0 (grown room decay spacing 0 root_layer 0 variances)

pub decay-above : (alpha dt y : Float) → decay_of alpha dt ≡ Ok y → T (le plus_zero y)
decay-above alpha dt y e = go (not_finite (mul binary64 (neg alpha) dt)) e
  where
    go : (b : Bool) → cond b (refusal reason.NotFinite 0) (exp_at (mul binary64 (neg alpha) dt) 0) ≡ Ok y → T (le plus_zero y)
    go true e = absurd (let z : ◌≡◌ {A = ℕ} 0 1 = cc in omega arith)
    go false e = (exp-value (mul binary64 (neg alpha) dt) 0 y e).above

-- ---- the root

abbrev pub with_root : List ℤ → List ℤ
with_root nodes = set (set nodes 0 (pos 0)) 1 (pos 0)

pub root-numbers : (nodes : List ℤ) → 2 ≤ length nodes → numbers_in (front_nodes 1 (with_root nodes)) ≡ root_layer
unfolding numbers_in
root-numbers [] h = absurd (omega arith)
root-numbers (n ∷ []) h = absurd (omega arith)
root-numbers (n ∷ m ∷ nodes) h = refl

pub root-length : (nodes : List ℤ) → length (with_root nodes) ≡ length nodes
root-length nodes = length-set (set nodes 0 (pos 0)) 1 (pos 0) ∙ length-set nodes 0 (pos 0)

pub root-front : (decay spacing : Float) (nodes : List ℤ) (probabilities : List Float) → 2 ≤ length nodes → 3 ≤ length probabilities → T (le plus_zero decay) → T (le plus_zero spacing) → Front 1 spacing decay (with_root nodes) probabilities
root-front decay spacing nodes probabilities h i d s =
    record {
      pairs = rw (root-length nodes) h;
      threes = i;
      some-node = omega arith;
      low = negsuc 0;
      climbs = rw (root-numbers nodes h) (above tt none);
      spacing-above = s;
      decay-above = d;
    }

-- ---- what a refusal leaves

module _ {flat : Bool} {one two c : ℕ} {numbers : List ℤ} {counts : List ℕ} {spacings : List Float} {nodes : List ℤ} {probabilities : List Float} where
  pub lays-nothing : {o : Outcome Lattice} {r : Check} {q : Refusal} → o ≡ Err q → r ≡ Err q → LaysTree flat one two c numbers o r counts spacings nodes probabilities
  unfolding check_of
  lays-nothing {o} {r} {q} e f = record { outcome = f ∙ rw e; tree = λ t g. absurd (given_or_refused g e) }

-- a refusal handed up
pub refused-row : {found : Answer} {r : Check} {q : Refusal} → r ≡ check_of found → found ≡ Err q → r ≡ Err q
unfolding check_of
refused-row e f = e ∙ rw f

-- ---- from the root on

module _ (one two : ℕ) (decay spacing : Float) (nodes : List ℤ) (probabilities variances : List Float) where
  abbrev lent : Room
  lent = room_left nodes probabilities one two

  pub root-refused : fits lent 1 1 ≡ false → from_root lent decay spacing variances ≡ refusal reason.NoRoom 0
  unfolding from_root
  root-refused e = rw e

  root-there : fits lent 1 1 ≡ true → from_root lent decay spacing variances ≡ grown (room_left (with_root nodes) probabilities one two) decay spacing 0 (numbers_in (front_nodes 1 (with_root nodes))) 0 variances
  unfolding from_root
  root-there e = rw (e, root-length nodes, root-numbers nodes (fitting lent 1 1 e).pairs)

  pub root-laid : {r : Check} {counts : List ℕ} {spacings : List Float} {after : List ℤ} {afterP : List Float} → fits lent 1 1 ≡ true
      → LaysTree false one two 1 (numbers_in (front_nodes 1 (with_root nodes))) (grown (room_left (with_root nodes) probabilities one two) decay spacing 0 (numbers_in (front_nodes 1 (with_root nodes))) 0 variances) r counts spacings after afterP
      → LaysTree false one two 1 root_layer (from_root lent decay spacing variances) r counts spacings after afterP
  root-laid e x = rw (root-there e, ← root-numbers nodes (fitting lent 1 1 e).pairs) x

-- ---- from decay and spacing on

module _ (room : Room) (alpha dt : Float) (variances : List Float) (some : 0 < length variances) where
  curved_from : curved room alpha dt variances ≡ follow (decay_of alpha dt) λ decay. follow (spacing_of (get_or variances 0 nan) 0) λ spacing. from_root room decay spacing variances
  unfolding curved from_root
  curved_from = go variances some
    where
      go : (vs : List Float) → 0 < length vs → curved room alpha dt vs ≡ follow (decay_of alpha dt) λ decay. follow (spacing_of (get_or vs 0 nan) 0) λ spacing. with_room room 0 root_layer 0 (grown room decay spacing 0 root_layer 0 vs)
      go [] h = absurd (omega arith)
      go (v ∷ vs) h = refl

  pub no_decay_lem : {found : Answer} {q : Refusal} → found ≡ decay_of alpha dt → found ≡ Err q → curved room alpha dt variances ≡ Err q
  no_decay_lem e f = curved_from ∙ valued-refused (decay_of alpha dt) _ (sym e ∙ f)

  after-decay : {found : Answer} {decay : Float} → found ≡ decay_of alpha dt → found ≡ Ok decay → curved room alpha dt variances ≡ follow (spacing_of (get_or variances 0 nan) 0) λ spacing. from_root room decay spacing variances
  after-decay e f = curved_from ∙ valued-value (decay_of alpha dt) _ (sym e ∙ f)

  pub no_spacing : {found first : Answer} {decay : Float} {q : Refusal} → found ≡ decay_of alpha dt → found ≡ Ok decay → first ≡ spacing_of (get_or variances 0 nan) 0 → first ≡ Err q → curved room alpha dt variances ≡ Err q
  no_spacing e f g h = after-decay e f ∙ valued-refused (spacing_of (get_or variances 0 nan) 0) _ (sym g ∙ h)

  pub from_root_lem : {found first : Answer} {decay spacing : Float} → found ≡ decay_of alpha dt → found ≡ Ok decay → first ≡ spacing_of (get_or variances 0 nan) 0 → first ≡ Ok spacing → curved room alpha dt variances ≡ from_root room decay spacing variances
  from_root_lem e f g h = after-decay e f ∙ valued-value (spacing_of (get_or variances 0 nan) 0) _ (sym g ∙ h)
