-- The layer before, in front of the slices: at each of its nodes stands what the step that made it gives, and a step with the same spacing, decay and variance gives the same. Assumes nothing.
use Rattle.std.specs.Prelude.{ℕ, zero, suc, ◌+◌, ◌*◌, ◌≤◌, ◌<◌, ◌≡◌, refl, Bool, true, false, cond, List, [], ◌∷◌, ◌++◌, length, get_or, take, ℤ, pos, T, Float, Ok}
use Rattle.std.proofs.Common.{arith, sym, ap, ◌∙◌, get_or-take}
use Rattle.std.proofs.Math.IntN.{pred_ℤ, suc_ℤ}
use Rattle.std.specs.Float.{binary64, nan}
use Rattle.std.specs.Float.Ieee.{lt, eq}
use Rattle.std.specs.Float.Ieee as ieee
use Rattle.floats.specs.declared.Reason.{Reason}
use Rattle.floats.specs.declared.Reason.TheVariants as reason
use Rattle.floats.specs.Answers.{plus_zero, Outcome, follow, refusal}
use Rattle.floats.specs.laws.SameNumber.{same_of_eq, signed_of-positive}
use Rattle.terms.specs.laws.Outcomes.{given_or_refused, same_given, of_given, given_of}
use Rattle.lattice.specs.declared.Transition.{Transition}
use Rattle.lattice.specs.Layers.{Room, fits}
use Rattle.lattice.specs.Transitions.{Step, transition_of}
use Rattle.lattice.specs.Lattice.{step_of, transitions_of, destinations}
use Rattle.lattice.specs.laws.Bounds.{Within}
use Rattle.lattice.specs.laws.Middles.{Spread, FromNode, transition_from}
use Rattle.lattice.specs.laws.Stored.{pairs_of, threes_of}
use Rattle.lattice.specs.laws.Growing.{Grew, Front, GrownLayer, grown_next, room_left}
use Rattle.lattice.specs.laws.LayersMore.{numbers_of, numbers-there}
use Rattle.lattice.proofs.theorems.Layering.{grows, by}
use Rattle.layers.specs.laws.Places.{at_place, step-place, transition-place}

-- Node j's transition, beside its number.
pub record KnownAt (s : Step) (nodes : List ℤ) (probabilities : List Float) (j : ℕ) : Type 0 where
  pub transition : Transition
  pub made : transition_of s (get_or nodes (2 * j) (pos 0)) ≡ Ok transition
  pub middle : get_or nodes (2 * j + 1) (pos 0) ≡ transition.middle
  pub down : get_or probabilities (3 * j) nan ≡ transition.probability_down
  pub mid : get_or probabilities (3 * j + 1) nan ≡ transition.probability_middle
  pub up : get_or probabilities (3 * j + 2) nan ≡ transition.probability_up

-- The first c nodes' transitions by the step s.
pub record Known (s : Step) (c : ℕ) (nodes : List ℤ) (probabilities : List Float) : Type 0 where
  pub pairs : c * 2 ≤ length nodes
  pub threes : c * 3 ≤ length probabilities
  pub each : (j : ℕ) → j < c → KnownAt s nodes probabilities j

pub known-none : (s : Step) (nodes : List ℤ) (probabilities : List Float) → Known s 0 nodes probabilities
known-none s nodes probabilities = record { pairs = omega arith; threes = omega arith; each = λ j h. absurd (omega arith) }

-- What stands at node j, as a transition.
abbrev pub stored_at : ℕ → List ℤ → List Float → Transition
stored_at j nodes probabilities =
    record {
      down = pred_ℤ (get_or nodes (2 * j + 1) (pos 0));
      middle = get_or nodes (2 * j + 1) (pos 0);
      up = suc_ℤ (get_or nodes (2 * j + 1) (pos 0));
      probability_down = get_or probabilities (3 * j) nan;
      probability_middle = get_or probabilities (3 * j + 1) nan;
      probability_up = get_or probabilities (3 * j + 2) nan;
    }

-- Where r says so, node n stands at j, and is known.
pub record StandsAt (j known : ℕ) (n : ℤ) (nodes : List ℤ) (r : Bool) : Type 0 where
  pub inside : r ≡ true → j < known
  pub number : r ≡ true → get_or nodes (2 * j) (pos 0) ≡ n

-- It is a transition's, with its two neighbours.
module _ {s : Step} {nodes : List ℤ} {probabilities : List Float} {j : ℕ} (a : KnownAt s nodes probabilities j) where
  from_node : FromNode s (get_or nodes (2 * j) (pos 0)) a.transition
  from_node = given_of (transition_from s (get_or nodes (2 * j) (pos 0))) a.made

  pub known-within : Within (get_or nodes (2 * j + 1) (pos 0))
  known-within = rw a.middle from_node.within

  stored_is : (t : Transition) (m : ℤ) → Spread m t → get_or nodes (2 * j + 1) (pos 0) ≡ t.middle → get_or probabilities (3 * j) nan ≡ t.probability_down → get_or probabilities (3 * j + 1) nan ≡ t.probability_middle
      → get_or probabilities (3 * j + 2) nan ≡ t.probability_up → stored_at j nodes probabilities ≡ t
  stored_is t m p e d o u = rw (e, d, o, u, p.down, p.middle, p.up)

  pub known_is : {n : ℤ} → get_or nodes (2 * j) (pos 0) ≡ n → Ok (stored_at j nodes probabilities) ≡ transition_of s n
  known_is e = ap Ok (stored_is a.transition _ from_node.spread a.middle a.down a.mid a.up) ∙ sym a.made ∙ ap (transition_of s) e

-- It stays so while only what is behind changes.
pub known_kept : {s : Step} {c b : ℕ} {before after : List ℤ} {beforeP afterP : List Float} → c ≤ b → length after ≡ length before → length afterP ≡ length beforeP
    → take (b * 2) after ≡ take (b * 2) before → take (b * 3) afterP ≡ take (b * 3) beforeP → Known s c before beforeP → Known s c after afterP
known_kept {s} {c} {b} {before} {after} {beforeP} {afterP} l n p e f k =
    record { pairs = omega (arith, n, k.pairs); threes = omega (arith, p, k.threes); each = one }
  where
    node : (i : ℕ) → i < b * 2 → get_or after i (pos 0) ≡ get_or before i (pos 0)
    node i h = sym (get_or-take (b * 2) after i (pos 0) h) ∙ ap (λ (z : List ℤ). get_or z i (pos 0)) e ∙ get_or-take (b * 2) before i (pos 0) h

    share : (i : ℕ) → i < b * 3 → get_or afterP i nan ≡ get_or beforeP i nan
    share i h = sym (get_or-take (b * 3) afterP i nan h) ∙ ap (λ (z : List Float). get_or z i nan) f ∙ get_or-take (b * 3) beforeP i nan h

    one : (j : ℕ) → j < c → KnownAt s after afterP j
    one j h =
        let a = k.each j h in
        record {
          transition = a.transition;
          made = rw (node (2 * j) (omega arith)) a.made;
          middle = node (2 * j + 1) (omega arith) ∙ a.middle;
          down = share (3 * j) (omega arith) ∙ a.down;
          mid = share (3 * j + 1) (omega arith) ∙ a.mid;
          up = share (3 * j + 2) (omega arith) ∙ a.up;
        }

-- ---- at another place

known-place : {s : Step} {nodes : List ℤ} {probabilities : List Float} {j : ℕ} (k : ℕ) → KnownAt s nodes probabilities j → KnownAt (at_place s k) nodes probabilities j
known-place {s} {nodes} {probabilities} {j} k a =
    record {
      transition = a.transition;
      made = transition-place s k (get_or nodes (2 * j) (pos 0)) a.transition a.made;
      middle = a.middle;
      down = a.down;
      mid = a.mid;
      up = a.up;
    }

-- ---- what a layer that was grown leaves

known_more : {s : Step} {n m : ℤ} {d p u : Float} {nodes : List ℤ} {probabilities : List Float} {j : ℕ} → KnownAt s nodes probabilities j → KnownAt s (n ∷ m ∷ nodes) (d ∷ p ∷ u ∷ probabilities) (suc j)
known_more {s} {n} {m} {d} {p} {u} {nodes} {probabilities} {j} a =
    let e : 2 * suc j ≡ suc (suc (2 * j)) = omega arith in
    let f : 2 * suc j + 1 ≡ suc (suc (2 * j + 1)) = omega arith in
    let g : 3 * suc j ≡ suc (suc (suc (3 * j))) = omega arith in
    let h : 3 * suc j + 1 ≡ suc (suc (suc (3 * j + 1))) = omega arith in
    let i : 3 * suc j + 2 ≡ suc (suc (suc (3 * j + 2))) = omega arith in
    record {
      transition = a.transition;
      made = ap (λ (z : ℕ). transition_of s (get_or (n ∷ m ∷ nodes) z (pos 0))) e ∙ a.made;
      middle = ap (λ (z : ℕ). get_or (n ∷ m ∷ nodes) z (pos 0)) f ∙ a.middle;
      down = ap (λ (z : ℕ). get_or (d ∷ p ∷ u ∷ probabilities) z nan) g ∙ a.down;
      mid = ap (λ (z : ℕ). get_or (d ∷ p ∷ u ∷ probabilities) z nan) h ∙ a.mid;
      up = ap (λ (z : ℕ). get_or (d ∷ p ∷ u ∷ probabilities) z nan) i ∙ a.up;
    }

known_cons : {s : Step} {n : ℤ} {nodes : List ℤ} {probabilities : List Float} (c : ℕ) (t : Transition) → transition_of s n ≡ Ok t → ((i : ℕ) → i < c → KnownAt s nodes probabilities i) → (j : ℕ) → j < suc c
    → KnownAt s (n ∷ t.middle ∷ nodes) (t.probability_down ∷ t.probability_middle ∷ t.probability_up ∷ probabilities) j
known_cons c t m more zero h = record { transition = t; made = m; middle = refl; down = refl; mid = refl; up = refl }
known_cons c t m more (suc j) h = known_more (more j (omega arith))

transitions_first : (s : Step) (n : ℤ) (ns : List ℤ) → transitions_of s (n ∷ ns) ≡ follow (transition_of s n) λ t. follow (transitions_of s ns) λ ts. Ok (t ∷ ts)
unfolding transitions_of
transitions_first s n ns = refl

-- A first node, and the others.
record Parted (s : Step) (n : ℤ) (ns : List ℤ) (ts : List Transition) : Type 0 where
  first : Transition
  others : List Transition
  is : transition_of s n ≡ Ok first
  are : transitions_of s ns ≡ Ok others
  all : first ∷ others ≡ ts

parted : (s : Step) (n : ℤ) (ns : List ℤ) (ts : List Transition) → transitions_of s (n ∷ ns) ≡ Ok ts → Parted s n ns ts
parted s n ns ts e =
    let k : Transition → Outcome (List Transition) = λ t. follow (transitions_of s ns) λ us. Ok (t ∷ us) in
    let p = of_given (transition_of s n) k (sym (transitions_first s n ns) ∙ e) in
    let q = of_given (transitions_of s ns) (λ us. Ok (p.0 ∷ us)) p.2 in
    record { first = p.0; others = q.0; is = p.1; are = q.1; all = same_given q.2 }

known_list : (s : Step) (ns : List ℤ) (ts : List Transition) (rest : List ℤ) (restP : List Float) → transitions_of s ns ≡ Ok ts → (j : ℕ) → j < length ns → KnownAt s (pairs_of ns ts ++ rest) (threes_of ts ++ restP) j
unfolding pairs_of threes_of
known_list s [] ts rest restP e j h = absurd (omega arith)
known_list s (n ∷ ns) ts rest restP e j h =
    let p = parted s n ns ts e in
    rw (← p.all) (known_cons (length ns) p.first p.is (λ i l. known_list s ns p.others rest restP p.are i l) j h)

known_in : {after : List ℤ} {afterP : List Float} (s : Step) (ns : List ℤ) (ts : List Transition) (rest : List ℤ) (restP : List Float) → after ≡ pairs_of ns ts ++ rest → afterP ≡ threes_of ts ++ restP → transitions_of s ns ≡ Ok ts
    → (j : ℕ) → j < length ns → KnownAt s after afterP j
known_in s ns ts rest restP a b e j h = rw (a, b) (known_list s ns ts rest restP e j h)

cond-given : {A : Type 0} (b : Bool) (x y : A) (why : Reason) (p : ℕ) → cond b (Ok x) (refusal why p) ≡ Ok y → x ≡ y
cond-given true x y why p e = same_given e
cond-given false x y why p e = absurd (given_or_refused e refl)

-- A step's transitions, where a layer grew.
record Grown (decay spacing v : Float) (numbers : List ℤ) (k : ℕ) (ts : List Transition) : Type 0 where
  step : Step
  is : step_of spacing decay v k ≡ Ok step
  made : transitions_of step numbers ≡ Ok ts

grown_by : (room : Room) (decay spacing v : Float) (numbers : List ℤ) (k : ℕ) (g : Grew) → grown_next room decay spacing numbers k v ≡ Ok g → Grown decay spacing v numbers k g.transitions
unfolding grown_next
grown_by room decay spacing v numbers k g e =
    let p = of_given (step_of spacing decay v k) _ e in
    let q = of_given (transitions_of p.0 numbers) _ p.2 in
    let ts = q.0 in
    let w = cond-given (fits room (length numbers + length (destinations ts)) (length (destinations ts))) _ g reason.NoRoom (suc k) q.2 in
    record { step = p.0; is = p.1; made = q.1 ∙ ap (λ (z : Grew). Ok z.transitions) w }

-- ---- the layer before

-- The layer of c nodes in front was made with this spacing and variance.
pub record Before (decay spacing variance : Float) (c : ℕ) (nodes : List ℤ) (probabilities : List Float) : Type 0 where
  pub known : (k : ℕ) (s : Step) → step_of spacing decay variance k ≡ Ok s → Known s c nodes probabilities

pub before-none : (decay spacing variance : Float) (nodes : List ℤ) (probabilities : List Float) → Before decay spacing variance 0 nodes probabilities
before-none decay spacing variance nodes probabilities = record { known = λ k s e. known-none s nodes probabilities }

module _ (one two c step : ℕ) (decay spacing v : Float) (before after : List ℤ) (beforeP afterP : List Float) (f : Front c spacing decay before beforeP) (new : Float) (n : ℕ)
    (l : GrownLayer (grown_next (room_left before beforeP one two) decay spacing (numbers_of c before) step v) c (Ok (record { spacing = new; count = n })) before after beforeP afterP) where
  pub before-grown : Before decay spacing v c after afterP
  before-grown = record { known = known }
    where
      known : (k : ℕ) (s : Step) → step_of spacing decay v k ≡ Ok s → Known s c after afterP
      known k s e =
          let g = grows one two c step decay spacing v before after beforeP afterP f new n l in
          let w = by one two c step decay spacing v before after beforeP afterP f new n l in
          let o = grown_by (room_left before beforeP one two) decay spacing v (numbers_of c before) step g.grew g.is in
          let same : at_place o.step k ≡ s = same_given (sym (step-place spacing decay v step k o.step o.is) ∙ e) in
          let many = numbers-there f in
          rw (← same)
          (record {
            pairs = omega (arith, f.pairs, l.kept);
            threes = omega (arith, f.threes, l.kept_too);
            each = λ j h. known-place {s = o.step} k (known_in o.step (numbers_of c before) g.grew.transitions _ _ w.nodes w.probabilities o.made j (omega arith));
          })

-- ---- how many of its nodes are known

-- Where r says so, a and b have the same bits.
pub record SameWhere (r : Bool) (a b : Float) : Type 0 where
  pub same : r ≡ true → a ≡ b

pub same_above : (a b : Float) → T (ieee.fits binary64 a) → T (ieee.fits binary64 b) → lt plus_zero a ≡ true → lt plus_zero b ≡ true → SameWhere (eq a b) a b
same_above a b p q h k = record { same = λ e. same_of_eq binary64 false a b p q (signed_of-positive a (rw h tt)) (signed_of-positive b (rw k tt)) (rw e tt) }

pub not_same : (a b : Float) → SameWhere false a b
not_same a b = record { same = λ e. let z : ◌≡◌ {A = ℕ} 0 1 = cc in absurd (omega arith) }

-- All, where spacing and variance are the same; else none.
pub data KnownCount (c : ℕ) (was spacing was-variance variance : Float) : ℕ → Type 0 where
  none-known : KnownCount c was spacing was-variance variance 0
  all_known : spacing ≡ was → variance ≡ was-variance → KnownCount c was spacing was-variance variance c

pub known_of : {c n : ℕ} {decay was spacing was-variance variance : Float} {s : Step} {nodes : List ℤ} {probabilities : List Float} → KnownCount c was spacing was-variance variance n
    → Before decay was was-variance c nodes probabilities → (k : ℕ) → step_of spacing decay variance k ≡ Ok s → Known s n nodes probabilities
known_of {s = s} {nodes = nodes} {probabilities = probabilities} none-known b k e = known-none s nodes probabilities
known_of {s = s} (all_known p q) b k e = b.known k s (rw (p, q) at e)

pub known-few : {c n : ℕ} {was spacing was-variance variance : Float} → KnownCount c was spacing was-variance variance n → n ≤ c
known-few none-known = omega arith
known-few (all_known p q) = omega arith
