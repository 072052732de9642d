-- A tree grown over a room of which some is used: it is the tree grown over the room that is left; and a step of it, then the rest. Assumes nothing.
use Rattle.std.specs.Prelude.{ℕ, suc, ◌+◌, ◌-◌, ◌*◌, ◌≤◌, ◌≡◌, Bool, true, false, cond, ℤ, Float, Ok, Err}
use Rattle.std.proofs.Common.{arith, sym, ◌∙◌}
use Rattle.std.proofs.Math.Nat.{add_assoc}
use Rattle.std.proofs.Math.Path.{refl}
use mathlib.Core.List.{List, [], ◌∷◌}
use Rattle.std.proofs.Math.ListN.{length}
use Rattle.floats.specs.declared.Reason.{Reason}
use Rattle.floats.specs.Answers.{Outcome, follow, on_outcome, refusal}
use Rattle.floats.specs.declared.Reason.TheVariants as reason
use Rattle.lattice.specs.declared.Transition.{Transition}
use Rattle.lattice.specs.Layers.{Room, fits}
use Rattle.lattice.specs.Lattice.{Lattice, transitions_of, destinations, step_of, grown}
use Rattle.lattice.specs.laws.RoomTest.{room_behind, leb_same}
use Rattle.lattice.specs.laws.Binds.{follow-follow}
use Rattle.lattice.specs.laws.Growing.{Grew, grown_next}

-- So many nodes fit both slices.
pub record Used (room : Room) (used : ℕ) : Type 0 where
  pub pairs : 2 * used ≤ room.nodes
  pub threes : 3 * used ≤ room.probabilities

pub fits-part : (room : Room) (used all layer : ℕ) → Used room used → fits room (used + all) layer ≡ fits (room_behind room used) all layer
fits-part room used all layer u =
    let p = u.pairs in
    let q = u.threes in
    rw (
      leb_same (2 * (used + all)) room.nodes (2 * all) (room.nodes - 2 * used) (λ h. omega arith) (λ h. omega arith),
      leb_same (3 * (used + all)) room.probabilities (3 * all) (room.probabilities - 3 * used) (λ h. omega arith) (λ h. omega arith),
    )

follow_same : {A B : Type 0} (o : Outcome A) (k l : A → Outcome B) → ((x : A) → k x ≡ l x) → follow o k ≡ follow o l
unfolding on_outcome
follow_same (Ok x) k l h = h x
follow_same (Err r) k l h = refl

module _ (room : Room) (used : ℕ) (u : Used room used) (decay : Float) where
  pub grown-part : (spacing : Float) (before : ℕ) (nodes : List ℤ) (k : ℕ) (vs : List Float) → grown room decay spacing (used + before) nodes k vs ≡ grown (room_behind room used) decay spacing before nodes k vs
  unfolding grown
  grown-part spacing before nodes k [] = refl
  grown-part spacing before nodes k (v ∷ vs) =
      follow_same (step_of spacing decay v k) _ _ λ s.
      follow_same (transitions_of s nodes) _ _ λ ts.
      let b = before + length nodes in
      rw (add_assoc used before (length nodes), add_assoc used b (length (destinations ts)), fits-part room used (b + length (destinations ts)) (length (destinations ts)) u, grown-part s.new_spacing b (destinations ts) (suc k) vs)

-- A layer in front of the others.
abbrev pub in_front : List ℤ → List Transition → Float → Lattice → Lattice
in_front nodes ts spacing rest = record { layers = record { nodes = nodes; transitions = ts; spacing = spacing } ∷ rest.layers; final = rest.final }

cond-follow : {A B : Type 0} (b : Bool) (x : A) (why : Reason) (p : ℕ) (k : A → Outcome B) → follow (cond b (Ok x) (refusal why p)) k ≡ cond b (k x) (refusal why p)
unfolding on_outcome
cond-follow true x why p k = refl
cond-follow false x why p k = refl

-- One step, then the others over the room behind its layer.
pub grown_more : (room : Room) (decay spacing : Float) (nodes : List ℤ) (k : ℕ) (v : Float) (vs : List Float) → Used room (length nodes)
    → grown room decay spacing 0 nodes k (v ∷ vs)
    ≡ follow (grown_next room decay spacing nodes k v) λ g. follow (grown (room_behind room (length nodes)) decay g.spacing 0 (destinations g.transitions) (suc k) vs) λ rest. Ok (in_front nodes g.transitions spacing rest)
unfolding grown grown_next
grown_more room decay spacing nodes k v vs u =
    let after : Grew → Outcome Lattice = λ g. follow (grown (room_behind room (length nodes)) decay g.spacing 0 (destinations g.transitions) (suc k) vs) λ rest. Ok (in_front nodes g.transitions spacing rest) in
    let y : length nodes + 0 ≡ length nodes = omega arith in
    let z : 0 + length nodes ≡ length nodes = omega arith in
    sym
    (follow-follow after (step_of spacing decay v k) _ _ λ s.
    follow-follow after (transitions_of s nodes) _ _ λ ts.
    cond-follow (fits room (length nodes + length (destinations ts)) (length (destinations ts))) _ reason.NoRoom (suc k) after
    ∙ rw (z, ← grown-part room (length nodes) u decay s.new_spacing 0 (destinations ts) (suc k) vs, y))
