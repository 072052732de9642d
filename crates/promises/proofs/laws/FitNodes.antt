-- At every step of the fit the row has the layer's nodes. Assumes nothing.
use Prim.Native.Nat.{ℕ, zero, suc, ◌+◌}
use Rattle.std.proofs.Common.{arith, sym, ap, subst, ◌∙◌}
use Rattle.std.specs.Prelude.{◌≡◌, Bool, true, false, cond, ℤ, Float, Ok}
use Rattle.std.proofs.Math.Path.{refl}
use mathlib.Core.List.{List, [], ◌∷◌}
use Rattle.std.proofs.Math.ListN.{length}
use Rattle.std.specs.Float.{binary64}
use Rattle.std.specs.Float.Ieee.{add, mul, neg}
use Rattle.elementary.specs.Exponential.{exp_at}
use Rattle.floats.specs.Answers.{when_finite, follow}
use Rattle.terms.specs.laws.Outcomes.{Gives, gives, nothing, given_of, gives-follow, gives-known, gives-valued, gives-finite, gives-cond}
use Rattle.lattice.specs.declared.Transition.{Transition}
use Rattle.lattice.specs.Layers.{below, insert, At, node_float, Room, fits}
use Rattle.lattice.specs.Transitions.{Step, transition_of}
use Rattle.lattice.specs.Lattice.{Layer, Lattice, transitions_of, destinations, step_of, spacing_of, decay_of, grown, root_layer, flat_layer, flat, curved, all_flat, lattice}
use Rattle.forwardinduction.specs.Fit.{contribute, contribute_three, onward}
use Rattle.promises.specs.FitNodes.{nodes_in, ByNode, last, step, FitByNode}
use Rattle.promises.proofs.laws.SortedSets.{neither, either_first}

-- ---- contributions

-- The row that a contribution makes has the sorted set's nodes.
abbrev With : List ℤ → List At → Type 0
With ns row = nodes_in row ≡ ns

contributed : (place : ℕ) (n : ℤ) (x : Float) (row : List At) → Gives (With (insert n (nodes_in row))) (contribute place n x row)
unfolding contribute insert
contributed place n x [] = gives refl
contributed place n x (a ∷ row) = go (below n a.node) (below a.node n) refl refl (contributed place n x row)
  where
    go : (b c : Bool) → below n a.node ≡ b → below a.node n ≡ c → Gives (With (insert n (nodes_in row))) (contribute place n x row)
        → Gives (With (cond b (n ∷ a.node ∷ nodes_in row) (cond c (a.node ∷ insert n (nodes_in row)) (a.node ∷ nodes_in row))))
        (cond b (Ok (record { node = n; value = x } ∷ a ∷ row))
        (cond c
        (follow (contribute place n x row) λ row. Ok (a ∷ row))
        (when_finite (add binary64 a.value x) place λ v. Ok (record { node = n; value = v } ∷ row))))
    go true c p q behind = gives refl
    go false true p q behind = gives-follow _ _ behind λ r h. gives (ap (λ (ns : List ℤ). a.node ∷ ns) h)
    go false false p q behind = gives-finite (add binary64 a.value x) _ _ λ _. gives (ap (λ (z : ℤ). z ∷ nodes_in row) (neither n a.node p q))

-- Down, middle, up.
abbrev three : Transition → List ℤ → List ℤ
three t ns = insert t.up (insert t.middle (insert t.down ns))

contributed_three : (place : ℕ) (t : Transition) (price : Float) (row : List At) → Gives (With (three t (nodes_in row))) (contribute_three place t price row)
contributed_three place t price row =
    let d = mul binary64 price t.probability_down in
    let m = mul binary64 price t.probability_middle in
    let u = mul binary64 price t.probability_up in
    gives-finite d _ _ λ _.
    gives-follow _ _ (contributed place t.down d row) λ r h.
    gives-finite m _ _ λ _.
    gives-follow _ _ (contributed place t.middle m r) λ s k.
    gives-finite u _ _ λ _. rw (← h, ← k) (contributed place t.up u s)

-- All that a layer's transitions reach, node rising.
unfoldable reached : List Transition → List ℤ → List ℤ
unfolding insert
reached [] ns = ns
reached (t ∷ ts) ns = reached ts (three t ns)

onward-reaches : (spacing dt shift : Float) (place : ℕ) (ts : List Transition) (row next : List At) → length row ≡ length ts → Gives (With (reached ts (nodes_in next))) (onward spacing dt shift place ts row next)
unfolding onward reached
onward-reaches spacing dt shift place [] row next e = gives refl
onward-reaches spacing dt shift place (t ∷ ts) [] next e = absurd (omega arith)
onward-reaches spacing dt shift place (t ∷ ts) (a ∷ row) next e =
    let state = mul binary64 spacing (node_float a.node) in
    let rate = add binary64 shift state in
    let x = mul binary64 rate (neg dt) in
    gives-finite state _ _ λ _.
    gives-finite rate _ _ λ _.
    gives-finite x _ _ λ _.
    gives-valued (exp_at x place) _ λ discount.
    let price = mul binary64 a.value discount in
    gives-finite price _ _ λ _.
    gives-follow _ _ (contributed_three place t price next) λ r h. rw (← h) (onward-reaches spacing dt shift place ts row r (omega arith))

-- ---- they are the destinations

reached_more : (ts : List Transition) (n : ℤ) (ns : List ℤ) → reached ts (insert n ns) ≡ insert n (reached ts ns)
unfolding reached
reached_more [] n ns = refl
reached_more (t ∷ ts) n ns =
    ap (reached ts)
    (ap (λ (s : List ℤ). insert t.up (insert t.middle s)) (either_first t.down n ns)
    ∙ ap (insert t.up) (either_first t.middle n (insert t.down ns))
    ∙ either_first t.up n (insert t.middle (insert t.down ns)))
    ∙ reached_more ts n (three t ns)

-- The first and the last may change places.
turned : (a b c : ℤ) (s : List ℤ) → insert a (insert b (insert c s)) ≡ insert c (insert b (insert a s))
turned a b c s = either_first a b (insert c s) ∙ ap (insert b) (either_first a c s) ∙ either_first b c (insert a s)

reached_all : (ts : List Transition) → reached ts [] ≡ destinations ts
unfolding reached destinations
reached_all [] = refl
reached_all (t ∷ ts) =
    reached_more ts t.up (insert t.middle (insert t.down []))
    ∙ ap (insert t.up) (reached_more ts t.middle (insert t.down []))
    ∙ ap (λ (s : List ℤ). insert t.up (insert t.middle s)) (reached_more ts t.down [])
    ∙ ap (λ (s : List ℤ). three t s) (reached_all ts)
    ∙ turned t.up t.middle t.down (destinations ts)

-- ---- layer by layer

-- Each layer's nodes are the destinations of the one before.
data Linked (final : List ℤ) : List ℤ → List Layer → Type 0 where
  done : Linked final final []
  link : {ts : List Transition} {nodes : List ℤ} {spacing : Float} {layers : List Layer}
      → length ts ≡ length nodes
      → Linked final (destinations ts) layers
      → Linked final nodes (record { nodes = nodes; transitions = ts; spacing = spacing } ∷ layers)

record LinkedTree (nodes : List ℤ) (t : Lattice) : Type 0 where
  linked : Linked t.final nodes t.layers

abbrev Long : List ℤ → List Transition → Type 0
Long nodes ts = length ts ≡ length nodes

transitions-long : (s : Step) (nodes : List ℤ) → Gives (Long nodes) (transitions_of s nodes)
unfolding transitions_of
transitions-long s [] = gives refl
transitions-long s (n ∷ nodes) =
    gives-known (transition_of s n) _ λ t _.
    gives-follow _ _ (transitions-long s nodes) λ ts h. gives (omega (arith, h))

module _ (room : Room) where
  grown-linked : (decay spacing : Float) (before : ℕ) (nodes : List ℤ) (k : ℕ) (vs : List Float) → Gives (LinkedTree nodes) (grown room decay spacing before nodes k vs)
  unfolding grown
  grown-linked decay spacing before nodes k [] = gives (record { linked = done })
  grown-linked decay spacing before nodes k (v ∷ vs) =
      gives-known (step_of spacing decay v k) _ λ s _.
      gives-follow _ _ (transitions-long s nodes) λ ts long.
      let next = destinations ts in
      let below = before + length nodes in
      gives-cond (fits room (below + length next) (length next)) _ _
      (gives-follow _ _ (grown-linked decay s.new_spacing below next (suc k) vs) λ rest h. gives (record { linked = link long h.linked }))
      nothing

  flat_next : destinations flat_layer.transitions ≡ root_layer
  unfolding destinations
  flat_next = refl

  flat-linked : (k left : ℕ) → Gives (LinkedTree root_layer) (flat room k left)
  unfolding flat
  flat-linked k zero = gives-cond (fits room (k + 1) 1) _ _ (gives (record { linked = done })) nothing
  flat-linked k (suc left) =
      gives-cond (fits room (k + 1) 1) _ _
      (gives-follow _ _ (flat-linked (suc k) left) λ rest h.
      gives (record { linked = link refl (subst (λ (ns : List ℤ). Linked rest.final ns rest.layers) (sym flat_next) h.linked) }))
      nothing

  curved-linked : (alpha dt : Float) (vs : List Float) → Gives (LinkedTree root_layer) (curved room alpha dt vs)
  unfolding curved
  curved-linked alpha dt [] = gives (record { linked = done })
  curved-linked alpha dt (v ∷ vs) =
      gives-valued (decay_of alpha dt) _ λ decay.
      gives-valued (spacing_of v 0) _ λ spacing. gives-cond (fits room 1 1) _ _ (grown-linked decay spacing 0 root_layer 0 (v ∷ vs)) nothing

  lattice-linked : (alpha dt : Float) (vs : List Float) → Gives (LinkedTree root_layer) (lattice room alpha dt vs)
  unfolding lattice
  lattice-linked alpha dt vs = gives-cond (all_flat vs) _ _ (flat-linked 0 (length vs)) (curved-linked alpha dt vs)

-- ---- the fit

length-nodes : (row : List At) → length (nodes_in row) ≡ length row
length-nodes [] = refl
length-nodes (a ∷ row) = ap suc (length-nodes row)

by_node : (dt : Float) {final : List ℤ} (k : ℕ) (layers : List Layer) (nodes : List ℤ) (row : List At) → Linked final nodes layers → nodes_in row ≡ nodes → ByNode dt final k layers row
by_node dt k _ nodes row done e = last e
by_node dt k _ nodes row (link {ts = ts} {spacing = spacing} {layers = layers} long rest) e =
    step e long λ shift next g.
    let as_many : length row ≡ length ts = sym (length-nodes row) ∙ ap length e ∙ sym long in
    let reaches = given_of (onward-reaches spacing dt shift k ts row [] as_many) g in
    by_node dt (suc k) layers (destinations ts) next rest (reaches ∙ reached_all ts)

-- The row's nodes are the layer's, at every step of every tree.
pub fit_by_node : FitByNode
fit_by_node room alpha dt variances t e = by_node dt 0 t.layers root_layer _ (given_of (lattice-linked room alpha dt variances) e).linked refl
