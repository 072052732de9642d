-- A layer that is filled, and the next one laid behind it: together what growing promises. Assumes nothing.
use Prim.Native.Nat.{ℕ, suc, ◌+◌, ◌*◌}
use Rattle.std.proofs.Common.{arith, sym, ap}
use Rattle.std.specs.Prelude.{◌≡◌, refl, Bool, true, false, cond, List, ◌++◌, drop, ℤ, Float, Ok, Err}
use Rattle.std.proofs.Math.ListN.{length}
use Rattle.floats.specs.Refusals.{Refusal}
use Rattle.floats.specs.Answers.{Outcome, follow, on_outcome}
use Rattle.terms.specs.laws.Outcomes.{same_given, given_or_refused}
use Rattle.hullwhite.specs.laws.Filled.{check_of}
use Rattle.lattice.specs.declared.NextLayer.{NextLayer}
use Rattle.lattice.specs.Layers.{Room}
use Rattle.lattice.specs.Transitions.{Step}
use Rattle.lattice.specs.Lattice.{step_of, transitions_of, destinations, with_room}
use Rattle.lattice.specs.laws.Stored.{numbers_in, pairs_of, last_pairs, threes_of}
use Rattle.lattice.specs.laws.FilledLayer.{FilledLayer, numbers_from}
use Rattle.lattice.specs.laws.FrontReads.{numbers-front}
use Rattle.lattice.specs.laws.Laid.{front_nodes}
use Rattle.lattice.specs.laws.Growing.{Grew, size_of, next_outcome, Front, GrownLayer, grown_next}

-- Growing by a step that is made.
unfoldable pub grown_from : Room → Step → List ℤ → Outcome Grew
unfolding transitions_of destinations
grown_from room s nodes =
    follow (transitions_of s nodes) λ ts.
    with_room room (length nodes) (destinations ts) (suc s.place) (Ok (record { spacing = s.new_spacing; transitions = ts }))

-- ---- given or refused

pub grown_by : (b : Bool) (g : Grew) (q : Refusal) (c : ℕ) (r : Outcome NextLayer) (before after : List ℤ) (beforeP afterP : List Float)
    → next_outcome r ≡ cond b (Ok (size_of g)) (Err q)
    → (b ≡ true → after ≡ pairs_of (numbers_in (front_nodes c before)) g.transitions ++ (last_pairs (destinations g.transitions) ++ drop ((c + length (destinations g.transitions)) * 2) before))
    → afterP ≡ threes_of g.transitions ++ drop (c * 3) beforeP
    → length after ≡ length before
    → length afterP ≡ length beforeP
    → GrownLayer (cond b (Ok g) (Err q)) c r before after beforeP afterP
unfolding on_outcome
grown_by true g q c r before after beforeP afterP e n p k l = record { outcome = e; nodes = λ o h. rw (← same_given h) (n refl); probabilities = λ o h. rw (← same_given h) p; kept = k; kept_too = l }
grown_by false g q c r before after beforeP afterP e n p k l =
    record { outcome = e; nodes = λ o h. absurd (given_or_refused h refl); probabilities = λ o h. absurd (given_or_refused h refl); kept = k; kept_too = l }

-- A refusal met on the way.
pub grown-refused : {o : Outcome Grew} (q : Refusal) (c : ℕ) (before after : List ℤ) (beforeP afterP : List Float) → o ≡ Err q → length after ≡ length before → length afterP ≡ length beforeP → GrownLayer o c (Err q) before after beforeP afterP
unfolding next_outcome on_outcome
grown-refused {o} q c before after beforeP afterP e k l =
    record { outcome = rw e; nodes = λ g h. absurd (given_or_refused h e); probabilities = λ g h. absurd (given_or_refused h e); kept = k; kept_too = l }

refused_of : {A : Type 0} {q : Refusal} (o : Outcome A) → Err q ≡ check_of o → o ≡ Err q
unfolding check_of
refused_of (Ok x) e = let z : ◌≡◌ {A = ℕ} 0 1 = cc in absurd (omega arith)
refused_of {q = q} (Err r) e = let z : q ≡ r = cc in ap Err (sym z)

-- A node's refusal.
pub grown-stopped : {s : Step} {c : ℕ} {q : Refusal} {spacing decay : Float} {before mid : List ℤ} {beforeP midP : List Float} (room : Room) → Front c spacing decay before beforeP → FilledLayer s c (Err q) before mid beforeP midP
    → GrownLayer (grown_from room s (numbers_in (front_nodes c before))) c (Err q) before mid beforeP midP
unfolding grown_from on_outcome
grown-stopped {s} {c} {q} {spacing} {decay} {before} {mid} {beforeP} {midP} room front f =
    let e = numbers-front before c front.pairs in
    let m : transitions_of s (numbers_in (front_nodes c before)) ≡ Err q = rw e at (refused_of (transitions_of s (numbers_from before 0 c)) f.outcome) in
    grown-refused q c before mid beforeP midP (rw m) f.kept f.kept_too

-- ---- by the step

pub next_given : {s : Step} (room : Room) (decay spacing : Float) (nodes : List ℤ) (v : Float) → step_of spacing decay v s.place ≡ Ok s → grown_next room decay spacing nodes s.place v ≡ grown_from room s nodes
unfolding grown_next grown_from on_outcome
next_given room decay spacing nodes v e = rw e

pub next_refused : {q : Refusal} (room : Room) (decay spacing : Float) (nodes : List ℤ) (k : ℕ) (v : Float) → step_of spacing decay v k ≡ Err q → grown_next room decay spacing nodes k v ≡ Err q
unfolding grown_next on_outcome
next_refused room decay spacing nodes k v e = rw e

-- ---- the next layer behind it
