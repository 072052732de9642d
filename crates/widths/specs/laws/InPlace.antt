-- A loop that puts a layer's middles into the places of its nodes: the first i are there, and what is left gives the whole. Assumes nothing.
use Rattle.std.specs.Prelude.{ℕ, suc, ◌+◌, ◌≤◌, ◌<◌, ◌≡◌, refl, length, get_or, set, ℤ, pos, Float, Ok, Err}
use Rattle.std.proofs.Common.{add-one, add-zero, sym, ap, ◌∙◌, length-set, take-append-drop, take-suc-set, drop-set-lt, drop-drop, get_or-drop}
use native.Mathlib.Omega.{arith}
use mathlib.Core.List.{List, [], ◌∷◌, ◌++◌, append-nil}
use Rattle.std.proofs.Math.ListN.{take, drop}
use Rattle.std.proofs.Math.Seq.{append_snoc}
use Rattle.floats.specs.Refusals.{Refusal}
use Rattle.floats.specs.Answers.{Check, Outcome, plus_zero, follow, on_outcome}
use Rattle.lattice.specs.declared.Middle.{Middle}
use Rattle.lattice.specs.Transitions.{middle_of}
use Rattle.lattice.specs.laws.Bounds.{Within}
use Rattle.lattice.specs.laws.Making.{step_from}
use Rattle.lattice.specs.laws.Middles.{middle_from}
use Rattle.terms.specs.laws.Outcomes.{given_of, follow-given, follow-refused, same_given, given_or_refused}
use Rattle.hullwhite.specs.laws.Filled.{check_of}
use Rattle.widths.specs.Widths.{middle_nodes}
use Rattle.widths.specs.laws.LeftOver.{left_from, left_first, left_cons, left_none}

-- The middles stand in front of the slice; the rest of it is as before.
pub record FilledInPlace (spacing decay new : Float) (place count : ℕ) (r : Check) (before after : List ℤ) : Type 0 where
  pub outcome : r ≡ check_of (middle_nodes spacing decay new place (take count before))
  pub row : (ms : List ℤ) → middle_nodes spacing decay new place (take count before) ≡ Ok ms → after ≡ ms ++ drop count before
  pub kept : length after ≡ length before

-- A list in front of what is given.
unfoldable pub onto : List ℤ → Outcome (List ℤ) → Outcome (List ℤ)
onto xs (Ok ys) = Ok (xs ++ ys)
onto xs (Err r) = Err r

nothing-onto : (o : Outcome (List ℤ)) → onto [] o ≡ o
unfolding onto
nothing-onto (Ok xs) = refl
nothing-onto (Err r) = refl

one_onto : (xs : List ℤ) (m : ℤ) (o : Outcome (List ℤ)) → onto (xs ++ (m ∷ [])) o ≡ onto xs (follow o λ ms. Ok (m ∷ ms))
unfolding onto on_outcome
one_onto xs m (Ok ys) = ap Ok (append_snoc xs m ys)
one_onto xs m (Err r) = refl

module _ (spacing decay new : Float) (place count : ℕ) (before : List ℤ) where
  abbrev whole : List ℤ → Outcome (List ℤ)
  whole ns = middle_nodes spacing decay new place ns

  pub record InPlace (after : List ℤ) (i : ℕ) : Type 0 where
    pub within : i ≤ count
    pub room : count ≤ length before
    pub same : onto (take i after) (middle_nodes spacing decay new place (left_from before count i)) ≡ middle_nodes spacing decay new place (take count before)
    pub tail : drop i after ≡ drop i before
    pub kept : length after ≡ length before

  pub in_place_begun : count ≤ length before → InPlace before 0
  in_place_begun h = record { within = omega arith; room = h; same = rw (left_first before count) (nothing-onto (whole (take count before))); tail = refl; kept = refl }

  module _ (after : List ℤ) (i : ℕ) (f : InPlace after i) where
    pub node-read : get_or after i (pos 0) ≡ get_or before i (pos 0)
    node-read =
        let a : get_or (drop i after) 0 (pos 0) ≡ get_or after i (pos 0) = rw (add-zero i) at (get_or-drop i after 0 (pos 0)) in
        let b : get_or (drop i before) 0 (pos 0) ≡ get_or before i (pos 0) = rw (add-zero i) at (get_or-drop i before 0 (pos 0)) in
        sym a ∙ ap (λ (l : List ℤ). get_or l 0 (pos 0)) f.tail ∙ b

    left_is : i < count → middle_nodes spacing decay new place (left_from before count i) ≡ follow (middle_of spacing decay new place (get_or before i (pos 0))) λ m. follow (middle_nodes spacing decay new place (left_from before count (i + 1))) λ ms. Ok (m.node ∷ ms)
    unfolding middle_nodes
    left_is h = rw (left_cons before count i f.room h)

    pub in_place_stopped : {q : Refusal} (m : Outcome Middle) → i < count → m ≡ middle_of spacing decay new place (get_or after i (pos 0)) → m ≡ Err q → FilledInPlace spacing decay new place count (Err q) before after
    unfolding onto check_of
    in_place_stopped {q} m h e g =
        let o : middle_of spacing decay new place (get_or before i (pos 0)) ≡ Err q = rw (node-read, g) at (sym e) in
        let w : Err q ≡ whole (take count before) = rw (left_is h, follow-refused _ _ o) at f.same in
        record {
          outcome = rw (← w);
          row = λ ms p. absurd (given_or_refused p (sym w));
          kept = f.kept;
        }

    -- The middle that is made can be stored.
    pub in_place_held : (m : Outcome Middle) (z : Middle) → m ≡ middle_of spacing decay new place (get_or after i (pos 0)) → m ≡ Ok z → Within z.node
    in_place_held m z e g = (given_of (middle_from (step_from spacing decay new plus_zero plus_zero place) (get_or after i (pos 0))) (rw g at (sym e))).within

    pub in_place_one : (m : Outcome Middle) (z : Middle) → i < count → m ≡ middle_of spacing decay new place (get_or after i (pos 0)) → m ≡ Ok z → InPlace (set after i z.node) (i + 1)
    in_place_one m z h e g =
        let o : middle_of spacing decay new place (get_or before i (pos 0)) ≡ Ok z = rw (node-read, g) at (sym e) in
        let l = f.room in
        let b : i < length after = omega (arith, f.kept) in
        record {
          within = omega arith;
          room = f.room;
          same = rw (add-one i, take-suc-set after i z.node b, one_onto (take i after) z.node (whole (left_from before count (suc i))), ← add-one i) (rw (left_is h, follow-given _ _ o) at f.same);
          tail = drop-set-lt (i + 1) after i z.node (omega arith) ∙ sym (drop-drop 1 i after) ∙ ap (drop 1) f.tail ∙ drop-drop 1 i before;
          kept = rw (length-set after i z.node) f.kept;
        }

    pub in_place_all : count ≤ i → FilledInPlace spacing decay new place count (Ok tt) before after
    unfolding onto check_of middle_nodes
    in_place_all h =
        let l = f.room in
        let j = f.within in
        let n : i ≡ count = omega arith in
        let w : Ok (take i after ++ []) ≡ middle_nodes spacing decay new place (take count before) = rw (left_none before count i h) at f.same in
        record { outcome = rw (← w); row = λ ms p. at_end ms (w ∙ p) n; kept = f.kept }
      where
        at_end : (ms : List ℤ) → ◌≡◌ {A = Outcome (List ℤ)} (Ok (take i after ++ [])) (Ok ms) → i ≡ count → after ≡ ms ++ drop count before
        at_end ms e n =
            let p : take i after ++ [] ≡ ms = same_given e in
            rw (← p, append-nil, ← n, ← f.tail) (sym (take-append-drop i after))
