-- A loop that fills a layer node by node: what is left to do gives the whole. Assumes nothing.
use Rattle.std.specs.Prelude.{ℕ, suc, ◌+◌, ◌-◌, ◌*◌, ◌≤◌, ◌<◌, refl, length, get_or, drop, set, ℤ, pos, Float, Ok, Err}
use native.Mathlib.Omega.{arith}
use Rattle.std.proofs.Math.Path.{◌≡◌}
use Rattle.std.proofs.Common.{sym, ap, ◌∙◌, length-append, length-drop, get_or-append-add, get_or-drop}
use mathlib.Core.List.{List, [], ◌∷◌, ◌++◌, append-nil}
use Rattle.std.proofs.Math.Seq.{append_snoc}
use Rattle.floats.specs.Refusals.{Refusal}
use Rattle.floats.specs.Answers.{plus_zero, Outcome, follow, on_outcome}
use Rattle.hullwhite.specs.laws.Filled.{check_of}
use Rattle.lattice.specs.declared.Transition.{Transition}
use Rattle.lattice.specs.Transitions.{Step, transition_of}
use Rattle.lattice.specs.Lattice.{transitions_of}
use Rattle.lattice.specs.laws.Bounds.{Within}
use Rattle.lattice.specs.laws.Middles.{transition_from}
use Rattle.terms.specs.laws.Outcomes.{same_given, given_of}
use Rattle.lattice.specs.laws.Stored.{pairs_of, threes_of}
use Rattle.lattice.specs.laws.StoredAt.{get_d_inside, two_more, three_more}
use Rattle.lattice.specs.laws.Counting.{left_over}
use Rattle.lattice.specs.laws.FilledLayer.{FilledLayer, numbers_from, numbers_more, numbers-count, pairs_more, pairs-count, threes_more, threes-count, set-second, set_three}

onto-given : {A : Type 0} (o : Outcome (List A)) → follow o (λ rest. Ok ([] ++ rest)) ≡ o
unfolding on_outcome
onto-given (Ok x) = refl
onto-given (Err r) = refl

onto_more : {A : Type 0} (done : List A) (t : A) (o : Outcome (List A)) → follow (follow o λ ts. Ok (t ∷ ts)) (λ rest. Ok (done ++ rest)) ≡ follow o (λ rest. Ok ((done ++ (t ∷ [])) ++ rest))
unfolding on_outcome
onto_more done t (Ok xs) = ap Ok (sym (append_snoc done t xs))
onto_more done t (Err r) = refl

module _ (s : Step) (count : ℕ) (before : List ℤ) (beforeP : List Float) where
  pub record FillingLayer (after : List ℤ) (afterP : List Float) (i : ℕ) : Type 0 where
    pub done : List Transition
    pub many : length done ≡ i
    pub within : i ≤ count
    pub room : 2 * count ≤ length before
    pub room_too : 3 * count ≤ length beforeP
    pub same : follow (transitions_of s (numbers_from before i (count - i))) (λ rest. Ok (done ++ rest)) ≡ transitions_of s (numbers_from before 0 count)
    pub nodes : after ≡ pairs_of (numbers_from before 0 i) done ++ drop (2 * i) before
    pub probabilities : afterP ≡ threes_of done ++ drop (3 * i) beforeP

  pub filling-begun : 2 * count ≤ length before → 3 * count ≤ length beforeP → FillingLayer before beforeP 0
  unfolding numbers_from pairs_of threes_of
  filling-begun h k =
      record {
        done = [];
        many = refl;
        within = omega arith;
        room = h;
        room_too = k;
        same = let e : count - 0 ≡ count = omega arith in rw e (onto-given (transitions_of s (numbers_from before 0 count)));
        nodes = refl;
        probabilities = refl;
      }

  module _ (after : List ℤ) (afterP : List Float) (i : ℕ) (f : FillingLayer after afterP i) where
    pairs-long : length (pairs_of (numbers_from before 0 i) f.done) ≡ 2 * i
    pairs-long = let m = f.many in pairs-count (numbers_from before 0 i) f.done (numbers-count before 0 i ∙ sym m) ∙ ap (λ (n : ℕ). 2 * n) m

    threes-long : length (threes_of f.done) ≡ 3 * i
    threes-long = threes-count f.done ∙ ap (λ (n : ℕ). 3 * n) f.many

    pub after-long : length after ≡ length before
    after-long =
        let w = f.within in
        let r = f.room in
        rw (f.nodes, length-append (pairs_of (numbers_from before 0 i) f.done) (drop (2 * i) before), pairs-long, length-drop (2 * i) before) (omega arith)

    pub after_long_too : length afterP ≡ length beforeP
    after_long_too =
        let w = f.within in
        let r = f.room_too in
        rw (f.probabilities, length-append (threes_of f.done) (drop (3 * i) beforeP), threes-long, length-drop (3 * i) beforeP) (omega arith)

    -- the number read is the one that was there
    pub number_read : (d : ℤ) → i < count → get_or after (2 * i) d ≡ get_or before (2 * i) (pos 0)
    number_read d h =
        let p = pairs_of (numbers_from before 0 i) f.done in
        let e : 2 * i ≡ length p + 0 = rw pairs-long (omega arith) in
        let z : 2 * i + 0 ≡ 2 * i = omega arith in
        let r = f.room in
        ap (λ (l : List ℤ). get_or l (2 * i) d) f.nodes ∙ ap (λ (j : ℕ). get_or (p ++ drop (2 * i) before) j d) e ∙ get_or-append-add p (drop (2 * i) before) 0 d ∙ get_or-drop (2 * i) before 0 d ∙ ap (λ (j : ℕ). get_or before j d) z ∙ get_d_inside before (2 * i) d (pos 0) (omega arith)

    turned : (t : Transition) → i < count → transition_of s (get_or before (2 * i) (pos 0)) ≡ Ok t
        → follow (follow (transitions_of s (numbers_from before (i + 1) (count - (i + 1)))) λ ts. Ok (t ∷ ts)) (λ rest. Ok (f.done ++ rest))
        ≡ transitions_of s (numbers_from before 0 count)
    unfolding numbers_from transitions_of on_outcome
    turned t h e = rw (left_over h, e) at f.same

    pub filling-refused : {q : Refusal} → i < count → transition_of s (get_or before (2 * i) (pos 0)) ≡ Err q → FilledLayer s count (Err q) before after beforeP afterP
    unfolding numbers_from transitions_of on_outcome check_of
    filling-refused {q} h e =
        let w : Err q ≡ transitions_of s (numbers_from before 0 count) = rw (left_over h, e) at f.same in
        record {
          outcome = rw (← w);
          nodes = λ ts g. let z : ◌≡◌ {A = ℕ} 0 1 = cc in absurd (omega arith);
          probabilities = λ ts g. let z : ◌≡◌ {A = ℕ} 0 1 = cc in absurd (omega arith);
          kept = after-long;
          kept_too = after_long_too;
        }

    pub filling_all : count ≤ i → FilledLayer s count (Ok tt) before after beforeP afterP
    unfolding numbers_from transitions_of on_outcome check_of
    filling_all h =
        let i-is : i ≡ count = let w = f.within in omega arith in
        let z : count - i ≡ 0 = omega arith in
        let w : Ok (f.done ++ []) ≡ transitions_of s (numbers_from before 0 count) = rw z at f.same in
        record {
          outcome = rw (← w);
          nodes = λ ts g. let d : f.done ++ [] ≡ ts = same_given (w ∙ g) in f.nodes ∙ (rw (i-is, ← d, append-nil f.done));
          probabilities = λ ts g. let d : f.done ++ [] ≡ ts = same_given (w ∙ g) in f.probabilities ∙ (rw (i-is, ← d, append-nil f.done));
          kept = after-long;
          kept_too = after_long_too;
        }

    pub filling_one : (t : Transition) → i < count → transition_of s (get_or before (2 * i) (pos 0)) ≡ Ok t
        → FillingLayer (set after (2 * i + 1) t.middle) (set (set (set afterP (3 * i) t.probability_down) (3 * i + 1) t.probability_middle) (3 * i + 2) t.probability_up) (i + 1)
    filling_one t h e =
        let r = f.room in
        let q = f.room_too in
        let n = get_or before (2 * i) (pos 0) in
        let p = pairs_of (numbers_from before 0 i) f.done in
        let m = f.many in
        let a : 2 * i + 2 ≡ 2 * (i + 1) = omega arith in
        let b : 3 * i + 3 ≡ 3 * (i + 1) = omega arith in
        let c : i + 1 ≡ suc i = omega arith in
        let g : numbers_from before 0 (i + 1) ≡ numbers_from before 0 i ++ (n ∷ []) = rw c (numbers_more before 0 i ∙ (let z : 0 + i ≡ i = omega arith in rw z)) in
        record {
          done = f.done ++ (t ∷ []);
          many = length-append f.done (t ∷ []) ∙ (omega arith);
          within = omega arith;
          room = r;
          room_too = q;
          same = sym (onto_more f.done t (transitions_of s (numbers_from before (i + 1) (count - (i + 1))))) ∙ turned t h e;
          nodes =
              ap (λ (l : List ℤ). set l (2 * i + 1) t.middle) (f.nodes ∙ ap (λ (l : List ℤ). p ++ l) (two_more (pos 0) before (2 * i) (omega arith)))
              ∙ set-second p n (get_or before (2 * i + 1) (pos 0)) (drop (2 * i + 2) before) (2 * i + 1) t.middle (let z = pairs-long in omega arith)
              ∙ (rw (g, pairs_more (numbers_from before 0 i) f.done n t (numbers-count before 0 i ∙ sym m), a));
          probabilities =
              ap
              (λ (l : List Float). set (set (set l (3 * i) t.probability_down) (3 * i + 1) t.probability_middle) (3 * i + 2) t.probability_up)
              (f.probabilities ∙ ap (λ (l : List Float). threes_of f.done ++ l) (three_more plus_zero beforeP (3 * i) (omega arith)))
              ∙ set_three (threes_of f.done) _ _ _ (drop (3 * i + 3) beforeP) (3 * i) t.probability_down t.probability_middle t.probability_up threes-long
              ∙ (rw (threes_more f.done t, b));
        }

    -- ---- with what the code has in hand

    module _ (made : Outcome Transition) {n : ℤ} (h : i < count) (read : n ≡ get_or before (2 * i) (pos 0)) (ensured : made ≡ transition_of s n) where
      made_is : made ≡ transition_of s (get_or before (2 * i) (pos 0))
      made_is = rw read at ensured

      pub filling-stopped : {q : Refusal} → made ≡ Err q → FilledLayer s count (Err q) before after beforeP afterP
      filling-stopped e = (filling-refused h (sym made_is ∙ (rw e)))

      pub stored-within : {t : Transition} → made ≡ Ok t → Within t.middle
      stored-within {t} e = (given_of {x = t} (transition_from s (get_or before (2 * i) (pos 0))) (sym made_is ∙ (rw e))).within

      pub filling-stored : {t : Transition} {m : ℤ} → made ≡ Ok t → m ≡ t.middle
          → FillingLayer (set after (2 * i + 1) m) (set (set (set afterP (3 * i) t.probability_down) (3 * i + 1) t.probability_middle) (3 * i + 2) t.probability_up) (i + 1)
      filling-stored {t} e k = rw k (filling_one t h (sym made_is ∙ (rw e)))
