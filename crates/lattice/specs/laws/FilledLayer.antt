-- What filling a layer leaves: each node's middle beside its number, and its three probabilities; and how a loop gets there. Assumes nothing.
use Rattle.std.specs.Prelude.{ℕ, zero, suc, ◌+◌, ◌*◌, ◌≡◌, refl, List, [], ◌∷◌, ◌++◌, length, get_or, drop, set, ℤ, pos, Float, Ok}
use Rattle.std.proofs.Common.{arith, sym, ap, ◌∙◌, append_assoc, length-append}
use Rattle.std.proofs.lemmas.List.{set_at}
use Rattle.floats.specs.Answers.{Check}
use Rattle.hullwhite.specs.laws.Filled.{check_of}
use Rattle.lattice.specs.declared.Transition.{Transition}
use Rattle.lattice.specs.Transitions.{Step}
use Rattle.lattice.specs.Lattice.{transitions_of}
use Rattle.lattice.specs.laws.Stored.{pairs_of, threes_of}

-- The numbers of k nodes from node i on.
unfoldable pub numbers_from : List ℤ → ℕ → ℕ → List ℤ
numbers_from nodes i zero = []
numbers_from nodes i (suc k) = get_or nodes (2 * i) (pos 0) ∷ numbers_from nodes (i + 1) k

-- The outcome of a layer's transitions, and both parts where they are given.
pub record FilledLayer (s : Step) (count : ℕ) (r : Check) (before after : List ℤ) (beforeP afterP : List Float) : Type 0 where
  pub outcome : r ≡ check_of (transitions_of s (numbers_from before 0 count))
  pub nodes : (ts : List Transition) → transitions_of s (numbers_from before 0 count) ≡ Ok ts → after ≡ pairs_of (numbers_from before 0 count) ts ++ drop (2 * count) before
  pub probabilities : (ts : List Transition) → transitions_of s (numbers_from before 0 count) ≡ Ok ts → afterP ≡ threes_of ts ++ drop (3 * count) beforeP
  pub kept : length after ≡ length before
  pub kept_too : length afterP ≡ length beforeP

-- ---- one node more

pub numbers_more : (l : List ℤ) (i k : ℕ) → numbers_from l i (suc k) ≡ numbers_from l i k ++ (get_or l (2 * (i + k)) (pos 0) ∷ [])
unfolding numbers_from
numbers_more l i zero = let e : i + 0 ≡ i = omega arith in rw e
numbers_more l i (suc k) =
    let e : i + suc k ≡ i + 1 + k = omega arith in
    rw e (ap (λ (z : List ℤ). get_or l (2 * i) (pos 0) ∷ z) (numbers_more l (i + 1) k))

pub numbers-count : (l : List ℤ) (i k : ℕ) → length (numbers_from l i k) ≡ k
unfolding numbers_from
numbers-count l i zero = refl
numbers-count l i (suc k) = ap suc (numbers-count l (i + 1) k)

pub pairs_more : (ns : List ℤ) (ts : List Transition) (n : ℤ) (t : Transition) → length ns ≡ length ts → pairs_of (ns ++ (n ∷ [])) (ts ++ (t ∷ [])) ≡ pairs_of ns ts ++ (n ∷ t.middle ∷ [])
unfolding pairs_of
pairs_more [] [] n t e = refl
pairs_more [] (u ∷ ts) n t e = absurd (omega arith)
pairs_more (m ∷ ns) [] n t e = absurd (omega arith)
pairs_more (m ∷ ns) (u ∷ ts) n t e = ap (λ (l : List ℤ). m ∷ u.middle ∷ l) (pairs_more ns ts n t (omega arith))

pub pairs-count : (ns : List ℤ) (ts : List Transition) → length ns ≡ length ts → length (pairs_of ns ts) ≡ 2 * length ts
unfolding pairs_of
pairs-count [] [] e = refl
pairs-count [] (u ∷ ts) e = absurd (omega arith)
pairs-count (m ∷ ns) [] e = absurd (omega arith)
pairs-count (m ∷ ns) (u ∷ ts) e = let h = pairs-count ns ts (omega arith) in omega arith

pub threes_more : (ts : List Transition) (t : Transition) → threes_of (ts ++ (t ∷ [])) ≡ threes_of ts ++ (t.probability_down ∷ t.probability_middle ∷ t.probability_up ∷ [])
unfolding threes_of
threes_more [] t = refl
threes_more (u ∷ ts) t = ap (λ (l : List Float). u.probability_down ∷ u.probability_middle ∷ u.probability_up ∷ l) (threes_more ts t)

pub threes-count : (ts : List Transition) → length (threes_of ts) ≡ 3 * length ts
unfolding threes_of
threes-count [] = refl
threes-count (u ∷ ts) = let h = threes-count ts in omega arith

-- ---- writing behind what is there

module _ {A : Type 0} where
  pub set-second : (front : List A) (x y : A) (rest : List A) (n : ℕ) (v : A) → length front + 1 ≡ n → set (front ++ (x ∷ y ∷ rest)) n v ≡ (front ++ (x ∷ v ∷ [])) ++ rest
  set-second front x y rest n v e =
      let p : length (front ++ (x ∷ [])) ≡ n = rw (length-append front (x ∷ [])) (omega arith) in
      ap (λ (z : List A). set z n v) (sym (append_assoc front (x ∷ []) (y ∷ rest))) ∙ set_at (front ++ (x ∷ [])) y rest v n p ∙ append_assoc front (x ∷ []) (v ∷ rest) ∙ sym (append_assoc front (x ∷ v ∷ []) rest)

  pub set_three : (front : List A) (x y z : A) (rest : List A) (n : ℕ) (u v w : A) → length front ≡ n → set (set (set (front ++ (x ∷ y ∷ z ∷ rest)) n u) (n + 1) v) (n + 2) w ≡ (front ++ (u ∷ v ∷ w ∷ [])) ++ rest
  set_three front x y z rest n u v w e =
      let p : length (front ++ (u ∷ v ∷ [])) ≡ n + 2 = rw (length-append front (u ∷ v ∷ [])) (omega arith) in
      rw (set_at front x (y ∷ z ∷ rest) u n e, set-second front u y (z ∷ rest) (n + 1) v (omega arith), set_at (front ++ (u ∷ v ∷ [])) z rest w (n + 2) p)
      (append_assoc front (u ∷ v ∷ []) (w ∷ rest) ∙ sym (append_assoc front (u ∷ v ∷ w ∷ []) rest))
