-- Moving entries from behind to the front of a slice, one by one. Assumes nothing.
use Rattle.std.specs.Prelude.{ℕ, ◌+◌, ◌≤◌, ◌<◌, ◌≡◌, refl, List, length, get_or, take, drop, set, ℤ, pos}
use Rattle.std.proofs.Common.{add-one, arith, sym, ◌∙◌, length-set, length-drop, take-suc, take-suc-set, get_or-drop, get_or-set_other}

-- The first i entries are those behind the first `count`, and the others are as before.
pub record Moving (count next : ℕ) (before after : List ℤ) (i : ℕ) : Type 0 where
  pub within : i ≤ next
  pub room : count + next ≤ length before
  pub front : take i after ≡ take i (drop count before)
  pub rest : (k : ℕ) → i ≤ k → get_or after k (pos 0) ≡ get_or before k (pos 0)
  pub kept : length after ≡ length before

module _ (count next : ℕ) (before : List ℤ) where
  pub moving_begun : count + next ≤ length before → Moving count next before before 0
  moving_begun h = record { within = omega arith; room = h; front = refl; rest = λ k _. refl; kept = refl }

  module _ (after : List ℤ) (i : ℕ) (m : Moving count next before after i) where
    pub moving-one : {z : ℤ} → i < next → z ≡ get_or after (count + i) (pos 0) → Moving count next before (set after i z) (i + 1)
    moving-one {z} h e =
        let w = m.room in
        let l = m.kept in
        let a : i < length after = omega arith in
        let d = length-drop count before in
        let b : i < length (drop count before) = omega arith in
        let n : z ≡ get_or (drop count before) i (pos 0) = e ∙ m.rest (count + i) (omega arith) ∙ sym (get_or-drop count before i (pos 0)) in
        record {
          within = omega arith;
          room = m.room;
          front = rw (add-one i, take-suc-set after i z a, take-suc (drop count before) i (pos 0) b, m.front, ← n);
          rest = λ k p. get_or-set_other after i k z (pos 0) (λ e. omega arith) ∙ m.rest k (omega arith);
          kept = length-set after i z ∙ m.kept;
        }

    pub moving_all : next ≤ i → take next after ≡ take next (drop count before)
    moving_all h = let w = m.within in let n : i ≡ next = omega arith in rw n at m.front
