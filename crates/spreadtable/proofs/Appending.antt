-- A text written byte by byte. Assumes nothing.
use Prim.Native.Nat.{ℕ, ◌+◌, ◌≤◌, ◌<◌}
use mathlib.Core.Path.{◌≡◌, refl, sym, ap, ◌∙◌}
use mathlib.Core.List.{List}
use native.Mathlib.Nat.{le_antisymm}
use native.Mathlib.Numerals.{add-one}
use native.Mathlib.Omega.{arith}
use lib.ListN.{length, get_or, set, drop, length-set, drop_of_length-le}
use lib.Seq.{drop-cons}
use Rattle.bondreport.specs.Columns.{put_at}
use Rattle.spreadtable.specs.declared.Written.{Written}

-- What is left of the text, written behind what is, gives the whole.
pub record Appending (start : List ℕ) (from : ℕ) (text page : List ℕ) (at i : ℕ) : Type 0 where
  pub within : i ≤ length text
  pub behind : at ≡ from + i
  pub room : from + length text ≤ 4112
  pub size : length page ≡ 4112
  pub left : put_at page at (drop i text) ≡ put_at start from text

module _ (start : List ℕ) (from : ℕ) (text : List ℕ) where
  pub append-begin : from + length text ≤ 4112 → length start ≡ 4112 → Appending start from text start from 0
  append-begin h e = record { within = omega arith; behind = omega arith; room = h; size = e; left = refl }

  module _ (page : List ℕ) (at i : ℕ) (p : Appending start from text page at i) where
    pub append-turn : i < length text → Appending start from text (set page at (get_or text i 0)) (at + 1) (i + 1)
    unfolding put_at
    append-turn h =
        record {
          within = omega arith;
          behind = omega (arith, p.behind);
          room = p.room;
          size = length-set page at (get_or text i 0) ∙ p.size;
          left = rw (add-one at, add-one i) (ap (λ (l : List ℕ). put_at page at l) (sym (drop-cons text i 0 h)) ∙ p.left);
        }

    pub append-done : length text ≤ i → ◌≡◌ {A = Written} (record { page = page; length = at }) (record { page = put_at start from text; length = from + length text })
    unfolding put_at
    append-done h =
        let e : i ≡ length text = le_antisymm p.within h in
        ap (λ (z : List ℕ). record { page = z; length = at }) (sym (ap (λ (l : List ℕ). put_at page at l) (drop_of_length-le text h)) ∙ p.left)
        ∙ ap (λ (n : ℕ). record { page = put_at start from text; length = n }) (p.behind ∙ ap (λ (n : ℕ). from + n) e)
