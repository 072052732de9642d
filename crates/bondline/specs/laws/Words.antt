-- A word stands within its line, and words of unequal length are not the same. Assumes nothing.
use Rattle.std.specs.Prelude.{ℕ, zero, suc, ◌≤◌, ◌≡◌, refl, Bool, true, false, ◌&&◌, List, [], ◌∷◌, length, drop, eqb}
use Rattle.std.proofs.Common.{zero-le, arith, ap, length-take, length-drop}
use Rattle.std.proofs.lemmas.List.Sums.{prefix_len-le-length}
use Rattle.bondline.specs.Bytes.{is_space, is_other, leading, run_end, same}
use Rattle.bondline.specs.Words.{word_from, span_of, word_at}

leading-within : (p : ℕ → Bool) (bs : List ℕ) → leading p bs ≤ length bs
leading-within = prefix_len-le-length

pub run_within : (p : ℕ → Bool) (bs : List ℕ) (i : ℕ) → i ≤ length bs → run_end p bs i ≤ length bs
run_within p bs i h = omega (arith, leading-within p (drop i bs), length-drop i bs)

word-within : (line : List ℕ) (i : ℕ) → i ≤ length line → (word_from line i).end ≤ length line
word-within line i h = run_within (is_other 32) line (run_end is_space line i) (run_within is_space line i h)

pub end-within : (line : List ℕ) (n : ℕ) → (span_of line n).end ≤ length line
unfolding span_of
end-within line zero = word-within line 0 zero-le
end-within line (suc n) = word-within line (span_of line n).end (end-within line n)

pub start_first : (line : List ℕ) (n : ℕ) → (span_of line n).start ≤ (span_of line n).end
unfolding span_of
start_first line zero = omega arith
start_first line (suc n) = omega arith

pub word-length : (line : List ℕ) (n : ℕ) → length (word_at line n) ≤ length line
word-length line n = simp (length-take, length-drop) (omega arith)

pub differ : (a b : List ℕ) → (length a ≡ length b → ⊥) → false ≡ same a b
differ [] [] h = absurd (h refl)
differ [] (b ∷ bs) h = refl
differ (a ∷ rest) [] h = refl
differ (a ∷ rest) (b ∷ bs) h = both (eqb a b) (same rest bs) (differ rest bs (λ e. h (ap suc e)))
  where
    both : (x y : Bool) → false ≡ y → false ≡ (x && y)
    both true y e = e
    both false y e = refl
