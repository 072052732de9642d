-- The hexadecimal digits, written one after the other. Assumes nothing.
use Prim.Native.Nat.{ℕ, zero, suc, ◌+◌, ◌-◌, ◌*◌, ◌/◌, ◌%◌, ◌^◌, ◌≤◌, ◌<◌}
use mathlib.Core.Path.{◌≡◌, refl, sym, ap, subst, ◌∙◌}
use mathlib.Core.List.{List, [], ◌∷◌, ◌++◌, append_assoc, append-nil}
use native.Mathlib.Numerals.{add-one}
use native.Mathlib.Omega.{arith}
use lib.ListN.{length, take, set, replicate, length-set}
use lib.Seq.{take-suc-set, take-length}
use Rattle.decimal.specs.Writing.{hex_digit, hex_from, hex_digits}

-- The first i digits stand in the text.
pub record Written (n : ℕ) (text : List ℕ) (i : ℕ) : Type 0 where
  pub within : i ≤ 16
  pub long : length text ≡ 16
  pub same : take i text ++ hex_from (16 - i) n ≡ hex_digits n

one_more : (n k : ℕ) → 1 ≤ k → hex_from k n ≡ hex_digit (n / 2 ^ (4 * (k - 1)) % 16) ∷ hex_from (k - 1) n
unfolding hex_from
one_more n zero h = absurd (omega arith)
one_more n (suc k) h = ap (λ (z : ℕ). hex_digit (n / 2 ^ (4 * z) % 16) ∷ hex_from z n) less
  where
    less : k ≡ suc k - 1
    less = omega arith

pub begin : (n : ℕ) → Written n (replicate 16 48) 0
unfolding hex_digits
begin n = record { within = omega arith; long = refl; same = refl }

pub turn : (n : ℕ) (text : List ℕ) (i digit : ℕ) → Written n text i → i < 16 → digit ≡ hex_digit (n / 2 ^ (60 - 4 * i) % 16) → Written n (set text i digit) (i + 1)
turn n text i digit w h e =
    record {
      within = omega arith;
      long = length-set text i digit ∙ w.long;
      same =
          ap (λ (z : ℕ). take z (set text i digit) ++ hex_from (16 - (i + 1)) n) (add-one i)
          ∙ ap (λ (l : List ℕ). l ++ hex_from (16 - (i + 1)) n) (take-suc-set text i digit (omega (arith, w.long)))
          ∙ append_assoc (take i text) (digit ∷ []) (hex_from (16 - (i + 1)) n)
          ∙ ap (λ (l : List ℕ). take i text ++ l) (sym next)
          ∙ w.same;
    }
  where
    place : 60 - 4 * i ≡ 4 * (16 - i - 1)
    place = omega arith

    left : 16 - i - 1 ≡ 16 - (i + 1)
    left = omega arith

    next : hex_from (16 - i) n ≡ digit ∷ hex_from (16 - (i + 1)) n
    next =
        one_more n (16 - i) (omega arith)
        ∙ ap (λ (z : ℕ). hex_digit (n / 2 ^ z % 16) ∷ hex_from (16 - i - 1) n) (sym place)
        ∙ ap (λ (z : ℕ). z ∷ hex_from (16 - i - 1) n) (sym e)
        ∙ ap (λ (z : ℕ). digit ∷ hex_from z n) left

pub done : (n : ℕ) (text : List ℕ) (i : ℕ) → Written n text i → 16 ≤ i → text ≡ hex_digits n
unfolding hex_from
done n text i w h =
    sym (take-length text) ∙ sym (append-nil (take (length text) text))
    ∙ ap (λ (z : ℕ). take z text ++ []) w.long
    ∙ subst (λ (z : ℕ). take z text ++ hex_from (16 - z) n ≡ hex_digits n) all w.same
  where
    all : i ≡ 16
    all = omega (arith, w.within)

pub ruleset writing = (begin, turn, done)
