-- A number's digits as they are put, and as they are read back. Assumes nothing.
use Rattle.std.specs.Prelude.{ℕ, zero, suc, ◌+◌, ◌-◌, ◌*◌, ◌/◌, ◌%◌, ◌^◌, ◌≤◌, ◌<◌, ◌≡◌, refl, ◌⊎◌, Bool, true, false, cond, List, [], ◌∷◌, ◌++◌, eqb, ltb, length, set, replicate}
use Rattle.std.proofs.Common.{sym, ap, subst, ◌∙◌, inl, inr, add-zero, add-suc, suc-add, lt_of_lt_of_le, le_of_eq, mul_comm, div-lt_iff_lt-mul, arith, lt-ltb, le-ltb, ne_eqb, length-append}
use Rattle.std.proofs.Math.Nat.{pow-succ'}
use Rattle.std.proofs.Math.Seq.{append_snoc}
use Rattle.rounded.specs.laws.RoundToOdd.{ordered}
use Rattle.bondreport.specs.declared.Leftward.{Leftward}
use Rattle.bondreport.specs.Numbers.{byte_left, digits_left, width_from, width_of, whole_left}
use Rattle.bondreport.specs.Figures.{before}
use Rattle.closingsheet.specs.Shown.{Decimal, decimal, one_more, read_on}
use Rattle.closingsheet.specs.laws.Columns.{byte_is}

-- The last digits of a number, the highest first.
unfoldable pub numerals : ℕ → ℕ → List ℕ
numerals zero n = []
numerals (suc k) n = numerals k (n / 10) ++ ((48 + n % 10) ∷ [])

pub numerals-length : (k n : ℕ) → length (numerals k n) ≡ k
unfolding numerals
numerals-length zero n = refl
numerals-length (suc k) n = length-append (numerals k (n / 10)) ((48 + n % 10) ∷ []) ∙ ap (λ (z : ℕ). z + 1) (numerals-length k (n / 10)) ∙ omega arith

-- ---- as they are put

-- Blanks up to a column, and what was put behind them.
abbrev pub left : ℕ → List ℕ → Leftward
left end text = before (replicate end 32 ++ text) end

over-blank : (f : ℕ) (text : List ℕ) (b : ℕ) → set (replicate (suc f) 32 ++ text) f b ≡ replicate f 32 ++ b ∷ text
over-blank zero text b = refl
over-blank (suc f) text b = ap (λ (z : List ℕ). 32 ∷ z) (over-blank f text b)

pub byte_on : (f : ℕ) (text : List ℕ) (b : ℕ) → byte_left (left (suc f) text) b ≡ left f (b ∷ text)
byte_on f text b = byte_is (replicate (suc f) 32 ++ text) f b ∙ ap (λ (z : List ℕ). before z f) (over-blank f text b)

pub digits_on : (k f n : ℕ) (text : List ℕ) → digits_left k (left (f + k) text) n ≡ left f (numerals k n ++ text)
unfolding digits_left numerals
digits_on zero f n text = ap (λ (z : ℕ). left z text) (add-zero f)
digits_on (suc k) f n text =
    ap (λ (z : ℕ). digits_left k (byte_left (left z text) (48 + n % 10)) (n / 10)) (add-suc f k)
    ∙ ap (λ (z : Leftward). digits_left k z (n / 10)) (byte_on (f + k) text (48 + n % 10))
    ∙ digits_on k f (n / 10) ((48 + n % 10) ∷ text)
    ∙ ap (λ (z : List ℕ). left f z) (sym (append_snoc (numerals k (n / 10)) (48 + n % 10) text))

pub whole_on : (f n : ℕ) (text : List ℕ) → whole_left (left (f + width_of n) text) n ≡ left f (numerals (width_of n) n ++ text)
unfolding whole_left
whole_on f n text = digits_on (width_of n) f n text

-- ---- how many there are

-- A number counted to w digits, when some of them were counted already.
record Counted (count n w : ℕ) : Type 0 where
  pub more : ℕ
  pub is : w ≡ count + more
  pub under : n < 10 ^ suc more

counted : (room count n : ℕ) → n < 10 ^ suc room → Counted count n (width_from room count n)
unfolding width_from
counted zero count n h = record { more = 0; is = sym (add-zero count); under = h }
counted (suc room) count n h = go (ordered 10 n) (counted room (suc count) (n / 10) less)
  where
    less : n / 10 < 10 ^ suc room
    less = (div-lt_iff_lt-mul {k = 10} {x = n} {y = 10 ^ suc room} (omega arith)).1 (lt_of_lt_of_le h (le_of_eq (pow-succ' 10 (suc room) ∙ mul_comm 10 (10 ^ suc room))))

    go : (10 ≤ n) ⊎ (n < 10) → Counted (suc count) (n / 10) (width_from room (suc count) (n / 10)) → Counted count n (cond (ltb n 10) count (width_from room (suc count) (n / 10)))
    go (inr l) further = record { more = 0; is = ap (λ (b : Bool). cond b count (width_from room (suc count) (n / 10))) (lt-ltb n 10 l) ∙ sym (add-zero count); under = l }
    go (inl g) further =
        record {
          more = suc further.more;
          is = ap (λ (b : Bool). cond b count (width_from room (suc count) (n / 10))) (le-ltb n 10 g) ∙ further.is ∙ suc-add count further.more ∙ sym (add-suc count further.more);
          under =
              lt_of_lt_of_le
              ((div-lt_iff_lt-mul {k = 10} {x = n} {y = 10 ^ suc further.more} (omega arith)).0 further.under)
              (le_of_eq (sym (pow-succ' 10 (suc further.more) ∙ mul_comm 10 (10 ^ suc further.more))));
        }

pub width-under : (n : ℕ) → n < 10 ^ 20 → n < 10 ^ width_of n
unfolding width_of
width-under n h =
    let c = counted 19 1 n h in
    let one_more_lem : 1 + c.more ≡ suc c.more = omega arith in
    subst (λ (w : ℕ). n < 10 ^ w) (sym (c.is ∙ one_more_lem)) c.under

-- ---- as they are read back

pub read-append : (xs ys : List ℕ) (d : Decimal) → read_on d (xs ++ ys) ≡ read_on (read_on d xs) ys
unfolding read_on
read-append [] ys d = refl
read-append (b ∷ xs) ys d = read-append xs ys (one_more d b)

pub read_blanks : (k : ℕ) (xs : List ℕ) (d : Decimal) → read_on d (replicate k 32 ++ xs) ≡ read_on d xs
unfolding read_on
read_blanks zero xs d = refl
read_blanks (suc k) xs d = read_blanks k xs d

pub one_digit : (s p : Bool) (n m k : ℕ) → k < 10 → one_more (decimal s n m p) (48 + k) ≡ decimal s (n * 10 + k) (cond p (m + 1) m) p
unfolding one_more
one_digit s p n m k h =
    ap (λ (b : Bool). cond b (decimal s n m p) (cond (eqb (48 + k) 45) (decimal true n m p) (cond (eqb (48 + k) 46) (decimal s n m true) digit))) (ne_eqb (48 + k) 32 (λ (e : 48 + k ≡ 32). omega arith))
    ∙ ap (λ (b : Bool). cond b (decimal true n m p) (cond (eqb (48 + k) 46) (decimal s n m true) digit)) (ne_eqb (48 + k) 45 (λ (e : 48 + k ≡ 45). omega arith))
    ∙ ap (λ (b : Bool). cond b (decimal s n m true) digit) (ne_eqb (48 + k) 46 (λ (e : 48 + k ≡ 46). omega arith))
    ∙ ap (λ (z : ℕ). decimal s (n * 10 + z) (cond p (m + 1) m) p) is
  where
    digit : Decimal
    digit = decimal s (n * 10 + (48 + k - 48)) (cond p (m + 1) m) p

    is : 48 + k - 48 ≡ k
    is = omega arith

last_digit : (n : ℕ) → n % 10 < 10
last_digit n = omega arith

together : (n : ℕ) → n / 10 * 10 + n % 10 ≡ n
together n = omega arith

pub read_whole : (k n : ℕ) (s : Bool) → n < 10 ^ k → read_on (decimal s 0 0 false) (numerals k n) ≡ decimal s n 0 false
unfolding read_on numerals
read_whole zero n s h = ap (λ (z : ℕ). decimal s z 0 false) (none n h)
  where
    none : (n : ℕ) → n < 1 → 0 ≡ n
    none n h = omega arith
read_whole (suc k) n s h =
    read-append (numerals k (n / 10)) ((48 + n % 10) ∷ []) (decimal s 0 0 false)
    ∙ ap (λ (d : Decimal). one_more d (48 + n % 10)) (read_whole k (n / 10) s less)
    ∙ one_digit s false (n / 10) 0 (n % 10) (last_digit n)
    ∙ ap (λ (z : ℕ). decimal s z 0 false) (together n)
  where
    less : n / 10 < 10 ^ k
    less = (div-lt_iff_lt-mul {k = 10} {x = n} {y = 10 ^ k} (omega arith)).1 (lt_of_lt_of_le h (le_of_eq (pow-succ' 10 k ∙ mul_comm 10 (10 ^ k))))
