-- Each field of a line stands in its own columns. Assumes nothing.
use Rattle.std.specs.Prelude.{ℕ, zero, suc, ◌+◌, ◌-◌, ◌/◌, ◌%◌, ◌^◌, ◌≤◌, ◌<◌, ◌≡◌, refl, ◌⊎◌, Bool, true, false, cond, List, [], ◌∷◌, eqb, ltb, length, get_or, set, take}
use Rattle.std.proofs.Common.{sym, ap, ◌∙◌, inl, inr, add-zero, add-suc, suc-add, div-lt_iff_lt-mul, mul_comm, lt_of_lt_of_le, le_of_eq, eq-or-lt_of_le, arith, lt-ltb, ne_eqb, length-set, get_or-take, get_or-set_same, get_or-set_other, length-take-le}
use Rattle.std.proofs.Math.Nat.{pow-succ'}
use Rattle.std.proofs.lemmas.List.{length-replicate, get_or-replicate}
use Rattle.rounded.specs.laws.RoundToOdd.{ordered}
use Rattle.decimal.specs.declared.Rounded.{Rounded}
use Rattle.std.specs.Prelude.{Option, Some, None}
use Rattle.bondreport.specs.declared.Leftward.{Leftward}
use Rattle.bondreport.specs.Columns.{blank_line, put_at}
use Rattle.bondreport.specs.Numbers.{byte_left, digits_left, width_from, width_of, whole_left}
use Rattle.bondreport.specs.Figures.{before, put_whole, point_left, minus_left, decimals_left}
use Rattle.closingsheet.specs.Cells.{cell_of}
use Rattle.closingsheet.specs.Shown.{ValueColumns, RefusedColumns}
use Rattle.closingsheet.specs.declared.NumberedRefusal.{NumberedRefusal}
use Rattle.closingsheet.specs.Sheet.{at, numbered, number_line, refused_sheet, shown_sheet}

-- ---- a text that is put changes its own columns only

put_other : (text line : List ℕ) (at i : ℕ) → (i < at) ⊎ (at + length text ≤ i) → get_or (put_at line at text) i 0 ≡ get_or line i 0
unfolding put_at
put_other [] line at i h = refl
put_other (b ∷ text) line at i (inl h) = put_other text (set line at b) (suc at) i (inl (omega arith)) ∙ get_or-set_other line at i b 0 (λ e. omega arith)
put_other (b ∷ text) line at i (inr h) = put_other text (set line at b) (suc at) i (inr (omega arith)) ∙ get_or-set_other line at i b 0 (λ e. omega arith)

put-there : (text line : List ℕ) (at i : ℕ) → i < length text → at + length text ≤ length line → get_or (put_at line at text) (at + i) 0 ≡ get_or text i 0
unfolding put_at
put-there [] line at i h l = absurd (none i h)
  where
    none : (i : ℕ) → i < 0 → ⊥
    none i h = omega arith
put-there (b ∷ text) line at zero h l =
    ap (λ (z : ℕ). get_or (put_at (set line at b) (suc at) text) z 0) (add-zero at)
    ∙ put_other text (set line at b) (suc at) at (inl (omega arith))
    ∙ get_or-set_same line at b 0 (omega arith)
put-there (b ∷ text) line at (suc i) h l =
    ap (λ (z : ℕ). get_or (put_at (set line at b) (suc at) text) z 0) (add-suc at i ∙ sym (suc-add at i))
    ∙ put-there text (set line at b) (suc at) i (omega arith) (omega (arith, length-set line at b))

put-length : (text line : List ℕ) (at : ℕ) → length (put_at line at text) ≡ length line
unfolding put_at
put-length [] line at = refl
put-length (b ∷ text) line at = put-length text (set line at b) (suc at) ∙ length-set line at b

-- ---- and so do digits

pub byte_is : (line : List ℕ) (end b : ℕ) → byte_left (before line (suc end)) b ≡ before (set line end b) end
unfolding byte_left
byte_is line end b =
    let e : suc end - 1 ≡ end = omega arith in
    ap (λ (z : Bool). cond z (before line (suc end)) (before (set line (suc end - 1) b) (suc end - 1))) (ne_eqb (suc end) 0 (λ (h : suc end ≡ 0). omega arith))
    ∙ ap (λ (z : ℕ). before (set line z b) z) e

-- The next digit, and those that are left.
digit_is : (count end : ℕ) (line : List ℕ) (n : ℕ) → digits_left (suc count) (before line (suc end)) n ≡ digits_left count (before (set line end (48 + n % 10)) end) (n / 10)
unfolding digits_left
digit_is count end line n = ap (λ (z : Leftward). digits_left count z (n / 10)) (byte_is line end (48 + n % 10))

digits-other : (count end : ℕ) (line : List ℕ) (n i : ℕ) → (i + count < end) ⊎ (end ≤ i) → get_or (digits_left count (before line end) n).line i 0 ≡ get_or line i 0
unfolding digits_left byte_left
digits-other zero end line n i h = refl
digits-other (suc count) zero line n i h = digits-other count zero line (n / 10) i (inr (omega arith))
digits-other (suc count) (suc end) line n i (inl h) =
    ap (λ (z : Leftward). get_or z.line i 0) (digit_is count end line n)
    ∙ digits-other count end (set line end (48 + n % 10)) (n / 10) i (inl (omega arith))
    ∙ get_or-set_other line end i (48 + n % 10) 0 (λ e. omega arith)
digits-other (suc count) (suc end) line n i (inr h) =
    ap (λ (z : Leftward). get_or z.line i 0) (digit_is count end line n)
    ∙ digits-other count end (set line end (48 + n % 10)) (n / 10) i (inr (omega arith))
    ∙ get_or-set_other line end i (48 + n % 10) 0 (λ e. omega arith)

digits-length : (count end : ℕ) (line : List ℕ) (n : ℕ) → length (digits_left count (before line end) n).line ≡ length line
unfolding digits_left byte_left
digits-length zero end line n = refl
digits-length (suc count) zero line n = digits-length count zero line (n / 10)
digits-length (suc count) (suc end) line n =
    ap (λ (z : Leftward). length z.line) (digit_is count end line n)
    ∙ digits-length count end (set line end (48 + n % 10)) (n / 10)
    ∙ length-set line end (48 + n % 10)

-- A column after the digits depends on that column before them.
set-alike : (a b : List ℕ) (at i v : ℕ) → length a ≡ length b → i < length a → get_or a i 0 ≡ get_or b i 0 → get_or (set a at v) i 0 ≡ get_or (set b at v) i 0
set-alike a b at i v l h e = go (ordered i at)
  where
    elsewhere : (i ≡ at → ⊥) → get_or (set a at v) i 0 ≡ get_or (set b at v) i 0
    elsewhere d = get_or-set_other a at i v 0 d ∙ e ∙ sym (get_or-set_other b at i v 0 d)

    here : i ≡ at → get_or (set a at v) i 0 ≡ get_or (set b at v) i 0
    here d = ap (λ (z : ℕ). get_or (set a at v) z 0) d ∙ get_or-set_same a at v 0 (omega arith) ∙ sym (ap (λ (z : ℕ). get_or (set b at v) z 0) d ∙ get_or-set_same b at v 0 (omega arith))

    go : (i ≤ at) ⊎ (at < i) → get_or (set a at v) i 0 ≡ get_or (set b at v) i 0
    go (inl p) = elim (eq-or-lt_of_le p) [
      | inl d ↦ here d
      | inr q ↦ elsewhere (λ (d : i ≡ at). omega arith)
    ]
    go (inr p) = elsewhere (λ (d : i ≡ at). omega arith)

digits-alike : (count end : ℕ) (a b : List ℕ) (n i : ℕ) → length a ≡ length b → i < length a → get_or a i 0 ≡ get_or b i 0
    → get_or (digits_left count (before a end) n).line i 0 ≡ get_or (digits_left count (before b end) n).line i 0
unfolding digits_left byte_left
digits-alike zero end a b n i l h e = e
digits-alike (suc count) zero a b n i l h e = digits-alike count zero a b (n / 10) i l h e
digits-alike (suc count) (suc end) a b n i l h e =
    ap (λ (z : Leftward). get_or z.line i 0) (digit_is count end a n)
    ∙ digits-alike count end (set a end (48 + n % 10)) (set b end (48 + n % 10)) (n / 10) i
    (length-set a end (48 + n % 10) ∙ l ∙ sym (length-set b end (48 + n % 10)))
    (omega (arith, length-set a end (48 + n % 10)))
    (set-alike a b end i (48 + n % 10) l h e)
    ∙ sym (ap (λ (z : Leftward). get_or z.line i 0) (digit_is count end b n))

-- ---- how many digits a number has

pub few-digits : (k room count n : ℕ) → n < 10 ^ suc k → width_from room count n ≤ count + k
unfolding width_from
few-digits k zero count n h = omega arith
few-digits zero (suc room) count n h = le_of_eq (ap (λ (b : Bool). cond b count (width_from room (suc count) (n / 10))) (lt-ltb n 10 h) ∙ sym (add-zero count))
few-digits (suc k) (suc room) count n h = go (ltb n 10) (few-digits k room (suc count) (n / 10) less)
  where
    less : n / 10 < 10 ^ suc k
    less = (div-lt_iff_lt-mul {k = 10} {x = n} {y = 10 ^ suc k} (omega arith)).1 (lt_of_lt_of_le h (le_of_eq (pow-succ' 10 (suc k) ∙ mul_comm 10 (10 ^ suc k))))

    go : (b : Bool) → width_from room (suc count) (n / 10) ≤ suc count + k → cond b count (width_from room (suc count) (n / 10)) ≤ count + suc k
    go true l = omega arith
    go false l = omega arith

-- ---- a whole number that is put

eight-digits : (n : ℕ) → n ≤ 99999999 → width_of n ≤ 8
unfolding width_of
eight-digits n h = few-digits 7 19 1 n (omega arith)

four-digits : (n : ℕ) → n ≤ 9999 → width_of n ≤ 4
unfolding width_of
four-digits n h = few-digits 3 19 1 n (omega arith)

whole-other : (line : List ℕ) (end n i : ℕ) → (i + width_of n < end) ⊎ (end ≤ i) → get_or (put_whole line end n) i 0 ≡ get_or line i 0
unfolding whole_left
whole-other line end n i h = digits-other (width_of n) end line n i h

pub whole_length : (line : List ℕ) (end n : ℕ) → length (put_whole line end n) ≡ length line
unfolding whole_left
whole_length line end n = digits-length (width_of n) end line n

whole-alike : (a b : List ℕ) (end n i : ℕ) → length a ≡ length b → i < length a → get_or a i 0 ≡ get_or b i 0 → get_or (put_whole a end n) i 0 ≡ get_or (put_whole b end n) i 0
unfolding whole_left
whole-alike a b end n i l h e = digits-alike (width_of n) end a b n i l h e

-- ---- the bond number and the newline

blank-length : length blank_line ≡ 80
blank-length = length-replicate {A = ℕ} 80 32

module _ (bond : ℕ) where
  numbered-length : length (numbered bond) ≡ 80
  numbered-length = put-length (10 ∷ []) (put_whole blank_line 6 bond) 34 ∙ whole_length blank_line 6 bond ∙ blank-length

  numbered-bond : (i : ℕ) → i < 34 → get_or (numbered bond) i 0 ≡ get_or (put_whole blank_line 6 bond) i 0
  numbered-bond i h = put_other (10 ∷ []) (put_whole blank_line 6 bond) 34 i (inl h)

  numbered_as_blank : (i : ℕ) → 6 ≤ i → i < 34 → get_or (numbered bond) i 0 ≡ get_or blank_line i 0
  numbered_as_blank i g h = numbered-bond i h ∙ whole-other blank_line 6 bond i (inr g)

  numbered-newline : get_or (numbered bond) 34 0 ≡ 10
  numbered-newline = put-there (10 ∷ []) (put_whole blank_line 6 bond) 34 0 (omega arith) (omega (arith, whole_length blank_line 6 bond, blank-length))

-- ---- the line

pub value_columns_lem : (bond count : ℕ) (cell : List ℕ) → count ≤ 99999999 → length cell ≡ 16 → ValueColumns bond count cell (shown_sheet bond count cell).line
value_columns_lem bond count cell h l =
    record {
      size = length-take-le 35 filled (omega (arith, filled-length));
      number = λ i p. cut i (omega arith) ∙ put_other cell counted 6 i (inl p) ∙ whole-other (numbered bond) 30 count i (inl (omega (arith, eight-digits count h))) ∙ numbered-bond bond i (omega arith);
      value = λ i p. cut (6 + i) (omega arith) ∙ put-there cell counted 6 i (omega arith) (omega (arith, counted-length));
      counted =
          λ i p q.
          cut i (omega arith)
          ∙ put_other cell counted 6 i (inr (omega arith))
          ∙ whole-alike (numbered bond) blank_line 30 count i (numbered-length bond ∙ sym (blank-length)) (omega (arith, numbered-length bond)) (numbered_as_blank bond i (omega arith) (omega arith));
      blank = λ i p q. behind i p (omega arith) ∙ numbered_as_blank bond i (omega arith) q ∙ get_or-replicate {A = ℕ} 80 i 32 0 (omega arith);
      newline = behind 34 (omega arith) (omega arith) ∙ numbered-newline bond;
    }
  where
    counted : List ℕ
    counted = put_whole (numbered bond) 30 count

    filled : List ℕ
    filled = put_at counted 6 cell

    counted-length : length counted ≡ 80
    counted-length = whole_length (numbered bond) 30 count ∙ numbered-length bond

    filled-length : length filled ≡ 80
    filled-length = put-length cell counted 6 ∙ counted-length

    cut : (i : ℕ) → i < 35 → get_or (take 35 filled) i 0 ≡ get_or filled i 0
    cut i p = get_or-take 35 filled i 0 p

    behind : (i : ℕ) → 30 ≤ i → i < 35 → get_or (take 35 filled) i 0 ≡ get_or (numbered bond) i 0
    behind i p q = cut i q ∙ put_other cell counted 6 i (inr (omega arith)) ∙ whole-other (numbered bond) 30 count i (inr p)

-- Of any number, whatever numbers refusals have.
pub number-columns : (bond n : ℕ) → n ≤ 9999 → RefusedColumns bond n (number_line (numbered bond) n)
number-columns bond n h =
    record {
      size = length-take-le 35 filled (omega (arith, filled-length));
      number = λ i p. front i (omega arith) ∙ numbered-bond bond i (omega arith);
      blank = λ i p r. front i r ∙ numbered_as_blank bond i p (omega arith) ∙ get_or-replicate {A = ℕ} 80 i 32 0 (omega arith);
      refusal =
          λ i p r.
          get_or-take 35 filled i 0 (omega arith)
          ∙ whole-alike (numbered bond) blank_line 34 n i (numbered-length bond ∙ sym (blank-length)) (omega (arith, numbered-length bond)) (numbered_as_blank bond i (omega arith) r);
      newline = get_or-take 35 filled 34 0 (omega arith) ∙ whole-other (numbered bond) 34 n 34 (inr (omega arith)) ∙ numbered-newline bond;
    }
  where
    filled : List ℕ
    filled = put_whole (numbered bond) 34 n

    filled-length : length filled ≡ 80
    filled-length = whole_length (numbered bond) 34 n ∙ numbered-length bond

    front : (i : ℕ) → i < 30 → get_or (take 35 filled) i 0 ≡ get_or (numbered bond) i 0
    front i p = get_or-take 35 filled i 0 (omega arith) ∙ whole-other (numbered bond) 34 n i (inl (omega (arith, four-digits n h)))

pub refused-columns : (bond : ℕ) (q : NumberedRefusal) → q.number ≤ 9999 → RefusedColumns bond q.number (refused_sheet bond q).line
refused-columns bond q h = number-columns bond q.number h

-- ---- the value's cell

pub byte-length : (c : Leftward) (b : ℕ) → length (byte_left c b).line ≡ length c.line
unfolding byte_left
byte-length c b = go (eqb c.end 0)
  where
    go : (t : Bool) → length (cond t c (before (set c.line (c.end - 1) b) (c.end - 1))).line ≡ length c.line
    go true = refl
    go false = length-set c.line (c.end - 1) b

minus-length : (c : Leftward) (v : Rounded) → length (minus_left c v).line ≡ length c.line
unfolding minus_left
minus-length c v = go v.negative (ltb 0 v.whole) (ltb 0 v.part)
  where
    go : (t u w : Bool) → length (cond t (cond u (byte_left c 45) (cond w (byte_left c 45) c)) c).line ≡ length c.line
    go true true w = byte-length c 45
    go true false true = byte-length c 45
    go true false false = refl
    go false u w = refl

written-length : (v : Rounded) → length (decimals_left (before blank_line 16) 2 v).line ≡ 80
unfolding point_left
written-length v =
    minus-length (whole_left pointed v.whole) v
    ∙ whole_length pointed.line pointed.end v.whole
    ∙ byte-length (digits_left 2 (before blank_line 16) v.part) 46
    ∙ digits-length 2 16 blank_line v.part
    ∙ blank-length
  where
    pointed : Leftward
    pointed = byte_left (digits_left 2 (before blank_line 16) v.part) 46

pub cell-length : (d : Option Rounded) → length (cell_of d).cell ≡ 16
cell-length (Some v) = length-take-le 16 (decimals_left (before blank_line 16) 2 v).line (omega (arith, written-length v))
cell-length None = length-replicate {A = ℕ} 16 32
