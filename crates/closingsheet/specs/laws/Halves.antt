-- Where an exact half goes changes nothing on the sheet but the value's columns. Assumes nothing.
use Rattle.std.specs.Option.{option_map_or}
use Rattle.std.specs.Prelude.{ℕ, zero, suc, ◌+◌, ◌*◌, ◌/◌, ◌%◌, ◌≤◌, ◌<◌, ◌≡◌, refl, ◌⊎◌, Bool, true, false, cond, List, [], ◌∷◌, ltb, length, set, take, drop, Float, Ok, Err}
use Rattle.std.proofs.Common.{sym, ap, ◌∙◌, subst, inl, inr, le_of_eq, eq-or-lt_of_le, zero-add, suc-add, mul_left_comm, add-mul, div-add-mod', mod-lt, arith, lt-ltb, le-ltb, take-take, drop-set-lt}
use Rattle.std.proofs.Math.Nat.{div-eq_of_lt-le}
use Rattle.std.proofs.Math.Seq.{take-nil}
use Rattle.std.proofs.lemmas.List.{take-set-le}
use Rattle.std.specs.Float.{nan, inf, fin}
use Rattle.std.specs.Float.Ieee.{up, down}
use Rattle.std.specs.Float.Ieee.Fits.{down_pos}
use Rattle.std.specs.Float.Ieee.Nearest.{closest}
use Rattle.rounded.specs.laws.RoundToOdd.{ordered, closest_down, closest_up, closest-tie}
use Rattle.std.specs.Prelude.{Option, Some, None}
use Rattle.decimal.specs.declared.Rounded.{Rounded}
use Rattle.decimal.specs.Writing.{in_units}
use Rattle.bondreport.specs.Columns.{put_at}
use Rattle.bondreport.specs.Figures.{put_whole}
use Rattle.closingsheet.specs.declared.ClosingLine.{ClosingLine}
use Rattle.closingsheet.specs.laws.Columns.{cell-length}
use Rattle.closingsheet.specs.Cells.{ValueCell, printed_of, cell_of, value_cell}
use Rattle.closingsheet.specs.Sheet.{NumberedAnswer, at, numbered, refused_sheet, shown_sheet, value_sheet, no_sheet, answer_sheet, sheet_by, sheet_of}
use Rattle.closingsheet.specs.HalfAway.{half_away, in_cents, printed_away, away_cell, away_sheet, Alike}
use Rattle.closingsheet.specs.laws.Cents.{cents_are}

-- ---- 32 is the same: 99,999,999,999,999 is odd, so a half above it goes up both ways

module _ (a c : ℕ) (C : 0 < c) where
  parts : a / c * c + a % c ≡ a
  parts = div-add-mod' a c

  twice : a / c * (2 * c) ≡ 2 * (a / c * c)
  twice = mul_left_comm (a / c) 2 c

  one_more_lem : (a / c + 1) * (2 * c) ≡ 2 * (a / c * c) + 2 * c
  one_more_lem = add-mul (a / c) 1 (2 * c) ∙ omega (arith, twice)

  two_more : (a / c + 1 + 1) * (2 * c) ≡ 2 * (a / c * c) + 4 * c
  two_more = add-mul (a / c + 1) 1 (2 * c) ∙ omega (arith, one_more_lem)

  away_down : a % c * 2 < c → half_away a c ≡ a / c
  away_down h = div-eq_of_lt-le {k = a / c} (2 * c) {m = 2 * a + c} (omega (arith, parts, twice)) (omega (arith, parts, one_more_lem))

  away_up : c ≤ a % c * 2 → half_away a c ≡ a / c + 1
  away_up h = div-eq_of_lt-le {k = a / c + 1} (2 * c) {m = 2 * a + c} (omega (arith, parts, one_more_lem)) (omega (arith, parts, two_more, mod-lt a C))

  below : (u v : ℕ) → u ≡ v → ltb 99999999999999 u ≡ ltb 99999999999999 v
  below u v e = ap (λ (z : ℕ). ltb 99999999999999 z) e

  -- An even number and the next one lie on the same side.
  even_or_next : (q : ℕ) → ltb 99999999999999 (q + 1) ≡ ltb 99999999999999 (q + q % 2)
  even_or_next q = go (ordered (q + q % 2) 99999999999999)
    where
      go : (q + q % 2 ≤ 99999999999999) ⊎ (99999999999999 < q + q % 2) → ltb 99999999999999 (q + 1) ≡ ltb 99999999999999 (q + q % 2)
      go (inl h) = le-ltb 99999999999999 (q + 1) (omega arith) ∙ sym (le-ltb 99999999999999 (q + q % 2) h)
      go (inr h) = lt-ltb 99999999999999 (q + 1) (omega arith) ∙ sym (lt-ltb 99999999999999 (q + q % 2) h)

  pub same_side : ltb 99999999999999 (half_away a c) ≡ ltb 99999999999999 (closest a c)
  same_side = go (ordered c (a % c * 2))
    where
      go : (c ≤ a % c * 2) ⊎ (a % c * 2 < c) → ltb 99999999999999 (half_away a c) ≡ ltb 99999999999999 (closest a c)
      go (inr h) = below _ _ (away_down h ∙ sym (closest_down a c (a / c) (a % c) (sym parts) h))
      go (inl h) = elim (eq-or-lt_of_le h) [
        | inl e ↦
            below _ _ (away_up h) ∙ even_or_next (a / c)
            ∙ below _ _ (sym (closest-tie a c (a / c) (a % c) (sym parts) (sym e) C))
        | inr l ↦ below _ _ (away_up h ∙ sym (closest_up a c (a / c) (a % c) (sym parts) l (mod-lt a C)))
      ]

-- ---- the cell

wide_by : (s : Bool) (cents : ℕ) → option_map_or (λ v. false) (in_cents s cents) true ≡ ltb 99999999999999 cents
unfolding in_cents
wide_by s cents = go (ltb 99999999999999 cents)
  where
    go : (b : Bool) → option_map_or (λ v. false) (cond b None (Some (in_units s 2 cents))) true ≡ b
    go true = refl
    go false = refl

wide_of : (d : Option Rounded) → (cell_of d).wide ≡ option_map_or (λ v. false) d true
wide_of (Some v) = refl
wide_of None = refl

pub same_width : (x : Float) → (away_cell x).wide ≡ (value_cell x).wide
unfolding printed_away printed_of
same_width nan = refl
same_width (inf s) = refl
same_width (fin s m e) =
    wide_of (in_cents s (half_away (100 * (m * up e)) (down e)))
    ∙ wide_by s (half_away (100 * (m * up e)) (down e))
    ∙ same_side (100 * (m * up e)) (down e) (down_pos e)
    ∙ sym (wide_by s (closest (100 * (m * up e)) (down e)))
    ∙ sym (wide_of (in_cents s (closest (100 * (m * up e)) (down e))))
    ∙ sym (ap (λ (d : Option Rounded). (cell_of d).wide) (cents_are s m e))

-- ---- the line

take_put : (text line : List ℕ) (n at : ℕ) → n ≤ at → take n (put_at line at text) ≡ take n line
unfolding put_at
take_put [] line n at h = refl
take_put (b ∷ text) line n at h = take_put text (set line at b) n (suc at) (omega arith) ∙ take-set-le n line at b h

drop-put : (text line : List ℕ) (n at : ℕ) → at + length text ≤ n → drop n (put_at line at text) ≡ drop n line
unfolding put_at
drop-put [] line n at h = refl
drop-put (b ∷ text) line n at h = drop-put text (set line at b) n (suc at) (omega arith) ∙ drop-set-lt n line at b (omega arith)

drop-take : (n m : ℕ) (line : List ℕ) → drop n (take (n + m) line) ≡ take m (drop n line)
drop-take zero m line = ap (λ (z : ℕ). take z line) (zero-add m)
drop-take (suc n) m [] = ap (λ (z : ℕ). drop (suc n) (take z [])) (suc-add n m) ∙ sym (take-nil m)
drop-take (suc n) m (b ∷ line) = ap (λ (z : ℕ). drop (suc n) (take z (b ∷ line))) (suc-add n m) ∙ drop-take n m line

alike : (a : ClosingLine) → Alike a a
alike a = record { refusal = refl; before = refl; behind = refl }

module _ (bond count : ℕ) where
  abbrev counted : List ℕ
  counted = put_whole (numbered bond) 30 count

  front : (cell : List ℕ) → take 6 (shown_sheet bond count cell).line ≡ take 6 counted
  front cell = take-take 6 35 (put_at counted 6 cell) (omega arith) ∙ take_put cell counted 6 6 (omega arith)

  back : (cell : List ℕ) → length cell ≤ 16 → drop 22 (shown_sheet bond count cell).line ≡ take 13 (drop 22 counted)
  back cell h = drop-take 22 13 (put_at counted 6 cell) ∙ ap (λ (z : List ℕ). take 13 z) (drop-put cell counted 22 6 (omega arith))

  cells : (a b : List ℕ) → length a ≤ 16 → length b ≤ 16 → Alike (shown_sheet bond count a) (shown_sheet bond count b)
  cells a b p q = record { refusal = refl; before = front a ∙ sym (front b); behind = back a p ∙ sym (back b q) }

  -- By what is too wide: the same on both sides.
  values : (u v : ValueCell) → u.wide ≡ v.wide → length u.cell ≤ 16 → length v.cell ≤ 16 → Alike (value_sheet bond u count) (value_sheet bond v count)
  values u v e p q = subst (λ (b : Bool). Alike (value_sheet bond u count) (by b v.cell)) e (go u.wide (ltb 99999999 count))
    where
      r32 : ClosingLine
      r32 = refused_sheet bond (at 32 0)

      by : Bool → List ℕ → ClosingLine
      by b cell = cond b r32 (cond (ltb 99999999 count) r32 (shown_sheet bond count cell))

      go : (b t : Bool) → Alike (cond b r32 (cond t r32 (shown_sheet bond count u.cell))) (cond b r32 (cond t r32 (shown_sheet bond count v.cell)))
      go true t = alike r32
      go false true = alike r32
      go false false = cells u.cell v.cell p q

answers : (bond : ℕ) (answer : NumberedAnswer) → Alike (answer_sheet away_cell bond answer) (answer_sheet value_cell bond answer)
unfolding answer_sheet
answers bond (Ok v) = values bond v.nodes (away_cell v.value) (value_cell v.value) (same_width v.value) (le_of_eq (cell-length (printed_away v.value))) (le_of_eq (cell-length (printed_of v.value)))
answers bond (Err q) = alike (refused_sheet bond q)

-- For every bond number and every answer of the tree value.
pub nothing_else : (bond : ℕ) (answer : NumberedAnswer) → Alike (away_sheet bond answer) (sheet_of bond answer)
unfolding sheet_by
nothing_else bond answer = go (ltb bond 1) (ltb 999999 bond)
  where
    go : (u v : Bool) → Alike (cond u no_sheet (cond v no_sheet (answer_sheet away_cell bond answer))) (cond u no_sheet (cond v no_sheet (answer_sheet value_cell bond answer)))
    go true v = alike no_sheet
    go false true = alike no_sheet
    go false false = answers bond answer
