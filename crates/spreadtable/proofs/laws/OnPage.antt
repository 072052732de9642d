-- A row and a cell found on the page. Assumes nothing.
use Prim.Native.Nat.{ℕ, zero, suc, ◌+◌, ◌*◌, ◌<◌}
use Rattle.std.specs.Prelude.{◌≡◌, Float}
use Rattle.std.proofs.Math.Path.{refl, sym, ap}
use Rattle.std.proofs.Common.{◌∙◌, zero-mul, suc-mul, get_or-drop}
use mathlib.Core.List.{List, [], ◌∷◌, ◌++◌, append_assoc}
use Rattle.std.proofs.Math.Nat.{add_comm}
use native.Mathlib.Omega.{arith}
use Rattle.std.proofs.Math.ListN.{length, get_or, take, drop}
use Rattle.std.proofs.Math.Seq.{take_at, drop-append-add}
use Rattle.floats.specs.Answers.{plus_zero}
use Rattle.spreadtable.specs.Page.{row_text, page_text}
use Rattle.spreadtable.proofs.laws.Widths.{row-wide}

-- Bytes from a row on: a row's width each.
abbrev pub row_width : List Float → ℕ
row_width spreads = 16 * length spreads + 1

-- A list that starts with a text.
pub record Starts (text bytes : List ℕ) : Type 0 where
  pub more : List ℕ
  pub is : bytes ≡ text ++ more

behind : (k n : ℕ) (xs ys : List ℕ) → length xs ≡ k → drop (k + n) (xs ++ ys) ≡ drop n ys
behind k n xs ys e = ap (λ (z : ℕ). drop (z + n) (xs ++ ys)) (sym e) ∙ drop-append-add xs ys n

module _ (cell : Float → Float → List ℕ) (wide : (h s : Float) → length (cell h s) ≡ 16) (spreads : List Float) where
  pub row-there : (shifts : List Float) (i : ℕ) (zeros : List ℕ) → i < length shifts → Starts (row_text (cell (get_or shifts i plus_zero)) spreads) (drop (i * row_width spreads) (page_text cell spreads shifts ++ zeros))
  unfolding page_text
  row-there [] i zeros h = absurd (none i h)
    where
      none : (i : ℕ) → i < 0 → ⊥
      none i h = omega arith
  row-there (h ∷ shifts) zero zeros l =
      record {
        more = page_text cell spreads shifts ++ zeros;
        is = ap (λ (z : ℕ). drop z (row_text (cell h) spreads ++ page_text cell spreads shifts ++ zeros)) (zero-mul (row_width spreads)) ∙ append_assoc (row_text (cell h) spreads) (page_text cell spreads shifts) zeros;
      }
  row-there (h ∷ shifts) (suc i) zeros l =
      let p = row-there shifts i zeros (omega arith) in
      record {
        more = p.more;
        is =
            ap (λ (z : ℕ). drop z (row_text (cell h) spreads ++ page_text cell spreads shifts ++ zeros)) (suc-mul i (row_width spreads) ∙ add_comm (i * row_width spreads) (row_width spreads))
            ∙ ap (λ (z : List ℕ). drop (row_width spreads + i * row_width spreads) z) (append_assoc (row_text (cell h) spreads) (page_text cell spreads shifts) zeros)
            ∙ behind (row_width spreads) (i * row_width spreads) (row_text (cell h) spreads) (page_text cell spreads shifts ++ zeros) (row-wide (cell h) (wide h) spreads)
            ∙ p.is;
      }

module _ (cell : Float → List ℕ) (wide : (s : Float) → length (cell s) ≡ 16) where
  pub cell-there : (spreads : List Float) (j : ℕ) (more : List ℕ) → j < length spreads → take 16 (drop (16 * j) (row_text cell spreads ++ more)) ≡ cell (get_or spreads j plus_zero)
  unfolding row_text
  cell-there [] j more h = absurd (none j h)
    where
      none : (j : ℕ) → j < 0 → ⊥
      none j h = omega arith
  cell-there (s ∷ spreads) zero more h = ap (λ (z : List ℕ). take 16 z) (append_assoc (cell s) (row_text cell spreads) more) ∙ take_at (cell s) (row_text cell spreads ++ more) 16 (wide s)
  cell-there (s ∷ spreads) (suc j) more h =
      let e : 16 * suc j ≡ 16 + 16 * j = omega arith in
      ap (λ (z : ℕ). take 16 (drop z (cell s ++ row_text cell spreads ++ more))) e
      ∙ ap (λ (z : List ℕ). take 16 (drop (16 + 16 * j) z)) (append_assoc (cell s) (row_text cell spreads) more)
      ∙ ap (λ (z : List ℕ). take 16 z) (behind 16 (16 * j) (cell s) (row_text cell spreads ++ more) (wide s))
      ∙ cell-there spreads j more (omega arith)

  pub newline-there : (spreads : List Float) (more : List ℕ) → get_or (row_text cell spreads ++ more) (16 * length spreads) 0 ≡ 10
  unfolding row_text
  newline-there [] more = refl
  newline-there (s ∷ spreads) more =
      let e : 16 * suc (length spreads) ≡ 16 + 16 * length spreads = omega arith in
      ap (λ (z : ℕ). get_or (cell s ++ row_text cell spreads ++ more) z 0) e
      ∙ sym (get_or-drop 16 (cell s ++ row_text cell spreads ++ more) (16 * length spreads) 0)
      ∙ ap (λ (z : List ℕ). get_or (drop 16 z) (16 * length spreads) 0) (append_assoc (cell s) (row_text cell spreads) more)
      ∙ ap (λ (z : List ℕ). get_or z (16 * length spreads) 0) (behind 16 0 (cell s) (row_text cell spreads ++ more) (wide s))
      ∙ newline-there spreads more
