-- A row that is filled cell by cell, and a page row by row: what is left to write gives the whole. Assumes nothing.
use Rattle.std.specs.Prelude.{ℕ, ◌+◌, ◌-◌, ◌*◌, ◌≤◌, ◌<◌, ◌≡◌, refl, length, get_or, drop, Float}
use Rattle.std.proofs.Common.{sym, ◌∙◌, add-one, arith, drop_of_length-le, drop-cons}
use Rattle.std.proofs.Math.Path.{ap, subst}
use mathlib.Core.List.{List, [], ◌∷◌, ◌++◌}
use Rattle.std.specs.Float.Ieee.{nan}
use Rattle.spreadtable.specs.declared.Written.{Written}
use Rattle.spreadtable.specs.Page.{row_text}
use Rattle.spreadtable.specs.laws.Writing.{appended, twice}

-- ---- a row

pub record Filling (cell : Float → List ℕ) (spreads : List Float) (start row : Written) (i : ℕ) : Type 0 where
  pub within : i ≤ length spreads
  pub room : row.length + 16 * (length spreads - i) + 1 ≤ 4112
  pub rest : appended row (row_text cell (drop i spreads)) ≡ appended start (row_text cell spreads)

module _ (cell : Float → List ℕ) (spreads : List Float) (start : Written) where
  pub fill-begin : start.length + 16 * length spreads + 1 ≤ 4112 → Filling cell spreads start start 0
  fill-begin h = record { within = omega arith; room = omega arith; rest = refl }

  module _ (row : Written) (i : ℕ) (p : Filling cell spreads start row i) where
    pub fill-turn : {next : Written} {text : List ℕ} → i < length spreads → text ≡ cell (get_or spreads i nan) → length text ≡ 16 → next ≡ appended row text → Filling cell spreads start next (i + 1)
    unfolding row_text
    fill-turn {next} {text} h e l n =
        record {
          within = omega arith;
          room = subst (λ (w : Written). w.length + 16 * (length spreads - (i + 1)) + 1 ≤ 4112) (sym n) (omega (arith, p.room, l));
          rest =
              ap (λ (w : Written). appended w (row_text cell (drop (i + 1) spreads))) n
              ∙ twice row text (row_text cell (drop (i + 1) spreads))
              ∙ ap (λ (z : List ℕ). appended row (z ++ row_text cell (drop (i + 1) spreads))) e
              ∙ ap (λ (j : ℕ). appended row (cell (get_or spreads i nan) ++ row_text cell (drop j spreads))) (add-one i)
              ∙ ap (λ (z : List Float). appended row (row_text cell z)) (sym (drop-cons spreads i nan h))
              ∙ p.rest;
        }

    pub fill-room : (text : List ℕ) → i < length spreads → length text ≡ 16 → row.length + length text ≤ 4112
    fill-room text h l = omega (arith, p.room)

    pub fill_last : (text : List ℕ) → length spreads ≤ i → length text ≡ 1 → row.length + length text ≤ 4112
    fill_last text h l = omega (arith, p.room)

    pub fill_done : {r : Written} → length spreads ≤ i → r ≡ appended row (10 ∷ []) → r ≡ appended start (row_text cell spreads)
    unfolding row_text
    fill_done h e = e ∙ ap (λ (z : List Float). appended row (row_text cell z)) (sym (drop_of_length-le spreads h)) ∙ p.rest

-- Equal cells make equal rows.
pub same_cells : (f g : Float → List ℕ) → ((s : Float) → f s ≡ g s) → (spreads : List Float) → row_text f spreads ≡ row_text g spreads
unfolding row_text
same_cells f g e [] = refl
same_cells f g e (s ∷ spreads) = ap (λ (z : List ℕ). z ++ row_text f spreads) (e s) ∙ ap (λ (z : List ℕ). g s ++ z) (same_cells f g e spreads)
