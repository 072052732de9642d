-- Texts written one behind the other, and the page that they make. Assumes nothing.
use Rattle.std.specs.Prelude.{ℕ, zero, suc, ◌+◌, ◌-◌, ◌≤◌, ◌≡◌, List, [], ◌∷◌, ◌++◌, length, set, replicate, None}
use Rattle.std.proofs.Common.{sym, ap, ◌∙◌, add-zero, add_assoc, arith, length-append}
use Rattle.std.proofs.Math.Seq.{append_snoc, set-append_seam}
use Rattle.bondreport.specs.Columns.{put_at}
use Rattle.spreadtable.specs.declared.SpreadTable.{SpreadTable}
use Rattle.spreadtable.specs.declared.Written.{Written}
use Rattle.spreadtable.specs.Page.{no_page, printed}

abbrev pub empty : Written
empty = record { page = no_page; length = 0 }

-- A text behind what is written.
abbrev pub appended : Written → List ℕ → Written
appended w text = record { page = put_at w.page w.length text; length = w.length + length text }

-- What is written, with its length.
abbrev pub as_table : Written → SpreadTable
as_table w = record { refusal = None; length = w.length; page = w.page }

put-append : (xs ys line : List ℕ) (i : ℕ) → put_at line i (xs ++ ys) ≡ put_at (put_at line i xs) (i + length xs) ys
unfolding put_at
put-append [] ys line i = ap (λ (z : ℕ). put_at line z ys) (sym (add-zero i))
put-append (b ∷ xs) ys line i =
    let e : suc i + length xs ≡ i + suc (length xs) = omega arith in
    put-append xs ys (set line i b) (suc i) ∙ ap (λ (z : ℕ). put_at (put_at (set line i b) (suc i) xs) z ys) e

pub twice : (w : Written) (xs ys : List ℕ) → appended (appended w xs) ys ≡ appended w (xs ++ ys)
twice w xs ys =
    ap (λ (z : List ℕ). record { page = z; length = w.length + length xs + length ys }) (sym (put-append xs ys w.page w.length))
    ∙ ap (λ (z : ℕ). record { page = put_at w.page w.length (xs ++ ys); length = z }) (add_assoc w.length (length xs) (length ys) ∙ ap (λ (z : ℕ). w.length + z) (sym (length-append xs ys)))

-- Zeros are left behind a text.
before-zeros : (text p : List ℕ) (n : ℕ) → length text ≤ n → put_at (p ++ replicate n 0) (length p) text ≡ p ++ (text ++ replicate (n - length text) 0)
unfolding put_at
before-zeros [] p n h = let e : n ≡ n - 0 = omega arith in ap (λ (z : ℕ). p ++ replicate z 0) e
before-zeros (b ∷ text) p zero h = absurd (omega arith)
before-zeros (b ∷ text) p (suc n) h =
    ap (λ (z : List ℕ). put_at z (suc (length p)) text) (set-append_seam p 0 (replicate n 0) b ∙ sym (append_snoc p b (replicate n 0)))
    ∙ ap (λ (z : ℕ). put_at ((p ++ (b ∷ [])) ++ replicate n 0) z text) one_more
    ∙ before-zeros text (p ++ (b ∷ [])) n (omega arith)
    ∙ append_snoc p b (text ++ replicate (n - length text) 0)
    ∙ ap (λ (z : ℕ). p ++ (b ∷ (text ++ replicate z 0))) same
  where
    one_more : suc (length p) ≡ length (p ++ (b ∷ []))
    one_more = let e : suc (length p) ≡ length p + 1 = omega arith in e ∙ sym (length-append p (b ∷ []))

    same : n - length text ≡ suc n - suc (length text)
    same = omega arith

-- A text that is written into an empty page is the page, zero past it.
pub page_is : (text : List ℕ) → length text ≤ 4112 → as_table (appended empty text) ≡ printed text
page_is text h =
    ap (λ (z : List ℕ). record { refusal = None; length = 0 + length text; page = z }) (before-zeros text [] 4112 h)
    ∙ ap (λ (z : ℕ). record { refusal = None; length = z; page = text ++ replicate (4112 - length text) 0 }) none
  where
    none : 0 + length text ≡ length text
    none = omega arith
