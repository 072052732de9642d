-- Nothing of a file is lost and nothing invented: its lines are its bytes, each line has one entry, a list's entries are those lines' entries of its kind, in order, and a slice with room for them all holds them all. Assumes nothing.
use Rattle.std.specs.Prelude.{ℕ, zero, suc, ◌≤◌, ◌≡◌, refl, ◌⊎◌, Bool, true, false, cond, List, [], ◌∷◌, ◌++◌, map, length, take, drop, eqb}
use Rattle.std.proofs.Common.{arith, sym, ap, ◌∙◌, inl, inr, length-append, take_all, eqb-true}
use Rattle.bondline.specs.Forms.{Said}
use Rattle.bondline.specs.Lines.{line_entry}
use Rattle.bondfile.specs.Entries.{kind_of}
use Rattle.bondfile.specs.File.{begun, lines_of, Numbered, numbered, of_kind}
use Rattle.bondfile.specs.Storing.{Stored}

-- ---- bytes and lines

-- Lines written one after the other, each with its end.
unfoldable pub written : List (List ℕ) → List ℕ
written [] = []
written (line ∷ lines) = line ++ (10 ∷ written lines)

abbrev Whole : List (List ℕ) → List ℕ → Type 0
Whole lines text = (written lines ≡ text) ⊎ (written lines ≡ text ++ (10 ∷ []))

ended : (b : ℕ) (bs : List ℕ) (lines : List (List ℕ)) → b ≡ 10 → Whole lines bs → Whole ([] ∷ lines) (b ∷ bs)
unfolding written
ended b bs lines e (inl p) = inl (ap (λ (x : ℕ). x ∷ written lines) (sym e) ∙ ap (λ (l : List ℕ). b ∷ l) p)
ended b bs lines e (inr p) = inr (ap (λ (x : ℕ). x ∷ written lines) (sym e) ∙ ap (λ (l : List ℕ). b ∷ l) p)

longer : (b : ℕ) (bs : List ℕ) (lines : List (List ℕ)) → Whole lines bs → Whole (begun b lines) (b ∷ bs)
unfolding written
longer b bs [] (inl p) = inr (ap (λ (l : List ℕ). b ∷ (l ++ (10 ∷ []))) p)
longer b bs [] (inr p) = absurd (omega (arith, simp length-append at (ap length p)))
longer b bs (line ∷ lines) (inl p) = inl (ap (λ (l : List ℕ). b ∷ l) p)
longer b bs (line ∷ lines) (inr p) = inr (ap (λ (l : List ℕ). b ∷ l) p)

-- The lines written out are the file, with the last line's end where it lacks it.
pub lines-kept : (text : List ℕ) → (written (lines_of text) ≡ text) ⊎ (written (lines_of text) ≡ text ++ (10 ∷ []))
unfolding lines_of written
lines-kept [] = inl refl
lines-kept (b ∷ bs) = pick (eqb b 10) refl (lines-kept bs)
  where
    pick : (z : Bool) → eqb b 10 ≡ z → Whole (lines_of bs) bs → Whole (cond z ([] ∷ lines_of bs) (begun b (lines_of bs))) (b ∷ bs)
    pick true e h = ended b bs (lines_of bs) (eqb-true b 10 e) h
    pick false e h = longer b bs (lines_of bs) h

-- ---- lines and entries

-- One entry for each line, in order, with its number.
pub entry_of-line : (n : ℕ) (lines : List (List ℕ)) → map (λ e. e.entry) (numbered n lines) ≡ map line_entry lines
unfolding numbered
entry_of-line n [] = refl
entry_of-line n (line ∷ lines) = ap (λ (es : List Said). line_entry line ∷ es) (entry_of-line (suc n) lines)

-- The numbers count up.
unfoldable pub count_up : ℕ → ℕ → List ℕ
count_up n zero = []
count_up n (suc k) = n ∷ count_up (suc n) k

pub numbers_of-lines : (n : ℕ) (lines : List (List ℕ)) → map (λ e. e.line) (numbered n lines) ≡ count_up n (length lines)
unfolding numbered count_up
numbers_of-lines n [] = refl
numbers_of-lines n (line ∷ lines) = ap (λ (ns : List ℕ). n ∷ ns) (numbers_of-lines (suc n) lines)

-- ---- entries of a kind

-- The entries that pass a test, in order.
unfoldable pub those : (Numbered → Bool) → List Numbered → List Numbered
those p [] = []
those p (e ∷ es) = cond (p e) (e ∷ those p es) (those p es)

pub kind_filtered : (k : ℕ) (es : List Numbered) → of_kind k es ≡ those (λ e. eqb (kind_of e.entry) k) es
unfolding of_kind those
kind_filtered k [] = refl
kind_filtered k (e ∷ es) = ap (λ (rest : List Numbered). cond (eqb (kind_of e.entry) k) (e ∷ rest) rest) (kind_filtered k es)

-- ---- what a slice holds

-- A slice with room for all entries holds them all, and behind them what it held.
pub record All {A : Type 0} (part : Numbered → A) (es : List Numbered) (before after : List A) (count : ℕ) : Type 0 where
  pub counted : count ≡ length es
  pub content : after ≡ map part es ++ drop (length es) before

pub all_stored : {A : Type 0} {part : Numbered → A} {es : List Numbered} {before after : List A} {count : ℕ} → Stored part es before after count → length es ≤ length before → All part es before after count
all_stored {A} {part} {es} {before} {after} {count} s h =
    let n : count ≡ length es = omega (arith, s.counted) in
    record { counted = n; content = s.content ∙ ap (λ (k : ℕ). map part (take k es) ++ drop k before) n ∙ ap (λ (l : List Numbered). map part l ++ drop (length es) before) (take_all (length es) es (omega arith)) }
