-- The check of a file line by line: one more line, and the end. Assumes nothing.
use Rattle.std.proofs.Common.{ℕ, suc, ◌+◌, ◌≤◌, ◌<◌, ◌≡◌, Bool, cond, replicate, Ok, Err, List, length, get_or, set, drop, refl, sym, ap, ◌∙◌, add-one, drop-cons, drop_of_length-le}
use borrow.Author.Tests.{le-ltb}
use Rattle.bondline.specs.declared.Fault.{Fault}
use Rattle.bondline.specs.Results.{◌>>=◌}
use Rattle.bondfile.specs.declared.FileError.{FileError}
use Rattle.bondfile.specs.declared.FileError.TheVariants.{TooLarge, Wrong}
use Rattle.bondfile.specs.Entries.{kind_of}
use Rattle.bondfile.specs.File.{Numbered, entries_of}
use Rattle.bondfile.specs.Checks.{verdict_of, missing, check_from, file_check}

module _ (counts : List ℕ) (es : List Numbered) (i : ℕ) (x : Numbered) (h : i < length es) (e : x ≡ get_or es i x) where
  step : check_from counts (drop i es) ≡ (verdict_of x.entry x.line (get_or counts (kind_of x.entry) 0) >>= λ n. check_from (set counts (kind_of x.entry) n) (drop (suc i) es))
  unfolding check_from
  step =
      ap (check_from counts) (drop-cons es i x h)
      ∙ ap (λ (z : Numbered). verdict_of z.entry z.line (get_or counts (kind_of z.entry) 0) >>= λ n. check_from (set counts (kind_of z.entry) n) (drop (suc i) es)) (sym e)

  -- A line that adds n, and one that is refused.
  pub check_more : (k n : ℕ) → k ≡ kind_of x.entry → verdict_of x.entry x.line (get_or counts k 0) ≡ Ok n → check_from (set counts k n) (drop (i + 1) es) ≡ check_from counts (drop i es)
  check_more k n p q =
      rw (add-one, p) (sym (step ∙ ap (λ r. r >>= λ n. check_from (set counts (kind_of x.entry) n) (drop (suc i) es)) (rw p at q)))

  pub check_stop : (k : ℕ) (f : FileError) → k ≡ kind_of x.entry → verdict_of x.entry x.line (get_or counts k 0) ≡ Err f → Err f ≡ check_from counts (drop i es)
  check_stop k f p q = sym (step ∙ ap (λ r. r >>= λ n. check_from (set counts (kind_of x.entry) n) (drop (suc i) es)) (rw p at q))

pub check_none : (counts : List ℕ) (es : List Numbered) (i : ℕ) → length es ≤ i → check_from counts (drop i es) ≡ missing counts
check_none counts es i h = rw (drop_of_length-le es h) (unfold check_from in refl)

pub check_refused : (counts : List ℕ) (es : List Numbered) (i line : ℕ) (q : Fault) (x : Numbered) → x ≡ record { line = line; entry = Err q } → i < length es → x ≡ get_or es i x → Err (Wrong line q) ≡ check_from counts (drop i es)
unfolding verdict_of
check_refused counts es i line q x u h e = check_stop counts es i x h e 12 (Wrong line q) (rw u refl) (rw u refl)

pub check_small : (text : List ℕ) → length text ≤ 65536 → check_from (replicate 12 0) (entries_of text) ≡ file_check text
check_small text h = ap (λ (b : Bool). cond b (Err TooLarge) (check_from (replicate 12 0) (entries_of text))) (sym (le-ltb 65536 (length text) h))
