-- The kinds that must be there, one after the other. Assumes nothing.
use Rattle.std.proofs.Common.{ℕ, suc, ◌+◌, ◌≤◌, ◌<◌, ◌≡◌, Bool, true, false, cond, Ok, Err, List, length, get_or, drop, refl, sym, ap, ◌∙◌, add-one, eqb, drop-cons, drop_of_length-le}
use borrow.Author.Tests.{eq-eqb, ne_eqb}
use Rattle.bondline.specs.declared.Kind.{Kind}
use Rattle.bondfile.specs.declared.FileError.TheVariants.{Missing}
use Rattle.bondfile.specs.Entries.{number_of}
use Rattle.bondfile.specs.Checks.{missing_of}

module _ (ks : List Kind) (counts : List ℕ) (i : ℕ) (k : Kind) (h : i < length ks) (e : k ≡ get_or ks i k) where
  step : (z : Bool) → eqb (get_or counts (number_of k) 0) 0 ≡ z → missing_of (drop i ks) counts ≡ cond z (Err (Missing k)) (missing_of (drop (suc i) ks) counts)
  step z t =
      ap (λ (l : List Kind). missing_of l counts) (drop-cons ks i k h)
      ∙ ap (λ (x : Kind). cond (eqb (get_or counts (number_of x) 0) 0) (Err (Missing x)) (missing_of (drop (suc i) ks) counts)) (sym e)
      ∙ ap (λ (b : Bool). cond b (Err (Missing k)) (missing_of (drop (suc i) ks) counts)) t

  pub missing_found : get_or counts (number_of k) 0 ≡ 0 → missing_of (drop i ks) counts ≡ missing_of ks counts → Err (Missing k) ≡ missing_of ks counts
  missing_found t s = sym (step true (eq-eqb _ _ t)) ∙ s

  pub missing_next : (get_or counts (number_of k) 0 ≡ 0 → ⊥) → missing_of (drop i ks) counts ≡ missing_of ks counts → missing_of (drop (i + 1) ks) counts ≡ missing_of ks counts
  missing_next t s = rw add-one (sym (step false (ne_eqb _ _ t)) ∙ s)

pub missing_none : (ks : List Kind) (counts : List ℕ) (i : ℕ) → length ks ≤ i → missing_of (drop i ks) counts ≡ Ok tt
missing_none ks counts i h = rw (drop_of_length-le ks h) refl
