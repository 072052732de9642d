-- Pairing without repeats: no more entries are paired than there are partners, and where they are as many, every partner is taken. Assumes nothing.
use Rattle.std.specs.Prelude.{◌≡◌, refl, Bool, true, false, cond, ℕ, zero, suc, ◌<◌, ◌≤◌, eqb}
use Rattle.std.proofs.Common.{sym, ◌∙◌, inl, inr, arith, T_not, eqb→eq}
use Rattle.std.specs.Float.Ieee.Fits.{eq→eqb}
use Rattle.terms.specs.laws.Searching.{somewhere}

-- A pairing of the indices below n with indices below m, no two with the same one.
pub record Into (f : ℕ → ℕ) (n m : ℕ) : Type 0 where
  pub lands : (i : ℕ) → i < n → f i < m
  pub apart : (i j : ℕ) → i < n → j < n → f i ≡ f j → i ≡ j

-- ---- a place that is free takes the role of the last place

abbrev redirect : (ℕ → ℕ) → ℕ → ℕ → ℕ → ℕ
redirect f last free i = cond (eqb (f i) last) free (f i)

data Turned (a last free b : ℕ) : Type 0 where
  moved : a ≡ last → b ≡ free → Turned a last free b
  kept : a < last → b ≡ a → Turned a last free b

turn : (a last free : ℕ) → a < suc last → (t : Bool) → eqb a last ≡ t → Turned a last free (cond t free a)
turn a last free h true e = moved (eqb→eq a last (rw e tt)) refl
turn a last free h false e =
    kept (let ne : (a ≡ last → ⊥) = λ q. T_not (eqb a last) (rw e tt) (eq→eqb q) in omega arith) refl

module _ (f : ℕ → ℕ) (n last free : ℕ) (into : Into f n (suc last)) (h : free < suc last) (unused : (i : ℕ) → i < n → f i ≡ free → ⊥) where
  below : (i : ℕ) → i < n → {b : ℕ} → Turned (f i) last free b → b < last
  below i l (moved p q) = let u = unused i l in omega arith
  below i l (kept p q) = omega arith

  distinct : (i j : ℕ) → i < n → j < n → {a b : ℕ} → Turned (f i) last free a → Turned (f j) last free b → a ≡ b → i ≡ j
  distinct i j l k (moved p q) (moved p' q') e = into.apart i j l k (p ∙ sym p')
  distinct i j l k (moved p q) (kept p' q') e = absurd (unused j k (sym q' ∙ sym e ∙ q))
  distinct i j l k (kept p q) (moved p' q') e = absurd (unused i l (sym q ∙ e ∙ q'))
  distinct i j l k (kept p q) (kept p' q') e = into.apart i j l k (sym q ∙ e ∙ q')

  turned_at : (i : ℕ) → i < n → Turned (f i) last free (redirect f last free i)
  turned_at i l = turn (f i) last free (into.lands i l) (eqb (f i) last) refl

  redirect_into : Into (redirect f last free) n last
  redirect_into =
      record {
        lands = λ i l. below i l (turned_at i l);
        apart = λ i j l k e. distinct i j l k (turned_at i l) (turned_at j k) e;
      }

-- ---- the two laws of such a pairing

-- No more are paired than there are partners.
pub no_more : (f : ℕ → ℕ) (n m : ℕ) → Into f n m → n ≤ m
no_more f zero m into = omega arith
no_more f (suc n) zero into = absurd (let l = into.lands 0 (omega arith) in omega arith)
no_more f (suc n) (suc m) into =
    let fewer : Into f n (suc m) =
    record {
      lands = λ i l. into.lands i (omega arith);
      apart = λ i j l k e. into.apart i j (omega arith) (omega arith) e;
    } in
    let unused : ((i : ℕ) → i < n → f i ≡ f n → ⊥) = λ i l e. let q = into.apart i n (omega arith) (omega arith) e in omega arith in
    let less = no_more (redirect f m (f n)) n m (redirect_into f n m (f n) fewer (into.lands n (omega arith)) unused) in
    omega arith

-- Where as many are paired as there are partners, every partner is taken.
pub record Taken (f : ℕ → ℕ) (n j : ℕ) : Type 0 where
  pub by : ℕ
  pub below-size : by < n
  pub is : f by ≡ j

pub all_taken : (f : ℕ → ℕ) (n : ℕ) → Into f n n → (j : ℕ) → j < n → Taken f n j
all_taken f zero into j h = absurd (omega arith)
all_taken f (suc n) into j h =
    elim (somewhere (λ i. eqb (f i) j) (suc n)) [
      | inl s ↦ record { by = s.index; below-size = s.below; is = eqb→eq (f s.index) j s.holds }
      | inr none ↦
          absurd
          (let unused : ((i : ℕ) → i < suc n → f i ≡ j → ⊥) = λ i l e. T_not (eqb (f i) j) (none i l) (eq→eqb e) in
          let less = no_more (redirect f n j) (suc n) n (redirect_into f (suc n) n j into h unused) in
          omega arith)
    ]
