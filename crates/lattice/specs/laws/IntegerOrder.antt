-- The order of node numbers, counted from a base: b + i is below b + j where i is below j. Assumes nothing.
use Rattle.std.specs.Prelude.{ℕ, zero, suc, ◌≡◌, refl, true, false, ltb, ℤ, pos, negsuc}
use Rattle.std.proofs.Common.{arith, sym, ap, ◌∙◌, subst, lt-ltb, le-ltb, ltb-true}
use Rattle.std.proofs.Math.Dec.{leb-suc-suc, leb-zero, leb-suc-zero}
use Rattle.std.proofs.Math.IntN.{suc_ℤ, pred_ℤ, suc-pred, pred-suc}
use Rattle.lattice.specs.Layers.{below}

-- b and n steps up.
unfoldable pub up : ℤ → ℕ → ℤ
up b zero = b
up b (suc n) = suc_ℤ (up b n)

-- One more on both sides changes nothing.
pub below_suc : (a b : ℤ) → below (suc_ℤ a) (suc_ℤ b) ≡ below a b
below_suc (pos a) (pos b) = leb-suc-suc (suc a) b
below_suc (pos a) (negsuc zero) = leb-suc-zero (suc a)
below_suc (pos a) (negsuc (suc b)) = refl
below_suc (negsuc zero) (pos b) = leb-suc-suc 0 b ∙ leb-zero b
below_suc (negsuc zero) (negsuc zero) = refl
below_suc (negsuc zero) (negsuc (suc b)) = sym (leb-suc-zero (suc b))
below_suc (negsuc (suc a)) (pos b) = refl
below_suc (negsuc (suc a)) (negsuc zero) = sym (leb-suc-suc 0 a ∙ leb-zero a)
below_suc (negsuc (suc a)) (negsuc (suc b)) = sym (leb-suc-suc (suc b) a)

pub below_self : (a : ℤ) → below a a ≡ false
below_self (pos a) = le-ltb a a (omega arith)
below_self (negsuc a) = le-ltb a a (omega arith)

never : {A : Type 0} → false ≡ true → A
never e = let z : ◌≡◌ {A = ℕ} 0 1 = cc in absurd (omega arith)

-- Neither is below the other at once.
pub below_asym : (a b : ℤ) → below a b ≡ true → below b a ≡ false
below_asym (pos a) (pos b) e = le-ltb b a (omega (arith, ltb-true a b e))
below_asym (pos a) (negsuc b) e = never e
below_asym (negsuc a) (pos b) e = refl
below_asym (negsuc a) (negsuc b) e = le-ltb a b (omega (arith, ltb-true b a e))

below_more : (a b : ℤ) → below a b ≡ true → below a (suc_ℤ b) ≡ true
below_more (pos a) (pos b) e = lt-ltb a (suc b) (omega (arith, ltb-true a b e))
below_more (pos a) (negsuc b) e = never e
below_more (negsuc a) (pos b) e = refl
below_more (negsuc a) (negsuc zero) e = refl
below_more (negsuc a) (negsuc (suc b)) e = lt-ltb b a (omega (arith, ltb-true (suc b) a e))

pub below_next : (a : ℤ) → below a (suc_ℤ a) ≡ true
below_next (pos a) = lt-ltb a (suc a) (omega arith)
below_next (negsuc zero) = refl
below_next (negsuc (suc a)) = lt-ltb a (suc a) (omega arith)

-- ---- counted from a base

below_base : (b : ℤ) (j : ℕ) → below b (up b (suc j)) ≡ true
unfolding up
below_base b zero = below_next b
below_base b (suc j) = below_more b (suc_ℤ (up b j)) (below_base b j)

pub below_up : (b : ℤ) (i j : ℕ) → below (up b i) (up b j) ≡ ltb i j
unfolding up
below_up b zero zero = below_self b
below_up b zero (suc j) = below_base b j ∙ sym (leb-suc-suc 0 j ∙ leb-zero j)
below_up b (suc i) zero = below_asym b (suc_ℤ (up b i)) (below_base b i) ∙ sym (leb-suc-zero (suc i))
below_up b (suc i) (suc j) = below_suc (up b i) (up b j) ∙ below_up b i j ∙ sym (leb-suc-suc (suc i) j)

pub up_suc : (b : ℤ) (n : ℕ) → suc_ℤ (up b n) ≡ up b (suc n)
unfolding up
up_suc b n = refl

pub up_pred : (b : ℤ) (n : ℕ) → pred_ℤ (up b (suc n)) ≡ up b n
unfolding up
up_pred b n = pred-suc (up b n)

-- From the node after the base.
pub up_shift : (b : ℤ) (n : ℕ) → up (suc_ℤ b) n ≡ up b (suc n)
unfolding up
up_shift b zero = refl
up_shift b (suc n) = ap suc_ℤ (up_shift b n)

-- What holds of every node after another holds of all.
pub at_base : (P : ℤ → Type 0) → ((b : ℤ) → P (suc_ℤ b)) → (m : ℤ) → P m
at_base P h m = subst P (suc-pred m) (h (pred_ℤ m))
