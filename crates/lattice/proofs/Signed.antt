-- Signed numbers of the code: a local holds bits, and reads back as the number where that fits. Nodes fit, with their neighbours. Assumes nothing.
use Prim.Native.Nat.{◌≤◌}
use mathlib.Core.Path.{◌≡◌, refl, ap, ◌∙◌}
use mathlib.Core.Bool.{Bool}
use native.Mathlib.Omega.{arith}
use lib.IntN.{ℤ, pos, negsuc, suc_ℤ, pred_ℤ, ◌+ℤ◌, ◌-ℤ◌, +ℤ_one, -ℤ_one, +ℤ-pred_ℤ}
use lib.Signed.{mag, lt_z}
use mir.Syntax.{w32}
use mir.Val.{SFits, to_z, of_z}
use mir.Facts.{to_z-of_z}
use Rattle.lattice.specs.Layers.{below}
use Rattle.lattice.specs.laws.Bounds.{Within, Numbered, mag_pred, numbered-suc, numbered_pred, within-numbered}

-- what is read back
abbrev pub back : ℤ → ℤ
back z = to_z w32 (of_z w32 z)

pub numbered-fits : {n : ℤ} → Numbered n → SFits w32 n
numbered-fits w = let h = w.numbered in record { sfits = omega arith }

pub back-numbered : {n : ℤ} → Numbered n → back n ≡ n
back-numbered w = to_z-of_z (numbered-fits w)

-- ---- the order of two numbers that were read back

below_is : (a b : ℤ) → below a b ≡ lt_z a b
below_is (pos a) (pos b) = refl
below_is (pos a) (negsuc b) = refl
below_is (negsuc a) (pos b) = refl
below_is (negsuc a) (negsuc b) = refl

pub below_by : {f : Bool} (a b : ℤ) → SFits w32 a → SFits w32 b → lt_z (back a) (back b) ≡ f → below a b ≡ f
below_by a b p q h = below_is a b ∙ (rw (to_z-of_z p, to_z-of_z q) at h)

-- ---- one more and one less

minus_two_lem : (m : ℤ) → m -ℤ pos 2 ≡ pred_ℤ (pred_ℤ m)
minus_two_lem m = +ℤ-pred_ℤ m (negsuc 0) ∙ ap pred_ℤ (-ℤ_one m)

module _ (m : ℤ) (w : Within m) where
  pub less_fits : SFits w32 (back m -ℤ pos 1)
  less_fits = rw (back-numbered (within-numbered w), -ℤ_one m) (numbered-fits (numbered_pred w))

  pub less_is : back (back m -ℤ pos 1) ≡ pred_ℤ m
  less_is = rw (back-numbered (within-numbered w), -ℤ_one m) (back-numbered (numbered_pred w))

  pub more_fits : SFits w32 (back m +ℤ pos 1)
  more_fits = rw (back-numbered (within-numbered w), +ℤ_one m) (numbered-fits (numbered-suc w))

  pub more_is : back (back m +ℤ pos 1) ≡ suc_ℤ m
  more_is = rw (back-numbered (within-numbered w), +ℤ_one m) (back-numbered (numbered-suc w))

  two_less_size : mag (pred_ℤ (pred_ℤ m)) ≤ 1000002
  two_less_size = let h = w.within in omega (arith, mag_pred m, mag_pred (pred_ℤ m))

  pub two_less_fits : SFits w32 (back m -ℤ pos 2)
  two_less_fits = rw (back-numbered (within-numbered w), minus_two_lem m) (let h = two_less_size in record { sfits = omega arith })

  pub two_less_is : back (back m -ℤ pos 2) ≡ pred_ℤ (pred_ℤ m)
  two_less_is = rw (back-numbered (within-numbered w), minus_two_lem m) (to_z-of_z {w = w32} (let h = two_less_size in record { sfits = omega arith }))
