-- Node numbers that the tree can hold: middles within ±1,000,000, and their neighbours. Assumes nothing.
use Rattle.std.specs.Prelude.{zero, suc, ◌+◌, ◌≤◌, ℤ, pos, negsuc, List, [], ◌∷◌}
use Rattle.std.proofs.Common.{arith}
use Rattle.std.proofs.Math.IntN.{suc_ℤ, pred_ℤ}
use Rattle.std.specs.Int.Signed.{mag}

-- The size of a middle; −1,000,001 is let in too.
pub record Within (m : ℤ) : Type 0 where
  pub within : mag m ≤ 1000000

-- Every middle lies within its limit.
pub data AllWithin : List ℤ → Type 0 where
  no_middle : AllWithin []
  one_middle : {m : ℤ} {ms : List ℤ} → Within m → AllWithin ms → AllWithin (m ∷ ms)

pub held_both : {m : ℤ} {ms : List ℤ} → AllWithin (m ∷ ms) → Within m × AllWithin ms
held_both (one_middle w a) = (w, a)

-- The size of a node: a middle or one beside it.
pub record Numbered (n : ℤ) : Type 0 where
  pub numbered : mag n ≤ 1000001

pub mag_suc : (m : ℤ) → mag (suc_ℤ m) ≤ mag m + 1
mag_suc (pos n) = omega arith
mag_suc (negsuc zero) = omega arith
mag_suc (negsuc (suc n)) = omega arith

pub mag_pred : (m : ℤ) → mag (pred_ℤ m) ≤ mag m + 1
mag_pred (pos zero) = omega arith
mag_pred (pos (suc n)) = omega arith
mag_pred (negsuc n) = omega arith

pub within-numbered : {m : ℤ} → Within m → Numbered m
within-numbered {m} w = let h = w.within in record { numbered = omega arith }

pub numbered-suc : {m : ℤ} → Within m → Numbered (suc_ℤ m)
numbered-suc {m} w = let h = w.within in let k = mag_suc m in record { numbered = omega arith }

pub numbered_pred : {m : ℤ} → Within m → Numbered (pred_ℤ m)
numbered_pred {m} w = let h = w.within in let k = mag_pred m in record { numbered = omega arith }
