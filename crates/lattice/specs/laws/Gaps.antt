-- A node number that is not below another lies some steps above it; and node numbers as doubles keep their order. Assumes nothing.
use Rattle.std.specs.Prelude.{ℕ, zero, suc, ◌+◌, ◌-◌, ◌≡◌, T, ℤ, pos, negsuc}
use Rattle.std.proofs.Common.{add-suc, arith, sym, ap, subst, ◌∙◌, leb→le, ltb→lt, lit<}
use Rattle.std.proofs.Math.Nat.{sub-zero}
use Rattle.std.proofs.Math.IntN.{suc_ℤ}
use Rattle.std.specs.Int.Signed.{le_z}
use Rattle.std.specs.Float.{binary64}
use Rattle.std.specs.Float.Ieee.{le, of_int}
use Rattle.floats.specs.laws.Rounding.{Rounds, above, under, rounds-mono}
use Rattle.lattice.specs.Layers.{below, node_float}
use Rattle.lattice.specs.laws.IntegerOrder.{up, up_shift}

-- How far b is above a.
pub record Gap (a b : ℤ) : Type 0 where
  pub size : ℕ
  pub is : b ≡ up a size

up_pos : (m g : ℕ) → up (pos m) g ≡ pos (m + g)
unfolding up
up_pos m zero = let e : m ≡ m + 0 = omega arith in ap pos e
up_pos m (suc g) = ap suc_ℤ (up_pos m g) ∙ ap pos (sym (add-suc m g))

up_to-pos : (m n : ℕ) → up (negsuc m) (suc m + n) ≡ pos n
up_to-pos zero n = let e : 1 + n ≡ suc n = omega arith in rw e (sym (up_shift (negsuc 0) n) ∙ up_pos 0 n ∙ (let z : 0 + n ≡ n = omega arith in ap pos z))
up_to-pos (suc m) n = let e : suc (suc m) + n ≡ suc (suc m + n) = omega arith in rw e (sym (up_shift (negsuc (suc m)) (suc m + n)) ∙ up_to-pos m n)

up_negsuc : (n g : ℕ) → up (negsuc (n + g)) g ≡ negsuc n
unfolding up
up_negsuc n zero = let e : n + 0 ≡ n = omega arith in ap negsuc e
up_negsuc n (suc g) = let e : n + suc g ≡ suc (n + g) = omega arith in subst (λ (k : ℕ). up (negsuc k) (suc g) ≡ negsuc n) (sym e) (sym (up_shift (negsuc (suc (n + g))) g) ∙ up_negsuc n g)

pub gap_of : (a b : ℤ) → T (le_z a b) → Gap a b
gap_of (pos m) (pos n) h =
    let k = leb→le m n h in
    let e : m + (n - m) ≡ n = omega arith in
    record { size = n - m; is = sym (up_pos m (n - m) ∙ ap pos e) }
gap_of (pos m) (negsuc n) h = absurd h
gap_of (negsuc m) (pos n) h = record { size = suc m + n; is = sym (up_to-pos m n) }
gap_of (negsuc m) (negsuc n) h =
    let k = leb→le n m h in
    let e : n + (m - n) ≡ m = omega arith in
    record { size = m - n; is = sym (rw e at (up_negsuc n (m - n))) }

-- ---- as doubles

plus_int : (n : ℕ) → Rounds binary64 (of_int binary64 (pos n)) n 0 1
unfolding of_int
plus_int n = above (omega arith) (rw (sub-zero n))

minus_int : (n : ℕ) → Rounds binary64 (of_int binary64 (negsuc n)) 0 (suc n) 1
unfolding of_int
minus_int n = under (omega arith) (rw (sub-zero (suc n)))

pub node-mono : (a b : ℤ) → T (below a b) → T (le (node_float a) (node_float b))
node-mono (pos a) (pos b) h = let k = ltb→lt a b h in rounds-mono (lit< tt) (lit< tt) (plus_int a) (plus_int b) (omega arith)
node-mono (pos a) (negsuc b) h = absurd h
node-mono (negsuc a) (pos b) h = rounds-mono (lit< tt) (lit< tt) (minus_int a) (plus_int b) (omega arith)
node-mono (negsuc a) (negsuc b) h = let k = ltb→lt b a h in rounds-mono (lit< tt) (lit< tt) (minus_int a) (minus_int b) (omega arith)
