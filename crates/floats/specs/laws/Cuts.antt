-- Ways from a float to a whole number. `Cut N` says of N, where N s a c is the size of the whole number that ±a / c goes to, that it keeps the order of fractions and leaves a whole number as it is.
-- What follows from that holds of rounding and of going upwards alike: the order of floats is kept, what comes out is a whole number and no -0, and only the exact value matters. Assumes nothing.
use Prim.Native.Nat.{ℕ, zero, suc, ◌+◌, ◌*◌, ◌%◌, ◌^◌, ◌≤◌, ◌<◌, zero-le}
use Rattle.std.proofs.Common.{le_antisymm, le_of_eq, le_trans, le_of_lt, lt_irrefl, zero-lt-suc, mul-one, add_comm, zero-mul, mul-pos, mul_assoc, mul-lt-mul_of_pos_right, le-mul_of_pos_right, eq-zero-or-pos, arith, ap, ◌∙◌, inl, inr, true≢false, lit<, ltb→lt, pow-add, pow_pos}
use Rattle.std.proofs.Math.Nat.{sub-zero}
use Rattle.std.specs.Prelude.{◌≡◌, refl, ◌⊎◌, Bool, cond, ◌&&◌, ℤ, pos, negsuc, T, eqb, ltb, leb, Float, Ok}
use Rattle.std.proofs.Math.Path.{sym, subst}
use Rattle.std.proofs.Math.Bool.{true, false}
use Rattle.std.proofs.Math.Dec.{eqb-suc-zero}
use Rattle.std.specs.Float.{nan, inf, fin, Format}
use Rattle.std.specs.Float.Ieee.{binary64, prec, emax, low, up, down, round, fits, le, of_bits}
use Rattle.std.specs.Float.Ieee.Fits.{down_pos, and_l, and_r, round-fits}
use Rattle.std.specs.Float.Ieee.Bits.{of_bits-fits}
use Rattle.std.specs.Float.Ieee.Exact.{HasValue, round_exact}
use Rattle.std.specs.Float.Ieee.Back.{round_whole, whole_unique}
use Rattle.std.specs.Float.Ieee.Scale.{finite}
use Rattle.floats.specs.Answers.{plus_zero, tested}
use Rattle.floats.specs.Whole.{whole_of}
use Rattle.floats.specs.laws.Fractions.{leq_of_le, on_finite}
use Rattle.floats.specs.laws.Rounding.{Rounds, above, under, rounds-mono, round-zero}

pub record Cut (N : Bool → ℕ → ℕ → ℕ) : Type 0 where
  pub mono : (s : Bool) (a b c d : ℕ) → 0 < b → 0 < d → a * d ≤ c * b → N s a b ≤ N s c d
  pub own : (s : Bool) (n : ℕ) → N s n 1 ≡ n

-- what a cut makes of a float
abbrev pub cut_to : (Bool → ℕ → ℕ → ℕ) → Float → Float
cut_to N nan = nan
cut_to N (inf s) = inf s
cut_to N (fin s m e) = whole_of s (N s (m * up e) (down e))

-- ---- a whole number with a sign

pub whole-nil : (s : Bool) → whole_of s 0 ≡ plus_zero
unfolding whole_of
whole-nil s = refl

pub whole_pos : (s : Bool) (n : ℕ) → 0 < n → whole_of s n ≡ round binary64 s n 1
unfolding whole_of
whole_pos s zero h = absurd (lt_irrefl 0 h)
whole_pos s (suc n) h = ap (λ (b : Bool). cond b plus_zero (round binary64 s (suc n) 1)) (eqb-suc-zero n)

plus-rounds : (n : ℕ) → Rounds binary64 (whole_of false n) n 0 1
plus-rounds zero = unfold of_bits in above zero-le (whole-nil false ∙ sym (round-zero binary64 false 1 (lit< tt)))
plus-rounds (suc n) = above zero-le (whole_pos false (suc n) (zero-lt-suc n) ∙ ap (λ (z : ℕ). round binary64 false z 1) (sym (sub-zero (suc n))))

minus-rounds : (n : ℕ) → Rounds binary64 (whole_of true n) 0 n 1
minus-rounds zero = unfold of_bits in above zero-le (whole-nil true ∙ sym (round-zero binary64 false 1 (lit< tt)))
minus-rounds (suc n) = under zero-le (whole_pos true (suc n) (zero-lt-suc n) ∙ ap (λ (z : ℕ). round binary64 true z 1) (sym (sub-zero (suc n))))

-- ---- a float that is a whole number: its exact value is ±size, it is no -0, and the format holds it

pub record IsWhole (y : Float) : Type 0 where
  pub sign : Bool
  pub size : ℕ
  pub value : HasValue y sign size 1
  pub no_minus_zero : sign ≡ true → 0 < size
  pub held : T (fits binary64 y)

pub whole-finite : (y : Float) → IsWhole y → T (finite y)
whole-finite nan w = absurd w.value
whole-finite (inf s) w = absurd w.value
whole-finite (fin s m e) w = tt

-- so the test of it as a result passes
pub whole-tested : (y : Float) (place : ℕ) → IsWhole y → tested y place ≡ Ok y
whole-tested nan place w = absurd w.value
whole-tested (inf s) place w = absurd w.value
whole-tested (fin s m e) place w = refl

-- what `fits` says of a number that is not 0
small : (f : Format) (t : Bool) (m : ℕ) (e : ℤ) → T (fits f (fin t (suc m) e)) → suc m < 2 ^ prec f
unfolding fits
small f t m e p =
    ltb→lt (suc m) (2 ^ prec f) (and_r (eqb (suc m % 2) 1) (ltb (suc m) (2 ^ prec f))
    (and_l (eqb (suc m % 2) 1 && ltb (suc m) (2 ^ prec f)) (leb (down e) (2 ^ low f))
    (and_l (eqb (suc m % 2) 1 && ltb (suc m) (2 ^ prec f) && leb (down e) (2 ^ low f)) (ltb (suc m * up e) (2 ^ suc (emax f) * down e)) p)))

below : (f : Format) (t : Bool) (m : ℕ) (e : ℤ) → T (fits f (fin t (suc m) e)) → suc m * up e < 2 ^ suc (emax f) * down e
unfolding fits
below f t m e p = ltb→lt (suc m * up e) (2 ^ suc (emax f) * down e) (and_r (eqb (suc m % 2) 1 && ltb (suc m) (2 ^ prec f) && leb (down e) (2 ^ low f)) (ltb (suc m * up e) (2 ^ suc (emax f) * down e)) p)

shifted : (m a l : ℕ) → m * 2 ^ (a + l) ≡ m * 2 ^ a * 2 ^ l
shifted m a l = ap (λ (z : ℕ). m * z) (pow-add 2 a l) ∙ sym (mul_assoc m (2 ^ a) (2 ^ l))

room : (m a l E : ℕ) → m * 2 ^ a < 2 ^ E * 1 → m * 2 ^ (a + l) < 2 ^ (l + E)
room m a l E h =
    subst (λ (z : ℕ). z < 2 ^ (l + E)) (sym (shifted m a l))
    (subst (λ (z : ℕ). m * 2 ^ a * 2 ^ l < z) (ap (λ (z : ℕ). z * 2 ^ l) (mul-one (2 ^ E)) ∙ sym (pow-add 2 E l) ∙ ap (λ (z : ℕ). 2 ^ z) (add_comm E l))
    (mul-lt-mul_of_pos_right h (pow_pos l)))

-- a value that the format holds and that is a whole number is what that number rounds to
exact-whole : (f : Format) (x : Float) (s : Bool) (n : ℕ) → T (fits f x) → HasValue x s n 1 → HasValue (round f s n 1) s n 1
exact-whole f nan s n p v = elim v [ ]
exact-whole f (inf _) s n p v = elim v [ ]
exact-whole f (fin t zero e) s n p v =
    let z : n ≡ 0 = zero_of n (down e) (down_pos e) (sym v.1 ∙ mul-one (0 * up e) ∙ zero-mul (up e)) in
    round_whole f s n (le_trans (le_of_eq z) zero-le)
  where
    zero_of : (n d : ℕ) → 0 < d → n * d ≡ 0 → n ≡ 0
    zero_of zero d D h = refl
    zero_of (suc n) d D h = let g = mul-pos (zero-lt-suc n) D in absurd (lt_irrefl 0 (omega arith))
exact-whole f (fin t (suc m) (pos a)) s n p v =
    let e : n ≡ suc m * 2 ^ a = sym (mul-one n) ∙ sym v.1 ∙ mul-one (suc m * 2 ^ a) in
    round_exact f s n 1 (suc m) (a + low f) (lit< tt) (small f t m (pos a) p) (room (suc m) a (low f) (suc (emax f)) (below f t m (pos a) p))
    (ap (λ (z : ℕ). z * 2 ^ low f) e ∙ sym (shifted (suc m) a (low f)) ∙ sym (mul-one (suc m * 2 ^ (a + low f))))
exact-whole f (fin t (suc m) (negsuc a)) s n p v =
    let e : n * 2 ^ suc a ≡ suc m = sym v.1 ∙ mul-one (suc m * 1) ∙ mul-one (suc m) in
    round_whole f s n (le_trans (le-mul_of_pos_right n (pow_pos (suc a))) (le_trans (le_of_eq e) (le_of_lt (small f t m (negsuc a) p))))

module _ (N : Bool → ℕ → ℕ → ℕ) (k : Cut N) where
  cut-zero : (s : Bool) (c : ℕ) → 0 < c → N s 0 c ≡ 0
  cut-zero s c h = le_antisymm (subst (λ (z : ℕ). N s 0 c ≤ z) (k.own s 0) (k.mono s 0 c 0 1 h (lit< tt) (le_of_eq (zero-mul 1 ∙ sym (zero-mul c))))) zero-le

  cut_same : (s : Bool) (a b c d : ℕ) → 0 < b → 0 < d → a * d ≡ c * b → N s a b ≡ N s c d
  cut_same s a b c d B D e = le_antisymm (k.mono s a b c d B D (le_of_eq e)) (k.mono s c d a b D B (le_of_eq (sym e)))

  -- ---- only the exact value matters
  pub cut-value : (x : Float) (s : Bool) (a c : ℕ) → 0 < c → HasValue x s a c → cut_to N x ≡ whole_of s (N s a c)
  cut-value nan s a c C v = absurd v
  cut-value (inf t) s a c C v = absurd v
  cut-value (fin t m e) s a c C v =
      ap (λ (z : Bool). whole_of z (N z (m * up e) (down e))) v.0
      ∙ ap (whole_of s) (cut_same s (m * up e) (down e) a c (down_pos e) C v.1)

  -- ---- the order
  none : (a b c d : ℕ) → 0 < b → 0 < d → a * d + c * b ≤ 0 → (s : Bool) → N s a b ≡ 0
  none zero b c d B D h s = cut-zero s b B
  none (suc a) b c d B D h s = let z = mul-pos (zero-lt-suc a) D in absurd (lt_irrefl 0 (omega arith))

  cut-fin : (s : Bool) (m : ℕ) (e : ℤ) (t : Bool) (n : ℕ) (d : ℤ) → T (le (fin s m e) (fin t n d)) → T (le (cut_to N (fin s m e)) (cut_to N (fin t n d)))
  cut-fin false m e false n d h =
      let l = (leq_of_le (fin false m e) (fin false n d) tt tt h).holds in
      let o = k.mono false (m * up e) (down e) (n * up d) (down d) (down_pos e) (down_pos d) (omega arith) in
      rounds-mono (lit< tt) (lit< tt) (plus-rounds (N false (m * up e) (down e))) (plus-rounds (N false (n * up d) (down d))) (omega arith)
  cut-fin false m e true n d h =
      let l = (leq_of_le (fin false m e) (fin true n d) tt tt h).holds in
      let o = none (m * up e) (down e) (n * up d) (down d) (down_pos e) (down_pos d) (omega arith) false in
      let q = none (n * up d) (down d) (m * up e) (down e) (down_pos d) (down_pos e) (omega arith) true in
      rounds-mono (lit< tt) (lit< tt) (plus-rounds (N false (m * up e) (down e))) (minus-rounds (N true (n * up d) (down d))) (omega arith)
  cut-fin true m e false n d h =
      rounds-mono (lit< tt) (lit< tt) (minus-rounds (N true (m * up e) (down e))) (plus-rounds (N false (n * up d) (down d))) (omega arith)
  cut-fin true m e true n d h =
      let l = (leq_of_le (fin true m e) (fin true n d) tt tt h).holds in
      let o = k.mono true (n * up d) (down d) (m * up e) (down e) (down_pos d) (down_pos e) (omega arith) in
      rounds-mono (lit< tt) (lit< tt) (minus-rounds (N true (m * up e) (down e))) (minus-rounds (N true (n * up d) (down d))) (omega arith)

  pub cut-mono : (x y : Float) → T (finite x) → T (finite y) → T (le x y) → T (le (cut_to N x) (cut_to N y))
  cut-mono = on_finite (λ (x y : Float). T (le x y) → T (le (cut_to N x) (cut_to N y))) cut-fin

  -- ---- a whole number is itself
  pub cut_self : (x : Float) (s : Bool) (n : ℕ) → T (fits binary64 x) → 0 < n → HasValue x s n 1 → cut_to N x ≡ x
  cut_self x s n p h v =
      cut-value x s n 1 (lit< tt) v ∙ ap (whole_of s) (k.own s n) ∙ whole_pos s n h
      ∙ whole_unique binary64 (round binary64 s n 1) x s n (round-fits binary64 s n 1) p (exact-whole binary64 x s n p v) v

  -- ---- what comes out is a whole number
  size-whole : (s : Bool) (m : ℕ) (e : ℤ) → T (fits binary64 (fin s m e)) → HasValue (round binary64 s (N s (m * up e) (down e)) 1) s (N s (m * up e) (down e)) 1
  size-whole s m (pos a) p =
      subst (λ (n : ℕ). HasValue (round binary64 s n 1) s n 1) (sym (k.own s (m * 2 ^ a))) (exact-whole binary64 (fin s m (pos a)) s (m * 2 ^ a) p (refl, refl))
  size-whole s zero (negsuc a) p = round_whole binary64 s (N s 0 (2 ^ suc a)) (le_trans (le_of_eq (cut-zero s (2 ^ suc a) (pow_pos (suc a)))) zero-le)
  size-whole s (suc m) (negsuc a) p =
      let h : N s (suc m * 1) (2 ^ suc a) ≤ N s (suc m * 1) 1 = k.mono s (suc m * 1) (2 ^ suc a) (suc m * 1) 1 (pow_pos (suc a)) (lit< tt) (le_trans (le_of_eq (mul-one (suc m * 1))) (le-mul_of_pos_right (suc m * 1) (pow_pos (suc a)))) in
      round_whole binary64 s (N s (suc m * 1) (2 ^ suc a)) (le_trans h (le_trans (le_of_eq (k.own s (suc m * 1) ∙ mul-one (suc m))) (le_of_lt (small binary64 s m (negsuc a) p))))

  pub cut-whole : (x : Float) → T (fits binary64 x) → T (finite x) → IsWhole (cut_to N x)
  cut-whole nan p h = absurd h
  cut-whole (inf s) p h = absurd h
  cut-whole (fin s m e) p h = go (eq-zero-or-pos (N s (m * up e) (down e)))
    where
      go : (N s (m * up e) (down e) ≡ 0) ⊎ (0 < N s (m * up e) (down e)) → IsWhole (cut_to N (fin s m e))
      go (inl z) = subst IsWhole (sym (ap (whole_of s) z ∙ whole-nil s)) (record { sign = false; size = 0; value = unfold of_bits in (refl, refl); no_minus_zero = λ t. absurd (true≢false (sym t)); held = of_bits-fits binary64 0 })
      go (inr l) = subst IsWhole (sym (whole_pos s (N s (m * up e) (down e)) l)) (record { sign = s; size = N s (m * up e) (down e); value = size-whole s m e p; no_minus_zero = λ t. l; held = round-fits binary64 s (N s (m * up e) (down e)) 1 })
