-- Where a double within ±1 lies among the multiples of 2^−50, and that rounding does not cross a fraction that a double holds. Assumes nothing.
use Rattle.std.specs.Prelude.{◌≡◌, refl, ◌⊎◌, Bool, true, false, not, ℕ, suc, ◌+◌, ◌-◌, ◌*◌, ◌/◌, ◌^◌, ◌≤◌, ◌<◌, T, leb, Float}
use Rattle.std.proofs.Common.{sym, ap, ◌∙◌, inl, inr, true≢false, le_of_lt, lt_of_lt_of_le, suc-mul, div-mul-le_self, sub-add_cancel, mul_comm, mul_assoc, mul_left_comm, add-mul, mul-le-mul_right, le_of_mul-le-mul_right, arith, leb→le, lit<, lit≤, pow_mono, shl_lt}
use Rattle.std.proofs.Math.Nat.{lt-div-mul-add, div-le_of_le-mul}
use Rattle.std.proofs.Math.Dec.{nleb→lt}
use Rattle.std.specs.Float.{nan, inf, fin, binary64}
use Rattle.std.specs.Float.Ieee.{down, round, neg, le, of_bits}
use Rattle.std.specs.Float.Ieee.Exact.{HasValue, round_exact}
use Rattle.std.specs.Float.Ieee.Scale.{finite}
use Rattle.std.specs.Float.Ieee.Positive.{den, den_pos}
use Rattle.floats.specs.Answers.{one}
use Rattle.floats.specs.laws.Fractions.{pl, mi, decide, leq_of_le}
use Rattle.floats.specs.laws.Order.{between}
use Rattle.floats.specs.laws.Rounding.{Rounds, above, under, rounds-mono}

-- ---- x is not below, and not above, (p - n) / c
pub record Above (x : Float) (p n c : ℕ) : Type 0 where
  pub holds : p * den x + mi x * c ≤ pl x * c + n * den x

pub record Below (x : Float) (p n c : ℕ) : Type 0 where
  pub holds : pl x * c + n * den x ≤ p * den x + mi x * c

-- ---- a double is (p - n) / c
pub record Held (p n c : ℕ) : Type 0 where
  pub point : Float
  pub positive : 0 < c
  pub rounds : Rounds binary64 point p n c
  pub is_finite : T (finite point)
  pub value : pl point * c + n * den point ≡ p * den point + mi point * c

through : (wp wm a zp zm b p n c : ℕ) → 0 < a → wp * c + n * a ≡ p * a + wm * c → wp * b + zm * a ≤ zp * a + wm * b → p * b + zm * c ≤ zp * c + n * b
through wp wm a zp zm b p n c A e h =
    let e' = simp (add-mul, mul_assoc, mul_comm) at (ap (λ (z : ℕ). z * b) e) in
    let h' = simp (add-mul, mul_assoc, mul_comm) at (mul-le-mul_right c h) in
    let g : (p * b + zm * c) * a ≤ (zp * c + n * b) * a = simp (add-mul, mul_assoc, mul_comm, mul_left_comm) (omega arith) in
    le_of_mul-le-mul_right g A

through' : (wp wm a zp zm b p n c : ℕ) → 0 < a → wp * c + n * a ≡ p * a + wm * c → zp * a + wm * b ≤ wp * b + zm * a → zp * c + n * b ≤ p * b + zm * c
through' wp wm a zp zm b p n c A e h =
    let e' = simp (add-mul, mul_assoc, mul_comm) at (ap (λ (z : ℕ). z * b) e) in
    let h' = simp (add-mul, mul_assoc, mul_comm) at (mul-le-mul_right c h) in
    let g : (zp * c + n * b) * a ≤ (p * b + zm * c) * a = simp (add-mul, mul_assoc, mul_comm, mul_left_comm) (omega arith) in
    le_of_mul-le-mul_right g A

-- what rounds to z is not below (p - n) / c: then z isn't either
pub rounded-above : {p n c : ℕ} (z : Float) (P N C : ℕ) → Held p n c → 0 < C → T (finite z) → Rounds binary64 z P N C → p * C + N * c ≤ P * c + n * C → Above z p n c
rounded-above {p} {n} {c} z P N C h k f r l =
    let w = h.point in
    let o = leq_of_le w z h.is_finite f (rounds-mono h.positive k h.rounds r l) in
    record { holds = through (pl w) (mi w) (den w) (pl z) (mi z) (den z) p n c (den_pos w) h.value o.holds }

pub rounded-below : {p n c : ℕ} (z : Float) (P N C : ℕ) → Held p n c → 0 < C → T (finite z) → Rounds binary64 z P N C → P * c + n * C ≤ p * C + N * c → Below z p n c
rounded-below {p} {n} {c} z P N C h k f r l =
    let w = h.point in
    let o = leq_of_le z w f h.is_finite (rounds-mono k h.positive r h.rounds l) in
    record { holds = through' (pl w) (mi w) (den w) (pl z) (mi z) (den z) p n c (den_pos w) h.value o.holds }

-- ---- such a double: the numerator is below 2^53 in size, and c a power of 2
exact : (s : Bool) (m c j : ℕ) → 0 < c → 2 ^ j * c ≡ 2 ^ 1074 → j ≤ 1024 → m < 2 ^ 53 → HasValue (round binary64 s m c) s m c
exact s m c j C e l h =
    let fits : 53 + j ≤ 2098 = omega arith in
    round_exact binary64 s m c m j C h (lt_of_lt_of_le (shl_lt 53 j h) (pow_mono fits)) (ap (λ (z : ℕ). m * z) (sym e) ∙ sym (mul_assoc m (2 ^ j) c))

back : (p n d : ℕ) → n ≤ p → (p - n) * d + n * d ≡ p * d
back p n d h = sym (add-mul (p - n) n d) ∙ ap (λ (z : ℕ). z * d) (sub-add_cancel h)

plus : (x : Float) (p n c : ℕ) → n ≤ p → HasValue x false (p - n) c → T (finite x) × (pl x * c + n * den x ≡ p * den x + mi x * c)
plus nan p n c h v = absurd v
plus (inf s) p n c h v = absurd v
plus (fin true m e) p n c h v = absurd (true≢false v.0)
plus (fin false m e) p n c h v = (tt, omega (arith, back p n (down e) h, v.1))

minus : (x : Float) (p n c : ℕ) → p ≤ n → HasValue x true (n - p) c → T (finite x) × (pl x * c + n * den x ≡ p * den x + mi x * c)
minus nan p n c h v = absurd v
minus (inf s) p n c h v = absurd v
minus (fin false m e) p n c h v = absurd (true≢false (sym v.0))
minus (fin true m e) p n c h v = (tt, omega (arith, back n p (down e) h, v.1))

pub held : (p n c j : ℕ) → 0 < c → 2 ^ j * c ≡ 2 ^ 1074 → j ≤ 1024 → p < n + 2 ^ 53 → n < p + 2 ^ 53 → Held p n c
held p n c j C e i h k = go (decide (leb n p))
  where
    go : T (leb n p) ⊎ T (not (leb n p)) → Held p n c
    go (inl t) =
        let l = leb→le n p t in
        let r = round binary64 false (p - n) c in
        let v = plus r p n c l (exact false (p - n) c j C e i (omega arith)) in
        record { point = r; positive = C; rounds = above l refl; is_finite = v.0; value = v.1 }
    go (inr t) =
        let l = le_of_lt (nleb→lt n p t) in
        let r = round binary64 true (n - p) c in
        let v = minus r p n c l (exact true (n - p) c j C e i (omega arith)) in
        record { point = r; positive = C; rounds = under l refl; is_finite = v.0; value = v.1 }

-- ---- the cell of a double within ±1

-- cells to a unit: 2^50
unfoldable pub fine : ℕ
fine = 2 ^ 50

pub fine-pos : 0 < fine
unfolding fine
fine-pos = lit< tt

-- the multiples of 2^−50 within ±2 and of 2^−51 within ±1, and the next two above each
pub held-fine : (p : ℕ) → p ≤ fine * 4 + 2 → Held p (fine + fine) fine
unfolding fine
held-fine p h = held p (2 ^ 51) (2 ^ 50) 1024 (lit< tt) refl (lit≤ tt) (omega arith) (omega arith)

pub held_finer : (p : ℕ) → p ≤ fine * 4 + 2 → Held p (fine + fine) (fine * 2)
unfolding fine
held_finer p h = held p (2 ^ 51) (2 ^ 51) 1023 (lit< tt) refl (lit≤ tt) (omega arith) (omega arith)

-- (x + 1) × 2^50, cut to a whole number
pub cell : Float → ℕ
cell x = (pl x + den x - mi x) * fine / den x

-- a ≤ (x + 1) × 2^50 < a + 1
pub record Cell (x : Float) (a : ℕ) : Type 0 where
  pub is_finite : T (finite x)
  pub from : a * den x + mi x * fine ≤ pl x * fine + fine * den x
  pub to : pl x * fine + fine * den x < suc a * den x + mi x * fine
  pub top : a ≤ fine * 2

in_cell : (p m d k : ℕ) → 0 < d → m ≤ p + d → (p + d - m) * k / d * d + m * k ≤ p * k + k * d
in_cell p m d k D h = omega (arith, div-mul-le_self ((p + d - m) * k) d, back (p + d) m k h, add-mul p d k, mul_comm d k)

under-cell : (p m d k : ℕ) → 0 < d → m ≤ p + d → p * k + k * d < suc ((p + d - m) * k / d) * d + m * k
under-cell p m d k D h = let w : (p + d - m) * k < (p + d - m) * k / d * d + d = lt-div-mul-add D in omega (arith, w, suc-mul ((p + d - m) * k / d) d, back (p + d) m k h, add-mul p d k, mul_comm d k)

below_top : (p m d k : ℕ) → 0 < d → p ≤ d + m → (p + d - m) * k / d ≤ k * 2
below_top p m d k D h =
    let w : p + d - m ≤ d * 2 = omega arith in
    div-le_of_le-mul d (rw (mul_assoc d 2 k, mul_comm 2 k) at (mul-le-mul_right k w))

pub cell_of_lem : (x : Float) → T (le (neg one) x) → T (le x one) → Cell x (cell x)
unfolding cell neg of_bits
cell_of_lem x h k =
    let f = between (neg one) x one tt tt h k in
    let l = (leq_of_le (neg one) x tt f h).holds in
    let u = (leq_of_le x one f tt k).holds in
    record {
      is_finite = f;
      from = in_cell (pl x) (mi x) (den x) fine (den_pos x) (omega arith);
      to = under-cell (pl x) (mi x) (den x) fine (den_pos x) (omega arith);
      top = below_top (pl x) (mi x) (den x) fine (den_pos x) (omega arith);
    }
