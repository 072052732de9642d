-- Round to odd: a fraction cut to a whole number so that a later rounding to nearest can't tell the two apart.
-- `Odd X D w`: either X / D is w, or w is odd and less than 1 away from it. Then X / D and w lie on the same side of every even number, so that `round` gives the same for both once w has two digits more than the format keeps.
use Rattle.std.specs.Prelude.{◌≡◌, refl, ◌⊎◌, Bool, true, false, not, T, leb}
use Rattle.std.proofs.Common.{sym, ap, ◌∙◌, subst, inl, inr, mul-one, le_trans, eq-or-lt_of_le, mul-add, le_of_eq, lt_of_lt_of_le, lt_of_le_of_lt, lt_of_not-le, not-le_of_lt, le_of_suc-le-suc, not-suc-le-zero, one-mul, mul_comm, mul_assoc, mul_left_comm, add-mul, mul-pos, mul-le-mul_right, mul-lt-mul_of_pos_right, div-add-mod', mod-lt, le-div_iff_mul-le, div-lt_iff_lt-mul, arith, leb→le, pow-add, pow_pos, pow_mono}
use Prim.Native.Nat.compare
use Prim.Native.Nat.{Ordering, ℕ, zero, suc, ◌+◌, ◌-◌, ◌*◌, ◌/◌, ◌%◌, ◌^◌, ◌≤◌, ◌<◌, compare}
use Rattle.std.proofs.Math.Nat.{pow-succ', div-eq_of_lt-le, mod-eq-sub-div-mul}
use Rattle.std.proofs.Math.Dec.{nleb→lt}
use Rattle.std.specs.Float.{Format}
use Rattle.std.specs.Float.Ieee.{prec, low, size, nearest, units, round}
use Rattle.std.specs.Float.Ieee.Digits.{size-lt, size-le, size_reaches}
use Rattle.std.specs.Float.Ieee.Fits.{two, round_is}
use Rattle.std.specs.Float.Ieee.Nearest.{closest, closest_same}
use Rattle.std.specs.Float.Ieee.Scale.{round_same}

pub data Odd : ℕ → ℕ → ℕ → Type 0 where
  exact : {X D w : ℕ} → X ≡ w * D → Odd X D w
  near : {X D w : ℕ} → w % 2 ≡ 1 → X < w * D + D → w * D < X + D → Odd X D w

-- ---- X / D and w against an even number

even_lt_odd : (b w : ℕ) → w % 2 ≡ 1 → 2 * b ≤ w → 2 * b + 1 ≤ w
even_lt_odd b w o h = omega arith

next : (b D : ℕ) → (b + 1) * D ≡ b * D + D
next b D = simp (add-mul, one-mul)

pub even_le : {X D w : ℕ} (b : ℕ) → Odd X D w → 2 * b ≤ w → 2 * b * D ≤ X
even_le {X} {D} {w} b (exact e) h = le_trans (mul-le-mul_right D h) (le_of_eq (sym e))
even_le {X} {D} {w} b (near o u l) h =
    let k : (2 * b + 1) * D ≤ w * D = mul-le-mul_right D (even_lt_odd b w o h) in
    let n : (2 * b + 1) * D ≡ 2 * b * D + D = next (2 * b) D in
    omega arith

pub even_lt : {X D w : ℕ} (b : ℕ) → 0 < D → Odd X D w → w < 2 * b → X < 2 * b * D
even_lt {X} {D} {w} b p (exact e) h = lt_of_le_of_lt (le_of_eq e) (mul-lt-mul_of_pos_right h p)
even_lt {X} {D} {w} b p (near o u l) h =
    let k : (w + 1) * D ≤ 2 * b * D = mul-le-mul_right D (omega arith) in
    let n : (w + 1) * D ≡ w * D + D = next w D in
    omega arith

pub even_gt : {X D w : ℕ} (b : ℕ) → 0 < D → Odd X D w → 2 * b < w → 2 * b * D < X
even_gt {X} {D} {w} b p (exact e) h = lt_of_lt_of_le (mul-lt-mul_of_pos_right h p) (le_of_eq (sym e))
even_gt {X} {D} {w} b p (near o u l) h =
    let k : (2 * b + 1) * D ≤ w * D = mul-le-mul_right D (omega arith) in
    let n : (2 * b + 1) * D ≡ 2 * b * D + D = next (2 * b) D in
    omega arith

pub even_eq : {X D w : ℕ} (b : ℕ) → Odd X D w → w ≡ 2 * b → X ≡ 2 * b * D
even_eq {X} {D} {w} b (exact e) h = e ∙ ap (λ (z : ℕ). z * D) h
even_eq {X} {D} {w} b (near o u l) h = absurd (no (2 * b) o h refl)
  where
    no : (c : ℕ) → w % 2 ≡ 1 → w ≡ c → c ≡ 2 * b → ⊥
    no c o h k = omega arith

-- ---- the nearest whole number of a fraction, by where the fraction lies

compare_lt : (a b : ℕ) → a < b → compare a b ≡ Ordering.lt
compare_lt a zero h = absurd (not-suc-le-zero h)
compare_lt zero (suc b) h = compare.zero-suc b
compare_lt (suc a) (suc b) h = compare.suc-suc a b ∙ compare_lt a b (le_of_suc-le-suc h)

compare_gt : (a b : ℕ) → b < a → compare a b ≡ Ordering.gt
compare_gt zero b h = absurd (not-suc-le-zero h)
compare_gt (suc a) zero h = compare.suc-zero a
compare_gt (suc a) (suc b) h = compare.suc-suc a b ∙ compare_gt a b (le_of_suc-le-suc h)

compare_eq : (a : ℕ) → compare a a ≡ Ordering.eq
compare_eq zero = compare.zero-zero
compare_eq (suc a) = compare.suc-suc a a ∙ compare_eq a

-- a is q * b and the rest r
closest_of : (a b q r : ℕ) → a ≡ q * b + r → r < b → closest a b ≡ nearest q (compare (r * 2) b)
closest_of a b q r e h =
    let n : (q + 1) * b ≡ q * b + b = next q b in
    let d : a / b ≡ q = div-eq_of_lt-le b (omega arith) (omega arith) in
    let m : a % b ≡ r = mod-eq-sub-div-mul a b ∙ ap (λ (z : ℕ). a - z * b) d ∙ omega arith in
    ap (λ (z : ℕ). nearest z (compare (a % b * 2) b)) d ∙ ap (λ (z : ℕ). nearest q (compare (z * 2) b)) m

pub closest_down : (a b q r : ℕ) → a ≡ q * b + r → r * 2 < b → closest a b ≡ q
closest_down a b q r e h = closest_of a b q r e (omega arith) ∙ ap (nearest q) (compare_lt (r * 2) b h)

pub closest_up : (a b q r : ℕ) → a ≡ q * b + r → b < r * 2 → r < b → closest a b ≡ q + 1
closest_up a b q r e h l = closest_of a b q r e l ∙ ap (nearest q) (compare_gt (r * 2) b h) ∙ omega arith

pub closest-tie : (a b q r : ℕ) → a ≡ q * b + r → r * 2 ≡ b → 0 < b → closest a b ≡ q + q % 2
closest-tie a b q r e h p = closest_of a b q r e (omega arith) ∙ ap (λ (z : ℕ). nearest q (compare z b)) h ∙ ap (nearest q) (compare_eq b)

-- ---- the nearest multiple of 4v is the same for X / D as for w

pub ordered : (a b : ℕ) → (a ≤ b) ⊎ (b < a)
ordered a b = go (leb a b) (leb→le a b) (nleb→lt a b)
  where
    go : (t : Bool) → (T t → a ≤ b) → (T (not t) → b < a) → (a ≤ b) ⊎ (b < a)
    go true h k = inl (h tt)
    go false h k = inr (k tt)

module _ (X D w v q r : ℕ) (D-pos : 0 < D) (v-pos : 0 < v) (o : Odd X D w) (e : w ≡ q * (4 * v) + r) (h : r < 4 * v) where
  four : q * (4 * v) ≡ 2 * (2 * (q * v))
  four = simp (mul_comm, mul_left_comm) (omega arith)

  wide : q * (D * (4 * v)) ≡ 2 * (2 * (q * v)) * D
  wide = simp (mul_assoc, mul_comm, mul_left_comm) (omega arith)

  unit : D * (4 * v) ≡ 4 * (v * D)
  unit = simp (mul_comm, mul_left_comm)

  half : 2 * (2 * (q * v) + v) * D ≡ 2 * (2 * (q * v)) * D + 2 * (v * D)
  half = ap (λ (z : ℕ). z * D) (mul-add 2 (2 * (q * v)) v) ∙ add-mul (2 * (2 * (q * v))) (2 * v) D ∙ ap (λ (z : ℕ). 2 * (2 * (q * v)) * D + z) (mul_assoc 2 v D)

  whole : 2 * (2 * (q * v) + 2 * v) * D ≡ 2 * (2 * (q * v)) * D + 4 * (v * D)
  whole =
      ap (λ (z : ℕ). z * D) (mul-add 2 (2 * (q * v)) (2 * v))
      ∙ add-mul (2 * (2 * (q * v))) (2 * (2 * v)) D
      ∙ ap (λ (z : ℕ). 2 * (2 * (q * v)) * D + z) (ap (λ (z : ℕ). z * D) (sym (mul_assoc 2 2 v)) ∙ mul_assoc 4 v D)

  v_d : 0 < v * D
  v_d = mul-pos v-pos D-pos

  start : 2 * (2 * (q * v)) * D ≤ X
  start = even_le (2 * (q * v)) o (omega (arith, four))

  split : X ≡ q * (D * (4 * v)) + (X - q * (D * (4 * v)))
  split = omega (arith, start, wide)

  closest_at : (r < 2 * v) ⊎ (2 * v ≤ r) → closest X (D * (4 * v)) ≡ closest w (4 * v)
  closest_at (inl l) =
      let k : X < 2 * (2 * (q * v) + v) * D = even_lt (2 * (q * v) + v) D-pos o (omega (arith, four)) in
      closest_down X (D * (4 * v)) q (X - q * (D * (4 * v))) split (omega (arith, start, wide, unit, half))
      ∙ sym (closest_down w (4 * v) q r e (omega arith))
  closest_at (inr l) = elim (eq-or-lt_of_le l) [
    | inl t ↦
        let k : X ≡ 2 * (2 * (q * v) + v) * D = even_eq (2 * (q * v) + v) o (omega (arith, four)) in
        closest-tie X (D * (4 * v)) q (X - q * (D * (4 * v))) split (omega (arith, start, wide, unit, half)) (omega (arith, unit, v_d))
        ∙ sym (closest-tie w (4 * v) q r e (omega arith) (omega arith))
    | inr g ↦
        let k : 2 * (2 * (q * v) + v) * D < X = even_gt (2 * (q * v) + v) D-pos o (omega (arith, four)) in
        let m : X < 2 * (2 * (q * v) + 2 * v) * D = even_lt (2 * (q * v) + 2 * v) D-pos o (omega (arith, four)) in
        closest_up X (D * (4 * v)) q (X - q * (D * (4 * v))) split (omega (arith, start, wide, unit, half)) (omega (arith, start, wide, unit, whole))
        ∙ sym (closest_up w (4 * v) q r e (omega arith) h)
  ]

four-pos : (v : ℕ) → 0 < v → 0 < 4 * v
four-pos v h = omega arith

pub closest-odd : (X D w v : ℕ) → 0 < D → 0 < v → Odd X D w → closest X (D * (4 * v)) ≡ closest w (4 * v)
closest-odd X D w v D-pos v-pos o =
    closest_at X D w v (w / (4 * v)) (w % (4 * v)) D-pos v-pos o (sym (div-add-mod' w (4 * v))) (mod-lt w (four-pos v v-pos)) (flip (w % (4 * v)) (ordered (2 * v) (w % (4 * v))))
  where
    flip : (r : ℕ) → (2 * v ≤ r) ⊎ (r < 2 * v) → (r < 2 * v) ⊎ (2 * v ≤ r)
    flip r (inl a) = inr a
    flip r (inr a) = inl a

-- ---- `round` by the number k of digits that it drops

size_is : (p k z : ℕ) → 2 ≤ p → z ≤ p + k → (k ≡ 0) ⊎ (p - 1 + k < z) → z - p ≡ k
size_is p k z t h (inl e) = omega arith
size_is p k z t h (inr l) = omega arith

size_gt : (n j : ℕ) → 2 ^ j ≤ n → j < size n
size_gt n j h = lt_of_not-le (λ (g : size n ≤ j). not-le_of_lt (lt_of_lt_of_le (size-lt n) (pow_mono g)) h)

round_at_lem : (f : Format) (s : Bool) (num den k : ℕ) → 0 < den → num * 2 ^ low f < 2 ^ (prec f + k) * den
    → (k ≡ 0) ⊎ (2 ^ (prec f - 1 + k) * den ≤ num * 2 ^ low f) → round f s num den ≡ units f s (closest (num * 2 ^ low f) (den * 2 ^ k)) k
round_at_lem f s num den k p h l =
    let n = num * 2 ^ low f in
    round_is f s num den
    ∙ ap (λ (z : ℕ). units f s (closest n (den * 2 ^ z)) z) (size_is (prec f) k (size (n / den)) (two f) (size-le (n / den) (prec f + k) ((div-lt_iff_lt-mul p).1 h)) (lower l))
  where
    lower : (k ≡ 0) ⊎ (2 ^ (prec f - 1 + k) * den ≤ num * 2 ^ low f) → (k ≡ 0) ⊎ (prec f - 1 + k < size (num * 2 ^ low f / den))
    lower (inl e) = inl e
    lower (inr g) = inr (size_gt (num * 2 ^ low f / den) (prec f - 1 + k) ((le-div_iff_mul-le p).1 g))

-- of X * 2^e / (D * 2^B) the format drops j digits of X / D, and k of the number of its smallest values
module _ (f : Format) (s : Bool) (X D e B k j : ℕ) (D-pos : 0 < D) (places : e + low f + j ≡ B + k) where
  powers : 2 ^ e * 2 ^ low f * 2 ^ j ≡ 2 ^ B * 2 ^ k
  powers = ap (λ (z : ℕ). z * 2 ^ j) (sym (pow-add 2 e (low f))) ∙ sym (pow-add 2 (e + low f) j) ∙ ap (λ (z : ℕ). 2 ^ z) places ∙ pow-add 2 B k

  moved : (a : ℕ) → 2 ^ (a + j) * D * (2 ^ e * 2 ^ low f) ≡ 2 ^ (a + k) * (D * 2 ^ B)
  moved a =
      ap (λ (z : ℕ). z * D * (2 ^ e * 2 ^ low f)) (pow-add 2 a j)
      ∙ shuffle (2 ^ a) (2 ^ j) D (2 ^ e * 2 ^ low f)
      ∙ ap (λ (z : ℕ). 2 ^ a * D * z) powers
      ∙ gather (2 ^ a) D (2 ^ B) (2 ^ k)
      ∙ ap (λ (z : ℕ). z * (D * 2 ^ B)) (sym (pow-add 2 a k))
    where
      shuffle : (a b c d : ℕ) → a * b * c * d ≡ a * c * (d * b)
      shuffle a b c d = simp (mul_assoc, mul_comm, mul_left_comm)

      gather : (a b c d : ℕ) → a * b * (c * d) ≡ a * d * (b * c)
      gather a b c d = simp (mul_assoc, mul_comm, mul_left_comm)

  both : 0 < 2 ^ e * 2 ^ low f
  both = mul-pos (pow_pos e) (pow_pos (low f))

  pub round-scaled : X < 2 ^ (prec f + j) * D → (k ≡ 0) ⊎ (2 ^ (prec f - 1 + j) * D ≤ X) → round f s (X * 2 ^ e) (D * 2 ^ B) ≡ units f s (closest X (D * 2 ^ j)) k
  round-scaled h l =
      round_at_lem f s (X * 2 ^ e) (D * 2 ^ B) k (mul-pos D-pos (pow_pos B))
      (lt_of_le_of_lt (le_of_eq (mul_assoc X (2 ^ e) (2 ^ low f))) (lt_of_lt_of_le (mul-lt-mul_of_pos_right h both) (le_of_eq (moved (prec f)))))
      (lower l)
      ∙ ap (λ (z : ℕ). units f s z k) (closest_same (X * 2 ^ e * 2 ^ low f) (D * 2 ^ B * 2 ^ k) X (D * 2 ^ j) (mul-pos (mul-pos D-pos (pow_pos B)) (pow_pos k)) (mul-pos D-pos (pow_pos j))
      (one X (2 ^ e) (2 ^ low f) D (2 ^ j) ∙ ap (λ (z : ℕ). X * (D * z)) powers ∙ ap (λ (z : ℕ). X * z) (sym (mul_assoc D (2 ^ B) (2 ^ k)))))
    where
      lower : (k ≡ 0) ⊎ (2 ^ (prec f - 1 + j) * D ≤ X) → (k ≡ 0) ⊎ (2 ^ (prec f - 1 + k) * (D * 2 ^ B) ≤ X * 2 ^ e * 2 ^ low f)
      lower (inl z) = inl z
      lower (inr g) = inr (le_trans (le_of_eq (sym (moved (prec f - 1)))) (le_trans (mul-le-mul_right (2 ^ e * 2 ^ low f) g) (le_of_eq (sym (mul_assoc X (2 ^ e) (2 ^ low f))))))

      one : (x a b d c : ℕ) → x * a * b * (d * c) ≡ x * (d * (a * b * c))
      one x a b d c = simp (mul_assoc, mul_left_comm)

-- a whole number w of 2^e / 2^B
pub round-word : (f : Format) (s : Bool) (w e B k j : ℕ) → e + low f + j ≡ B + k → w < 2 ^ (prec f + j) → (k ≡ 0) ⊎ (2 ^ (prec f - 1 + j) ≤ w)
    → round f s (w * 2 ^ e) (2 ^ B) ≡ units f s (closest w (2 ^ j)) k
round-word f s w e B k j places h l =
    ap (round f s (w * 2 ^ e)) (sym (one-mul (2 ^ B)))
    ∙ round-scaled f s w 1 e B k j (pow_pos 0) places (subst (λ (z : ℕ). w < z) (sym (mul-one (2 ^ (prec f + j)))) h) (lower l)
    ∙ ap (λ (z : ℕ). units f s (closest w z) k) (one-mul (2 ^ j))
  where
    lower : (k ≡ 0) ⊎ (2 ^ (prec f - 1 + j) ≤ w) → (k ≡ 0) ⊎ (2 ^ (prec f - 1 + j) * 1 ≤ w)
    lower (inl z) = inl z
    lower (inr g) = inr (le_trans (le_of_eq (mul-one (2 ^ (prec f - 1 + j)))) g)

-- ---- `round` can't tell X / D from w

twice : (a i : ℕ) → 2 ^ (a + (2 + i)) ≡ 2 * (2 * 2 ^ (a + i))
twice a i = ap (λ (z : ℕ). 2 ^ z) (omega arith) ∙ pow-succ' 2 (suc (a + i)) ∙ ap (λ (z : ℕ). 2 * z) (pow-succ' 2 (a + i))

quad : (i : ℕ) → 2 ^ (2 + i) ≡ 4 * 2 ^ i
quad i = pow-add 2 2 i

module _ (f : Format) (s : Bool) (X D w e B k i : ℕ) (D-pos : 0 < D) (o : Odd X D w) (places : e + low f + (2 + i) ≡ B + k)
    (h : w < 2 ^ (prec f + (2 + i))) (l : (k ≡ 0) ⊎ (2 ^ (prec f - 1 + (2 + i)) ≤ w)) where
  above : (a : ℕ) → w < 2 ^ (a + (2 + i)) → X < 2 ^ (a + (2 + i)) * D
  above a g = subst (λ (z : ℕ). X < z * D) (sym (twice a i)) (even_lt (2 * 2 ^ (a + i)) D-pos o (subst (λ (z : ℕ). w < z) (twice a i) g))

  under : (a : ℕ) → 2 ^ (a + (2 + i)) ≤ w → 2 ^ (a + (2 + i)) * D ≤ X
  under a g = subst (λ (z : ℕ). z * D ≤ X) (sym (twice a i)) (even_le (2 * 2 ^ (a + i)) o (subst (λ (z : ℕ). z ≤ w) (twice a i) g))

  same_closest : closest X (D * 2 ^ (2 + i)) ≡ closest w (2 ^ (2 + i))
  same_closest = subst (λ (z : ℕ). closest X (D * z) ≡ closest w z) (sym (quad i)) (closest-odd X D w (2 ^ i) D-pos (pow_pos i) o)

  round-near : round f s (X * 2 ^ e) (D * 2 ^ B) ≡ round f s (w * 2 ^ e) (2 ^ B)
  round-near =
      round-scaled f s X D e B k (2 + i) D-pos places (above (prec f) h) (lower l)
      ∙ ap (λ (z : ℕ). units f s z k) same_closest
      ∙ sym (round-word f s w e B k (2 + i) places h l)
    where
      lower : (k ≡ 0) ⊎ (2 ^ (prec f - 1 + (2 + i)) ≤ w) → (k ≡ 0) ⊎ (2 ^ (prec f - 1 + (2 + i)) * D ≤ X)
      lower (inl z) = inl z
      lower (inr g) = inr (under (prec f - 1) g)

one_less : (z p i : ℕ) → z ≡ p + (2 + i) → 2 ≤ p → p - 1 + (2 + i) < z
one_less z p i e h = omega arith

pub round-odd : (f : Format) (s : Bool) (X D w e B : ℕ) → 0 < D → Odd X D w → (X ≡ w * D) ⊎ (2 ^ suc (prec f) ≤ w) → round f s (X * 2 ^ e) (D * 2 ^ B) ≡ round f s (w * 2 ^ e) (2 ^ B)
round-odd f s X D w e B D-pos o (inl t) =
    round_same f s (X * 2 ^ e) (D * 2 ^ B) (w * 2 ^ e) (2 ^ B) (mul-pos D-pos (pow_pos B)) (pow_pos B) (ap (λ (z : ℕ). z * 2 ^ e * 2 ^ B) t ∙ swap w D (2 ^ e) (2 ^ B))
  where
    swap : (w d x b : ℕ) → w * d * x * b ≡ w * x * (d * b)
    swap w d x b = simp (mul_assoc, mul_left_comm)
round-odd f s X D w e B D-pos o (inr t) = go (ordered B (e + low f + (size w - prec f)))
  where
    long : suc (prec f) < size w
    long = size_gt w (suc (prec f)) t

    go : (B ≤ e + low f + (size w - prec f)) ⊎ (e + low f + (size w - prec f) < B) → round f s (X * 2 ^ e) (D * 2 ^ B) ≡ round f s (w * 2 ^ e) (2 ^ B)
    go (inl g) =
        let i = size w - prec f - 2 in
        let is : size w ≡ prec f + (2 + i) = omega (arith, long) in
        round-near f s X D w e B (e + low f + (2 + i) - B) i D-pos o (omega (arith, long))
        (subst (λ (z : ℕ). w < 2 ^ z) is (size-lt w))
        (inr (size_reaches w (prec f - 1 + (2 + i)) (one_less (size w) (prec f) i is (two f))))
    go (inr g) =
        let i = B - (e + low f) - 2 in
        round-near f s X D w e B 0 i D-pos o (omega (arith, long))
        (lt_of_lt_of_le (size-lt w) (pow_mono (omega (arith, long))))
        (inl refl)
