-- A whole number between two that a cast to an integer takes is taken too: what `as i32`, `as u64` and the like ask of a rounded float. Assumes nothing.
use Rattle.std.specs.Prelude.{ℕ, zero, suc, ◌*◌, ◌/◌, ◌%◌, ◌^◌, ◌≤◌, ◌<◌, ◌≡◌, refl, Bool, true, false, cond, not, ◌&&◌, ℤ, pos, negsuc, T, eqb, ltb, leb, Float}
use Rattle.std.proofs.Common.{zero-le, le_trans, le_of_eq, lt_of_le_of_lt, lt_irrefl, zero-lt-suc, mul-one, mul_right_comm, mul-pos, le-div_iff_mul-le, le_of_mul-le-mul_right, arith, sym, ap, subst, ◌∙◌, ltb→lt, lt→ltb, leb→le, le→leb, pow_pos}
use Rattle.std.specs.Float.{nan, inf, fin, binary64}
use Rattle.std.specs.Float.Ieee.{up, down, le, of_int, of_bits, whole, in_signed, in_unsigned, in_float}
use Rattle.std.specs.Float.Ieee.Fits.{down_pos, and_l, and_r, of_int-fits}
use Rattle.std.specs.Float.Ieee.Exact.{HasValue}
use Rattle.std.specs.Float.Ieee.Back.{round_whole, whole_unique, unsigned_back, positive_back, negative_back}
use Rattle.floats.specs.Answers.{plus_zero}
use Rattle.floats.specs.laws.Fractions.{leq_of_le}
use Rattle.floats.specs.laws.Cuts.{IsWhole}

-- ---- sizes: n is the size of the whole number, and m * up e / down e that of the bound

-- n / 1 ≤ a / b
cut_le : (n a b x d : ℕ) → 0 < b → 0 < d → x * 1 ≡ n * d → x * b ≤ a * d → n ≤ a / b
cut_le n a b x d B D e h =
    let g : n * b * d ≤ a * d = le_trans (le_of_eq (mul_right_comm n b d ∙ ap (λ (z : ℕ). z * b) (sym e ∙ mul-one x))) h in
    (le-div_iff_mul-le B).1 (le_of_mul-le-mul_right g D)

nil : (n x d b : ℕ) → 0 < b → 0 < d → x * 1 ≡ n * d → x * b ≤ 0 → n ≡ 0
nil zero x d b B D e h = refl
nil (suc n) x d b B D e h =
    let p : 0 < x * b = mul-pos (subst (λ (z : ℕ). 0 < z) (sym e ∙ mul-one x) (mul-pos (zero-lt-suc n) D)) B in
    absurd (lt_irrefl 0 (omega arith))

module _ (m : ℕ) (e : ℤ) (n : ℕ) (v : m * up e * 1 ≡ n * down e) (p : ℕ) (d : ℤ) where
  under : T (le (fin false m e) (fin false p d)) → n ≤ p * up d / down d
  under h = let l = (leq_of_le (fin false m e) (fin false p d) tt tt h).holds in cut_le n (p * up d) (down d) (m * up e) (down e) (down_pos d) (down_pos e) v (omega arith)

  under-minus : T (le (fin false m e) (fin true p d)) → n ≡ 0
  under-minus h = let l = (leq_of_le (fin false m e) (fin true p d) tt tt h).holds in nil n (m * up e) (down e) (down d) (down_pos d) (down_pos e) v (omega arith)

  over : T (le (fin true p d) (fin true m e)) → n ≤ p * up d / down d
  over h = let l = (leq_of_le (fin true p d) (fin true m e) tt tt h).holds in cut_le n (p * up d) (down d) (m * up e) (down e) (down_pos d) (down_pos e) v (omega arith)

  over-plus : T (le (fin false p d) (fin true m e)) → n ≡ 0
  over-plus h = let l = (leq_of_le (fin false p d) (fin true m e) tt tt h).holds in nil n (m * up e) (down e) (down d) (down_pos d) (down_pos e) v (omega arith)

-- ---- what the bound's test says of its size
whole_cap : (s : Bool) (m : ℕ) (e : ℤ) → T (whole binary64 (fin s m e)) → m * up e / down e ≤ 2 ^ 53
unfolding whole
whole_cap s m e t =
    leb→le (m * up e / down e) (2 ^ 53) (and_r (eqb (m * up e % down e) 0) (leb (m * up e / down e) (2 ^ 53))
    (and_l (eqb (m * up e % down e) 0 && leb (m * up e / down e) (2 ^ 53)) (not (s && eqb m 0)) t))

-- ---- the whole number, written as the cast of an integer
plus_is : (y : Float) (w : IsWhole y) → w.sign ≡ false → w.size ≤ 2 ^ 53 → of_int binary64 (pos w.size) ≡ y
unfolding of_int
plus_is y w s h =
    whole_unique binary64 (of_int binary64 (pos w.size)) y false w.size (of_int-fits binary64 (pos w.size)) w.held (round_whole binary64 false w.size h)
    (subst (λ (b : Bool). HasValue y b w.size 1) s w.value)

minus_is : (y : Float) (w : IsWhole y) (k : ℕ) → w.sign ≡ true → w.size ≡ suc k → suc k ≤ 2 ^ 53 → of_int binary64 (negsuc k) ≡ y
unfolding of_int
minus_is y w k s z h =
    whole_unique binary64 (of_int binary64 (negsuc k)) y true (suc k) (of_int-fits binary64 (negsuc k)) w.held (round_whole binary64 true (suc k) h)
    (subst (λ (b : Bool). HasValue y b (suc k) 1) s (subst (λ (n : ℕ). HasValue y w.sign n 1) z w.value))

-- ---- the tests, from the size
unsigned_in : (w : ℕ) (y : Float) (q : IsWhole y) → q.sign ≡ false → q.size ≤ 2 ^ 53 → q.size < 2 ^ w → T (in_unsigned binary64 w y)
unfolding in_float
unsigned_in w y q s h r = subst (λ (z : Float). T (in_unsigned binary64 w z)) (plus_is y q s h) (unsigned_back binary64 w q.size (le→leb q.size (2 ^ 53) h) r).0

plus_in : (h : ℕ) (y : Float) (q : IsWhole y) → q.sign ≡ false → q.size ≤ 2 ^ 53 → q.size < 2 ^ h → T (in_signed binary64 h y)
unfolding in_float
plus_in h y q s p r = subst (λ (z : Float). T (in_signed binary64 h z)) (plus_is y q s p) (positive_back binary64 h q.size (le→leb q.size (2 ^ 53) p) r).0

minus_in : (h : ℕ) (y : Float) (q : IsWhole y) → q.sign ≡ true → q.size ≤ 2 ^ 53 → q.size ≤ 2 ^ h → T (in_signed binary64 h y)
unfolding in_float
minus_in h y q s p r = go q.size refl
  where
    go : (n : ℕ) → q.size ≡ n → T (in_signed binary64 h y)
    go zero z = absurd (lt_irrefl 0 (subst (λ (n : ℕ). 0 < n) z (q.no_minus_zero s)))
    go (suc k) z =
        let c : suc k ≤ 2 ^ 53 = subst (λ (n : ℕ). n ≤ 2 ^ 53) z p in
        subst (λ (x : Float). T (in_signed binary64 h x)) (minus_is y q k s z c)
        (negative_back binary64 h k (lt→ltb k (2 ^ 53) c) (subst (λ (n : ℕ). n ≤ 2 ^ h) z r)).0

-- ---- between two that pass
signed_caps : (h : ℕ) (s : Bool) (m : ℕ) (e : ℤ) → T (in_signed binary64 h (fin s m e)) → (m * up e / down e ≤ 2 ^ 53) × T (cond s (leb (m * up e / down e) (2 ^ h)) (ltb (m * up e / down e) (2 ^ h)))
unfolding in_signed
signed_caps h s m e t =
    let c = cond s (leb (m * up e / down e) (2 ^ h)) (ltb (m * up e / down e) (2 ^ h)) in
    (whole_cap s m e (and_l (whole binary64 (fin s m e)) c t), and_r (whole binary64 (fin s m e)) c t)

below_top : (h m : ℕ) (e : ℤ) → T (in_signed binary64 h (fin false m e)) → m * up e / down e < 2 ^ h
below_top h m e t = ltb→lt (m * up e / down e) (2 ^ h) (signed_caps h false m e t).1

to_top : (h m : ℕ) (e : ℤ) → T (in_signed binary64 h (fin true m e)) → m * up e / down e ≤ 2 ^ h
to_top h m e t = leb→le (m * up e / down e) (2 ^ h) (signed_caps h true m e t).1

pub signed-between : (h : ℕ) (lo y hi : Float) → IsWhole y → T (in_signed binary64 h lo) → T (in_signed binary64 h hi) → T (le lo y) → T (le y hi) → T (in_signed binary64 h y)
signed-between h lo nan hi q l u a b = absurd q.value
signed-between h lo (inf s) hi q l u a b = absurd q.value
signed-between h lo (fin false m e) nan q l u a b = absurd (unfold in_signed in u)
signed-between h lo (fin false m e) (inf t) q l u a b = absurd (unfold in_signed in u)
signed-between h lo (fin false m e) (fin true p d) q l u a b =
    let z = under-minus m e q.size q.value.1 p d b in
    plus_in h (fin false m e) q (sym q.value.0) (le_trans (le_of_eq z) zero-le) (lt_of_le_of_lt (le_of_eq z) (pow_pos h))
signed-between h lo (fin false m e) (fin false p d) q l u a b =
    let z = under m e q.size q.value.1 p d b in
    plus_in h (fin false m e) q (sym q.value.0) (le_trans z (signed_caps h false p d u).0) (lt_of_le_of_lt z (below_top h p d u))
signed-between h nan (fin true m e) hi q l u a b = absurd (unfold in_signed in l)
signed-between h (inf t) (fin true m e) hi q l u a b = absurd (unfold in_signed in l)
signed-between h (fin false p d) (fin true m e) hi q l u a b =
    absurd (lt_irrefl 0 (subst (λ (n : ℕ). 0 < n) (over-plus m e q.size q.value.1 p d a) (q.no_minus_zero (sym q.value.0))))
signed-between h (fin true p d) (fin true m e) hi q l u a b =
    let z = over m e q.size q.value.1 p d a in
    minus_in h (fin true m e) q (sym q.value.0) (le_trans z (signed_caps h true p d l).0) (le_trans z (to_top h p d l))

-- ---- between +0 and one that passes
unsigned_caps : (w m : ℕ) (e : ℤ) → T (in_unsigned binary64 w (fin false m e)) → (m * up e / down e ≤ 2 ^ 53) × (m * up e / down e < 2 ^ w)
unfolding in_unsigned
unsigned_caps w m e t =
    let c = ltb (m * up e / down e) (2 ^ w) in
    (whole_cap false m e (and_l (whole binary64 (fin false m e)) c t), ltb→lt (m * up e / down e) (2 ^ w) (and_r (whole binary64 (fin false m e)) c t))

pub unsigned-upto : (w : ℕ) (y hi : Float) → IsWhole y → T (in_unsigned binary64 w hi) → T (le plus_zero y) → T (le y hi) → T (in_unsigned binary64 w y)
unsigned-upto w nan hi q u a b = absurd q.value
unsigned-upto w (inf s) hi q u a b = absurd q.value
unsigned-upto w (fin true m e) hi q u a b =
    absurd (lt_irrefl 0 (subst (λ (n : ℕ). 0 < n) (over-plus m e q.size q.value.1 0 (pos 0) (unfold of_bits in a)) (q.no_minus_zero (sym q.value.0))))
unsigned-upto w (fin false m e) nan q u a b = absurd (unfold in_unsigned in u)
unsigned-upto w (fin false m e) (inf t) q u a b = absurd (unfold in_unsigned in u)
unsigned-upto w (fin false m e) (fin true p d) q u a b = absurd (and_r (whole binary64 (fin true p d)) (false && ltb (p * up d / down d) (2 ^ w)) (unfold in_unsigned in u))
unsigned-upto w (fin false m e) (fin false p d) q u a b =
    let z = under m e q.size q.value.1 p d b in
    let c = unsigned_caps w p d u in
    unsigned_in w (fin false m e) q (sym q.value.0) (le_trans z c.0) (lt_of_le_of_lt z c.1)
