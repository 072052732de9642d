-- Long division in binary: a quotient and its rest, doubled. Assumes nothing.
use Rattle.std.specs.Prelude.{ℕ, zero, suc, ◌+◌, ◌*◌, ◌/◌, ◌%◌, ◌^◌, ◌≤◌, ◌<◌, ◌≡◌, refl}
use Rattle.std.proofs.Common.{sym, ap, ◌∙◌, lt_of_not-le, mul-one, one-mul, mul_assoc, mul_comm, mul_left_comm, add-mul, mul-le-mul_right, div-add-mod', mod-lt, div-lt_iff_lt-mul, add-one, arith, pow_mono}
use Rattle.std.proofs.Math.Nat.{pow-succ', pow-le-pow_right}

-- n * 2^doublings is whole * d and the rest.
pub record Dividing (n d whole rest doublings : ℕ) : Type 0 where
  pub same : n * 2 ^ doublings ≡ whole * d + rest
  pub less : rest < d
  pub few : doublings ≤ 114

-- And the quotient has 63 binary digits at least.
pub record Divided (n d whole rest doublings : ℕ) : Type 0 where
  pub reached : Dividing n d whole rest doublings
  pub long : 4611686018427387904 ≤ whole

pub start : (n d : ℕ) → 1 ≤ d → Dividing n d (n / d) (n % d) 0
start n d h = record { same = mul-one n ∙ sym (div-add-mod' n d); less = mod-lt n h; few = omega arith }

-- How many doublings there were, while the quotient is short.
pub short : (n d whole rest t : ℕ) → Dividing n d whole rest t → 1 ≤ n → d < 2 ^ 52 → whole < 4611686018427387904 → t < 114
short n d whole rest t h p s l =
    lt_of_not-le λ (g : 114 ≤ t).
    let a : 2 ^ 114 ≤ 2 ^ t = pow_mono g in
    let b : 1 * 2 ^ t ≤ n * 2 ^ t = mul-le-mul_right (2 ^ t) p in
    let c : (whole + 1) * d ≤ 4611686018427387904 * d = mul-le-mul_right d (omega arith) in
    let e : (whole + 1) * d ≡ whole * d + d = add-mul whole 1 d ∙ ap (λ (z : ℕ). whole * d + z) (one-mul d) in
    omega (arith, one-mul (2 ^ t), h.same, h.less)

-- The doubled rest holds the divisor once at most.
pub carry : (d rest : ℕ) → rest < d → 2 * rest / d < 2
carry d rest h =
    let p : 0 < d = omega arith in
    let q : 2 * rest < 2 * d = omega arith in
    (div-lt_iff_lt-mul p).1 q

pub turn : (n d whole rest t : ℕ) → Dividing n d whole rest t → t < 114 → Dividing n d (2 * whole + 2 * rest / d) (2 * rest % d) (t + 1)
turn n d whole rest t h l =
    let a : n * 2 ^ (t + 1) ≡ 2 * (n * 2 ^ t) = ap (λ (z : ℕ). n * 2 ^ z) (add-one t) ∙ ap (λ (z : ℕ). n * z) (pow-succ' 2 t) ∙ mul_left_comm n 2 (2 ^ t) in
    let b : (2 * whole + 2 * rest / d) * d ≡ 2 * (whole * d) + 2 * rest / d * d = add-mul (2 * whole) (2 * rest / d) d ∙ ap (λ (z : ℕ). z + 2 * rest / d * d) (mul_assoc 2 whole d) in
    record { same = omega (arith, a, b, h.same, div-add-mod' (2 * rest) d); less = mod-lt (2 * rest) (omega (arith, h.less)); few = omega arith }

-- ---- powers of five and ten

pub five_small : (k : ℕ) → k ≤ 22 → 5 ^ k ≤ 2384185791015625
five_small k h = pow-le-pow_right {n = 5} (omega arith) h

pub five_more : (k : ℕ) → 5 ^ k * 5 ≡ 5 ^ (k + 1)
five_more k = sym (ap (λ (z : ℕ). 5 ^ z) (add-one k) ∙ pow-succ' 5 k ∙ mul_comm 5 (5 ^ k))

pub five_pos : (k : ℕ) → 1 ≤ 5 ^ k
five_pos k = pow-le-pow_right {n = 5} (omega arith) {i = 0} {j = k} (omega arith)

pub ten-pos : (k : ℕ) → 1 ≤ 10 ^ k
ten-pos k = pow-le-pow_right {n = 10} (omega arith) {i = 0} {j = k} (omega arith)

pub ten_is : (k : ℕ) → 10 ^ k ≡ 2 ^ k * 5 ^ k
ten_is zero = refl
ten_is (suc k) =
    pow-succ' 10 k
    ∙ ap (λ (z : ℕ). 10 * z) (ten_is k)
    ∙ swap (2 ^ k) (5 ^ k)
    ∙ ap (λ (z : ℕ). z * (5 * 5 ^ k)) (sym (pow-succ' 2 k))
    ∙ ap (λ (z : ℕ). 2 ^ suc k * z) (sym (pow-succ' 5 k))
  where
    swap : (a b : ℕ) → 10 * (a * b) ≡ 2 * a * (5 * b)
    swap a b = sym (mul_assoc 2 a (5 * b) ∙ ap (λ (z : ℕ). 2 * z) (mul_left_comm a 5 b) ∙ sym (mul_assoc 2 5 (a * b)))
