-- How far the error can be from 0 beside the new spacing: whole numbers only, in units of the smallest double; U units are 1.
-- H is the new spacing, E the expectation, Q their quotient, N the middle, C the centre, A the error, each in size. Assumes nothing.
use Rattle.std.specs.Prelude.{ℕ, ◌+◌, ◌*◌, ◌≤◌}
use Rattle.std.proofs.Common.{mul-le-mul_left, mul-le-mul_right, le_of_mul-le-mul_right, arith}
use Rattle.chances.specs.laws.Near.{Near, apart, fine-over, fine-under, rough_over}

upper_at : (U H E Q N : ℕ) → 8589934592 ≤ U → 8589934592 * (E * U) ≤ 8589934592 * (Q * H) + E * U + 8589934592 * H → 2 * Q + U ≤ 2 * U * (N + 1)
    → 8589934592 * E ≤ E + 8589934592 * (H * N) + 4294967296 * H + H
upper_at U H E Q N b q h = le_of_mul-le-mul_right {k = U} (omega (arith, mul-le-mul_right H h, mul-le-mul_right H b)) (omega arith)

lower_at : (U H E Q N : ℕ) → 8589934592 ≤ U → 8589934592 * (Q * H) ≤ 8589934592 * (E * U) + E * U + 8589934592 * H → 2 * U * N ≤ 2 * Q + U
    → 8589934592 * (H * N) ≤ E + 8589934592 * E + 4294967296 * H + H
lower_at U H E Q N b q h = le_of_mul-le-mul_right {k = U} (omega (arith, mul-le-mul_right H h, mul-le-mul_right H b)) (omega arith)

-- with G for H × N
far_at : (H E G : ℕ) → G ≤ 1000000 * H → 8589934592 * E ≤ E + 8589934592 * G + 4294967296 * H + H → E ≤ 1000001 * H
far_at H E G n u = omega arith

-- 2^33 E is at most 2^33 C, half of 2^33 H and some millions of H, and the converse: by way of G for H × N
through-over : (E G C a b H : ℕ) → 8589934592 * E ≤ a + 8589934592 * G + 4294967296 * H + H → 8589934592 * G ≤ 8589934592 * (C * 1) + b + 8589934592 * 1 → 8589934592 * E ≤ 8589934592 * C + a + b + 4294967297 * H + 8589934592
through-over E G C a b H h k = omega arith

through-under : (E G C a b H : ℕ) → 8589934592 * G ≤ a + 8589934592 * E + 4294967296 * H + H → 8589934592 * (C * 1) ≤ 8589934592 * G + b + 8589934592 * 1 → 8589934592 * C ≤ 8589934592 * E + a + b + 4294967297 * H + 8589934592
through-under E G C a b H h k = omega arith

-- x is at most z and 2049/4096 of H
step_at_lem : (x z a b H : ℕ) → a ≤ 1000001 * H → b ≤ 1000000 * H → 8589934592 ≤ H → 8589934592 * x ≤ 8589934592 * z + a + b + 4294967297 * H + 8589934592 → 4096 * x ≤ 4096 * z + 2049 * H
step_at_lem x z a b H f n l h = last x z H (join (8589934592 * x) (8589934592 * z) a b H f n l h)
  where
    join : (x z a b H : ℕ) → a ≤ 1000001 * H → b ≤ 1000000 * H → 8589934592 ≤ H → x ≤ z + a + b + 4294967297 * H + 8589934592 → x ≤ z + 4294967296 * H + 2000003 * H
    join x z a b H f n l h = omega arith

    last : (x z H : ℕ) → 8589934592 * x ≤ 8589934592 * z + 4294967296 * H + 2000003 * H → 4096 * x ≤ 4096 * z + 2049 * H
    last x z H h = le_of_mul-le-mul_right {k = 2097152} (omega (arith, h)) (omega arith)

apart_at : (H E C : ℕ) → 4096 * E ≤ 4096 * C + 2049 * H → 4096 * C ≤ 4096 * E + 2049 * H → 4096 * apart E C ≤ 2049 * H
apart_at H E C h k = omega arith

small_at : (H G A : ℕ) → 8589934592 ≤ H → 4096 * G ≤ 2049 * H → 2000 * (A * 1) ≤ 2001 * G + 2000 * 1 → 1000 * A ≤ 501 * H
small_at H G A b g a = omega arith

-- The error is at most 501/1000 of the new spacing.
pub error-small : (U H E Q N C A : ℕ) → 8589934592 ≤ U → 8589934592 ≤ H → Near (E * U) H Q → 2 * U * N ≤ 2 * Q + U → 2 * Q + U ≤ 2 * U * (N + 1) → N ≤ 1000000 → Near (H * N) 1 C → Near (apart E C) 1 A → 1000 * A ≤ 501 * H
error-small U H E Q N C A b w q low high few c a =
    let n : H * N ≤ 1000000 * H = nodes (mul-le-mul_left H few) in
    let u = upper_at U H E Q N b (fine-under (E * U) H Q q) high in
    let l = lower_at U H E Q N b (fine-over (E * U) H Q q) low in
    let f = far_at H E (H * N) n u in
    small_at H (apart E C) A w
    (apart_at H E C
    (step_at_lem E C E (H * N) H f n w (through-over E (H * N) C E (H * N) H u (fine-under (H * N) 1 C c)))
    (step_at_lem C E E (H * N) H f n w (through-under E (H * N) C E (H * N) H l (fine-over (H * N) 1 C c))))
    (rough_over (apart E C) 1 A a)
  where
    nodes : H * N ≤ H * 1000000 → H * N ≤ 1000000 * H
    nodes h = omega arith
