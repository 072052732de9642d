-- `round` can't tell a decimal fraction from its quotient in binary, made odd where a rest is left. Assumes nothing.
use Prim.Native.Nat.{ℕ, ◌+◌, ◌-◌, ◌*◌, ◌^◌, ◌≤◌}
use mathlib.Core.Path.{◌≡◌, sym, ap, subst, ◌∙◌}
use mathlib.Core.Bool.{Bool}
use mathlib.Core.Logic.{inr}
use native.Mathlib.Nat.{le_trans, mul_assoc, mul_comm, mul_left_comm, mul-pos, zero-mul}
use native.Mathlib.Omega.{arith}
use lib.Pow.{pow-add, pow_pos}
use lib.Ieee.{Float, binary64, round}
use lib.Ieee.Scale.{round_same}
use Rattle.rounded.specs.laws.Packing.{Stuck, scale, scale_is}
use Rattle.rounded.specs.laws.RoundToOdd.{round-odd}
use Rattle.rounded.proofs.pack.Numbers.{odd_stuck, stuck_ge}
use Rattle.decimal.specs.laws.Division.{Divided, five_small, five_pos, ten-pos, ten_is}

rounds : (s : Bool) (n k whole rest t w : ℕ) → k ≤ 22 → Divided n (5 ^ k) whole rest t → Stuck whole rest w → round binary64 s (w * 2 ^ (2336 - t - k)) (2 ^ scale) ≡ round binary64 s n (10 ^ k)
rounds s n k whole rest t w h d o =
    sym (round-odd binary64 s (n * 2 ^ t) (5 ^ k) w e scale (five_pos k) (odd_stuck (n * 2 ^ t) (5 ^ k) whole rest w d.reached.same d.reached.less o) (inr (le_trans (omega (arith, d.long)) (stuck_ge whole rest w o))))
    ∙ round_same binary64 s (n * 2 ^ t * 2 ^ e) (5 ^ k * 2 ^ scale) n (10 ^ k) (mul-pos (five_pos k) (pow_pos scale)) (ten-pos k) same
  where
    e : ℕ
    e = 2336 - t - k

    sum : t + (e + k) ≡ scale
    sum = omega (arith, scale_is, d.reached.few)

    powers : 2 ^ t * (2 ^ e * 2 ^ k) ≡ 2 ^ scale
    powers = ap (λ (z : ℕ). 2 ^ t * z) (sym (pow-add 2 e k)) ∙ sym (pow-add 2 t (e + k)) ∙ ap (λ (z : ℕ). 2 ^ z) sum

    gather : (a b c d f : ℕ) → a * b * c * (d * f) ≡ a * (f * (b * (c * d)))
    gather a b c d f = simp (mul_assoc, mul_comm, mul_left_comm)

    same : n * 2 ^ t * 2 ^ e * 10 ^ k ≡ n * (5 ^ k * 2 ^ scale)
    same = ap (λ (z : ℕ). n * 2 ^ t * 2 ^ e * z) (ten_is k) ∙ gather n (2 ^ t) (2 ^ e) (2 ^ k) (5 ^ k) ∙ ap (λ (z : ℕ). n * (5 ^ k * z)) powers

pub rounded : {x : Float} {d whole rest t w : ℕ} (s : Bool) (n k : ℕ) → k ≤ 22 → d ≡ 5 ^ k → Divided n d whole rest t → Stuck whole rest w → x ≡ round binary64 s (w * 2 ^ (2336 - t - k)) (2 ^ scale) → x ≡ round binary64 s n (10 ^ k)
rounded {x} {d} {whole} {rest} {t} {w} s n k h e a o r = r ∙ rounds s n k whole rest t w h (subst (λ (z : ℕ). Divided n z whole rest t) e a) o

pub nothing : {x : Float} (s : Bool) (n k : ℕ) → n ≡ 0 → x ≡ round binary64 s (0 * 2 ^ 64) (2 ^ scale) → x ≡ round binary64 s n (10 ^ k)
nothing s n k z r = r ∙ round_same binary64 s (0 * 2 ^ 64) (2 ^ scale) n (10 ^ k) (pow_pos scale) (ten-pos k) (zero-mul (10 ^ k) ∙ sym (ap (λ (x : ℕ). x * 2 ^ scale) z ∙ zero-mul (2 ^ scale)))

pub ruleset quotients = (five_small, five_pos, rounded, nothing)
