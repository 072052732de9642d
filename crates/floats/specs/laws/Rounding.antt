-- Rounding keeps the order, whatever the signs. `Rounds f x p n c` says that x is the fraction (p - n) / c, rounded to the format f,
-- and leaves the sign of a zero free. Assumes nothing.
use Rattle.std.specs.Prelude.{◌≡◌, Bool, true, false, not, cond, ℕ, zero, suc, ◌+◌, ◌-◌, ◌*◌, ◌^◌, ◌≤◌, ◌<◌, pos, T, ltb, Float}
use Rattle.std.proofs.Math.Path.{refl}
use Rattle.std.proofs.Common.{sym, ap₂, ◌∙◌, subst, true≢false, zero-mul, mul_comm, mul-le-mul_right, le_of_mul-le-mul_right, arith, lit<}
use Rattle.std.proofs.Math.Nat.{mul-sub}
use Rattle.std.specs.Float.{nan, inf, fin, Format, binary32}
use Rattle.std.specs.Float.Ieee.{binary64, prec, emax, low, odd, units, round, neg, le}
use Rattle.std.specs.Float.Ieee.Order.{round_mono}
use Rattle.std.specs.Float.Ieee.Scale.{round_same}
use Rattle.floats.specs.laws.Fractions.{le_of_leq}
use Rattle.floats.specs.laws.Order.{number, neg_anti}

-- ---- the sign of what `round` gives
-- below zero or -0 where s is true, and not below +0 where s is false: an infinity or a finite number
abbrev pub Signed : Bool → Float → Type 0
Signed s nan = ⊥
Signed s (inf t) = t ≡ s
Signed s (fin t m e) = t ≡ s

odd-signed : (d : ℕ) (s : Bool) (q k l : ℕ) → Signed s (odd d s q k l)
unfolding odd
odd-signed d s zero k l = refl
odd-signed d s (suc q) k l = refl

odd-neg : (d : ℕ) (s : Bool) (q k l : ℕ) → odd d (not s) q k l ≡ neg (odd d s q k l)
unfolding odd neg
odd-neg d s zero k l = refl
odd-neg d s (suc q) k l = refl

units-signed : (f : Format) (s : Bool) (q k : ℕ) → Signed s (units f s q k)
unfolding units
units-signed f s q k = go (ltb (q * 2 ^ k) (2 ^ (low f + suc (emax f))))
  where
    go : (b : Bool) → Signed s (cond b (odd (suc (prec f)) s q k (low f)) (inf s))
    go true = odd-signed (suc (prec f)) s q k (low f)
    go false = refl

units-neg : (f : Format) (s : Bool) (q k : ℕ) → units f (not s) q k ≡ neg (units f s q k)
unfolding units
units-neg f s q k = go (ltb (q * 2 ^ k) (2 ^ (low f + suc (emax f))))
  where
    go : (b : Bool) → cond b (odd (suc (prec f)) (not s) q k (low f)) (inf (not s)) ≡ neg (cond b (odd (suc (prec f)) s q k (low f)) (inf s))
    go true = odd-neg (suc (prec f)) s q k (low f)
    go false = unfold neg in refl

pub round-signed : (f : Format) (s : Bool) (a c : ℕ) → Signed s (round f s a c)
unfolding round
round-signed f s a c = units-signed f s _ _

pub round-neg : (f : Format) (s : Bool) (a c : ℕ) → round f (not s) a c ≡ neg (round f s a c)
unfolding round
round-neg f s a c = units-neg f s _ _

pub number_of-signed : (s : Bool) (x : Float) → Signed s x → T (number x)
number_of-signed s nan h = absurd h
number_of-signed s (inf t) h = tt
number_of-signed s (fin t m e) h = tt

-- what is not above zero is at or below what is not below zero
pub le_of_signed : (x y : Float) → Signed true x → Signed false y → T (le x y)
le_of_signed nan y h k = absurd h
le_of_signed (inf s) nan h k = absurd k
le_of_signed (inf true) (inf true) h k = unfold le in tt
le_of_signed (inf true) (inf false) h k = unfold le in tt
le_of_signed (inf false) (inf t) h k = absurd (true≢false (sym h))
le_of_signed (inf true) (fin t n d) h k = unfold le in tt
le_of_signed (inf false) (fin t n d) h k = absurd (true≢false (sym h))
le_of_signed (fin s m e) nan h k = absurd k
le_of_signed (fin s m e) (inf true) h k = absurd (true≢false k)
le_of_signed (fin s m e) (inf false) h k = unfold le in tt
le_of_signed (fin true m e) (fin false n d) h k = le_of_leq (fin true m e) (fin false n d) tt tt (record { holds = omega arith })
le_of_signed (fin false m e) (fin t n d) h k = absurd (true≢false (sym h))
le_of_signed (fin true m e) (fin true n d) h k = absurd (true≢false k)

-- ---- a fraction that is 0
pub round-zero : (f : Format) (s : Bool) (c : ℕ) → 0 < c → round f s 0 c ≡ fin s 0 (pos 0)
round-zero f s c C = round_same f s 0 c 0 1 C (lit< tt) (sym (zero-mul c)) ∙ closed f s
  where
    closed : (f : Format) (s : Bool) → round f s 0 1 ≡ fin s 0 (pos 0)
    closed binary32 s = unfold round in refl
    closed binary64 s = unfold round in refl

-- ---- (p - n) / c, rounded
pub data Rounds (f : Format) (x : Float) (p n c : ℕ) : Type 0 where
  above : n ≤ p → x ≡ round f false (p - n) c → Rounds f x p n c
  under : p ≤ n → x ≡ round f true (n - p) c → Rounds f x p n c

pub number_of-rounds : {f : Format} {x : Float} {p n c : ℕ} → Rounds f x p n c → T (number x)
number_of-rounds {f} {x} {p} {n} {c} (above h e) = subst (λ (z : Float). T (number z)) (sym e) (number_of-signed false (round f false (p - n) c) (round-signed f false (p - n) c))
number_of-rounds {f} {x} {p} {n} {c} (under h e) = subst (λ (z : Float). T (number z)) (sym e) (number_of-signed true (round f true (n - p) c) (round-signed f true (n - p) c))

-- p - n at d against q - m at c, where neither is negative
gap : (p n c q m d : ℕ) → n ≤ p → m ≤ q → p * d + m * c ≤ q * c + n * d → (p - n) * d ≤ (q - m) * c
gap p n c q m d h k l =
    let a : n * d ≤ p * d = mul-le-mul_right d h in
    let b : m * c ≤ q * c = mul-le-mul_right c k in
    let x : (p - n) * d ≡ p * d - n * d = mul_comm (p - n) d ∙ mul-sub d p n ∙ ap₂ (λ (i j : ℕ). i - j) (mul_comm d p) (mul_comm d n) in
    let y : (q - m) * c ≡ q * c - m * c = mul_comm (q - m) c ∙ mul-sub c q m ∙ ap₂ (λ (i j : ℕ). i - j) (mul_comm c q) (mul_comm c m) in
    omega arith

none : (p n c q m d : ℕ) → 0 < d → n ≤ p → q ≤ m → p * d + m * c ≤ q * c + n * d → p - n ≡ 0
none p n c q m d D h k l =
    let b : q * c ≤ m * c = mul-le-mul_right c k in
    let a : p * d ≤ n * d = omega arith in
    let e = le_of_mul-le-mul_right a D in
    omega arith

-- the larger fraction rounds to the larger number
rounded-mono : (f : Format) (a c b d : ℕ) → 0 < c → 0 < d → a * d ≤ b * c → T (le (round f true b d) (round f true a c))
rounded-mono f a c b d C D h =
    subst (λ (z : Float). T (le z (round f true a c))) (sym (round-neg f false b d))
    (subst (λ (z : Float). T (le (neg (round f false b d)) z)) (sym (round-neg f false a c))
    (neg_anti (round f false a c) (round f false b d) (round_mono f a c b d C D h)))

pub rounds-mono : {f : Format} {x y : Float} {p n c q m d : ℕ} → 0 < c → 0 < d → Rounds f x p n c → Rounds f y q m d → p * d + m * c ≤ q * c + n * d → T (le x y)
rounds-mono {f} {x} {y} {p} {n} {c} {q} {m} {d} C D (above h e) (above k g) l =
    rw (e, g) (round_mono f (p - n) c (q - m) d C D (gap p n c q m d h k l))
rounds-mono {f} {x} {y} {p} {n} {c} {q} {m} {d} C D (above h e) (under k g) l =
    rw (e, g, none p n c q m d D h k l, none m q d n p c C k h (omega arith), round-zero f false c C, round-zero f true d D) (unfold le in tt)
rounds-mono {f} {x} {y} {p} {n} {c} {q} {m} {d} C D (under h e) (above k g) l =
    rw (e, g) (le_of_signed (round f true (n - p) c) (round f false (q - m) d) (round-signed f true (n - p) c) (round-signed f false (q - m) d))
rounds-mono {f} {x} {y} {p} {n} {c} {q} {m} {d} C D (under h e) (under k g) l =
    rw (e, g) (rounded-mono f (m - q) d (n - p) c D C (gap m q d n p c k h (omega arith)))
