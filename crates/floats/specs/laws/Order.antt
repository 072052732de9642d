-- The order of floats: `le` and `lt` on numbers, infinities included. A number is any float that is not nan. Assumes nothing.
use Rattle.std.specs.Prelude.{◌≡◌, refl, ◌⊎◌, Bool, true, false, not, ℕ, ◌+◌, ◌*◌, ◌≤◌, ◌<◌, ℤ, T, Float}
use Rattle.std.proofs.Common.{sym, subst, inl, inr, mul_comm, mul_assoc, mul_left_comm, add-mul, mul-le-mul_right, le_of_mul-le-mul_right, arith, T_not}
use Rattle.std.specs.Float.{nan, inf, fin}
use Rattle.std.specs.Float.Ieee.{lt, eq, le, neg}
use Rattle.std.specs.Float.Ieee.Scale.{finite}
use Rattle.std.specs.Float.Ieee.Positive.{den, den_pos}
use Rattle.floats.specs.laws.Fractions.{pl, mi, Leq, decide, or_l, or_r, less_of_lt, leq_of_not_lt, eq_of_leq, leq_of_le, le_of_leq}

-- finite, or an infinity
abbrev pub number : Float → Bool
number nan = false
number (inf s) = true
number (fin s m e) = true

pub number_of-finite : (x : Float) → T (finite x) → T (number x)
number_of-finite nan h = h
number_of-finite (inf s) h = tt
number_of-finite (fin s m e) h = tt

-- what is compared and found in order is a number
pub number_of_le : (x y : Float) → T (le x y) → T (number x) × T (number y)
unfolding le
number_of_le nan y h = absurd h
number_of_le (inf s) nan h = absurd h
number_of_le (inf s) (inf t) h = (tt, tt)
number_of_le (inf s) (fin t n d) h = (tt, tt)
number_of_le (fin s m e) nan h = absurd h
number_of_le (fin s m e) (inf t) h = (tt, tt)
number_of_le (fin s m e) (fin t n d) h = (tt, tt)

pub le_of_lt : (x y : Float) → T (lt x y) → T (le x y)
unfolding le
le_of_lt x y h = or_l (lt x y) (eq x y) h

-- ---- reflexive
pub le_refl : (x : Float) → T (number x) → T (le x x)
le_refl nan h = absurd h
le_refl (inf true) h = unfold le in tt
le_refl (inf false) h = unfold le in tt
le_refl (fin s m e) h = le_of_leq (fin s m e) (fin s m e) tt tt (record { holds = omega arith })

-- ---- transitive
cross_trans : (p p' a q q' b r r' c : ℕ) → 0 < b → p * b + q' * a ≤ q * a + p' * b → q * c + r' * b ≤ r * b + q' * c → p * c + r' * a ≤ r * a + p' * c
cross_trans p p' a q q' b r r' c B h k =
    let h' = simp (add-mul, mul_assoc, mul_comm) at (mul-le-mul_right c h) in
    let k' = simp (add-mul, mul_assoc, mul_comm, mul_left_comm) at (mul-le-mul_right a k) in
    let g : (p * c + r' * a) * b ≤ (r * a + p' * c) * b = simp (add-mul, mul_assoc, mul_comm) (omega arith) in
    le_of_mul-le-mul_right g B

pub leq_trans : {x y z : Float} → Leq x y → Leq y z → Leq x z
leq_trans {x} {y} {z} h k = record { holds = cross_trans (pl x) (mi x) (den x) (pl y) (mi y) (den y) (pl z) (mi z) (den z) (den_pos y) h.holds k.holds }

pub le_trans : (x y z : Float) → T (le x y) → T (le y z) → T (le x z)
le_trans nan y z h k = absurd (number_of_le nan y h).0
le_trans (inf true) y nan h k = absurd (number_of_le y nan k).1
le_trans (inf true) y (inf true) h k = unfold le in tt
le_trans (inf true) y (inf false) h k = unfold le in tt
le_trans (inf true) y (fin t n d) h k = unfold le in tt
le_trans (inf false) nan z h k = absurd (number_of_le nan z k).0
le_trans (inf false) (inf true) z h k = absurd (unfold le in h)
le_trans (inf false) (inf false) z h k = k
le_trans (inf false) (fin t n d) z h k = absurd (unfold le in h)
le_trans (fin s m e) nan z h k = absurd (number_of_le nan z k).0
le_trans (fin s m e) (inf true) z h k = absurd (unfold le in h)
le_trans (fin s m e) (inf false) nan h k = absurd (number_of_le (inf false) nan k).1
le_trans (fin s m e) (inf false) (inf true) h k = absurd (unfold le in k)
le_trans (fin s m e) (inf false) (inf false) h k = h
le_trans (fin s m e) (inf false) (fin t n d) h k = absurd (unfold le in k)
le_trans (fin s m e) (fin t n d) nan h k = absurd (number_of_le (fin t n d) nan k).1
le_trans (fin s m e) (fin t n d) (inf true) h k = absurd (unfold le in k)
le_trans (fin s m e) (fin t n d) (inf false) h k = unfold le in tt
le_trans (fin s m e) (fin t n d) (fin u l c) h k =
    le_of_leq (fin s m e) (fin u l c) tt tt (leq_trans (leq_of_le (fin s m e) (fin t n d) tt tt h) (leq_of_le (fin t n d) (fin u l c) tt tt k))

-- ---- antisymmetric: both zeros are equal
pub eq_of_le : (x y : Float) → T (le x y) → T (le y x) → T (eq x y)
eq_of_le nan y h k = absurd (number_of_le nan y h).0
eq_of_le (inf s) nan h k = absurd (number_of_le (inf s) nan h).1
eq_of_le (inf true) (inf true) h k = unfold eq in tt
eq_of_le (inf true) (inf false) h k = absurd (unfold le in k)
eq_of_le (inf false) (inf true) h k = absurd (unfold le in h)
eq_of_le (inf false) (inf false) h k = unfold eq in tt
eq_of_le (inf true) (fin t n d) h k = absurd (unfold le in k)
eq_of_le (inf false) (fin t n d) h k = absurd (unfold le in h)
eq_of_le (fin s m e) nan h k = absurd (number_of_le (fin s m e) nan h).1
eq_of_le (fin s m e) (inf true) h k = absurd (unfold le in h)
eq_of_le (fin s m e) (inf false) h k = absurd (unfold le in k)
eq_of_le (fin s m e) (fin t n d) h k =
    eq_of_leq (fin s m e) (fin t n d) tt tt (leq_of_le (fin s m e) (fin t n d) tt tt h) (leq_of_le (fin t n d) (fin s m e) tt tt k)

pub le_of_eq : (x y : Float) → T (eq x y) → T (le x y)
unfolding le
le_of_eq x y h = or_r (lt x y) (eq x y) h

-- ---- `lt` is the opposite of `le` turned around
pub le_of_not_lt : (x y : Float) → T (number x) → T (number y) → T (not (lt x y)) → T (le y x)
le_of_not_lt nan y p q h = absurd p
le_of_not_lt (inf s) nan p q h = absurd q
le_of_not_lt (inf true) (inf true) p q h = unfold le in tt
le_of_not_lt (inf true) (inf false) p q h = absurd (unfold lt in h)
le_of_not_lt (inf false) (inf true) p q h = unfold le in tt
le_of_not_lt (inf false) (inf false) p q h = unfold le in tt
le_of_not_lt (inf true) (fin t n d) p q h = absurd (unfold lt in h)
le_of_not_lt (inf false) (fin t n d) p q h = unfold le in tt
le_of_not_lt (fin s m e) nan p q h = absurd q
le_of_not_lt (fin s m e) (inf true) p q h = unfold le in tt
le_of_not_lt (fin s m e) (inf false) p q h = absurd (unfold lt in h)
le_of_not_lt (fin s m e) (fin t n d) p q h = le_of_leq (fin t n d) (fin s m e) tt tt (leq_of_not_lt (fin s m e) (fin t n d) tt tt h)

pub le_total : (x y : Float) → T (number x) → T (number y) → T (le x y) ⊎ T (le y x)
le_total x y p q = elim (decide (lt x y)) [ inl l ↦ inl (le_of_lt x y l) | inr n ↦ inr (le_of_not_lt x y p q n) ]

pub not_le_of_lt : (x y : Float) → T (lt x y) → T (le y x) → ⊥
not_le_of_lt nan y h k = unfold lt in h
not_le_of_lt (inf s) nan h k = unfold lt in h
not_le_of_lt (inf true) (inf true) h k = unfold lt in h
not_le_of_lt (inf true) (inf false) h k = unfold le in k
not_le_of_lt (inf false) (inf t) h k = unfold lt in h
not_le_of_lt (inf true) (fin t n d) h k = unfold le in k
not_le_of_lt (inf false) (fin t n d) h k = unfold lt in h
not_le_of_lt (fin s m e) nan h k = unfold lt in h
not_le_of_lt (fin s m e) (inf true) h k = unfold lt in h
not_le_of_lt (fin s m e) (inf false) h k = unfold le in k
not_le_of_lt (fin s m e) (fin t n d) h k =
    let a = less_of_lt (fin s m e) (fin t n d) tt tt h in
    let b = leq_of_le (fin t n d) (fin s m e) tt tt k in
    omega arith

pub lt_of_not_le : (x y : Float) → T (number x) → T (number y) → T (not (le y x)) → T (lt x y)
lt_of_not_le x y p q h = elim (decide (lt x y)) [ inl l ↦ l | inr n ↦ absurd (T_not (le y x) h (le_of_not_lt x y p q n)) ]

pub lt_of_lt_of_le : (x y z : Float) → T (lt x y) → T (le y z) → T (lt x z)
lt_of_lt_of_le x y z h k =
    elim (decide (le z x)) [
      | inl l ↦ absurd (not_le_of_lt x y h (le_trans y z x k l))
      | inr n ↦ lt_of_not_le x z (number_of_le x y (le_of_lt x y h)).0 (number_of_le y z k).1 n
    ]

pub lt_of_le_of_lt : (x y z : Float) → T (le x y) → T (lt y z) → T (lt x z)
lt_of_le_of_lt x y z h k =
    elim (decide (le z x)) [
      | inl l ↦ absurd (not_le_of_lt y z k (le_trans z x y l h))
      | inr n ↦ lt_of_not_le x z (number_of_le x y h).0 (number_of_le y z (le_of_lt y z k)).1 n
    ]

pub lt_trans : (x y z : Float) → T (lt x y) → T (lt y z) → T (lt x z)
lt_trans x y z h k = lt_of_lt_of_le x y z h (le_of_lt y z k)

-- ---- the same as equations, as the two arms of a test know them
pub T_of : (b : Bool) → b ≡ true → T b
T_of b e = subst (λ (c : Bool). T c) (sym e) tt

pub T-of_not : (b : Bool) → b ≡ false → T (not b)
T-of_not b e = subst (λ (c : Bool). T (not c)) (sym e) tt

pub T-to : (b : Bool) → T b → b ≡ true
T-to true h = refl
T-to false h = absurd h

pub lt_le_clash : (x y : Float) → lt x y ≡ true → le y x ≡ true → ⊥
lt_le_clash x y h k = not_le_of_lt x y (T_of (lt x y) h) (T_of (le y x) k)

-- ---- what lies between two finite numbers is finite
pub between : (a x b : Float) → T (finite a) → T (finite b) → T (le a x) → T (le x b) → T (finite x)
between a nan b p q h k = absurd (number_of_le nan b k).0
between nan (inf s) b p q h k = absurd p
between (inf r) (inf s) b p q h k = absurd p
between (fin r l c) (inf s) nan p q h k = absurd q
between (fin r l c) (inf s) (inf t) p q h k = absurd q
between (fin r l c) (inf true) (fin t n d) p q h k = unfold le in h
between (fin r l c) (inf false) (fin t n d) p q h k = unfold le in k
between a (fin s m e) b p q h k = tt

-- also between the two infinities, neither of them included
pub finite_of_open : (x : Float) → T (lt (inf true) x) → T (lt x (inf false)) → T (finite x)
unfolding lt
finite_of_open nan h k = h
finite_of_open (inf true) h k = h
finite_of_open (inf false) h k = k
finite_of_open (fin s m e) h k = tt

-- ---- a change of sign turns the order around
neg_leq : (s : Bool) (m : ℕ) (e : ℤ) (t : Bool) (n : ℕ) (d : ℤ) → Leq (fin s m e) (fin t n d) → Leq (fin (not t) n d) (fin (not s) m e)
neg_leq false m e false n d h = record { holds = omega arith }
neg_leq false m e true n d h = record { holds = omega arith }
neg_leq true m e false n d h = record { holds = omega arith }
neg_leq true m e true n d h = record { holds = omega arith }

pub neg_anti : (x y : Float) → T (le x y) → T (le (neg y) (neg x))
neg_anti nan y h = absurd (number_of_le nan y h).0
neg_anti (inf s) nan h = absurd (number_of_le (inf s) nan h).1
neg_anti (inf true) (inf true) h = unfold le neg in tt
neg_anti (inf true) (inf false) h = unfold le neg in tt
neg_anti (inf false) (inf true) h = absurd (unfold le in h)
neg_anti (inf false) (inf false) h = unfold le neg in tt
neg_anti (inf true) (fin t n d) h = unfold le neg in tt
neg_anti (inf false) (fin t n d) h = absurd (unfold le in h)
neg_anti (fin s m e) nan h = absurd (number_of_le (fin s m e) nan h).1
neg_anti (fin s m e) (inf true) h = absurd (unfold le in h)
neg_anti (fin s m e) (inf false) h = unfold le neg in tt
neg_anti (fin s m e) (fin t n d) h =
    unfold neg in le_of_leq (fin (not t) n d) (fin (not s) m e) tt tt (neg_leq s m e t n d (leq_of_le (fin s m e) (fin t n d) tt tt h))
