-- The root of a finite double is finite and not below 0, and so is every value that `sqrtAt` gives.
-- Assumes nothing.
use Rattle.std.specs.Prelude.{◌≡◌, refl, Bool, true, false, not, cond, ◌&&◌, ◌||◌, ℕ, ◌*◌, ◌^◌, ◌<◌, T, eqb, Float, Ok}
use Rattle.std.proofs.Common.{sym, ap, subst, inl, inr, zero-le, eq-zero-or-pos, le_trans, le_of_lt, le_of_eq, mul-one, zero-mul, arith, eq-eqb, lit≤, pow_pos}
use Rattle.std.specs.Bool.{beq}
use Rattle.std.specs.Float.{nan, inf, fin, binary64}
use Rattle.std.specs.Float.Ieee.{up, down, round, le, lt, below, of_bits}
use Rattle.std.specs.Float.Ieee.Fits.{and_i, eq→eqb}
use Rattle.std.specs.Float.Ieee.Order.{round_mono}
use Rattle.std.specs.Float.Ieee.Positive.{num, den}
use Rattle.std.specs.Float.Ieee.Scale.{finite}
use Rattle.floats.specs.Answers.{plus_zero, refusal, not_finite}
use Rattle.rounded.specs.Root.{doubled_root, root_of, sqrt_at}
use Rattle.rounded.specs.laws.RootValue.{doubled_root-few, root_value_lem}
use Rattle.floats.specs.declared.Reason.TheVariants as reason

pub record NotBelow (y : Float) : Type 0 where
  pub is_finite : T (finite y)
  pub not_below_lem : T (le plus_zero y)

-- ---- a zero

or_r : (a b : Bool) → T b → T (a || b)
or_r true b t = tt
or_r false b t = t

zero-not_below : (s : Bool) (m : ℕ) (e : _) → m * up e ≡ 0 → T (le plus_zero (fin s m e))
unfolding le of_bits
zero-not_below s m e z =
    or_r (below false (0 * down e) s (m * up e * 1))
    (eqb (0 * down e) (m * up e * 1) && (beq false s || eqb (0 * down e) 0))
    (and_i (eqb (0 * down e) (m * up e * 1)) (beq false s || eqb (0 * down e) 0) (eq→eqb {a = 0 * down e} {b = m * up e * 1} (omega arith)) (or_r (beq false s) (eqb (0 * down e) 0) (eq→eqb (zero-mul (down e)))))

pub zero-root : (x : Float) → num x ≡ 0 → root_of x ≡ x
unfolding root_of
zero-root x z = ap (λ (b : Bool). cond b x (round binary64 false (doubled_root (num x) (den x)) (2 ^ 1075))) (eq-eqb (num x) 0 z)

at_zero : (x : Float) → T (finite x) → num x ≡ 0 → NotBelow x
at_zero nan f z = absurd f
at_zero (inf s) f z = absurd f
at_zero (fin s m e) f z = record { is_finite = tt; not_below_lem = zero-not_below s m e z }

-- ---- a number above 0: its root lies between 0 and 2^600

under : (y z : Float) → T (le plus_zero y) → T (le y z) → T (finite z) → T (finite y)
unfolding le of_bits
under nan z a b f = absurd a
under (inf true) z a b f = absurd a
under (inf false) nan a b f = absurd f
under (inf false) (inf t) a b f = absurd f
under (inf false) (fin t n d) a b f = absurd b
under (fin s m e) z a b f = tt

nothing : round binary64 false 0 1 ≡ plus_zero
unfolding round of_bits
nothing = refl

at_least : (w : ℕ) → T (le plus_zero (round binary64 false w (2 ^ 1075)))
at_least w =
    subst (λ (z : Float). T (le z (round binary64 false w (2 ^ 1075)))) nothing
    (round_mono binary64 0 1 w (2 ^ 1075) (pow_pos 0) (pow_pos 1075) (le_trans (le_of_eq (zero-mul (2 ^ 1075))) zero-le))

at_most : (w : ℕ) → w < 2 * 2 ^ 1586 → T (le (round binary64 false w (2 ^ 1075)) (round binary64 false (2 ^ 600) 1))
at_most w b = round_mono binary64 w (2 ^ 1075) (2 ^ 600) 1 (pow_pos 1075) (pow_pos 0) (le_trans (le_of_eq (mul-one w)) (le_trans (le_of_lt b) (lit≤ tt)))

root_bounds : (w : ℕ) → w < 2 * 2 ^ 1586 → NotBelow (round binary64 false w (2 ^ 1075))
root_bounds w b =
    record {
      is_finite = under (round binary64 false w (2 ^ 1075)) (round binary64 false (2 ^ 600) 1) (at_least w) (at_most w b) (unfold round in tt);
      not_below_lem = at_least w;
    }

pub root_of_bounds : (x : Float) → T (finite x) → NotBelow (root_of x)
root_of_bounds x f = elim (eq-zero-or-pos (num x)) [
  | inl z ↦ subst NotBelow (sym (zero-root x z)) (at_zero x f z)
  | inr p ↦ subst NotBelow (sym (root_value_lem x p)) (root_bounds (doubled_root (num x) (den x)) (doubled_root-few (num x) (den x)))
]

-- ---- where `sqrtAt` gives a value

-- Of a finite number that isn't below 0 it is the root.
pub sqrt_at_is : (x : Float) (place : ℕ) → T (finite x) → lt x plus_zero ≡ false → sqrt_at x place ≡ Ok (root_of x)
unfolding sqrt_at
sqrt_at_is x place f n = go (finite x) (lt x plus_zero) (finite (root_of x)) f n (root_of_bounds x f).is_finite
  where
    go : (b c d : Bool) → T b → c ≡ false → T d → cond (not b) (refusal reason.NotFinite place) (cond c (refusal reason.Outside place) (cond (not d) (refusal reason.NotFinite place) (Ok (root_of x)))) ≡ Ok (root_of x)
    go false c d f n g = absurd f
    go true true d f n g = cc
    go true false false f n g = absurd g
    go true false true f n g = refl

-- Every value is the root of a finite number.
pub record RootValue (x y : Float) : Type 0 where
  pub of_finite : T (finite x)
  pub is_root : root_of x ≡ y

pub sqrt_at-root : (x : Float) (place : ℕ) (y : Float) → sqrt_at x place ≡ Ok y → RootValue x y
unfolding sqrt_at
sqrt_at-root x place y = go (finite x) (lt x plus_zero) (not_finite (root_of x)) refl
  where
    go : (b c d : Bool) → finite x ≡ b → cond (not b) (refusal reason.NotFinite place) (cond c (refusal reason.Outside place) (cond d (refusal reason.NotFinite place) (Ok (root_of x)))) ≡ Ok y → RootValue x y
    go false c d k h = absurd (let z : ◌≡◌ {A = ℕ} 0 1 = cc in omega arith)
    go true true d k h = absurd (let z : ◌≡◌ {A = ℕ} 0 1 = cc in omega arith)
    go true false true k h = absurd (let z : ◌≡◌ {A = ℕ} 0 1 = cc in omega arith)
    go true false false k h = record { of_finite = subst T (sym k) tt; is_root = cc }

-- A value doesn't depend on the place.
pub sqrt_at-place : (x : Float) (j k : ℕ) (y : Float) → sqrt_at x j ≡ Ok y → sqrt_at x k ≡ Ok y
unfolding sqrt_at
sqrt_at-place x j k y = go (finite x) (lt x plus_zero) (not_finite (root_of x))
  where
    go : (b c d : Bool) → cond (not b) (refusal reason.NotFinite j) (cond c (refusal reason.Outside j) (cond d (refusal reason.NotFinite j) (Ok (root_of x)))) ≡ Ok y → cond (not b) (refusal reason.NotFinite k) (cond c (refusal reason.Outside k) (cond d (refusal reason.NotFinite k) (Ok (root_of x)))) ≡ Ok y
    go false c d h = absurd (let z : ◌≡◌ {A = ℕ} 0 1 = cc in omega arith)
    go true true d h = absurd (let z : ◌≡◌ {A = ℕ} 0 1 = cc in omega arith)
    go true false true h = absurd (let z : ◌≡◌ {A = ℕ} 0 1 = cc in omega arith)
    go true false false h = h

pub sqrt_at_bounds : (x : Float) (place : ℕ) (y : Float) → sqrt_at x place ≡ Ok y → NotBelow y
sqrt_at_bounds x place y h = let v = sqrt_at-root x place y h in subst NotBelow v.is_root (root_of_bounds x v.of_finite)
