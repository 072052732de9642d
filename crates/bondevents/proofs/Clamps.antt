-- A float made whole, cast to an unsigned number and clamped, by what the float is compared with: for rounding and for ceiling alike. Assumes nothing.
use Rattle.std.specs.Prelude.{Ok, Err}
use Prim.Native.Nat.{ℕ, ◌-◌, ◌*◌, ◌/◌, ◌^◌, ◌≤◌, ◌<◌, min, max, zero-le}
use native.Mathlib.Nat.{le_trans, le_of_eq, lt_of_le_of_lt, min-le_left, min-le_right, le-min, min-eq_left, min-eq_right, max-eq_left, max-eq_right, le-div_iff_mul-le, div-mul-le_self, le_of_mul-le-mul_right, mul-le-mul_right, mul_right_comm, zero-div}
use native.Mathlib.Omega.{arith}
use mathlib.Core.Path.{◌≡◌, refl, sym, ap, subst, ◌∙◌}
use mathlib.Core.Bool.{Bool, true, false}
use lib.Dec.{T, le→leb, lit<, lit≤}
use lib.IntN.{pos}
use lib.Ieee.{Float, nan, inf, fin, binary64, up, down, lt, le, of_int, of_bits, to_unsigned, fits, in_unsigned, in_float}
use lib.Ieee.Scale.{finite}
use lib.Ieee.Fits.{down_pos, of_int-fits}
use lib.Ieee.Exact.{HasValue}
use lib.Ieee.Back.{unsigned_back, round_whole}
use Rattle.floats.specs.Answers.{plus_zero, one, Answer}
use Rattle.floats.specs.Refusals.{Refusal}
use Rattle.floats.specs.Whole.{rounded, ceiled, round_at, ceil_at}
use Rattle.floats.specs.laws.Fractions.{leq_of_le}
use Rattle.floats.specs.laws.Order.{le_of_lt as float-le-of-lt, le_of_not_lt, lt_of_not_le, number_of-finite, number_of_le, T_of, T-of_not, between, le_trans as float-le-trans}
use Rattle.floats.specs.laws.Cuts.{IsWhole}
use Rattle.floats.specs.laws.Casts.{unsigned-upto}
use Rattle.floats.specs.laws.Whole.{rounded-mono, ceiled-mono, rounded_self, ceiled_self, rounded-whole, ceiled-whole, round-answers, ceil-answers}
use Rattle.terms.specs.Numbers.{float}
use Rattle.bondevents.specs.Steps.{clamp}

-- ---- a cast to an unsigned number keeps the order

-- a/b cut ≤ c/d cut
cut-mono : (a b c d : ℕ) → 0 < b → 0 < d → a * d ≤ c * b → a / b ≤ c / d
cut-mono a b c d B D h =
    (le-div_iff_mul-le D).1
    (le_of_mul-le-mul_right
    (le_trans (le_of_eq (mul_right_comm (a / b) d b)) (le_trans (mul-le-mul_right d (div-mul-le_self a b)) h)) B)

capped : (w x y : ℕ) → x ≤ y → min x (2 ^ w - 1) ≤ min y (2 ^ w - 1)
capped w x y h = le-min (le_trans (min-le_left x (2 ^ w - 1)) h) (min-le_right x (2 ^ w - 1))

pub unsigned-mono : (w : ℕ) (x y : Float) → T (le x y) → to_unsigned w x ≤ to_unsigned w y
unfolding to_unsigned le lt
unsigned-mono w nan y h = zero-le
unsigned-mono w (inf true) y h = zero-le
unsigned-mono w (inf false) nan h = absurd h
unsigned-mono w (inf false) (inf true) h = absurd h
unsigned-mono w (inf false) (inf false) h = le_of_eq refl
unsigned-mono w (inf false) (fin t n d) h = absurd h
unsigned-mono w (fin true m e) y h = zero-le
unsigned-mono w (fin false m e) nan h = absurd h
unsigned-mono w (fin false m e) (inf true) h = absurd h
unsigned-mono w (fin false m e) (inf false) h = min-le_right (m * up e / down e) (2 ^ w - 1)
unsigned-mono w (fin false m e) (fin true n d) h =
    let l = (leq_of_le (fin false m e) (fin true n d) tt tt h).holds in
    let c = cut-mono (m * up e) (down e) 0 (down d) (down_pos e) (down_pos d) (omega arith) in
    le_trans (min-le_left (m * up e / down e) (2 ^ w - 1)) (le_trans c (le_of_eq (zero-div (down d))))
unsigned-mono w (fin false m e) (fin false n d) h =
    let l = (leq_of_le (fin false m e) (fin false n d) tt tt h).holds in
    capped w (m * up e / down e) (n * up d / down d) (cut-mono (m * up e) (down e) (n * up d) (down d) (down_pos e) (down_pos d) (omega arith))

-- ---- small whole numbers as floats

float_value : (n : ℕ) → n ≤ 512 → HasValue (float n) false n 1
unfolding of_int
float_value n h = round_whole binary64 false n (le_trans h (lit≤ tt))

value-finite : (x : Float) (s : Bool) (a c : ℕ) → HasValue x s a c → T (finite x)
value-finite nan s a c v = v
value-finite (inf t) s a c v = v
value-finite (fin t m e) s a c v = tt

pub float-finite : (n : ℕ) → n ≤ 512 → T (finite (float n))
float-finite n h = value-finite (float n) false n 1 (float_value n h)

back : (n : ℕ) → n ≤ 512 → T (in_unsigned binary64 64 (float n)) × (to_unsigned 64 (float n) ≡ n)
unfolding in_float
back n h = unsigned_back binary64 64 n (le→leb n (2 ^ 53) (le_trans h (lit≤ tt))) (lt_of_le_of_lt h (lit< tt))

-- ---- the two ways to a whole number

-- The way g, and the function that answers with it.
pub record Way (g : Float → Float) (at : Float → ℕ → Answer) : Type 0 where
  pub mono : (x y : Float) → T (finite x) → T (finite y) → T (le x y) → T (le (g x) (g y))
  pub own : (n : ℕ) → 0 < n → n ≤ 512 → g (float n) ≡ float n
  pub held : (x : Float) → T (fits binary64 x) → T (finite x) → IsWhole (g x)
  pub nothing : g nan ≡ nan
  pub endless : (s : Bool) → g (inf s) ≡ inf s
  pub answered : (x : Float) (place : ℕ) → T (fits binary64 x) → T (finite x) → at x place ≡ Ok (g x)

pub nearest : Way rounded round_at
unfolding rounded
nearest =
    record {
      mono = rounded-mono;
      own = λ n p h. rounded_self (float n) false n (of_int-fits binary64 (pos n)) p (float_value n h);
      held = rounded-whole;
      answered = round-answers;
      nothing = refl;
      endless = λ s. refl;
    }

pub upwards : Way ceiled ceil_at
unfolding ceiled
upwards =
    record {
      mono = ceiled-mono;
      own = λ n p h. ceiled_self (float n) false n (of_int-fits binary64 (pos n)) p (float_value n h);
      held = ceiled-whole;
      answered = ceil-answers;
      nothing = refl;
      endless = λ s. refl;
    }

-- ---- clamped to 1..high

clamp-high : (high n : ℕ) → 1 ≤ high → high ≤ n → high ≡ clamp 1 high n
clamp-high high n p h = sym (ap (max 1) (min-eq_left h) ∙ max-eq_right p)

clamp-low : (high n : ℕ) → n ≤ 1 → 1 ≡ clamp 1 high n
clamp-low high n h = sym (max-eq_left (le_trans (min-le_right high n) h))

clamp-mid : (high n : ℕ) → 1 ≤ n → n ≤ high → n ≡ clamp 1 high n
clamp-mid high n p h = sym (ap (max 1) (min-eq_right h) ∙ max-eq_right p)

one_is : float 1 ≡ one
unfolding of_int of_bits
one_is = refl

le_nan : (y : Float) → T (le y nan) → ⊥
unfolding le
le_nan nan h = h
le_nan (inf s) h = h
le_nan (fin s m e) h = h

le_bottom : (y : Float) → T (finite y) → T (le y (inf true)) → ⊥
unfolding le
le_bottom nan f h = h
le_bottom (inf s) f h = f
le_bottom (fin s m e) f h = h

module _ (g : Float → Float) (at : Float → ℕ → Answer) (way : Way g at) (high : ℕ) (some : 1 ≤ high) (few : high ≤ 512) where
  -- What lies between two small whole numbers lies between them when it is whole.
  from : (n : ℕ) (x : Float) → 1 ≤ n → n ≤ 512 → T (finite x) → T (le (float n) x) → n ≤ to_unsigned 64 (g x)
  from n x p h f l =
      le_trans (le_of_eq (sym (ap (to_unsigned 64) (way.own n p h) ∙ (back n h).1)))
      (unsigned-mono 64 (g (float n)) (g x) (way.mono (float n) x (float-finite n h) f l))

  upto : (n : ℕ) (x : Float) → 1 ≤ n → n ≤ 512 → T (finite x) → T (le x (float n)) → to_unsigned 64 (g x) ≤ n
  upto n x p h f l =
      le_trans (unsigned-mono 64 (g x) (g (float n)) (way.mono x (float n) f (float-finite n h) l))
      (le_of_eq (ap (to_unsigned 64) (way.own n p h) ∙ (back n h).1))

  reaches : (x : Float) → T (le (float high) x) → high ≤ to_unsigned 64 (g x)
  reaches nan h = absurd (le_nan (float high) h)
  reaches (inf true) h = absurd (le_bottom (float high) (float-finite high few) h)
  reaches (inf false) h = rw (way.endless false) (unfold to_unsigned in le_trans few (lit≤ tt))
  reaches (fin s m e) h = from high (fin s m e) some few tt h

  low : (x : Float) → lt one x ≡ false → to_unsigned 64 (g x) ≤ 1
  low nan h = rw way.nothing (unfold to_unsigned in zero-le)
  low (inf true) h = rw (way.endless true) (unfold to_unsigned in zero-le)
  low (inf false) h = absurd (unfold lt in unfold of_bits in T-of_not true h)
  low (fin s m e) h =
      upto 1 (fin s m e) (lit≤ tt) (lit≤ tt) tt
      (subst (λ (z : Float). T (le (fin s m e) z)) (sym one_is)
      (le_of_not_lt one (fin s m e) (number_of-finite one (unfold of_bits in tt)) tt (T-of_not (lt one (fin s m e)) h)))

  pub clamped_high : (x : Float) → le (float high) x ≡ true → high ≡ clamp 1 high (to_unsigned 64 (g x))
  clamped_high x h = clamp-high high (to_unsigned 64 (g x)) some (reaches x (T_of (le (float high) x) h))

  pub clamped_low : (x : Float) → lt one x ≡ false → 1 ≡ clamp 1 high (to_unsigned 64 (g x))
  clamped_low x h = clamp-low high (to_unsigned 64 (g x)) (low x h)

  -- Between 1 and high the float is finite, and its whole number is cast as it is.
  module _ (x : Float) (below : le (float high) x ≡ false) (above : lt one x ≡ true) (p : T (fits binary64 x)) {s : Answer} (e : s ≡ at x 0) where
    from_one : T (le (float 1) x)
    from_one = subst (λ (z : Float). T (le z x)) (sym one_is) (float-le-of-lt one x (T_of (lt one x) above))

    to_high : T (le x (float high))
    to_high =
        float-le-of-lt x (float high)
        (lt_of_not_le x (float high) (number_of_le (float 1) x from_one).1 (number_of-finite (float high) (float-finite high few))
        (T-of_not (le (float high) x) below))

    within : T (finite x)
    within = between (float 1) x (float high) (float-finite 1 (lit≤ tt)) (float-finite high few) from_one to_high

    given : s ≡ Ok (g x)
    given = e ∙ way.answered x 0 p within

    taken : T (in_unsigned binary64 64 (g x))
    unfolding le of_int of_bits
    taken =
        unsigned-upto 64 (g x) (float high) (way.held x p within) (back high few).0
        (float-le-trans plus_zero (float 1) (g x) tt
        (subst (λ (z : Float). T (le z (g x))) (way.own 1 (lit≤ tt) (lit≤ tt)) (way.mono (float 1) x (float-finite 1 (lit≤ tt)) within from_one)))
        (subst (λ (z : Float). T (le (g x) z)) (way.own high some few) (way.mono x (float high) within (float-finite high few) to_high))

    pub mid-taken : {y : Float} → s ≡ Ok y → T (in_unsigned binary64 64 y)
    mid-taken {y} v = let i : g x ≡ y = cc (given, v) in subst (λ (z : Float). T (in_unsigned binary64 64 z)) i taken

    pub mid-clamped : {y : Float} → s ≡ Ok y → to_unsigned 64 y ≡ clamp 1 high (to_unsigned 64 (g x))
    mid-clamped {y} v =
        let i : g x ≡ y = cc (given, v) in
        ap (to_unsigned 64) (sym i)
        ∙ clamp-mid high (to_unsigned 64 (g x)) (from 1 x (lit≤ tt) (lit≤ tt) within from_one) (upto high x some few within to_high)

    pub mid-refused : {q : Refusal} → s ≡ Err q → 1 ≡ clamp 1 high (to_unsigned 64 (g x))
    mid-refused v = let z : ◌≡◌ {A = ℕ} 0 1 = cc (given, v) in absurd (omega arith)
