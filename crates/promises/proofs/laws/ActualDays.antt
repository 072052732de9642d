-- Under codes 0 and 1 two days have two times: a day is far more than rounding moves. Assumes nothing.
use Rattle.std.specs.Prelude.{ℕ, zero, suc, ◌+◌, ◌-◌, ◌*◌, ◌^◌, ◌≤◌, ◌<◌, ◌≡◌, refl, Bool, true, false, not, cond, ◌&&◌, List, [], ◌∷◌, map, T, eqb, ltb, length, get_or, ℤ, Float, Ok}
use Rattle.std.proofs.Common.{mul_comm, mul_assoc, mul_right_comm, mul-one, mul-pos, mul-le-mul_right, le_of_mul-le-mul_right, le_antisymm, le_of_eq, add-mul, arith, sym, ap, subst, ◌∙◌, inl, inr, eqb→eq, ltb→lt, lit≤, pow_pos}
use Rattle.std.specs.Float.{nan, inf, fin, binary64}
use Rattle.std.specs.Float.Ieee.{sub, div, eq, le, lt, of_int, of_bits, up, down}
use Rattle.std.specs.Float.Ieee.Fits.{and_l, and_r}
use Rattle.std.specs.Float.Ieee.Scale.{finite}
use Rattle.std.specs.Float.Ieee.Exact.{HasValue}
use Rattle.std.specs.Float.Ieee.Back.{round_whole}
use Rattle.std.specs.Float.Ieee.Order.{round_mono}
use Rattle.std.specs.Float.Ieee.Positive.{num, den, den_pos, value→cross}
use Rattle.floats.specs.Answers.{plus_zero}
use Rattle.floats.specs.laws.Arithmetic.{sub-mono, div_mono_left}
use Rattle.floats.specs.laws.Order.{between, number_of_le, eq_of_le, lt_of_not_le}
use Rattle.floats.specs.laws.Fractions.{on_finite, decide}
use Rattle.terms.specs.declared.Settlement.{Settlement}
use Rattle.terms.specs.Numbers.{float}
use Rattle.terms.specs.Terms.{Leg, Pillars}
use Rattle.terms.specs.Times.{count_of, time_from, year_fraction}
use Rattle.terms.specs.Curve.{pillar_times}
use Rattle.terms.specs.Checks.{leg_count, leg_days, pillar_days, last_day, any_paid, pillar_order, pillars_apart, maturity_apart}
use Rattle.terms.specs.laws.Later.{later_no_smaller}
use Rattle.terms.specs.laws.Sequence.{single_of_not, indexed_of_none}
use Rattle.terms.specs.laws.TermChecks.{leg-counted, leg_days-passed, paid-passed, pillar_days-passed, PillarsOrdered, pillar_order-passed}
use Rattle.chances.specs.laws.Near.{Counts, Makes, makes_same, apart, fine-over, fine-under}
use Rattle.chances.specs.laws.Operations.{above_both, sub_makes, div_makes}
use Rattle.floats.specs.declared.Reason.TheVariants as reason

-- ---- a whole number as a float

finite-of_value : (x : Float) (s : Bool) (a c : ℕ) → HasValue x s a c → T (finite x)
finite-of_value nan s a c h = absurd h
finite-of_value (inf t) s a c h = absurd h
finite-of_value (fin t m e) s a c h = tt

float_value : (n : ℕ) → n ≤ 200000 → HasValue (float n) false n 1
unfolding of_int
float_value n h = round_whole binary64 false n (omega arith)

float-finite : (n : ℕ) → n ≤ 200000 → T (finite (float n))
float-finite n h = finite-of_value (float n) false n 1 (float_value n h)

float-no_less : (a b : ℕ) → a ≤ b → T (le (float a) (float b))
unfolding of_int
float-no_less a b h = round_mono binary64 a 1 b 1 (omega arith) (omega arith) (omega arith)

float-above : (n : ℕ) → T (le plus_zero (float n))
unfolding of_int of_bits
float-above n = float-no_less 0 n (omega arith)

float-counts : (n : ℕ) → n ≤ 200000 → Counts (float n) (n * 2 ^ 1074)
float-counts n h =
    let e : num (float n) * 1 ≡ n * den (float n) = value→cross (float n) n 1 (float_value n h) in
    record { is_finite = float-finite n h; units = go (num (float n)) (den (float n)) (2 ^ 1074) e }
  where
    go : (u d p : ℕ) → u * 1 ≡ n * d → u * p ≡ n * p * d
    go u d p e = ap (λ (z : ℕ). z * p) (sym (mul-one u) ∙ e) ∙ mul_right_comm n d p

-- ---- equal floats have equal counts

cancel : (a b k : ℕ) → 0 < k → a * k ≡ b * k → a ≡ b
cancel a b k h e = le_antisymm (le_of_mul-le-mul_right {k = k} (le_of_eq e) h) (le_of_mul-le-mul_right {k = k} (le_of_eq (sym e)) h)

eq_cross : (x z : Float) → T (finite x) → T (finite z) → T (eq x z) → num x * den z ≡ num z * den x
unfolding eq
eq_cross = on_finite (λ (x z : Float). T (eq x z) → num x * den z ≡ num z * den x) go
  where
    go : (s : Bool) (m : ℕ) (e : ℤ) (t : Bool) (n : ℕ) (d : ℤ) → T (eq (fin s m e) (fin t n d)) → m * up e * down d ≡ n * up d * down e
    go false m e false n d h = eqb→eq _ _ (and_l (eqb (m * up e * down d) (n * up d * down e)) true h)
    go false m e true n d h = eqb→eq _ _ (and_l (eqb (m * up e * down d) (n * up d * down e)) (eqb (m * up e * down d) 0) h)
    go true m e false n d h = eqb→eq _ _ (and_l (eqb (m * up e * down d) (n * up d * down e)) (eqb (m * up e * down d) 0) h)
    go true m e true n d h = eqb→eq _ _ (and_l (eqb (m * up e * down d) (n * up d * down e)) true h)

same_count : (x z : Float) (X Z : ℕ) → Counts x X → Counts z Z → T (eq x z) → X ≡ Z
same_count x z X Z p q h =
    go (num x) (den x) (num z) (den z) (2 ^ 1074) (den_pos x) (den_pos z) (eq_cross x z p.is_finite q.is_finite h) p.units q.units
  where
    go : (a b c d u : ℕ) → 0 < b → 0 < d → a * d ≡ c * b → a * u ≡ X * b → c * u ≡ Z * d → X ≡ Z
    go a b c d u B D e f g =
        cancel X Z (b * d) (mul-pos B D)
        (sym (mul_assoc X b d) ∙ ap (λ (k : ℕ). k * d) (sym f) ∙ mul_right_comm a u d ∙ ap (λ (k : ℕ). k * u) e ∙ mul_right_comm c b u ∙ ap (λ (k : ℕ). k * b) g ∙ mul_right_comm Z d b ∙ mul_assoc Z b d)

-- ---- a day's time

abbrev year_by : Bool → ℕ
year_by t = cond t 365 360

abbrev time : Bool → ℕ → ℕ → Float
time t from day = div binary64 (sub binary64 (float day) (float from)) (float (year_by t))

year-above : (t : Bool) → T (finite (float (year_by t))) × T (lt plus_zero (float (year_by t)))
unfolding of_int of_bits lt
year-above true = (tt, tt)
year-above false = (tt, tt)

year-counts : (t : Bool) → Counts (float (year_by t)) (year_by t * 2 ^ 1074)
year-counts true = float-counts 365 (omega arith)
year-counts false = float-counts 360 (omega arith)

year-few : (t : Bool) → (year_by t ≤ 365) × (0 < year_by t)
year-few true = (omega arith, omega arith)
year-few false = (omega arith, omega arith)

-- A difference of two days, and its share of a year, are finite.
bounded : (a b : ℕ) → a ≤ 200000 → b ≤ 200000 → T (le (sub binary64 (float 0) (float 200000)) (sub binary64 (float a) (float b))) × T (le (sub binary64 (float a) (float b)) (sub binary64 (float 200000) (float 0)))
unfolding of_int
bounded a b h k =
    let top : ℕ = 200000 in (
      sub-mono binary64 (float 0) (float a) (float top) (float b) tt (float-finite a h) tt (float-finite b k) (float-no_less 0 a (omega arith)) (float-no_less b top k),
      sub-mono binary64 (float a) (float top) (float b) (float 0) (float-finite a h) tt (float-finite b k) tt (float-no_less a top h) (float-no_less 0 b (omega arith)),
    )

sub-finite : (a b : ℕ) → a ≤ 200000 → b ≤ 200000 → T (finite (sub binary64 (float a) (float b)))
unfolding of_int sub
sub-finite a b h k =
    let p = bounded a b h k in
    between (sub binary64 (float 0) (float 200000)) (sub binary64 (float a) (float b)) (sub binary64 (float 200000) (float 0)) tt tt p.0 p.1

time-finite : (t : Bool) (from day : ℕ) → from ≤ 200000 → day ≤ 200000 → T (finite (time t from day))
unfolding of_int sub div
time-finite t from day h k = go t (year-above t)
  where
    d : Float
    d = sub binary64 (float day) (float from)

    go : (t : Bool) → T (finite (float (year_by t))) × T (lt plus_zero (float (year_by t))) → T (finite (div binary64 d (float (year_by t))))
    go true y =
        let p = bounded day from k h in
        between (div binary64 (sub binary64 (float 0) (float 200000)) (float 365)) (div binary64 d (float 365)) (div binary64 (sub binary64 (float 200000) (float 0)) (float 365)) tt tt
        (div_mono_left binary64 (sub binary64 (float 0) (float 200000)) d (float 365) tt (sub-finite day from k h) y.0 y.1 p.0)
        (div_mono_left binary64 d (sub binary64 (float 200000) (float 0)) (float 365) (sub-finite day from k h) tt y.0 y.1 p.1)
    go false y =
        let p = bounded day from k h in
        between (div binary64 (sub binary64 (float 0) (float 200000)) (float 360)) (div binary64 d (float 360)) (div binary64 (sub binary64 (float 200000) (float 0)) (float 360)) tt tt
        (div_mono_left binary64 (sub binary64 (float 0) (float 200000)) d (float 360) tt (sub-finite day from k h) y.0 y.1 p.0)
        (div_mono_left binary64 d (sub binary64 (float 200000) (float 0)) (float 360) (sub-finite day from k h) tt y.0 y.1 p.1)

difference_makes : (from day : ℕ) → from ≤ 200000 → day ≤ 200000 → Makes (sub binary64 (float day) (float from)) (apart (day * 2 ^ 1074) (from * 2 ^ 1074)) 1
difference_makes from day h k =
    sub_makes (float day) (float from) (day * 2 ^ 1074) (from * 2 ^ 1074) (float-counts day k) (float-counts from h) (above_both (float-above day) (float-above from)) (sub-finite day from k h)

time_makes : (t : Bool) (from day : ℕ) (h : from ≤ 200000) (k : day ≤ 200000) → Makes (time t from day) (difference_makes from day h k).count (year_by t)
time_makes t from day h k =
    let d = difference_makes from day h k in
    let y = year-counts t in
    makes_same (time t from day) (d.count * 2 ^ 1074) (year_by t * 2 ^ 1074) d.count (year_by t) (mul-pos (year-few t).1 (pow_pos 1074))
    (sides d.count (2 ^ 1074) (year_by t))
    (div_makes (sub binary64 (float day) (float from)) (float (year_by t)) d.count (year_by t * 2 ^ 1074) d.counts y (year-above t).1 (time-finite t from day h k))
  where
    sides : (g p y : ℕ) → g * p * y ≡ g * (y * p)
    sides g p y = mul_assoc g p y ∙ ap (λ (z : ℕ). g * z) (mul_comm p y)

-- ---- two days have two times

-- One part in 10,000,000 is enough.
coarse_over : (n g c : ℕ) → 8589934592 * g ≤ 8589934592 * n + n + 8589934592 * c → 10000000 * g ≤ 10000000 * n + n + 10000000 * c
coarse_over n g c h = omega arith

coarse_under : (n g c : ℕ) → 8589934592 * n ≤ 8589934592 * g + n + 8589934592 * c → 10000000 * n ≤ 10000000 * g + n + 10000000 * c
coarse_under n g c h = omega arith

-- Two differences with one share of a year are near each other.
near_by : (g h w y : ℕ) → y ≤ 365 → 10000000 * w ≤ 10000000 * g + g + 10000000 * y → 10000000 * h ≤ 10000000 * w + h + 10000000 * y → 10000000 * h ≤ 10000000 * g + g + h + 7300000000
near_by g h w y k a b = omega arith

-- In units of P, a day is more than that.
clash : (P A B g h : ℕ) → 1000000 ≤ P → A + P ≤ B → B ≤ 200000 * P → 10000000 * g ≤ 10000000 * A + A + 10000000 → 10000000 * B ≤ 10000000 * h + B + 10000000 → 10000000 * h ≤ 10000000 * g + g + h + 7300000000 → ⊥
clash P A B g h p a b u v w = absurd (omega arith)

-- Both days not before the first, in units of P.
days-apart : (P from a b : ℕ) → from ≤ a → a < b → b ≤ 200000 → (apart (a * P) (from * P) + P ≤ apart (b * P) (from * P)) × (apart (b * P) (from * P) ≤ 200000 * P)
days-apart P from a b h k l =
    let u : from * P ≤ a * P = mul-le-mul_right P h in
    let n : a + 1 ≤ b = omega arith in
    let v : (a + 1) * P ≤ b * P = mul-le-mul_right P n in
    let w : b * P ≤ 200000 * P = mul-le-mul_right P l in
    let e : (a + 1) * P ≡ a * P + P = add-mul a 1 P ∙ ap (λ (z : ℕ). a * P + z) (one_times P) in
    (omega arith, omega arith)
  where
    one_times : (n : ℕ) → 1 * n ≡ n
    one_times n = omega arith

million-below : 1000000 ≤ 2 ^ 1074
million-below = lit≤ tt

two_times : (t : Bool) (from a b : ℕ) → from ≤ a → a < b → b ≤ 200000 → T (eq (time t from a) (time t from b)) → ⊥
two_times t from a b h k l e =
    let p : from ≤ 200000 = omega arith in
    let q : a ≤ 200000 = omega arith in
    let d = difference_makes from a p q in
    let d' = difference_makes from b p l in
    let m = time_makes t from a p q in
    let m' = time_makes t from b p l in
    let c = same_count (time t from a) (time t from b) m.count m'.count m.counts m'.counts e in
    let s = days-apart (2 ^ 1074) from a b h k l in
    go (2 ^ 1074) (apart (a * 2 ^ 1074) (from * 2 ^ 1074)) (apart (b * 2 ^ 1074) (from * 2 ^ 1074)) d.count d'.count m.count m'.count (year_by t) million-below s.0 s.1 (year-few t).0 c
    (fine-over _ 1 d.count d.near) (fine-under _ 1 d'.count d'.near) (fine-over _ (year_by t) m.count m.near) (fine-under _ (year_by t) m'.count m'.near)
  where
    go : (P A B g h v w y : ℕ) → 1000000 ≤ P → A + P ≤ B → B ≤ 200000 * P → y ≤ 365 → v ≡ w
        → 8589934592 * (g * 1) ≤ 8589934592 * A + A + 8589934592 * 1
        → 8589934592 * B ≤ 8589934592 * (h * 1) + B + 8589934592 * 1
        → 8589934592 * (v * y) ≤ 8589934592 * g + g + 8589934592 * y
        → 8589934592 * h ≤ 8589934592 * (w * y) + h + 8589934592 * y
        → ⊥
    go P A B g h v w y p a b k c i j m n =
        let i' = coarse_over A (g * 1) 1 i in
        let j' = coarse_under B (h * 1) 1 j in
        let m' = coarse_over g (v * y) y m in
        let n' = coarse_under h (w * y) y n in
        let r = near_by g h (v * y) y k m' (subst (λ (z : ℕ). 10000000 * h ≤ 10000000 * (z * y) + h + 10000000 * y) (sym c) n') in
        clash P A B g h p a b (rw (mul-one g) at i') (rw (mul-one h) at j') r

zero-counts : Counts plus_zero 0
unfolding of_bits
zero-counts = record { is_finite = tt; units = refl }

not_zero : (t : Bool) (from day : ℕ) → from < day → day ≤ 200000 → T (eq (time t from day) plus_zero) → ⊥
not_zero t from day h l e =
    let p : from ≤ 200000 = omega arith in
    let d = difference_makes from day p l in
    let m = time_makes t from day p l in
    let c = same_count (time t from day) plus_zero m.count 0 m.counts zero-counts e in
    let s = days-apart (2 ^ 1074) from from day (omega arith) h l in
    go (2 ^ 1074) (apart (from * 2 ^ 1074) (from * 2 ^ 1074)) (apart (day * 2 ^ 1074) (from * 2 ^ 1074)) d.count m.count (year_by t) million-below s.0 s.1 (year-few t).0 c
    (fine-under _ 1 d.count d.near) (fine-under _ (year_by t) m.count m.near)
  where
    go : (P A B h w y : ℕ) → 1000000 ≤ P → A + P ≤ B → B ≤ 200000 * P → y ≤ 365 → w ≡ 0
        → 8589934592 * B ≤ 8589934592 * (h * 1) + B + 8589934592 * 1
        → 8589934592 * h ≤ 8589934592 * (w * y) + h + 8589934592 * y
        → ⊥
    go P A B h w y p a b k c j n =
        let j' = coarse_under B (h * 1) 1 j in
        let n' = coarse_under h (w * y) y n in
        let z : w * y ≡ 0 = ap (λ (x : ℕ). x * y) c ∙ none y in
        small P A B h (w * y) y p a k z (rw (mul-one h) at j') n'
      where
        none : (y : ℕ) → 0 * y ≡ 0
        none y = omega arith

        small : (P A B h v y : ℕ) → 1000000 ≤ P → A + P ≤ B → y ≤ 365 → v ≡ 0 → 10000000 * B ≤ 10000000 * h + B + 10000000 → 10000000 * h ≤ 10000000 * v + h + 10000000 * y → ⊥
        small P A B h v y p a k z j n = absurd (omega arith)

-- ---- of a settlement under code 0 or 1

by_code : (s : Settlement) (P : Settlement → Type 0) → s.code ≤ 1 → P (record { day = s.day; code = 0 }) → P (record { day = s.day; code = 1 }) → P s
by_code s P c p q = go s.code c
  where
    go : (code : ℕ) → code ≤ 1 → P (record { day = s.day; code = code })
    go zero c = p
    go (suc zero) c = q
    go (suc (suc n)) c = absurd (omega arith)

apart_by_days : (s : Settlement) (a b : ℕ) → s.code ≤ 1 → s.day ≤ a → a < b → b ≤ 200000 → T (eq (year_fraction s a) (year_fraction s b)) → ⊥
unfolding time_from count_of
apart_by_days s a b c h k l =
    by_code s (λ (z : Settlement). T (eq (year_fraction z a) (year_fraction z b)) → ⊥) c (two_times true s.day a b h k l) (two_times false s.day a b h k l)

after-settlement : (s : Settlement) (day : ℕ) → s.code ≤ 1 → s.day < day → day ≤ 200000 → T (eq (year_fraction s day) plus_zero) → ⊥
unfolding time_from count_of
after-settlement s day c h l =
    by_code s (λ (z : Settlement). T (eq (year_fraction z day) plus_zero) → ⊥) c (not_zero true s.day day h l) (not_zero false s.day day h l)

-- A later day has a greater time.
pub later-greater : (s : Settlement) (day later : ℕ) → s.code ≤ 1 → s.day ≤ day → day < later → later ≤ 200000 → T (lt (year_fraction s day) (year_fraction s later))
later-greater s day later c h k l =
    let up = later_no_smaller s day later (omega arith) l (omega arith) in
    let n = number_of_le (year_fraction s day) (year_fraction s later) up in
    elim (decide (le (year_fraction s later) (year_fraction s day))) [
      | inl down ↦ absurd (apart_by_days s day later c h k l (eq_of_le (year_fraction s day) (year_fraction s later) up down))
      | inr not ↦ lt_of_not_le (year_fraction s day) (year_fraction s later) n.0 n.1 not
    ]

-- ---- 34 and 35

not_of : (b : Bool) → (T b → ⊥) → T (not b)
not_of b h = elim (decide b) [ inl t ↦ absurd (h t) | inr n ↦ n ]

at_map : (f : ℕ → Float) (xs : List ℕ) (i : ℕ) → i < length xs → get_or (map f xs) i plus_zero ≡ f (get_or xs i 0)
at_map f [] i h = absurd (omega arith)
at_map f (x ∷ xs) zero h = refl
at_map f (x ∷ xs) (suc i) h = at_map f xs i (omega arith)

as_many : (f : ℕ → Float) (xs : List ℕ) → length (map f xs) ≡ length xs
as_many f [] = refl
as_many f (x ∷ xs) = ap suc (as_many f xs)

module _ (s : Settlement) (c : s.code ≤ 1) (p : Pillars) (maturity : ℕ) (d : pillar_days p ≡ Ok tt) (o : pillar_order s.day maturity p ≡ Ok tt) where
  ordered : PillarsOrdered p s.day maturity
  ordered = pillar_order-passed p s.day maturity o

  not_before : (i : ℕ) → i < length p.days → s.day ≤ get_or p.days i 0
  not_before zero h = let e = ordered.first h in omega arith
  not_before (suc i) h =
      let e : suc i - 1 ≡ i = omega arith in
      let r = rw e at (ordered.rising (suc i) h (omega arith)) in
      let b = not_before i (omega arith) in
      omega arith

  -- Pillars that pass 3 and 8 pass 34.
  pub pillars_apart_lem : pillars_apart s p ≡ Ok tt
  pillars_apart_lem =
      indexed_of_none reason.SameTime (λ i. ltb 0 i && eq (get_or (pillar_times s p.days) (i - 1) plus_zero) (get_or (pillar_times s p.days) i plus_zero)) (pillar_times s p.days)
      (λ i u. not_of (ltb 0 i && eq (get_or (pillar_times s p.days) (i - 1) plus_zero) (get_or (pillar_times s p.days) i plus_zero)) (λ t. together i (rw (as_many (year_fraction s) p.days) at u) t))
    where
      together : (i : ℕ) → i < length p.days → T (ltb 0 i && eq (get_or (pillar_times s p.days) (i - 1) plus_zero) (get_or (pillar_times s p.days) i plus_zero)) → ⊥
      together i u t =
          let z = ltb→lt 0 i (and_l (ltb 0 i) (eq (get_or (pillar_times s p.days) (i - 1) plus_zero) (get_or (pillar_times s p.days) i plus_zero)) t) in
          let e = and_r (ltb 0 i) (eq (get_or (pillar_times s p.days) (i - 1) plus_zero) (get_or (pillar_times s p.days) i plus_zero)) t in
          apart_by_days s (get_or p.days (i - 1) 0) (get_or p.days i 0) c (not_before (i - 1) (omega arith)) (ordered.rising i u z) (pillar_days-passed p d i u)
          (rw (at_map (year_fraction s) p.days (i - 1) (omega arith), at_map (year_fraction s) p.days i u) at e)

-- Cashflows that pass 2, 3 and 7 pass 35.
pub matures_apart : (s : Settlement) → s.code ≤ 1 → (l : Leg) → leg_count l ≡ Ok tt → leg_days l ≡ Ok tt → any_paid s.day l ≡ Ok tt → maturity_apart s l ≡ Ok tt
matures_apart s c l n d a =
    let k = leg-counted l n in
    single_of_not reason.NoTime 0 (eq (year_fraction s (last_day l.days)) plus_zero)
    (not_of (eq (year_fraction s (last_day l.days)) plus_zero) (after-settlement s (last_day l.days) c (paid-passed l s.day a) (leg_days-passed l d (length l.days - 1) (omega arith)).day))
