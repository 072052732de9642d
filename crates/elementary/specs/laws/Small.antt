-- exp near 0: for a number of at most 0.34 in size there are no steps, the remainder is the number, 2^0 is 1, and the series is finite. Assumes nothing.
use Prim.Native.Nat.{ℕ, zero, suc, ◌+◌, ◌-◌, ◌*◌, ◌/◌, ◌%◌, ◌^◌, ◌≤◌, ◌<◌}
use Rattle.std.specs.Prelude.{◌≡◌, refl, true, false, cond, ◌&&◌, ◌||◌, eqb, leb, ltb, ℤ, pos, negsuc, Float}
use Rattle.std.proofs.Common.{sym, ◌∙◌, subst, inl, inr, lt_irrefl, lt_of_lt_of_le, mul_assoc, mul-one, zero-mul, add-zero, add_comm, div-lt_iff_lt-mul, mul-pos, arith, leb-false, le-ltb, leb→le, ltb→lt, lit<, pow-add, pow_pos, pow_mono, shl_lt}
use Rattle.std.proofs.Math.Path.{ap}
use Rattle.std.proofs.Math.Bool.{Bool}
use Rattle.std.specs.Bool.{beq}
use Rattle.std.proofs.Math.Nat.{sub-zero}
use Rattle.std.proofs.Math.Dec.{T}
use Rattle.std.proofs.Math.Pow.{pow-lt}
use Rattle.std.specs.Float.{nan, inf, fin, Format}
use Rattle.std.specs.Float.Ieee.{binary64, prec, emax, low, up, down, unlike, fits, round, sum, add, sub, mul, div, neg, eq, lt, le, of_bits, of_int, to_signed}
use Rattle.std.specs.Float.Ieee.Scale.{finite}
use Rattle.std.specs.Float.Ieee.Fits.{reach, down_pos, and_l, and_r, and_i, eq→eqb, add-fits, round-fits}
use Rattle.std.specs.Float.Ieee.Bits.{is_false}
use Rattle.std.specs.Float.Ieee.Exact.{HasValue, round_exact}
use Rattle.floats.specs.Answers.{plus_zero, one, two}
use Rattle.floats.specs.Whole.{rounded, whole_of}
use Rattle.floats.specs.laws.Fractions.{decide, or_l, leq_of_le}
use Rattle.floats.specs.laws.Order as order
use Rattle.floats.specs.laws.Arithmetic.{add_mono_right, mul_mono_left, div_mono_left}
use Rattle.floats.specs.laws.Bounds.{mul-upper, mul-lower}
use Rattle.floats.specs.laws.Rounding.{round-signed, round-zero}
use Rattle.floats.specs.laws.SameNumber.{same_of_eq}
use Rattle.floats.specs.laws.Cuts.{whole-nil}
use Rattle.elementary.specs.Exponential.{inverse_ln2, seven_hundred, power_of_two}
use Rattle.elementary.specs.laws.Exponential.{plain_term, plain_series, plain_remainder, plain_exp, steps}
use Rattle.elementary.specs.laws.Steps.{Reducible}

-- 0.34
abbrev pub small_limit : Float
small_limit = of_bits binary64 0x3fd5_c28f_5c28_f5c3

-- At most 0.34 in size, and a number of the format.
pub record Small (x : Float) : Type 0 where
  pub low_end : T (le (neg small_limit) x)
  pub high_end : T (le x small_limit)
  pub held : T (fits binary64 x)

-- ---- a number that its format holds is its own rounding

parts : (f : Format) (s : Bool) (m : ℕ) (e : ℤ) → T (fits f (fin s (suc m) e)) → (suc m < 2 ^ prec f) × (down e ≤ 2 ^ low f) × (suc m * up e < 2 ^ suc (emax f) * down e)
unfolding fits
parts f s m e t =
    let a : Bool = eqb (suc m % 2) 1 in
    let b : Bool = ltb (suc m) (2 ^ prec f) in
    let c : Bool = leb (down e) (2 ^ low f) in
    let d : Bool = ltb (suc m * up e) (2 ^ suc (emax f) * down e) in (
      ltb→lt (suc m) (2 ^ prec f) (and_r a b (and_l (a && b) c (and_l (a && b && c) d t))),
      leb→le (down e) (2 ^ low f) (and_r (a && b) c (and_l (a && b && c) d t)),
      ltb→lt (suc m * up e) (2 ^ suc (emax f) * down e) (and_r (a && b && c) d t),
    )

power-back : (a b : ℕ) → 2 ^ a ≤ 2 ^ b → a ≤ b
power-back a b h =
    elim (decide (leb a b)) [
      | inl t ↦ leb→le a b t
      | inr t ↦ absurd (lt_irrefl (2 ^ b) (lt_of_lt_of_le (pow-lt (leb-false a b (is_false (leb a b) t))) h))
    ]

exact : (f : Format) (s : Bool) (m : ℕ) (e : ℤ) → T (fits f (fin s (suc m) e)) → HasValue (round f s (suc m * up e) (down e)) s (suc m * up e) (down e)
exact f s m (pos k) t =
    let p = parts f s m (pos k) t in
    let h : suc m * 2 ^ k < 2 ^ suc (emax f) = subst (λ (z : ℕ). suc m * 2 ^ k < z) (mul-one (2 ^ suc (emax f))) p.2 in
    let e : suc m * 2 ^ k * 2 ^ low f ≡ suc m * 2 ^ (k + low f) = mul_assoc (suc m) (2 ^ k) (2 ^ low f) ∙ ap (λ (z : ℕ). suc m * z) (sym (pow-add 2 k (low f))) in
    round_exact f s (suc m * 2 ^ k) 1 (suc m) (k + low f) (lit< tt) p.0
    (subst (λ (z : ℕ). suc m * 2 ^ (k + low f) < 2 ^ z) (add_comm (suc (emax f)) (low f)) (subst (λ (z : ℕ). z < 2 ^ (suc (emax f) + low f)) e (shl_lt (suc (emax f)) (low f) h)))
    (e ∙ sym (mul-one (suc m * 2 ^ (k + low f))))
exact f s m (negsuc k) t =
    let p = parts f s m (negsuc k) t in
    let l : suc k ≤ low f = power-back (suc k) (low f) p.1 in
    let j = low f - suc k in
    let r = reach f in
    let a : prec f + j ≤ low f + suc (emax f) = omega arith in
    let b : low f ≡ j + suc k = omega arith in
    round_exact f s (suc m * 1) (2 ^ suc k) (suc m) j (pow_pos (suc k)) p.0
    (lt_of_lt_of_le (shl_lt (prec f) j p.0) (pow_mono a))
    (ap (λ (z : ℕ). z * 2 ^ low f) (mul-one (suc m)) ∙ ap (λ (z : ℕ). suc m * 2 ^ z) b ∙ ap (λ (z : ℕ). suc m * z) (pow-add 2 j (suc k)) ∙ sym (mul_assoc (suc m) (2 ^ j) (2 ^ suc k)))

beq_same : (s t : Bool) → t ≡ s → T (beq t s)
beq_same false t e = subst (λ (b : Bool). T (beq b false)) (sym e) tt
beq_same true t e = subst (λ (b : Bool). T (beq b true)) (sym e) tt

value_eq : (x : Float) (s : Bool) (m : ℕ) (e : ℤ) → HasValue x s (m * up e) (down e) → T (eq x (fin s m e))
unfolding eq
value_eq nan s m e v = v
value_eq (inf t) s m e v = v
value_eq (fin t n d) s m e v = and_i (eqb (n * up d * down e) (m * up e * down d)) (beq t s || eqb (n * up d * down e) 0) (eq→eqb v.1) (or_l (beq t s) (eqb (n * up d * down e) 0) (beq_same s t v.0))

own : (f : Format) (s : Bool) (m : ℕ) (e : ℤ) → T (fits f (fin s m e)) → round f s (m * up e) (down e) ≡ fin s m e
own f s m e t = same_of_eq f s (round f s (m * up e) (down e)) (fin s m e) (round-fits f s (m * up e) (down e)) t (round-signed f s (m * up e) (down e)) refl (value_eq (round f s (m * up e) (down e)) s m e (go m t))
  where
    go : (m : ℕ) → T (fits f (fin s m e)) → HasValue (round f s (m * up e) (down e)) s (m * up e) (down e)
    go zero t =
        subst (λ (x : Float). HasValue x s (zero * up e) (down e)) (sym (ap (λ (z : ℕ). round f s z (down e)) (zero-mul (up e)) ∙ round-zero f s (down e) (down_pos e)))
        (refl, ap (λ (z : ℕ). z) (zero-mul (down e)) ∙ sym (ap (λ (z : ℕ). z * 1) (zero-mul (up e))))
    go (suc m) t = exact f s m e t

-- ---- less +0, and times 1

sum-nil : (f : Format) (s : Bool) (a c : ℕ) → sum f s a true 0 c ≡ round f s a c
unfolding sum
sum-nil f true a c = ap (λ (z : ℕ). round f true z c) (add-zero a)
sum-nil f false a c =
    ap (λ (b : Bool). cond b (round f true (0 - a) c) (round f false (a - 0) c)) (le-ltb a 0 (omega arith)) ∙ ap (λ (z : ℕ). round f false z c) (sub-zero a)

less_nil : (x : Float) → T (fits binary64 x) → T (finite x) → sub binary64 x plus_zero ≡ x
unfolding sub add neg of_bits
less_nil nan t h = absurd h
less_nil (inf s) t h = absurd h
less_nil (fin s m e) t h =
    ap (λ (a : ℕ). sum binary64 s a true (0 * 1 * down e) (down e * 1)) (mul-one (m * up e))
    ∙ ap (λ (b : ℕ). sum binary64 s (m * up e) true b (down e * 1)) (zero-mul (down e))
    ∙ ap (λ (c : ℕ). sum binary64 s (m * up e) true 0 c) (mul-one (down e))
    ∙ sum-nil binary64 s (m * up e) (down e)
    ∙ own binary64 s m e t

unlike-false : (s : Bool) → unlike s false ≡ s
unlike-false false = refl
unlike-false true = refl

times_one : (x : Float) → T (fits binary64 x) → mul binary64 x (fin false 1 (pos 0)) ≡ x
unfolding mul
times_one nan t = refl
times_one (inf s) t = ap inf (unlike-false s)
times_one (fin s m e) t =
    ap (λ (b : Bool). round binary64 b (m * up e * 1) (down e * 1)) (unlike-false s)
    ∙ ap (λ (a : ℕ). round binary64 s a (down e * 1)) (mul-one (m * up e))
    ∙ ap (λ (c : ℕ). round binary64 s (m * up e) c) (mul-one (down e))
    ∙ own binary64 s m e t

-- ---- no steps

-- 63/128
abbrev brim : Float
brim = fin false 63 (negsuc 6)

no_half : (a d : ℕ) → 0 < d → 128 * a ≤ 63 * d → (2 * a + d) / (2 * d) ≡ 0
no_half a d h l = let k : (2 * a + d) / (2 * d) < 1 = (div-lt_iff_lt-mul (mul-pos (lit< tt) h)).1 (omega arith) in omega arith

rounds_away : (y : Float) → T (finite y) → T (le (neg brim) y) → T (le y brim) → rounded y ≡ plus_zero
unfolding rounded neg
rounds_away nan p a b = absurd p
rounds_away (inf s) p a b = absurd p
rounds_away (fin false m e) p a b =
    let l = (leq_of_le (fin false m e) brim tt tt b).holds in
    ap (whole_of false) (no_half (m * up e) (down e) (down_pos e) (omega arith)) ∙ whole-nil false
rounds_away (fin true m e) p a b =
    let l = (leq_of_le (neg brim) (fin true m e) tt tt a).holds in
    ap (whole_of true) (no_half (m * up e) (down e) (down_pos e) (omega arith)) ∙ whole-nil true

module _ (x : Float) (h : Small x) where
  small-finite : T (finite x)
  unfolding of_bits neg
  small-finite = order.between (neg small_limit) x small_limit tt tt h.low_end h.high_end

  quotient-low : T (le (neg brim) (mul binary64 x inverse_ln2))
  unfolding of_bits neg mul le
  quotient-low = order.le_trans (neg brim) (mul binary64 (neg small_limit) inverse_ln2) (mul binary64 x inverse_ln2) tt (mul_mono_left binary64 (neg small_limit) x inverse_ln2 tt small-finite tt tt h.low_end)

  quotient-high : T (le (mul binary64 x inverse_ln2) brim)
  unfolding of_bits neg mul le
  quotient-high = order.le_trans (mul binary64 x inverse_ln2) (mul binary64 small_limit inverse_ln2) brim (mul_mono_left binary64 x small_limit inverse_ln2 small-finite tt tt tt h.high_end) tt

  no_steps : steps x ≡ plus_zero
  unfolding neg
  no_steps = rounds_away (mul binary64 x inverse_ln2) (order.between (neg brim) (mul binary64 x inverse_ln2) brim tt tt quotient-low quotient-high) quotient-low quotient-high

  all_left : plain_remainder x plus_zero ≡ x
  unfolding of_bits mul
  all_left = ap (λ (z : Float). sub binary64 z plus_zero) (less_nil x h.held small-finite) ∙ less_nil x h.held small-finite

-- ---- the series stays from 0 to 2

eight : (a b c d e f g h : Bool) → T (a && b && c && d && e && f && g && h) → T a × T b × T c × T d × T e × T f × T g × T h
eight true true true true true true true true x = (tt, tt, tt, tt, tt, tt, tt, tt)
eight false b c d e f g h x = elim x [ ]
eight true false c d e f g h x = elim x [ ]
eight true true false d e f g h x = elim x [ ]
eight true true true false e f g h x = elim x [ ]
eight true true true true false f g h x = elim x [ ]
eight true true true true true false g h x = elim x [ ]
eight true true true true true true false h x = elim x [ ]
eight true true true true true true true false x = elim x [ ]

-- the products and quotients at the ends, for a divisor n
kept-within : Float → Float → Float → Bool
kept-within n s t =
    lt plus_zero n && finite n && finite s && finite t && le plus_zero (add binary64 one s) && le (add binary64 one t) two && finite (add binary64 one s) && finite (add binary64 one t)

fine : ℕ → Bool
unfolding kept-within
fine zero = true
fine (suc c) =
    let n = of_int binary64 (pos (0 + suc c)) in
    kept-within n (div binary64 (mul binary64 (neg small_limit) two) n) (div binary64 (mul binary64 small_limit two) n) && fine c

all_fine : T (fine 13)
unfolding fine kept-within of_bits of_int neg mul div add lt le
all_fine = tt

module _ (x : Float) (h : Small x) where
  stays : (c : ℕ) (p : Float) → T (fine c) → T (finite p) → T (le plus_zero p) → T (le p two) → T (finite (plain_series 0 c x p))
  unfolding plain_series fine kept-within
  stays zero p d fp zp tp = fp
  stays (suc c) p d fp zp tp =
      let n = of_int binary64 (pos (0 + suc c)) in
      let u = mul binary64 (neg small_limit) two in
      let v = mul binary64 small_limit two in
      let s = div binary64 u n in
      let t = div binary64 v n in
      let m = mul binary64 x p in
      let q = div binary64 m n in
      let a : Bool = kept-within n s t in
      let k = eight (lt plus_zero n) (finite n) (finite s) (finite t) (le plus_zero (add binary64 one s)) (le (add binary64 one t) two) (finite (add binary64 one s)) (finite (add binary64 one t)) (and_l a (fine c) d) in
      let fx = small-finite x h in
      let fu : T (finite u) = unfold of_bits neg mul in tt in
      let fv : T (finite v) = unfold of_bits neg mul in tt in
      let ml : T (le u m) = mul-lower binary64 x (neg small_limit) p two fx (unfold of_bits neg in tt) fp (unfold of_bits in tt) (unfold of_bits neg le in tt) h.low_end zp tp in
      let mh : T (le m v) = mul-upper binary64 x small_limit p two fx (unfold of_bits in tt) fp (unfold of_bits in tt) (unfold of_bits le in tt) h.high_end zp tp in
      let fm = order.between u m v fu fv ml mh in
      let ql = div_mono_left binary64 u m n fu fm k.1 k.0 ml in
      let qh = div_mono_left binary64 m v n fm fv k.1 k.0 mh in
      let fq = order.between s q t k.2 k.3 ql qh in
      let fo : T (finite one) = unfold of_bits in tt in
      let tl = add_mono_right binary64 one s q fo k.2 fq ql in
      let th = add_mono_right binary64 one q t fo fq k.3 qh in
      stays c (plain_term (0 + suc c) x p) (and_r a (fine c) d) (order.between (add binary64 one s) (add binary64 one q) (add binary64 one t) k.6 k.7 tl th)
      (order.le_trans plus_zero (add binary64 one s) (add binary64 one q) k.4 tl)
      (order.le_trans (add binary64 one q) (add binary64 one t) two th k.5)

  pub series-finite : T (finite (plain_series 0 13 x one))
  unfolding of_bits le
  series-finite = stays 13 one all_fine tt tt tt

  pub small-reducible : Reducible x
  unfolding of_bits neg le
  small-reducible = record {
    low = order.le_trans (neg seven_hundred) (neg small_limit) x tt h.low_end;
    high = order.le_trans x small_limit seven_hundred h.high_end tt;
  }

  pub small-exp : plain_exp x (steps x) ≡ plain_series 0 13 x one
  unfolding plain_series to_signed of_bits
  small-exp =
      ap (plain_exp x) (no_steps x h) ∙ ap (λ (r : Float). mul binary64 (plain_series 0 13 r one) (power_of_two plus_zero)) (all_left x h)
      ∙ times_one (plain_series 0 13 x one) (add-fits binary64 one _)
