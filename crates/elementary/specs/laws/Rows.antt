-- exp of a row, loop by loop: what each leaves at an index, and that one after the other they give exp there. Assumes nothing.
use Rattle.std.specs.Prelude.{ℕ, ◌+◌, ◌≤◌, ◌<◌, ◌≡◌, refl, Bool, true, false, cond, ◌&&◌, List, T, length, get_or, set, Float, Ok}
use Rattle.std.proofs.Common.{sym, ap, ◌∙◌, subst, le_refl, le_antisymm, arith, below_more, length-set, get_or-set_same, get_or-set_other}
use Rattle.std.specs.Float.{nan, inf, fin, binary64}
use Rattle.std.specs.Float.Ieee.{sub, mul, eq, lt, le, neg, of_bits, fits}
use Rattle.std.specs.Float.Ieee.Scale.{finite}
use Rattle.floats.specs.Answers.{refusal, one, plus_zero}
use Rattle.floats.specs.laws.Order as order
use Rattle.floats.specs.laws.Propagation.{passes}
use Rattle.elementary.specs.Exponential.{seven_hundred, power_of_two, exp_reduced, exp_at, ExpRow}
use Rattle.elementary.specs.laws.Exponential.{plain_series, plain_remainder, plain_exp, steps, exp-straight}
use Rattle.elementary.specs.laws.Steps.{Step, Reducible, reducible-finite, steps-step}
use Rattle.elementary.specs.laws.Small.{small_limit, Small, series-finite, small-reducible, small-exp}
use Rattle.floats.specs.declared.Reason.TheVariants as reason

-- ---- a row on the way

-- The first i entries are f's; the others are as before.
pub record Filled (f : ℕ → Float) (before after : List Float) (i : ℕ) : Type 0 where
  pub kept : length after ≡ length before
  pub below : (j : ℕ) → j < i → get_or after j nan ≡ f j
  pub above : (j : ℕ) → i ≤ j → get_or after j nan ≡ get_or before j nan

pub filled_none : (f : ℕ → Float) (xs : List Float) → Filled f xs xs 0
filled_none f xs = record { kept = refl; below = λ j h. absurd (omega arith); above = λ j h. refl }

pub filled_more : (f : ℕ → Float) (before after : List Float) (i : ℕ) (v : Float) → Filled f before after i → i < length before → v ≡ f i → Filled f before (set after i v) (i + 1)
filled_more f before after i v h l e =
    let b : i < length after = omega (arith, h.kept) in
    record {
      kept = length-set after i v ∙ h.kept;
      below = below_more (λ j. get_or (set after i v) j nan ≡ f j) i (λ j m. get_or-set_other after i j v nan (λ e. omega arith) ∙ h.below j m) (get_or-set_same after i v nan b ∙ e);
      above = λ j m. get_or-set_other after i j v nan (λ e. omega arith) ∙ h.above j (omega arith);
    }

pub filled-end : {f : ℕ → Float} {before after : List Float} {i n : ℕ} → Filled f before after i → i ≤ n → n ≤ i → Filled f before after n
filled-end {f} {before} {after} {i} {n} h a b = subst (λ (k : ℕ). Filled f before after k) (le_antisymm a b) h

pub false_not : {A : Type 0} → false ≡ true → A
false_not e = absurd (subst (λ (b : Bool). T b) (sym e) tt)

-- ---- what the loops leave

-- k and r of each number.
pub record Parted (xs ks rs : List Float) : Type 0 where
  pub steps-kept : length ks ≡ length xs
  pub rest-kept : length rs ≡ length xs
  pub inside : (i : ℕ) → i < length xs → Reducible (get_or xs i nan)
  pub stepped : (i : ℕ) → i < length xs → get_or ks i nan ≡ steps (get_or xs i nan)
  pub rest : (i : ℕ) → i < length xs → get_or rs i nan ≡ plain_remainder (get_or xs i nan) (steps (get_or xs i nan))

abbrev pub step_of : List Float → ℕ → Float
step_of xs i = steps (get_or xs i nan)

abbrev pub rest_of : List Float → ℕ → Float
rest_of xs i = plain_remainder (get_or xs i nan) (steps (get_or xs i nan))

abbrev pub first_terms : List Float → ℕ → Float
first_terms rs i = plain_series 6 7 (get_or rs i nan) one

abbrev pub last_terms : List Float → List Float → ℕ → Float
last_terms rs ys i = plain_series 0 6 (get_or rs i nan) (get_or ys i nan)

-- The whole series of each.
pub record SeriesRow (rs ys : List Float) : Type 0 where
  pub kept : length ys ≡ length rs
  pub each : (i : ℕ) → i < length rs → get_or ys i nan ≡ plain_series 0 13 (get_or rs i nan) one

abbrev pub raised_of : List Float → List Float → ℕ → Float
raised_of ks ys i = mul binary64 (get_or ys i nan) (power_of_two (get_or ks i nan))

-- Each is a whole number of steps.
pub record StepRow (ks : List Float) : Type 0 where
  pub each : (i : ℕ) → i < length ks → Step (get_or ks i nan)

-- Each times 2^k, all finite where the answer is yes.
pub record Raised (good : Bool) (ks before after : List Float) : Type 0 where
  pub filled : Filled (raised_of ks before) before after (length ks)
  pub sound : good ≡ true → (i : ℕ) → i < length ks → T (finite (raised_of ks before i))

-- ---- on the way

-- k and r of the first i numbers, all reducible.
pub record Parting (xs ks₀ rs₀ ks rs : List Float) (i : ℕ) : Type 0 where
  pub within : i ≤ length xs
  pub inside : (j : ℕ) → j < i → Reducible (get_or xs j nan)
  pub stepping : Filled (step_of xs) ks₀ ks i
  pub resting : Filled (rest_of xs) rs₀ rs i

pub parting_none : (xs ks rs : List Float) → Parting xs ks rs ks rs 0
parting_none xs ks rs = record { within = omega arith; inside = λ j h. absurd (omega arith); stepping = filled_none (step_of xs) ks; resting = filled_none (rest_of xs) rs }

pub parting_more : {xs ks₀ rs₀ ks rs : List Float} {i : ℕ} (k r : Float) → Parting xs ks₀ rs₀ ks rs i → i < length xs → length ks₀ ≡ length xs → length rs₀ ≡ length xs → Reducible (get_or xs i nan) → k ≡ step_of xs i → r ≡ plain_remainder (get_or xs i nan) k
    → Parting xs ks₀ rs₀ (set ks i k) (set rs i r) (i + 1)
parting_more {xs} {ks₀} {rs₀} {ks} {rs} {i} k r p h ek er d ks-is rs-is = record {
  within = omega arith;
  inside = below_more (λ j. Reducible (get_or xs j nan)) i p.inside d;
  stepping = filled_more (step_of xs) ks₀ ks i k p.stepping (omega arith) ks-is;
  resting = filled_more (rest_of xs) rs₀ rs i r p.resting (omega arith) (rs-is ∙ ap (plain_remainder (get_or xs i nan)) ks-is);
}

pub parting_done : {xs ks₀ rs₀ ks rs : List Float} {i : ℕ} → Parting xs ks₀ rs₀ ks rs i → length ks₀ ≡ length xs → length rs₀ ≡ length xs → length xs ≤ i → Parted xs ks rs
parting_done p ek er h = record {
  steps-kept = p.stepping.kept ∙ ek;
  rest-kept = p.resting.kept ∙ er;
  inside = λ j l. p.inside j (omega arith);
  stepped = λ j l. p.stepping.below j (omega arith);
  rest = λ j l. p.resting.below j (omega arith);
}

-- The first i raised, all finite where the flag holds.
pub record Raising (good : Bool) (ks before after : List Float) (i : ℕ) : Type 0 where
  pub within : i ≤ length ks
  pub filling : Filled (raised_of ks before) before after i
  pub sound : good ≡ true → (j : ℕ) → j < i → T (finite (raised_of ks before j))

pub raising_none : (ks ys : List Float) → Raising true ks ys ys 0
raising_none ks ys = record { within = omega arith; filling = filled_none (raised_of ks ys) ys; sound = λ g j h. absurd (omega arith) }

-- what less itself is 0 is finite
pub less_itself : (y : Float) → eq (sub binary64 y y) plus_zero ≡ true → T (finite y)
unfolding sub eq of_bits
less_itself nan h = subst (λ (b : Bool). T b) (sym h) tt
less_itself (inf false) h = subst (λ (b : Bool). T b) (sym h) tt
less_itself (inf true) h = subst (λ (b : Bool). T b) (sym h) tt
less_itself (fin s m e) h = tt

both_left : (a b : Bool) → a && b ≡ true → a ≡ true
both_left true b h = refl
both_left false b h = h

both_right : (a b : Bool) → a && b ≡ true → b ≡ true
both_right true b h = h
both_right false true h = refl
both_right false false h = h

pub raising_more : {good : Bool} {ks before after : List Float} {i : ℕ} (y : Float) → Raising good ks before after i → i < length ks → length before ≡ length ks → y ≡ mul binary64 (get_or after i nan) (power_of_two (get_or ks i nan))
    → Raising (good && eq (sub binary64 y y) plus_zero) ks before (set after i y) (i + 1)
raising_more {good} {ks} {before} {after} {i} y r h e y-is =
    let same : y ≡ raised_of ks before i = y-is ∙ ap (λ (z : Float). mul binary64 z (power_of_two (get_or ks i nan))) (r.filling.above i (le_refl i)) in
    let t : Bool = eq (sub binary64 y y) plus_zero in
    record {
      within = omega arith;
      filling = filled_more (raised_of ks before) before after i y r.filling (omega arith) same;
      sound = λ g. below_more (λ j. T (finite (raised_of ks before j))) i (r.sound (both_left good t g)) (subst (λ (z : Float). T (finite z)) same (less_itself y (both_right good t g)));
    }

pub raising_done : {good : Bool} {ks before after : List Float} {i : ℕ} → Raising good ks before after i → length ks ≤ i → Raised good ks before after
raising_done r h = record { filled = filled-end r.filling r.within h; sound = λ g j l. r.sound g j (omega arith) }

-- ---- together

split : (r : Float) → plain_series 0 6 r (plain_series 6 7 r one) ≡ plain_series 0 13 r one
unfolding plain_series
split r = refl

not_so : (b : Bool) → (T b → ⊥) → b ≡ false
not_so false h = refl
not_so true h = absurd (h tt)

-- exp of a number within ±700 whose plain result is finite
pub exp_plain : (x : Float) (place : ℕ) → Reducible x → T (finite (plain_exp x (steps x))) → exp_at x place ≡ Ok (plain_exp x (steps x))
unfolding exp_at
exp_plain x place d f =
    passes x place (λ z. cond (lt seven_hundred z) (refusal reason.Outside place) (cond (lt z (neg seven_hundred)) (Ok plus_zero) (exp_reduced z place))) (reducible-finite x d)
    ∙ ap (λ (b : Bool). cond b (refusal reason.Outside place) (cond (lt x (neg seven_hundred)) (Ok plus_zero) (exp_reduced x place))) (not_so (lt seven_hundred x) λ h. order.not_le_of_lt seven_hundred x h d.high)
    ∙ ap (λ (b : Bool). cond b (Ok plus_zero) (exp_reduced x place)) (not_so (lt x (neg seven_hundred)) λ h. order.not_le_of_lt x (neg seven_hundred) h d.low)
    ∙ exp-straight x place
    ∙ passes (plain_exp x (steps x)) place Ok f

pub series_row_lem : {rs y₀ y₁ y₂ : List Float} → length y₀ ≡ length rs → Filled (first_terms rs) y₀ y₁ (length rs) → Filled (last_terms rs y₁) y₁ y₂ (length rs) → SeriesRow rs y₂
series_row_lem {rs} {y₀} {y₁} {y₂} e a b = record {
  kept = b.kept ∙ a.kept ∙ e;
  each = λ i h. b.below i h ∙ ap (plain_series 0 6 (get_or rs i nan)) (a.below i h) ∙ split (get_or rs i nan);
}

pub step_row : {xs ks rs : List Float} → Parted xs ks rs → StepRow ks
step_row {xs} {ks} {rs} p = record {
  each = λ i h. let l : i < length xs = omega (arith, p.steps-kept) in rw (p.stepped i l) (steps-step (get_or xs i nan) (p.inside i l));
}

pub row_is : {good : Bool} {xs ks rs ys zs : List Float} → Parted xs ks rs → SeriesRow rs ys → Raised good ks ys zs → ExpRow good xs zs
row_is {good} {xs} {ks} {rs} {ys} {zs} p s r = record {
  values = λ g i place h.
      let x : Float = get_or xs i nan in
      let k : i < length ks = omega (arith, p.steps-kept) in
      let l : i < length rs = omega (arith, p.rest-kept) in
      let q : get_or ys i nan ≡ plain_series 0 13 (plain_remainder x (steps x)) one = s.each i l ∙ ap (λ (z : Float). plain_series 0 13 z one) (p.rest i h) in
      let w : raised_of ks ys i ≡ plain_exp x (steps x) =
      ap (λ (z : Float). mul binary64 z (power_of_two (get_or ks i nan))) q ∙ ap (λ (k : Float). mul binary64 (plain_series 0 13 (plain_remainder x (steps x)) one) (power_of_two k)) (p.stepped i h) in
      exp_plain x place (p.inside i h) (subst (λ (z : Float). T (finite z)) w (r.sound g i k)) ∙ ap Ok (sym (r.filled.below i k ∙ w));
}

-- ---- a row near 0

-- Each is at most 0.34 in size.
pub record SmallRow (xs : List Float) : Type 0 where
  pub each : (i : ℕ) → i < length xs → Small (get_or xs i nan)

-- The first i are small where the flag holds.
pub record Seeing (good : Bool) (xs : List Float) (i : ℕ) : Type 0 where
  pub within : i ≤ length xs
  pub sound : good ≡ true → (j : ℕ) → j < i → Small (get_or xs j nan)

pub seeing_none : (xs : List Float) → Seeing true xs 0
seeing_none xs = record { within = omega arith; sound = λ g j h. absurd (omega arith) }

pub seeing_more : {good : Bool} {xs : List Float} {i : ℕ} → Seeing good xs i → i < length xs → T (fits binary64 (get_or xs i nan))
    → Seeing (good && le (get_or xs i nan) small_limit && le (neg small_limit) (get_or xs i nan)) xs (i + 1)
seeing_more {good} {xs} {i} s h f =
    let x = get_or xs i nan in
    let a : Bool = le x small_limit in
    let b : Bool = le (neg small_limit) x in
    record {
      within = omega arith;
      sound = λ g.
          below_more (λ j. Small (get_or xs j nan)) i (s.sound (both_left good a (both_left (good && a) b g)))
          (record { low_end = order.T_of b (both_right (good && a) b g); high_end = order.T_of a (both_right good a (both_left (good && a) b g)); held = f });
    }

pub seeing_done : {good : Bool} {xs : List Float} {i : ℕ} → Seeing good xs i → length xs ≤ i → good ≡ true → SmallRow xs
seeing_done s h g = record { each = λ j l. s.sound g j (omega arith) }

pub small_is : {xs ys : List Float} → SmallRow xs → SeriesRow xs ys → ExpRow true xs ys
small_is {xs} {ys} r s = record {
  values = λ g i place h.
      let x = get_or xs i nan in
      let d = r.each i h in
      exp_plain x place (small-reducible x d) (subst (λ (z : Float). T (finite z)) (sym (small-exp x d)) (series-finite x d)) ∙ ap Ok (small-exp x d ∙ sym (s.each i h));
}
