-- Compounded interest by rows: what each loop leaves at an index, and that together they give each flow's discount and derivative. Assumes nothing.
use Rattle.std.specs.Prelude.{ℕ, ◌+◌, ◌≤◌, ◌<◌, ◌≡◌, refl, Bool, true, false, cond, ◌&&◌, List, T, length, get_or, set, Float, Ok, Err}
use Rattle.std.proofs.Common.{sym, ap, ◌∙◌, subst, le_refl, arith, below_more}
use Rattle.std.specs.Float.{nan, inf, fin, binary64}
use Rattle.std.specs.Float.Ieee.{add, sub, mul, div, neg, eq, le}
use Rattle.std.specs.Float.Ieee.Scale.{finite}
use Rattle.floats.specs.Refusals.{Refusal}
use Rattle.floats.specs.declared.Reason.TheVariants as reason
use Rattle.floats.specs.Answers.{Answer, on_outcome, not_finite, plus_zero, one, Outcome}
use Rattle.floats.specs.laws.Propagation.{finite-back, finite-clash, add_left, mul_left, div_left, passes}
use Rattle.elementary.specs.Exponential.{exp_at, ExpRow}
use Rattle.elementary.specs.Logarithm.{ln_at}
use Rattle.elementary.specs.Power.{powf_at}
use Rattle.elementary.specs.laws.Rows.{Filled, filled_none, filled_more, filled-end, less_itself, false_not}
use Rattle.elementary.specs.laws.Tested.{exp_argument}
use Rattle.elementary.specs.laws.Values.{finite-passed}
use Rattle.rounded.specs.Fused.{mul_add_at, mul_add}
use Rattle.terms.specs.declared.Epoch.{Epoch}
use Rattle.terms.specs.Times.{time_from}
use Rattle.interestrate.specs.declared.Compounding.{Compounding}
use Rattle.interestrate.specs.declared.YieldPrice.{YieldPrice}
use Rattle.interestrate.specs.Prices.{on_price, from_price, from_answer, no, finitely, compoundly, discount_and_derivative, with_flow}

-- ---- what is known of a row

abbrev pub time_at : Epoch → List ℕ → ℕ → Float
time_at settlement days i = time_from settlement (get_or days i 0)

-- The rows hold what f gives at each flow's time, where the flag holds.
pub record DiscountRow (good : Bool) (f : Float → Outcome YieldPrice) (settlement : Epoch) (days : List ℕ) (discounts slopes : List Float) : Type 0 where
  pub each : (i : ℕ) → i < length days → good ≡ true → f (time_at settlement days i) ≡ Ok (record { price = get_or discounts i nan; derivative = get_or slopes i nan })

pub no_row : {f : Float → Outcome YieldPrice} {settlement : Epoch} {days : List ℕ} {discounts slopes : List Float} → DiscountRow false f settlement days discounts slopes
no_row = record { each = λ i h g. false_not g }

-- The rows are as long as the flows are many, at most 64.
pub record RowRoom (n : ℕ) (discounts slopes : List Float) : Type 0 where
  pub discounts-fit : length discounts ≡ n
  pub slopes-fit : length slopes ≡ n

-- ---- each flow's time, and the exponent of its discount

abbrev pub exponent_at : Float → Float → Epoch → List ℕ → ℕ → Float
exponent_at frequency log settlement days i = mul binary64 (mul binary64 (neg frequency) (time_at settlement days i)) log

-- Of the first i flows.
pub record Exponents (frequency log : Float) (settlement : Epoch) (days : List ℕ) (times₀ xs₀ times xs : List Float) (i : ℕ) : Type 0 where
  pub within : i ≤ length days
  pub timed : Filled (time_at settlement days) times₀ times i
  pub raised : Filled (exponent_at frequency log settlement days) xs₀ xs i

module _ (frequency log : Float) (settlement : Epoch) (days : List ℕ) (times₀ xs₀ : List Float) where
  pub exponents-none : Exponents frequency log settlement days times₀ xs₀ times₀ xs₀ 0
  exponents-none = record { within = omega arith; timed = filled_none (time_at settlement days) times₀; raised = filled_none (exponent_at frequency log settlement days) xs₀ }

  pub exponents_more : {times xs : List Float} {i : ℕ} (time : Float)
      → Exponents frequency log settlement days times₀ xs₀ times xs i
      → i < length days
      → length times₀ ≡ length days
      → length xs₀ ≡ length days
      → time ≡ time_at settlement days i
      → Exponents frequency log settlement days times₀ xs₀ (set times i time) (set xs i (mul binary64 (mul binary64 (neg frequency) time) log)) (i + 1)
  exponents_more {times} {xs} {i} time e h t x is = record {
    within = omega arith;
    timed = filled_more (time_at settlement days) times₀ times i time e.timed (omega arith) is;
    raised =
        filled_more (exponent_at frequency log settlement days) xs₀ xs i (mul binary64 (mul binary64 (neg frequency) time) log) e.raised (omega arith)
        (ap (λ (z : Float). mul binary64 (mul binary64 (neg frequency) z) log) is);
  }

  pub exponents-done : {times xs : List Float} {i : ℕ}
      → Exponents frequency log settlement days times₀ xs₀ times xs i
      → length days ≤ i
      → Exponents frequency log settlement days times₀ xs₀ times xs (length days)
  exponents-done e h = record { within = le_refl (length days); timed = filled-end e.timed e.within h; raised = filled-end e.raised e.within h }

-- ---- each flow's derivative

abbrev pub slope_at : Float → List Float → List Float → ℕ → Float
slope_at base times discounts i = div binary64 (mul binary64 (neg (get_or times i nan)) (get_or discounts i nan)) base

-- Of the first i flows, all finite where the flag holds.
pub record Slopes (good : Bool) (base : Float) (times discounts slopes₀ slopes : List Float) (i : ℕ) : Type 0 where
  pub within : i ≤ length times
  pub filling : Filled (slope_at base times discounts) slopes₀ slopes i
  pub sound : good ≡ true → (j : ℕ) → j < i → T (finite (slope_at base times discounts j))

both : (a b : Bool) → a && b ≡ true → (a ≡ true) × (b ≡ true)
both true true h = (refl, refl)
both true false h = (refl, h)
both false b h = (h, absurd (subst T (sym h) tt))

module _ (base : Float) (times discounts slopes₀ : List Float) where
  pub slopes_none : Slopes true base times discounts slopes₀ slopes₀ 0
  slopes_none = record { within = omega arith; filling = filled_none (slope_at base times discounts) slopes₀; sound = λ g j h. absurd (omega arith) }

  pub slopes_more : {good : Bool} {slopes : List Float} {i : ℕ}
      → Slopes good base times discounts slopes₀ slopes i
      → i < length times
      → length slopes₀ ≡ length times
      → Slopes (good && eq (sub binary64 (slope_at base times discounts i) (slope_at base times discounts i)) plus_zero) base times discounts slopes₀
      (set slopes i (slope_at base times discounts i)) (i + 1)
  slopes_more {good} {slopes} {i} s h l =
      let slope : Float = slope_at base times discounts i in
      let t : Bool = eq (sub binary64 slope slope) plus_zero in
      record {
        within = omega arith;
        filling = filled_more (slope_at base times discounts) slopes₀ slopes i slope s.filling (omega arith) refl;
        sound = λ g.
            let two = both good t g in
            below_more (λ j. T (finite (slope_at base times discounts j))) i (s.sound two.0) (less_itself slope two.1);
      }

  pub slopes_done : {good : Bool} {slopes : List Float} {i : ℕ}
      → Slopes good base times discounts slopes₀ slopes i
      → length times ≤ i
      → Slopes good base times discounts slopes₀ slopes (length times)
  slopes_done s h = record { within = le_refl (length times); filling = filled-end s.filling s.within h; sound = λ g j l. s.sound g j (omega arith) }

-- ---- together

kept : (x : Float) (k : Float → Outcome YieldPrice) → T (finite x) → finitely x k ≡ k x
kept nan k h = absurd h
kept (inf s) k h = absurd h
kept (fin s m e) k h = refl

-- powf by a logarithm and an exp that are known
power-known : (base power log discount : Float)
    → ln_at base 0 ≡ Ok log
    → T (finite (mul binary64 power log))
    → exp_at (mul binary64 power log) 0 ≡ Ok discount
    → powf_at base power 0 ≡ Ok discount
unfolding powf_at on_outcome
power-known base power log discount l f e = rw l (passes (mul binary64 power log) 0 (λ t. exp_at t 0) f ∙ e)

-- The base, rate/frequency + 1.
abbrev pub base_of : Float → Float → Float
base_of rate frequency = add binary64 (div binary64 rate frequency) one

-- the definition from the discount on, from the power on, and from the base on
abbrev from_discount : Float → Float → Float → Outcome YieldPrice
from_discount base time discount = finitely (mul binary64 (neg time) discount) λ x. finitely (div binary64 x base) λ derivative. Ok (record { price = discount; derivative = derivative })

abbrev from_power : Float → Float → Float → Outcome YieldPrice
from_power base time power = from_answer (powf_at base power 0) λ discount. from_discount base time discount

abbrev from_base : Float → Float → Float → Outcome YieldPrice
from_base frequency time base = cond (le base plus_zero) (no reason.YieldBase) (finitely (mul binary64 (neg frequency) time) λ power. from_power base time power)

-- Compounded interest at one time, by the base's logarithm and the exp, where the derivative is finite.
compounded-known : (rate frequency log time discount : Float)
    → T (finite (base_of rate frequency))
    → le (base_of rate frequency) plus_zero ≡ false
    → ln_at (base_of rate frequency) 0 ≡ Ok log
    → exp_at (mul binary64 (mul binary64 (neg frequency) time) log) 0 ≡ Ok discount
    → T (finite (div binary64 (mul binary64 (neg time) discount) (base_of rate frequency)))
    → compoundly rate time frequency ≡ Ok (record { price = discount; derivative = (div binary64 (mul binary64 (neg time) discount) (base_of rate frequency)) })
unfolding compoundly on_outcome
compounded-known rate frequency log time discount based above l e f =
    let part : Float = div binary64 rate frequency in
    let base : Float = base_of rate frequency in
    let power : Float = mul binary64 (neg frequency) time in
    let x : Float = mul binary64 (neg time) discount in
    let parted : T (finite part) = finite-back part (λ b. finite-clash base based (add_left binary64 part one b)) in
    let t : T (finite (mul binary64 power log)) = exp_argument (mul binary64 power log) 0 discount e in
    let powered : T (finite power) = finite-back power (λ b. finite-clash (mul binary64 power log) t (mul_left binary64 power log b)) in
    let sloped : T (finite x) = finite-back x (λ b. finite-clash (div binary64 x base) f (div_left binary64 x base b)) in
    kept part (λ p. finitely (add binary64 p one) (λ b. from_base frequency time b)) parted
    ∙ kept base (λ b. from_base frequency time b) based
    ∙ ap (λ (b : Bool). cond b (no reason.YieldBase) (finitely power (λ p. from_power base time p))) above
    ∙ kept power (λ p. from_power base time p) powered
    ∙ ap (λ (a : Answer). on_outcome a Err (λ d. from_discount base time d)) (power-known base power log discount l t e)
    ∙ kept x (λ z. finitely (div binary64 z base) (λ d. Ok (record { price = discount; derivative = d }))) sloped
    ∙ kept (div binary64 x base) (λ d. Ok (record { price = discount; derivative = d })) f

-- The loops one after the other.
pub compounded_row_lem : {good said : Bool} (rate frequency log : Float) (settlement : Epoch) (days : List ℕ) {times₀ xs₀ times xs discounts slopes₀ slopes : List Float}
    → not_finite (base_of rate frequency) ≡ false
    → le (base_of rate frequency) plus_zero ≡ false
    → ln_at (base_of rate frequency) 0 ≡ Ok log
    → length times₀ ≡ length days
    → length xs₀ ≡ length days
    → Exponents frequency log settlement days times₀ xs₀ times xs (length days)
    → said ≡ true
    → ExpRow said xs discounts
    → Slopes good (base_of rate frequency) times discounts slopes₀ slopes (length times)
    → DiscountRow good (λ time. compoundly rate time frequency) settlement days discounts slopes
compounded_row_lem rate frequency log settlement days {times₀} {xs₀} {times} {xs} {discounts} {slopes₀} {slopes} based above l t₀ x₀ e said-so r s = record {
  each = λ i h g.
      let base : Float = base_of rate frequency in
      let time : Float = time_at settlement days i in
      let d : Float = get_or discounts i nan in
      let hx : i < length xs = omega (arith, e.raised.kept) in
      let ht : i < length times = omega (arith, e.timed.kept) in
      let at : exp_at (exponent_at frequency log settlement days i) 0 ≡ Ok d = ap (λ (z : Float). exp_at z 0) (sym (e.raised.below i h)) ∙ r.values said-so i 0 hx in
      let is : slope_at base times discounts i ≡ div binary64 (mul binary64 (neg time) d) base = ap (λ (z : Float). div binary64 (mul binary64 (neg z) d) base) (e.timed.below i h) in
      compounded-known rate frequency log time d (finite-passed base based) above l at (subst (λ (z : Float). T (finite z)) is (s.sound g i ht))
      ∙ ap (λ (z : Float). Ok (record { price = d; derivative = z })) (sym (s.filling.below i ht ∙ is));
}

-- ---- a flow whose discount and derivative are known, or refused

-- Each joins its sum by mul_add.
unfoldable pub join_sums : Float → Float → Float → Float → Float → Outcome YieldPrice
unfolding mul_add
join_sums amount discount slope price derivative =
    from_answer (mul_add_at amount discount price 0) λ price.
    from_answer (mul_add_at amount slope derivative 0) λ derivative. Ok (record { price = price; derivative = derivative })

pub flow_known : (rate : Float) (compounding : Compounding) (settlement : Epoch) (day : ℕ) (amount price derivative discount slope : Float)
    → discount_and_derivative rate (time_from settlement day) compounding ≡ Ok (record { price = discount; derivative = slope })
    → join_sums amount discount slope price derivative ≡ with_flow rate compounding settlement day amount price derivative
unfolding with_flow join_sums on_price
flow_known rate compounding settlement day amount price derivative discount slope e = ap (λ (a : Outcome YieldPrice). from_price a (λ d s. join_sums amount d s price derivative)) (sym e)

pub flow_refused : (rate : Float) (compounding : Compounding) (settlement : Epoch) (day : ℕ) (amount price derivative : Float) {q : Refusal}
    → discount_and_derivative rate (time_from settlement day) compounding ≡ Err q
    → Err q ≡ with_flow rate compounding settlement day amount price derivative
unfolding with_flow join_sums on_price
flow_refused rate compounding settlement day amount price derivative e = ap (λ (a : Outcome YieldPrice). from_price a (λ d s. join_sums amount d s price derivative)) (sym e)
