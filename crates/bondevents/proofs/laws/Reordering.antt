-- A reordered list, of calls or of puts, has the very same exercises, bit for bit. Assumes nothing.
use Rattle.std.specs.Prelude.{◌≡◌, refl, Bool, true, false, List, ℕ, ◌<◌, get_or, T, Float, Ok}
use Rattle.std.proofs.Common.{sym, ap, ◌∙◌, subst, true≢false, ext_get_or}
use Rattle.std.specs.Float.{binary64}
use Rattle.std.specs.Float.Ieee.{le, lt, fits}
use Rattle.floats.specs.Answers.{plus_zero}
use Rattle.floats.specs.laws.Rounding.{Signed}
use Rattle.floats.specs.laws.SameNumber.{same_of_eq}
use Rattle.terms.specs.Terms.{CallSchedule, Bond}
use Rattle.terms.specs.CallLists.{Entries, Reordered, size, strike_of}
use Rattle.terms.proofs.Pairing.{reordered-back}
use Rattle.bondevents.specs.declared.Side.{Side}
use Rattle.bondevents.specs.declared.Side.TheVariants.{Call, Put}
use Rattle.bondevents.specs.declared.Exercise.{Exercise}
use Rattle.bondevents.specs.Steps.{Axis}
use Rattle.bondevents.specs.Calls.{Entry, call_price, none, exercises}
use Rattle.bondevents.specs.laws.Pricing.{Above, price_of-value, price-fits, price-signed}
use Rattle.bondevents.specs.laws.Sides.{Before, before_both}
use Rattle.bondevents.specs.laws.OneEntry.{Reached}
use Rattle.bondevents.proofs.laws.KeptSteps.{same_step}
use Rattle.bondevents.proofs.laws.LowestPrices.{LowestAt, entry_of, lowest-prices, given_where_priced}
use Rattle.bondevents.specs.laws.NoLower.{Thinner}
use Rattle.bondevents.proofs.laws.MadeLists.{Goes, step_thinner}

-- The entries of a reordered list are the first's own.
pub same_entry : {first second : CallSchedule} (r : Reordered first second) (i : ℕ) → i < size second → entry_of second i ≡ entry_of first (r.made.partner i)
same_entry r i l = λ j. record { start = r.made.same_start i l j; end = r.made.same_end i l j; strike = r.equal_strike i l j }

-- Of either side.
pub goes_reordered : (side : Side) {first second : CallSchedule} → Reordered first second → (i : ℕ) → i < size second → Goes side first second i
unfolding Before
goes_reordered side {first} {second} r i l =
    record {
      with_entry_lem = r.made.partner i;
      of_first = r.made.of_first i l;
      same_days = record { same_start = sym (r.made.same_start i l); same_end = sym (r.made.same_end i l) };
      strike-before = go side;
    }
  where
    go : (s : Side) → Before s (strike_of first (r.made.partner i)) (strike_of second i)
    go Call = r.made.strike_as_high i l
    go Put = rw (r.equal_strike i l) (subst (λ (x : Float). T (le (strike_of first (r.made.partner i)) x)) (r.equal_strike i l) (r.made.strike_as_high i l))

-- ---- prices as data

-- One of binary64's numbers, +0 or above and never −0.
pub record Exact (x : Float) : Type 0 where
  pub signed : Signed false x
  pub fitting : T (fits binary64 x)

-- So is a price that stands at a step, where strikes and units are above 0.
pub step-exact : (side : Side) (a : Axis) (bond : Bond) (entries : CallSchedule) (k : ℕ) (c : Exercise) → T (lt plus_zero bond.units)
    → ((i : ℕ) → i < size entries → T (lt plus_zero (strike_of entries i))) → LowestAt side a bond entries k c → c.marked ≡ true → Exact c.price
step-exact side a bond entries k c u strikes p h =
    let (i, l, r, y) = p.of_entry h in
    let t = price_of-value a bond (entry_of entries i) k c.price y in
    record {
      signed = price-signed a bond (entry_of entries i) k c.price (strikes i l) u t;
      fitting = price-fits a bond (entry_of entries i) k c.price t;
    }

-- Two exercises each thinner than the other are the same.
same_kept : (side : Side) (c d : Exercise) → Thinner side c d → Thinner side d c → (c.marked ≡ false → c ≡ none) → (d.marked ≡ false → d ≡ none)
    → (c.marked ≡ true → Exact c.price) → (d.marked ≡ true → Exact d.price) → d ≡ c
same_kept side c d p q e g x y = go c.marked refl d.marked refl
  where
    go : (s : Bool) → c.marked ≡ s → (t : Bool) → d.marked ≡ t → d ≡ c
    go false h false k = g k ∙ sym (e h)
    go false h true k = absurd (true≢false (sym (p.marked_too k) ∙ h))
    go true h false k = absurd (true≢false (sym (q.marked_too h) ∙ k))
    go true h true k =
        same_step d c (k ∙ sym h)
        (same_of_eq binary64 false d.price c.price (y k).fitting (x h).fitting (y k).signed (x h).signed
        (before_both side d.price c.price (q.price h) (p.price k)))

module _ (side : Side) (a : Axis) (bond : Bond) (first second : CallSchedule) (n : Entries first) (u : Above bond.units) (strikes : (i : ℕ) → i < size first → T (lt plus_zero (strike_of first i))) (r : Reordered first second) (cs : List Exercise) (h : exercises side a bond first ≡ Ok cs) where
  reordered-given : (ds : List Exercise) × (exercises side a bond second ≡ Ok ds)
  reordered-given =
      given_where_priced side a bond second r.made.entries λ i k l g.
      let s = same_entry r i l in
      let (x, v, _, _) = ((lowest-prices side a bond first n cs h).each_step k).none-lower (r.made.partner i) (r.made.of_first i l) (subst (λ (e : Entry). Reached a e k) s g) in
      (x, ap (λ (e : Entry). call_price a bond e k) s ∙ v)

  second-strikes : (i : ℕ) → i < size second → T (lt plus_zero (strike_of second i))
  second-strikes i l = rw (r.equal_strike i l) (strikes (r.made.partner i) (r.made.of_first i l))

  same_row : (ds : List Exercise) → exercises side a bond second ≡ Ok ds → ds ≡ cs
  same_row ds g =
      let p = lowest-prices side a bond first n cs h in
      let q = lowest-prices side a bond second r.made.entries ds g in
      ext_get_or none ds cs (q.row ∙ sym p.row) λ k l.
      same_kept side (get_or cs k none) (get_or ds k none)
      (step_thinner side a bond first second k (get_or cs k none) (get_or ds k none) u (goes_reordered side r) (p.each_step k) (q.each_step k))
      (step_thinner side a bond second first k (get_or ds k none) (get_or cs k none) u (goes_reordered side (reordered-back first second r n)) (q.each_step k) (p.each_step k))
      (p.each_step k).else_empty
      (q.each_step k).else_empty
      (step-exact side a bond first k (get_or cs k none) u.is-above strikes (p.each_step k))
      (step-exact side a bond second k (get_or ds k none) u.is-above second-strikes (q.each_step k))

  -- A reordered list has the very same exercises.
  pub reordered_same : exercises side a bond second ≡ Ok cs
  reordered_same = let (ds, g) = reordered-given in g ∙ ap Ok (same_row ds g)
