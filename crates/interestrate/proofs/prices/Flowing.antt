-- The loops over the cashflows and over their parts: what is left to do from an index on is the whole answer. Assumes nothing.
use Rattle.std.specs.Prelude.{Ok, Err}
use Prim.Native.Nat.{ℕ, ◌+◌, ◌≤◌, ◌<◌}
use mathlib.Core.Path.{◌≡◌, refl, sym, ap, ◌∙◌}
use mathlib.Core.Bool.{cond}
use mathlib.Core.List.{List, [], ◌∷◌, ◌++◌}
use native.Mathlib.Omega.{arith}
use native.Mathlib.Numerals.{add-one}
use borrow.Author.Tests.{lt-ltb, le-ltb}
use lib.Dec.{ltb}
use lib.ListN.{length, get_or, drop, drop_of_length-le}
use lib.Seq.{drop-cons}
use Rattle.std.proofs.Common.{min, length-append}
use Rattle.std.proofs.lemmas.List.{nil_from_length}
use lib.Ieee.{Float, nan}
use Rattle.floats.specs.Refusals.{Refusal}
use Rattle.terms.specs.declared.Epoch.{Epoch}
use Rattle.interestrate.specs.declared.Compounding.{Compounding}
use Rattle.interestrate.specs.declared.YieldPrice.{YieldPrice}
use Rattle.terms.specs.Times.{time_from}
use Rattle.floats.specs.Answers.{Outcome, Check, outcome_of}
use Rattle.floats.proofs.Lent.{passes-call, refuses-call}
use Rattle.interestrate.specs.Prices.{on_price, from_price, discount_and_derivative, with_flow, flows}
use Rattle.interestrate.specs.laws.Rows.{join_sums, flow_known, flow_refused}

module _ (y : Float) (compounding : Compounding) (settlement : Epoch) (days : List ℕ) (amounts : List Float) (price₀ derivative₀ : Float) where
  pub record Going (i : ℕ) (price derivative : Float) : Type 0 where
    pub within : i ≤ length days
    pub rest :
        flows y compounding settlement (drop i days) (drop i amounts) price derivative
        ≡ flows y compounding settlement days amounts price₀ derivative₀

  pub start : Going 0 price₀ derivative₀
  start = record { within = omega arith; rest = refl }

  module _ (i : ℕ) (price derivative : Float) (same : length amounts ≡ length days) (g : Going i price derivative) where
    -- One flow, and the rest.
    turn : i < length days
        → flows y compounding settlement (drop i days) (drop i amounts) price derivative
        ≡ from_price
        (cond (ltb settlement.day (get_or days i 0)) (with_flow y compounding settlement (get_or days i 0) (get_or amounts i nan) price derivative) (Ok (record { price = price; derivative = derivative })))
        (λ p d. flows y compounding settlement (drop (i + 1) days) (drop (i + 1) amounts) p d)
    unfolding flows
    turn h =
        let a : i < length amounts = omega arith in
        rw (add-one i, drop-cons days i 0 h, drop-cons amounts i nan a)

    -- The same where the flow's own outcome is known.
    follows : {s : Outcome YieldPrice}
        → i < length days
        → settlement.day < get_or days i 0
        → s ≡ with_flow y compounding settlement (get_or days i 0) (get_or amounts i nan) price derivative
        → from_price s (λ p d. flows y compounding settlement (drop (i + 1) days) (drop (i + 1) amounts) p d)
        ≡ flows y compounding settlement days amounts price₀ derivative₀
    follows h u e = sym (rw (lt-ltb settlement.day (get_or days i 0) u, ← e) at (turn h)) ∙ g.rest

    paid : {s : Outcome YieldPrice} (v : YieldPrice)
        → i < length days
        → settlement.day < get_or days i 0
        → s ≡ with_flow y compounding settlement (get_or days i 0) (get_or amounts i nan) price derivative
        → s ≡ Ok v
        → Going (i + 1) v.price v.derivative
    unfolding on_price
    paid v h u e given = record { within = omega arith; rest = rw given at (follows h u e) }

    pub unpaid : i < length days → get_or days i 0 ≤ settlement.day → Going (i + 1) price derivative
    unfolding on_price
    unpaid h u = record { within = omega arith; rest = sym (rw (le-ltb settlement.day (get_or days i 0) u) at (turn h)) ∙ g.rest }

    stopped : {s r : Outcome YieldPrice} {q : Refusal}
        → i < length days
        → settlement.day < get_or days i 0
        → s ≡ with_flow y compounding settlement (get_or days i 0) (get_or amounts i nan) price derivative
        → s ≡ Err q
        → r ≡ Err q
        → r ≡ flows y compounding settlement days amounts price₀ derivative₀
    unfolding on_price
    stopped h u e v p = p ∙ (rw v at (follows h u e))

    -- A flow whose discount and derivative are refused.
    pub refused : {r : Outcome YieldPrice} {q : Refusal}
        → i < length days
        → settlement.day < get_or days i 0
        → discount_and_derivative y (time_from settlement (get_or days i 0)) compounding ≡ Err q
        → r ≡ Err q
        → r ≡ flows y compounding settlement days amounts price₀ derivative₀
    refused h u e p = stopped h u (flow_refused y compounding settlement (get_or days i 0) (get_or amounts i nan) price derivative e) refl p

    -- A flow whose discount and derivative are known: what joining them to the sums says, and the sums v that it leaves.
    module _ (v : YieldPrice) (says : Check) {flow : YieldPrice}
        (h : i < length days)
        (u : settlement.day < get_or days i 0)
        (known : discount_and_derivative y (time_from settlement (get_or days i 0)) compounding ≡ Ok flow)
        (e : outcome_of says v ≡ join_sums (get_or amounts i nan) flow.price flow.derivative price derivative) where
      with_known : outcome_of says v ≡ with_flow y compounding settlement (get_or days i 0) (get_or amounts i nan) price derivative
      with_known = e ∙ flow_known y compounding settlement (get_or days i 0) (get_or amounts i nan) price derivative flow.price flow.derivative known

      pub joined : {t : Unit {0}} → says ≡ Ok t → Going (i + 1) v.price v.derivative
      joined was = paid v h u with_known (passes-call v was)

      pub not_joined : {r : Outcome YieldPrice} {q : Refusal} → says ≡ Err q → r ≡ Err q → r ≡ flows y compounding settlement days amounts price₀ derivative₀
      not_joined was p = stopped h u with_known (refuses-call v was) p

    pub done : length days ≤ i → Ok (record { price = price; derivative = derivative }) ≡ flows y compounding settlement days amounts price₀ derivative₀
    unfolding flows
    done h = rw (drop_of_length-le days h) at g.rest

-- ---- parts, one after the other

after_both : (s : Outcome YieldPrice) (k l m : Float → Float → Outcome YieldPrice) → ((p d : Float) → k p d ≡ from_price (l p d) m) → from_price s k ≡ from_price (from_price s l) m
unfolding on_price
after_both (Ok v) k l m h = h v.price v.derivative
after_both (Err q) k l m h = refl

module _ (y : Float) (compounding : Compounding) (settlement : Epoch) (rest-days : List ℕ) (rest : List Float) where
  appended : (days : List ℕ) (amounts : List Float) (price derivative : Float) → length amounts ≡ length days
      → flows y compounding settlement (days ++ rest-days) (amounts ++ rest) price derivative
      ≡ from_price (flows y compounding settlement days amounts price derivative) (λ p d. flows y compounding settlement rest-days rest p d)
  unfolding flows on_price
  appended [] [] price derivative e = refl
  appended [] (a ∷ more) price derivative e = absurd (omega arith)
  appended (day ∷ days) [] price derivative e = absurd (omega arith)
  appended (day ∷ days) (a ∷ more) price derivative e =
      after_both (cond (ltb settlement.day day) (with_flow y compounding settlement day a price derivative) (Ok (record { price = price; derivative = derivative })))
      (λ p d. flows y compounding settlement (days ++ rest-days) (more ++ rest) p d)
      (λ p d. flows y compounding settlement days more p d)
      (λ p d. flows y compounding settlement rest-days rest p d)
      (λ p d. appended days more p d (omega arith))

-- What is left of a list that is cut into parts of at most a size, before and after a part x.
abbrev pub Cut : {A : Type 0} → ℕ → List A → List A → ℕ → List A → Type 0
Cut size left x size' left' = (size' ≡ size) × ((left ≡ x ++ left') × (length x ≡ min size (length left)) × (0 < length left))

module _ (y : Float) (compounding : Compounding) (settlement : Epoch) (days : List ℕ) (amounts : List Float) (price₀ derivative₀ : Float) where
  -- The parts that are left give the whole answer.
  pub record Parting (size : ℕ) (left-days : List ℕ) (size' : ℕ) (left-amounts : List Float) (price derivative : Float) : Type 0 where
    pub sizes : (size ≡ 64) × (size' ≡ 64)
    pub same : length left-amounts ≡ length left-days
    pub rest : flows y compounding settlement left-days left-amounts price derivative ≡ flows y compounding settlement days amounts price₀ derivative₀

  module _ {size size' : ℕ} {left-days : List ℕ} {left-amounts : List Float} {price derivative : Float} (g : Parting size left-days size' left-amounts price derivative) where
    module _ (next next' : ℕ) (ds more-days : List ℕ) (xs more : List Float) (e : Cut size left-days ds next more-days) (f : Cut size' left-amounts xs next' more) where
      pub part-fits : (length xs ≡ length ds) × (length ds ≤ 64)
      part-fits =
          let a : length ds ≡ min size (length left-days) = e.1.1 in
          let b : length xs ≡ min size' (length left-amounts) = f.1.1 in
          let n = g.sizes in
          let m = g.same in
          (omega arith, omega arith)

      left_same : length more ≡ length more-days
      left_same =
          let a : length left-days ≡ length ds + length more-days = ap length e.1.0 ∙ length-append ds more-days in
          let b : length left-amounts ≡ length xs + length more = ap length f.1.0 ∙ length-append xs more in
          let m = g.same in
          let n = part-fits.0 in
          omega arith

      part_then : {s : Outcome YieldPrice} → s ≡ flows y compounding settlement ds xs price derivative
          → from_price s (λ p d. flows y compounding settlement more-days more p d) ≡ flows y compounding settlement days amounts price₀ derivative₀
      part_then h =
          ap (λ (z : Outcome YieldPrice). from_price z (λ p d. flows y compounding settlement more-days more p d)) h
          ∙ sym (appended y compounding settlement more-days more ds xs price derivative part-fits.0)
          ∙ ap (λ (zs : List ℕ). flows y compounding settlement zs (xs ++ more) price derivative) (sym e.1.0)
          ∙ ap (λ (zs : List Float). flows y compounding settlement left-days zs price derivative) (sym f.1.0)
          ∙ g.rest

      pub part-paid : {s : Outcome YieldPrice} (v : YieldPrice) → s ≡ flows y compounding settlement ds xs price derivative → s ≡ Ok v → Parting next more-days next' more v.price v.derivative
      unfolding on_price
      part-paid v h given = record { sizes = (e.0 ∙ g.sizes.0, f.0 ∙ g.sizes.1); same = left_same; rest = rw given at (part_then h) }

      pub part-stopped : {s r : Outcome YieldPrice} {q : Refusal} → s ≡ flows y compounding settlement ds xs price derivative → s ≡ Err q → r ≡ Err q → r ≡ flows y compounding settlement days amounts price₀ derivative₀
      unfolding on_price
      part-stopped h v p = p ∙ (rw v at (part_then h))

    pub no_days : length left-amounts ≡ 0 → length left-days ≡ 0
    no_days h = sym g.same ∙ h

    -- No part is left.
    pub parts-done : length left-days ≡ 0 → Ok (record { price = price; derivative = derivative }) ≡ flows y compounding settlement days amounts price₀ derivative₀
    unfolding flows
    parts-done h = rw (nil_from_length left-days h) at g.rest
