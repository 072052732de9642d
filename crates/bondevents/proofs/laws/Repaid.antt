-- Redemptions on or before settlement count nowhere: the grid is that of the bond without them. Assumes nothing.
use Rattle.std.specs.Prelude.{ℕ, ◌≤◌, ◌<◌, ◌≡◌, Bool, true, false, cond, ◌&&◌, List, [], ◌∷◌, length, get_or, set, replicate, eqb, ltb, leb, Float, Ok}
use Rattle.std.proofs.Common.{arith, sym, ap, ◌∙◌, subst, true≢false, leb→le, ltb→lt, nltb→le, eqb→eq}
use Rattle.std.proofs.Math.Numerals.{unary_clauses}
use Rattle.std.proofs.Math.Path.{refl}
use Rattle.std.specs.Float.{binary64}
use Rattle.std.specs.Float.Ieee.{add}
use Rattle.floats.specs.Answers.{plus_zero, Outcome, follow}
use Rattle.floats.specs.laws.Order.{T_of, T-of_not}
use Rattle.terms.specs.declared.Settlement.{Settlement}
use Rattle.terms.specs.Terms.{Leg, CallSchedule, Bond, TimeGrid}
use Rattle.terms.specs.Checks.{last_day}
use Rattle.terms.specs.laws.GridChecks.{grid-terms}
use Rattle.terms.specs.laws.TermChecks.{leg-counted, paid-passed}
use Rattle.bondevents.specs.declared.Side.{Side}
use Rattle.bondevents.specs.declared.Side.TheVariants.{Call, Put}
use Rattle.bondevents.specs.declared.Exercise.{Exercise}
use Rattle.bondevents.specs.declared.CallStep.{CallStep}
use Rattle.bondevents.specs.Steps.{Axis, step_of, paid_into}
use Rattle.bondevents.specs.Calls.{Entry, discrete, none, counted, redemptions, redemption_step_of, principal, exercises, call_steps}
use Rattle.bondevents.specs.Grid.{axis_of}
use Rattle.bondevents.specs.Repaid.{repaid, unrepaid, without_repaid, RepaidNowhere}
use Rattle.bondevents.specs.laws.Pricing.{same_price}
use Rattle.bondevents.proofs.laws.SamePrices.{entries_same}
use Rattle.bondevents.proofs.laws.CallSteps.{filled, steps_are}
use Rattle.bondevents.proofs.laws.Grids.{grid_of, grid_is}

-- ---- one cashflow more

module _ {A : Type 0} (settlement day kind : ℕ) (x : A) (days kinds : List ℕ) (xs : List A) where
  gone : repaid settlement day kind ≡ true → unrepaid settlement (day ∷ days) (kind ∷ kinds) (x ∷ xs) ≡ unrepaid settlement days kinds xs
  unfolding unrepaid
  gone h = rw h

  stays : repaid settlement day kind ≡ false → unrepaid settlement (day ∷ days) (kind ∷ kinds) (x ∷ xs) ≡ x ∷ unrepaid settlement days kinds xs
  unfolding unrepaid
  stays h = rw h

and_right : (p q : Bool) → (p && q) ≡ true → q ≡ true
and_right true q h = h
and_right false q h = absurd (true≢false (sym h))

repaid-day : (settlement day kind : ℕ) → repaid settlement day kind ≡ true → day ≤ settlement
repaid-day settlement day kind h = leb→le day settlement (T_of (leb day settlement) (and_right (eqb kind 1) (leb day settlement) h))

not_below_lem : (m n : ℕ) → n ≤ m → ltb m n ≡ false
not_below_lem m n h = go (ltb m n) refl
  where
    go : (b : Bool) → ltb m n ≡ b → ltb m n ≡ false
    go false e = e
    go true e = let l = ltb→lt m n (T_of (ltb m n) e) in absurd (omega arith)

-- ---- principal

-- What is on or before settlement isn't counted.
abbrev NotYet : ℕ → (ℕ → Bool) → Type 0
NotYet settlement after = (day : ℕ) → day ≤ settlement → after day ≡ false

pub one_more : (after : ℕ → Bool) (day kind : ℕ) (amount : Float) (days kinds : List ℕ) (amounts : List Float) (total : Float)
    → redemptions after (day ∷ days) (kind ∷ kinds) (amount ∷ amounts) total
    ≡ redemptions after days kinds amounts (cond (eqb kind 1 && after day) (add binary64 total amount) total)
one_more after day kind amount days kinds amounts total = unfold redemptions in refl

unadded : (p q : Bool) (x y : Float) → q ≡ false → cond (p && q) x y ≡ y
unadded true q x y h = rw h
unadded false q x y h = refl

unrepaid-sum : (settlement : ℕ) (after : ℕ → Bool) → NotYet settlement after → (days kinds : List ℕ) (amounts : List Float) (total : Float)
    → length kinds ≡ length days → length amounts ≡ length days
    → redemptions after (unrepaid settlement days kinds days) (unrepaid settlement days kinds kinds) (unrepaid settlement days kinds amounts) total
    ≡ redemptions after days kinds amounts total
unrepaid-sum settlement after none [] kinds amounts total k m = unfold redemptions unrepaid in refl
unrepaid-sum settlement after none (day ∷ days) [] amounts total k m = absurd (omega arith)
unrepaid-sum settlement after none (day ∷ days) (kind ∷ kinds) [] total k m = absurd (omega arith)
unrepaid-sum settlement after none (day ∷ days) (kind ∷ kinds) (amount ∷ amounts) total k m =
    go (repaid settlement day kind) refl (λ t. unrepaid-sum settlement after none days kinds amounts t (omega arith) (omega arith))
  where
    go : (b : Bool) → repaid settlement day kind ≡ b
        → ((t : Float) → redemptions after (unrepaid settlement days kinds days) (unrepaid settlement days kinds kinds) (unrepaid settlement days kinds amounts) t ≡ redemptions after days kinds amounts t)
        → redemptions after (unrepaid settlement (day ∷ days) (kind ∷ kinds) (day ∷ days)) (unrepaid settlement (day ∷ days) (kind ∷ kinds) (kind ∷ kinds)) (unrepaid settlement (day ∷ days) (kind ∷ kinds) (amount ∷ amounts)) total
        ≡ redemptions after (day ∷ days) (kind ∷ kinds) (amount ∷ amounts) total
    go true h same =
        rw (gone settlement day kind day days kinds days h, gone settlement day kind kind days kinds kinds h, gone settlement day kind amount days kinds amounts h)
        (same total
        ∙ ap (redemptions after days kinds amounts) (sym (unadded (eqb kind 1) (after day) (add binary64 total amount) total (none day (repaid-day settlement day kind h))))
        ∙ sym (one_more after day kind amount days kinds amounts total))
    go false h same =
        rw (stays settlement day kind day days kinds days h, stays settlement day kind kind days kinds kinds h, stays settlement day kind amount days kinds amounts h)
        (one_more after day kind amount _ _ _ total ∙ same _ ∙ sym (one_more after day kind amount days kinds amounts total))

-- A call's principal, where the call doesn't end before settlement.
call_not_yet : (settlement start : ℕ) → settlement ≤ start → NotYet settlement (λ day. ltb start day)
call_not_yet settlement start l day h = not_below_lem start day (omega arith)

window_not_yet : (a : Axis) (step : ℕ) → NotYet a.settlement (λ day. ltb step (redemption_step_of a day))
window_not_yet a step day h = rw (not_below_lem a.settlement day h) (not_below_lem step 0 (omega arith))

module _ (a : Axis) (leg : Leg) (e : Entry) (k : ℕ) where
  of_call : discrete e ≡ true → principal a leg e k ≡ counted leg λ day. ltb e.start day
  unfolding principal
  of_call d = rw d

  of_window : discrete e ≡ false → principal a leg e k ≡ counted leg λ day. ltb k (redemption_step_of a day)
  unfolding principal
  of_window d = rw d

module _ (a : Axis) (bond : Bond) (kinds_too : length bond.leg.kinds ≡ length bond.leg.days) (amounts_too : length bond.leg.amounts ≡ length bond.leg.days) where
  unrepaid-counted : (after : ℕ → Bool) → NotYet a.settlement after → counted (without_repaid a.settlement bond).leg after ≡ counted bond.leg after
  unrepaid-counted after none = unrepaid-sum a.settlement after none bond.leg.days bond.leg.kinds bond.leg.amounts plus_zero kinds_too amounts_too

  unrepaid-principal : (e : Entry) → ltb e.end a.settlement ≡ false → (k : ℕ) → principal a (without_repaid a.settlement bond).leg e k ≡ principal a bond.leg e k
  unrepaid-principal e h k = go (discrete e) refl
    where
      leg : Leg
      leg = (without_repaid a.settlement bond).leg

      go : (b : Bool) → discrete e ≡ b → principal a leg e k ≡ principal a bond.leg e k
      go true d =
          let same = eqb→eq e.start e.end (T_of (discrete e) d) in
          let later = nltb→le e.end a.settlement (T-of_not (ltb e.end a.settlement) h) in
          of_call a leg e k d ∙ unrepaid-counted (λ day. ltb e.start day) (call_not_yet a.settlement e.start (omega arith)) ∙ sym (of_call a bond.leg e k d)
      go false d = of_window a leg e k d ∙ unrepaid-counted (λ day. ltb k (redemption_step_of a day)) (window_not_yet a k) ∙ sym (of_window a bond.leg e k d)

  -- ---- the call and put entries

  unrepaid-entries : (side : Side) (entries : CallSchedule) → exercises side a (without_repaid a.settlement bond) entries ≡ exercises side a bond entries
  unrepaid-entries side entries =
      entries_same side a bond (without_repaid a.settlement bond) (λ e h k. same_price a bond (without_repaid a.settlement bond) e k (unrepaid-principal e h k) refl)
      entries.starts entries.ends entries.strikes (replicate 513 none)

-- ---- cashflows

paid_cons : (a : Axis) (day : ℕ) (amount : Float) (days : List ℕ) (amounts row : List Float)
    → paid_into a (day ∷ days) (amount ∷ amounts) row
    ≡ paid_into a days amounts (cond (ltb a.settlement day) (set row (step_of a day) (add binary64 (get_or row (step_of a day) plus_zero) amount)) row)
paid_cons a day amount days amounts row = unfold paid_into in refl

unrepaid-paid : (a : Axis) (days kinds : List ℕ) (amounts row : List Float) → length kinds ≡ length days → length amounts ≡ length days
    → paid_into a (unrepaid a.settlement days kinds days) (unrepaid a.settlement days kinds amounts) row ≡ paid_into a days amounts row
unrepaid-paid a [] kinds amounts row k m = unfold paid_into unrepaid in refl
unrepaid-paid a (day ∷ days) [] amounts row k m = absurd (omega arith)
unrepaid-paid a (day ∷ days) (kind ∷ kinds) [] row k m = absurd (omega arith)
unrepaid-paid a (day ∷ days) (kind ∷ kinds) (amount ∷ amounts) row k m =
    go (repaid a.settlement day kind) refl (λ r. unrepaid-paid a days kinds amounts r (omega arith) (omega arith))
  where
    go : (b : Bool) → repaid a.settlement day kind ≡ b
        → ((r : List Float) → paid_into a (unrepaid a.settlement days kinds days) (unrepaid a.settlement days kinds amounts) r ≡ paid_into a days amounts r)
        → paid_into a (unrepaid a.settlement (day ∷ days) (kind ∷ kinds) (day ∷ days)) (unrepaid a.settlement (day ∷ days) (kind ∷ kinds) (amount ∷ amounts)) row
        ≡ paid_into a (day ∷ days) (amount ∷ amounts) row
    go true h same =
        rw (gone a.settlement day kind day days kinds days h, gone a.settlement day kind amount days kinds amounts h)
        (same row ∙ sym (paid_cons a day amount days amounts row ∙ rw (not_below_lem a.settlement day (repaid-day a.settlement day kind h)) refl))
    go false h same =
        rw (stays a.settlement day kind day days kinds days h, stays a.settlement day kind amount days kinds amounts h)
        (paid_cons a day amount _ _ row ∙ same _ ∙ sym (paid_cons a day amount days amounts row))

-- ---- maturity

last_two : (day next : ℕ) (days : List ℕ) → last_day (day ∷ next ∷ days) ≡ last_day (next ∷ days)
last_two day next days = simp unary_clauses refl

last_cons : (day : ℕ) (days : List ℕ) → 0 < last_day days → last_day (day ∷ days) ≡ last_day days
last_cons day [] h = absurd (omega arith)
last_cons day (next ∷ days) h = last_two day next days

unrepaid_last : (settlement : ℕ) (days kinds : List ℕ) → length kinds ≡ length days → settlement < last_day days
    → last_day (unrepaid settlement days kinds days) ≡ last_day days
unrepaid_last settlement [] kinds k h = absurd (omega arith)
unrepaid_last settlement (day ∷ days) [] k h = absurd (omega arith)
unrepaid_last settlement (day ∷ []) (kind ∷ kinds) k h = go (repaid settlement day kind) refl
  where
    go : (b : Bool) → repaid settlement day kind ≡ b → last_day (unrepaid settlement (day ∷ []) (kind ∷ kinds) (day ∷ [])) ≡ day
    go true r = let l = repaid-day settlement day kind r in absurd (omega arith)
    go false r = rw (stays settlement day kind day [] kinds [] r) (unfold unrepaid in refl)
unrepaid_last settlement (day ∷ next ∷ days) (kind ∷ kinds) k h =
    go (repaid settlement day kind) refl (unrepaid_last settlement (next ∷ days) kinds (omega arith) (omega (arith, last_two day next days))) ∙ sym (last_two day next days)
  where
    go : (b : Bool) → repaid settlement day kind ≡ b → last_day (unrepaid settlement (next ∷ days) kinds (next ∷ days)) ≡ last_day (next ∷ days)
        → last_day (unrepaid settlement (day ∷ next ∷ days) (kind ∷ kinds) (day ∷ next ∷ days)) ≡ last_day (next ∷ days)
    go true r same = rw (gone settlement day kind day (next ∷ days) kinds (next ∷ days) r) same
    go false r same =
        rw (stays settlement day kind day (next ∷ days) kinds (next ∷ days) r)
        (last_cons day (unrepaid settlement (next ∷ days) kinds (next ∷ days)) (omega (arith, same, last_two day next days)) ∙ same)

-- ---- the grid

unrepaid_axis : (settlement : Settlement) (leg other : Leg) (controls : TimeGrid) → last_day other.days ≡ last_day leg.days → axis_of settlement other controls ≡ axis_of settlement leg controls
unfolding axis_of
unrepaid_axis settlement leg other controls h = rw h

settled : (settlement : Settlement) (leg : Leg) (controls : TimeGrid) → (axis_of settlement leg controls).settlement ≡ settlement.day
unfolding axis_of
settled settlement leg controls = refl

-- The steps of the grid.
unrepaid-steps : (a : Axis) (bond : Bond) → length bond.leg.kinds ≡ length bond.leg.days → length bond.leg.amounts ≡ length bond.leg.days → (calls : CallSchedule)
    → call_steps a (without_repaid a.settlement bond) calls ≡ call_steps a bond calls
unrepaid-steps a bond k m calls =
    let other = without_repaid a.settlement bond in
    steps_are a other calls
    ∙ ap (λ (o : Outcome (List Exercise)). follow o λ cs. follow (exercises Put a other bond.puts) λ ps. filled cs ps) (unrepaid-entries a bond k m Call calls)
    ∙ ap (λ (o : Outcome (List Exercise)). follow (exercises Call a bond calls) λ cs. follow o λ ps. filled cs ps) (unrepaid-entries a bond k m Put bond.puts)
    ∙ sym (steps_are a bond calls)

-- The grid of an axis, and of the bond without what is repaid at its settlement.
unrepaid-grid : (a : Axis) (bond : Bond) (calls : CallSchedule) → length bond.leg.kinds ≡ length bond.leg.days → length bond.leg.amounts ≡ length bond.leg.days
    → follow (call_steps a (without_repaid a.settlement bond) calls) (λ cs. Ok (grid_of a (without_repaid a.settlement bond) cs))
    ≡ follow (call_steps a bond calls) (λ cs. Ok (grid_of a bond cs))
unrepaid-grid a bond calls k m =
    ap (λ (row : List Float). follow (call_steps a (without_repaid a.settlement bond) calls) (λ cs. Ok (record { maturity_time = a.maturity; steps = a.steps; cashflows = row; calls = cs })))
    (unrepaid-paid a bond.leg.days bond.leg.kinds bond.leg.amounts (replicate 513 plus_zero) k m)
    ∙ ap (λ (o : Outcome (List CallStep)). follow o (λ cs. Ok (grid_of a bond cs)))
    (unrepaid-steps a bond k m calls)

pub repaid-nowhere : RepaidNowhere
repaid-nowhere settlement bond calls controls h =
    let passed = (grid-terms settlement bond calls controls h).leg in
    let n = leg-counted bond.leg passed.counted in
    let other = without_repaid settlement.day bond in
    let a = axis_of settlement bond.leg controls in
    let last = unrepaid_last settlement.day bond.leg.days bond.leg.kinds n.kinds_too (paid-passed bond.leg settlement.day passed.paid) in
    let same : follow (call_steps a other calls) (λ cs. Ok (grid_of a other cs)) ≡ follow (call_steps a bond calls) (λ cs. Ok (grid_of a bond cs))
    = subst (λ (s : ℕ). follow (call_steps a (without_repaid s bond) calls) (λ cs. Ok (grid_of a (without_repaid s bond) cs)) ≡ follow (call_steps a bond calls) (λ cs. Ok (grid_of a bond cs)))
    (settled settlement bond.leg controls) (unrepaid-grid a bond calls n.kinds_too n.amounts_too) in
    grid_is settlement bond calls controls
    ∙ sym same
    ∙ ap (λ (z : Axis). follow (call_steps z other calls) (λ cs. Ok (grid_of z other cs))) (sym (unrepaid_axis settlement bond.leg other.leg controls last))
    ∙ sym (grid_is settlement other calls controls)
