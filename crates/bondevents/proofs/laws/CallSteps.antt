-- The steps of a grid and the two lists they are made of; those of a call list made from another with any fixed puts, of a put list made from another, and of reordered ones. Assumes nothing.
use Rattle.std.specs.Prelude.{◌≡◌, ◌⊎◌, List, ℕ, ◌<◌, length, get_or, T, Ok, Err}
use Rattle.std.proofs.Math.Path.{refl, sym, ap}
use Rattle.std.proofs.Common.{subst, ◌∙◌}
use Rattle.std.proofs.Math.Logic.{inl, inr}
use Rattle.std.specs.Float.Ieee.{lt}
use Rattle.std.specs.Float.Ieee.Scale.{finite}
use Rattle.floats.specs.Refusals.{Refusal}
use Rattle.floats.specs.Answers.{plus_zero, Check, Outcome, follow}
use Rattle.terms.specs.Checks.{on_check}
use Rattle.terms.specs.Terms.{CallSchedule, Bond, bond_with_puts}
use Rattle.terms.specs.CallLists.{Entries, MadeFrom, LoweredFrom, Reordered, size, strike_of}
use Rattle.terms.specs.laws.Outcomes.{given_or_refused, same_given, follow-given, follow-refused, of_given, of_refused}
use Rattle.terms.specs.laws.Lockstep.{GivenOr27, is_given, is_27}
use Rattle.terms.specs.laws.Sequence.{lowest-refused}
use Rattle.bondevents.specs.declared.Side.{Side}
use Rattle.bondevents.specs.declared.Side.TheVariants.{Call, Put}
use Rattle.bondevents.specs.declared.Exercise.{Exercise}
use Rattle.bondevents.specs.declared.CallStep.{CallStep}
use Rattle.bondevents.specs.Steps.{Axis}
use Rattle.bondevents.specs.Calls.{none, exercises, joined, puts_below, call_steps}
use Rattle.bondevents.specs.laws.Pricing.{Above}
use Rattle.bondevents.specs.laws.Sides.{Before, before-refl}
use Rattle.bondevents.proofs.laws.SamePrices.{exercises-unread}
use Rattle.bondevents.proofs.laws.LowestPrices.{LowestPrices, lowest-prices, refused_by_lem, refused_20_or_27}
use Rattle.bondevents.specs.laws.NoLower.{Thinner, ThinnerRow, NoLowerSteps}
use Rattle.bondevents.proofs.laws.MadeLists.{Goes, goes_made, step_thinner, made_thinner}
use Rattle.bondevents.proofs.laws.Reordering.{reordered_same}
use Rattle.bondevents.specs.laws.Joined.{joined_at, rows-below}
use Rattle.floats.specs.declared.Reason.TheVariants as reason

-- What is made of both lists once the whole is filled.
abbrev pub filled : List Exercise → List Exercise → Outcome (List CallStep)
filled cs ps = on_check (puts_below (joined cs ps)) Err (Ok (joined cs ps))

-- ---- the steps and their parts

module _ (a : Axis) (bond : Bond) (calls : CallSchedule) where
  pub steps_are : call_steps a bond calls ≡ follow (exercises Call a bond calls) λ cs. follow (exercises Put a bond bond.puts) λ ps. filled cs ps
  steps_are = unfold call_steps in refl

  -- What steps that are given are made of.
  pub record Parts (steps : List CallStep) : Type 0 where
    pub cs : List Exercise
    pub ps : List Exercise
    pub calls_are : exercises Call a bond calls ≡ Ok cs
    pub puts_are : exercises Put a bond bond.puts ≡ Ok ps
    pub below : puts_below (joined cs ps) ≡ Ok tt
    pub is : steps ≡ joined cs ps

  ended : (steps : List CallStep) (cs ps : List Exercise) (c : Check) → puts_below (joined cs ps) ≡ c → on_check c Err (Ok (joined cs ps)) ≡ Ok steps → (puts_below (joined cs ps) ≡ Ok tt) × (steps ≡ joined cs ps)
  unfolding on_check
  ended steps cs ps (Ok tt) e h = (e, sym (same_given h))
  ended steps cs ps (Err r) e h = absurd (given_or_refused h refl)

  pub parts_of : (steps : List CallStep) → call_steps a bond calls ≡ Ok steps → Parts steps
  parts_of steps h =
      let (cs, u, v) = of_given (exercises Call a bond calls) (λ cs. follow (exercises Put a bond bond.puts) λ ps. filled cs ps) (sym steps_are ∙ h) in
      let (ps, w, x) = of_given (exercises Put a bond bond.puts) (λ ps. filled cs ps) v in
      let y = ended steps cs ps (puts_below (joined cs ps)) refl x in
      record { cs = cs; ps = ps; calls_are = u; puts_are = w; below = y.0; is = y.1 }

  pub of_rows : (cs ps : List Exercise) → exercises Call a bond calls ≡ Ok cs → exercises Put a bond bond.puts ≡ Ok ps → call_steps a bond calls ≡ filled cs ps
  of_rows cs ps u w = steps_are ∙ follow-given (exercises Call a bond calls) _ u ∙ follow-given (exercises Put a bond bond.puts) _ w

  pub of_parts : (cs ps : List Exercise) → exercises Call a bond calls ≡ Ok cs → exercises Put a bond bond.puts ≡ Ok ps → puts_below (joined cs ps) ≡ Ok tt → call_steps a bond calls ≡ Ok (joined cs ps)
  unfolding on_check
  of_parts cs ps u w b = of_rows cs ps u w ∙ ap (λ (c : Check). on_check c Err (Ok (joined cs ps))) b

  -- The steps are refused as the calls are.
  pub refused-of_calls : (r : Refusal) → exercises Call a bond calls ≡ Err r → call_steps a bond calls ≡ Err r
  refused-of_calls r u = steps_are ∙ follow-refused (exercises Call a bond calls) _ u

  -- With 20 or 27 at place 0, of the calls or of the puts, or with 38.
  pub steps-refused : Entries calls → Entries bond.puts → (r : Refusal) → call_steps a bond calls ≡ Err r
      → (r ≡ record { reason = reason.NoPrincipal; place = 0 }) ⊎ ((r ≡ record { reason = reason.NotFinite; place = 0 }) ⊎ (r.reason ≡ reason.PutAbove))
  unfolding on_check
  steps-refused n q r h =
      elim (of_refused (exercises Call a bond calls) (λ cs. follow (exercises Put a bond bond.puts) λ ps. filled cs ps) (sym steps_are ∙ h)) [
        | inl u ↦ of_list (refused_20_or_27 Call a bond calls r (refused_by_lem Call a bond calls n r u))
        | inr (cs, u, v) ↦
            elim (of_refused (exercises Put a bond bond.puts) (λ ps. filled cs ps) v) [
              | inl w ↦ of_list (refused_20_or_27 Put a bond bond.puts r (refused_by_lem Put a bond bond.puts q r w))
              | inr (ps, w, x) ↦ inr (inr (above cs ps (puts_below (joined cs ps)) refl x))
            ]
      ]
    where
      of_list : (r ≡ record { reason = reason.NoPrincipal; place = 0 }) ⊎ (r ≡ record { reason = reason.NotFinite; place = 0 }) → (r ≡ record { reason = reason.NoPrincipal; place = 0 }) ⊎ ((r ≡ record { reason = reason.NotFinite; place = 0 }) ⊎ (r.reason ≡ reason.PutAbove))
      of_list (inl e) = inl e
      of_list (inr e) = inr (inl e)

      above : (cs ps : List Exercise) (c : Check) → puts_below (joined cs ps) ≡ c → on_check c Err (Ok (joined cs ps)) ≡ Err r → r.reason ≡ reason.PutAbove
      above cs ps (Ok tt) e x = absurd (given_or_refused refl x)
      above cs ps (Err s) e x = let q : s ≡ r = cc in rw (← q) (lowest-refused reason.PutAbove _ _ 0 s e).same_reason

-- An exercise is as thin as itself.
same_thin : (side : Side) (c : Exercise) → T (finite c.price) → Thinner side c c
same_thin side c f = record { marked_too = λ h. h; price = λ h. before-refl side c.price f }

joined-no_lower : (cs ps ds qs : List Exercise) → length ps ≡ length cs → length qs ≡ length ds → ThinnerRow Call cs ds → ThinnerRow Put qs ps → NoLowerSteps (joined cs ps) (joined ds qs)
joined-no_lower cs ps ds qs e f t u k = rw (joined_at cs ps k e, joined_at ds qs k f) (record { call = t k; put = u k })

-- ---- two call lists, with any fixed puts

module _ (a : Axis) (bond : Bond) (first second : CallSchedule) (n : Entries first) (q : Entries bond.puts) (u : Above bond.units) (steps : List CallStep) (h : call_steps a bond first ≡ Ok steps) where
  p : Parts a bond first steps
  p = parts_of a bond first steps h

  -- Calls dropped or strikes raised: the second list's steps are given, with no call price lowered and the same puts, or refused with 27. A 38 that the first passes, the second passes.
  pub calls-no_lower : MadeFrom first second → GivenOr27 (NoLowerSteps steps) (call_steps a bond second)
  calls-no_lower m = go (made_thinner Call a bond first second n m.entries (goes_made m) u p.cs p.calls_are)
    where
      called : LowestPrices Call a bond first p.cs
      called = lowest-prices Call a bond first n p.cs p.calls_are

      put : LowestPrices Put a bond bond.puts p.ps
      put = lowest-prices Put a bond bond.puts q p.ps p.puts_are

      go : GivenOr27 (ThinnerRow Call p.cs) (exercises Call a bond second) → GivenOr27 (NoLowerSteps steps) (call_steps a bond second)
      go (is_27 r e t) = is_27 r (refused-of_calls a bond second r e) t
      go (is_given ds e t) =
          let long : length ds ≡ length p.cs = (lowest-prices Call a bond second m.entries ds e).row ∙ sym called.row in
          let same : length p.ps ≡ length p.cs = put.row ∙ sym called.row in
          is_given (joined ds p.ps)
          (of_parts a bond second ds p.ps e p.puts_are
          (rows-below p.cs ds p.ps same long (λ k. (called.each_step k).price-finite) (λ k. (put.each_step k).price-finite) t p.below))
          (subst (λ (z : List CallStep). NoLowerSteps z (joined ds p.ps)) (sym p.is)
          (joined-no_lower p.cs p.ps ds p.ps same (same ∙ sym long) t (λ k. same_thin Put (get_or p.ps k none) (put.each_step k).price-finite)))

  -- Reordered: the very same steps.
  pub calls-reordered : ((i : ℕ) → i < size first → T (lt plus_zero (strike_of first i))) → Reordered first second → call_steps a bond second ≡ Ok steps
  calls-reordered strikes r =
      of_parts a bond second p.cs p.ps (reordered_same Call a bond first second n u strikes r p.cs p.calls_are) p.puts_are p.below ∙ ap Ok (sym p.is)

-- ---- two put lists

goes_lowered : {first second : CallSchedule} → LoweredFrom first second → (i : ℕ) → i < size second → Goes Put first second i
unfolding Before
goes_lowered m i l =
    record {
      with_entry_lem = m.partner i;
      of_first = m.of_first i l;
      same_days = record { same_start = sym (m.same_start i l); same_end = sym (m.same_end i l) };
      strike-before = m.strike_as_low i l;
    }

module _ (a : Axis) (bond : Bond) (calls first second : CallSchedule) (q : Entries first) (u : Above bond.units) (steps : List CallStep) (d : call_steps a (bond_with_puts bond first) calls ≡ Ok steps) where
  -- the same calls, whatever the puts
  same_calls : (cs : List Exercise) → exercises Call a (bond_with_puts bond first) calls ≡ Ok cs → exercises Call a (bond_with_puts bond second) calls ≡ Ok cs
  same_calls cs h = exercises-unread Call a bond second calls ∙ sym (exercises-unread Call a bond first calls) ∙ h

  -- and the puts' own prices don't read them
  own-puts : (puts : CallSchedule) (ps : List Exercise) → exercises Put a (bond_with_puts bond puts) puts ≡ Ok ps → exercises Put a bond puts ≡ Ok ps
  own-puts puts ps h = sym (exercises-unread Put a bond puts puts) ∙ h

  -- Puts dropped or strikes lowered, both accepted: the first list's steps give no lower values.
  pub puts-no_lower : Entries calls → LoweredFrom first second → (others : List CallStep) → call_steps a (bond_with_puts bond second) calls ≡ Ok others → NoLowerSteps others steps
  puts-no_lower n m others e =
      let x = parts_of a (bond_with_puts bond first) calls steps d in
      let y = parts_of a (bond_with_puts bond second) calls others e in
      let same : y.cs ≡ x.cs = same_given (sym y.calls_are ∙ same_calls x.cs x.calls_are) in
      let called = lowest-prices Call a (bond_with_puts bond first) calls n x.cs x.calls_are in
      let f = lowest-prices Put a bond first q x.ps (own-puts first x.ps x.puts_are) in
      let s = lowest-prices Put a bond second m.entries y.ps (own-puts second y.ps y.puts_are) in
      let thin : ThinnerRow Put x.ps y.ps = λ k. step_thinner Put a bond first second k (get_or x.ps k none) (get_or y.ps k none) u (goes_lowered m) (f.each_step k) (s.each_step k) in
      rw (x.is, y.is, same)
      (joined-no_lower x.cs y.ps x.cs x.ps (s.row ∙ sym called.row) (f.row ∙ sym called.row) (λ k. same_thin Call (get_or x.cs k none) (called.each_step k).price-finite) thin)

  -- Reordered: the very same steps.
  pub puts-reordered : ((i : ℕ) → i < size first → T (lt plus_zero (strike_of first i))) → Reordered first second → call_steps a (bond_with_puts bond second) calls ≡ Ok steps
  puts-reordered strikes r =
      let x = parts_of a (bond_with_puts bond first) calls steps d in
      of_parts a (bond_with_puts bond second) calls x.cs x.ps
      (same_calls x.cs x.calls_are)
      (exercises-unread Put a bond second second ∙ reordered_same Put a bond first second q u strikes r x.ps (own-puts first x.ps x.puts_are))
      x.below
      ∙ ap Ok (sym x.is)
