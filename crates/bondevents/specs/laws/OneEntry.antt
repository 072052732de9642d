-- One call entry walked over the steps: which steps it reaches, and what it leaves at each, or the price that refuses it. Assumes nothing.
use Rattle.std.specs.Prelude.{◌≡◌, ◌⊎◌, Bool, true, false, cond, List, [], ◌∷◌, ℕ, zero, suc, ◌+◌, ◌≤◌, ◌<◌, length, get_or, ltb, Float, Ok, Err}
use Rattle.std.proofs.Math.Path.{refl}
use Rattle.std.proofs.Common.{sym, ap, ◌∙◌, subst, inl, inr, true≢false, add-zero, zero-add, arith}
use Rattle.std.proofs.Math.ListN.{get_or-eq_default}
use Rattle.floats.specs.Refusals.{Refusal}
use Rattle.terms.specs.Terms.{Bond}
use Rattle.floats.specs.Answers.{Outcome, follow}
use Rattle.terms.specs.laws.Outcomes.{given_or_refused, answer-cases, of_given, of_refused, valued-value, valued-refused}
use Rattle.terms.specs.laws.Searching.{below_or_not}
use Rattle.bondevents.specs.declared.Side.{Side}
use Rattle.bondevents.specs.declared.Exercise.{Exercise}
use Rattle.bondevents.specs.Steps.{Axis}
use Rattle.bondevents.specs.Calls.{Entry, eligible, call_price, none, keep, over_steps, with_entry}

-- ---- one step

-- What an entry leaves of a step where it is eligible or not.
pub data Stepped (side : Side) (a : Axis) (bond : Bond) (e : Entry) (k : ℕ) (c c' : Exercise) : Type 0 where
  untouched : eligible a e k ≡ false → c' ≡ c → Stepped side a bond e k c c'
  lowered : (x : Float) → eligible a e k ≡ true → call_price a bond e k ≡ Ok x → c' ≡ keep side c x → Stepped side a bond e k c c'

-- the step's part of `overSteps`
at_step : Side → Axis → Bond → Entry → ℕ → Exercise → Outcome Exercise
at_step side a bond e k c = cond (eligible a e k) (follow (call_price a bond e k) λ price. Ok (keep side c price)) (Ok c)

over_cons : (side : Side) (a : Axis) (bond : Bond) (e : Entry) (count step : ℕ) (c : Exercise) (cs : List Exercise)
    → over_steps side a bond e (suc count) step (c ∷ cs)
    ≡ follow (at_step side a bond e step c) (λ c'. follow (over_steps side a bond e count (suc step) cs) (λ cs'. Ok (c' ∷ cs')))
over_cons side a bond e count step c cs = unfold over_steps at_step in refl

over_none : (side : Side) (a : Axis) (bond : Bond) (e : Entry) (step : ℕ) (cs : List Exercise) → over_steps side a bond e zero step cs ≡ Ok cs
over_none side a bond e step cs = unfold over_steps in refl

over-nil : (side : Side) (a : Axis) (bond : Bond) (e : Entry) (count step : ℕ) → over_steps side a bond e (suc count) step [] ≡ Ok []
over-nil side a bond e count step = unfold over_steps in refl

module _ (side : Side) (a : Axis) (bond : Bond) (e : Entry) (k : ℕ) (c : Exercise) where
  at_taken : eligible a e k ≡ true → at_step side a bond e k c ≡ follow (call_price a bond e k) λ price. Ok (keep side c price)
  unfolding at_step
  at_taken h = rw h

  at_left : eligible a e k ≡ false → at_step side a bond e k c ≡ Ok c
  unfolding at_step
  at_left h = rw h

  at_given : (c' : Exercise) → at_step side a bond e k c ≡ Ok c' → Stepped side a bond e k c c'
  at_given c' h = go (eligible a e k) refl
    where
      go : (b : Bool) → eligible a e k ≡ b → Stepped side a bond e k c c'
      go false g = untouched g (let s = sym (at_left g) ∙ h in cc)
      go true g =
          elim (answer-cases (call_price a bond e k)) [
            | inl (x, p) ↦ lowered x g p (let s = sym (valued-value (call_price a bond e k) (λ price. Ok (keep side c price)) p) ∙ sym (at_taken g) ∙ h in cc)
            | inr (r, p) ↦ absurd (given_or_refused (sym (at_taken g) ∙ h) (valued-refused (call_price a bond e k) (λ price. Ok (keep side c price)) p))
          ]

  at_refused : (r : Refusal) → at_step side a bond e k c ≡ Err r → (eligible a e k ≡ true) × (call_price a bond e k ≡ Err r)
  at_refused r h = go (eligible a e k) refl
    where
      go : (b : Bool) → eligible a e k ≡ b → (eligible a e k ≡ true) × (call_price a bond e k ≡ Err r)
      go false g = absurd (given_or_refused (at_left g) h)
      go true g =
          elim (answer-cases (call_price a bond e k)) [
            | inl (x, p) ↦ absurd (given_or_refused (valued-value (call_price a bond e k) (λ price. Ok (keep side c price)) p) (sym (at_taken g) ∙ h))
            | inr (q, p) ↦ (g, p ∙ (let s = sym (valued-refused (call_price a bond e k) (λ price. Ok (keep side c price)) p) ∙ sym (at_taken g) ∙ h in cc))
          ]

at_same : (side : Side) (a : Axis) (bond other : Bond) (e : Entry) (k : ℕ) (c : Exercise) → call_price a other e k ≡ call_price a bond e k
    → at_step side a other e k c ≡ at_step side a bond e k c
unfolding at_step
at_same side a bond other e k c h = rw h

-- ---- all the steps

-- Of count steps from step on, those that have a place in the row are taken; the rest of the row stays.
record Walked (side : Side) (a : Axis) (bond : Bond) (e : Entry) (count step : ℕ) (cs cs' : List Exercise) : Type 0 where
  same_length : length cs' ≡ length cs
  taken : (j : ℕ) → j < count → j < length cs → Stepped side a bond e (step + j) (get_or cs j none) (get_or cs' j none)
  rest : (j : ℕ) → count ≤ j → get_or cs' j none ≡ get_or cs j none

walked_none : (side : Side) (a : Axis) (bond : Bond) (e : Entry) (count step : ℕ) (cs : List Exercise) → ((j : ℕ) → j < count → j < length cs → ⊥)
    → Walked side a bond e count step cs cs
walked_none side a bond e count step cs n = record { same_length = refl; taken = λ j l k. absurd (n j l k); rest = λ j l. refl }

walked_cons : (side : Side) (a : Axis) (bond : Bond) (e : Entry) (count step : ℕ) (c c' : Exercise) (cs cs' : List Exercise) → Stepped side a bond e step c c'
    → Walked side a bond e count (suc step) cs cs' → Walked side a bond e (suc count) step (c ∷ cs) (c' ∷ cs')
walked_cons side a bond e count step c c' cs cs' s w = record { same_length = ap suc w.same_length; taken = taken'; rest = rest' }
  where
    taken' : (j : ℕ) → j < suc count → j < suc (length cs) → Stepped side a bond e (step + j) (get_or (c ∷ cs) j none) (get_or (c' ∷ cs') j none)
    taken' zero l k = rw add-zero s
    taken' (suc j) l k = subst (λ (n : ℕ). Stepped side a bond e n (get_or cs j none) (get_or cs' j none)) (omega arith) (w.taken j (omega arith) (omega arith))

    rest' : (j : ℕ) → suc count ≤ j → get_or (c' ∷ cs') j none ≡ get_or (c ∷ cs) j none
    rest' zero l = absurd (omega arith)
    rest' (suc j) l = w.rest j (omega arith)

over-given : (side : Side) (a : Axis) (bond : Bond) (e : Entry) (count step : ℕ) (cs cs' : List Exercise) → over_steps side a bond e count step cs ≡ Ok cs'
    → Walked side a bond e count step cs cs'
over-given side a bond e zero step cs cs' h =
    let g : cs ≡ cs' = let s = sym (over_none side a bond e step cs) ∙ h in cc in
    rw (← g) (walked_none side a bond e zero step cs (λ j l k. omega arith))
over-given side a bond e (suc count) step [] cs' h =
    let g : [] ≡ cs' = let s = sym (over-nil side a bond e count step) ∙ h in cc in
    rw (← g) (walked_none side a bond e (suc count) step [] (λ j l k. omega arith))
over-given side a bond e (suc count) step (c ∷ cs) cs' h =
    let (d, p, q) = of_given (at_step side a bond e step c) (λ c'. follow (over_steps side a bond e count (suc step) cs) (λ cs'. Ok (c' ∷ cs'))) (sym (over_cons side a bond e count step c cs) ∙ h) in
    let (ds, u, v) = of_given (over_steps side a bond e count (suc step) cs) (λ cs'. Ok (d ∷ cs')) q in
    let g : d ∷ ds ≡ cs' = cc in
    rw (← g) (walked_cons side a bond e count step c d cs ds (at_given side a bond e step c d p) (over-given side a bond e count (suc step) cs ds u))

-- A refusal is that of a step's price.
record Stopped (side : Side) (a : Axis) (bond : Bond) (e : Entry) (count step n : ℕ) (r : Refusal) : Type 0 where
  at : ℕ
  in_count : at < count
  in_row : at < n
  reach : eligible a e (step + at) ≡ true
  refuses : call_price a bond e (step + at) ≡ Err r

over-refused : (side : Side) (a : Axis) (bond : Bond) (e : Entry) (count step : ℕ) (cs : List Exercise) (r : Refusal) → over_steps side a bond e count step cs ≡ Err r
    → Stopped side a bond e count step (length cs) r
over-refused side a bond e zero step cs r h = absurd (given_or_refused (over_none side a bond e step cs) h)
over-refused side a bond e (suc count) step [] r h = absurd (given_or_refused (over-nil side a bond e count step) h)
over-refused side a bond e (suc count) step (c ∷ cs) r h =
    go (over-refused side a bond e count (suc step) cs r)
    (of_refused (at_step side a bond e step c) (λ c'. follow (over_steps side a bond e count (suc step) cs) (λ cs'. Ok (c' ∷ cs'))) (sym (over_cons side a bond e count step c cs) ∙ h))
  where
    later : Stopped side a bond e count (suc step) (length cs) r → Stopped side a bond e (suc count) step (suc (length cs)) r
    later s =
        let n : suc step + s.at ≡ step + suc s.at = omega arith in
        record {
          at = suc s.at;
          in_count = omega (arith, s.in_count);
          in_row = omega (arith, s.in_row);
          reach = subst (λ (k : ℕ). eligible a e k ≡ true) n s.reach;
          refuses = subst (λ (k : ℕ). call_price a bond e k ≡ Err r) n s.refuses;
        }

    go : (over_steps side a bond e count (suc step) cs ≡ Err r → Stopped side a bond e count (suc step) (length cs) r)
        → (at_step side a bond e step c ≡ Err r)
        ⊎ ((d : Exercise) × (at_step side a bond e step c ≡ Ok d) × (follow (over_steps side a bond e count (suc step) cs) (λ cs'. Ok (d ∷ cs')) ≡ Err r))
        → Stopped side a bond e (suc count) step (suc (length cs)) r
    go ih (inl p) =
        let (g, q) = at_refused side a bond e step c r p in
        record { at = 0; in_count = omega arith; in_row = omega arith; reach = rw add-zero g; refuses = rw add-zero q }
    go ih (inr (d, p, q)) =
        elim (of_refused (over_steps side a bond e count (suc step) cs) (λ cs'. Ok (d ∷ cs')) q) [
          | inl u ↦ later (ih u)
          | inr (ds, u, v) ↦ absurd (given_or_refused refl v)
        ]

-- ---- the entry

-- The entry is not skipped, and is eligible at the step, which is tried and has a place in the row.
pub record Reached (a : Axis) (e : Entry) (k : ℕ) : Type 0 where
  pub not_skipped : ltb e.end a.settlement ≡ false
  pub tried : k < a.steps
  pub placed : k < 513
  pub is_eligible : eligible a e k ≡ true

-- What an entry leaves of a step: the step as it was where it doesn't reach it, the lower price where it does.
pub data Left (side : Side) (a : Axis) (bond : Bond) (e : Entry) (k : ℕ) (c c' : Exercise) : Type 0 where
  as_it_was : (Reached a e k → ⊥) → c' ≡ c → Left side a bond e k c c'
  lowest-kept : (x : Float) → Reached a e k → call_price a bond e k ≡ Ok x → c' ≡ keep side c x → Left side a bond e k c c'

with_skipped : (side : Side) (a : Axis) (bond : Bond) (e : Entry) (cs : List Exercise) → ltb e.end a.settlement ≡ true → with_entry side a bond e cs ≡ Ok cs
unfolding with_entry
with_skipped side a bond e cs h = rw h

with_walked : (side : Side) (a : Axis) (bond : Bond) (e : Entry) (cs : List Exercise) → ltb e.end a.settlement ≡ false
    → with_entry side a bond e cs ≡ over_steps side a bond e a.steps 0 cs
unfolding with_entry
with_walked side a bond e cs h = rw h

left_of_stepped : (side : Side) (a : Axis) (bond : Bond) (e : Entry) (k : ℕ) (c c' : Exercise) → ltb e.end a.settlement ≡ false → k < a.steps → k < 513
    → Stepped side a bond e k c c' → Left side a bond e k c c'
left_of_stepped side a bond e k c c' s l m (untouched g h) = as_it_was (λ r. true≢false (sym r.is_eligible ∙ g)) h
left_of_stepped side a bond e k c c' s l m (lowered x g p h) = lowest-kept x (record { not_skipped = s; tried = l; placed = m; is_eligible = g }) p h

left_of_walked : (side : Side) (a : Axis) (bond : Bond) (e : Entry) (cs cs' : List Exercise) → length cs ≡ 513 → ltb e.end a.settlement ≡ false
    → Walked side a bond e a.steps 0 cs cs' → (k : ℕ) → Left side a bond e k (get_or cs k none) (get_or cs' k none)
left_of_walked side a bond e cs cs' n s w k = go (below_or_not k a.steps) (below_or_not k 513)
  where
    go : (k < a.steps) ⊎ (a.steps ≤ k) → (k < 513) ⊎ (513 ≤ k) → Left side a bond e k (get_or cs k none) (get_or cs' k none)
    go (inr l) y = as_it_was (λ r. let t = r.tried in omega arith) (w.rest k l)
    go (inl l) (inr m) =
        as_it_was (λ r. let t = r.placed in omega arith)
        (get_or-eq_default cs' none (omega (arith, w.same_length)) ∙ sym (get_or-eq_default cs none (omega arith)))
    go (inl l) (inl m) = left_of_stepped side a bond e k (get_or cs k none) (get_or cs' k none) s l m (rw zero-add at (w.taken k l (omega arith)))

pub with_given : (side : Side) (a : Axis) (bond : Bond) (e : Entry) (cs cs' : List Exercise) → length cs ≡ 513 → with_entry side a bond e cs ≡ Ok cs'
    → (length cs' ≡ 513) × ((k : ℕ) → Left side a bond e k (get_or cs k none) (get_or cs' k none))
with_given side a bond e cs cs' n h = go (ltb e.end a.settlement) refl
  where
    go : (b : Bool) → ltb e.end a.settlement ≡ b → (length cs' ≡ 513) × ((k : ℕ) → Left side a bond e k (get_or cs k none) (get_or cs' k none))
    go true s =
        let g : cs' ≡ cs = let u = sym (with_skipped side a bond e cs s) ∙ h in cc in
        (ap length g ∙ n, λ k. as_it_was (λ r. true≢false (sym s ∙ r.not_skipped)) (ap (λ (l : List Exercise). get_or l k none) g))
    go false s =
        let w = over-given side a bond e a.steps 0 cs cs' (sym (with_walked side a bond e cs s) ∙ h) in
        (w.same_length ∙ n, left_of_walked side a bond e cs cs' n s w)

pub with_refused : (side : Side) (a : Axis) (bond : Bond) (e : Entry) (cs : List Exercise) (r : Refusal) → length cs ≡ 513 → with_entry side a bond e cs ≡ Err r
    → (k : ℕ) × Reached a e k × (call_price a bond e k ≡ Err r)
with_refused side a bond e cs r n h = go (ltb e.end a.settlement) refl
  where
    go : (b : Bool) → ltb e.end a.settlement ≡ b → (k : ℕ) × Reached a e k × (call_price a bond e k ≡ Err r)
    go true s = absurd (given_or_refused (with_skipped side a bond e cs s) h)
    go false s =
        let w = over-refused side a bond e a.steps 0 cs r (sym (with_walked side a bond e cs s) ∙ h) in
        (w.at, record { not_skipped = s; tried = w.in_count; placed = omega (arith, w.in_row); is_eligible = rw zero-add at w.reach }, rw zero-add at w.refuses)

-- ---- two bonds

module _ (side : Side) (a : Axis) (bond other : Bond) (e : Entry) where
  over_same : ((k : ℕ) → call_price a other e k ≡ call_price a bond e k) → (count step : ℕ) (cs : List Exercise)
      → over_steps side a other e count step cs ≡ over_steps side a bond e count step cs
  over_same h zero step cs = over_none side a other e step cs ∙ sym (over_none side a bond e step cs)
  over_same h (suc count) step [] = over-nil side a other e count step ∙ sym (over-nil side a bond e count step)
  over_same h (suc count) step (c ∷ cs) =
      over_cons side a other e count step c cs
      ∙ ap (λ (o : Outcome Exercise). follow o (λ c'. follow (over_steps side a other e count (suc step) cs) (λ cs'. Ok (c' ∷ cs')))) (at_same side a bond other e step c (h step))
      ∙ ap (λ (o : Outcome (List Exercise)). follow (at_step side a bond e step c) (λ c'. follow o (λ cs'. Ok (c' ∷ cs')))) (over_same h count (suc step) cs)
      ∙ sym (over_cons side a bond e count step c cs)

  -- An entry leaves the same of two bonds that give it the same prices, where it isn't skipped.
  pub with_same : (ltb e.end a.settlement ≡ false → (k : ℕ) → call_price a other e k ≡ call_price a bond e k)
      → (cs : List Exercise) → with_entry side a other e cs ≡ with_entry side a bond e cs
  with_same h cs = go (ltb e.end a.settlement) refl
    where
      go : (b : Bool) → ltb e.end a.settlement ≡ b → with_entry side a other e cs ≡ with_entry side a bond e cs
      go true s = with_skipped side a other e cs s ∙ sym (with_skipped side a bond e cs s)
      go false s = with_walked side a other e cs s ∙ over_same (h s) a.steps 0 cs ∙ sym (with_walked side a bond e cs s)
