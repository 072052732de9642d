-- Sizing keeps its promise: of the tree value, of a closing line and of spread from price. Assumes nothing.
use Rattle.floats.specs.Reasons.{reason_number}
use Rattle.std.specs.Prelude.{ℕ, ◌≤◌, ◌≡◌, List, length, Float, Ok, Err}
use Rattle.std.proofs.Common.{arith, sym, ap, subst, ◌∙◌}
use Rattle.std.proofs.Math.Path.{refl}
use Rattle.std.specs.Float.{binary64}
use Rattle.std.specs.Float.Ieee.{div}
use Rattle.floats.specs.Refusals.{Refusal}
use Rattle.floats.specs.Answers.{not_finite, Check, Outcome}
use Rattle.floats.specs.laws.Cases.{Holds}
use Rattle.terms.specs.Numbers.{float, target_limit}
use Rattle.terms.specs.Terms.{CallSchedule, Market, with_spread}
use Rattle.terms.specs.Checks.{on_check}
use Rattle.terms.specs.Entries.{tree_checks, spread_checks}
use Rattle.terms.specs.laws.Outcomes.{given_or_refused}
use Rattle.bondevents.specs.Grid.{event_grid}
use Rattle.hullwhite.specs.Variance.{transition_variances}
use Rattle.lattice.specs.Layers.{Room}
use Rattle.lattice.specs.Lattice.{Lattice}
use Rattle.lattice.specs.laws.RoomTest.{Fitting}
use Rattle.treebasedbondpricer.specs.declared.TreeValue.{TreeValue}
use Rattle.treebasedbondpricer.specs.Tree.{Lent, room_of, lent_after, tree_value, number_of, place_of, value_of, counted_by}
use Rattle.closingsheet.specs.declared.ClosingLine.{ClosingLine}
use Rattle.closingsheet.specs.Sheet.{by_number, sheet_number, sheet_place, sheet_of}
use Rattle.spreads.specs.Spreads.{quoting, spread_from_price}
use Rattle.widths.specs.Widths.{total, widest}
use Rattle.sizing.specs.declared.Lengths.{Lengths}
use Rattle.sizing.specs.Sizing.{tree_widths, lengths_of, sizes_of, needed}
use Rattle.promises.specs.RefusalNumbers.{Among, tree_refusals}
use Rattle.promises.specs.HostCallLists.{TreeCall, SpreadCall, SheetCall, SizesCall}
use Rattle.promises.specs.Sizing.{AsLong, Shorter, fewer-nodes, fewer-probabilities, shorter_first, shorter-second, before_fit, Stops, with_21, earlier, RightLengths, lengths_in, Sized, SizingRule, Answered, answered}
use Rattle.promises.specs.Rooms.{same, first_21, second_21}
use Rattle.promises.proofs.laws.Rooms.{Alike, after, either, lattice-alike}
use Rattle.promises.proofs.laws.Numbers.{arithmetic_refusals, built_refusals, grid_refusals, OutcomeAmong, CheckAmong, wider-outcome, then_outcome, then_checked, numbers}
use Rattle.promises.proofs.laws.GridNumbers.{grid_number_lem}
use Rattle.promises.proofs.laws.LatticeNumbers.{variances-number, lattice-number}
use Rattle.promises.proofs.laws.TreeNumbers.{checks-tree}
use Rattle.promises.proofs.laws.SizedValues.{layers_at, ValueSized, was_laid, had_no_room, stopped, Ends, after-layers, without_room, before-layers, ends_not_21, refusal_of, value-ends, tree-ends, value-sized, counted_as}
use Rattle.promises.proofs.laws.SizedSpreads.{root_refusal, widths_any_spread, spread-ends}
use Rattle.promises.proofs.laws.SizingNumbers.{accepted}
use Rattle.promises.proofs.laws.HostCallLists.{valued}
use Rattle.promises.proofs.laws.ClosingSheet.{Shows, a_refusal, too_wide, a_value, shows}
use Rattle.floats.specs.declared.Reason.TheVariants as reason

-- ---- lengths and room

long-fits : (ws : List ℕ) {room : Room} → AsLong (lengths_of ws) room → Fitting room (total ws) (widest ws)
long-fits ws a = record { pairs = a.nodes; threes = a.probabilities; first = a.first; second = a.second }

short-never-fits : (ws : List ℕ) {room : Room} → Shorter (lengths_of ws) room → Fitting room (total ws) (widest ws) → ⊥
short-never-fits ws (fewer-nodes h) f = omega (arith, h, f.pairs)
short-never-fits ws (fewer-probabilities h) f = omega (arith, h, f.threes)
short-never-fits ws (shorter_first h) f = omega (arith, h, f.first)
short-never-fits ws (shorter-second h) f = omega (arith, h, f.second)

-- Layers, and all that stands before the fit, are the same in two rooms, or one of them is short.
pub layers-alike : (m : Market) (a b : Room) (maturity : Float) (steps : ℕ) → Alike (layers_at m a maturity steps) (layers_at m b maturity steps)
layers-alike m a b maturity steps =
    let dt = div binary64 maturity (float steps) in
    either (not_finite dt) _ _ _ _ same
    (after (transition_variances m.model steps dt) _ _ λ vs. lattice-alike a b m.model.alpha dt vs)

before-alike : (c : Check) (m : Market) (calls : CallSchedule) (a b : Room) → Alike (before_fit c m calls a) (before_fit c m calls b)
unfolding before_fit on_check
before-alike (Ok tt) m calls a b =
    after (event_grid m.settlement m.bond calls m.controls) _ _ λ g. layers-alike m a b g.maturity_time g.steps
before-alike (Err q) m calls a b = same

-- ---- 0 is no refusal's number

layers-number : (m : Market) (room : Room) (maturity : Float) (steps : ℕ) → Holds (OutcomeAmong built_refusals) (layers_at m room maturity steps)
layers-number m room maturity steps =
    let dt = div binary64 maturity (float steps) in
    let variances = wider-outcome arithmetic_refusals built_refusals refl _ (variances-number m.model dt steps 0) in
    search (variances, lattice-number, numbers)

before-number : (c : Check) (m : Market) (calls : CallSchedule) → Holds (CheckAmong tree_refusals) c → (room : Room) → Holds (OutcomeAmong tree_refusals) (before_fit c m calls room)
unfolding before_fit
before-number c m calls h room =
    let grid = wider-outcome grid_refusals tree_refusals refl _ (grid_number_lem m.settlement m.bond calls m.controls) in
    then_checked c _ h (then_outcome _ _ grid λ g. wider-outcome built_refusals tree_refusals refl _ (layers-number m room g.maturity_time g.steps))

pub tree_checks-number : (m : Market) (calls : CallSchedule) → Holds (CheckAmong tree_refusals) (tree_checks m calls)
unfolding tree_checks
tree_checks-number m calls = checks-tree (float 1) m calls

spread_checks-number : (m : Market) (calls : CallSchedule) → Holds (CheckAmong tree_refusals) (spread_checks m calls)
unfolding spread_checks
spread_checks-number m calls = checks-tree target_limit m calls

no_refusal_0 : {o : Outcome Lattice} {q : Refusal} → Holds (OutcomeAmong tree_refusals) o → o ≡ Err q → reason_number q.reason ≡ 0 → ⊥
no_refusal_0 h e z = (subst (Among tree_refusals) z (subst (OutcomeAmong tree_refusals) e h.it)).is_one

-- ---- one function's calls

first_of : {room : Room} {ws : List ℕ} {o : Outcome Lattice} {r : Answered} {q : Refusal} → Ends room ws o r → o ≡ Err q → r ≡ answered q
first_of (after-layers f ne) e = absurd (given_or_refused refl e)
first_of {q = q} (without_room {k = k} ne) e = let p : record { reason = reason.NoRoom; place = k } ≡ q = cc in ap answered p
first_of {q = q} (before-layers {q = first} ne) e = let p : first ≡ q = cc in ap answered p

ample_too : {room : Room} {ws : List ℕ} {o p : Outcome Lattice} {r : Answered} {q : Refusal} → Fitting room (total ws) (widest ws) → (reason_number q.reason ≡ 21 → ⊥) → Alike o p → o ≡ Err q → Ends room ws p r → p ≡ Err q
ample_too fit ne same e x = e
ample_too {q = q} fit ne (first_21 {place = k}) e x = let of-21 : record { reason = reason.NoRoom; place = k } ≡ q = cc in absurd (ne (sym (ap (λ (r : Refusal). reason_number r.reason) of-21)))
ample_too fit ne second_21 e (without_room none) = absurd (none fit)
ample_too fit ne second_21 e (before-layers other) = absurd (other refl)

module _ (ws : List ℕ) (before : Room → Outcome Lattice) (answers : Room → Answered) (ends : (room : Room) → Ends room ws (before room) (answers room)) (both : (a b : Room) → Alike (before a) (before b)) (numbered : (room : Room) → Holds (OutcomeAmong tree_refusals) (before room)) where
  stops : (room : Room) → Shorter (lengths_of ws) room → Stops (lengths_of ws) before (answers room)
  stops room s = go refl (ends room)
    where
      go : {o : Outcome Lattice} {q : Answered} → before room ≡ o → Ends room ws o q → Stops (lengths_of ws) before q
      go e (after-layers f ne) = absurd (short-never-fits ws s f)
      go e (without_room ne) = with_21
      go e (before-layers ne) = earlier ne (no_refusal_0 (numbered room) e) λ ample a. ample_too (long-fits ws a) ne (both room ample) e (ends ample)

  right : (Call : Type 0) (lent : Call → Lent) (refusal : Call → Answered) → ((c : Call) → refusal c ≡ answers (room_of (lent c))) → RightLengths (lengths_of ws) before Call lent refusal
  right Call lent refusal is =
      record {
        never_21 = λ c a n. ends_not_21 (long-fits ws a) (ends (room_of (lent c))) (ap (λ (q : Answered). q.number) (sym (is c)) ∙ n);
        shorter = λ c s. rw (is c) (stops (room_of (lent c)) s);
        first_cause = λ c q e. is c ∙ first_of (ends (room_of (lent c))) e;
      }

-- ---- a line in range

-- Where there is a value, all layers were laid.
value-laid : {room : Room} {ws : List ℕ} {o : Outcome Lattice} {v : Outcome TreeValue} {x : Float} {n : ℕ} {q : Answered} → ValueSized room ws o v → v ≡ Ok (record { value = x; nodes = n }) → (q.number ≡ 21 → ⊥) → Ends room ws o q
value-laid (was_laid f c) e ne = after-layers f ne
value-laid (had_no_room short) e ne = absurd (let z : ◌≡◌ {A = ℕ} 0 1 = cc in omega arith)
value-laid (stopped other) e ne = absurd (let z : ◌≡◌ {A = ℕ} 0 1 = cc in omega arith)

-- What is handed back of a line's refusal.
abbrev line_refusal : ClosingLine → Answered
line_refusal s = record { number = sheet_number s.refusal; place = sheet_place s.refusal }

-- A line ends as its value does.
line-ends : {room : Room} {ws : List ℕ} {o : Outcome Lattice} {bond : ℕ} {v : Outcome TreeValue} {s : ClosingLine} → ValueSized room ws o v → Shows bond (by_number v) s → Ends room ws o (line_refusal s)
line-ends {v = Err q} z a_refusal = value-ends z
line-ends {v = Ok x} z (too_wide h) = value-laid z refl λ e. omega (arith, e)
line-ends {v = Ok x} z (a_value w h) = value-laid z refl λ e. omega (arith, e)

-- ---- the calls of a bond that was sized

module _ (m : Market) (calls : CallSchedule) (slice : ℕ) (ws : List ℕ) (e : tree_widths m slice ≡ Ok ws) where
  known : (s : Float) → tree_widths (with_spread m s) slice ≡ Ok ws
  known s = widths_any_spread m s slice ∙ e

  -- What stands before the fit doesn't read the spread.
  same_before : (c : Check) (s : Float) (room : Room) → before_fit c (with_spread m s) calls room ≡ before_fit c m calls room
  unfolding before_fit
  same_before c s room = refl

  tree_right : (s : Float) → RightLengths (lengths_of ws) (before_fit (tree_checks (with_spread m s) calls) m calls) (TreeCall (with_spread m s) calls) (λ c. c.lent) (λ c. record { number = c.number; place = c.place })
  tree_right s =
      right ws _ (λ room. refusal_of (tree_value (with_spread m s) calls room))
      (λ room. rw (← same_before (tree_checks (with_spread m s) calls) s room) (tree-ends (with_spread m s) calls slice room ws (known s)))
      (before-alike (tree_checks (with_spread m s) calls) m calls)
      (before-number (tree_checks (with_spread m s) calls) m calls (tree_checks-number (with_spread m s) calls))
      _ _ _ λ c. rw (c.handed.handed.number_is, c.handed.handed.place_is)

  line_right : (bond : ℕ) (s : Float) → 1 ≤ bond → bond ≤ 999999
      → RightLengths (lengths_of ws) (before_fit (tree_checks (with_spread m s) calls) m calls) (SheetCall bond (with_spread m s) calls) (λ c. c.lent) (λ c. record { number = c.number; place = c.place })
  line_right bond s f l =
      right ws _ (λ room. line_refusal (sheet_of bond (by_number (tree_value (with_spread m s) calls room))))
      (λ room. rw (← same_before (tree_checks (with_spread m s) calls) s room) (line-ends (value-sized (with_spread m s) calls slice room ws (known s)) (shows bond (by_number (tree_value (with_spread m s) calls room)) f l)))
      (before-alike (tree_checks (with_spread m s) calls) m calls)
      (before-number (tree_checks (with_spread m s) calls) m calls (tree_checks-number (with_spread m s) calls))
      _ _ _ λ c. rw (c.handed.handed.number_is, c.handed.handed.place_is)

  spread_right : (t : Float) → RightLengths (lengths_of ws) (before_fit (spread_checks (with_spread m t) calls) m calls) (SpreadCall m t calls) (λ c. c.lent) (λ c. record { number = c.number; place = c.place })
  spread_right t =
      right ws _ (λ room. root_refusal (spread_from_price (quoting m t) calls room))
      (λ room. rw (← same_before (spread_checks (with_spread m t) calls) t room) (spread-ends (quoting m t) calls slice room ws (known t)))
      (before-alike (spread_checks (with_spread m t) calls) m calls)
      (before-number (spread_checks (with_spread m t) calls) m calls (spread_checks-number (with_spread m t) calls))
      _ _ _ λ c. rw (c.handed.handed.number_is, c.handed.handed.place_is)

  counts : (s : Float) (c : TreeCall (with_spread m s) calls) → c.number ≡ 0 → c.nodes ≡ total ws
  counts s c z =
      let room = room_of c.lent in
      let v = tree_value (with_spread m s) calls room in
      let p = c.handed.handed in
      p.nodes_is ∙ counted_as (value-sized (with_spread m s) calls slice room ws (known s)) (valued (with_spread m s) calls room v refl (sym p.number_is ∙ z))

  sized : Sized m calls (lengths_of ws)
  sized = record { values = tree_right; counts = counts; lines = line_right; spreads = spread_right }

-- The lengths that are handed back.
handed_lengths : {m : Market} {calls : CallSchedule} (s : SizesCall m calls) → lengths_in s ≡ needed (sizes_of m calls (length s.lent))
handed_lengths s = let p = s.handed.handed in rw (p.nodes_is, p.probabilities_is, p.row_is, p.count_is)

-- What stops in short slices isn't accepted.
pub stops_not_0 : {l : Lengths} {before : Room → Outcome Lattice} {q : Answered} → Stops l before q → q.number ≡ 0 → ⊥
stops_not_0 with_21 z = omega (arith, z)
stops_not_0 (earlier ne some ample) z = some z

pub sizing_rule : SizingRule
sizing_rule m calls s z =
    let (ws, e, f) = accepted m calls (length s.lent) (sym s.handed.handed.number_is ∙ z) in
    subst (Sized m calls) (sym (handed_lengths s ∙ ap needed f)) (sized m calls (length s.lent) ws e)

-- ---- any terms in any slices have a call

abbrev pub called : (m : Market) (calls : CallSchedule) (lent : Lent) → TreeCall m calls
called m calls lent =
    let v = tree_value m calls (room_of lent) in
    record {
      lent = lent;
      left = lent_after m calls lent;
      number = number_of v;
      place = place_of v;
      value = value_of v;
      nodes = counted_by v;
      handed = record { handed = record { number_is = refl; place_is = refl; value_is = refl; nodes_is = refl }; slices = refl };
    }
