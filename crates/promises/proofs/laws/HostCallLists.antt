-- Demand 3 of what the C functions hand back. Assumes nothing.
use Rattle.floats.specs.Reasons.{reason_number, refusal_number, refusal_place}
use Rattle.std.specs.Prelude.{ℕ, ◌≡◌, ◌⊎◌, List, map, T, length, replicate, ℤ, pos, Float, Ok, Err}
use Rattle.std.proofs.Math.Path.{refl}
use Rattle.std.proofs.Common.{sym, ap, subst, ◌∙◌, inl, inr}
use Rattle.std.specs.Float.Ieee.{le}
use Rattle.floats.specs.Refusals.{Refusal}
use Rattle.floats.specs.laws.Order.{not_le_of_lt}
use Rattle.terms.specs.Terms.{CallSchedule, Market, with_puts}
use Rattle.terms.specs.CallLists.{StrikeAbove, strike_of}
use Rattle.terms.specs.Checks.{on_check}
use Rattle.terms.specs.Entries.{tree_checks}
use Rattle.terms.specs.Numbers.{float, million}
use Rattle.floats.specs.Answers.{Outcome, Check, on_outcome}
use Rattle.terms.specs.laws.MadeLists.{AllWithin, strikes-decided}
use Rattle.terms.proofs.MadeLists.{tree-made-refused, tree-made-passed}
use Rattle.bondevents.specs.declared.GridAnswer.{GridAnswer}
use Rattle.bondevents.specs.Grid.{grid_answer}
use Rattle.bondevents.specs.declared.Side.TheVariants.{Call, Put}
use Rattle.bondevents.specs.Parts.{side_mark, side_price}
use Rattle.lattice.specs.Layers.{Room}
use Rattle.treebasedbondpricer.specs.declared.TreeValue.{TreeValue}
use Rattle.treebasedbondpricer.specs.Tree.{tree_value_over, tree_value, Lent, lent_after, number_of, place_of, value_of, counted_by, room_of}
use Rattle.treebasedbondpricer.specs.CallLists.{NoLowerOr27, accepted, refused_27}
use Rattle.treebasedbondpricer.proofs.laws.CallLists.{call_list_rule}
use Rattle.sizing.specs.declared.Lengths.{Lengths}
use Rattle.sizing.specs.Sizing.{tree_widths, sizes_from, sizes_of, nodes_after, sizes_number, sizes_place, needed}
use Rattle.brackets.specs.Brackets.{root_number, root_place, root_value, evaluations_of}
use Rattle.spreads.specs.Spreads.{quoting, spread_from_price}
use Rattle.spreads.specs.Spreads as spreads
use Rattle.closingsheet.specs.declared.ClosingLine.{ClosingLine}
use Rattle.closingsheet.specs.Sheet.{by_number, sheet_number, sheet_place, sheet_of}
use Rattle.spreadtable.specs.declared.SpreadTable.{SpreadTable}
use Rattle.spreadtable.specs.Table.{with_shift, table_of}
use Rattle.spreadtable.specs.Table as table
use Rattle.spreadtable.proofs.laws.Alike.{same_table}
use Rattle.promises.specs.RefusalNumbers.{Among, tree_refusals}
use Rattle.promises.specs.HostCallLists.{GridCall, TreeCall, SpreadCall, SheetCall, SizesCall, TableCall, HostCallListRule, SameGrids, SameValues, SameSpreads, SameLines, SameSizes, SameTables, Unchanged, HostReorderingRule, HostSizesRule}
use Rattle.promises.proofs.laws.TreeNumbers.{tree_numbers_lem}
use Rattle.promises.proofs.laws.SpreadNumbers.{passed}
use Rattle.promises.proofs.laws.SpreadReordering.{AnsweredAlike, same_spread, reordered-calls-alike}
use Rattle.promises.proofs.laws.SizingNumbers.{never_4}

-- ---- the call-list rule

-- A call with number 0 has a value: 0 is no refusal's number.
pub valued : (m : Market) (calls : CallSchedule) (room : Room) (v : Outcome TreeValue) → tree_value m calls room ≡ v → number_of v ≡ 0 → v ≡ Ok (record { value = (value_of v); nodes = (counted_by v) })
valued m calls room (Ok x) e z = refl
valued m calls room (Err q) e z = absurd (subst (Among tree_refusals) z (tree_numbers_lem m calls room q e)).is_one

no_lower : {x : Float} {v : Outcome TreeValue} → NoLowerOr27 x v → ((number_of v ≡ 0) × T (le x (value_of v))) ⊎ (number_of v ≡ 27)
no_lower (accepted l) = inl (refl, l)
no_lower refused_27 = inr refl

pub host_call_list_rule : HostCallListRule
host_call_list_rule m first second made a b as_long z =
    let p = a.handed.handed in
    let q = b.handed.handed in
    let room = room_of a.lent in
    let v = tree_value m first room in
    let w = tree_value m second room in
    let number : b.number ≡ number_of w = q.number_is ∙ ap (λ (r : Room). number_of (tree_value m second r)) as_long in
    let value : b.value ≡ value_of w = q.value_is ∙ ap (λ (r : Room). value_of (tree_value m second r)) as_long in
    let has : v ≡ Ok (record { value = (value_of v); nodes = (counted_by v) }) = valued m first room v refl (sym p.number_is ∙ z) in
    let t = call_list_rule m room first second (value_of v) (counted_by v) made has in
    record {
      with_4 = ((λ four. t.with_4.0 (sym number ∙ four)), (λ above. number ∙ t.with_4.1 above));
      otherwise = λ none. rw (number, value, p.value_is) (no_lower (t.otherwise none));
    }

-- ---- equal answers are handed back alike

pub grids-alike : {m n : Market} {first second : CallSchedule} (a : GridCall m first) (b : GridCall n second)
    → grid_answer n.settlement n.bond second n.controls ≡ grid_answer m.settlement m.bond first m.controls → SameGrids a b
grids-alike a b e =
    let p = a.handed in
    let q = b.handed in
    record {
      number = q.number_is ∙ ap (λ (g : GridAnswer). refusal_number g.refusal) e ∙ sym p.number_is;
      place = q.place_is ∙ ap (λ (g : GridAnswer). refusal_place g.refusal) e ∙ sym p.place_is;
      maturity = q.maturity_is ∙ ap (λ (g : GridAnswer). g.grid.maturity_time) e ∙ sym p.maturity_is;
      steps = q.steps_is ∙ ap (λ (g : GridAnswer). g.grid.steps) e ∙ sym p.steps_is;
      cashflows = q.cashflows_are ∙ ap (λ (g : GridAnswer). g.grid.cashflows) e ∙ sym p.cashflows_are;
      marks = q.marks_are ∙ ap (λ (g : GridAnswer). map (side_mark Call) g.grid.calls) e ∙ sym p.marks_are;
      prices = q.prices_are ∙ ap (λ (g : GridAnswer). map (side_price Call) g.grid.calls) e ∙ sym p.prices_are;
      put-marks = q.put_marks_are ∙ ap (λ (g : GridAnswer). map (side_mark Put) g.grid.calls) e ∙ sym p.put_marks_are;
      put-prices = q.put_prices_are ∙ ap (λ (g : GridAnswer). map (side_price Put) g.grid.calls) e ∙ sym p.put_prices_are;
    }

pub values-alike : {m n : Market} {first second : CallSchedule} (a : TreeCall m first) (b : TreeCall n second) → room_of b.lent ≡ room_of a.lent
    → ((room : Room) → tree_value n second room ≡ tree_value m first room) → ((lent : Lent) → lent_after n second lent ≡ lent_after m first lent) → SameValues a b
values-alike {m} {n} {first} {second} a b as_long same left =
    let p = a.handed.handed in
    let q = b.handed.handed in
    let e : tree_value n second (room_of b.lent) ≡ tree_value m first (room_of a.lent) = ap (tree_value n second) as_long ∙ same (room_of a.lent) in
    record {
      number = q.number_is ∙ ap number_of e ∙ sym p.number_is;
      place = q.place_is ∙ ap place_of e ∙ sym p.place_is;
      value = q.value_is ∙ ap value_of e ∙ sym p.value_is;
      nodes = q.nodes_is ∙ ap counted_by e ∙ sym p.nodes_is;
      slices = λ alike. b.handed.slices ∙ left b.lent ∙ ap (lent_after m first) alike ∙ sym a.handed.slices;
    }

pub spreads-alike : {m n : Market} {target : Float} {first second : CallSchedule} (a : SpreadCall m target first) (b : SpreadCall n target second) → room_of b.lent ≡ room_of a.lent
    → ((room : Room) → spread_from_price (quoting n target) second room ≡ spread_from_price (quoting m target) first room) → ((lent : Lent) → spreads.lent_after (quoting n target) second lent ≡ spreads.lent_after (quoting m target) first lent) → SameSpreads a b
spreads-alike {m} {n} {target} {first} {second} a b as_long same left =
    let p = a.handed.handed in
    let q = b.handed.handed in
    let e : spread_from_price (quoting n target) second (room_of b.lent) ≡ spread_from_price (quoting m target) first (room_of a.lent) = ap (spread_from_price (quoting n target) second) as_long ∙ same (room_of a.lent) in
    record {
      number = q.number_is ∙ ap root_number e ∙ sym p.number_is;
      place = q.place_is ∙ ap root_place e ∙ sym p.place_is;
      spread = q.value_is ∙ ap root_value e ∙ sym p.value_is;
      tried = q.evaluations_is ∙ ap evaluations_of e ∙ sym p.evaluations_is;
      slices = λ alike. b.handed.slices ∙ left b.lent ∙ ap (spreads.lent_after (quoting m target) first) alike ∙ sym a.handed.slices;
    }

pub lines-alike : {bond : ℕ} {m n : Market} {first second : CallSchedule} (a : SheetCall bond m first) (b : SheetCall bond n second) → room_of b.lent ≡ room_of a.lent
    → ((room : Room) → tree_value n second room ≡ tree_value m first room) → ((lent : Lent) → lent_after n second lent ≡ lent_after m first lent) → SameLines a b
lines-alike {bond} {m} {n} {first} {second} a b as_long same left =
    let p = a.handed.handed in
    let q = b.handed.handed in
    let e : sheet_of bond (by_number (tree_value n second (room_of b.lent))) ≡ sheet_of bond (by_number (tree_value m first (room_of a.lent))) = ap (λ (v : Outcome TreeValue). sheet_of bond (by_number v)) (ap (tree_value n second) as_long ∙ same (room_of a.lent)) in
    record {
      number = q.number_is ∙ ap (λ (s : ClosingLine). sheet_number s.refusal) e ∙ sym p.number_is;
      place = q.place_is ∙ ap (λ (s : ClosingLine). sheet_place s.refusal) e ∙ sym p.place_is;
      line = q.line_is ∙ ap (λ (s : ClosingLine). s.line) e ∙ sym p.line_is;
      slices = λ alike. b.handed.slices ∙ left b.lent ∙ ap (lent_after m first) alike ∙ sym a.handed.slices;
    }

pub sizes-alike : {m n : Market} {first second : CallSchedule} (a : SizesCall m first) (b : SizesCall n second) → length b.lent ≡ length a.lent
    → ((room : ℕ) → sizes_of n second room ≡ sizes_of m first room) → ((nodes : List ℤ) → nodes_after n second nodes ≡ nodes_after m first nodes) → SameSizes a b
sizes-alike {m} {n} {first} {second} a b as_long same left =
    let p = a.handed.handed in
    let q = b.handed.handed in
    let e : sizes_of n second (length b.lent) ≡ sizes_of m first (length a.lent) = ap (sizes_of n second) as_long ∙ same (length a.lent) in
    record {
      number = q.number_is ∙ ap sizes_number e ∙ sym p.number_is;
      place = q.place_is ∙ ap sizes_place e ∙ sym p.place_is;
      nodes = q.nodes_is ∙ ap (λ (s : Outcome Lengths). (needed s).nodes) e ∙ sym p.nodes_is;
      probabilities = q.probabilities_is ∙ ap (λ (s : Outcome Lengths). (needed s).probabilities) e ∙ sym p.probabilities_is;
      row = q.row_is ∙ ap (λ (s : Outcome Lengths). (needed s).row) e ∙ sym p.row_is;
      count = q.count_is ∙ ap (λ (s : Outcome Lengths). (needed s).count) e ∙ sym p.count_is;
      slice = λ alike. b.handed.slice ∙ left b.lent ∙ ap (nodes_after m first) alike ∙ sym a.handed.slice;
    }

-- Sizing reads calls and puts in its checks alone.
pub same_sizes : {m n : Market} {first second : CallSchedule} → tree_checks n second ≡ tree_checks m first → ((room : ℕ) → tree_widths n room ≡ tree_widths m room)
    → (a : SizesCall m first) (b : SizesCall n second) → length b.lent ≡ length a.lent → SameSizes a b
unfolding sizes_of nodes_after
same_sizes {m} {n} {first} checks as_wide a b as_long =
    sizes-alike a b as_long
    (λ room. ap (λ (c : Check). on_check c Err (on_outcome (tree_widths n room) Err sizes_from)) checks
    ∙ ap (λ (o : Outcome (List ℕ)). on_check (tree_checks m first) Err (on_outcome o Err sizes_from)) (as_wide room))
    (λ nodes. ap (λ (c : Check). on_check c (λ r. nodes) (replicate (length nodes) (pos 0))) checks)

pub tables-alike : {m n : Market} {spreads shifts : List Float} {first second : CallSchedule} (a : TableCall m spreads shifts first) (b : TableCall n spreads shifts second) → room_of b.lent ≡ room_of a.lent
    → ((room : Room) → table_of n second room spreads shifts ≡ table_of m first room spreads shifts) → SameTables a b
tables-alike {m} {n} {spreads} {shifts} {first} {second} a b as_long same =
    let p = a.handed.handed in
    let q = b.handed.handed in
    let e : table_of n second (room_of b.lent) spreads shifts ≡ table_of m first (room_of a.lent) spreads shifts = ap (λ (room : Room). table_of n second room spreads shifts) as_long ∙ same (room_of a.lent) in
    record {
      number = q.number_is ∙ ap (λ (t : SpreadTable). refusal_number t.refusal) e ∙ sym p.number_is;
      place = q.place_is ∙ ap (λ (t : SpreadTable). refusal_place t.refusal) e ∙ sym p.place_is;
      size = q.length_is ∙ ap (λ (t : SpreadTable). t.length) e ∙ sym p.length_is;
      page = q.page_is ∙ ap (λ (t : SpreadTable). t.page) e ∙ sym p.page_is;
      slices = λ alike. b.handed.slices ∙ ap (table.lent_after spreads shifts) alike ∙ sym a.handed.slices;
    }

-- ---- sizing

-- What has a value has passed its checks.
value-passed : (m : Market) (calls : CallSchedule) (room : Room) (x : Float) (n : ℕ) → tree_value m calls room ≡ Ok (record { value = x; nodes = n }) → tree_checks m calls ≡ Ok tt
unfolding tree_value tree_value_over
value-passed m calls room x n e = passed (tree_checks m calls) _ x n e

pub host_sizes_rule : HostSizesRule
unfolding sizes_of on_check
host_sizes_rule m first second made v z a b as_long =
    elim (strikes-decided first second made) [
      | inl s ↦
          let above : StrikeAbove second = record { entry = s.index; of_list = s.below; above = s.holds } in
          let (r, e, four) = tree-made-refused first second made m has-passed s in
          record { with_4 = ((λ _. above), (λ _. b.handed.handed.number_is ∙ refused_number_lem r e ∙ ap reason_number four)); otherwise = λ none. absurd (none above) }
      | inr w ↦
          let same = same_sizes (tree-made-passed first second made m has-passed w ∙ sym has-passed) (λ room. refl) a b as_long in
          record {
            with_4 = ((λ four. absurd (never_4 m first (length a.lent) has-passed (sym a.handed.handed.number_is ∙ sym same.number ∙ four))), (λ s. absurd (not_both s w)));
            otherwise = λ _. same;
          }
    ]
  where
    has-passed : tree_checks m first ≡ Ok tt
    has-passed =
        let room = room_of v.lent in
        let w = tree_value m first room in
        value-passed m first room (value_of w) (counted_by w) (valued m first room w refl (sym v.handed.handed.number_is ∙ z))

    refused_number_lem : (r : Refusal) → tree_checks m second ≡ Err r → sizes_number (sizes_of m second (length b.lent)) ≡ (reason_number r.reason)
    refused_number_lem r e = ap (λ (c : Check). sizes_number (on_check c Err (on_outcome (tree_widths m (length b.lent)) Err sizes_from))) e

    not_both : StrikeAbove second → AllWithin second → ⊥
    not_both s w = not_le_of_lt million (strike_of second s.entry) s.above (w s.entry s.of_list)

-- ---- reordering

-- Of lists answered alike nothing is changed.
pub unchanged : {m : Market} {puts first others second : CallSchedule} → AnsweredAlike m puts first others second → Unchanged (with_puts m puts) first (with_puts m others) second
unchanged {m} {puts} {first} {others} {second} same =
    record {
      grids = λ a b. grids-alike a b same.grids;
      values = λ a b as_long. values-alike a b as_long values slices;
      spreads = λ target a b as_long. let found = same_spread same target in spreads-alike a b as_long found.roots found.slices;
      lines = λ bond a b as_long. lines-alike a b as_long values slices;
      sizes = same_sizes checks (λ room. unfold tree_widths in refl);
      tables = λ spreads shifts a b as_long.
          tables-alike a b as_long
          (λ room. same_table (with_puts m puts) (with_puts m others) first second room refl (λ h s. same.values (with_shift m h).model s room) spreads shifts);
    }
  where
    checks : tree_checks (with_puts m others) second ≡ tree_checks (with_puts m puts) first
    checks = unfold tree_checks in same.checks (float 1) m

    values : (room : Room) → tree_value (with_puts m others) second room ≡ tree_value (with_puts m puts) first room
    values = same.values m.model m.spread

    slices : (lent : Lent) → lent_after (with_puts m others) second lent ≡ lent_after (with_puts m puts) first lent
    slices lent = unfold lent_after in rw checks

pub host_reordering_rule : HostReorderingRule
host_reordering_rule m first second r g z = unchanged (reordered-calls-alike m first second r (sym g.handed.number_is ∙ z))
