-- Without puts every answer is the old one. Assumes nothing.
use Rattle.std.specs.Prelude.{ℕ, zero, suc, ◌≡◌, Bool, true, false, not, ◌&&◌, List, [], ◌∷◌, map, length, get_or, replicate, T, ℤ, pos, Ok, Err, Some, None}
use Rattle.std.proofs.Math.Path.{refl, ap, fun_ext}
use Rattle.std.proofs.Common.{sym, ◌∙◌, inl, inr}
use Rattle.std.proofs.Math.Bool.{cond}
use Rattle.std.proofs.Math.ListN.{get_or-map}
use Rattle.std.specs.Float.Ieee.{Float, binary64, sub, neg, lt}
use Rattle.floats.specs.Refusals.{Refusal}
use Rattle.floats.specs.Answers.{Answer, plus_zero, one, refusal, tested, Check, Outcome, follow, on_outcome}
use Rattle.terms.specs.declared.Settlement.{Settlement}
use Rattle.terms.specs.Numbers.{float, target_limit}
use Rattle.terms.specs.Terms.{CallSchedule, Bond, TimeGrid, Market, no_entries, bond_with_puts, with_puts}
use Rattle.terms.specs.Checks.{on_check, first_of, lowest}
use Rattle.terms.specs.CallLists.{Entries}
use Rattle.terms.specs.Entries as entries
use Rattle.terms.specs.laws.Outcomes.{outcome-cases, follow-given, follow-refused}
use Rattle.terms.specs.laws.Sequence.{indexed_of_none}
use Rattle.terms.specs.laws.GridChecks.{grid-calls}
use Rattle.terms.specs.laws.TreeChecks.{tree-grid, spread_is}
use Rattle.bondevents.specs.declared.Side.TheVariants.{Call, Put}
use Rattle.bondevents.specs.declared.Exercise.{Exercise}
use Rattle.bondevents.specs.declared.CallStep.{CallStep}
use Rattle.bondevents.specs.declared.BondEventGrid.{BondEventGrid}
use Rattle.bondevents.specs.declared.GridAnswer.{GridAnswer}
use Rattle.bondevents.specs.Steps.{Axis, step_cashflows}
use Rattle.bondevents.specs.Calls.{Entry, none, new_step, kept, keep, over_steps, with_entry, over_entries, exercises, joined, put_above, puts_below, call_steps}
use Rattle.bondevents.specs.Grid.{axis_of, event_grid, grid_answer, refused_grid, accepted_grid}
use Rattle.bondevents.proofs.laws.SamePrices.{exercises-unread}
use Rattle.bondevents.proofs.laws.LowestPrices.{lowest-prices}
use Rattle.bondevents.proofs.laws.CallSteps.{of_parts, refused-of_calls}
use Rattle.bondevents.proofs.laws.Grids.{grid_of, grid_is}
use Rattle.bondevents.proofs.laws.GridAnswers.{call-entries}
use Rattle.lattice.specs.declared.Transition.{Transition}
use Rattle.lattice.specs.Layers.{At, value_at, Room}
use Rattle.lattice.specs.Lattice.{Layer, node_count}
use Rattle.backwardinduction.specs.Walk.{node_value, rolled, walk_from}
use Rattle.treebasedbondpricer.specs.declared.TreeValue.{TreeValue}
use Rattle.treebasedbondpricer.specs.Tree.{fitted_tree, lattice_value_over, lattice_value, tree_value_over, tree_value, Lent, zeroed, lent_after}
use Rattle.closingsheet.specs.Sheet.{by_number, sheet_of}
use Rattle.sizing.specs.Sizing.{tree_widths, sizes_from, sizes_of, nodes_after}
use Rattle.brackets.specs.Brackets.{no_root, bracketed_root}
use Rattle.sought.specs.Objectives.{first_lower, first_upper}
use Rattle.spreads.specs.Spreads.{Quoted, at_spread, quoted_checks, on_tree_value, spread_objective, solve_spread, spread_from_price}
use Rattle.spreads.specs.Spreads as spreads
use Rattle.promises.specs.Callable as callable
use Rattle.promises.specs.Puts.{unput, as_grid, asked_with_puts, WithoutPuts}
use Rattle.floats.specs.declared.Reason.TheVariants as reason

-- ---- the checks

grid_checks_lem : (settlement : Settlement) (bond : Bond) (calls : CallSchedule) (controls : TimeGrid) → entries.grid_checks settlement (bond_with_puts bond no_entries) calls controls ≡ callable.grid_checks settlement bond calls controls
unfolding entries.grid_checks callable.grid_checks first_of on_check lowest
grid_checks_lem settlement bond calls controls = refl

market_checks_lem : (limit : Float) (m : Market) (calls : CallSchedule) → entries.market_checks limit (with_puts m no_entries) calls ≡ callable.market_checks limit m calls
unfolding entries.market_checks callable.market_checks first_of on_check lowest
market_checks_lem limit m calls = refl

tree_checks_lem : (m : Market) (calls : CallSchedule) → entries.tree_checks (with_puts m no_entries) calls ≡ callable.market_checks (float 1) m calls
unfolding entries.tree_checks
tree_checks_lem m calls = market_checks_lem (float 1) m calls

-- ---- the calls of each step

same_steps_lem : (a : Axis) (bond : Bond) (e : Entry) (count step : ℕ) (cs : List Exercise) → over_steps Call a bond e count step cs ≡ callable.over_steps a bond e count step cs
unfolding over_steps callable.over_steps keep kept callable.keep_lowest
same_steps_lem a bond e zero step cs = refl
same_steps_lem a bond e (suc count) step [] = refl
same_steps_lem a bond e (suc count) step (c ∷ cs) = rw (same_steps_lem a bond e count (suc step) cs)

same_entry : (a : Axis) (bond : Bond) (e : Entry) (cs : List Exercise) → with_entry Call a bond e cs ≡ callable.with_entry a bond e cs
unfolding with_entry callable.with_entry
same_entry a bond e cs = rw (same_steps_lem a bond e a.steps 0 cs)

follow-alike : {A B : Type 0} (o : Outcome A) (f g : A → Outcome B) → ((x : A) → f x ≡ g x) → follow o f ≡ follow o g
unfolding on_outcome
follow-alike (Ok x) f g h = h x
follow-alike (Err r) f g h = refl

same_entries : (a : Axis) (bond : Bond) (ss es : List ℕ) (ks : List Float) (cs : List Exercise) → over_entries Call a bond ss es ks cs ≡ callable.over_entries a bond ss es ks cs
unfolding over_entries callable.over_entries
same_entries a bond [] es ks cs = refl
same_entries a bond (s ∷ ss) [] ks cs = refl
same_entries a bond (s ∷ ss) (e ∷ es) [] cs = refl
same_entries a bond (s ∷ ss) (e ∷ es) (k ∷ ks) cs =
    ap (λ (o : Outcome (List Exercise)). follow o λ cs. over_entries Call a bond ss es ks cs) (same_entry a bond (record { start = s; end = e; strike = k }) cs)
    ∙ follow-alike (callable.with_entry a bond (record { start = s; end = e; strike = k }) cs) _ _ (λ cs. same_entries a bond ss es ks cs)

called : (a : Axis) (bond : Bond) (calls : CallSchedule) → exercises Call a (bond_with_puts bond no_entries) calls ≡ callable.call_steps a bond calls
called a bond calls = exercises-unread Call a bond no_entries calls ∙ same_entries a bond calls.starts calls.ends calls.strikes (replicate 513 none)

no_puts : (a : Axis) (bond : Bond) → exercises Put a bond no_entries ≡ Ok (replicate 513 none)
no_puts a bond = unfold over_entries in refl

-- ---- the steps of the grid

beside_none : (cs : List Exercise) → joined cs (replicate (length cs) none) ≡ map unput cs
unfolding joined
beside_none [] = refl
beside_none (c ∷ cs) = ap (λ (z : List CallStep). unput c ∷ z) (beside_none cs)

none_above : (c : Exercise) → T (not (put_above (unput c)))
none_above c = go c.marked
  where
    go : (b : Bool) → T (not ((b && false) && lt c.price plus_zero))
    go true = tt
    go false = tt

none-refused : (cs : List Exercise) → puts_below (map unput cs) ≡ Ok tt
none-refused cs =
    indexed_of_none reason.PutAbove (λ k. put_above (get_or (map unput cs) k new_step)) (map unput cs) λ k l.
    rw (get_or-map unput cs k none) (none_above (get_or cs k none))

-- The steps that are given, of as many places as the grid has.
given-steps : (a : Axis) (bond : Bond) (calls : CallSchedule) (cs : List Exercise) → length cs ≡ 513 → exercises Call a (bond_with_puts bond no_entries) calls ≡ Ok cs → call_steps a (bond_with_puts bond no_entries) calls ≡ Ok (map unput cs)
given-steps a bond calls cs n h =
    let e : joined cs (replicate 513 none) ≡ map unput cs = ap (λ (k : ℕ). joined cs (replicate k none)) (sym n) ∙ beside_none cs in
    of_parts a (bond_with_puts bond no_entries) calls cs (replicate 513 none) h (no_puts a (bond_with_puts bond no_entries)) (ap puts_below e ∙ none-refused cs) ∙ ap Ok e

-- The grid: the old one in the new record.
abbrev as_grid_of : callable.Grid → BondEventGrid
as_grid_of g = record { maturity_time = g.maturity; steps = g.steps; cashflows = g.cashflows; calls = map unput g.calls }

-- The old grid of calls that are given.
abbrev old_grid : Axis → Bond → List Exercise → callable.Grid
old_grid a bond cs = record { maturity = a.maturity; steps = a.steps; cashflows = step_cashflows a bond.leg; calls = cs }

old_grid_lem : (settlement : Settlement) (bond : Bond) (calls : CallSchedule) (controls : TimeGrid)
    → callable.event_grid settlement bond calls controls
    ≡ follow (exercises Call (axis_of settlement bond.leg controls) (bond_with_puts bond no_entries) calls) λ cs. Ok (old_grid (axis_of settlement bond.leg controls) bond cs)
unfolding callable.event_grid
old_grid_lem settlement bond calls controls =
    let a = axis_of settlement bond.leg controls in
    sym (ap (λ (o : Outcome (List Exercise)). follow o λ cs. Ok (old_grid a bond cs)) (called a bond calls))

same_grid_lem : (settlement : Settlement) (bond : Bond) (calls : CallSchedule) (controls : TimeGrid) → Entries calls → event_grid settlement (bond_with_puts bond no_entries) calls controls ≡ follow (callable.event_grid settlement bond calls controls) λ g. Ok (as_grid_of g)
same_grid_lem settlement bond calls controls n =
    let a = axis_of settlement bond.leg controls in
    let other = bond_with_puts bond no_entries in
    elim (outcome-cases (exercises Call a other calls)) [
      | inl (cs, e) ↦
          let old : callable.event_grid settlement bond calls controls ≡ Ok (old_grid a bond cs) = old_grid_lem settlement bond calls controls ∙ follow-given (exercises Call a other calls) (λ cs. Ok (old_grid a bond cs)) e in
          grid_is settlement other calls controls
          ∙ follow-given (call_steps a other calls) (λ steps. Ok (grid_of a other steps)) (given-steps a bond calls cs (lowest-prices Call a other calls n cs e).row e)
          ∙ sym (follow-given (callable.event_grid settlement bond calls controls) (λ g. Ok (as_grid_of g)) old)
      | inr (r, e) ↦
          let old : callable.event_grid settlement bond calls controls ≡ Err r = old_grid_lem settlement bond calls controls ∙ follow-refused (exercises Call a other calls) (λ cs. Ok (old_grid a bond cs)) e in
          grid_is settlement other calls controls
          ∙ follow-refused (call_steps a other calls) (λ steps. Ok (grid_of a other steps)) (refused-of_calls a other calls r e)
          ∙ sym (follow-refused (callable.event_grid settlement bond calls controls) (λ g. Ok (as_grid_of g)) old)
    ]

unput-none : (n : ℕ) → map unput (replicate n none) ≡ replicate n new_step
unput-none zero = refl
unput-none (suc n) = ap (λ (z : List CallStep). new_step ∷ z) (unput-none n)

-- What is made of the checks and of the grid.
abbrev new_answer : Check → Outcome BondEventGrid → GridAnswer
new_answer c o = on_check c refused_grid (on_outcome o refused_grid accepted_grid)

abbrev old_answer : Check → Outcome callable.Grid → callable.GridAnswer
old_answer c o = on_check c (λ r. record { refusal = Some r; grid = callable.zero_grid }) (on_outcome o (λ r. record { refusal = Some r; grid = callable.zero_grid }) λ g. record { refusal = None; grid = g })

zero-grids : (r : Refusal) → refused_grid r ≡ as_grid (record { refusal = Some r; grid = callable.zero_grid })
zero-grids r = ap (λ (z : List CallStep). record { refusal = Some r; grid = record { maturity_time = plus_zero; steps = 0; cashflows = replicate 513 plus_zero; calls = z } }) (sym (unput-none 513))

answers : (c : Check) (o : Outcome callable.Grid) → new_answer c (follow o λ g. Ok (as_grid_of g)) ≡ as_grid (old_answer c o)
unfolding on_check on_outcome
answers (Err r) o = zero-grids r
answers (Ok tt) (Ok g) = refl
answers (Ok tt) (Err r) = zero-grids r

same_answer : (settlement : Settlement) (bond : Bond) (calls : CallSchedule) (controls : TimeGrid) → grid_answer settlement (bond_with_puts bond no_entries) calls controls ≡ as_grid (callable.grid_answer settlement bond calls controls)
unfolding grid_answer callable.grid_answer on_check
same_answer settlement bond calls controls = go (entries.grid_checks settlement other calls controls) refl
  where
    other : Bond
    other = bond_with_puts bond no_entries

    go : (c : Check) → entries.grid_checks settlement other calls controls ≡ c → grid_answer settlement other calls controls ≡ as_grid (callable.grid_answer settlement bond calls controls)
    go (Err r) e =
        ap (λ (c : Check). new_answer c (event_grid settlement other calls controls)) e
        ∙ zero-grids r
        ∙ sym (ap (λ (c : Check). as_grid (old_answer c (callable.event_grid settlement bond calls controls))) (sym (grid_checks_lem settlement bond calls controls) ∙ e))
    go (Ok tt) e =
        ap (λ (o : Outcome BondEventGrid). new_answer (entries.grid_checks settlement other calls controls) o) (same_grid_lem settlement bond calls controls (call-entries calls (grid-calls settlement other calls controls e)))
        ∙ answers (entries.grid_checks settlement other calls controls) (callable.event_grid settlement bond calls controls)
        ∙ ap (λ (c : Check). as_grid (old_answer c (callable.event_grid settlement bond calls controls))) (grid_checks_lem settlement bond calls controls)

-- ---- the walk

same_node : (spacing dt shift spread cashflow : Float) (c : Exercise) (n : ℤ) (t : Transition) (next : List At) (place : ℕ)
    → node_value (record { spacing = spacing; dt = dt; shift = shift; spread = spread; call = unput c; cashflow = cashflow }) n t next place
    ≡ callable.node_value (record { spacing = spacing; dt = dt; shift = shift; spread = spread; call = c; cashflow = cashflow }) n t next place
unfolding node_value callable.node_value
same_node spacing dt shift spread cashflow c n t next place = refl

same_layer : (spacing dt shift spread cashflow : Float) (c : Exercise) (ns : List ℤ) (ts : List Transition) (next : List At) (place : ℕ)
    → rolled (record { spacing = spacing; dt = dt; shift = shift; spread = spread; call = unput c; cashflow = cashflow }) ns ts next place
    ≡ callable.rolled (record { spacing = spacing; dt = dt; shift = shift; spread = spread; call = c; cashflow = cashflow }) ns ts next place
unfolding rolled callable.rolled node_value callable.node_value
same_layer spacing dt shift spread cashflow c [] ts next place = refl
same_layer spacing dt shift spread cashflow c (n ∷ ns) [] next place = refl
same_layer spacing dt shift spread cashflow c (n ∷ ns) (t ∷ ts) next place = rw (same_layer spacing dt shift spread cashflow c ns ts next place)

same_walk : (dt spread : Float) (cashflows : List Float) (cs : List Exercise) (k : ℕ) (layers : List Layer) (shifts : List Float) (final : List ℤ)
    → walk_from dt spread cashflows (map unput cs) k layers shifts final ≡ callable.walk_from dt spread cashflows cs k layers shifts final
unfolding walk_from callable.walk_from
same_walk dt spread cashflows cs k [] shifts final = refl
same_walk dt spread cashflows cs k (l ∷ layers) [] final = refl
same_walk dt spread cashflows cs k (l ∷ layers) (shift ∷ shifts) final =
    rw (same_walk dt spread cashflows cs (suc k) layers shifts final, get_or-map unput cs k none)
    (follow-alike (callable.walk_from dt spread cashflows cs (suc k) layers shifts final) _ _
    (λ next. same_layer l.spacing dt shift spread (get_or cashflows k plus_zero) (get_or cs k none) l.nodes l.transitions next k))

-- ---- the tree value

same_tree : (m : Market) (room : Room) (g : callable.Grid) → lattice_value (with_puts m no_entries) room (as_grid_of g) ≡ callable.lattice_value m room g
unfolding lattice_value_over callable.lattice_value
same_tree m room g =
    follow-alike (fitted_tree m room g.maturity g.steps) _ _
    (λ f. ap (λ (o : Outcome (List At)). follow o λ row. Ok (Ok (record { value = (value_at (pos 0) row); nodes = (node_count f.tree) }))) (same_walk f.dt m.spread g.cashflows g.calls 0 f.tree.layers f.shifts f.tree.final))

-- What is made of the checks, the grid and the tree.
values : (c : Check) (m : Market) (room : Room) (o : Outcome callable.Grid)
    → on_check c Err (on_outcome (follow (follow o λ g. Ok (as_grid_of g)) λ g. lattice_value (with_puts m no_entries) room g) Err λ v. v)
    ≡ on_check c Err (on_outcome (follow o λ g. callable.lattice_value m room g) Err λ v. v)
unfolding on_check on_outcome
values (Err r) m room o = refl
values (Ok tt) m room (Ok g) = ap (λ (v : Outcome (Outcome TreeValue)). on_outcome v Err λ v. v) (same_tree m room g)
values (Ok tt) m room (Err r) = refl

same_value_lem : (m : Market) (calls : CallSchedule) (room : Room) → tree_value (with_puts m no_entries) calls room ≡ callable.tree_value m calls room
unfolding tree_value tree_value_over callable.tree_value on_check
same_value_lem m calls room = go (entries.tree_checks (with_puts m no_entries) calls) refl
  where
    old : Outcome callable.Grid
    old = callable.event_grid m.settlement m.bond calls m.controls

    go : (c : Check) → entries.tree_checks (with_puts m no_entries) calls ≡ c → tree_value (with_puts m no_entries) calls room ≡ callable.tree_value m calls room
    go (Err r) e =
        ap (λ (c : Check). on_check c Err (on_outcome (follow (event_grid m.settlement (bond_with_puts m.bond no_entries) calls m.controls) λ g. lattice_value (with_puts m no_entries) room g) Err λ v. v)) e
        ∙ sym (ap (λ (c : Check). on_check c Err (on_outcome (follow old λ g. callable.lattice_value m room g) Err λ v. v)) (sym (tree_checks_lem m calls) ∙ e))
    go (Ok tt) e =
        ap (λ (o : Outcome BondEventGrid). on_check (entries.tree_checks (with_puts m no_entries) calls) Err (on_outcome (follow o λ g. lattice_value (with_puts m no_entries) room g) Err λ v. v))
        (same_grid_lem m.settlement m.bond calls m.controls (call-entries calls (grid-calls m.settlement (bond_with_puts m.bond no_entries) calls m.controls (tree-grid (with_puts m no_entries) calls e))))
        ∙ values (entries.tree_checks (with_puts m no_entries) calls) m room old
        ∙ ap (λ (c : Check). on_check c Err (on_outcome (follow old λ g. callable.lattice_value m room g) Err λ v. v)) (tree_checks_lem m calls)

same_slices : (m : Market) (calls : CallSchedule) (lent : Lent) → lent_after (with_puts m no_entries) calls lent ≡ callable.lent_after m calls lent
unfolding lent_after callable.lent_after
same_slices m calls lent = ap (λ (c : Check). on_check c (λ r. lent) (zeroed lent)) (tree_checks_lem m calls)

-- ---- sizing

same_widths : (m : Market) (room : ℕ) → tree_widths (with_puts m no_entries) room ≡ tree_widths m room
unfolding tree_widths
same_widths m room = refl

same_sizes : (m : Market) (calls : CallSchedule) (room : ℕ) → sizes_of (with_puts m no_entries) calls room ≡ callable.sizes_of m calls room
unfolding sizes_of callable.sizes_of
same_sizes m calls room =
    ap (λ (c : Check). on_check c Err (on_outcome (tree_widths (with_puts m no_entries) room) Err sizes_from)) (tree_checks_lem m calls)
    ∙ ap (λ (o : Outcome (List ℕ)). on_check (callable.market_checks (float 1) m calls) Err (on_outcome o Err sizes_from)) (same_widths m room)

same_nodes : (m : Market) (calls : CallSchedule) (nodes : List ℤ) → nodes_after (with_puts m no_entries) calls nodes ≡ callable.nodes_after m calls nodes
unfolding nodes_after callable.nodes_after
same_nodes m calls nodes = ap (λ (c : Check). on_check c (λ r. nodes) (replicate (length nodes) (pos 0))) (tree_checks_lem m calls)

-- ---- spread from price

module _ (asked : Quoted) (calls : CallSchedule) where
  quoted_checks_lem : quoted_checks (asked_with_puts asked no_entries) calls ≡ callable.market_checks target_limit (at_spread asked asked.target) calls
  quoted_checks_lem = spread_is (at_spread (asked_with_puts asked no_entries) asked.target) calls ∙ market_checks_lem target_limit (at_spread asked asked.target) calls

  same_try : (room : Room) (x : Float) → spread_objective (asked_with_puts asked no_entries) calls room x ≡ callable.spread_objective asked calls room x
  unfolding spread_objective callable.spread_objective
  same_try room x = ap (λ (v : Outcome TreeValue). cond (lt one x) (refusal reason.SpreadAbove 0) (on_tree_value v Err λ y. tested (sub binary64 y asked.target) 0)) (same_value_lem (at_spread asked x) calls room)

  same_root : (room : Room) → spread_from_price (asked_with_puts asked no_entries) calls room ≡ callable.spread_from_price asked calls room
  unfolding spread_from_price callable.spread_from_price
  same_root room =
      ap (λ (c : Check). on_check c (λ r. no_root r 0) (solve_spread (asked_with_puts asked no_entries) calls room)) quoted_checks_lem
      ∙ ap (λ (f : Float → Answer). on_check (callable.market_checks target_limit (at_spread asked asked.target) calls) (λ r. no_root r 0) (bracketed_root f first_lower first_upper (neg one))) (fun_ext (same_try room))

  same_spread_slices : (lent : Lent) → spreads.lent_after (asked_with_puts asked no_entries) calls lent ≡ callable.lent_after_spread asked calls lent
  unfolding spreads.lent_after callable.lent_after_spread
  same_spread_slices lent = ap (λ (c : Check). on_check c (λ r. lent) (zeroed lent)) quoted_checks_lem

pub without_puts : WithoutPuts
without_puts =
    record {
      grids = same_answer;
      values = same_value_lem;
      slices = same_slices;
      roots = same_root;
      spread-slices = same_spread_slices;
      lines = λ bond m calls room. ap (λ (v : Outcome TreeValue). sheet_of bond (by_number v)) (same_value_lem m calls room);
      sizes = same_sizes;
      node-slice = same_nodes;
    }
