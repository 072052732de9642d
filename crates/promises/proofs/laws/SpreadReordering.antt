-- Lists that the grid, the checks and the tree value answer alike change no bit of the spread behind a price, of its tries, of its refusal, nor of the lent slices; so reordered calls that the grid accepts. Assumes nothing.
use Rattle.floats.specs.Reasons.{refusal_number}
use Rattle.std.specs.Prelude.{◌≡◌, Err}
use Rattle.std.proofs.Common.{sym, ◌∙◌}
use Rattle.std.proofs.Math.Path.{ap, fun_ext}
use Rattle.std.proofs.Math.Bool.{cond}
use Rattle.std.specs.Float.Ieee.{Float, binary64, sub, neg, lt}
use Rattle.floats.specs.Answers.{Answer, one, refusal, tested, Check, Outcome}
use Rattle.terms.specs.Numbers.{target_limit}
use Rattle.terms.specs.Terms.{CallSchedule, HullWhite, Market, bond_with_puts, with_puts, with_spread}
use Rattle.terms.specs.Checks.{on_check}
use Rattle.terms.specs.CallLists.{Reordered}
use Rattle.terms.specs.Entries.{market_checks, spread_checks}
use Rattle.terms.specs.laws.GridChecks.{grid-calls}
use Rattle.terms.specs.laws.MarketChecks.{market-alike}
use Rattle.terms.proofs.MadeLists.{reordered-calls}
use Rattle.bondevents.specs.declared.GridAnswer.{GridAnswer}
use Rattle.bondevents.specs.Grid.{grid_answer}
use Rattle.bondevents.proofs.laws.GridAnswers.{accepted}
use Rattle.lattice.specs.Layers.{Room}
use Rattle.treebasedbondpricer.specs.declared.TreeValue.{TreeValue}
use Rattle.treebasedbondpricer.specs.Tree.{tree_value, Lent, room_of, zeroed}
use Rattle.treebasedbondpricer.proofs.laws.CallLists.{reordering_rule}
use Rattle.brackets.specs.Brackets.{no_root, bracketed_root}
use Rattle.sought.specs.Objectives.{first_lower, first_upper}
use Rattle.spreads.specs.Spreads.{Quoted, quoting, at_spread, quoted_checks, on_tree_value, spread_objective, solve_spread, spread_from_price, lent_after}
use Rattle.promises.specs.SpreadReordering.{SameSpread, SpreadReorderingRule, EntrySpreadReorderingRule}
use Rattle.floats.specs.declared.Reason.TheVariants as reason

-- The same terms with another model.
abbrev pub with_model : Market → HullWhite → Market
with_model m model =
    record {
      settlement = m.settlement;
      bond = m.bond;
      controls = m.controls;
      model = model;
      spread = m.spread;
      pillars = m.pillars;
    }

-- Two call lists, each beside a put list, that the grid, the checks and the tree value at every model and spread answer alike.
pub record AnsweredAlike (m : Market) (puts first others second : CallSchedule) : Type 0 where
  pub grids : grid_answer m.settlement (bond_with_puts m.bond others) second m.controls ≡ grid_answer m.settlement (bond_with_puts m.bond puts) first m.controls
  pub checks : (limit : Float) (n : Market) → market_checks limit (with_puts n others) second ≡ market_checks limit (with_puts n puts) first
  pub values : (model : HullWhite) (s : Float) (room : Room)
      → let n = with_spread (with_model m model) s in tree_value (with_puts n others) second room ≡ tree_value (with_puts n puts) first room

-- ---- the spread of lists answered alike

module _ {m : Market} {puts first others second : CallSchedule} (same : AnsweredAlike m puts first others second) (target : Float) where
  abbrev asked : Quoted
  asked = quoting (with_puts m puts) target

  abbrev again : Quoted
  again = quoting (with_puts m others) target

  checks : quoted_checks again second ≡ quoted_checks asked first
  unfolding spread_checks
  checks = same.checks target_limit (at_spread (quoting m target) target)

  -- The grid doesn't look at the spread that is tried.
  tried : (room : Room) (s : Float) → spread_objective again second room s ≡ spread_objective asked first room s
  unfolding spread_objective
  tried room s =
      ap (λ (v : Outcome TreeValue). cond (lt one s) (refusal reason.SpreadAbove 0) (on_tree_value v Err λ x. tested (sub binary64 x target) 0))
      (same.values m.model s room)

  same_root : (room : Room) → spread_from_price again second room ≡ spread_from_price asked first room
  unfolding spread_from_price
  same_root room =
      ap (λ (c : Check). on_check c (λ q. no_root q 0) (solve_spread again second room)) checks
      ∙ ap (λ (f : Float → Answer). on_check (quoted_checks asked first) (λ q. no_root q 0) (bracketed_root f first_lower first_upper (neg one))) (fun_ext (tried room))

  same_slices : (lent : Lent) → lent_after again second lent ≡ lent_after asked first lent
  unfolding lent_after
  same_slices lent = ap (λ (c : Check). on_check c (λ q. lent) (zeroed lent)) checks

  pub same_spread : SameSpread asked first again second
  same_spread = record { roots = same_root; slices = same_slices }

-- ---- reordered calls are

pub reordered-calls-alike : (m : Market) (first second : CallSchedule) → Reordered first second → (refusal_number (grid_answer m.settlement m.bond first m.controls).refusal) ≡ 0
    → AnsweredAlike m m.bond.puts first m.bond.puts second
reordered-calls-alike m first second r z =
    let a = accepted m.settlement m.bond first m.controls z in
    let k = grid-calls m.settlement m.bond first m.controls a.checked in
    record {
      grids = (reordering_rule m first second r z).grids;
      checks = λ limit n. market-alike limit (with_puts n m.bond.puts) first second k (reordered-calls first second r k);
      values = λ model s. (reordering_rule (with_spread (with_model m model) s) first second r z).values;
    }

pub spread_reordering_rule : SpreadReorderingRule
spread_reordering_rule asked first second r z = same_spread (reordered-calls-alike (at_spread asked asked.target) first second r z) asked.target

-- The same of what the running entry answers.
pub entry_spread_reordering_rule : EntrySpreadReorderingRule
entry_spread_reordering_rule asked first second made g e z a b lent-first lent-second left_first left_second p q =
    let same = spread_reordering_rule asked first second made (ap (λ (y : GridAnswer). refusal_number y.refusal) (sym e) ∙ z) in
    record {
      root = λ as_long. q.root ∙ ap (spread_from_price asked second) as_long ∙ same.roots (room_of lent-first) ∙ sym p.root;
      slices = λ alike. q.slices ∙ same.slices lent-second ∙ ap (lent_after asked first) alike ∙ sym p.slices;
    }
