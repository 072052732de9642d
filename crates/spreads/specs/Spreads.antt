-- Definitions only. Spread from price: the spread at which the tree value is the target.
use Rattle.std.specs.Prelude.{ℕ, ◌≡◌, cond, Float, Ok, Err}
use Rattle.std.specs.Float.{binary64}
use Rattle.std.specs.Float.Ieee.{sub, neg, lt}
use Rattle.floats.specs.Refusals.{Refusal}
use Rattle.floats.specs.Answers.{Answer, one, refusal, tested, Check, Outcome}
use Rattle.terms.specs.declared.Settlement.{Settlement}
use Rattle.terms.specs.Terms.{Leg, CallSchedule, SigmaSchedule, Pillars, Bond, TimeGrid, HullWhite, Market}
use Rattle.terms.specs.declared.market.Market.{Market as LentMarket}
use Rattle.terms.specs.Market.{market_of}
use Rattle.terms.specs.Checks.{on_check}
use Rattle.terms.specs.Entries.{spread_checks}
use Rattle.treebasedbondpricer.specs.declared.TreeValue.{TreeValue}
use Rattle.lattice.specs.Layers.{Room}
use Rattle.treebasedbondpricer.specs.Tree.{tree_value, Lent, room_of, zeroed}
use Rattle.brackets.specs.declared.Root.{Root}
use Rattle.brackets.specs.Brackets.{Searched, no_root, bracketed_root}
use Rattle.sought.specs.Objectives.{first_lower, first_upper}
use Rattle.floats.specs.declared.Reason.TheVariants as reason

-- What is done with a refusal, and with a value.
unfoldable pub on_tree_value : {A : Type 0} → Outcome TreeValue → (Refusal → A) → (Float → A) → A
on_tree_value (Ok v) f g = g v.value
on_tree_value (Err r) f g = f r

-- ---- what is asked

-- What spread from price takes, but for the call entries and the lent slices: the tree value's terms, with a target in place of a spread.
pub record Quoted : Type 0 where
  pub settlement : Settlement
  pub bond : Bond
  pub controls : TimeGrid
  pub model : HullWhite
  pub target : Float
  pub pillars : Pillars

-- The tree value's terms with a spread.
abbrev pub at_spread : Quoted → Float → Market
at_spread q s =
    record {
      settlement = q.settlement;
      bond = q.bond;
      controls = q.controls;
      model = q.model;
      spread = s;
      pillars = q.pillars;
    }

-- Terms of the tree value with a target in place of their spread.
abbrev pub quoting : Market → Float → Quoted
quoting m target =
    record {
      settlement = m.settlement;
      bond = m.bond;
      controls = m.controls;
      model = m.model;
      target = target;
      pillars = m.pillars;
    }

-- The tree value's checks. Among 4's single fields the target, within ±1e15, is tried where the spread would be.
abbrev pub quoted_checks : Quoted → CallSchedule → Check
quoted_checks q calls = spread_checks (at_spread q q.target) calls

-- ---- the answer

-- Tree value less target. 36: a spread tried above 1. Any other refuses as a value call would.
unfoldable pub spread_objective : Quoted → CallSchedule → Room → Float → Answer
unfolding tree_value on_tree_value sub lt
spread_objective q calls room s =
    cond (lt one s) (refusal reason.SpreadAbove 0)
    (on_tree_value (tree_value (at_spread q s) calls room) Err λ x. tested (sub binary64 x q.target) 0)

-- The bracket rules from −0.05 and 0.10, lowest −1.
abbrev pub solve_spread : Quoted → CallSchedule → Room → Searched Root
solve_spread q calls room = bracketed_root (spread_objective q calls room) first_lower first_upper (neg one)

-- The spread and the number of spreads tried, 0 where the input is refused.
unfoldable pub spread_from_price : Quoted → CallSchedule → Room → Searched Root
unfolding spread_checks bracketed_root spread_objective
spread_from_price q calls room = on_check (quoted_checks q calls) (λ r. no_root r 0) (solve_spread q calls room)

-- Untouched after an input refusal; all zero after everything else.
unfoldable pub lent_after : Quoted → CallSchedule → Lent → Lent
unfolding spread_checks
lent_after q calls l = on_check (quoted_checks q calls) (λ r. l) (zeroed l)

-- What the entry promises: the spread, the tries, the refusal, and the end content of the lent slices.
pub record Solved (q : Quoted) (calls : CallSchedule) (answer : Searched Root) (before after : Lent) : Type 0 where
  pub root : answer ≡ spread_from_price q calls (room_of before)
  pub slices : after ≡ lent_after q calls before

-- What a market asks whose spread is the target.
abbrev pub quoted_of : LentMarket → Quoted
quoted_of market = quoting (market_of market) market.spread

-- What a call brings, gathered.
abbrev pub quoted_in : Settlement → Leg → Float → CallSchedule → ℕ → ℕ → Float → SigmaSchedule → Float → Pillars → Quoted
quoted_in settlement leg units puts yearly maximum alpha sigma target pillars =
    record {
      settlement = settlement;
      bond = record { leg = leg; units = units; puts = puts };
      controls = record { per_year = yearly; maximum = maximum };
      model = record { alpha = alpha; sigma = sigma };
      target = target;
      pillars = pillars;
    }
