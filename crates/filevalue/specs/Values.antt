-- Definitions only. What is answered of a bond file: the tree value or the spread behind a quote, the straight value and the yield.
use Rattle.std.specs.Prelude.{ℕ, ◌≡◌, List, [], Float, Ok, Err}
use Rattle.std.specs.Float.{binary64}
use Rattle.std.specs.Float.Ieee.{sub}
use Rattle.floats.specs.Answers.{Answer, tested, on_outcome, Outcome}
use Rattle.terms.specs.Terms.{CallSchedule, Market}
use Rattle.filebond.specs.Bond.{leg_of, pillars_of, market_of}
use Rattle.lattice.specs.Layers.{Room}
use Rattle.treebasedbondpricer.specs.declared.TreeValue.{TreeValue}
use Rattle.treebasedbondpricer.specs.Tree.{tree_value, Lent, room_of, lent_after}
use Rattle.brackets.specs.declared.Root.{Root}
use Rattle.brackets.specs.Brackets.{Searched}
use Rattle.bondpricer.specs.Straight.{straight_value}
use Rattle.bondanalytics.specs.Yields.{yield_from_price}
use Rattle.spreads.specs.Spreads.{quoting, spread_from_price}
use Rattle.spreads.specs.Spreads as spreads
use Rattle.filevalue.specs.declared.Ask.{Ask}
use Rattle.filevalue.specs.declared.Ask.TheVariants as ask
use Rattle.filevalue.specs.declared.Reply.{Reply}

-- ---- the tree's answers as replies

-- A value and its nodes.
unfoldable pub of_value : Outcome TreeValue → Outcome Reply
of_value (Ok v) = Ok (record { found = v.value; count = v.nodes })
of_value (Err r) = Err r

-- A spread and its tries; a refusal's tries are dropped.
unfoldable pub of_root : Searched Root → Outcome Reply
of_root (Ok x) = Ok (record { found = x.at; count = x.evaluations })
of_root (Err e) = Err e.refusal

-- ---- what the calls are worth

-- The same bond with an empty call list.
abbrev pub no_calls : CallSchedule
no_calls = record { starts = []; ends = []; strikes = [] }

-- A difference, and the nodes that stand beside it. 27: it isn't finite.
abbrev pub less : Float → Float → ℕ → Outcome Reply
less y x n = on_outcome (tested (sub binary64 y x) 0) Err λ d. Ok (record { found = d; count = n })

-- The tree value without calls less the tree value with them, and the latter's nodes. What refuses first is handed up.
unfoldable pub worth_of_calls : Outcome TreeValue → Outcome TreeValue → Outcome Reply
unfolding sub on_outcome
worth_of_calls (Ok v) (Ok w) = less w.value v.value v.nodes
worth_of_calls (Ok x) (Err r) = Err r
worth_of_calls (Err r) uncalled = Err r

-- ---- what the tree is asked

-- Both trees of what the calls are worth have the same room. A quote stands in place of the spread.
unfoldable pub reply_to : Ask → Market → CallSchedule → Room → Outcome Reply
reply_to ask.Value m calls room = of_value (tree_value m calls room)
reply_to ask.Calls m calls room = worth_of_calls (tree_value m calls room) (tree_value m no_calls room)
reply_to (ask.Spread target) m calls room = of_root (spread_from_price (quoting m target) calls room)

-- The slices are left as the entry that was asked leaves them.
unfoldable pub left_by : Ask → Market → CallSchedule → Lent → Lent
left_by ask.Value m calls lent = lent_after m calls lent
left_by ask.Calls m calls lent = lent_after m no_calls (lent_after m calls lent)
left_by (ask.Spread target) m calls lent = spreads.lent_after (quoting m target) calls lent

-- What is promised: the reply, in the room of the lent slices, and their end content.
pub record Replied (ask : Ask) (m : Market) (calls : CallSchedule) (answer : Outcome Reply) (before after : Lent) : Type 0 where
  pub reply : answer ≡ reply_to ask m calls (room_of before)
  pub slices : after ≡ left_by ask m calls before

-- ---- without the calls

-- The straight value of the file's cashflows, at its spread and over its pillars.
abbrev pub straight_of : List ℕ → Answer
straight_of text = straight_value (market_of text).settlement (leg_of text) (market_of text).spread (pillars_of text)

-- The yield at which the file's cashflows are worth a price.
abbrev pub yield_of : List ℕ → ℕ → ℕ → Float → Searched Root
yield_of text compounding frequency price = yield_from_price (market_of text).settlement (leg_of text) compounding frequency price
