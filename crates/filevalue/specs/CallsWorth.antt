-- Definitions only. What the report prints of a bond's calls, by the call-list rule: no number below 0.
use Rattle.std.specs.Prelude.{ℕ, ◌≡◌, List, T, Float, Ok, Err}
use Rattle.std.specs.Float.Ieee.{le}
use Rattle.floats.specs.Answers.{plus_zero, Outcome}
use Rattle.filebond.specs.Bond.{calls_of, market_of}
use Rattle.treebasedbondpricer.specs.Tree.{Lent, room_of}
use Rattle.filevalue.specs.declared.Ask.TheVariants.{Value, Calls}
use Rattle.filevalue.specs.declared.Reply.{Reply}
use Rattle.filevalue.specs.Values.{Replied}
use Rattle.floats.specs.declared.Reason.TheVariants as reason

-- A number that isn't below 0; or no number, and 27.
pub data WorthOr27 : Outcome Reply → Type 0 where
  not_below_lem : {d : Float} {n : ℕ} → T (le plus_zero d) → WorthOr27 (Ok (record { found = d; count = n }))
  refused_27 : {place : ℕ} → WorthOr27 (Err (record { reason = reason.NotFinite; place = place }))

-- Of any file whose tree value is found, what is answered when it is asked in as much room what the calls are worth, whatever the slices held.
abbrev pub CallsWorthRule : Type 0
CallsWorthRule =
    (text : List ℕ) (x : Float) (n : ℕ) (a b : Outcome Reply) (lent-first lent-second left_first left_second : Lent)
    → Replied Value (market_of text) (calls_of text) a lent-first left_first
    → Replied Calls (market_of text) (calls_of text) b lent-second left_second
    → room_of lent-second ≡ room_of lent-first
    → a ≡ Ok (record { found = x; count = n })
    → WorthOr27 b
