-- The line behind a refusal of a file's bond is that of an entry at fault. Assumes nothing.
use Rattle.floats.specs.Reasons.{reason_number}
use Rattle.std.specs.Prelude.{ℕ, ◌≡◌, refl, List, Err}
use Rattle.floats.specs.Refusals.{Refusal}
use Rattle.terms.specs.Entries.{tree_checks}
use Rattle.filebond.specs.Bond.{calls_of, market_of}
use Rattle.places.specs.declared.Whose.{Whose}
use Rattle.places.specs.declared.Whose.TheVariants.{Nobody}
use Rattle.places.specs.Blame.{blamed, check_of}
use Rattle.places.specs.laws.Blamed.{blamed-tree, blamed-somebody}
use Rattle.fileline.specs.Lines.{line_for, line_behind}

-- Whose line it is, and that the check of this number that looks there refuses so too.
pub record AtFault (text : List ℕ) (r : Refusal) (w : Whose) : Type 0 where
  pub line : line_behind text r ≡ line_for text w r.place
  pub refused : check_of (market_of text) (calls_of text) (reason_number r.reason) w ≡ Err r
  pub somebody : w ≡ Nobody → ⊥

-- 2 is about a count, and so about no line.
pub line_at-fault : (text : List ℕ) (r : Refusal) → tree_checks (market_of text) (calls_of text) ≡ Err r → ((reason_number r.reason) ≡ 2 → ⊥) → AtFault text r (blamed (market_of text) (calls_of text) r)
line_at-fault text r h not-2 =
    record {
      line = refl;
      refused = blamed-tree (market_of text) (calls_of text) r h not-2;
      somebody = blamed-somebody (market_of text) (calls_of text) r h not-2;
    }
