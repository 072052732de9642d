-- Definitions only. What is found of a file's entries, and what is stored of them.
use Rattle.std.specs.Prelude.{ℕ, ◌+◌, ◌≤◌, min, ◌≡◌, Option, MatchOption, List, [], ◌∷◌, ◌++◌, map, length, take, drop, Float}
use Rattle.bondline.specs.Forms.{Said}
use Rattle.bondfile.specs.declared.Fields.{Fields}
use Rattle.bondfile.specs.declared.SaidLine.{SaidLine}
use Rattle.bondfile.specs.Entries.{first_whole, second_whole, flow_kind, first_number, second_number}
use Rattle.bondfile.specs.File.{Numbered, entries_of, entries_from, of_kind, field_of}

-- An entry that was found is the first of its kind, and the others are those of the lines behind it.
pub record First (text : List ℕ) (kind at n : ℕ) (e : Said) (line next : ℕ) : Type 0 where
  pub entries : of_kind kind (entries_from text at n) ≡ record { line = line; entry = e } ∷ of_kind kind (entries_from text next (line + 1))
  pub order : line ≤ next
  pub within : next ≤ length text

-- The next entry of a kind and where the line after it begins, or nothing where there is none.
abbrev pub NextOf : List ℕ → ℕ → ℕ → ℕ → Option (SaidLine × ℕ) → Type 0
NextOf text kind at n r = MatchOption r (of_kind kind (entries_from text at n) ≡ []) (λ f. First text kind at n f.0.entry f.0.line f.1)

-- What a slice holds once the entries are stored: as many of the first as it has room for, and behind them what it held.
pub record Stored {A : Type 0} (part : Numbered → A) (es : List Numbered) (before after : List A) (count : ℕ) : Type 0 where
  pub counted : count ≡ min (length es) (length before)
  pub content : after ≡ map part (take count es) ++ drop count before

-- The same, where nothing is said of the count.
abbrev pub Kept : {A : Type 0} → (Numbered → A) → List Numbered → List A → List A → Type 0
Kept part es before after = Stored part es before after (min (length es) (length before))

-- ---- the lists of a file

-- 6: cashflows.
pub record CashflowsStored (text days newDays kinds newKinds : List ℕ) (amounts newAmounts : List Float) (lines newLines : List ℕ) (count : ℕ) : Type 0 where
  pub on-days : Stored (λ e. first_whole e.entry) (of_kind 6 (entries_of text)) days newDays count
  pub of-kinds : Kept (λ e. flow_kind e.entry) (of_kind 6 (entries_of text)) kinds newKinds
  pub with-amounts : Kept (λ e. first_number e.entry) (of_kind 6 (entries_of text)) amounts newAmounts
  pub at-lines : Kept (λ e. e.line) (of_kind 6 (entries_of text)) lines newLines

-- 7: calls.
pub record CallsStored (text starts newStarts ends newEnds : List ℕ) (strikes newStrikes : List Float) (lines newLines : List ℕ) (count : ℕ) : Type 0 where
  pub from-starts : Stored (λ e. first_whole e.entry) (of_kind 7 (entries_of text)) starts newStarts count
  pub to-ends : Kept (λ e. second_whole e.entry) (of_kind 7 (entries_of text)) ends newEnds
  pub at-strikes : Kept (λ e. first_number e.entry) (of_kind 7 (entries_of text)) strikes newStrikes
  pub at-lines : Kept (λ e. e.line) (of_kind 7 (entries_of text)) lines newLines

-- 8: sigma.
pub record SigmasStored (text : List ℕ) (times newTimes sigmas newSigmas : List Float) (lines newLines : List ℕ) (count : ℕ) : Type 0 where
  pub at-times : Stored (λ e. first_number e.entry) (of_kind 8 (entries_of text)) times newTimes count
  pub of-sigmas : Kept (λ e. second_number e.entry) (of_kind 8 (entries_of text)) sigmas newSigmas
  pub at-lines : Kept (λ e. e.line) (of_kind 8 (entries_of text)) lines newLines

-- 9: pillars.
pub record PillarsStored (text days newDays : List ℕ) (factors newFactors : List Float) (lines newLines : List ℕ) (count : ℕ) : Type 0 where
  pub on-days : Stored (λ e. first_whole e.entry) (of_kind 9 (entries_of text)) days newDays count
  pub with-factors : Kept (λ e. first_number e.entry) (of_kind 9 (entries_of text)) factors newFactors
  pub at-lines : Kept (λ e. e.line) (of_kind 9 (entries_of text)) lines newLines

-- ---- the single fields of a file

pub record FieldsRead (text : List ℕ) (r : Fields) : Type 0 where
  pub settled : r.settlement ≡ first_whole (field_of 1 text)
  pub in_units_lem : r.units ≡ first_number (field_of 2 text)
  pub per_year_lem : r.yearly ≡ first_whole (field_of 3 text)
  pub at_most : r.maximum ≡ second_whole (field_of 3 text)
  pub with_alpha : r.alpha ≡ first_number (field_of 4 text)
  pub with_spread_lem : r.spread ≡ first_number (field_of 5 text)
