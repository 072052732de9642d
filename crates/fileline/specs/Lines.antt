-- Definitions only. The line of a file that a refusal is about.
use Rattle.std.specs.Prelude.{ℕ, List, map, get_or}
use Rattle.floats.specs.Refusals.{Refusal}
use Rattle.floats.specs.Reasons.{reason_number}
use Rattle.filebond.specs.Bond.{first_of_kind, calls_of, market_of}
use Rattle.places.specs.declared.Whose.{Whose}
use Rattle.places.specs.declared.Whose.TheVariants.{Nobody, Steps, Settlement, Units, Alpha, Spread, Cashflow, Call, Sigma, Pillar}
use Rattle.places.specs.Blame.{blamed_by}

-- The line of the entry of a kind at a place among the first 256, 0 where there is none.
unfoldable pub line_at : List ℕ → ℕ → ℕ → ℕ
line_at text kind place = get_or (map (λ e. e.line) (first_of_kind 256 kind text)) place 0

-- A single field's line is that of its first entry.
unfoldable pub line_for : List ℕ → Whose → ℕ → ℕ
line_for text Nobody place = 0
line_for text Settlement place = line_at text 1 0
line_for text Units place = line_at text 2 0
line_for text Steps place = line_at text 3 0
line_for text Alpha place = line_at text 4 0
line_for text Spread place = line_at text 5 0
line_for text Cashflow place = line_at text 6 place
line_for text Call place = line_at text 7 place
line_for text Sigma place = line_at text 8 place
line_for text Pillar place = line_at text 9 place

-- The line of whoever is blamed.
abbrev pub line_of_number : List ℕ → ℕ → ℕ → ℕ
line_of_number text number place = line_for text (blamed_by (market_of text) (calls_of text) number place) place

abbrev pub line_behind : List ℕ → Refusal → ℕ
line_behind text q = line_of_number text (reason_number q.reason) q.place
