-- Definitions only. The bond that a file says: its entries in the order of their lines, up to 256 cashflows, 64 calls, 64 sigma entries and 256 pillars, and its single fields.
use Rattle.std.specs.Prelude.{ℕ, List, map, take}
use Rattle.terms.specs.Terms.{Leg, CallSchedule, SigmaSchedule, Pillars, Market, no_entries}
use Rattle.bondfile.specs.Entries.{first_whole, second_whole, flow_kind, first_number, second_number}
use Rattle.bondfile.specs.File.{Numbered, entries_of, of_kind, field_of}

-- The first entries of a kind, and what one part of each says.
abbrev pub first_of_kind : ℕ → ℕ → List ℕ → List Numbered
first_of_kind most kind text = take most (of_kind kind (entries_of text))

-- 6: cashflows.
abbrev pub leg_of : List ℕ → Leg
leg_of text =
    record {
      days = map (λ e. first_whole e.entry) (first_of_kind 256 6 text);
      kinds = map (λ e. flow_kind e.entry) (first_of_kind 256 6 text);
      amounts = map (λ e. first_number e.entry) (first_of_kind 256 6 text);
    }

-- 7: calls.
abbrev pub calls_of : List ℕ → CallSchedule
calls_of text =
    record {
      starts = map (λ e. first_whole e.entry) (first_of_kind 64 7 text);
      ends = map (λ e. second_whole e.entry) (first_of_kind 64 7 text);
      strikes = map (λ e. first_number e.entry) (first_of_kind 64 7 text);
    }

-- 8: sigma.
abbrev pub sigma_of : List ℕ → SigmaSchedule
sigma_of text =
    record {
      times = map (λ e. first_number e.entry) (first_of_kind 64 8 text);
      sigmas = map (λ e. second_number e.entry) (first_of_kind 64 8 text);
    }

-- 9: pillars.
abbrev pub pillars_of : List ℕ → Pillars
pillars_of text =
    record {
      days = map (λ e. first_whole e.entry) (first_of_kind 256 9 text);
      factors = map (λ e. first_number e.entry) (first_of_kind 256 9 text);
    }

-- All that the tree value takes but the calls, its times by Actual/365. 1: settlement, 2: units, 3: steps, 4: alpha, 5: spread.
abbrev pub market_of : List ℕ → Market
market_of text =
    record {
      settlement = record { day = first_whole (field_of 1 text); code = 0 };
      bond = record { leg = leg_of text; units = first_number (field_of 2 text); puts = no_entries };
      controls = record { per_year = first_whole (field_of 3 text); maximum = second_whole (field_of 3 text) };
      model = record { alpha = first_number (field_of 4 text); sigma = sigma_of text };
      spread = first_number (field_of 5 text);
      pillars = pillars_of text;
    }
