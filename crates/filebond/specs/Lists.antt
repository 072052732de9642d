-- Definitions only. The bond that the room for a file's lists holds: of each list so many entries, and the single fields.
use Rattle.std.specs.Prelude.{ℕ, List, [], take}
use Rattle.terms.specs.Terms.{CallSchedule, SigmaSchedule, Pillars, Market, no_entries}
use Rattle.filebond.specs.Bond.{market_of}
use Rattle.filebond.specs.declared.lists.Lists.{Lists}

abbrev pub calls_held : Lists → CallSchedule
calls_held l =
    record {
      starts = take l.calls l.starts;
      ends = take l.calls l.ends;
      strikes = take l.calls l.strikes;
    }

abbrev pub market_held : Lists → Market
market_held l =
    record {
      settlement = record { day = l.fields.settlement; code = 0 };
      bond =
          record {
            leg = record { days = take l.flows l.days; kinds = take l.flows l.kinds; amounts = take l.flows l.amounts };
            units = l.fields.units;
            puts = no_entries;
          };
      controls = record { per_year = l.fields.yearly; maximum = l.fields.maximum };
      model = record { alpha = l.fields.alpha; sigma = record { times = take l.levels l.times; sigmas = take l.levels l.sigmas } };
      spread = l.fields.spread;
      pillars = record { days = take l.points l.pillars; factors = take l.points l.factors };
    }

-- ---- lists that are read one by one

-- The same market with other sigma entries, and with other pillars.
abbrev pub with_levels : Market → SigmaSchedule → Market
with_levels m sigma =
    record {
      settlement = m.settlement;
      bond = m.bond;
      controls = m.controls;
      model = record { alpha = m.model.alpha; sigma = sigma };
      spread = m.spread;
      pillars = m.pillars;
    }

abbrev pub with_points : Market → Pillars → Market
with_points m pillars =
    record {
      settlement = m.settlement;
      bond = m.bond;
      controls = m.controls;
      model = m.model;
      spread = m.spread;
      pillars = pillars;
    }

-- A file's single fields and cashflows, without sigma entries and pillars.
abbrev pub flows_of : List ℕ → Market
flows_of text = with_points (with_levels (market_of text) (record { times = []; sigmas = [] })) (record { days = []; factors = [] })
