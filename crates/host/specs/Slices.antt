-- Definitions only. What a C caller's slices hold where the call begins, gathered.
use Rattle.std.specs.Prelude.{ℕ, List, Float}
use Rattle.std.specs.Borrow.{Bor}
use denote.Triple.Both.{Both}
use Rattle.terms.specs.declared.Settlement.{Settlement}
use Rattle.terms.specs.Terms.{Leg, CallSchedule, SigmaSchedule, Pillars, Market}

abbrev pub leg_from : {X Y Z : Type 0} → Both (Bor (List ℕ)) X → Both (Bor (List ℕ)) Y → Both (Bor (List Float)) Z → Leg
leg_from days kinds amounts = record { days = days.entry.now; kinds = kinds.entry.now; amounts = amounts.entry.now }

abbrev pub calls_from : {X Y Z : Type 0} → Both (Bor (List ℕ)) X → Both (Bor (List ℕ)) Y → Both (Bor (List Float)) Z → CallSchedule
calls_from starts ends strikes = record { starts = starts.entry.now; ends = ends.entry.now; strikes = strikes.entry.now }

abbrev pub sigma_from : {X Y : Type 0} → Both (Bor (List Float)) X → Both (Bor (List Float)) Y → SigmaSchedule
sigma_from times sigmas = record { times = times.entry.now; sigmas = sigmas.entry.now }

abbrev pub pillars_from : {X Y : Type 0} → Both (Bor (List ℕ)) X → Both (Bor (List Float)) Y → Pillars
pillars_from days factors = record { days = days.entry.now; factors = factors.entry.now }

-- What the tree value takes, but for the call entries and the lent slices.
abbrev pub market_from : Settlement → Leg → Float → CallSchedule → ℕ → ℕ → Float → SigmaSchedule → Float → Pillars → Market
market_from settlement leg units puts yearly maximum alpha sigma spread pillars =
    record {
      settlement = settlement;
      bond = record { leg = leg; units = units; puts = puts };
      controls = record { per_year = yearly; maximum = maximum };
      model = record { alpha = alpha; sigma = sigma };
      spread = spread;
      pillars = pillars;
    }
