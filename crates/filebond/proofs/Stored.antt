-- Lists that were stored from a file, up to their count, are the file's. Assumes nothing.
use Prim.Native.Nat.{ℕ}
use mathlib.Core.Path.{◌≡◌}
use mathlib.Core.List.{List}
use lib.ListN.{length, take}
use lib.Ieee.{Float}
use Rattle.terms.specs.Terms.{Leg, CallSchedule, SigmaSchedule, Pillars}
use Rattle.bondfile.specs.Storing.{CashflowsStored, CallsStored, SigmasStored, PillarsStored}
use Rattle.filebond.specs.Bond.{leg_of, calls_of, sigma_of, pillars_of}
use Rattle.filebond.specs.laws.Held.{held, held-beside}

pub leg-held : {text days days' kinds kinds' lines lines' : List ℕ} {amounts amounts' : List Float} {n : ℕ} → length days ≡ 256 → length kinds ≡ 256 → length amounts ≡ 256 → CashflowsStored text days days' kinds kinds' amounts amounts' lines lines' n → ◌≡◌ {A = Leg} (record { days = take n days'; kinds = take n kinds'; amounts = take n amounts' }) (leg_of text)
leg-held d k a s =
    rw (held 256 d s.on-days, held-beside 256 d k s.on-days s.of-kinds, held-beside 256 d a s.on-days s.with-amounts)

pub calls-held : {text starts starts' ends ends' lines lines' : List ℕ} {strikes strikes' : List Float} {n : ℕ} → length starts ≡ 64 → length ends ≡ 64 → length strikes ≡ 64 → CallsStored text starts starts' ends ends' strikes strikes' lines lines' n → ◌≡◌ {A = CallSchedule} (record { starts = take n starts'; ends = take n ends'; strikes = take n strikes' }) (calls_of text)
calls-held d k a s =
    rw (held 64 d s.from-starts, held-beside 64 d k s.from-starts s.to-ends, held-beside 64 d a s.from-starts s.at-strikes)

pub sigma-held : {text lines lines' : List ℕ} {times times' sigmas sigmas' : List Float} {n : ℕ} → length times ≡ 64 → length sigmas ≡ 64 → SigmasStored text times times' sigmas sigmas' lines lines' n → ◌≡◌ {A = SigmaSchedule} (record { times = take n times'; sigmas = take n sigmas' }) (sigma_of text)
sigma-held d k s = rw (held 64 d s.at-times, held-beside 64 d k s.at-times s.of-sigmas)

pub pillars-held : {text days days' lines lines' : List ℕ} {factors factors' : List Float} {n : ℕ} → length days ≡ 256 → length factors ≡ 256 → PillarsStored text days days' factors factors' lines lines' n → ◌≡◌ {A = Pillars} (record { days = take n days'; factors = take n factors' }) (pillars_of text)
pillars-held d k s = rw (held 256 d s.on-days, held-beside 256 d k s.on-days s.with-factors)
