-- A later day never has a smaller time, under codes 0 and 1 a greater one, and under code 0 a day's time is 01's. Assumes nothing.
use Rattle.std.specs.Prelude.{refl}
use Rattle.terms.specs.Times.{time_from}
use Rattle.terms.specs.laws.Later.{later_no_smaller}
use Rattle.promises.specs.DayCounts.{LaterNoSmaller, ActualTime, LaterGreater, NeverGiven}
use Rattle.promises.proofs.laws.ActualDays.{later-greater, pillars_apart_lem, matures_apart}

pub no_smaller : LaterNoSmaller
no_smaller = later_no_smaller

pub actual_time : ActualTime
unfolding time_from
actual_time settlement day = refl

pub greater : LaterGreater
greater = later-greater

pub never-given : NeverGiven
never-given =
    record {
      never_34 = λ s p maturity c d o. pillars_apart_lem s c p maturity d o;
      never_35 = λ s l c n d a. matures_apart s c l n d a;
    }
