-- Definitions only. The number by which each reason of a refusal is known.
use Rattle.std.specs.Prelude.{ℕ, Option, Some, None}
use Rattle.floats.specs.Refusals.{Refusal}
use Rattle.floats.specs.declared.Reason.{Reason}
use Rattle.floats.specs.declared.Reason.TheVariants.{Setting, Count, Day, Number, CallOrder, SigmaOrder, NothingPaid, PillarOrder, Rate, NoPrincipal, NoRoom, NoVariance, NodeTooFar, Probability, Factor, Outside, NotFinite, YieldBase, NoBracket, NotConverged, BondNumber, TooWide, DayCount, SameTime, NoTime, SpreadAbove, PutCount, PutAbove, BookSize, Desk, NoticeCount, NoticeRange, NoticeRepeated, FactorNotPositive, TableSize, ShiftedSigma}

abbrev pub reason_number : Reason → ℕ
reason_number Setting = 1
reason_number Count = 2
reason_number Day = 3
reason_number Number = 4
reason_number CallOrder = 5
reason_number SigmaOrder = 6
reason_number NothingPaid = 7
reason_number PillarOrder = 8
reason_number Rate = 9
reason_number NoPrincipal = 20
reason_number NoRoom = 21
reason_number NoVariance = 22
reason_number NodeTooFar = 23
reason_number Probability = 24
reason_number Factor = 25
reason_number Outside = 26
reason_number NotFinite = 27
reason_number YieldBase = 28
reason_number NoBracket = 29
reason_number NotConverged = 30
reason_number BondNumber = 31
reason_number TooWide = 32
reason_number DayCount = 33
reason_number SameTime = 34
reason_number NoTime = 35
reason_number SpreadAbove = 36
reason_number PutCount = 37
reason_number PutAbove = 38
reason_number BookSize = 39
reason_number Desk = 40
reason_number NoticeCount = 41
reason_number NoticeRange = 42
reason_number NoticeRepeated = 43
reason_number FactorNotPositive = 44
reason_number TableSize = 45
reason_number ShiftedSigma = 46

-- Of what may be refused: its number and its place, both 0 where nothing is.
abbrev pub refusal_number : Option Refusal → ℕ
refusal_number None = 0
refusal_number (Some r) = reason_number r.reason

abbrev pub refusal_place : Option Refusal → ℕ
refusal_place None = 0
refusal_place (Some r) = r.place
