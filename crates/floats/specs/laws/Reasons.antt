-- Every refusal has a number above 0, so 0 stands for no refusal; two reasons have two numbers. Assumes nothing.
use Rattle.std.specs.Prelude.{ℕ, ◌<◌, ◌≡◌, refl, cond, eqb}
use Rattle.std.proofs.Common.{arith, sym, ap, ◌∙◌}
use Rattle.floats.specs.declared.Reason.{Reason}
use Rattle.floats.specs.declared.Reason.TheVariants.{Setting, Count, Day, Number, CallOrder, SigmaOrder, NothingPaid, PillarOrder, Rate, NoPrincipal, NoRoom, NoVariance, NodeTooFar, Probability, Factor, Outside, NotFinite, YieldBase, NoBracket, NotConverged, BondNumber, TooWide, DayCount, SameTime, NoTime, SpreadAbove, PutCount, PutAbove, BookSize, Desk, NoticeCount, NoticeRange, NoticeRepeated, FactorNotPositive, TableSize, ShiftedSigma}
use Rattle.floats.specs.Reasons.{reason_number}

pub reason-above_zero : (why : Reason) → 0 < reason_number why
reason-above_zero Setting = omega arith
reason-above_zero Count = omega arith
reason-above_zero Day = omega arith
reason-above_zero Number = omega arith
reason-above_zero CallOrder = omega arith
reason-above_zero SigmaOrder = omega arith
reason-above_zero NothingPaid = omega arith
reason-above_zero PillarOrder = omega arith
reason-above_zero Rate = omega arith
reason-above_zero NoPrincipal = omega arith
reason-above_zero NoRoom = omega arith
reason-above_zero NoVariance = omega arith
reason-above_zero NodeTooFar = omega arith
reason-above_zero Probability = omega arith
reason-above_zero Factor = omega arith
reason-above_zero Outside = omega arith
reason-above_zero NotFinite = omega arith
reason-above_zero YieldBase = omega arith
reason-above_zero NoBracket = omega arith
reason-above_zero NotConverged = omega arith
reason-above_zero BondNumber = omega arith
reason-above_zero TooWide = omega arith
reason-above_zero DayCount = omega arith
reason-above_zero SameTime = omega arith
reason-above_zero NoTime = omega arith
reason-above_zero SpreadAbove = omega arith
reason-above_zero PutCount = omega arith
reason-above_zero PutAbove = omega arith
reason-above_zero BookSize = omega arith
reason-above_zero Desk = omega arith
reason-above_zero NoticeCount = omega arith
reason-above_zero NoticeRange = omega arith
reason-above_zero NoticeRepeated = omega arith
reason-above_zero FactorNotPositive = omega arith
reason-above_zero TableSize = omega arith
reason-above_zero ShiftedSigma = omega arith

-- The reason of a number, Setting for numbers of none.
reason_of : ℕ → Reason
reason_of n =
    cond (eqb n 1) Setting (cond (eqb n 2) Count (cond (eqb n 3) Day (cond (eqb n 4) Number (cond (eqb n 5) CallOrder (cond (eqb n 6) SigmaOrder (cond (eqb n 7) NothingPaid (cond (eqb n 8) PillarOrder (cond (eqb n 9) Rate (cond (eqb n 20) NoPrincipal (cond (eqb n 21) NoRoom (cond (eqb n 22) NoVariance (cond (eqb n 23) NodeTooFar (cond (eqb n 24) Probability (cond (eqb n 25) Factor (cond (eqb n 26) Outside (cond (eqb n 27) NotFinite (cond (eqb n 28) YieldBase (cond (eqb n 29) NoBracket (cond (eqb n 30) NotConverged (cond (eqb n 31) BondNumber (cond (eqb n 32) TooWide (cond (eqb n 33) DayCount (cond (eqb n 34) SameTime (cond (eqb n 35) NoTime (cond (eqb n 36) SpreadAbove (cond (eqb n 37) PutCount (cond (eqb n 38) PutAbove (cond (eqb n 39) BookSize (cond (eqb n 40) Desk (cond (eqb n 41) NoticeCount (cond (eqb n 42) NoticeRange (cond (eqb n 43) NoticeRepeated (cond (eqb n 44) FactorNotPositive (cond (eqb n 45) TableSize (cond (eqb n 46) ShiftedSigma Setting)))))))))))))))))))))))))))))))))))

back : (why : Reason) → reason_of (reason_number why) ≡ why
unfolding reason_of
back Setting = refl
back Count = refl
back Day = refl
back Number = refl
back CallOrder = refl
back SigmaOrder = refl
back NothingPaid = refl
back PillarOrder = refl
back Rate = refl
back NoPrincipal = refl
back NoRoom = refl
back NoVariance = refl
back NodeTooFar = refl
back Probability = refl
back Factor = refl
back Outside = refl
back NotFinite = refl
back YieldBase = refl
back NoBracket = refl
back NotConverged = refl
back BondNumber = refl
back TooWide = refl
back DayCount = refl
back SameTime = refl
back NoTime = refl
back SpreadAbove = refl
back PutCount = refl
back PutAbove = refl
back BookSize = refl
back Desk = refl
back NoticeCount = refl
back NoticeRange = refl
back NoticeRepeated = refl
back FactorNotPositive = refl
back TableSize = refl
back ShiftedSigma = refl

pub reason_by_number : (a b : Reason) → reason_number a ≡ reason_number b → a ≡ b
reason_by_number a b e = sym (back a) ∙ ap reason_of e ∙ back b
