-- Each number of the tree value's list is met, by terms of Tried.antt. Assumes nothing.
use Rattle.std.specs.Prelude.{refl}
use Rattle.lattice.specs.laws.Proper.{none, more}
use Rattle.promises.specs.RefusalNumbers.{EachMet}
use Rattle.promises.specs.Tried as tried

pub each_met : EachMet
each_met =
    more (record { market = _; calls = _; room = _; reason = _; numbered = refl; place = _; refused = tried.number_1 })
    (more (record { market = _; calls = _; room = _; reason = _; numbered = refl; place = _; refused = tried.number_2 })
    (more (record { market = _; calls = _; room = _; reason = _; numbered = refl; place = _; refused = tried.number_3 })
    (more (record { market = _; calls = _; room = _; reason = _; numbered = refl; place = _; refused = tried.number_4 })
    (more (record { market = _; calls = _; room = _; reason = _; numbered = refl; place = _; refused = tried.number_5 })
    (more (record { market = _; calls = _; room = _; reason = _; numbered = refl; place = _; refused = tried.number_6 })
    (more (record { market = _; calls = _; room = _; reason = _; numbered = refl; place = _; refused = tried.number_7 })
    (more (record { market = _; calls = _; room = _; reason = _; numbered = refl; place = _; refused = tried.number_8 })
    (more (record { market = _; calls = _; room = _; reason = _; numbered = refl; place = _; refused = tried.number_20 })
    (more (record { market = _; calls = _; room = _; reason = _; numbered = refl; place = _; refused = tried.number_21 })
    (more (record { market = _; calls = _; room = _; reason = _; numbered = refl; place = _; refused = tried.number_22 })
    (more (record { market = _; calls = _; room = _; reason = _; numbered = refl; place = _; refused = tried.number_23 })
    (more (record { market = _; calls = _; room = _; reason = _; numbered = refl; place = _; refused = tried.number_25 })
    (more (record { market = _; calls = _; room = _; reason = _; numbered = refl; place = _; refused = tried.number_26 })
    (more (record { market = _; calls = _; room = _; reason = _; numbered = refl; place = _; refused = tried.number_27 })
    (more (record { market = _; calls = _; room = _; reason = _; numbered = refl; place = _; refused = tried.number_33 })
    (more (record { market = _; calls = _; room = _; reason = _; numbered = refl; place = _; refused = tried.number_34 })
    (more (record { market = _; calls = _; room = _; reason = _; numbered = refl; place = _; refused = tried.number_35 })
    (more (record { market = _; calls = _; room = _; reason = _; numbered = refl; place = _; refused = tried.number_37 })
    (more (record { market = _; calls = _; room = _; reason = _; numbered = refl; place = _; refused = tried.number_38 })
    (more (record { market = _; calls = _; room = _; reason = _; numbered = refl; place = _; refused = tried.number_44 })
    none))))))))))))))))))))
