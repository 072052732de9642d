-- Each number of a spread's list is met, by quoted terms of Tried.antt and by these. Assumes nothing.
use Rattle.std.specs.Prelude.{ℕ, refl, List, [], ◌∷◌, Float, replicate}
use Rattle.std.specs.Float.{binary64}
use Rattle.std.specs.Float.Ieee.{of_bits}
use Rattle.std.specs.Float.Ieee as ieee
use Rattle.floats.specs.Answers.{on_outcome}
use Rattle.floats.specs.Whole.{rounded}
use Rattle.rounded.specs.Root.{sqrt_at}
use Rattle.elementary.specs.Exponential.{exp_at, exp_m1_at}
use Rattle.elementary.specs.Logarithm.{ln_at}
use Rattle.calendar.specs.Calendar.{thirties}
use Rattle.terms.specs.declared.Settlement.{Settlement}
use Rattle.terms.specs.Numbers.{float}
use Rattle.terms.specs.Terms.{Leg, CallSchedule, Pillars, no_entries, with_puts}
use Rattle.terms.specs.Checks.{lowest, on_check}
use Rattle.terms.specs.Curve.{curve_over}
use Rattle.bondevents.specs.Steps.{paid_into, raw_step}
use Rattle.lattice.specs.Layers.{Room}
use Rattle.lattice.specs.laws.Proper.{none, more}
use Rattle.treebasedbondpricer.specs.Tree.{tree_value}
use Rattle.spreads.specs.Spreads.{Quoted, quoting, on_tree_value, spread_from_price}
use Rattle.promises.specs.RefusalNumbers.{MetBySpread, EachMetBySpread}
use Rattle.promises.specs.Tried as tried
use Rattle.promises.specs.Tried.{leg, calls, pillars, steps, on, thirty, market_by}

-- Asked at 100, without a sigma.
abbrev flat : Settlement → Leg → CallSchedule → Pillars → ℕ → Quoted
flat settlement paid puts curve yearly = quoting (with_puts (market_by settlement paid (float 100) (steps yearly 512) (float 0) (float 0 ∷ []) (float 0 ∷ []) (float 0) curve) puts) (float 100)

-- A bond of two years, asked at 100: units, the sigmas and the middle pillar's factor.
abbrev curved : Float → List Float → List Float → Float → Quoted
curved units times sigmas factor =
    quoting
    (market_by (on 100) (leg (465 ∷ 830 ∷ []) (0 ∷ 1 ∷ []) (float 5 ∷ float 100 ∷ [])) units (steps 1 512) (of_bits binary64 0x3fb999999999999a) times sigmas (float 0) (pillars (100 ∷ 465 ∷ 900 ∷ []) (float 1 ∷ factor ∷ float 1 ∷ [])))
    (float 100)

abbrev year : Leg
year = leg (365 ∷ []) (1 ∷ []) (float 105 ∷ [])

abbrev level : Pillars
level = pillars (0 ∷ 365 ∷ []) (float 1 ∷ float 1 ∷ [])

abbrev room : Room
room = tried.room 64 96 9 9

by_1 : MetBySpread 1
unfolding spread_from_price on_tree_value tree_value paid_into raw_step curve_over exp_at exp_m1_at ln_at sqrt_at on_outcome on_check lowest rounded thirties ieee.of_bits ieee.add ieee.sub ieee.mul ieee.div ieee.neg ieee.lt ieee.le ieee.eq ieee.of_int ieee.to_signed
by_1 =
    record { asked = flat (on 0) year no_entries level 0; calls = no_entries; room = room; reason = _; numbered = refl; place = 0; tries = 0; refused = refl }

by_2 : MetBySpread 2
unfolding spread_from_price on_tree_value tree_value paid_into raw_step curve_over exp_at exp_m1_at ln_at sqrt_at on_outcome on_check lowest rounded thirties ieee.of_bits ieee.add ieee.sub ieee.mul ieee.div ieee.neg ieee.lt ieee.le ieee.eq ieee.of_int ieee.to_signed
by_2 =
    record { asked = flat (on 0) (leg (365 ∷ []) [] (float 105 ∷ [])) no_entries level 1; calls = no_entries; room = room; reason = _; numbered = refl; place = 0; tries = 0; refused = refl }

by_3 : MetBySpread 3
unfolding spread_from_price on_tree_value tree_value paid_into raw_step curve_over exp_at exp_m1_at ln_at sqrt_at on_outcome on_check lowest rounded thirties ieee.of_bits ieee.add ieee.sub ieee.mul ieee.div ieee.neg ieee.lt ieee.le ieee.eq ieee.of_int ieee.to_signed
by_3 =
    record { asked = flat (on 0) (leg (365 ∷ 364 ∷ []) (0 ∷ 1 ∷ []) (float 5 ∷ float 100 ∷ [])) no_entries level 1; calls = no_entries; room = room; reason = _; numbered = refl; place = 1; tries = 0; refused = refl }

by_5 : MetBySpread 5
unfolding spread_from_price on_tree_value tree_value paid_into raw_step curve_over exp_at exp_m1_at ln_at sqrt_at on_outcome on_check lowest rounded thirties ieee.of_bits ieee.add ieee.sub ieee.mul ieee.div ieee.neg ieee.lt ieee.le ieee.eq ieee.of_int ieee.to_signed
by_5 =
    record { asked = flat (on 0) year no_entries level 1; calls = calls (20 ∷ []) (10 ∷ []) (float 99 ∷ []); room = room; reason = _; numbered = refl; place = 0; tries = 0; refused = refl }

by_6 : MetBySpread 6
unfolding spread_from_price on_tree_value tree_value paid_into raw_step curve_over exp_at exp_m1_at ln_at sqrt_at on_outcome on_check lowest rounded thirties ieee.of_bits ieee.add ieee.sub ieee.mul ieee.div ieee.neg ieee.lt ieee.le ieee.eq ieee.of_int ieee.to_signed
by_6 =
    record { asked = curved (float 100) (float 0 ∷ float 0 ∷ []) (float 0 ∷ float 0 ∷ []) (float 1); calls = no_entries; room = room; reason = _; numbered = refl; place = 1; tries = 0; refused = refl }

by_7 : MetBySpread 7
unfolding spread_from_price on_tree_value tree_value paid_into raw_step curve_over exp_at exp_m1_at ln_at sqrt_at on_outcome on_check lowest rounded thirties ieee.of_bits ieee.add ieee.sub ieee.mul ieee.div ieee.neg ieee.lt ieee.le ieee.eq ieee.of_int ieee.to_signed
by_7 =
    record { asked = flat (on 365) year no_entries level 1; calls = no_entries; room = room; reason = _; numbered = refl; place = 0; tries = 0; refused = refl }

by_8 : MetBySpread 8
unfolding spread_from_price on_tree_value tree_value paid_into raw_step curve_over exp_at exp_m1_at ln_at sqrt_at on_outcome on_check lowest rounded thirties ieee.of_bits ieee.add ieee.sub ieee.mul ieee.div ieee.neg ieee.lt ieee.le ieee.eq ieee.of_int ieee.to_signed
by_8 =
    record { asked = flat (on 1) year no_entries level 1; calls = no_entries; room = room; reason = _; numbered = refl; place = 0; tries = 0; refused = refl }

-- No sigma in the second year.
by_22 : MetBySpread 22
unfolding spread_from_price on_tree_value tree_value paid_into raw_step curve_over exp_at exp_m1_at ln_at sqrt_at on_outcome on_check lowest rounded thirties ieee.of_bits ieee.add ieee.sub ieee.mul ieee.div ieee.neg ieee.lt ieee.le ieee.eq ieee.of_int ieee.to_signed
by_22 =
    record { asked = curved (float 100) (float 0 ∷ float 1 ∷ []) (of_bits binary64 0x3fe0000000000000 ∷ float 0 ∷ []) (float 1); calls = no_entries; room = room; reason = _; numbered = refl; place = 1; tries = 1; refused = refl }

-- A sigma that falls from 10 to 0.000005.
by_23 : MetBySpread 23
unfolding spread_from_price on_tree_value tree_value paid_into raw_step curve_over exp_at exp_m1_at ln_at sqrt_at on_outcome on_check lowest rounded thirties ieee.of_bits ieee.add ieee.sub ieee.mul ieee.div ieee.neg ieee.lt ieee.le ieee.eq ieee.of_int ieee.to_signed
by_23 =
    record { asked = curved (float 100) (float 0 ∷ float 1 ∷ []) (float 10 ∷ of_bits binary64 0x3ed4f8b588e368f1 ∷ []) (float 1); calls = no_entries; room = room; reason = _; numbered = refl; place = 1; tries = 1; refused = refl }

-- A factor of 1e-305.
by_25 : MetBySpread 25
unfolding spread_from_price on_tree_value tree_value paid_into raw_step curve_over exp_at exp_m1_at ln_at sqrt_at on_outcome on_check lowest rounded thirties ieee.of_bits ieee.add ieee.sub ieee.mul ieee.div ieee.neg ieee.lt ieee.le ieee.eq ieee.of_int ieee.to_signed
by_25 =
    record { asked = curved (float 100) (float 0 ∷ []) (float 0 ∷ []) (of_bits binary64 0x9c16c5c5253575); calls = no_entries; room = room; reason = _; numbered = refl; place = 0; tries = 1; refused = refl }

-- Units of 1e-310.
by_27 : MetBySpread 27
unfolding spread_from_price on_tree_value tree_value paid_into raw_step curve_over exp_at exp_m1_at ln_at sqrt_at on_outcome on_check lowest rounded thirties ieee.of_bits ieee.add ieee.sub ieee.mul ieee.div ieee.neg ieee.lt ieee.le ieee.eq ieee.of_int ieee.to_signed
by_27 =
    record { asked = curved (of_bits binary64 0x12688b70e62b) (float 0 ∷ []) (float 0 ∷ []) (float 1); calls = calls (465 ∷ []) (465 ∷ []) (float 101 ∷ []); room = room; reason = _; numbered = refl; place = 0; tries = 1; refused = refl }

by_33 : MetBySpread 33
unfolding spread_from_price on_tree_value tree_value paid_into raw_step curve_over exp_at exp_m1_at ln_at sqrt_at on_outcome on_check lowest rounded thirties ieee.of_bits ieee.add ieee.sub ieee.mul ieee.div ieee.neg ieee.lt ieee.le ieee.eq ieee.of_int ieee.to_signed
by_33 =
    record { asked = flat (record { day = 0; code = 3 }) year no_entries level 1; calls = no_entries; room = room; reason = _; numbered = refl; place = 0; tries = 0; refused = refl }

-- By 30E/360 30 and 31 January 1900 have one time.
by_34 : MetBySpread 34
unfolding spread_from_price on_tree_value tree_value paid_into raw_step curve_over exp_at exp_m1_at ln_at sqrt_at on_outcome on_check lowest rounded thirties ieee.of_bits ieee.add ieee.sub ieee.mul ieee.div ieee.neg ieee.lt ieee.le ieee.eq ieee.of_int ieee.to_signed
by_34 =
    record { asked = flat (thirty 19) year no_entries (pillars (19 ∷ 29 ∷ 30 ∷ 365 ∷ []) (float 1 ∷ float 1 ∷ float 1 ∷ float 1 ∷ [])) 1; calls = no_entries; room = room; reason = _; numbered = refl; place = 2; tries = 0; refused = refl }

by_35 : MetBySpread 35
unfolding spread_from_price on_tree_value tree_value paid_into raw_step curve_over exp_at exp_m1_at ln_at sqrt_at on_outcome on_check lowest rounded thirties ieee.of_bits ieee.add ieee.sub ieee.mul ieee.div ieee.neg ieee.lt ieee.le ieee.eq ieee.of_int ieee.to_signed
by_35 =
    record { asked = flat (thirty 29) (leg (30 ∷ []) (1 ∷ []) (float 105 ∷ [])) no_entries (pillars (29 ∷ 365 ∷ []) (float 1 ∷ float 1 ∷ [])) 1; calls = no_entries; room = room; reason = _; numbered = refl; place = 0; tries = 0; refused = refl }

-- 65 puts.
by_37 : MetBySpread 37
unfolding spread_from_price on_tree_value tree_value paid_into raw_step curve_over exp_at exp_m1_at ln_at sqrt_at on_outcome on_check lowest rounded thirties ieee.of_bits ieee.add ieee.sub ieee.mul ieee.div ieee.neg ieee.lt ieee.le ieee.eq ieee.of_int ieee.to_signed
by_37 =
    record { asked = flat (on 0) year (calls (replicate 65 365) (replicate 65 365) (replicate 65 (float 99))) level 1; calls = no_entries; room = room; reason = _; numbered = refl; place = 0; tries = 0; refused = refl }

-- A put at 101 beside a call at 99.
by_38 : MetBySpread 38
unfolding spread_from_price on_tree_value tree_value paid_into raw_step curve_over exp_at exp_m1_at ln_at sqrt_at on_outcome on_check lowest rounded thirties ieee.of_bits ieee.add ieee.sub ieee.mul ieee.div ieee.neg ieee.lt ieee.le ieee.eq ieee.of_int ieee.to_signed
by_38 =
    record { asked = flat (on 0) (leg (365 ∷ 730 ∷ []) (0 ∷ 1 ∷ []) (float 5 ∷ float 100 ∷ [])) (calls (365 ∷ []) (365 ∷ []) (float 101 ∷ [])) (pillars (0 ∷ 730 ∷ []) (float 1 ∷ float 1 ∷ [])) 1; calls = calls (365 ∷ []) (365 ∷ []) (float 99 ∷ []); room = room; reason = _; numbered = refl; place = 1; tries = 1; refused = refl }

pub each_met_by_spread : EachMetBySpread
each_met_by_spread =
    more (record { asked = _; calls = _; room = _; reason = _; numbered = refl; place = _; tries = _; refused = tried.spread_29 })
    (more (record { asked = _; calls = _; room = _; reason = _; numbered = refl; place = _; tries = _; refused = tried.spread_36 })
    (more by_1
    (more by_2
    (more by_3
    (more (record { asked = _; calls = _; room = _; reason = _; numbered = refl; place = _; tries = _; refused = tried.spread_4 })
    (more by_5
    (more by_6
    (more by_7
    (more by_8
    (more (record { asked = _; calls = _; room = _; reason = _; numbered = refl; place = _; tries = _; refused = tried.spread_20 })
    (more (record { asked = _; calls = _; room = _; reason = _; numbered = refl; place = _; tries = _; refused = tried.spread_21 })
    (more by_22
    (more by_23
    (more by_25
    (more (record { asked = _; calls = _; room = _; reason = _; numbered = refl; place = _; tries = _; refused = tried.spread_26 })
    (more by_27
    (more by_33
    (more by_34
    (more by_35
    (more by_37
    (more by_38
    (more (record { asked = _; calls = _; room = _; reason = _; numbered = refl; place = _; tries = _; refused = tried.spread_44 })
    none))))))))))))))))))))))
