-- `origin::of_number` meets its contract. Assumes nothing.
use mathlib.Core.Path.{◌≡◌}
use lib.Ieee.{Float}
use Rattle.places.specs.declared.Whose.{Whose}
use Rattle.places.specs.Places.{whose_field}
use Rattle.fileline.proofs.Reading.{somebody, nobody}
use Rattle.fileline.proofs.origin.of_number.Goals as goal

same_field : {r : Whose} {units u alpha a spread s : Float} → r ≡ whose_field units alpha spread → units ≡ u → alpha ≡ a → spread ≡ s → r ≡ whose_field u a s
same_field h a b c = cc

pub returns-in-Nobody : goal.returns-in-Nobody
returns-in-Nobody c =
    let f = c.fields_of-fields.ensures in
    nobody _ _ (same_field c.whose_field.ensures f.in_units_lem f.with_alpha f.with_spread_lem) c.in-Nobody.is
    c.of_entry.ensures

pub returns-in_default : goal.returns-in_default
returns-in_default c =
    let f = c.fields_of-fields.ensures in
    somebody _ _ _ c.in_default.not-Nobody
    (same_field c.whose_field.ensures f.in_units_lem f.with_alpha f.with_spread_lem)
