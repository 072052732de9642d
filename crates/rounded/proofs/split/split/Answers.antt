-- `split` meets its contract, by the field of the exponent: normal, subnormal and zero.
use mathlib.Core.Path.{sym, subst}
use native.Mathlib.Omega.{arith}
use lib.Dec.{T}
use Rattle.rounded.proofs.split.Fields.{finite_number, field-most, normal-parts, low_parts, zero-parts}
use Rattle.rounded.proofs.split.split.Goals as goal

pub float_to_bits-bits : goal.float_to_bits-bits
float_to_bits-bits c = finite_number c.args.x c.requires

pub raised-requires : goal.raised-requires
raised-requires c = (omega arith, omega arith, field-most c.args.x (subst T (sym c.well_formed.0.1) tt) c.requires c.if-field-gt0.true)

pub returns-then-field-gt0 : goal.returns-then-field-gt0
returns-then-field-gt0 c =
    let r = c.raised.result in
    let e = c.raised.ensures in
    normal-parts c.args.x (subst T (sym c.well_formed.0.1) tt) c.requires r.neg r.digits r.place c.if-field-gt0.true e.0 e.1 e.2

pub returns-then-tail-gt0 : goal.returns-then-tail-gt0
returns-then-tail-gt0 c =
    let r = c.raised-then-tail-gt0.result in
    let e = c.raised-then-tail-gt0.ensures in
    low_parts c.args.x (subst T (sym c.well_formed.0.1) tt) c.requires r.neg r.digits r.place c.if-field-gt0.false e.0 e.1 e.2

pub returns-else-tail-gt0 : goal.returns-else-tail-gt0
returns-else-tail-gt0 c = zero-parts c.args.x (subst T (sym c.well_formed.0.1) tt) c.requires c.if-field-gt0.false c.if-tail-gt0.false
