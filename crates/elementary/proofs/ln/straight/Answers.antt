-- `ln::straight` meets its contract: its m and k, from the bits, are those of the definition. Assumes nothing.
use lib.Ieee.{binary64, fits}
use lib.Ieee.Bits.{of_bits-to_bits}
use denote.Floats.{passes}
use Rattle.elementary.specs.laws.Normal.{loggable-normal}
use Rattle.elementary.proofs.ln.straight.Goals as goal

pub fraction_of-m-requires : goal.fraction_of-m-requires
fraction_of-m-requires c = loggable-normal c.args.x (passes (fits binary64 c.args.x) c.well_formed.0.1) c.requires

pub exponent_of-k-requires : goal.exponent_of-k-requires
exponent_of-k-requires c = loggable-normal c.args.x (passes (fits binary64 c.args.x) c.well_formed.0.1) c.requires

pub returns : goal.returns
returns c =
    let s = c in
    cc (of_bits-to_bits binary64 s.args.x (passes (fits binary64 s.args.x) s.well_formed.0.1))
