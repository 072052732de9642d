-- The lemmas that the reading functions' proofs use. Assumes nothing.
use Rattle.decimal.specs.laws.Reading.{begin, no_byte, unsigned}

pub ruleset steps = (begin, no_byte, unsigned)
