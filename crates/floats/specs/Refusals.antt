-- Definitions only. A refusal by its reason.
use Rattle.floats.specs.declared.Refusal as declared
use Rattle.floats.specs.declared.Reason.{Reason}

abbrev pub Refusal : Type 0
Refusal = declared.Refusal Reason
