-- `lists::Lists::flows` meets its contract. Assumes nothing.
use mathlib.Core.Path.{refl}
use Rattle.filebond.proofs.Stored.{leg-held}
use Rattle.filebond.proofs.lists.Lists.flows.Goals as goal

pub returns : goal.returns
returns c =
    rw (
      ← leg-held refl refl refl c.cashflows_of.ensures,
      ← c.fields_of.ensures.settled,
      ← c.fields_of.ensures.in_units_lem,
      ← c.fields_of.ensures.per_year_lem,
      ← c.fields_of.ensures.at_most,
      ← c.fields_of.ensures.with_alpha,
      ← c.fields_of.ensures.with_spread_lem,
    )
    refl
