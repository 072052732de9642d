-- `bond_value` meets its contract: what was cut passed its checks, and is worth the bond's value. Assumes nothing.
use Rattle.terms.proofs.Timing.{fronted}
use Rattle.bookvalue.proofs.laws.Cutting.{cut-ready, cut-worth}
use Rattle.bookvalue.proofs.values.bond_value.Goals as goal

pub checked_value-requires : goal.checked_value-requires
checked_value-requires c =
    let r = cut-ready _ _ _ c.requires c.market_of-market.ensures c.calls_of-calls.ensures (fronted _ _ _ c.timed_pillars-count.ensures c.pillar_times-table.ensures) in
    record { le_maximum = r.0.0; days_len_bound = r.0.1; ends_len = r.0.2; put_ends_len = r.0.3; curve_times_value = r.1 }

pub returns : goal.returns
returns c = cut-worth _ _ _ c.requires c.market_of-market.ensures c.calls_of-calls.ensures _ c.checked_value.ensures
