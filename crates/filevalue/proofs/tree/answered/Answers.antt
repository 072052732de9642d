-- `tree::answered` meets its contract. Assumes nothing.
use Rattle.filevalue.proofs.Replying.{valued, called, solved}
use Rattle.filevalue.proofs.tree.answered.Goals as goal

pub returns-in-Value : goal.returns-in-Value
returns-in-Value c =
    rw (← c.read-held.ensures.market, ← c.read-held.ensures.calls, ← c.market-market.ensures, ← c.calls-calls.ensures)
    (valued c.in-Value.is c.tree_value.ensures c.of_value.ensures)

pub returns-in-Calls : goal.returns-in-Calls
returns-in-Calls c =
    rw (← c.read-held.ensures.market, ← c.read-held.ensures.calls, ← c.market-market.ensures, ← c.calls-calls.ensures)
    (called c.in-Calls.is c.of_calls.ensures)

pub returns-in-Spread : goal.returns-in-Spread
returns-in-Spread c =
    rw (← c.read-held.ensures.market, ← c.read-held.ensures.calls, ← c.market-market.ensures, ← c.calls-calls.ensures)
    (solved c.in-Spread.is c.spread_from_price.ensures c.of_spread.ensures)
