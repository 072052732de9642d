-- `holding_at` meets its contract: field by field. Assumes nothing.
use Rattle.bookchecks.specs.Book.{holding_at}
use Rattle.bookchecks.proofs.Fields.holding_at.Goals as goal

pub returns : goal.returns
unfolding holding_at
returns c =
    rw (c.field_at.ensures, c.field_at-2.ensures, c.field_at-3.ensures, c.field_at-4.ensures, c.field_at-5.ensures, c.field_at-6.ensures, c.part_of.ensures, c.part_of-2.ensures, c.part_of-3.ensures, c.unset.ensures, c.amiss.ensures)
