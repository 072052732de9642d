-- `flat_widths` meets its contract: by the two tests. Assumes nothing.
use Rattle.widths.specs.laws.Summing.{flat-none, flat_one, flat-found}
use Rattle.widths.proofs.tree.flat_widths.Goals as goal

pub returns-then-room-lt1 : goal.returns-then-room-lt1
returns-then-room-lt1 c = flat-none c.args.room c.args.steps c.if-room-lt1.true

pub returns-then-room-lt2 : goal.returns-then-room-lt2
returns-then-room-lt2 c = flat_one c.args.room c.args.steps c.requires.0 c.if-room-lt1.false c.if-room-lt2.true

pub returns : goal.returns
returns c = flat-found c.args.room c.args.steps c.if-room-lt2.false
