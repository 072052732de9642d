-- `pack_normal` meets its contract, range by range of the exponent.
use mathlib.Core.Path.{sym, ◌∙◌}
use native.Mathlib.Omega.{arith}
use Rattle.rounded.proofs.pack.Places.{normal, subnormal, kept-subnormal, infinite, vanishing, last_up, last_tie}
use Rattle.rounded.proofs.pack.pack_normal.Goals.{in_default-via-in-1198+else-w-gt-SIGN_BIT, in_default-via-in_default+then-e-lt1198}
use Rattle.rounded.proofs.pack.pack_normal.Goals as goal

pub returns-in-3297-to-4294967295 : goal.returns-in-3297-to-4294967295
returns-in-3297-to-4294967295 c = c.scaled-in-3297-to-4294967295.ensures ∙ sym (infinite c.args.neg c.args.w c.args.e c.requires.0 c.ranges.w.fits (omega arith))

pub returns-in-1251-to-4294967295 : goal.returns-in-1251-to-4294967295
returns-in-1251-to-4294967295 c = c.scaled-in-1251-to-4294967295.ensures ∙ rw c.nearest-in-1251-to-4294967295.ensures (sym (normal c.args.neg c.args.w c.args.e c.requires.0 c.ranges.w.fits (omega arith)))

pub scaled-requires-in-1199-to-4294967295 : goal.scaled-requires-in-1199-to-4294967295
scaled-requires-in-1199-to-4294967295 c = rw c.nearest.ensures (kept-subnormal c.args.neg c.args.w c.args.e c.requires.0 c.ranges.w.fits (omega arith))

pub returns-in-1199-to-4294967295 : goal.returns-in-1199-to-4294967295
returns-in-1199-to-4294967295 c = c.scaled-in-1199-to-4294967295.ensures ∙ rw c.nearest.ensures (sym (subnormal c.args.neg c.args.w c.args.e c.requires.0 c.ranges.w.fits (omega arith)))

pub returns-in-1198 : goal.returns-in-1198
returns-in-1198 c = c.scaled.ensures ∙ sym (last_up c.args.neg c.args.w c.args.e c.requires.0 c.ranges.w.fits (omega arith) (omega arith))

pub returns-in_default : goal.returns-in_default
returns-in_default c =
    c.scaled-in_default.ensures
    ∙ sym (elim c.in_default.branch [
      | in_default-via-in-1198+else-w-gt-SIGN_BIT w ↦ last_tie c.args.neg c.args.w c.args.e c.requires.0 c.ranges.w.fits (omega arith) (omega arith)
      | in_default-via-in_default+then-e-lt1198 w ↦ vanishing c.args.neg c.args.w c.args.e c.requires.0 c.ranges.w.fits (omega arith)
    ])
