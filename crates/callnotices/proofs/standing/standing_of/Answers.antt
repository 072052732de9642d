-- `standing_of` meets its contract: the version that is looked for is the highest. Assumes nothing.
use Prim.Native.Nat.{ℕ}
use mathlib.Core.Path.{ap, ◌∙◌}
use lib.ListN.{length}
use Rattle.callnotices.specs.Standing.{first, is_version}
use Rattle.terms.proofs.Laws.{tests}
use Rattle.callnotices.proofs.standing.standing_of.Goals as goal

pub highest_version-requires : goal.highest_version-requires
highest_version-requires c = search tests

pub first_version-requires : goal.first_version-requires
first_version-requires c = search tests

pub returns : goal.returns
returns c =
    c.first_version.ensures
    ∙ ap (λ (v : ℕ). first (is_version c.args.notices.series.now c.args.notices.versions.now c.args.s v) (length c.args.notices.series.now)) c.highest_version.ensures
