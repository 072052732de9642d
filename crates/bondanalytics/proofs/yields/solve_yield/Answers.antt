-- `yields::solve_yield` meets its contract. Assumes nothing.
use mathlib.Core.Path.{ap, ◌∙◌}
use lib.Ieee.{Float, of_bits, neg}
use Rattle.terms.specs.Market.{leg_of}
use Rattle.sought.specs.Objectives.{objective, first_lower, first_upper}
use Rattle.sought.specs.laws.Sought.{Ready}
use Rattle.brackets.specs.Brackets.{bracketed_root}
use Rattle.brackets.specs.laws.SoughtRoots.{sought-yield}
use Rattle.bondanalytics.proofs.yields.solve_yield.Goals as goal

pub bracketed_root-requires : goal.bracketed_root-requires
unfolding Ready
bracketed_root-requires c = c.requires

pub returns : goal.returns
unfolding of_bits neg
returns c =
    let leg = leg_of c.args.leg in
    c.bracketed_root.ensures
    ∙ sought-yield c.args.settlement c.args.leg c.args.rate c.args.target first_lower first_upper _
    ∙ ap (λ (l : Float). bracketed_root (objective c.args.settlement leg c.args.rate c.args.target) first_lower first_upper l) c.lowest_yield-lowest.ensures
