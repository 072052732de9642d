-- `flat::all_flat` meets its contract: what `all` answers over the variances. Assumes nothing.
use Rattle.std.specs.Prelude.{◌≡◌, List, [], ◌∷◌, Float, refl}
use Rattle.std.proofs.Common.{rules, tests, ◌∙◌}
use Rattle.std.specs.Float.Ieee.{le}
use Rattle.std.specs.List.{list_all}
use Rattle.std.proofs.lemmas.Iterator.{YieldsList-from_slice}
use Rattle.std.proofs.lemmas.Iterator.Search.{all_from_yields_List}
use Rattle.terms.specs.Numbers.{epsilon}
use Rattle.lattice.specs.Lattice.{all_flat}
use Rattle.latticetransitions.proofs.flat.all_flat.Goals as goal

list_all-flat : (vs : List Float) → list_all (λ v. le v epsilon) vs ≡ all_flat vs
unfolding all_flat
list_all-flat [] = refl
list_all-flat (v ∷ vs) = rw (list_all-flat vs)

pub returns : goal.returns
returns c =
    let vs = c.args.variances.now in
    all_from_yields_List (λ v. le v epsilon) _ _ c.all.result c.all.ensures.ran (YieldsList-from_slice vs cc) (λ x b q k. search (rules, tests)) ∙ list_all-flat vs
