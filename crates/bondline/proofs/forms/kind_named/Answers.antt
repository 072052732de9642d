-- `kind_named` meets its contract. Assumes nothing.
use Rattle.std.proofs.Common.{Some, option_map, sym, ap, ◌∙◌, get_or}
use Rattle.std.proofs.lemmas.List.{get_or_default}
use Rattle.bondline.specs.declared.Kind.TheVariants as kind
use Rattle.bondline.specs.Forms.{kinds, kind_named}
use Rattle.bondline.proofs.forms.kind_named.Goals as goal

pub returns : goal.returns
unfolding kind_named
returns c = ap Some (get_or_default kinds c.in_ok-place.place _ kind.Blank c.in_ok-place.ensures.within) ∙ ap (option_map (λ k. get_or kinds k kind.Blank)) (sym c.in_ok-place.was ∙ c.place_in.ensures.place)
