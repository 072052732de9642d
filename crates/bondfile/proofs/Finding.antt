-- What is left once an entry was found: no refused line was among them, so none is left, and the one found is none. Assumes nothing.
use Rattle.std.specs.Prelude.{◌≡◌, ◌<◌, Option, Some, None, MatchOption, List, [], ◌∷◌, All, Err}
use Rattle.std.proofs.Common.{ap, sym, ◌∙◌}
use Rattle.std.proofs.lemmas.List.Elements.{All-rest, All-same}
use Rattle.bondline.specs.declared.Fault.{Fault}
use Rattle.bondfile.specs.declared.SaidLine.{SaidLine}
use Rattle.bondfile.specs.Entries.{kind_of}
use Rattle.bondfile.specs.File.{Numbered, first_entry}
use Rattle.bondfile.specs.Walks.{numbered_said}
use Rattle.bondfile.specs.laws.OfKinds.{not_refused}

abbrev pub Known : Numbered → Type 0
Known e = kind_of e.entry < 12

pub still_known : (r : Option SaidLine) (before after : List Numbered) → MatchOption r ((before ≡ []) × (after ≡ [])) (λ x. before ≡ numbered_said x ∷ after) → All Known before → All Known after
still_known (Some x) before after s h = All-rest Known (numbered_said x) after before s h
still_known None before after s h = All-same Known after before (s.1 ∙ sym s.0) h

pub found_known : (x : SaidLine) {q : Fault} (before after : List Numbered) → before ≡ numbered_said x ∷ after → All Known before → x.entry ≡ Err q → ⊥
found_known x before after s h e = not_refused before h (ap first_entry s ∙ e)
