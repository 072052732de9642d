-- Definitions only. What is left of a file on the way through its lines.
use Rattle.std.specs.Prelude.{ℕ, ◌≡◌, Ok, List}
use Rattle.bondfile.specs.declared.Found.{Found}
use Rattle.bondfile.specs.declared.SaidLine.{SaidLine}
use Rattle.bondfile.specs.declared.file.Lines.{Lines}
use Rattle.bondfile.specs.declared.file.OfKind.{OfKind}
use Rattle.bondfile.specs.declared.file.OfNumber.{OfNumber}
use Rattle.bondline.specs.Forms.{Said}
use Rattle.bondfile.specs.File.{Numbered, entries_from, of_kind}

abbrev pub lines_left : Lines → List Numbered
lines_left s = entries_from s.text.now s.at s.line

abbrev pub numbered_line : ℕ × Said → Numbered
numbered_line p = record { line = p.0; entry = p.1 }

abbrev pub said_left : OfNumber → List Numbered
said_left s = of_kind s.kind (entries_from s.text.now s.at s.line)

abbrev pub numbered_said : SaidLine → Numbered
numbered_said f = record { line = f.line; entry = f.entry }

abbrev pub found_left : OfKind → List Numbered
found_left s = said_left s.said

abbrev pub numbered_found : Found → Numbered
numbered_found f = record { line = f.line; entry = Ok f.entry }

-- That a closure's results are a part of what each line says.
abbrev pub ReadsSaid : {F T : Type 0} → (F → SaidLine → T → Type 0) → F → (Numbered → T) → Type 0
ReadsSaid post f p = (x : SaidLine) (r : _) → post f x r → r ≡ p (numbered_said x)

-- That a closure's results are a part of each entry.
abbrev pub Reads : {F T : Type 0} → (F → Found → T → Type 0) → F → (Numbered → T) → Type 0
Reads post f p = (x : Found) (r : _) → post f x r → r ≡ p (numbered_found x)
