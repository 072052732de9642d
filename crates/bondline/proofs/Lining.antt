-- A line behind the end of a text says nothing. Assumes nothing.
use Rattle.std.proofs.Common.{ℕ, ◌≤◌, ◌≡◌, Ok, List, [], length, refl, sym, ap, ◌∙◌, drop_of_length-le}
use Rattle.std.proofs.Math.Seq.{take-nil}
use Rattle.bondline.specs.declared.Entry.TheVariants.{Blank}
use Rattle.bondline.specs.Words.{span_of}
use Rattle.bondline.specs.Forms.{body_entry}
use Rattle.bondline.specs.Lines.{line_entry, line_at}

nothing : Ok Blank ≡ line_entry []
unfolding line_entry body_entry span_of
nothing = refl

pub no_line : (text : List ℕ) (at : ℕ) → length text ≤ at → Ok Blank ≡ line_entry (line_at text at)
no_line text at h = nothing ∙ ap line_entry (sym (rw (drop_of_length-le text h, take-nil) refl))
