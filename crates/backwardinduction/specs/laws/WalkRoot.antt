-- The root's value is the first entry of the first row. Assumes nothing.
use Rattle.std.specs.Prelude.{ℕ, ◌<◌, ◌≡◌, refl, List, [], ◌∷◌, length, get_or, take, ℤ, pos, Float, Ok, Err}
use Rattle.std.proofs.Common.{sym, ◌∙◌, arith}
use Rattle.std.proofs.Math.Path.{ap}
use Rattle.std.specs.Float.{nan}
use Rattle.floats.specs.Refusals.{Refusal}
use Rattle.floats.specs.Answers.{Answer, Check, Outcome, follow, on_outcome, outcome_of}
use Rattle.lattice.specs.Layers.{At, value_at}
use Rattle.lattice.specs.Lattice.{root_layer}
use Rattle.lattice.specs.laws.Stored.{numbers_in, row_of}
use Rattle.lattice.specs.laws.Rows.{Both}
use Rattle.lattice.specs.laws.Laid.{front_nodes}
use Rattle.forwardinduction.specs.laws.Fitting.{row_in}

root-entry : (row : List Float) → 0 < length row → value_at (pos 0) (row_of root_layer (take 1 row)) ≡ get_or row 0 nan
unfolding value_at row_of
root-entry [] h = absurd (omega arith)
root-entry (x ∷ row) h = refl

-- The value at the root, or the refusal.
abbrev pub root_of : Outcome (List At) → Answer
root_of o = on_outcome o Err λ row. Ok (value_at (pos 0) row)

module _ (c : ℕ) (nodes : List ℤ) (rows : Both) {r : Check} {o : Outcome (List At)} (w : follow (outcome_of r rows) (λ rows. Ok (row_in 0 c nodes rows)) ≡ o) where
  pub root-passed : r ≡ Ok tt → c ≡ 1 → numbers_in (front_nodes 1 nodes) ≡ root_layer → 0 < length rows.first → Ok (get_or rows.first 0 nan) ≡ root_of o
  unfolding outcome_of on_outcome
  root-passed p one root some =
      ap Ok (sym (root-entry rows.first some))
      ∙ rw (← w, p, one, root)

  pub root-refused : {q : Refusal} {a : Answer} → r ≡ Err q → a ≡ Err q → a ≡ root_of o
  unfolding outcome_of on_outcome
  root-refused p f = rw (← w, p, f)
