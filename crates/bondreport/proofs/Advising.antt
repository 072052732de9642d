-- The sentence beside a number that no arm names. Assumes nothing.
use Prim.Native.Nat.{ℕ}
use mathlib.Core.Path.{◌≡◌, refl, ap, ◌∙◌}
use mathlib.Core.List.{List, [], ◌∷◌}
use Rattle.floats.proofs.Laws.{left_eq}
use Rattle.bondreport.specs.Lines.{text_line}
use Rattle.bondreport.specs.Sentences.{Advice, advice, unknown, looked_up, sentence_for}

-- None of the numbers of a list, behind what was known before.
abbrev Past : Type 0 → List Advice → ℕ → Type 0
Past T [] n = T
Past T (a ∷ rest) n = Past (T × (n ≡ a.number → ⊥)) rest n

past : (T : Type 0) (l : List Advice) (n : ℕ) → Past T l n → T × (unknown ≡ looked_up l n)
unfolding looked_up
past T [] n p = (p, refl)
past T (a ∷ rest) n p =
    let q = past (T × (n ≡ a.number → ⊥)) rest n p in
    (q.0.0, left_eq n a.number a.sentence (looked_up rest n) q.0.1 q.1)

pub unnamed : {r : List ℕ} (n : ℕ) → Past Unit advice n → r ≡ text_line unknown → r ≡ text_line (sentence_for n)
unfolding sentence_for
unnamed n p e = e ∙ ap (λ (z : List ℕ). text_line z) (past Unit advice n p).1
