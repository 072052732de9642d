-- From word to word of a line, and of a table in which one is looked for. Assumes nothing.
use Rattle.std.proofs.Common.{ℕ, suc, ◌+◌, ◌-◌, ◌<◌, ◌≤◌, ◌≡◌, cond, Some, None, List, refl, ap, ◌∙◌, arith, add-one}
use Rattle.bondline.specs.Bytes.{same}
use Rattle.bondline.specs.Words.{word_from, span_of, word_at, seek}

pub span_none : (line : List ℕ) → span_of line 0 ≡ word_from line 0
unfolding span_of
span_none line = refl

pub span_more : (line : List ℕ) (n : ℕ) → span_of line (n + 1) ≡ word_from line (span_of line n).end
unfolding span_of
span_more line n = rw add-one refl

pub seek_more : (word table : List ℕ) (n k : ℕ) → k < n → seek word table (n - k) k ≡ cond (same word (word_at table k)) (Some k) (seek word table (n - (k + 1)) (k + 1))
seek_more word table n k h =
    let left : n - k ≡ suc (n - (k + 1)) = omega arith in
    ap (λ (m : ℕ). seek word table m k) left ∙ (unfold seek in rw add-one refl)

pub seek_none : (word table : List ℕ) (n k : ℕ) → n ≤ k → seek word table (n - k) k ≡ None
seek_none word table n k h =
    let none : n - k ≡ 0 = omega arith in
    ap (λ (m : ℕ). seek word table m k) none ∙ (unfold seek in refl)
