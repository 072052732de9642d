-- The entries of a kind have that kind, and where its number is below 12 none of them is a refused line. Assumes nothing.
use Rattle.std.specs.Prelude.{ℕ, ◌<◌, ◌≡◌, refl, Bool, true, false, cond, List, [], ◌∷◌, All, eqb, Err}
use Rattle.std.proofs.Common.{arith, ap, eqb-true}
use Rattle.std.proofs.lemmas.List.Elements.{All-nil, All-cons, All-head, All-weaker}
use Rattle.bondline.specs.declared.Fault.{Fault}
use Rattle.bondfile.specs.Entries.{kind_of}
use Rattle.bondfile.specs.File.{Numbered, of_kind, first_entry, entries_of, field_of}

pub of-its_kind : (k : ℕ) (es : List Numbered) → All (λ e. kind_of e.entry ≡ k) (of_kind k es)
unfolding of_kind
of-its_kind k [] = All-nil (λ (e : Numbered). kind_of e.entry ≡ k)
of-its_kind k (e ∷ es) = pick (eqb (kind_of e.entry) k) refl (of-its_kind k es)
  where
    pick : (z : Bool) → eqb (kind_of e.entry) k ≡ z → All (λ e. kind_of e.entry ≡ k) (of_kind k es) → All (λ e. kind_of e.entry ≡ k) (cond z (e ∷ of_kind k es) (of_kind k es))
    pick true t h = All-cons (λ (x : Numbered). kind_of x.entry ≡ k) e (of_kind k es) (eqb-true (kind_of e.entry) k t) h
    pick false t h = h

-- 12 alone is a refused line's number.
pub none-refused : (k : ℕ) (es : List Numbered) → k < 12 → All (λ e. kind_of e.entry < 12) (of_kind k es)
none-refused k es h = All-weaker (λ (e : Numbered). kind_of e.entry ≡ k) (λ (e : Numbered). kind_of e.entry < 12) (λ e p. omega (arith, p, h)) (of_kind k es) (of-its_kind k es)

pub not_refused : (es : List Numbered) {q : Fault} → All (λ e. kind_of e.entry < 12) es → first_entry es ≡ Err q → ⊥
not_refused [] h p = let z : ◌≡◌ {A = ℕ} 0 12 = ap kind_of p in omega arith
not_refused (e ∷ es) {q} h p = let z : kind_of e.entry ≡ 12 = ap kind_of p in omega (arith, All-head (λ (x : Numbered). kind_of x.entry < 12) e es h)

-- What a file's first entry of a kind says is no fault.
pub field_known : (k : ℕ) (text : List ℕ) {q : Fault} → k < 12 → field_of k text ≡ Err q → ⊥
field_known k text h = not_refused (of_kind k (entries_of text)) (none-refused k (entries_of text) h)
