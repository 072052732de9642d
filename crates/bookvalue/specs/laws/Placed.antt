-- What a rule says of each bond, in 32 places: read at a place, and written place by place. Assumes nothing.
use Prim.Native.Nat.{ℕ, zero, suc, ◌+◌, ◌-◌, ◌≤◌, ◌<◌}
use native.Mathlib.Omega.{arith}
use Rattle.std.proofs.Common.{eq-or-lt_of_le, le_of_suc-le-suc, sym, ap, ◌∙◌, get_or-append-add}
use Rattle.std.proofs.Math.Numerals.{add-one}
use Rattle.std.proofs.Math.Logic.{inl, inr}
use Rattle.std.specs.Prelude.{◌≡◌, length, get_or}
use Rattle.std.proofs.Math.Path.{refl}
use mathlib.Core.List.{List, [], ◌∷◌, ◌++◌}
use Rattle.std.proofs.Math.ListN.{set, replicate, length-append, get_or-append}
use Rattle.std.proofs.lemmas.List.{get_or_at}
use Rattle.terms.specs.laws.Searching.{below_or_not}
use Rattle.bookvalue.specs.Values.{each, placed}

pub none-there : {A : Type 0} (none : A) (k j : ℕ) → get_or (replicate k none) j none ≡ none
none-there none zero j = refl
none-there none (suc k) zero = refl
none-there none (suc k) (suc j) = none-there none k j

module _ {A : Type 0} (f : ℕ → A) where
  pub each-length : (n : ℕ) → length (each f n) ≡ n
  unfolding each
  each-length zero = refl
  each-length (suc n) = let e = each-length n in length-append (each f n) (f n ∷ []) ∙ (omega arith)

  pub each_at : (n i : ℕ) (d : A) → i < n → get_or (each f n) i d ≡ f i
  unfolding each
  each_at zero i d h = absurd (omega arith)
  each_at (suc n) i d h =
      let l = each-length n in
      elim (eq-or-lt_of_le (le_of_suc-le-suc h)) [
        | inl e ↦ rw e (get_or_at (each f n) (f n) [] d n l)
        | inr k ↦ get_or-append (each f n) (f n ∷ []) d i (omega arith) ∙ each_at n i d k
      ]

  module _ (none : A) where
    -- A bond's place, and those past the size.
    pub placed_at : (n i : ℕ) → i < n → get_or (placed none f n) i none ≡ f i
    placed_at n i h = let l = each-length n in get_or-append (each f n) (replicate (32 - n) none) none i (omega arith) ∙ each_at n i none h

    pub placed_past : (n i : ℕ) → n ≤ i → get_or (placed none f n) i none ≡ none
    placed_past n i h =
        let l = each-length n in
        let e : i ≡ length (each f n) + (i - n) = omega arith in
        ap (λ (k : ℕ). get_or (placed none f n) k none) e ∙ get_or-append-add (each f n) (replicate (32 - n) none) (i - n) none ∙ none-there none (32 - n) (i - n)

    -- What holds of each and of none holds at every place.
    pub placed_all_lem : (P : A → Type 0) (n : ℕ) → ((i : ℕ) → i < n → P (f i)) → P none → (i : ℕ) → P (get_or (placed none f n) i none)
    placed_all_lem P n h z i =
        elim (below_or_not i n) [
          | inl k ↦ rw (placed_at n i k) (h i k)
          | inr k ↦ rw (placed_past n i k) z
        ]

    pub placed-begin : replicate 32 none ≡ placed none f 0
    unfolding each
    placed-begin = refl

    set_next : (xs : List A) (k : ℕ) (x : A) → set (xs ++ replicate (suc k) none) (length xs) x ≡ (xs ++ (x ∷ [])) ++ replicate k none
    set_next [] k x = refl
    set_next (y ∷ ys) k x = ap {B = List A} (λ r. y ∷ r) (set_next ys k x)

    -- One more place.
    pub placed_more : (i : ℕ) (row : List A) {x : A} → i < 32 → row ≡ placed none f i → x ≡ f i → set row i x ≡ placed none f (i + 1)
    unfolding each
    placed_more i row {x} h e g =
        let l = each-length i in
        let more : 32 - i ≡ suc (31 - i) = omega arith in
        let less : 32 - (suc i) ≡ 31 - i = omega arith in
        rw (e, g, add-one, more, less) (ap (λ (k : ℕ). set (each f i ++ replicate (suc (31 - i)) none) k (f i)) (sym l) ∙ set_next (each f i) (31 - i) (f i))

pub each-alike : {A : Type 0} (f g : ℕ → A) (n : ℕ) → ((i : ℕ) → i < n → f i ≡ g i) → each f n ≡ each g n
unfolding each
each-alike f g zero h = refl
each-alike f g (suc n) h = rw (each-alike f g n (λ i l. h i (omega arith)), h n (omega arith))
