-- A layer's parts read by position: what node i has in front, and what is left behind it. Assumes nothing.
use Rattle.std.specs.Prelude.{ℕ, zero, suc, ◌+◌, ◌*◌, ◌<◌, ◌≤◌, ◌≡◌, refl, List, [], ◌∷◌, length, get_or, drop, ℤ, pos, Float}
use Rattle.std.proofs.Common.{◌∙◌, ap, add-one, arith, drop_of_length-le, drop-cons}
use Rattle.std.specs.Float.{nan}
use Rattle.lattice.specs.Layers.{At}
use Rattle.lattice.specs.laws.Stored.{numbers_in, middles_in, row_of}

-- inside the length a default is not read
pub get_d_inside : {A : Type 0} (l : List A) (k : ℕ) (d e : A) → k < length l → get_or l k d ≡ get_or l k e
get_d_inside [] k d e h = absurd (omega arith)
get_d_inside (x ∷ l) zero d e h = refl
get_d_inside (x ∷ l) (suc k) d e h = get_d_inside l k d e (omega arith)

-- the first two entries from j on, and the first three
module _ {A : Type 0} (d : A) (l : List A) (j : ℕ) where
  pub two_more : j + 2 ≤ length l → drop j l ≡ get_or l j d ∷ get_or l (j + 1) d ∷ drop (j + 2) l
  two_more h =
      let e : suc (suc j) ≡ j + 2 = omega arith in
      let f : suc j ≡ j + 1 = omega arith in
      drop-cons l j d (omega arith) ∙ ap (λ (z : List A). get_or l j d ∷ z) (drop-cons l (suc j) d (omega arith) ∙ rw (e, f))

  pub three_more : j + 3 ≤ length l → drop j l ≡ get_or l j d ∷ get_or l (j + 1) d ∷ get_or l (j + 2) d ∷ drop (j + 3) l
  three_more h =
      let e : suc (j + 2) ≡ j + 3 = omega arith in
      two_more (omega arith) ∙ ap (λ (z : List A). get_or l j d ∷ get_or l (j + 1) d ∷ z) (drop-cons l (j + 2) d (omega arith) ∙ rw e)

-- two entries a node
pub drop_two : {A : Type 0} (l : List A) (d : A) (i : ℕ) → i * 2 + 1 < length l → drop (i * 2) l ≡ get_or l (i * 2) d ∷ get_or l (i * 2 + 1) d ∷ drop ((i + 1) * 2) l
drop_two l d i h = let e : i * 2 + 2 ≡ (i + 1) * 2 = omega arith in two_more d l (i * 2) (omega arith) ∙ rw e

-- three entries a node
pub drop_three : {A : Type 0} (l : List A) (d : A) (i : ℕ) → i * 3 + 2 < length l
    → drop (i * 3) l ≡ get_or l (i * 3) d ∷ get_or l (i * 3 + 1) d ∷ get_or l (i * 3 + 2) d ∷ drop ((i + 1) * 3) l
drop_three l d i h = let e : i * 3 + 3 ≡ (i + 1) * 3 = omega arith in three_more d l (i * 3) (omega arith) ∙ rw e

pub drop_one : {A : Type 0} (l : List A) (d : A) (i : ℕ) → i < length l → drop i l ≡ get_or l i d ∷ drop (i + 1) l
drop_one l d i h = rw add-one (drop-cons l i d h)

-- the numbers and a row from node i on
abbrev pub row_from : List ℤ → List Float → ℕ → List At
row_from nodes row i = row_of (numbers_in (drop (i * 2) nodes)) (drop i row)

pub row_from_lem : (nodes : List ℤ) (row : List Float) (i : ℕ) → length nodes ≡ length row * 2 → i < length row
    → row_from nodes row i ≡ record { node = get_or nodes (i * 2) (pos 0); value = get_or row i nan } ∷ row_from nodes row (i + 1)
unfolding row_of numbers_in
row_from_lem nodes row i e h =
    let a : i * 2 + 1 < length nodes = omega arith in
    rw (drop_two nodes (pos 0) i a, drop_one row nan i h)

pub row_done : (nodes : List ℤ) (row : List Float) (i : ℕ) → length nodes ≡ length row * 2 → length row ≤ i → row_from nodes row i ≡ []
unfolding row_of numbers_in
row_done nodes row i e h = let a : length nodes ≤ i * 2 = omega arith in rw (drop_of_length-le nodes a)

-- the middles from node i on
pub middles_from_lem : (nodes : List ℤ) (i : ℕ) → i * 2 + 1 < length nodes → middles_in (drop (i * 2) nodes) ≡ get_or nodes (i * 2 + 1) (pos 0) ∷ middles_in (drop ((i + 1) * 2) nodes)
unfolding middles_in
middles_from_lem nodes i h = rw (drop_two nodes (pos 0) i h)
