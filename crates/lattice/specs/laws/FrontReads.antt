-- The layer in front, read by index and as a part: the same numbers and middles. Assumes nothing.
use Rattle.std.specs.Prelude.{ℕ, zero, suc, ◌+◌, ◌*◌, ◌≤◌, ◌≡◌, refl, List, [], ◌∷◌, ◌++◌, length, get_or, take, drop, ℤ, pos}
use Rattle.std.proofs.Common.{arith, sym, ap, ◌∙◌, length-append, take_at}
use Rattle.lattice.specs.declared.Transition.{Transition}
use Rattle.lattice.specs.laws.Stored.{numbers_in, middles_in, pairs_of}
use Rattle.lattice.specs.laws.StoredAt.{drop_two}
use Rattle.lattice.specs.laws.Laid.{front_nodes}
use Rattle.lattice.specs.laws.FilledLayer.{numbers_from, pairs-count}
use Rattle.lattice.specs.laws.Counting.{middles_from}
use Rattle.lattice.specs.laws.Middles.{middles_of}

-- node i in front of k others
front_more : (l : List ℤ) (i k : ℕ) → (i + suc k) * 2 ≤ length l → take (suc k * 2) (drop (i * 2) l) ≡ get_or l (2 * i) (pos 0) ∷ get_or l (2 * i + 1) (pos 0) ∷ take (k * 2) (drop ((i + 1) * 2) l)
front_more l i k h =
    let e : suc k * 2 ≡ suc (suc (k * 2)) = omega arith in
    let f : 2 * i ≡ i * 2 = omega arith in
    rw (drop_two l (pos 0) i (omega arith), e, f)

numbers-part : (l : List ℤ) (i k : ℕ) → (i + k) * 2 ≤ length l → numbers_from l i k ≡ numbers_in (take (k * 2) (drop (i * 2) l))
unfolding numbers_from numbers_in
numbers-part l i zero h = refl
numbers-part l i (suc k) h = rw (front_more l i k h) (ap (λ (z : List ℤ). get_or l (2 * i) (pos 0) ∷ z) (numbers-part l (i + 1) k (omega arith)))

middles-part : (l : List ℤ) (i k : ℕ) → (i + k) * 2 ≤ length l → middles_from l i k ≡ middles_in (take (k * 2) (drop (i * 2) l))
unfolding middles_from middles_in
middles-part l i zero h = refl
middles-part l i (suc k) h = rw (front_more l i k h) (ap (λ (z : List ℤ). get_or l (2 * i + 1) (pos 0) ∷ z) (middles-part l (i + 1) k (omega arith)))

pub numbers-front : (l : List ℤ) (c : ℕ) → c * 2 ≤ length l → numbers_from l 0 c ≡ numbers_in (front_nodes c l)
numbers-front l c h = numbers-part l 0 c (omega arith)

pub middles-front : (l : List ℤ) (c : ℕ) → c * 2 ≤ length l → middles_from l 0 c ≡ middles_in (front_nodes c l)
middles-front l c h = middles-part l 0 c (omega arith)

middles-pairs : (ns : List ℤ) (ts : List Transition) → length ns ≡ length ts → middles_in (pairs_of ns ts) ≡ middles_of ts
unfolding middles_in pairs_of middles_of
middles-pairs [] [] e = refl
middles-pairs [] (t ∷ ts) e = absurd (omega arith)
middles-pairs (n ∷ ns) [] e = absurd (omega arith)
middles-pairs (n ∷ ns) (t ∷ ts) e = ap (λ (z : List ℤ). t.middle ∷ z) (middles-pairs ns ts (omega arith))

-- The middles of a layer that is filled.
pub filled-middles : (ns : List ℤ) (ts : List Transition) (rest : List ℤ) (c : ℕ) → length ns ≡ c → length ts ≡ c → middles_from (pairs_of ns ts ++ rest) 0 c ≡ middles_of ts
filled-middles ns ts rest c p q =
    let e : length (pairs_of ns ts) ≡ c * 2 = pairs-count ns ts (p ∙ sym q) ∙ (omega arith) in
    middles-front (pairs_of ns ts ++ rest) c (rw (length-append (pairs_of ns ts) rest) (omega arith))
    ∙ ap middles_in (take_at (pairs_of ns ts) rest (c * 2) e)
    ∙ middles-pairs ns ts (p ∙ sym q)
