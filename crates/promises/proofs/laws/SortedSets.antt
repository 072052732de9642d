-- Node numbers into a sorted set: the order in which they come doesn't matter. Assumes nothing.
use Rattle.std.specs.Prelude.{ℕ, ◌≡◌, refl, Bool, true, false, List, [], ◌∷◌, ℤ, pos, negsuc}
use Rattle.std.proofs.Common.{le_antisymm, arith, sym, ap, subst, ◌∙◌, ltb-true, ltb-false, lt-ltb}
use Rattle.lattice.specs.Layers.{below, insert}
use Rattle.lattice.specs.laws.IntegerOrder.{below_self, below_asym}

never : {A : Type 0} → false ≡ true → A
never e = let z : ◌≡◌ {A = ℕ} 0 1 = cc in absurd (omega arith)

below_trans : (a b c : ℤ) → below a b ≡ true → below b c ≡ true → below a c ≡ true
below_trans (pos a) (pos b) (pos c) p q = lt-ltb a c (omega (arith, ltb-true a b p, ltb-true b c q))
below_trans (pos a) (pos b) (negsuc c) p q = never q
below_trans (pos a) (negsuc b) c p q = never p
below_trans (negsuc a) (pos b) (pos c) p q = refl
below_trans (negsuc a) (pos b) (negsuc c) p q = never q
below_trans (negsuc a) (negsuc b) (pos c) p q = refl
below_trans (negsuc a) (negsuc b) (negsuc c) p q = lt-ltb c a (omega (arith, ltb-true b a p, ltb-true c b q))

-- ---- two numbers

pub data Compared (a b : ℤ) : Type 0 where
  lower : below a b ≡ true → Compared a b
  higher : below b a ≡ true → Compared a b
  same : a ≡ b → Compared a b

-- Neither below the other: the same.
pub neither : (a b : ℤ) → below a b ≡ false → below b a ≡ false → a ≡ b
neither (pos a) (pos b) p q = ap pos (le_antisymm (ltb-false b a q) (ltb-false a b p))
neither (pos a) (negsuc b) p q = never (sym q)
neither (negsuc a) (pos b) p q = never (sym p)
neither (negsuc a) (negsuc b) p q = ap negsuc (le_antisymm (ltb-false b a p) (ltb-false a b q))

pub compared : (a b : ℤ) → Compared a b
compared a b = go (below a b) (below b a) refl refl
  where
    go : (x y : Bool) → below a b ≡ x → below b a ≡ y → Compared a b
    go true y p q = lower p
    go false true p q = higher q
    go false false p q = same (neither a b p q)

-- ---- one number

in-front : (n m : ℤ) (ms : List ℤ) → below n m ≡ true → insert n (m ∷ ms) ≡ n ∷ m ∷ ms
unfolding insert
in-front n m ms e = rw e

past : (n m : ℤ) (ms : List ℤ) → below m n ≡ true → insert n (m ∷ ms) ≡ m ∷ insert n ms
unfolding insert
past n m ms e = rw (below_asym m n e, e)

there : (n m : ℤ) (ms : List ℤ) → n ≡ m → insert n (m ∷ ms) ≡ m ∷ ms
unfolding insert
there n m ms e = rw (e, below_self m)

-- ---- two numbers, either first

lower_first : (a b : ℤ) (s : List ℤ) → below a b ≡ true → insert a (insert b s) ≡ insert b (insert a s)
unfolding insert
lower_first a b [] e = in-front a b [] e ∙ sym (past b a [] e)
lower_first a b (m ∷ ms) e = go (compared a m) (compared b m) (lower_first a b ms e)
  where
    Goal : Type 0
    Goal = insert a (insert b (m ∷ ms)) ≡ insert b (insert a (m ∷ ms))

    -- a in front of all; b goes past it.
    of_front : (t : List ℤ) → below a m ≡ true → insert b (m ∷ ms) ≡ t → insert a t ≡ a ∷ t → Goal
    of_front t l h f = ap (insert a) h ∙ f ∙ sym (ap (insert b) (in-front a m ms l) ∙ past b a (m ∷ ms) e ∙ ap (λ (s : List ℤ). a ∷ s) h)

    -- m below b, so b goes past it.
    of_past : below m b ≡ true → insert a (m ∷ insert b ms) ≡ insert b (insert a (m ∷ ms)) → Goal
    of_past l h = ap (insert a) (past b m ms l) ∙ h

    go : Compared a m → Compared b m → insert a (insert b ms) ≡ insert b (insert a ms) → Goal
    go (lower p) (lower q) h = of_front (b ∷ m ∷ ms) p (in-front b m ms q) (in-front a b (m ∷ ms) e)
    go (lower p) (higher q) h = of_front (m ∷ insert b ms) p (past b m ms q) (in-front a m (insert b ms) p)
    go (lower p) (same q) h = of_front (m ∷ ms) p (there b m ms q) (in-front a m ms p)
    go (higher p) c h =
        let l = below_trans m a b p e in
        of_past l (past a m (insert b ms) p ∙ ap (λ (s : List ℤ). m ∷ s) h ∙ sym (ap (insert b) (past a m ms p) ∙ past b m (insert a ms) l))
    go (same p) c h =
        let l : below m b ≡ true = subst (λ (z : ℤ). below z b ≡ true) p e in
        of_past l (there a m (insert b ms) p ∙ sym (ap (insert b) (there a m ms p) ∙ past b m ms l))

pub either_first : (a b : ℤ) (s : List ℤ) → insert a (insert b s) ≡ insert b (insert a s)
either_first a b s = go (compared a b)
  where
    go : Compared a b → insert a (insert b s) ≡ insert b (insert a s)
    go (lower e) = lower_first a b s e
    go (higher e) = sym (lower_first b a s e)
    go (same e) = subst (λ (z : ℤ). insert a (insert z s) ≡ insert z (insert a s)) e refl
