-- A layer's two parts read back: its numbers, its middles and its transitions; and a layer that has numbers alone. Assumes nothing.
use Rattle.std.specs.Prelude.{ℕ, zero, suc, ◌*◌, ◌≡◌, false, length, ℤ}
use Rattle.std.proofs.Common.{arith, sym, ◌∙◌}
use Rattle.std.proofs.Math.Path.{refl, ap}
use mathlib.Core.List.{List, [], ◌∷◌}
use Rattle.std.proofs.Math.IntN.{pred_ℤ, suc_ℤ}
use Rattle.lattice.specs.declared.Transition.{Transition}
use Rattle.lattice.specs.Transitions.{Step}
use Rattle.lattice.specs.laws.Bounds.{AllWithin, no_middle, one_middle}
use Rattle.lattice.specs.laws.Stored.{numbers_in, middles_in, made_of, transitions_in, pairs_of, last_pairs, threes_of}
use Rattle.lattice.specs.laws.Middles.{Along, no_node, one_node, middles_of}

-- two entries a node
pub numbers-counted : (c : ℕ) (l : List ℤ) → length l ≡ c * 2 → length (numbers_in l) ≡ c
unfolding numbers_in
numbers-counted zero [] e = refl
numbers-counted zero (n ∷ l) e = absurd (omega arith)
numbers-counted (suc c) [] e = absurd (omega arith)
numbers-counted (suc c) (n ∷ []) e = absurd (omega arith)
numbers-counted (suc c) (n ∷ m ∷ l) e = ap suc (numbers-counted c l (omega arith))

-- ---- a layer with its transitions

made-back : (t : Transition) → t.down ≡ pred_ℤ t.middle → t.up ≡ suc_ℤ t.middle → made_of false t.middle t.probability_down t.probability_middle t.probability_up ≡ t
unfolding made_of
made-back t d u = rw (← d, ← u)

module _ {s : Step} where
  pub along-counted : {ns : List ℤ} {ts : List Transition} → Along s ns ts → length ns ≡ length ts
  along-counted no_node = refl
  along-counted (one_node f a) = ap suc (along-counted a)

  pub along-within : {ns : List ℤ} {ts : List Transition} → Along s ns ts → AllWithin (middles_of ts)
  unfolding middles_of
  along-within no_node = no_middle
  along-within (one_node f a) = one_middle f.within (along-within a)

  pub numbers-back : {ns : List ℤ} {ts : List Transition} → Along s ns ts → numbers_in (pairs_of ns ts) ≡ ns
  unfolding numbers_in pairs_of
  numbers-back no_node = refl
  numbers-back (one_node {n = n} f a) = ap (λ (l : List ℤ). n ∷ l) (numbers-back a)

  pub middles-back : {ns : List ℤ} {ts : List Transition} → Along s ns ts → middles_in (pairs_of ns ts) ≡ middles_of ts
  unfolding middles_in pairs_of middles_of
  middles-back no_node = refl
  middles-back (one_node {t = t} f a) = ap (λ (l : List ℤ). t.middle ∷ l) (middles-back a)

  pub transitions-back : {ns : List ℤ} {ts : List Transition} → Along s ns ts → transitions_in false (pairs_of ns ts) (threes_of ts) ≡ ts
  unfolding transitions_in pairs_of threes_of
  transitions-back no_node = refl
  transitions-back (one_node {t = t} {ts = ts} f a) =
      let p = f.spread in
      rw (transitions-back a) (ap (λ (u : Transition). u ∷ ts) (made-back t (p.down ∙ ap pred_ℤ (sym p.middle)) (p.up ∙ ap suc_ℤ (sym p.middle))))

-- ---- a layer without

pub last_numbers : (ns : List ℤ) → numbers_in (last_pairs ns) ≡ ns
unfolding numbers_in last_pairs
last_numbers [] = refl
last_numbers (n ∷ ns) = ap (λ (l : List ℤ). n ∷ l) (last_numbers ns)

pub last_counted : (ns : List ℤ) → length (last_pairs ns) ≡ length ns * 2
unfolding last_pairs
last_counted [] = refl
last_counted (n ∷ ns) = let h = last_counted ns in omega arith
