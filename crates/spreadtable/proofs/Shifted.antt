-- Sigmas looked at and shifted one after the other. Assumes nothing.
use Prim.Native.Nat.{ℕ, suc, ◌+◌, ◌≤◌, ◌<◌}
use mathlib.Core.Path.{◌≡◌, refl, sym, ap, ◌∙◌}
use mathlib.Core.Bool.{Bool, true, false, ◌||◌}
use mathlib.Core.List.{List, [], ◌∷◌, ◌++◌, map}
use native.Mathlib.Nat.{le_antisymm}
use native.Mathlib.Numerals.{add-one}
use native.Mathlib.Omega.{arith}
use lib.ListN.{length, get_or, set, take, drop, length-set, drop_of_length-le}
use lib.Seq.{drop-cons, take_all, take-suc, take-suc-set}
use lib.Ieee.{Float, nan, binary64, add, of_bits, of_int}
use Rattle.terms.specs.Numbers.{float}
use Rattle.terms.specs.Checks.{not_up_to}
use Rattle.spreadtable.specs.Table.{shifted, any_outside}

-- The limit as the code has it.
abbrev ten : Float
ten = of_bits binary64 0x4024_0000_0000_0000

ten_is : ten ≡ float 10
unfolding of_bits of_int
ten_is = refl

-- ---- whether one lies outside

pub record Looking (shift : Float) (sigmas : List Float) (i : ℕ) : Type 0 where
  pub within : i ≤ length sigmas
  pub rest : any_outside (shifted shift (drop i sigmas)) ≡ any_outside (shifted shift sigmas)

module _ (shift : Float) (sigmas : List Float) where
  pub look-begin : Looking shift sigmas 0
  look-begin = record { within = omega arith; rest = refl }

  module _ (i : ℕ) (p : Looking shift sigmas i) (h : i < length sigmas) {f : Bool} (e : f ≡ not_up_to ten (add binary64 (get_or sigmas i nan) shift)) where
    one : any_outside (shifted shift sigmas) ≡ (f || any_outside (shifted shift (drop (i + 1) sigmas)))
    unfolding any_outside
    one =
        sym p.rest
        ∙ ap (λ (l : List Float). any_outside (shifted shift l)) (drop-cons sigmas i nan h)
        ∙ ap (λ (b : Bool). b || any_outside (shifted shift (drop (suc i) sigmas))) (sym (e ∙ ap (λ (z : Float). not_up_to z (add binary64 (get_or sigmas i nan) shift)) ten_is))
        ∙ ap (λ (j : ℕ). f || any_outside (shifted shift (drop j sigmas))) (sym (add-one i))

    pub look-found : f ≡ true → true ≡ any_outside (shifted shift sigmas)
    look-found t = sym (one ∙ ap (λ (b : Bool). b || any_outside (shifted shift (drop (i + 1) sigmas))) t)

    pub look_on : f ≡ false → Looking shift sigmas (i + 1)
    look_on t = record { within = omega arith; rest = sym (one ∙ ap (λ (b : Bool). b || any_outside (shifted shift (drop (i + 1) sigmas))) t) }

  pub look-done : (i : ℕ) → Looking shift sigmas i → length sigmas ≤ i → false ≡ any_outside (shifted shift sigmas)
  unfolding any_outside
  look-done i p h = ap (λ (l : List Float). any_outside (shifted shift l)) (sym (drop_of_length-le sigmas h)) ∙ p.rest

-- ---- each of them shifted

pub record Shifting (shift : Float) (sigmas moved : List Float) (i : ℕ) : Type 0 where
  pub within : i ≤ length sigmas
  pub few : length sigmas ≤ 64
  pub size : length moved ≡ 64
  pub same : take i moved ≡ shifted shift (take i sigmas)

map_snoc : (f : Float → Float) (xs : List Float) (x : Float) → map f (xs ++ (x ∷ [])) ≡ map f xs ++ (f x ∷ [])
map_snoc f [] x = refl
map_snoc f (y ∷ xs) x = ap (λ (z : List Float). f y ∷ z) (map_snoc f xs x)

module _ (shift : Float) (sigmas moved : List Float) where
  pub shift-begin : length sigmas ≤ 64 → length moved ≡ 64 → Shifting shift sigmas moved 0
  shift-begin h e = record { within = omega arith; few = h; size = e; same = refl }

  module _ (i : ℕ) (p : Shifting shift sigmas moved i) where
    pub shift-turn : i < length sigmas → Shifting shift sigmas (set moved i (add binary64 (get_or sigmas i nan) shift)) (i + 1)
    shift-turn h =
        let x = add binary64 (get_or sigmas i nan) shift in
        record {
          within = omega arith;
          few = p.few;
          size = length-set moved i x ∙ p.size;
          same =
              rw (add-one i)
              (take-suc-set moved i x (omega (arith, p.size, p.few))
              ∙ ap (λ (z : List Float). z ++ (x ∷ [])) p.same
              ∙ sym (map_snoc (λ s. add binary64 s shift) (take i sigmas) (get_or sigmas i nan))
              ∙ ap (λ (z : List Float). shifted shift z) (sym (take-suc sigmas i nan h)));
        }

    pub shift-done : length sigmas ≤ i → take (length sigmas) moved ≡ shifted shift sigmas
    shift-done h =
        let e : i ≡ length sigmas = le_antisymm p.within h in
        ap (λ (n : ℕ). take n moved) (sym e) ∙ p.same ∙ ap (λ (z : List Float). shifted shift z) (take_all i sigmas h)
