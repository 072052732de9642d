-- The values of a rule over a list, and over a list with one more element at its end. Assumes nothing.
use Rattle.std.specs.Prelude.{◌≡◌, refl, List, [], ◌∷◌, ◌++◌, map, ℕ, zero, suc, ◌<◌, length, get_or}
use Rattle.std.proofs.Common.{ap, arith}

module _ {A B : Type 0} (f : A → B) where
  pub map_next : (xs : List A) (x : A) → map f (xs ++ (x ∷ [])) ≡ map f xs ++ (f x ∷ [])
  map_next [] x = refl
  map_next (y ∷ ys) x = ap (λ r. f y ∷ r) (map_next ys x)

  pub map_at : (xs : List A) (k : ℕ) (d : A) (e : B) → k < length xs → get_or (map f xs) k e ≡ f (get_or xs k d)
  map_at [] k d e h = absurd (omega arith)
  map_at (x ∷ xs) zero d e h = refl
  map_at (x ∷ xs) (suc k) d e h = map_at xs k d e (omega arith)
