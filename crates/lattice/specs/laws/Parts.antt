-- A slice lent from an element on, and the whole once that part is back. Assumes nothing.
use Rattle.std.specs.Prelude.{ℕ, ◌-◌, ◌≤◌, ◌<◌, ◌≡◌, List, [], ◌∷◌, ◌++◌, length, take, drop, set}
use Rattle.std.proofs.Common.{arith, ap, ◌∙◌, append-nil, length-drop, length-set, drop_of_length-le}
use borrow.Rule.Slice.PartMut.{put_mid}
use borrow.Author.Rules.{part_to_end}

module _ {A : Type 0} where
  -- What is lent from element a on.
  abbrev pub part_from : ℕ → List A → List A
  part_from a xs = take (length xs - a) (drop a xs)

  pub part_from_lem : (a : ℕ) (xs : List A) → part_from a xs ≡ drop a xs
  part_from_lem a xs = part_to_end xs a

  pub part_length : (a : ℕ) (xs : List A) → length (part_from a xs) ≡ length xs - a
  part_length a xs = rw (part_from_lem a xs) (length-drop a xs)

  -- The whole, once the part from a on is ys.
  abbrev pub with_part : ℕ → List A → List A → List A
  with_part a xs ys = put_mid a (length xs - a) xs ys

  pub with_part_lem : (a : ℕ) (xs ys : List A) → with_part a xs ys ≡ take a xs ++ ys
  with_part_lem a xs ys =
      let h : length (drop a xs) ≤ length xs - a = rw (length-drop a xs) (omega arith) in
      rw (drop_of_length-le (drop a xs) h, append-nil)

  -- The same from the second element on, the first one written.
  pub rest-length : (xs : List A) (x : A) → length (part_from 1 (set xs 0 x)) ≡ length xs - 1
  rest-length xs x = part_length 1 (set xs 0 x) ∙ ap (λ (n : ℕ). n - 1) (length-set xs 0 x)

  pub with_rest : (xs : List A) (x : A) (ys : List A) → 0 < length xs → with_part 1 (set xs 0 x) ys ≡ x ∷ ys
  with_rest [] x ys h = absurd (omega arith)
  with_rest (z ∷ xs) x ys h = with_part_lem 1 (x ∷ xs) ys

  pub with_rest-length : (xs : List A) (x : A) (ys : List A) → 0 < length xs → length ys ≡ length (part_from 1 (set xs 0 x)) → length (with_part 1 (set xs 0 x) ys) ≡ length xs
  with_rest-length xs x ys h e = rw (with_rest xs x ys h) (omega (arith, e, rest-length xs x))
