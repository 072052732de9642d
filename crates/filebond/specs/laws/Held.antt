-- What a slice holds once a file's entries are stored in it: up to their count, what they say. Assumes nothing.
use Rattle.std.specs.Prelude.{ℕ, zero, suc, ◌≤◌, min, ◌≡◌, List, [], ◌∷◌, map, length, take, drop}
use Rattle.std.proofs.Common.{sym, ap, ◌∙◌, arith, take_at, take_all, length-take-le}
use Rattle.std.proofs.Math.Nat.{zero-min, min-zero, suc-min-suc}
use Rattle.std.proofs.lemmas.List.{length-map}
use Rattle.bondfile.specs.File.{Numbered}
use Rattle.bondfile.specs.Storing.{Stored, Kept}

take_min : {A : Type 0} (n : ℕ) (l : List A) → take (min (length l) n) l ≡ take n l
take_min zero l = rw (min-zero (length l))
take_min (suc n) [] = rw (zero-min (suc n))
take_min (suc n) (x ∷ xs) = rw (suc-min-suc (length xs) n) (ap (λ l. x ∷ l) (take_min n xs))

-- However many there were, as many as it has room for.
pub held : {A : Type 0} {part : Numbered → A} {es : List Numbered} {before after : List A} {count : ℕ} (most : ℕ) → length before ≡ most → Stored part es before after count → take count after ≡ map part (take most es)
held {A} {part} {es} {before} {after} {count} most e s =
    let few : count ≤ length es = omega (arith, s.counted) in
    let long : length (map part (take count es)) ≡ count = length-map (take count es) part ∙ length-take-le count es few in
    let first : take count es ≡ take most es = ap (λ (n : ℕ). take n es) (s.counted ∙ ap (λ (n : ℕ). min (length es) n) e) ∙ take_min most es in
    ap (take count) s.content ∙ take_at (map part (take count es)) (drop count before) count long ∙ ap (map part) first

-- The same of a slice beside one as long, whose count is known.
pub held-beside : {A B : Type 0} {p : Numbered → A} {q : Numbered → B} {es : List Numbered} {one one' : List A} {other other' : List B} {count : ℕ} (most : ℕ) → length one ≡ most → length other ≡ most → Stored p es one one' count → Kept q es other other' → take count other' ≡ map q (take most es)
held-beside {es = es} {other' = other'} {count = count} most e f s k =
    ap (λ n. take n other') (s.counted ∙ ap (λ n. min (length es) n) (e ∙ sym f)) ∙ held most f k

-- A list that isn't longer.
pub whole : {A : Type 0} (n : ℕ) (l : List A) → length l ≤ n → l ≡ take n l
whole n l h = sym (take_all n l h)
