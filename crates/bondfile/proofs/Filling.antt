-- A part of each entry stored in order: one more, and the end. Assumes nothing.
use Rattle.std.proofs.Common.{ℕ, zero, suc, ◌+◌, ◌*◌, ◌^◌, Fits, w64, mul-le-mul_right, ◌≤◌, ◌<◌, ◌≡◌, List, [], ◌∷◌, ◌++◌, map, length, get_or, take, drop, set, refl, sym, ap, ◌∙◌, arith, add-one, append_assoc, length-take, length-take-le, take_all, drop-cons}
use Rattle.std.proofs.Math.Seq.{take-suc, set_at}
use Rattle.std.proofs.lemmas.List.{length-map}
use Rattle.std.proofs.lemmas.Iterator.{YieldsList, YieldsList-from_take}
use Rattle.std.proofs.lemmas.Iterator.Consumers.{YieldsList-from_first, YieldsList-turn, YieldsList-end}
use Rattle.std.specs.declared.iter.Take.{Take}
use Rattle.std.specs.Iterator.{Yields, YieldsFirstBy}
use Rattle.std.specs.Iterator.Adapters.{take_source, take_count, take_steps}
use Rattle.std.specs.Prelude.{Option, Some, None}
use mathlib.Core.List.{map-append}
use Rattle.bondfile.specs.File.{Numbered}
use Rattle.bondfile.specs.Storing.{Stored}

-- An element's place in memory.
pub room : (n long size : ℕ) → long * size < 2 ^ 63 → n ≤ long → Fits w64 (n * size)
room n long size w h = omega (arith, w, mul-le-mul_right size h)

module _ {A : Type 0} (part : Numbered → A) (es : List Numbered) (before after : List A) where
  pub stored_more : (n : ℕ) (x : Numbered) (v : A) → n < length es → n < length before → x ≡ get_or es n x → v ≡ part x → after ≡ map part (take n es) ++ drop n before → set after n v ≡ map part (take (n + 1) es) ++ drop (n + 1) before
  stored_more n x v h w e u s =
      rw add-one (
      ap (λ (z : List A). set z n v) (s ∙ ap (λ (z : List A). first ++ z) (drop-cons before n v w))
      ∙ set_at first (get_or before n v) (drop (suc n) before) v n sized
      ∙ ap (λ (z : A). first ++ z ∷ drop (suc n) before) u
      ∙ sym (ap (λ (z : List A). z ++ drop (suc n) before) (ap (map part) taken ∙ map-append part (take n es) (x ∷ [])) ∙ append_assoc first (part x ∷ []) (drop (suc n) before))
      )
    where
      first : List A
      first = map part (take n es)

      sized : length first ≡ n
      sized = length-map (take n es) part ∙ length-take-le n es (omega arith)

      taken : take (suc n) es ≡ take n es ++ (x ∷ [])
      taken = take-suc es n x h ∙ ap (λ (y : Numbered). take n es ++ (y ∷ [])) (sym e)

take_again : {X : Type 0} (m : ℕ) (es : List X) → take (length (take m es)) es ≡ take m es
take_again zero es = refl
take_again (suc m) [] = refl
take_again (suc m) (x ∷ es) = ap (λ l. x ∷ l) (take_again m es)

pub stored_all : {A : Type 0} (part : Numbered → A) (es : List Numbered) (before after : List A) (n m : ℕ) → m ≡ length before → n ≡ length (take m es) → after ≡ map part (take n (take m es)) ++ drop n before → Stored part es before after n
stored_all part es before after n m l e s =
    record {
      counted = omega (arith, length-take m es);
      content = s ∙ ap (λ z. map part z ++ drop n before) (take_all n (take m es) (omega arith) ∙ sym (ap (λ (k : ℕ). take k es) e ∙ take_again m es));
    }

-- What comes of a walk that shows the entries left, as many as there is room for.
pub comes : {S X : Type 0} (view : X → Numbered) (rest : S → List Numbered) (es : List Numbered) (long : ℕ) {s : Take S} → rest (take_source s) ≡ es → take_count s ≡ long → YieldsList (take_steps (YieldsFirstBy view rest)) view s (take long es)
comes view rest es long e c = YieldsList-from_take long (YieldsList-from_first view rest es e) c

-- A loop over what comes: the items xs came, and n parts are stored.
module _ {S X A : Type 0} {steps : S → Option X → S → Type 0} {view : X → Numbered} {s : S} (es : List Numbered) (before : List A) (e : YieldsList steps view s (take (length before) es)) (xs : List X) (t : S) (y : Yields steps s xs t) (n : ℕ) (c : n ≡ length xs) {r : Option X} (u : S) (p : steps t r u) where
  module _ (x : X) (is : r ≡ Some x) where
    next_comes : n < length (take (length before) es)
    next_comes = let k = YieldsList-turn e xs t y r u x is p in omega (arith, c, k.0)

    pub next_fits : (size : ℕ) → length before * size < 2 ^ 63 → Fits w64 (n * size)
    next_fits size w = room n (length before) size w (omega (arith, next_comes, length-take (length before) es))

    pub next_stored : (part : Numbered → A) (after : List A) (v : A) → v ≡ part (view x) → after ≡ map part (take n (take (length before) es)) ++ drop n before → set after n v ≡ map part (take (n + 1) (take (length before) es)) ++ drop (n + 1) before
    next_stored part after v q a =
        let k = YieldsList-turn e xs t y r u x is p in
        stored_more part (take (length before) es) before after n (view x) v next_comes (omega (arith, next_comes, length-take (length before) es)) (rw c k.1) q a

  pub came_all : (part : Numbered → A) (after : List A) → r ≡ None → after ≡ map part (take n (take (length before) es)) ++ drop n before → Stored part es before after n
  came_all part after is a = let k = YieldsList-end e xs t y r u is p in stored_all part es before after n (length before) refl (c ∙ k.1) a
