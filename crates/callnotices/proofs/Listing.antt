-- The loop that lists the notices that stand: what it knows after each series, one turn, and its end. Assumes nothing.
use Rattle.std.specs.Prelude.{None}
use Prim.Native.Nat.{ℕ, suc, ◌+◌, ◌-◌, ◌≤◌, ◌<◌}
use borrow.Author.Rules.{rules}
use native.Mathlib.Omega.{arith}
use native.Mathlib.Numerals.{add-one}
use mathlib.Core.Path.{◌≡◌, refl, sym, ap, ◌∙◌}
use mathlib.Core.Bool.{Bool, true, false, cond, ◌&&◌}
use mathlib.Core.List.{List, [], ◌∷◌, ◌++◌, map}
use lib.ListN.{length, set, replicate, length-append, length-map}
use lib.Dec.{ltb, ltb→lt}
use lib.Ieee.{Float}
use Rattle.floats.specs.Answers.{plus_zero}
use Rattle.callnotices.specs.Notices.{Notices, Parallel, is_set, start_at, end_at, strike_at}
use Rattle.callnotices.specs.Standing.{standing, yields, entries_to, entries}
use Rattle.callnotices.specs.Lists.{in_places, list_of}
use Rattle.callnotices.specs.laws.Appending.{map_next}

-- ---- one more entry in its place

module _ {A : Type 0} (none x : A) where
  set_next : (xs : List A) (k : ℕ) → set (xs ++ replicate (suc k) none) (length xs) x ≡ (xs ++ (x ∷ [])) ++ replicate k none
  set_next [] k = refl
  set_next (y ∷ ys) k = ap {B = List A} (λ r. y ∷ r) (set_next ys k)

  next_place : (xs : List A) → length xs < 64 → set (in_places none xs) (length xs) x ≡ in_places none (xs ++ (x ∷ []))
  next_place xs h =
      let more : 64 - length xs ≡ suc (63 - length xs) = omega arith in
      let longer : length (xs ++ (x ∷ [])) ≡ length xs + 1 = length-append xs (x ∷ []) in
      let less : 64 - length (xs ++ (x ∷ [])) ≡ 63 - length xs = omega arith in
      ap (λ (k : ℕ). set (xs ++ replicate k none) (length xs) x) more
      ∙ set_next xs (63 - length xs)
      ∙ ap (λ (k : ℕ). (xs ++ (x ∷ [])) ++ replicate k none) (sym less)

-- The rule's value of one more index, written behind those of the others.
next_value : {A : Type 0} (none : A) (f : ℕ → A) (is : List ℕ) (i : ℕ) {count : ℕ} {x : A} (row : List A) → count ≡ length is → length is < 64 → row ≡ in_places none (map f is) → x ≡ f i → set row count x ≡ in_places none (map f (is ++ (i ∷ [])))
next_value none f is i {count} {x} row n h e v =
    let same : length (map f is) ≡ length is = length-map is f in
    let at : count ≡ length (map f is) = n ∙ sym same in
    rw (e, at, v) (next_place none (f i) (map f is) (omega arith) ∙ ap (in_places none) (sym (map_next f is i)))

-- ---- the loop

-- What yields an entry is one of the notices.
is_notice : (actions : List ℕ) (i : ℕ) {f : Bool} → f ≡ yields actions i → f ≡ true → i < length actions
is_notice actions i e t = go (ltb i (length actions)) refl (sym e ∙ t)
  where
    go : (b : Bool) → ltb i (length actions) ≡ b → (b && is_set actions i) ≡ true → i < length actions
    go true l h = ltb→lt i (length actions) (rw l tt)
    go false l h = let z : ◌≡◌ {A = ℕ} 0 1 = cc in absurd (omega arith)

pub in_fields : (n : Notices) (i : ℕ) {f : Bool} → Parallel n → f ≡ yields n.actions i → f ≡ true → (i < length n.starts) × (i < length n.ends) × (i < length n.strikes)
in_fields n i p e t = let h = is_notice n.actions i e t in (omega arith, omega arith, omega arith)

-- The entries of series 1 to s stand in the three rows.
pub record Listing (n : Notices) (s count : ℕ) (starts ends : List ℕ) (strikes : List Float) : Type 0 where
  pub within : s ≤ 64
  pub counted : count ≡ length (entries_to n s)
  pub few : count ≤ s
  pub starts-listed : starts ≡ in_places 0 (map (start_at n) (entries_to n s))
  pub ends-listed : ends ≡ in_places 0 (map (end_at n) (entries_to n s))
  pub strikes-listed : strikes ≡ in_places plus_zero (map (strike_at n) (entries_to n s))

module _ (n : Notices) where
  pub begin : Listing n 0 0 (replicate 64 0) (replicate 64 0) (replicate 64 plus_zero)
  unfolding entries_to
  begin =
      record {
        within = omega arith;
        counted = refl;
        few = omega arith;
        starts-listed = refl;
        ends-listed = refl;
        strikes-listed = refl;
      }

  -- The entries of one more series.
  one_more : (s : ℕ) (b : Bool) {i : ℕ} → i ≡ standing n.series n.versions (suc s) → yields n.actions i ≡ b → entries_to n (suc s) ≡ cond b (entries_to n s ++ (i ∷ [])) (entries_to n s)
  unfolding entries_to
  one_more s b {i} e y =
      ap (λ (k : ℕ). cond (yields n.actions k) (entries_to n s ++ (k ∷ [])) (entries_to n s)) (sym e)
      ∙ ap (λ (z : Bool). cond z (entries_to n s ++ (i ∷ [])) (entries_to n s)) y

  pub turn-listed :
      (s count i : ℕ) (starts ends : List ℕ) (strikes : List Float) {f : Bool} {x : Float}
      → Listing n s count starts ends strikes
      → s < 64
      → i ≡ standing n.series n.versions (s + 1)
      → f ≡ yields n.actions i
      → f ≡ true
      → x ≡ strike_at n i
      → Listing n (s + 1) (count + 1) (set starts count (start_at n i)) (set ends count (end_at n i)) (set strikes count x)
  turn-listed s count i starts ends strikes {f} {x} l h e y t v =
      let es = entries_to n s in
      let more : entries_to n (suc s) ≡ es ++ (i ∷ []) = one_more s true (rw add-one at e) (sym y ∙ t) in
      let room : length es < 64 = omega (arith, l.counted, l.few) in
      let longer : length (es ++ (i ∷ [])) ≡ length es + 1 = length-append es (i ∷ []) in
      rw add-one
      (record {
        within = omega arith;
        counted = let g = ap length more in omega (arith, l.counted);
        few = omega (arith, l.few);
        starts-listed = next_value 0 (start_at n) es i starts l.counted room l.starts-listed refl ∙ ap (λ (is : List ℕ). in_places 0 (map (start_at n) is)) (sym more);
        ends-listed = next_value 0 (end_at n) es i ends l.counted room l.ends-listed refl ∙ ap (λ (is : List ℕ). in_places 0 (map (end_at n) is)) (sym more);
        strikes-listed = next_value plus_zero (strike_at n) es i strikes l.counted room l.strikes-listed v ∙ ap (λ (is : List ℕ). in_places plus_zero (map (strike_at n) is)) (sym more);
      })

  pub turn-passed :
      (s count i : ℕ) (starts ends : List ℕ) (strikes : List Float) {f : Bool}
      → Listing n s count starts ends strikes
      → s < 64
      → i ≡ standing n.series n.versions (s + 1)
      → f ≡ yields n.actions i
      → f ≡ false
      → Listing n (s + 1) count starts ends strikes
  turn-passed s count i starts ends strikes l h e y t =
      let same : entries_to n (suc s) ≡ entries_to n s = one_more s false (rw add-one at e) (sym y ∙ t) in
      rw add-one
      (record {
        within = omega arith;
        counted = l.counted ∙ ap length (sym same);
        few = omega (arith, l.few);
        starts-listed = l.starts-listed ∙ ap (λ (is : List ℕ). in_places 0 (map (start_at n) is)) (sym same);
        ends-listed = l.ends-listed ∙ ap (λ (is : List ℕ). in_places 0 (map (end_at n) is)) (sym same);
        strikes-listed = l.strikes-listed ∙ ap (λ (is : List ℕ). in_places plus_zero (map (strike_at n) is)) (sym same);
      })

  pub done :
      (s count : ℕ) (starts ends : List ℕ) (strikes : List Float)
      → Listing n s count starts ends strikes
      → 64 ≤ s
      → record { refusal = None; count = count; starts = starts; ends = ends; strikes = strikes } ≡ list_of n (entries n)
  done s count starts ends strikes l h =
      let all : s ≡ 64 = omega (arith, l.within) in
      rw (l.counted, l.starts-listed, l.ends-listed, l.strikes-listed, all) refl

-- The laws of the loop.
pub ruleset listing = (begin, turn-listed, turn-passed, done, rules)
