-- A desk's count and values by its bonds alone. Assumes nothing.
use Prim.Native.Nat.{ℕ, zero, suc, ◌+◌, ◌<◌}
use Rattle.std.proofs.Common.{arith, subst, ◌∙◌}
use Rattle.std.specs.Prelude.{◌≡◌, Bool, eqb, Ok}
use Rattle.std.proofs.Math.Path.{refl, sym, ap}
use Rattle.std.proofs.Math.Bool.{true, false, cond}
use mathlib.Core.List.{List, [], ◌∷◌, ◌++◌, map}
use Rattle.std.proofs.Math.ListN.{get_or}
use Rattle.terms.specs.Terms.{Market}
use Rattle.lattice.specs.Layers.{Room}
use Rattle.treebasedbondpricer.specs.declared.TreeValue.{TreeValue}
use Rattle.floats.specs.Answers.{Outcome}
use Rattle.treebasedbondpricer.specs.Tree.{tree_value, value_of, counted_by, room_of}
use Rattle.bookchecks.specs.Book.{Shared, Book}
use Rattle.bookvalue.specs.declared.BookAnswer.{BookAnswer}
use Rattle.bookvalue.specs.Values.{bond_value, desk_to, desk_of}
use Rattle.bookvalue.specs.laws.Placed.{placed_at, each_at}
use Rattle.promises.specs.HostCallLists.{BookCall}
use Rattle.promises.specs.Books.{size}
use Rattle.promises.specs.Desks.{BookBond, bond_at, of_desk, desk_bonds, desk_values, DeskRule}
use Rattle.promises.proofs.laws.Rooms.{same_in_any_room}
use Rattle.promises.proofs.laws.BookAnswers.{counts_of}
use Rattle.promises.proofs.laws.Books.{valued-call, value-handed}

-- A bond's terms in a book.
abbrev market_with : Shared → BookBond → Market
market_with s o =
    record {
      settlement = record { day = s.day; code = o.code };
      bond = o.bond;
      controls = o.controls;
      model = s.model;
      spread = o.spread;
      pillars = s.pillars;
    }

abbrev worth : Shared → Room → BookBond → Outcome TreeValue
worth s room o = tree_value (market_with s o) o.calls room

total : List ℕ → ℕ
total [] = 0
total (n ∷ ns) = n + total ns

data All {A : Type 0} (P : A → Type 0) : List A → Type 0 where
  none : All P []
  more : {x : A} {xs : List A} → P x → All P xs → All P (x ∷ xs)

-- ---- one more at the end

total_next : (ns : List ℕ) (n : ℕ) → total (ns ++ (n ∷ [])) ≡ total ns + n
unfolding total
total_next [] n = omega arith
total_next (m ∷ ns) n = let e = total_next ns n in omega arith

map_next : {A B : Type 0} (f : A → B) (xs : List A) (x : A) → map f (xs ++ (x ∷ [])) ≡ map f xs ++ (f x ∷ [])
map_next f [] x = refl
map_next {B = B} f (y ∷ xs) x = ap {B = List B} (λ r. f y ∷ r) (map_next f xs x)

all_next : {A : Type 0} {P : A → Type 0} (xs : List A) {x : A} → All P xs → P x → All P (xs ++ (x ∷ []))
all_next [] none p = more p none
all_next (y ∷ xs) (more q r) p = more q (all_next xs r p)

-- ---- the bonds of a desk

module _ {A : Type 0} (desk : ℕ → ℕ) (d : ℕ) (bond : ℕ → A) where
  by_rule : {B : Type 0} (f : A → B) (g : ℕ → B) (n : ℕ) → ((i : ℕ) → i < n → g i ≡ f (bond i)) → of_desk desk d g n ≡ map f (of_desk desk d bond n)
  unfolding of_desk
  by_rule f g zero h = refl
  by_rule {B} f g (suc n) h = go (by_rule f g n (λ i l. h i (omega arith))) (eqb (desk n) d)
    where
      go : of_desk desk d g n ≡ map f (of_desk desk d bond n) → (b : Bool) → cond b (of_desk desk d g n ++ (g n ∷ [])) (of_desk desk d g n) ≡ map f (cond b (of_desk desk d bond n ++ (bond n ∷ [])) (of_desk desk d bond n))
      go before true = ap (λ (l : List B). l ++ (g n ∷ [])) before ∙ ap (λ (x : B). map f (of_desk desk d bond n) ++ (x ∷ [])) (h n (omega arith)) ∙ sym (map_next f (of_desk desk d bond n) (bond n))
      go before false = before

  by_count : (f : A → ℕ) (counts : List ℕ) (n : ℕ) → ((i : ℕ) → i < n → get_or counts i 0 ≡ f (bond i)) → desk_to desk d counts n ≡ total (map f (of_desk desk d bond n))
  unfolding of_desk desk_to total
  by_count f counts zero h = refl
  by_count f counts (suc n) h = go (by_count f counts n (λ i l. h i (omega arith))) (eqb (desk n) d)
    where
      go : desk_to desk d counts n ≡ total (map f (of_desk desk d bond n)) → (b : Bool) → cond b (desk_to desk d counts n + get_or counts n 0) (desk_to desk d counts n) ≡ total (map f (cond b (of_desk desk d bond n ++ (bond n ∷ [])) (of_desk desk d bond n)))
      go before true =
          ap (λ (t : ℕ). t + get_or counts n 0) before
          ∙ ap (λ (t : ℕ). total (map f (of_desk desk d bond n)) + t) (h n (omega arith))
          ∙ sym (ap total (map_next f (of_desk desk d bond n) (bond n)) ∙ total_next (map f (of_desk desk d bond n)) (f (bond n)))
      go before false = before

  by_all : {P : A → Type 0} (n : ℕ) → ((i : ℕ) → i < n → P (bond i)) → All P (of_desk desk d bond n)
  unfolding of_desk
  by_all zero h = none
  by_all {P} (suc n) h = go (by_all n (λ i l. h i (omega arith))) (eqb (desk n) d)
    where
      go : All P (of_desk desk d bond n) → (b : Bool) → All P (cond b (of_desk desk d bond n ++ (bond n ∷ [])) (of_desk desk d bond n))
      go before true = all_next (of_desk desk d bond n) before (h n (omega arith))
      go before false = before

-- ---- what a run hands back of a desk

abbrev Has : Shared → Room → BookBond → Type 0
Has s room o = worth s room o ≡ Ok (record { value = (value_of (worth s room o)); nodes = (counted_by (worth s room o)) })

module _ {b : Book} (c : BookCall b) (z : c.number ≡ 0) (d : ℕ) where
  values_by : desk_values d c ≡ map (λ (o : BookBond). value_of (worth b.shared (room_of c.lent) o)) (desk_bonds d b)
  values_by = by_rule (desk_of b) d (bond_at b) _ _ (size b) (λ i h. value-handed c z i h)

  all_have : All (Has b.shared (room_of c.lent)) (desk_bonds d b)
  all_have = by_all (desk_of b) d (bond_at b) (size b) (λ i h. (valued-call c z).values i h)

  count_by : d < 8 → get_or c.counts d 0 ≡ total (map (λ (o : BookBond). counted_by (worth b.shared (room_of c.lent) o)) (desk_bonds d b))
  count_by l =
      let value = bond_value b (room_of c.lent) in
      ap (λ (ns : List ℕ). get_or ns d 0) (c.handed.handed.counts_are ∙ ap (λ (r : BookAnswer). r.counts) (valued-call c z).answer_is)
      ∙ each_at (λ d. desk_to (desk_of b) d (counts_of value b) (size b)) 8 d 0 l
      ∙ by_count (desk_of b) d (bond_at b) _ (counts_of value b) (size b) (λ i h. placed_at (λ i. counted_by (value i)) 0 (size b) i h)

-- ---- the same bonds in two rooms

module _ (s : Shared) (r t : Room) where
  same_value_lem : (o : BookBond) → Has s r o → Has s t o → value_of (worth s r o) ≡ value_of (worth s t o)
  same_value_lem o p q = (same_in_any_room (market_with s o) o.calls r t _ _ _ _ p q).0

  same_count : (o : BookBond) → Has s r o → Has s t o → counted_by (worth s r o) ≡ counted_by (worth s t o)
  same_count o p q = (same_in_any_room (market_with s o) o.calls r t _ _ _ _ p q).1

  same_values_lem : (os : List BookBond) → All (Has s r) os → All (Has s t) os → map (λ (o : BookBond). value_of (worth s r o)) os ≡ map (λ (o : BookBond). value_of (worth s t o)) os
  same_values_lem [] none none = refl
  same_values_lem (o ∷ os) (more p ps) (more q qs) = rw (same_value_lem o p q, same_values_lem os ps qs)

  same_counts_lem : (os : List BookBond) → All (Has s r) os → All (Has s t) os → map (λ (o : BookBond). counted_by (worth s r o)) os ≡ map (λ (o : BookBond). counted_by (worth s t o)) os
  same_counts_lem [] none none = refl
  same_counts_lem (o ∷ os) (more p ps) (more q qs) = rw (same_count o p q, same_counts_lem os ps qs)

pub desk_rule : DeskRule
desk_rule d l first second shared bonds a c z y =
    let s = first.shared in
    let r = room_of c.lent in
    let t = room_of a.lent in
    let os = desk_bonds d first in
    let here : All (Has s r) os = subst (λ (k : Shared). All (Has k r) os) shared (subst (All (Has second.shared r)) bonds (all_have c y d)) in
    let there : All (Has s t) os = all_have a z d in (
      count_by c y d l
          ∙ ap (λ (k : Shared). total (map (λ (o : BookBond). counted_by (worth k r o)) (desk_bonds d second))) shared
          ∙ ap (λ (ls : List BookBond). total (map (λ (o : BookBond). counted_by (worth s r o)) ls)) bonds
          ∙ ap total (same_counts_lem s r t os here there)
          ∙ sym (count_by a z d l),
      values_by c y d
          ∙ ap (λ (k : Shared). map (λ (o : BookBond). value_of (worth k r o)) (desk_bonds d second)) shared
          ∙ ap (λ (ls : List BookBond). map (λ (o : BookBond). value_of (worth s r o)) ls) bonds
          ∙ same_values_lem s r t os here there
          ∙ sym (values_by a z d),
    )
