-- One layer more in the node slice: the next layer's nodes stand in front, where both layers fit together. Assumes nothing.
use Rattle.std.specs.Prelude.{ℕ, suc, ◌+◌, ◌≤◌, ◌<◌, Bool, T, get_or, drop, pos, Float, Ok, Err}
use Rattle.std.proofs.Math.Numerals.{add-one}
use Rattle.std.proofs.Common.{arith, sym, ◌∙◌, take-append-drop, take_at, drop_at, length-take-le, get_or-take}
use Rattle.std.proofs.Math.Path.{◌≡◌, refl, ap, subst}
use Rattle.std.proofs.Math.Bool.{true, false, cond}
use mathlib.Core.List.{List, [], ◌∷◌, ◌++◌, append_assoc}
use Rattle.std.proofs.Math.Dec.{leb}
use Rattle.std.proofs.Math.ListN.{length, take}
use Rattle.std.proofs.Math.Seq.{take-append_seam}
use Rattle.std.proofs.Math.IntN.{ℤ}
use Rattle.std.specs.Float.Ieee.{le}
use borrow.Author.Tests.{le-leb, lt-leb}
use Rattle.floats.specs.Refusals.{Refusal}
use Rattle.floats.specs.Answers.{Answer, plus_zero, on_outcome, Outcome, follow, refusal}
use Rattle.rounded.specs.laws.RootBounds.{NotBelow}
use Rattle.terms.specs.Numbers.{epsilon}
use Rattle.terms.specs.laws.Outcomes.{same_given, given_or_refused, follow-given, follow-refused}
use Rattle.hullwhite.specs.laws.Filled.{check_of}
use Rattle.lattice.specs.declared.NextLayer.{NextLayer}
use Rattle.lattice.specs.Lattice.{spacing_of}
use Rattle.lattice.specs.laws.Growing.{Size, next_outcome}
use Rattle.lattice.specs.laws.NextLayer.{spacing_bounds}
use Rattle.lattice.specs.laws.Reaching.{reach_all, nothing_below}
use Rattle.lattice.specs.laws.RisingMiddles.{Climbs, around, laid}
use Rattle.widths.specs.Widths.{middle_nodes, new_spacing}
use Rattle.widths.specs.laws.LayerMiddles.{Reached, middles-length, reached, reached-around, reached-many, few-around}
use Rattle.widths.specs.laws.InPlace.{FilledInPlace}
use Rattle.widths.specs.laws.Placing.{placed_all, laid-behind, all_length}
use Rattle.floats.specs.declared.Reason.TheVariants as reason

-- A layer in front: its spacing and its nodes.
pub record Wide : Type 0 where
  pub spacing : Float
  pub nodes : List ℤ

abbrev pub wide : Float → List ℤ → Wide
wide new nodes = record { spacing = new; nodes = nodes }

abbrev pub size_wide : Wide → Size
size_wide w = record { spacing = w.spacing; count = length w.nodes }

-- The next layer, once its middles are known: 21 where the two don't fit together.
unfoldable pub wide_from : ℕ → Float → Float → Float → List ℤ → ℕ → Outcome Wide
unfolding middle_nodes around
wide_from room decay spacing new nodes k =
    follow (middle_nodes spacing decay new k nodes) λ ms.
    cond (leb (length nodes + length (around ms)) room) (Ok (wide new (around ms))) (refusal reason.NoRoom (suc k))

-- The next layer by its variance.
unfoldable pub next_wide : ℕ → Float → Float → List ℤ → ℕ → Float → Outcome Wide
unfolding new_spacing wide_from
next_wide room decay spacing nodes k v = follow (new_spacing v k) λ new. wide_from room decay spacing new nodes k

-- ---- what the code promises

-- A layer in front that can give way to the next.
pub record Fore (count : ℕ) (spacing decay : Float) (nodes : List ℤ) : Type 0 where
  pub room : count ≤ length nodes
  pub some-node : 0 < count
  pub low : ℤ
  pub climbs : Climbs low (take count nodes)
  pub spacing-above : T (le plus_zero spacing)
  pub decay-above : T (le plus_zero decay)

pub record Widened (o : Outcome Wide) (r : Outcome NextLayer) (before after : List ℤ) : Type 0 where
  pub outcome : next_outcome r ≡ follow o λ w. Ok (size_wide w)
  pub front : (w : Wide) → o ≡ Ok w → take (length w.nodes) after ≡ w.nodes
  pub kept : length after ≡ length before

pub new-not_below : (v : Float) (k : ℕ) (x : Float) → new_spacing v k ≡ Ok x → NotBelow x
unfolding new_spacing on_outcome
new-not_below v k x e = go (le v epsilon) (spacing_of v k) (λ y p. spacing_bounds v k y p) e
  where
    go : (b : Bool) (a : Answer) → ((y : Float) → a ≡ Ok y → NotBelow y) → cond b (refusal reason.NoVariance k) a ≡ Ok x → NotBelow x
    go true a h e = absurd (given_or_refused e refl)
    go false a h e = h x e

-- A new spacing handed up as it is.
pub spacing_made_lem : (a : Answer) → a ≡ follow a Ok
unfolding on_outcome
spacing_made_lem (Ok x) = refl
spacing_made_lem (Err r) = refl

-- From the middles on.
pub record NextPlaced (spacing : Float) (k count : ℕ) (r : Outcome NextLayer) (before after : List ℤ) : Type 0 where
  pub outcome : next_outcome r ≡ cond (leb (count + length (around (take count before))) (length before)) (Ok (record { spacing = spacing; count = length (around (take count before)) })) (refusal reason.NoRoom (suc k))
  pub front : leb (count + length (around (take count before))) (length before) ≡ true → take (length (around (take count before))) after ≡ around (take count before)
  pub kept : length after ≡ length before

-- With what the code has in hand: the count, and the slice after each step.
module _ (spacing : Float) (k count : ℕ) (before : List ℤ) (h : count ≤ length before) (r : Reached (take count before)) where
  pub placed-some : 0 < count
  placed-some = let a = length-take-le count before h in let b = ap length r.is in omega arith

  first_is : get_or (take count before) 0 (pos 0) ≡ get_or before 0 (pos 0)
  first_is = get_or-take count before 0 (pos 0) placed-some

  pub placed-many : {n : ℕ} → n ≡ (reach_all (nothing_below (get_or before 0 (pos 0))) (take count before)).count → n ≡ length (around (take count before))
  placed-many e = e ∙ (rw (← first_is) (reached-many r))

  pub placed-few : {n : ℕ} → n ≡ (reach_all (nothing_below (get_or before 0 (pos 0))) (take count before)).count → n ≤ 2000004
  placed-few e = rw (placed-many e) (few-around r)

  pub placed-none : {n : ℕ} → n ≡ length (around (take count before)) → length before < count + n → NextPlaced spacing k count (Err (record { reason = reason.NoRoom; place = k + 1 })) before before
  unfolding next_outcome
  placed-none {n} e l =
      let f : leb (count + length (around (take count before))) (length before) ≡ false = lt-leb _ _ (rw e at l) in
      record { outcome = rw (f, add-one k); front = λ t. absurd (let z : ◌≡◌ {A = ℕ} 0 1 = cc in omega arith); kept = refl }

  pub placed_next : {n : ℕ} {mid after : List ℤ} → n ≡ length (around (take count before)) → count + n ≤ length before
      → mid ≡ placed_all count (nothing_below (get_or before 0 (pos 0))) (take count before) before → take n after ≡ take n (drop count mid) → length after ≡ length mid
      → NextPlaced spacing k count (Ok (record { spacing = spacing; count = n })) before after
  unfolding next_outcome
  placed_next {n} {mid} {after} e l p q j =
      let f : leb (count + length (around (take count before))) (length before) ≡ true = le-leb _ _ (rw e at l) in
      record {
        outcome = rw (f, e);
        front = λ _. rw (← e) (q ∙ behind);
        kept = j ∙ ap length p ∙ (all_length count (nothing_below (get_or before 0 (pos 0))) (take count before) before);
      }
    where
      ms : List ℤ
      ms = take count before

      behind : take n (drop count mid) ≡ around (take count before)
      behind =
          let w : laid (nothing_below (get_or before 0 (pos 0))) ms ≡ around ms = rw (← first_is) (reached-around r) in
          let z = length-take-le count before h in
          let c = (reach_all (nothing_below (get_or before 0 (pos 0))) ms).count in
          let s : mid ≡ ms ++ (around ms ++ drop (count + c) (ms ++ drop count before)) =
          p ∙ ap (placed_all count (nothing_below (get_or before 0 (pos 0))) ms) (sym (take-append-drop count before))
          ∙ laid-behind count (nothing_below (get_or before 0 (pos 0))) ms ms (drop count before) refl z (rw (take-append-drop count before) (rw (placed-many refl, ← e) l))
          ∙ (rw (w, append_assoc)) in
          rw (s, drop_at ms _ count z, e) (take-append_seam (around ms) _)

-- ---- from the nodes on

check_refused : (o : Outcome (List ℤ)) {q : Refusal} → Err q ≡ check_of o → o ≡ Err q
unfolding check_of
check_refused (Ok ms) e = absurd (let z : ◌≡◌ {A = ℕ} 0 1 = cc in omega arith)
check_refused (Err r) {q} e = let p : r ≡ q = cc in ap Err p

check_passed : (o : Outcome (List ℤ)) → (Ok tt) ≡ check_of o → (ms : List ℤ) × (o ≡ Ok ms)
unfolding check_of
check_passed (Ok ms) e = (ms, refl)
check_passed (Err r) e = absurd (let z : ◌≡◌ {A = ℕ} 0 1 = cc in omega arith)

pub widened-refused : {o : Outcome Wide} {q : Refusal} {before after : List ℤ} → o ≡ Err q → length after ≡ length before → Widened o (Err q) before after
unfolding next_outcome on_outcome
widened-refused e k = record { outcome = rw e; front = λ w g. absurd (given_or_refused g e); kept = k }

module _ (spacing decay new : Float) (k count : ℕ) (before mid : List ℤ) where
  pub widened-stopped : {q : Refusal} → FilledInPlace spacing decay new k count (Err q) before mid → Widened (wide_from (length before) decay spacing new (take count before) k) (Err q) before mid
  unfolding wide_from
  widened-stopped f = widened-refused (follow-refused _ _ (check_refused _ f.outcome)) f.kept

  -- The middles stand in front.
  pub record Middled : Type 0 where
    pub room : count ≤ length mid
    pub given_them : middle_nodes spacing decay new k (take count before) ≡ Ok (take count mid)
    pub known : Reached (take count mid)
    pub same : length mid ≡ length before
    pub long : length (take count before) ≡ count

  pub middled : Fore count spacing decay before → NotBelow new → FilledInPlace spacing decay new k count (Ok tt) before mid → Middled
  middled r w f =
      let (ms, e) = check_passed _ f.outcome in
      let l = r.room in
      let c : length (take count before) ≡ count = length-take-le count before l in
      let m : length ms ≡ count = middles-length spacing decay new k (take count before) ms e ∙ c in
      let t : take count mid ≡ ms = rw (f.row ms e) (take_at ms (drop count before) count m) in
      record {
        room = rw f.kept l;
        given_them = rw t e;
        known = rw t (from (take count before) r.climbs e (rw c r.some-node));
        same = f.kept;
        long = c;
      }
    where
      from : (ns : List ℤ) {t : ℤ} {ms : List ℤ} → Climbs t ns → middle_nodes spacing decay new k ns ≡ Ok ms → 0 < length ns → Reached ms
      from [] c e h = absurd (omega arith)
      from (n ∷ ns) c e h = reached spacing decay new k r.spacing-above r.decay-above w c e

  pub widened_by : {r : Outcome NextLayer} {after : List ℤ} → Middled → NextPlaced new k count r mid after → Widened (wide_from (length before) decay spacing new (take count before) k) r before after
  unfolding wide_from on_outcome
  widened_by {r} {after} m p = rw (follow-given _ _ m.given_them, m.long, ← m.same) (go (leb (count + length (around (take count mid))) (length mid)) p.outcome p.front p.kept)
    where
      go : (b : Bool)
          → next_outcome r ≡ cond b (Ok (record { spacing = new; count = length (around (take count mid)) })) (refusal reason.NoRoom (suc k))
          → (b ≡ true → take (length (around (take count mid))) after ≡ around (take count mid))
          → length after ≡ length mid
          → Widened (cond b (Ok (wide new (around (take count mid)))) (refusal reason.NoRoom (suc k))) r before after
      go true o f kept = record { outcome = o; front = λ w g. subst (λ (z : Wide). take (length z.nodes) after ≡ z.nodes) (same_given g) (f refl); kept = kept ∙ m.same }
      go false o f kept = record { outcome = o; front = λ w g. absurd (given_or_refused g refl); kept = kept ∙ m.same }
