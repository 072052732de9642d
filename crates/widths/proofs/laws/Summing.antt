-- The widths of all layers summed, and the widest, layer by layer. Assumes nothing.
use Rattle.std.specs.Prelude.{ℕ, suc, ◌+◌, ◌≤◌, ◌<◌, max, ◌≡◌, List, ◌∷◌, length, get_or, take, drop, ℤ, Float, Ok, Err}
use Rattle.std.proofs.Common.{add-one, arith, ◌∙◌, drop_of_length-le, drop-cons, length-take-le}
use Rattle.std.proofs.Math.Nat.{add-zero}
use Rattle.std.proofs.Math.Path.{refl, sym, ap, subst}
use Rattle.std.specs.Float.{nan}
use Rattle.floats.specs.Refusals.{Refusal}
use Rattle.floats.specs.Answers.{Outcome, follow, on_outcome}
use Rattle.terms.specs.laws.Outcomes.{same_given, given_or_refused, follow-given, follow-refused, of_given}
use Rattle.lattice.specs.Lattice.{root_layer}
use Rattle.lattice.specs.laws.Growing.{Size, next_outcome}
use Rattle.widths.specs.Widths.{widths_from, total, widest}
use Rattle.widths.specs.laws.Widening.{Wide, size_wide, next_wide, Widened}
use Rattle.widths.proofs.laws.Widening.{widths_next}
use Rattle.widths.specs.laws.Summing.{Summing, max_none, next_known, sums_after, sums_made, sums_more, sums_of}

module _ (decay first : Float) (vs : List Float) (before : List ℤ) where
  module _ (nodes : List ℤ) (spacing : Float) (count t w i : ℕ) (s : Summing decay first vs before nodes spacing count t w i) where
    abbrev step : Outcome Wide
    step = next_wide (length before) decay spacing (take count nodes) i (get_or vs i nan)

    at_count : length (take count nodes) ≡ count
    at_count = length-take-le count nodes s.fore.room

    left_is : i < length vs → widths_from (length before) decay spacing (take count nodes) i (drop i vs) ≡ follow step λ x. follow (widths_from (length before) decay x.spacing x.nodes (suc i) (drop (suc i) vs)) λ ws. Ok (count ∷ ws)
    left_is h =
        rw (drop-cons vs i nan h)
        (widths_next (length before) decay spacing (take count nodes) i (get_or vs i nan) (drop (suc i) vs) ∙ (rw at_count))

    abbrev tried : Outcome Wide
    tried = next_wide (length nodes) decay spacing (take count nodes) i (get_or vs i nan)

    is_tried : tried ≡ step
    is_tried = ap (λ (n : ℕ). next_wide n decay spacing (take count nodes) i (get_or vs i nan)) s.kept

    one_wide : {after : List ℤ} (z : Wide) → i < length vs → tried ≡ Ok z → take (length z.nodes) after ≡ z.nodes → length after ≡ length nodes → Summing decay first vs before after z.spacing (length z.nodes) (t + count) (max w count) (i + 1)
    one_wide {after} z h o g q =
        let k = next_known (length nodes) decay spacing count nodes i (get_or vs i nan) s.fore o in
        let b = s.bound in
        let f = s.few in
        let r = k.fits in
        record {
          within = omega arith;
          fore = record { room = omega arith; some-node = k.some-node; low = k.low; climbs = rw g k.climbs; spacing-above = k.spacing-above; decay-above = s.fore.decay-above };
          few = k.few;
          bound = omega arith;
          kept = q ∙ s.kept;
          same =
              rw (g, add-one i)
              (sym (sums_more t w count (widths_from (length before) decay z.spacing z.nodes (suc i) (drop (suc i) vs)))
              ∙ ap (sums_after t w) (sym (left_is h ∙ follow-given _ _ (sym is_tried ∙ o)))
              ∙ s.same);
        }

    pub summing_one : {after : List ℤ} {x : Float} {n : ℕ} → i < length vs → Widened (next_wide (length nodes) decay spacing (take count nodes) i (get_or vs i nan)) (Ok (record { spacing = x; count = n })) nodes after → Summing decay first vs before after x n (t + count) (max w count) (i + 1)
    unfolding next_outcome
    summing_one {after} {x} {n} h d =
        let (z, o, e) = of_given tried (λ w. Ok (size_wide w)) (sym d.outcome) in
        subst (λ (y : Size). Summing decay first vs before after y.spacing y.count (t + count) (max w count) (i + 1)) (same_given e) (one_wide z h o (d.front z o) d.kept)

    pub summing_stopped : {after : List ℤ} {q : Refusal} → i < length vs → Widened (next_wide (length nodes) decay spacing (take count nodes) i (get_or vs i nan)) (Err q) nodes after → sums_made (Err q) ≡ sums_of (widths_from (length before) decay first root_layer 0 vs)
    unfolding next_outcome sums_made on_outcome
    summing_stopped {after} {q} h d = sym (ap (sums_after t w) (left_is h ∙ follow-refused _ _ (sym is_tried ∙ refused_of tried d.outcome))) ∙ s.same
      where
        refused_of : (o : Outcome Wide) → Err q ≡ follow o (λ w. Ok (size_wide w)) → o ≡ Err q
        refused_of (Ok z) e = absurd (given_or_refused refl (sym e))
        refused_of (Err r) e = let p : r ≡ q = cc in ap Err p

    pub summing_all : length vs ≤ i → sums_made (Ok (record { nodes = (t + count); widest = (max w count) })) ≡ sums_of (widths_from (length before) decay first root_layer 0 vs)
    unfolding sums_made widths_from total widest on_outcome
    summing_all h = rw (drop_of_length-le vs h, at_count, max_none count, add-zero count) at s.same
