-- A layer that is filled, and the next one laid behind it: together what growing promises. Assumes nothing.
use Prim.Native.Nat.{ℕ, zero, suc, ◌+◌, ◌*◌, ◌≤◌, ◌<◌}
use Rattle.std.proofs.Common.{arith, sym, ap, ◌∙◌, append_assoc, drop-drop}
use Rattle.std.specs.Prelude.{◌≡◌, refl, List, ◌∷◌, ◌++◌, drop, ℤ, pos, Float}
use Rattle.std.proofs.Math.ListN.{length, get_or}
use Rattle.std.proofs.Math.Seq.{drop-append-add}
use Rattle.floats.specs.Answers.{on_outcome, Outcome}
use Rattle.lattice.specs.declared.NextLayer.{NextLayer}
use Rattle.lattice.specs.Layers.{fits}
use Rattle.lattice.specs.Transitions.{Step}
use Rattle.lattice.specs.Lattice.{destinations}
use Rattle.lattice.specs.laws.Stored.{numbers_in, pairs_of, last_pairs}
use Rattle.lattice.specs.laws.Reaching.{reach_all, nothing_below}
use Rattle.lattice.specs.laws.RisingMiddles.{laid}
use Rattle.lattice.specs.laws.Counting.{middles_from}
use Rattle.lattice.specs.laws.FilledLayer.{pairs-count}
use Rattle.lattice.specs.laws.Laying.{pushed_all}
use Rattle.lattice.specs.laws.LaidBehind.{laid-count, laid-behind}
use Rattle.lattice.proofs.theorems.LaidBehind.{laid-around}
use Rattle.lattice.specs.laws.Laid.{front_nodes}
use Rattle.lattice.specs.laws.Growing.{room_left, GrownLayer}
use Rattle.lattice.specs.laws.FilledFront.{FilledFront}
use Rattle.lattice.specs.laws.NextLaid.{room_of, reached, LaidNext}
use Rattle.lattice.specs.laws.RoomTest.{fitting}
use Rattle.lattice.specs.laws.Grown.{grown_by, grown_from}
use Rattle.floats.specs.declared.Reason.TheVariants as reason

module _ {s : Step} {c : ℕ} {before mid : List ℤ} {beforeP midP : List Float} (f : FilledFront s c before mid beforeP midP) where
  all_middles : middles_from mid 0 c ≡ f.next.first ∷ f.next.others
  all_middles = f.middles ∙ f.next.middles

  first_is : get_or mid 1 (pos 0) ≡ f.next.first
  unfolding middles_from
  first_is = go c f.some-node all_middles
    where
      go : (n : ℕ) → 0 < n → middles_from mid 0 n ≡ f.next.first ∷ f.next.others → get_or mid 1 (pos 0) ≡ f.next.first
      go zero h e = absurd (omega arith)
      go (suc n) h e = cc

  laid_are : laid (nothing_below f.next.first) (f.next.first ∷ f.next.others) ≡ destinations f.made
  laid_are = laid-around f.next.first f.next.others f.next.rising ∙ sym f.next.around_them

  count_is : (reach_all (nothing_below f.next.first) (f.next.first ∷ f.next.others)).count ≡ length (destinations f.made)
  count_is = let l = ap length laid_are in let k = laid-count (nothing_below f.next.first) (f.next.first ∷ f.next.others) in omega arith

  pub reached_is : reached c mid ≡ length (destinations f.made)
  reached_is =
      ap (λ (m : ℤ). (reach_all (nothing_below m) (middles_from mid 0 c)).count) first_is
      ∙ ap (λ (ms : List ℤ). (reach_all (nothing_below f.next.first) ms).count) all_middles
      ∙ count_is

  front_long : length (pairs_of (numbers_in (front_nodes c before)) f.made) ≡ 2 * c
  front_long = pairs-count (numbers_in (front_nodes c before)) f.made (f.numbers-many ∙ sym f.many) ∙ ap (λ (n : ℕ). 2 * n) f.many

  rest_is : (n : ℕ) → drop (2 * (c + n)) mid ≡ drop ((c + n) * 2) before
  rest_is n =
      let p = pairs_of (numbers_in (front_nodes c before)) f.made in
      let l = front_long in
      let e : 2 * (c + n) ≡ length p + n * 2 = omega arith in
      let g : c * 2 + n * 2 ≡ (c + n) * 2 = omega arith in
      ap (λ (z : List ℤ). drop (2 * (c + n)) z) f.slice ∙ (rw (e, drop-append-add p (drop (c * 2) before) (n * 2), drop-drop (n * 2) (c * 2) before, g))

  pushed_is : 2 * (c + length (destinations f.made)) ≤ length mid
      → pushed_all c (nothing_below (get_or mid 1 (pos 0))) (middles_from mid 0 c) mid
      ≡ pairs_of (numbers_in (front_nodes c before)) f.made ++ (last_pairs (destinations f.made) ++ drop ((c + length (destinations f.made)) * 2) before)
  pushed_is room =
      let p = pairs_of (numbers_in (front_nodes c before)) f.made in
      let r = nothing_below f.next.first in
      let ms = f.next.first ∷ f.next.others in
      let k = count_is in
      let l = ap length f.slice in
      rw (first_is, all_middles)
      (ap (λ (z : List ℤ). pushed_all c r ms z) f.slice
      ∙ laid-behind c r ms p (drop (c * 2) before) refl front_long (omega arith)
      ∙ ap (λ (z : List ℤ). (p ++ last_pairs (laid r ms)) ++ drop (2 * (c + (reach_all r ms).count)) z) (sym f.slice)
      ∙ (rw (laid_are, k, rest_is (length (destinations f.made))) (append_assoc p (last_pairs (destinations f.made)) _)))

  pub grown_layer : (one two : ℕ) {r : Outcome NextLayer} {after : List ℤ} → LaidNext (room_of (length mid) (length midP) one two) s.new_spacing s.place c r mid after
      → GrownLayer (grown_from (room_left before beforeP one two) s (numbers_in (front_nodes c before))) c r before after beforeP midP
  unfolding grown_from on_outcome
  grown_layer one two {r} {after} l =
      let n = length (destinations f.made) in
      let b = fits (room_left before beforeP one two) (c + n) n in
      let e : fits (room_of (length mid) (length midP) one two) (c + reached c mid) (reached c mid) ≡ b = rw (reached_is, f.kept, f.kept_too) in
      rw (f.is_made, f.numbers-many)
      (grown_by b (record { spacing = s.new_spacing; transitions = f.made }) (record { reason = reason.NoRoom; place = suc s.place }) c r before after beforeP midP
      (rw (reached_is, f.kept, f.kept_too) at l.outcome)
      (λ h. l.nodes (e ∙ h) ∙ pushed_is (let k = (fitting (room_left before beforeP one two) (c + n) n h).pairs in let z = f.kept in omega arith))
      f.threes
      (l.kept ∙ f.kept)
      f.kept_too)
