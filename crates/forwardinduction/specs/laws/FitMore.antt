-- One step of the fit over the lent rows is one step of the definition. Assumes nothing.
use Rattle.std.specs.Prelude.{ℕ, suc, ◌+◌, ◌*◌, ◌%◌, ◌≤◌, ◌≡◌, Bool, cond, take, drop, ℤ, Ok}
use Rattle.std.proofs.Math.Path.{refl, sym, ap}
use Rattle.std.proofs.Common.{◌∙◌, arith}
use Rattle.std.proofs.Math.Bool.{true, false}
use mathlib.Core.List.{List, [], ◌∷◌}
use borrow.Author.Tests.{eqb-true, eqb-false, eq-eqb, ne_eqb}
use Rattle.std.proofs.Math.ListN.{length}
use Rattle.std.proofs.Math.Seq.{length-take-le}
use Rattle.std.specs.Float.Ieee.{Float}
use Rattle.floats.specs.Answers.{plus_zero, Answer, Outcome, follow}
use Rattle.lattice.specs.Layers.{At}
use Rattle.lattice.specs.Lattice.{Layer}
use Rattle.forwardinduction.specs.Fit.{weighted, shift_of, onward, shifts_from}
use Rattle.lattice.specs.laws.Binds.{valued_same, follow-follow, follow-given}
use Rattle.lattice.specs.laws.Stored.{numbers_in, transitions_in, row_of}
use Rattle.lattice.specs.laws.Positions.{start_of, Layered}
use Rattle.lattice.specs.laws.Replayed.{roomy_of}
use Rattle.lattice.specs.laws.Rows.{even, current_part, Both}
use Rattle.forwardinduction.specs.laws.FitSteps.{onward_at}
use Rattle.forwardinduction.specs.laws.FitPlaces.{onward_at_lem}
use Rattle.forwardinduction.specs.laws.Advances.{layer_shift, advanced_at, Moved, step_at}
use Rattle.lattice.specs.laws.Laid.{front_nodes, front_layer, Stepped}

-- A row's part that is as long as the numbers says all that the row says.
row-take : (ns : List ℤ) (o : List Float) → row_of ns (take (length ns) o) ≡ row_of ns o
unfolding row_of
row-take [] o = refl
row-take (n ∷ ns) [] = refl
row-take (n ∷ ns) (x ∷ o) = ap (λ (r : List At). record { node = n; value = x } ∷ r) (row-take ns o)

odd : (k : ℕ) → (k % 2 ≡ 0 → ⊥) → k % 2 ≡ 1
odd k h = omega arith

module _ {flat : Bool} {one two c n : ℕ} {nodes : List ℤ} {probabilities : List Float} (s : Stepped flat one two c n nodes probabilities) where
  front-pairs : length (front_nodes c nodes) ≡ c * 2
  front-pairs = length-take-le (c * 2) nodes s.pairs

  front-threes : length (take (c * 3) probabilities) ≡ c * 3
  front-threes = length-take-le (c * 3) probabilities s.threes

  -- what one layer asks of a row that the next layer fits
  pub layered_of : (room : ℕ) → n ≤ room → Layered flat room (front_nodes c nodes) (take (c * 3) probabilities) c
  layered_of room h =
      record {
        pairs = front-pairs;
        threes = front-threes;
        some-node = s.some-node;
        roomy = roomy_of room s.placed s.within (omega (arith, s.counted));
      }

  -- the contributions, from a current row to the other
  onward-front : (spacing dt shift : Float) (place : ℕ) (row out : List Float) → c ≤ length row → n ≤ length out
      → onward spacing dt shift place (transitions_in flat (front_nodes c nodes) (take (c * 3) probabilities)) (row_of (numbers_in (front_nodes c nodes)) (take c row)) []
      ≡ follow (onward_at spacing dt shift place flat (start_of (front_nodes c nodes)) (front_nodes c nodes) (take (c * 3) probabilities) (take c row) out) λ o. Ok (row_of s.numbers o)
  unfolding row_of
  onward-front spacing dt shift place row out h k =
      let e : length (take c row) ≡ c = length-take-le c row h in
      onward_at_lem s.climbs flat spacing dt shift place _ _ (front_nodes c nodes) (take (c * 3) probabilities) (take c row) out s.placed (rw e front-pairs) (rw e front-threes) (omega (arith, s.counted))

  -- the row of the step after
  abbrev pub next_row : ℕ → Both → List At
  next_row step rows = row_of (numbers_in (front_nodes n (drop (c * 2) nodes))) (current_part (step + 1) n rows.first rows.second)

  next_row_lem : (step : ℕ) (o : List Float) → row_of s.numbers o ≡ row_of (numbers_in (front_nodes n (drop (c * 2) nodes))) (take n o)
  next_row_lem step o = sym (row-take s.numbers o) ∙ rw (s.counted, s.are_next)

  advance_more : {A : Type 0} (spacing dt shift : Float) (step : ℕ) (rows : Both) (k : List At → Outcome A) → c ≤ length rows.first → c ≤ length rows.second → n ≤ length rows.first → n ≤ length rows.second
      → follow (onward spacing dt shift step (transitions_in flat (front_nodes c nodes) (take (c * 3) probabilities)) (row_of (numbers_in (front_nodes c nodes)) (current_part step c rows.first rows.second)) []) k
      ≡ follow (advanced_at spacing dt shift step flat c (front_nodes c nodes) (take (c * 3) probabilities) rows) λ rows. k (next_row step rows)
  unfolding advanced_at
  advance_more {A} spacing dt shift step rows k a b d e = go (even step) refl
    where
      go : (b : Bool) → even step ≡ b
          → follow (onward spacing dt shift step (transitions_in flat (front_nodes c nodes) (take (c * 3) probabilities)) (row_of (numbers_in (front_nodes c nodes)) (cond b (take c rows.first) (take c rows.second))) []) k
          ≡ follow (cond b
          (follow (onward_at spacing dt shift step flat (start_of (front_nodes c nodes)) (front_nodes c nodes) (take (c * 3) probabilities) (take c rows.first) rows.second) λ o. Ok (record { first = rows.first; second = o }))
          (follow (onward_at spacing dt shift step flat (start_of (front_nodes c nodes)) (front_nodes c nodes) (take (c * 3) probabilities) (take c rows.second) rows.first) λ o. Ok (record { first = o; second = rows.second })))
          λ rows. k (next_row step rows)
      go true q =
          let h : step % 2 ≡ 0 = eqb-true (step % 2) 0 q in
          let f : even (step + 1) ≡ false = ne_eqb ((step + 1) % 2) 0 (λ z. omega arith) in
          let body : Outcome (List Float) = onward_at spacing dt shift step flat (start_of (front_nodes c nodes)) (front_nodes c nodes) (take (c * 3) probabilities) (take c rows.first) rows.second in
          let kn : Both → Outcome A = λ rows. k (next_row step rows) in
          ap (λ (z : Outcome (List At)). follow z k) (onward-front spacing dt shift step rows.first rows.second a e)
          ∙ follow-follow k body _ (λ o. k (row_of s.numbers o)) (λ o. follow-given k _)
          ∙ sym (follow-follow kn body _ _ (λ o. follow-given kn _ ∙ ap k (rw f (sym (next_row_lem step o)))))
      go false q =
          let h : step % 2 ≡ 0 → ⊥ = eqb-false (step % 2) 0 q in
          let g : (step + 1) % 2 ≡ 0 = omega (arith, odd step h) in
          let f : even (step + 1) ≡ true = eq-eqb ((step + 1) % 2) 0 g in
          let body : Outcome (List Float) = onward_at spacing dt shift step flat (start_of (front_nodes c nodes)) (front_nodes c nodes) (take (c * 3) probabilities) (take c rows.second) rows.first in
          let kn : Both → Outcome A = λ rows. k (next_row step rows) in
          ap (λ (z : Outcome (List At)). follow z k) (onward-front spacing dt shift step rows.second rows.first b d)
          ∙ follow-follow k body _ (λ o. k (row_of s.numbers o)) (λ o. follow-given k _)
          ∙ sym (follow-follow kn body _ _ (λ o. follow-given kn _ ∙ ap k (rw f (sym (next_row_lem step o)))))

  -- one step, then the others
  pub fit_more : (curve : Float → ℕ → Answer) (dt spacing : Float) (step : ℕ) (rows : Both) (layers : List Layer) → c ≤ length rows.first → c ≤ length rows.second → n ≤ length rows.first → n ≤ length rows.second
      → shifts_from curve dt step (front_layer flat c spacing nodes probabilities ∷ layers) (row_of (numbers_in (front_nodes c nodes)) (current_part step c rows.first rows.second))
      ≡ follow (step_at curve dt step flat c spacing (front_nodes c nodes) (take (c * 3) probabilities) rows) λ m. follow (shifts_from curve dt (suc step) layers (next_row step m.rows)) λ shifts. Ok (m.shift ∷ shifts)
  unfolding shifts_from step_at
  fit_more curve dt spacing step rows layers a b d e =
      let row : List At = row_of (numbers_in (front_nodes c nodes)) (current_part step c rows.first rows.second) in
      let rest : Float → List At → Outcome (List Float) = λ shift next. follow (shifts_from curve dt (suc step) layers next) λ shifts. Ok (shift ∷ shifts) in
      let after : Moved → Outcome (List Float) = λ m. rest m.shift (next_row step m.rows) in
      let adv : Float → Outcome Both = λ shift. advanced_at spacing dt shift step flat c (front_nodes c nodes) (take (c * 3) probabilities) rows in
      let on : Float → Outcome (List Float) = λ shift. follow (onward spacing dt shift step (transitions_in flat (front_nodes c nodes) (take (c * 3) probabilities)) row []) (rest shift) in
      sym (follow-follow on (weighted spacing dt step row plus_zero) (λ sum. shift_of curve dt step sum) _ (λ sum. refl))
      ∙ valued_same (layer_shift curve dt step spacing row) on (λ shift. follow (follow (adv shift) λ rows. Ok (record { shift = shift; rows = rows })) after)
      (λ shift. advance_more spacing dt shift step rows (rest shift) a b d e ∙ sym (follow-follow after (adv shift) _ _ (λ rows. follow-given after _)))
      ∙ sym (follow-follow after (layer_shift curve dt step spacing row) _ _ (λ shift. refl))
