-- The sizes from their parts: the checks, variances, widths, and the slice left all zero. Assumes nothing.
use Rattle.std.specs.Prelude.{ℕ, ◌+◌, ◌*◌, ◌≤◌, ◌<◌, ◌^◌, List, length, replicate, ℤ, pos, Float, Ok, Err}
use Rattle.std.proofs.Common.{arith, ◌∙◌}
use Rattle.std.proofs.Math.Path.{◌≡◌, refl, sym, ap}
use Rattle.std.specs.Float.{binary64}
use Rattle.std.specs.Float.Ieee.{div}
use Rattle.floats.specs.Refusals.{Refusal}
use Rattle.floats.specs.Answers.{Check, Outcome, follow, on_outcome, tested, when_finite}
use Rattle.floats.specs.laws.Propagation.{passed_on, stopped}
use Rattle.terms.specs.Checks.{on_check}
use Rattle.terms.specs.Numbers.{float}
use Rattle.terms.specs.Terms.{HullWhite, CallSchedule, Market}
use Rattle.terms.specs.Entries.{tree_checks}
use Rattle.terms.specs.laws.Outcomes.{follow-given, follow-refused, same_given}
use Rattle.bondevents.specs.Grid.{axis_of}
use Rattle.hullwhite.specs.Variance.{transition_variances}
use Rattle.hullwhite.specs.laws.Filled.{Filled, check_of}
use Rattle.treebasedbondpricer.specs.laws.FittedIn.{filled-whole, refused_is}
use Rattle.widths.specs.declared.tree.Widths.{Widths}
use Rattle.widths.specs.Widths.{widths, total, widest}
use Rattle.widths.specs.laws.Summing.{Sums, sums_of, sums_made}
use Rattle.widths.proofs.laws.FewNodes.{few-nodes}
use Rattle.sizing.specs.declared.Lengths.{Lengths}
use Rattle.sizing.specs.Sizing.{tree_widths, sizes_from, sizes_of, nodes_after, SizesEntered}

abbrev pub lengths_for : Widths → Lengths
lengths_for w = record { nodes = 2 * w.nodes; probabilities = 3 * w.nodes; row = w.widest; count = w.nodes }

abbrev pub sized_of : Outcome Widths → Outcome Lengths
sized_of (Ok w) = Ok (lengths_for w)
sized_of (Err q) = Err q

pub sized-given : {found : Outcome Widths} {w : Widths} → found ≡ Ok w → Ok (lengths_for w) ≡ sized_of found
sized-given e = rw e

pub sized-refused : {found : Outcome Widths} {q : Refusal} → found ≡ Err q → Err q ≡ sized_of found
sized-refused e = rw e

-- Three places for each node can be counted.
pub record FewFound (found : Outcome Widths) : Type 0 where
  pub few : (w : Widths) → found ≡ Ok w → 3 * w.nodes < 2 ^ 64

unfoldable pub sizes_as : Outcome (List ℕ) → Outcome Lengths
unfolding total widest
sizes_as (Ok ws) = sizes_from ws
sizes_as (Err q) = Err q

abbrev pub widths_over : ℕ → HullWhite → ℕ → Float → Outcome (List ℕ)
widths_over room model steps dt = follow (transition_variances model steps dt) λ variances. widths room model.alpha dt variances

abbrev pub widths_at : ℕ → HullWhite → Float → ℕ → Outcome (List ℕ)
widths_at room model maturity steps = when_finite (div binary64 maturity (float steps)) 0 λ dt. widths_over room model steps dt

module _ (room : ℕ) (model : HullWhite) (maturity : Float) (steps : ℕ) where
  pub at-refused : {q : Refusal} → tested (div binary64 maturity (float steps)) 0 ≡ Err q → Err q ≡ sizes_as (widths_at room model maturity steps)
  unfolding sizes_as
  at-refused e = ap sizes_as (stopped (widths_over room model steps) (div binary64 maturity (float steps)) 0 e refl)

  pub at-given : {dt : Float} {r : Outcome Lengths} → tested (div binary64 maturity (float steps)) 0 ≡ Ok dt → r ≡ sizes_as (widths_over room model steps dt) → r ≡ sizes_as (widths_at room model maturity steps)
  at-given e h = h ∙ ap sizes_as (passed_on (widths_over room model steps) (div binary64 maturity (float steps)) 0 e (λ f. refl))

-- ---- what was found

pub found-few : (room : ℕ) (alpha dt : Float) (vs : List Float) (found : Outcome Widths) → 0 < length vs → length vs ≤ 512 → sums_made found ≡ sums_of (widths room alpha dt vs) → FewFound found
unfolding sums_made sums_of
found-few room alpha dt vs found h k e = record { few = λ w f. let b = few_of (widths room alpha dt vs) refl w.nodes w.widest (rw f at e) in omega arith }
  where
    few_of : (o : Outcome (List ℕ)) → widths room alpha dt vs ≡ o → (t w : ℕ) → Ok (record { total = t; widest = w }) ≡ sums_of o → t ≤ 2000004 * (length vs + 1)
    few_of (Ok ws) p t w e = let q : t ≡ total ws = ap (λ (s : Sums). s.total) (same_given e) in rw q (few-nodes room alpha dt vs ws p)
    few_of (Err r) p t w e = absurd (let z : ◌≡◌ {A = ℕ} 0 1 = cc in omega arith)

pub found-sizes : (o : Outcome (List ℕ)) (found : Outcome Widths) → sums_made found ≡ sums_of o → sized_of found ≡ sizes_as o
unfolding sums_made sums_of sizes_as
found-sizes (Ok ws) (Ok v) e =
    let p : v.nodes ≡ total ws = ap (λ (s : Sums). s.total) (same_given e) in
    let q : v.widest ≡ widest ws = ap (λ (s : Sums). s.widest) (same_given e) in
    rw (p, q)
found-sizes (Ok ws) (Err q) e = absurd (let z : ◌≡◌ {A = ℕ} 0 1 = cc in omega arith)
found-sizes (Err r) (Ok t) e = absurd (let z : ◌≡◌ {A = ℕ} 0 1 = cc in omega arith)
found-sizes (Err r) (Err q) e = let p : q ≡ r = cc in ap Err p

-- ---- variances

module _ (room : ℕ) (model : HullWhite) (dt : Float) (steps : ℕ) where
  pub over-refused : {v : Check} {q : Refusal} {before after : List Float} → Filled (transition_variances model steps dt) v before after → v ≡ Err q → Err q ≡ sizes_as (widths_over room model steps dt)
  unfolding sizes_as
  over-refused f e = sym (ap sizes_as (follow-refused _ _ (refused_is _ f.outcome e)))

  passed_is : (o : Outcome (List Float)) {v : Check} → v ≡ check_of o → v ≡ Ok tt → (vs : List Float) × (o ≡ Ok vs)
  unfolding check_of
  passed_is (Ok vs) e p = (vs, refl)
  passed_is (Err r) e p = absurd (let z : ◌≡◌ {A = ℕ} 0 1 = cc in omega arith)

  pub over-found : (found : Outcome Widths) {v : Check} {before after : List Float} → Filled (transition_variances model steps dt) v before after → length before ≡ steps → v ≡ Ok tt
      → sums_made found ≡ sums_of (widths room model.alpha dt after) → sized_of found ≡ sizes_as (widths_over room model steps dt)
  over-found found {v} {before} {after} f l p e =
      let (vs, o) = passed_is (transition_variances model steps dt) f.outcome p in
      found-sizes (widths room model.alpha dt after) found e
      ∙ ap sizes_as (ap (widths room model.alpha dt) (filled-whole model dt steps f l o) ∙ sym (follow-given (transition_variances model steps dt) (λ variances. widths room model.alpha dt variances) o))

-- ---- the entry

module _ (m : Market) (calls : CallSchedule) {k : Check} (e : k ≡ tree_checks m calls) (before : List ℤ) where
  pub entered-refused : {q : Refusal} → k ≡ Err q → SizesEntered m calls (Err q) before before
  unfolding sizes_of nodes_after on_check
  entered-refused p =
      record {
        sizes = ap (λ (c : Check). on_check c Err (on_outcome (tree_widths m (length before)) Err sizes_from)) (sym p ∙ e);
        slice = ap (λ (c : Check). on_check c (λ r. before) (replicate (length before) (pos 0))) (sym p ∙ e);
      }

  as_sizes : (o : Outcome (List ℕ)) → sizes_as o ≡ on_outcome o Err sizes_from
  unfolding sizes_as on_outcome
  as_sizes (Ok ws) = refl
  as_sizes (Err q) = refl

  pub entered-zeroed : {v : Outcome Lengths} {after : List ℤ} {n steps : ℕ} {maturity : Float} → k ≡ Ok tt
      → maturity ≡ (axis_of m.settlement m.bond.leg m.controls).maturity → steps ≡ (axis_of m.settlement m.bond.leg m.controls).steps
      → v ≡ sizes_as (widths_at (length before) m.model maturity steps)
      → after ≡ replicate n (pos 0) → n ≡ length before → SizesEntered m calls v before after
  unfolding sizes_of nodes_after on_check tree_widths
  entered-zeroed {v} p t s f a b =
      record {
        sizes = f ∙ (rw (t, s)) ∙ as_sizes (tree_widths m (length before)) ∙ ap (λ (c : Check). on_check c Err (on_outcome (tree_widths m (length before)) Err sizes_from)) (sym p ∙ e);
        slice = a ∙ (rw b) ∙ ap (λ (c : Check). on_check c (λ r. before) (replicate (length before) (pos 0))) (sym p ∙ e);
      }
