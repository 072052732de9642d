-- Cells whose single call is refused by its checks. Assumes nothing.
use Rattle.std.specs.Prelude.{ℕ, ◌≤◌, ◌<◌, ◌≡◌, refl, ◌⊎◌, Bool, true, false, not, ◌||◌, ltb, eqb, length, Float, Ok, Err}
use Rattle.std.proofs.Math.Path.{sym, ap}
use Rattle.std.proofs.Common.{◌∙◌, inl, inr, arith, lt-ltb, ne_eqb}
use Rattle.std.proofs.Math.Bool.{cond}
use mathlib.Core.List.{List, [], ◌∷◌, ◌++◌}
use Rattle.std.proofs.lemmas.List.{length-map}
use Rattle.std.specs.Float.{binary64}
use Rattle.std.specs.Float.Ieee.{add, neg, lt, of_bits, of_int}
use Rattle.floats.specs.Refusals.{Refusal}
use Rattle.floats.specs.Answers.{plus_zero, Check, Outcome}
use Rattle.rounded.specs.laws.RoundToOdd.{ordered}
use Rattle.terms.specs.Numbers.{float}
use Rattle.terms.specs.Terms.{CallSchedule, Market, SigmaSchedule, with_spread}
use Rattle.terms.specs.Checks.{on_check, first_of, single, within, sigma_count, pillar_count}
use Rattle.terms.specs.Entries.{setting_checks, grid_counts, most_checks, tree_days, tree_numbers, tree_orders, late_checks, tree_checks}
use Rattle.terms.specs.laws.Sequence.{passed_not_refused, all}
use Rattle.terms.specs.laws.MarketChecks.{other-spread}
use Rattle.lattice.specs.Layers.{Room}
use Rattle.treebasedbondpricer.specs.declared.TreeValue.{TreeValue}
use Rattle.treebasedbondpricer.specs.Tree.{tree_value}
use Rattle.spreadtable.specs.declared.Written.{Written}
use Rattle.spreadtable.specs.Cells.{hash_cell, cell_text}
use Rattle.spreadtable.specs.Page.{row_text}
use Rattle.spreadtable.specs.Table.{shifted, with_sigmas, with_shift, any_outside, cell_at}
use Rattle.spreadtable.specs.laws.Writing.{appended}
use Rattle.spreadtable.specs.laws.Filling.{same_cells}
use Rattle.spreadtable.specs.laws.FittedOnce.{spread_cell, walk_on}
use Rattle.spreadtable.proofs.laws.FittedOnce.{fitted-once}
use Rattle.spreadtable.specs.laws.Refusing.{check_text, check_cell, single_cell}
use Rattle.floats.specs.declared.Reason.TheVariants as reason

refused-text : (c : Check) (v : Outcome TreeValue) → (c ≡ Ok tt → ⊥) → check_text c ≡ cell_text (on_check c Err v)
unfolding check_text cell_text on_check
refused-text (Ok tt) v some = absurd (some refl)
refused-text (Err q) v some = refl

pub refused-cell : (m : Market) (calls : CallSchedule) (room : Room) → (tree_checks m calls ≡ Ok tt → ⊥) → check_text (tree_checks m calls) ≡ cell_text (tree_value m calls room)
unfolding tree_value
refused-cell m calls room some = refused-text (tree_checks m calls) _ some

-- ---- terms that a spread of 0 doesn't pass are passed by none

zero_in_range : within (float 1) plus_zero ≡ Ok tt
unfolding of_bits lt neg of_int
zero_in_range = refl

module _ (m : Market) (calls : CallSchedule) where
  never-passed : {q : Refusal} → m.spread ≡ plus_zero → tree_checks m calls ≡ Err q → (s : Float) → tree_checks (with_spread m s) calls ≡ Ok tt → ⊥
  unfolding tree_checks
  never-passed {q} zero-spread e s h =
      passed_not_refused (tree_checks m calls) q
      (other-spread (float 1) (with_spread m s) calls m.spread h ∙ ap (within (float 1)) zero-spread ∙ zero_in_range)
      e

  pub row_unchecked : {k : Check} {q : Refusal} {v : Written} (w : Written) (spreads : List Float) (room : Room) → k ≡ tree_checks m calls → k ≡ Err q
      → v ≡ appended w (row_text (check_cell m calls) spreads) → m.spread ≡ plus_zero → v ≡ appended w (row_text (single_cell m calls room) spreads)
  row_unchecked w spreads room e p f zero-spread =
      f
      ∙ ap (λ (z : List ℕ). appended w z)
      (same_cells (check_cell m calls) (single_cell m calls room) (λ s. refused-cell (with_spread m s) calls room (never-passed zero-spread (sym e ∙ p) s)) spreads)

  pub row-checked : {k : Check} {v : Written} (w : Written) (spreads : List Float) (room : Room) → k ≡ tree_checks m calls → k ≡ Ok tt
      → v ≡ appended w (row_text (spread_cell (walk_on m calls room)) spreads) → v ≡ appended w (row_text (single_cell m calls room) spreads)
  row-checked w spreads room e p f =
      f
      ∙ ap (λ (z : List ℕ). appended w z)
      (same_cells (spread_cell (walk_on m calls room)) (single_cell m calls room) (λ s. fitted-once m calls room (sym e ∙ p) s) spreads)

-- ---- more sigmas than a call takes are refused before any of them is read

same_refusal : (before : List Check) (c d : Check) (after more : List Check) {q : Refusal} → c ≡ Err q → d ≡ Err q → first_of (before ++ (c ∷ after)) ≡ first_of (before ++ (d ∷ more))
unfolding first_of on_check
same_refusal [] c d after more e f = rw (e, f, on_check)
same_refusal (b ∷ before) c d after more e f = ap (λ (z : Check). on_check b Err z) (same_refusal before c d after more e f)

one_refusal : (before : List Check) (c : Check) (after : List Check) {q : Refusal} → c ≡ Err q → first_of (before ++ (c ∷ after)) ≡ Ok tt → ⊥
unfolding first_of on_check
one_refusal [] c after {q} e h = passed_not_refused (Err q) q (sym (ap (λ (z : Check). on_check z Err (first_of after)) e) ∙ h) refl
one_refusal ((Ok tt) ∷ before) c after e h = one_refusal before c after e h
one_refusal (Err r ∷ before) c after e h = passed_not_refused (Err r) r h refl

too_many : (s : SigmaSchedule) → 64 < length s.sigmas → sigma_count s ≡ Err (record { reason = reason.Count; place = 0 })
too_many s h = ap (single reason.Count 0) (go (ordered (length s.times) 64))
  where
    go : (length s.times ≤ 64) ⊎ (64 < length s.times) → ((ltb (length s.times) 1 || ltb 64 (length s.times)) || not (eqb (length s.sigmas) (length s.times))) ≡ true
    go (inl l) = rw (ne_eqb (length s.sigmas) (length s.times) (λ (e : length s.sigmas ≡ length s.times). omega arith)) (last (ltb (length s.times) 1 || ltb 64 (length s.times)))
      where
        last : (b : Bool) → (b || true) ≡ true
        last true = refl
        last false = refl
    go (inr g) = rw (lt-ltb 64 (length s.times) g) (middle (ltb (length s.times) 1) (not (eqb (length s.sigmas) (length s.times))))
      where
        middle : (a b : Bool) → ((a || true) || b) ≡ true
        middle true b = refl
        middle false b = refl

module _ (m : Market) (calls : CallSchedule) (shift : Float) (many : 64 < length m.model.sigma.sigmas) where
  -- The checks before the count of sigmas.
  abbrev early : List Check
  early = all (setting_checks m.controls m.settlement.code ∷ grid_counts m.bond.leg calls m.bond.puts ∷ [])

  -- Those after it, of these terms and of the shifted ones.
  abbrev late : Market → List Check
  late n =
      pillar_count n.pillars
      ∷ most_checks n.bond.puts
      ++ tree_days n.settlement.day n.bond.leg calls n.bond.puts n.pillars
      ++ tree_numbers (float 1) n.bond.units n.model.alpha n.spread n.bond.leg calls n.bond.puts n.model.sigma n.pillars
      ++ tree_orders n.settlement.day n.bond.leg calls n.bond.puts n.model.sigma
      ++ late_checks n.settlement n.bond.leg n.pillars

  as_many : 64 < length (shifted shift m.model.sigma.sigmas)
  as_many = omega (arith, length-map m.model.sigma.sigmas (λ s. add binary64 s shift))

  unread : (s : Float) → tree_checks (with_spread m s) calls ≡ tree_checks (with_spread (with_shift m shift) s) calls
  unfolding tree_checks
  unread s = same_refusal early (sigma_count m.model.sigma) (sigma_count (with_shift m shift).model.sigma) (late (with_spread m s)) (late (with_spread (with_shift m shift) s)) (too_many m.model.sigma many) (too_many (with_shift m shift).model.sigma as_many)

  unpassed : (s : Float) → tree_checks (with_spread (with_shift m shift) s) calls ≡ Ok tt → ⊥
  unfolding tree_checks
  unpassed s h = one_refusal early (sigma_count (with_shift m shift).model.sigma) (late (with_spread (with_shift m shift) s)) (too_many (with_shift m shift).model.sigma as_many) h

  pub unread-cell : (room : Room) (s : Float) → check_cell m calls s ≡ single_cell (with_shift m shift) calls room s
  unread-cell room s = ap check_text (unread s) ∙ refused-cell (with_spread (with_shift m shift) s) calls room (unpassed s)

-- ---- a shift's row

module _ (m : Market) (calls : CallSchedule) (room : Room) (shift : Float) (w : Written) (spreads : List Float) {v : Written} {b : Bool} (tested : b ≡ any_outside (shifted shift m.model.sigma.sigmas)) where
  pub row-outside : {cell : List ℕ} → b ≡ true → cell ≡ hash_cell 46 → v ≡ appended w (row_text (λ s. cell) spreads) → v ≡ appended w (row_text (cell_at m calls room shift) spreads)
  unfolding cell_at
  row-outside {cell} t e f =
      f
      ∙ ap (λ (z : List ℕ). appended w z)
      (same_cells (λ s. cell) (cell_at m calls room shift)
      (λ s. e ∙ sym (ap (λ (c : Bool). cond c (hash_cell 46) (cell_text (tree_value (with_spread (with_shift m shift) s) calls room))) (sym tested ∙ t)))
      spreads)

  inside : (f : Float → List ℕ) → b ≡ false → ((s : Float) → f s ≡ single_cell (with_shift m shift) calls room s) → v ≡ appended w (row_text f spreads) → v ≡ appended w (row_text (cell_at m calls room shift) spreads)
  unfolding cell_at
  inside f t e p =
      p
      ∙ ap (λ (z : List ℕ). appended w z)
      (same_cells f (cell_at m calls room shift)
      (λ s. e s ∙ sym (ap (λ (c : Bool). cond c (hash_cell 46) (cell_text (tree_value (with_spread (with_shift m shift) s) calls room))) (sym tested ∙ t)))
      spreads)

  pub row-unread : b ≡ false → 64 < length m.model.sigma.sigmas → v ≡ appended w (row_text (check_cell m calls) spreads) → v ≡ appended w (row_text (cell_at m calls room shift) spreads)
  row-unread t many p = inside (check_cell m calls) t (λ s. unread-cell m calls shift many room s) p

  pub row-shifted : {moved : List Float} → b ≡ false → moved ≡ shifted shift m.model.sigma.sigmas → v ≡ appended w (row_text (single_cell (with_sigmas m moved) calls room) spreads) → v ≡ appended w (row_text (cell_at m calls room shift) spreads)
  row-shifted {moved} t e p = inside (single_cell (with_sigmas m moved) calls room) t (λ s. ap (λ (z : List Float). single_cell (with_sigmas m z) calls room s) e) p
