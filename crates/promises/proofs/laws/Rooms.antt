-- The tree value and spread from price in two rooms: the same, or one of them has no room. Assumes nothing.
use Prim.Native.Nat.{ℕ, zero, suc, ◌+◌}
use Rattle.std.proofs.Common.{arith, sym, subst, ap}
use Rattle.std.specs.Prelude.{◌≡◌, refl, Bool, true, false, cond, ℤ, Float, Ok, Err}
use mathlib.Core.List.{List, [], ◌∷◌}
use Rattle.std.proofs.Math.ListN.{length}
use Rattle.std.specs.Float.Ieee.{binary64, div}
use Rattle.floats.specs.Answers.{Answer, on_outcome, not_finite, Check, Outcome, follow, refusal}
use Rattle.terms.specs.Numbers.{float}
use Rattle.terms.specs.Terms.{CallSchedule, Market}
use Rattle.terms.specs.Checks.{on_check}
use Rattle.terms.specs.Entries.{tree_checks}
use Rattle.bondevents.specs.declared.BondEventGrid.{BondEventGrid}
use Rattle.bondevents.specs.declared.CallStep.{CallStep}
use Rattle.bondevents.specs.Grid.{event_grid}
use Rattle.hullwhite.specs.Variance.{transition_variances}
use Rattle.lattice.specs.Layers.{Room, fits}
use Rattle.lattice.specs.Lattice.{Lattice, root_layer, flat_layer, destinations, transitions_of, step_of, spacing_of, decay_of, grown, flat, curved, all_flat, lattice}
use Rattle.treebasedbondpricer.specs.declared.TreeValue.{TreeValue}
use Rattle.treebasedbondpricer.specs.Tree.{Fitted, fitted_tree_over, lattice_value_over, tree_value_over, tree_value, curve_of}
use Rattle.brackets.specs.declared.Root.{Root}
use Rattle.brackets.specs.Brackets.{Searched, no_root}
use Rattle.spreads.specs.Spreads.{Quoted, at_spread, quoted_checks, solve_spread, spread_from_price}
use Rattle.spreads.specs.laws.SpreadTree.{found_over, found_on, fitted-once}
use Rattle.promises.specs.Rooms.{SameOr21, same, first_21, second_21, SameValueOr21, RoomRule, OneValue, EntryRoomRule, SameSpreadOr21, SpreadRoomRule, EntrySpreadRoomRule}
use Rattle.floats.specs.declared.Reason.TheVariants as reason

-- The same of a part of the working state.
abbrev pub Alike : {A : Type 0} → Outcome A → Outcome A → Type 0
Alike = SameOr21 (refusal reason.NoRoom)

-- ---- what follows

pub after : {A B : Type 0} (o : Outcome A) (f g : A → Outcome B) → ((x : A) → Alike (f x) (g x)) → Alike (follow o f) (follow o g)
unfolding on_outcome
after (Ok x) f g h = h x
after (Err r) f g h = same

after_both : {A B : Type 0} {o p : Outcome A} (f : A → Outcome B) → Alike o p → Alike (follow o f) (follow p f)
unfolding on_outcome
after_both f same = same
after_both f first_21 = first_21
after_both f second_21 = second_21

after-value : {A : Type 0} (a : Answer) (f g : Float → Outcome A) → ((x : Float) → Alike (f x) (g x)) → Alike (follow a f) (follow a g)
unfolding on_outcome
after-value (Ok x) f g h = h x
after-value (Err r) f g h = same

pub either : {A : Type 0} (b : Bool) (o p q r : Outcome A) → Alike o q → Alike p r → Alike (cond b o p) (cond b q r)
either true o p q r h k = h
either false o p q r h k = k

-- Each room by its own test.
in_rooms_lem : {A : Type 0} (b c : Bool) (k : ℕ) (o p : Outcome A) → Alike o p → Alike (cond b o (refusal reason.NoRoom k)) (cond c p (refusal reason.NoRoom k))
in_rooms_lem true true k o p h = h
in_rooms_lem true false k o p h = second_21
in_rooms_lem false c k o p h = first_21

-- ---- layers

module _ (a b : Room) where
  grown-alike : (decay spacing : Float) (before : ℕ) (nodes : List ℤ) (k : ℕ) (vs : List Float) → Alike (grown a decay spacing before nodes k vs) (grown b decay spacing before nodes k vs)
  unfolding grown
  grown-alike decay spacing before nodes k [] = same
  grown-alike decay spacing before nodes k (v ∷ vs) =
      after (step_of spacing decay v k) _ _ λ s.
      after (transitions_of s nodes) _ _ λ ts.
      let below = before + length nodes in
      let next = destinations ts in
      let whole : Lattice → Outcome Lattice = λ rest. Ok (record { layers = record { nodes = nodes; transitions = ts; spacing = spacing } ∷ rest.layers; final = rest.final }) in
      in_rooms_lem (fits a (below + length next) (length next)) (fits b (below + length next) (length next)) (suc k) _ _ (after_both whole (grown-alike decay s.new_spacing below next (suc k) vs))

  flat-alike : (k left : ℕ) → Alike (flat a k left) (flat b k left)
  unfolding flat
  flat-alike k zero = in_rooms_lem (fits a (k + 1) 1) (fits b (k + 1) 1) k (Ok (record { layers = []; final = root_layer })) (Ok (record { layers = []; final = root_layer })) same
  flat-alike k (suc left) =
      let whole : Lattice → Outcome Lattice = λ rest. Ok (record { layers = flat_layer ∷ rest.layers; final = rest.final }) in
      in_rooms_lem (fits a (k + 1) 1) (fits b (k + 1) 1) k _ _ (after_both whole (flat-alike (suc k) left))

  curved-alike : (alpha dt : Float) (vs : List Float) → Alike (curved a alpha dt vs) (curved b alpha dt vs)
  unfolding curved
  curved-alike alpha dt [] = same
  curved-alike alpha dt (v ∷ vs) =
      after-value (decay_of alpha dt) _ _ λ decay.
      after-value (spacing_of v 0) _ _ λ spacing. in_rooms_lem (fits a 1 1) (fits b 1 1) 0 _ _ (grown-alike decay spacing 0 root_layer 0 (v ∷ vs))

  pub lattice-alike : (alpha dt : Float) (vs : List Float) → Alike (lattice a alpha dt vs) (lattice b alpha dt vs)
  unfolding lattice
  lattice-alike alpha dt vs = either (all_flat vs) _ _ _ _ (flat-alike 0 (length vs)) (curved-alike alpha dt vs)

  -- The fit and the walk go by the tree alone, whatever they are.
  fitted-alike : (curve : Float → ℕ → Answer) (m : Market) (maturity : Float) (steps : ℕ) → Alike (fitted_tree_over curve m a maturity steps) (fitted_tree_over curve m b maturity steps)
  unfolding fitted_tree_over
  fitted-alike curve m maturity steps =
      let dt = div binary64 maturity (float steps) in
      either (not_finite dt) _ _ _ _ same
      (after (transition_variances m.model steps dt) _ _ λ vs. after_both _ (lattice-alike m.model.alpha dt vs))

  value-alike : (curve : Float → ℕ → Answer) (m : Market) (grid : BondEventGrid) → Alike (lattice_value_over curve m a grid) (lattice_value_over curve m b grid)
  unfolding lattice_value_over
  value-alike curve m grid = after_both _ (fitted-alike curve m grid.maturity_time grid.steps)

-- ---- the tree value

as_values : {o p : Outcome (Outcome TreeValue)} → Alike o p → SameValueOr21 (on_outcome o Err λ v. v) (on_outcome p Err λ v. v)
unfolding on_outcome
as_values same = same
as_values first_21 = first_21
as_values second_21 = second_21

checked : (c : Check) (v w : Outcome TreeValue) → SameValueOr21 v w → SameValueOr21 (on_check c Err v) (on_check c Err w)
unfolding on_check
checked (Ok tt) v w h = h
checked (Err r) v w h = same

-- In two rooms the tree value is the same, or one of them is refused with 21.
pub any_room : RoomRule
unfolding tree_value tree_value_over
any_room m calls a b =
    checked (tree_checks m calls) _ _
    (as_values (after (event_grid m.settlement m.bond calls m.controls) _ _ λ grid. value-alike a b (curve_of m) m grid))

one_of : {v w : Outcome TreeValue} {x y : Float} {n k : ℕ} → SameValueOr21 v w → v ≡ Ok (record { value = x; nodes = n }) → w ≡ Ok (record { value = y; nodes = k }) → (x ≡ y) × (n ≡ k)
one_of {x = x} {y = y} {n = n} {k = k} same e f = let p : ◌≡◌ {A = TreeValue} (record { value = x; nodes = n }) (record { value = y; nodes = k }) = cc in (ap (λ (v : TreeValue). v.value) p, ap (λ (v : TreeValue). v.nodes) p)
one_of first_21 e f = absurd (let z : ◌≡◌ {A = ℕ} 0 1 = cc in omega arith)
one_of second_21 e f = absurd (let z : ◌≡◌ {A = ℕ} 0 1 = cc in omega arith)

-- Two values of the same terms are one.
pub same_in_any_room : OneValue
same_in_any_room m calls a b x y n k e f = one_of (any_room m calls a b) e f

-- The same of what the running entry answers.
pub any_slices : EntryRoomRule
any_slices m calls a b lent-first lent-second left_first left_second p q = rw (p.value, q.value) (any_room m calls _ _)

-- ---- spread from price

-- Over the same grid the solver goes by the fitted tree alone; without one it ends at the first spread.
found_over_lem : (target : Float) (cashflows : List Float) (calls : List CallStep) {o p : Outcome Fitted} → Alike o p → SameSpreadOr21 (found_over target cashflows calls o) (found_over target cashflows calls p)
unfolding found_over
found_over_lem target cashflows calls same = same
found_over_lem target cashflows calls first_21 = first_21
found_over_lem target cashflows calls second_21 = second_21

found_on_lem : (m : Market) (a b : Room) (target : Float) (o : Outcome BondEventGrid) → SameSpreadOr21 (found_on m a target o) (found_on m b target o)
unfolding found_on
found_on_lem m a b target (Ok g) = found_over_lem target g.cashflows g.calls (fitted-alike a b (curve_of m) m g.maturity_time g.steps)
found_on_lem m a b target (Err q) = same

solved-alike : (asked : Quoted) (calls : CallSchedule) (a b : Room) → quoted_checks asked calls ≡ Ok tt → SameSpreadOr21 (solve_spread asked calls a) (solve_spread asked calls b)
solved-alike asked calls a b e =
    let m = at_spread asked asked.target in
    let grid = event_grid m.settlement m.bond calls m.controls in
    subst (SameSpreadOr21 (solve_spread asked calls a)) (sym (fitted-once asked calls b e))
    (subst (λ (r : Searched Root). SameSpreadOr21 r (found_on m b asked.target grid)) (sym (fitted-once asked calls a e)) (found_on_lem m a b asked.target grid))

checked_spread_lem : (c d : Check) (r s : Searched Root) → d ≡ c → (d ≡ Ok tt → SameSpreadOr21 r s) → SameSpreadOr21 (on_check c (λ q. no_root q 0) r) (on_check c (λ q. no_root q 0) s)
unfolding on_check
checked_spread_lem (Ok tt) d r s e h = h e
checked_spread_lem (Err q) d r s e h = same

-- In two rooms the spread, its tries, its refusal and place are the same, or one of them is refused with 21.
pub any_room_spread : SpreadRoomRule
unfolding spread_from_price
any_room_spread asked calls a b = checked_spread_lem (quoted_checks asked calls) (quoted_checks asked calls) _ _ refl (solved-alike asked calls a b)

-- The same of what the running entry answers.
pub any_slices_spread : EntrySpreadRoomRule
any_slices_spread asked calls a b lent-first lent-second left_first left_second p q = rw (p.root, q.root) (any_room_spread asked calls _ _)
