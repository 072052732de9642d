-- `walk::roll` meets its contract. The invariant: what is left from node i on, over the row as it is, is the whole, and where the flag says so the factors of the part are at hand. Assumes nothing.
use Rattle.std.specs.Prelude.{Ok, Err}
use Prim.Native.Nat.{ℕ, ◌+◌, ◌*◌, ◌%◌, ◌≤◌, ◌<◌}
use mathlib.Core.Path.{◌≡◌, refl, sym, ◌∙◌}
use mathlib.Core.Bool.{Bool, true, false}
use mathlib.Core.List.{List}
use native.Mathlib.Omega.{arith}
use borrow.Author.Rules.{rules}
use mir.Syntax.{w32}
use mir.Facts.{to_z-of_z}
use lib.ListN.{length, get_or, set, drop, drop_of_length-le, length-set}
use lib.IntN.{ℤ, pos}
use lib.Ieee.{Float, nan}
use Rattle.floats.specs.Refusals.{Refusal}
use Rattle.floats.specs.Answers.{Answer, Check, Outcome, follow, outcome_of}
use Rattle.bondevents.specs.declared.CallStep.{CallStep}
use Rattle.lattice.specs.declared.reach.Reach.{Reach}
use Rattle.backwardinduction.specs.declared.walk.Rates.{Rates}
use Rattle.lattice.specs.Layers.{node_float}
use Rattle.lattice.specs.laws.Stored.{middles_in}
use Rattle.lattice.specs.laws.StoredAt.{drop_two, drop_three, middles_from_lem}
use Rattle.lattice.specs.laws.Bounds.{Within}
use Rattle.lattice.specs.laws.Reaching.{reach, nothing_below}
use Rattle.lattice.specs.laws.Positions.{start_of, Layered, Held, roomy_next}
use Rattle.lattice.specs.laws.Binds.{went_on, stopped_at}
use Rattle.backwardinduction.specs.laws.WalkSteps.{discount_with, value_with, rolled_at}
use Rattle.backwardinduction.specs.laws.Discounts.{Ahead, ahead_none, ahead_count, ahead_next, ahead_here}
use Rattle.floats.proofs.Lent.{passes}
use Rattle.backwardinduction.proofs.walk.roll.Invariants.{At}
use Rattle.backwardinduction.proofs.walk.roll.Goals as goal

module _ (nodes : List ℤ) (probabilities next row₀ : List Float) (flat : Bool) (rates : Rates) (call : CallStep) (cashflow : Float) (place : ℕ) where
  abbrev whole : Outcome (List Float)
  whole = rolled_at rates call cashflow place flat next (start_of nodes) 0 nodes probabilities row₀

  abbrev from : Reach → ℕ → List Float → Outcome (List Float)
  from r i row = rolled_at rates call cashflow place flat next r i (drop (i * 2) nodes) (drop (i * 3) probabilities) row

  module _ (l : Layered flat (length next) nodes probabilities (length row₀)) where
    start : {r : Reach} {z : ℤ} (es : List Float) → length es ≡ 64 → z ≡ get_or nodes 1 (pos 0) → r ≡ nothing_below z → At nodes probabilities next row₀ flat rates call cashflow place row₀ r es false 0
    start es p e f = rw (f, e) (record { within = omega arith; same = refl; room = l.roomy; left = refl; part = p; ahead = ahead_none })

    first : {z : ℤ} → z ≡ get_or nodes 1 (pos 0) → Within z
    first e = let b : 0 * 2 + 1 < length nodes = omega (arith, l.pairs, l.some-node) in rw e (roomy_next (rw (middles_from_lem nodes 0 b) at l.roomy)).within

    module _ (row : List Float) (r : Reach) (es : List Float) (known : Bool) (i : ℕ) (a : At nodes probabilities next row₀ flat rates call cashflow place row r es known i) (inside : i < length row₀) where
      t : i < length row
      t = omega (arith, inside, a.same)

      abbrev number : ℤ
      number = get_or nodes (i * 2) (pos 0)

      abbrev middle : ℤ
      middle = get_or nodes (i * 2 + 1) (pos 0)

      held : {z : ℤ} → z ≡ middle → Held flat (length next) r z (middles_in (drop ((i + 1) * 2) nodes))
      held e = let b : i * 2 + 1 < length nodes = omega (arith, l.pairs, inside) in rw e (roomy_next (rw (middles_from_lem nodes i b) at a.room))

      abbrev value : ℕ → ℤ → Answer
      value count z = value_with rates call cashflow place flat count (node_float z) (get_or probabilities (i * 3) nan) (get_or probabilities (i * 3 + 1) nan) (get_or probabilities (i * 3 + 2) nan) next

      turn : from r i row ≡ follow (value (reach r middle).count number) λ v. from (reach r middle) (i + 1) (set row i v)
      unfolding rolled_at
      turn =
          let b : i * 2 + 1 < length nodes = omega (arith, l.pairs, inside) in
          let d : i * 3 + 2 < length probabilities = omega (arith, l.threes, inside) in
          rw (drop_two nodes (pos 0) i b, drop_three probabilities nan i d)

      -- the part's factors, as refill is given them and as it leaves them
      given : Ahead known rates nodes (length row) i i es
      given = ahead_count (sym a.same) a.ahead

      factor : {z : ℤ} {now : Bool} {fs : List Float} → z ≡ number → Ahead now rates nodes (length row) i (i + 1) fs → now ≡ true → discount_with rates (node_float z) place ≡ Ok (get_or fs (i % 64) nan)
      factor n f g = rw n (ahead_here f t place g)

      module _ {s : Answer} {z m : ℤ} {after : Reach} (n : z ≡ number) (g : m ≡ middle) (k : after ≡ reach r m) (w : s ≡ value after.count z) where
        stopped : {q : Refusal} (x : List Float) {t : Check} → s ≡ Err q → t ≡ Err q → outcome_of t x ≡ whole
        unfolding outcome_of
        stopped x v e = rw e (sym (turn ∙ stopped_at _ _ (rw (k, g, n) at w) v) ∙ a.left)

        stepped : {v : Float} {now : Bool} {fs : List Float} → length fs ≡ 64 → Ahead now rates nodes (length row) i (i + 1) fs → s ≡ Ok v → At nodes probabilities next row₀ flat rates call cashflow place (set row i v) after fs now (i + 1)
        stepped p f v =
            rw (k, g)
            (record {
              within = omega (arith, inside);
              same = length-set row i _ ∙ a.same;
              room = (held refl).rest;
              left = sym (turn ∙ went_on _ _ (rw (k, g, n) at w) v) ∙ a.left;
              part = p;
              ahead = ahead_next (ahead_count a.same f);
            })

    done : (row : List Float) (r : Reach) (es : List Float) (known : Bool) (i : ℕ) → At nodes probabilities next row₀ flat rates call cashflow place row r es known i → length row₀ ≤ i → outcome_of (Ok tt) row ≡ whole
    unfolding rolled_at
    done row r es known i a h =
        let b : length nodes ≤ i * 2 = omega (arith, l.pairs, h) in
        passes row ∙ rw (drop_of_length-le nodes b) at a.left

pub nothing_below-r-requires : goal.nothing_below-r-requires
nothing_below-r-requires c =
    let a = c.args in
    first a.nodes.now a.probabilities.now a.next.now a.row.now a.reads.flat a.reads.rates a.reads.call a.reads.cashflow a.reads.place c.requires (to_z-of_z {w = w32} (record { sfits = c.nothing_below-arg-1.given }))

pub reached-after-requires : goal.reached-after-requires
reached-after-requires c =
    let l = c.loop-i in
    let h = held _ _ _ _ _ _ _ _ _ c.requires _ _ _ _ _ l.invariant c.loop-i-test.true (to_z-of_z {w = w32} (record { sfits = c.middle-1.given })) in
    (omega (arith, h.counted, c.well_formed), h.within)

pub node_value-requires : goal.node_value-requires
node_value-requires c =
    let l = c.loop-i in
    let h = held _ _ _ _ _ _ _ _ _ c.requires _ _ _ _ _ l.invariant c.loop-i-test.true (to_z-of_z {w = w32} (record { sfits = c.middle-1.given })) in
    let node = to_z-of_z {w = w32} (record { sfits = c.node-1.given }) in
    let f = factor _ _ _ _ _ _ _ _ _ c.requires _ _ _ _ _ l.invariant c.loop-i-test.true node c.refill-known.ensures in
    rw c.reached-after.ensures (h.three, h.spot, f)

pub returns-in_err-row : goal.returns-in_err-row
returns-in_err-row c =
    let l = c.loop-i in
    stopped _ _ _ _ _ _ _ _ _ c.requires _ _ _ _ _ l.invariant c.loop-i-test.true
    (to_z-of_z {w = w32} (record { sfits = c.node-1.given }))
    (to_z-of_z {w = w32} (record { sfits = c.middle-1.given }))
    c.reached-after.ensures c.node_value.ensures _ c.in_err-row.was (search rules)

pub loop-i-preserved : goal.loop-i-preserved
loop-i-preserved c =
    let refilled = c.refill-known in
    let l = c.loop-i in
    stepped _ _ _ _ _ _ _ _ _ c.requires _ _ _ _ _ l.invariant c.loop-i-test.true
    (to_z-of_z {w = w32} (record { sfits = c.node-1.given }))
    (to_z-of_z {w = w32} (record { sfits = c.middle-1.given }))
    c.reached-after.ensures c.node_value.ensures (refilled.auto.es ∙ l.invariant.part) refilled.ensures c.in_ok-row.was

pub returns : goal.returns
returns c =
    let l = c.loop-i in
    done _ _ _ _ _ _ _ _ _ c.requires _ _ _ _ _ l.invariant c.loop-i-test.false
