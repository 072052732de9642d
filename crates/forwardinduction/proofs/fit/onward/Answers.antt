-- `fit::onward` meets its contract. The invariant: what is left from node i on, over the row as it is, is the whole, and the exps of the part that i stands in are kept. Assumes nothing.
use Rattle.std.specs.Prelude.{Ok, Err}
use Prim.Native.Nat.{ℕ, ◌+◌, ◌*◌, ◌≤◌, ◌<◌}
use mathlib.Core.Path.{◌≡◌, refl, sym, ◌∙◌}
use mathlib.Core.Bool.{Bool, false}
use mathlib.Core.List.{List}
use native.Mathlib.Omega.{arith}
use borrow.Author.Rules.{rules}
use mir.Syntax.{w32}
use mir.Facts.{to_z-of_z}
use lib.ListN.{length, get_or, drop, drop_of_length-le}
use lib.IntN.{ℤ, pos}
use lib.Ieee.{Float, nan}
use Rattle.floats.specs.Refusals.{Refusal}
use Rattle.floats.specs.Answers.{Answer, Check, Outcome, follow, outcome_of}
use Rattle.lattice.specs.declared.reach.Reach.{Reach}
use Rattle.lattice.specs.Layers.{node_float}
use Rattle.lattice.specs.laws.Stored.{middles_in}
use Rattle.lattice.specs.laws.StoredAt.{drop_one, drop_two, drop_three, middles_from_lem}
use Rattle.lattice.specs.laws.Bounds.{Within}
use Rattle.lattice.specs.laws.Reaching.{reach, nothing_below}
use Rattle.lattice.specs.laws.Positions.{start_of, Layered, Held, roomy_next}
use Rattle.lattice.specs.laws.Binds.{went_on, stopped_at}
use Rattle.forwardinduction.specs.laws.FitSteps.{discounted_of, add_three, onward_at}
use Rattle.forwardinduction.specs.laws.Exps.{rate_argument, Kept, kept-none, kept_more}
use Rattle.floats.proofs.Lent.{passes, refuses-call, followed, halted}
use Rattle.forwardinduction.proofs.fit.onward.Invariants.{At}
use Rattle.forwardinduction.proofs.fit.onward.Goals as goal

module _ (nodes : List ℤ) (probabilities row next₀ : List Float) (flat : Bool) (spacing dt shift : Float) (place : ℕ) where
  abbrev whole : Outcome (List Float)
  whole = onward_at spacing dt shift place flat (start_of nodes) nodes probabilities row next₀

  abbrev from : Reach → ℕ → List Float → Outcome (List Float)
  from r i next = onward_at spacing dt shift place flat r (drop (i * 2) nodes) (drop (i * 3) probabilities) (drop i row) next

  module _ (l : Layered flat (length next₀) nodes probabilities (length row)) where
    start : {r : Reach} {z : ℤ} (es : List Float) → length es ≡ 64 → z ≡ get_or nodes 1 (pos 0) → r ≡ nothing_below z → At nodes probabilities row next₀ flat spacing dt shift place next₀ es false r 0
    start es k e f =
        rw (f, e) (record { within = omega arith; same = refl; room = l.roomy; kept = kept-none _ _ _ _ _ k; left = refl })

    first : {z : ℤ} → z ≡ get_or nodes 1 (pos 0) → Within z
    first e = let b : 0 * 2 + 1 < length nodes = omega (arith, l.pairs, l.some-node) in rw e (roomy_next (rw (middles_from_lem nodes 0 b) at l.roomy)).within

module _ {nodes : List ℤ} {probabilities row next₀ next es : List Float} {flat good : Bool} {spacing dt shift : Float} {place i : ℕ} {r : Reach}
    (a : At nodes probabilities row next₀ flat spacing dt shift place next es good r i) (l : Layered flat (length next₀) nodes probabilities (length row)) where
  abbrev all : Outcome (List Float)
  all = whole nodes probabilities row next₀ flat spacing dt shift place

  abbrev onwards : Reach → ℕ → List Float → Outcome (List Float)
  onwards = from nodes probabilities row next₀ flat spacing dt shift place

  done : length row ≤ i → outcome_of (Ok tt) next ≡ all
  unfolding onward_at
  done h =
      let b : length nodes ≤ i * 2 = omega (arith, l.pairs) in
      passes next ∙ rw (drop_of_length-le nodes b) at a.left

  module _ (h : i < length row) where
    abbrev number : ℤ
    number = get_or nodes (i * 2) (pos 0)

    abbrev middle : ℤ
    middle = get_or nodes (i * 2 + 1) (pos 0)

    held : {z : ℤ} → z ≡ middle → Held flat (length next₀) r z (middles_in (drop ((i + 1) * 2) nodes))
    held e = let b : i * 2 + 1 < length nodes = omega (arith, l.pairs) in rw e (roomy_next (rw (middles_from_lem nodes i b) at a.room))

    three : Float → Outcome (List Float)
    three price = add_three place flat r.count (reach r middle).count price (get_or probabilities (i * 3) nan) (get_or probabilities (i * 3 + 1) nan) (get_or probabilities (i * 3 + 2) nan) next

    turn : onwards r i next ≡ follow (discounted_of spacing dt shift place (node_float number) (get_or row i nan)) λ price. follow (three price) λ out. onwards (reach r middle) (i + 1) out
    unfolding onward_at three
    turn =
        let b : i * 2 + 1 < length nodes = omega (arith, l.pairs) in
        let d : i * 3 + 2 < length probabilities = omega (arith, l.threes) in
        rw (drop_two nodes (pos 0) i b, drop_three probabilities nan i d, drop_one row nan i h)

    module _ {s : Answer} {z : ℤ} (n : z ≡ number) (w : s ≡ discounted_of spacing dt shift place (node_float z) (get_or row i nan)) where
      price-stopped : {q : Refusal} (x : List Float) {t : Check} → s ≡ Err q → t ≡ Err q → outcome_of t x ≡ all
      price-stopped x v u = refuses-call x u ∙ sym (turn ∙ stopped_at _ _ (rw n at w) v) ∙ a.left

      module _ {price : Float} (v : s ≡ Ok price) {m : ℤ} (g : m ≡ middle) {after : Reach} (k : after ≡ reach r m) where
        here : onwards r i next ≡ follow (three price) λ out. onwards (reach r middle) (i + 1) out
        here = turn ∙ went_on _ _ (rw n at w) v

        abbrev added : Outcome (List Float)
        added = add_three place flat r.count after.count price (get_or probabilities (i * 3) nan) (get_or probabilities (i * 3 + 1) nan) (get_or probabilities (i * 3 + 2) nan) next

        row-stopped : {t r : Check} {q : Refusal} (x : List Float) → outcome_of t x ≡ added → t ≡ Err q → r ≡ Err q → outcome_of r x ≡ all
        unfolding three
        row-stopped x o u v = refuses-call x v ∙ halted x Err _ (rw (k, g) at o) u refl ∙ sym here ∙ a.left

        stepped : {t : Check} {fs : List Float} {fine : Bool} (x : List Float) → outcome_of t x ≡ added → t ≡ Ok tt → length x ≡ length next → Kept (rate_argument spacing dt shift) nodes (length row) fine (i + 1) fs
            → At nodes probabilities row next₀ flat spacing dt shift place x fs fine after (i + 1)
        unfolding three
        stepped x o u lx ready =
            rw (k, g)
            (record {
              within = omega arith;
              same = lx ∙ a.same;
              room = (held refl).rest;
              kept = ready;
              left = followed Err _ (rw (k, g) at o) u refl ∙ sym here ∙ a.left;
            })

pub nothing_below-r-requires : goal.nothing_below-r-requires
nothing_below-r-requires c =
    let a = c.args in
    first a.nodes.now a.probabilities.now a.row.now a.next.now a.flat a.spacing a.dt a.shift a.place c.requires (to_z-of_z {w = w32} (record { sfits = c.nothing_below-arg-1.given }))

pub reached-after-requires : goal.reached-after-requires
reached-after-requires c =
    let middle = to_z-of_z {w = w32} (record { sfits = c.middle-1.given }) in
    let h = held c.loop-i.invariant c.requires c.loop-i-test.true middle in
    (omega (arith, h.counted, c.well_formed), h.within)

pub returns-in_err-price : goal.returns-in_err-price
returns-in_err-price c =
    let number = to_z-of_z {w = w32} (record { sfits = c.node-1.given }) in
    price-stopped c.loop-i.invariant c.requires c.loop-i-test.true number c.discounted.ensures _ c.in_err-price.was (search rules)

pub add_three-requires : goal.add_three-requires
add_three-requires c =
    let middle = to_z-of_z {w = w32} (record { sfits = c.middle-1.given }) in
    let l = c.loop-i in
    let h = held l.invariant c.requires c.loop-i-test.true middle in
    rw c.reached-after.ensures (h.three, rw l.invariant.same h.spot)

pub returns-in_err-add_three : goal.returns-in_err-add_three
returns-in_err-add_three c =
    let number = to_z-of_z {w = w32} (record { sfits = c.node-1.given }) in
    let middle = to_z-of_z {w = w32} (record { sfits = c.middle-1.given }) in
    row-stopped c.loop-i.invariant c.requires c.loop-i-test.true number c.discounted.ensures c.in_ok-price.was middle c.reached-after.ensures _ c.add_three.ensures c.in_err-add_three.was (search rules)

pub loop-i-preserved : goal.loop-i-preserved
loop-i-preserved c =
    let number = to_z-of_z {w = w32} (record { sfits = c.node-1.given }) in
    let middle = to_z-of_z {w = w32} (record { sfits = c.middle-1.given }) in
    let price = c.discounted.ensures in
    let value = c.in_ok-price.was in
    let taken = c.loop-i-test.true in
    let l = c.loop-i in
    let exps = c.discounts-good in
    let kept = kept_more _ _ _ (exps.auto.es ∙ l.invariant.kept.full) exps.ensures in
    let added = c.add_three in
    stepped l.invariant c.requires taken number price value middle c.reached-after.ensures _ added.ensures c.in_ok-add_three.was added.auto.next kept

pub returns : goal.returns
returns c =
    done c.loop-i.invariant c.requires c.loop-i-test.false
