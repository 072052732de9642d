-- `fit::weighted_sum` meets its contract. The invariant: what is left of the sum from node i on, at the total, is the whole sum. Assumes nothing.
use Rattle.std.specs.Prelude.{Ok, Err}
use Prim.Native.Nat.{ℕ, ◌+◌, ◌*◌, ◌≤◌, ◌<◌}
use mathlib.Core.Path.{◌≡◌, sym, ◌∙◌}
use mathlib.Core.Bool.{Bool}
use mathlib.Core.List.{List}
use native.Mathlib.Omega.{arith}
use borrow.Author.Rules.{rules}
use mir.Syntax.{w32}
use mir.Facts.{to_z-of_z}
use lib.ListN.{length, get_or}
use lib.IntN.{ℤ, pos}
use lib.Ieee.{Float, nan}
use Rattle.floats.specs.Refusals.{Refusal}
use Rattle.floats.specs.Answers.{Answer, plus_zero, follow}
use Rattle.lattice.specs.Layers.{node_float}
use Rattle.forwardinduction.specs.Fit.{weighted}
use Rattle.lattice.specs.laws.Stored.{numbers_in, row_of}
use Rattle.lattice.specs.laws.StoredAt.{row_from, row_from_lem, row_done}
use Rattle.lattice.specs.laws.Binds.{went_on, stopped_at}
use Rattle.forwardinduction.specs.laws.FitSteps.{weigh_one, weighted_more}
use Rattle.forwardinduction.specs.laws.Exps.{weight_argument, Kept, kept_more}
use Rattle.forwardinduction.proofs.fit.weighted_sum.Invariants.{At}
use Rattle.forwardinduction.proofs.fit.weighted_sum.Goals as goal

module _ (nodes : List ℤ) (row : List Float) (spacing dt : Float) (place : ℕ) where
  abbrev whole : Answer
  whole = weighted spacing dt place (row_of (numbers_in nodes) row) plus_zero

  abbrev argument : Float → Float
  argument = weight_argument spacing dt

  turn : (total : Float) (i : ℕ) → length nodes ≡ length row * 2 → i < length row → weighted spacing dt place (row_from nodes row i) total ≡ follow (weigh_one spacing dt place (node_float (get_or nodes (i * 2) (pos 0))) (get_or row i nan) total) λ t. weighted spacing dt place (row_from nodes row (i + 1)) t
  turn total i e h = rw (row_from_lem nodes row i e h) (weighted_more spacing dt place _ _ total)

  done : (total : Float) (i : ℕ) → length nodes ≡ length row * 2 → length row ≤ i → Ok total ≡ weighted spacing dt place (row_from nodes row i) total
  unfolding weighted
  done total i e h = rw (row_done nodes row i e h)

  -- at node i, with z its number as the code holds it
  module _ {es : List Float} {good : Bool} {total : Float} {i : ℕ} {s : Answer} {z : ℤ} (a : At nodes row spacing dt place es good total i) (e : length nodes ≡ length row * 2) (h : i < length row) (n : z ≡ get_or nodes (i * 2) (pos 0)) (w : s ≡ weigh_one spacing dt place (node_float z) (get_or row i nan) total) where
    stepped : {fs : List Float} {fine : Bool} {t : Float} → s ≡ Ok t → Kept argument nodes (length row) fine (i + 1) fs → At nodes row spacing dt place fs fine t (i + 1)
    stepped v k = record { within = omega arith; kept = k; left = sym (turn total i e h ∙ went_on _ _ (rw n at w) v) ∙ a.left }

    stopped : {r : Answer} {q : Refusal} → s ≡ Err q → r ≡ Err q → r ≡ whole
    stopped v k = k ∙ sym (turn total i e h ∙ stopped_at _ _ (rw n at w) v) ∙ a.left

pub returns-in_err-total : goal.returns-in_err-total
returns-in_err-total c =
    let number = to_z-of_z {w = w32} (record { sfits = c.node-1.given }) in
    let l = c.loop-i in
    let a = c.args in
    stopped a.nodes.now a.row.now a.spacing a.dt a.place l.invariant (search rules) (search rules) number c.weigh.ensures c.in_err-total.was (search rules)

pub loop-i-preserved : goal.loop-i-preserved
loop-i-preserved c =
    let number = to_z-of_z {w = w32} (record { sfits = c.node-1.given }) in
    let w = c.weights-good in
    let l = c.loop-i in
    let a = c.args in
    let kept = kept_more _ _ _ (w.auto.es ∙ l.invariant.kept.full) w.ensures in
    stepped a.nodes.now a.row.now a.spacing a.dt a.place l.invariant (search rules) (search rules) number c.weigh.ensures c.in_ok-total.was kept

pub returns : goal.returns
returns c =
    let l = c.loop-i in
    let a = c.args in
    done a.nodes.now a.row.now a.spacing a.dt a.place l.total l.i (search rules) c.loop-i-test.false ∙ l.invariant.left
