-- The walk by positions is the walk: over a next layer whose numbers climb, and whose places the replay finds, one layer's values are those of the definition. Assumes nothing.
use Rattle.std.specs.Prelude.{ℕ, ◌+◌, ◌-◌, ◌*◌, ◌≤◌, ◌<◌, ◌≡◌, refl, Bool, set, drop, ℤ, Ok}
use Rattle.std.proofs.Math.Path.{sym, ap}
use Rattle.std.proofs.Common.{◌∙◌, arith, get_or-set_other}
use mathlib.Core.List.{List, [], ◌∷◌}
use Rattle.std.proofs.Math.ListN.{length, get_or, length-set}
use Rattle.std.proofs.Math.Seq.{get_or-set_same}
use Rattle.std.specs.Float.Ieee.{Float, nan}
use Rattle.floats.specs.Answers.{Outcome, follow}
use Rattle.bondevents.specs.declared.CallStep.{CallStep}
use Rattle.lattice.specs.declared.reach.Reach.{Reach}
use Rattle.backwardinduction.specs.declared.walk.Rates.{Rates}
use Rattle.lattice.specs.Layers.{At, value_at, node_float}
use Rattle.backwardinduction.specs.Walk.{Reads, node_value, rolled}
use Rattle.terms.specs.laws.Outcomes.{Gives, gives, nothing, gives-valued}
use Rattle.lattice.specs.laws.Binds.{follow-follow, follow-given, valued_same, follow_where}
use Rattle.lattice.specs.laws.Stored.{numbers_in, middles_in, made_of, transitions_in, row_of}
use Rattle.lattice.specs.laws.StoredAt.{drop_one}
use Rattle.lattice.specs.laws.Reaching.{reach}
use Rattle.lattice.specs.laws.RisingMiddles.{Climbs}
use Rattle.lattice.specs.laws.Spots.{Spot, Spots, Placed, next_placed}
use Rattle.forwardinduction.specs.laws.Placing.{value_at_lem, made_down, made-middle, made_up, made_first, made-second, made-third}
use Rattle.backwardinduction.specs.laws.WalkSteps.{sum_of, discount_with, worth_of, value_with, rolled_at}

-- What a step reads, from the code's rates.
abbrev pub reads_of : Rates → CallStep → Float → Reads
reads_of rates call cashflow =
    record {
      spacing = rates.spacing;
      dt = rates.dt;
      shift = rates.shift;
      spread = rates.spread;
      call = call;
      cashflow = cashflow;
    }

-- ---- one node

spot-value : {t : ℤ} {ns : List ℤ} → Climbs t ns → {c p : ℕ} {n : ℤ} (vs : List Float) → Spot ns c p n → length ns ≤ length vs → value_at n (row_of ns vs) ≡ get_or vs p nan
spot-value {ns = ns} climbs {p = p} vs s l = ap (λ (z : ℤ). value_at z (row_of ns vs)) (sym s.number) ∙ value_at_lem climbs p vs s.inside l

node_at_lem : {t : ℤ} {ns : List ℤ} → Climbs t ns → (rates : Rates) (call : CallStep) (cashflow : Float) (place : ℕ) (flat : Bool) {c count : ℕ} {m : ℤ} (n : ℤ) (d p u : Float) (vs : List Float) → Spots ns flat c count m → length ns ≤ length vs → node_value (reads_of rates call cashflow) n (made_of flat m d p u) (row_of ns vs) place ≡ value_with rates call cashflow place flat count (node_float n) d p u vs
unfolding node_value value_with sum_of discount_with worth_of
node_at_lem climbs rates call cashflow place flat {m = m} n d p u vs s l =
    let a = spot-value climbs vs s.low l in
    let b = spot-value climbs vs s.mid l in
    let e = spot-value climbs vs s.high l in
    rw (made_down flat m d p u, made-middle flat m d p u, made_up flat m d p u, made_first flat m d p u, made-second flat m d p u, made-third flat m d p u, a, b, e)

-- ---- one layer

-- Values before i are kept, and the length.
record Kept (i : ℕ) (out o : List Float) : Type 0 where
  long : length o ≡ length out
  before : (j : ℕ) → j < i → get_or o j nan ≡ get_or out j nan

module _ (rates : Rates) (call : CallStep) (cashflow : Float) (place : ℕ) (flat : Bool) (vs : List Float) where
  kept_set : (i : ℕ) (v : Float) (out : List Float) {o : Outcome (List Float)} → Gives (Kept (i + 1) (set out i v)) o → Gives (Kept i out) o
  kept_set i v out (gives k) =
      gives (record { long = k.long ∙ length-set out i v; before = λ j h. k.before j (omega arith) ∙ get_or-set_other out i j v nan (λ e. omega arith) })
  kept_set i v out nothing = nothing

  same_kept : (i : ℕ) (out : List Float) → Kept i out out
  same_kept i out = record { long = refl; before = λ j h. refl }

  rolled-kept : (r : Reach) (i : ℕ) (nodes : List ℤ) (ps out : List Float) → Gives (Kept i out) (rolled_at rates call cashflow place flat vs r i nodes ps out)
  unfolding rolled_at
  rolled-kept r i [] ps out = gives (same_kept i out)
  rolled-kept r i (n ∷ []) ps out = gives (same_kept i out)
  rolled-kept r i (n ∷ m ∷ nodes) [] out = gives (same_kept i out)
  rolled-kept r i (n ∷ m ∷ nodes) (d ∷ []) out = gives (same_kept i out)
  rolled-kept r i (n ∷ m ∷ nodes) (d ∷ p ∷ []) out = gives (same_kept i out)
  rolled-kept r i (n ∷ m ∷ nodes) (d ∷ p ∷ u ∷ ps) out =
      gives-valued (value_with rates call cashflow place flat (reach r m).count (node_float n) d p u vs)
      (λ v. rolled_at rates call cashflow place flat vs (reach r m) (i + 1) nodes ps (set out i v))
      (λ v. kept_set i v out (rolled-kept (reach r m) (i + 1) nodes ps (set out i v)))

  module _ {t : ℤ} {ns : List ℤ} (climbs : Climbs t ns) (enough : length ns ≤ length vs) where
    -- The row holds the values of the definition's, in order.
    pub rolled_at_lem : (r : Reach) (c : ℕ) (k i : ℕ) (nodes : List ℤ) (ps out : List Float) → Placed ns flat r c (middles_in nodes) → length nodes ≡ k * 2 → length ps ≡ k * 3 → i + k ≤ length out → rolled (reads_of rates call cashflow) (numbers_in nodes) (transitions_in flat nodes ps) (row_of ns vs) place ≡ follow (rolled_at rates call cashflow place flat vs r i nodes ps out) λ o. Ok (row_of (numbers_in nodes) (drop i o))
    unfolding rolled rolled_at transitions_in row_of numbers_in middles_in
    rolled_at_lem r c k i [] ps out q a b l = sym (follow-given (λ (o : List Float). Ok (row_of [] (drop i o))) out)
    rolled_at_lem r c k i (n ∷ []) ps out q a b l = absurd (omega arith)
    rolled_at_lem r c k i (n ∷ m ∷ nodes) [] out q a b l = absurd (omega arith)
    rolled_at_lem r c k i (n ∷ m ∷ nodes) (d ∷ []) out q a b l = absurd (omega arith)
    rolled_at_lem r c k i (n ∷ m ∷ nodes) (d ∷ p ∷ []) out q a b l = absurd (omega arith)
    rolled_at_lem r c k i (n ∷ m ∷ nodes) (d ∷ p ∷ u ∷ ps) out (next_placed e s rest) a b l =
        let after : Reach = reach r m in
        let last : List Float → Outcome (List At) = λ o. Ok (row_of (n ∷ numbers_in nodes) (drop i o)) in
        let behind : Float → Outcome (List Float) = λ v. rolled_at rates call cashflow place flat vs after (i + 1) nodes ps (set out i v) in
        let add : Float → List At → Outcome (List At) = λ v row. Ok (record { node = n; value = v } ∷ row) in
        rw (node_at_lem climbs rates call cashflow place flat n d p u vs s enough)
        (valued_same (value_with rates call cashflow place flat after.count (node_float n) d p u vs) _ (λ v. follow (behind v) last)
        (λ v.
        ap (λ (z : Outcome (List At)). follow z (add v)) (rolled_at_lem after _ (k - 1) (i + 1) nodes ps (set out i v) rest (omega arith) (omega arith) (simp length-set (omega arith)))
        ∙ follow-follow (add v) (behind v) _ (λ o. add v (row_of (numbers_in nodes) (drop (i + 1) o))) (λ o. follow-given (add v) _)
        ∙ follow_where _ _ (rolled-kept after (i + 1) nodes ps (set out i v)) (λ o w. ap Ok (front v o w)))
        ∙ sym (follow-follow last (value_with rates call cashflow place flat after.count (node_float n) d p u vs) _ _ (λ v. refl)))
      where
        front : (v : Float) (o : List Float) → Kept (i + 1) (set out i v) o → (record { node = n; value = v } ∷ row_of (numbers_in nodes) (drop (i + 1) o)) ≡ row_of (n ∷ numbers_in nodes) (drop i o)
        front v o w =
            let h : i < length o = omega (arith, w.long, length-set out i v) in
            let f : i < length out = omega (arith, w.long, length-set out i v) in
            let g : get_or o i nan ≡ v = w.before i (omega arith) ∙ get_or-set_same out i v nan f in
            rw (drop_one o nan i h, g)
