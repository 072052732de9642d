-- The fit by positions is the fit: over a next layer whose numbers climb, and whose places the replay finds, one layer's contributions are those of the definition. Assumes nothing.
use Rattle.std.specs.Prelude.{ℕ, ◌*◌, ◌≤◌, ◌≡◌, refl, Bool, ltb, length, get_or, take, ℤ, Ok}
use Rattle.std.proofs.Math.Path.{sym, ap}
use Rattle.std.proofs.Common.{◌∙◌, arith, length-set}
use Rattle.std.proofs.Math.Bool.{cond}
use mathlib.Core.List.{List, [], ◌∷◌}
use Rattle.std.proofs.Math.Seq.{take-length}
use Rattle.std.specs.Float.Ieee.{Float, binary64, add, mul}
use Rattle.std.specs.Float.{nan}
use Rattle.floats.specs.Answers.{not_finite, Outcome, follow, when_finite, refusal}
use Rattle.lattice.specs.declared.Transition.{Transition}
use Rattle.lattice.specs.declared.reach.Reach.{Reach}
use Rattle.lattice.specs.Layers.{At, node_float}
use Rattle.forwardinduction.specs.Fit.{contribute, contribute_three, onward}
use Rattle.terms.specs.laws.Outcomes.{Gives, gives, nothing, gives-follow, gives-finite, gives-cond}
use Rattle.lattice.specs.laws.Binds.{binds, follow-cond, follow-follow, follow-given, valued_same, follow_where}
use Rattle.lattice.specs.laws.Stored.{numbers_in, middles_in, made_of, transitions_in, row_of}
use Rattle.lattice.specs.laws.Reaching.{reach}
use Rattle.lattice.specs.laws.RisingMiddles.{Climbs}
use Rattle.lattice.specs.laws.Positions.{spot_at, past}
use Rattle.lattice.specs.laws.Spots.{Spot, Spots, after_three, Placed, all_placed, next_placed}
use Rattle.forwardinduction.specs.laws.Placing.{contribute_at, made_down, made-middle, made_up, made_first, made-second, made-third}
use Rattle.forwardinduction.specs.laws.FitSteps.{discounted_of, add_at, share_at, add_three, onward_at}
use Rattle.floats.specs.declared.Reason.TheVariants as reason

-- ---- lengths are kept

abbrev Long : List Float → List Float → Type 0
Long out o = length o ≡ length out

add-length : (place p c : ℕ) (x : Float) (out : List Float) → Gives (Long out) (add_at place p c x out)
unfolding add_at
add-length place p c x out =
    gives-cond (ltb p c) _ _ (gives-finite (add binary64 (get_or out p nan) x) _ _ (λ h. gives (length-set out p _))) (gives (length-set out p x))

share-length : (place p c : ℕ) (price pr : Float) (out : List Float) → Gives (Long out) (share_at place p c price pr out)
unfolding share_at
share-length place p c price pr out = gives-finite (mul binary64 price pr) _ _ (λ h. add-length place p c _ out)

three_length : (place : ℕ) (flat : Bool) (c count : ℕ) (price d m u : Float) (out : List Float) → Gives (Long out) (add_three place flat c count price d m u out)
unfolding add_three
three_length place flat c count price d m u out =
    let p3 : ℕ = spot_at flat count 3 in
    let p2 : ℕ = spot_at flat count 2 in
    let p1 : ℕ = spot_at flat count 1 in
    let last : List Float → Outcome (List Float) = λ b. share_at place p1 (past (past c p3) p2) price u b in
    gives-follow (share_at place p3 c price d out) (λ a. follow (share_at place p2 (past c p3) price m a) last) (share-length place p3 c price d out)
    (λ a la. gives-follow (share_at place p2 (past c p3) price m a) last (share-length place p2 (past c p3) price m a)
    (λ b lb. longer b (share-length place p1 (past (past c p3) p2) price u b) (lb ∙ la)))
  where
    longer : (b : List Float) {o : Outcome (List Float)} → Gives (Long b) o → length b ≡ length out → Gives (Long out) o
    longer b (gives p) e = gives (p ∙ e)
    longer b nothing e = nothing

-- ---- contributions

module _ {t : ℤ} {ns : List ℤ} (climbs : Climbs t ns) (place : ℕ) (price : Float) where
  -- the last of a node's contributions
  share_last : {c p : ℕ} {n : ℤ} (pr : Float) (out : List Float) → Spot ns c p n → length ns ≤ length out → when_finite (mul binary64 price pr) place (λ x. contribute place n x (row_of (take c ns) out)) ≡ follow (share_at place p c price pr out) λ o. Ok (row_of (take (past c p) ns) o)
  unfolding share_at
  share_last {c} {p} {n} pr out s l =
      let x : Float = mul binary64 price pr in
      let g : List Float → Outcome (List At) = λ o. Ok (row_of (take (past c p) ns) o) in
      let inner : contribute place n x (row_of (take c ns) out) ≡ follow (add_at place p c x out) g =
      ap (λ (z : ℤ). contribute place z x (row_of (take c ns) out)) (sym s.number) ∙ contribute_at place x climbs p c out s.reached s.inside l in
      ap (λ (z : Outcome (List At)). cond (not_finite x) (refusal reason.NotFinite place) z) inner
      ∙ sym (follow-cond g (not_finite x) reason.NotFinite place (add_at place p c x out) (follow (add_at place p c x out) g) refl)

  -- one that others follow
  share_then : {c p : ℕ} {n : ℤ} (pr : Float) (out : List Float) → Spot ns c p n → length ns ≤ length out → (k : List At → Outcome (List At)) → when_finite (mul binary64 price pr) place (λ x. follow (contribute place n x (row_of (take c ns) out)) k) ≡ follow (share_at place p c price pr out) λ o. k (row_of (take (past c p) ns) o)
  share_then {c} {p} {n} pr out s l k =
      let x : Float = mul binary64 price pr in
      sym (follow-cond k (not_finite x) reason.NotFinite place (contribute place n x (row_of (take c ns) out)) (follow (contribute place n x (row_of (take c ns) out)) k) refl)
      ∙ ap (λ (z : Outcome (List At)). follow z k) (share_last pr out s l)
      ∙ follow-follow k (share_at place p c price pr out) _ (λ o. k (row_of (take (past c p) ns) o)) (λ o. follow-given k _)

  three_of : {c a b e : ℕ} {nd nm nu : ℤ} (pd pm pu : Float) (out : List Float)
      → Spot ns c a nd → Spot ns (past c a) b nm → Spot ns (past (past c a) b) e nu → length ns ≤ length out
      → when_finite (mul binary64 price pd) place (λ x. follow (contribute place nd x (row_of (take c ns) out)) λ row. when_finite (mul binary64 price pm) place λ y. follow (contribute place nm y row) λ row. when_finite (mul binary64 price pu) place λ z. contribute place nu z row)
      ≡ follow (share_at place a c price pd out) λ o. follow (share_at place b (past c a) price pm o) λ o. follow (share_at place e (past (past c a) b) price pu o) λ o. Ok (row_of (take (past (past (past c a) b) e) ns) o)
  three_of {c} {a} {b} {e} {nd} {nm} {nu} pd pm pu out low mid high l =
      let k2 : List At → Outcome (List At) = λ row. when_finite (mul binary64 price pu) place λ z. contribute place nu z row in
      let k1 : List At → Outcome (List At) = λ row. when_finite (mul binary64 price pm) place λ y. follow (contribute place nm y row) k2 in
      share_then pd out low l k1
      ∙ follow_where _ _ (share-length place a c price pd out)
      (λ o lo.
      let m : length ns ≤ length o = omega arith in
      share_then pm o mid m k2
      ∙ follow_where _ _ (share-length place b (past c a) price pm o) (λ q lq. let w : length ns ≤ length q = omega arith in share_last pu q high w))

  -- a node's three contributions
  three_at : {flat : Bool} {c count : ℕ} {m : ℤ} (d p u : Float) (out : List Float) → Spots ns flat c count m → length ns ≤ length out → contribute_three place (made_of flat m d p u) price (row_of (take c ns) out) ≡ follow (add_three place flat c count price d p u out) λ o. Ok (row_of (take (after_three flat c count) ns) o)
  unfolding add_three
  three_at {flat} {c} {count} {m} d p u out s l =
      let g : List Float → Outcome (List At) = λ o. Ok (row_of (take (after_three flat c count) ns) o) in
      rw (made_down flat m d p u, made-middle flat m d p u, made_up flat m d p u, made_first flat m d p u, made-second flat m d p u, made-third flat m d p u)
      (three_of d p u out s.low s.mid s.high l
      ∙ sym (follow-follow g (share_at place (spot_at flat count 3) c price d out) _ _ (λ o. follow-follow g (share_at place (spot_at flat count 2) (past c (spot_at flat count 3)) price p o) _ _ (λ q. refl))))

-- ---- one layer

-- The first node, then the others.
onward_more : (spacing dt shift : Float) (place : ℕ) (t : Transition) (ts : List Transition) (a : At) (row next : List At)
    → follow (discounted_of spacing dt shift place (node_float a.node) a.value) (λ price. follow (contribute_three place t price next) λ next. onward spacing dt shift place ts row next) ≡ onward spacing dt shift place (t ∷ ts) (a ∷ row) next
unfolding onward discounted_of
onward_more spacing dt shift place t ts a row next = search binds depth 12

onward-none : (spacing dt shift : Float) (place : ℕ) (row next : List At) → onward spacing dt shift place [] row next ≡ Ok next
unfolding onward
onward-none spacing dt shift place row next = refl

module _ {t : ℤ} {ns : List ℤ} (climbs : Climbs t ns) (flat : Bool) (spacing dt shift : Float) (place : ℕ) where
  abbrev laid_out : List Float → Outcome (List At)
  laid_out o = Ok (row_of ns o)

  -- The next row holds the values of the definition's, in order.
  pub onward_at_lem : (r : Reach) (c : ℕ) (nodes : List ℤ) (probabilities row out : List Float) → Placed ns flat r c (middles_in nodes) → length nodes ≡ length row * 2 → length probabilities ≡ length row * 3 → length ns ≤ length out → onward spacing dt shift place (transitions_in flat nodes probabilities) (row_of (numbers_in nodes) row) (row_of (take c ns) out) ≡ follow (onward_at spacing dt shift place flat r nodes probabilities row out) laid_out
  unfolding onward_at transitions_in row_of numbers_in middles_in
  onward_at_lem r c [] ps row out (all_placed e) a b l =
      onward-none spacing dt shift place _ _ ∙ rw (e, take-length ns) (sym (follow-given laid_out out))
  onward_at_lem r c (n ∷ []) ps row out q a b l = absurd (omega arith)
  onward_at_lem r c (n ∷ m ∷ nodes) ps [] out q a b l = absurd (omega arith)
  onward_at_lem r c (n ∷ m ∷ nodes) [] (x ∷ row) out q a b l = absurd (omega arith)
  onward_at_lem r c (n ∷ m ∷ nodes) (d ∷ []) (x ∷ row) out q a b l = absurd (omega arith)
  onward_at_lem r c (n ∷ m ∷ nodes) (d ∷ p ∷ []) (x ∷ row) out q a b l = absurd (omega arith)
  onward_at_lem r c (n ∷ m ∷ nodes) (d ∷ p ∷ u ∷ ps) (x ∷ row) out (next_placed e s rest) a b l =
      let after : Reach = reach r m in
      let ko : List At → Outcome (List At) = λ nx. onward spacing dt shift place (transitions_in flat nodes ps) (row_of (numbers_in nodes) row) nx in
      let ka : List Float → Outcome (List Float) = λ o. onward_at spacing dt shift place flat after nodes ps row o in
      let three : Float → Outcome (List Float) = λ price. add_three place flat r.count after.count price d p u out in
      sym (onward_more spacing dt shift place (made_of flat m d p u) (transitions_in flat nodes ps) (record { node = n; value = x }) (row_of (numbers_in nodes) row) (row_of (take c ns) out))
      ∙ valued_same (discounted_of spacing dt shift place (node_float n) x) _ (λ price. follow (follow (three price) ka) laid_out)
      (λ price.
      rw (← e)
      (ap (λ (z : Outcome (List At)). follow z ko) (three_at climbs place price d p u out s l)
      ∙ follow-follow ko (three price) _ (λ o. ko (row_of (take (after_three flat r.count after.count) ns) o)) (λ o. follow-given ko _)
      ∙ follow_where _ _ (three_length place flat r.count after.count price d p u out)
      (λ o lo. onward_at_lem after _ nodes ps row o rest (omega arith) (omega arith) (omega arith))
      ∙ sym (follow-follow laid_out (three price) ka _ (λ o. refl))))
      ∙ sym (follow-follow laid_out (discounted_of spacing dt shift place (node_float n) x) _ _ (λ price. refl))
