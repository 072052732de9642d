-- Node numbers and positions: in a layer whose numbers climb, what a row has at a node is what it has at the node's position, and a contribution to the node goes there. Assumes nothing.
use Rattle.std.specs.Prelude.{ℕ, zero, suc, ◌+◌, ◌≤◌, ◌<◌, ◌≡◌, Bool, true, false, not, List, [], ◌∷◌, T, ltb, length, get_or, set, take, ℤ, pos, negsuc, Float, Ok}
use Rattle.std.proofs.Math.Path.{refl}
use Rattle.std.proofs.Common.{sym, ◌∙◌, arith, lt-ltb, ltb→lt, lt→ltb}
use Rattle.std.proofs.Math.Bool.{cond}
use Rattle.std.proofs.Math.Dec.{leb-suc-suc}
use Rattle.std.proofs.Math.IntN.{pred_ℤ, suc_ℤ}
use Rattle.std.specs.Float.{binary64, nan}
use Rattle.std.specs.Float.Ieee.{add}
use Rattle.std.specs.Float.Ieee.Scale.{finite}
use Rattle.floats.specs.Answers.{not_finite, follow, on_outcome, refusal}
use Rattle.lattice.specs.Layers.{below, value_at}
use Rattle.forwardinduction.specs.Fit.{contribute}
use Rattle.lattice.specs.laws.IntegerOrder.{below_self, below_asym}
use Rattle.lattice.specs.laws.RisingMiddles.{Climbs, none, above}
use Rattle.lattice.specs.laws.Stored.{row_of, made_of}
use Rattle.lattice.specs.laws.Binds.{follow-cond, follow-follow, follow-given}
use Rattle.lattice.specs.laws.Positions.{past}
use Rattle.forwardinduction.specs.laws.FitSteps.{add_at}
use Rattle.floats.specs.declared.Reason.TheVariants as reason

-- ---- the order of numbers

below_trans : (a b c : ℤ) → T (below a b) → T (below b c) → T (below a c)
below_trans (pos a) (pos b) (pos c) p q = let x = ltb→lt a b p in let y = ltb→lt b c q in lt→ltb a c (omega arith)
below_trans (pos a) (pos b) (negsuc c) p q = absurd q
below_trans (pos a) (negsuc b) c p q = absurd p
below_trans (negsuc a) (pos b) (pos c) p q = tt
below_trans (negsuc a) (pos b) (negsuc c) p q = absurd q
below_trans (negsuc a) (negsuc b) (pos c) p q = tt
below_trans (negsuc a) (negsuc b) (negsuc c) p q = let x = ltb→lt b a p in let y = ltb→lt c b q in lt→ltb c a (omega arith)

T_true : (b : Bool) → T b → b ≡ true
T_true true t = refl
T_true false t = absurd t

-- every number of a layer lies above what it climbs from
pub climbs_at : {t : ℤ} {ns : List ℤ} → Climbs t ns → (p : ℕ) → p < length ns → T (below t (get_or ns p (pos 0)))
climbs_at none p h = absurd (omega arith)
climbs_at (above b c) zero h = b
climbs_at {t = t} (above {x = x} {xs = xs} b c) (suc p) h = below_trans t x (get_or xs p (pos 0)) b (climbs_at c p (omega arith))

-- ---- reading

pub value_at_lem : {t : ℤ} {ns : List ℤ} → Climbs t ns → (p : ℕ) (vs : List Float) → p < length ns → length ns ≤ length vs → value_at (get_or ns p (pos 0)) (row_of ns vs) ≡ get_or vs p nan
unfolding value_at row_of
value_at_lem none p vs h l = absurd (omega arith)
value_at_lem (above b c) p [] h l = absurd (omega arith)
value_at_lem (above {x = x} b c) zero (v ∷ vs) h l = rw (below_self x)
value_at_lem (above {x = x} {xs = xs} b c) (suc p) (v ∷ vs) h l =
    let k : p < length xs = omega arith in
    let e : below x (get_or xs p (pos 0)) ≡ true = T_true _ (climbs_at c p k) in
    rw e (value_at_lem c p vs k (omega arith))

-- ---- contributing

add-suc : (place p c : ℕ) (x o : Float) (out : List Float) → add_at place (suc p) (suc c) x (o ∷ out) ≡ follow (add_at place p c x out) λ rest. Ok (o ∷ rest)
unfolding add_at on_outcome
add-suc place p c x o out = rw (leb-suc-suc (suc p) c) (go (ltb p c) (finite (add binary64 (get_or out p nan) x)))
  where
    go : (b f : Bool)
        → cond b (cond (not f) (refusal reason.NotFinite place) (Ok (o ∷ set out p (add binary64 (get_or out p nan) x)))) (Ok (o ∷ set out p x))
        ≡ follow (cond b (cond (not f) (refusal reason.NotFinite place) (Ok (set out p (add binary64 (get_or out p nan) x)))) (Ok (set out p x))) λ rest. Ok (o ∷ rest)
    go true true = refl
    go true false = refl
    go false f = refl

add-first : (place : ℕ) (x o : Float) (out : List Float) → add_at place 0 0 x (o ∷ out) ≡ Ok (x ∷ out)
unfolding add_at
add-first place x o out = refl

add_again : (place c : ℕ) (x o : Float) (out : List Float) → add_at place 0 (suc c) x (o ∷ out) ≡ cond (not_finite (add binary64 o x)) (refusal reason.NotFinite place) (Ok (add binary64 o x ∷ out))
unfolding add_at
add_again place c x o out = rw (lt-ltb 0 (suc c) (omega arith))

past-suc : (c p : ℕ) → past (suc c) (suc p) ≡ suc (past c p)
past-suc c p = rw (leb-suc-suc (suc p) c) (go (ltb p c))
  where
    go : (b : Bool) → cond b (suc c) (suc p + 1) ≡ suc (cond b c (p + 1))
    go true = refl
    go false = omega arith

-- The row so far has the first c numbers; a contribution goes to a position among them, or to the next.
pub contribute_at : (place : ℕ) (x : Float) {t : ℤ} {ns : List ℤ} → Climbs t ns → (p c : ℕ) (out : List Float) → p ≤ c → p < length ns → length ns ≤ length out → contribute place (get_or ns p (pos 0)) x (row_of (take c ns) out) ≡ follow (add_at place p c x out) λ o. Ok (row_of (take (past c p) ns) o)
unfolding contribute row_of
contribute_at place x none p c out a b l = absurd (omega arith)
contribute_at place x (above g r) p c [] a b l = absurd (omega arith)
contribute_at place x (above {x = n} {xs = ns} g r) zero zero (o ∷ out) a b l = rw (add-first place x o out) (sym (follow-given (λ z. Ok (row_of (take 1 (n ∷ ns)) z)) (x ∷ out)))
contribute_at place x (above {x = n} {xs = ns} g r) zero (suc c) (o ∷ out) a b l =
    let e : ltb 0 (suc c) ≡ true = lt-ltb 0 (suc c) (omega arith) in
    rw (below_self n, add_again place c x o out, e)
    (sym (follow-cond (λ z. Ok (row_of (take (suc c) (n ∷ ns)) z)) (not_finite (add binary64 o x)) reason.NotFinite place (Ok (add binary64 o x ∷ out)) _ (follow-given (λ z. Ok (row_of (take (suc c) (n ∷ ns)) z)) (add binary64 o x ∷ out))))
contribute_at place x (above g r) (suc p) zero (o ∷ out) a b l = absurd (omega arith)
contribute_at place x (above {x = n} {xs = ns} g r) (suc p) (suc c) (o ∷ out) a b l =
    let k : p < length ns = omega arith in
    let t : below n (get_or ns p (pos 0)) ≡ true = T_true _ (climbs_at r p k) in
    rw (t, below_asym n (get_or ns p (pos 0)) t, contribute_at place x r p c out (omega arith) k (omega arith), add-suc place p c x o out, past-suc c p)
    (follow-follow (λ row. Ok (record { node = n; value = o } ∷ row)) (add_at place p c x out) _ _ (λ z. follow-given _ _)
    ∙ sym (follow-follow (λ z. Ok (row_of (take (suc (past c p)) (n ∷ ns)) z)) (add_at place p c x out) _ _ (λ z. follow-given _ _)))

-- ---- what a transition's fields are, flat tree or not

made : (P : Bool → Type 0) → P true → P false → (b : Bool) → P b
made P t f true = t
made P t f false = f

module _ (flat : Bool) (m : ℤ) (d p u : Float) where
  pub made_down : (made_of flat m d p u).down ≡ cond flat m (pred_ℤ m)
  unfolding made_of
  made_down = made (λ (f : Bool). (made_of f m d p u).down ≡ cond f m (pred_ℤ m)) refl refl flat

  pub made-middle : (made_of flat m d p u).middle ≡ m
  unfolding made_of
  made-middle = made (λ (f : Bool). (made_of f m d p u).middle ≡ m) refl refl flat

  pub made_up : (made_of flat m d p u).up ≡ cond flat m (suc_ℤ m)
  unfolding made_of
  made_up = made (λ (f : Bool). (made_of f m d p u).up ≡ cond f m (suc_ℤ m)) refl refl flat

  pub made_first : (made_of flat m d p u).probability_down ≡ d
  unfolding made_of
  made_first = made (λ (f : Bool). (made_of f m d p u).probability_down ≡ d) refl refl flat

  pub made-second : (made_of flat m d p u).probability_middle ≡ p
  unfolding made_of
  made-second = made (λ (f : Bool). (made_of f m d p u).probability_middle ≡ p) refl refl flat

  pub made-third : (made_of flat m d p u).probability_up ≡ u
  unfolding made_of
  made-third = made (λ (f : Bool). (made_of f m d p u).probability_up ≡ u) refl refl flat
