-- The first refused bond: what a loop knows that looks for it, what holds of the bonds before it and of all where there is none. Assumes nothing.
use Prim.Native.Nat.{ℕ, zero, suc, ◌+◌, ◌-◌, ◌≤◌, ◌<◌}
use Rattle.std.proofs.Common.{rules, eq-or-lt_of_le, inl, inr, ◌∙◌}
use native.Mathlib.Omega.{arith}
use Rattle.std.proofs.Math.Numerals.{add-one}
use Rattle.std.specs.Prelude.{◌≡◌, refl, Ok, Err}
use Rattle.std.proofs.Math.Path.{sym, ap}
use Rattle.floats.specs.Refusals.{Refusal}
use Rattle.floats.specs.Answers.{Check, Outcome, on_outcome}
use Rattle.terms.specs.Checks.{on_check}
use Rattle.bookchecks.specs.declared.RefusedBond.{RefusedBond}
use Rattle.bookchecks.specs.Checks.{BookOutcome, BookCheck, Passed, Refused, at_bond, first_refused}

-- ---- the loop

-- No bond before i is refused: what is left to do from i is the whole answer.
pub record Naming (f : ℕ → Check) (count i : ℕ) : Type 0 where
  pub within : i ≤ count
  pub rest : first_refused f (count - i) i ≡ first_refused f count 0

module _ (f : ℕ → Check) (count : ℕ) where
  -- One bond, of those that are left.
  one_of : (i : ℕ) → i < count → first_refused f (count - i) i ≡ on_check (f i) (λ r. Refused i r) (first_refused f (count - suc i) (suc i))
  unfolding first_refused
  one_of i h = let e : count - i ≡ suc (count - suc i) = omega arith in rw (e, first_refused)

  pub begin : Naming f count 0
  begin = record { within = omega arith; rest = let e : count - 0 ≡ count = omega arith in ap (λ (n : ℕ). first_refused f n 0) e }

  pub turn : (i : ℕ) {c : Check} → Naming f count i → i < count → c ≡ f i → c ≡ Ok tt → Naming f count (i + 1)
  unfolding on_check
  turn i s h e t =
      record {
        within = omega arith;
        rest = rw add-one (sym (one_of i h ∙ ap (λ (z : Check). on_check z (λ r. Refused i r) (first_refused f (count - suc i) (suc i))) (sym e ∙ t)) ∙ s.rest);
      }

  pub found : (i : ℕ) {c : Check} {q : Refusal} → Naming f count i → i < count → c ≡ f i → c ≡ Err q → Refused i q ≡ first_refused f count 0
  unfolding on_check
  found i s h e t = sym (one_of i h ∙ ap (λ (z : Check). on_check z (λ r. Refused i r) (first_refused f (count - suc i) (suc i))) (sym e ∙ t)) ∙ s.rest

  pub done : (i : ℕ) → Naming f count i → count ≤ i → Passed ≡ first_refused f count 0
  unfolding first_refused
  done i s h = let e : count - i ≡ 0 = omega arith in sym (ap (λ (n : ℕ). first_refused f n i) e) ∙ s.rest

-- ---- the same of a check whose bond is named

pub value_of_bond : {A : Type 0} (bond : ℕ) (o : Outcome A) {x : A} → at_bond bond o ≡ Ok x → o ≡ Ok x
unfolding on_outcome
value_of_bond bond (Ok y) {x} e = let same : y ≡ x = cc in ap Ok same
value_of_bond bond (Err r) e = absurd (let z : ◌≡◌ {A = ℕ} 0 1 = cc in omega arith)

-- A refusal that is named is one of that bond.
pub record AtBond {A : Type 0} (bond : ℕ) (o : Outcome A) (q : RefusedBond) : Type 0 where
  pub refused : o ≡ Err q.refusal
  pub named : q ≡ record { bond = bond; refusal = q.refusal }

pub refused_of : {A : Type 0} (bond : ℕ) (o : Outcome A) (q : RefusedBond) → at_bond bond o ≡ Err q → AtBond bond o q
unfolding on_outcome
refused_of bond (Ok x) q e = absurd (let z : ◌≡◌ {A = ℕ} 0 1 = cc in omega arith)
refused_of bond (Err r) q e =
    let same : record { bond = bond; refusal = r } ≡ q = cc in
    let of : r ≡ q.refusal = ap (λ (z : RefusedBond). z.refusal) same in
    record { refused = ap Err of; named = sym same ∙ ap (λ (z : Refusal). record { bond = bond; refusal = z }) of }

module _ (f : ℕ → Check) (count i : ℕ) {c : Check} {u : BookCheck} (s : Naming f count i) (h : i < count) (e : c ≡ f i) (n : u ≡ at_bond i c) where
  pub turn_at : u ≡ Ok tt → Naming f count (i + 1)
  turn_at t = turn f count i s h e (value_of_bond i c (sym n ∙ t))

  pub found_at : {q : RefusedBond} → u ≡ Err q → Err q ≡ first_refused f count 0
  found_at {q} t = let r = refused_of i c q (sym n ∙ t) in ap Err r.named ∙ found f count i s h e r.refused

-- ---- bonds that are checked alike

pub same_first : (f g : ℕ → Check) (count i : ℕ) → ((k : ℕ) → i ≤ k → k < i + count → f k ≡ g k) → first_refused f count i ≡ first_refused g count i
unfolding first_refused
same_first f g zero i h = refl
same_first f g (suc count) i h =
    rw (h i (omega arith) (omega arith), same_first f g count (suc i) (λ k l m. h k (omega arith) (omega arith)))

-- ---- what the answer says of each bond

-- None is refused, or the first is, with those before it passed.
pub data Named (f : ℕ → Check) (count i : ℕ) : BookCheck → Type 0 where
  none : ((k : ℕ) → i ≤ k → k < i + count → f k ≡ Ok tt) → Named f count i Passed
  first : {bond : ℕ} {q : Refusal} → i ≤ bond → bond < i + count → f bond ≡ Err q → ((k : ℕ) → i ≤ k → k < bond → f k ≡ Ok tt) → Named f count i (Refused bond q)

one_more : (f : ℕ → Check) (i n : ℕ) → f i ≡ Ok tt → ((k : ℕ) → suc i ≤ k → k < n → f k ≡ Ok tt) → (k : ℕ) → i ≤ k → k < n → f k ≡ Ok tt
one_more f i n e h k l m = elim (eq-or-lt_of_le l) [ inl p ↦ ap f (sym p) ∙ e | inr p ↦ h k (omega arith) m ]

pub named : (f : ℕ → Check) (count i : ℕ) → Named f count i (first_refused f count i)
unfolding first_refused on_check
named f zero i = none (λ k l m. absurd (omega arith))
named f (suc count) i = go (f i) refl (named f count (suc i))
  where
    further : {a : BookCheck} → f i ≡ Ok tt → Named f count (suc i) a → Named f (suc count) i a
    further e (none h) = none (λ k l m. one_more f i (i + suc count) e (λ k l m. h k l (omega arith)) k l m)
    further e (first {bond = bond} l m q h) = first {bond = bond} (omega arith) (omega arith) q (λ k l m. one_more f i bond e h k l m)

    go : (c : Check) → f i ≡ c → Named f count (suc i) (first_refused f count (suc i)) → Named f (suc count) i (on_check c (λ r. Refused i r) (first_refused f count (suc i)))
    go (Ok tt) e n = further e n
    go (Err q) e n = first {bond = i} (omega arith) (omega arith) e (λ k l m. absurd (omega arith))

-- Where none is refused.
pub all_pass : (f : ℕ → Check) (count : ℕ) → first_refused f count 0 ≡ Passed → (k : ℕ) → k < count → f k ≡ Ok tt
all_pass f count e = go (first_refused f count 0) e (named f count 0)
  where
    go : (a : BookCheck) → a ≡ Passed → Named f count 0 a → (k : ℕ) → k < count → f k ≡ Ok tt
    go Passed e (none h) k l = h k (omega arith) (omega arith)
    go (Err q) e n k l = absurd (let z : ◌≡◌ {A = ℕ} 0 1 = cc in omega arith)

pub pass_all : (f : ℕ → Check) (count i : ℕ) → ((k : ℕ) → i ≤ k → k < i + count → f k ≡ Ok tt) → first_refused f count i ≡ Passed
unfolding first_refused on_check
pass_all f zero i h = refl
pass_all f (suc count) i h = rw (h i (omega arith) (omega arith)) (pass_all f count (suc i) (λ k l m. h k (omega arith) (omega arith)))

-- Where a bond is the first that is refused.
module _ (f : ℕ → Check) (count i : ℕ) where
  at_once : {bond : ℕ} {q : Refusal} → i ≡ bond → f bond ≡ Err q → first_refused f (suc count) i ≡ Refused bond q
  unfolding first_refused on_check
  at_once p e = rw (p, e)

  later : f i ≡ Ok tt → first_refused f (suc count) i ≡ first_refused f count (suc i)
  unfolding first_refused on_check
  later e = rw e

pub first_is : (f : ℕ → Check) (count i bond : ℕ) (q : Refusal) → i ≤ bond → bond < i + count → f bond ≡ Err q → ((k : ℕ) → i ≤ k → k < bond → f k ≡ Ok tt) → first_refused f count i ≡ Refused bond q
first_is f zero i bond q l m e h = absurd (omega arith)
first_is f (suc count) i bond q l m e h =
    elim (eq-or-lt_of_le l) [
      | inl p ↦ at_once f count i p e
      | inr p ↦ later f count i (h i (omega arith) p) ∙ first_is f count (suc i) bond q (omega arith) (omega arith) e (λ k l m. h k (omega arith) m)
    ]

-- What the refused bond is.
pub record FirstOf (f : ℕ → Check) (count bond : ℕ) (q : Refusal) : Type 0 where
  pub of_book : bond < count
  pub refused : f bond ≡ Err q
  pub before_it : (k : ℕ) → k < bond → f k ≡ Ok tt

pub first_refused_lem : (f : ℕ → Check) (count : ℕ) {bond : ℕ} {q : Refusal} → first_refused f count 0 ≡ Refused bond q → FirstOf f count bond q
first_refused_lem f count {bond} {q} e = go (first_refused f count 0) e (named f count 0)
  where
    go : (a : BookCheck) → a ≡ Refused bond q → Named f count 0 a → FirstOf f count bond q
    go Passed e n = absurd (let z : ◌≡◌ {A = ℕ} 0 1 = cc in omega arith)
    go (Err r) e (first l m p h) =
        let same : r ≡ record { bond = bond; refusal = q } = cc in
        let i : r.bond ≡ bond = ap (λ (z : RefusedBond). z.bond) same in
        let j : r.refusal ≡ q = ap (λ (z : RefusedBond). z.refusal) same in
        record { of_book = omega arith; refused = rw (← i, ← j) p; before_it = λ k n. h k (omega arith) (omega arith) }

-- The laws of the loop.
pub ruleset naming = (begin, turn, found, done, rules)
