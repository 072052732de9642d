-- How checks follow one another: a list of checks passes exactly where each of them passes, and a cause over indices is found exactly where it holds. Assumes nothing.
use Rattle.std.specs.Prelude.{◌≡◌, Bool, true, false, not, cond, List, [], ◌∷◌, ◌++◌, length, T, Ok, Err}
use Rattle.std.proofs.Math.Path.{refl}
use Rattle.std.proofs.Common.{sym, ◌∙◌, inl, inr, eq-or-lt_of_le, arith, T_not}
use Prim.Native.Nat.{ℕ, zero, suc, ◌+◌, ◌≤◌, ◌<◌}
use Rattle.floats.specs.declared.Reason.{Reason}
use Rattle.floats.specs.Refusals.{Refusal}
use Rattle.floats.specs.Answers.{Check}
use Rattle.terms.specs.Checks.{on_check, first_of, single, lowest, indexed}

-- ---- a check passes or refuses, and never both

pub passed_not_refused : (c : Check) (r : Refusal) → c ≡ Ok tt → c ≡ Err r → ⊥
passed_not_refused c r p q = let z : ◌≡◌ {A = ℕ} 0 1 = cc in omega arith

-- ---- a list of checks

-- Every check of the list is passed.
abbrev pub Passes : List Check → Type 0
Passes [] = Unit {0}
Passes (c ∷ cs) = (c ≡ Ok tt) × Passes cs

pub passes_of_first : (cs : List Check) → first_of cs ≡ Ok tt → Passes cs
unfolding first_of on_check
passes_of_first [] h = tt
passes_of_first ((Ok tt) ∷ cs) h = (refl, passes_of_first cs h)
passes_of_first (Err r ∷ cs) h = absurd (passed_not_refused (Ok tt) r refl (sym h))

pub first_of-passes : (cs : List Check) → Passes cs → first_of cs ≡ Ok tt
unfolding first_of on_check
first_of-passes [] h = refl
first_of-passes (c ∷ cs) h = rw (h.0, on_check) (first_of-passes cs h.1)

-- Checks that are passed leave the answer to those after them.
pub first_after : (before rest : List Check) → Passes before → first_of (before ++ rest) ≡ first_of rest
unfolding first_of on_check
first_after [] rest h = refl
first_after (c ∷ before) rest h = rw (h.0, on_check) (first_after before rest h.1)

-- The first refusal is the answer, whatever comes after it.
pub first_refusal : (before : List Check) (c : Check) (r : Refusal) (after : List Check) → Passes before → c ≡ Err r → first_of (before ++ (c ∷ after)) ≡ Err r
unfolding first_of on_check
first_refusal before c r after h e = first_after before (c ∷ after) h ∙ rw (e, on_check)

-- All others passed: the answer is that of the one check left.
pub first_of_one : (before : List Check) (c : Check) (after : List Check) → Passes before → Passes after → first_of (before ++ (c ∷ after)) ≡ c
first_of_one before (Ok tt) after b a = first_after before ((Ok tt) ∷ after) b ∙ first_of-passes ((Ok tt) ∷ after) (refl, a)
first_of_one before (Err r) after b a = first_refusal before (Err r) r after b refl

-- All passed, and another check stands where one stood: the answer is its own.
pub first_of-other : (before : List Check) (c d : Check) (after : List Check) → first_of (before ++ (c ∷ after)) ≡ Ok tt → first_of (before ++ (d ∷ after)) ≡ d
first_of-other before c d after h =
    let p = around before (passes_of_first (before ++ (c ∷ after)) h) in
    first_of_one before d after p.0 p.1
  where
    around : (xs : List Check) → Passes (xs ++ (c ∷ after)) → Passes xs × Passes after
    around [] p = (tt, p.1)
    around (x ∷ xs) p = let q = around xs p.1 in ((p.0, q.0), q.1)

-- ---- groups of checks, one after the other

abbrev pub all : List (List Check) → List Check
all [] = []
all (xs ∷ xss) = xs ++ all xss

-- Every check of every group is passed.
abbrev pub GroupsPass : List (List Check) → Type 0
GroupsPass [] = Unit {0}
GroupsPass (xs ∷ xss) = Passes xs × GroupsPass xss

passes-apart : (xs ys : List Check) → Passes (xs ++ ys) → Passes xs × Passes ys
passes-apart [] ys p = (tt, p)
passes-apart (x ∷ xs) ys p = let q = passes-apart xs ys p.1 in ((p.0, q.0), q.1)

passes-joined : (xs ys : List Check) → Passes xs → Passes ys → Passes (xs ++ ys)
passes-joined [] ys p q = q
passes-joined (x ∷ xs) ys p q = (p.0, passes-joined xs ys p.1 q)

pub all_pass : (xss : List (List Check)) → GroupsPass xss → Passes (all xss)
all_pass [] p = tt
all_pass (xs ∷ xss) p = passes-joined xs (all xss) p.0 (all_pass xss p.1)

pub groups_of_first : (xss : List (List Check)) → first_of (all xss) ≡ Ok tt → GroupsPass xss
groups_of_first xss h = each xss (passes_of_first (all xss) h)
  where
    each : (xss : List (List Check)) → Passes (all xss) → GroupsPass xss
    each [] p = tt
    each (xs ∷ xss) p = let q = passes-apart xs (all xss) p in (q.0, each xss q.1)

pub first_of_groups : (xss : List (List Check)) → GroupsPass xss → first_of (all xss) ≡ Ok tt
first_of_groups xss p = first_of-passes (all xss) (all_pass xss p)

-- ---- a cause that has one place

pub single-passed : (why : Reason) (place : ℕ) (bad : Bool) → single why place bad ≡ Ok tt → T (not bad)
single-passed why place true h = absurd (passed_not_refused (Ok tt) (record { reason = why; place = place }) refl (sym h))
single-passed why place false h = tt

pub single_of_not : (why : Reason) (place : ℕ) (bad : Bool) → T (not bad) → single why place bad ≡ Ok tt
single_of_not why place true h = absurd h
single_of_not why place false h = refl

-- ---- a cause over indices

-- A refusal with this reason, at the lowest of count indices from i on at which the cause holds.
pub record LowestAt (why : Reason) (bad : ℕ → Bool) (count i : ℕ) (r : Refusal) : Type 0 where
  pub same_reason : r.reason ≡ why
  pub from : i ≤ r.place
  pub to : r.place < i + count
  pub holds : T (bad r.place)
  pub none-lower : (k : ℕ) → i ≤ k → k < r.place → T (not (bad k))

-- The cause is found, or it holds at none of the indices.
pub data Sought (why : Reason) (bad : ℕ → Bool) (count i : ℕ) (c : Check) : Type 0 where
  nowhere : c ≡ Ok tt → ((k : ℕ) → i ≤ k → k < i + count → T (not (bad k))) → Sought why bad count i c
  found : (r : Refusal) → c ≡ Err r → LowestAt why bad count i r → Sought why bad count i c

module _ (why : Reason) (bad : ℕ → Bool) where
  later : (count i : ℕ) → T (not (bad i)) → {c : Check} → Sought why bad count (suc i) c → Sought why bad (suc count) i c
  later count i h (nowhere e none) = nowhere e (λ k l u. elim (eq-or-lt_of_le l) [ inl q ↦ rw (← q) h | inr s ↦ none k s (omega arith) ])
  later count i h (found r e at) =
      found r e
      (record {
        same_reason = at.same_reason;
        from = omega arith;
        to = omega arith;
        holds = at.holds;
        none-lower = λ k l u. elim (eq-or-lt_of_le l) [ inl q ↦ rw (← q) h | inr s ↦ at.none-lower k s u ];
      })

  here : (count i : ℕ) → T (bad i) → Sought why bad (suc count) i (Err (record { reason = why; place = i }))
  here count i h =
      found
      (record { reason = why; place = i })
      refl
      (record {
        same_reason = refl;
        from = omega arith;
        to = omega arith;
        holds = h;
        none-lower = λ k l u. absurd (omega arith);
      })

  step : (count i : ℕ) (b : Bool) (c : Check) → bad i ≡ b → Sought why bad count (suc i) c → Sought why bad (suc count) i (cond b (Err (record { reason = why; place = i })) c)
  step count i true c e s = here count i (rw e tt)
  step count i false c e s = later count i (rw e tt) s

  pub sought : (count i : ℕ) → Sought why bad count i (lowest why bad count i)
  unfolding lowest
  sought zero i = nowhere refl (λ k l u. absurd (omega arith))
  sought (suc count) i = step count i (bad i) (lowest why bad count (suc i)) refl (sought count (suc i))

  -- Passed exactly where the cause holds at no index.
  pub lowest-passed : (count i : ℕ) → lowest why bad count i ≡ Ok tt → (k : ℕ) → i ≤ k → k < i + count → T (not (bad k))
  lowest-passed count i h =
      elim (sought count i) [
        | nowhere e none ↦ none
        | found r e at ↦ absurd (passed_not_refused (lowest why bad count i) r h e)
      ]

  pub lowest_of_none : (count i : ℕ) → ((k : ℕ) → i ≤ k → k < i + count → T (not (bad k))) → lowest why bad count i ≡ Ok tt
  lowest_of_none count i h =
      elim (sought count i) [
        | nowhere e none ↦ e
        | found r e at ↦ absurd (T_not (bad r.place) (h r.place at.from at.to) at.holds)
      ]

  -- Refused otherwise, with that why, at the lowest such index.
  pub lowest-refused : (count i : ℕ) (r : Refusal) → lowest why bad count i ≡ Err r → LowestAt why bad count i r
  lowest-refused count i r h =
      elim (sought count i) [
        | nowhere e none ↦ absurd (passed_not_refused (lowest why bad count i) r e h)
        | found s e at ↦ let q : s ≡ r = cc in rw q at at
      ]

  -- From index 0, over the indices of a list.
  module _ {A : Type 0} (xs : List A) where
    pub indexed-passed : indexed why bad xs ≡ Ok tt → (i : ℕ) → i < length xs → T (not (bad i))
    indexed-passed h i l = lowest-passed (length xs) 0 h i (omega arith) (omega arith)

    pub indexed_of_none : ((i : ℕ) → i < length xs → T (not (bad i))) → indexed why bad xs ≡ Ok tt
    indexed_of_none h = lowest_of_none (length xs) 0 (λ k l u. h k (omega arith))

    pub indexed-refused : (r : Refusal) → indexed why bad xs ≡ Err r → LowestAt why bad (length xs) 0 r
    indexed-refused r h = lowest-refused (length xs) 0 r h

    -- Where the cause holds at some index, there is a refusal.
    pub indexed-found : (i : ℕ) → i < length xs → T (bad i) → (r : Refusal) × (indexed why bad xs ≡ Err r) × LowestAt why bad (length xs) 0 r
    indexed-found i l h =
        elim (sought (length xs) 0) [
          | nowhere e none ↦ absurd (T_not (bad i) (none i (omega arith) (omega arith)) h)
          | found r e at ↦ (r, e, at)
        ]
