-- Two checks are alike where both pass, or both refuse with the same reason; the places may differ. Assumes nothing.
use Rattle.std.specs.Prelude.{◌≡◌, refl, Bool, List, [], ◌∷◌, ℕ, ◌<◌, T, Ok, Err}
use Rattle.std.proofs.Common.{sym, ◌∙◌, arith, T_not}
use Rattle.floats.specs.declared.Reason.{Reason}
use Rattle.floats.specs.Refusals.{Refusal}
use Rattle.floats.specs.Answers.{Check}
use Rattle.terms.specs.Checks.{on_check, first_of, lowest}
use Rattle.terms.specs.laws.Sequence.{Sought, nowhere, found, sought}
use Rattle.terms.specs.laws.Searching.{Somewhere}

pub data Alike : Check → Check → Type 0 where
  both_pass : Alike (Ok tt) (Ok tt)
  both_refuse : (r q : Refusal) → q.reason ≡ r.reason → Alike (Err r) (Err q)

pub alike_self : (c : Check) → Alike c c
alike_self (Ok tt) = both_pass
alike_self (Err r) = both_refuse r r refl

pub alike_of : (c d : Check) → d ≡ c → Alike c d
alike_of c d e = rw e (alike_self c)

-- Checks alike one by one.
pub data AllAlike : List Check → List Check → Type 0 where
  no_check : AllAlike [] []
  one_more : {c d : Check} {cs ds : List Check} → Alike c d → AllAlike cs ds → AllAlike (c ∷ cs) (d ∷ ds)

pub alike_first : {cs ds : List Check} → AllAlike cs ds → Alike (first_of cs) (first_of ds)
unfolding first_of on_check
alike_first no_check = both_pass
alike_first (one_more {cs = cs} {ds = ds} both_pass k) = alike_first k
alike_first (one_more {cs = cs} {ds = ds} (both_refuse r q e) k) = both_refuse r q e

-- A cause over indices that holds somewhere in one list where it holds somewhere in the other.
module _ (why : Reason) (bad worse : ℕ → Bool) (count many : ℕ) where
  abbrev Goes : Type 0
  Goes = (i : ℕ) → i < count → T (bad i) → Somewhere worse many

  abbrev Comes : Type 0
  Comes = (i : ℕ) → i < many → T (worse i) → Somewhere bad count

  pub alike-lowest : Goes → Comes → Alike (lowest why bad count 0) (lowest why worse many 0)
  alike-lowest goes comes = go (lowest why bad count 0) (lowest why worse many 0) (sought why bad count 0) (sought why worse many 0)
    where
      go : (c d : Check) → Sought why bad count 0 c → Sought why worse many 0 d → Alike c d
      go c d (nowhere e none) (nowhere f never) = rw (e, f) both_pass
      go c d (found r e at) (found q f to) = rw (e, f) (both_refuse r q (to.same_reason ∙ sym at.same_reason))
      go c d (nowhere e none) (found q f to) =
          let w = comes q.place (let u = to.to in omega arith) to.holds in
          absurd (T_not (bad w.index) (none w.index (omega arith) (let u = w.below in omega arith)) w.holds)
      go c d (found r e at) (nowhere f never) =
          let w = goes r.place (let u = at.to in omega arith) at.holds in
          absurd (T_not (worse w.index) (never w.index (omega arith) (let u = w.below in omega arith)) w.holds)
