-- That a refusal's number is one of a list: what it says of an answer, an outcome and a check, and how it passes from the parts of a definition to the whole. Assumes nothing.
use Rattle.floats.specs.declared.Reason.{Reason}
use Rattle.floats.specs.Reasons.{reason_number}
use Rattle.std.specs.Prelude.{ℕ, zero, suc, ◌≡◌, refl, Bool, true, false, ◌&&◌, ◌||◌, List, [], ◌∷◌, T, eqb, Float, Ok, Err}
use Rattle.std.proofs.Common.{sym, ap, subst, ◌∙◌, eqb-true}
use Rattle.std.proofs.lemmas.Bool.{false≢true}
use Rattle.floats.specs.Refusals.{Refusal}
use Rattle.floats.specs.Answers.{Answer, on_outcome, Check, Outcome}
use Rattle.terms.specs.Checks.{on_check, lowest}
use Rattle.floats.specs.laws.Cases.{Holds, of_cond, of_answer, RefusedOnly, value-only, refused-only, then_only}
use Rattle.promises.specs.RefusalNumbers.{member, Among}

-- ---- a number of a list; what is no refusal has none

-- at a numeral and a list of numerals the test computes
pub one_of : {ns : List ℕ} (n : ℕ) → member n ns ≡ true → Among ns n
one_of n e = record { is_one = subst T (sym e) tt }

or_also : (b c : Bool) → T c → T (b || c)
or_also true c h = tt
or_also false c h = h

-- A longer list.
pub one_more : {ns : List ℕ} (k n : ℕ) → Among ns n → Among (k ∷ ns) n
one_more {ns} k n h = record { is_one = or_also (eqb n k) (member n ns) h.is_one }

-- Every number of a list stands on another.
abbrev pub every : List ℕ → List ℕ → Bool
every [] ms = true
every (n ∷ ns) ms = member n ms && every ns ms

pub wider : (ns ms : List ℕ) (n : ℕ) → every ns ms ≡ true → Among ns n → Among ms n
wider [] ms n e h = absurd h.is_one
wider (k ∷ ks) ms n e h = go (eqb n k) (member k ms) refl refl e h.is_one (λ f t. wider ks ms n f (record { is_one = t }))
  where
    go : (b c : Bool) → eqb n k ≡ b → member k ms ≡ c → (c && every ks ms) ≡ true → T (b || member n ks) → (every ks ms ≡ true → T (member n ks) → Among ms n) → Among ms n
    go true true p q e t later = one_of n (ap (λ (i : ℕ). member i ms) (eqb-true n k p) ∙ q)
    go true false p q e t later = absurd (false≢true e)
    go false true p q e t later = later e t
    go false false p q e t later = absurd (false≢true e)

-- ---- what each part can refuse with

-- Ranges of exp, ln and sqrt, and results that aren't finite.
abbrev pub arithmetic_refusals : List ℕ
arithmetic_refusals = 26 ∷ 27 ∷ []

-- The input checks of the tree's entries.
abbrev pub check_refusals : List ℕ
check_refusals = 1 ∷ 2 ∷ 3 ∷ 4 ∷ 5 ∷ 6 ∷ 7 ∷ 8 ∷ 33 ∷ 34 ∷ 35 ∷ 37 ∷ 44 ∷ []

-- The event grid of checked terms.
abbrev pub grid_refusals : List ℕ
grid_refusals = 20 ∷ 27 ∷ 38 ∷ []

-- Curve, fit and walk.
abbrev pub walk_refusals : List ℕ
walk_refusals = 25 ∷ 26 ∷ 27 ∷ []

-- Grid, layers, fit and walk: what checked terms are refused with.
abbrev pub built_refusals : List ℕ
built_refusals = 20 ∷ 21 ∷ 22 ∷ 23 ∷ 25 ∷ 26 ∷ 27 ∷ 38 ∷ []

abbrev pub AnswerAmong : List ℕ → Answer → Type 0
AnswerAmong ns = RefusedOnly (Among ns)

abbrev pub OutcomeAmong : {A : Type 0} → List ℕ → Outcome A → Type 0
OutcomeAmong ns (Ok x) = Unit
OutcomeAmong ns (Err r) = Among ns (reason_number r.reason)

abbrev pub CheckAmong : List ℕ → Check → Type 0
CheckAmong ns (Ok tt) = Unit
CheckAmong ns (Err r) = Among ns (reason_number r.reason)

-- ---- values and refusals

pub give_outcome : {A : Type 0} {ns : List ℕ} (x : A) → Holds (OutcomeAmong ns) (Ok x)
give_outcome x = record { it = tt }

pub refuse-outcome : {A : Type 0} {ns : List ℕ} (r : Refusal) → Among ns (reason_number r.reason) → Holds (OutcomeAmong {A = A} ns) (Err r)
refuse-outcome r h = record { it = h }

pub pass_check : {ns : List ℕ} → Holds (CheckAmong ns) (Ok tt)
pass_check = record { it = tt }

pub refuse_check : {ns : List ℕ} (r : Refusal) → Among ns (reason_number r.reason) → Holds (CheckAmong ns) (Err r)
refuse_check r h = record { it = h }

-- ---- on a wider list

pub wider-answer : (ns ms : List ℕ) → every ns ms ≡ true → (a : Answer) → Holds (AnswerAmong ns) a → Holds (AnswerAmong ms) a
wider-answer ns ms e (Ok x) h = value-only (Among ms) x
wider-answer ns ms e (Err r) h = refused-only (Among ms) r (wider ns ms (reason_number r.reason) e h.it)

pub wider-outcome : {A : Type 0} (ns ms : List ℕ) → every ns ms ≡ true → (o : Outcome A) → Holds (OutcomeAmong ns) o → Holds (OutcomeAmong ms) o
wider-outcome ns ms e (Ok x) h = give_outcome x
wider-outcome ns ms e (Err r) h = refuse-outcome r (wider ns ms (reason_number r.reason) e h.it)

pub wider_check : (ns ms : List ℕ) → every ns ms ≡ true → (c : Check) → Holds (CheckAmong ns) c → Holds (CheckAmong ms) c
wider_check ns ms e (Ok tt) h = pass_check
wider_check ns ms e (Err r) h = refuse_check r (wider ns ms (reason_number r.reason) e h.it)

-- ---- what holds of a part's refusals of the list, and of what follows its value, holds of both

pub on_answer_lem : {A : Type 0} {P : A → Type 0} {ns : List ℕ} (a : Answer) (f : Refusal → A) (k : Float → A) → Holds (AnswerAmong ns) a → ((r : Refusal) → Among ns (reason_number r.reason) → Holds P (f r)) → ((x : Float) → Holds P (k x)) → Holds P (on_outcome a f k)
on_answer_lem {ns = ns} a f k h p q = of_answer a f k (λ r e. p r (subst (AnswerAmong ns) e h.it)) (λ x e. q x)

pub on_outcome_lem : {A B : Type 0} {P : B → Type 0} {ns : List ℕ} (a : Outcome A) (f : Refusal → B) (k : A → B) → Holds (OutcomeAmong ns) a → ((r : Refusal) → Among ns (reason_number r.reason) → Holds P (f r)) → ((x : A) → Holds P (k x)) → Holds P (on_outcome a f k)
unfolding on_outcome
on_outcome_lem (Ok x) f k h p q = q x
on_outcome_lem (Err r) f k h p q = p r h.it

pub on_check_lem : {A : Type 0} {P : A → Type 0} {ns : List ℕ} (c : Check) (f : Refusal → A) (x : A) → Holds (CheckAmong ns) c → ((r : Refusal) → Among ns (reason_number r.reason) → Holds P (f r)) → Holds P x → Holds P (on_check c f x)
unfolding on_check
on_check_lem (Ok tt) f x h p q = q
on_check_lem (Err r) f x h p q = p r h.it

-- ---- the same where the refusal is handed up, as `search` wants it; whenFinite, finiteThen, tested and single open to cond

-- valued
pub then_valued : {A : Type 0} {ns : List ℕ} (a : Answer) (k : Float → Outcome A) → Holds (AnswerAmong ns) a → ((x : Float) → Holds (OutcomeAmong ns) (k x)) → Holds (OutcomeAmong ns) (on_outcome a Err k)
then_valued a k h = on_answer_lem a Err k h refuse-outcome

-- follow
pub then_outcome : {A B : Type 0} {ns : List ℕ} (a : Outcome A) (k : A → Outcome B) → Holds (OutcomeAmong ns) a → ((x : A) → Holds (OutcomeAmong ns) (k x)) → Holds (OutcomeAmong ns) (on_outcome a Err k)
then_outcome a k h = on_outcome_lem a Err k h refuse-outcome

-- follow, where what is given is known
pub then_known : {A B : Type 0} {ns : List ℕ} (a : Outcome A) (k : A → Outcome B) → Holds (OutcomeAmong ns) a → ((x : A) → a ≡ Ok x → Holds (OutcomeAmong ns) (k x)) → Holds (OutcomeAmong ns) (on_outcome a Err k)
unfolding on_outcome
then_known (Ok x) k h q = q x refl
then_known (Err r) k h q = refuse-outcome r h.it

-- firstOf, which opens to these
pub then_check : {ns : List ℕ} (c d : Check) → Holds (CheckAmong ns) c → Holds (CheckAmong ns) d → Holds (CheckAmong ns) (on_check c Err d)
then_check c d h = on_check_lem c Err d h refuse_check

-- an outcome behind a check
pub then_checked : {A : Type 0} {ns : List ℕ} (c : Check) (o : Outcome A) → Holds (CheckAmong ns) c → Holds (OutcomeAmong ns) o → Holds (OutcomeAmong ns) (on_check c Err o)
then_checked c o h = on_check_lem c Err o h refuse-outcome

-- indexed
pub lowest_check : {ns : List ℕ} (why : Reason) (bad : ℕ → Bool) (count i : ℕ) → Among ns (reason_number why) → Holds (CheckAmong ns) (lowest why bad count i)
unfolding lowest
lowest_check why bad zero i h = pass_check
lowest_check why bad (suc count) i h =
    let later = lowest_check why bad count (suc i) h in
    search (of_cond, refuse_check)

pub ruleset numbers = (one_of, of_cond, value-only, refused-only, give_outcome, refuse-outcome, pass_check, refuse_check, then_only, then_valued, then_outcome, then_check, then_checked, lowest_check)
