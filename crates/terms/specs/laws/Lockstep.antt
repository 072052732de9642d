-- Two workings side by side: where the first has a value, the second has one that stands to it in a given relation, or is refused with 27. Assumes nothing.
use Rattle.std.specs.Prelude.{ℕ, ◌≡◌, Bool, true, false, not, cond, T, Float, Ok, Err}
use Rattle.std.proofs.Math.Path.{refl}
use Rattle.std.specs.Float.Ieee.Scale.{finite}
use Rattle.floats.specs.Refusals.{Refusal}
use Rattle.floats.specs.Answers.{Answer, on_outcome, follow, not_finite, refusal, Outcome}
use Rattle.terms.specs.laws.Outcomes.{same_given, given_or_refused}
use Rattle.floats.specs.declared.Reason.TheVariants as reason

-- ---- answers

-- Where the first is a value, the second is a value with R of the two, or 27.
pub data Meets (R : Float → Float → Type 0) : Answer → Answer → Type 0 where
  valued_both : {x y : Float} → R x y → Meets R (Ok x) (Ok y)
  refused_first : {r : Refusal} {b : Answer} → Meets R (Err r) b
  refused_27 : {x : Float} {r : Refusal} → r.reason ≡ reason.NotFinite → Meets R (Ok x) (Err r)

module _ {R : Float → Float → Type 0} where
  -- a second answer that is refused with 27 meets every first
  meets_27 : (a : Answer) (r : Refusal) → r.reason ≡ reason.NotFinite → Meets R a (Err r)
  meets_27 (Ok x) r e = refused_27 e
  meets_27 (Err s) r e = refused_first

  -- one answer after another
  pub meets_then : {Q : Float → Float → Type 0} (a b : Answer) (k l : Float → Answer) → Meets Q a b → ((x y : Float) → Q x y → Meets R (k x) (l y)) → Meets R (follow a k) (follow b l)
  unfolding on_outcome
  meets_then a b k l (valued_both {x = x} {y = y} q) h = h x y q
  meets_then a b k l refused_first h = refused_first
  meets_then a b k l (refused_27 {x = x} {r = r} e) h = meets_27 (k x) r e

  -- an operation tested in both
  pub meets_finite : (x y : Float) (place : ℕ) (a b : Answer) → (T (finite x) → T (finite y) → Meets R a b) → Meets R (cond (not_finite x) (refusal reason.NotFinite place) a) (cond (not_finite y) (refusal reason.NotFinite place) b)
  meets_finite x y place a b h = go (finite x) (finite y) h
    where
      go : (p q : Bool) → (T p → T q → Meets R a b) → Meets R (cond (not p) (refusal reason.NotFinite place) a) (cond (not q) (refusal reason.NotFinite place) b)
      go true true h = h tt tt
      go true false h = meets_27 a _ refl
      go false q h = refused_first

-- ---- outcomes

-- Where the first is given, the second is given with R of the two, or 27.
pub data Follows {A : Type 0} (R : A → A → Type 0) : Outcome A → Outcome A → Type 0 where
  given_both : {x y : A} → R x y → Follows R (Ok x) (Ok y)
  never-given : {r : Refusal} {o : Outcome A} → Follows R (Err r) o
  over : {x : A} {r : Refusal} → r.reason ≡ reason.NotFinite → Follows R (Ok x) (Err r)

module _ {B : Type 0} {S : B → B → Type 0} where
  over_27 : (o : Outcome B) (r : Refusal) → r.reason ≡ reason.NotFinite → Follows S o (Err r)
  over_27 (Ok x) r e = over e
  over_27 (Err s) r e = never-given

  -- one outcome after another
  pub follows-follow : {A : Type 0} {R : A → A → Type 0} (o q : Outcome A) (k l : A → Outcome B) → Follows R o q → ((x y : A) → R x y → Follows S (k x) (l y)) → Follows S (follow o k) (follow q l)
  unfolding on_outcome
  follows-follow o q k l (given_both {x = x} {y = y} r) h = h x y r
  follows-follow o q k l never-given h = never-given
  follows-follow o q k l (over {x = x} {r = r} e) h = over_27 (k x) r e

  pub follows-valued : {R : Float → Float → Type 0} (a b : Answer) (k l : Float → Outcome B) → Meets R a b → ((x y : Float) → R x y → Follows S (k x) (l y)) → Follows S (follow a k) (follow b l)
  unfolding on_outcome
  follows-valued a b k l (valued_both {x = x} {y = y} r) h = h x y r
  follows-valued a b k l refused_first h = never-given
  follows-valued a b k l (refused_27 {x = x} {r = r} e) h = over_27 (k x) r e

  pub follows_weaker : {R : B → B → Type 0} {o q : Outcome B} → ((x y : B) → R x y → S x y) → Follows R o q → Follows S o q
  follows_weaker f (given_both {x = x} {y = y} r) = given_both (f x y r)
  follows_weaker f never-given = never-given
  follows_weaker f (over e) = over e

  -- a part that is the same in both
  pub follows_same : {A : Type 0} (o : Outcome A) (k l : A → Outcome B) → ((x : A) → o ≡ Ok x → Follows S (k x) (l x)) → Follows S (follow o k) (follow o l)
  unfolding on_outcome
  follows_same (Ok x) k l h = h x refl
  follows_same (Err r) k l h = never-given

-- ---- what is left of it once the first is known to be given

-- Given, with P of it, or refused with 27.
pub data GivenOr27 {A : Type 0} (P : A → Type 0) (o : Outcome A) : Type 0 where
  is_given : (y : A) → o ≡ Ok y → P y → GivenOr27 P o
  is_27 : (r : Refusal) → o ≡ Err r → r.reason ≡ reason.NotFinite → GivenOr27 P o

pub given_or_27 : {A : Type 0} {R : A → A → Type 0} {o q : Outcome A} {x : A} → Follows R o q → o ≡ Ok x → GivenOr27 (R x) q
given_or_27 {R = R} (given_both {x = z} {y = y} r) e = is_given y refl (rw (← same_given e) r)
given_or_27 never-given e = absurd (given_or_refused e refl)
given_or_27 (over {r = r} n) e = is_27 r refl n
