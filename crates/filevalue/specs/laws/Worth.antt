-- What the calls of a bond that has a value are worth isn't below 0, by the call-list rule. Assumes nothing.
use Rattle.std.specs.Prelude.{ℕ, ◌<◌, ◌≡◌, refl, Bool, not, cond, T, Float, Ok, Err}
use Rattle.std.proofs.Common.{arith, sym, ap, subst, ◌∙◌, T_not}
use Rattle.std.proofs.Math.Bool.{true, false}
use Rattle.std.specs.Float.Ieee.{binary64, sub, le}
use Rattle.floats.specs.Answers.{plus_zero, refusal, not_finite, on_outcome, Outcome}
use Rattle.floats.specs.laws.Propagation.{sub-left, sub_right, finite-back}
use Rattle.floats.specs.laws.Signs.{sub-above}
use Rattle.terms.specs.Terms.{CallSchedule, Market}
use Rattle.terms.specs.CallLists.{MadeFrom}
use Rattle.lattice.specs.Layers.{Room}
use Rattle.treebasedbondpricer.specs.declared.TreeValue.{TreeValue}
use Rattle.treebasedbondpricer.specs.Tree.{tree_value, room_of}
use Rattle.treebasedbondpricer.specs.CallLists.{NoLowerOr27, accepted}
use Rattle.treebasedbondpricer.specs.CallLists as lists
use Rattle.treebasedbondpricer.proofs.laws.CallLists.{call_list_rule}
use Rattle.filevalue.specs.declared.Ask.TheVariants as ask
use Rattle.filevalue.specs.declared.Reply.{Reply}
use Rattle.filevalue.specs.Values.{of_value, no_calls, worth_of_calls, reply_to}
use Rattle.filevalue.specs.CallsWorth.{WorthOr27, not_below_lem, refused_27, CallsWorthRule}
use Rattle.floats.specs.declared.Reason.TheVariants as reason

-- The empty list is made from any other, by dropping all.
none_of-none : {A : Type 0} (i : ℕ) → i < 0 → A
none_of-none i h = absurd (omega arith)

all_dropped : (calls : CallSchedule) → MadeFrom calls no_calls
all_dropped calls =
    record {
      entries = record { ends_too = refl; strikes_too = refl };
      partner = λ i. i;
      of_first = λ i h. none_of-none i h;
      no_two = λ i j h k e. none_of-none i h;
      same_start = λ i h. none_of-none i h;
      same_end = λ i h. none_of-none i h;
      strike_as_high = λ i h. none_of-none i h;
    }

module _ (x : Float) (n : ℕ) where
  -- A difference that is finite has finite parts.
  rising : (y : Float) → T (le x y) → T (not (not_finite (sub binary64 y x))) → T (le plus_zero (sub binary64 y x))
  rising y h k =
      sub-above binary64 y x (finite-back y (λ (b : T (not_finite y)). T_not (not_finite (sub binary64 y x)) k (sub-left binary64 y x b)))
      (finite-back x (λ (b : T (not_finite x)). T_not (not_finite (sub binary64 y x)) k (sub_right binary64 y x b)))
      h

  shown : (b : Bool) (d : Float) → (T (not b) → T (le plus_zero d)) → WorthOr27 (on_outcome (cond b (refusal reason.NotFinite 0) (Ok d)) Err λ z. Ok (record { found = z; count = n }))
  unfolding on_outcome
  shown true d h = refused_27
  shown false d h = not_below_lem (h tt)

  no_lower : (v : Outcome TreeValue) → NoLowerOr27 x v → WorthOr27 (worth_of_calls (Ok (record { value = x; nodes = n })) v)
  unfolding worth_of_calls
  no_lower (Ok v) (accepted h) = shown (not_finite (sub binary64 v.value x)) (sub binary64 v.value x) (rising v.value h)
  no_lower (Err r) lists.refused_27 = refused_27

-- In the same room.
worth_of_calls_lem : (m : Market) (calls : CallSchedule) (room : Room) (x : Float) (n : ℕ) → tree_value m calls room ≡ Ok (record { value = x; nodes = n }) → WorthOr27 (reply_to ask.Calls m calls room)
unfolding reply_to
worth_of_calls_lem m calls room x n e =
    rw e (no_lower x n (tree_value m no_calls room) ((call_list_rule m room calls no_calls x n (all_dropped calls) e).otherwise λ s. none_of-none s.entry s.of_list))

valued_as : (v : Outcome TreeValue) (x : Float) (n : ℕ) → of_value v ≡ Ok (record { found = x; count = n }) → v ≡ Ok (record { value = x; nodes = n })
unfolding of_value
valued_as (Ok v) x n e =
    let p : ◌≡◌ {A = Reply} (record { found = v.value; count = v.nodes }) (record { found = x; count = n }) = cc in
    let q : ◌≡◌ {A = TreeValue} v (record { value = x; nodes = n }) = ap (λ (r : Reply). record { value = r.found; nodes = r.count }) p in
    ap Ok q
valued_as (Err r) x n e = let z : ◌≡◌ {A = ℕ} 0 1 = cc in absurd (omega arith)

pub calls_worth_rule : CallsWorthRule
unfolding reply_to
calls_worth_rule text x n a b lent-first lent-second left_first left_second p q as_long h =
    subst WorthOr27 (sym (q.reply ∙ ap (reply_to ask.Calls _ _) as_long))
    (worth_of_calls_lem _ _ (room_of lent-first) x n (valued_as _ x n (sym p.reply ∙ h)))
