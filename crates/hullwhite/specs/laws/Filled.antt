-- What a function that fills a row promises: whether it passed, and the row where it did; and how a loop fills it. Assumes nothing.
use Rattle.std.specs.Prelude.{ℕ, ◌+◌, ◌≤◌, ◌<◌, refl, set, Float, Ok, Err}
use Rattle.std.proofs.Common.{add-one, arith, ◌∙◌, length-set, take-append-drop}
use Rattle.std.proofs.Math.Path.{◌≡◌, sym, ap}
use mathlib.Core.List.{List, [], ◌∷◌, ◌++◌, append-nil}
use Rattle.std.proofs.Math.ListN.{length, take, drop}
use Rattle.std.proofs.Math.Seq.{take-suc-set, drop-set-lt, append_snoc, drop-drop, length-take-le}
use Rattle.floats.specs.Refusals.{Refusal}
use Rattle.floats.specs.Answers.{Answer, on_outcome, Check, Outcome, follow}

-- Whether something is given, or its refusal.
unfoldable pub check_of : {A : Type 0} → Outcome A → Check
check_of (Ok x) = Ok tt
check_of (Err r) = Err r

-- The list stands in front of the row; the rest of it is as before.
pub record Filled (o : Outcome (List Float)) (r : Check) (before after : List Float) : Type 0 where
  pub outcome : r ≡ check_of o
  pub row : (xs : List Float) → o ≡ Ok xs → after ≡ xs ++ drop (length xs) before
  pub kept : length after ≡ length before

-- ---- on the way

-- A list in front of what is given.
unfoldable pub onto : List Float → Outcome (List Float) → Outcome (List Float)
onto xs (Ok ys) = Ok (xs ++ ys)
onto xs (Err r) = Err r

-- The first k entries are there, and the rest gives the whole.
pub record Filling (whole rest : Outcome (List Float)) (before after : List Float) (k : ℕ) : Type 0 where
  pub same : onto (take k after) rest ≡ whole
  pub tail : drop k after ≡ drop k before
  pub kept : length after ≡ length before

nothing-onto : (o : Outcome (List Float)) → onto [] o ≡ o
unfolding onto
nothing-onto (Ok xs) = refl
nothing-onto (Err r) = refl

pub filling-none : (o : Outcome (List Float)) (xs : List Float) → Filling o o xs xs 0
filling-none o xs = record { same = nothing-onto o; tail = refl; kept = refl }

one_onto : (xs : List Float) (v : Float) (o : Outcome (List Float)) → onto (xs ++ (v ∷ [])) o ≡ onto xs (follow o λ vs. Ok (v ∷ vs))
unfolding onto on_outcome
one_onto xs v (Ok ys) = ap Ok (append_snoc xs v ys)
one_onto xs v (Err r) = refl

module _ (whole rest : Outcome (List Float)) (before after : List Float) (k : ℕ) (f : Filling whole rest before after k) where
  pub filling-refused : {q : Refusal} → rest ≡ Err q → Filled whole (Err q) before after
  unfolding onto check_of
  filling-refused e =
      let w = rw e at f.same in
      record {
        outcome = rw (← w);
        row = λ xs g. let z : ◌≡◌ {A = ℕ} 0 1 = cc in absurd (omega arith);
        kept = f.kept;
      }

  pub filling-done : k ≤ length before → rest ≡ Ok [] → Filled whole (Ok tt) before after
  unfolding onto check_of
  filling-done h e =
      let w : Ok (take k after ++ []) ≡ whole = rw e at f.same in
      record { outcome = rw (← w); row = λ xs g. at_end xs (w ∙ g); kept = f.kept }
    where
      at_end : (xs : List Float) → ◌≡◌ {A = Outcome (List Float)} (Ok (take k after ++ [])) (Ok xs) → after ≡ xs ++ drop (length xs) before
      at_end xs e =
          let p : take k after ++ [] ≡ xs = cc in
          let q : length (take k after) ≡ k = length-take-le k after (omega (arith, f.kept)) in
          rw (← p, append-nil, q, ← f.tail) (sym (take-append-drop k after))

  pub filling_more : (a : Answer) (v : Float) (next : Outcome (List Float)) → k < length before → rest ≡ follow a (λ v. follow next λ vs. Ok (v ∷ vs)) → a ≡ Ok v
      → Filling whole next before (set after k v) (k + 1)
  unfolding on_outcome
  filling_more a v next h e g =
      let b : k < length after = omega (arith, f.kept) in
      record {
        same = rw (add-one k, take-suc-set after k v b, one_onto (take k after) v next) (rw (e, g) at f.same);
        tail = drop-set-lt (k + 1) after k v (omega arith) ∙ sym (drop-drop 1 k after) ∙ ap (drop 1) f.tail ∙ drop-drop 1 k before;
        kept = rw (length-set after k v) f.kept;
      }
