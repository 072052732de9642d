-- The answer from its parts: the bonds valued, the sum and the count. Assumes nothing.
use Rattle.std.specs.Prelude.{ℕ, zero, suc, ◌*◌, ◌<◌, ◌^◌, refl, List, Float, None, Ok, Err}
use Rattle.std.proofs.Common.{arith, ap, ◌∙◌}
use Rattle.std.proofs.Math.Path.{◌≡◌, sym}
use Rattle.floats.specs.Answers.{Outcome}
use Rattle.terms.specs.Terms.{CallSchedule, Market}
use Rattle.lattice.specs.Layers.{Room}
use Rattle.treebasedbondpricer.specs.declared.TreeValue.{TreeValue}
use Rattle.treebasedbondpricer.specs.Tree.{tree_value, counted_by}
use Rattle.bookchecks.specs.declared.RefusedBond.{RefusedBond}
use Rattle.bookchecks.specs.Checks.{BookOutcome, BookCheck, Passed, Refused, first_refused, on_book}
use Rattle.bookvalue.specs.declared.Valued.{Valued}
use Rattle.bookvalue.specs.Values.{refused_tree, sum_to, sum_check, desk_to, desk_counts, refused_book, accepted_book, summed_book, valued_book}
use Rattle.bookvalue.specs.laws.Placed.{placed_all_lem, each-alike}
use Rattle.bookvalue.specs.laws.Nodes.{Counted, few, counted}
use Rattle.bookvalue.specs.laws.Answers.{all_values, valued_by, sum_of, answer_of, FewCounted}

-- ---- the answer

pub answer_is : (value : ℕ → Outcome TreeValue) (desk : ℕ → ℕ) (n : ℕ) → answer_of (valued_by value n) desk n ≡ valued_book value desk n
unfolding answer_of valued_by valued_book on_book
answer_is value desk n = go (first_refused (λ i. refused_tree (value i)) n 0)
  where
    go : (k : BookCheck) → answer_of (on_book k Refused (Ok (all_values value n))) desk n ≡ on_book k refused_book (summed_book (all_values value n).values desk (all_values value n).counts n)
    go Passed = refl
    go (Err q) = refl

module _ (values : List Float) (desk : ℕ → ℕ) (counts : List ℕ) (n : ℕ) {added : BookOutcome Float} (e : added ≡ sum_of values n) where
  pub summed-sum : {x : Float} {totals : List ℕ} → added ≡ Ok x → totals ≡ desk_counts desk counts n → record { refusal = None; bond = 0; values = values; sum = x; counts = totals } ≡ summed_book values desk counts n
  unfolding summed_book sum_of on_book
  summed-sum {x} {totals} t c = go (first_refused (sum_check values) n 0) (sym t ∙ e)
    where
      go : (k : BookCheck) → Ok x ≡ on_book k Refused (Ok (sum_to values n)) → record { refusal = None; bond = 0; values = values; sum = x; counts = totals } ≡ on_book k refused_book (accepted_book values desk counts n)
      go Passed p = let q : x ≡ sum_to values n = cc in rw (q, c)
      go (Err q) p = absurd (let z : ◌≡◌ {A = ℕ} 0 1 = cc in omega arith)

  pub summed-refused : {q : RefusedBond} → added ≡ Err q → refused_book q.bond q.refusal ≡ summed_book values desk counts n
  unfolding summed_book sum_of on_book
  summed-refused {q} t = go (first_refused (sum_check values) n 0) (sym t ∙ e)
    where
      go : (k : BookCheck) → Err q ≡ on_book k Refused (Ok (sum_to values n)) → refused_book q.bond q.refusal ≡ on_book k refused_book (accepted_book values desk counts n)
      go Passed p = absurd (let z : ◌≡◌ {A = ℕ} 0 1 = cc in omega arith)
      go (Err r) p = let same : q ≡ record { bond = r.bond; refusal = r.refusal } = cc in ap (λ (z : RefusedBond). refused_book z.bond z.refusal) same

module _ {v : BookOutcome Valued} (desk : ℕ → ℕ) (n : ℕ) where
  pub answer-refused : {q : RefusedBond} → v ≡ Err q → refused_book q.bond q.refusal ≡ answer_of v desk n
  unfolding answer_of
  answer-refused e = sym (ap (λ (z : BookOutcome Valued). answer_of z desk n) e)

  pub answer-summed : {w : Valued} → v ≡ Ok w → summed_book w.values desk w.counts n ≡ answer_of v desk n
  unfolding answer_of
  answer-summed e = sym (ap (λ (z : BookOutcome Valued). answer_of z desk n) e)

-- ---- bonds of the same desks

pub desk-alike : (f g : ℕ → ℕ) (d : ℕ) (counts : List ℕ) (n : ℕ) → ((i : ℕ) → i < n → f i ≡ g i) → desk_to f d counts n ≡ desk_to g d counts n
unfolding desk_to
desk-alike f g d counts zero h = refl
desk-alike f g d counts (suc n) h = rw (h n (omega arith), desk-alike f g d counts n (λ i l. h i (omega arith)))

pub answers-alike : (v : BookOutcome Valued) (f g : ℕ → ℕ) (n : ℕ) → ((i : ℕ) → i < n → f i ≡ g i) → answer_of v f n ≡ answer_of v g n
unfolding answer_of summed_book
answers-alike (Ok v) f g n h = rw (each-alike (λ d. desk_to f d v.counts n) (λ d. desk_to g d v.counts n) 8 (λ d l. desk-alike f g d v.counts n h))
answers-alike (Err q) f g n h = refl

pub few-nodes : (value : ℕ → Outcome TreeValue) (n : ℕ) {v : BookOutcome Valued} → v ≡ valued_by value n → ((i : ℕ) → 3 * counted_by (value i) < 2 ^ 60) → FewCounted v
unfolding valued_by on_book
few-nodes value n {v} e h = rw e (go (first_refused (λ i. refused_tree (value i)) n 0))
  where
    go : (k : BookCheck) → FewCounted (on_book k Refused (Ok (all_values value n)))
    go Passed = record { each = placed_all_lem (λ i. counted_by (value i)) 0 (λ (k : ℕ). 3 * k < 2 ^ 60) n (λ i m. h i) (omega arith) }
    go (Err q) = tt

-- A tree in a slice of less than 2^60 probabilities.
pub few-of_tree : (m : Market) (calls : CallSchedule) (room : Room) → room.probabilities < 2 ^ 60 → 3 * counted_by (tree_value m calls room) < 2 ^ 60
few-of_tree m calls room h = go (tree_value m calls room) (counted room m calls)
  where
    go : (t : Outcome TreeValue) → Counted room t → 3 * counted_by t < 2 ^ 60
    go (Ok x) (few c) = omega arith
    go (Err q) c = omega arith
