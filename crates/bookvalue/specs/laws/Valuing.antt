-- The loop that values the bonds one after the other: what it knows before each, one turn, and its ends. Assumes nothing.
use Rattle.std.specs.Prelude.{ℕ, ◌+◌, ◌≤◌, ◌<◌, ◌≡◌, List, set, replicate, Float, Ok, Err}
use Rattle.std.proofs.Common.{arith, ◌∙◌}
use Rattle.std.proofs.Math.Path.{refl, sym, ap}
use Rattle.floats.specs.Answers.{plus_zero, Outcome}
use Rattle.lattice.specs.Layers.{Room}
use Rattle.treebasedbondpricer.specs.declared.TreeValue.{TreeValue}
use Rattle.treebasedbondpricer.specs.Tree.{value_of, counted_by}
use Rattle.bookchecks.specs.declared.Holding.{Holding}
use Rattle.bookchecks.specs.declared.RefusedBond.{RefusedBond}
use Rattle.bookchecks.specs.Book.{Shared, Lists}
use Rattle.bookchecks.specs.Checks.{BookOutcome, BookCheck, Refused, at_bond, on_book}
use Rattle.bookchecks.proofs.laws.Naming.{Naming, begin, turn, found, done, value_of_bond, refused_of}
use Rattle.bookvalue.specs.Values.{refused_tree, placed}
use Rattle.bookvalue.specs.laws.Placed.{placed-begin, placed_more}
use Rattle.bookvalue.specs.laws.Answers.{all_values, valued_by, tree_of, values_of}

-- The bonds before i are valued, none refused; the slices are as long as they were.
pub record Valuing (s : Shared) (l : Lists) (held : ℕ → Holding) (start : Room) (size i : ℕ) (values : List Float) (counts : List ℕ) (room : Room) : Type 0 where
  pub none : Naming (λ k. refused_tree (tree_of s l start (held k))) size i
  pub values_are : values ≡ placed plus_zero (λ k. value_of (tree_of s l start (held k))) i
  pub counts_are : counts ≡ placed 0 (λ k. counted_by (tree_of s l start (held k))) i
  pub as_long : room ≡ start

module _ (s : Shared) (l : Lists) (held : ℕ → Holding) (start : Room) (size : ℕ) where
  pub value-begin : Valuing s l held start size 0 (replicate 32 plus_zero) (replicate 32 0) start
  value-begin =
      record {
        none = begin _ size;
        values_are = placed-begin (λ k. value_of (tree_of s l start (held k))) plus_zero;
        counts_are = placed-begin (λ k. counted_by (tree_of s l start (held k))) 0;
        as_long = refl;
      }

  module _ (i : ℕ) (values : List Float) (counts : List ℕ) {room : Room} {worth : Outcome TreeValue} (v : Valuing s l held start size i values counts room) (h : i < size) (e : worth ≡ tree_of s l room (held i)) where
    is_here : worth ≡ tree_of s l start (held i)
    is_here = e ∙ ap (λ (r : Room). tree_of s l r (held i)) v.as_long

    pub value_more : {u : BookOutcome TreeValue} {t : TreeValue} {next : Room} → size ≤ 32 → u ≡ at_bond i worth → u ≡ Ok t → next ≡ room → Valuing s l held start size (i + 1) (set values i t.value) (set counts i t.nodes) next
    value_more {u} {t} k o p same =
        let w : tree_of s l start (held i) ≡ Ok t = sym is_here ∙ value_of_bond i worth (sym o ∙ p) in
        record {
          none = turn _ size i v.none h refl (ap refused_tree w);
          values_are = placed_more (λ k. value_of (tree_of s l start (held k))) plus_zero i values (omega arith) v.values_are (sym (ap value_of w));
          counts_are = placed_more (λ k. counted_by (tree_of s l start (held k))) 0 i counts (omega arith) v.counts_are (sym (ap counted_by w));
          as_long = same ∙ v.as_long;
        }

    pub value-refused : {u : BookOutcome TreeValue} {q : RefusedBond} → u ≡ at_bond i worth → u ≡ Err q → Err q ≡ values_of s l held start size
    unfolding valued_by on_book
    value-refused {u} {q} o p =
        let r = refused_of i worth q (sym o ∙ p) in
        let w : tree_of s l start (held i) ≡ Err q.refusal = sym is_here ∙ r.refused in
        ap Err r.named ∙ ap (λ (k : BookCheck). on_book k Refused (Ok (all_values (λ k. tree_of s l start (held k)) size))) (found _ size i v.none h refl (ap refused_tree w))

  pub values-done : (i : ℕ) (values : List Float) (counts : List ℕ) {room : Room} → Valuing s l held start size i values counts room → size ≤ i → Ok (record { values = values; counts = counts }) ≡ values_of s l held start size
  unfolding valued_by on_book
  values-done i values counts v h =
      let e : i ≡ size = omega (arith, v.none.within) in
      rw (v.values_are, v.counts_are, e)
      (ap (λ (k : BookCheck). on_book k Refused (Ok (all_values (λ k. tree_of s l start (held k)) size))) (done _ size i v.none h))

-- Slices as long are the same room.
pub same_room : {a b c d e f g h : ℕ} → a ≡ b → c ≡ d → e ≡ f → g ≡ h → ◌≡◌ {A = Room} (record { nodes = a; probabilities = c; first = e; second = g }) (record { nodes = b; probabilities = d; first = f; second = h })
same_room p q r s = rw (p, q, r, s)
