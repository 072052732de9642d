-- A loop that fills a table from the front, each place by its own rule: what it knows at each place, and one turn. Assumes nothing.
use Prim.Native.Nat.{ℕ, ◌+◌, ◌<◌}
use native.Mathlib.Omega.{arith}
use borrow.Author.Count.{below_more}
use mathlib.Core.Path.{◌≡◌, ◌∙◌}
use mathlib.Core.List.{List}
use lib.ListN.{length, get_or, set, replicate, length-set, length-replicate}
use lib.Seq.{get_or-set_same, get_or-set_other}

-- The places before i hold what the rule f says.
pub record Filling {A : Type 0} (f : ℕ → A) (d : A) (size i : ℕ) (table : List A) : Type 0 where
  pub sized : length table ≡ size
  pub at : (k : ℕ) → k < i → get_or table k d ≡ f k

module _ {A : Type 0} (f : ℕ → A) (d : A) (size : ℕ) where
  pub begin : (v : A) → Filling f d size 0 (replicate size v)
  begin v = record { sized = length-replicate size v; at = λ k h. absurd (omega arith) }

  pub more : (i : ℕ) (table : List A) {v : A} → Filling f d size i table → i < size → v ≡ f i → Filling f d size (i + 1) (set table i v)
  more i table {v} s h e =
      record {
        sized = length-set table i v ∙ s.sized;
        at =
            below_more (λ k. get_or (set table i v) k d ≡ f k) i
            (λ k l. get_or-set_other table i k v d (λ (q : k ≡ i). omega arith) ∙ s.at k l)
            (get_or-set_same table i v d (omega (arith, s.sized)) ∙ e);
      }
