-- One bond's checks from their parts: the cut, then the checks of what was cut. Assumes nothing.
use Rattle.std.specs.Prelude.{ℕ, zero, suc, ◌+◌, ◌-◌, ◌≤◌, ◌<◌, ◌≡◌, refl, Bool, true, ◌&&◌, ◌||◌, List, [], ◌∷◌, ltb, length, get_or, Float, Ok, Err}
use Rattle.std.proofs.Common.{arith, sym, ◌∙◌, inl, inr, lt-ltb, le-ltb}
use Rattle.std.proofs.Math.Path.{ap}
use Rattle.floats.specs.Refusals.{Refusal}
use Rattle.floats.specs.Answers.{Check}
use Rattle.terms.specs.Terms.{CallSchedule, Market}
use Rattle.terms.specs.Checks.{on_check, first_of}
use Rattle.terms.specs.Entries.{tree_checks}
use Rattle.terms.specs.laws.Searching.{below_or_not}
use Rattle.bookchecks.specs.declared.Holding.{Holding}
use Rattle.bookchecks.specs.Book.{Shared, Lists, cut, amiss, market_of, calls_of}
use Rattle.bookchecks.specs.Checks.{leg_lengths, entry_lengths, cut_checks, bond_check}

-- Past the end of a list its default stands.
pub past : {A : Type 0} (xs : List A) (i : ℕ) (d : A) → length xs ≤ i → d ≡ get_or xs i d
past [] zero d h = refl
past [] (suc i) d h = refl
past (x ∷ xs) zero d h = absurd (omega arith)
past (x ∷ xs) (suc i) d h = past xs i d (omega arith)

-- A list that ends before a part begins, and one that doesn't.
pub amiss-before : (last : Bool) (from count n : ℕ) → n < from → true ≡ amiss last (from + count) n
amiss-before last from count n h = sym (ap (λ (b : Bool). b || (last && ltb (from + count) n)) (lt-ltb n (from + count) (omega arith)))

same_ltb : (a b c d : ℕ) → (a < b → c < d) → (b ≤ a → d ≤ c) → ltb a b ≡ ltb c d
same_ltb a b c d f g =
    elim (below_or_not a b) [
      | inl h ↦ lt-ltb a b h ∙ sym (lt-ltb c d (f h))
      | inr h ↦ le-ltb a b h ∙ sym (le-ltb c d (g h))
    ]

pub amiss-behind : (last : Bool) (from count n : ℕ) → from ≤ n → amiss last count (n - from) ≡ amiss last (from + count) n
amiss-behind last from count n h =
    let p : ltb (n - from) count ≡ ltb n (from + count) = same_ltb (n - from) count n (from + count) (λ k. omega arith) (λ k. omega arith) in
    let q : ltb count (n - from) ≡ ltb (from + count) n = same_ltb count (n - from) (from + count) n (λ k. omega arith) (λ k. omega arith) in
    rw (p, q)

module _ (s : Shared) (l : Lists) (h : Holding) {c : Check} (e : c ≡ first_of (cut_checks h (leg_lengths l.leg) (entry_lengths l.calls) (entry_lengths l.puts))) where
  pub bond-refused : {q : Refusal} → c ≡ Err q → c ≡ bond_check s l h
  unfolding bond_check on_check
  bond-refused {q} t = t ∙ ap (λ (z : Check). on_check z Err (tree_checks (market_of s l h) (calls_of l h))) (sym t ∙ e)

  -- The lists that were cut, and what the checks of the tree value say of them.
  pub bond-passed :
      {r : Check} {days kinds starts ends put-starts put-ends : List ℕ} {amounts strikes put-strikes : List Float}
      → c ≡ Ok tt
      → days ≡ cut h.cashflows l.leg.days → kinds ≡ cut h.cashflows l.leg.kinds → amounts ≡ cut h.cashflows l.leg.amounts
      → starts ≡ cut h.calls l.calls.starts → ends ≡ cut h.calls l.calls.ends → strikes ≡ cut h.calls l.calls.strikes
      → put-starts ≡ cut h.puts l.puts.starts → put-ends ≡ cut h.puts l.puts.ends → put-strikes ≡ cut h.puts l.puts.strikes
      → r ≡ tree_checks
      (record {
        settlement = record { day = s.day; code = h.code };
        bond = record {
          leg = record { days = days; kinds = kinds; amounts = amounts };
          units = h.units;
          puts = record { starts = put-starts; ends = put-ends; strikes = put-strikes };
        };
        controls = record { per_year = h.yearly; maximum = h.maximum };
        model = s.model;
        spread = h.spread;
        pillars = s.pillars;
      })
      (record { starts = starts; ends = ends; strikes = strikes })
      → r ≡ bond_check s l h
  unfolding bond_check on_check
  bond-passed t a b d f g i j k m p =
      (rw (a, b, d, f, g, i, j, k, m) at p) ∙ ap (λ (z : Check). on_check z Err (tree_checks (market_of s l h) (calls_of l h))) (sym t ∙ e)

  -- The same of the market and the calls that were cut.
  pub bond-cut : {r : Check} {m : Market} {calls : CallSchedule} → c ≡ Ok tt → m ≡ market_of s l h → calls ≡ calls_of l h → r ≡ tree_checks m calls → r ≡ bond_check s l h
  unfolding bond_check on_check
  bond-cut t a b p = (rw (a, b) at p) ∙ ap (λ (z : Check). on_check z Err (tree_checks (market_of s l h) (calls_of l h))) (sym t ∙ e)
