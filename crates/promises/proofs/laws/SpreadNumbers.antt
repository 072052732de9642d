-- What spread from price refuses with has a number of its list, on which 24 and 30 are not. Assumes nothing.
use Rattle.floats.specs.Reasons.{reason_number}
use Rattle.std.specs.Prelude.{ℕ, ◌≡◌, refl, List, ◌∷◌, T, Float, Ok, Err}
use Rattle.std.proofs.Math.Path.{subst}
use Rattle.std.specs.Float.Ieee.{binary64, of_bits, of_int, sub, neg, lt, le}
use Rattle.floats.specs.Refusals.{Refusal}
use Rattle.floats.specs.Answers.{Answer, one, not_finite, tested, Check, Outcome}
use Rattle.terms.specs.Numbers.{float, target_limit}
use Rattle.terms.specs.Terms.{CallSchedule}
use Rattle.terms.specs.Checks.{on_check}
use Rattle.terms.specs.Entries.{tree_checks, spread_checks}
use Rattle.terms.specs.laws.Limits.{one_finite}
use Rattle.terms.specs.laws.Ranges.{PlusMinus}
use Rattle.terms.specs.laws.TermChecks.{within-passed}
use Rattle.terms.specs.laws.TreeChecks.{tree-market}
use Rattle.lattice.specs.Layers.{Room}
use Rattle.treebasedbondpricer.specs.declared.TreeValue.{TreeValue}
use Rattle.treebasedbondpricer.specs.Tree.{tree_value}
use Rattle.brackets.specs.declared.Root.{Root}
use Rattle.brackets.specs.Brackets.{Searched, root_number}
use Rattle.floats.specs.laws.Cases.{Holds, of_cond}
use Rattle.sought.specs.Objectives.{first_lower, first_upper}
use Rattle.spreads.specs.Spreads.{Quoted, at_spread, quoted_checks, on_tree_value, spread_objective, solve_spread, spread_from_price}
use Rattle.promises.specs.RefusalNumbers.{Among, tree_refusals, spread_refusals, SpreadNumbers}
use Rattle.promises.proofs.laws.Converges.{Settles, converges}
use Rattle.promises.proofs.laws.Numbers.{one_of, one_more, on_check_lem}
use Rattle.promises.proofs.laws.TreeNumbers.{checks-tree, tree_numbers_lem}

abbrev SpreadAmong : ℕ → Type 0
SpreadAmong = Among spread_refusals

-- The tree value's are there too.
of_tree : (n : ℕ) → Among tree_refusals n → SpreadAmong n
of_tree n h = one_more 29 n (one_more 36 n h)

-- A tried spread with a value is within ±1; Q holds of the number of one that is refused.
abbrev Tried : (ℕ → Type 0) → Float → Answer → Type 0
Tried Q s (Ok y) = PlusMinus (float 1) s
Tried Q s (Err r) = Q (reason_number r.reason)

-- What has a value has passed its checks.
pub passed : (c : Check) (v : Outcome TreeValue) (x : Float) (n : ℕ) → on_check c Err v ≡ Ok (record { value = x; nodes = n }) → c ≡ Ok tt
unfolding on_check
passed (Ok tt) v x n e = refl
passed (Err r) v x n e = cc

module _ (asked : Quoted) (calls : CallSchedule) (room : Room) where
  abbrev difference : Float → Answer
  difference = spread_objective asked calls room

  valued : (s x : Float) (n : ℕ) → tree_value (at_spread asked s) calls room ≡ Ok (record { value = x; nodes = n }) → PlusMinus (float 1) s
  unfolding tree_value
  valued s x n e = within-passed (float 1) s one_finite (tree-market (at_spread asked s) calls (passed (tree_checks (at_spread asked s) calls) _ x n e)).spread

  module _ (Q : ℕ → Type 0) (of-27 : Q 27) (of-29 : Q 29) (of-36 : Q 36) (of_value_lem : (s : Float) (q : Refusal) → tree_value (at_spread asked s) calls room ≡ Err q → Q (reason_number q.reason)) where
    tried : (s : Float) → Holds (Tried Q s) (difference s)
    unfolding spread_objective on_tree_value
    tried s = of_cond (lt one s) _ _ (λ t. record { it = of-36 }) (λ t. over (tree_value (at_spread asked s) calls room) refl)
      where
        over : (v : Outcome TreeValue) → tree_value (at_spread asked s) calls room ≡ v → Holds (Tried Q s) (on_tree_value v Err λ x. tested (sub binary64 x asked.target) 0)
        over (Ok v) e = of_cond (not_finite (sub binary64 v.value asked.target)) _ _ (λ t. record { it = of-27 }) (λ t. record { it = valued s v.value v.nodes e })
        over (Err q) e = record { it = of_value_lem s q e }

    tried-within : (s y : Float) → difference s ≡ Ok y → T (le (neg one) s) × T (le s one)
    unfolding of_bits of_int
    tried-within s y e = let p = subst (Tried Q s) e (tried s).it in (p.at_least, p.at_most)

    tried-number : (s : Float) (r : Refusal) → difference s ≡ Err r → Q (reason_number r.reason)
    tried-number s r e = subst (Tried Q s) e (tried s).it

    -- What holds of 27, 29, 36 and of every number that a value call at a tried spread is refused with holds of what the solver is refused with.
    pub solved_with : Settles Q (solve_spread asked calls room)
    solved_with = converges Q of-27 of-29 difference tried-within tried-number first_lower first_upper (neg one)

  solved : Settles SpreadAmong (solve_spread asked calls room)
  solved = solved_with SpreadAmong (one_of 27 refl) (one_of 29 refl) (one_of 36 refl) (λ s q e. of_tree (reason_number q.reason) (tree_numbers_lem (at_spread asked s) calls room q e))

  spread-number : Settles SpreadAmong (spread_from_price asked calls room)
  unfolding spread_from_price spread_checks
  spread-number = (on_check_lem {P = Settles SpreadAmong} (quoted_checks asked calls) _ _ (checks-tree target_limit (at_spread asked asked.target) calls) (λ r l. record { it = of_tree (reason_number r.reason) l }) (record { it = solved })).it

pub spread-numbers : SpreadNumbers
spread-numbers asked calls room q n e = subst (Settles SpreadAmong) e (spread-number asked calls room)

-- A spread that is found has number 0.
pub or_0 : {ns : List ℕ} (r : Searched Root) → Settles (Among ns) r → Among (0 ∷ ns) (root_number r)
or_0 (Ok x) h = one_of 0 refl
or_0 (Err q) h = one_more 0 (reason_number q.refusal.reason) h

-- 24 is never given.
pub spread_never_24 : (asked : Quoted) (calls : CallSchedule) (room : Room) → root_number (spread_from_price asked calls room) ≡ 24 → ⊥
spread_never_24 asked calls room e = (subst (Among (0 ∷ spread_refusals)) e (or_0 (spread_from_price asked calls room) (spread-number asked calls room))).is_one

-- 30 is never given: every spread that has a value lies within ±1, where halving a bracket reaches 1e-14 in time.
pub spread_never_30 : (asked : Quoted) (calls : CallSchedule) (room : Room) → root_number (spread_from_price asked calls room) ≡ 30 → ⊥
spread_never_30 asked calls room e = (subst (Among (0 ∷ spread_refusals)) e (or_0 (spread_from_price asked calls room) (spread-number asked calls room))).is_one
