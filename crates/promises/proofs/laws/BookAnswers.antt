-- What a book's answer comes from: its checks, its values, its sum, or all of them passed; and which numbers its checks have. Assumes nothing.
use Rattle.bookchecks.specs.declared.RefusedBond.{RefusedBond}
use Rattle.floats.specs.declared.Reason.{Reason}
use Rattle.floats.specs.Reasons.{reason_number}
use Rattle.std.specs.Prelude.{ℕ, ◌≡◌, Bool, true, false, ◌||◌, ltb, List, [], ◌∷◌, ◌++◌, Float, get_or, Ok, Err}
use Rattle.std.proofs.Common.{arith, sym, ap, subst, ◌∙◌}
use Rattle.std.proofs.Math.Path.{refl}
use Rattle.floats.specs.Refusals.{Refusal}
use Rattle.floats.specs.Answers.{Answer, plus_zero, Check, Outcome}
use Rattle.terms.specs.Numbers.{float}
use Rattle.terms.specs.Terms.{CallSchedule, Market}
use Rattle.terms.specs.Checks.{on_check, first_of, single, outside, settings, day_count}
use Rattle.terms.specs.Entries.{most_checks, tree_counts, tree_days, tree_numbers, tree_orders, late_checks, market_checks, tree_checks}
use Rattle.lattice.specs.Layers.{Room}
use Rattle.treebasedbondpricer.specs.declared.TreeValue.{TreeValue}
use Rattle.treebasedbondpricer.specs.Tree.{tree_value_over, tree_value, curve_of, value_of, counted_by}
use Rattle.bookchecks.specs.declared.Holding.{Holding}
use Rattle.bookchecks.specs.Checks.{BookCheck}
use Rattle.bookchecks.specs.Checks as book
use Rattle.bookchecks.specs.Book.{Shared, Fields, Lists, Book, holding, market_of, calls_of}
use Rattle.bookchecks.specs.Checks.{leg_lengths, entry_lengths, cut_amiss, bond_check, first_refused, on_book, desk_check, book_checks}
use Rattle.bookchecks.proofs.laws.Naming.{FirstOf, first_refused_lem}
use Rattle.bookvalue.specs.declared.BookAnswer.{BookAnswer}
use Rattle.bookvalue.specs.Values.{refused_tree, placed, sum_check, desk_of, refused_book, accepted_book, summed_book, valued_book, book_by}
use Rattle.bookvalue.proofs.laws.Entered.{by_size, by_desks, by_bonds}
use Rattle.promises.specs.Books.{CheckedAlone, size}
use Rattle.promises.specs.RefusalNumbers.{Among, tree_refusals}
use Rattle.promises.proofs.laws.TreeNumbers.{tree_numbers_lem}
use Rattle.floats.specs.declared.Reason.TheVariants as reason

-- ---- the answer's causes

module _ (value : ℕ → Outcome TreeValue) (b : Book) where
  abbrev pub values_of : List Float
  values_of = placed plus_zero (λ i. value_of (value i)) (size b)

  abbrev pub counts_of : List ℕ
  counts_of = placed 0 (λ i. counted_by (value i)) (size b)

  pub data Cause : BookAnswer → Type 0 where
    by_checks : {bond : ℕ} {q : Refusal} → book_checks b ≡ book.Refused bond q → Cause (refused_book bond q)
    by_value : {bond : ℕ} {q : Refusal} → book_checks b ≡ book.Passed → first_refused (λ i. refused_tree (value i)) (size b) 0 ≡ book.Refused bond q → Cause (refused_book bond q)
    by_sum : {bond : ℕ} {q : Refusal} → book_checks b ≡ book.Passed → first_refused (λ i. refused_tree (value i)) (size b) 0 ≡ book.Passed → first_refused (sum_check values_of) (size b) 0 ≡ book.Refused bond q → Cause (refused_book bond q)
    all_passed : book_checks b ≡ book.Passed → first_refused (λ i. refused_tree (value i)) (size b) 0 ≡ book.Passed → first_refused (sum_check values_of) (size b) 0 ≡ book.Passed → Cause (accepted_book values_of (desk_of b) counts_of (size b))

  pub cause : Cause (book_by value b)
  unfolding book_by valued_book summed_book on_book
  cause = go (book_checks b) refl (first_refused (λ i. refused_tree (value i)) (size b) 0) refl (first_refused (sum_check values_of) (size b) 0) refl
    where
      go : (x : BookCheck) → book_checks b ≡ x → (y : BookCheck) → first_refused (λ i. refused_tree (value i)) (size b) 0 ≡ y → (z : BookCheck) → first_refused (sum_check values_of) (size b) 0 ≡ z
          → Cause (on_book x refused_book (on_book y refused_book (on_book z refused_book (accepted_book values_of (desk_of b) counts_of (size b)))))
      go (Err w) e y f z g = by_checks e
      go book.Passed e (Err w) f z g = by_value e f
      go book.Passed e book.Passed f (Err w) g = by_sum e f g
      go book.Passed e book.Passed f book.Passed g = all_passed e f g

  -- From all three, the answer.
  pub answer_of_all : book_checks b ≡ book.Passed → first_refused (λ i. refused_tree (value i)) (size b) 0 ≡ book.Passed → first_refused (sum_check values_of) (size b) 0 ≡ book.Passed → book_by value b ≡ accepted_book values_of (desk_of b) counts_of (size b)
  unfolding book_by valued_book summed_book on_book
  answer_of_all e f g = rw (e, f, g)

  pub answer_of-checks : {bond : ℕ} {q : Refusal} → book_checks b ≡ book.Refused bond q → book_by value b ≡ refused_book bond q
  unfolding book_by on_book
  answer_of-checks e = rw e

-- ---- a bond's checks

-- Two refused bonds that are one have one refusal.
same_refusal : {a b : RefusedBond} → ◌≡◌ {A = BookCheck} (Err a) (Err b) → a.refusal ≡ b.refusal
same_refusal {a} {b} e = let p : a ≡ b = cc in ap (λ (x : RefusedBond). x.refusal) p

-- Settings and day count come first among the tree value's checks too.
settings_first : (a c r : Check) → on_check (on_check a Err (on_check c Err (Ok tt))) Err (on_check a Err (on_check c Err r)) ≡ on_check a Err (on_check c Err r)
unfolding on_check
settings_first (Ok _) (Ok _) r = refl
settings_first (Ok _) (Err q) r = refl
settings_first (Err q) c r = refl

later-checks : Market → CallSchedule → Check
later-checks m calls =
    first_of
    (tree_counts m.bond.leg calls m.bond.puts m.model.sigma m.pillars
    ++ most_checks m.bond.puts
    ++ tree_days m.settlement.day m.bond.leg calls m.bond.puts m.pillars
    ++ tree_numbers (float 1) m.bond.units m.model.alpha m.spread m.bond.leg calls m.bond.puts m.model.sigma m.pillars
    ++ tree_orders m.settlement.day m.bond.leg calls m.bond.puts m.model.sigma
    ++ late_checks m.settlement m.bond.leg m.pillars)

tree-later : (m : Market) (calls : CallSchedule) → tree_checks m calls ≡ on_check (settings m.controls) Err (on_check (day_count m.settlement.code) Err (later-checks m calls))
unfolding tree_checks market_checks first_of later-checks
tree-later m calls = refl

cut-passes : (h : Holding) (u w : Bool) → u ≡ false → w ≡ false
    → first_of (single reason.Count 0 u ∷ settings (record { per_year = h.yearly; maximum = h.maximum }) ∷ day_count h.code ∷ single reason.Count 0 w ∷ [])
    ≡ on_check (settings (record { per_year = h.yearly; maximum = h.maximum })) Err (on_check (day_count h.code) Err (Ok tt))
unfolding first_of on_check
cut-passes h u w e f = rw (e, f)

bond-alone : (s : Shared) (l : Lists) (h : Holding) → h.unset ≡ false → cut_amiss h (leg_lengths l.leg) (entry_lengths l.calls) (entry_lengths l.puts) ≡ false → bond_check s l h ≡ tree_checks (market_of s l h) (calls_of l h)
unfolding bond_check
bond-alone s l h u w =
    let a = settings (record { per_year = h.yearly; maximum = h.maximum }) in
    let c = day_count h.code in
    ap (λ (z : Check). on_check z Err (tree_checks (market_of s l h) (calls_of l h))) (cut-passes h h.unset (cut_amiss h (leg_lengths l.leg) (entry_lengths l.calls) (entry_lengths l.puts)) u w)
    ∙ ap (λ (t : Check). on_check (on_check a Err (on_check c Err (Ok tt))) Err t) (tree-later (market_of s l h) (calls_of l h))
    ∙ settings_first a c (later-checks (market_of s l h) (calls_of l h))
    ∙ sym (tree-later (market_of s l h) (calls_of l h))

pub checked-alone : CheckedAlone
checked-alone b i a = bond-alone b.shared b.lists (holding b i) a.set a.whole

-- What the checks refuse the tree value refuses, over any curve.
pub refused_by_check : (curve : Float → ℕ → Answer) (m : Market) (calls : CallSchedule) (room : Room) {q : Refusal} → tree_checks m calls ≡ Err q → tree_value_over curve m calls room ≡ Err q
unfolding tree_value_over on_check
refused_by_check curve m calls room e = rw e

-- A bond's refusal is 2, 1 or 33, or that of the bond alone.
pub data CheckNumber (m : Market) (calls : CallSchedule) (q : Refusal) : Type 0 where
  of_cut : reason_number q.reason ≡ 2 → CheckNumber m calls q
  of_settings : reason_number q.reason ≡ 1 → CheckNumber m calls q
  of_day-count : reason_number q.reason ≡ 33 → CheckNumber m calls q
  of_tree : tree_checks m calls ≡ Err q → CheckNumber m calls q

pub check_number : (s : Shared) (l : Lists) (h : Holding) {q : Refusal} → bond_check s l h ≡ Err q → CheckNumber (market_of s l h) (calls_of l h) q
unfolding bond_check first_of on_check
check_number s l h {q} e =
    go h.unset (outside 1 366 h.yearly || outside 1 512 h.maximum) (ltb 2 h.code) (cut_amiss h (leg_lengths l.leg) (entry_lengths l.calls) (entry_lengths l.puts)) e
  where
    tree : Check
    tree = tree_checks (market_of s l h) (calls_of l h)

    is : {n : Reason} → ◌≡◌ {A = Check} (Err (record { reason = n; place = 0 })) (Err q) → reason_number q.reason ≡ reason_number n
    is {n} e = let p : record { reason = n; place = 0 } ≡ q = cc in sym (ap (λ (r : Refusal). reason_number r.reason) p)

    go : (u a c w : Bool) → on_check (first_of (single reason.Count 0 u ∷ single reason.Setting 0 a ∷ single reason.DayCount 0 c ∷ single reason.Count 0 w ∷ [])) Err tree ≡ Err q → CheckNumber (market_of s l h) (calls_of l h) q
    go true a c w e = of_cut (is e)
    go false true c w e = of_settings (is e)
    go false false true w e = of_day-count (is e)
    go false false false true e = of_cut (is e)
    go false false false false e = of_tree e

-- ---- 0 is no refusal's number

room_of-none : Room
room_of-none = record { nodes = 0; probabilities = 0; first = 0; second = 0 }

pub tree_not_0 : (m : Market) (calls : CallSchedule) (room : Room) {q : Refusal} → tree_value m calls room ≡ Err q → reason_number q.reason ≡ 0 → ⊥
tree_not_0 m calls room {q} e z = (subst (Among tree_refusals) z (tree_numbers_lem m calls room q e)).is_one

tree_check_refused : (m : Market) (calls : CallSchedule) (room : Room) {q : Refusal} → tree_checks m calls ≡ Err q → tree_value m calls room ≡ Err q
unfolding tree_value
tree_check_refused m calls room e = refused_by_check (curve_of m) m calls room e

pub check_not_0 : {m : Market} {calls : CallSchedule} {q : Refusal} → CheckNumber m calls q → reason_number q.reason ≡ 0 → ⊥
check_not_0 (of_cut e) z = omega arith
check_not_0 (of_settings e) z = omega arith
check_not_0 (of_day-count e) z = omega arith
check_not_0 {m} {calls} (of_tree e) z = tree_not_0 m calls room_of-none (tree_check_refused m calls room_of-none e) z

-- What the checks of a book refuse: the size, a desk, or a bond.
pub data Checked (b : Book) (bond : ℕ) (q : Refusal) : Type 0 where
  of_size : q ≡ record { reason = reason.BookSize; place = 0 } → Checked b bond q
  of_desk_lem : q ≡ record { reason = reason.Desk; place = 0 } → Checked b bond q
  of_bond : FirstOf (λ i. bond_check b.shared b.lists (holding b i)) (size b) bond q → Checked b bond q

desk_40 : (f : Fields) (i : ℕ) {q : Refusal} → desk_check f i ≡ Err q → q ≡ record { reason = reason.Desk; place = 0 }
desk_40 f i {q} e = go (ltb 7 (get_or f.desks i 0)) e
  where
    go : (w : Bool) → single reason.Desk 0 w ≡ Err q → q ≡ record { reason = reason.Desk; place = 0 }
    go true e = let p : record { reason = reason.Desk; place = 0 } ≡ q = cc in sym p
    go false e = absurd (let z : ◌≡◌ {A = ℕ} 0 1 = cc in omega arith)

pub checks-refused : (b : Book) {bond : ℕ} {q : Refusal} → book_checks b ≡ book.Refused bond q → Checked b bond q
checks-refused b {bond} {q} e = go (outside 1 32 (size b)) refl
  where
    go_desks : outside 1 32 (size b) ≡ false → (d : BookCheck) → first_refused (desk_check b.fields) (size b) 0 ≡ d → Checked b bond q
    go_desks f book.Passed d = of_bond (first_refused_lem _ (size b) (sym (by_bonds b f d) ∙ e))
    go_desks f (Err w) d =
        let p : ◌≡◌ {A = BookCheck} (Err w) (book.Refused bond q) = sym (by_desks b f d) ∙ e in
        let s : w.refusal ≡ q = same_refusal p in
        of_desk_lem (sym s ∙ desk_40 b.fields w.bond (first_refused_lem _ (size b) d).refused)

    go : (o : Bool) → outside 1 32 (size b) ≡ o → Checked b bond q
    go true f = of_size (let p : ◌≡◌ {A = BookCheck} (book.Refused 0 (record { reason = reason.BookSize; place = 0 })) (book.Refused bond q) = sym (by_size b f) ∙ e in sym (same_refusal p))
    go false f = go_desks f (first_refused (desk_check b.fields) (size b) 0) refl

pub checks_not_0 : (b : Book) {bond : ℕ} {q : Refusal} → book_checks b ≡ book.Refused bond q → reason_number q.reason ≡ 0 → ⊥
checks_not_0 b {bond} {q} e z = go (checks-refused b e)
  where
    go : Checked b bond q → ⊥
    go (of_size f) = let n : reason_number q.reason ≡ 39 = ap (λ (r : Refusal). reason_number r.reason) f in omega arith
    go (of_desk_lem f) = let n : reason_number q.reason ≡ 40 = ap (λ (r : Refusal). reason_number r.reason) f in omega arith
    go (of_bond f) = check_not_0 (check_number b.shared b.lists (holding b bond) f.refused) z
