-- The promises of the closing sheet's lines. Assumes nothing.
use Rattle.floats.specs.Reasons.{reason_number}
use Rattle.std.specs.Prelude.{ℕ, ◌≤◌, ◌<◌, ◌≡◌, refl, ◌↔◌, ◌⊎◌, Bool, true, false, cond, ◌&&◌, List, [], ◌∷◌, T, eqb, ltb, length, drop, Float, Ok, Err}
use Rattle.std.proofs.Common.{sym, ap, subst, ◌∙◌, inl, inr, arith, lt-ltb, le-ltb, eqb→eq, ltb→lt, length-drop, get_or-take, get_or-drop, length-take-le, ext_get_or}
use Rattle.std.specs.Float.Ieee.{le}
use Rattle.std.specs.Float.Ieee.Fits.{and_l, and_r}
use Rattle.std.specs.Float.Ieee as ieee
use Rattle.floats.specs.Refusals.{Refusal}
use Rattle.floats.specs.Answers.{on_outcome, Outcome}
use Rattle.floats.specs.Whole.{rounded}
use Rattle.floats.specs.laws.Fractions.{or_r, or_split}
use Rattle.rounded.specs.laws.RoundToOdd.{ordered}
use Rattle.elementary.specs.Exponential.{exp_at}
use Rattle.elementary.specs.Logarithm.{ln_at}
use Rattle.bondreport.specs.Columns.{put_at}
use Rattle.bondreport.specs.Numbers.{byte_left, digits_left, width_of, whole_left}
use Rattle.bondreport.specs.Figures.{point_left, minus_left}
use Rattle.terms.specs.Terms.{Bond, Market, no_entries}
use Rattle.terms.specs.Numbers.{float}
use Rattle.terms.specs.Checks.{lowest, on_check}
use Rattle.bondevents.specs.Steps.{raw_step, paid_into}
use Rattle.lattice.specs.Layers.{Room}
use Rattle.lattice.specs.laws.Proper.{Each, none, more}
use Rattle.treebasedbondpricer.specs.declared.TreeValue.{TreeValue}
use Rattle.treebasedbondpricer.specs.Tree.{tree_value, room_of, lent_after, number_of}
use Rattle.treebasedbondpricer.specs.CallLists.{NoLowerOr27, accepted, refused_27}
use Rattle.treebasedbondpricer.proofs.laws.CallLists.{call_list_rule}
use Rattle.closingsheet.specs.declared.NumberedRefusal.{NumberedRefusal}
use Rattle.closingsheet.specs.declared.ClosingLine.{ClosingLine}
use Rattle.closingsheet.specs.Cells.{printed_of, value_cell}
use Rattle.closingsheet.specs.Sheet.{NumberedAnswer, at, with_number, by_number, sheet_number, refused_sheet, shown_sheet, value_sheet, answer_sheet, no_sheet, sheet_by, sheet_of}
use Rattle.closingsheet.specs.Shown.{ValueColumns, RefusedColumns, read_back, HalfCent, NoLower}
use Rattle.closingsheet.specs.laws.Columns.{value_columns_lem, refused-columns, cell-length}
use Rattle.closingsheet.specs.laws.HalfCents.{within_half_a_cent, printed-no_lower, half_to_even}
use Rattle.closingsheet.specs.laws.Halves.{nothing_else}
use Rattle.promises.specs.RefusalNumbers.{member, Among, tree_refusals, Met}
use Rattle.promises.specs.Examples.{market99, no_calls, lent}
use Rattle.promises.specs.ClosingSheet.{value_columns, value_shown, NoLine, RefusalShown, ValueShown, Line, EveryLine, LastExample, sheet_refusals, LineNumbers, MetOnSheet, EachMetOnSheet, LineCallListRule, HalfToEven, OnlyTheValue, OnlyTheValueOf}
use Rattle.promises.proofs.laws.TreeNumbers.{tree_numbers_lem}
use Rattle.promises.proofs.laws.NumbersMet.{each_met}

-- ---- a line in range shows a refusal, or 32, or a value

pub data Shows (bond : ℕ) : NumberedAnswer → ClosingLine → Type 0 where
  a_refusal : {q : NumberedRefusal} → Shows bond (Err q) (refused_sheet bond q)
  too_wide : {x : Float} {n : ℕ} → ((value_cell x).wide ≡ true) ⊎ (99999999 < n) → Shows bond (Ok (record { value = x; nodes = n })) (refused_sheet bond (at 32 0))
  a_value : {x : Float} {n : ℕ} → (value_cell x).wide ≡ false → n ≤ 99999999 → Shows bond (Ok (record { value = x; nodes = n })) (shown_sheet bond n (value_cell x).cell)

decided : (b : Bool) → (b ≡ true) ⊎ (b ≡ false)
decided true = inl refl
decided false = inr refl

both : (n : ℕ) → n ≤ 99999999 → 99999999 < n → ⊥
both n h l = omega arith

value-shows : (bond : ℕ) (x : Float) (n : ℕ) → Shows bond (Ok (record { value = x; nodes = n })) (value_sheet bond (value_cell x) n)
value-shows bond x n = go (decided (value_cell x).wide) (ordered n 99999999)
  where
    r32 : ClosingLine
    r32 = refused_sheet bond (at 32 0)

    shown : ClosingLine
    shown = shown_sheet bond n (value_cell x).cell

    go : ((value_cell x).wide ≡ true) ⊎ ((value_cell x).wide ≡ false) → (n ≤ 99999999) ⊎ (99999999 < n) → Shows bond (Ok (record { value = x; nodes = n })) (value_sheet bond (value_cell x) n)
    go (inl w) o = subst (λ (b : Bool). Shows bond (Ok (record { value = x; nodes = n })) (cond b r32 (cond (ltb 99999999 n) r32 shown))) (sym w) (too_wide (inl w))
    go (inr w) (inl h) =
        subst (λ (b : Bool). Shows bond (Ok (record { value = x; nodes = n })) (cond b r32 (cond (ltb 99999999 n) r32 shown))) (sym w)
        (subst (λ (b : Bool). Shows bond (Ok (record { value = x; nodes = n })) (cond b r32 shown)) (sym (le-ltb 99999999 n h)) (a_value w h))
    go (inr w) (inr h) =
        subst (λ (b : Bool). Shows bond (Ok (record { value = x; nodes = n })) (cond b r32 (cond (ltb 99999999 n) r32 shown))) (sym w)
        (subst (λ (b : Bool). Shows bond (Ok (record { value = x; nodes = n })) (cond b r32 shown)) (sym (lt-ltb 99999999 n h)) (too_wide (inr h)))

pub shows : (bond : ℕ) (v : NumberedAnswer) → 1 ≤ bond → bond ≤ 999999 → Shows bond v (sheet_of bond v)
unfolding sheet_by answer_sheet
shows bond v f l =
    subst (λ (b : Bool). Shows bond v (cond b no_sheet (cond (ltb 999999 bond) no_sheet (answer_sheet value_cell bond v)))) (sym (le-ltb bond 1 f))
    (subst (λ (b : Bool). Shows bond v (cond b no_sheet (answer_sheet value_cell bond v))) (sym (le-ltb 999999 bond l)) (go v))
  where
    go : (v : NumberedAnswer) → Shows bond v (answer_sheet value_cell bond v)
    go (Ok v) = value-shows bond v.value v.nodes
    go (Err q) = a_refusal

no_line : (bond : ℕ) (v : NumberedAnswer) → (bond < 1) ⊎ (999999 < bond) → sheet_of bond v ≡ no_sheet
unfolding sheet_by
no_line bond v (inl h) = ap (λ (b : Bool). cond b no_sheet (cond (ltb 999999 bond) no_sheet (answer_sheet value_cell bond v))) (lt-ltb bond 1 h)
no_line bond v (inr h) = either (ltb bond 1) (ap (λ (b : Bool). cond b no_sheet (answer_sheet value_cell bond v)) (lt-ltb 999999 bond h))
  where
    either : {s : ClosingLine} (b : Bool) → s ≡ no_sheet → cond b no_sheet s ≡ no_sheet
    either true e = refl
    either false e = e

-- ---- every input

-- No refusal of the tree value has a number of more than four digits.
abbrev few_in : List ℕ → Bool
few_in [] = true
few_in (k ∷ ks) = ltb k 10000 && few_in ks

few_in_lem : (ns : List ℕ) → T (few_in ns) → (n : ℕ) → T (member n ns) → n ≤ 9999
few_in_lem [] t n h = absurd h
few_in_lem (k ∷ ks) t n h =
    let most = ltb→lt k 10000 (and_l (ltb k 10000) (few_in ks) t) in
    elim (or_split (eqb n k) (member n ks) h) [
      | inl e ↦ subst (λ (z : ℕ). z ≤ 9999) (sym (eqb→eq n k e)) (omega arith)
      | inr r ↦ few_in_lem ks (and_r (ltb k 10000) (few_in ks) t) n r
    ]

few : (n : ℕ) → Among tree_refusals n → n ≤ 9999
few n h = few_in_lem tree_refusals tt n h.is_one

few_by_number : (w : Outcome TreeValue) → ((q : Refusal) → w ≡ Err q → reason_number q.reason ≤ 9999) → (q : NumberedRefusal) → by_number w ≡ Err q → q.number ≤ 9999
few_by_number (Ok v) p q e = absurd (let z : ◌≡◌ {A = ℕ} 0 1 = cc in omega arith)
few_by_number (Err r) p q e = let same : with_number r ≡ q = cc in subst (λ (z : NumberedRefusal). z.number ≤ 9999) same (p r refl)

value-back : (bond n : ℕ) (cell line : List ℕ) → length cell ≡ 16 → ValueColumns bond n cell line → value_columns line ≡ cell
value-back bond n cell line l c =
    ext_get_or 0 (value_columns line) cell (sixteen ∙ sym l)
    λ i h. get_or-take 16 (drop 6 line) i 0 (omega (arith, sixteen)) ∙ get_or-drop 6 line i 0 ∙ c.value i (omega (arith, sixteen))
  where
    sixteen : length (value_columns line) ≡ 16
    sixteen = length-take-le 16 (drop 6 line) (omega (arith, length-drop 6 line, c.size))

module _ (bond : ℕ) where
  shown-columns : (x : Float) (n : ℕ) → n ≤ 99999999 → ValueColumns bond n (value_cell x).cell (shown_sheet bond n (value_cell x).cell).line
  shown-columns x n h = value_columns_lem bond n (value_cell x).cell h (cell-length (printed_of x))

  shown-back : (x : Float) (n : ℕ) → n ≤ 99999999 → value_shown (shown_sheet bond n (value_cell x).cell).line ≡ read_back (value_cell x).cell
  shown-back x n h =
      ap read_back (value-back bond n (value_cell x).cell (shown_sheet bond n (value_cell x).cell).line (cell-length (printed_of x)) (shown-columns x n h))

  value_shown_lem : (x : Float) (n : ℕ) → (value_cell x).wide ≡ false → n ≤ 99999999 → ValueShown bond x n (shown_sheet bond n (value_cell x).cell)
  value_shown_lem x n w h =
      record { refusal = refl; line = shown-columns x n h; near = subst (HalfCent x) (sym (shown-back x n h)) (within_half_a_cent x w) }

  refusal-shown : (q : NumberedRefusal) → q.number ≤ 9999 → RefusalShown bond q (refused_sheet bond q)
  refusal-shown q h = record { refusal = refl; line = refused-columns bond q h }

  -- What a line in range shows of an answer whose refusals have at most four digits.
  line_of : (v : NumberedAnswer) → ((q : NumberedRefusal) → v ≡ Err q → q.number ≤ 9999) → Line bond v (sheet_of bond v)
  line_of v refusals =
      record {
        out_of_range = λ o. subst NoLine (sym (no_line bond v o)) (record { refusal = refl; line = refl });
        refused = λ f l q e. subst (λ (z : NumberedAnswer). RefusalShown bond q (sheet_of bond z)) (sym e) (by_refusal q (sheet_of bond (Err q)) (shows bond (Err q) f l) (refusals q e));
        too_wide = λ f l x n e o. subst (λ (z : NumberedAnswer). RefusalShown bond (at 32 0) (sheet_of bond z)) (sym e) (by_32 x n (sheet_of bond (Ok (record { value = x; nodes = n }))) (shows bond (Ok (record { value = x; nodes = n })) f l) o);
        shown = λ f l x n e w h. subst (λ (z : NumberedAnswer). ValueShown bond x n (sheet_of bond z)) (sym e) (by_value x n (sheet_of bond (Ok (record { value = x; nodes = n }))) (shows bond (Ok (record { value = x; nodes = n })) f l) w h);
      }
    where
      by_refusal : (q : NumberedRefusal) (r : ClosingLine) → Shows bond (Err q) r → q.number ≤ 9999 → RefusalShown bond q r
      by_refusal q r a_refusal h = refusal-shown q h

      by_32 : (x : Float) (n : ℕ) (r : ClosingLine) → Shows bond (Ok (record { value = x; nodes = n })) r → ((value_cell x).wide ≡ true) ⊎ (99999999 < n) → RefusalShown bond (at 32 0) r
      by_32 x n r (too_wide p) o = refusal-shown (at 32 0) (omega arith)
      by_32 x n r (a_value w h) (inl v) = absurd (subst T (sym v ∙ w) tt)
      by_32 x n r (a_value w h) (inr l) = absurd (both n h l)

      by_value : (x : Float) (n : ℕ) (r : ClosingLine) → Shows bond (Ok (record { value = x; nodes = n })) r → (value_cell x).wide ≡ false → n ≤ 99999999 → ValueShown bond x n r
      by_value x n r (too_wide (inl v)) w h = absurd (subst T (sym v ∙ w) tt)
      by_value x n r (too_wide (inr l)) w h = absurd (both n h l)
      by_value x n r (a_value v k) w h = value_shown_lem x n w h

pub every-line : EveryLine
every-line bond m calls r before after f = (
  subst (Line bond (by_number (tree_value m calls (room_of before)))) (sym f.sheet)
      (line_of bond (by_number (tree_value m calls (room_of before)))
      (few_by_number (tree_value m calls (room_of before)) λ q e. few (reason_number q.reason) (tree_numbers_lem m calls (room_of before) q e))),
  f.slices,
)

-- ---- 01's last example with a value, as bond 1

pub last_example : LastExample
unfolding put_at byte_left digits_left width_of whole_left point_left minus_left printed_of answer_sheet sheet_by tree_value lent_after rounded exp_at ln_at on_outcome on_check lowest raw_step paid_into ieee.of_bits ieee.add ieee.sub ieee.mul ieee.div ieee.neg ieee.lt ieee.le ieee.of_int ieee.to_unsigned
last_example = record { sheet = refl; slices = refl }

-- ---- which numbers a line ends in

-- One of a list is one of a longer one.
among_more : (k n : ℕ) (ks : List ℕ) → Among ks n → Among (k ∷ ks) n
among_more k n ks h = record { is_one = or_r (eqb n k) (member n ks) h.is_one }

of_tree : (n : ℕ) → Among tree_refusals n → Among (0 ∷ sheet_refusals) n
of_tree n h = among_more 0 n sheet_refusals (among_more 31 n (32 ∷ tree_refusals) (among_more 32 n tree_refusals h))

pub line-numbers : LineNumbers
line-numbers bond m calls room = go (ordered 1 bond) (ordered bond 999999)
  where
    v : Outcome TreeValue
    v = tree_value m calls room

    none : (bond < 1) ⊎ (999999 < bond) → Among (0 ∷ sheet_refusals) (sheet_number (sheet_of bond (by_number v)).refusal)
    none o = subst (λ (s : ClosingLine). Among (0 ∷ sheet_refusals) (sheet_number s.refusal)) (sym (no_line bond (by_number v) o)) (record { is_one = tt })

    by : (w : Outcome TreeValue) (r : ClosingLine) → Shows bond (by_number w) r → ((q : Refusal) → w ≡ Err q → Among tree_refusals (reason_number q.reason)) → Among (0 ∷ sheet_refusals) (sheet_number r.refusal)
    by (Err q) r a_refusal p = of_tree (reason_number q.reason) (p q refl)
    by (Ok x) r (too_wide o) p = record { is_one = tt }
    by (Ok x) r (a_value w h) p = record { is_one = tt }

    go : (1 ≤ bond) ⊎ (bond < 1) → (bond ≤ 999999) ⊎ (999999 < bond) → Among (0 ∷ sheet_refusals) (sheet_number (sheet_of bond (by_number v)).refusal)
    go (inl f) (inl l) = by v (sheet_of bond (by_number v)) (shows bond (by_number v) f l) (tree_numbers_lem m calls room)
    go (inr f) o = none (inl f)
    go (inl f) (inr l) = none (inr l)

-- Two redemptions of 10^12 are too wide.
abbrev trillions : Bond
trillions = record { leg = record { days = 365 ∷ 365 ∷ []; kinds = 1 ∷ 1 ∷ []; amounts = float 1000000000000 ∷ float 1000000000000 ∷ [] }; units = float 100; puts = no_entries }

abbrev wide_market : Market
wide_market = record { settlement = market99.settlement; bond = trillions; controls = market99.controls; model = market99.model; spread = market99.spread; pillars = market99.pillars }

met_31 : MetOnSheet 31
unfolding sheet_by
met_31 = record { bond = 0; market = market99; calls = no_calls; room = room_of lent; ends_in = refl }

met_32 : MetOnSheet 32
unfolding printed_of answer_sheet sheet_by tree_value rounded exp_at ln_at on_outcome on_check lowest raw_step paid_into ieee.of_bits ieee.add ieee.sub ieee.mul ieee.div ieee.neg ieee.lt ieee.le ieee.of_int ieee.to_unsigned
met_32 = record { bond = 1; market = wide_market; calls = no_calls; room = room_of lent; ends_in = refl }

-- A number that the tree value is refused with is bond 1's.
met_by_tree : {ns : List ℕ} → Each Met ns → Each MetOnSheet ns
unfolding sheet_by answer_sheet
met_by_tree none = none
met_by_tree (more p ps) =
    more
    (record { bond = 1; market = p.market; calls = p.calls; room = p.room; ends_in = ap (λ (w : Outcome TreeValue). sheet_number (sheet_of 1 (by_number w)).refusal) p.refused ∙ p.numbered })
    (met_by_tree ps)

pub each_met_on_sheet : EachMetOnSheet
each_met_on_sheet = more met_31 (more met_32 (met_by_tree each_met))

-- ---- the call-list rule

-- A line that shows this value.
record ShownAs (bond : ℕ) (x : Float) (n : ℕ) (line : List ℕ) : Type 0 where
  pub narrow : (value_cell x).wide ≡ false
  pub few-nodes : n ≤ 99999999
  pub is : line ≡ (shown_sheet bond n (value_cell x).cell).line

-- A line with number 0 or 32 is that of a value, and with 0 shows it.
record Valued (bond : ℕ) (v : Outcome TreeValue) (r : ClosingLine) : Type 0 where
  pub first_bond : 1 ≤ bond
  pub last_bond : bond ≤ 999999
  pub value : Float
  pub count : ℕ
  pub is : v ≡ Ok (record { value = value; nodes = count })
  pub shown : (sheet_number r.refusal) ≡ 0 → ShownAs bond value count r.line

valued : (bond : ℕ) (v : Outcome TreeValue) → ((q : Refusal) → v ≡ Err q → Among tree_refusals (reason_number q.reason)) → ((sheet_number (sheet_of bond (by_number v)).refusal) ≡ 0) ⊎ ((sheet_number (sheet_of bond (by_number v)).refusal) ≡ 32) → Valued bond v (sheet_of bond (by_number v))
valued bond v refusals z = go (ordered 1 bond) (ordered bond 999999)
  where
    -- 31 is neither, and no refusal of the tree value is.
    not_31 : {n : ℕ} → n ≡ 31 → (n ≡ 0) ⊎ (n ≡ 32) → ⊥
    not_31 e (inl o) = omega arith
    not_31 e (inr o) = omega arith

    not_refused : {n : ℕ} → Among tree_refusals n → (n ≡ 0) ⊎ (n ≡ 32) → ⊥
    not_refused h (inl e) = absurd (subst (Among tree_refusals) e h).is_one
    not_refused h (inr e) = absurd (subst (Among tree_refusals) e h).is_one

    not_0 : ◌≡◌ {A = ℕ} 32 0 → ⊥
    not_0 e = omega arith

    out : (bond < 1) ⊎ (999999 < bond) → ⊥
    out o = not_31 (ap (λ (s : ClosingLine). sheet_number s.refusal) (no_line bond (by_number v) o)) z

    by : (w : Outcome TreeValue) (r : ClosingLine) → 1 ≤ bond → bond ≤ 999999 → Shows bond (by_number w) r → ((q : Refusal) → w ≡ Err q → Among tree_refusals (reason_number q.reason)) → ((sheet_number r.refusal) ≡ 0) ⊎ ((sheet_number r.refusal) ≡ 32) → Valued bond w r
    by (Err q) r f l a_refusal p e = absurd (not_refused (p q refl) e)
    by (Ok v) r f l (too_wide o) p e = record { first_bond = f; last_bond = l; value = v.value; count = v.nodes; is = refl; shown = λ z. absurd (not_0 z) }
    by (Ok v) r f l (a_value w h) p e = record { first_bond = f; last_bond = l; value = v.value; count = v.nodes; is = refl; shown = λ _. record { narrow = w; few-nodes = h; is = refl } }

    go : (1 ≤ bond) ⊎ (bond < 1) → (bond ≤ 999999) ⊎ (999999 < bond) → Valued bond v (sheet_of bond (by_number v))
    go (inl f) (inl l) = by v (sheet_of bond (by_number v)) f l (shows bond (by_number v) f l) refusals z
    go (inr f) o = absurd (out (inl f))
    go (inl f) (inr l) = absurd (out (inr l))

module _ (bond : ℕ) where
  -- A second value no lower than a first, whether or not that is shown, or 27.
  thinned : (x : Float) (n : ℕ) (first : ClosingLine) → ((sheet_number first.refusal) ≡ 0 → ShownAs bond x n first.line) → (w : Outcome TreeValue) (r : ClosingLine) → Shows bond (by_number w) r → NoLowerOr27 x w
      → (((sheet_number r.refusal) ≡ 0) × ((sheet_number first.refusal) ≡ 0 → NoLower (value_shown first.line) (value_shown r.line))) ⊎ (((sheet_number r.refusal) ≡ 27) ⊎ ((sheet_number r.refusal) ≡ 32))
  thinned x n first shown (Err q) r a_refusal refused_27 = inr (inl refl)
  thinned x n first shown (Ok y) r (too_wide o) p = inr (inr refl)
  thinned x n first shown (Ok v) r (a_value w g) (accepted l) = inl (refl, λ z. let s = shown z in rw (s.is, shown-back bond x n s.few-nodes, shown-back bond v.value v.nodes g) (printed-no_lower x v.value s.narrow w l))

  -- A line shows 4 where the tree value is refused with 4, and only there.
  same_4 : (w : Outcome TreeValue) (r : ClosingLine) → Shows bond (by_number w) r → ((sheet_number r.refusal) ≡ 4) ↔ (number_of w ≡ 4)
  same_4 (Err q) r a_refusal = ((λ e. e), (λ e. e))
  same_4 (Ok y) r (too_wide o) = ((λ (e : ◌≡◌ {A = ℕ} 32 4). omega arith), (λ (e : ◌≡◌ {A = ℕ} 0 4). omega arith))
  same_4 (Ok y) r (a_value w g) = ((λ (e : ◌≡◌ {A = ℕ} 0 4). omega arith), (λ (e : ◌≡◌ {A = ℕ} 0 4). omega arith))

  in_columns : (w : Outcome TreeValue) (r : ClosingLine) → Shows bond (by_number w) r → ((q : Refusal) → w ≡ Err q → (reason_number q.reason) ≤ 9999) → ((sheet_number r.refusal) ≡ 0 → ⊥) → RefusedColumns bond (sheet_number r.refusal) r.line
  in_columns (Err q) r a_refusal p z = refused-columns bond (with_number q) (p q refl)
  in_columns (Ok y) r (too_wide o) p z = refused-columns bond (at 32 0) (omega arith)
  in_columns (Ok y) r (a_value w g) p z = absurd (z refl)

pub line_call_list_rule : LineCallListRule
line_call_list_rule bond m first second made a b as_long z =
    let p = a.handed.handed in
    let q = b.handed.handed in
    let room = room_of a.lent in
    let v = tree_value m first room in
    let w = tree_value m second room in
    let number : b.number ≡ (sheet_number (sheet_of bond (by_number w)).refusal) = q.number_is ∙ ap (λ (r : Room). (sheet_number (sheet_of bond (by_number (tree_value m second r))).refusal)) as_long in
    let line : b.line ≡ (sheet_of bond (by_number w)).line = q.line_is ∙ ap (λ (r : Room). (sheet_of bond (by_number (tree_value m second r))).line) as_long in
    let first-number : a.number ≡ (sheet_number (sheet_of bond (by_number v)).refusal) = p.number_is in
    let first-line : a.line ≡ (sheet_of bond (by_number v)).line = p.line_is in
    let has = valued bond v (tree_numbers_lem m first room) (subst (λ (k : ℕ). (k ≡ 0) ⊎ (k ≡ 32)) first-number z) in
    let show = shows bond (by_number w) has.first_bond has.last_bond in
    let t = call_list_rule m room first second has.value has.count made has.is in
    let four = same_4 bond w (sheet_of bond (by_number w)) show in
    record {
      with_4 = ((λ e. t.with_4.0 (four.0 (sym number ∙ e))), (λ above. number ∙ four.1 (t.with_4.1 above)));
      otherwise = λ none. rw (number, line, first-number, first-line) (thinned bond has.value has.count (sheet_of bond (by_number v)) has.shown w (sheet_of bond (by_number w)) show (t.otherwise none));
      in_columns = λ some. rw (number, line) (in_columns bond w (sheet_of bond (by_number w)) show (λ s e. few (reason_number s.reason) (tree_numbers_lem m second room s e)) (λ e. some (number ∙ e)));
    }

-- ---- halves to even

pub even-cents : HalfToEven
even-cents s m e k h w = let p = half_to_even s m e k h w in (p.over, p.under)

pub only_the_value : OnlyTheValue
only_the_value bond m calls old new before after-old after-new p q =
    (rw (p.sheet, q.sheet) (nothing_else bond (by_number (tree_value m calls (room_of before)))), q.slices ∙ sym p.slices)

pub only_the_value_of : OnlyTheValueOf
only_the_value_of = nothing_else
