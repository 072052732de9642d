-- The promises of the spread by sigma table. Assumes nothing.
use Rattle.floats.specs.Reasons.{reason_number, refusal_number, refusal_place}
use Rattle.std.specs.Prelude.{ℕ, ◌-◌, ◌*◌, ◌≡◌, refl, ◌⊎◌, Bool, true, false, not, ◌&&◌, ◌||◌, List, [], ◌∷◌, ◌++◌, T, eqb, length, get_or, take, drop, replicate, Float, Ok, Err}
use Rattle.std.proofs.Common.{sym, subst, ◌∙◌, inl, inr, arith, ne_eqb, T_not, eqb→eq}
use Rattle.std.proofs.Math.Path.{ap}
use Rattle.std.proofs.Math.Bool.{cond}
use Rattle.std.proofs.lemmas.Bool.{false≢true}
use Rattle.std.proofs.Math.Seq.{drop-append_seam}
use Rattle.std.specs.Float.Ieee.{le}
use Rattle.std.specs.Float.Ieee.Fits.{and_l, and_r}
use Rattle.floats.specs.Refusals.{Refusal}
use Rattle.floats.specs.Answers.{plus_zero, Outcome}
use Rattle.floats.specs.laws.Fractions.{or_r, or_split}
use Rattle.bondreport.specs.Numbers.{byte_left, digits_left, width_of, whole_left}
use Rattle.terms.specs.Terms.{CallSchedule, Market}
use Rattle.lattice.specs.Layers.{Room}
use Rattle.treebasedbondpricer.specs.declared.TreeValue.{TreeValue}
use Rattle.treebasedbondpricer.specs.Tree.{tree_value, room_of, zeroed, number_of, value_of}
use Rattle.treebasedbondpricer.specs.CallLists.{Thinned, NoLowerOr27, accepted}
use Rattle.treebasedbondpricer.proofs.laws.CallLists.{call_list_rule}
use Rattle.treebasedbondpricer.specs.laws.PutLists.{put_list_rule}
use Rattle.closingsheet.specs.Cells.{printed_of, value_cell}
use Rattle.closingsheet.specs.Shown.{one_more, read_on, read_back, NoLower}
use Rattle.closingsheet.specs.laws.HalfCents.{printed-no_lower}
use Rattle.spreadtable.specs.declared.SpreadTable.{SpreadTable}
use Rattle.spreadtable.specs.Cells.{hash_cell, value_text, cell_text}
use Rattle.spreadtable.specs.Page.{page_text, printed, no_table}
use Rattle.spreadtable.specs.Table.{shifted, with_shift, any_outside, cell_at, wrong_count, table_of}
use Rattle.spreadtable.proofs.laws.Widths.{cell-wide}
use Rattle.spreadtable.proofs.laws.Stacking.{page-long}
use Rattle.spreadtable.proofs.laws.OnPage.{row-there, cell-there, newline-there}
use Rattle.spreadtable.specs.laws.NoHash.{Unhashed, none, more, cell_unhashed}
use Rattle.promises.specs.RefusalNumbers.{member, tree_refusals}
use Rattle.promises.specs.HostCallLists.{TreeCall, TableCall}
use Rattle.promises.specs.SpreadTable.{row_start, cell_in, cell_terms, On, NoPage, Paged, EveryPage, Single, EachCell, OtherCells, ShowsValue, CellCallListRule, CellPutListRule, RowSized}
use Rattle.promises.proofs.laws.TreeNumbers.{tree_numbers_lem}
use Rattle.promises.proofs.laws.HostCallLists.{valued}
use Rattle.promises.proofs.laws.Sizing.{sizing_rule, called}

-- ---- the page

module _ {m : Market} {calls : CallSchedule} {spreads shifts : List Float} (a : TableCall m spreads shifts calls) where
  abbrev cells : Float → Float → List ℕ
  cells = cell_at m calls (room_of a.lent)

  abbrev text : List ℕ
  text = page_text cells spreads shifts

  abbrev zeros : List ℕ
  zeros = replicate (4112 - length text) 0

  wrong_is : wrong_count spreads shifts ≡ true → table_of m calls (room_of a.lent) spreads shifts ≡ no_table
  unfolding table_of
  wrong_is e = ap (λ (b : Bool). cond b no_table (printed text)) e

  right_is : wrong_count spreads shifts ≡ false → table_of m calls (room_of a.lent) spreads shifts ≡ printed text
  unfolding table_of
  right_is e = ap (λ (b : Bool). cond b no_table (printed text)) e

  no_page_lem : wrong_count spreads shifts ≡ true → NoPage a
  no_page_lem e =
      let p = a.handed.handed in
      record {
        number = p.number_is ∙ ap (λ (t : SpreadTable). refusal_number t.refusal) (wrong_is e);
        place = p.place_is ∙ ap (λ (t : SpreadTable). refusal_place t.refusal) (wrong_is e);
        size = p.length_is ∙ ap (λ (t : SpreadTable). t.length) (wrong_is e);
        page = p.page_is ∙ ap (λ (t : SpreadTable). t.page) (wrong_is e);
        slices = a.handed.slices ∙ ap (λ (b : Bool). cond b a.lent (zeroed a.lent)) e;
      }

  page_is : wrong_count spreads shifts ≡ false → a.page ≡ text ++ zeros
  page_is e = a.handed.handed.page_is ∙ ap (λ (t : SpreadTable). t.page) (right_is e)

  size_is : wrong_count spreads shifts ≡ false → a.size ≡ length text
  size_is e = a.handed.handed.length_is ∙ ap (λ (t : SpreadTable). t.length) (right_is e)

  paged : wrong_count spreads shifts ≡ false → Paged a
  paged e =
      let p = a.handed.handed in
      record {
        number = p.number_is ∙ ap (λ (t : SpreadTable). refusal_number t.refusal) (right_is e);
        place = p.place_is ∙ ap (λ (t : SpreadTable). refusal_place t.refusal) (right_is e);
        size = size_is e ∙ page-long cells (cell-wide m calls (room_of a.lent)) spreads shifts;
        newline = λ i h.
            let r = row-there cells (cell-wide m calls (room_of a.lent)) spreads shifts i zeros h in
            ap (λ (z : List ℕ). get_or (drop (row_start spreads i) z) (16 * length spreads) 0) (page_is e)
            ∙ ap (λ (z : List ℕ). get_or z (16 * length spreads) 0) r.is
            ∙ newline-there (cells (get_or shifts i plus_zero)) (cell-wide m calls (room_of a.lent) (get_or shifts i plus_zero)) spreads r.more;
        past =
            ap (λ (z : List ℕ). drop a.size z) (page_is e)
            ∙ ap (λ (n : ℕ). drop n (text ++ zeros)) (size_is e)
            ∙ drop-append_seam text zeros
            ∙ ap (λ (n : ℕ). replicate (4112 - n) 0) (sym (size_is e));
        slices = a.handed.slices ∙ ap (λ (b : Bool). cond b a.lent (zeroed a.lent)) e;
      }

  decided : (b : Bool) → (b ≡ true) ⊎ (b ≡ false)
  decided true = inl refl
  decided false = inr refl

  -- A table that isn't refused has a page.
  right : a.number ≡ 0 → wrong_count spreads shifts ≡ false
  right z = go (decided (wrong_count spreads shifts))
    where
      go : (wrong_count spreads shifts ≡ true) ⊎ (wrong_count spreads shifts ≡ false) → wrong_count spreads shifts ≡ false
      go (inl e) = absurd (let n : ◌≡◌ {A = ℕ} 45 0 = sym (no_page_lem e).number ∙ z in omega arith)
      go (inr e) = e

  pub cell_is : a.number ≡ 0 → (i j : ℕ) → On spreads shifts i j → cell_in spreads i j a.page ≡ cells (get_or shifts i plus_zero) (get_or spreads j plus_zero)
  cell_is z i j on =
      let r = row-there cells (cell-wide m calls (room_of a.lent)) spreads shifts i zeros on.row in
      ap (λ (y : List ℕ). take 16 (drop (16 * j) (drop (row_start spreads i) y))) (page_is (right z))
      ∙ ap (λ (y : List ℕ). take 16 (drop (16 * j) y)) r.is
      ∙ cell-there (cells (get_or shifts i plus_zero)) (cell-wide m calls (room_of a.lent) (get_or shifts i plus_zero)) spreads j r.more on.column

pub every-page : EveryPage
every-page m calls spreads shifts a = (no_page_lem a, paged a)

-- ---- what a cell shows

-- What holds of each of a list holds of one of it.
abbrev all_of : (ℕ → Bool) → List ℕ → Bool
all_of test [] = true
all_of test (k ∷ ks) = test k && all_of test ks

one_of : (test : ℕ → Bool) (ns : List ℕ) → T (all_of test ns) → (n : ℕ) → T (member n ns) → T (test n)
one_of test [] t n h = absurd h
one_of test (k ∷ ks) t n h =
    elim (or_split (eqb n k) (member n ks) h) [
      | inl e ↦ subst (λ (z : ℕ). T (test z)) (sym (eqb→eq n k e)) (and_l (test k) (all_of test ks) t)
      | inr r ↦ one_of test ks (and_r (test k) (all_of test ks) t) n r
    ]

-- The numbers that stand behind a hash sign.
abbrev numbers : List ℕ
numbers = 32 ∷ 46 ∷ tree_refusals

all_hashed : T (all_of (λ k. member 35 (hash_cell k)) numbers)
unfolding hash_cell byte_left digits_left width_of whole_left
all_hashed = tt

all_told : T (all_of (λ k. eqb (read_back (hash_cell k)).digits k) numbers)
unfolding hash_cell byte_left digits_left width_of whole_left read_on one_more
all_told = tt

hash_no_value : (n : ℕ) → T (member n numbers) → ShowsValue (hash_cell n) → ⊥
hash_no_value n h s = T_not (member 35 (hash_cell n)) s (one_of (λ k. member 35 (hash_cell k)) numbers all_hashed n h)

-- Two numbers whose cells are the same are the same.
told-apart : (n k : ℕ) → T (member n numbers) → T (member k numbers) → hash_cell n ≡ hash_cell k → n ≡ k
told-apart n k h g e = sym (reads n h) ∙ ap (λ (c : List ℕ). (read_back c).digits) e ∙ reads k g
  where
    reads : (n : ℕ) → T (member n numbers) → (read_back (hash_cell n)).digits ≡ n
    reads n h = eqb→eq (read_back (hash_cell n)).digits n (one_of (λ k. eqb (read_back (hash_cell k)).digits k) numbers all_told n h)

unhashed_shows : (cell : List ℕ) → Unhashed cell → ShowsValue cell
unhashed_shows [] none = tt
unhashed_shows (b ∷ cell) (more h u) = subst (λ (t : Bool). T (not (t || member 35 cell))) (sym (ne_eqb 35 b λ e. h (sym e))) (unhashed_shows cell u)

value-shows : (x : Float) → ShowsValue (value_cell x).cell
value-shows x = unhashed_shows (value_cell x).cell (cell_unhashed (printed_of x))

-- One of a list is one of a longer one.
longer : (k n : ℕ) (ks : List ℕ) → T (member n ks) → T (member n (k ∷ ks))
longer k n ks h = or_r (eqb n k) (member n ks) h

of_tree : (m : Market) (calls : CallSchedule) (room : Room) (q : Refusal) → tree_value m calls room ≡ Err q → T (member (reason_number q.reason) numbers)
of_tree m calls room q e = longer 32 (reason_number q.reason) (46 ∷ tree_refusals) (longer 46 (reason_number q.reason) tree_refusals (tree_numbers_lem m calls room q e).is_one)

-- 46, a refusal, a value that is too wide, or a value.
data Told : Bool → Outcome TreeValue → List ℕ → Type 0 where
  with_46 : {v : Outcome TreeValue} → Told true v (hash_cell 46)
  a_refusal : {q : Refusal} → T (member (reason_number q.reason) numbers) → Told false (Err q) (hash_cell (reason_number q.reason))
  too_wide : {x : Float} {n : ℕ} → (value_cell x).wide ≡ true → Told false (Ok (record { value = x; nodes = n })) (hash_cell 32)
  a_value : {x : Float} {n : ℕ} → (value_cell x).wide ≡ false → Told false (Ok (record { value = x; nodes = n })) (value_cell x).cell

told : (outside : Bool) (v : Outcome TreeValue) → ((q : Refusal) → v ≡ Err q → T (member (reason_number q.reason) numbers)) → Told outside v (cond outside (hash_cell 46) (cell_text v))
unfolding cell_text
told true v among = with_46
told false (Err q) among = a_refusal (among q refl)
told false (Ok v) among = go (value_cell v.value).wide refl
  where
    go : (b : Bool) → (value_cell v.value).wide ≡ b → Told false (Ok (record { value = v.value; nodes = v.nodes })) (cond b (hash_cell 32) (value_cell v.value).cell)
    go true e = too_wide e
    go false e = a_value e

-- ---- each cell is the value of a single call

refused-text : (v : Outcome TreeValue) → (number_of v ≡ 0 → ⊥) → cell_text v ≡ hash_cell (number_of v)
unfolding cell_text
refused-text (Ok x) some = absurd (some refl)
refused-text (Err q) some = refl

valued-text : {v : Outcome TreeValue} {x : Float} {n : ℕ} → v ≡ Ok (record { value = x; nodes = n }) → cell_text v ≡ value_text x
unfolding cell_text
valued-text e = ap cell_text e

-- A value is shown exactly where there is one and it isn't too wide.
shown_where : {outside : Bool} {v : Outcome TreeValue} {cell : List ℕ} → Told outside v cell → ShowsValue cell → (outside ≡ false) × (number_of v ≡ 0) × ((value_cell (value_of v)).wide ≡ false)
shown_where with_46 s = absurd (hash_no_value 46 tt s)
shown_where (a_refusal {q = q} h) s = absurd (hash_no_value (reason_number q.reason) h s)
shown_where (too_wide w) s = absurd (hash_no_value 32 tt s)
shown_where (a_value w) s = (refl, refl, w)

where_shown : {outside : Bool} {v : Outcome TreeValue} {cell : List ℕ} → Told outside v cell → outside ≡ false → number_of v ≡ 0 → (value_cell (value_of v)).wide ≡ false → ShowsValue cell
where_shown with_46 f z w = absurd (false≢true (sym f))
where_shown (a_refusal {q = q} h) f z w = absurd (subst (λ (n : ℕ). T (member n numbers)) z h)
where_shown (too_wide t) f z w = absurd (false≢true (sym w ∙ t))
where_shown (a_value {x = x} t) f z w = value-shows x

module _ {m : Market} {calls : CallSchedule} {spreads shifts : List Float} (a : TableCall m spreads shifts calls) (z : a.number ≡ 0) (i j : ℕ) (on : On spreads shifts i j) where
  abbrev outside : Bool
  outside = any_outside (shifted (get_or shifts i plus_zero) m.model.sigma.sigmas)

  abbrev terms : Market
  terms = cell_terms m spreads shifts i j

  abbrev answer : Outcome TreeValue
  answer = tree_value terms calls (room_of a.lent)

  cell-cases : cell_in spreads i j a.page ≡ cond outside (hash_cell 46) (cell_text answer)
  unfolding cell_at
  cell-cases = cell_is a z i j on

  cell-told : Told outside answer (cell_in spreads i j a.page)
  cell-told = subst (Told outside answer) (sym cell-cases) (told outside answer (of_tree terms calls (room_of a.lent)))

  single : (b : TreeCall terms calls) → room_of b.lent ≡ room_of a.lent → Single outside b (cell_in spreads i j a.page)
  single b as_long =
      let p = b.handed.handed in
      let same : tree_value terms calls (room_of b.lent) ≡ answer = ap (tree_value terms calls) as_long in
      let number : b.number ≡ number_of answer = p.number_is ∙ ap number_of same in
      let value : b.value ≡ value_of answer = p.value_is ∙ ap value_of same in
      let by : (t : Bool) → outside ≡ t → cell_in spreads i j a.page ≡ cond t (hash_cell 46) (cell_text answer) = λ t e. cell-cases ∙ ap (λ (c : Bool). cond c (hash_cell 46) (cell_text answer)) e in
      record {
        with_46 = λ t. by true t;
        refused = λ f some. by false f ∙ refused-text answer (λ e. some (number ∙ e)) ∙ ap hash_cell (sym number);
        valued = λ f e. by false f ∙ valued-text (valued terms calls (room_of a.lent) answer refl (sym number ∙ e)) ∙ ap (λ (x : Float). value_text x) (sym value);
        shows = (
          (λ s. let w = shown_where cell-told s in (w.0, number ∙ w.1, ap (λ (x : Float). (value_cell x).wide) value ∙ w.2)),
          (λ w. where_shown cell-told w.0 (sym number ∙ w.1) (ap (λ (x : Float). (value_cell x).wide) (sym value) ∙ w.2)),
        );
      }

pub each-cell : EachCell
each-cell m calls spreads shifts a z i j on b as_long = single a z i j on b as_long

-- ---- the other cells don't change for a refused one

pub other-cells : OtherCells
other-cells m calls spreads shifts others moves a b as_long z y i j k l on at same-shift same_spread =
    cell_is b y k l at
    ∙ ap (λ (r : Room). cell_at m calls r (get_or moves k plus_zero) (get_or others l plus_zero)) as_long
    ∙ ap (λ (h : Float). cell_at m calls (room_of a.lent) h (get_or others l plus_zero)) same-shift
    ∙ ap (λ (s : Float). cell_at m calls (room_of a.lent) (get_or shifts i plus_zero) s) same_spread
    ∙ sym (cell_is a z i j on)

-- ---- the call-list rule, and the put-list rule

-- A cell that shows a value has it from its single call.
record Shown (v : Outcome TreeValue) (cell : List ℕ) : Type 0 where
  pub value : Float
  pub count : ℕ
  pub is : v ≡ Ok (record { value = value; nodes = count })
  pub narrow : (value_cell value).wide ≡ false
  pub text_is : cell ≡ (value_cell value).cell

shown : {outside : Bool} {v : Outcome TreeValue} {cell : List ℕ} → Told outside v cell → ShowsValue cell → Shown v cell
shown with_46 s = absurd (hash_no_value 46 tt s)
shown (a_refusal {q = q} h) s = absurd (hash_no_value (reason_number q.reason) h s)
shown (too_wide w) s = absurd (hash_no_value 32 tt s)
shown (a_value {x = x} {n = n} w) s = record { value = x; count = n; is = refl; narrow = w; text_is = refl }

-- The second table's cell, in slices as long as the first's.
as_long-told : {m n : Market} {calls second : CallSchedule} {spreads shifts : List Float} (a : TableCall m spreads shifts calls) (b : TableCall n spreads shifts second) (y : b.number ≡ 0) (i j : ℕ) (on : On spreads shifts i j) → room_of b.lent ≡ room_of a.lent
    → Told (any_outside (shifted (get_or shifts i plus_zero) n.model.sigma.sigmas)) (tree_value (cell_terms n spreads shifts i j) second (room_of a.lent)) (cell_in spreads i j b.page)
as_long-told {n = n} {second = second} {spreads = spreads} {shifts = shifts} a b y i j on as_long =
    subst (λ (r : Room). Told (any_outside (shifted (get_or shifts i plus_zero) n.model.sigma.sigmas)) (tree_value (cell_terms n spreads shifts i j) second r) (cell_in spreads i j b.page)) as_long (cell-told b y i j on)

-- Two cells that show values stand as the doubles behind them.
stand-alike : {v w : Outcome TreeValue} {one two : List ℕ} (p : Shown v one) (q : Shown w two) → T (le p.value q.value) → NoLower (read_back one) (read_back two)
stand-alike p q l = rw (p.text_is, q.text_is) (printed-no_lower p.value q.value p.narrow q.narrow l)

thinned-value : {x y : Float} {n : ℕ} {second : CallSchedule} → Thinned x second (Ok (record { value = y; nodes = n })) → T (le x y)
thinned-value {x} {y} {n} t = go (t.otherwise λ above. never (t.with_4.1 above))
  where
    never : ◌≡◌ {A = ℕ} 0 4 → ⊥
    never e = omega arith

    go : NoLowerOr27 x (Ok (record { value = y; nodes = n })) → T (le x y)
    go (accepted l) = l

pub cell_call_list_rule : CellCallListRule
cell_call_list_rule m first second made spreads shifts a b as_long z i j on s t =
    let y : b.number ≡ 0 = (paged b (right a z)).number in
    let terms = cell_terms m spreads shifts i j in
    let p = shown (cell-told a z i j on) s in
    let q = shown (as_long-told a b y i j on as_long) t in
    let thinned = call_list_rule terms (room_of a.lent) first second p.value p.count made p.is in
    stand-alike p q (thinned-value (subst (Thinned p.value second) q.is thinned))

pub cell_put_list_rule : CellPutListRule
cell_put_list_rule m calls first second lowered spreads shifts a b as_long z i j on s t =
    let y : b.number ≡ 0 = (paged b (right a z)).number in
    let terms = cell_terms m spreads shifts i j in
    let p = shown (cell-told a z i j on) s in
    let q = shown (as_long-told a b y i j on as_long) t in
    stand-alike q p (put_list_rule terms calls (room_of a.lent) first second p.value q.value p.count q.count lowered p.is q.is)

-- ---- how large the slices must be

no_21 : {outside : Bool} {v : Outcome TreeValue} {cell : List ℕ} → Told outside v cell → (number_of v ≡ 21 → ⊥) → cell ≡ hash_cell 21 → ⊥
no_21 with_46 other e = absurd (let n = told-apart 46 21 tt tt e in omega arith)
no_21 (a_refusal {q = q} h) other e = other (told-apart (reason_number q.reason) 21 h tt e)
no_21 (too_wide w) other e = absurd (let n = told-apart 32 21 tt tt e in omega arith)
no_21 (a_value {x = x} w) other e = hash_no_value 21 tt (subst ShowsValue e (value-shows x))

pub row_sized : RowSized
row_sized m calls spreads shifts a z i j on s y long e =
    let h = get_or shifts i plus_zero in
    let right-lengths = (sizing_rule (with_shift m h) calls s y).values (get_or spreads j plus_zero) in
    no_21 (cell-told a z i j on) (right-lengths.never_21 (called (cell_terms m spreads shifts i j) calls a.lent) long) e
