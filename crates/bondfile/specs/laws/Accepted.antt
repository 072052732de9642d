-- What a file that is accepted holds: each single field once, no list beyond its limit, and no line that is refused. Assumes nothing.
use Rattle.std.specs.Prelude.{ℕ, zero, suc, ◌+◌, ◌≤◌, ◌<◌, ◌≡◌, ◌⊎◌, ◌≢◌, Bool, true, false, cond, Ok, Err, List, [], ◌∷◌, length, get_or, set, replicate, eqb, ltb}
use Rattle.std.proofs.Common.{zero-le, arith, refl, ap, subst, sym, ◌∙◌, inl, inr, ⊎_elim, length-set, lit<}
use Rattle.std.proofs.Math.Seq.{get_or-set_same, get_or-set_other}
use borrow.Author.Tests.{ltb-true, eqb-true, eqb-false}
use Rattle.bondline.specs.declared.Kind.TheVariants as kind
use Rattle.bondline.specs.declared.Entry.TheVariants.{Blank, Settlement, Units, Steps, Alpha, Spread, Cashflow, Call, Sigma, Pillar, Yield, Quote}
use Rattle.bondline.specs.Results.{◌>>=◌}
use Rattle.bondline.specs.Forms.{Said}
use Rattle.bondfile.specs.declared.FileError.{FileError}
use Rattle.bondfile.specs.declared.FileError.TheVariants.{TooLarge, Wrong, Twice, TooMany, Missing}
use Rattle.bondfile.specs.Entries.{kind_of}
use Rattle.bondfile.specs.File.{Numbered, entries_of, of_kind}
use Rattle.bondfile.specs.Checks.{FileCheck, verdict_of, missing, check_from, file_check}

-- The most entries of each kind; a line that says nothing isn't counted.
abbrev pub limits : List ℕ
limits = 0 ∷ 1 ∷ 1 ∷ 1 ∷ 1 ∷ 1 ∷ 256 ∷ 64 ∷ 64 ∷ 256 ∷ 1 ∷ 1 ∷ 0 ∷ []

abbrev pub limit_of : ℕ → ℕ
limit_of k = get_or limits k 0

-- There are 13 kinds.
pub kinds : (e : Said) → kind_of e < 13
kinds (Ok Blank) = lit< tt
kinds (Ok (Settlement d)) = lit< tt
kinds (Ok (Units x)) = lit< tt
kinds (Ok (Steps a b)) = lit< tt
kinds (Ok (Alpha x)) = lit< tt
kinds (Ok (Spread x)) = lit< tt
kinds (Ok (Cashflow d k x)) = lit< tt
kinds (Ok (Call a b x)) = lit< tt
kinds (Ok (Sigma x y)) = lit< tt
kinds (Ok (Pillar d x)) = lit< tt
kinds (Ok (Yield x a b)) = lit< tt
kinds (Ok (Quote x)) = lit< tt
kinds (Err q) = lit< tt

-- ---- one line

not_good : {A : Type 0} (c : FileError) → ◌≡◌ {A = FileCheck} (Err c) (Ok tt) → A
not_good c h = cc

-- A line that says nothing, or one more entry of its kind, below its limit.
abbrev Passing : Said → ℕ → (ℕ → FileCheck) → Type 0
Passing e c g = ((kind_of e ≡ 0) × (g 0 ≡ Ok tt)) ⊎ ((c < limit_of (kind_of e)) × (g (c + 1) ≡ Ok tt))

below : (limit c : ℕ) (t : FileError) (g : ℕ → FileCheck) → (cond (ltb c limit) (Ok (c + 1)) (Err t) >>= g) ≡ Ok tt → (c < limit) × (g (c + 1) ≡ Ok tt)
below limit c t g h = pick (ltb c limit) refl h
  where
    pick : (z : Bool) → ltb c limit ≡ z → (cond z (Ok (c + 1)) (Err t) >>= g) ≡ Ok tt → (c < limit) × (g (c + 1) ≡ Ok tt)
    pick true e h = (ltb-true c limit e, h)
    pick false e h = not_good t h

passing : (e : Said) (line c : ℕ) (g : ℕ → FileCheck) → (verdict_of e line c >>= g) ≡ Ok tt → Passing e c g
unfolding verdict_of
passing (Ok Blank) line c g h = inl (refl, h)
passing (Ok (Settlement d)) line c g h = inr (below 1 c (Twice line kind.Settlement) g h)
passing (Ok (Units x)) line c g h = inr (below 1 c (Twice line kind.Units) g h)
passing (Ok (Steps a b)) line c g h = inr (below 1 c (Twice line kind.Steps) g h)
passing (Ok (Alpha x)) line c g h = inr (below 1 c (Twice line kind.Alpha) g h)
passing (Ok (Spread x)) line c g h = inr (below 1 c (Twice line kind.Spread) g h)
passing (Ok (Cashflow d k x)) line c g h = inr (below 256 c (TooMany line kind.Cashflow) g h)
passing (Ok (Call a b x)) line c g h = inr (below 64 c (TooMany line kind.Call) g h)
passing (Ok (Sigma x y)) line c g h = inr (below 64 c (TooMany line kind.Sigma) g h)
passing (Ok (Pillar d x)) line c g h = inr (below 256 c (TooMany line kind.Pillar) g h)
passing (Ok (Yield x a b)) line c g h = inr (below 1 c (Twice line kind.Yield) g h)
passing (Ok (Quote x)) line c g h = inr (below 1 c (Twice line kind.Quote) g h)
passing (Err q) line c g h = not_good (Wrong line q) h

-- A line that has room below its limit is not refused.
counted_kind : (e : Said) (c : ℕ) → c < limit_of (kind_of e) → kind_of e < 12
counted_kind e c h = pick (kind_of e) (kinds e) h
  where
    last : (k : ℕ) → k < 13 → (k < 12) ⊎ (k ≡ 12)
    last k l = grind arith

    pick : (k : ℕ) → k < 13 → c < limit_of k → k < 12
    pick k l h = ⊎_elim (λ a. a) (λ e. absurd (omega (arith, subst (λ (i : ℕ). c < limit_of i) e h))) (last k l)

-- ---- all lines

-- What holds of a kind's count at the end holds of the count so far and the entries that are left.
module _ (k : ℕ) (counted : 0 < k) (Q : ℕ → Type 0) (base : (counts : List ℕ) → missing counts ≡ Ok tt → get_or counts k 0 ≤ limit_of k → Q (get_or counts k 0)) where
  step : (counts : List ℕ) (e : Numbered) (es : List Numbered) (n : ℕ) → length counts ≡ 12 → get_or counts k 0 ≤ limit_of k
      → ((n ≡ 0) × (kind_of e.entry ≡ 0)) ⊎ ((n ≡ get_or counts (kind_of e.entry) 0 + 1) × (get_or counts (kind_of e.entry) 0 < limit_of (kind_of e.entry)))
      → (get_or (set counts (kind_of e.entry) n) k 0 ≤ limit_of k → Q (get_or (set counts (kind_of e.entry) n) k 0 + length (of_kind k es)))
      → Q (get_or counts k 0 + length (of_kind k (e ∷ es)))
  unfolding of_kind
  step counts e es n l w h ih = pick (eqb (kind_of e.entry) k) refl
    where
      pick : (z : Bool) → eqb (kind_of e.entry) k ≡ z → Q (get_or counts k 0 + length (cond z (e ∷ of_kind k es) (of_kind k es)))
      pick true t =
          let same : kind_of e.entry ≡ k = eqb-true (kind_of e.entry) k t in
          ⊎_elim
          (λ a. absurd (omega (arith, same, a.1)))
          (λ a.
          let now : get_or (set counts (kind_of e.entry) n) k 0 ≡ get_or counts k 0 + 1 =
          ap (λ (i : ℕ). get_or (set counts i n) k 0) same
          ∙ get_or-set_same counts k n 0 (omega (arith, same, counted_kind e.entry _ a.1))
          ∙ a.0 ∙ ap (λ (i : ℕ). get_or counts i 0 + 1) same in
          let room : get_or counts k 0 < limit_of k = subst (λ (i : ℕ). get_or counts i 0 < limit_of i) same a.1 in
          subst Q
          (ap (λ (i : ℕ). i + length (of_kind k es)) now ∙ omega arith)
          (ih (subst (λ (i : ℕ). i ≤ limit_of k) (sym now) (omega arith))))
          h
      pick false t =
          let other : k ≢ kind_of e.entry = λ p. eqb-false (kind_of e.entry) k t (sym p) in
          let now : get_or (set counts (kind_of e.entry) n) k 0 ≡ get_or counts k 0 = get_or-set_other counts (kind_of e.entry) k n 0 other in
          subst Q (ap (λ (i : ℕ). i + length (of_kind k es)) now) (ih (subst (λ (i : ℕ). i ≤ limit_of k) (sym now) w))

  pub all_lines : (es : List Numbered) (counts : List ℕ) → length counts ≡ 12 → get_or counts k 0 ≤ limit_of k → check_from counts es ≡ Ok tt → Q (get_or counts k 0 + length (of_kind k es))
  unfolding check_from of_kind
  all_lines [] counts l w h = subst Q (omega arith) (base counts h w)
  all_lines (e ∷ es) counts l w h =
      ⊎_elim
      (λ a. step counts e es 0 l w (inl (refl, a.0)) λ v. all_lines es (set counts (kind_of e.entry) 0) (length-set counts (kind_of e.entry) 0 ∙ l) v a.1)
      (λ a. step counts e es (get_or counts (kind_of e.entry) 0 + 1) l w (inr (refl, a.0)) λ v. all_lines es (set counts (kind_of e.entry) (get_or counts (kind_of e.entry) 0 + 1)) (length-set counts (kind_of e.entry) (get_or counts (kind_of e.entry) 0 + 1) ∙ l) v a.1)
      (passing e.entry e.line (get_or counts (kind_of e.entry) 0) (λ n. check_from (set counts (kind_of e.entry) n) es) h)

none : (n k : ℕ) → ◌≡◌ {A = ℕ} (get_or (replicate n 0) k 0) 0
none zero k = refl
none (suc n) zero = refl
none (suc n) (suc k) = none n k

chosen : (z : Bool) (x : FileError) (y : FileCheck) → cond z (Err x) y ≡ Ok tt → (z ≡ false) × (y ≡ Ok tt)
chosen true x y h = not_good x h
chosen false x y h = (refl, h)

line_by_line : (text : List ℕ) → file_check text ≡ Ok tt → check_from (replicate 12 0) (entries_of text) ≡ Ok tt
line_by_line text g = (chosen (ltb 65536 (length text)) TooLarge (check_from (replicate 12 0) (entries_of text)) g).1

-- No list is beyond its limit, and no line is refused.
pub within-limits : (text : List ℕ) (k : ℕ) → 0 < k → file_check text ≡ Ok tt → length (of_kind k (entries_of text)) ≤ limit_of k
within-limits text k h g =
    omega (
      arith,
      all_lines k h (λ n. n ≤ limit_of k) (λ counts m w. w) (entries_of text) (replicate 12 0) refl (rw (none 12 k) zero-le) (line_by_line text g),
      none 12 k,
    )

-- The single fields are there.
record Present (counts : List ℕ) : Type 0 where
  pub settlement : 1 ≤ get_or counts 1 0
  pub units : 1 ≤ get_or counts 2 0
  pub steps : 1 ≤ get_or counts 3 0
  pub alpha : 1 ≤ get_or counts 4 0
  pub spread : 1 ≤ get_or counts 5 0

some : (n : ℕ) → eqb n 0 ≡ false → 1 ≤ n
some n e = let d : n ≢ 0 = eqb-false n 0 e in omega arith

present : (counts : List ℕ) → missing counts ≡ Ok tt → Present counts
unfolding missing
present counts h =
    let a = chosen (eqb (get_or counts 1 0) 0) (Missing kind.Settlement) (cond (eqb (get_or counts 2 0) 0) (Err (Missing kind.Units)) (cond (eqb (get_or counts 3 0) 0) (Err (Missing kind.Steps)) (cond (eqb (get_or counts 4 0) 0) (Err (Missing kind.Alpha)) (cond (eqb (get_or counts 5 0) 0) (Err (Missing kind.Spread)) (Ok tt))))) h in
    let b = chosen (eqb (get_or counts 2 0) 0) (Missing kind.Units) (cond (eqb (get_or counts 3 0) 0) (Err (Missing kind.Steps)) (cond (eqb (get_or counts 4 0) 0) (Err (Missing kind.Alpha)) (cond (eqb (get_or counts 5 0) 0) (Err (Missing kind.Spread)) (Ok tt)))) a.1 in
    let c = chosen (eqb (get_or counts 3 0) 0) (Missing kind.Steps) (cond (eqb (get_or counts 4 0) 0) (Err (Missing kind.Alpha)) (cond (eqb (get_or counts 5 0) 0) (Err (Missing kind.Spread)) (Ok tt))) b.1 in
    let d = chosen (eqb (get_or counts 4 0) 0) (Missing kind.Alpha) (cond (eqb (get_or counts 5 0) 0) (Err (Missing kind.Spread)) (Ok tt)) c.1 in
    let e = chosen (eqb (get_or counts 5 0) 0) (Missing kind.Spread) (Ok tt) d.1 in
    record {
      settlement = some (get_or counts 1 0) a.0;
      units = some (get_or counts 2 0) b.0;
      steps = some (get_or counts 3 0) c.0;
      alpha = some (get_or counts 4 0) d.0;
      spread = some (get_or counts 5 0) e.0;
    }

-- A kind that must be there and has the limit 1 is there once.
exactly : (text : List ℕ) (k : ℕ) → 0 < k → limit_of k ≡ 1 → ((counts : List ℕ) → missing counts ≡ Ok tt → 1 ≤ get_or counts k 0) → file_check text ≡ Ok tt → length (of_kind k (entries_of text)) ≡ 1
exactly text k h one p g =
    omega (
      arith,
      all_lines k h (λ n. 1 ≤ n) (λ counts m w. p counts m) (entries_of text) (replicate 12 0) refl (rw (none 12 k) zero-le) (line_by_line text g),
      none 12 k,
      within-limits text k h g,
    )

-- Each single field once.
pub record Once (text : List ℕ) : Type 0 where
  pub settlement : length (of_kind 1 (entries_of text)) ≡ 1
  pub units : length (of_kind 2 (entries_of text)) ≡ 1
  pub steps : length (of_kind 3 (entries_of text)) ≡ 1
  pub alpha : length (of_kind 4 (entries_of text)) ≡ 1
  pub spread : length (of_kind 5 (entries_of text)) ≡ 1

pub each-once : (text : List ℕ) → file_check text ≡ Ok tt → Once text
each-once text g =
    record {
      settlement = exactly text 1 (lit< tt) refl (λ counts m. (present counts m).settlement) g;
      units = exactly text 2 (lit< tt) refl (λ counts m. (present counts m).units) g;
      steps = exactly text 3 (lit< tt) refl (λ counts m. (present counts m).steps) g;
      alpha = exactly text 4 (lit< tt) refl (λ counts m. (present counts m).alpha) g;
      spread = exactly text 5 (lit< tt) refl (λ counts m. (present counts m).spread) g;
    }
