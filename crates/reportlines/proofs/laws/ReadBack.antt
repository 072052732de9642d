-- A strike as it was typed reads back as the strike that the file says. Assumes nothing.
use Rattle.std.specs.Prelude.{ℕ, suc, ◌+◌, ◌-◌, ◌≡◌, Bool, true, false, cond, List, [], ◌∷◌, map, length, get_or, eqb, ltb, Float, Result, Ok, Err, ok_or}
use Rattle.std.proofs.Common.{arith, add-zero, sym, ap, ◌∙◌, eqb-true}
use Rattle.std.proofs.Math.Path.{refl}
use Rattle.decimal.specs.declared.ReadError.{ReadError}
use Rattle.decimal.specs.Decimal.{read_decimal}
use Rattle.bondline.specs.declared.Cause.TheVariants.{Byte, UnknownWord}
use Rattle.bondline.specs.declared.Fault.{Fault}
use Rattle.bondline.specs.declared.Kind.{Kind}
use Rattle.bondline.specs.declared.Kind.TheVariants as kind
use Rattle.bondline.specs.declared.Entry.TheVariants.{Blank, Call}
use Rattle.bondline.specs.Results.{◌>>=◌, map_err}
use Rattle.bondline.specs.Words.{has_word, word_at, column_of}
use Rattle.bondline.specs.Values.{fault, count_at, day_at, number_fault, number_at, kind_at, compounding_at, frequency_at, shape_of}
use Rattle.bondline.specs.Forms.{Said, settlement_form, number_form, units_form, steps_form, alpha_form, spread_form, cashflow_form, call_form, sigma_form, pillar_form, yield_form, quote_form, form_of, kind_named, body_entry}
use Rattle.bondline.specs.Lines.{first_bad, uncommented, line_entry}
use Rattle.bondfile.specs.Entries.{kind_of, first_number}
use Rattle.bondfile.specs.File.{Numbered, lines_of, numbered, of_kind}
use Rattle.reportlines.specs.Typed.{StrikesReadBack}

-- ---- what a line says that says a call

-- The fourth word of a line, if the entry is a call.
abbrev Back : List ℕ → Said → Type 0
Back line e = kind_of e ≡ 7 → read_decimal (word_at line 3) ≡ Ok (first_number e)

module _ (line : List ℕ) where
  -- A line that is refused says no call.
  none : (q : Fault) → Back line (Err q)
  none q h = absurd (omega arith)

  on : {A : Type 0} (w : Result A Fault) (f : A → Said) → ((v : A) → Back line (f v)) → Back line (w >>= f)
  on (Ok v) f h = h v
  on (Err q) f h = none q

  at_strike : (d : Result Float ReadError) (start end : ℕ) → read_decimal (word_at line 3) ≡ d → Back line (map_err (number_fault line 3) d >>= λ strike. Ok (Call start end strike))
  at_strike (Ok x) start end e k = e
  at_strike (Err q) start end e k = none (number_fault line 3 q) k

  struck : (start end : ℕ) → Back line (number_at line 3 >>= λ strike. Ok (Call start end strike))
  unfolding number_at
  struck start end = at_strike (read_decimal (word_at line 3)) start end refl

  -- Of the forms, a call's alone says a call.
  formed : (k : Kind) → Back line (form_of k line)
  unfolding form_of settlement_form units_form steps_form alpha_form spread_form cashflow_form call_form sigma_form pillar_form yield_form quote_form
  formed kind.Blank = λ h. absurd (omega arith)
  formed kind.Settlement = on (shape_of line 1) _ λ _. on (day_at line 1) _ λ v h. absurd (omega arith)
  formed kind.Units = on (number_form line) _ λ v h. absurd (omega arith)
  formed kind.Steps = on (shape_of line 2) _ λ _. on (count_at line 1) _ λ a. on (count_at line 2) _ λ b h. absurd (omega arith)
  formed kind.Alpha = on (number_form line) _ λ v h. absurd (omega arith)
  formed kind.Spread = on (number_form line) _ λ v h. absurd (omega arith)
  formed kind.Cashflow = on (shape_of line 3) _ λ _. on (day_at line 1) _ λ d. on (kind_at line 2) _ λ k. on (number_at line 3) _ λ x h. absurd (omega arith)
  formed kind.Call = on (shape_of line 3) _ λ _. on (day_at line 1) _ λ a. on (day_at line 2) _ λ b. struck a b
  formed kind.Sigma = on (shape_of line 2) _ λ _. on (number_at line 1) _ λ x. on (number_at line 2) _ λ y h. absurd (omega arith)
  formed kind.Pillar = on (shape_of line 2) _ λ _. on (day_at line 1) _ λ d. on (number_at line 2) _ λ x h. absurd (omega arith)
  formed kind.Yield = on (shape_of line 3) _ λ _. on (number_at line 1) _ λ x. on (compounding_at line 2) _ λ a. on (frequency_at line 3) _ λ b h. absurd (omega arith)
  formed kind.Quote = on (number_form line) _ λ v h. absurd (omega arith)

  either : (z : Bool) (a b : Said) → Back line a → Back line b → Back line (cond z a b)
  either true a b g h = g
  either false a b g h = h

  bodied : Back line (body_entry line)
  unfolding body_entry
  bodied =
      let named : Said = ok_or (kind_named (word_at line 0)) (fault (column_of line 0) UnknownWord) >>= λ k. form_of k line in
      either (has_word line 0) named (Ok Blank) (on (ok_or (kind_named (word_at line 0)) (fault (column_of line 0) UnknownWord)) (λ k. form_of k line) formed) λ h. absurd (omega arith)

lined : (line : List ℕ) → Back (uncommented line) (line_entry line)
unfolding line_entry
lined line =
    let bad = fault (first_bad line + 1) (Byte (get_or line (first_bad line) 0)) in
    either (uncommented line) (ltb (first_bad line) (length line)) (Err bad) (body_entry (uncommented line)) (none (uncommented line) bad) (bodied (uncommented line))

-- ---- line by line

-- Where a line of each number stands, from n on.
over : (lines : List (List ℕ)) (n : ℕ) (look : ℕ → List ℕ) → ((j : ℕ) → look (n + j) ≡ get_or lines j [])
    → map (λ e. read_decimal (word_at (uncommented (look e.line)) 3)) (of_kind 7 (numbered n lines)) ≡ map (λ e. Ok (first_number e.entry)) (of_kind 7 (numbered n lines))
unfolding of_kind numbered
over [] n look h = refl
over (line ∷ lines) n look h = pick (eqb (kind_of (line_entry line)) 7) refl (over lines (suc n) look λ (j : ℕ). ap look (next n j) ∙ h (suc j))
  where
    next : (n j : ℕ) → suc n + j ≡ n + suc j
    next n j = omega arith

    this : look n ≡ line
    this = ap look (sym (add-zero n)) ∙ h 0

    first : Numbered
    first = record { line = n; entry = line_entry line }

    pick : (z : Bool) → eqb (kind_of (line_entry line)) 7 ≡ z
        → map (λ e. read_decimal (word_at (uncommented (look e.line)) 3)) (of_kind 7 (numbered (suc n) lines)) ≡ map (λ e. Ok (first_number e.entry)) (of_kind 7 (numbered (suc n) lines))
        → map (λ e. read_decimal (word_at (uncommented (look e.line)) 3)) (cond z (first ∷ of_kind 7 (numbered (suc n) lines)) (of_kind 7 (numbered (suc n) lines)))
        ≡ map (λ e. Ok (first_number e.entry)) (cond z (first ∷ of_kind 7 (numbered (suc n) lines)) (of_kind 7 (numbered (suc n) lines)))
    pick true t rest =
        ap (λ (l : List ℕ). read_decimal (word_at (uncommented l) 3) ∷ map (λ e. read_decimal (word_at (uncommented (look e.line)) 3)) (of_kind 7 (numbered (suc n) lines))) this
        ∙ ap (λ (d : Result Float ReadError). d ∷ map (λ e. read_decimal (word_at (uncommented (look e.line)) 3)) (of_kind 7 (numbered (suc n) lines))) (lined line (eqb-true (kind_of (line_entry line)) 7 t))
        ∙ ap (λ (l : List (Result Float ReadError)). Ok (first_number (line_entry line)) ∷ l) rest
    pick false t rest = rest

pub strikes-read_back : (text : List ℕ) → StrikesReadBack text
strikes-read_back text = over (lines_of text) 1 (λ n. get_or (lines_of text) (n - 1) []) λ (j : ℕ). ap (λ (n : ℕ). get_or (lines_of text) n []) (back j)
  where
    back : (j : ℕ) → 1 + j - 1 ≡ j
    back j = omega arith
