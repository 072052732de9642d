-- A row of the spread by sigma table in slices that are too short for its terms: no cell shows a value. Assumes nothing.
use Rattle.std.specs.Prelude.{ℕ, suc, ◌<◌, ◌≡◌, refl, Bool, true, false, not, ◌||◌, List, [], ◌∷◌, T, length, get_or, Float, Ok, Err}
use Rattle.std.proofs.Common.{arith, sym, subst, ◌∙◌}
use Rattle.floats.specs.Answers.{plus_zero, Check, on_outcome}
use Rattle.terms.specs.Numbers.{float}
use Rattle.terms.specs.Terms.{SigmaSchedule, CallSchedule, Market}
use Rattle.terms.specs.Checks.{on_check, not_up_to}
use Rattle.terms.specs.Entries.{tree_checks}
use Rattle.terms.specs.laws.Sequence.{indexed-passed}
use Rattle.terms.specs.laws.Groups.{SigmaPassed}
use Rattle.terms.specs.laws.TermChecks.{sigma-counted}
use Rattle.terms.specs.laws.TreeChecks.{tree-market}
use Rattle.sizing.specs.Sizing.{tree_widths, sizes_of, sizes_number, sizes_from}
use Rattle.spreadtable.specs.Table.{shifted, with_shift, any_outside}
use Rattle.promises.specs.RefusalNumbers.{Among, tree_refusals}
use Rattle.promises.specs.Sizing.{before_fit}
use Rattle.promises.specs.SpreadTable.{cell_terms, RowShort}
use Rattle.promises.proofs.laws.Numbers.{CheckAmong}
use Rattle.promises.proofs.laws.Sizing.{tree_checks-number, stops_not_0, sizing_rule, called}
use Rattle.promises.proofs.laws.SpreadTable.{each-cell}

-- ---- what sizing accepts passes the checks, so no sigma is out of range

sized-passed : (m : Market) (calls : CallSchedule) (slice : ℕ) → sizes_number (sizes_of m calls slice) ≡ 0 → tree_checks m calls ≡ Ok tt
unfolding sizes_of on_check
sized-passed m calls slice e = go (tree_checks m calls) (tree_checks-number m calls).it e
  where
    go : (c : Check) → CheckAmong tree_refusals c → sizes_number (on_check c Err (on_outcome (tree_widths m slice) Err sizes_from)) ≡ 0 → c ≡ Ok tt
    go (Ok tt) h z = refl
    go (Err q) h z = absurd (subst (Among tree_refusals) z h).is_one

all_inside : (sigmas : List Float) → ((i : ℕ) → i < length sigmas → not_up_to (float 10) (get_or sigmas i plus_zero) ≡ false) → any_outside sigmas ≡ false
unfolding any_outside
all_inside [] h = refl
all_inside (s ∷ sigmas) h = rw (h 0 (omega arith), all_inside sigmas (λ i l. h (suc i) (omega arith)))

neither : (a b : Bool) → T (not (a || b)) → b ≡ false
neither false false h = refl
neither false true h = absurd h
neither true b h = absurd h

none-outside : (s : SigmaSchedule) → SigmaPassed s → any_outside s.sigmas ≡ false
none-outside s p =
    let long = (sigma-counted s p.counted).sigmas_too in
    all_inside s.sigmas λ i l. neither (not_up_to (float 600) (get_or s.times i plus_zero)) _ (indexed-passed _ _ s.times p.numbers i (omega arith))

-- ---- the row

pub row-short : RowShort
unfolding before_fit
row-short m calls spreads shifts a z i j on s y short =
    let h = get_or shifts i plus_zero in
    let b = called (cell_terms m spreads shifts i j) calls a.lent in
    let passed = sized-passed (with_shift m h) calls (length s.lent) (sym s.handed.handed.number_is ∙ y) in
    let inside : any_outside (shifted h m.model.sigma.sigmas) ≡ false = none-outside (with_shift m h).model.sigma (tree-market (with_shift m h) calls passed).sigma in
    let stops = ((sizing_rule (with_shift m h) calls s y).values (get_or spreads j plus_zero)).shorter b short in
    let cell = each-cell m calls spreads shifts a z i j on b refl in
    record {
      no_value = λ shows. stops_not_0 stops (cell.shows.0 shows).1;
      refusal = record { number = b.number; place = b.place };
      shows = cell.refused inside (stops_not_0 stops);
      stops = stops;
    }
