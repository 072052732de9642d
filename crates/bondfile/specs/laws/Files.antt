-- A file from an index on: the line that begins there, and the lines from the next on. Assumes nothing.
use Rattle.std.specs.Prelude.{ℕ, suc, ◌+◌, ◌≤◌, ◌<◌, ◌≡◌, Bool, true, false, cond, not, List, [], ◌∷◌, length, take, drop, eqb, ltb}
use Rattle.std.proofs.Common.{arith, add-one, sym, ap, ◌∙◌, length-drop, drop_of_length-le, drop-drop, ltb-true, ltb-false}
use Rattle.std.proofs.Math.Nat.{add-sub_cancel_left}
use Rattle.std.proofs.Math.Path.{refl}
use Rattle.bondline.specs.Bytes.{is_other, leading, run_end}
use Rattle.bondline.specs.Lines.{line_entry, line_at, next_line}
use Rattle.bondfile.specs.File.{begun, lines_of, numbered, entries_from}
use Rattle.bondline.specs.laws.Words.{run_within}

one-more : (n : ℕ) → 1 + n ≡ suc n
one-more n = omega arith

-- The bytes before the first line end, and the lines behind it.
split : (bs : List ℕ) → 0 < length bs → lines_of bs ≡ take (leading (is_other 10) bs) bs ∷ lines_of (drop (suc (leading (is_other 10) bs)) bs)
unfolding lines_of
split [] h = absurd (omega arith)
split (b ∷ []) h = one (eqb b 10)
  where
    one : (z : Bool) → cond z ([] ∷ []) ((b ∷ []) ∷ []) ≡ take (cond (not z) 1 0) (b ∷ []) ∷ lines_of (drop (suc (cond (not z) 1 0)) (b ∷ []))
    one true = refl
    one false = refl
split (b ∷ c ∷ bs) h = more (eqb b 10) (split (c ∷ bs) (omega arith))
  where
    more :
        (z : Bool)
        → lines_of (c ∷ bs) ≡ take (leading (is_other 10) (c ∷ bs)) (c ∷ bs) ∷ lines_of (drop (suc (leading (is_other 10) (c ∷ bs))) (c ∷ bs))
        → cond z ([] ∷ lines_of (c ∷ bs)) (begun b (lines_of (c ∷ bs)))
        ≡ take (cond (not z) (1 + leading (is_other 10) (c ∷ bs)) 0) (b ∷ c ∷ bs) ∷ lines_of (drop (suc (cond (not z) (1 + leading (is_other 10) (c ∷ bs)) 0)) (b ∷ c ∷ bs))
    more true e = refl
    more false e = rw (one-more (leading (is_other 10) (c ∷ bs))) (ap (begun b) e)

module _ (text : List ℕ) (at : ℕ) where
  this : line_at text at ≡ take (leading (is_other 10) (drop at text)) (drop at text)
  this = ap (λ (n : ℕ). take n (drop at text)) (add-sub_cancel_left at (leading (is_other 10) (drop at text)))

  rest : drop (next_line text at) text ≡ drop (suc (leading (is_other 10) (drop at text))) (drop at text)
  rest = pick (ltb (run_end (is_other 10) text at) (length text)) refl
    where
      past : drop (suc (leading (is_other 10) (drop at text))) (drop at text) ≡ drop (run_end (is_other 10) text at + 1) text
      past =
          let e : at + suc (leading (is_other 10) (drop at text)) ≡ run_end (is_other 10) text at + 1 = omega arith in
          drop-drop (suc (leading (is_other 10) (drop at text))) at text ∙ ap (λ (n : ℕ). drop n text) e

      pick : (z : Bool) → ltb (run_end (is_other 10) text at) (length text) ≡ z → drop (cond z (run_end (is_other 10) text at + 1) (run_end (is_other 10) text at)) text ≡ drop (suc (leading (is_other 10) (drop at text))) (drop at text)
      pick true t = sym past
      pick false t =
          let h : length text ≤ run_end (is_other 10) text at = ltb-false (run_end (is_other 10) text at) (length text) t in
          let k : length text ≤ run_end (is_other 10) text at + 1 = omega arith in
          drop_of_length-le text h ∙ sym (past ∙ drop_of_length-le text k)

  pub lines_step : at < length text → lines_of (drop at text) ≡ line_at text at ∷ lines_of (drop (next_line text at) text)
  lines_step h =
      split (drop at text) (simp length-drop (omega arith))
      ∙ ap (λ (l : List ℕ). l ∷ lines_of (drop (suc (leading (is_other 10) (drop at text))) (drop at text))) (sym this)
      ∙ ap (λ (l : List ℕ). line_at text at ∷ lines_of l) (sym rest)

  pub entries-step : (n : ℕ) → at < length text → entries_from text at n ≡ record { line = n; entry = line_entry (line_at text at) } ∷ entries_from text (next_line text at) (n + 1)
  entries-step n h = ap (numbered n) (lines_step h) ∙ rw (add-one n) (unfold numbered in refl)

  pub entries-end : (n : ℕ) → length text ≤ at → entries_from text at n ≡ []
  unfolding numbered lines_of
  entries-end n h = rw (drop_of_length-le text h) refl

  pub next_after : at < length text → at < next_line text at
  next_after h = pick (ltb (run_end (is_other 10) text at) (length text)) refl
    where
      pick : (z : Bool) → ltb (run_end (is_other 10) text at) (length text) ≡ z → at < cond z (run_end (is_other 10) text at + 1) (run_end (is_other 10) text at)
      pick true t = omega arith
      pick false t = omega (arith, ltb-false (run_end (is_other 10) text at) (length text) t)

  pub next_within : at ≤ length text → next_line text at ≤ length text
  next_within h = pick (ltb (run_end (is_other 10) text at) (length text)) refl
    where
      pick : (z : Bool) → ltb (run_end (is_other 10) text at) (length text) ≡ z → cond z (run_end (is_other 10) text at + 1) (run_end (is_other 10) text at) ≤ length text
      pick true t = omega (arith, ltb-true (run_end (is_other 10) text at) (length text) t)
      pick false t = run_within (is_other 10) text at h
