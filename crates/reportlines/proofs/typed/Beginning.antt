-- Where a line of a file begins, from line to line, and the line that begins there. Assumes nothing.
use Prim.Native.Nat.{ℕ, ◌+◌, ◌-◌, ◌≤◌, ◌<◌}
use native.Mathlib.Omega.{arith}
use native.Mathlib.Nat.{add-zero}
use mathlib.Core.Path.{◌≡◌, refl, sym, ap, ◌∙◌}
use mathlib.Core.Logic.{◌⊎◌, inl, inr}
use mathlib.Core.Bool.{Bool, true, false, cond}
use mathlib.Core.List.{List, []}
use lib.ListN.{length, get_or, take, drop, drop_of_length-le}
use lib.Seq.{take-nil, drop-drop, get_or-drop}
use lib.Dec.{ltb}
use borrow.Author.Rules.{rules}
use borrow.Author.Tests.{ltb-true, ltb-false}
use Rattle.bondline.specs.Bytes.{is_other, run_end}
use Rattle.bondline.specs.Words.{between}
use Rattle.bondline.specs.Lines.{uncommented, line_at, next_line}
use Rattle.bondline.specs.laws.Words.{run_within}
use Rattle.bondfile.specs.File.{lines_of}
use Rattle.bondfile.specs.laws.Files.{lines_step, next_within}
use Rattle.reportlines.specs.Typed.{Begins, typed_line}

-- In the loop: the i-th line begins here, and it isn't behind the one that is looked for.
pub record Stepping (text : List ℕ) (line at i : ℕ) : Type 0 where
  pub some : 1 ≤ i
  pub order : i - 1 ≤ line - 1
  pub begins : Begins text i at

split : (text : List ℕ) (at : ℕ) → (length text ≤ at) ⊎ (at < length text)
split text at = pick (ltb at (length text)) refl
  where
    pick : (z : Bool) → ltb at (length text) ≡ z → (length text ≤ at) ⊎ (at < length text)
    pick true t = inr (ltb-true at (length text) t)
    pick false t = inl (ltb-false at (length text) t)

next_no_less : (text : List ℕ) (at : ℕ) → at ≤ next_line text at
next_no_less text at = pick (ltb (run_end (is_other 10) text at) (length text))
  where
    pick : (z : Bool) → at ≤ cond z (run_end (is_other 10) text at + 1) (run_end (is_other 10) text at)
    pick true = omega arith
    pick false = omega arith

none_left : (text : List ℕ) (at : ℕ) → length text ≤ at → lines_of (drop at text) ≡ []
unfolding lines_of
none_left text at h = rw (drop_of_length-le text h) refl

-- The lines behind the one that begins at an index are those from the next on.
behind : (text : List ℕ) (at : ℕ) → (length text ≤ at) ⊎ (at < length text) → lines_of (drop (next_line text at) text) ≡ drop 1 (lines_of (drop at text))
behind text at (inl h) =
    let n : length text ≤ next_line text at = omega (arith, next_no_less text at) in
    none_left text (next_line text at) n ∙ sym (ap (drop 1) (none_left text at h))
behind text at (inr h) = sym (ap (drop 1) (lines_step text at h))

module _ (text : List ℕ) (line : ℕ) where
  pub step-begin : Stepping text line 0 1
  step-begin = record { some = omega arith; order = omega arith; begins = record { within = omega arith; lines = refl } }

  pub step-turn : (at i : ℕ) {next : ℕ} → Stepping text line at i → i < line → next ≡ next_line text at → Stepping text line next (i + 1)
  step-turn at i s h q =
      let e : i - 1 + 1 ≡ i + 1 - 1 = omega (arith, s.some) in
      record {
        some = omega arith;
        order = omega arith;
        begins =
            record {
              within = rw q (next_within text at s.begins.within);
              lines =
                  rw q (behind text at (split text at)
                  ∙ ap (drop 1) s.begins.lines
                  ∙ drop-drop 1 (i - 1) (lines_of text)
                  ∙ ap (λ (n : ℕ). drop n (lines_of text)) e);
            };
      }

  pub step_end : (at i : ℕ) → Stepping text line at i → line ≤ i → Begins text line at
  step_end at i s h =
      let e : i - 1 ≡ line - 1 = omega (arith, s.order) in
      record { within = s.begins.within; lines = s.begins.lines ∙ ap (λ (n : ℕ). drop n (lines_of text)) e }

  -- The line that begins there.
  begun : (at : ℕ) → (length text ≤ at) ⊎ (at < length text) → line_at text at ≡ get_or (lines_of (drop at text)) 0 []
  begun at (inl h) =
      ap (λ (l : List ℕ). take (run_end (is_other 10) text at - at) l) (drop_of_length-le text h)
      ∙ take-nil (run_end (is_other 10) text at - at)
      ∙ sym (ap (λ (l : List (List ℕ)). get_or l 0 []) (none_left text at h))
  begun at (inr h) = sym (ap (λ (l : List (List ℕ)). get_or l 0 []) (lines_step text at h))

  found : (at : ℕ) → Begins text line at → line_at text at ≡ get_or (lines_of text) (line - 1) []
  found at b =
      begun at (split text at)
      ∙ ap (λ (l : List (List ℕ)). get_or l 0 []) b.lines
      ∙ get_or-drop (line - 1) (lines_of text) 0 []
      ∙ ap (λ (n : ℕ). get_or (lines_of text) n []) (add-zero (line - 1))

  pub up_to_comment : (at : ℕ) {end comment : ℕ} → Begins text line at → end ≡ run_end (is_other 10) text at → comment ≡ run_end (is_other 35) (between at end text) 0
      → take comment (between at end text) ≡ typed_line text line
  up_to_comment at {end} {comment} b e c =
      let all : comment ≡ comment - 0 = omega arith in
      ap (λ (n : ℕ). take n (between at end text)) all
      ∙ ap (λ (n : ℕ). between 0 n (between at end text)) c ∙ ap (λ (n : ℕ). uncommented (between at n text)) e ∙ ap uncommented (found at b)

pub end-within : (text : List ℕ) (line at : ℕ) {end : ℕ} → Begins text line at → end ≡ run_end (is_other 10) text at → end ≤ length text
end-within text line at b e = rw e (run_within (is_other 10) text at b.within)

pub comment_within : (line : List ℕ) {comment : ℕ} → comment ≡ run_end (is_other 35) line 0 → comment ≤ length line
comment_within line e = rw e (run_within (is_other 35) line 0 (omega arith))

pub ruleset beginning = (step-begin, step-turn, step_end, up_to_comment, end-within, comment_within, rules)
