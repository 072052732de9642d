-- A text copied into a line, and a line looked through from its end. Assumes nothing.
use Prim.Native.Nat.{ℕ, suc, ◌-◌, ◌≤◌, ◌<◌, min}
use native.Mathlib.Omega.{arith}
use mathlib.Core.Path.{◌≡◌, refl, sym, ap, ◌∙◌}
use mathlib.Core.List.{List, [], ◌∷◌, ◌++◌, append_assoc}
use mathlib.Core.Logic.{◌⊎◌, inl, inr}
use lib.ListN.{length, get_or, set, take, drop, length-set, take-append-drop}
use lib.Seq.{drop-cons, set_out, take-suc-set}
use borrow.Rule.Slice.PartMut.{put_mid}
use Rattle.std.proofs.lemmas.List.{drop-set-lt}
use Rattle.rounded.specs.laws.RoundToOdd.{ordered}
use Rattle.floats.proofs.Laws.{taken_eq, left_eq}
use Rattle.bondreport.specs.Columns.{put_at, used_of}

-- Beyond the line nothing is put.
beyond : (text line : List ℕ) (at : ℕ) → length line ≤ at → line ≡ put_at line at text
unfolding put_at
beyond [] line at h = refl
beyond (b ∷ text) line at h =
    beyond text line (suc at) (omega arith)
    ∙ ap (λ (l : List ℕ). put_at l (suc at) text) (sym (set_out line at b h))

-- As much of a text as there is room for, in the place of what stood there.
placed : (text line : List ℕ) (at n : ℕ) → at ≤ length line → n ≡ min (length text) (length line - at) → put_mid at n line (take n text) ≡ put_at line at text
unfolding put_at
placed [] line at n h e = let z : n ≡ 0 = omega arith in rw z (take-append-drop at line)
placed (b ∷ text) line at n h e = go (placed text (set line at b) (suc at) (n - 1)) (ordered (length line) at)
  where
    Rest : Type 0
    Rest = suc at ≤ length (set line at b) → n - 1 ≡ min (length text) (length (set line at b) - suc at) → put_mid (suc at) (n - 1) (set line at b) (take (n - 1) text) ≡ put_at (set line at b) (suc at) text

    go : Rest → (length line ≤ at) ⊎ (at < length line) → put_mid at n line (take n (b ∷ text)) ≡ put_at line at (b ∷ text)
    go rest (inl l) = let z : n ≡ 0 = omega arith in rw z (take-append-drop at line) ∙ beyond (b ∷ text) line at l
    go rest (inr l) =
        let k : length (set line at b) ≡ length line = length-set line at b in
        let m : n ≡ suc (n - 1) = omega arith in
        let one : put_mid at (suc (n - 1)) line (b ∷ take (n - 1) text) ≡ put_mid (suc at) (n - 1) (set line at b) (take (n - 1) text) =
        ap (λ (z : List ℕ). take at line ++ (b ∷ (take (n - 1) text ++ drop (suc (n - 1)) z))) (drop-cons line at 0 l)
        ∙ sym (append_assoc (take at line) (b ∷ []) (take (n - 1) text ++ drop (n - 1) (drop (suc at) line)))
        ∙ ap (λ (z : List ℕ). z ++ (take (n - 1) text ++ drop (n - 1) (drop (suc at) line))) (sym (take-suc-set line at b l))
        ∙ ap (λ (z : List ℕ). take (suc at) (set line at b) ++ (take (n - 1) text ++ drop (n - 1) z)) (sym (drop-set-lt (suc at) line at b (omega arith))) in
        ap (λ (z : ℕ). put_mid at z line (take z (b ∷ text))) m ∙ one ∙ rest (omega arith) (omega arith)

pub copied : {s n k : ℕ} {part : List ℕ} (line text : List ℕ) (at : ℕ) → length line ≡ 80 → s ≡ min at 80 → n ≡ min (length text) (80 - s) → k ≡ n → part ≡ take n text → put_mid s k line part ≡ put_at line at text
copied {s} {n} {k} {part} line text at l e f g p = go (ordered at 80)
  where
    go : (at ≤ 80) ⊎ (80 < at) → put_mid s k line part ≡ put_at line at text
    go (inl h) =
        let d : s ≡ at = omega arith in
        rw (p, g, d) (placed text line at n (omega arith) (omega arith))
    go (inr h) =
        let z : n ≡ 0 = omega arith in
        rw (p, g, z) (take-append-drop s line) ∙ beyond text line at (omega arith)

-- The columns that are left to look at give the whole.
pub record Looking (line : List ℕ) (n : ℕ) : Type 0 where
  pub within : n ≤ 80
  pub same : used_of n line ≡ used_of 80 line

module _ (line : List ℕ) where
  pub look-begin : Looking line 80
  look-begin = record { within = omega arith; same = refl }

  last_column : (n : ℕ) → 0 < n → n ≡ suc (n - 1)
  last_column n h = omega arith

  pub look-found : (n : ℕ) → Looking line n → 0 < n → (get_or line (n - 1) 0 ≡ 32 → ⊥) → n ≡ used_of 80 line
  unfolding used_of
  look-found n l h d =
      last_column n h
      ∙ left_eq (get_or line (n - 1) 0) 32 (used_of (n - 1) line) (suc (n - 1)) d refl
      ∙ ap (λ (z : ℕ). used_of z line) (sym (last_column n h))
      ∙ l.same

  pub look_on : (n : ℕ) → Looking line n → 0 < n → get_or line (n - 1) 0 ≡ 32 → Looking line (n - 1)
  unfolding used_of
  look_on n l h e =
      record {
        within = omega (arith, l.within);
        same =
            taken_eq (get_or line (n - 1) 0) 32 (used_of (n - 1) line) (suc (n - 1)) e refl
            ∙ ap (λ (z : ℕ). used_of z line) (sym (last_column n h))
            ∙ l.same;
      }

  pub look-done : (n : ℕ) → Looking line n → n ≤ 0 → 0 ≡ used_of 80 line
  unfolding used_of
  look-done n l h = let none : 0 ≡ n = omega arith in ap (λ (z : ℕ). used_of z line) none ∙ l.same

pub ruleset looking = (look-begin, look-found, look_on, look-done)
