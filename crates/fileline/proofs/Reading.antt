-- What a file's entries are once they are stored and cut to their count, and the line at a place of them. Assumes nothing.
use Prim.Native.Nat.{ℕ, ◌+◌, ◌-◌, ◌≤◌, ◌<◌}
use mathlib.Core.Path.{◌≡◌, refl, sym, ap, ◌∙◌}
use mathlib.Core.Logic.{inl, inr}
use mathlib.Core.List.{List, ◌++◌, map}
use native.Mathlib.Omega.{arith}
use lib.ListN.{length, get_or, take, drop, replicate, length-map, length-take, length-replicate, get_or-replicate, get_or-eq_default}
use lib.Seq.{get_or-take, get_or-drop, get_or-append-add, length-take-le}
use Rattle.terms.specs.laws.Searching.{below_or_not}
use Rattle.bondfile.specs.File.{Numbered, entries_of, of_kind}
use Rattle.bondfile.specs.Storing.{Stored}
use Rattle.filebond.specs.laws.Held.{held}
use Rattle.places.specs.declared.Whose.{Whose}
use Rattle.places.specs.declared.Whose.TheVariants.{Nobody, Steps, Settlement, Units, Alpha, Spread, Cashflow, Call, Sigma, Pillar}
use Rattle.places.specs.Blame.{or_else}
use Rattle.fileline.specs.Lines.{line_at, line_for}

-- ---- the line at a place

zeros-behind : (front : List ℕ) (count n k : ℕ) → length front ≡ count → count + k < n → get_or (front ++ drop count (replicate n 0)) (count + k) 0 ≡ 0
zeros-behind front count n k e l =
    ap (λ (m : ℕ). get_or (front ++ drop count (replicate n 0)) (m + k) 0) (sym e)
    ∙ get_or-append-add front (drop count (replicate n 0)) k 0
    ∙ get_or-drop count (replicate n 0) k 0
    ∙ get_or-replicate n (count + k) 0 0 l

abbrev lines : List Numbered → List ℕ
lines es = map (λ e. e.line) es

-- Stored over 256 zeros.
module _ (text after : List ℕ) (kind count place : ℕ) (s : Stored (λ e. e.line) (of_kind kind (entries_of text)) (replicate 256 0) after count) where
  abbrev es : List Numbered
  es = of_kind kind (entries_of text)

  front : take count after ≡ lines (take 256 es)
  front = held 256 (length-replicate {A = ℕ} 256 0) s

  stored : length (lines (take count es)) ≡ count
  stored = length-map (take count es) (λ e. e.line) ∙ length-take-le count es (omega (arith, s.counted))

  behind : (k : ℕ) → count + k ≡ place → place < 256 → get_or after place 0 ≡ 0
  behind k e l =
      rw (← e, s.content) (zeros-behind (lines (take count es)) count 256 k stored (omega arith))

  pub line-there : place < 256 → get_or after place 0 ≡ line_at text kind place
  unfolding line_at
  line-there l =
      elim (below_or_not place count) [
        | inl h ↦ sym (get_or-take count after place 0 h) ∙ ap (λ (xs : List ℕ). get_or xs place 0) front
        | inr h ↦ behind (place - count) (omega arith) l ∙ sym (get_or-eq_default (take count after) 0 (omega (arith, length-take count after))) ∙ ap (λ (xs : List ℕ). get_or xs place 0) front
      ]

pub no_line : (text : List ℕ) (kind place : ℕ) → 256 ≤ place → 0 ≡ line_at text kind place
unfolding line_at
no_line text kind place l =
    let es : List Numbered = take 256 (of_kind kind (entries_of text)) in
    sym (get_or-eq_default (lines es) 0 (omega (arith, length-map es (λ e. e.line), length-take 256 (of_kind kind (entries_of text)))))

-- ---- who is blamed

-- All but nobody.
pub somebody : (w f e : Whose) → (w ≡ Nobody → ⊥) → w ≡ f → w ≡ or_else f e
unfolding or_else
somebody w f e t p = alone w t ∙ ap (λ (z : Whose). or_else z e) p
  where
    alone : (w : Whose) → (w ≡ Nobody → ⊥) → w ≡ or_else w e
    alone Nobody t = absurd (t refl)
    alone Steps t = refl
    alone Settlement t = refl
    alone Units t = refl
    alone Alpha t = refl
    alone Spread t = refl
    alone Cashflow t = refl
    alone Call t = refl
    alone Sigma t = refl
    alone Pillar t = refl

pub nobody : {r w : Whose} (f e : Whose) → w ≡ f → w ≡ Nobody → r ≡ e → r ≡ or_else f e
unfolding or_else
nobody f e p q h = h ∙ ap (λ (z : Whose). or_else z e) (sym q ∙ p)

-- ---- the line of whoever is blamed

pub line_of_blamed : {r : ℕ} {w v : Whose} (text : List ℕ) (b : Whose) (place : ℕ) → w ≡ b → w ≡ v → r ≡ line_for text v place → r ≡ line_for text b place
line_of_blamed text b place p q h = h ∙ ap (λ (z : Whose). line_for text z place) (sym q ∙ p)
