-- The two loops of the solver: what is left to do is the whole answer, and the evaluations so far leave room for it. Over any objective. Assumes nothing.
use Rattle.std.specs.Prelude.{Ok, Err}
use Prim.Native.Nat.{ℕ, suc, ◌+◌, ◌-◌, ◌*◌, ◌≤◌, ◌<◌}
use mathlib.Core.Path.{◌≡◌, refl, sym, ap, subst, ◌∙◌}
use native.Mathlib.Omega.{arith}
use lib.Ieee.{Float}
use Rattle.floats.specs.Answers.{Answer, on_outcome}
use Rattle.floats.specs.Extremes.{max_of}
use Rattle.brackets.specs.declared.Bracket.{Bracket}
use Rattle.brackets.specs.declared.Widened.{Widened}
use Rattle.brackets.specs.declared.Widened.TheVariants as widened
use Rattle.brackets.specs.declared.Halved.{Halved}
use Rattle.brackets.specs.declared.Halved.TheVariants as halved
use Rattle.brackets.specs.declared.Root.{Root}
use Rattle.brackets.specs.declared.NoRoot.{NoRoot}
use Rattle.brackets.specs.Brackets.{Searched, no_root, found_root, counted, widen, halve, on_widened, on_halved, halving, settled, widening, bracketed_root}
use Rattle.brackets.proofs.Laws.{counted-given, counted-refused}
use Rattle.brackets.specs.laws.Evaluations.{WidenedWithin, HalvedWithin, widen-within, halve-within}
use Rattle.floats.specs.declared.Reason.TheVariants as reason

-- ---- the first two evaluations

module _ (objective : Float → Answer) (first upper lowest : Float) where
  abbrev begun : Float → Answer → Searched Root
  begun lower y =
      on_outcome y (λ r. no_root r 1) λ a.
      on_outcome (objective upper) (λ r. no_root r 2) λ b.
      widening objective lowest 64
      (record { lower = lower; upper = upper; at_lower = a; at_upper = b; evaluations = 2 })

  begins : (lower : Float) {y : Answer} → lower ≡ max_of first lowest → y ≡ objective lower → begun lower y ≡ bracketed_root objective first upper lowest
  unfolding bracketed_root
  begins lower m e = ap (begun lower) e ∙ ap (λ (l : Float). begun l (objective l)) m

  module _ {lower : Float} {y : Answer} {w : Searched Float} (m : lower ≡ max_of first lowest) (h : y ≡ objective lower) (e : w ≡ counted y 1) where
    pub first_refused_lem : {q : NoRoot} {r : Searched Root} → w ≡ Err q → r ≡ Err q → r ≡ bracketed_root objective first upper lowest
    first_refused_lem v p = counted-refused y 1 _ e refl v p ∙ begins lower m h

    module _ {at : Float} {z : Answer} {w2 : Searched Float} (v : w ≡ Ok at) (h2 : z ≡ objective upper) (e2 : w2 ≡ counted z 2) where
      pub second-refused : {q : NoRoot} {r : Searched Root} → w2 ≡ Err q → r ≡ Err q → r ≡ bracketed_root objective first upper lowest
      second-refused v2 p = counted-given y 1 _ _ e refl v (counted-refused (objective upper) 2 _ e2 h2 v2 p) ∙ begins lower m h

      pub both_given : {at2 : Float} {r : Searched Root} → w2 ≡ Ok at2 → r ≡ widening objective lowest 64 (record { lower = lower; upper = upper; at_lower = at; at_upper = at2; evaluations = 2 }) → r ≡ bracketed_root objective first upper lowest
      both_given v2 p = counted-given y 1 _ _ e refl v (counted-given (objective upper) 2 _ _ e2 h2 v2 p) ∙ begins lower m h

-- ---- halvings

module _ (objective : Float → Answer) (first : Bracket) where
  -- After some of the 256 halvings.
  pub record Halving (done : ℕ) (b : Bracket) : Type 0 where
    pub room : b.evaluations ≤ 130 + done
    pub rest : halving objective (256 - done) b ≡ halving objective 256 first

  pub halving-starts : first.evaluations ≤ 130 → Halving 0 first
  halving-starts h = record { room = omega arith; rest = refl }

  halving-round : (left more : ℕ) (b : Bracket) → left ≡ suc more → halving objective left b ≡ on_halved (halve objective b) no_root found_root (λ c. halving objective more c)
  unfolding halving
  halving-round left more b e = rw e refl

  module _ (done : ℕ) (b : Bracket) (g : Halving done b) (some : done < 256) where
    halving_by : {s : Searched Halved} → s ≡ halve objective b → on_halved s no_root found_root (λ c. halving objective (256 - (done + 1)) c) ≡ halving objective 256 first
    halving_by e = rw e (sym (halving-round (256 - done) (256 - (done + 1)) b (omega arith)) ∙ g.rest)

    pub halving_goes_on : {s : Searched Halved} {t : Halved} (c : Bracket) → s ≡ halve objective b → s ≡ Ok t → t ≡ halved.Next c → Halving (done + 1) c
    unfolding on_halved
    halving_goes_on c e u v =
        let k : c.evaluations ≤ b.evaluations + 1 = subst (HalvedWithin (b.evaluations + 1)) (sym e ∙ u ∙ ap Ok v) (halve-within objective b).it in
        record { room = omega (arith, g.room); rest = rw (u ∙ ap Ok v) at (halving_by e) }

    pub halving_finds : {s : Searched Halved} {t : Halved} (x : Root) → s ≡ halve objective b → s ≡ Ok t → t ≡ halved.Found x → Ok x ≡ halving objective 256 first
    unfolding on_halved
    halving_finds x e u v = rw (u ∙ ap Ok v) at (halving_by e)

    pub halving-stops : {s : Searched Halved} {q : NoRoot} {r : Searched Root} → s ≡ halve objective b → s ≡ Err q → r ≡ Err q → r ≡ halving objective 256 first
    unfolding on_halved
    halving-stops e u p = p ∙ (rw u at (halving_by e))

  pub halving-ends : (done : ℕ) (b : Bracket) → Halving done b → 256 ≤ done → no_root (record { reason = reason.NotConverged; place = 0 }) b.evaluations ≡ halving objective 256 first
  unfolding halving
  halving-ends done b g h = let e : 256 - done ≡ 0 = omega arith in rw e at g.rest

-- ---- widenings

module _ (objective : Float → Answer) (lowest : Float) (first : Bracket) where
  -- After some of the 64 widenings.
  pub record Widening (done : ℕ) (b : Bracket) : Type 0 where
    pub room : b.evaluations ≤ 2 + 2 * done
    pub rest : widening objective lowest (64 - done) b ≡ widening objective lowest 64 first

  pub widening-starts : first.evaluations ≤ 2 → Widening 0 first
  widening-starts h = record { room = omega arith; rest = refl }

  widening-round : (left more : ℕ) (b : Bracket) → left ≡ suc more → widening objective lowest left b ≡ on_widened (widen objective lowest b) no_root (settled objective) (λ c. widening objective lowest more c)
  unfolding widening
  widening-round left more b e = rw e refl

  module _ (done : ℕ) (b : Bracket) (g : Widening done b) where
    module _ (some : done < 64) where
      widening_by : {s : Searched Widened} → s ≡ widen objective lowest b → on_widened s no_root (settled objective) (λ c. widening objective lowest (64 - (done + 1)) c) ≡ widening objective lowest 64 first
      widening_by e = rw e (sym (widening-round (64 - done) (64 - (done + 1)) b (omega arith)) ∙ g.rest)

      bounded : {s : Searched Widened} → s ≡ widen objective lowest b → WidenedWithin (b.evaluations + 2) s
      bounded e = subst (WidenedWithin (b.evaluations + 2)) (sym e) (widen-within objective lowest b).it

      pub widening_goes_on : {s : Searched Widened} {t : Widened} (c : Bracket) → s ≡ widen objective lowest b → s ≡ Ok t → t ≡ widened.Next c → Widening (done + 1) c
      unfolding on_widened
      widening_goes_on c e u v =
          let k : c.evaluations ≤ b.evaluations + 2 = rw (u ∙ ap Ok v) at (bounded e) in
          record { room = omega (arith, g.room); rest = rw (u ∙ ap Ok v) at (widening_by e) }

      -- A last bracket has room for the halvings.
      pub last_room : {s : Searched Widened} {t : Widened} (c : Bracket) → s ≡ widen objective lowest b → s ≡ Ok t → t ≡ widened.Last c → c.evaluations ≤ 130
      last_room c e u v =
          let k : c.evaluations ≤ b.evaluations + 2 = rw (u ∙ ap Ok v) at (bounded e) in
          omega (arith, g.room)

      pub widening_settles : {s : Searched Widened} {t : Widened} {r : Searched Root} (c : Bracket) → s ≡ widen objective lowest b → s ≡ Ok t → t ≡ widened.Last c → r ≡ settled objective c → r ≡ widening objective lowest 64 first
      unfolding on_widened
      widening_settles c e u v p = p ∙ (rw (u ∙ ap Ok v) at (widening_by e))

      pub widening-stops : {s : Searched Widened} {q : NoRoot} {r : Searched Root} → s ≡ widen objective lowest b → s ≡ Err q → r ≡ Err q → r ≡ widening objective lowest 64 first
      unfolding on_widened
      widening-stops e u p = p ∙ (rw u at (widening_by e))

    pub end-room : done ≤ 64 → b.evaluations ≤ 130
    end-room h = omega (arith, g.room)

    pub widening-ends : {r : Searched Root} → 64 ≤ done → r ≡ settled objective b → r ≡ widening objective lowest 64 first
    unfolding widening
    widening-ends h p = let e : 64 - done ≡ 0 = omega arith in p ∙ (rw e at g.rest)
