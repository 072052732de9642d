-- What a root that bracketed_root answers with is: the objective there is within 1e-12 of 0, or it is the middle of a last bracket less than 1e-14 wide at whose ends the objective is neither both above 0 nor both below. Over any objective. Assumes nothing.
use Prim.Native.Nat.{ℕ, zero, suc}
use Rattle.std.specs.Prelude.{◌≡◌, refl, Bool, true, false, not, cond, ◌&&◌, ◌||◌, Float, Ok, Err}
use Rattle.std.proofs.Common.{sym, ap, subst}
use Rattle.std.specs.Float.{binary64}
use Rattle.std.specs.Float.Ieee.{sub, lt, le, eq}
use Rattle.floats.specs.Refusals.{Refusal}
use Rattle.floats.specs.Answers.{Answer, plus_zero}
use Rattle.floats.specs.Middle.{midpoint_at}
use Rattle.floats.specs.laws.Order.{lt_le_clash}
use Rattle.terms.specs.Numbers.{tolerance, width_tolerance}
use Rattle.brackets.specs.declared.Bracket.{Bracket}
use Rattle.brackets.specs.declared.Widened.{Widened}
use Rattle.brackets.specs.declared.Widened.TheVariants as widened
use Rattle.brackets.specs.declared.Halved.{Halved}
use Rattle.brackets.specs.declared.Halved.TheVariants as halved
use Rattle.brackets.specs.declared.Root.{Root}
use Rattle.brackets.specs.Brackets.{Searched, no_root, found_root, small, bracketed, raised, widen, halve, on_widened, on_halved, halving, settled, widening, bracketed_root}
use Rattle.floats.specs.laws.Cases.{Holds, cases}

-- ---- tests of floats

false-true : ◌≡◌ {A = Bool} false true → ⊥
false-true h = subst (λ (z : Bool). cond z ⊥ Unit) h tt

untrue : (b : Bool) → (b ≡ true → ⊥) → b ≡ false
untrue true h = absurd (h refl)
untrue false h = refl

not_above_lem : (x y : Float) → le x y ≡ true → lt y x ≡ false
not_above_lem x y h = untrue (lt y x) (λ t. lt_le_clash y x t h)

not_below_lem : (x y : Float) → lt x y ≡ true → lt y x ≡ false
unfolding le
not_below_lem x y h = not_above_lem x y (ap (λ (z : Bool). z || eq x y) h)

both : (a b : Bool) → (a && b) ≡ true → (a ≡ true) × (b ≡ true)
both true b h = (refl, h)
both false b h = absurd (false-true h)

of_not_false : (b : Bool) → not b ≡ false → b ≡ true
of_not_false true h = refl
of_not_false false h = absurd (false-true (sym h))

-- ---- what a root is

module _ (objective : Float → Answer) where
  -- A bracket holds the objective's values at its ends.
  pub record Ends (b : Bracket) : Type 0 where
    pub lower-value : objective b.lower ≡ Ok b.at_lower
    pub upper-value : objective b.upper ≡ Ok b.at_upper

  -- They are neither both above 0 nor both below: the lower end's isn't below, the upper end's isn't above.
  pub record Between (b : Bracket) : Type 0 where
    pub ends : Ends b
    pub lower-not_below : lt b.at_lower plus_zero ≡ false
    pub upper-not_above : lt plus_zero b.at_upper ≡ false

  pub data IsRoot (x : Float) : Type 0 where
    near : (y : Float) → objective x ≡ Ok y → small tolerance y ≡ true → IsRoot x
    narrow : (b : Bracket) → Between b → midpoint_at b.lower b.upper 0 ≡ Ok x → small width_tolerance (sub binary64 b.upper b.lower) ≡ true → IsRoot x

  -- ---- what each round and the whole search keep

  abbrev pub WidenedKeeps : Searched Widened → Type 0
  WidenedKeeps (Ok (widened.Next b)) = Ends b
  WidenedKeeps (Ok (widened.Last b)) = Ends b
  WidenedKeeps (Err e) = Unit

  abbrev pub HalvedKeeps : Searched Halved → Type 0
  HalvedKeeps (Ok (halved.Next b)) = Between b
  HalvedKeeps (Ok (halved.Found x)) = IsRoot x.at
  HalvedKeeps (Err e) = Unit

  abbrev pub RootKeeps : Searched Root → Type 0
  RootKeeps (Ok x) = IsRoot x.at
  RootKeeps (Err e) = Unit

  halve-refused : (r : Refusal) (n : ℕ) → Holds HalvedKeeps (no_root r n)
  halve-refused r n = record { it = tt }

  halve-near : (x : Float) (n : ℕ) (y : Float) → objective x ≡ Ok y → small tolerance y ≡ true → Holds HalvedKeeps (Ok (halved.Found (record { at = x; evaluations = n })))
  halve-near x n y e t = record { it = near y e t }

  halve-narrow : (x : Float) (n : ℕ) (b : Bracket) → Between b → midpoint_at b.lower b.upper 0 ≡ Ok x → small width_tolerance (sub binary64 b.upper b.lower) ≡ true → Holds HalvedKeeps (Ok (halved.Found (record { at = x; evaluations = n })))
  halve-narrow x n b k e t = record { it = narrow b k e t }

  halve_up : (b : Bracket) (x y : Float) (n : ℕ) → Between b → objective x ≡ Ok y → lt plus_zero y ≡ true → Holds HalvedKeeps (Ok (halved.Next (record { lower = x; upper = b.upper; at_lower = y; at_upper = b.at_upper; evaluations = n })))
  halve_up b x y n k e t =
      record { it = record { ends = record { lower-value = e; upper-value = k.ends.upper-value }; lower-not_below = not_below_lem plus_zero y t; upper-not_above = k.upper-not_above } }

  halve_down : (b : Bracket) (x y : Float) (n : ℕ) → Between b → objective x ≡ Ok y → lt plus_zero y ≡ false → Holds HalvedKeeps (Ok (halved.Next (record { lower = b.lower; upper = x; at_lower = b.at_lower; at_upper = y; evaluations = n })))
  halve_down b x y n k e t =
      record { it = record { ends = record { lower-value = k.ends.lower-value; upper-value = e }; lower-not_below = k.lower-not_below; upper-not_above = t } }

  pub halve-keeps : (b : Bracket) → Between b → Holds HalvedKeeps (halve objective b)
  unfolding halve
  halve-keeps b k = search (cases, halve-refused, halve-near, halve-narrow, halve_up, halve_down) depth 16 fits 4000

  widen-refused : (r : Refusal) (n : ℕ) → Holds WidenedKeeps (no_root r n)
  widen-refused r n = record { it = tt }

  widen_next : (b : Bracket) → objective b.lower ≡ Ok b.at_lower → objective b.upper ≡ Ok b.at_upper → Holds WidenedKeeps (Ok (widened.Next b))
  widen_next b e f = record { it = record { lower-value = e; upper-value = f } }

  widen_last : (b : Bracket) → Ends b → Holds WidenedKeeps (Ok (widened.Last b))
  widen_last b k = record { it = k }

  pub raised_keeps : (b : Bracket) → objective b.lower ≡ Ok b.at_lower → objective b.upper ≡ Ok b.at_upper → Holds WidenedKeeps (raised objective b)
  unfolding raised
  raised_keeps b e f = search (cases, widen-refused, widen_next) depth 12 fits 4000

  pub widen_keeps : (lowest : Float) (b : Bracket) → Ends b → Holds WidenedKeeps (widen objective lowest b)
  unfolding widen
  widen_keeps lowest b k = search (cases, widen-refused, widen_last, raised_keeps) depth 16 fits 4000

  root-refused : (r : Refusal) (n : ℕ) → Holds RootKeeps (no_root r n)
  root-refused r n = record { it = tt }

  root-near : (x : Float) (n : ℕ) (y : Float) → objective x ≡ Ok y → small tolerance y ≡ true → Holds RootKeeps (found_root x n)
  root-near x n y e t = record { it = near y e t }

  by_halved : (go : Bracket → Searched Root) → ((c : Bracket) → Between c → Holds RootKeeps (go c)) → (h : Searched Halved) → Holds HalvedKeeps h → Holds RootKeeps (on_halved h no_root found_root go)
  unfolding on_halved
  by_halved go p (Ok (halved.Next c)) w = p c w.it
  by_halved go p (Ok (halved.Found x)) w = record { it = w.it }
  by_halved go p (Err e) w = record { it = tt }

  pub halving-keeps : (left : ℕ) (b : Bracket) → Between b → Holds RootKeeps (halving objective left b)
  unfolding halving
  halving-keeps zero b k = record { it = tt }
  halving-keeps (suc left) b k = by_halved (halving objective left) (halving-keeps left) (halve objective b) (halve-keeps b k)

  halving_if : (b : Bracket) → Ends b → not (bracketed b) ≡ false → Holds RootKeeps (halving objective 256 b)
  halving_if b k t =
      let p = both (le plus_zero b.at_lower) (le b.at_upper plus_zero) (of_not_false (bracketed b) t) in
      halving-keeps 256 b
      (record { ends = k; lower-not_below = not_above_lem plus_zero b.at_lower p.0; upper-not_above = not_above_lem b.at_upper plus_zero p.1 })

  pub settled-keeps : (b : Bracket) → Ends b → Holds RootKeeps (settled objective b)
  unfolding settled
  settled-keeps b k = search (cases, root-refused, root-near, halving_if) depth 12 fits 4000

  by_widened : (go : Bracket → Searched Root) → ((c : Bracket) → Ends c → Holds RootKeeps (go c)) → (w : Searched Widened) → Holds WidenedKeeps w → Holds RootKeeps (on_widened w no_root (settled objective) go)
  unfolding on_widened
  by_widened go p (Ok (widened.Next c)) w = p c w.it
  by_widened go p (Ok (widened.Last c)) w = settled-keeps c w.it
  by_widened go p (Err e) w = record { it = tt }

  pub widening-keeps : (lowest : Float) (left : ℕ) (b : Bracket) → Ends b → Holds RootKeeps (widening objective lowest left b)
  unfolding widening
  widening-keeps lowest zero b k = settled-keeps b k
  widening-keeps lowest (suc left) b k =
      by_widened (widening objective lowest left) (widening-keeps lowest left) (widen objective lowest b) (widen_keeps lowest b k)

  widening_from : (lowest : Float) (b : Bracket) → objective b.lower ≡ Ok b.at_lower → objective b.upper ≡ Ok b.at_upper → Holds RootKeeps (widening objective lowest 64 b)
  widening_from lowest b e f = widening-keeps lowest 64 b (record { lower-value = e; upper-value = f })

  pub root-keeps : (lower upper lowest : Float) → Holds RootKeeps (bracketed_root objective lower upper lowest)
  unfolding bracketed_root
  root-keeps lower upper lowest = search (cases, root-refused, widening_from) depth 8

  -- Whatever bracketed_root answers with is a root.
  pub root-found : (lower upper lowest x : Float) (n : ℕ) → bracketed_root objective lower upper lowest ≡ found_root x n → IsRoot x
  root-found lower upper lowest x n h = (subst (Holds RootKeeps) h (root-keeps lower upper lowest)).it
