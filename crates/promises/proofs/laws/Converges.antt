-- bracketed_root never runs out of halvings where every argument at which the objective has a value lies within ±1: its own refusals are 27 and 29. Assumes nothing.
use Prim.Native.Nat.{ℕ, zero, suc, ◌+◌, ◌*◌, ◌^◌, ◌≤◌}
use Rattle.std.proofs.Math.Nat.{pow-suc}
use Rattle.std.proofs.Common.{arith, sym, subst, ◌∙◌, true≢false}
use Rattle.std.specs.Prelude.{◌≡◌, false, T, Float, Ok, Err}
use Rattle.std.proofs.Math.Dec.{lit≤}
use Rattle.std.specs.Float.{binary64}
use Rattle.std.specs.Float.Ieee.{sub, neg, le}
use Rattle.floats.specs.Refusals.{Refusal}
use Rattle.floats.specs.Answers.{Answer, one}
use Rattle.floats.specs.Reasons.{reason_number}
use Rattle.floats.specs.Middle.{midpoint_at}
use Rattle.rounded.specs.Fused.{mul_add_at}
use Rattle.terms.specs.Numbers.{width_tolerance}
use Rattle.brackets.specs.declared.Bracket.{Bracket}
use Rattle.brackets.specs.declared.Widened.{Widened}
use Rattle.brackets.specs.declared.Widened.TheVariants as widened
use Rattle.brackets.specs.declared.Halved.{Halved}
use Rattle.brackets.specs.declared.Halved.TheVariants as halved
use Rattle.brackets.specs.declared.Root.{Root}
use Rattle.brackets.specs.Brackets.{Searched, no_root, found_root, small, raised, widen, halve, on_widened, on_halved, halving, settled, widening, bracketed_root}
use Rattle.floats.specs.laws.Cases.{Holds, cases}
use Rattle.brackets.specs.laws.Roots.{Ends}
use Rattle.promises.proofs.laws.Cells.{fine, cell, Cell, cell_of_lem}
use Rattle.promises.proofs.laws.Narrowing.{midpoint-cell, narrow}
use Rattle.floats.specs.declared.Reason.TheVariants as reason

-- ---- what each outcome keeps: Q holds of the number of every refusal

abbrev Gives : (ℕ → Type 0) → Answer → Type 0
Gives Q (Ok x) = Unit
Gives Q (Err r) = Q (reason_number r.reason)

abbrev HalvedTo : (ℕ → Type 0) → (Bracket → Type 0) → Searched Halved → Type 0
HalvedTo Q P (Ok (halved.Next b)) = P b
HalvedTo Q P (Ok (halved.Found x)) = Unit
HalvedTo Q P (Err e) = Q (reason_number e.refusal.reason)

abbrev WidenedTo : (ℕ → Type 0) → (Bracket → Type 0) → Searched Widened → Type 0
WidenedTo Q P (Ok (widened.Next b)) = P b
WidenedTo Q P (Ok (widened.Last b)) = P b
WidenedTo Q P (Err e) = Q (reason_number e.refusal.reason)

abbrev pub Settles : (ℕ → Type 0) → Searched Root → Type 0
Settles Q (Ok x) = Unit
Settles Q (Err e) = Q (reason_number e.refusal.reason)

module _ (Q : ℕ → Type 0) (of-27 : Q 27) (of-29 : Q 29) (objective : Float → Answer) (inside : (x y : Float) → objective x ≡ Ok y → T (le (neg one) x) × T (le x one)) (otherwise : (x : Float) (r : Refusal) → objective x ≡ Err r → Q (reason_number r.reason)) where
  -- ---- an operation's own refusal is 27

  gives-value : (x : Float) → Holds (Gives Q) (Ok x)
  gives-value x = record { it = tt }

  gives_27 : (place : ℕ) → Holds (Gives Q) (Err (record { reason = reason.NotFinite; place = place }))
  gives_27 place = record { it = of-27 }

  of_midpoint : (x y : Float) (r : Refusal) → midpoint_at x y 0 ≡ Err r → Q (reason_number r.reason)
  of_midpoint x y r e =
      let g : Holds (Gives Q) (midpoint_at x y 0) = search (cases, gives-value, gives_27) in
      (subst (Holds (Gives Q)) e g).it

  of_product : (x y z : Float) (r : Refusal) → mul_add_at x y z 0 ≡ Err r → Q (reason_number r.reason)
  of_product x y z r e =
      let g : Holds (Gives Q) (mul_add_at x y z 0) = search (cases, gives-value, gives_27) depth 9 in
      (subst (Holds (Gives Q)) e g).it

  found_h : {P : Bracket → Type 0} (x : Float) (n : ℕ) → Holds (HalvedTo Q P) (Ok (halved.Found (record { at = x; evaluations = n })))
  found_h x n = record { it = tt }

  infinite_h : {P : Bracket → Type 0} (n : ℕ) → Holds (HalvedTo Q P) (no_root (record { reason = reason.NotFinite; place = 0 }) n)
  infinite_h n = record { it = of-27 }

  midpoint_h : {P : Bracket → Type 0} (x y : Float) (r : Refusal) (n : ℕ) → midpoint_at x y 0 ≡ Err r → Holds (HalvedTo Q P) (no_root r n)
  midpoint_h x y r n e = record { it = of_midpoint x y r e }

  infinite_w : {P : Bracket → Type 0} (n : ℕ) → Holds (WidenedTo Q P) (no_root (record { reason = reason.NotFinite; place = 0 }) n)
  infinite_w n = record { it = of-27 }

  product_w : {P : Bracket → Type 0} (x y z : Float) (r : Refusal) (n : ℕ) → mul_add_at x y z 0 ≡ Err r → Holds (WidenedTo Q P) (no_root r n)
  product_w x y z r n e = record { it = of_product x y z r e }

  -- ---- the ends of a bracket are at most n cells apart

  record Near (n : ℕ) (b : Bracket) : Type 0 where
    ends : Ends objective b
    over : cell b.lower ≤ cell b.upper + n
    under : cell b.upper ≤ cell b.lower + n

  cell_at : (x y : Float) → objective x ≡ Ok y → Cell x (cell x)
  cell_at x y e = let i = inside x y e in cell_of_lem x i.0 i.1

  -- ---- one halving

  refused_h : {P : Bracket → Type 0} (x : Float) (r : Refusal) (n : ℕ) → objective x ≡ Err r → Holds (HalvedTo Q P) (no_root r n)
  refused_h x r n e = record { it = otherwise x r e }

  module _ (n k : ℕ) (less : n + 2 ≤ k * 2) where
    up_near : (b : Bracket) (m y : Float) (e : ℕ) → Near n b → midpoint_at b.lower b.upper 0 ≡ Ok m → objective m ≡ Ok y → Holds (HalvedTo Q (Near k)) (Ok (halved.Next (record { lower = m; upper = b.upper; at_lower = y; at_upper = b.at_upper; evaluations = e })))
    up_near b m y e near h v =
        let c = cell_at b.lower b.at_lower near.ends.lower-value in
        let d = cell_at b.upper b.at_upper near.ends.upper-value in
        let w = midpoint-cell b.lower b.upper (cell b.lower) (cell b.upper) c d m (cell m) h (cell_at m y v) in
        record { it = record { ends = record { lower-value = v; upper-value = near.ends.upper-value }; over = omega arith; under = omega arith } }

    down_near : (b : Bracket) (m y : Float) (e : ℕ) → Near n b → midpoint_at b.lower b.upper 0 ≡ Ok m → objective m ≡ Ok y → Holds (HalvedTo Q (Near k)) (Ok (halved.Next (record { lower = b.lower; upper = m; at_lower = b.at_lower; at_upper = y; evaluations = e })))
    down_near b m y e near h v =
        let c = cell_at b.lower b.at_lower near.ends.lower-value in
        let d = cell_at b.upper b.at_upper near.ends.upper-value in
        let w = midpoint-cell b.lower b.upper (cell b.lower) (cell b.upper) c d m (cell m) h (cell_at m y v) in
        record { it = record { ends = record { lower-value = near.ends.lower-value; upper-value = v }; over = omega arith; under = omega arith } }

    halve-near : (b : Bracket) → Near n b → Holds (HalvedTo Q (Near k)) (halve objective b)
    unfolding halve
    halve-near b near = search (cases, found_h, infinite_h, midpoint_h, refused_h, up_near, down_near) depth 16 fits 4000

  -- within six cells there is no next bracket
  no_next : (b c : Bracket) → Near 6 b → small width_tolerance (sub binary64 b.upper b.lower) ≡ false → Holds (HalvedTo Q (λ (c : Bracket). ⊥)) (Ok (halved.Next c))
  no_next b c near h =
      let t = narrow b.lower b.upper (cell b.lower) (cell b.upper) (cell_at b.lower b.at_lower near.ends.lower-value) (cell_at b.upper b.at_upper near.ends.upper-value) near.over near.under in
      absurd (true≢false (sym t ∙ h))

  halve-ends : (b : Bracket) → Near 6 b → Holds (HalvedTo Q (λ (c : Bracket). ⊥)) (halve objective b)
  unfolding halve
  halve-ends b near = search (cases, found_h, infinite_h, midpoint_h, refused_h, no_next b) depth 16 fits 4000

  -- ---- the halvings

  by_halved : (P : Bracket → Type 0) (go : Bracket → Searched Root) → ((c : Bracket) → P c → Holds (Settles Q) (go c)) → (h : Searched Halved) → Holds (HalvedTo Q P) h → Holds (Settles Q) (on_halved h no_root found_root go)
  unfolding on_halved
  by_halved P go p (Ok (halved.Next c)) w = p c w.it
  by_halved P go p (Ok (halved.Found x)) w = record { it = tt }
  by_halved P go p (Err e) w = record { it = w.it }

  halving_settles : (left : ℕ) (b : Bracket) → Near (2 + 4 * 2 ^ left) b → Holds (Settles Q) (halving objective (suc left) b)
  unfolding halving
  halving_settles zero b near = by_halved (λ (c : Bracket). ⊥) (halving objective 0) (λ c z. absurd z) (halve objective b) (halve-ends b near)
  halving_settles (suc left) b near =
      by_halved (Near (2 + 4 * 2 ^ left)) (halving objective (suc left)) (halving_settles left) (halve objective b)
      (halve-near (2 + 4 * 2 ^ suc left) (2 + 4 * 2 ^ left) (omega (arith, pow-suc 2 left)) b near)

  -- 256 are enough for any ends within ±1, which are at most 2^51 cells apart
  far : (a b t n : ℕ) → a ≤ t → t ≤ n → a ≤ b + n
  far a b t n h k = omega arith

  enough : fine * 2 ≤ 2 + 4 * 2 ^ 255
  unfolding fine
  enough = lit≤ tt

  all_halvings : (b : Bracket) → Ends objective b → Holds (Settles Q) (halving objective 256 b)
  all_halvings b ends =
      let c = cell_at b.lower b.at_lower ends.lower-value in
      let d = cell_at b.upper b.at_upper ends.upper-value in
      halving_settles 255 b (record { ends = ends; over = far _ _ _ _ c.top enough; under = far _ _ _ _ d.top enough })

  -- ---- the whole search

  found_r : (x : Float) (n : ℕ) → Holds (Settles Q) (found_root x n)
  found_r x n = record { it = tt }

  no_bracket : (n : ℕ) → Holds (Settles Q) (no_root (record { reason = reason.NoBracket; place = 0 }) n)
  no_bracket n = record { it = of-29 }

  refused_r : (x : Float) (r : Refusal) (n : ℕ) → objective x ≡ Err r → Holds (Settles Q) (no_root r n)
  refused_r x r n e = record { it = otherwise x r e }

  settled_settles : (b : Bracket) → Ends objective b → Holds (Settles Q) (settled objective b)
  unfolding settled
  settled_settles b ends = search (cases, found_r, no_bracket, all_halvings) depth 12 fits 4000

  refused_w : (x : Float) (r : Refusal) (n : ℕ) → objective x ≡ Err r → Holds (WidenedTo Q (Ends objective)) (no_root r n)
  refused_w x r n e = record { it = otherwise x r e }

  next_w : (b : Bracket) → objective b.lower ≡ Ok b.at_lower → objective b.upper ≡ Ok b.at_upper → Holds (WidenedTo Q (Ends objective)) (Ok (widened.Next b))
  next_w b e f = record { it = record { lower-value = e; upper-value = f } }

  last_w : (b : Bracket) → Ends objective b → Holds (WidenedTo Q (Ends objective)) (Ok (widened.Last b))
  last_w b ends = record { it = ends }

  raised-ends : (b : Bracket) → objective b.lower ≡ Ok b.at_lower → objective b.upper ≡ Ok b.at_upper → Holds (WidenedTo Q (Ends objective)) (raised objective b)
  unfolding raised
  raised-ends b e f = search (cases, product_w, refused_w, next_w) depth 12 fits 4000

  widen-ends : (lowest : Float) (b : Bracket) → Ends objective b → Holds (WidenedTo Q (Ends objective)) (widen objective lowest b)
  unfolding widen
  widen-ends lowest b ends = search (cases, product_w, infinite_w, refused_w, last_w, raised-ends) depth 16 fits 4000

  by_widened : (go : Bracket → Searched Root) → ((c : Bracket) → Ends objective c → Holds (Settles Q) (go c)) → (w : Searched Widened) → Holds (WidenedTo Q (Ends objective)) w → Holds (Settles Q) (on_widened w no_root (settled objective) go)
  unfolding on_widened
  by_widened go p (Ok (widened.Next c)) w = p c w.it
  by_widened go p (Ok (widened.Last c)) w = settled_settles c w.it
  by_widened go p (Err e) w = record { it = w.it }

  widening_settles : (lowest : Float) (left : ℕ) (b : Bracket) → Ends objective b → Holds (Settles Q) (widening objective lowest left b)
  unfolding widening
  widening_settles lowest zero b ends = settled_settles b ends
  widening_settles lowest (suc left) b ends =
      by_widened (widening objective lowest left) (widening_settles lowest left) (widen objective lowest b) (widen-ends lowest b ends)

  widening_from : (lowest : Float) (b : Bracket) → objective b.lower ≡ Ok b.at_lower → objective b.upper ≡ Ok b.at_upper → Holds (Settles Q) (widening objective lowest 64 b)
  widening_from lowest b e f = widening_settles lowest 64 b (record { lower-value = e; upper-value = f })

  root_settles : (lower upper lowest : Float) → Holds (Settles Q) (bracketed_root objective lower upper lowest)
  unfolding bracketed_root
  root_settles lower upper lowest = search (cases, refused_r, widening_from) depth 8

  -- bracketed_root refuses with 27, with 29 or as the objective does.
  pub converges : (lower upper lowest : Float) → Settles Q (bracketed_root objective lower upper lowest)
  converges lower upper lowest = (root_settles lower upper lowest).it
