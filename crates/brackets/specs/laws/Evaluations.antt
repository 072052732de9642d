-- How many evaluations a round and the whole search can make: at most 386. Over any objective. Assumes nothing.
use Prim.Native.Nat.{ℕ, zero, suc, ◌+◌, ◌*◌, ◌≤◌}
use Rattle.std.specs.Prelude.{Float, Ok, Err}
use Rattle.std.proofs.Math.Nat.{le_trans}
use native.Mathlib.Omega.{arith}
use Rattle.floats.specs.Refusals.{Refusal}
use Rattle.floats.specs.Answers.{Answer}
use Rattle.brackets.specs.declared.Bracket.{Bracket}
use Rattle.brackets.specs.declared.Widened.{Widened}
use Rattle.brackets.specs.declared.Widened.TheVariants as widened
use Rattle.brackets.specs.declared.Halved.{Halved}
use Rattle.brackets.specs.declared.Halved.TheVariants as halved
use Rattle.brackets.specs.declared.Root.{Root}
use Rattle.brackets.specs.Brackets.{Searched, no_root, found_root, raised, widen, halve, on_widened, on_halved, halving, settled, widening, bracketed_root, evaluations_of}
use Rattle.floats.specs.laws.Cases.{Holds, cases}

-- ---- the count that an outcome carries, and a bound on it

abbrev pub widened_count : Searched Widened → ℕ
widened_count (Ok (widened.Next b)) = b.evaluations
widened_count (Ok (widened.Last b)) = b.evaluations
widened_count (Err e) = e.evaluations

abbrev pub halved_count : Searched Halved → ℕ
halved_count (Ok (halved.Next b)) = b.evaluations
halved_count (Ok (halved.Found x)) = x.evaluations
halved_count (Err e) = e.evaluations

abbrev pub WidenedWithin : ℕ → Searched Widened → Type 0
WidenedWithin n w = widened_count w ≤ n

abbrev pub HalvedWithin : ℕ → Searched Halved → Type 0
HalvedWithin n h = halved_count h ≤ n

abbrev pub RootWithin : ℕ → Searched Root → Type 0
RootWithin n r = evaluations_of r ≤ n

refuse_w : {n : ℕ} (r : Refusal) (m : ℕ) → m ≤ n → Holds (WidenedWithin n) (no_root r m)
refuse_w r m h = record { it = h }

next_w : {n : ℕ} (b : Bracket) → b.evaluations ≤ n → Holds (WidenedWithin n) (Ok (widened.Next b))
next_w b h = record { it = h }

last_w : {n : ℕ} (b : Bracket) → b.evaluations ≤ n → Holds (WidenedWithin n) (Ok (widened.Last b))
last_w b h = record { it = h }

refuse_h : {n : ℕ} (r : Refusal) (m : ℕ) → m ≤ n → Holds (HalvedWithin n) (no_root r m)
refuse_h r m h = record { it = h }

next_h : {n : ℕ} (b : Bracket) → b.evaluations ≤ n → Holds (HalvedWithin n) (Ok (halved.Next b))
next_h b h = record { it = h }

found_h : {n : ℕ} (x : Root) → x.evaluations ≤ n → Holds (HalvedWithin n) (Ok (halved.Found x))
found_h x h = record { it = h }

refuse_r : {n : ℕ} (r : Refusal) (m : ℕ) → m ≤ n → Holds (RootWithin n) (no_root r m)
refuse_r r m h = record { it = h }

found_r : {n : ℕ} (x : Float) (m : ℕ) → m ≤ n → Holds (RootWithin n) (found_root x m)
found_r x m h = record { it = h }

ruleset counts = (cases, refuse_w, next_w, last_w, refuse_h, next_h, found_h, refuse_r, found_r)

module _ (objective : Float → Answer) where
  -- ---- one round

  pub raised-within : (b : Bracket) → Holds (WidenedWithin (b.evaluations + 1)) (raised objective b)
  unfolding raised
  raised-within b =
      let none : b.evaluations ≤ b.evaluations + 1 = omega arith in
      let once : b.evaluations + 1 ≤ b.evaluations + 1 = omega arith in
      search counts depth 12 fits 4000

  pub widen-within : (lowest : Float) (b : Bracket) → Holds (WidenedWithin (b.evaluations + 2)) (widen objective lowest b)
  unfolding widen
  widen-within lowest b =
      let none : b.evaluations ≤ b.evaluations + 2 = omega arith in
      let once : b.evaluations + 1 ≤ b.evaluations + 2 = omega arith in
      let then-raised : (c : Bracket) → c.evaluations ≤ b.evaluations + 1 → Holds (WidenedWithin (b.evaluations + 2)) (raised objective c) =
      λ c h. record { it = le_trans (raised-within c).it (omega arith) } in
      let still : b.evaluations ≤ b.evaluations + 1 = omega arith in
      let one : b.evaluations + 1 ≤ b.evaluations + 1 = omega arith in
      search (counts, then-raised) depth 16 fits 4000

  pub halve-within : (b : Bracket) → Holds (HalvedWithin (b.evaluations + 1)) (halve objective b)
  unfolding halve
  halve-within b =
      let none : b.evaluations ≤ b.evaluations + 1 = omega arith in
      let once : b.evaluations + 1 ≤ b.evaluations + 1 = omega arith in
      search counts depth 16 fits 4000

  -- ---- the whole search

  by_halved : (n m : ℕ) (go : Bracket → Searched Root) → n ≤ m → ((c : Bracket) → c.evaluations ≤ n → Holds (RootWithin m) (go c)) → (h : Searched Halved) → Holds (HalvedWithin n) h → Holds (RootWithin m) (on_halved h no_root found_root go)
  unfolding on_halved
  by_halved n m go l p (Ok (halved.Next c)) w = p c w.it
  by_halved n m go l p (Ok (halved.Found x)) w = record { it = le_trans w.it l }
  by_halved n m go l p (Err e) w = record { it = le_trans w.it l }

  pub halving-within : (m left : ℕ) (b : Bracket) → b.evaluations + left ≤ m → Holds (RootWithin m) (halving objective left b)
  unfolding halving
  halving-within m zero b h = record { it = omega arith }
  halving-within m (suc left) b h =
      by_halved (b.evaluations + 1) m (halving objective left) (omega arith) (λ c k. halving-within m left c (omega arith)) (halve objective b) (halve-within b)

  pub settled-within : (b : Bracket) → b.evaluations ≤ 130 → Holds (RootWithin 386) (settled objective b)
  unfolding settled
  settled-within b h =
      let few : b.evaluations ≤ 386 = omega arith in
      let halved-on : Holds (RootWithin 386) (halving objective 256 b) = halving-within 386 256 b (omega arith) in
      search (counts, halved-on) depth 12 fits 4000

  by_widened : (n m : ℕ) (go : Bracket → Searched Root) → n ≤ 130 → ((c : Bracket) → c.evaluations ≤ n → Holds (RootWithin 386) (go c)) → (w : Searched Widened) → Holds (WidenedWithin n) w → Holds (RootWithin 386) (on_widened w no_root (settled objective) go)
  unfolding on_widened
  by_widened n m go l p (Ok (widened.Next c)) w = p c w.it
  by_widened n m go l p (Ok (widened.Last c)) w = settled-within c (le_trans w.it l)
  by_widened n m go l p (Err e) w = record { it = le_trans w.it (omega arith) }

  pub widening-within : (lowest : Float) (left : ℕ) (b : Bracket) → b.evaluations + 2 * left ≤ 130 → Holds (RootWithin 386) (widening objective lowest left b)
  unfolding widening
  widening-within lowest zero b h = settled-within b (omega arith)
  widening-within lowest (suc left) b h =
      by_widened (b.evaluations + 2) 386 (widening objective lowest left) (omega arith) (λ c k. widening-within lowest left c (omega arith)) (widen objective lowest b) (widen-within lowest b)

  widening_from : (lowest : Float) (b : Bracket) → b.evaluations ≤ 2 → Holds (RootWithin 386) (widening objective lowest 64 b)
  widening_from lowest b h = widening-within lowest 64 b (omega arith)

  root-within : (lower upper lowest : Float) → Holds (RootWithin 386) (bracketed_root objective lower upper lowest)
  unfolding bracketed_root
  root-within lower upper lowest =
      let one : 1 ≤ 386 = omega arith in
      let two : 2 ≤ 386 = omega arith in
      let start : 2 ≤ 2 = omega arith in
      search (counts, widening_from) depth 8

  -- Objective evaluations are at most 386, on refusals too.
  pub at_most_386 : (lower upper lowest : Float) → evaluations_of (bracketed_root objective lower upper lowest) ≤ 386
  at_most_386 lower upper lowest = (root-within lower upper lowest).it
