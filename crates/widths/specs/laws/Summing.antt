-- The widths of all layers summed, and the widest, layer by layer. Assumes nothing.
use Rattle.std.specs.Prelude.{ℕ, zero, suc, ◌+◌, ◌*◌, ◌≤◌, ◌<◌, max, ◌≡◌, Bool, true, false, cond, List, [], ◌∷◌, T, leb, length, get_or, take, drop, set, ℤ, pos, negsuc, Float, Ok, Err}
use Rattle.std.proofs.Common.{zero-add, le_antisymm, le_trans, arith, ◌∙◌, length-take-le, le-leb, leb-true}
use Rattle.std.proofs.Math.Nat.{le-max_left, le-max_right, max-le}
use Rattle.std.proofs.Math.Path.{refl, sym, ap, subst}
use Rattle.std.specs.Float.Ieee.{le}
use Rattle.std.specs.Float.{nan}
use Rattle.std.proofs.lemmas.Bool.{lt-leb}
use Rattle.floats.specs.Refusals.{Refusal}
use Rattle.floats.specs.declared.Reason.{Reason}
use Rattle.floats.specs.Answers.{plus_zero, Outcome, follow, on_outcome, refusal}
use Rattle.terms.specs.laws.Outcomes.{valued-value, valued-refused, same_given, given_or_refused, of_given}
use Rattle.lattice.specs.Lattice.{root_layer, spacing_of, decay_of}
use Rattle.lattice.specs.laws.RisingMiddles.{Climbs, none, above, around}
use Rattle.lattice.proofs.theorems.RisingMiddles.{around-laid}
use Rattle.widths.specs.declared.tree.Widths.{Widths}
use Rattle.widths.specs.Widths.{middle_nodes, new_spacing, widths_from, flat_widths, curved_widths, total, widest}
use Rattle.widths.specs.laws.LayerMiddles.{Reached, reached, few-around}
use Rattle.widths.specs.laws.Widening.{Wide, wide, next_wide, wide_from, Fore, new-not_below}
use Rattle.floats.specs.declared.Reason.TheVariants as reason

-- The nodes of all layers, and those of the widest.
pub record Sums : Type 0 where
  pub total : ℕ
  pub widest : ℕ

unfoldable pub sums_of : Outcome (List ℕ) → Outcome Sums
unfolding total widest
sums_of (Ok ws) = Ok (record { total = total ws; widest = widest ws })
sums_of (Err r) = Err r

unfoldable pub sums_made : Outcome Widths → Outcome Sums
sums_made (Ok v) = Ok (record { total = v.nodes; widest = v.widest })
sums_made (Err r) = Err r

-- ---- what is known of the next layer

pub record Known (room : ℕ) (decay : Float) (w : Wide) : Type 0 where
  pub fits : length w.nodes ≤ room
  pub few : length w.nodes ≤ 2000004
  pub some-node : 0 < length w.nodes
  pub low : ℤ
  pub climbs : Climbs low w.nodes
  pub spacing-above : T (le plus_zero w.spacing)

around-some : {ms : List ℤ} → Reached ms → 0 < length (around ms)
around-some {ms} r = rw (r.is, around-laid 3 r.first r.others r.rising) (omega arith)

leb-given : {A : Type 0} (a b : ℕ) (x : A) (why : Reason) (k : ℕ) {y : A} → cond (leb a b) (Ok x) (refusal why k) ≡ Ok y → (a ≤ b) × (x ≡ y)
leb-given a b x why k {y} e = go (leb a b) refl e
  where
    go : (t : Bool) → leb a b ≡ t → cond t (Ok x) (refusal why k) ≡ Ok y → (a ≤ b) × (x ≡ y)
    go true p e = (leb-true a b p, same_given e)
    go false p e = absurd (given_or_refused (sym (sym e)) refl)

known_from : (room : ℕ) (decay spacing new : Float) (k : ℕ) (ns : List ℤ) {t : ℤ} {w : Wide} → 0 < length ns → Climbs t ns → T (le plus_zero spacing) → T (le plus_zero decay) → (v : Float) → new_spacing v k ≡ Ok new → wide_from room decay spacing new ns k ≡ Ok w → Known room decay w
unfolding wide_from
known_from room decay spacing new k [] h c a b v n e = absurd (omega arith)
known_from room decay spacing new k (m ∷ ns) {t} {w} h c a b v n e =
    let (ms, p, q) = of_given (middle_nodes spacing decay new k (m ∷ ns)) (λ ms. cond (leb (length (m ∷ ns) + length (around ms)) room) (Ok (wide new (around ms))) (refusal reason.NoRoom (suc k))) e in
    let z = new-not_below v k new n in
    let r = reached spacing decay new k a b z c p in
    let (l, i) = leb-given (length (m ∷ ns) + length (around ms)) room (wide new (around ms)) reason.NoRoom (suc k) q in
    subst (Known room decay) i (record { fits = omega arith; few = few-around r; some-node = around-some r; low = _; climbs = r.climbs; spacing-above = z.not_below_lem })

pub nodes-known : (room : ℕ) (decay spacing : Float) (ns : List ℤ) (k : ℕ) (v : Float) {t : ℤ} {w : Wide} → 0 < length ns → Climbs t ns → T (le plus_zero spacing) → T (le plus_zero decay) → next_wide room decay spacing ns k v ≡ Ok w → Known room decay w
unfolding next_wide
nodes-known room decay spacing ns k v h c a b e =
    let (new, p, q) = of_given (new_spacing v k) (λ new. wide_from room decay spacing new ns k) e in
    known_from room decay spacing new k ns h c a b v p q

pub next_known : (room : ℕ) (decay spacing : Float) (count : ℕ) (nodes : List ℤ) (k : ℕ) (v : Float) {w : Wide} → Fore count spacing decay nodes → next_wide room decay spacing (take count nodes) k v ≡ Ok w → Known room decay w
next_known room decay spacing count nodes k v f e =
    nodes-known room decay spacing (take count nodes) k v (rw (length-take-le count nodes f.room) f.some-node) f.climbs f.spacing-above f.decay-above e

-- ---- so far

abbrev pub sums_after : ℕ → ℕ → Outcome (List ℕ) → Outcome Sums
sums_after t w o = follow o λ ws. Ok (record { total = t + total ws; widest = max w (widest ws) })

max-zero : (a : ℕ) → max 0 a ≡ a
max-zero a = le_antisymm (max-le (omega arith) (omega arith)) (le-max_right 0 a)

pub max_none : (a : ℕ) → max a 0 ≡ a
max_none a = le_antisymm (max-le (omega arith) (omega arith)) (le-max_left a 0)

max_assoc : (a b c : ℕ) → max a (max b c) ≡ max (max a b) c
max_assoc a b c =
    let p = le-max_left a b in
    let q = le-max_right a b in
    let r = le-max_left (max a b) c in
    let s = le-max_right (max a b) c in
    let x = le-max_left a (max b c) in
    let y = le-max_right a (max b c) in
    let u = le-max_left b c in
    let v = le-max_right b c in
    le_antisymm (max-le (le_trans p r) (max-le (le_trans q r) s)) (max-le (max-le x (le_trans u y)) (le_trans v y))

sums_none : (o : Outcome (List ℕ)) → sums_after 0 0 o ≡ sums_of o
unfolding sums_of on_outcome
sums_none (Ok ws) = rw (zero-add (total ws), max-zero (widest ws))
sums_none (Err r) = refl

pub sums_more : (t w c : ℕ) (o : Outcome (List ℕ)) → sums_after t w (follow o λ ws. Ok (c ∷ ws)) ≡ sums_after (t + c) (max w c) o
unfolding on_outcome total widest
sums_more t w c (Ok ws) = let e : t + (c + total ws) ≡ t + c + total ws = omega arith in rw (e, max_assoc w c (widest ws))
sums_more t w c (Err r) = refl

module _ (decay first : Float) (vs : List Float) (before : List ℤ) where
  pub record Summing (nodes : List ℤ) (spacing : Float) (count t w i : ℕ) : Type 0 where
    pub within : i ≤ length vs
    pub fore : Fore count spacing decay nodes
    pub few : count ≤ 2000004
    pub bound : t ≤ 2000004 * i
    pub kept : length nodes ≡ length before
    pub same : sums_after t w (widths_from (length before) decay spacing (take count nodes) i (drop i vs)) ≡ sums_of (widths_from (length before) decay first root_layer 0 vs)

  pub summing_begun : T (le plus_zero decay) → T (le plus_zero first) → 0 < length before → take 1 before ≡ root_layer → Summing before first 1 0 0 0
  summing_begun a b h e =
      record {
        within = omega arith;
        fore = record { room = h; some-node = omega arith; low = negsuc 0; climbs = rw e (above tt none); spacing-above = b; decay-above = a };
        few = omega arith;
        bound = omega arith;
        kept = refl;
        same = rw e (sums_none (widths_from (length before) decay first root_layer 0 vs));
      }

-- ---- from the root on

abbrev pub rooted_widths : ℕ → Float → Float → List Float → Outcome (List ℕ)
rooted_widths room decay spacing vs = cond (leb 1 room) (widths_from room decay spacing root_layer 0 vs) (refusal reason.NoRoom 0)

-- A flat tree's layers, the root tried first.
abbrev pub flat_all : ℕ → ℕ → Outcome (List ℕ)
flat_all room steps = cond (leb 1 room) (flat_widths room 0 steps) (refusal reason.NoRoom 0)

unfoldable pub ones : ℕ → List ℕ
ones zero = 1 ∷ []
ones (suc n) = 1 ∷ ones n

pub flat-ones : (room k left : ℕ) → leb 2 room ≡ true → flat_widths room k left ≡ Ok (ones left)
unfolding flat_widths ones on_outcome
flat-ones room k zero e = refl
flat-ones room k (suc left) e = rw (e, flat-ones room (suc k) left e)

pub ones-total : (n : ℕ) → total (ones n) ≡ n + 1
unfolding ones total
ones-total zero = refl
ones-total (suc n) = omega (arith, ones-total n)

ones-widest : (n : ℕ) → widest (ones n) ≡ 1
unfolding ones widest
ones-widest zero = refl
ones-widest (suc n) = rw (ones-widest n)

pub flat-found : (room steps : ℕ) → 2 ≤ room → sums_made (Ok (record { nodes = (steps + 1); widest = 1 })) ≡ sums_of (flat_all room steps)
unfolding sums_made sums_of
flat-found room steps h = rw (le-leb 1 room (omega arith), flat-ones room 0 steps (le-leb 2 room h), ones-total steps, ones-widest steps)

pub flat-none : (room steps : ℕ) → room < 1 → sums_made (Err (record { reason = reason.NoRoom; place = 0 })) ≡ sums_of (flat_all room steps)
unfolding sums_made sums_of
flat-none room steps h = rw (lt-leb 1 room h)

pub flat_one : (room steps : ℕ) → 0 < steps → 1 ≤ room → room < 2 → sums_made (Err (record { reason = reason.NoRoom; place = 1 })) ≡ sums_of (flat_all room steps)
unfolding sums_made sums_of flat_widths
flat_one room zero p h k = absurd (omega arith)
flat_one room (suc n) p h k = rw (le-leb 1 room h, lt-leb 2 room k)

pub root_none : (room : ℕ) (decay spacing : Float) (vs : List Float) → room < 1 → sums_made (Err (record { reason = reason.NoRoom; place = 0 })) ≡ sums_of (rooted_widths room decay spacing vs)
unfolding sums_made sums_of
root_none room decay spacing vs h = rw (lt-leb 1 room h)

pub root-laid : (room : ℕ) (decay spacing : Float) (vs : List Float) → 1 ≤ room → sums_of (widths_from room decay spacing root_layer 0 vs) ≡ sums_of (rooted_widths room decay spacing vs)
root-laid room decay spacing vs h = rw (le-leb 1 room h)

pub root-set : (nodes : List ℤ) → 0 < length nodes → take 1 (set nodes 0 (pos 0)) ≡ root_layer
root-set [] h = absurd (omega arith)
root-set (n ∷ nodes) h = refl

-- ---- decay and spacing 0

pub curved-no_decay : (room : ℕ) (alpha dt : Float) (vs : List Float) {r : Refusal} → 0 < length vs → decay_of alpha dt ≡ Err r → sums_made (Err r) ≡ sums_of (curved_widths room alpha dt vs)
unfolding sums_made sums_of curved_widths
curved-no_decay room alpha dt [] h e = absurd (omega arith)
curved-no_decay room alpha dt (v ∷ vs) h e = rw (valued-refused _ _ e)

pub curved_no_spacing : (room : ℕ) (alpha dt : Float) (vs : List Float) {d : Float} {r : Refusal} → 0 < length vs → decay_of alpha dt ≡ Ok d → spacing_of (get_or vs 0 nan) 0 ≡ Err r
    → sums_made (Err r) ≡ sums_of (curved_widths room alpha dt vs)
unfolding sums_made sums_of curved_widths
curved_no_spacing room alpha dt [] h e f = absurd (omega arith)
curved_no_spacing room alpha dt (v ∷ vs) h e f = rw (valued-value _ _ e, valued-refused _ _ f)

pub curved-rooted : (room : ℕ) (alpha dt : Float) (vs : List Float) {d s : Float} → 0 < length vs → decay_of alpha dt ≡ Ok d → spacing_of (get_or vs 0 nan) 0 ≡ Ok s
    → sums_of (rooted_widths room d s vs) ≡ sums_of (curved_widths room alpha dt vs)
unfolding curved_widths
curved-rooted room alpha dt [] h e f = absurd (omega arith)
curved-rooted room alpha dt (v ∷ vs) {d} {s} h e f =
    let rooted : Float → Float → Outcome (List ℕ) = λ decay spacing. rooted_widths room decay spacing (v ∷ vs) in
    sym (ap sums_of (valued-value (decay_of alpha dt) (λ decay. follow (spacing_of v 0) (rooted decay)) e ∙ valued-value (spacing_of v 0) (rooted d) f))
