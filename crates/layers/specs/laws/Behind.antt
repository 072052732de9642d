-- A layer behind another one in the slices: what is done to it leaves the one in front. Assumes nothing.
use Rattle.std.specs.Prelude.{ℕ, ◌+◌, ◌-◌, ◌*◌, ◌≤◌, ◌<◌, ◌≡◌, refl, false, List, length, get_or, take, drop, set, ℤ, pos, Float, Ok, Err}
use Rattle.std.proofs.Common.{arith, sym, ap, ◌∙◌, length-append, length-set, length-drop, get_or-drop, take_at, drop_at, length-take-le}
use Rattle.std.proofs.lemmas.List.{take-set-le, drop-set-add}
use Rattle.floats.specs.Refusals.{Refusal}
use Rattle.floats.specs.Answers.{Check, Outcome}
use Rattle.lattice.specs.declared.Transition.{Transition}
use Rattle.lattice.specs.declared.NextLayer.{NextLayer}
use Rattle.lattice.specs.Transitions.{Step, transition_of}
use Rattle.lattice.specs.Lattice.{Lattice}
use Rattle.lattice.specs.laws.Bounds.{Within}
use Rattle.lattice.specs.laws.FilledLayer.{FilledLayer}
use Rattle.lattice.specs.laws.FillingLayer.{FillingLayer, filling-begun, filling_all, filling-stopped, filling-stored, stored-within, number_read}
use Rattle.lattice.specs.laws.Stored.{numbers_in}
use Rattle.lattice.specs.laws.Laid.{front_nodes}
use Rattle.lattice.specs.laws.LaidTree.{LaysTree}
use Rattle.lattice.specs.laws.Parts.{part_from, part_from_lem, with_part, with_part_lem}
use Rattle.lattice.specs.laws.Growing.{Grew, Front, GrownLayer, room_left}
use Rattle.lattice.specs.laws.FilledFront.{FilledFront}
use Rattle.lattice.specs.laws.NextLaid.{room_of, LaidNext}
use Rattle.lattice.specs.laws.Grown.{grown_from}
use Rattle.lattice.proofs.theorems.Grown.{grown_layer}
use Rattle.layers.specs.laws.Known.{Known, known_kept}

-- The first b nodes and their transitions are as they were.
pub record FrontKept (b : ℕ) (before after : List ℤ) (beforeP afterP : List Float) : Type 0 where
  pub front : take (b * 2) after ≡ take (b * 2) before
  pub front_too : take (b * 3) afterP ≡ take (b * 3) beforeP
  pub kept : length after ≡ length before
  pub kept_too : length afterP ≡ length beforeP

pub untouched : (b : ℕ) (nodes : List ℤ) (probabilities : List Float) → FrontKept b nodes nodes probabilities probabilities
untouched b nodes probabilities = record { front = refl; front_too = refl; kept = refl; kept_too = refl }

-- What filling a layer behind b nodes leaves.
pub record FilledBehind (s : Step) (b c : ℕ) (r : Check) (before after : List ℤ) (beforeP afterP : List Float) : Type 0 where
  pub filled : FilledLayer s c r (drop (b * 2) before) (drop (b * 2) after) (drop (b * 3) beforeP) (drop (b * 3) afterP)
  pub behind : FrontKept b before after beforeP afterP

-- What growing a layer behind b nodes promises.
pub record GrownBehind (o : Outcome Grew) (b c : ℕ) (r : Outcome NextLayer) (before after : List ℤ) (beforeP afterP : List Float) : Type 0 where
  pub grown : GrownLayer o c r (drop (b * 2) before) (drop (b * 2) after) (drop (b * 3) beforeP) (drop (b * 3) afterP)
  pub behind : FrontKept b before after beforeP afterP

-- What laying the layers from one behind b nodes on promises.
pub record LaysBehind (b one two c : ℕ) (numbers : List ℤ) (o : Outcome Lattice) (r : Check) (counts : List ℕ) (spacings : List Float) (before after : List ℤ) (beforeP afterP : List Float) : Type 0 where
  pub lays : LaysTree false one two c numbers o r counts spacings (drop (b * 2) after) (drop (b * 3) afterP)
  pub behind : FrontKept b before after beforeP afterP

-- ---- a loop that fills it

module _ (s : Step) (b c known : ℕ) (before : List ℤ) (beforeP : List Float) where
  pub record FillingBehind (after : List ℤ) (afterP : List Float) (i : ℕ) : Type 0 where
    pub filling : FillingLayer s c (drop (b * 2) before) (drop (b * 3) beforeP) (drop (b * 2) after) (drop (b * 3) afterP) i
    pub behind : FrontKept b before after beforeP afterP
    pub few : known ≤ b
    pub knows : Known s known before beforeP
    pub pairs : (b + c) * 2 ≤ length before
    pub threes : (b + c) * 3 ≤ length beforeP

pub behind-begun : {s : Step} {b c known : ℕ} {before : List ℤ} {beforeP : List Float} → (b + c) * 2 ≤ length before → (b + c) * 3 ≤ length beforeP → known ≤ b → Known s known before beforeP → FillingBehind s b c known before beforeP before beforeP 0
behind-begun {s} {b} {c} {known} {before} {beforeP} p q h k =
    record {
      filling = filling-begun s c (drop (b * 2) before) (drop (b * 3) beforeP) (rw (length-drop (b * 2) before) (omega arith)) (rw (length-drop (b * 3) beforeP) (omega arith));
      behind = untouched b before beforeP;
      few = h;
      knows = k;
      pairs = p;
      threes = q;
    }

module _ {s : Step} {b c known : ℕ} {before after : List ℤ} {beforeP afterP : List Float} {i : ℕ} (f : FillingBehind s b c known before beforeP after afterP i) where
  -- what is known of the layer before stays known
  pub still_known : Known s known after afterP
  still_known = let k = f.behind in known_kept f.few k.kept k.kept_too k.front k.front_too f.knows

  -- room for node i
  pub pairs-there : i < c → (b + i) * 2 + 2 ≤ length after
  pairs-there h = omega (arith, f.pairs, f.behind.kept)

  pub threes-there : i < c → (b + i) * 3 + 3 ≤ length afterP
  threes-there h = omega (arith, f.threes, f.behind.kept_too)

  -- the number read is the one that was there
  pub behind-read : i < c → get_or after (2 * (b + i)) (pos 0) ≡ get_or (drop (b * 2) before) (2 * i) (pos 0)
  behind-read h =
      let e : 2 * (b + i) ≡ b * 2 + 2 * i = omega arith in
      ap (λ (z : ℕ). get_or after z (pos 0)) e ∙ sym (get_or-drop (b * 2) after (2 * i) (pos 0))
      ∙ number_read s c (drop (b * 2) before) (drop (b * 3) beforeP) (drop (b * 2) after) (drop (b * 3) afterP) i f.filling (pos 0) h

  pub behind_all : c ≤ i → FilledBehind s b c (Ok tt) before after beforeP afterP
  behind_all h =
      record { filled = filling_all s c (drop (b * 2) before) (drop (b * 3) beforeP) (drop (b * 2) after) (drop (b * 3) afterP) i f.filling h; behind = f.behind }

  -- ---- with what the code has in hand

  module _ (made : Outcome Transition) {n : ℤ} (h : i < c) (read : n ≡ get_or after (2 * (b + i)) (pos 0)) (ensured : made ≡ transition_of s n) where
    pub behind-stopped : {q : Refusal} → made ≡ Err q → FilledBehind s b c (Err q) before after beforeP afterP
    behind-stopped e =
        record {
          filled = filling-stopped s c (drop (b * 2) before) (drop (b * 3) beforeP) (drop (b * 2) after) (drop (b * 3) afterP) i f.filling made h (read ∙ behind-read h) ensured e;
          behind = f.behind;
        }

    pub behind-within : {t : Transition} → made ≡ Ok t → Within t.middle
    behind-within e = stored-within s c (drop (b * 2) before) (drop (b * 3) beforeP) (drop (b * 2) after) (drop (b * 3) afterP) i f.filling made h (read ∙ behind-read h) ensured e

    pub behind-stored : {t : Transition} {m : ℤ} → made ≡ Ok t → m ≡ t.middle
        → FillingBehind s b c known before beforeP (set after (2 * (b + i) + 1) m) (set (set (set afterP (3 * (b + i)) t.probability_down) (3 * (b + i) + 1) t.probability_middle) (3 * (b + i) + 2) t.probability_up) (i + 1)
    behind-stored {t} {m} e k =
        let x : 2 * (b + i) + 1 ≡ b * 2 + (2 * i + 1) = omega arith in
        let y : 3 * (b + i) ≡ b * 3 + 3 * i = omega arith in
        let y1 : b * 3 + 3 * i + 1 ≡ b * 3 + (3 * i + 1) = omega arith in
        let y2 : b * 3 + 3 * i + 2 ≡ b * 3 + (3 * i + 2) = omega arith in
        let p0 = set afterP (b * 3 + 3 * i) t.probability_down in
        let p1 = set p0 (b * 3 + (3 * i + 1)) t.probability_middle in
        let g = filling-stored s c (drop (b * 2) before) (drop (b * 3) beforeP) (drop (b * 2) after) (drop (b * 3) afterP) i f.filling made h (read ∙ behind-read h) ensured e k in
        rw (x, y, y1, y2)
        (record {
          filling =
              rw (drop-set-add (b * 2) after (2 * i + 1) m, drop-set-add (b * 3) p1 (3 * i + 2) t.probability_up, drop-set-add (b * 3) p0 (3 * i + 1) t.probability_middle, drop-set-add (b * 3) afterP (3 * i) t.probability_down) g;
          behind =
              record {
                front = take-set-le (b * 2) after (b * 2 + (2 * i + 1)) m (omega arith) ∙ f.behind.front;
                front_too =
                    take-set-le (b * 3) p1 (b * 3 + (3 * i + 2)) t.probability_up (omega arith)
                    ∙ take-set-le (b * 3) p0 (b * 3 + (3 * i + 1)) t.probability_middle (omega arith)
                    ∙ take-set-le (b * 3) afterP (b * 3 + 3 * i) t.probability_down (omega arith)
                    ∙ f.behind.front_too;
                kept = length-set after (b * 2 + (2 * i + 1)) m ∙ f.behind.kept;
                kept_too =
                    length-set p1 (b * 3 + (3 * i + 2)) t.probability_up
                    ∙ length-set p0 (b * 3 + (3 * i + 1)) t.probability_middle
                    ∙ length-set afterP (b * 3 + 3 * i) t.probability_down
                    ∙ f.behind.kept_too;
              };
          few = f.few;
          knows = f.knows;
          pairs = f.pairs;
          threes = f.threes;
        })

-- ---- the part behind b nodes, and the whole once it is back

module _ {A : Type 0} (a : ℕ) (xs ys : List A) (h : a ≤ length xs) where
  pub part-back : drop a (with_part a xs ys) ≡ ys
  part-back = rw (with_part_lem a xs ys) (drop_at (take a xs) ys a (length-take-le a xs h))

  pub part-front : take a (with_part a xs ys) ≡ take a xs
  part-front = rw (with_part_lem a xs ys) (take_at (take a xs) ys a (length-take-le a xs h))

  pub part-kept : length ys ≡ length (drop a xs) → length (with_part a xs ys) ≡ length xs
  part-kept e = rw (with_part_lem a xs ys) (length-append (take a xs) ys ∙ omega (arith, e, length-take-le a xs h, length-drop a xs))

-- A front behind b nodes: room for both.
pub front-room : {c : ℕ} {spacing decay : Float} (b : ℕ) (nodes : List ℤ) (probabilities : List Float) → Front c spacing decay (drop (b * 2) nodes) (drop (b * 3) probabilities) → ((b + c) * 2 ≤ length nodes) × ((b + c) * 3 ≤ length probabilities)
front-room {c} b nodes probabilities f = (omega (arith, f.pairs, f.some-node, length-drop (b * 2) nodes), omega (arith, f.threes, f.some-node, length-drop (b * 3) probabilities))

-- A layer filled behind b nodes, and the next one laid in the part behind them.
pub grown-behind : {s : Step} {b c : ℕ} {before mid left : List ℤ} {beforeP midP : List Float} {r : Outcome NextLayer} (one two n : ℕ) → b * 2 ≤ length mid → n ≡ length midP - b * 3
    → FilledFront s c (drop (b * 2) before) (drop (b * 2) mid) (drop (b * 3) beforeP) (drop (b * 3) midP) → FrontKept b before mid beforeP midP
    → LaidNext (room_of (length (part_from (b * 2) mid)) n one two) s.new_spacing s.place c r (part_from (b * 2) mid) left
    → GrownBehind (grown_from (room_left (drop (b * 2) before) (drop (b * 3) beforeP) one two) s (numbers_in (front_nodes c (drop (b * 2) before)))) b c r before (with_part (b * 2) mid left) beforeP midP
grown-behind {s} {b} {c} {before} {mid} {left} {beforeP} {midP} {r} one two n h e f k l =
    let room : n ≡ length (drop (b * 3) midP) = e ∙ sym (length-drop (b * 3) midP) in
    let laid : LaidNext (room_of (length (drop (b * 2) mid)) (length (drop (b * 3) midP)) one two) s.new_spacing s.place c r (drop (b * 2) mid) left = rw (part_from_lem (b * 2) mid, room) at l in
    record {
      grown = rw (part-back (b * 2) mid left h) (grown_layer f one two laid);
      behind =
          record {
            front = part-front (b * 2) mid left h ∙ k.front;
            front_too = k.front_too;
            kept = part-kept (b * 2) mid left h laid.kept ∙ k.kept;
            kept_too = k.kept_too;
          };
    }
