-- A laid tree taken apart: the layer in front, and the tree behind it. Assumes nothing.
use Rattle.std.specs.Prelude.{ℕ, ◌*◌, ◌≤◌, ◌<◌, ◌≡◌, Bool, List, [], ◌∷◌, length, get_or, drop, ℤ, Float}
use Rattle.std.proofs.Math.Path.{refl}
use Rattle.std.proofs.Common.{arith}
use Rattle.std.specs.Float.{nan}
use Rattle.lattice.specs.laws.Stored.{numbers_in}
use Rattle.lattice.specs.laws.Parts.{part_from, part_from_lem}
use Rattle.lattice.specs.laws.Laid.{front_nodes, front_layer, layers_in, final_in, Stepped, Laid, last_laid, more_laid}

-- The count of the layer in front.
abbrev pub front_count : List ℕ → ℕ
front_count counts = get_or counts 0 0

-- What any laid tree has.
pub record Fronted (one two : ℕ) (counts : List ℕ) (nodes : List ℤ) : Type 0 where
  pub some-count : 0 < length counts
  pub pairs : front_count counts * 2 ≤ length nodes
  pub first_room : front_count counts ≤ one
  pub second-room : front_count counts ≤ two

-- The last layer.
pub record Last (flat : Bool) (counts : List ℕ) (spacings : List Float) (nodes : List ℤ) (probabilities : List Float) : Type 0 where
  pub layers : layers_in flat counts spacings nodes probabilities ≡ []
  pub final : final_in counts spacings nodes ≡ numbers_in (front_nodes (front_count counts) nodes)

-- A layer with others behind it.
pub record Behind (flat : Bool) (one two : ℕ) (counts : List ℕ) (spacings : List Float) (nodes : List ℤ) (probabilities : List Float) : Type 0 where
  pub two_counts : 1 < length counts
  pub stepped : Stepped flat one two (front_count counts) (get_or counts 1 0) nodes probabilities
  pub laid : Laid flat one two (drop 1 counts) (drop 1 spacings) (drop (front_count counts * 2) nodes) (drop (front_count counts * 3) probabilities)
  pub next : front_count (drop 1 counts) ≡ get_or counts 1 0
  pub layers : layers_in flat counts spacings nodes probabilities
      ≡ front_layer flat (front_count counts) (get_or spacings 0 nan) nodes probabilities
      ∷ layers_in flat (drop 1 counts) (drop 1 spacings) (drop (front_count counts * 2) nodes) (drop (front_count counts * 3) probabilities)
  pub final : final_in counts spacings nodes ≡ final_in (drop 1 counts) (drop 1 spacings) (drop (front_count counts * 2) nodes)

module _ {flat : Bool} {one two : ℕ} where
  pub fronted : {counts : List ℕ} {spacings : List Float} {nodes : List ℤ} {probabilities : List Float} → Laid flat one two counts spacings nodes probabilities → Fronted one two counts nodes
  fronted (last_laid p a b) = record { some-count = omega arith; pairs = p; first_room = a; second-room = b }
  fronted (more_laid s rest) = record { some-count = omega arith; pairs = s.pairs; first_room = s.first_room; second-room = s.second-room }

  pub last_of : {counts : List ℕ} {spacings : List Float} {nodes : List ℤ} {probabilities : List Float} → Laid flat one two counts spacings nodes probabilities → length spacings ≡ 0 → Last flat counts spacings nodes probabilities
  unfolding layers_in final_in
  last_of (last_laid p a b) h = record { layers = refl; final = refl }
  last_of (more_laid s rest) h = absurd (omega arith)

  pub behind_of : {counts : List ℕ} {spacings : List Float} {nodes : List ℤ} {probabilities : List Float} → Laid flat one two counts spacings nodes probabilities → (length spacings ≡ 0 → ⊥) → Behind flat one two counts spacings nodes probabilities
  unfolding layers_in final_in
  behind_of (last_laid p a b) h = absurd (h refl)
  behind_of (more_laid s rest) h = record { two_counts = omega arith; stepped = s; laid = rest; next = refl; layers = refl; final = refl }

  -- the tree behind, in the parts of the slices
  pub laid-parts : {counts : List ℕ} {spacings : List Float} {nodes : List ℤ} {probabilities : List Float} → Behind flat one two counts spacings nodes probabilities → Laid flat one two (part_from 1 counts) (part_from 1 spacings) (part_from (front_count counts * 2) nodes) (part_from (front_count counts * 3) probabilities)
  laid-parts {counts} {spacings} {nodes} {probabilities} b =
      rw (part_from_lem 1 counts, part_from_lem 1 spacings, part_from_lem (front_count counts * 2) nodes, part_from_lem (front_count counts * 3) probabilities) b.laid

  -- the same tree, over rows as long as those
  pub laid-over : {long wide : ℕ} {counts : List ℕ} {spacings : List Float} {nodes : List ℤ} {probabilities : List Float} → long ≡ one → wide ≡ two → Laid flat one two counts spacings nodes probabilities → Laid flat long wide counts spacings nodes probabilities
  laid-over e f l = rw (e, f) l
