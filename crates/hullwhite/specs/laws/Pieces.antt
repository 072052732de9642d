-- The pieces of a variance from an entry on: what is left to do gives the whole. Assumes nothing.
use Rattle.std.specs.Prelude.{ℕ, suc, ◌+◌, ◌≤◌, ◌<◌, ◌≡◌, get_or, Float, Ok, Err}
use Rattle.std.proofs.Common.{add-one, arith, ◌∙◌, drop_of_length-le}
use Rattle.std.proofs.Math.Path.{refl}
use mathlib.Core.List.{List, [], ◌∷◌}
use Rattle.std.proofs.Math.ListN.{length, drop}
use Rattle.std.proofs.Math.Seq.{drop-cons}
use Rattle.floats.specs.Answers.{Answer, plus_zero, on_outcome, follow}
use Rattle.floats.specs.Refusals.{Refusal}
use Rattle.floats.specs.Extremes.{max_of, min_of}
use Rattle.hullwhite.specs.Variance.{with_piece, pieces, variance_over}

module _ (alpha : Float) (times sigmas : List Float) (start end : Float) (place : ℕ) where
  -- Entry i is next, with the total so far and the piece's lower end.
  pub record Left (total lower : Float) (i : ℕ) : Type 0 where
    pub within : i ≤ length sigmas
    pub some : 0 < length times
    pub same : pieces alpha start end lower (drop (i + 1) times) (drop i sigmas) total place ≡ variance_over alpha times sigmas start end place

  pub none : length times ≡ 0 → Ok plus_zero ≡ variance_over alpha times sigmas start end place
  unfolding variance_over
  none e = go times e
    where
      go : (ts : List Float) → length ts ≡ 0 → Ok plus_zero ≡ variance_over alpha ts sigmas start end place
      go [] e = refl
      go (t ∷ ts) e = absurd (omega arith)

  pub begun : 0 < length times → Left plus_zero start 0
  unfolding variance_over
  begun h = record { within = omega arith; some = h; same = go times h }
    where
      go : (ts : List Float) → 0 < length ts → pieces alpha start end start (drop 1 ts) sigmas plus_zero place ≡ variance_over alpha ts sigmas start end place
      go [] h = absurd (omega arith)
      go (t ∷ ts) h = refl

  module _ (total lower : Float) (i : ℕ) (l : Left total lower i) where
    no_sigma : (ts : List Float) → Ok total ≡ pieces alpha start end lower ts [] total place
    unfolding pieces
    no_sigma [] = refl
    no_sigma (t ∷ ts) = refl

    pub ended : length sigmas ≤ i → Ok total ≡ variance_over alpha times sigmas start end place
    ended h = no_sigma (drop (i + 1) times) ∙ (rw (drop_of_length-le sigmas h) at l.same)

    -- the last entry holds on and on
    pub last : {r : Answer} (d : Float) → r ≡ with_piece alpha lower end end (get_or sigmas i d) total place → i < length sigmas → length times ≤ i + 1 → r ≡ variance_over alpha times sigmas start end place
    unfolding pieces
    last d e h k = e ∙ final ∙ (rw (drop_of_length-le times k, drop-cons sigmas i d h) at l.same)
      where
        final : with_piece alpha lower end end (get_or sigmas i d) total place ≡ pieces alpha start end lower [] (get_or sigmas i d ∷ drop (suc i) sigmas) total place
        final = refl

    -- what follows the piece of entry i
    abbrev pub onward : Float → Float → Answer
    onward next total = pieces alpha start end (max_of start next) (drop (i + 1 + 1) times) (drop (i + 1) sigmas) total place

    more : (next sigma : Float) (ts ss : List Float)
        → follow (with_piece alpha lower (min_of end next) end sigma total place) (λ sum. pieces alpha start end (max_of start next) ts ss sum place)
        ≡ pieces alpha start end lower (next ∷ ts) (sigma ∷ ss) total place
    unfolding pieces
    more next sigma ts ss = refl

    turn : (d : Float) → i < length sigmas → i + 1 < length times
        → follow (with_piece alpha lower (min_of end (get_or times (i + 1) d)) end (get_or sigmas i d) total place) (onward (get_or times (i + 1) d))
        ≡ variance_over alpha times sigmas start end place
    turn d h k =
        let a : drop (i + 1) times ≡ get_or times (i + 1) d ∷ drop (i + 1 + 1) times = rw (add-one (i + 1)) (drop-cons times (i + 1) d k) in
        let b : drop i sigmas ≡ get_or sigmas i d ∷ drop (i + 1) sigmas = rw (add-one i) (drop-cons sigmas i d h) in
        more (get_or times (i + 1) d) (get_or sigmas i d) (drop (i + 1 + 1) times) (drop (i + 1) sigmas) ∙ (rw (a, b) at l.same)

    -- the piece of entry i, its upper end being u
    module _ {a : Answer} {u : Float} (d : Float) (p : a ≡ with_piece alpha lower u end (get_or sigmas i d) total place) (m : u ≡ min_of end (get_or times (i + 1) d)) (h : i < length sigmas) (k : i + 1 < length times) where
      joined : follow a (onward (get_or times (i + 1) d)) ≡ variance_over alpha times sigmas start end place
      joined = rw (p, m) (turn d h k)

      pub refused : {q : Refusal} → a ≡ Err q → a ≡ variance_over alpha times sigmas start end place
      unfolding on_outcome
      refused e = e ∙ (rw e at joined)

      pub next : {v w : Float} → a ≡ Ok v → w ≡ max_of start (get_or times (i + 1) d) → Left v w (i + 1)
      unfolding on_outcome
      next e f = record { within = omega arith; some = l.some; same = rw f (rw e at joined) }
