-- The fit by positions: what is done at one node, and one layer over the lent row that is written. Assumes nothing.
use Rattle.std.specs.Prelude.{ℕ, ◌≡◌, Bool, cond, List, [], ◌∷◌, ltb, get_or, set, ℤ, Float, Ok}
use Rattle.std.proofs.Common.{sym}
use Rattle.std.specs.Float.{binary64, nan}
use Rattle.std.specs.Float.Ieee.{add, mul, div, neg, le}
use Rattle.floats.specs.Answers.{Answer, plus_zero, follow, refusal, tested, when_finite, Outcome}
use Rattle.elementary.specs.Exponential.{exp_at}
use Rattle.elementary.specs.Logarithm.{ln_at}
use Rattle.lattice.specs.declared.reach.Reach.{Reach}
use Rattle.lattice.specs.Layers.{At, node_float}
use Rattle.forwardinduction.specs.Fit.{weighted}
use Rattle.lattice.specs.laws.Reaching.{reach}
use Rattle.lattice.specs.laws.Positions.{spot_at, past}
use Rattle.lattice.specs.laws.Binds.{binds}
use Rattle.floats.specs.declared.Reason.TheVariants as reason

-- ---- the weighted sum

-- One more price in the sum: the new total. The node's number is a float already.
unfoldable pub weigh_one : Float → Float → ℕ → Float → Float → Float → Answer
unfolding add mul neg
weigh_one spacing dt place node price total =
    when_finite (mul binary64 (neg node) dt) place λ x.
    when_finite (mul binary64 spacing x) place λ y.
    follow (exp_at y place) λ discount.
    when_finite (mul binary64 price discount) place λ w. tested (add binary64 total w) place

-- The sum is the first price, then the others.
pub weighted_more : (spacing dt : Float) (place : ℕ) (a : At) (row : List At) (total : Float)
    → weighted spacing dt place (a ∷ row) total ≡ follow (weigh_one spacing dt place (node_float a.node) a.value total) λ t. weighted spacing dt place row t
unfolding weighted weigh_one
weighted_more spacing dt place a row total = sym (search binds depth 10)

-- ---- the shift

-- From the sum and the curve's factor: 25, the quotient, ln, and the shift.
unfoldable pub shift_from : Float → ℕ → Float → Float → Answer
unfolding div le
shift_from dt place sum factor =
    cond (le factor plus_zero) (refusal reason.Factor place)
    (when_finite (div binary64 sum factor) place λ quotient.
    follow (ln_at quotient place) λ log. tested (div binary64 log dt) place)

-- ---- contributions

-- exp((shift + spacing × node) × −time_step) × state price.
unfoldable pub discounted_of : Float → Float → Float → ℕ → Float → Float → Answer
unfolding add mul neg
discounted_of spacing dt shift place node price =
    when_finite (mul binary64 spacing node) place λ state.
    when_finite (add binary64 shift state) place λ rate.
    when_finite (mul binary64 rate (neg dt)) place λ x.
    follow (exp_at x place) λ discount. tested (mul binary64 price discount) place

-- Stored as it is at a position that is not reached, else added to what is there.
unfoldable pub add_at : ℕ → ℕ → ℕ → Float → List Float → Outcome (List Float)
unfolding add
add_at place at count x out =
    cond (ltb at count)
    (when_finite (add binary64 (get_or out at nan) x) place λ v. Ok (set out at v))
    (Ok (set out at x))

-- Discounted price × probability, to a position.
unfoldable pub share_at : ℕ → ℕ → ℕ → Float → Float → List Float → Outcome (List Float)
unfolding add_at mul
share_at place at count price probability out = when_finite (mul binary64 price probability) place λ x. add_at place at count x out

-- Down, middle, up.
unfoldable pub add_three : ℕ → Bool → ℕ → ℕ → Float → Float → Float → Float → List Float → Outcome (List Float)
unfolding share_at
add_three place flat before after price down middle up out =
    follow (share_at place (spot_at flat after 3) before price down out) λ out.
    follow (share_at place (spot_at flat after 2) (past before (spot_at flat after 3)) price middle out) λ out.
    share_at place (spot_at flat after 1) (past (past before (spot_at flat after 3)) (spot_at flat after 2)) price up out

-- A layer's nodes in turn, over the next row.
unfoldable pub onward_at : Float → Float → Float → ℕ → Bool → Reach → List ℤ → List Float → List Float → List Float → Outcome (List Float)
unfolding discounted_of add_three reach
onward_at spacing dt shift place flat r (n ∷ m ∷ nodes) (d ∷ p ∷ u ∷ probabilities) (x ∷ row) out =
    follow (discounted_of spacing dt shift place (node_float n) x) λ price.
    follow (add_three place flat r.count (reach r m).count price d p u out) λ out.
    onward_at spacing dt shift place flat (reach r m) nodes probabilities row out
onward_at spacing dt shift place flat r (n ∷ m ∷ nodes) (d ∷ p ∷ u ∷ probabilities) [] out = Ok out
onward_at spacing dt shift place flat r (n ∷ m ∷ nodes) (d ∷ p ∷ []) row out = Ok out
onward_at spacing dt shift place flat r (n ∷ m ∷ nodes) (d ∷ []) row out = Ok out
onward_at spacing dt shift place flat r (n ∷ m ∷ nodes) [] row out = Ok out
onward_at spacing dt shift place flat r (n ∷ []) probabilities row out = Ok out
onward_at spacing dt shift place flat r [] probabilities row out = Ok out
