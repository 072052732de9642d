-- `with_piece` meets its contract: nothing where the piece is empty, else each operation is tested as the definition has it. Assumes nothing.
use Rattle.std.specs.Prelude.{◌≡◌, ℕ, cond, Float, Ok}
use Rattle.std.specs.Float.{binary64}
use Rattle.std.specs.Float.Ieee.{add, mul, le}
use Rattle.std.proofs.Common.{rules}
use Rattle.floats.specs.Answers.{Answer, on_outcome, follow, tested, when_finite}
use Rattle.floats.proofs.Laws.{taken, left}
use Rattle.hullwhite.specs.Variance.{weight, with_piece}
use Rattle.hullwhite.proofs.variance.with_piece.Goals as goal

module _ (alpha lower upper end sigma total : Float) (place : ℕ) where
  abbrev more : Answer
  more =
      follow (weight alpha lower upper end place) λ w.
      when_finite (mul binary64 sigma sigma) place λ square.
      when_finite (mul binary64 square w) place λ more. tested (add binary64 total more) place

  is_piece : {a : Answer} → a ≡ cond (le upper lower) (Ok total) more → a ≡ with_piece alpha lower upper end sigma total place
  unfolding with_piece
  is_piece h = h

pub returns-then-piece : goal.returns-then-piece
unfolding on_outcome
returns-then-piece c = let a = c.args in is_piece a.alpha a.piece.lower a.piece.upper a.piece.end a.sigma a.total a.place (search (taken, left, rules))

pub returns-in_err-w : goal.returns-in_err-w
unfolding on_outcome
returns-in_err-w c = let a = c.args in is_piece a.alpha a.piece.lower a.piece.upper a.piece.end a.sigma a.total a.place (search (taken, left, rules))

pub returns-in_err-square : goal.returns-in_err-square
unfolding on_outcome
returns-in_err-square c = let a = c.args in is_piece a.alpha a.piece.lower a.piece.upper a.piece.end a.sigma a.total a.place (search (taken, left, rules))

pub returns-in_err-more : goal.returns-in_err-more
unfolding on_outcome
returns-in_err-more c = let a = c.args in is_piece a.alpha a.piece.lower a.piece.upper a.piece.end a.sigma a.total a.place (search (taken, left, rules))

pub returns : goal.returns
unfolding on_outcome
returns c = let a = c.args in is_piece a.alpha a.piece.lower a.piece.upper a.piece.end a.sigma a.total a.place (search (taken, left, rules))
