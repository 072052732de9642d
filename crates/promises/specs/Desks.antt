-- Definitions only. Each desk's own count, of two runs: what the other desks hold, and what slices are lent, never changes a desk's count or values.
use Rattle.std.specs.Prelude.{ℕ, zero, suc, ◌<◌, ◌≡◌, cond, List, [], ◌∷◌, ◌++◌, eqb, get_or, Float}
use Rattle.floats.specs.Answers.{plus_zero}
use Rattle.terms.specs.Terms.{CallSchedule, Bond, TimeGrid}
use Rattle.bookchecks.specs.Book.{Book, market_at, calls_at}
use Rattle.bookvalue.specs.Values.{desk_of}
use Rattle.promises.specs.HostCallLists.{BookCall}
use Rattle.promises.specs.Books.{size}

-- A bond with all that comes with it: everything but what the book shares.
pub record BookBond : Type 0 where
  pub code : ℕ
  pub bond : Bond
  pub calls : CallSchedule
  pub controls : TimeGrid
  pub spread : Float

abbrev pub bond_at : Book → ℕ → BookBond
bond_at b i =
    record {
      code = (market_at b i).settlement.code;
      bond = (market_at b i).bond;
      calls = calls_at b i;
      controls = (market_at b i).controls;
      spread = (market_at b i).spread;
    }

-- What is said of the bonds of a desk, in book order.
unfoldable pub of_desk : {A : Type 0} → (ℕ → ℕ) → ℕ → (ℕ → A) → ℕ → List A
of_desk desk d f zero = []
of_desk desk d f (suc n) = cond (eqb (desk n) d) (of_desk desk d f n ++ (f n ∷ [])) (of_desk desk d f n)

abbrev pub desk_bonds : ℕ → Book → List BookBond
desk_bonds d b = of_desk (desk_of b) d (bond_at b) (size b)

abbrev pub desk_values : ℕ → {b : Book} → BookCall b → List Float
desk_values d {b} c = of_desk (desk_of b) d (λ i. get_or c.values i plus_zero) (size b)

-- In two accepted books with the same settlement day, curve, sigma schedule and alpha that hold the same bonds of one desk in the same order, that desk's count and values are the same.
abbrev pub DeskRule : Type 0
DeskRule =
    (d : ℕ) → d < 8
    → (first second : Book)
    → second.shared ≡ first.shared
    → desk_bonds d second ≡ desk_bonds d first
    → (a : BookCall first) (c : BookCall second)
    → a.number ≡ 0
    → c.number ≡ 0
    → (get_or c.counts d 0 ≡ get_or a.counts d 0) × (desk_values d c ≡ desk_values d a)
