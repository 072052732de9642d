-- What sqrt refuses with is 26 or 27: said of every P that these two numbers have. Assumes nothing.
use Rattle.std.specs.Prelude.{ℕ, Float}
use Rattle.floats.specs.laws.Cases.{Holds, RefusedOnly, refusing}
use Rattle.rounded.specs.Root.{sqrt_at}

pub sqrt-refuses : (P : ℕ → Type 0) → P 26 → P 27 → (x : Float) (place : ℕ) → Holds (RefusedOnly P) (sqrt_at x place)
unfolding sqrt_at
sqrt-refuses P outside overflow x place = search refusing
