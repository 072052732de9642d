-- Definitions only. Steps that may fail, one after the other.
use Rattle.std.specs.Prelude.{Result, Ok, Err}

-- The next step on what the one before gave; an error ends them.
infixl 10 ◌>>=◌
abbrev pub ◌>>=◌ : {A B E : Type 0} → Result A E → (A → Result B E) → Result B E
Ok x >>= f = f x
Err e >>= f = Err e

-- An error said in other words.
abbrev pub map_err : {A D E : Type 0} → (D → E) → Result A D → Result A E
map_err f (Ok x) = Ok x
map_err f (Err e) = Err (f e)
