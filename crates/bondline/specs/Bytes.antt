-- Definitions only. Bytes of a bond file and runs of them; a text of the definitions as its bytes.
use Rattle.std.specs.Prelude.{ℕ, ◌+◌, ◌≡◌, Bool, not, ◌&&◌, List, [], ◌∷◌, drop, eqb, leb, ltb}
use Rattle.std.specs.List.{prefix_len}
use Rattle.std.specs.Str.{bytes_eq}
use Prim.Native.Char.{code}
use Prim.Native.String.{String, [] as none, ◌∷◌ as ◌then◌}

-- The bytes of a text that these definitions quote.
abbrev pub bytes : String → List ℕ
bytes none = []
bytes (c then s) = code c ∷ bytes s

abbrev pub is_space : ℕ → Bool
is_space b = eqb b 32

abbrev pub is_other : ℕ → ℕ → Bool
is_other stop b = not (eqb b stop)

-- The bytes 32 to 126 may stand in a line, and in its comment those above them too.
abbrev pub is_allowed : ℕ → Bool
is_allowed b = leb 32 b && ltb b 127

abbrev pub is_commented : ℕ → Bool
is_commented b = leb 32 b

-- How many bytes at the front pass a test.
abbrev pub leading : (ℕ → Bool) → List ℕ → ℕ
leading p bs = prefix_len p bs

-- The first index from i on whose byte fails the test; the end where all pass.
abbrev pub run_end : (ℕ → Bool) → List ℕ → ℕ → ℕ
run_end p bs i = i + leading p (drop i bs)

-- That a closure's results are those of a test.
abbrev pub Computes : {F : Type 0} → (F → ℕ → Bool → Type 0) → F → (ℕ → Bool) → Type 0
Computes post f p = (b : ℕ) (r : Bool) → post f b r → r ≡ p b

-- Whether two words are the same.
abbrev pub same : List ℕ → List ℕ → Bool
same a b = bytes_eq a b
