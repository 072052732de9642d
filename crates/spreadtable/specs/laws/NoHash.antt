-- No hash sign stands in a value's cell. Assumes nothing.
use Rattle.std.specs.Prelude.{ℕ, zero, suc, ◌+◌, ◌-◌, ◌/◌, ◌%◌, ◌≡◌, Bool, true, false, cond, List, [], ◌∷◌, eqb, ltb, set, take, replicate}
use Rattle.std.proofs.Common.{arith}
use Rattle.decimal.specs.declared.Rounded.{Rounded}
use Rattle.std.specs.Prelude.{Option, Some, None}
use Rattle.bondreport.specs.declared.Leftward.{Leftward}
use Rattle.bondreport.specs.Columns.{blank_line}
use Rattle.bondreport.specs.Numbers.{byte_left, digits_left, width_of, whole_left}
use Rattle.bondreport.specs.Figures.{before, point_left, minus_left, decimals_left}
use Rattle.closingsheet.specs.Cells.{cell_of}

-- Each byte is another.
pub data Unhashed : List ℕ → Type 0 where
  none : Unhashed []
  more : {b : ℕ} {bytes : List ℕ} → (b ≡ 35 → ⊥) → Unhashed bytes → Unhashed (b ∷ bytes)

set_unhashed : (line : List ℕ) (at b : ℕ) → (b ≡ 35 → ⊥) → Unhashed line → Unhashed (set line at b)
set_unhashed [] at b h none = none
set_unhashed (c ∷ line) zero b h (more k u) = more h u
set_unhashed (c ∷ line) (suc at) b h (more k u) = more k (set_unhashed line at b h u)

take_unhashed : (n : ℕ) (line : List ℕ) → Unhashed line → Unhashed (take n line)
take_unhashed zero line u = none
take_unhashed (suc n) [] none = none
take_unhashed (suc n) (c ∷ line) (more k u) = more k (take_unhashed n line u)

blank_unhashed : (n : ℕ) → Unhashed (replicate n 32)
blank_unhashed zero = none
blank_unhashed (suc n) = more {b = 32} (λ e. omega arith) (blank_unhashed n)

byte_unhashed : (c : Leftward) (b : ℕ) → (b ≡ 35 → ⊥) → Unhashed c.line → Unhashed (byte_left c b).line
unfolding byte_left
byte_unhashed c b h u = go (eqb c.end 0)
  where
    go : (t : Bool) → Unhashed (cond t c (before (set c.line (c.end - 1) b) (c.end - 1))).line
    go true = u
    go false = set_unhashed c.line (c.end - 1) b h u

digits_unhashed : (count : ℕ) (c : Leftward) (n : ℕ) → Unhashed c.line → Unhashed (digits_left count c n).line
unfolding digits_left
digits_unhashed zero c n u = u
digits_unhashed (suc count) c n u = digits_unhashed count (byte_left c (48 + n % 10)) (n / 10) (byte_unhashed c (48 + n % 10) (λ e. omega arith) u)

minus_unhashed : (c : Leftward) (v : Rounded) → Unhashed c.line → Unhashed (minus_left c v).line
unfolding minus_left
minus_unhashed c v u = go v.negative (ltb 0 v.whole) (ltb 0 v.part)
  where
    signed : Unhashed (byte_left c 45).line
    signed = byte_unhashed c 45 (λ e. omega arith) u

    go : (t p q : Bool) → Unhashed (cond t (cond p (byte_left c 45) (cond q (byte_left c 45) c)) c).line
    go true true q = signed
    go true false true = signed
    go true false false = u
    go false p q = u

written_unhashed : (v : Rounded) → Unhashed (decimals_left (before blank_line 16) 2 v).line
unfolding point_left whole_left
written_unhashed v =
    minus_unhashed (whole_left pointed v.whole) v
    (digits_unhashed (width_of v.whole) pointed v.whole
    (byte_unhashed (digits_left 2 (before blank_line 16) v.part) 46 (λ e. omega arith)
    (digits_unhashed 2 (before blank_line 16) v.part (blank_unhashed 80))))
  where
    pointed : Leftward
    pointed = byte_left (digits_left 2 (before blank_line 16) v.part) 46

pub cell_unhashed : (d : Option Rounded) → Unhashed (cell_of d).cell
cell_unhashed (Some v) = take_unhashed 16 (decimals_left (before blank_line 16) 2 v).line (written_unhashed v)
cell_unhashed None = blank_unhashed 16
