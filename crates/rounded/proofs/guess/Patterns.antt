-- Bit patterns up to infinity's are no NaN's, and a number that compared as less isn't one.
-- Assumes nothing.
use mathlib.Core.Path.{◌≡◌, sym, ◌∙◌, subst}
use mathlib.Core.Bool.{Bool, true, not, true≢false}
use Prim.Native.Nat.{ℕ, ◌%◌, ◌≤◌}
use native.Mathlib.Omega.{arith}
use borrow.Author.Tests.{le-ltb}
use lib.Dec.{T}
use lib.Ieee.{Float, nan, inf, fin, binary64, nan_bits, is_nan, lt}
use lib.Ieee.Bits.{nan_bits_above}

pub number-bits : (n : ℕ) → n ≤ 0x7ff0_0000_0000_0000 → T (not (nan_bits binary64 n))
number-bits n h =
    subst
    (λ (b : Bool). T (not b))
    (sym (nan_bits_above binary64 n ∙ le-ltb 0x7ff0_0000_0000_0000 (n % 0x8000_0000_0000_0000) (omega arith)))
    tt

pub less_number : (x y : Float) → lt x y ≡ true → T (not (is_nan x))
unfolding lt is_nan
less_number nan y h = absurd (true≢false (sym h))
less_number (inf s) y h = tt
less_number (fin s m e) y h = tt
