-- Bounds of a product by bounds of its factors, and how a bound that is a literal is used. Assumes nothing.
-- A float that is written out computes: `T (finite c)`, `T (le plusZero c)` and `T (le (mul binary64 a c) b)` at literals a, b, c are `tt`
-- where `of_bits`, `le` and the operation unfold, under a line `unfolding le mul of_bits` or by `unfold le mul of_bits in tt`.
-- So a bound of an operation's result is: the operation's law takes the operand to its literal bound, the operation at literals is computed,
-- and `le_trans` joins the two. With a bound on each side `between` says that the result is finite.
use Rattle.std.specs.Prelude.{T, Float}
use Rattle.std.specs.Float.{Format, binary64}
use Rattle.std.specs.Float.Ieee.{of_bits, mul, le}
use Rattle.std.specs.Float.Ieee.Scale.{finite}
use Rattle.floats.specs.Answers.{plus_zero}
use Rattle.floats.specs.laws.Order.{le_trans, between}
use Rattle.floats.specs.laws.Arithmetic.{mul_mono_left, mul_mono_right, mul_anti_right}

-- ---- x is at most a, and y is between 0 and b
pub mul-upper : (f : Format) (x a y b : Float) → T (finite x) → T (finite a) → T (finite y) → T (finite b)
    → T (le plus_zero a) → T (le x a) → T (le plus_zero y) → T (le y b) → T (le (mul f x y) (mul f a b))
mul-upper f x a y b p p' q q' z h w k = le_trans (mul f x y) (mul f a y) (mul f a b) (mul_mono_left f x a y p p' q w h) (mul_mono_right f a y b p' q q' z k)

-- ---- x is at least a, and y is between 0 and b
pub mul-lower : (f : Format) (x a y b : Float) → T (finite x) → T (finite a) → T (finite y) → T (finite b)
    → T (le a plus_zero) → T (le a x) → T (le plus_zero y) → T (le y b) → T (le (mul f a b) (mul f x y))
mul-lower f x a y b p p' q q' z h w k = le_trans (mul f a b) (mul f a y) (mul f x y) (mul_anti_right f a y b p' q q' z k) (mul_mono_left f a x y p' p q w h)

-- ---- an example: for x between -700 and 700, x / ln 2 is between -1010 and 1010, so it is finite
abbrev least : Float
least = of_bits binary64 0xc085_e000_0000_0000

abbrev most : Float
most = of_bits binary64 0x4085_e000_0000_0000

abbrev factor : Float
factor = of_bits binary64 0x3ff7_1547_652b_82fe

at_most : (x : Float) → T (finite x) → T (le x most) → T (le (mul binary64 x factor) (of_bits binary64 0x408f_9000_0000_0000))
unfolding le mul of_bits
at_most x p h = le_trans (mul binary64 x factor) (mul binary64 most factor) (of_bits binary64 0x408f_9000_0000_0000) (mul_mono_left binary64 x most factor p tt tt tt h) tt

at_least : (x : Float) → T (finite x) → T (le least x) → T (le (of_bits binary64 0xc08f_9000_0000_0000) (mul binary64 x factor))
unfolding le mul of_bits
at_least x p h = le_trans (of_bits binary64 0xc08f_9000_0000_0000) (mul binary64 least factor) (mul binary64 x factor) tt (mul_mono_left binary64 least x factor tt p tt tt h)

stays-finite : (x : Float) → T (finite x) → T (le least x) → T (le x most) → T (finite (mul binary64 x factor))
unfolding of_bits
stays-finite x p h k = between (of_bits binary64 0xc08f_9000_0000_0000) (mul binary64 x factor) (of_bits binary64 0x408f_9000_0000_0000) tt tt (at_least x p h) (at_most x p k)
