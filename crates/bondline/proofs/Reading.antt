-- A whole number byte by byte: the next byte, the end, and how large it is. Assumes nothing.
use Rattle.std.proofs.Common.{ℕ, ◌+◌, ◌-◌, ◌*◌, ◌^◌, ◌<◌, ◌≤◌, ◌≡◌, cond, ◌&&◌, Ok, Err, List, length, get_or, drop, refl, arith, add-one, ltb, drop-cons, drop_of_length-le, lit<}
use Rattle.std.proofs.Math.Nat.{pow-suc, pow-le-pow_right}
use Rattle.bondline.specs.Numbers.{is_digit, whole_from}

pub whole_more : (word : List ℕ) (i v : ℕ) → i < length word → whole_from i v (drop i word) ≡ cond (ltb i 9 && is_digit (get_or word i 0)) (whole_from (i + 1) (v * 10 + (get_or word i 0 - 48)) (drop (i + 1) word)) (Err i)
whole_more word i v h = rw (drop-cons word i 0 h, add-one) (unfold whole_from in refl)

pub whole_all : (word : List ℕ) (i v : ℕ) → length word ≤ i → whole_from i v (drop i word) ≡ Ok v
whole_all word i v h = rw (drop_of_length-le word h) (unfold whole_from in refl)

pub below : (i v : ℕ) → v < 10 ^ i → i < 9 → v < 100000000
below i v s h =
    let j : i ≤ 8 = omega arith in
    let p : 10 ^ i ≤ 10 ^ 8 = pow-le-pow_right {n = 10} (lit< tt) j in
    omega arith

pub longer : (i v d : ℕ) → v < 10 ^ i → d ≤ 9 → v * 10 + d < 10 ^ (i + 1)
longer i v d s h = rw (add-one, pow-suc) (omega arith)
