-- A value's cents as the report's two decimals have them. Assumes nothing.
use Rattle.std.specs.Option.{option_map_or}
use Prim.Native.Nat.{ℕ, ◌*◌, ◌/◌, ◌%◌, ◌^◌, ◌≤◌, ◌<◌, compare}
use Rattle.std.specs.Prelude.{◌≡◌, ◌⊎◌, Bool, cond, ltb, leb, ℤ}
use Rattle.std.proofs.Common.{sym, ap, ◌∙◌, inl, inr, le_trans, le-div_iff_mul-le, arith, lt-ltb, le-ltb, le-leb}
use Rattle.std.proofs.lemmas.Bool.{lt-leb}
use Rattle.std.specs.Float.{fin}
use Rattle.std.specs.Float.Ieee.{up, down}
use Rattle.std.specs.Float.Ieee.Fits.{down_pos}
use Rattle.std.specs.Float.Ieee.Nearest.{closest, nearest-ge}
use Rattle.rounded.specs.laws.RoundToOdd.{ordered}
use Rattle.std.specs.Prelude.{Some, None}
use Rattle.decimal.specs.Writing.{in_units}
use Rattle.closingsheet.specs.Cells.{fitting, printed_of}
use Rattle.closingsheet.specs.HalfAway.{in_cents}

-- A whole part of twelve digits at the most is a limit on the cents.
in_cents_lem : (s : Bool) (cents : ℕ) → fitting (in_units s 2 cents) ≡ in_cents s cents
unfolding in_cents
in_cents_lem s cents = ap (λ (b : Bool). cond b None (Some (in_units s 2 cents))) (go (ordered cents 99999999999999))
  where
    go : (cents ≤ 99999999999999) ⊎ (99999999999999 < cents) → ltb 999999999999 (cents / 100) ≡ ltb 99999999999999 cents
    go (inl h) = le-ltb 999999999999 (cents / 100) (omega arith) ∙ sym (le-ltb 99999999999999 cents h)
    go (inr h) = lt-ltb 999999999999 (cents / 100) (omega arith) ∙ sym (lt-ltb 99999999999999 cents h)

-- A size of 2^49 has more cents than are printed.
too_many : (s : Bool) (a c : ℕ) → 0 < c → 2 ^ 49 * c ≤ a → None ≡ in_cents s (closest (100 * a) c)
unfolding in_cents
too_many s a c C h =
    let most : 100000000000000 ≤ 100 * a / c = (le-div_iff_mul-le {k = c} {x = 100000000000000} {y = 100 * a} C).1 (omega arith) in
    sym (ap (λ (b : Bool). cond b None (Some (in_units s 2 (closest (100 * a) c)))) (lt-ltb 99999999999999 (closest (100 * a) c) (le_trans most (nearest-ge (100 * a / c) (compare (100 * a % c * 2) c)))))

pub cents_are : (s : Bool) (m : ℕ) (e : ℤ) → printed_of (fin s m e) ≡ in_cents s (closest (100 * (m * up e)) (down e))
unfolding printed_of
cents_are s m e = go (ordered (2 ^ 49 * down e) (m * up e))
  where
    units : ℕ
    units = closest (100 * (m * up e)) (down e)

    go : (2 ^ 49 * down e ≤ m * up e) ⊎ (m * up e < 2 ^ 49 * down e)
        → option_map_or fitting (cond (leb (2 ^ 49 * down e) (m * up e)) None (Some (in_units s 2 units))) None ≡ in_cents s units
    go (inl h) =
        ap (λ (b : Bool). option_map_or fitting (cond b None (Some (in_units s 2 units))) None) (le-leb (2 ^ 49 * down e) (m * up e) h)
        ∙ too_many s (m * up e) (down e) (down_pos e) h
    go (inr h) =
        ap (λ (b : Bool). option_map_or fitting (cond b None (Some (in_units s 2 units))) None) (lt-leb (2 ^ 49 * down e) (m * up e) h)
        ∙ in_cents_lem s units
