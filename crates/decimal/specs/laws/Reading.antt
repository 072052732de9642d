-- A word is read byte by byte: what is left to read gives what the whole gives. Assumes nothing.
use Rattle.std.specs.Prelude.{ℕ, ◌+◌, ◌-◌, ◌*◌, ◌≤◌, ◌<◌, ◌≡◌, refl, Bool, true, false, cond, List, [], ◌∷◌, eqb, leb, ltb, length, get_or, take, drop, Float, Result, Ok, Err}
use Rattle.std.proofs.Math.Path.{sym, ap, subst}
use Rattle.std.proofs.Common.{◌∙◌, add-one, arith, leb-false, eq-eqb, ne_eqb, drop_of_length-le, drop-cons}
use Rattle.std.proofs.Math.Seq.{take-length}
use Rattle.decimal.specs.declared.ReadError.{ReadError}
use Rattle.decimal.specs.declared.ReadError.TheVariants.{Malformed, TooLong}
use Rattle.decimal.specs.declared.reading.Reading.{Reading}
use Rattle.decimal.specs.Decimal.{point, nought, nine, most_places, seventeen_digits, reading, fresh, with_point, with_digit, step, finish, on_step, read_from, read_decimal}

-- ---- no more than 22 decimals are read

abbrev Few : Result Reading ReadError → Type 0
Few (Ok s) = s.places ≤ 22
Few (Err e) = Unit {0}

either : (b : Bool) (x y : Result Reading ReadError) → (b ≡ true → Few x) → (b ≡ false → Few y) → Few (cond b x y)
either true x y f g = f refl
either false x y f g = g refl

step-few : (s : Reading) (byte column : ℕ) → s.places ≤ 22 → Few (step s byte column)
unfolding step
step-few s byte column h =
    either (eqb byte point) (with_point s column) (cond (ltb byte nought) unfit (cond (ltb nine byte) unfit (with_digit s (byte - nought) column))) (λ e. pointed) λ e.
    either (ltb byte nought) unfit (cond (ltb nine byte) unfit (with_digit s (byte - nought) column)) (λ e. tt) λ e.
    either (ltb nine byte) unfit (with_digit s (byte - nought) column) (λ e. tt) λ e. digit (byte - nought)
  where
    unfit : Result Reading ReadError
    unfit = Err (Malformed column)

    full : Result Reading ReadError
    full = Err (TooLong column)

    pointed : Few (with_point s column)
    pointed =
        either s.pointed unfit (cond s.ready (Ok (reading s.digits s.places true false)) unfit) (λ e. tt) λ e.
        either s.ready (Ok (reading s.digits s.places true false)) unfit (λ e. h) λ e. tt

    digit : (d : ℕ) → Few (with_digit s d column)
    digit d =
        let on : Result Reading ReadError = Ok (reading (s.digits * 10 + d) (s.places + 1) true true) in
        let off : Result Reading ReadError = Ok (reading (s.digits * 10 + d) s.places false true) in
        either (leb seventeen_digits s.digits) full (cond s.pointed (cond (leb most_places s.places) full on) off) (λ e. tt) λ e.
        either s.pointed (cond (leb most_places s.places) full on) off
        (λ f. either (leb most_places s.places) full on (λ g. tt) λ g. omega (arith, leb-false most_places s.places g))
        λ f. h

-- ---- from byte to byte

-- The bytes before i have been read.
pub record ReadTo (text : List ℕ) (negative : Bool) (start : ℕ) (s : Reading) (i : ℕ) : Type 0 where
  pub few : s.places ≤ 22
  pub same : read_from negative s (start + i) (drop i text) ≡ read_from negative fresh start text

pub begin : (text : List ℕ) (negative : Bool) (start : ℕ) → ReadTo text negative start fresh 0
begin text negative start =
    let e : start + 0 ≡ start = omega arith in
    record { few = omega arith; same = ap (λ (z : ℕ). read_from negative fresh z text) e }

module _ (text : List ℕ) (negative : Bool) (start : ℕ) (s : Reading) (i : ℕ) where
  onward : i < length text → read_from negative s (start + i) (drop i text) ≡ on_step (step s (get_or text i 0) (start + i)) (λ t. read_from negative t (start + (i + 1)) (drop (i + 1) text))
  unfolding read_from
  onward h =
      let e : start + i + 1 ≡ start + (i + 1) = omega arith in
      ap (read_from negative s (start + i)) (drop-cons text i 0 h)
      ∙ ap (λ (z : ℕ). on_step (step s (get_or text i 0) (start + i)) (λ t. read_from negative t (start + i + 1) (drop z text))) (sym (add-one i))
      ∙ ap (λ (z : ℕ). on_step (step s (get_or text i 0) (start + i)) (λ t. read_from negative t z (drop (i + 1) text))) e

  pub turn : {next : Result Reading ReadError} {t : Reading} → ReadTo text negative start s i → i < length text → next ≡ step s (get_or text i 0) (start + i) → next ≡ Ok t → ReadTo text negative start t (i + 1)
  unfolding on_step
  turn {next} {t} r h e f =
      record {
        few = subst Few (sym e ∙ f) (step-few s (get_or text i 0) (start + i) r.few);
        same = sym (onward h ∙ ap (λ (z : Result Reading ReadError). on_step z (λ t. read_from negative t (start + (i + 1)) (drop (i + 1) text))) (sym e ∙ f)) ∙ r.same;
      }

  pub refused : {next : Result Reading ReadError} {x : ReadError} → ReadTo text negative start s i → i < length text → next ≡ step s (get_or text i 0) (start + i) → next ≡ Err x → Err x ≡ read_from negative fresh start text
  unfolding on_step
  refused r h e f = sym (onward h ∙ ap (λ (z : Result Reading ReadError). on_step z (λ t. read_from negative t (start + (i + 1)) (drop (i + 1) text))) (sym e ∙ f)) ∙ r.same

  pub done : {r : Result Float ReadError} → ReadTo text negative start s i → i ≤ length text → length text ≤ i → r ≡ finish negative s (start + length text) → r ≡ read_from negative fresh start text
  unfolding read_from
  done {r} a l m e =
      let k : start + length text ≡ start + i = omega arith in
      e ∙ ap (finish negative s) k ∙ sym (ap (read_from negative s (start + i)) (drop_of_length-le text m)) ∙ a.same

-- ---- by the first byte

pub no_byte : (text : List ℕ) → length text ≤ 0 → Err (Malformed 0) ≡ read_decimal text
unfolding read_decimal
no_byte [] h = refl
no_byte (byte ∷ bytes) h = absurd (omega arith)

pub signed : {r : Result Float ReadError} (text : List ℕ) → 1 ≤ length text → get_or text 0 0 ≡ 45 → r ≡ read_from true fresh 1 (take (length text - 1) (drop 1 text)) → r ≡ read_decimal text
unfolding read_decimal
signed [] h e p = absurd (omega arith)
signed (byte ∷ bytes) h e p =
    let l : length (byte ∷ bytes) - 1 ≡ length bytes = omega arith in
    p ∙ ap (λ (z : ℕ). read_from true fresh 1 (take z bytes)) l ∙ ap (read_from true fresh 1) (take-length bytes)
    ∙ sym (ap (λ (b : Bool). cond b (read_from true fresh 1 bytes) (read_from false fresh 0 (byte ∷ bytes))) (eq-eqb byte 45 e))

pub unsigned : {r : Result Float ReadError} (text : List ℕ) → 1 ≤ length text → (get_or text 0 0 ≡ 45 → ⊥) → r ≡ read_from false fresh 0 text → r ≡ read_decimal text
unfolding read_decimal
unsigned [] h e p = absurd (omega arith)
unsigned (byte ∷ bytes) h e p = p ∙ sym (ap (λ (b : Bool). cond b (read_from true fresh 1 bytes) (read_from false fresh 0 (byte ∷ bytes))) (ne_eqb byte 45 e))
