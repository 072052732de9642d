-- The counts of eight desks together are the one count. Assumes nothing.
use Rattle.std.specs.Prelude.{ℕ, zero, suc, ◌+◌, ◌≤◌, ◌<◌, ◌≡◌, refl, Bool, true, false, cond, List, eqb, ltb, get_or, Ok}
use Rattle.std.proofs.Common.{arith, ap, ◌∙◌, ltb-false}
use Rattle.terms.specs.Checks.{single}
use Rattle.bookchecks.specs.Checks as book
use Rattle.bookchecks.specs.Book.{Book}
use Rattle.bookchecks.specs.Checks.{book_checks}
use Rattle.bookchecks.proofs.laws.Naming.{all_pass}
use Rattle.bookvalue.specs.Values.{each, desk_to, desk_counts, desk_of}
use Rattle.promises.specs.OneCount.{total_to}
use Rattle.promises.specs.Books.{size}
use Rattle.promises.proofs.laws.BookRules.{desks_in}
use Rattle.floats.specs.declared.Reason.TheVariants as reason

-- Where no desk is refused, each is 0 to 7.
pub desk_in : (b : Book) → book_checks b ≡ book.Passed → (i : ℕ) → i < size b → desk_of b i ≤ 7
desk_in b e i h = ltb-false 7 (desk_of b i) (go (ltb 7 (desk_of b i)) (all_pass _ (size b) (desks_in b e) i h))
  where
    go : (w : Bool) → single reason.Desk 0 w ≡ Ok tt → w ≡ false
    go true p = absurd (let z : ◌≡◌ {A = ℕ} 0 1 = cc in omega arith)
    go false p = refl

-- One more count goes to one of the eight.
to_one : (a b c d e f g h n k : ℕ) → k ≤ 7
    → ((((((((0 + cond (eqb k 0) (a + n) a) + cond (eqb k 1) (b + n) b) + cond (eqb k 2) (c + n) c) + cond (eqb k 3) (d + n) d) + cond (eqb k 4) (e + n) e) + cond (eqb k 5) (f + n) f) + cond (eqb k 6) (g + n) g) + cond (eqb k 7) (h + n) h)
    ≡ ((((((((0 + a) + b) + c) + d) + e) + f) + g) + h) + n
to_one a b c d e f g h n zero l = omega arith
to_one a b c d e f g h n (suc zero) l = omega arith
to_one a b c d e f g h n (suc (suc zero)) l = omega arith
to_one a b c d e f g h n (suc (suc (suc zero))) l = omega arith
to_one a b c d e f g h n (suc (suc (suc (suc zero)))) l = omega arith
to_one a b c d e f g h n (suc (suc (suc (suc (suc zero))))) l = omega arith
to_one a b c d e f g h n (suc (suc (suc (suc (suc (suc zero)))))) l = omega arith
to_one a b c d e f g h n (suc (suc (suc (suc (suc (suc (suc zero))))))) l = omega arith
to_one a b c d e f g h n (suc (suc (suc (suc (suc (suc (suc (suc k)))))))) l = absurd (omega arith)

pub together : (desk : ℕ → ℕ) (counts : List ℕ) (n : ℕ) → ((i : ℕ) → i < n → desk i ≤ 7) → total_to (desk_counts desk counts n) 8 ≡ total_to counts n
unfolding total_to each desk_to
together desk counts zero h = refl
together desk counts (suc n) h =
    to_one (desk_to desk 0 counts n) (desk_to desk 1 counts n) (desk_to desk 2 counts n) (desk_to desk 3 counts n) (desk_to desk 4 counts n) (desk_to desk 5 counts n) (desk_to desk 6 counts n) (desk_to desk 7 counts n) (get_or counts n 0) (desk n) (h n (omega arith))
    ∙ ap (λ (t : ℕ). t + get_or counts n 0) (together desk counts n (λ i l. h i (omega arith)))
