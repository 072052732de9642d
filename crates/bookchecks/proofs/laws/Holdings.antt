-- The same checks by a table of what the bonds hold. Assumes nothing.
use Rattle.std.specs.Prelude.{ℕ, ◌+◌, ◌<◌, ◌≡◌, List, get_or, ltb}
use Rattle.std.proofs.Common.{arith, ap}
use Rattle.terms.specs.Checks.{single}
use Rattle.bookchecks.specs.declared.Holding.{Holding}
use Rattle.bookchecks.specs.Book.{Shared, Fields, Lists, size_of, holding_at}
use Rattle.bookchecks.specs.Checks.{first_refused, bond_check, desk_check}
use Rattle.bookchecks.specs.laws.Holdings.{past_end, Held, desk_at}
use Rattle.bookchecks.proofs.laws.Naming.{same_first}
use Rattle.floats.specs.declared.Reason.TheVariants as reason

-- The checks by the table are those of the book.
pub same_checks : (s : Shared) (l : Lists) (f : Fields) (table : List Holding) → Held f table → first_refused (λ i. bond_check s l (get_or table i past_end)) (size_of f) 0 ≡ first_refused (λ i. bond_check s l (holding_at f i)) (size_of f) 0
same_checks s l f table h = same_first _ _ (size_of f) 0 (λ k m n. ap (bond_check s l) (h.at k (omega arith)))

-- So is the check of the desks.
pub same_desks : (f : Fields) (table : List Holding) → Held f table → first_refused (λ i. single reason.Desk 0 (ltb 7 (get_or table i past_end).desk)) (size_of f) 0 ≡ first_refused (desk_check f) (size_of f) 0
same_desks f table h = same_first _ _ (size_of f) 0 (λ k m n. ap (λ (d : ℕ). single reason.Desk 0 (ltb 7 d)) (desk_at f table h k (omega arith)))
