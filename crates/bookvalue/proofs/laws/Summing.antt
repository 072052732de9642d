-- The loops that add the values and the counts of a desk: what each knows before a bond, one turn, and its ends. Assumes nothing.
use Rattle.std.specs.Prelude.{ℕ, suc, ◌+◌, ◌*◌, ◌≤◌, ◌<◌, ◌^◌, ◌≡◌, Bool, eqb, List, length, Float, Ok, Err}
use native.Mathlib.Omega.{arith}
use Rattle.std.proofs.Common.{add-one, sym, ◌∙◌, ext_get_or}
use Rattle.std.proofs.Math.Path.{refl, ap}
use Rattle.std.proofs.Math.Bool.{true, false, cond}
use Rattle.std.proofs.Math.ListN.{get_or}
use Rattle.std.specs.Float.Ieee.{binary64, add, nan}
use Rattle.floats.specs.Answers.{Answer, plus_zero, not_finite, refusal, tested}
use Rattle.terms.specs.Checks.{single}
use Rattle.terms.proofs.Laws.{same_at}
use Rattle.bookchecks.specs.declared.RefusedBond.{RefusedBond}
use Rattle.bookchecks.specs.Checks.{BookOutcome, BookCheck, Refused, at_bond, on_book}
use Rattle.bookchecks.proofs.laws.Naming.{Naming, begin, turn, found, done, value_of_bond, refused_of}
use Rattle.bookvalue.specs.Values.{each, sum_to, sum_check, desk_to}
use Rattle.bookchecks.specs.laws.Holdings.{Filling}
use Rattle.bookvalue.specs.laws.Placed.{each-length, each_at}
use Rattle.bookvalue.specs.laws.Answers.{sum_of, FewNodes}
use Rattle.floats.specs.declared.Reason.TheVariants as reason

-- ---- the sum

pub record Summing (values : List Float) (size i : ℕ) (sum : Float) : Type 0 where
  pub none : Naming (sum_check values) size i
  pub sum_is : sum ≡ sum_to values i

module _ (values : List Float) (size : ℕ) where
  pub sum-begin : Summing values size 0 plus_zero
  unfolding sum_to
  sum-begin = record { none = begin (sum_check values) size; sum_is = refl }

  module _ (i : ℕ) (sum : Float) {o : Answer} {u : BookOutcome Float} (s : Summing values size i sum) (h : i < size) (l : i < length values) (e : o ≡ tested (add binary64 sum (get_or values i nan)) 0) (n : u ≡ at_bond i o) where
    next : add binary64 sum (get_or values i nan) ≡ sum_to values (suc i)
    unfolding sum_to
    next = ap (add binary64 sum) (same_at values i nan plus_zero l) ∙ ap (λ (x : Float). add binary64 x (get_or values i plus_zero)) s.sum_is

    -- The test of the next sum, as a check and as its value.
    tried : (b : Bool) → not_finite (add binary64 sum (get_or values i nan)) ≡ b → sum_check values i ≡ single reason.NotFinite 0 b
    tried b t = ap (single reason.NotFinite 0) (sym (ap not_finite next) ∙ t)

    pub sum_more : {x : Float} → u ≡ Ok x → Summing values size (i + 1) x
    sum_more {x} t = go (not_finite (add binary64 sum (get_or values i nan))) refl (sym e ∙ value_of_bond i o (sym n ∙ t))
      where
        go : (b : Bool) → not_finite (add binary64 sum (get_or values i nan)) ≡ b → cond b (refusal reason.NotFinite 0) (Ok (add binary64 sum (get_or values i nan))) ≡ Ok x → Summing values size (i + 1) x
        go true p q = absurd (let z : ◌≡◌ {A = ℕ} 0 1 = cc in omega arith)
        go false p q =
            let same : add binary64 sum (get_or values i nan) ≡ x = cc in
            record {
              none = turn (sum_check values) size i s.none h refl (tried false p);
              sum_is = sym same ∙ next ∙ ap (sum_to values) (sym (add-one i));
            }

    pub sum-refused : {q : RefusedBond} → u ≡ Err q → Err q ≡ sum_of values size
    unfolding sum_of on_book
    sum-refused {q} t =
        let r = refused_of i o q (sym n ∙ t) in
        go (not_finite (add binary64 sum (get_or values i nan))) refl (sym e ∙ r.refused) r.named
      where
        go : (b : Bool) → not_finite (add binary64 sum (get_or values i nan)) ≡ b → cond b (refusal reason.NotFinite 0) (Ok (add binary64 sum (get_or values i nan))) ≡ Err q.refusal → q ≡ record { bond = i; refusal = q.refusal } → Err q ≡ sum_of values size
        go true p w m =
            let same : record { reason = reason.NotFinite; place = 0 } ≡ q.refusal = cc in
            ap Err m ∙ ap (λ (k : BookCheck). on_book k Refused (Ok (sum_to values size))) (found (sum_check values) size i s.none h refl (tried true p ∙ ap Err same))
        go false p w m = absurd (let z : ◌≡◌ {A = ℕ} 0 1 = cc in omega arith)

  pub sum_done : (i : ℕ) (sum : Float) → Summing values size i sum → size ≤ i → Ok sum ≡ sum_of values size
  unfolding sum_of on_book
  sum_done i sum s h =
      let e : i ≡ size = omega (arith, s.none.within) in
      ap Ok (s.sum_is ∙ ap (sum_to values) e) ∙ ap (λ (k : BookCheck). on_book k Refused (Ok (sum_to values size))) (done (sum_check values) size i s.none h)

-- ---- a desk's count

pub record Totalling (desk : ℕ → ℕ) (d : ℕ) (counts : List ℕ) (size i total : ℕ) : Type 0 where
  pub within : i ≤ size
  pub total_is : total ≡ desk_to desk d counts i
  pub small : 3 * total ≤ i * 2 ^ 60

module _ (desk : ℕ → ℕ) (d : ℕ) (counts : List ℕ) (size : ℕ) where
  pub total-begin : Totalling desk d counts size 0 0
  unfolding desk_to
  total-begin = record { within = omega arith; total_is = refl; small = omega arith }

  pub total_more : (i total : ℕ) {t : ℕ} → Totalling desk d counts size i total → i < size → FewNodes counts → t ≡ cond (eqb (desk i) d) (total + get_or counts i 0) total → Totalling desk d counts size (i + 1) t
  unfolding desk_to
  total_more i total {t} s h few e =
      record {
        within = omega arith;
        total_is = rw (add-one i) (e ∙ ap (λ (n : ℕ). cond (eqb (desk i) d) (n + get_or counts i 0) n) s.total_is);
        small = go (eqb (desk i) d) e;
      }
    where
      go : (b : Bool) → t ≡ cond b (total + get_or counts i 0) total → 3 * t ≤ (i + 1) * 2 ^ 60
      go true e = let one = few.each i in let l = s.small in omega arith
      go false e = let l = s.small in omega arith

  pub total-done : (i total : ℕ) → Totalling desk d counts size i total → size ≤ i → total ≡ desk_to desk d counts size
  total-done i total t h = let e : i ≡ size = omega (arith, t.within) in t.total_is ∙ ap (desk_to desk d counts) e

-- Eight counts, each in its place.
pub eight : (f : ℕ → ℕ) (table : List ℕ) (d : ℕ) → 8 ≤ d → Filling f 0 8 d table → table ≡ each f 8
eight f table d h s = ext_get_or 0 table (each f 8) (s.sized ∙ sym (each-length f 8)) (λ k l. s.at k (omega (arith, s.sized)) ∙ sym (each_at f 8 k 0 (omega (arith, s.sized))))
