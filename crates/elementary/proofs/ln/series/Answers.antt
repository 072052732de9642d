-- `ln::series` meets its contract. The invariant: what is left of the series from j on, at q, is the whole series. Assumes nothing.
use Prim.Native.Nat.{ℕ, suc, ◌-◌, ◌≤◌, ◌<◌}
use mathlib.Core.Path.{◌≡◌, refl, sym, ap, ◌∙◌}
use native.Mathlib.Omega.{arith}
use lib.Ieee.{Float, of_int, of_bits}
use Rattle.elementary.specs.laws.Logarithm.{plain_log_term, plain_log_series}
use Rattle.elementary.proofs.ln.series.Goals as goal

turn : (z q : Float) (j : ℕ) → 0 < j → plain_log_series j z q ≡ plain_log_series (j - 1) z (plain_log_term (j - 1) z q)
unfolding plain_log_series
turn z q j h = let e : j ≡ suc (j - 1) = omega arith in ap (λ (k : ℕ). plain_log_series k z q) e

done : (z q : Float) (j : ℕ) → j ≤ 0 → q ≡ plain_log_series j z q
unfolding plain_log_series
done z q j h = let e : 0 ≡ j = omega arith in ap (λ (k : ℕ). plain_log_series k z q) e

pub loop-j-init : goal.loop-j-init
unfolding of_int of_bits
loop-j-init c = record { left = refl }

pub loop-j-preserved : goal.loop-j-preserved
loop-j-preserved c =
    let l = c.loop-j in
    record { left = sym (turn c.args.z l.q l.j c.loop-j-test.true) ∙ l.invariant.left }

pub returns : goal.returns
returns c =
    let l = c.loop-j in
    done c.args.z l.q l.j c.loop-j-test.false ∙ l.invariant.left
