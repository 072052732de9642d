-- `exp::terms` meets its contract. The invariant: what is left of the series from n on, at p, is the whole series. Assumes nothing.
use Prim.Native.Nat.{ℕ, suc, ◌+◌, ◌-◌, ◌≤◌, ◌<◌}
use mathlib.Core.Path.{◌≡◌, sym, ap, ◌∙◌}
use native.Mathlib.Omega.{arith}
use lib.Ieee.{Float}
use Rattle.elementary.specs.laws.Exponential.{plain_term, plain_series}
use Rattle.elementary.proofs.exp.terms.Goals as goal

turn : (r : Float) (low : ℕ) (p : Float) (n : ℕ) → low < n → plain_series low (n - low) r p ≡ plain_series low (n - 1 - low) r (plain_term (n - 1 + 1) r p)
unfolding plain_series
turn r low p n h =
    let c = n - 1 - low in
    let e : n - low ≡ suc c = omega arith in
    let f : low + suc c ≡ n - 1 + 1 = omega arith in
    ap (λ (k : ℕ). plain_series low k r p) e ∙ ap (λ (k : ℕ). plain_series low c r (plain_term k r p)) f

done : (r : Float) (low : ℕ) (p : Float) (n : ℕ) → n ≤ low → p ≡ plain_series low (n - low) r p
unfolding plain_series
done r low p n h = let e : 0 ≡ n - low = omega arith in ap (λ (k : ℕ). plain_series low k r p) e

pub loop-n-preserved : goal.loop-n-preserved
loop-n-preserved c =
    let l = c.loop-n in
    let a = c.args in
    record { left = sym (turn a.r a.low l.p l.n c.loop-n-test.true) ∙ l.invariant.left }

pub returns : goal.returns
returns c =
    let l = c.loop-n in
    let a = c.args in
    done a.r a.low l.p l.n c.loop-n-test.false ∙ l.invariant.left
