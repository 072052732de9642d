-- Numbers mixed in from 0 on. Assumes nothing.
use Prim.Native.Nat.{ℕ, ◌+◌, ◌≤◌, ◌<◌}
use native.Mathlib.Numerals.{add-one}
use native.Mathlib.Omega.{arith}
use mathlib.Core.Path.{◌≡◌, refl, ap, ◌∙◌}
use Rattle.digest.specs.Digest.{mixed, mixed_up_to}

-- The first i are mixed in.
pub record Mixing (h : ℕ) (f : ℕ → ℕ) (n d i : ℕ) : Type 0 where
  pub within : i ≤ n
  pub same : d ≡ mixed_up_to h f i

module _ (h : ℕ) (f : ℕ → ℕ) (n : ℕ) where
  pub mixing_begin : Mixing h f n h 0
  unfolding mixed_up_to
  mixing_begin = record { within = omega arith; same = refl }

  pub mixing_more : (d i : ℕ) {e x : ℕ} → Mixing h f n d i → i < n → e ≡ mixed d x → x ≡ f i → Mixing h f n e (i + 1)
  unfolding mixed_up_to
  mixing_more d i {e} {x} m l p q =
      record {
        within = omega arith;
        same = rw (add-one i) (p ∙ ap (λ (z : ℕ). mixed z x) m.same ∙ ap (mixed (mixed_up_to h f i)) q);
      }

  pub mixing_done : (d i : ℕ) → Mixing h f n d i → n ≤ i → d ≡ mixed_up_to h f n
  mixing_done d i m l = let e : i ≡ n = omega (arith, m.within) in m.same ∙ ap (mixed_up_to h f) e
