-- `stands_at` meets its contract: two numbers with the same bits are the same. Assumes nothing.
use Prim.Native.Nat.{ℕ, ◌*◌}
use native.Mathlib.Omega.{arith}
use mathlib.Core.Path.{◌≡◌, sym, ap, ◌∙◌}
use mathlib.Core.Bool.{true, false}
use lib.Dec.{eqb, eqb→eq}
use lib.ListN.{get_or}
use lib.IntN.{ℤ, pos}
use mir.Syntax.{w32}
use mir.Val.{SFits, to_z, of_z}
use mir.Facts.{to_z-of_z}
use borrow.Author.Rules.{rules}
use Rattle.layers.proofs.layers.stands_at.Goals as goal

number-of : (a b : ℤ) → SFits w32 a → SFits w32 b → eqb (of_z w32 a) (of_z w32 b) ≡ true → a ≡ b
number-of a b p q e = sym (to_z-of_z p) ∙ ap (to_z w32) (eqb→eq (of_z w32 a) (of_z w32 b) (rw e tt)) ∙ to_z-of_z q

pub returns-then-j-known : goal.returns-then-j-known
returns-then-j-known c =
    let a = c.args in
    record {
      inside = λ e. search rules;
      number = λ e. number-of (get_or a.nodes.now (2 * a.j) (pos 0)) a.node (record { sfits = c.result-1.given }) c.ranges.node e;
    }

pub returns : goal.returns
returns c =
    let no : false ≡ true → ⊥ = λ e. let z : ◌≡◌ {A = ℕ} 0 1 = cc in omega arith in
    record { inside = λ e. absurd (no e); number = λ e. absurd (no e) }
