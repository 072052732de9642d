-- Two bonds that give every entry the same prices have the same exercises; and no price reads the puts. Assumes nothing.
use Rattle.std.specs.Prelude.{◌≡◌, false, ℕ, replicate, ltb, Float, Ok, Err}
use Rattle.std.proofs.Math.Path.{refl, sym, ap}
use Rattle.std.proofs.Common.{◌∙◌}
use mathlib.Core.List.{List, [], ◌∷◌}
use Rattle.terms.specs.Terms.{CallSchedule, Bond, bond_with_puts}
use Rattle.floats.specs.Answers.{Outcome, follow, on_outcome}
use Rattle.bondevents.specs.declared.Side.{Side}
use Rattle.bondevents.specs.declared.Exercise.{Exercise}
use Rattle.bondevents.specs.Steps.{Axis}
use Rattle.bondevents.specs.Calls.{Entry, call_price, none, with_entry, over_entries, exercises}
use Rattle.bondevents.specs.laws.Pricing.{same_price}
use Rattle.bondevents.specs.laws.OneEntry.{with_same}

entries_cons : (side : Side) (a : Axis) (bond : Bond) (s t : ℕ) (x : Float) (starts ends : List ℕ) (strikes : List Float) (cs : List Exercise)
    → over_entries side a bond (s ∷ starts) (t ∷ ends) (x ∷ strikes) cs
    ≡ follow (with_entry side a bond (record { start = s; end = t; strike = x }) cs) (λ cs. over_entries side a bond starts ends strikes cs)
entries_cons side a bond s t x starts ends strikes cs = unfold over_entries in refl

follow-alike : {A B : Type 0} (o : Outcome A) (f g : A → Outcome B) → ((x : A) → f x ≡ g x) → follow o f ≡ follow o g
unfolding on_outcome
follow-alike (Ok x) f g h = h x
follow-alike (Err r) f g h = refl

module _ (side : Side) (a : Axis) (bond other : Bond) (same : (e : Entry) → ltb e.end a.settlement ≡ false → (k : ℕ) → call_price a other e k ≡ call_price a bond e k) where
  pub entries_same : (starts ends : List ℕ) (strikes : List Float) (cs : List Exercise) → over_entries side a other starts ends strikes cs ≡ over_entries side a bond starts ends strikes cs
  entries_same [] ends strikes cs = unfold over_entries in refl
  entries_same (s ∷ starts) [] strikes cs = unfold over_entries in refl
  entries_same (s ∷ starts) (t ∷ ends) [] cs = unfold over_entries in refl
  entries_same (s ∷ starts) (t ∷ ends) (x ∷ strikes) cs =
      let e : Entry = record { start = s; end = t; strike = x } in
      entries_cons side a other s t x starts ends strikes cs
      ∙ ap (λ (o : Outcome (List Exercise)). follow o λ ds. over_entries side a other starts ends strikes ds) (with_same side a bond other e (same e) cs)
      ∙ follow-alike (with_entry side a bond e cs) _ _ (λ ds. entries_same starts ends strikes ds)
      ∙ sym (entries_cons side a bond s t x starts ends strikes cs)

-- No price reads the puts of the bond.
pub puts-unread : (side : Side) (a : Axis) (bond : Bond) (puts : CallSchedule) (starts ends : List ℕ) (strikes : List Float) (cs : List Exercise)
    → over_entries side a (bond_with_puts bond puts) starts ends strikes cs ≡ over_entries side a bond starts ends strikes cs
puts-unread side a bond puts = entries_same side a bond (bond_with_puts bond puts) λ e h k. same_price a bond (bond_with_puts bond puts) e k refl refl

pub exercises-unread : (side : Side) (a : Axis) (bond : Bond) (puts entries : CallSchedule) → exercises side a (bond_with_puts bond puts) entries ≡ exercises side a bond entries
exercises-unread side a bond puts entries = puts-unread side a bond puts entries.starts entries.ends entries.strikes (replicate 513 none)
