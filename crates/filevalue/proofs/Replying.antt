-- What an entry answers is the reply. Assumes nothing.
use Rattle.std.specs.Prelude.{Ok, Err}
use mathlib.Core.Path.{◌≡◌, refl, ap, ◌∙◌}
use lib.ListN.{length, length-replicate}
use lib.IntN.{pos}
use lib.Ieee.{Float}
use Rattle.floats.specs.Answers.{plus_zero, Check, Outcome}
use Rattle.terms.specs.Checks.{on_check}
use Rattle.terms.specs.Entries.{tree_checks}
use Rattle.terms.specs.Terms.{CallSchedule, Market}
use Rattle.treebasedbondpricer.specs.declared.TreeValue.{TreeValue}
use Rattle.treebasedbondpricer.specs.Tree.{tree_value, Lent, room_of, zeroed, lent_after}
use Rattle.treebasedbondpricer.specs.Entry.{Entered}
use Rattle.brackets.specs.declared.Root.{Root}
use Rattle.brackets.specs.Brackets.{Searched}
use Rattle.spreads.specs.Spreads.{quoting, Solved}
use Rattle.filevalue.specs.declared.Ask.{Ask}
use Rattle.filevalue.specs.declared.Ask.TheVariants as ask
use Rattle.filevalue.specs.declared.Reply.{Reply}
use Rattle.filevalue.specs.Values.{of_value, of_root, no_calls, worth_of_calls, reply_to, left_by, Replied}

pub valued : {asked : Ask} {m : Market} {calls : CallSchedule} {a : Outcome TreeValue} {r : Outcome Reply} {before after : Lent} → asked ≡ ask.Value → Entered m calls a before after → r ≡ of_value a → Replied asked m calls r before after
unfolding reply_to left_by
valued e v q = rw (e) (record { reply = q ∙ ap of_value v.value; slices = v.slices })

pub solved : {asked : Ask} {m : Market} {calls : CallSchedule} {target : Float} {a : Searched Root} {r : Outcome Reply} {before after : Lent} → asked ≡ ask.Spread target → Solved (quoting m target) calls a before after → r ≡ of_root a → Replied asked m calls r before after
unfolding reply_to left_by
solved e v q = rw (e) (record { reply = q ∙ ap of_root v.root; slices = v.slices })

-- ---- what the calls are worth

-- The slices stay as long.
room-kept : (m : Market) (calls : CallSchedule) (l : Lent) → room_of (lent_after m calls l) ≡ room_of l
unfolding lent_after on_check
room-kept m calls l = on (tree_checks m calls)
  where
    on : (c : Check) → room_of (on_check c (λ r. l) (zeroed l)) ≡ room_of l
    on (Ok tt) =
        rw (length-replicate (length l.nodes) (pos 0), length-replicate (length l.probabilities) plus_zero, length-replicate (length l.first) plus_zero, length-replicate (length l.second) plus_zero)
        refl
    on (Err r) = refl

pub worth : {m : Market} {calls : CallSchedule} {a b : Outcome TreeValue} {r : Outcome Reply} {before between after : Lent} → Entered m calls a before between → Entered m no_calls b between after → r ≡ worth_of_calls a b → Replied ask.Calls m calls r before after
unfolding reply_to left_by
worth {m} {calls} {a} {b} {r} {before} {between} {after} p q w =
    let kept : room_of between ≡ room_of before = ap room_of p.slices ∙ room-kept m calls before in
    let bare : b ≡ tree_value m no_calls (room_of before) = q.value ∙ ap (tree_value m no_calls) kept in
    record {
      reply = w ∙ ap (λ (v : Outcome TreeValue). worth_of_calls v b) p.value ∙ ap (worth_of_calls (tree_value m calls (room_of before))) bare;
      slices = q.slices ∙ ap (lent_after m no_calls) p.slices;
    }

pub called : {asked : Ask} {m : Market} {calls : CallSchedule} {r : Outcome Reply} {before after : Lent} → asked ≡ ask.Calls → Replied ask.Calls m calls r before after → Replied asked m calls r before after
called e v = rw (e) v
