-- The steps of a grid as marks and prices, read back. Assumes nothing.
use Rattle.std.specs.Prelude.{◌%◌, ◌≡◌, refl, Bool, true, false, cond, List, [], ◌∷◌, map, eqb, ltb}
use Rattle.std.proofs.Common.{ap, ◌∙◌}
use Rattle.bondevents.specs.declared.CallStep.{CallStep}
use Rattle.bondevents.specs.Parts.{step_mark, step_prices}
use Rattle.backwardinduction.specs.laws.WalkMore.{call_of, calls_of}

call_back : (call put : Bool) → eqb (cond call (cond put 3 1) (cond put 2 0) % 2) 1 ≡ call
call_back true true = refl
call_back true false = refl
call_back false true = refl
call_back false false = refl

put_back : (call put : Bool) → ltb 1 (cond call (cond put 3 1) (cond put 2 0)) ≡ put
put_back true true = refl
put_back true false = refl
put_back false true = refl
put_back false false = refl

step_back : (s : CallStep) → call_of (step_mark s) s.call.price s.put.price ≡ s
step_back s = λ i. record { call = record { marked = call_back s.call.marked s.put.marked i; price = s.call.price }; put = record { marked = put_back s.call.marked s.put.marked i; price = s.put.price } }

pub calls_back : (steps : List CallStep) → calls_of (map step_mark steps) (step_prices steps) ≡ steps
unfolding calls_of step_prices
calls_back [] = refl
calls_back (s ∷ steps) =
    ap (λ (z : CallStep). z ∷ calls_of (map step_mark steps) (step_prices steps)) (step_back s)
    ∙ ap (λ (z : List CallStep). s ∷ z) (calls_back steps)
