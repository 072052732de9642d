-- An entry of a list's kind is made of the parts that the list's slices hold: nothing of it is lost there, and no other entry is among them. Assumes nothing.
use Rattle.std.specs.Prelude.{ℕ, ◌≡◌, refl, Bool, true, false, cond, Ok, Err, List, [], ◌∷◌, map, eqb}
use Rattle.std.proofs.Common.{arith, ap, ◌∙◌, eqb-true}
use Rattle.bondline.specs.declared.Entry.TheVariants.{Blank, Settlement, Units, Steps, Alpha, Spread, Cashflow, Call, Sigma, Pillar, Yield, Quote}
use Rattle.bondline.specs.Forms.{Said}
use Rattle.bondfile.specs.Entries.{kind_of, first_whole, second_whole, flow_kind, first_number, second_number}
use Rattle.bondfile.specs.File.{Numbered, entries_of, of_kind}

-- The entries of a kind, each made anew of its parts.
rebuilt : (k : ℕ) (made : Said → Said) → ((e : Said) → kind_of e ≡ k → e ≡ made e) → (es : List Numbered) → map (λ e. e.entry) (of_kind k es) ≡ map (λ e. made e.entry) (of_kind k es)
unfolding of_kind
rebuilt k made h [] = refl
rebuilt k made h (e ∷ es) = pick (eqb (kind_of e.entry) k) refl (rebuilt k made h es)
  where
    pick : (z : Bool) → eqb (kind_of e.entry) k ≡ z → map (λ e. e.entry) (of_kind k es) ≡ map (λ e. made e.entry) (of_kind k es) → map (λ e. e.entry) (cond z (e ∷ of_kind k es) (of_kind k es)) ≡ map (λ e. made e.entry) (cond z (e ∷ of_kind k es) (of_kind k es))
    pick true t p = ap (λ (x : Said). x ∷ map (λ e. e.entry) (of_kind k es)) (h e.entry (eqb-true (kind_of e.entry) k t)) ∙ ap (λ (l : List Said). made e.entry ∷ l) p
    pick false t p = p

abbrev pub cashflow_of : Said → Said
cashflow_of e = Ok (Cashflow (first_whole e) (flow_kind e) (first_number e))

cashflow-made : (e : Said) → kind_of e ≡ 6 → e ≡ cashflow_of e
cashflow-made (Ok Blank) h = absurd (omega arith)
cashflow-made (Ok (Settlement d)) h = absurd (omega arith)
cashflow-made (Ok (Units x)) h = absurd (omega arith)
cashflow-made (Ok (Steps a b)) h = absurd (omega arith)
cashflow-made (Ok (Alpha x)) h = absurd (omega arith)
cashflow-made (Ok (Spread x)) h = absurd (omega arith)
cashflow-made (Ok (Cashflow d k x)) h = refl
cashflow-made (Ok (Call a b x)) h = absurd (omega arith)
cashflow-made (Ok (Sigma x y)) h = absurd (omega arith)
cashflow-made (Ok (Pillar d x)) h = absurd (omega arith)
cashflow-made (Ok (Yield x a b)) h = absurd (omega arith)
cashflow-made (Ok (Quote x)) h = absurd (omega arith)
cashflow-made (Err q) h = absurd (omega arith)

-- A cashflow of the file is made of a day, a kind and an amount of the slices.
pub cashflows-made : (text : List ℕ) → map (λ e. e.entry) (of_kind 6 (entries_of text)) ≡ map (λ e. cashflow_of e.entry) (of_kind 6 (entries_of text))
cashflows-made text = rebuilt 6 cashflow_of cashflow-made (entries_of text)

abbrev pub call_of : Said → Said
call_of e = Ok (Call (first_whole e) (second_whole e) (first_number e))

call-made : (e : Said) → kind_of e ≡ 7 → e ≡ call_of e
call-made (Ok Blank) h = absurd (omega arith)
call-made (Ok (Settlement d)) h = absurd (omega arith)
call-made (Ok (Units x)) h = absurd (omega arith)
call-made (Ok (Steps a b)) h = absurd (omega arith)
call-made (Ok (Alpha x)) h = absurd (omega arith)
call-made (Ok (Spread x)) h = absurd (omega arith)
call-made (Ok (Cashflow d k x)) h = absurd (omega arith)
call-made (Ok (Call a b x)) h = refl
call-made (Ok (Sigma x y)) h = absurd (omega arith)
call-made (Ok (Pillar d x)) h = absurd (omega arith)
call-made (Ok (Yield x a b)) h = absurd (omega arith)
call-made (Ok (Quote x)) h = absurd (omega arith)
call-made (Err q) h = absurd (omega arith)

-- A call: a start, an end and a strike.
pub calls-made : (text : List ℕ) → map (λ e. e.entry) (of_kind 7 (entries_of text)) ≡ map (λ e. call_of e.entry) (of_kind 7 (entries_of text))
calls-made text = rebuilt 7 call_of call-made (entries_of text)

abbrev pub sigma_of : Said → Said
sigma_of e = Ok (Sigma (first_number e) (second_number e))

sigma-made : (e : Said) → kind_of e ≡ 8 → e ≡ sigma_of e
sigma-made (Ok Blank) h = absurd (omega arith)
sigma-made (Ok (Settlement d)) h = absurd (omega arith)
sigma-made (Ok (Units x)) h = absurd (omega arith)
sigma-made (Ok (Steps a b)) h = absurd (omega arith)
sigma-made (Ok (Alpha x)) h = absurd (omega arith)
sigma-made (Ok (Spread x)) h = absurd (omega arith)
sigma-made (Ok (Cashflow d k x)) h = absurd (omega arith)
sigma-made (Ok (Call a b x)) h = absurd (omega arith)
sigma-made (Ok (Sigma x y)) h = refl
sigma-made (Ok (Pillar d x)) h = absurd (omega arith)
sigma-made (Ok (Yield x a b)) h = absurd (omega arith)
sigma-made (Ok (Quote x)) h = absurd (omega arith)
sigma-made (Err q) h = absurd (omega arith)

-- A sigma: a time and a sigma.
pub sigmas-made : (text : List ℕ) → map (λ e. e.entry) (of_kind 8 (entries_of text)) ≡ map (λ e. sigma_of e.entry) (of_kind 8 (entries_of text))
sigmas-made text = rebuilt 8 sigma_of sigma-made (entries_of text)

abbrev pub pillar_of : Said → Said
pillar_of e = Ok (Pillar (first_whole e) (first_number e))

pillar-made : (e : Said) → kind_of e ≡ 9 → e ≡ pillar_of e
pillar-made (Ok Blank) h = absurd (omega arith)
pillar-made (Ok (Settlement d)) h = absurd (omega arith)
pillar-made (Ok (Units x)) h = absurd (omega arith)
pillar-made (Ok (Steps a b)) h = absurd (omega arith)
pillar-made (Ok (Alpha x)) h = absurd (omega arith)
pillar-made (Ok (Spread x)) h = absurd (omega arith)
pillar-made (Ok (Cashflow d k x)) h = absurd (omega arith)
pillar-made (Ok (Call a b x)) h = absurd (omega arith)
pillar-made (Ok (Sigma x y)) h = absurd (omega arith)
pillar-made (Ok (Pillar d x)) h = refl
pillar-made (Ok (Yield x a b)) h = absurd (omega arith)
pillar-made (Ok (Quote x)) h = absurd (omega arith)
pillar-made (Err q) h = absurd (omega arith)

-- A pillar: a day and a factor.
pub pillars-made : (text : List ℕ) → map (λ e. e.entry) (of_kind 9 (entries_of text)) ≡ map (λ e. pillar_of e.entry) (of_kind 9 (entries_of text))
pillars-made text = rebuilt 9 pillar_of pillar-made (entries_of text)
