-- Books computed by the checker. Each was worked out bond by bond from the words of document 02.
use Rattle.floats.specs.declared.Reason.TheVariants as reason
use Rattle.floats.specs.declared.Reason.{Reason}
use Rattle.std.specs.Prelude.{ℕ, ◌≡◌, refl, List, [], ◌∷◌, replicate, Float, None}
use Rattle.std.specs.Float.{binary64}
use Rattle.std.specs.Float.Ieee.{of_bits}
use Rattle.std.specs.Float.Ieee as ieee
use Rattle.floats.specs.Answers.{plus_zero, on_outcome}
use Rattle.floats.specs.Whole.{rounded}
use Rattle.rounded.specs.Root.{sqrt_at}
use Rattle.elementary.specs.Exponential.{exp_at, exp_m1_at}
use Rattle.elementary.specs.Logarithm.{ln_at}
use Rattle.calendar.specs.Calendar.{thirties}
use Rattle.terms.specs.Terms.{Leg, CallSchedule, no_entries}
use Rattle.terms.specs.Numbers.{float}
use Rattle.terms.specs.Checks.{lowest, on_check}
use Rattle.terms.specs.Curve.{curve_over}
use Rattle.bondevents.specs.Steps.{paid_into, raw_step}
use Rattle.lattice.specs.Layers.{Room}
use Rattle.treebasedbondpricer.specs.Tree.{tree_value}
use Rattle.bookchecks.specs.Book.{Fields, Book}
use Rattle.bookvalue.specs.declared.BookAnswer.{BookAnswer}
use Rattle.bookvalue.specs.Values.{refused_book, book_by, book_value}

-- Settled on day 100, a flat curve and no volatility.
abbrev book_of : Fields → Leg → CallSchedule → CallSchedule → Book
book_of fields leg calls puts =
    record {
      shared =
          record {
            day = 100;
            model = record { alpha = float 0; sigma = record { times = float 0 ∷ []; sigmas = float 0 ∷ [] } };
            pillars = record { days = 100 ∷ 465 ∷ []; factors = float 1 ∷ float 1 ∷ [] };
          };
      fields = fields;
      lists = record { leg = leg; calls = calls; puts = puts };
    }

-- Two bonds with a cashflow each, one step a year; so many calls and puts, and these desks.
abbrev two_of : List ℕ → List Float → List ℕ → List ℕ → Fields
two_of desks units calls puts =
    record {
      codes = 0 ∷ 0 ∷ [];
      cashflows = 1 ∷ 1 ∷ [];
      units = units;
      calls = calls;
      puts = puts;
      per_year = 1 ∷ 1 ∷ [];
      maximum = 512 ∷ 512 ∷ [];
      spreads = float 0 ∷ float 0 ∷ [];
      desks = desks;
    }

-- Of desks 5 and 2.
abbrev two : List Float → List ℕ → List ℕ → Fields
two = two_of (5 ∷ 2 ∷ [])

-- 100 and 50, a year on.
abbrev leg : Leg
leg = record { days = 465 ∷ 465 ∷ []; kinds = 1 ∷ 1 ∷ []; amounts = float 100 ∷ float 50 ∷ [] }

abbrev hundreds : List Float
hundreds = float 100 ∷ float 100 ∷ []

abbrev entry : ℕ → Float → CallSchedule
entry day strike = record { starts = day ∷ []; ends = day ∷ []; strikes = strike ∷ [] }

-- The first bond has a coupon alone, and a window over settlement in which there is nothing to call.
abbrev coupons : Leg
coupons = record { days = 465 ∷ 465 ∷ []; kinds = 0 ∷ 1 ∷ []; amounts = float 100 ∷ float 50 ∷ [] }

abbrev window : CallSchedule
window = record { starts = 90 ∷ []; ends = 200 ∷ []; strikes = float 99 ∷ [] }

-- Slices for the two nodes of a bond.
abbrev room : Room
room = record { nodes = 4; probabilities = 6; first = 1; second = 1 }

abbrev refused : Reason → ℕ → ℕ → BookAnswer
refused number place bond = refused_book bond (record { reason = number; place = place })

-- Each value, their sum, and two nodes for each desk that has a bond.
both_valued : book_value (book_of (two hundreds (0 ∷ 0 ∷ []) (0 ∷ 0 ∷ [])) leg no_entries no_entries) room ≡ record { refusal = None; bond = 0; values = float 100 ∷ float 50 ∷ replicate 30 plus_zero; sum = float 150; counts = 0 ∷ 0 ∷ 2 ∷ 0 ∷ 0 ∷ 2 ∷ 0 ∷ 0 ∷ [] }
unfolding book_by tree_value paid_into raw_step curve_over exp_at exp_m1_at ln_at sqrt_at on_outcome on_check lowest rounded thirties ieee.of_bits ieee.add ieee.sub ieee.mul ieee.div ieee.neg ieee.lt ieee.le ieee.eq ieee.of_int ieee.to_signed
both_valued = refl

no_bonds : book_value (book_of (record { codes = []; cashflows = []; units = []; calls = []; puts = []; per_year = []; maximum = []; spreads = []; desks = [] }) leg no_entries no_entries) room ≡ refused reason.BookSize 0 0
unfolding book_by tree_value paid_into raw_step curve_over exp_at exp_m1_at ln_at sqrt_at on_outcome on_check lowest rounded thirties ieee.of_bits ieee.add ieee.sub ieee.mul ieee.div ieee.neg ieee.lt ieee.le ieee.eq ieee.of_int ieee.to_signed
no_bonds = refl

-- Tried before anything else: its fields are missing too.
too_many : book_value (book_of (record { codes = []; cashflows = replicate 33 1; units = []; calls = []; puts = []; per_year = []; maximum = []; spreads = []; desks = [] }) leg no_entries no_entries) room ≡ refused reason.BookSize 0 0
unfolding book_by tree_value paid_into raw_step curve_over exp_at exp_m1_at ln_at sqrt_at on_outcome on_check lowest rounded thirties ieee.of_bits ieee.add ieee.sub ieee.mul ieee.div ieee.neg ieee.lt ieee.le ieee.eq ieee.of_int ieee.to_signed
too_many = refl

-- A field of the second bond is missing.
units-missing : book_value (book_of (two (float 100 ∷ []) (0 ∷ 0 ∷ []) (0 ∷ 0 ∷ [])) leg no_entries no_entries) room ≡ refused reason.Count 0 1
unfolding book_by tree_value paid_into raw_step curve_over exp_at exp_m1_at ln_at sqrt_at on_outcome on_check lowest rounded thirties ieee.of_bits ieee.add ieee.sub ieee.mul ieee.div ieee.neg ieee.lt ieee.le ieee.eq ieee.of_int ieee.to_signed
units-missing = refl

-- One too many is the last bond's.
units-left_over : book_value (book_of (two (float 100 ∷ float 100 ∷ float 100 ∷ []) (0 ∷ 0 ∷ []) (0 ∷ 0 ∷ [])) leg no_entries no_entries) room ≡ refused reason.Count 0 1
unfolding book_by tree_value paid_into raw_step curve_over exp_at exp_m1_at ln_at sqrt_at on_outcome on_check lowest rounded thirties ieee.of_bits ieee.add ieee.sub ieee.mul ieee.div ieee.neg ieee.lt ieee.le ieee.eq ieee.of_int ieee.to_signed
units-left_over = refl

-- So is a call that no bond has.
call-left_over : book_value (book_of (two hundreds (0 ∷ 0 ∷ []) (0 ∷ 0 ∷ [])) leg (entry 200 (float 99)) no_entries) room ≡ refused reason.Count 0 1
unfolding book_by tree_value paid_into raw_step curve_over exp_at exp_m1_at ln_at sqrt_at on_outcome on_check lowest rounded thirties ieee.of_bits ieee.add ieee.sub ieee.mul ieee.div ieee.neg ieee.lt ieee.le ieee.eq ieee.of_int ieee.to_signed
call-left_over = refl

-- The first bond's calls pass the end of the list.
past_the_end : book_value (book_of (two hundreds (2 ∷ 0 ∷ []) (0 ∷ 0 ∷ [])) leg (entry 200 (float 99)) no_entries) room ≡ refused reason.Count 0 0
unfolding book_by tree_value paid_into raw_step curve_over exp_at exp_m1_at ln_at sqrt_at on_outcome on_check lowest rounded thirties ieee.of_bits ieee.add ieee.sub ieee.mul ieee.div ieee.neg ieee.lt ieee.le ieee.eq ieee.of_int ieee.to_signed
past_the_end = refl

-- 1 comes before a cut that doesn't add up.
settings-before-fields : book_value (book_of (record { codes = 0 ∷ 0 ∷ []; cashflows = 1 ∷ 1 ∷ []; units = []; calls = []; puts = []; per_year = 0 ∷ 1 ∷ []; maximum = 512 ∷ 512 ∷ []; spreads = []; desks = [] }) leg no_entries no_entries) room ≡ refused reason.Setting 0 0
unfolding book_by tree_value paid_into raw_step curve_over exp_at exp_m1_at ln_at sqrt_at on_outcome on_check lowest rounded thirties ieee.of_bits ieee.add ieee.sub ieee.mul ieee.div ieee.neg ieee.lt ieee.le ieee.eq ieee.of_int ieee.to_signed
settings-before-fields = refl

-- A missing code comes before its 1.
code-missing : book_value (book_of (record { codes = []; cashflows = 1 ∷ 1 ∷ []; units = hundreds; calls = 0 ∷ 0 ∷ []; puts = 0 ∷ 0 ∷ []; per_year = 0 ∷ 1 ∷ []; maximum = 512 ∷ 512 ∷ []; spreads = []; desks = [] }) leg no_entries no_entries) room ≡ refused reason.Count 0 0
unfolding book_by tree_value paid_into raw_step curve_over exp_at exp_m1_at ln_at sqrt_at on_outcome on_check lowest rounded thirties ieee.of_bits ieee.add ieee.sub ieee.mul ieee.div ieee.neg ieee.lt ieee.le ieee.eq ieee.of_int ieee.to_signed
code-missing = refl

-- The first bond would be 20 when it is valued; the second's 4 comes before.
checks-before-values : book_value (book_of (two (float 100 ∷ float 0 ∷ []) (1 ∷ 0 ∷ []) (0 ∷ 0 ∷ [])) coupons window no_entries) room ≡ refused reason.Number 0 1
unfolding book_by tree_value paid_into raw_step curve_over exp_at exp_m1_at ln_at sqrt_at on_outcome on_check lowest rounded thirties ieee.of_bits ieee.add ieee.sub ieee.mul ieee.div ieee.neg ieee.lt ieee.le ieee.eq ieee.of_int ieee.to_signed
checks-before-values = refl

-- Without it the 20 is the answer.
first_valued : book_value (book_of (two hundreds (1 ∷ 0 ∷ []) (0 ∷ 0 ∷ [])) coupons window no_entries) room ≡ refused reason.NoPrincipal 0 0
unfolding book_by tree_value paid_into raw_step curve_over exp_at exp_m1_at ln_at sqrt_at on_outcome on_check lowest rounded thirties ieee.of_bits ieee.add ieee.sub ieee.mul ieee.div ieee.neg ieee.lt ieee.le ieee.eq ieee.of_int ieee.to_signed
first_valued = refl

no_room : book_value (book_of (two hundreds (0 ∷ 0 ∷ []) (0 ∷ 0 ∷ [])) leg no_entries no_entries) (record { nodes = 4; probabilities = 5; first = 1; second = 1 }) ≡ refused reason.NoRoom 1 0
unfolding book_by tree_value paid_into raw_step curve_over exp_at exp_m1_at ln_at sqrt_at on_outcome on_check lowest rounded thirties ieee.of_bits ieee.add ieee.sub ieee.mul ieee.div ieee.neg ieee.lt ieee.le ieee.eq ieee.of_int ieee.to_signed
no_room = refl

-- Puts on settlement make 1e308 of each bond, and their sum isn't finite.
sum-not_finite : book_value (book_of (two (of_bits binary64 0x01a56e1fc2f8f359 ∷ of_bits binary64 0x01a56e1fc2f8f359 ∷ []) (0 ∷ 0 ∷ []) (1 ∷ 1 ∷ [])) (record { days = 465 ∷ 465 ∷ []; kinds = 1 ∷ 1 ∷ []; amounts = float 100 ∷ float 100 ∷ [] }) no_entries (record { starts = 100 ∷ 100 ∷ []; ends = 100 ∷ 100 ∷ []; strikes = float 1000000 ∷ float 1000000 ∷ [] })) room ≡ refused reason.NotFinite 0 1
unfolding book_by tree_value paid_into raw_step curve_over exp_at exp_m1_at ln_at sqrt_at on_outcome on_check lowest rounded thirties ieee.of_bits ieee.add ieee.sub ieee.mul ieee.div ieee.neg ieee.lt ieee.le ieee.eq ieee.of_int ieee.to_signed
sum-not_finite = refl

one_desk : book_value (book_of (two_of (7 ∷ 7 ∷ []) hundreds (0 ∷ 0 ∷ []) (0 ∷ 0 ∷ [])) leg no_entries no_entries) room ≡ record { refusal = None; bond = 0; values = float 100 ∷ float 50 ∷ replicate 30 plus_zero; sum = float 150; counts = 0 ∷ 0 ∷ 0 ∷ 0 ∷ 0 ∷ 0 ∷ 0 ∷ 4 ∷ [] }
unfolding book_by tree_value paid_into raw_step curve_over exp_at exp_m1_at ln_at sqrt_at on_outcome on_check lowest rounded thirties ieee.of_bits ieee.add ieee.sub ieee.mul ieee.div ieee.neg ieee.lt ieee.le ieee.eq ieee.of_int ieee.to_signed
one_desk = refl

-- 40 is tried on all bonds before the first bond's 4.
no_desk : book_value (book_of (two_of (0 ∷ 8 ∷ []) (float 0 ∷ float 100 ∷ []) (0 ∷ 0 ∷ []) (0 ∷ 0 ∷ [])) leg no_entries no_entries) room ≡ refused reason.Desk 0 1
unfolding book_by tree_value paid_into raw_step curve_over exp_at exp_m1_at ln_at sqrt_at on_outcome on_check lowest rounded thirties ieee.of_bits ieee.add ieee.sub ieee.mul ieee.div ieee.neg ieee.lt ieee.le ieee.eq ieee.of_int ieee.to_signed
no_desk = refl

-- A missing desk is the bond's 2.
desk-missing : book_value (book_of (two_of (0 ∷ []) hundreds (0 ∷ 0 ∷ []) (0 ∷ 0 ∷ [])) leg no_entries no_entries) room ≡ refused reason.Count 0 1
unfolding book_by tree_value paid_into raw_step curve_over exp_at exp_m1_at ln_at sqrt_at on_outcome on_check lowest rounded thirties ieee.of_bits ieee.add ieee.sub ieee.mul ieee.div ieee.neg ieee.lt ieee.le ieee.eq ieee.of_int ieee.to_signed
desk-missing = refl

-- One left over is the last bond's 2, whatever it is.
desk-left_over : book_value (book_of (two_of (0 ∷ 1 ∷ 9 ∷ []) hundreds (0 ∷ 0 ∷ []) (0 ∷ 0 ∷ [])) leg no_entries no_entries) room ≡ refused reason.Count 0 1
unfolding book_by tree_value paid_into raw_step curve_over exp_at exp_m1_at ln_at sqrt_at on_outcome on_check lowest rounded thirties ieee.of_bits ieee.add ieee.sub ieee.mul ieee.div ieee.neg ieee.lt ieee.le ieee.eq ieee.of_int ieee.to_signed
desk-left_over = refl
