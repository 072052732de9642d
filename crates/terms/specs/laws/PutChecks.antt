-- What 2 and 37, and the other numbers, say of puts is what the calls' say of calls. Assumes nothing.
use Rattle.std.specs.Prelude.{◌≡◌, Ok}
use Rattle.terms.specs.Terms.{CallSchedule}
use Rattle.terms.specs.Checks.{put_count, put_most, call_days, call_order, strike_range}
use Rattle.terms.specs.laws.CallChecks.{put_entries, put-few, put-count_of, put_most_of, call-counted, call-count_of}
use Rattle.terms.specs.laws.Groups.{CallsPassed}

pub puts-passed : (puts : CallSchedule) → put_count puts ≡ Ok tt → put_most puts ≡ Ok tt → call_days puts ≡ Ok tt → strike_range puts ≡ Ok tt → call_order puts ≡ Ok tt → CallsPassed puts
puts-passed puts counted most days strikes ordered =
    record {
      counted = call-count_of puts (record { entries = put_entries puts counted; few = put-few puts most });
      days = days;
      strikes = strikes;
      ordered = ordered;
    }

pub puts-counted : (puts : CallSchedule) → CallsPassed puts → put_count puts ≡ Ok tt
puts-counted puts k = put-count_of puts (call-counted puts k.counted).entries

pub puts-most : (puts : CallSchedule) → CallsPassed puts → put_most puts ≡ Ok tt
puts-most puts k = put_most_of puts (call-counted puts k.counted).few
