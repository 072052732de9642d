-- Lines of the report as they are printed, computed by the checker.
use Rattle.std.specs.Prelude.{ℕ, ◌≡◌, refl, Bool, true, ◌&&◌, List, [], ◌∷◌, leb, length, replicate, take, Float}
use Prim.Native.String.{String}
use Rattle.std.specs.Float.{nan, binary64}
use Rattle.std.specs.Float.Ieee.{of_bits}
use Rattle.std.specs.Float.Ieee as ieee
use Rattle.calendar.specs.Calendar.{dating}
use Rattle.decimal.specs.Writing.{decimals_of, hex_digits}
use Rattle.decimal.specs.Examples.{bytes}
use Rattle.bondreport.specs.Columns.{blank_line, put_at, used_of}
use Rattle.bondreport.specs.Numbers.{byte_left, digits_left, width_of, whole_left}
use Rattle.bondreport.specs.Figures.{point_left, minus_left}
use Rattle.bondreport.specs.Lines.{call_heading, no_calls, put_strike, stands_apart, strike_line, call_line, day_line, no_pillar, number_line, count_line, refused_line, text_line}
use Rattle.bondreport.specs.Sentences.{Advice, advice, sentence_for}
use Rattle.bondreport.specs.Order.{before, how_many, first_from, at_rank}
use Rattle.bondline.specs.Words.{span_of}
use Rattle.bondfile.specs.File.{lines_of}
use Rattle.reportlines.specs.Typed.{typed_word}

-- What a line says without the blanks at its end.
abbrev said : List ℕ → List ℕ
said line = take (used_of 80 line) line

abbrev value : String → Float → List ℕ
value label x = said (number_line (bytes label) x 2)

-- Each of some sentences ends within the line.
abbrev fitting : List Advice → Bool
fitting [] = true
fitting (a ∷ rest) = leb (length a.sentence) 63 && fitting rest

-- The calls 2028 at 100, 2027 at 101.5 and 2027 at 101, by their rank.
abbrev ranked : ℕ → ℕ
ranked k = at_rank (46917 ∷ 46551 ∷ 46551 ∷ []) (46917 ∷ 46551 ∷ 46551 ∷ []) (of_bits binary64 0x4059_0000_0000_0000 ∷ of_bits binary64 0x4059_6000_0000_0000 ∷ of_bits binary64 0x4059_4000_0000_0000 ∷ []) k

pub record Starred : Type 0 where
  pub heading : said call_heading ≡ bytes "Call list        from        to                 strike    exact bits"
  pub call : said (call_line 46551 47282 (bytes "101.50") (of_bits binary64 0x4059_6000_0000_0000)) ≡ bytes "                 2027-06-15  2029-06-15         101.50    4059600000000000"
  pub no_date : said (call_line 200001 4294967295 (bytes "100") (of_bits binary64 0x4059_0000_0000_0000)) ≡ bytes "                     200001  4294967295            100    4059000000000000"
  -- Thirteen letters, fourteen on a line of their own, and 64.
  pub long : said (call_line 46551 47282 (bytes "101.123456789") (of_bits binary64 0x4059_47e6_b74d_ce59)) ≡ bytes "                 2027-06-15  2029-06-15  101.123456789    405947e6b74dce59"
  pub longer : said (put_strike blank_line (bytes "101.1234567890")) ≡ bytes "                                             next line"
  pub apart : said (strike_line (bytes "101.1234567890")) ≡ bytes "  strike         101.1234567890"
  pub stands : stands_apart (bytes "101.1234567890") ≡ true
  pub too_long : said (put_strike blank_line (replicate 64 48)) ≡ bytes "                                                beyond"
  -- The strike of the second line, which has a comment; there is no third.
  pub word : typed_word (bytes "name A\ncall 46551 47282  0101.50# at 101 and a half\n") 2 3 ≡ bytes "0101.50"
  pub no_word : typed_word (bytes "name A\ncall 46551 47282 101\n") 3 3 ≡ []
  pub none : said no_calls ≡ bytes "Call list        no calls"
  pub curve : said (day_line (bytes "Curve date") 46339) ≡ bytes "Curve date       2026-11-15"
  pub no_curve : said no_pillar ≡ bytes "Curve date       no pillar"
  pub spread : said (number_line (bytes "Spread") (of_bits binary64 0x3f81_6ebd_4cfd_08d5) 6) ≡ bytes "Spread                               0.008512    3f816ebd4cfd08d5"
  pub worth : value "Value" (of_bits binary64 0x4059_68f0_77e5_d1f4) ≡ bytes "Value                                  101.64    405968f077e5d1f4"
  -- Below 0, and what rounds to 0.
  pub below : value "Calls are worth" (of_bits binary64 0xbfde_147a_e147_ae14) ≡ bytes "Calls are worth                         -0.47    bfde147ae147ae14"
  pub nothing : value "Calls are worth" (of_bits binary64 0xbf70_624d_d2f1_a9fc) ≡ bytes "Calls are worth                          0.00    bf70624dd2f1a9fc"
  -- 2^49, and what has no number.
  pub large : value "Value" (of_bits binary64 0x4300_0000_0000_0000) ≡ bytes "Value                                  beyond    4300000000000000"
  pub not_a_number : value "Value" nan ≡ bytes "Value                                  beyond    ----------------"
  pub nodes : said (count_line (bytes "Nodes") 1369) ≡ bytes "Nodes                                    1369"
  pub tries : said (count_line (bytes "Yield tries") 0) ≡ bytes "Yield tries                                 0"
  pub refused : said (refused_line 4 12) ≡ bytes "Refused          4 at line 12"
  pub refused_all : said (refused_line 27 0) ≡ bytes "Refused          27"
  pub sentence : said (text_line (sentence_for 4)) ≡ bytes "                 A number is outside its range: look at where it came from."
  pub unknown : said (text_line (sentence_for 10)) ≡ bytes "                 This number is not known: look it up in the README."
  pub sentences_fit : fitting advice ≡ true
  pub first : ranked 0 ≡ 2
  pub second : ranked 1 ≡ 1
  pub third : ranked 2 ≡ 0
  pub no_fourth : ranked 3 ≡ 3

pub starred : Starred
unfolding put_at used_of byte_left digits_left width_of whole_left point_left minus_left sentence_for before how_many first_from dating decimals_of hex_digits span_of lines_of ieee.of_bits ieee.to_bits ieee.eq ieee.lt
starred =
    record {
      heading = refl;
      call = refl;
      no_date = refl;
      long = refl;
      longer = refl;
      apart = refl;
      stands = refl;
      too_long = refl;
      word = refl;
      no_word = refl;
      none = refl;
      curve = refl;
      no_curve = refl;
      spread = refl;
      worth = refl;
      below = refl;
      nothing = refl;
      large = refl;
      not_a_number = refl;
      nodes = refl;
      tries = refl;
      refused = refl;
      refused_all = refl;
      sentence = refl;
      unknown = refl;
      sentences_fit = refl;
      first = refl;
      second = refl;
      third = refl;
      no_fourth = refl;
    }
