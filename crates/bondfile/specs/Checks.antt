-- Definitions only. The first thing wrong with a file, in the order of its lines; what is missing comes last.
use Rattle.std.specs.Prelude.{ℕ, ◌+◌, cond, Result, Ok, Err, List, [], ◌∷◌, length, get_or, set, replicate, eqb, ltb}
use Rattle.bondline.specs.declared.Kind.{Kind}
use Rattle.bondline.specs.declared.Kind.TheVariants as kind
use Rattle.bondline.specs.declared.Entry.TheVariants.{Blank, Settlement, Units, Steps, Alpha, Spread, Cashflow, Call, Sigma, Pillar, Yield, Quote}
use Rattle.bondline.specs.Results.{◌>>=◌}
use Rattle.bondline.specs.Forms.{Said}
use Rattle.bondfile.specs.declared.FileError.{FileError}
use Rattle.bondfile.specs.declared.FileError.TheVariants.{TooLarge, Wrong, Twice, TooMany, Missing}
use Rattle.bondfile.specs.Entries.{number_of, kind_of}
use Rattle.bondfile.specs.File.{Numbered, entries_of}

-- What is found of a file: nothing that is wrong, or the first thing.
abbrev pub FileCheck : Type 0
FileCheck = Result Unit FileError

-- What a line adds: how many entries of its kind there are now; or why the file is refused.
abbrev pub Verdict : Type 0
Verdict = Result ℕ FileError

-- At most one entry of a kind; count came before.
abbrev pub once : Kind → ℕ → ℕ → Verdict
once kind line count = cond (ltb count 1) (Ok (count + 1)) (Err (Twice line kind))

-- At most so many entries of a kind.
abbrev pub at_most : ℕ → Kind → ℕ → ℕ → Verdict
at_most limit kind line count = cond (ltb count limit) (Ok (count + 1)) (Err (TooMany line kind))

-- A line, count entries of its kind having come before. Lines that say nothing aren't counted.
unfoldable pub verdict_of : Said → ℕ → ℕ → Verdict
verdict_of (Ok Blank) line count = Ok 0
verdict_of (Ok (Settlement d)) line count = once kind.Settlement line count
verdict_of (Ok (Units x)) line count = once kind.Units line count
verdict_of (Ok (Steps a b)) line count = once kind.Steps line count
verdict_of (Ok (Alpha x)) line count = once kind.Alpha line count
verdict_of (Ok (Spread x)) line count = once kind.Spread line count
verdict_of (Ok (Cashflow d k x)) line count = at_most 256 kind.Cashflow line count
verdict_of (Ok (Call a b x)) line count = at_most 64 kind.Call line count
verdict_of (Ok (Sigma x y)) line count = at_most 64 kind.Sigma line count
verdict_of (Ok (Pillar d x)) line count = at_most 256 kind.Pillar line count
verdict_of (Ok (Yield x a b)) line count = once kind.Yield line count
verdict_of (Ok (Quote x)) line count = once kind.Quote line count
verdict_of (Err q) line count = Err (Wrong line q)

-- Settlement, units, steps, alpha and spread must be there.
abbrev pub required : List Kind
required = kind.Settlement ∷ kind.Units ∷ kind.Steps ∷ kind.Alpha ∷ kind.Spread ∷ []

-- The first of some kinds that is missing.
abbrev pub missing_of : List Kind → List ℕ → FileCheck
missing_of [] counts = Ok tt
missing_of (k ∷ ks) counts = cond (eqb (get_or counts (number_of k) 0) 0) (Err (Missing k)) (missing_of ks counts)

unfoldable pub missing : List ℕ → FileCheck
missing counts = missing_of required counts

-- Line by line, with how many entries of each kind came before.
unfoldable pub check_from : List ℕ → List Numbered → FileCheck
check_from counts [] = missing counts
check_from counts (e ∷ es) =
    verdict_of e.entry e.line (get_or counts (kind_of e.entry) 0) >>= λ n. check_from (set counts (kind_of e.entry) n) es

-- A file has at most 65,536 bytes.
abbrev pub file_check : List ℕ → FileCheck
file_check text = cond (ltb 65536 (length text)) (Err TooLarge) (check_from (replicate 12 0) (entries_of text))
