-- `all_there` meets its contract. Assumes nothing.
use Rattle.std.proofs.Common.{◌∙◌, ap, get_or, sym, ℕ}
use Rattle.std.proofs.lemmas.List.{get_or_default}
use Rattle.bondline.specs.declared.Kind.TheVariants as kind
use Rattle.bondfile.specs.Checks.{required, missing}
use Rattle.filecheck.proofs.Missing.{missing_found, missing_next}
use Rattle.filecheck.proofs.check.all_there.Goals as goal

pub returns-then-counts-number_of-eq0 : goal.returns-then-counts-number_of-eq0
unfolding missing
returns-then-counts-number_of-eq0 c =
    missing_found required c.args.counts.now c.loop-kind.kind-index (get_or required c.loop-kind.kind-index kind.Blank) c.loop-kind-test.true
    (get_or_default required c.loop-kind.kind-index kind.Blank _ c.loop-kind-test.true)
    (ap (λ (n : ℕ). get_or c.args.counts.now n 0) (sym c.number_of.ensures.number) ∙ c.if-counts-number_of-eq0.true)
    c.loop-kind.invariant

pub loop-kind-preserved : goal.loop-kind-preserved
loop-kind-preserved c =
    missing_next required c.args.counts.now c.loop-kind.kind-index (get_or required c.loop-kind.kind-index kind.Blank) c.loop-kind-test.true
    (get_or_default required c.loop-kind.kind-index kind.Blank _ c.loop-kind-test.true)
    (λ z. c.if-counts-number_of-eq0.false (ap (λ (n : ℕ). get_or c.args.counts.now n 0) c.number_of.ensures.number ∙ z))
    c.loop-kind.invariant
