-- `OfKind::new` has no refused line among its entries. Assumes nothing.
use Rattle.std.proofs.Common.{arith}
use Rattle.std.proofs.lemmas.List.Elements.{All-same}
use Rattle.bondfile.specs.File.{entries_of}
use Rattle.bondfile.specs.Walks.{said_left}
use Rattle.bondfile.specs.laws.OfKinds.{none-refused}
use Rattle.bondfile.proofs.Finding.{Known}
use Rattle.bondfile.proofs.file.OfKind.new.Goals as goal

pub invariant_of-result : goal.invariant_of-result
invariant_of-result c =
    record {
      entries = All-same Known (said_left c.new.result) _ c.new.ensures (none-refused _ (entries_of c.args.text.now) (omega (arith, c.number_of.ensures.within)));
    }
