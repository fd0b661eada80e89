-- `host::seqapti_compact` meets its contract.
use Rattle.host.specs.Arguments.{new_in}
use Rattle.host.proofs.Lent.{compacted-with}
use Rattle.host.proofs.seqapti_compact.Goals as goal

pub returns : goal.returns
returns c =
    record {
      answered = c.compact.result;
      says = compacted-with _ _ _ (new_in c.args.has_new c.args.new) c.args.taken.now _ c.compact.result _ c.new_rowset-new.ensures c.compact.ensures;
      manager = c.from.ensures.0;
      told = c.from.ensures.1;
    }
