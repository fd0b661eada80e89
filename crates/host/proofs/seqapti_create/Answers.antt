-- `host::seqapti_create` meets its contract.
use Rattle.host.proofs.Lent.{created-named}
use Rattle.host.proofs.seqapti_create.Goals as goal

pub returns : goal.returns
returns c =
    record {
      answered = c.create.result;
      says = created-named _ _ _ _ c.create.result _ _ c.name-name.ensures c.create.ensures;
      manager = c.from.ensures.0;
      told = c.from.ensures.1;
    }
