-- `host::seqapti_bootstrap` meets its contract.
use Rattle.host.proofs.seqapti_bootstrap.Goals as goal

pub returns : goal.returns
returns c =
    record {
      answer = c.bootstrap-answer.result.answer;
      says = c.bootstrap-answer.ensures;
      told = c.from-answer.ensures;
    }
