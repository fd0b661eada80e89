-- `risinglight::delete_vectors_agree` meets its contract.
use Rattle.risinglight.proofs.DeleteVectorLaws.{delete-vectors}
use Rattle.risinglight.proofs.delete_vectors_agree.Goals as goal

pub returns : goal.returns
returns c = delete-vectors
