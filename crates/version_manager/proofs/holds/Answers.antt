-- `version_manager::holds` meets its contract.
use Rattle.version_manager.proofs.Laws.{draw-laws, checkpoint-laws, ended-laws, report-laws}
use Rattle.version_manager.proofs.TableLaws.{table-laws}
use Rattle.version_manager.proofs.CompactLaws.{compact-laws}
use Rattle.version_manager.proofs.holds.Goals as goal

pub returns : goal.returns
returns c = (draw-laws, checkpoint-laws, ended-laws, report-laws, table-laws, compact-laws)
