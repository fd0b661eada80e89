-- `version_manager::VersionManager::relock` meets its contract.
use mathlib.Core.Path.{sym, ◌∙◌}
use Rattle.version_manager.proofs.Managers.{inner-passes}
use Rattle.version_manager.proofs.VersionManager.relock.Goals as goal

pub relock-answer-requires : goal.relock-answer-requires
relock-answer-requires c = inner-passes c.args.self (sym c.bad.ensures ∙ c.if-bad.false)
