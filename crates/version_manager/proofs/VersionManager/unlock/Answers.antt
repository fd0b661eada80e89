-- `version_manager::VersionManager::unlock` meets its contract.
use Rattle.version_manager.proofs.VersionManager.unlock.Goals as goal

pub returns : goal.returns
returns c = c.relock.ensures
