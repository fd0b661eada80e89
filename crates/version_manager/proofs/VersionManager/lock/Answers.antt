-- `version_manager::VersionManager::lock` meets its contract.
use Rattle.version_manager.proofs.VersionManager.lock.Goals as goal

pub returns : goal.returns
returns c = c.relock.ensures
