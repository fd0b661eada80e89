-- `version_manager::VersionManager::append` meets its contract.
use Rattle.commit.proofs.Calls.{ready_of}
use Rattle.version_manager.proofs.Managers.{inner-passes}
use Rattle.version_manager.proofs.Calls.{append-refused}
use Rattle.version_manager.proofs.VersionManager.append.Goals as goal

pub commit_lines-requires-clause-ready : goal.commit_lines-requires-clause-ready
commit_lines-requires-clause-ready c = (ready_of c.args.self.now.inner (inner-passes c.args.self.now c.requires.passed)).0

pub returns-in-Err : goal.returns-in-Err
returns-in-Err c = rw c.requires.passed (append-refused _ c.args.self.now _ _ _ _ _ _ _ c.commit_lines.ensures c.in-Err.is c.refused.ensures.0 c.refused.ensures.1)
