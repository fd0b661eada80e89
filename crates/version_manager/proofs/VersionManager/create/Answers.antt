-- `version_manager::VersionManager::create` meets its contract.
use mathlib.Core.Path.{subst}
use native.Mathlib.Omega.{arith}
use lib.ListN.{length}
use Rattle.std.proofs.Common.{rules}
use Rattle.ids.specs.Names.{name_of}
use Rattle.ids.specs.Verdicts.{judged}
use Rattle.table.specs.Create.{created_by, create_rules}
use Rattle.table.specs.Says.{MadeIs}
use Rattle.table.proofs.Laws.{made-laws}
use Rattle.version_state.specs.declared.VersionManagerInner.{VersionManagerInner}
use Rattle.version_state.specs.State.{state_of}
use Rattle.version_manager.specs.Managers.{held_by}
use Rattle.version_manager.proofs.Made.{create-says}
use Rattle.version_manager.proofs.VersionManager.create.Goals as goal

pub returns : goal.returns
returns c =
    let j = rw c.in-Ok.is at c.judge.ensures in
    let b = j.0 in
    let os = created_by (held_by c.args.self) c.args.shape (name_of c.args.name) in
    let made = subst (λ (i : VersionManagerInner). MadeIs (judged (create_rules (state_of i) c.args.shape (name_of c.args.name) (length c.args.out.now))) (created_by (state_of i) c.args.shape (name_of c.args.name)) c.create-made.result c.as_slice.result.now) j.2 (rw (← c.as_slice.ensures) at c.create-made.ensures) in
    rw b (create-says os _ c.args.self _ _ _ b _ _ made
    (made-laws.create c.args.self.inner c.args.shape (name_of c.args.name) (length c.args.out.now) j.1 (omega (arith, c.ranges.shape))) c.append_made-answer.ensures
    c.args.self.inner.next.table _ (λ d e. let q = rw e at c.map.ensures.cases in search (rules, q)) (λ k e. rw e at c.map.ensures.cases))
