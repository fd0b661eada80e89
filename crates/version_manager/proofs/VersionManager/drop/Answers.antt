-- `version_manager::VersionManager::drop` meets its contract.
use mathlib.Core.Path.{subst}
use native.Mathlib.Omega.{arith}
use lib.ListN.{length}
use Rattle.ids.specs.Verdicts.{judged}
use Rattle.table.specs.Drop.{dropped_by, drop_rules}
use Rattle.table.specs.Says.{MadeIs}
use Rattle.table.proofs.Laws.{made-laws}
use Rattle.version_state.specs.declared.VersionManagerInner.{VersionManagerInner}
use Rattle.version_state.specs.State.{state_of}
use Rattle.version_state.specs.Widths.{Narrow}
use Rattle.version_manager.specs.Managers.{held_by}
use Rattle.version_manager.proofs.Made.{made-says}
use Rattle.version_manager.proofs.VersionManager.drop.Goals as goal

pub returns : goal.returns
returns c =
    let j = rw c.in-Ok.is at c.judge.ensures in
    let b = j.0 in
    let wide : Narrow (held_by c.args.self) = record { table = omega (arith, c.well_formed.0.1.1.0.1.1.1.0); rowset = omega (arith, c.well_formed.0.1.1.0.1.1.1.0); vector = omega (arith, c.well_formed.0.1.1.0.1.1.1.0) } in
    let made = subst (λ (i : VersionManagerInner). MadeIs (judged (drop_rules (state_of i) c.args.table.0 (length c.args.out.now))) (dropped_by (state_of i) c.args.table.0) c.drop-made.result c.as_slice.result.now) j.2 (rw (← c.as_slice.ensures) at c.drop-made.ensures) in
    rw b (made-says (dropped_by (held_by c.args.self) c.args.table.0) _ c.args.self _ _ _ b _ _ made (made-laws.drop c.args.self.inner c.args.table.0 (length c.args.out.now) j.1 wide) c.append_made.ensures)
