-- `version_manager::VersionManager::group` meets its contract.
use mathlib.Core.Path.{refl, sym, ap, ◌∙◌}
use native.Mathlib.Omega.{arith}
use Rattle.version_state.proofs.Facts.{sound-of}
use Rattle.version_manager.specs.Group.{group_told}
use Rattle.version_manager.proofs.Managers.{inner-passes, manages}
use Rattle.version_manager.proofs.Groups.{group-fits, group-no, group-yes}
use Rattle.version_manager.proofs.VersionManager.group.Goals as goal

pub returns-in-Err : goal.returns-in-Err
returns-in-Err c = group-no c.args.self c.args.handles _ _ _ _ _ _ _ _ _ _ _ (sym c.bad.ensures ∙ c.if-bad.false) c.group.ensures _ _ c.in-Err.is c.refused-in-Err.ensures.1 c.refused-in-Err.ensures.0

pub overflow_add-inner : goal.overflow_add-inner
overflow_add-inner c = omega (arith, group-fits c.args.self c.args.handles _ _ _ _ _ _ _ _ _ _ _ (sym c.bad.ensures ∙ c.if-bad.false) c.group.ensures _ c.in-Ok.is)

pub returns-in-Ok : goal.returns-in-Ok
returns-in-Ok c =
    let f = (sound-of c.args.self.inner (inner-passes c.args.self (sym c.bad.ensures ∙ c.if-bad.false))).fits in
    group-yes c.args.self c.args.handles _ _ _ _ _ _ _ _ _ _ _ (sym c.bad.ensures ∙ c.if-bad.false) c.group.ensures _ _ c.in-Ok.is
    (manages _ _ _ (c.settled.ensures.1, c.settled.ensures.2) (record { fits = record { tables = f.tables; rowsets = f.rowsets; vectors = f.vectors }; state = refl })) (ap group_told c.settled.ensures.0)
