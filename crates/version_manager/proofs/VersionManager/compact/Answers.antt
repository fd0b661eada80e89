-- `version_manager::VersionManager::compact` meets its contract.
use native.Mathlib.Omega.{arith}
use lib.ListN.{length}
use Rattle.table.specs.Compact.{compacted_by}
use Rattle.table.proofs.Laws.{made-laws}
use Rattle.compaction.specs.New.{new_of}
use Rattle.compaction.proofs.Whole.{few-new}
use Rattle.version_state.specs.Widths.{Narrow}
use Rattle.version_manager.specs.Managers.{held_by}
use Rattle.version_manager.proofs.Made.{made-says}
use Rattle.version_manager.proofs.VersionManager.compact.Goals as goal

pub returns : goal.returns
returns c =
    let j = rw c.in-Ok.is at c.judge.ensures in
    let b = j.0 in
    let new = new_of c.args.new in
    let taken = c.args.taken.now in
    let wide : Narrow (held_by c.args.self) = record { table = omega (arith, c.well_formed.0.1.1.0.1.1.1.0); rowset = omega (arith, c.well_formed.0.1.1.0.1.1.1.0); vector = omega (arith, c.well_formed.0.1.1.0.1.1.1.0) } in
    rw b (made-says (compacted_by (held_by c.args.self) c.args.table.0 new taken) _ c.args.self _ _ _ b _ _ (rw (j.2, ← c.as_slice.ensures) at c.compact-made.ensures)
    (λ v. (made-laws.compact c.args.self.inner c.args.table.0 new taken (length c.args.out.now) j.1 wide (few-new c.args.new) v).accepts) c.append_made.ensures)
