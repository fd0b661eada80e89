-- `version_manager::VersionManager::vacuum` meets its contract.
use mathlib.Core.Path.{refl, sym, ap, ◌∙◌}
use lib.ListN.{length}
use Rattle.ids.specs.Verdicts.{judged}
use Rattle.vacuum.specs.LetGo.{vacuumed}
use Rattle.vacuum.specs.Says.{bound_of, list_of, vacuum_rules}
use Rattle.version_manager.specs.Managers.{held_by}
use Rattle.version_manager.specs.Vacuum.{vacuum_told}
use Rattle.version_manager.proofs.Managers.{inner-passes}
use Rattle.version_manager.proofs.Calls.{settled-says, told-number}
use Rattle.version_manager.proofs.VersionManager.vacuum.Goals as goal

pub vacuum-answer-requires : goal.vacuum-answer-requires
vacuum-answer-requires c = inner-passes c.args.self (sym c.bad.ensures ∙ c.if-bad.false)

pub returns : goal.returns
returns c =
    let s = held_by c.args.self in
    let b = c.args.book in
    let v = judged (vacuum_rules s b (length c.args.tables.now) (length c.args.rowsets.now)) in
    let i = c.vacuum-answer.ensures in
    let w = settled-says c.args.self v (length (list_of s b)) (vacuumed (bound_of s b) s) _ _ c.settled.result i.answer i.inner c.settled.ensures in
    let g = sym c.bad.ensures ∙ c.if-bad.false in
    record {
      answer = rw g (ap vacuum_told w.0 ∙ told-number vacuum_told (λ n. refl) (λ k. refl) v _);
      tables = rw g i.tables;
      rowsets = rw g i.rowsets;
      manager = rw g w.1;
    }
