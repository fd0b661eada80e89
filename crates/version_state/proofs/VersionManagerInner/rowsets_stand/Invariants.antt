-- `version_state::VersionManagerInner::rowsets_stand` meets its contract.
use mathlib.Core.Path.{◌≡◌}
use mathlib.Core.Bool.{true}
use lib.ListN.{length, take, drop}
use Rattle.lists.specs.Keyed.{keep}
use Rattle.snapshot.specs.Entries.{by_ids, shown_by}
use Rattle.snapshot.specs.Tables.{by_table}
use Rattle.version_state.specs.State.{state_of}
use Rattle.version_state.proofs.Stands.{stand}
use Rattle.version_state.proofs.VersionManagerInner.rowsets_stand.Given as goal

abbrev pub invariant-loop-r : goal.invariant-loop-r
invariant-loop-r l =
    let ts = (state_of l.self).tables in
    let ps = keep (shown_by l.epoch) (state_of l.self).pairs in
    stand (λ x. take 1 (by_ids x)) by_table (λ t. true) ps ts ≡ stand (λ x. take 1 (by_ids x)) by_table (λ t. true) (drop (length l.yielded) ps) (drop l.at ts)
