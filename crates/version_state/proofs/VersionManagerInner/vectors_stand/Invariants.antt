-- `version_state::VersionManagerInner::vectors_stand` meets its contract.
use mathlib.Core.Path.{◌≡◌}
use lib.ListN.{length, take, drop}
use Rattle.lists.specs.Keyed.{keep}
use Rattle.snapshot.specs.Entries.{by_ids, shown_by}
use Rattle.version_state.specs.State.{state_of}
use Rattle.version_state.proofs.Stands.{stand}
use Rattle.version_state.proofs.VersionManagerInner.vectors_stand.Given as goal

abbrev pub invariant-loop-v : goal.invariant-loop-v
invariant-loop-v l =
    let ps = (state_of l.self).pairs in
    let vs = keep (shown_by l.epoch) (state_of l.self).vectors in
    stand (λ x. take 2 (by_ids x)) by_ids (shown_by l.epoch) vs ps ≡ stand (λ x. take 2 (by_ids x)) by_ids (shown_by l.epoch) (drop (length l.yielded) vs) (drop l.at ps)
