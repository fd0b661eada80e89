use Rattle.std.proofs.Common.{rules}
use Rattle.std.proofs.lemmas.List.Sorted.{answers_always}
use Rattle.replay_lists.specs.Entries.{by}
use Rattle.replay_lists.proofs.Searched.{searched}
use Rattle.replay_lists.proofs.SortedList.find.Goals as goal

-- the closure gives an entry's key, and the slice has the entries
pub returns-clause-found : goal.returns-clause-found
returns-clause-found g c =
    let facts = c.binary_search_by_key.ensures in
    let by_key = facts.position g.T.Keyed.key (answers_always _ _ _ (λ f a r h called. search rules)) in
    rw (← c.as_slice.ensures.all) (searched (by g.T.Keyed.numbers g.T.Keyed.key) _ _ (rw c.as_slice.ensures.all c.as_slice.ensures.rising) _ (λ x. g.met.T.Keyed.in_order _ _) _ facts.bound by_key).0

pub returns-clause-missing : goal.returns-clause-missing
returns-clause-missing g c =
    let facts = c.binary_search_by_key.ensures in
    let by_key = facts.position g.T.Keyed.key (answers_always _ _ _ (λ f a r h called. search rules)) in
    rw (← c.as_slice.ensures.all) (searched (by g.T.Keyed.numbers g.T.Keyed.key) _ _ (rw c.as_slice.ensures.all c.as_slice.ensures.rising) _ (λ x. g.met.T.Keyed.in_order _ _) _ facts.bound by_key).1
