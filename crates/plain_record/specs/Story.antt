-- A compaction, whatever a crash cuts off it, and the reopen after it: the rowsets that were merged are shown, or the merged one, never both. Assumes nothing.
use Rattle.std.specs.Prelude.{◌≡◌, Bool, true, false, cond, not, ◌||◌, List, [], ◌∷◌, ◌++◌, ℕ}
use Rattle.lists.specs.Order.{same}
use Rattle.lists.specs.Keyed.{keep, all_of, any_of}
use Rattle.compaction.specs.New.{NewRowset, new_of}
use Rattle.table.specs.Laws.{pairs_with, put_all}
use Rattle.version_manager.specs.Managers.{held_by}
use Rattle.replay.specs.Replay.{reopened}
use Rattle.plain_record.specs.Calls.{compact, reopen, Kind, quiet, as_commit, as_pin, as_unpin, as_vacuum, as_report, as_checkpoint, as_reopen, kind_of}
use Rattle.plain_record.specs.Run.{Steps, World, Event, is_accepted, Chain, Starts}
use Rattle.plain_record.specs.Shows.{ShowsPairs}

-- the pairs l, with the new rowset of the table t and without the taken ones
abbrev pub merged : ℕ → List ℕ → List ℕ → List (List ℕ) → List (List ℕ)
merged t new taken l = keep (λ k. not (any_of (same k) (pairs_with t taken))) (put_all (pairs_with t new) l)

-- neither a commit, nor a report of one, nor a reopen
abbrev pub is_still : Kind → Bool
is_still quiet = true
is_still (as_commit made missing) = false
is_still as_pin = true
is_still (as_unpin e) = true
is_still as_vacuum = true
is_still (as_report n) = false
is_still (as_checkpoint lent) = true
is_still (as_reopen lent) = false

-- refused calls commit nothing
abbrev pub commits_nothing : Event → Bool
commits_nothing e = not (is_accepted e.told) || is_still (kind_of e.call)

-- After any calls, an accepted compaction, calls that commit nothing and an accepted reopen: where l was shown before the compaction, l
-- is shown again, or l with the new rowset and without the taken ones.
abbrev pub Story : Steps → Type 0
Story S =
    (w : World) (es : List Event) (c : Event) (qs : List Event) (o : Event) (t : ℕ) (new : NewRowset) (taken out : List ℕ) (missing : ℕ) (lent : List ℕ) (stale : Bool)
    → Starts S w → Chain S w (es ++ (c ∷ (qs ++ (o ∷ []))))
    → c.call ≡ compact t new taken out missing → is_accepted c.told ≡ true
    → all_of commits_nothing qs ≡ true
    → o.call ≡ reopen lent stale → is_accepted o.told ≡ true
    → (l : List (List ℕ)) × ShowsPairs S c.before (held_by c.before.manager).epoch l
    × ((landed : Bool) × ShowsPairs S o.after reopened (cond landed (merged t (new_of new) taken l) l))
