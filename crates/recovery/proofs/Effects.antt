-- What an operation does to sets, whatever the epochs, and that it does this at the epoch of a commit and of a replay alike. Assumes nothing.
use mathlib.Core.Path.{◌≡◌, refl, sym, ap, ◌∙◌}
use mathlib.Core.Bool.{true}
use mathlib.Core.List.{List, map}
use Prim.Native.Nat.{ℕ, ◌≤◌}
use Rattle.lists.specs.Keyed.{keep, put, without, changed, ascending}
use Rattle.lists.proofs.Keyed.{Ascending, ascend-to}
use Rattle.lists.proofs.Kept.{keep-put, keep-changed}
use Rattle.manifest.specs.Operations.{Operation}
use Rattle.manifest.specs.Edits.{Edit, leaves, adds, deletes, Table, edits_of}
use Rattle.snapshot.specs.Entries.{Entry, added_at, deleted_at, shown_by, shown, by_ids}
use Rattle.snapshot.specs.Tables.{TableEntry, by_table}
use Rattle.snapshot.proofs.Entries.{shows-new, hides-deleted}
use Rattle.version_state.specs.State.{State, pairs_at, vectors_at}
use Rattle.version_state.specs.Sets.{Sets, sets, unlocked}
use Rattle.version_state.proofs.Facts.{Ordered}
use Rattle.operations.specs.Effect.{edited, marked, as_entry, applied}
use Rattle.replay.proofs.Maps.{map-put, map-without}

-- the sets at an epoch
abbrev pub sets_at : ℕ → State → Sets
sets_at e s = sets (map unlocked s.tables) (pairs_at e s) (vectors_at e s)

abbrev pub itself : List ℕ → List ℕ
itself k = k

-- an operation, on sets
abbrev pub on_sets : Operation → Sets → Sets
on_sets o z =
    sets (edited by_table as_entry (edits_of o).tables z.tables) (edited itself itself (edits_of o).pairs z.pairs) (edited itself itself (edits_of o).vectors z.vectors)

shown-put : (e : ℕ) (k : List ℕ) (l : List Entry) → Ascending by_ids l → shown e (put by_ids (added_at e k) l) ≡ put itself k (shown e l)
shown-put e k l a =
    ap (map by_ids) (keep-put by_ids (shown_by e) (added_at e k) l (shows-new e k) a)
    ∙ sym (map-put by_ids by_ids itself (λ x y. refl) (λ x y. refl) (added_at e k) (keep (shown_by e) l))

shown-deleted : (e : ℕ) (k : List ℕ) (l : List Entry) → 1 ≤ e → shown e (changed by_ids k (deleted_at e) l) ≡ without itself k (shown e l)
shown-deleted e k l h =
    ap (map by_ids) (keep-changed by_ids (shown_by e) k (deleted_at e) (λ x. hides-deleted e x h) l)
    ∙ sym (map-without by_ids by_ids itself k k (λ x. refl) (keep (shown_by e) l))

shown-marked : (e : ℕ) (d : Edit (List ℕ)) (l : List Entry) → 1 ≤ e → ascending by_ids l ≡ true → shown e (marked e d l) ≡ edited itself itself d (shown e l)
shown-marked e leaves l h a = refl
shown-marked e (adds k) l h a = shown-put e k l (ascend-to by_ids l a)
shown-marked e (deletes k) l h a = shown-deleted e k l h

unlocked-edited : (d : Edit Table) (l : List TableEntry) → map unlocked (edited by_table as_entry d l) ≡ edited by_table as_entry d (map unlocked l)
unlocked-edited leaves l = refl
unlocked-edited (adds t) l = sym (map-put unlocked by_table by_table (λ x y. refl) (λ x y. refl) (as_entry t) l)
unlocked-edited (deletes k) l = sym (map-without unlocked by_table by_table k k (λ x. refl) l)

-- an operation at the epoch e changes the sets at e as it changes sets
pub on-sets : (e : ℕ) (o : Operation) (s : State) → 1 ≤ e → Ordered s → sets_at e (applied e o s) ≡ on_sets o (sets_at e s)
on-sets e o s p r =
    let d = edits_of o in
    rw (unlocked-edited d.tables s.tables, shown-marked e d.pairs s.pairs p r.pairs, shown-marked e d.vectors s.vectors p r.vectors)
