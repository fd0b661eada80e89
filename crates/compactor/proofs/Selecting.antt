-- What a selection is where it refuses and where it accepts. Assumes nothing.
use mathlib.Core.Path.{◌≡◌, sym, ap, ◌∙◌}
use mathlib.Core.Bool.{true, false}
use mathlib.Core.List.{List, map, map-map}
use Prim.Native.Nat.{ℕ, ◌≤◌, ◌<◌}
use native.Mathlib.Omega.{arith}
use lib.ListN.{length, get_or, length-map}
use borrow.Author.Tests.{eq-eqb, ne_eqb, lt-ltb, le-ltb}
use Rattle.std.specs.Prelude.{Ok, Err}
use Rattle.lists.specs.Keyed.{keep}
use Rattle.lists.specs.Written.{over}
use Rattle.lists.proofs.Keyed.{keep-map, length-keep}
use Rattle.ids.specs.Ids.{is_id32}
use Rattle.ids.specs.declared.refusal.Refusal.{Refusal}
use Rattle.ids.specs.declared.refusal.Refusal.TheVariants.{WrongCount, OutputTooShort, TableNotLive}
use Rattle.ids.specs.Verdicts.{judged}
use Rattle.columns.proofs.Rows.{rows-length}
use Rattle.snapshot.specs.Entries.{by_ids, shown_by, of_table}
use Rattle.snapshot.specs.Views.{rowsets_of}
use Rattle.snapshot.specs.declared.held.Held.{Held}
use Rattle.snapshot.specs.declared.rowsets.RowsetIds.{RowsetIds}
use Rattle.snapshot.specs.declared.rowsets.Rowsets.{Rowsets}
use Rattle.version_state.specs.declared.VersionManagerInner.{VersionManagerInner}
use Rattle.version_state.specs.State.{State, state_of}
use Rattle.operations.specs.Judge.{is_live}
use Rattle.table.specs.Made as made
use Rattle.compactor.specs.Selection.{rowsets_now, selected}
use Rattle.compactor.specs.Says.{select_rules, SelectIs}
use Rattle.compactor.proofs.Taking.{rowset_at}

-- a held rowset's own id
abbrev pub rowset_held : Held RowsetIds → ℕ
rowset_held x = x.ids.rowset.0

-- no more is shown than is held
pub shown-few : (t e : ℕ) (s : Rowsets) → length (keep (of_table t) (keep (shown_by e) (rowsets_of s))) ≤ s.count
shown-few t e s =
    let n : length (rowsets_of s) ≡ s.count = rows-length _ s.count in
    omega (arith, length-keep (of_table t) (keep (shown_by e) (rowsets_of s)), length-keep (shown_by e) (rowsets_of s), n)

-- the rowsets of a table, as a walk over what is shown gives them
pub rowsets-shown : (t : ℕ) (s : State) → map rowset_at (keep (of_table t) (keep (shown_by s.epoch) s.pairs)) ≡ rowsets_now t s
rowsets-shown t s =
    let l = keep (shown_by s.epoch) s.pairs in
    sym (map-map (λ (k : List ℕ). get_or k 1 0) by_ids (keep (of_table t) l))
    ∙ ap (map (λ (k : List ℕ). get_or k 1 0)) (sym (keep-map by_ids (made.of_table t) l))

pub rowsets-few : (t : ℕ) (m : VersionManagerInner) → length (rowsets_now t (state_of m)) ≤ m.rowsets.count
rowsets-few t m =
    let l = keep (of_table t) (keep (shown_by m.epoch) (rowsets_of m.rowsets)) in
    let e = ap length (rowsets-shown t (state_of m)) in
    omega (arith, e, length-map l rowset_at, shown-few t m.epoch m.rowsets)

module _ (m : VersionManagerInner) (t target : ℕ) (ns : List ℕ) where
  module _ (out : List ℕ) where
    refuses : (k : Refusal) → judged (select_rules (state_of m) t target ns (length out)) ≡ Err k → SelectIs (state_of m) t target ns out (Err k) out
    refuses k h = record { answer = rw h; rowsets = rw h }

    module _ (h : is_id32 t ≡ true) where
      pub wrong-count : (length ns ≡ length (rowsets_now t (state_of m)) → ⊥) → SelectIs (state_of m) t target ns out (Err WrongCount) out
      wrong-count u = refuses WrongCount (rw (h, ne_eqb (length ns) (length (rowsets_now t (state_of m))) u))

      module _ (u : length ns ≡ length (rowsets_now t (state_of m))) where
        pub not_live : is_live t (state_of m) ≡ false → SelectIs (state_of m) t target ns out (Err (TableNotLive 0)) out
        not_live v = refuses (TableNotLive 0) (rw (h, eq-eqb (length ns) (length (rowsets_now t (state_of m))) u, v))

        module _ (v : is_live t (state_of m) ≡ true) where
          pub no_room : length out < length (selected t target ns (state_of m)) → SelectIs (state_of m) t target ns out (Err OutputTooShort) out
          no_room w = refuses OutputTooShort (rw (h, eq-eqb (length ns) (length (rowsets_now t (state_of m))) u, v, lt-ltb (length out) (length (selected t target ns (state_of m))) w))

          pub chooses : length (selected t target ns (state_of m)) ≤ length out → (n : ℕ) (out' : List ℕ) → n ≡ length (selected t target ns (state_of m)) → out' ≡ over (selected t target ns (state_of m)) out
              → SelectIs (state_of m) t target ns out (Ok n) out'
          chooses w n out' x y =
              let a : judged (select_rules (state_of m) t target ns (length out)) ≡ Ok tt =
              rw (h, eq-eqb (length ns) (length (rowsets_now t (state_of m))) u, v, le-ltb (length out) (length (selected t target ns (state_of m))) w) in
              record { answer = rw (a, x); rowsets = rw a y }
