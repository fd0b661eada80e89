-- The vectors over taken rowsets, among those that an epoch shows. Assumes nothing.
use mathlib.Core.Path.{◌≡◌, refl, sym, ap, ◌∙◌}
use mathlib.Core.Bool.{Bool, cond}
use mathlib.Core.List.{List, [], ◌∷◌, map}
use Prim.Native.Nat.{ℕ, ◌+◌, ◌≤◌, ◌<◌}
use native.Mathlib.Omega.{arith}
use lib.Dec.{eqb}
use lib.ListN.{length, get_or, drop, length-map}
use denote.Param.Members.{Mut}
use denote.Ref.{Bor}
use Rattle.std.specs.List.{filter}
use Rattle.std.specs.Fn.{CalledAt}
use Rattle.std.specs.Iterator.{YieldsFirstBy}
use Rattle.std.specs.Iterator.Adapters.{filter_source, filter_callee, filter_steps}
use Rattle.std.specs.declared.iter.Filter.{Filter}
use Rattle.std.proofs.lemmas.Iterator.{YieldsList}
use Rattle.std.proofs.lemmas.Iterator.Consumers.{YieldsList-from_first, YieldsList-from_filter}
use Rattle.std.proofs.lemmas.List.Recursion.{same_from_clauses}
use Rattle.lists.specs.Keyed.{keep, any_of}
use Rattle.lists.proofs.Keyed.{keep-keep, keep-map, length-keep}
use Rattle.columns.proofs.Rows.{rows-length}
use Rattle.manifest.specs.Operations.{Operation}
use Rattle.snapshot.specs.Entries.{Entry, entry_at, by_ids, shown_by, of_table}
use Rattle.version_state.specs.declared.VersionManagerInner.{VersionManagerInner}
use Rattle.version_state.specs.State.{state_of, vectors_at}
use Rattle.table.specs.Made.{is_over, delete_vector_of}
use Rattle.compaction.proofs.Lines.{turn}

-- its rowset is taken
abbrev pub taken_of : List ℕ → Entry → Bool
taken_of taken x = any_of (eqb (get_or (by_ids x) 1 0)) taken

filter-keep : (p : Entry → Bool) (l : List Entry) → filter p l ≡ keep p l
filter-keep p l = same_from_clauses (filter p) (keep p) (λ x r. cond (p x) (x ∷ r) r) refl (λ _ _. refl) (λ _ _. refl) l

deleted-ids : (l : List Entry) → map (λ (x : Entry). delete_vector_of (by_ids x)) l ≡ map delete_vector_of (map by_ids l)
deleted-ids [] = refl
deleted-ids (x ∷ l) = ap (λ (r : List Operation). delete_vector_of (by_ids x) ∷ r) (deleted-ids l)

module _ (m : VersionManagerInner) (t : ℕ) (taken : List ℕ) where
  -- those of a table that an epoch shows
  abbrev pub shown_of : List Entry
  shown_of = keep (of_table t) (keep (shown_by m.epoch) (state_of m).vectors)

  abbrev pub over : List Entry
  over = filter (taken_of taken) shown_of

  pub over-ids : map by_ids over ≡ keep (is_over t taken) (vectors_at m.epoch (state_of m))
  over-ids =
      let l = keep (shown_by m.epoch) (state_of m).vectors in
      ap (map by_ids) (filter-keep (taken_of taken) (keep (of_table t) l) ∙ keep-keep (taken_of taken) (of_table t) l) ∙ sym (keep-map by_ids (is_over t taken) l)

  pub over-count : length over ≡ length (keep (is_over t taken) (vectors_at m.epoch (state_of m)))
  over-count = sym (length-map over by_ids) ∙ ap length over-ids

  pub few-shown : length shown_of ≤ m.vectors.count
  few-shown = omega (arith, length-keep (of_table t) (keep (shown_by m.epoch) (state_of m).vectors), length-keep (shown_by m.epoch) (state_of m).vectors, rows-length (entry_at (m.vectors.tables ∷ m.vectors.rowsets ∷ m.vectors.vectors ∷ []) m.vectors.added m.vectors.deleted) m.vectors.count)

  pub few-over : length (keep (is_over t taken) (vectors_at m.epoch (state_of m))) ≤ m.vectors.count
  few-over = omega (arith, length-keep (is_over t taken) (vectors_at m.epoch (state_of m)), length-map (keep (shown_by m.epoch) (state_of m).vectors) by_ids, length-keep (shown_by m.epoch) (state_of m).vectors, rows-length (entry_at (m.vectors.tables ∷ m.vectors.rowsets ∷ m.vectors.vectors ∷ []) m.vectors.added m.vectors.deleted) m.vectors.count)

  -- their lines
  abbrev pub lines_over : List Operation
  lines_over = map (λ (x : Entry). delete_vector_of (by_ids x)) over

  pub lines-count : length lines_over ≡ length over
  lines-count = length-map over (λ (x : Entry). delete_vector_of (by_ids x))

  pub over-lines : lines_over ≡ map delete_vector_of (keep (is_over t taken) (vectors_at m.epoch (state_of m)))
  over-lines = deleted-ids over ∙ ap (map delete_vector_of) over-ids

  pub line-turn : (i : ℕ) (x : Entry) → i < length over → x ≡ get_or over i x → drop i lines_over ≡ delete_vector_of (by_ids x) ∷ drop (i + 1) lines_over
  line-turn i x h e = turn (λ (y : Entry). delete_vector_of (by_ids y)) over i x h ∙ ap (λ (y : Entry). delete_vector_of (by_ids y) ∷ drop (i + 1) lines_over) (sym e)

  -- what a filter of the shown ones gives, whose closure tests whether the rowset is taken
  pub over-road : {S A F : Type 0} (v : A → Entry) (rest : S → List Entry) {f : F} {s : Filter S F} (g : Mut F (Bor A × Unit {0}) Bool) → rest (filter_source s) ≡ shown_of → filter_callee s ≡ f
      → ((x : A) (b : Bool) (q : F) → CalledAt g f x b q → (q ≡ f) × (b ≡ taken_of taken (v x))) → YieldsList (filter_steps (YieldsFirstBy v rest) g) v s over
  over-road v rest g e a k = YieldsList-from_filter g (taken_of taken) (YieldsList-from_first v rest shown_of e) a k
