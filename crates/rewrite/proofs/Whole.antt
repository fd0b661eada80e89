-- The rewritten manifest in its parts: `B`, `N`, the lines of tables, pairs and vectors, `E`. Assumes nothing.
use mathlib.Core.Path.{◌≡◌, sym, ap, ◌∙◌}
use mathlib.Core.List.{List, [], ◌∷◌, ◌++◌, map, map-map, append_assoc}
use Prim.Native.Nat.{ℕ, ◌+◌, ◌*◌, ◌≤◌}
use native.Mathlib.Omega.{arith}
use lib.ListN.{length, length-append}
use Rattle.ids.specs.Limits.{most_tables, most_held}
use Rattle.text.specs.Class.{newline}
use Rattle.manifest.specs.Operations.{Operation, next_ids}
use Rattle.manifest.specs.Lines.{begin_letter, end_letter}
use Rattle.snapshot.specs.Entries.{shown}
use Rattle.snapshot.specs.Views.{tables_of, rowsets_of, vectors_of}
use Rattle.version_state.specs.declared.VersionManagerInner.{VersionManagerInner}
use Rattle.version_state.specs.State.{state_of}
use Rattle.version_state.specs.Sets.{unlocked, sets_of, next_of}
use Rattle.frames.specs.Frames.{texts_of}
use Rattle.frames.proofs.Texts.{frame_is, texts-append}
use Rattle.rewrite.specs.Rewritten.{create_of, add_of, add_vector_of, longest_next, longest_create, longest_add, longest_add_vector, longest_rewritten, rewrite_of, rewritten_of}

module _ (m : VersionManagerInner) where
  abbrev pub next_line : List Operation
  next_line = next_ids m.next.table.0 m.next.rowset.0 m.next.vector.0 ∷ []

  abbrev pub table_lines : List Operation
  table_lines = map create_of (tables_of m.tables)

  abbrev pub pair_lines : List Operation
  pair_lines = map add_of (shown m.epoch (rowsets_of m.rowsets))

  abbrev pub vector_lines : List Operation
  vector_lines = map add_vector_of (shown m.epoch (vectors_of m.vectors))

  abbrev operations : List Operation
  operations = rewrite_of (next_of (state_of m)) (sets_of (state_of m))

  whole-texts : texts_of operations ≡ texts_of next_line ++ ((texts_of table_lines ++ texts_of pair_lines) ++ texts_of vector_lines)
  whole-texts =
      let t : map create_of (map unlocked (tables_of m.tables)) ≡ table_lines = map-map create_of unlocked (tables_of m.tables) in
      let e : operations ≡ next_line ++ ((table_lines ++ pair_lines) ++ vector_lines) = ap (λ (l : List Operation). next_line ++ ((l ++ pair_lines) ++ vector_lines)) t in
      ap texts_of e
      ∙ texts-append next_line ((table_lines ++ pair_lines) ++ vector_lines)
      ∙ ap (λ (l : List ℕ). texts_of next_line ++ l) (texts-append (table_lines ++ pair_lines) vector_lines ∙ ap (λ (l : List ℕ). l ++ texts_of vector_lines) (texts-append table_lines pair_lines))

  pub whole-added : (t₁ t₂ t₃ t₄ t₅ t₆ : List ℕ) → t₁ ≡ begin_letter ∷ newline ∷ [] → t₂ ≡ t₁ ++ texts_of next_line → t₃ ≡ t₂ ++ texts_of table_lines → t₄ ≡ t₃ ++ texts_of pair_lines
      → t₅ ≡ t₄ ++ texts_of vector_lines → t₆ ≡ t₅ ++ (end_letter ∷ newline ∷ []) → t₆ ≡ rewritten_of (state_of m)
  whole-added t₁ t₂ t₃ t₄ t₅ t₆ e₁ e₂ e₃ e₄ e₅ e₆ =
      let e : List ℕ = end_letter ∷ newline ∷ [] in
      rw (e₆, e₅, e₄, e₃, e₂, e₁)
      (sym (frame_is operations ∙ ap (λ (l : List ℕ). (begin_letter ∷ newline ∷ l) ++ e) whole-texts ∙ simp append_assoc))

  pub whole-short : (t₁ t₂ t₃ t₄ t₅ t₆ : List ℕ) → t₁ ≡ begin_letter ∷ newline ∷ [] → t₂ ≡ t₁ ++ texts_of next_line → length (texts_of next_line) ≤ longest_next
      → length t₃ ≤ length t₂ + longest_create * most_tables → length t₄ ≤ length t₃ + longest_add * most_held → length t₅ ≤ length t₄ + longest_add_vector * most_held
      → t₆ ≡ t₅ ++ (end_letter ∷ newline ∷ []) → length t₆ ≤ longest_rewritten
  whole-short t₁ t₂ t₃ t₄ t₅ t₆ e₁ e₂ n l₃ l₄ l₅ e₆ =
      omega (arith, ap length e₁, ap length e₂ ∙ length-append t₁ (texts_of next_line), n, l₃, l₄, l₅, ap length e₆ ∙ length-append t₅ (end_letter ∷ newline ∷ []))
