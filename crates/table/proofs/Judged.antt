-- Create and drop: what each rule tells of the verdict, and the lines of a drop. Assumes nothing.
use mathlib.Core.Path.{◌≡◌, refl, sym, ap, ◌∙◌}
use mathlib.Core.Bool.{true, false}
use mathlib.Core.List.{List, [], ◌∷◌, ◌++◌, map, append_assoc}
use Prim.Native.Nat.{ℕ, ◌+◌, ◌≤◌, ◌<◌}
use native.Mathlib.Omega.{arith}
use lib.Dec.{leb, ltb}
use lib.ListN.{length}
use borrow.Author.Tests.{le-leb, lt-leb}
use Rattle.std.specs.Prelude.{Ok, Err}
use Rattle.lists.specs.Keyed.{keep}
use Rattle.ids.specs.Ids.{largest32, is_id32}
use Rattle.ids.specs.Limits.{most_tables, last_epoch, longest_manifest}
use Rattle.ids.specs.declared.refusal.Refusal.{Refusal}
use Rattle.ids.specs.declared.refusal.Refusal.TheVariants.{TablesFull, ManifestFull, IdsUsedUp, OutputTooShort}
use Rattle.ids.specs.Verdicts.{Rule, ◌⇒◌, judged, Verdict}
use Rattle.text.specs.Name.{is_name}
use Rattle.manifest.specs.Operations.{Operation, drop_table}
use Rattle.frames.specs.Frames.{texts_of}
use Rattle.frames.proofs.Texts.{frame-long, texts-append}
use Rattle.snapshot.specs.Tables.{name_taken}
use Rattle.version_state.specs.declared.VersionManagerInner.{VersionManagerInner}
use Rattle.version_state.specs.State.{state_of, pairs_at, vectors_at}
use Rattle.operations.specs.Judge.{is_live}
use Rattle.operations.proofs.Turns.{tables-count}
use Rattle.commit.specs.Commit.{append_of}
use Rattle.table.specs.Made.{of_table, delete_rowset_of, delete_vector_of}
use Rattle.table.specs.Create.{created_by, create_rules}
use Rattle.table.specs.Drop.{dropped_by, drop_rules}
use Rattle.table.specs.Says.{MadeIs}

pub made-no : {v : Verdict} {os : List Operation} {l : List ℕ} {k : Refusal} → v ≡ Err k → MadeIs v os (Err k) l
made-no h = record { answer = sym h; made = λ a. absurd (let z : ◌≡◌ {A = ℕ} 0 1 = cc (a, h) in omega arith) }

pub made-yes : {v : Verdict} {os : List Operation} {l : List ℕ} → v ≡ Ok tt → l ≡ texts_of os → MadeIs v os (Ok tt) l
made-yes h w = record { answer = sym h; made = λ a. w }

-- the append of lines of n bytes
append-size : (os : List Operation) (l : List ℕ) → l ≡ texts_of os → length (append_of os) ≡ length l + 6
append-size os l w = omega (arith, frame-long os, ap length w)

module _ (m : VersionManagerInner) where
  -- create: what is left to judge where the lines have n bytes
  abbrev pub create_left : ℕ → ℕ → List Rule
  create_left room n =
      (ltb longest_manifest (m.manifest + (n + 6)) ⇒ ManifestFull)
      ∷ (leb largest32 m.next.table.0 ⇒ IdsUsedUp)
      ∷ (ltb room (n + 6) ⇒ OutputTooShort)
      ∷ []

  -- drop: the same
  abbrev pub drop_left : ℕ → ℕ → List Rule
  drop_left room n =
      (ltb longest_manifest (m.manifest + (n + 6)) ⇒ ManifestFull)
      ∷ (ltb room (n + 6) ⇒ OutputTooShort)
      ∷ []

  module _ (shape : ℕ) (name : List ℕ) (room : ℕ) (named : is_name name ≡ true) (free : name_taken name (state_of m).tables ≡ false) (early : m.epoch < last_epoch) where
    pub create-full : most_tables ≤ m.tables.count → judged (create_rules (state_of m) shape name room) ≡ Err (TablesFull 0)
    create-full h = rw (named, free, lt-leb last_epoch m.epoch early, le-leb most_tables (length (state_of m).tables) (omega (arith, tables-count m.tables, h)))

    pub create-judged : m.tables.count < most_tables → (l : List ℕ) → l ≡ texts_of (created_by (state_of m) shape name)
        → judged (create_rules (state_of m) shape name room) ≡ judged (create_left room (length l))
    create-judged few l w =
        rw (named, free, lt-leb last_epoch m.epoch early, lt-leb most_tables (length (state_of m).tables) (omega (arith, tables-count m.tables, few)), append-size (created_by (state_of m) shape name) l w)
        refl

  pub drop-judged : (t room : ℕ) → is_id32 t ≡ true → is_live t (state_of m) ≡ true → m.epoch < last_epoch → (l : List ℕ) → l ≡ texts_of (dropped_by (state_of m) t)
      → judged (drop_rules (state_of m) t room) ≡ judged (drop_left room (length l))
  drop-judged t room id live early l w = rw (id, live, lt-leb last_epoch m.epoch early, append-size (dropped_by (state_of m) t) l w) refl

-- the `X` line, the `W` lines and the `D` lines, one after another
module _ (m : VersionManagerInner) (t : ℕ) where
  abbrev vector_lines : List Operation
  vector_lines = map delete_vector_of (keep (of_table t) (vectors_at m.epoch (state_of m)))

  abbrev pair_lines : List Operation
  pair_lines = map delete_rowset_of (keep (of_table t) (pairs_at m.epoch (state_of m)))

  pub drop-made : (a b c : List ℕ) → a ≡ texts_of (drop_table t ∷ []) → b ≡ a ++ texts_of vector_lines → c ≡ b ++ texts_of pair_lines → c ≡ texts_of (dropped_by (state_of m) t)
  drop-made a b c x y z =
      rw (z, y, x)
      (append_assoc (texts_of (drop_table t ∷ [])) (texts_of vector_lines) (texts_of pair_lines)
      ∙ ap (λ (l : List ℕ). texts_of (drop_table t ∷ []) ++ l) (sym (texts-append vector_lines pair_lines))
      ∙ sym (texts-append (drop_table t ∷ []) (vector_lines ++ pair_lines)))
