-- A commit of operations that find what they ask for does not fail, and its snapshot shows what they leave. Assumes nothing.
use mathlib.Core.Path.{◌≡◌, refl, sym, ap, ◌∙◌}
use mathlib.Core.Bool.{Bool, false, not, ◌&&◌, ◌||◌}
use mathlib.Core.List.{List, [], ◌∷◌, ◌++◌, append-nil, append_assoc}
use Prim.Native.Nat.{ℕ}
use lib.ListN.{get_or}
use Rattle.lists.proofs.Tests.{or_across}
use Rattle.lists.specs.Order.{same}
use Rattle.lists.specs.Keyed.{has}
use Rattle.lists.proofs.Keyed.{has-put}
use Rattle.manifest.specs.Operations.{Operation, create_table, drop_table, add_rowset, delete_rowset, add_vector, delete_vector, next_ids}
use Rattle.manifest.specs.Edits.{Edit, leaves, adds, deletes, vector_in, edits_of}
use Rattle.plain_record.specs.Sets.{Sets, itself, apply, apply_all}
use Rattle.risinglight.specs.Maps.{ok, unwrap_or, contains, get}
use Rattle.risinglight.specs.Snapshot.{Snapshot, snapshot_add_rowset, snapshot_add_dv, has_rowset, has_dv}
use Rattle.risinglight.specs.VersionManager.{Changing, pooled, changing, change, changes}
use Rattle.risinglight.proofs.Maps.{has-without, instead}
use Rattle.risinglight.proofs.Snapshots.{added-rowset, deleted-rowset, added-dv, deleted-dv}
use Rattle.risinglight.proofs.Fitting.{FindsAt, FindsAll}

pub record Shows (s : Snapshot) (x : Sets) : Type 0 where
  pub pairs : (t r : ℕ) → has itself (t ∷ r ∷ []) x.pairs ≡ has_rowset t r s
  pub vectors : (t r v : ℕ) → has itself (t ∷ r ∷ v ∷ []) x.vectors ≡ has_dv t r v s

-- the pairs that operations delete, in order
abbrev pub deleted_by : Edit (List ℕ) → List (List ℕ)
deleted_by leaves = []
deleted_by (adds k) = []
deleted_by (deletes k) = k ∷ []

abbrev pub deleted_all : List Operation → List (List ℕ)
deleted_all [] = []
deleted_all (o ∷ os) = deleted_by (edits_of o).pairs ++ deleted_all os

-- whether an edit adds k, and whether it adds a vector of the table t with the id v
abbrev pub adds_it : Edit (List ℕ) → List ℕ → Bool
adds_it leaves k = false
adds_it (adds j) k = same j k
adds_it (deletes j) k = false

abbrev pub dv_key : List ℕ → List ℕ
dv_key k = get_or k 0 0 ∷ vector_in k ∷ []

abbrev pub adds_dv : Edit (List ℕ) → List ℕ → Bool
adds_dv leaves k = false
adds_dv (adds j) k = same (dv_key j) k
adds_dv (deletes j) k = false

abbrev pub adds_any : (Operation → List ℕ → Bool) → List Operation → List ℕ → Bool
adds_any f [] k = false
adds_any f (o ∷ os) k = f o k || adds_any f os k

abbrev pub of_pairs : Operation → List ℕ → Bool
of_pairs o k = adds_it (edits_of o).pairs k

abbrev pub of_vectors : Operation → List ℕ → Bool
of_vectors o k = adds_dv (edits_of o).vectors k

record One (o : Operation) (c : Changing) (x : Sets) : Type 0 where
  left : Changing
  runs : change o c ≡ ok left
  shows : Shows left.snapshot (apply o x)
  deletions : left.deletions ≡ c.deletions ++ deleted_by (edits_of o).pairs
  rowsets : (k : List ℕ) → has itself k left.rowsets ≡ of_pairs o k || has itself k c.rowsets
  dvs : (k : List ℕ) → has itself k left.dvs ≡ of_vectors o k || has itself k c.dvs

nothing-more : {A : Type 0} (l : List A) → l ≡ l ++ []
nothing-more l = sym (append-nil l)

one : (o : Operation) (c : Changing) (x : Sets) → Shows c.snapshot x → FindsAt o x → One o c x
one (create_table t h n) c x s f = record { left = c; runs = refl; shows = record { pairs = s.pairs; vectors = s.vectors }; deletions = nothing-more c.deletions; rowsets = λ k. refl; dvs = λ k. refl }
one (drop_table t) c x s f = record { left = c; runs = refl; shows = record { pairs = s.pairs; vectors = s.vectors }; deletions = nothing-more c.deletions; rowsets = λ k. refl; dvs = λ k. refl }
one (add_rowset u q) c x s f =
    record {
      left = changing (snapshot_add_rowset u q c.snapshot) (pooled (u ∷ q ∷ []) c.rowsets) c.dvs c.deletions;
      runs = refl;
      shows =
          record {
            pairs = λ t r. has-put itself (t ∷ r ∷ []) (u ∷ q ∷ []) x.pairs
                ∙ ap (λ (b : Bool). same (u ∷ q ∷ []) (t ∷ r ∷ []) || b) (s.pairs t r)
                ∙ sym (added-rowset t r u q c.snapshot);
            vectors = s.vectors;
          };
      deletions = nothing-more c.deletions;
      rowsets = λ k. instead itself k (u ∷ q ∷ []) c.rowsets;
      dvs = λ k. refl;
    }
one (delete_rowset u q) c x s f =
    let d = deleted-rowset u q c.snapshot (sym (s.pairs u q) ∙ f.pairs) in
    record {
      left = changing d.left c.rowsets c.dvs (c.deletions ++ ((u ∷ q ∷ []) ∷ []));
      runs = rw d.runs;
      shows =
          record {
            pairs = λ t r. has-without itself (t ∷ r ∷ []) (u ∷ q ∷ []) x.pairs
                ∙ ap (λ (b : Bool). not (same (u ∷ q ∷ []) (t ∷ r ∷ [])) && b) (s.pairs t r)
                ∙ sym (d.rowsets t r);
            vectors = λ t r v. s.vectors t r v ∙ ap (λ m. contains v (unwrap_or [] (get r (unwrap_or [] (get t m))))) (sym d.dvs);
          };
      deletions = refl;
      rowsets = λ k. refl;
      dvs = λ k. refl;
    }
one (add_vector u q w) c x s f =
    record {
      left = changing (snapshot_add_dv u q w c.snapshot) c.rowsets (pooled (u ∷ w ∷ []) c.dvs) c.deletions;
      runs = refl;
      shows =
          record {
            pairs = s.pairs;
            vectors = λ t r v. has-put itself (t ∷ r ∷ v ∷ []) (u ∷ q ∷ w ∷ []) x.vectors
                ∙ ap (λ (b : Bool). same (u ∷ q ∷ w ∷ []) (t ∷ r ∷ v ∷ []) || b) (s.vectors t r v)
                ∙ sym (added-dv t r v u q w c.snapshot);
          };
      deletions = nothing-more c.deletions;
      rowsets = λ k. refl;
      dvs = λ k. instead itself k (u ∷ w ∷ []) c.dvs;
    }
one (delete_vector u q w) c x s f =
    let d = deleted-dv u q w c.snapshot (sym (s.vectors u q w) ∙ f.vectors) in
    record {
      left = changing d.left c.rowsets c.dvs c.deletions;
      runs = rw d.runs;
      shows =
          record {
            pairs = λ t r. s.pairs t r ∙ ap (λ m. contains r (unwrap_or [] (get t m))) (sym d.rowsets);
            vectors = λ t r v. has-without itself (t ∷ r ∷ v ∷ []) (u ∷ q ∷ w ∷ []) x.vectors
                ∙ ap (λ (b : Bool). not (same (u ∷ q ∷ w ∷ []) (t ∷ r ∷ v ∷ [])) && b) (s.vectors t r v)
                ∙ sym (d.dvs t r v);
          };
      deletions = nothing-more c.deletions;
      rowsets = λ k. refl;
      dvs = λ k. refl;
    }
one (next_ids t r v) c x s f = record { left = c; runs = refl; shows = record { pairs = s.pairs; vectors = s.vectors }; deletions = nothing-more c.deletions; rowsets = λ k. refl; dvs = λ k. refl }

pub record Changed (os : List Operation) (c : Changing) (x : Sets) : Type 0 where
  pub left : Changing
  pub runs : changes os c ≡ ok left
  pub shows : Shows left.snapshot (apply_all os x)
  pub deletions : left.deletions ≡ c.deletions ++ deleted_all os
  pub rowsets : (k : List ℕ) → has itself k left.rowsets ≡ adds_any of_pairs os k || has itself k c.rowsets
  pub dvs : (k : List ℕ) → has itself k left.dvs ≡ adds_any of_vectors os k || has itself k c.dvs

pub changed : (os : List Operation) (c : Changing) (x : Sets) → Shows c.snapshot x → FindsAll os x → Changed os c x
changed [] c x s f = record { left = c; runs = refl; shows = s; deletions = nothing-more c.deletions; rowsets = λ k. refl; dvs = λ k. refl }
changed (o ∷ os) c x s f =
    let a = one o c x s f.0 in
    let b = changed os a.left (apply o x) a.shows f.1 in
    record {
      left = b.left;
      runs = rw a.runs b.runs;
      shows = b.shows;
      deletions = b.deletions ∙ ap (λ l. l ++ deleted_all os) a.deletions ∙ append_assoc c.deletions (deleted_by (edits_of o).pairs) (deleted_all os);
      rowsets = λ k. b.rowsets k ∙ ap (λ y. adds_any of_pairs os k || y) (a.rowsets k) ∙ or_across (of_pairs o k) (adds_any of_pairs os k) (has itself k c.rowsets);
      dvs = λ k. b.dvs k ∙ ap (λ y. adds_any of_vectors os k || y) (a.dvs k) ∙ or_across (of_vectors o k) (adds_any of_vectors os k) (has itself k c.dvs);
    }
