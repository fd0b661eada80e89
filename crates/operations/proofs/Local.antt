-- An operation's verdict rests on the entries of its table. Assumes nothing.
use mathlib.Core.Path.{◌≡◌, refl, sym, ap, ◌∙◌}
use mathlib.Core.Bool.{Bool, false, and_comm}
use mathlib.Core.List.{List, [], ◌∷◌}
use Prim.Native.Nat.{ℕ}
use lib.Dec.{eqb}
use lib.ListN.{get_or}
use Rattle.lists.specs.Order.{same}
use Rattle.lists.specs.Keyed.{keep, has}
use Rattle.lists.proofs.Tests.{by_cases}
use Rattle.lists.proofs.Keyed.{all_any, keep-keep, keep_same}
use Rattle.manifest.specs.Operations.{create_table, drop_table, add_rowset, delete_rowset, add_vector, delete_vector, next_ids}
use Rattle.snapshot.specs.Entries.{Entry, by_ids, shown_by, of_table}
use Rattle.operations.specs.Judge.{is_shown}
use Rattle.operations.specs.Laws.{JudgedAlike}

apart : (t : ℕ) (k j : List ℕ) → eqb (get_or j 0 0) t ≡ false → same j (t ∷ k) ≡ false
apart t k [] h = refl
apart t k (y ∷ j) h = rw h

-- ids that begin with t are looked up among the entries of t
has_of : (t : ℕ) (k : List ℕ) (l : List Entry) → has by_ids (t ∷ k) l ≡ has by_ids (t ∷ k) (keep (of_table t) l)
has_of t k [] = refl
has_of t k (x ∷ l) =
    by_cases (of_table t x)
    (λ e. rw (e, ← has_of t k l))
    (λ e. rw (e, apart t k x.ids e) (has_of t k l))

keep-swap : (p q : Entry → Bool) (l : List Entry) → keep p (keep q l) ≡ keep q (keep p l)
keep-swap p q l = keep-keep p q l ∙ keep_same _ _ l (all_any l (λ x. and_comm (q x) (p x))) ∙ sym (keep-keep q p l)

shown_of : (e t : ℕ) (k : List ℕ) (l m : List Entry) → keep (of_table t) l ≡ keep (of_table t) m → is_shown e (t ∷ k) l ≡ is_shown e (t ∷ k) m
shown_of e t k l m h = part l ∙ ap (λ (n : List Entry). has by_ids (t ∷ k) (keep (shown_by e) n)) h ∙ sym (part m)
  where
    part : (l : List Entry) → is_shown e (t ∷ k) l ≡ has by_ids (t ∷ k) (keep (shown_by e) (keep (of_table t) l))
    part l = has_of t k (keep (shown_by e) l) ∙ ap (has by_ids (t ∷ k)) (keep-swap (of_table t) (shown_by e) l)

held_of : (t : ℕ) (k : List ℕ) (l m : List Entry) → keep (of_table t) l ≡ keep (of_table t) m → has by_ids (t ∷ k) l ≡ has by_ids (t ∷ k) m
held_of t k l m h = has_of t k l ∙ ap (has by_ids (t ∷ k)) h ∙ sym (has_of t k m)

pub judged-alike : JudgedAlike
judged-alike i e (create_table t h n) s u a = rw (a.next_table, a.names n, a.table_count)
judged-alike i e (drop_table t) s u a = rw a.live
judged-alike i e (add_rowset t r) s u a = rw (a.live, a.next_rowset, held_of t (r ∷ []) s.pairs u.pairs a.pairs, a.pair_count)
judged-alike i e (delete_rowset t r) s u a = rw (shown_of e t (r ∷ []) s.pairs u.pairs a.pairs)
judged-alike i e (add_vector t r v) s u a =
    rw (shown_of e t (r ∷ []) s.pairs u.pairs a.pairs, a.next_vector, a.held v, a.vector_count)
judged-alike i e (delete_vector t r v) s u a = rw (shown_of e t (r ∷ v ∷ []) s.vectors u.vectors a.vectors)
judged-alike i e (next_ids t r v) s u a = refl
