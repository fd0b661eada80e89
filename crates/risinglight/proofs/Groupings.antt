-- The Rust's grouping of a transaction's deletes beside the port's. Assumes nothing.
use mathlib.Core.Path.{◌≡◌, refl, sym, ap, subst, ◌∙◌}
use mathlib.Core.Bool.{true, false, not, ◌||◌}
use mathlib.Core.List.{List, [], ◌∷◌, ◌++◌, map, append-nil, append_assoc}
use mathlib.Core.Option.{Option, some}
use Prim.Native.Nat.{ℕ, ◌+◌, ◌≤◌}
use native.Mathlib.Omega.{arith}
use lib.Dec.{eqb}
use lib.ListN.{length, length-map}
use borrow.Author.Tests.{eq-eqb, ne_eqb, eqb-true, eqb-false, ltb-false}
use Rattle.std.specs.Prelude.{Ok}
use Rattle.lists.specs.Keyed.{placed, arranged, ascending}
use Rattle.lists.proofs.Tests.{by_cases, clash}
use Rattle.lists.proofs.Keyed.{All, all_map, all_any, any_of-none, any_of-map, keep-map, ascend-to, ascending-sorted, put-new, length-arranged}
use Rattle.vacuum.proofs.Arranged.{arranged-map, all-arranged}
use Rattle.delete_vector.specs.Records.{records_of}
use Rattle.delete_vector.specs.Memory.{row_key, in_memory}
use Rattle.delete_vector.proofs.InMemory.{memory-same-set}
use Rattle.delete_vector.proofs.Together.{laws-hold}
use Rattle.transaction.specs.declared.Handles.{Handles}
use Rattle.transaction.specs.Groups.{Handle, handles_of, rows_of, rowsets_of, Vector, vector_of, vectors_of}
use Rattle.transaction.specs.Says.{used_up, group_rules}
use Rattle.ids.specs.Ids.{largest64}
use Rattle.ids.specs.declared.refusal.Refusal.TheVariants.{BadManager}
use Rattle.ids.specs.Verdicts.{◌⇒◌}
use Rattle.ids.proofs.Verdicts.{none-judged}
use Rattle.version_manager.specs.declared.VersionManager.{VersionManager}
use Rattle.version_manager.specs.Managers.{held_by, bad_manager}
use Rattle.version_manager.specs.Group.{grouped_by, group_verdict}
use Rattle.risinglight.specs.Maps.{unwrap_or, contains, with_number, without_number, Binding, binding, get, insert, keys}
use Rattle.risinglight.specs.Numbers.{wrapping}
use Rattle.risinglight.specs.Transaction.{pushed, split_on, split, DeleteVector, dvs}
use Rattle.risinglight.specs.DeleteVector as vector
use Rattle.risinglight.specs.Groupings.{by_key, Walks, grouping_order, vector_in, by_rowset, following, GroupingLaws}
use Rattle.risinglight.proofs.Maps.{get-insert, contains-with, contains-without}
use Rattle.risinglight.proofs.DeleteVectorRows.{new-memory}
use Rattle.risinglight.proofs.Selections.{is_in-contains, arranged-sorted}

-- The map.

rows_split : (r : ℕ) (hs : List Handle) (m : List (Binding (List ℕ))) → unwrap_or [] (get r (split_on hs m)) ≡ unwrap_or [] (get r m) ++ rows_of r hs
rows_split r [] m = sym (append-nil (unwrap_or [] (get r m)))
rows_split r (h ∷ hs) m =
    rows_split r hs (pushed h.rowset h.row m)
    ∙ by_cases (eqb h.rowset r)
    (λ e.
    let q : h.rowset ≡ r = eqb-true h.rowset r e in
    let a : get r (pushed h.rowset h.row m) ≡ some (unwrap_or [] (get r m) ++ (h.row ∷ [])) =
    get-insert r h.rowset (unwrap_or [] (get h.rowset m) ++ (h.row ∷ [])) m ∙ rw (e, q) in
    ap (λ (o : Option (List ℕ)). unwrap_or [] o ++ rows_of r hs) a ∙ rw e (append_assoc (unwrap_or [] (get r m)) (h.row ∷ []) (rows_of r hs)))
    (λ e.
    let a : get r (pushed h.rowset h.row m) ≡ get r m = get-insert r h.rowset (unwrap_or [] (get h.rowset m) ++ (h.row ∷ [])) m ∙ rw e in
    ap (λ (o : Option (List ℕ)). unwrap_or [] o ++ rows_of r hs) a ∙ rw e)

keys-insert : (k : ℕ) (v : List ℕ) (m : List (Binding (List ℕ))) → keys (insert k v m) ≡ with_number k (keys m)
keys-insert k v m = ap (λ (l : List ℕ). k ∷ l) (sym (keep-map (λ (b : Binding (List ℕ)). b.key) (λ y. not (eqb y k)) m))

named-split : (r : ℕ) (hs : List Handle) (m : List (Binding (List ℕ)))
    → contains r (keys (split_on hs m)) ≡ contains r (keys m) || contains r (map (λ (h : Handle). h.rowset) hs)
named-split r [] m = by_cases (contains r (keys m)) (λ e. rw e) (λ e. rw e)
named-split r (h ∷ hs) m =
    let v = unwrap_or [] (get h.rowset m) ++ (h.row ∷ []) in
    let q : contains r (keys (pushed h.rowset h.row m)) ≡ eqb h.rowset r || contains r (keys m) = ap (contains r) (keys-insert h.rowset v m) ∙ contains-with r h.rowset (keys m) in
    named-split r hs (pushed h.rowset h.row m)
    ∙ by_cases (eqb h.rowset r)
    (λ e. rw (q, e) (by_cases (contains r (keys m)) (λ f. rw f) (λ f. rw f)))
    (λ e. rw (q, e))

-- no number twice
abbrev Distinct : List ℕ → Type 0
Distinct [] = Unit {0}
Distinct (x ∷ l) = (contains x l ≡ false) × Distinct l

distinct_without : (k : ℕ) (l : List ℕ) → Distinct l → Distinct (without_number k l)
distinct_without k [] d = tt
distinct_without k (x ∷ l) d =
    by_cases (eqb x k)
    (λ e. rw e (distinct_without k l d.1))
    (λ e. rw e (contains-without x k l ∙ rw d.0 (by_cases (eqb k x) (λ f. rw f) (λ f. rw f)), distinct_without k l d.1))

distinct-with : (k : ℕ) (l : List ℕ) → Distinct l → Distinct (with_number k l)
distinct-with k l d = (contains-without k k l ∙ rw (eq-eqb k k refl), distinct_without k l d)

distinct-split : (hs : List Handle) (m : List (Binding (List ℕ))) → Distinct (keys m) → Distinct (keys (split_on hs m))
distinct-split [] m d = d
distinct-split (h ∷ hs) m d =
    let v = unwrap_or [] (get h.rowset m) ++ (h.row ∷ []) in
    distinct-split hs (pushed h.rowset h.row m) (subst Distinct (sym (keys-insert h.rowset v m)) (distinct-with h.rowset (keys m) d))

-- numbers of which none is twice, sorted
arranged-distinct : (l : List ℕ) → Distinct l → arranged row_key l ≡ in_memory l
arranged-distinct [] d = refl
arranged-distinct (x ∷ l) d =
    ap (placed row_key x) (arranged-distinct l d.1)
    ∙ sym (put-new row_key x (in_memory l) (memory-same-set l x ∙ is_in-contains l x ∙ d.0))

rowsets-split : (hs : List Handle) → arranged row_key (keys (split hs)) ≡ rowsets_of hs
rowsets-split hs =
    arranged-distinct (keys (split hs)) (distinct-split hs [] tt)
    ∙ laws-hold.one_form (keys (split hs)) (map (λ (h : Handle). h.rowset) hs)
    (λ r. is_in-contains (keys (split hs)) r ∙ named-split r hs [] ∙ sym (is_in-contains (map (λ (h : Handle). h.rowset) hs) r))

-- each binding is found by its key
all_found : (m : List (Binding (List ℕ))) → Distinct (keys m) → All (λ b. get b.key m ≡ some b.value) m
all_found [] d = tt
all_found (c ∷ m) d =
    (rw (eq-eqb c.key c.key refl), later m (any_of-none (λ (b : Binding (List ℕ)). eqb b.key c.key) m (sym (any_of-map (λ (b : Binding (List ℕ)). b.key) (λ y. eqb y c.key) m) ∙ d.0)) (all_found m d.1))
  where
    later : (l : List (Binding (List ℕ))) → All (λ b. eqb b.key c.key ≡ false) l → All (λ b. get b.key m ≡ some b.value) l → All (λ b. get b.key (c ∷ m) ≡ some b.value) l
    later [] p q = tt
    later (b ∷ l) p q =
        let n = eqb-false b.key c.key p.0 in
        (rw (ne_eqb c.key b.key (λ e. n (sym e))) q.0, later l p.1 q.1)

values-split : (hs : List Handle) → All (λ b. b.value ≡ rows_of b.key hs) (split hs)
values-split hs =
    all_map (split hs) (λ b e. sym (ap (unwrap_or []) e) ∙ rows_split b.key hs []) (all_found (split hs) (distinct-split hs [] tt))

-- The vectors.

abbrev made : Binding (List ℕ) → Vector
made b = record { rowset = b.key; file = records_of b.value; memory = vector.new b.value }

dvs-made : (v : ℕ) (m : List (Binding (List ℕ))) → map vector_in (dvs v m) ≡ map made m
dvs-made v [] = refl
dvs-made v (b ∷ m) = ap (λ (l : List Vector). made b ∷ l) (dvs-made (wrapping (v + 1)) m)

made-rows : (hs : List Handle) (b : Binding (List ℕ)) → b.value ≡ rows_of b.key hs → made b ≡ vector_of hs b.key
made-rows hs b e =
    ap (λ (l : List ℕ). made (binding b.key l)) e
    ∙ ap (λ (l : List ℕ). record { rowset = b.key; file = records_of (rows_of b.key hs); memory = l }) (new-memory (rows_of b.key hs))

made_all : (hs : List Handle) (l : List (Binding (List ℕ))) → All (λ b. b.value ≡ rows_of b.key hs) l → map made l ≡ map (vector_of hs) (keys l)
made_all hs [] h = refl
made_all hs (b ∷ l) h = cc (made-rows hs b h.0, made_all hs l h.1)

made-split : (hs : List Handle) → map made (arranged by_key (split hs)) ≡ vectors_of hs
made-split hs =
    made_all hs (arranged by_key (split hs)) (all-arranged by_key (λ b. b.value ≡ rows_of b.key hs) (split hs) (values-split hs))
    ∙ ap (map (vector_of hs))
    (arranged-map (λ (b : Binding (List ℕ)). b.key) by_key row_key (λ b. Unit {0}) (λ x y p q. refl) (split hs) (all_any (split hs) (λ b. tt)) ∙ rowsets-split hs)

dv-ids : (v : ℕ) (m : List (Binding (List ℕ))) → v + length m ≤ largest64 → map (λ (x : DeleteVector). x.dv_id) (dvs v m) ≡ following v (length m)
dv-ids v [] h = refl
dv-ids v (b ∷ m) h =
    let q : wrapping (v + 1) ≡ v + 1 = omega arith in
    rw q (ap (λ (l : List ℕ). v ∷ l) (dv-ids (v + 1) m (omega arith)))

-- Walked in some order.
module _ (hs : List Handle) (m : List (Binding (List ℕ))) (next : ℕ) (w : Walks hs m) where
  made-walked : map made (arranged by_key m) ≡ vectors_of hs
  made-walked = ap (map made) w ∙ made-split hs

  same-vectors : arranged by_rowset (map vector_in (dvs next m)) ≡ vectors_of hs
  same-vectors =
      ap (arranged by_rowset) (dvs-made next m)
      ∙ sym (arranged-map made by_key by_rowset (λ b. Unit {0}) (λ x y p q. refl) m (all_any m (λ b. tt)))
      ∙ made-walked

  same_count : length m ≡ length (vectors_of hs)
  same_count = sym (length-map (arranged by_key m) made ∙ length-arranged by_key m) ∙ ap length made-walked

  same-ids : used_up next (vectors_of hs) ≡ false → map (λ (v : DeleteVector). v.dv_id) (dvs next m) ≡ following next (length (vectors_of hs))
  same-ids h =
      let q = ltb-false largest64 (next + length (vectors_of hs)) h in
      dv-ids next m (omega (arith, same_count)) ∙ ap (following next) same_count

  same-upwards : grouping_order m ≡ false → map vector_in (dvs next m) ≡ vectors_of hs
  same-upwards h =
      let up : ascending by_key m ≡ true = by_cases (ascending by_key m) (λ e. e) (λ e. clash (ap not e) h) in
      dvs-made next m
      ∙ ap (map made) (sym (arranged-sorted by_key m (ascending-sorted by_key m (ascend-to by_key m up))))
      ∙ made-walked

accepted-ids : (m : VersionManager) (h : Handles) (rs ls cs fs ms : List ℕ) (b : List (Binding (List ℕ))) → group_verdict m h rs ls cs fs ms ≡ Ok tt → Walks (handles_of h) b
    → map (λ (v : DeleteVector). v.dv_id) (dvs (held_by m).next_vector b) ≡ following (held_by m).next_vector (length (grouped_by h))
accepted-ids m h rs ls cs fs ms b a w =
    let next = (held_by m).next_vector in
    let rules = (bad_manager m ⇒ BadManager) ∷ group_rules (handles_of h) h.count next (length rs) (length ls) (length cs) (length fs) (length ms) in
    same-ids (handles_of h) b next w (none-judged rules a).1.1.1.0

pub groupings : GroupingLaws
groupings =
    record {
      rows = λ hs r. rows_split r hs [];
      rowsets = rowsets-split;
      vectors = same-vectors;
      ids = same-ids;
      accepted = accepted-ids;
      upwards = same-upwards;
      order = record { walks = refl; apart = refl; ids = refl; rust = refl; port = refl };
    }
