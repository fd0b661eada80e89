-- The operations of a rewritten manifest make its next ids and sets anew. Assumes nothing.
use mathlib.Core.Path.{◌≡◌, refl, sym, ap, ap₂, subst, ◌∙◌}
use mathlib.Core.Bool.{true, false, not}
use mathlib.Core.List.{List, [], ◌∷◌, ◌++◌, map, append-nil, append_assoc}
use Prim.Native.Nat.{ℕ, ◌+◌, max}
use native.Mathlib.Omega.{arith}
use lib.Dec.{ltb}
use lib.ListN.{get_or}
use borrow.Author.Tests.{ltb-true, not-true}
use Rattle.lists.specs.Order.{less, same}
use Rattle.lists.specs.Keyed.{has, put}
use Rattle.lists.proofs.Tests.{by_cases, clash, both}
use Rattle.lists.proofs.Order.{less-same, same-sym}
use Rattle.lists.proofs.Keyed.{All, all_map, all_any, all_append, all-mapped, all_of-all, any_of-none, none-any_of, put_last, Ascending, ascend-to, all_both}
use Rattle.lists.proofs.Views.{map-append}
use Rattle.columns.specs.Rows.{plain}
use Rattle.manifest.specs.Operations.{Operation, next_ids}
use Rattle.snapshot.specs.Entries.{Entry, added_at, by_ids}
use Rattle.snapshot.specs.Tables.{TableEntry, by_table, name_taken}
use Rattle.version_state.specs.State.{State, start, with_tables, with_pairs, with_vectors, with_next, with_epoch}
use Rattle.ids.specs.Ids.{Next}
use Rattle.version_state.specs.Sets.{Sets, sets, unlocked}
use Rattle.operations.specs.Effect.{applied, applied_all}
use Rattle.rewrite.specs.Rewritten.{create_of, add_of, add_vector_of, rewrite_of}
use Rattle.replay.specs.Replay.{reopened, conflicts}
use Rattle.recovery.specs.Rewritable.{Rewritable, made_of, names_differ, ids_below}
use Rattle.recovery.proofs.Reading.{conflict_free}
use Rattle.recovery.proofs.SoundState.{Pairwise, Other, two, three}
use Rattle.recovery.proofs.SoundSets.{ids-two, ids-three}

-- operations that nowhere conflict lead from s to t
abbrev pub Leads : List Operation → State → State → Type 0
Leads os s t = (conflict_free os s ≡ true) × (applied_all reopened os s ≡ t)

leads-append : (a b : List Operation) (s t u : State) → Leads a s t → Leads b t u → Leads (a ++ b) s u
leads-append [] b s t u p q = subst (λ (x : State). Leads b x u) (sym p.1) q
leads-append (o ∷ a) b s t u p q =
    by_cases (conflicts o s)
    (λ e. clash p.0 (rw e))
    (λ e. let r = leads-append a b (applied reopened o s) t u (rw e at p.0, p.1) q in (rw e r.0, r.1))

-- a list made entry by entry: `at` is the state with the entries so far
module _ {A : Type 0} (f : A → Operation) (at : List A → State) (R : A → A → Type 0) (Q : A → Type 0) (step : (done : List A) (x : A) → All (λ y. R y x) done → Q x → (conflicts (f x) (at done) ≡ false) × (applied reopened (f x) (at done) ≡ at (done ++ (x ∷ [])))) where
  leads-on : (l done : List A) → All (λ x. All (λ y. R y x) done) l → Pairwise R l → All Q l → Leads (map f l) (at done) (at (done ++ l))
  leads-on [] done a p q = (refl, ap at (sym (append-nil done)))
  leads-on (x ∷ l) done a p q =
      let e = step done x a.0 q.0 in
      let b : All (λ z. All (λ y. R y z) (done ++ (x ∷ []))) l = all_both l (λ z h r. all_append (λ y. R y z) done (x ∷ []) h (r, tt)) a.1 p.0 in
      let r = leads-on l (done ++ (x ∷ [])) b p.1 q.1 in
      let g : at ((done ++ (x ∷ [])) ++ l) ≡ at (done ++ (x ∷ l)) = ap at (append_assoc done (x ∷ []) l) in
      (rw (e.0, e.1) r.0, ap (applied_all reopened (map f l)) e.1 ∙ r.1 ∙ g)

  leads-all : (l : List A) → Pairwise R l → All Q l → Leads (map f l) (at []) (at l)
  leads-all l p q = leads-on l [] (all_any l (λ x. tt)) p q

ascending-pairs : {A : Type 0} (key : A → List ℕ) (l : List A) → Ascending key l → Pairwise (λ x y. less (key x) (key y) ≡ true) l
ascending-pairs key [] h = tt
ascending-pairs key (x ∷ l) h = (h.0, ascending-pairs key l h.1)

pairwise-both : {A : Type 0} (R S : A → A → Type 0) (l : List A) → Pairwise R l → Pairwise S l → Pairwise (λ x y. R x y × S x y) l
pairwise-both R S [] p q = tt
pairwise-both R S (x ∷ l) p q = (all_both l (λ y a b. (a, b)) p.0 q.0, pairwise-both R S l p.1 q.1)

names-other : (l : List TableEntry) → names_differ l ≡ true → Pairwise Other l
names-other [] h = tt
names-other (x ∷ l) h =
    let d = both (not (name_taken x.name l)) (names_differ l) h in
    (all_map l (λ y t. same-sym x.name y.name ∙ t) (any_of-none (λ y. same y.name x.name) l (not-true _ d.0)), names-other l d.1)

-- an earlier table, in order and of another name
abbrev Before : TableEntry → TableEntry → Type 0
Before y x = (less (by_table y) (by_table x) ≡ true) × Other y x

-- an entry after the others, j being its ids
put-added : (done : List (List ℕ)) (k j : List ℕ) → k ≡ j → All (λ i. less i k ≡ true) done
    → put by_ids (added_at reopened j) (map (added_at reopened) done) ≡ map (added_at reopened) (done ++ (k ∷ []))
put-added done k j e a =
    ap (λ (i : List ℕ). put by_ids (added_at reopened i) (map (added_at reopened) done)) (sym e)
    ∙ put_last by_ids (added_at reopened k) (map (added_at reopened) done) (all-mapped (λ y. less (by_ids y) k ≡ true) (added_at reopened) done a)
    ∙ sym (map-append (added_at reopened) done (k ∷ []))

module _ (n : Next) where
  abbrev built : List TableEntry → List (List ℕ) → List (List ℕ) → State
  built ts ps vs = made_of n (sets ts ps vs)

  table_step : (done : List TableEntry) (x : TableEntry) → All (λ y. Before y x) done → ltb x.table n.table ≡ true
      → (conflicts (create_of x) (built done [] []) ≡ false) × (applied reopened (create_of x) (built done [] []) ≡ built (done ++ (x ∷ [])) [] [])
  table_step done x a q =
      let below = ltb-true x.table n.table q in
      let ts = map unlocked done in
      let i : has by_table (by_table x) ts ≡ false = none-any_of _ ts (all-mapped (λ y. same (by_table y) (by_table x) ≡ false) unlocked done (all_map done (λ y h. less-same (by_table y) (by_table x) h.0) a)) in
      let o : name_taken x.name ts ≡ false = none-any_of _ ts (all-mapped (λ y. same y.name x.name ≡ false) unlocked done (all_map done (λ y h. h.1) a)) in
      let e : put by_table (unlocked x) ts ≡ map unlocked (done ++ (x ∷ [])) =
      put_last by_table (unlocked x) ts (all-mapped (λ y. less (by_table y) (by_table x) ≡ true) unlocked done (all_map done (λ y h. h.0) a)) ∙ sym (map-append unlocked done (x ∷ [])) in
      let m : max n.table (x.table + 1) ≡ n.table = omega arith in
      (rw (i, o), ap₂ (λ (l : List TableEntry) (k : ℕ). with_next (with_tables (built [] [] []) l) k n.rowset n.vector) e m)

  pair_step : (ts : List TableEntry) (done : List (List ℕ)) (k : List ℕ) → All (λ j. less j k ≡ true) done → ids_below (n.table ∷ n.rowset ∷ []) k ≡ true
      → (conflicts (add_of k) (built ts done []) ≡ false) × (applied reopened (add_of k) (built ts done []) ≡ built ts (done ++ (k ∷ [])) [])
  pair_step ts done k a q =
      let i = ids-two n.table n.rowset k q in
      let below = i.2 in
      let m : max n.rowset (get_or k 1 0 + 1) ≡ n.rowset = omega arith in
      (refl, ap₂ (λ (l : List Entry) (r : ℕ). with_next (with_pairs (built ts [] []) l) n.table r n.vector) (put-added done k (two k) i.0 a) m)

  vector-step : (ts : List TableEntry) (ps done : List (List ℕ)) (k : List ℕ) → All (λ j. less j k ≡ true) done → ids_below (n.table ∷ n.rowset ∷ n.vector ∷ []) k ≡ true
      → (conflicts (add_vector_of k) (built ts ps done) ≡ false) × (applied reopened (add_vector_of k) (built ts ps done) ≡ built ts ps (done ++ (k ∷ [])))
  vector-step ts ps done k a q =
      let i = ids-three n.table n.rowset n.vector k q in
      let below = i.3 in
      let m : max n.vector (get_or k 2 0 + 1) ≡ n.vector = omega arith in
      (refl, ap₂ (λ (l : List Entry) (v : ℕ). with_next (with_vectors (built ts ps []) l) n.table n.rowset v) (put-added done k (three k) i.0 a) m)

  next-step : Leads (next_ids n.table n.rowset n.vector ∷ []) (with_epoch start reopened 0) (built [] [] [])
  next-step =
      let t : max 0 n.table ≡ n.table = omega arith in
      let r : max 0 n.rowset ≡ n.rowset = omega arith in
      let v : max 0 n.vector ≡ n.vector = omega arith in
      (refl, rw (t, r, v))

module _ (n : Next) (z : Sets) (r : Rewritable n z) where
  table-leads : Leads (map create_of z.tables) (built n [] [] []) (built n z.tables [] [])
  table-leads =
      leads-all create_of (λ l. built n l [] []) Before (λ x. ltb x.table n.table ≡ true) (table_step n) z.tables
      (pairwise-both (λ x y. less (by_table x) (by_table y) ≡ true) Other z.tables (ascending-pairs by_table z.tables (ascend-to by_table z.tables r.tables)) (names-other z.tables r.names))
      (all_of-all _ z.tables r.table_ids)

  pair-leads : Leads (map add_of z.pairs) (built n z.tables [] []) (built n z.tables z.pairs [])
  pair-leads =
      leads-all add_of (λ l. built n z.tables l []) (λ j k. less j k ≡ true) (λ k. ids_below (n.table ∷ n.rowset ∷ []) k ≡ true) (pair_step n z.tables) z.pairs
      (ascending-pairs plain z.pairs (ascend-to plain z.pairs r.pairs)) (all_of-all _ z.pairs r.pair_ids)

  vector-leads : Leads (map add_vector_of z.vectors) (built n z.tables z.pairs []) (made_of n z)
  vector-leads =
      leads-all add_vector_of (λ l. built n z.tables z.pairs l) (λ j k. less j k ≡ true) (λ k. ids_below (n.table ∷ n.rowset ∷ n.vector ∷ []) k ≡ true) (vector-step n z.tables z.pairs) z.vectors
      (ascending-pairs plain z.vectors (ascend-to plain z.vectors r.vectors)) (all_of-all _ z.vectors r.vector_ids)

  pub rewrite-leads : Leads (rewrite_of n z) (with_epoch start reopened 0) (made_of n z)
  rewrite-leads =
      let ts = map create_of z.tables in
      let ps = map add_of z.pairs in
      let vs = map add_vector_of z.vectors in
      let a = leads-append ts ps (built n [] [] []) (built n z.tables [] []) (built n z.tables z.pairs []) table-leads pair-leads in
      let b = leads-append (ts ++ ps) vs (built n [] [] []) (built n z.tables z.pairs []) (made_of n z) a vector-leads in
      leads-append (next_ids n.table n.rowset n.vector ∷ []) ((ts ++ ps) ++ vs) (with_epoch start reopened 0) (built n [] [] []) (made_of n z) (next-step n) b
