-- The next ids stay above every id that operations add, at a commit's epoch and at a replay's. Assumes nothing.
use mathlib.Core.Path.{◌≡◌, refl, sym, ◌∙◌}
use mathlib.Core.Bool.{true}
use mathlib.Core.List.{List, [], ◌∷◌, ◌++◌, append-nil, append_assoc}
use Prim.Native.Nat.{ℕ}
use native.Mathlib.Omega.{arith}
use borrow.Author.Tests.{ltb-true, lt-ltb}
use Rattle.std.specs.Prelude.{Ok}
use Rattle.lists.specs.Keyed.{all_of}
use Rattle.lists.proofs.Keyed.{All, all_map, all_append, all_of-all, all-all_of}
use Rattle.ids.specs.Verdicts.{judged}
use Rattle.manifest.specs.Operations.{Operation}
use Rattle.manifest.specs.Edits.{Edit, leaves, adds, deletes, rowset_in, vector_in, Edits, edits_of}
use Rattle.version_state.specs.State.{State}
use Rattle.version_state.specs.Sets.{next_of}
use Rattle.operations.specs.Effect.{applied, applied_all}
use Rattle.operations.specs.Judge.{op_rules}
use Rattle.operations.specs.Steps.{steps_of}
use Rattle.operations.proofs.Edits.{Adds, adds_map, Risen, rises, Passed, passed}
use Rattle.replay.specs.Replay.{reopened, settled}
use Rattle.recovery.specs.Holds.{followed}
use Rattle.plain_record.specs.Plain.{Id, table_id, rowset_id, vector_id, id_added, ids_by, ids_of}
use Rattle.plain_record.specs.Claim.{below_next}
use Rattle.plain_record.proofs.CommitSets.{steps_on}

abbrev pub Over : State → List Id → Type 0
Over s l = All (λ i. below_next s i ≡ true) l

-- no next id falls
abbrev pub Rise : State → State → Type 0
Rise s u = Risen (next_of s) (next_of u)

below-rise : (s u : State) → Rise s u → (i : Id) → below_next s i ≡ true → below_next u i ≡ true
below-rise s u r (table_id t) h = lt-ltb t u.next_table (omega (arith, ltb-true t s.next_table h, r.table))
below-rise s u r (rowset_id t) h = lt-ltb t u.next_rowset (omega (arith, ltb-true t s.next_rowset h, r.rowset))
below-rise s u r (vector_id t) h = lt-ltb t u.next_vector (omega (arith, ltb-true t s.next_vector h, r.vector))

pub over-rise : (s u : State) (l : List Id) → Rise s u → Over s l → Over u l
over-rise s u l r h = all_map l (below-rise s u r) h

pub next-rise : (s u : State) (l : List Id) → Rise s u → all_of (below_next s) l ≡ true → all_of (below_next u) l ≡ true
next-rise s u l r h = all-all_of (below_next u) l (over-rise s u l r (all_of-all (below_next s) l h))

-- the ids that an edit adds
over-added : {A : Type 0} (s : State) (f : A → Id) (d : Edit A) → Adds (λ x. below_next s (f x) ≡ true) d → Over s (id_added f d)
over-added s f leaves h = tt
over-added s f (adds x) h = (h, tt)
over-added s f (deletes k) h = tt

own-over : (s : State) (d : Edits) → Passed d (next_of s) → Over s (ids_by d)
own-over s d p =
    let below : Id → Type 0 = λ i. below_next s i ≡ true in
    let ts : List Id = id_added (λ t. table_id t.id) d.tables in
    let ps : List Id = id_added (λ k. rowset_id (rowset_in k)) d.pairs in
    let vs : List Id = id_added (λ k. vector_id (vector_in k)) d.vectors in
    all_append below ts (ps ++ vs) (over-added s _ d.tables (adds_map d.tables (λ t. lt-ltb t.id s.next_table) p.tables))
    (all_append below ps vs (over-added s _ d.pairs (adds_map d.pairs (λ k. lt-ltb (rowset_in k) s.next_rowset) p.pairs))
    (over-added s _ d.vectors (adds_map d.vectors (λ k. lt-ltb (vector_in k) s.next_vector) p.vectors)))

over-applied : (e : ℕ) (o : Operation) (s : State) (l : List Id) → Over s l → Over (applied e o s) (l ++ ids_by (edits_of o))
over-applied e o s l h =
    all_append (λ i. below_next (applied e o s) i ≡ true) l (ids_by (edits_of o)) (over-rise s (applied e o s) l (rises (edits_of o) (next_of s)) h) (own-over (applied e o s) (edits_of o) (passed (edits_of o) (next_of s)))

ids-on : (l : List Id) (o : Operation) (os : List Operation) → l ++ ids_of (o ∷ os) ≡ (l ++ ids_by (edits_of o)) ++ ids_of os
ids-on l o os = sym (append_assoc l (ids_by (edits_of o)) (ids_of os))

-- the ids so far are below the next ones, and with those to come they are z
record Gathers (z : List Id) (os : List Operation) (s : State) : Type 0 where
  ids : List Id
  over : Over s ids
  all : ids ++ ids_of os ≡ z

gathers-on : (z : List Id) (e i : ℕ) (o : Operation) (os : List Operation) (s : State) → Gathers z (o ∷ os) s → judged (op_rules i e o s) ≡ Ok tt → Gathers z os (applied e o s)
gathers-on z e i o os s k a =
    record { ids = k.ids ++ ids_by (edits_of o); over = over-applied e o s k.ids k.over; all = sym (ids-on k.ids o os) ∙ k.all }

gathers-done : (z : List Id) (s : State) → Gathers z [] s → all_of (below_next s) z ≡ true
gathers-done z s k =
    let q : k.ids ≡ z = sym (append-nil k.ids) ∙ k.all in
    rw (← q) (all-all_of (below_next s) k.ids k.over)

pub steps_next : (e : ℕ) (os : List Operation) (s t : State) (l : List Id) → all_of (below_next s) l ≡ true → steps_of 0 e os s ≡ Ok t → all_of (below_next t) (l ++ ids_of os) ≡ true
steps_next e os s t l h g =
    let z = l ++ ids_of os in
    let k = steps_on (λ i ps u. Gathers z ps u) e (λ i o ps u. gathers-on z e i o ps u) 0 os s t (record { ids = l; over = all_of-all (below_next s) l h; all = refl }) g in
    gathers-done z t k.1

replayed-next : (os : List Operation) (s : State) (l : List Id) → Over s l → Over (applied_all reopened os s) (l ++ ids_of os)
replayed-next [] s l h = rw append-nil h
replayed-next (o ∷ os) s l h = rw (ids-on l o os) (replayed-next os (applied reopened o s) (l ++ ids_by (edits_of o)) (over-applied reopened o s l h))

pub followed-next : (os : List Operation) (s : State) (l : List Id) → all_of (below_next s) l ≡ true → all_of (below_next (followed os s)) (l ++ ids_of os) ≡ true
followed-next os s l h =
    let u = applied_all reopened os s in
    all-all_of (below_next (settled u)) (l ++ ids_of os)
    (over-rise u (settled u) (l ++ ids_of os) (record { table = omega arith; rowset = omega arith; vector = omega arith }) (replayed-next os s l (all_of-all (below_next s) l h)))
