-- What the operations of an accepted commit do to the sets that its epoch shows is what they do to the record's. Assumes nothing.
use mathlib.Core.Path.{◌≡◌, refl, sym, ap, subst, ◌∙◌}
use mathlib.Core.List.{List, [], ◌∷◌, map}
use Prim.Native.Nat.{ℕ, ◌+◌, ◌≤◌}
use Rattle.std.specs.Prelude.{Result, Ok, Err}
use Rattle.ids.specs.declared.refusal.Refusal.{Refusal}
use Rattle.ids.specs.Verdicts.{judged}
use Rattle.ids.specs.Results.{and_then}
use Rattle.manifest.specs.Operations.{Operation}
use Rattle.manifest.specs.Edits.{Edit, leaves, adds, deletes, Table, edits_of}
use Rattle.snapshot.specs.Tables.{TableEntry, by_table}
use Rattle.version_state.specs.State.{State, pairs_at, vectors_at}
use Rattle.version_state.specs.Sets as shows
use Rattle.version_state.proofs.Facts.{Ordered}
use Rattle.operations.specs.Effect.{edited, as_entry, applied}
use Rattle.operations.specs.Judge.{op_rules}
use Rattle.operations.specs.Steps.{step_of, steps_of}
use Rattle.operations.proofs.Keeps.{ordered-applied}
use Rattle.commit.proofs.Stepwise.{halt, step_given}
use Rattle.replay.proofs.Maps.{map-put, map-without}
use Rattle.recovery.proofs.Effects as effects
use Rattle.plain_record.specs.Sets.{Sets, sets, by_id, itself, edit, apply, apply_all}
use Rattle.plain_record.proofs.Invariant.{plain_table}

-- what holds of the operations still to come and of the state they find, step by step to the last
pub steps_on : (P : ℕ → List Operation → State → Type 0) (e : ℕ)
    → ((i : ℕ) (o : Operation) (os : List Operation) (s : State) → P i (o ∷ os) s → judged (op_rules i e o s) ≡ Ok tt → P (i + 1) os (applied e o s))
    → (i : ℕ) (os : List Operation) (s t : State) → P i os s → steps_of i e os s ≡ Ok t → (j : ℕ) × P j [] t
steps_on P e k i [] s t p h =
    let q : s ≡ t = cc in
    (i, rw (← q) p)
steps_on P e k i (o ∷ os) s t p h = go (step_of i e o s) refl h (λ u q. steps_on P e k (i + 1) os u t q)
  where
    go : (x : Result State Refusal) → step_of i e o s ≡ x → and_then x (λ u. steps_of (i + 1) e os u) ≡ Ok t
        → ((u : State) → P (i + 1) os u → steps_of (i + 1) e os u ≡ Ok t → (j : ℕ) × P j [] t) → (j : ℕ) × P j [] t
    go (Ok u) a h ih =
        let w = step_given i e o s u a in
        ih u (subst (P (i + 1) os) w.1 (k i o os s p w.0)) h
    go (Err r) a h ih = absurd (halt h)

-- the sets that a state shows at an epoch, as the record's
abbrev pub plain_of : shows.Sets → Sets
plain_of z = sets (map plain_table z.tables) z.pairs z.vectors

abbrev pub plain_at : ℕ → State → Sets
plain_at e s = sets (map plain_table s.tables) (pairs_at e s) (vectors_at e s)

pub plain-unlocked : (l : List TableEntry) → map plain_table (map shows.unlocked l) ≡ map plain_table l
plain-unlocked [] = refl
plain-unlocked (x ∷ l) = ap (λ (m : List Table). plain_table x ∷ m) (plain-unlocked l)

pub plain-of : (e : ℕ) (s : State) → plain_of (effects.sets_at e s) ≡ plain_at e s
plain-of e s = ap (λ (l : List Table). sets l (pairs_at e s) (vectors_at e s)) (plain-unlocked s.tables)

plain-edited : (d : Edit Table) (l : List TableEntry) → map plain_table (edited by_table as_entry d l) ≡ edit by_id d (map plain_table l)
plain-edited leaves l = refl
plain-edited (adds t) l = sym (map-put plain_table by_table by_id (λ x y. refl) (λ x y. refl) (as_entry t) l)
plain-edited (deletes k) l = sym (map-without plain_table by_table by_id k k (λ x. refl) l)

ids-edited : (d : Edit (List ℕ)) (l : List (List ℕ)) → edited itself itself d l ≡ edit itself d l
ids-edited leaves l = refl
ids-edited (adds k) l = refl
ids-edited (deletes k) l = refl

apply-on : (o : Operation) (z : shows.Sets) → plain_of (effects.on_sets o z) ≡ apply o (plain_of z)
apply-on o z =
    let d = edits_of o in
    rw (plain-edited d.tables z.tables, ids-edited d.pairs z.pairs, ids-edited d.vectors z.vectors)

pub apply_at : (e : ℕ) (o : Operation) (s : State) → 1 ≤ e → Ordered s → plain_at e (applied e o s) ≡ apply o (plain_at e s)
apply_at e o s h r =
    sym (plain-of e (applied e o s))
    ∙ ap plain_of (effects.on-sets e o s h r)
    ∙ apply-on o (effects.sets_at e s)
    ∙ ap (apply o) (plain-of e s)

record Applies (e : ℕ) (z : Sets) (os : List Operation) (s : State) : Type 0 where
  ordered : Ordered s
  result : apply_all os (plain_at e s) ≡ z

applies-on : (e : ℕ) (z : Sets) → 1 ≤ e → (i : ℕ) (o : Operation) (os : List Operation) (s : State)
    → Applies e z (o ∷ os) s → judged (op_rules i e o s) ≡ Ok tt → Applies e z os (applied e o s)
applies-on e z h i o os s k a =
    record { ordered = ordered-applied e o s k.ordered; result = ap (apply_all os) (apply_at e o s h k.ordered) ∙ k.result }

-- what the commit's epoch shows after the operations
pub steps-sets : (e : ℕ) (os : List Operation) (s t : State) → 1 ≤ e → Ordered s → steps_of 0 e os s ≡ Ok t → plain_at e t ≡ apply_all os (plain_at e s)
steps-sets e os s t h r g =
    let z = apply_all os (plain_at e s) in
    let k = steps_on (λ i ps u. Applies e z ps u) e (applies-on e z h) 0 os s t (record { ordered = r; result = refl }) g in
    k.1.result
