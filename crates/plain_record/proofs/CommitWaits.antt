-- The deletions that wait after a commit: those from before and the commit's own, each in its place. Assumes nothing.
use mathlib.Core.Path.{◌≡◌, refl, sym, ap, ◌∙◌}
use mathlib.Core.Bool.{true, false}
use mathlib.Core.List.{List, [], ◌∷◌, ◌++◌, map}
use Prim.Native.Nat.{ℕ, ◌+◌, ◌≤◌}
use native.Mathlib.Omega.{arith}
use lib.Dec.{eqb, leb}
use borrow.Author.Tests.{le-leb, ne_eqb}
use Rattle.std.specs.Prelude.{Ok}
use Rattle.lists.specs.Order.{less}
use Rattle.lists.specs.Keyed.{keep, has, is_at, put, placed, arranged, changed}
use Rattle.lists.proofs.Tests.{by_cases, clash, neither}
use Rattle.lists.proofs.Order.{same_true}
use Rattle.lists.proofs.Keyed.{All, Ascending, ascend-to, after-absent, put-new, keep-placed-out, changed-absent, placed-swap}
use Rattle.ids.specs.Verdicts.{judged}
use Rattle.manifest.specs.Operations.{Operation}
use Rattle.manifest.specs.Edits.{Edit, leaves, adds, deletes, edits_of}
use Rattle.snapshot.specs.Entries.{Entry, added_at, deleted_at, gone_at, shown_at, shown_by, by_ids, by_deletion, waits}
use Rattle.version_state.specs.State.{State}
use Rattle.version_state.proofs.Facts.{Ordered}
use Rattle.operations.specs.Effect.{marked, applied}
use Rattle.operations.specs.Judge.{is_shown, op_rules}
use Rattle.operations.specs.Steps.{steps_of}
use Rattle.operations.proofs.Edits.{adds-any, all-marked, EntryFits, fits}
use Rattle.operations.proofs.Keeps.{ordered-applied}
use Rattle.plain_record.specs.Sets.{itself}
use Rattle.plain_record.specs.Plain.{Waiting, by_epoch_and_pair, deletion, deletions, await}
use Rattle.plain_record.specs.Claim.{waiting_in}
use Rattle.plain_record.proofs.CommitSets.{steps_on}

-- placing and arranging, by the keys alone
map-placed : {A : Type 0} (key : A → List ℕ) (x : A) (l : List A) → map key (placed key x l) ≡ placed itself (key x) (map key l)
map-placed key x [] = refl
map-placed key x (y ∷ l) =
    by_cases (less (key y) (key x))
    (λ e. rw e (ap (λ (m : List (List ℕ)). key y ∷ m) (map-placed key x l)))
    (λ e. rw e)

map-arranged : {A : Type 0} (key : A → List ℕ) (l : List A) → map key (arranged key l) ≡ arranged itself (map key l)
map-arranged key [] = refl
map-arranged key (x ∷ l) = map-placed key x (arranged key l) ∙ ap (placed itself (key x)) (map-arranged key l)

pub place-swap : (a b : List ℕ) (l : List (List ℕ)) → placed itself a (placed itself b l) ≡ placed itself b (placed itself a l)
place-swap = placed-swap itself (λ x y h. h)

-- keys placed one after another
abbrev pub placed_all : List (List ℕ) → List (List ℕ) → List (List ℕ)
placed_all [] l = l
placed_all (k ∷ ks) l = placed_all ks (placed itself k l)

pub await-keys : (ws l : List Waiting) → map by_epoch_and_pair (await ws l) ≡ placed_all (map by_epoch_and_pair ws) (map by_epoch_and_pair l)
await-keys [] l = refl
await-keys (w ∷ ws) l =
    await-keys ws (placed by_epoch_and_pair w l)
    ∙ ap (placed_all (map by_epoch_and_pair ws)) (map-placed by_epoch_and_pair w l)

-- the keys of the entries that wait
abbrev wait_keys : List Entry → List (List ℕ)
wait_keys l = map by_deletion (keep waits l)

abbrev wait_list : List Entry → List (List ℕ)
wait_list l = arranged itself (wait_keys l)

waiting-is : (s : State) → waiting_in s ≡ wait_list s.pairs
waiting-is s = map-arranged by_deletion (keep waits s.pairs)

-- deleted by the epoch e, if at all
abbrev pub Late : ℕ → List Entry → Type 0
Late e l = All (λ x. x.deleted ≤ e) l

-- what such an epoch shows does not wait
shown-stands : (e : ℕ) (x : Entry) → x.deleted ≤ e → shown_by e x ≡ true → waits x ≡ false
unfolding shown_at gone_at
shown-stands e x h s =
    by_cases (eqb x.deleted 0)
    (λ z. rw z)
    (λ z. by_cases (leb x.added e)
    (λ a. clash {b = false} (rw (a, z, le-leb x.deleted e h) at s) refl)
    (λ a. clash {b = false} (rw a at s) refl))

none-shown : (e : ℕ) (k : List ℕ) (l : List Entry) → has by_ids k l ≡ false → is_shown e k l ≡ false
none-shown e k [] n = refl
none-shown e k (y ∷ l) n =
    let d = neither (is_at by_ids k y) (has by_ids k l) n in
    by_cases (shown_by e y) (λ s. rw (s, d.0) (none-shown e k l d.1)) (λ s. rw s (none-shown e k l d.1))

-- a shown entry that is deleted begins to wait
module _ (e : ℕ) (k : List ℕ) (pos : 1 ≤ e) where
  deleted-here : (x : Entry) (l : List Entry) → is_at by_ids k x ≡ true → has by_ids k l ≡ false → waits x ≡ false
      → wait_list (changed by_ids k (deleted_at e) (x ∷ l)) ≡ placed itself (e ∷ k) (wait_list (x ∷ l))
  deleted-here x l t n w =
      let q : x.ids ≡ k = same_true x.ids k t in
      rw (t, w, ne_eqb e 0 (omega arith), changed-absent by_ids k (deleted_at e) l n, q)

  deleted-further : (x : Entry) (l m : List Entry) → wait_list m ≡ placed itself (e ∷ k) (wait_list l) → wait_list (x ∷ m) ≡ placed itself (e ∷ k) (wait_list (x ∷ l))
  deleted-further x l m h =
      by_cases (waits x)
      (λ w. rw w (ap (placed itself (by_deletion x)) h ∙ place-swap (by_deletion x) (e ∷ k) (wait_list l)))
      (λ w. rw w h)

  deleted-waits : (l : List Entry) → Ascending by_ids l → Late e l → is_shown e k l ≡ true → wait_list (changed by_ids k (deleted_at e) l) ≡ placed itself (e ∷ k) (wait_list l)
  deleted-waits [] a late h = clash h refl
  deleted-waits (x ∷ l) a late h =
      by_cases (is_at by_ids k x)
      (λ t.
      let q : x.ids ≡ k = same_true x.ids k t in
      let absent : has by_ids k l ≡ false = rw (← q) (after-absent by_ids x.ids l a.0) in
      let s : shown_by e x ≡ true = by_cases (shown_by e x) (λ s. s) (λ s. clash (rw s at h) (none-shown e k l absent)) in
      deleted-here x l t absent (shown-stands e x late.0 s))
      (λ t.
      let g : is_shown e k l ≡ true = by_cases (shown_by e x) (λ s. rw (s, t) at h) (λ s. rw s at h) in
      rw t (deleted-further x l (changed by_ids k (deleted_at e) l) (deleted-waits l a.1 late.1 g)))

added-waits : (e : ℕ) (k : List ℕ) (l : List Entry) → has by_ids k l ≡ false → wait_list (put by_ids (added_at e k) l) ≡ wait_list l
added-waits e k l n =
    ap (λ (m : List Entry). wait_list m) (put-new by_ids (added_at e k) l n)
    ∙ ap (λ (m : List Entry). arranged itself (map by_deletion m)) (keep-placed-out by_ids waits (added_at e k) l refl)

late-marked : (e : ℕ) (d : Edit (List ℕ)) (l : List Entry) → Late e l → Late e (marked e d l)
late-marked e d l a = all-marked e (λ (x : Entry). x.deleted ≤ e) d l (adds-any d (λ k. omega arith)) (λ x p. omega arith) a

-- the keys of the deletions to come, placed after those that wait, make z
record Awaits (c e : ℕ) (z : List (List ℕ)) (i : ℕ) (os : List Operation) (s : State) : Type 0 where
  ordered : Ordered s
  late : Late e s.pairs
  all : placed_all (map by_epoch_and_pair (deletions c e i os)) (wait_list s.pairs) ≡ z

-- an edit leaves of the deletions ws to come what it does not delete itself
step_waits : (c e i : ℕ) (d : Edit (List ℕ)) (ws : List Waiting) (l : List Entry) → 1 ≤ e → Ascending by_ids l → Late e l → EntryFits e d l
    → placed_all (map by_epoch_and_pair ws) (wait_list (marked e d l)) ≡ placed_all (map by_epoch_and_pair (deletion c e i d ++ ws)) (wait_list l)
step_waits c e i leaves ws l p r h f = refl
step_waits c e i (adds k) ws l p r h f = ap (placed_all (map by_epoch_and_pair ws)) (added-waits e k l f.0)
step_waits c e i (deletes k) ws l p r h f = ap (placed_all (map by_epoch_and_pair ws)) (deleted-waits e k p l r h f)

awaits-on : (c e : ℕ) (z : List (List ℕ)) → 1 ≤ e → (i : ℕ) (o : Operation) (os : List Operation) (s : State)
    → Awaits c e z i (o ∷ os) s → judged (op_rules i e o s) ≡ Ok tt → Awaits c e z (i + 1) os (applied e o s)
awaits-on c e z p i o os s k a =
    let d = (edits_of o).pairs in
    record {
      ordered = ordered-applied e o s k.ordered;
      late = late-marked e d s.pairs k.late;
      all = step_waits c e i d (deletions c e (i + 1) os) s.pairs p (ascend-to by_ids s.pairs k.ordered.pairs) k.late (fits i e o s a).pairs ∙ k.all;
    }

-- what waits after the operations of a commit at place c
pub steps-waits : (c e : ℕ) (os : List Operation) (s t : State) (ws : List Waiting) → 1 ≤ e → Ordered s → Late e s.pairs → waiting_in s ≡ map by_epoch_and_pair ws
    → steps_of 0 e os s ≡ Ok t → waiting_in t ≡ map by_epoch_and_pair (await (deletions c e 0 os) ws)
steps-waits c e os s t ws p r l h g =
    let z = placed_all (map by_epoch_and_pair (deletions c e 0 os)) (wait_list s.pairs) in
    let k = steps_on (Awaits c e z) e (awaits-on c e z p) 0 os s t (record { ordered = r; late = l; all = refl }) g in
    waiting-is t
    ∙ k.1.all
    ∙ ap (placed_all (map by_epoch_and_pair (deletions c e 0 os))) (sym (waiting-is s) ∙ h)
    ∙ sym (await-keys (deletions c e 0 os) ws)
