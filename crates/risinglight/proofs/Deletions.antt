-- The deletions to apply beside those that wait: the same, each as often. Assumes nothing.
use mathlib.Core.Path.{◌≡◌, refl, sym, ap, ◌∙◌}
use mathlib.Core.Bool.{Bool, cond, not}
use mathlib.Core.List.{List, [], ◌∷◌, ◌++◌, map}
use Prim.Native.Nat.{ℕ, ◌+◌, ◌≤◌, ◌<◌}
use native.Mathlib.Omega.{arith}
use lib.Dec.{eqb}
use lib.ListN.{get_or}
use borrow.Author.Tests.{ne_eqb}
use Rattle.lists.specs.Order.{less}
use Rattle.lists.specs.Keyed.{keep, placed, arranged}
use Rattle.lists.proofs.Tests.{by_cases}
use Rattle.lists.proofs.Keyed.{All, all_map, all_append, all-mapped, all_any, keep_all, keep_append}
use Rattle.lists.proofs.Views.{map-append}
use Rattle.manifest.specs.Operations.{Operation}
use Rattle.manifest.specs.Edits.{Edit, leaves, adds, deletes, edits_of}
use Rattle.plain_record.specs.Sets.{itself}
use Rattle.plain_record.specs.Plain.{Waiting, by_epoch_and_pair, deletion, deletions}
use Rattle.plain_record.proofs.CommitWaits.{placed_all, place-swap}
use Rattle.risinglight.specs.Maps.{Binding, insert}
use Rattle.risinglight.specs.VersionManager.{extended}
use Rattle.risinglight.specs.Agreement.{deletions_in}
use Rattle.risinglight.proofs.Changes.{deleted_by, deleted_all}

-- Arranging.

placed-through : (xs : List (List ℕ)) (x : List ℕ) (l : List (List ℕ)) → placed_all xs (placed itself x l) ≡ placed itself x (placed_all xs l)
placed-through [] x l = refl
placed-through (y ∷ ys) x l = ap (placed_all ys) (place-swap y x l) ∙ placed-through ys x (placed itself y l)

pub arranged-append : (xs l : List (List ℕ)) → arranged itself (xs ++ l) ≡ placed_all xs (arranged itself l)
arranged-append [] l = refl
arranged-append (x ∷ xs) l = ap (placed itself x) (arranged-append xs l) ∙ sym (placed-through xs x (arranged itself l))

arranged-placed : (f : List ℕ → List ℕ) (x : List ℕ) (l : List (List ℕ)) → arranged itself (map f (placed itself x l)) ≡ placed itself (f x) (arranged itself (map f l))
arranged-placed f x [] = refl
arranged-placed f x (y ∷ l) =
    by_cases (less y x)
    (λ e. rw e (ap (placed itself (f y)) (arranged-placed f x l) ∙ place-swap (f y) (f x) (arranged itself (map f l))))
    (λ e. rw e)

pub arranged-map : (f : List ℕ → List ℕ) (l : List (List ℕ)) → arranged itself (map f (arranged itself l)) ≡ arranged itself (map f l)
arranged-map f [] = refl
arranged-map f (x ∷ l) = arranged-placed f x (arranged itself l) ∙ ap (placed itself (f x)) (arranged-map f l)

-- a commit's deletions have its epoch
deleted-key : (c e i : ℕ) (d : Edit (List ℕ)) (ws : List Waiting) (l : List (List ℕ)) → map by_epoch_and_pair ws ≡ map (λ k. e ∷ k) l
    → map by_epoch_and_pair (deletion c e i d ++ ws) ≡ map (λ k. e ∷ k) (deleted_by d ++ l)
deleted-key c e i leaves ws l h = h
deleted-key c e i (adds k) ws l h = h
deleted-key c e i (deletes k) ws l h = ap (λ (m : List (List ℕ)). (e ∷ k) ∷ m) h

pub deleted-keys : (c e i : ℕ) (os : List Operation) → map by_epoch_and_pair (deletions c e i os) ≡ map (λ k. e ∷ k) (deleted_all os)
deleted-keys c e i [] = refl
deleted-keys c e i (o ∷ os) = deleted-key c e i (edits_of o).pairs (deletions c e (i + 1) os) (deleted_all os) (deleted-keys c e (i + 1) os)

-- no key above an epoch
abbrev pub UpTo : {A : Type 0} → ℕ → List (Binding A) → Type 0
UpTo e m = All (λ b. b.key ≤ e) m

pub up-later : {A : Type 0} (e d : ℕ) (m : List (Binding A)) → e ≤ d → UpTo e m → UpTo d m
up-later e d m h a = all_map m (λ b k. omega arith) a

-- what is inserted above them stands beside what is there
pub inserted : (e d : ℕ) (v : List (List ℕ)) (m : List (Binding (List (List ℕ)))) → e < d → UpTo e m
    → deletions_in (insert d v m) ≡ map (λ k. d ∷ k) v ++ deletions_in m
inserted e d v m h a =
    ap (λ l. map (λ k. d ∷ k) v ++ deletions_in l)
    (keep_all (λ (b : Binding (List (List ℕ))). not (eqb b.key d)) m (all_map m (λ b k. rw (ne_eqb b.key d (omega arith))) a))

-- A vacuum goes by the epoch.
module _ (q : ℕ → Bool) where
  abbrev by_epoch : List ℕ → Bool
  by_epoch k = q (get_or k 0 0)

  one-epoch : (e : ℕ) (l : List (List ℕ)) → keep by_epoch (map (λ k. e ∷ k) l) ≡ cond (q e) (map (λ k. e ∷ k) l) []
  one-epoch e [] = by_cases (q e) (λ t. rw t) (λ t. rw t)
  one-epoch e (k ∷ l) =
      by_cases (q e)
      (λ t. rw t (ap (λ (m : List (List ℕ)). (e ∷ k) ∷ m) (one-epoch e l ∙ rw t)))
      (λ t. rw t (one-epoch e l ∙ rw t))

  pub deletions-kept : (m : List (Binding (List (List ℕ)))) → deletions_in (keep (λ b. q b.key) m) ≡ keep by_epoch (deletions_in m)
  deletions-kept [] = refl
  deletions-kept (b ∷ m) =
      let l = map (λ k. b.key ∷ k) b.value in
      sym (keep_append by_epoch l (deletions_in m)
      ∙ ap (λ x. x ++ keep by_epoch (deletions_in m)) (one-epoch b.key b.value)
      ∙ by_cases (q b.key)
      (λ t. rw t (ap (λ x. l ++ x) (sym (deletions-kept m))))
      (λ t. rw t (sym (deletions-kept m))))

-- without the epoch
abbrev pub pair_in : List ℕ → List ℕ
pair_in [] = []
pair_in (x ∷ k) = k

pairs-in : (e : ℕ) (l : List (List ℕ)) → map pair_in (map (λ k. e ∷ k) l) ≡ l
pairs-in e [] = refl
pairs-in e (k ∷ l) = ap (λ m. k ∷ m) (pairs-in e l)

pub extended-pairs : (m : List (Binding (List (List ℕ)))) → extended m ≡ map pair_in (deletions_in m)
extended-pairs [] = refl
extended-pairs (b ∷ m) =
    let l = map (λ k. b.key ∷ k) b.value in
    sym (map-append pair_in l (deletions_in m)
    ∙ ap (λ x. x ++ map pair_in (deletions_in m)) (pairs-in b.key b.value)
    ∙ ap (λ x. b.value ++ x) (sym (extended-pairs m)))

pub epochs-up : (e : ℕ) (m : List (Binding (List (List ℕ)))) → UpTo e m → All (λ k. get_or k 0 0 ≤ e) (deletions_in m)
epochs-up e [] a = tt
epochs-up e (b ∷ m) a =
    all_append (λ k. get_or k 0 0 ≤ e) (map (λ k. b.key ∷ k) b.value) (deletions_in m)
    (all-mapped (λ k. get_or k 0 0 ≤ e) (λ k. b.key ∷ k) b.value (all_any b.value (λ k. a.0)))
    (epochs-up e m a.1)
