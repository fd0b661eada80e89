-- A compaction of what a selection took shows fewer pairs or fewer vectors than before. Assumes nothing.
use mathlib.Core.Path.{◌≡◌, refl, ap, ◌∙◌}
use mathlib.Core.Bool.{Bool, true, false, not, ◌||◌}
use mathlib.Core.List.{List, [], ◌∷◌}
use Prim.Native.Nat.{ℕ, ◌+◌, ◌≤◌, ◌<◌}
use native.Mathlib.Omega.{arith}
use lib.Dec.{leb}
use lib.ListN.{length, get_or, take, length-map}
use lib.Seq.{take-append_seam}
use borrow.Author.Tests.{leb-true, lt-ltb, not-false}
use Rattle.std.specs.Prelude.{Ok, Err}
use Rattle.std.proofs.lemmas.Bool.{or_left, or_right}
use Rattle.lists.specs.Order.{same}
use Rattle.lists.specs.Keyed.{keep, any_of, has}
use Rattle.lists.proofs.Tests.{by_cases, clash}
use Rattle.lists.proofs.Keyed.{All, Ascending, all_map, all_both, all-mapped, all_of-all, any_of-map, has-put, length-put}
use Rattle.lists.proofs.Kept.{has-keep, few-among}
use Rattle.ids.specs.Verdicts.{judged, Verdict}
use Rattle.ids.proofs.Verdicts.{none-judged}
use Rattle.snapshot.specs.Entries.{by_ids, shown_by}
use Rattle.version_state.specs.declared.VersionManagerInner.{VersionManagerInner}
use Rattle.version_state.specs.State.{State, state_of, pairs_at, vectors_at}
use Rattle.version_state.specs.Sound.{bad_inner}
use Rattle.version_state.specs.Widths.{Narrow}
use Rattle.operations.specs.Judge.{is_shown}
use Rattle.table.specs.Made.{is_over, by_number, committed}
use Rattle.table.specs.Compact.{compacted_by, compact_rules}
use Rattle.table.specs.Laws.{pairs_with, put_all, Compacts}
use Rattle.table.proofs.Laws.{made-laws}
use Rattle.table.proofs.Compacting.{pairs-rise}
use Rattle.compactor.specs.Selection.{any_over, compacted, selected}
use Rattle.compactor.specs.Says.{Selected}
use Rattle.version_manager.specs.CompactLaws.{shows_fewer}

-- what a test takes out and what it leaves
module _ {A : Type 0} (p : A → Bool) where
  parted : (l : List A) → length (keep (λ x. not (p x)) l) + length (keep p l) ≡ length l
  parted [] = refl
  parted (x ∷ l) = let h = parted l in by_cases (p x) (λ e. rw e (omega (arith, h))) (λ e. rw e (omega (arith, h)))

  some-kept : (l : List A) → any_of p l ≡ true → 1 ≤ length (keep p l)
  some-kept [] h = clash h refl
  some-kept (x ∷ l) h = by_cases (p x) (λ e. rw e (omega arith)) (λ e. rw e (some-kept l (rw e at h)))

abbrev itself : List ℕ → List ℕ
itself k = k

-- without different keys that are all among them, a list has so many fewer
each-among : (ks : List (List ℕ)) → All (λ k. (x : List ℕ) → same x k ≡ true → any_of (same x) ks ≡ true) ks
each-among [] = tt
each-among (k ∷ ks) = ((λ x e. or_left _ _ e), all_map ks (λ j f x e. or_right _ _ (f x e)) (each-among ks))

without-keys : (ks l : List (List ℕ)) → Ascending itself ks → All (λ k. has itself k l ≡ true) ks → length (keep (λ k. not (any_of (same k) ks)) l) + length ks ≤ length l
without-keys ks l a h =
    let q : List ℕ → Bool = λ k. any_of (same k) ks in
    let there : All (λ k. has itself k (keep q l) ≡ true) ks = all_both ks (λ k f e. has-keep itself k q l f ∙ e) (each-among ks) h in
    omega (arith, parted q l, few-among itself ks (keep q l) a there)

-- one more at most is put among them, and all that were there still are
put-one : (new : List (List ℕ)) (l : List (List ℕ)) → length (put_all new l) ≤ length l + length new
put-one [] l = omega arith
put-one (k ∷ new) l = omega (arith, length-put itself k (put_all new l), put-one new l)

still-there : (new : List (List ℕ)) (k : List ℕ) (l : List (List ℕ)) → has itself k l ≡ true → has itself k (put_all new l) ≡ true
still-there [] k l h = h
still-there (j ∷ new) k l h = has-put itself k j (put_all new l) ∙ or_right _ _ (still-there new k l h)

-- what is selected is enough for a compaction
pub selected-enough : (t : ℕ) (rs : List ℕ) (s : State) → 1 ≤ length (compacted t rs s) → leb 2 (length (compacted t rs s)) || any_over t (compacted t rs s) s ≡ true
selected-enough t rs s h =
    by_cases (leb 2 (length rs) || any_over t rs s)
    (λ e. rw e e)
    (λ e. let z : 1 ≤ 0 = rw e at h in absurd (omega (arith, z)))

module _ (m : VersionManagerInner) (b : bad_inner m ≡ false) (w : Narrow (state_of m)) (t : ℕ) (new rs : List ℕ) (few : length new ≤ 1) (rising : Ascending by_number rs)
    (room : ℕ) (j : judged (compact_rules (state_of m) t new rs room) ≡ Ok tt) where
  abbrev s : State
  s = state_of m

  abbrev after : State
  after = committed (compacted_by s t new rs) s

  compacts : Compacts s t new rs room
  compacts = made-laws.compact m t new rs room b w few j

  shown-before : All (λ k. has itself k (pairs_at s.epoch s) ≡ true) (pairs_with t rs)
  shown-before =
      all-mapped (λ k. has itself k (pairs_at s.epoch s) ≡ true) (λ r. t ∷ r ∷ []) rs
      (all_map rs (λ r e. any_of-map by_ids (λ k. same k (t ∷ r ∷ [])) (keep (shown_by s.epoch) s.pairs) ∙ e)
      (all_of-all (λ r. is_shown s.epoch (t ∷ r ∷ []) s.pairs) rs (not-false _ (none-judged (compact_rules s t new rs room) j).1.1.1.0)))

  fewer-pairs : 2 ≤ length rs → length (pairs_at after.epoch after) < length (pairs_at s.epoch s)
  fewer-pairs h =
      let ks = pairs_with t rs in
      let ps = put_all (pairs_with t new) (pairs_at s.epoch s) in
      let there = all_map ks (λ k. still-there (pairs_with t new) k (pairs_at s.epoch s)) shown-before in
      omega (arith, ap length compacts.pairs, without-keys ks ps (pairs-rise t rs rising) there, put-one (pairs_with t new) (pairs_at s.epoch s), length-map rs (λ r. t ∷ r ∷ []), length-map new (λ r. t ∷ r ∷ []), few, h)

  fewer-vectors : any_over t rs s ≡ true → length (vectors_at after.epoch after) < length (vectors_at s.epoch s)
  fewer-vectors h =
      let vs = vectors_at s.epoch s in
      omega (arith, ap length compacts.vectors, parted (is_over t rs) vs, some-kept (is_over t rs) vs h)

  pub smaller-then : leb 2 (length rs) || any_over t rs s ≡ true → shows_fewer after s ≡ true
  smaller-then e =
      by_cases (leb 2 (length rs)) (λ d. or_left _ _ (lt-ltb _ _ (fewer-pairs (leb-true 2 (length rs) d)))) (λ d. or_right _ _ (lt-ltb _ _ (fewer-vectors (rw d at e))))

-- an accepted selection leaves what it took in the first places
pub took : (s : State) (t target : ℕ) (ns out : List ℕ) (v : Verdict) (n : ℕ) (chosen : List ℕ) → Selected s t target ns v out (Ok n) chosen
    → (n ≡ length (selected t target ns s)) × (take n chosen ≡ selected t target ns s)
took s t target ns out (Ok _) n chosen h =
    let q : n ≡ length (selected t target ns s) = ap (λ x. get_or x.values 0 0) h.answer in
    (q, rw (q, h.rowsets) (take-append_seam (selected t target ns s) _))
took s t target ns out (Err k) n chosen h = absurd (let z : ◌≡◌ {A = ℕ} 1 0 = ap (λ x. length x.values) h.answer in omega (arith, z))
