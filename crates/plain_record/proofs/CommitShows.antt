-- What the epochs show after an accepted commit is what the record remembers of them. Assumes nothing.
use mathlib.Core.Path.{◌≡◌, refl, sym, ap, ◌∙◌}
use mathlib.Core.Bool.{false}
use mathlib.Core.List.{List, [], ◌∷◌, ◌++◌, map}
use Prim.Native.Nat.{ℕ, zero, suc, ◌+◌, ◌≤◌}
use native.Mathlib.Omega.{arith}
use native.Mathlib.Nat.{not-suc-le-zero, le_of_suc-le-suc}
use lib.Dec.{leb}
use lib.ListN.{length, get_or, length-append}
use borrow.Author.Tests.{le-leb, leb-true, leb-false}
use Rattle.lists.proofs.Tests.{by_cases}
use Rattle.lists.proofs.Keyed.{All, all_map, all_of-all, keep_same}
use Rattle.snapshot.specs.Entries.{Entry, gone_at, shown_at, shown_by, shown, by_ids}
use Rattle.version_state.specs.declared.VersionManagerInner.{VersionManagerInner}
use Rattle.version_state.specs.State.{state_of, pairs_at, vectors_at}
use Rattle.version_state.specs.Sound.{bad_inner}
use Rattle.version_state.proofs.Within.{Within, within_of}
use Rattle.version_state.proofs.Facts.{sound-of}
use Rattle.plain_record.specs.Sets.{Sets}

-- The record's past, with one more epoch.
pub get_d-more : (l : List Sets) (x y : Sets) (d : ℕ) → d ≤ length l → get_or (l ++ (x ∷ [])) d y ≡ get_or l d x
get_d-more [] x y zero h = refl
get_d-more [] x y (suc d) h = absurd (not-suc-le-zero h)
get_d-more (z ∷ l) x y zero h = refl
get_d-more (z ∷ l) x y (suc d) h = get_d-more l x y d (le_of_suc-le-suc h)

-- from the current epoch on the record shows its last sets
pub shows-now : (l : List Sets) (y : Sets) (d : ℕ) → length l ≤ d → get_or l d y ≡ y
shows-now [] y d h = refl
shows-now (z ∷ l) y zero h = absurd (not-suc-le-zero h)
shows-now (z ∷ l) y (suc d) h = shows-now l y d (le_of_suc-le-suc h)

-- an epoch that nothing reaches shows what an earlier one does
still-shown : (e d : ℕ) (ns : List ℕ) (x : Entry) → e ≤ d → Within e ns x → shown_by d x ≡ shown_by e x
unfolding shown_at gone_at
still-shown e d ns x h w =
    rw (le-leb x.added d (omega (arith, w.added)), le-leb x.added e w.added, le-leb x.deleted d (omega (arith, w.deleted)), le-leb x.deleted e w.deleted)

still-shows : (e d : ℕ) (ns : List ℕ) (l : List Entry) → e ≤ d → All (Within e ns) l → shown d l ≡ shown e l
still-shows e d ns l h a = ap (map by_ids) (keep_same (shown_by d) (shown_by e) l (all_map l (λ x. still-shown e d ns x h) a))

pub later-pairs : (m : VersionManagerInner) (d : ℕ) → bad_inner m ≡ false → m.epoch ≤ d → pairs_at d (state_of m) ≡ pairs_at m.epoch (state_of m)
later-pairs m d g h = still-shows m.epoch d _ (state_of m).pairs h (all_map (state_of m).pairs (within_of m.epoch _) (all_of-all _ (state_of m).pairs (sound-of m g).pairs))

pub later-vectors : (m : VersionManagerInner) (d : ℕ) → bad_inner m ≡ false → m.epoch ≤ d → vectors_at d (state_of m) ≡ vectors_at m.epoch (state_of m)
later-vectors m d g h = still-shows m.epoch d _ (state_of m).vectors h (all_map (state_of m).vectors (within_of m.epoch _) (all_of-all _ (state_of m).vectors (sound-of m g).vectors))

-- what a manager shows of each epoch before and after a commit that makes the epoch e + 1, beside g of the record's sets: from an epoch
-- `low` on before it, and so from a later one, `high`, after it
module _ {X : Type 0} (was is : ℕ → X) (g : Sets → X) (past : List Sets) (now new : Sets) (e low high : ℕ) where
  pub shows-on : low ≤ high → e ≡ length past → ((d : ℕ) → low ≤ d → was d ≡ g (get_or past d now))
      → ((d : ℕ) → d ≤ e → is d ≡ was d) → ((d : ℕ) → e + 1 ≤ d → is d ≡ is (e + 1)) → is (e + 1) ≡ g new
      → (d : ℕ) → high ≤ d → is d ≡ g (get_or (past ++ (now ∷ [])) d new)
  shows-on r q h old late top d b =
      by_cases (leb d e)
      (λ t.
      let k : d ≤ e = leb-true d e t in
      old d k ∙ h d (omega arith) ∙ sym (ap g (get_d-more past now new d (omega arith))))
      (λ t.
      let k : e + 1 ≤ d = omega (arith, leb-false d e t) in
      let n = length-append past (now ∷ []) in
      late d k ∙ top ∙ sym (ap g (shows-now (past ++ (now ∷ [])) new d (omega arith))))
