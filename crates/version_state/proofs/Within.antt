-- Entries whose epochs are not above an epoch and whose ids are below the next ones, as facts; both bounds may rise. Assumes nothing.
use mathlib.Core.Path.{◌≡◌, refl}
use mathlib.Core.Bool.{true, ◌&&◌}
use mathlib.Core.List.{List, [], ◌∷◌}
use Prim.Native.Nat.{ℕ, ◌+◌, ◌≤◌}
use native.Mathlib.Omega.{arith}
use lib.Dec.{leb, ltb}
use borrow.Author.Tests.{leb-true, ltb-true, lt-ltb, le-leb}
use Rattle.lists.specs.Keyed.{keep}
use Rattle.lists.proofs.Tests.{clash, both, join}
use Rattle.lists.proofs.Keyed.{All, all_map, keep_same}
use Rattle.snapshot.specs.Entries.{Entry, below_next, within, gone_at, shown_at, shown_by}

-- Next ids that rise.
abbrev pub Rises : List ℕ → List ℕ → Type 0
Rises [] [] = Unit {0}
Rises [] (m ∷ ms) = ⊥
Rises (n ∷ ns) [] = ⊥
Rises (n ∷ ns) (m ∷ ms) = (n ≤ m) × Rises ns ms

below_up : (k ns ms : List ℕ) → Rises ns ms → below_next k ns ≡ true → below_next k ms ≡ true
below_up [] ns ms r h = refl
below_up (x ∷ k) [] ms r h = clash h refl
below_up (x ∷ k) (n ∷ ns) [] r h = absurd r
below_up (x ∷ k) (n ∷ ns) (m ∷ ms) r h =
    let d = both (ltb x n) (below_next k ns) h in
    join (lt-ltb x m (omega (arith, ltb-true x n d.0, r.0))) (below_up k ns ms r.1 d.1)

-- an entry's epochs and ids, as facts
pub record Within (e : ℕ) (ns : List ℕ) (x : Entry) : Type 0 where
  pub added : x.added ≤ e
  pub deleted : x.deleted ≤ e
  pub ids : below_next x.ids ns ≡ true

pub within_of : (e : ℕ) (ns : List ℕ) (x : Entry) → within e ns x ≡ true → Within e ns x
within_of e ns x h =
    let a = both (leb x.added e) (leb x.deleted e && below_next x.ids ns) h in
    let b = both (leb x.deleted e) (below_next x.ids ns) a.1 in
    record { added = leb-true x.added e a.0; deleted = leb-true x.deleted e b.0; ids = b.1 }

pub of-within : (e : ℕ) (ns : List ℕ) (x : Entry) → Within e ns x → within e ns x ≡ true
of-within e ns x w = rw (le-leb x.added e w.added, le-leb x.deleted e w.deleted) w.ids

pub within-up : (e d : ℕ) (ns ms : List ℕ) → e ≤ d → Rises ns ms → (l : List Entry) → All (Within e ns) l → All (Within d ms) l
within-up e d ns ms h r l a =
    all_map l (λ x w. record { added = omega (arith, w.added); deleted = omega (arith, w.deleted); ids = below_up x.ids ns ms r w.ids }) a

-- an epoch that nothing reaches shows what the one before it shows
next-shown : (e : ℕ) (ns : List ℕ) (x : Entry) → Within e ns x → shown_by (e + 1) x ≡ shown_by e x
unfolding shown_at gone_at
next-shown e ns x w =
    rw (le-leb x.added (e + 1) (omega (arith, w.added)), le-leb x.added e w.added, le-leb x.deleted (e + 1) (omega (arith, w.deleted)), le-leb x.deleted e w.deleted)

pub shown-next : (e : ℕ) (ns : List ℕ) (l : List Entry) → All (Within e ns) l → keep (shown_by (e + 1)) l ≡ keep (shown_by e) l
shown-next e ns l a = keep_same (shown_by (e + 1)) (shown_by e) l (all_map l (next-shown e ns) a)
