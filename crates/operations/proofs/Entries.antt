-- A vector id that nobody holds. Assumes nothing.
use mathlib.Core.Path.{◌≡◌, refl, ap}
use mathlib.Core.Bool.{false}
use mathlib.Core.List.{List, [], ◌∷◌}
use Prim.Native.Nat.{ℕ}
use lib.Dec.{eqb}
use lib.ListN.{get_or}
use borrow.Author.Tests.{eqb-false}
use Rattle.lists.specs.Keyed.{is_at, has}
use Rattle.lists.proofs.Tests.{by_cases, neither}
use Rattle.lists.proofs.Order.{same_true}
use Rattle.snapshot.specs.Entries.{Entry, by_ids}
use Rattle.operations.specs.Judge.{vector_held}

-- no vector with it
pub not-held : (t r v : ℕ) (l : List Entry) → vector_held v l ≡ false → has by_ids (t ∷ r ∷ v ∷ []) l ≡ false
not-held t r v [] h = refl
not-held t r v (x ∷ l) h =
    let d = neither (eqb (get_or (by_ids x) 2 0) v) (vector_held v l) h in
    by_cases (is_at by_ids (t ∷ r ∷ v ∷ []) x)
    (λ e. let q = ap (λ (k : List ℕ). get_or k 2 0) (same_true (by_ids x) (t ∷ r ∷ v ∷ []) e) in absurd (eqb-false (get_or (by_ids x) 2 0) v d.0 q))
    (λ e. rw e (not-held t r v l d.1))
