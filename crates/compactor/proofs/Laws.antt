-- What is taken of entries in order. Assumes nothing.
use mathlib.Core.Path.{◌≡◌, ap, ◌∙◌}
use mathlib.Core.List.{List, [], ◌∷◌, ◌++◌, append-nil}
use Prim.Native.Nat.{ℕ, ◌+◌, ◌≤◌, ◌<◌}
use native.Mathlib.Omega.{arith}
use lib.Dec.{leb}
use lib.ListN.{length, take}
use lib.Seq.{take-append_seam}
use borrow.Author.Tests.{leb-true, le-leb, lt-leb}
use Rattle.lists.proofs.Tests.{by_cases}
use Rattle.compactor.specs.Selection.{Sized, taken_on, taken}
use Rattle.compactor.specs.Laws.{total, Part, none, more, past}

module _ (target : ℕ) where
  total-on : (n : ℕ) (l : List Sized) → n ≤ target → n + total (taken_on target n l) ≤ target
  total-on n [] h = omega arith
  total-on n (x ∷ l) h =
      by_cases (leb (n + x.size) target)
      (λ e. let w = total-on (n + x.size) l (leb-true (n + x.size) target e) in rw e (omega arith))
      (λ e. rw e (total-on n l h))

  pub taken-within : (l : List Sized) → total (taken target l) ≤ target
  taken-within l = let w = total-on 0 l (omega arith) in omega arith

  -- what is taken of entries after others
  taken-append : (n : ℕ) (a b : List Sized) → taken_on target n (a ++ b) ≡ taken_on target n a ++ taken_on target (n + total (taken_on target n a)) b
  taken-append n [] b = let z : n ≡ n + 0 = omega arith in ap (λ (k : ℕ). taken_on target k b) z
  taken-append n (x ∷ a) b =
      by_cases (leb (n + x.size) target)
      (λ e. let z : n + x.size + total (taken_on target (n + x.size) a) ≡ n + (x.size + total (taken_on target (n + x.size) a)) = omega arith in
      rw (e, taken-append (n + x.size) a b, z))
      (λ e. rw e (taken-append n a b))

  pub part-on : (n : ℕ) (l : List Sized) → Part (taken_on target n l) l
  part-on n [] = none
  part-on n (x ∷ l) =
      by_cases (leb (n + x.size) target) (λ e. rw e (more (part-on (n + x.size) l))) (λ e. rw e (past (part-on n l)))

  module _ (a : List Sized) where
    pub taken-later : (b : List Sized) → take (length (taken target a)) (taken target (a ++ b)) ≡ taken target a
    taken-later b = ap (take (length (taken target a))) (taken-append 0 a b) ∙ take-append_seam (taken target a) (taken_on target (0 + total (taken target a)) b)

    pub taken-fitting : (x : Sized) → total (taken target a) + x.size ≤ target → taken target (a ++ (x ∷ [])) ≡ taken target a ++ (x ∷ [])
    taken-fitting x h =
        taken-append 0 a (x ∷ []) ∙ rw (le-leb (0 + total (taken target a) + x.size) target (omega arith))

    pub taken-unfitting : (x : Sized) → target < total (taken target a) + x.size → taken target (a ++ (x ∷ [])) ≡ taken target a
    taken-unfitting x h =
        taken-append 0 a (x ∷ []) ∙ rw (lt-leb (0 + total (taken target a) + x.size) target (omega arith)) (append-nil (taken target a))
