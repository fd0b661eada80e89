-- What the library's calls tell of ids that rise. Assumes nothing.
use mathlib.Core.Path.{◌≡◌, refl, sym, ◌∙◌}
use mathlib.Core.Bool.{Bool, true, false}
use mathlib.Core.List.{List, [], ◌∷◌}
use Prim.Native.Nat.{ℕ, zero, suc, ◌≤◌, ◌<◌}
use native.Mathlib.Omega.{arith}
use native.Mathlib.Nat.{not-suc-le-zero, le_of_suc-le-suc}
use native.Mathlib.Numerals.{add-one}
use borrow.Author.Tests.{eq-eqb, ne_eqb, ltb-true}
use lib.Dec.{ltb, eqb}
use lib.ListN.{length, get_or}
use Rattle.std.specs.Prelude.{Result, Ok, Err, is_ok}
use Rattle.std.specs.List.{IsAllAdjacentAnswer}
use Rattle.std.specs.List.Sorted.{IsBinarySearchResult}
use Rattle.std.specs.Ordering.{nat_cmp}
use Rattle.std.specs.Result.{MatchResult}
use Rattle.std.proofs.lemmas.List.Sorted.{searched}
use Rattle.std.proofs.lemmas.List.Recursion.{or_is}
use Rattle.lists.specs.Order.{less}
use Rattle.lists.specs.Keyed.{any_of, above, ascending}
use Rattle.lists.proofs.Tests.{by_cases, tri}
use Rattle.lists.proofs.Order.{lex-last}
use Rattle.lists.proofs.Keyed.{All, Ascending, ascend-to}
use Rattle.table.specs.Made.{by_number}

rise : (x : ℕ) (l : List ℕ) → ((k d : ℕ) → suc k < length (x ∷ l) → true ≡ ltb (get_or (x ∷ l) k d) (get_or (x ∷ l) (suc k) d)) → above by_number (by_number x) l ≡ true
rise x [] h = refl
rise x (y ∷ l) h = rw (lex-last x y, ← h 0 0 (omega arith)) (rise y l (λ k d b. h (suc k) d (omega arith)))

stop : (x : ℕ) (l : List ℕ) (k : ℕ) → suc k < length (x ∷ l) → ((d : ℕ) → false ≡ ltb (get_or (x ∷ l) k d) (get_or (x ∷ l) (suc k) d)) → above by_number (by_number x) l ≡ false
stop x [] k b h = absurd (omega arith)
stop x (y ∷ l) zero b h = rw (lex-last x y, ← h 0)
stop x (y ∷ l) (suc k) b h = by_cases (less (by_number x) (by_number y)) (λ t. rw t (stop y l k (omega arith) h)) (λ t. rw t)

-- each is below the next
pub rises : (l : List ℕ) (r : Bool) → IsAllAdjacentAnswer (λ x y b. b ≡ ltb x y) l r → r ≡ ascending by_number l
rises [] true h = refl
rises [] false h = absurd (let b = h.1 in omega arith)
rises (x ∷ l) true h = sym (rise x l (λ k d b. rw add-one at (h k d (omega arith))))
rises (x ∷ l) false h = sym (stop x l h.0 (let b = h.1 in omega arith) (λ d. rw add-one at (h.2 d)))

above-first : (x : ℕ) (l : List ℕ) (i : ℕ) → i < length l → All (λ y. less (by_number x) (by_number y) ≡ true) l → x ≤ get_or l i 0
above-first x [] i b a = absurd (not-suc-le-zero b)
above-first x (y ∷ l) zero b a = let t = ltb-true x y (sym (lex-last x y) ∙ a.0) in omega arith
above-first x (y ∷ l) (suc i) b a = above-first x l i (le_of_suc-le-suc b) a.1

rise-on : (l : List ℕ) → Ascending by_number l → (i j : ℕ) → i ≤ j → j < length l → get_or l i 0 ≤ get_or l j 0
rise-on [] s i j h b = absurd (not-suc-le-zero b)
rise-on (x ∷ l) s zero zero h b = omega arith
rise-on (x ∷ l) s zero (suc j) h b = above-first x l j (le_of_suc-le-suc b) s.0
rise-on (x ∷ l) s (suc i) zero h b = absurd (not-suc-le-zero h)
rise-on (x ∷ l) s (suc i) (suc j) h b = rise-on l s.1 i j (le_of_suc-le-suc h) (le_of_suc-le-suc b)

-- where a search finds x, or would
abbrev Told : ℕ → List ℕ → Result ℕ ℕ → Type 0
Told x l r =
    MatchResult r (λ i. (i < length l) × (get_or l i 0 ≡ x))
    (λ i. (i ≤ length l) × ((k : ℕ) → k < i → get_or l k 0 < x) × ((k : ℕ) → i ≤ k → k < length l → x < get_or l k 0))

pub among : (x : ℕ) (l : List ℕ) (r : Result ℕ ℕ) → IsBinarySearchResult (λ y. nat_cmp y x) l r → ascending by_number l ≡ true → is_ok r ≡ any_of (eqb x) l
among x l r h up = or_is (any_of (eqb x)) (eqb x) refl (λ _ _. refl) l 0 (is_ok r) (found r told) (missed r told)
  where
    told : Told x l r
    told = searched l x r h (rise-on l (ascend-to by_number l up))

    found : (r : Result ℕ ℕ) → Told x l r → is_ok r ≡ true → (i : ℕ) × (i < length l) × (eqb x (get_or l i 0) ≡ true)
    found (Ok i) t e = (i, t.0, eq-eqb x (get_or l i 0) (sym t.1))
    found (Err i) t e = absurd (cc)

    missed : (r : Result ℕ ℕ) → Told x l r → is_ok r ≡ false → (k : ℕ) → k < length l → eqb x (get_or l k 0) ≡ false
    missed (Ok i) t e k b = absurd (cc)
    missed (Err i) t e k b =
        tri k i
        (λ u. let a = t.1 k u in ne_eqb x (get_or l k 0) (λ q. omega arith))
        (λ u. let a = t.2 k (omega arith) b in ne_eqb x (get_or l k 0) (λ q. omega arith))
        (λ u. let a = t.2 k (omega arith) b in ne_eqb x (get_or l k 0) (λ q. omega arith))
