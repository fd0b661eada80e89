-- Sets and maps: what is found after something was put in or taken out. Assumes nothing.
use mathlib.Core.Path.{◌≡◌, refl, sym, ap, ◌∙◌}
use mathlib.Core.Bool.{Bool, true, false, cond, not, ◌&&◌, ◌||◌}
use mathlib.Core.List.{List, [], ◌∷◌}
use mathlib.Core.Option.{none, some}
use Prim.Native.Nat.{ℕ}
use lib.Dec.{eqb}
use borrow.Author.Tests.{eqb-true}
use Rattle.lists.specs.Order.{same}
use Rattle.lists.specs.Keyed.{keep, any_of, has, without}
use Rattle.lists.proofs.Tests.{by_cases, clash, or_across}
use Rattle.lists.proofs.Order.{same_true}
use Rattle.risinglight.specs.Maps.{unwrap_or, contains, with_number, without_number, Binding, get, insert, remove}
use Rattle.risinglight.specs.Snapshot.{settled}

-- p finds b of what q takes out, and where that is true, nothing else
module _ {A : Type 0} (p q : A → Bool) (b : Bool) (here : (x : A) → q x ≡ true → p x ≡ b) (alone : (x : A) → b ≡ true → p x ≡ true → q x ≡ true) where
  taken : (l : List A) → any_of p (keep (λ x. not (q x)) l) ≡ not b && any_of p l
  taken [] = by_cases b (λ e. rw e) (λ e. rw e)
  taken (x ∷ l) =
      by_cases (q x)
      (λ e. rw (e, here x e, taken l) (by_cases b (λ f. rw f) (λ f. rw f)))
      (λ e. by_cases b
      (λ f. by_cases (p x)
      (λ g. clash (alone x f g) e)
      (λ g. rw (e, f, g) (taken l ∙ rw f)))
      (λ f. rw (e, f) (ap (λ c. p x || c) (taken l ∙ rw f))))

pub has-without : {A : Type 0} (key : A → List ℕ) (k j : List ℕ) (l : List A) → has key k (without key j l) ≡ not (same j k) && has key k l
has-without key k j l =
    taken (λ x. same (key x) k) (λ x. same (key x) j) (same j k)
    (λ x e. ap (λ c. same c k) (same_true (key x) j e))
    (λ x e f. ap (λ c. same (key x) c) (same_true j k e) ∙ f)
    l

pub contains-without : (x y : ℕ) (s : List ℕ) → contains x (without_number y s) ≡ not (eqb y x) && contains x s
contains-without x y s =
    taken (λ z. eqb z x) (λ z. eqb z y) (eqb y x)
    (λ z e. ap (λ c. eqb c x) (eqb-true z y e))
    (λ z e f. ap (λ c. eqb z c) (eqb-true y x e) ∙ f)
    s

pub contains-with : (x y : ℕ) (s : List ℕ) → contains x (with_number y s) ≡ eqb y x || contains x s
contains-with x y s = by_cases (eqb y x) (λ e. rw e) (λ e. rw e (contains-without x y s ∙ rw e))

module _ {X : Type 0} where
  pub get-remove : (k j : ℕ) (m : List (Binding X)) → get k (remove j m) ≡ cond (eqb j k) none (get k m)
  get-remove k j [] = by_cases (eqb j k) (λ e. rw e) (λ e. rw e)
  get-remove k j (b ∷ m) =
      by_cases (eqb b.key j)
      (λ e.
      let q : eqb b.key k ≡ eqb j k = ap (λ c. eqb c k) (eqb-true b.key j e) in
      rw (e, q) (get-remove k j m ∙ by_cases (eqb j k) (λ f. rw f) (λ f. rw f)))
      (λ e. by_cases (eqb j k)
      (λ f.
      let q : eqb b.key k ≡ false = ap (λ c. eqb b.key c) (sym (eqb-true j k f)) ∙ e in
      rw (e, f, q) (get-remove k j m ∙ rw f))
      (λ f. rw (e, f) (ap (λ o. cond (eqb b.key k) (some b.value) o) (get-remove k j m ∙ rw f))))

  pub get-insert : (k j : ℕ) (v : X) (m : List (Binding X)) → get k (insert j v m) ≡ cond (eqb j k) (some v) (get k m)
  get-insert k j v m = by_cases (eqb j k) (λ e. rw e) (λ e. rw e (get-remove k j m ∙ rw e))

-- a set or map that is put back, or removed where it is empty
pub get-settled : {A : Type 0} (k j : ℕ) (l : List A) (m : List (Binding (List A))) → unwrap_or [] (get k (settled j l m)) ≡ cond (eqb j k) l (unwrap_or [] (get k m))
get-settled k j [] m = rw (get-remove k j m) (by_cases (eqb j k) (λ e. rw e) (λ e. rw e))
get-settled k j (x ∷ l) m = rw (get-insert k j (x ∷ l) m) (by_cases (eqb j k) (λ e. rw e) (λ e. rw e))

-- x in the place of what had its key
pub instead : {A : Type 0} (key : A → List ℕ) (k : List ℕ) (x : A) (l : List A) → has key k (x ∷ without key (key x) l) ≡ same (key x) k || has key k l
instead key k x l = by_cases (same (key x) k) (λ e. rw e) (λ e. rw e (has-without key k (key x) l ∙ rw e))
