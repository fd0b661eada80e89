-- Numbers, or several, compared as a type whose comparisons are derived does it. Assumes nothing.
use Rattle.std.proofs.Common.{◌≡◌, ℕ, [], ◌∷◌, List, ltb, eqb, refl, ap, ◌∙◌}
use mathlib.Core.Path.{sym}
use mathlib.Core.Bool.{◌&&◌, and-true}
use Rattle.std.specs.Prelude.{Some}
use Rattle.std.specs.Ordering.{nat_cmp, ordering_then, partial_ordering_then}
use Rattle.std.specs.declared.cmp.Ordering.{Ordering}
use Rattle.std.specs.declared.cmp.Ordering.TheVariants.{Less, Equal, Greater}
use Rattle.lists.specs.Order.{less, same, compared}
use Rattle.lists.proofs.Tests.{by_cases}
use native.Mathlib.Omega.{arith}
use borrow.Author.Tests.{le-ltb}
use Rattle.lists.proofs.Order.{lex-last}

pub compared-one : (a b : ℕ) → nat_cmp a b ≡ compared (a ∷ []) (b ∷ [])
compared-one a b = by_cases (ltb a b) (λ t. rw t refl) (λ t. by_cases (eqb a b) (λ u. rw (t, u) refl) (λ u. rw (t, u) refl))

pub compared-more : (a b : ℕ) (l m : List ℕ) → ordering_then (nat_cmp a b) (compared l m) ≡ compared (a ∷ l) (b ∷ m)
compared-more a b l m = by_cases (ltb a b) (λ t. rw t refl) (λ t. by_cases (eqb a b) (λ u. rw (t, u) refl) (λ u. rw (t, u) refl))

pub compared-two : (a b x y : ℕ) → ordering_then (nat_cmp a x) (nat_cmp b y) ≡ compared (a ∷ b ∷ []) (x ∷ y ∷ [])
compared-two a b x y = ap (ordering_then (nat_cmp a x)) (compared-one b y) ∙ compared-more a x (b ∷ []) (y ∷ [])

pub compared-three : (a b c x y z : ℕ) → ordering_then (nat_cmp a x) (ordering_then (nat_cmp b y) (nat_cmp c z)) ≡ compared (a ∷ b ∷ c ∷ []) (x ∷ y ∷ z ∷ [])
compared-three a b c x y z = ap (ordering_then (nat_cmp a x)) (compared-two b c y z) ∙ compared-more a x (b ∷ c ∷ []) (y ∷ z ∷ [])

-- the order of two fields, as `partial_cmp` answers it
pub partial-then : (x y : Ordering) → partial_ordering_then (Some x) (Some y) ≡ Some (ordering_then x y)
partial-then Less y = refl
partial-then Equal y = refl
partial-then Greater y = refl

pub partial-two : (a b x y : ℕ) → partial_ordering_then (Some (nat_cmp a x)) (Some (nat_cmp b y)) ≡ Some (compared (a ∷ b ∷ []) (x ∷ y ∷ []))
partial-two a b x y = partial-then (nat_cmp a x) (nat_cmp b y) ∙ ap Some (compared-two a b x y)

pub partial-three : (a b c x y z : ℕ) → partial_ordering_then (Some (nat_cmp a x)) (partial_ordering_then (Some (nat_cmp b y)) (Some (nat_cmp c z))) ≡ Some (compared (a ∷ b ∷ c ∷ []) (x ∷ y ∷ z ∷ []))
partial-three a b c x y z =
    ap (partial_ordering_then (Some (nat_cmp a x))) (partial-two b c y z)
    ∙ partial-then (nat_cmp a x) (compared (b ∷ c ∷ []) (y ∷ z ∷ []))
    ∙ ap Some (compared-more a x (b ∷ c ∷ []) (y ∷ z ∷ []))

-- and whether they are the same, as `eq` answers it
pub same-two : (a b x y : ℕ) → eqb a x && eqb b y ≡ same (a ∷ b ∷ []) (x ∷ y ∷ [])
same-two a b x y = ap (λ t. eqb a x && t) (sym (and-true (eqb b y)))

pub same-three : (a b c x y z : ℕ) → eqb a x && (eqb b y && eqb c z) ≡ same (a ∷ b ∷ c ∷ []) (x ∷ y ∷ z ∷ [])
same-three a b c x y z = ap (λ t. eqb a x && t) (same-two b c y z)

-- rows of two or three numbers stand before a row of one number and zeros where their first number is below it
pub below-two : (x y t : ℕ) → less (x ∷ y ∷ []) (t ∷ 0 ∷ []) ≡ ltb x t
below-two x y t = rw (lex-last y 0, le-ltb y 0 (omega arith)) (lex-last x t)

pub below-three : (x y z t : ℕ) → less (x ∷ y ∷ z ∷ []) (t ∷ 0 ∷ 0 ∷ []) ≡ ltb x t
below-three x y z t = rw (lex-last z 0, le-ltb z 0 (omega arith)) (below-two x y t)
