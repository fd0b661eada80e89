-- Laws of the encoding. Assumes nothing.
use Rattle.std.proofs.Common.{◌≡◌, ℕ, zero, suc, ◌+◌, ◌/◌, ◌%◌, ◌<◌, ◌≤◌, Bool, true, false, ltb, List, [], ◌∷◌, refl, ap, arith, ltb-false, ltb-true, le-ltb, lt-ltb}
use Rattle.lists.proofs.Tests.{by_cases}
use Rattle.delete_vector.specs.Encoding.{varint_by, varint, value_of}

-- a varint does not depend on the bound
bound : (f g n : ℕ) (t : Bool) → ltb n 128 ≡ t → n ≤ f → n ≤ g → varint_by f t n ≡ varint_by g t n
unfolding varint_by
bound zero zero n t e p q = refl
bound zero (suc g) n true e p q = refl
bound zero (suc g) n false e p q = absurd (omega (arith, ltb-false n 128 e))
bound (suc f) zero n true e p q = refl
bound (suc f) zero n false e p q = absurd (omega (arith, ltb-false n 128 e))
bound (suc f) (suc g) n true e p q = refl
bound (suc f) (suc g) n false e p q =
    let l = ltb-false n 128 e in
    ap (λ (x : List ℕ). (128 + n % 128) ∷ x) (bound f g (n / 128) (ltb (n / 128) 128) refl (omega arith) (omega arith))

pub varint-small : (n : ℕ) → n < 128 → varint n ≡ n ∷ []
unfolding varint varint_by
varint-small zero h = refl
varint-small (suc m) h = rw (lt-ltb (suc m) 128 h)

pub varint-big : (n : ℕ) → 128 ≤ n → varint n ≡ (128 + n % 128) ∷ varint (n / 128)
unfolding varint varint_by
varint-big zero h = absurd (omega arith)
varint-big (suc m) h =
    rw (le-ltb (suc m) 128 h)
    (ap (λ (x : List ℕ). (128 + suc m % 128) ∷ x) (bound m (suc m / 128) (suc m / 128) (ltb (suc m / 128) 128) refl (omega arith) (omega arith)))

-- the groups of a varint stand for its number
value-by : (f n : ℕ) → n ≤ f → value_of (varint n) ≡ n
value-by zero n h = rw (varint-small n (omega arith)) (omega arith)
value-by (suc f) n h =
    by_cases (ltb n 128)
    (λ e. rw (varint-small n (ltb-true n 128 e)) (omega (arith, ltb-true n 128 e)))
    (λ e. let l = ltb-false n 128 e in rw (varint-big n l, value-by f (n / 128) (omega arith)) (omega arith))

pub value-varint : (n : ℕ) → value_of (varint n) ≡ n
value-varint n = value-by n n (omega arith)
