-- Laws of decimal text. Assumes nothing.
use Rattle.std.specs.Prelude.{Option, Some, None}
use mathlib.Core.Path.{◌≡◌, refl, ap, ◌∙◌}
use mathlib.Core.Bool.{Bool, true, false, cond, ◌&&◌}
use mathlib.Core.List.{List, [], ◌∷◌, ◌++◌}
use Prim.Native.Nat.{ℕ, zero, suc, ◌+◌, ◌-◌, ◌*◌, ◌/◌, ◌%◌, ◌<◌, ◌≤◌}
use native.Mathlib.Numerals.{add-one}
use native.Mathlib.Omega.{arith}
use lib.Dec.{leb, ltb}
use lib.ListN.{length, get_or, drop, drop_of_length-le, length-append}
use lib.Seq.{drop-cons}
use borrow.Author.Tests.{lt-ltb, le-ltb, le-leb, lt-leb, ltb-false}
use Rattle.text.specs.Class.{is_digit}
use Rattle.lists.proofs.Tests.{by_cases}
use Rattle.text.proofs.Bytes.{digit-bounds}
use Rattle.text.specs.Decimal.{digits_by, digits, read_on, read_in, read_at}

-- the text does not depend on the bound
bound : (f g n : ℕ) (t : Bool) → ltb n 10 ≡ t → n ≤ f → n ≤ g → digits_by f t n ≡ digits_by g t n
unfolding digits_by
bound zero zero n t e p q = refl
bound zero (suc g) n true e p q = refl
bound zero (suc g) n false e p q = absurd (omega (arith, ltb-false n 10 e))
bound (suc f) zero n true e p q = refl
bound (suc f) zero n false e p q = absurd (omega (arith, ltb-false n 10 e))
bound (suc f) (suc g) n true e p q = refl
bound (suc f) (suc g) n false e p q =
    let l = ltb-false n 10 e in
    ap (λ (x : List ℕ). x ++ ((48 + n % 10) ∷ [])) (bound f g (n / 10) (ltb (n / 10) 10) refl (omega arith) (omega arith))

pub digits-small : (n : ℕ) → n < 10 → digits n ≡ (48 + n) ∷ []
unfolding digits digits_by
digits-small zero h = refl
digits-small (suc m) h = rw (lt-ltb (suc m) 10 h)

pub digits-big : (n : ℕ) → 10 ≤ n → digits n ≡ digits (n / 10) ++ ((48 + n % 10) ∷ [])
unfolding digits digits_by
digits-big zero h = absurd (omega arith)
digits-big (suc m) h =
    rw (le-ltb (suc m) 10 h)
    (ap (λ (x : List ℕ). x ++ ((48 + suc m % 10) ∷ [])) (bound m (suc m / 10) (suc m / 10) (ltb (suc m / 10) 10) refl (omega arith) (omega arith)))

pub length-small : (n : ℕ) → n < 10 → length (digits n) ≡ 1
length-small n h = ap length (digits-small n h)

pub length-big : (n : ℕ) → 10 ≤ n → length (digits n) ≡ length (digits (n / 10)) + 1
length-big n h = ap length (digits-big n h) ∙ length-append (digits (n / 10)) ((48 + n % 10) ∷ [])

-- how long the text is
pub ruleset digit_lengths = (length-small, length-big)

-- reading on at the place i of s
unfoldable pub read_from : ℕ → List ℕ → ℕ → ℕ → Option (ℕ × ℕ)
read_from limit s n i = read_on limit (drop i s) n i

-- one byte on
on : (limit : ℕ) (s : List ℕ) (n i : ℕ) → i < length s
    → read_from limit s n i ≡ cond (is_digit (get_or s i 0))
    (cond (ltb 0 n && leb (n * 10 + (get_or s i 0 - 48)) limit) (read_from limit s (n * 10 + (get_or s i 0 - 48)) (i + 1)) None)
    (Some (n, i))
unfolding read_from read_on
on limit s n i h = rw (drop-cons s i 0 h, add-one)

pub on-end : (limit : ℕ) (s : List ℕ) (n i : ℕ) → length s ≤ i → read_from limit s n i ≡ Some (n, i)
unfolding read_from read_on
on-end limit s n i h = rw (drop_of_length-le s h)

pub on-stop : (limit : ℕ) (s : List ℕ) (n i : ℕ) → i < length s → is_digit (get_or s i 0) ≡ false → read_from limit s n i ≡ Some (n, i)
on-stop limit s n i h d = on limit s n i h ∙ rw d

pub on-zero : (limit : ℕ) (s : List ℕ) (n i : ℕ) → i < length s → is_digit (get_or s i 0) ≡ true → n ≡ 0 → read_from limit s n i ≡ None
on-zero limit s n i h d z = on limit s n i h ∙ rw (d, le-ltb 0 n (omega arith))

pub on-over : (limit : ℕ) (s : List ℕ) (n i : ℕ) → i < length s → is_digit (get_or s i 0) ≡ true → limit < n * 10 + (get_or s i 0 - 48)
    → read_from limit s n i ≡ None
on-over limit s n i h d o =
    on limit s n i h ∙ rw (d, lt-leb (n * 10 + (get_or s i 0 - 48)) limit o) (by_cases (ltb 0 n) (λ e. rw e) (λ e. rw e))

pub on-more : (limit : ℕ) (s : List ℕ) (n i : ℕ) → i < length s → is_digit (get_or s i 0) ≡ true → 0 < n → n * 10 + (get_or s i 0 - 48) ≤ limit
    → read_from limit s n i ≡ read_from limit s (n * 10 + (get_or s i 0 - 48)) (i + 1)
on-more limit s n i h d p o = on limit s n i h ∙ rw (d, lt-ltb 0 n p, le-leb (n * 10 + (get_or s i 0 - 48)) limit o)

start : (limit : ℕ) (s : List ℕ) (i : ℕ) → i < length s
    → read_at limit s i ≡ cond (is_digit (get_or s i 0))
    (cond (leb (get_or s i 0 - 48) limit) (read_from limit s (get_or s i 0 - 48) (i + 1)) None)
    None
unfolding read_at read_in read_from
start limit s i h = rw (drop-cons s i 0 h, add-one)

pub start-end : (limit : ℕ) (s : List ℕ) (i : ℕ) → length s ≤ i → read_at limit s i ≡ None
unfolding read_at read_in read_from
start-end limit s i h = rw (drop_of_length-le s h)

pub start-stop : (limit : ℕ) (s : List ℕ) (i : ℕ) → i < length s → is_digit (get_or s i 0) ≡ false → read_at limit s i ≡ None
start-stop limit s i h d = start limit s i h ∙ rw d

pub start-over : (limit : ℕ) (s : List ℕ) (i : ℕ) → i < length s → is_digit (get_or s i 0) ≡ true → limit < get_or s i 0 - 48 → read_at limit s i ≡ None
start-over limit s i h d o = start limit s i h ∙ rw (d, lt-leb (get_or s i 0 - 48) limit o)

pub start-more : (limit : ℕ) (s : List ℕ) (i : ℕ) → i < length s → is_digit (get_or s i 0) ≡ true → get_or s i 0 - 48 ≤ limit
    → read_at limit s i ≡ read_from limit s (get_or s i 0 - 48) (i + 1)
start-more limit s i h d o = start limit s i h ∙ rw (d, le-leb (get_or s i 0 - 48) limit o)

-- what a byte says of the number at a place
pub ruleset number_steps = (digit-bounds, start-end, start-stop, start-over, start-more, on-end, on-stop, on-zero, on-over, on-more)
