-- What is written is read back, and what is read is what would be written. Assumes nothing.
use Rattle.std.specs.Prelude.{Option, Some, None}
use mathlib.Core.Path.{◌≡◌, refl, ap, ◌∙◌}
use mathlib.Core.Bool.{Bool, true, false, cond, ◌&&◌}
use mathlib.Core.List.{List, [], ◌∷◌, ◌++◌, append_assoc}
use Prim.Native.Nat.{ℕ, zero, suc, ◌+◌, ◌-◌, ◌*◌, ◌/◌, ◌%◌, ◌^◌, ◌<◌, ◌≤◌}
use native.Mathlib.Nat.{add_assoc, pow-suc}
use native.Mathlib.Omega.{arith}
use native.Mathlib.Decide.{dec_lt}
use lib.Dec.{leb, ltb, eqb}
use lib.ListN.{length, length-append}
use borrow.Author.Tests.{ltb-false, lt-ltb, le-leb, ltb-true, leb-true}
use Rattle.text.specs.Class.{is_digit}
use Rattle.text.specs.Decimal.{digits, read_on, read_in, Stops, Starts}
use Rattle.lists.proofs.Tests.{by_cases, both}
use Rattle.lists.specs.Keyed.{all_of, any_of}
use Rattle.text.specs.Name.{is_name_byte}
use Rattle.text.proofs.Bytes.{digit-of, digit-bounds, name-byte-digit, name-bytes-without}
use Rattle.text.proofs.Decimal.{digits-small, digits-big, length-small, length-big}

one-digit : (limit i n : ℕ) (rest : List ℕ) → n < 10 → n ≤ limit → read_in limit (digits n ++ rest) i ≡ read_on limit rest n (i + length (digits n))
unfolding read_in
one-digit limit i n rest h q =
    let e : (48 + n) - 48 ≡ n = omega arith in
    rw (digits-small n h, digit-of n h, e, le-leb n limit q)

-- reading the digits of n goes on after them with n; f bounds n, for the induction
over : (limit i f n : ℕ) → Dec (n < 10) → (rest : List ℕ) → n ≤ f → n ≤ limit
    → read_in limit (digits n ++ rest) i ≡ read_on limit rest n (i + length (digits n))
unfolding read_in read_on
over limit i zero n (yes h) rest p q = one-digit limit i n rest h q
over limit i (suc f) n (yes h) rest p q = one-digit limit i n rest h q
over limit i zero n (no h) rest p q = absurd (h (omega arith))
over limit i (suc f) n (no h) rest p q =
    let big : 10 ≤ n = omega arith in
    let m : n % 10 < 10 = omega arith in
    let e : n / 10 * 10 + ((48 + n % 10) - 48) ≡ n = omega arith in
    let pos : 0 < n / 10 = omega arith in
    rw (length-big n big, digits-big n big, append_assoc, over limit i f (n / 10) (dec_lt (n / 10) 10) ((48 + n % 10) ∷ rest) (omega arith) (omega arith), digit-of (n % 10) m, lt-ltb 0 (n / 10) pos, e, le-leb n limit q, add_assoc)

stop : (limit : ℕ) (s : List ℕ) (n i : ℕ) → Stops s → read_on limit s n i ≡ Some (n, i)
unfolding read_on
stop limit [] n i h = refl
stop limit (b ∷ s) n i h = rw h

-- what is written is read back
pub read-digits : (limit i n : ℕ) (rest : List ℕ) → n ≤ limit → Stops rest → read_in limit (digits n ++ rest) i ≡ Some (n, i + length (digits n))
read-digits limit i n rest q h = over limit i n n (dec_lt n 10) rest (omega arith) q ∙ stop limit rest n (i + length (digits n)) h

digits-snoc : (m b : ℕ) → 0 < m → is_digit b ≡ true → digits (m * 10 + (b - 48)) ≡ digits m ++ (b ∷ [])
digits-snoc m b p d =
    let h = digit-bounds b d in
    let q : (m * 10 + (b - 48)) / 10 ≡ m = omega arith in
    let r : 48 + (m * 10 + (b - 48)) % 10 ≡ b = omega arith in
    rw (digits-big (m * 10 + (b - 48)) (omega arith), q, r)

-- reading on from the value m, whose text went before
record Onward (limit : ℕ) (s : List ℕ) (m i n j : ℕ) : Type 0 where
  rest : List ℕ
  text : digits m ++ s ≡ digits n ++ rest
  stops : Stops rest
  next : j + length (digits m) ≡ i + length (digits n)
  small : n ≤ limit

here : (limit : ℕ) (s : List ℕ) (m i n j : ℕ) → m ≤ limit → Stops s → ◌≡◌ {A = Option (ℕ × ℕ)} (Some (m, i)) (Some (n, j)) → Onward limit s m i n j
here limit s m i n j q h e =
    let p : ◌≡◌ {A = ℕ × ℕ} (m, i) (n, j) = cc in
    let en : m ≡ n = ap (λ (x : ℕ × ℕ). x.0) p in
    let ei : i ≡ j = ap (λ (x : ℕ × ℕ). x.1) p in
    record { rest = s; text = rw en; stops = h; next = rw (en, ei); small = omega arith }

never : {n j : ℕ} → ◌≡◌ {A = Option (ℕ × ℕ)} None (Some (n, j)) → ⊥
never e = let z : ◌≡◌ {A = ℕ} 0 1 = cc in omega arith

onward : (limit : ℕ) (s : List ℕ) (m i n j : ℕ) → m ≤ limit → read_on limit s m i ≡ Some (n, j) → Onward limit s m i n j
unfolding read_on
onward limit [] m i n j q e = here limit [] m i n j q tt e
onward limit (b ∷ s) m i n j q e =
    digit (is_digit b) (ltb 0 m && leb (m * 10 + (b - 48)) limit) refl refl e (λ l. onward limit s (m * 10 + (b - 48)) (i + 1) n j l)
  where
    digit : (t u : Bool) → is_digit b ≡ t → ltb 0 m && leb (m * 10 + (b - 48)) limit ≡ u
        → cond t (cond u (read_on limit s (m * 10 + (b - 48)) (i + 1)) None) (Some (m, i)) ≡ Some (n, j)
        → (m * 10 + (b - 48) ≤ limit → read_on limit s (m * 10 + (b - 48)) (i + 1) ≡ Some (n, j) → Onward limit s (m * 10 + (b - 48)) (i + 1) n j)
        → Onward limit (b ∷ s) m i n j
    digit false u d o e ih = here limit (b ∷ s) m i n j q d e
    digit true false d o e ih = absurd (never e)
    digit true true d o e ih =
        let w = both (ltb 0 m) (leb (m * 10 + (b - 48)) limit) o in
        let p = ltb-true 0 m w.0 in
        let r = ih (leb-true (m * 10 + (b - 48)) limit w.1) e in
        let x = digits-snoc m b p d in
        record { rest = r.rest; text = rw (x, append_assoc) at r.text; stops = r.stops; next = omega (arith, r.next, ap length x ∙ length-append (digits m) (b ∷ [])); small = r.small }

-- what is read is what would be written
pub read-converse : (limit : ℕ) (s : List ℕ) (i n j : ℕ) → read_in limit s i ≡ Some (n, j) → Starts limit s i n j
unfolding read_in
read-converse limit [] i n j e = absurd (never e)
read-converse limit (b ∷ s) i n j e = digit (is_digit b) (leb (b - 48) limit) refl refl e
  where
    digit : (t u : Bool) → is_digit b ≡ t → leb (b - 48) limit ≡ u
        → cond t (cond u (read_on limit s (b - 48) (i + 1)) None) None ≡ Some (n, j) → Starts limit (b ∷ s) i n j
    digit false u d o e = absurd (never e)
    digit true false d o e = absurd (never e)
    digit true true d o e =
        let h = digit-bounds b d in
        let r = onward limit s (b - 48) (i + 1) n j (leb-true (b - 48) limit o) e in
        let f : 48 + (b - 48) ≡ b = omega arith in
        let x : digits (b - 48) ≡ b ∷ [] = digits-small (b - 48) (omega arith) ∙ rw f in
        record { rest = r.rest; text = rw x at r.text; stops = r.stops; next = omega (arith, r.next, ap length x); small = r.small }

fit : (k n : ℕ) → Dec (n < 10) → n < 10 ^ suc k → length (digits n) ≤ suc k
fit zero n (yes l) h = omega (arith, length-small n l)
fit zero n (no l) h = absurd (l h)
fit (suc k) n (yes l) h = omega (arith, length-small n l)
fit (suc k) n (no l) h =
    let p = pow-suc 10 (suc k) in
    omega (arith, length-big n (omega arith), fit k (n / 10) (dec_lt (n / 10) 10) (omega arith))

-- k digits hold a number below 10 ^ k
pub digits-fit : (k n : ℕ) → n < 10 ^ suc k → length (digits n) ≤ suc k
digits-fit k n h = fit k n (dec_lt n 10) h

-- and one that is no less has more
pow-pos : (k : ℕ) → 0 < 10 ^ k
pow-pos zero = omega arith
pow-pos (suc k) = omega (arith, pow-suc 10 k, pow-pos k)

digits-least : (k n : ℕ) → 10 ^ k ≤ n → k < length (digits n)
digits-least zero n h =
    by_cases (ltb n 10)
    (λ e. omega (arith, length-small n (ltb-true n 10 e)))
    (λ e. omega (arith, length-big n (ltb-false n 10 e)))
digits-least (suc k) n h =
    let p = pow-suc 10 k in
    let q = pow-pos k in
    omega (arith, length-big n (omega arith), digits-least k (n / 10) (omega arith))

pub digits-count : (k n : ℕ) → 10 ^ k ≤ n → n < 10 * 10 ^ k → length (digits n) ≡ k + 1
digits-count k n h l =
    let p = pow-suc 10 k in
    omega (arith, digits-least k n h, digits-fit k n (omega arith))

pub digits-none : (n : ℕ) → n ≡ 0 → length (digits n) ≡ 1
digits-none n h = length-small n (omega arith)

-- how many digits there are, by a logarithm
pub ruleset digit_counts = (digits-count, digits-none)

-- every byte of a number's text is a digit, hence none another byte
all_snoc : (l : List ℕ) (b : ℕ) → all_of is_name_byte l ≡ true → is_digit b ≡ true → all_of is_name_byte (l ++ (b ∷ [])) ≡ true
all_snoc [] b h d = rw (name-byte-digit b d)
all_snoc (x ∷ l) b h d = let t = both (is_name_byte x) (all_of is_name_byte l) h in rw t.0 (all_snoc l b t.1 d)

name-bytes : (f n : ℕ) → Dec (n < 10) → n ≤ f → all_of is_name_byte (digits n) ≡ true
name-bytes zero n (yes h) p = rw (digits-small n h, name-byte-digit (48 + n) (digit-of n h))
name-bytes zero n (no h) p = absurd (h (omega arith))
name-bytes (suc f) n (yes h) p = rw (digits-small n h, name-byte-digit (48 + n) (digit-of n h))
name-bytes (suc f) n (no h) p =
    rw (digits-big n (omega arith))
    (all_snoc (digits (n / 10)) (48 + n % 10) (name-bytes f (n / 10) (dec_lt (n / 10) 10) (omega arith)) (digit-of (n % 10) (omega arith)))

pub digits-without : (c n : ℕ) → is_name_byte c ≡ false → any_of (λ b. eqb b c) (digits n) ≡ false
digits-without c n h = name-bytes-without c (digits n) h (name-bytes n n (dec_lt n 10) (omega arith))

-- a 64-bit number has at most 20 digits
pub digits-64 : (n : ℕ) → n ≤ 18446744073709551615 → length (digits n) ≤ 20
digits-64 n h = digits-fit 19 n (omega arith)

-- a 32-bit number has at most 10
pub digits-32 : (n : ℕ) → n ≤ 4294967295 → length (digits n) ≤ 10
digits-32 n h = digits-fit 9 n (omega arith)
