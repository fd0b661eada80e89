-- Decimal numbers as text: the digits of a number, and what reading at a place finds, the number and the place after it. Assumes nothing.
use Rattle.std.specs.Prelude.{Option, Some, None, ℕ, zero, suc, ◌+◌, ◌-◌, ◌*◌, ◌/◌, ◌%◌, ◌≤◌, ◌≡◌, Bool, true, false, cond, ◌&&◌, List, [], ◌∷◌, ◌++◌, leb, ltb, length, drop}
use Rattle.text.specs.Class.{is_digit}

-- the count f bounds the digits, and the Bool says whether n is below 10: as a clause's own argument, so that a call computes no further than it must
unfoldable pub digits_by : ℕ → Bool → ℕ → List ℕ
digits_by zero small n = (48 + n) ∷ []
digits_by (suc f) true n = (48 + n) ∷ []
digits_by (suc f) false n = digits_by f (ltb (n / 10) 10) (n / 10) ++ ((48 + n % 10) ∷ [])

-- the decimal text of n, with no leading zero
unfoldable pub digits : ℕ → List ℕ
digits n = digits_by n (ltb n 10) n

-- reading goes on at the text s, whose first byte stands at i; n is the value of the digits before it
unfoldable pub read_on : ℕ → List ℕ → ℕ → ℕ → Option (ℕ × ℕ)
read_on limit [] n i = Some (n, i)
read_on limit (b ∷ s) n i =
    cond (is_digit b)
    (cond (ltb 0 n && leb (n * 10 + (b - 48)) limit) (read_on limit s (n * 10 + (b - 48)) (i + 1)) None)
    (Some (n, i))

-- the number at the start of the text s, whose first byte stands at i: at most limit, and 0 is only written 0
unfoldable pub read_in : ℕ → List ℕ → ℕ → Option (ℕ × ℕ)
read_in limit [] i = None
read_in limit (b ∷ s) i =
    cond (is_digit b) (cond (leb (b - 48) limit) (read_on limit s (b - 48) (i + 1)) None) None

-- the number at the place i of s
unfoldable pub read_at : ℕ → List ℕ → ℕ → Option (ℕ × ℕ)
read_at limit s i = read_in limit (drop i s) i

-- the text s does not go on with a digit
abbrev pub Stops : List ℕ → Type 0
Stops [] = Unit {0}
Stops (b ∷ s) = is_digit b ≡ false

-- the text s, whose first byte stands at i, starts with the number n, which is at most limit; `rest` follows it, at j
pub record Starts (limit : ℕ) (s : List ℕ) (i n j : ℕ) : Type 0 where
  pub rest : List ℕ
  pub text : s ≡ digits n ++ rest
  pub stops : Stops rest
  pub next : j ≡ i + length (digits n)
  pub small : n ≤ limit
