-- What reading and writing numbers have to do with each other. Assumes nothing.
use Rattle.std.specs.Prelude.{Some, ℕ, suc, ◌+◌, ◌^◌, ◌<◌, ◌≤◌, ◌≡◌, List, ◌++◌, length}
use Rattle.text.specs.Decimal.{digits, read_in, Stops, Starts}

pub record NumbersAgree : Type 0 where
  -- what is written reads back, where no digit follows
  pub written : (limit i n : ℕ) (rest : List ℕ) → n ≤ limit → Stops rest → read_in limit (digits n ++ rest) i ≡ Some (n, i + length (digits n))
  -- what is read is what would be written
  pub read : (limit : ℕ) (s : List ℕ) (i n j : ℕ) → read_in limit s i ≡ Some (n, j) → Starts limit s i n j
  -- the length of a number's text
  pub fit : (k n : ℕ) → n < 10 ^ suc k → length (digits n) ≤ suc k
