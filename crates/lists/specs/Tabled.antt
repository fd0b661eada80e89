-- The list of what a rule says, place by place. Assumes nothing.
use Rattle.std.specs.Prelude.{ℕ, zero, suc, List, [], ◌∷◌}

-- what f says of i, i + 1, .., n numbers in all
abbrev pub tabled : (ℕ → ℕ) → ℕ → ℕ → List ℕ
tabled f i zero = []
tabled f i (suc n) = f i ∷ tabled f (suc i) n
