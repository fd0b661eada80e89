-- Names as they are written into a lent slice: room for the longest name for each table. Assumes nothing.
use Rattle.std.specs.Prelude.{List, [], ◌∷◌, ◌++◌, map, ℕ, zero, suc, ◌-◌, length}
use Rattle.ids.specs.Names.{longest_name}
use Rattle.snapshot.specs.Tables.{TableEntry}

abbrev pub zeros : ℕ → List ℕ
zeros zero = []
zeros (suc n) = 0 ∷ zeros n

-- a name's bytes, and zeros up to the most that a name may have
abbrev pub padded : List ℕ → List ℕ
padded n = n ++ zeros (longest_name - length n)

-- padded names, one after another
abbrev pub padded_run : List (List ℕ) → List ℕ
padded_run [] = []
padded_run (n ∷ l) = padded n ++ padded_run l

-- those of tables
abbrev pub names_run : List TableEntry → List ℕ
names_run l = padded_run (map (λ (t : TableEntry). t.name) l)
