-- What the parser's readers of fields answer. Assumes nothing.
use Rattle.std.specs.Prelude.{Option, Some, None, ℕ, cond, List, [], ◌∷◌, ◌++◌, eqb, length}
use Rattle.ids.specs.declared.TableNo.{TableNo}
use Rattle.ids.specs.declared.RowsetNo.{RowsetNo}
use Rattle.ids.specs.declared.VectorNo.{VectorNo}
use Rattle.manifest.specs.Operations.{Operation, Line, operation, bad}
use Rattle.manifest.specs.Lines.{field_at}

-- numbers, and those that are read after them
abbrev pub read_after : List ℕ → Option (List ℕ) → Option (List ℕ)
read_after ns (Some ms) = Some (ns ++ ms)
read_after ns None = None

abbrev pub then_read : Option (ℕ × ℕ) → (ℕ → ℕ → Option (List ℕ)) → Option (List ℕ)
then_read (Some p) f = f p.0 p.1
then_read None f = None

-- fields from i to the line's end, one for each limit
unfoldable pub fields_at : List ℕ → List ℕ → ℕ → Option (List ℕ)
fields_at [] s i = cond (eqb (length s) i) (Some []) None
fields_at (l ∷ ls) s i = then_read (field_at l s i) (λ n j. read_after (n ∷ []) (fields_at ls s j))

-- the numbers of ids
abbrev pub two_numbers : Option (TableNo × RowsetNo) → Option (List ℕ)
two_numbers (Some p) = Some (p.0.0 ∷ p.1.0 ∷ [])
two_numbers None = None

abbrev pub three_numbers : Option (TableNo × RowsetNo × VectorNo) → Option (List ℕ)
three_numbers (Some p) = Some (p.0.0 ∷ p.1.0 ∷ p.2.0 ∷ [])
three_numbers None = None

-- for each operation f that the numbers may be of, the line
abbrev pub of_two : (ℕ → ℕ → Operation) → Option (TableNo × RowsetNo) → Line
of_two f (Some p) = operation (f p.0.0 p.1.0)
of_two f None = bad

abbrev pub of_three : (ℕ → ℕ → ℕ → Operation) → Option (TableNo × RowsetNo × VectorNo) → Line
of_three f (Some p) = operation (f p.0.0 p.1.0 p.2.0)
of_three f None = bad
