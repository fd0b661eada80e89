-- A frame of a manifest: how it is written. Assumes nothing.
use Rattle.std.specs.Prelude.{List, [], ◌∷◌, ◌++◌, map, ℕ}
use Rattle.manifest.specs.Operations.{Operation, begin, end}
use Rattle.manifest.specs.Lines.{text_of, line_text}
use Rattle.manifest.specs.Split.{joined}

-- the operations' lines, each with its newline
abbrev pub texts_of : List Operation → List ℕ
texts_of os = joined (map text_of os)

-- `B`, the operations' lines and `E`, each with its newline
abbrev pub frame_of : List Operation → List ℕ
frame_of os = joined (line_text begin ∷ (map text_of os ++ (line_text end ∷ [])))
