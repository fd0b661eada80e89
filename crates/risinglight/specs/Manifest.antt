-- `Manifest` of manifest.rs. Its values stand here for the JSON that they are written as. Assumes nothing.
use Rattle.std.specs.Prelude.{Bool, true, false, cond, List, [], ◌∷◌, ◌++◌, map}
use Rattle.manifest.specs.Operations.{Operation}
use Rattle.risinglight.specs.Maps.{Outcome, fails, ok}

-- `ManifestOperation`. The create of a table has its id, as the specification wants: the Rust counts creates. `N` is none of its operations
pub data Value : Type 0 where
  Begin : Value
  End : Value
  entry : Operation → Value

-- `append`
abbrev pub frame : List Operation → List Value
frame entries = Begin ∷ (map entry entries ++ (End ∷ []))

-- a file's bytes are values; where part of one stands at the end, the parser gives an error
abbrev pub read : List Value → Bool → Outcome (List Value)
read values part = cond part fails (ok values)

-- `replay`, as far as it has come
pub record Replaying : Type 0 where
  pub ops : List Operation
  pub buffered : List Operation
  pub begin : Bool

abbrev pub replaying : List Operation → List Operation → Bool → Replaying
replaying o b x = record { ops = o; buffered = b; begin = x }

-- a second `Begin` keeps what is buffered; an entry without one is left out
abbrev pub next : Value → Replaying → Replaying
next Begin s = replaying s.ops s.buffered true
next End s = replaying (s.ops ++ s.buffered) [] false
next (entry o) s = replaying s.ops (cond s.begin (s.buffered ++ (o ∷ [])) s.buffered) s.begin

abbrev pub replay_from : List Value → Replaying → Replaying
replay_from [] s = s
replay_from (v ∷ l) s = replay_from l (next v s)

abbrev pub replay : List Value → List Operation
replay file = (replay_from file (replaying [] [] false)).ops
