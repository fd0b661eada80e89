-- Lines and frames as they are read. Internal: the contract of a replay is in `Replay`. Assumes nothing.
use Rattle.std.specs.Prelude.{◌≡◌, cond, leb, List, [], ◌∷◌, ◌++◌, map, ℕ, ◌+◌, ◌-◌, ◌≤◌, ◌<◌, length, take, drop, Result, Ok, Err, Option, Some, None}
use Rattle.ids.specs.Limits.{most_operations}
use Rattle.ids.specs.declared.refusal.Refusal.{Refusal}
use Rattle.ids.specs.declared.refusal.Refusal.TheVariants.{TooManyOperations}
use Rattle.manifest.specs.Operations.{Operation, Line, begin, end, torn, operation, bad}
use Rattle.manifest.specs.Lines.{line_of}
use Rattle.manifest.specs.Split.{lines_from}
use Rattle.manifest.specs.declared.reader.LineAt.{LineAt}
use Rattle.replay.specs.declared.frame.Begun.{Begun}
use Rattle.replay.specs.declared.sets.Sets.{Sets}
use Rattle.replay.specs.Replay.{Frame, none, opened, Carried, carried}
use Rattle.replay.specs.Sets.{state_in, RoomFor}

-- what the lines from a place on say, and the operations that come first among them
abbrev pub said_from : List ℕ → ℕ → List Line
said_from src at = map line_of (lines_from src at)

-- a line's bytes and its newline are among the bytes
pub record Lies (src : List ℕ) (l : LineAt) : Type 0 where
  pub start : l.start ≤ l.end
  pub end : l.end < l.next
  pub inside : l.next ≤ length src

-- what a line says
abbrev pub said_at : List ℕ → LineAt → Line
said_at src l = line_of (take (l.end - l.start) (drop l.start src))

-- the operation among what a line may say
abbrev pub operation_on : Line → Option Operation
operation_on begin = None
operation_on end = None
operation_on torn = None
operation_on (operation o) = Some o
operation_on bad = None

unfoldable pub leading : List Line → List Operation
leading [] = []
leading (begin ∷ l) = []
leading (end ∷ l) = []
leading (torn ∷ l) = []
leading (operation o ∷ l) = o ∷ leading l
leading (bad ∷ l) = []

-- an open frame is known by the place and the number of the line after its `B`, and by how many operations follow
pub record Opened (src : List ℕ) (at : ℕ) (o : Begun) (f : Frame) : Type 0 where
  pub ops : List Operation
  pub frame : f ≡ opened o.line ops
  pub said : said_from src o.place ≡ map operation ops ++ said_from src at
  pub count : o.count ≡ length ops

abbrev pub FrameIs : List ℕ → ℕ → Option Begun → Frame → Type 0
FrameIs src at (Some o) f = Opened src at o f
FrameIs src at None f = f ≡ none

-- an operation on line n is counted in an open frame, up to the most that there may be
abbrev pub one_more : ℕ → Option Begun → Result (Option Begun) Refusal
one_more n None = Ok None
one_more n (Some o) = cond (leb most_operations o.count) (Err (TooManyOperations n)) (Ok (Some (record { place = o.place; line = o.line; count = o.count + 1 })))

-- what may be read further
pub record Within (src : List ℕ) (o : Begun) : Type 0 where
  pub most : o.count ≤ most_operations
  pub line : o.line ≤ o.place + 1
  pub inside : o.place ≤ length src

abbrev pub OpenWithin : List ℕ → Option Begun → Type 0
OpenWithin src (Some o) = Within src o
OpenWithin src None = Unit {0}

-- the sets and the open frame are what is carried to line n, at a place
pub record Carrying (x : Result Carried Refusal) (src : List ℕ) (at n : ℕ) (l : Sets) (o : Option Begun) : Type 0 where
  pub frame : Frame
  pub same : x ≡ Ok (carried (state_in l) frame n)
  pub known : FrameIs src at o frame
  pub within : OpenWithin src o
  pub room : RoomFor most_operations l

-- it is refused, or that is carried
abbrev pub Carries : Result Carried Refusal → List ℕ → ℕ → ℕ → Sets → Result (Option Begun) Refusal → Type 0
Carries x src at n l (Err k) = x ≡ Err k
Carries x src at n l (Ok o) = Carrying x src at n l o

-- the sets are the state at the end of all lines
pub record Ended (x : Result Carried Refusal) (l : Sets) : Type 0 where
  pub frame : Frame
  pub line : ℕ
  pub same : x ≡ Ok (carried (state_in l) frame line)
  pub room : RoomFor most_operations l

abbrev pub Ends : Result Carried Refusal → Sets → Result Unit Refusal → Type 0
Ends x l (Err k) = x ≡ Err k
Ends x l (Ok u) = Ended x l
