-- Worked examples of what both the port and the record rest on, against literals. Assumes nothing.
use Rattle.std.specs.Prelude.{◌≡◌, true, false, List, [], ◌∷◌, ℕ, Ok}
use Rattle.lists.specs.Order.{less}
use Rattle.lists.specs.Keyed.{put, without, arranged}
use Rattle.manifest.specs.Operations.{add_rowset, delete_rowset, create_table, operation, bad}
use Rattle.manifest.specs.Lines.{line_of}
use Rattle.manifest.specs.Split.{lines}
use Rattle.manifest.specs.Edits.{table}
use Rattle.pins.specs.Book.{place_on}
use Rattle.pins.specs.Guards.{guards_by, blocked}
use Rattle.pins.specs.Counts.{pins_on}
use Rattle.version_state.specs.State.{start, with_next, with_epoch}
use Rattle.version_manager.specs.Draw.{rowset_drawn}
use Rattle.rewrite.specs.Rewritten.{rewritten_of}
use Rattle.replay.specs.Replay.{reopened, replay_of}
use Rattle.plain_record.specs.Sets.{none, itself, sets}
use Rattle.plain_record.specs.Calls.{Call, commit, pin, unpin, report, reopen, kind_of}
use Rattle.plain_record.specs.Plain.{waiting_as, by_epoch_and_pair, plain, table_id, rowset_id, one_pin, one_less, listed, Record, at_start, turn}

-- the record after accepted calls, none of them a create
abbrev pub record_after : List Call → Record → Record
record_after [] r = r
record_after (c ∷ cs) r = record_after cs (turn (kind_of c) true 0 r)

-- the pair (0, 0), and a name
abbrev pub pair : List ℕ
pair = 0 ∷ 0 ∷ []

abbrev pub name : List ℕ
name = 97 ∷ []

-- a table with the pair, a deletion of it whose last byte is missing, a reopen, and the deletion once more: its epoch and pair come again
abbrev pub again : List Call
again =
    commit (create_table 0 7 name ∷ add_rowset 0 0 ∷ []) [] 0
    ∷ commit (delete_rowset 0 0 ∷ []) [] 1
    ∷ reopen [] false
    ∷ pin
    ∷ commit (delete_rowset 0 0 ∷ []) [] 0
    ∷ []

-- the table with the pair, two pins, and the deletion of the pair, which is reported: an unpin between stays
abbrev pub short : List Call
short =
    commit (create_table 0 7 name ∷ add_rowset 0 0 ∷ []) [] 0
    ∷ pin
    ∷ pin
    ∷ commit (delete_rowset 0 0 ∷ []) [] 0
    ∷ unpin 1
    ∷ report 3
    ∷ []

pub record Examples : Type 0 where
  -- the order, field by field
  pub first : less (1 ∷ 9 ∷ []) (2 ∷ 0 ∷ []) ≡ true
  pub second : less (1 ∷ 8 ∷ []) (1 ∷ 9 ∷ []) ≡ true
  pub equal : less (1 ∷ 9 ∷ []) (1 ∷ 9 ∷ []) ≡ false
  -- put in, in order and once; taken out
  pub between : put itself (0 ∷ 1 ∷ []) ((0 ∷ 0 ∷ []) ∷ (1 ∷ 0 ∷ []) ∷ []) ≡ (0 ∷ 0 ∷ []) ∷ (0 ∷ 1 ∷ []) ∷ (1 ∷ 0 ∷ []) ∷ []
  pub once : put itself (0 ∷ 1 ∷ []) ((0 ∷ 1 ∷ []) ∷ []) ≡ (0 ∷ 1 ∷ []) ∷ []
  pub out : without itself (0 ∷ 1 ∷ []) ((0 ∷ 1 ∷ []) ∷ (1 ∷ 0 ∷ []) ∷ []) ≡ (1 ∷ 0 ∷ []) ∷ []
  pub in_order : arranged by_epoch_and_pair (waiting_as 3 (0 ∷ 0 ∷ []) 5 0 ∷ waiting_as 2 (1 ∷ 0 ∷ []) 4 0 ∷ waiting_as 2 (0 ∷ 1 ∷ []) 4 1 ∷ [])
      ≡ waiting_as 2 (0 ∷ 1 ∷ []) 4 1 ∷ waiting_as 2 (1 ∷ 0 ∷ []) 4 0 ∷ waiting_as 3 (0 ∷ 0 ∷ []) 5 0 ∷ []
  -- pins: one on epoch 1, two on 2; then one less on each
  pub pinned : one_pin 2 (one_pin 1 (one_pin 2 [])) ≡ pins_on (place_on 1) 1 ∷ pins_on (place_on 2) 2 ∷ []
  pub unpinned : one_less 2 (one_less 1 (pins_on (place_on 1) 1 ∷ pins_on (place_on 2) 2 ∷ [])) ≡ pins_on (place_on 2) 1 ∷ []
  -- a pin on epoch 2 keeps a deletion at 3, and not one at 2
  pub blocks : blocked (guards_by 3 (pins_on (place_on 2) 1 ∷ [])) 3 ≡ true
  pub own_epoch : blocked (guards_by 3 (pins_on (place_on 2) 1 ∷ [])) 2 ≡ false
  -- `B`, a newline, `E`: one line. `A,0,12`; `A,0,01`.
  pub one_line : lines (66 ∷ 10 ∷ 69 ∷ []) ≡ (66 ∷ []) ∷ []
  pub added : line_of (65 ∷ 44 ∷ 48 ∷ 44 ∷ 49 ∷ 50 ∷ []) ≡ operation (add_rowset 0 12)
  pub zero : line_of (65 ∷ 44 ∷ 48 ∷ 44 ∷ 48 ∷ 49 ∷ []) ≡ bad
  -- the deletion at epoch 2 that came again is the fifth call's, kept by the pin on epoch 1; a vacuum would list none
  pub told : (record_after again at_start).whole
      ≡ plain (none ∷ sets (table 0 7 name ∷ []) (pair ∷ []) [] ∷ []) (sets (table 0 7 name ∷ []) [] []) (pins_on (place_on 1) 1 ∷ []) (waiting_as 2 pair 4 0 ∷ []) (table_id 0 ∷ rowset_id 0 ∷ [])
  pub kept : listed (record_after again at_start).whole ≡ []
  -- the deletion, its epoch and the set that it left are taken off; one pin is left
  pub taken_back : (record_after short at_start).whole ≡ plain (none ∷ []) (sets (table 0 7 name ∷ []) (pair ∷ []) []) (pins_on (place_on 1) 1 ∷ []) [] (table_id 0 ∷ rowset_id 0 ∷ [])
  -- a draw and a checkpoint: from the old manifest the same rowset id would be drawn again, from the new one the id after it
  pub undrawn : replay_of [] ≡ Ok (with_next (with_epoch start reopened 0) 0 0 0)
  pub drawn : replay_of (rewritten_of (rowset_drawn start)) ≡ Ok (with_next (with_epoch start reopened 0) 0 1 0)
