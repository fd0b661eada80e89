-- Managers, books and events of which the lists are made that tell wrong managers apart, and what the port says of them. Assumes nothing.
use mathlib.Core.Path.{◌≡◌, refl, sym, ap, ◌∙◌}
use mathlib.Core.Bool.{Bool, true, false, true≢false}
use mathlib.Core.List.{List, [], ◌∷◌, ◌++◌}
use Prim.Native.Nat.{ℕ, ◌-◌, ◌≤◌}
use native.Mathlib.Omega.{arith}
use lib.Dec.{eqb}
use lib.ListN.{length, replicate}
use borrow.Author.Tests.{eq-eqb}
use Rattle.std.specs.Prelude.{Ok, Err}
use Rattle.columns.specs.Rows.{rows}
use Rattle.ids.specs.Ids.{largest32}
use Rattle.ids.specs.Limits.{most_tables, most_held}
use Rattle.ids.specs.declared.TableNo.{TableNo}
use Rattle.ids.specs.declared.refusal.Refusal.{Refusal}
use Rattle.ids.specs.declared.refusal.Refusal.TheVariants.{OutputTooShort}
use Rattle.ids.specs.Answers.{Told, told}
use Rattle.text.specs.Class.{is_digit, is_lower}
use Rattle.text.specs.Name.{is_name_byte, is_name}
use Rattle.text.specs.Decimal.{digits_by, digits}
use Rattle.manifest.specs.Operations.{Operation, create_table, add_rowset, delete_rowset, add_vector}
use Rattle.manifest.specs.Edits.{Table, table}
use Rattle.manifest.specs.Lines.{fields_text, text_of}
use Rattle.snapshot.specs.declared.rowsets.Rowsets.{Rowsets}
use Rattle.snapshot.specs.declared.tables.Tables.{Tables}
use Rattle.snapshot.specs.declared.vectors.Vectors.{Vectors}
use Rattle.snapshot.specs.Tables.{name_bytes}
use Rattle.snapshot.specs.Entries.{gone_at, shown_at}
use Rattle.version_state.specs.declared.VersionManagerInner.{VersionManagerInner}
use Rattle.version_state.specs.State.{Fit}
use Rattle.pins.specs.declared.PinBook.{PinBook}
use Rattle.pins.specs.Book.{most_pinned, Keeps}
use Rattle.operations.specs.Steps.{step_of}
use Rattle.version_state.specs.Widths.{Narrow}
use Rattle.compaction.specs.New.{NewRowset, new_of}
use Rattle.version_manager.specs.declared.VersionManager.{VersionManager}
use Rattle.version_manager.specs.declared.Opened.{Opened}
use Rattle.version_manager.specs.Answered.{DrawnRowset, DrawnVector, Committed, Created, Vacuumed, Checkpointed, Reported, Locked}
use Rattle.version_manager.specs.Managers.{held_by, FreshSays}
use Rattle.version_manager.specs.Draw.{DrawRowsetSays, DrawVectorSays}
use Rattle.version_manager.specs.Commit.{CommitSays}
use Rattle.pinning.specs.Says.{PinSays}
use Rattle.storage.specs.declared.Reopened.{Reopened}
use Rattle.plain_record.specs.Calls.{draw_rowset, draw_vector, lock, commit, create, drop, compact, pin, unpin, vacuum, report, checkpoint, reopen}
use Rattle.plain_record.specs.Run.{Steps, no_append, World, world, Event, onward, after_commit, after_report, after_checkpoint, after_reopen, pairs_in, Starts, Link, Chain}
use Rattle.plain_record.specs.Claim.{Claim, Holds}
use Rattle.plain_record.specs.Shows.{ShowsTables, ShowsPairs}

-- What is not equal.
pub apart : {m n : ℕ} → m ≡ n → eqb m n ≡ false → ⊥
apart {m} {n} e f = true≢false (sym (eq-eqb m n e) ∙ f)

pub not-empty : {A : Type 0} {x : A} {l : List A} → [] ≡ x ∷ l → ⊥
not-empty {A} e = true≢false (ap is_none e)
  where
    is_none : List A → Bool
    is_none [] = true
    is_none (x ∷ l) = false

-- Managers and books, their arrays of the lengths that they have in the code: what is held, and zeros after it.
abbrev pub places : ℕ → List ℕ → List ℕ
places n l = l ++ replicate (n - length l) 0

abbrev pub holds : List ℕ → List ℕ → List ℕ → List ℕ → List Bool → ℕ → Tables
holds i h l s k n =
    record {
      ids = places most_tables i;
      shapes = places most_tables h;
      lengths = places most_tables l;
      names = places name_bytes s;
      locked = k ++ replicate (most_tables - length k) false;
      count = n;
    }

abbrev pub holds_pairs : List ℕ → List ℕ → List ℕ → List ℕ → ℕ → Rowsets
holds_pairs t r a d n = record { tables = places most_held t; rowsets = places most_held r; added = places most_held a; deleted = places most_held d; count = n }

abbrev pub no_tables : Tables
no_tables = holds [] [] [] [] [] 0

abbrev pub no_pairs : Rowsets
no_pairs = holds_pairs [] [] [] [] 0

abbrev holds_vectors : List ℕ → List ℕ → List ℕ → List ℕ → List ℕ → ℕ → Vectors
holds_vectors t r v a d n =
    record { tables = places most_held t; rowsets = places most_held r; vectors = places most_held v; added = places most_held a; deleted = places most_held d; count = n }

abbrev pub no_vectors : Vectors
no_vectors = holds_vectors [] [] [] [] [] 0

abbrev inner_all : ℕ → ℕ → ℕ → ℕ → Tables → Rowsets → Vectors → ℕ → VersionManagerInner
inner_all e t r v ts rs vs n =
    record {
      epoch = e;
      next = record { table = record { 0 = t }; rowset = record { 0 = r }; vector = record { 0 = v } };
      tables = ts;
      rowsets = rs;
      vectors = vs;
      manifest = n;
    }

-- with nothing kept
abbrev pub holding_all : ℕ → ℕ → ℕ → ℕ → Tables → Rowsets → Vectors → ℕ → VersionManager
holding_all e t r v ts rs vs n =
    let i = inner_all e t r v ts rs vs n in
    record { inner = i; kept = i; append = 0 }

-- n, after a commit of k bytes by m
abbrev pub following : VersionManager → ℕ → VersionManager → VersionManager
following m k n = record { inner = n.inner; kept = m.inner; append = k }

-- without vectors
abbrev pub holding : ℕ → ℕ → ℕ → Tables → Rowsets → ℕ → VersionManager
holding e t r ts rs n = holding_all e t r 0 ts rs no_vectors n

pub few-all : (e t r v : ℕ) (ts : Tables) (rs : Rowsets) (vs : Vectors) (n : ℕ) → ts.count ≤ 2 → rs.count ≤ 3 → vs.count ≤ 1 → Fit (holding_all e t r v ts rs vs n).inner
few-all e t r v ts rs vs n h k l = record { tables = omega arith; rowsets = omega arith; vectors = omega arith }

pub few : (e t r : ℕ) (ts : Tables) (rs : Rowsets) (n : ℕ) → ts.count ≤ 2 → rs.count ≤ 3 → Fit (holding e t r ts rs n).inner
few e t r ts rs n h k = few-all e t r 0 ts rs no_vectors n h k (omega arith)

abbrev pub unpinned : PinBook
unpinned = record { items = replicate most_pinned (record { epoch = 0; count = 0 }); count = 0 }

-- one pin, on epoch 1
abbrev pub once : PinBook
once = record { items = record { epoch = 1; count = 1 } ∷ replicate (most_pinned - 1) (record { epoch = 0; count = 0 }); count = 1 }

pub no_pins : Keeps unpinned []
no_pins = record { fits = omega arith; pins = refl }

abbrev pub first : Opened
first = record { manager = holding 0 0 0 no_tables no_pairs 0; book = unpinned }

abbrev pub begun : World
begun = world first.manager unpinned [] [] no_append

-- Accepted calls. A commit, a checkpoint and a reopen are lent what they then write, a vacuum a place in each slice.
abbrev telling : List ℕ → Told
telling l = record { number = 0; place = 0; values = l }

abbrev pub drawn_by : VersionManager → ℕ → DrawnRowset
drawn_by m i = record { manager = m; answer = Ok (record { 0 = i }) }

-- the rowset ids below n drawn
abbrev pub drawn_to : ℕ → VersionManager
drawn_to n = holding 0 0 n no_tables no_pairs 0

abbrev pub drawn : DrawnRowset
drawn = drawn_by (drawn_to 1) 0

abbrev pub drawn_vector : DrawnVector
drawn_vector = record { manager = holding_all 0 0 1 1 no_tables no_pairs no_vectors 0; answer = Ok (record { 0 = 0 }) }

abbrev pub appended : VersionManager → ℕ → ℕ → Committed
appended m e n = record { manager = m; answer = Ok (record { epoch = e; length = n }) }

abbrev pub created_by : VersionManager → ℕ → ℕ → ℕ → Created
created_by m t e n = record { manager = m; answer = Ok (record { table = record { 0 = t }; epoch = e; length = n }) }

abbrev pub locked_by : VersionManager → Locked
locked_by m = record { manager = m; answer = Ok tt }

abbrev pub listed_by : VersionManager → ℕ → Vacuumed
listed_by m n = record { manager = m; answer = Ok n }

abbrev pub reported_by : VersionManager → ℕ → ℕ → Reported
reported_by m e n = record { manager = m; answer = Ok (record { epoch = e; manifest = n }) }

abbrev pub checkpointed_by : VersionManager → ℕ → Checkpointed
checkpointed_by m n = record { manager = m; answer = Ok n }

abbrev pub rewritten_by : VersionManager → ℕ → Reopened
rewritten_by m n = record { manager = m; book = unpinned; answer = Ok n }

abbrev pub draws_on : World → VersionManager → ℕ → Event
draws_on w m i =
    record { before = w; call = draw_rowset; told = telling (i ∷ []); listed = []; after = onward m w.book (telling (i ∷ [])) w }

abbrev pub draws : Event
draws = draws_on begun drawn.manager 0

abbrev pub draws_vector : Event
draws_vector =
    record { before = draws.after; call = draw_vector; told = telling (0 ∷ []); listed = []; after = world drawn_vector.manager unpinned [] [] no_append }

abbrev pub commits : World → List Operation → VersionManager → ℕ → ℕ → List ℕ → ℕ → Event
commits w os m e n out missing =
    record {
      before = w;
      call = commit os out missing;
      told = telling (e ∷ n ∷ []);
      listed = [];
      after = after_commit m (telling (e ∷ n ∷ [])) n out missing w;
    }

abbrev pub creates_table : World → ℕ → List ℕ → VersionManager → ℕ → ℕ → ℕ → List ℕ → Event
creates_table w shape name m t e n out =
    record {
      before = w;
      call = create shape name out 0;
      told = telling (t ∷ e ∷ n ∷ []);
      listed = [];
      after = after_commit m (telling (t ∷ e ∷ n ∷ [])) n out 0 w;
    }

abbrev pub drops : World → ℕ → VersionManager → ℕ → ℕ → List ℕ → Event
drops w t m e n out =
    record {
      before = w;
      call = drop t out 0;
      told = telling (e ∷ n ∷ []);
      listed = [];
      after = after_commit m (telling (e ∷ n ∷ [])) n out 0 w;
    }

abbrev pub compacts : World → ℕ → NewRowset → List ℕ → VersionManager → ℕ → ℕ → List ℕ → Event
compacts w t new taken m e n out =
    record {
      before = w;
      call = compact t new taken out 0;
      told = telling (e ∷ n ∷ []);
      listed = [];
      after = after_commit m (telling (e ∷ n ∷ [])) n out 0 w;
    }

abbrev pub locks : World → TableNo → VersionManager → Event
locks w t m = record { before = w; call = lock t; told = telling []; listed = []; after = onward m w.book (telling []) w }

abbrev pub pins : World → ℕ → PinBook → Event
pins w e b = record { before = w; call = pin; told = telling (e ∷ []); listed = []; after = onward w.manager b (telling (e ∷ [])) w }

abbrev pub unpins : World → ℕ → PinBook → Event
unpins w e b = record { before = w; call = unpin e; told = telling (0 ∷ 0 ∷ []); listed = []; after = onward w.manager b (telling (0 ∷ 0 ∷ [])) w }

abbrev pub vacuums : World → VersionManager → ℕ → List ℕ → List ℕ → Event
vacuums w m n ts rs =
    record {
      before = w;
      call = vacuum (5 ∷ []) (5 ∷ []);
      told = telling (n ∷ []);
      listed = pairs_in n ts rs;
      after = onward m w.book (telling (n ∷ [])) w;
    }

abbrev pub reports : World → ℕ → VersionManager → ℕ → ℕ → Event
reports w landed m e n =
    record {
      before = w;
      call = report landed;
      told = telling (e ∷ n ∷ []);
      listed = [];
      after = after_report m (telling (e ∷ n ∷ [])) landed w;
    }

abbrev pub checkpoints : World → VersionManager → ℕ → List ℕ → Event
checkpoints w m n out =
    record {
      before = w;
      call = checkpoint out false;
      told = telling (n ∷ []);
      listed = [];
      after = after_checkpoint m (telling (n ∷ [])) out false w;
    }

abbrev pub reopens : World → VersionManager → ℕ → List ℕ → Bool → Event
reopens w m n out stale =
    record {
      before = w;
      call = reopen out stale;
      told = telling (n ∷ []);
      listed = [];
      after = after_reopen m unpinned (telling (n ∷ [])) out stale w;
    }

-- Refused calls. A commit, a create and a vacuum are lent nothing.
abbrev pub refusing : Refusal → Told
refusing k = told (Err k) []

abbrev pub commit_refused : World → List Operation → VersionManager → Refusal → Event
commit_refused w os m k =
    record { before = w; call = commit os [] 0; told = refusing k; listed = []; after = after_commit m (refusing k) 0 [] 0 w }

abbrev pub create_refused : World → ℕ → List ℕ → VersionManager → Refusal → Event
create_refused w shape name m k =
    record { before = w; call = create shape name [] 0; told = refusing k; listed = []; after = after_commit m (refusing k) 0 [] 0 w }

abbrev pub pin_refused : World → Refusal → PinBook → Event
pin_refused w k b = record { before = w; call = pin; told = refusing k; listed = []; after = onward w.manager b (refusing k) w }

abbrev pub vacuum_refused : World → VersionManager → Refusal → Event
vacuum_refused w m k = record { before = w; call = vacuum [] []; told = refusing k; listed = []; after = onward m w.book (refusing k) w }

module _ (S : Steps) where
  pub begins : S.fresh first → Starts S begun
  begins h = record { opened = first; says = h; fresh = refl }

  pub drew-on : (w : World) (m : VersionManager) (i : ℕ) → S.draw_rowset w.manager (drawn_by m i) → Link S (draws_on w m i)
  drew-on w m i h = record { result = drawn_by m i; says = h; told = refl; none = refl; after = refl }

  pub drew : S.draw_rowset first.manager drawn → Link S draws
  drew h = drew-on begun drawn.manager 0 h

  pub drew-vector : S.draw_vector drawn.manager drawn_vector → Link S draws_vector
  drew-vector h = record { result = drawn_vector; says = h; told = refl; none = refl; after = refl }

  pub committed : (w : World) (os : List Operation) (m : VersionManager) (e n : ℕ) (out : List ℕ) (missing : ℕ) → S.commit w.manager (length os) os out (appended m e n) out → Link S (commits w os m e n out missing)
  committed w os m e n out missing h =
      record { count = length os; counted = omega arith; result = appended m e n; left = out; says = h; told = refl; none = refl; after = refl }

  pub made_table : (w : World) (shape : ℕ) (name : List ℕ) (m : VersionManager) (t e n : ℕ) (out : List ℕ) → shape ≤ largest32 → S.create w.manager shape name out (created_by m t e n) out → Link S (creates_table w shape name m t e n out)
  made_table w shape name m t e n out k h =
      record { narrow = k; result = created_by m t e n; left = out; says = h; told = refl; none = refl; after = refl }

  pub dropped : (w : World) (t : ℕ) (m : VersionManager) (e n : ℕ) (out : List ℕ) → Narrow (held_by w.manager) → S.drop w.manager t out (appended m e n) out → Link S (drops w t m e n out)
  dropped w t m e n out k h =
      record { narrow = k; result = appended m e n; left = out; says = h; told = refl; none = refl; after = refl }

  pub compacted : (w : World) (t : ℕ) (new : NewRowset) (taken : List ℕ) (m : VersionManager) (e n : ℕ) (out : List ℕ) → Narrow (held_by w.manager) → S.compact w.manager t (new_of new) taken out (appended m e n) out → Link S (compacts w t new taken m e n out)
  compacted w t new taken m e n out k h =
      record { narrow = k; result = appended m e n; left = out; says = h; told = refl; none = refl; after = refl }

  pub took-lock : (w : World) (t : TableNo) (m : VersionManager) → S.lock w.manager t (locked_by m) → Link S (locks w t m)
  took-lock w t m h = record { result = locked_by m; says = h; told = refl; none = refl; after = refl }

  pub pinned : (w : World) (e : ℕ) (b : PinBook) → S.pin w.manager w.book (Ok e) b → Link S (pins w e b)
  pinned w e b h = record { answer = Ok e; book = b; says = h; told = refl; none = refl; after = refl }

  pub released : (w : World) (e : ℕ) (b : PinBook) → S.unpin w.manager e w.book (Ok (record { due = false; ready = 0 })) b → Link S (unpins w e b)
  released w e b h = record { answer = Ok (record { due = false; ready = 0 }); book = b; says = h; told = refl; none = refl; after = refl }

  pub vacuumed : (w : World) (m : VersionManager) (n : ℕ) (ts rs : List ℕ) → S.vacuum w.manager w.book (5 ∷ []) (5 ∷ []) (listed_by m n) ts rs → Link S (vacuums w m n ts rs)
  vacuumed w m n ts rs h =
      record { result = listed_by m n; tables = ts; rowsets = rs; says = h; told = refl; listed = refl; after = refl }

  pub reported : (w : World) (landed : ℕ) (m : VersionManager) (e n : ℕ) → S.report w.manager w.book landed (reported_by m e n) → Link S (reports w landed m e n)
  reported w landed m e n h = record { result = reported_by m e n; says = h; told = refl; none = refl; after = refl }

  pub checkpointed : (w : World) (m : VersionManager) (n : ℕ) (out : List ℕ) → Narrow (held_by w.manager) → S.checkpoint w.manager out (checkpointed_by m n) out → Link S (checkpoints w m n out)
  checkpointed w m n out k h = record { narrow = k; result = checkpointed_by m n; left = out; says = h; told = refl; none = refl; after = refl }

  pub reopened : (w : World) (m : VersionManager) (n : ℕ) (out : List ℕ) (stale : Bool) → S.reopen w.torn out (rewritten_by m n) out → Link S (reopens w m n out stale)
  reopened w m n out stale h = record { result = rewritten_by m n; left = out; says = h; told = refl; none = refl; after = refl }

pub fresh-says : FreshSays first
unfolding rows
fresh-says = record { manager = record { hands = record { fits = few 0 0 0 no_tables no_pairs 0 (omega arith) (omega arith); state = refl }; nothing = refl }; book = no_pins }

pub draw-says : DrawRowsetSays first.manager drawn
unfolding rows
draw-says = record { answer = refl; manager = record { hands = record { fits = few 0 0 1 no_tables no_pairs 0 (omega arith) (omega arith); state = refl }; nothing = refl } }

pub draw-vector-says : DrawVectorSays drawn.manager drawn_vector
unfolding rows
draw-vector-says =
    record { answer = refl; manager = record { hands = record { fits = few-all 0 0 1 1 no_tables no_pairs no_vectors 0 (omega arith) (omega arith) (omega arith); state = refl }; nothing = refl } }

-- What is committed: a table `a` of id 0 and shape 7, its rowset 0, and the rowset's vector 0.
abbrev pub name : List ℕ
name = 97 ∷ []

abbrev pub creates : Operation
creates = create_table 0 7 name

abbrev pub adds : Operation
adds = add_rowset 0 0

abbrev pub deletes : Operation
deletes = delete_rowset 0 0

abbrev table_by : Bool → Tables
table_by held = holds (0 ∷ []) (7 ∷ []) (1 ∷ []) name (held ∷ []) 1

abbrev pub tables : Tables
tables = table_by false

-- its lock held
abbrev pub locked : Tables
locked = table_by true

abbrev pub pair : ℕ → ℕ → Rowsets
pair a d = holds_pairs (0 ∷ []) (0 ∷ []) (a ∷ []) (d ∷ []) 1

abbrev pub vector_of : ℕ → ℕ → Vectors
vector_of a d = holds_vectors (0 ∷ []) (0 ∷ []) (0 ∷ []) (a ∷ []) (d ∷ []) 1

-- The table is created, the rowset added and deleted, all at epoch 1.
abbrev pub ops_tad : List Operation
ops_tad = creates ∷ adds ∷ deletes ∷ []

abbrev pub frame_tad : List ℕ
frame_tad = 33 ∷ 10 ∷ 66 ∷ 10 ∷ 84 ∷ 44 ∷ 48 ∷ 44 ∷ 55 ∷ 44 ∷ 97 ∷ 10 ∷ 65 ∷ 44 ∷ 48 ∷ 44 ∷ 48 ∷ 10 ∷ 68 ∷ 44 ∷ 48 ∷ 44 ∷ 48 ∷ 10 ∷ 69 ∷ 10 ∷ []

abbrev pub held_tad : VersionManager
held_tad = holding 1 1 1 tables (pair 1 1) 26

abbrev pub after_tad : VersionManager
after_tad = following drawn.manager 26 held_tad

abbrev pub commit_tad : Event
commit_tad = commits draws.after ops_tad after_tad 1 26 frame_tad 0

pub fits-TAD : Fit after_tad.inner
fits-TAD = few 1 1 1 tables (pair 1 1) 26 (omega arith) (omega arith)

-- the deletion let go
abbrev pub swept_tad : VersionManager
swept_tad = holding 1 1 1 tables no_pairs 26

pub says-TAD : CommitSays drawn.manager (length ops_tad) ops_tad frame_tad (appended after_tad 1 26) frame_tad
unfolding rows step_of text_of fields_text digits digits_by is_name is_name_byte is_digit is_lower gone_at shown_at
says-TAD = (refl, record { hands = record { fits = fits-TAD; state = refl }; former = record { fits = draw-says.manager.hands.fits; state = refl }; append = refl }, refl)

abbrev CommitsTAD : Steps → Type 0
CommitsTAD S = S.commit drawn.manager (length ops_tad) ops_tad frame_tad (appended after_tad 1 26) frame_tad

-- the claim of a draw, this commit and further calls
pub on-TAD : (S : Steps) → Claim S → S.fresh first → S.draw_rowset first.manager drawn → CommitsTAD S → (es : List Event) → Chain S commit_tad.after es → Holds S begun (draws ∷ commit_tad ∷ es)
on-TAD S claim fresh draw says es c =
    claim begun (draws ∷ commit_tad ∷ es) (begins S fresh) (refl, drew S draw, (refl, committed S draws.after ops_tad after_tad 1 26 frame_tad 0 says, c))

-- An empty commit, then one that creates the table.
abbrev pub ops_none : List Operation
ops_none = []

abbrev pub frame_none : List ℕ
frame_none = 33 ∷ 10 ∷ 66 ∷ 10 ∷ 69 ∷ 10 ∷ []

abbrev pub after_none : VersionManager
after_none = following first.manager 6 (holding 1 0 0 no_tables no_pairs 6)

abbrev pub ops_t : List Operation
ops_t = creates ∷ []

abbrev pub frame_t : List ℕ
frame_t = 33 ∷ 10 ∷ 66 ∷ 10 ∷ 84 ∷ 44 ∷ 48 ∷ 44 ∷ 55 ∷ 44 ∷ 97 ∷ 10 ∷ 69 ∷ 10 ∷ []

abbrev pub after_t : Tables → VersionManager
after_t l = following after_none 14 (holding 2 1 0 l no_pairs 20)

abbrev pub commit_none : Event
commit_none = commits begun ops_none after_none 1 6 frame_none 0

abbrev pub commit_t : Tables → ℕ → Event
commit_t l missing = commits commit_none.after ops_t (after_t l) 2 14 frame_t missing

pub says_none : CommitSays first.manager (length ops_none) ops_none frame_none (appended after_none 1 6) frame_none
unfolding rows
says_none = (refl, record { hands = record { fits = few 1 0 0 no_tables no_pairs 6 (omega arith) (omega arith); state = refl }; former = record { fits = fresh-says.manager.hands.fits; state = refl }; append = refl }, refl)

pub says-T : CommitSays after_none (length ops_t) ops_t frame_t (appended (after_t tables) 2 14) frame_t
unfolding rows step_of text_of fields_text digits digits_by is_name is_name_byte is_digit is_lower gone_at shown_at
says-T = (refl, record { hands = record { fits = few 2 1 0 tables no_pairs 20 (omega arith) (omega arith); state = refl }; former = record { fits = says_none.1.hands.fits; state = refl }; append = refl }, refl)

-- the table is created at epoch 1, by an append of n bytes
abbrev pub created_t : ℕ → VersionManager
created_t n = following first.manager n (holding 1 1 0 tables no_pairs 14)

pub fits-T : Fit (created_t 14).inner
fits-T = few 1 1 0 tables no_pairs 14 (omega arith) (omega arith)

-- a manager without tables, where the record has one; and one with a table, where it has none
pub no_table : (S : Steps) (w : World) (d : ℕ) (t : Table) → S.show_tables w.manager w.book d [] [] [] [] (Ok 0) [] [] [] [] → ShowsTables S w d (t ∷ []) → ⊥
no_table S w d t says h = apart (ap (λ (x : Told). x.number) (h [] [] [] [] (Ok 0) [] [] [] [] says).0) refl

pub a-table : (S : Steps) (w : World) (d : ℕ) → S.show_tables w.manager w.book d [] [] [] [] (Err OutputTooShort) [] [] [] [] → ShowsTables S w d [] → ⊥
a-table S w d says h = apart (ap (λ (x : Told). x.number) (h [] [] [] [] (Err OutputTooShort) [] [] [] [] says).0) refl

abbrev pub recorded : Table
recorded = table 0 7 name

-- The table is created and the rowset added, at epoch 1.
abbrev pub ops_ta : List Operation
ops_ta = creates ∷ adds ∷ []

abbrev pub frame_ta : List ℕ
frame_ta = 33 ∷ 10 ∷ 66 ∷ 10 ∷ 84 ∷ 44 ∷ 48 ∷ 44 ∷ 55 ∷ 44 ∷ 97 ∷ 10 ∷ 65 ∷ 44 ∷ 48 ∷ 44 ∷ 48 ∷ 10 ∷ 69 ∷ 10 ∷ []

abbrev pub after_ta : VersionManager
after_ta = following drawn.manager 20 (holding 1 1 1 tables (pair 1 0) 20)

abbrev pub commit_ta : Event
commit_ta = commits draws.after ops_ta after_ta 1 20 frame_ta 0

pub says-TA : CommitSays drawn.manager (length ops_ta) ops_ta frame_ta (appended after_ta 1 20) frame_ta
unfolding rows step_of text_of fields_text digits digits_by is_name is_name_byte is_digit is_lower gone_at shown_at
says-TA = (refl, record { hands = record { fits = few 1 1 1 tables (pair 1 0) 20 (omega arith) (omega arith); state = refl }; former = record { fits = draw-says.manager.hands.fits; state = refl }; append = refl }, refl)

abbrev CommitsTA : Steps → Type 0
CommitsTA S = S.commit drawn.manager (length ops_ta) ops_ta frame_ta (appended after_ta 1 20) frame_ta

-- the claim of a draw, this commit and further calls
pub on-TA : (S : Steps) → Claim S → S.fresh first → S.draw_rowset first.manager drawn → CommitsTA S → (es : List Event) → Chain S commit_ta.after es → Holds S begun (draws ∷ commit_ta ∷ es)
on-TA S claim fresh draw says es c =
    claim begun (draws ∷ commit_ta ∷ es) (begins S fresh) (refl, drew S draw, (refl, committed S draws.after ops_ta after_ta 1 20 frame_ta 0 says, c))

-- And the rowset's vector.
abbrev pub ops_tav : List Operation
ops_tav = creates ∷ adds ∷ add_vector 0 0 0 ∷ []

abbrev pub frame_tav : List ℕ
frame_tav = 33 ∷ 10 ∷ 66 ∷ 10 ∷ 84 ∷ 44 ∷ 48 ∷ 44 ∷ 55 ∷ 44 ∷ 97 ∷ 10 ∷ 65 ∷ 44 ∷ 48 ∷ 44 ∷ 48 ∷ 10 ∷ 86 ∷ 44 ∷ 48 ∷ 44 ∷ 48 ∷ 44 ∷ 48 ∷ 10 ∷ 69 ∷ 10 ∷ []

abbrev pub after_tav : VersionManager
after_tav = following drawn_vector.manager 28 (holding_all 1 1 1 1 tables (pair 1 0) (vector_of 1 0) 28)

abbrev pub commit_tav : Event
commit_tav = commits draws_vector.after ops_tav after_tav 1 28 frame_tav 0

pub says-TAV : CommitSays drawn_vector.manager (length ops_tav) ops_tav frame_tav (appended after_tav 1 28) frame_tav
unfolding rows step_of text_of fields_text digits digits_by is_name is_name_byte is_digit is_lower gone_at shown_at
says-TAV =
    (refl, record { hands = record { fits = few-all 1 1 1 1 tables (pair 1 0) (vector_of 1 0) 28 (omega arith) (omega arith) (omega arith); state = refl }; former = record { fits = draw-vector-says.manager.hands.fits; state = refl }; append = refl }, refl)

-- the rowset alone is deleted
abbrev pub frame_d : List ℕ
frame_d = 33 ∷ 10 ∷ 66 ∷ 10 ∷ 68 ∷ 44 ∷ 48 ∷ 44 ∷ 48 ∷ 10 ∷ 69 ∷ 10 ∷ []

-- The rowset is added at epoch 1, epoch 1 is pinned, and the rowset is deleted at epoch 2.
abbrev pub ops_d : List Operation
ops_d = deletes ∷ []

abbrev pub after_d : VersionManager
after_d = following after_ta 12 (holding 2 1 1 tables (pair 1 2) 32)

abbrev pub pin_ta : Event
pin_ta = pins commit_ta.after 1 once

abbrev pub commit_d : Event
commit_d = commits pin_ta.after ops_d after_d 2 12 frame_d 0

pub pin-says-TA : PinSays after_ta unpinned (Ok 1) once
unfolding rows is_name is_name_byte is_digit is_lower gone_at shown_at
pin-says-TA = record { answer = refl; book = record { fits = omega arith; pins = refl } }

pub says-D : CommitSays after_ta (length ops_d) ops_d frame_d (appended after_d 2 12) frame_d
unfolding rows step_of text_of fields_text digits digits_by is_name is_name_byte is_digit is_lower gone_at shown_at
says-D = (refl, record { hands = record { fits = few 2 1 1 tables (pair 1 2) 32 (omega arith) (omega arith); state = refl }; former = record { fits = says-TA.1.hands.fits; state = refl }; append = refl }, refl)

-- the claim of these calls and further ones, by a manager that draws, commits and pins as the port does
module _ (S : Steps) (claim : Claim S) (fresh : S.fresh first) (draw : S.draw_rowset first.manager drawn)
    (add : S.commit drawn.manager (length ops_ta) ops_ta frame_ta (appended after_ta 1 20) frame_ta) (guard : S.pin after_ta unpinned (Ok 1) once)
    (delete : S.commit after_ta (length ops_d) ops_d frame_d (appended after_d 2 12) frame_d) where
  pub on-D : (es : List Event) → Chain S commit_d.after es → Holds S begun (draws ∷ commit_ta ∷ pin_ta ∷ commit_d ∷ es)
  on-D es c =
      on-TA S claim fresh draw add (pin_ta ∷ commit_d ∷ es) (
        refl,
        pinned S commit_ta.after 1 once guard,
        (refl, committed S pin_ta.after ops_d after_d 2 12 frame_d 0 delete, c),
      )

-- a show without pairs, where the record has one
pub no-pair : (S : Steps) (w : World) (d : ℕ) (k : List ℕ) → S.show_pairs w.manager w.book d [] [] (Ok 0) [] [] → ShowsPairs S w d (k ∷ []) → ⊥
no-pair S w d k says h = apart (ap (λ (x : Told). x.number) (h [] [] (Ok 0) [] [] says).0) refl

-- a show of a pair, where the record has none
pub a_pair : (S : Steps) (w : World) (d : ℕ) → S.show_pairs w.manager w.book d [] [] (Err OutputTooShort) [] [] → ShowsPairs S w d [] → ⊥
a_pair S w d says h = apart (ap (λ (x : Told). x.number) (h [] [] (Err OutputTooShort) [] [] says).0) refl

abbrev pub recorded_pair : List ℕ
recorded_pair = 0 ∷ 0 ∷ []
