-- What each call over the border promises: the entry point's own proposition, told in numbers. Assumes nothing.
use Rattle.std.specs.Prelude.{◌≡◌, Bool, List, [], ℕ, length, Result}
use Rattle.ids.specs.declared.RowsetNo.{RowsetNo}
use Rattle.ids.specs.declared.VectorNo.{VectorNo}
use Rattle.ids.specs.declared.refusal.Refusal.{Refusal}
use Rattle.ids.specs.Answers.{Told, told}
use Rattle.pins.specs.declared.PinBook.{PinBook}
use Rattle.commit.specs.Lent.{operations_in}
use Rattle.show.specs.Says.{show_told, ShowAnswer}
use Rattle.transaction.specs.declared.Handles.{Handles}
use Rattle.compactor.specs.Says.{select_told, SelectAnswer}
use Rattle.version_manager.specs.declared.VersionManager.{VersionManager}
use Rattle.version_manager.specs.declared.Answered.{Answered}
use Rattle.version_manager.specs.declared.NewVectors.{NewVectors}
use Rattle.version_manager.specs.declared.Appended.{Appended}
use Rattle.version_manager.specs.declared.NewTable.{NewTable}
use Rattle.version_manager.specs.declared.TakenBack.{TakenBack}
use Rattle.version_manager.specs.Group.{group_told, GroupSays}
use Rattle.version_manager.specs.Commit.{commit_told, CommitSays}
use Rattle.version_manager.specs.Create.{create_told, CreateSays}
use Rattle.version_manager.specs.Drop.{DropSays}
use Rattle.version_manager.specs.Compact.{CompactSays}
use Rattle.version_manager.specs.Vacuum.{vacuum_told, VacuumSays}
use Rattle.version_manager.specs.Checkpoint.{checkpoint_told, CheckpointSays}
use Rattle.version_manager.specs.Report.{report_told, ReportSays}
use Rattle.version_manager.specs.Show.{ShowTablesSays, ShowPairsSays, ShowVectorsSays}
use Rattle.version_manager.specs.Lock.{LockSays, UnlockSays}
use Rattle.version_manager.specs.Select.{SelectSays}
use Rattle.version_manager.specs.Draw.{rowset_told, vector_told, DrawRowsetSays, DrawVectorSays}
use Rattle.pinning.specs.declared.Readiness.{Readiness}
use Rattle.pinning.specs.declared.Stepped.{Stepped}
use Rattle.pinning.specs.Says.{pin_told, unpin_told, PinSays, UnpinSays}
use Rattle.storage.specs.Reopen.{reopen_told, ReopenSays, ReopenAnswer}
use Rattle.delete_vector.specs.Answers.{written_told, loaded_told, held_told, masked_told}
use Rattle.delete_vector.specs.Says.{WriteSays, ReadSays, MemorySays, MaskSays}
use Rattle.host.specs.declared.answers.Answer.{Answer}
use Rattle.host.specs.declared.Handed.{Handed}
use Rattle.host.specs.declared.Booked.{Booked}
use Rattle.host.specs.declared.Begun.{Begun}
use Rattle.host.specs.Numbers.{said_by, Tells}
use Rattle.host.specs.Arguments.{new_in, HandlesIn}

-- h tells what the library answers beside a manager: the entry point's own proposition holds of both, the manager is that one, and the
-- number, place and values are those of the answer
pub record TellsHanded (A : Type 0) (told_of : Result A Refusal → Told) (Says : Answered A → Type 0) (h : Handed) : Type 0 where
  pub answered : Answered A
  pub says : Says answered
  pub manager : h.manager ≡ answered.manager
  pub told : said_by h.answer ≡ told_of answered.answer

-- the same beside a pin book
pub record TellsBooked (A : Type 0) (told_of : Result A Refusal → Told) (Says : Result A Refusal → PinBook → Type 0) (b : Booked) : Type 0 where
  pub stepped : Stepped A
  pub says : Says stepped.answer stepped.book
  pub book : b.book ≡ stepped.book
  pub told : said_by b.answer ≡ told_of stepped.answer

abbrev pub WriteTold : List ℕ → List ℕ → Answer → List ℕ → Type 0
WriteTold rows out r out' = Tells (Result ℕ Refusal) written_told (λ a. WriteSays rows out a out') r

abbrev pub ReadTold : List ℕ → List ℕ → Answer → List ℕ → Type 0
ReadTold file rows r rows' = Tells (Result ℕ Refusal) loaded_told (λ a. ReadSays file rows a rows') r

abbrev pub MemoryTold : List ℕ → List ℕ → Answer → List ℕ → Type 0
MemoryTold rows out r out' = Tells (Result ℕ Refusal) held_told (λ a. MemorySays rows out a out') r

abbrev pub MaskTold : List ℕ → List ℕ → ℕ → Answer → List ℕ → Type 0
MaskTold rows bits offset r bits' = Tells (Result (Unit {0}) Refusal) masked_told (λ a. MaskSays rows bits offset a bits') r

abbrev pub DrawRowsetTold : VersionManager → Handed → Type 0
DrawRowsetTold m r = TellsHanded RowsetNo rowset_told (DrawRowsetSays m) r

abbrev pub DrawVectorTold : VersionManager → Handed → Type 0
DrawVectorTold m r = TellsHanded VectorNo vector_told (DrawVectorSays m) r

-- the library is given the handles that the numbers say
pub record GroupTold (m : VersionManager) (numbers rs ls cs fs ms : List ℕ) (r : Handed) (rs' ls' cs' fs' ms' : List ℕ) : Type 0 where
  pub handles : Handles
  pub given : HandlesIn numbers handles
  pub tells : TellsHanded NewVectors group_told (λ a. GroupSays m handles rs ls cs fs ms a rs' ls' cs' fs' ms') r

abbrev pub CommitTold : VersionManager → List ℕ → List ℕ → Handed → List ℕ → Type 0
CommitTold m ops out r out' = TellsHanded Appended commit_told (λ a. CommitSays m (length (operations_in ops)) (operations_in ops) out a out') r

abbrev pub CreateTold : VersionManager → ℕ → List ℕ → List ℕ → Handed → List ℕ → Type 0
CreateTold m shape name out r out' = TellsHanded NewTable create_told (λ a. CreateSays m shape name out a out') r

abbrev pub DropTold : VersionManager → ℕ → List ℕ → Handed → List ℕ → Type 0
DropTold m t out r out' = TellsHanded Appended commit_told (λ a. DropSays m t out a out') r

abbrev pub CompactTold : VersionManager → ℕ → Bool → ℕ → List ℕ → List ℕ → Handed → List ℕ → Type 0
CompactTold m t some new taken out r out' = TellsHanded Appended commit_told (λ a. CompactSays m t (new_in some new) taken out a out') r

abbrev pub VacuumTold : VersionManager → PinBook → List ℕ → List ℕ → Handed → List ℕ → List ℕ → Type 0
VacuumTold m b ts rs r ts' rs' = TellsHanded ℕ vacuum_told (λ a. VacuumSays m b ts rs a ts' rs') r

abbrev pub CheckpointTold : VersionManager → List ℕ → Handed → List ℕ → Type 0
CheckpointTold m out r out' = TellsHanded ℕ checkpoint_told (λ a. CheckpointSays m out a out') r

abbrev pub ReportTold : VersionManager → PinBook → ℕ → Handed → Type 0
ReportTold m b landed r = TellsHanded TakenBack report_told (ReportSays m b landed) r

abbrev pub ShowTablesTold : VersionManager → PinBook → ℕ → List ℕ → List ℕ → List ℕ → List ℕ → Answer → List ℕ → List ℕ → List ℕ → List ℕ → Type 0
ShowTablesTold m b e is hs ls ns r is' hs' ls' ns' = Tells ShowAnswer show_told (λ a. ShowTablesSays m b e is hs ls ns a is' hs' ls' ns') r

abbrev pub ShowPairsTold : VersionManager → PinBook → ℕ → List ℕ → List ℕ → Answer → List ℕ → List ℕ → Type 0
ShowPairsTold m b e ts rs r ts' rs' = Tells ShowAnswer show_told (λ a. ShowPairsSays m b e ts rs a ts' rs') r

abbrev pub ShowVectorsTold : VersionManager → PinBook → ℕ → List ℕ → List ℕ → List ℕ → Answer → List ℕ → List ℕ → List ℕ → Type 0
ShowVectorsTold m b e ts rs vs r ts' rs' vs' = Tells ShowAnswer show_told (λ a. ShowVectorsSays m b e ts rs vs a ts' rs' vs') r

abbrev pub LockTold : VersionManager → ℕ → Handed → Type 0
LockTold m t r = TellsHanded (Unit {0}) (λ v. told v []) (LockSays m (record { 0 = t })) r

abbrev pub UnlockTold : VersionManager → ℕ → Handed → Type 0
UnlockTold m t r = TellsHanded (Unit {0}) (λ v. told v []) (UnlockSays m (record { 0 = t })) r

abbrev pub SelectTold : VersionManager → ℕ → ℕ → List ℕ → List ℕ → Answer → List ℕ → Type 0
SelectTold m t target ns out r out' = Tells SelectAnswer select_told (λ a. SelectSays m (record { 0 = t }) target ns out a out') r

abbrev pub ReopenTold : List ℕ → List ℕ → Begun → List ℕ → Type 0
ReopenTold src out r out' =
    Tells ReopenAnswer reopen_told (λ a. ReopenSays src out (record { manager = r.manager; book = r.book; answer = a }) out') r.answer

abbrev pub PinTold : VersionManager → PinBook → Booked → Type 0
PinTold m b r = TellsBooked ℕ pin_told (PinSays m b) r

abbrev pub UnpinTold : VersionManager → ℕ → PinBook → Booked → Type 0
UnpinTold m e b r = TellsBooked Readiness unpin_told (UnpinSays m e b) r
