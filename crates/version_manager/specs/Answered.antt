-- What the calls answer, and beside which a manager is handed back. Assumes nothing.
use Rattle.std.specs.Prelude.{Result, ℕ}
use Rattle.ids.specs.declared.RowsetNo.{RowsetNo}
use Rattle.ids.specs.declared.VectorNo.{VectorNo}
use Rattle.ids.specs.declared.refusal.Refusal.{Refusal}
use Rattle.version_manager.specs.declared.Answered.{Answered}
use Rattle.version_manager.specs.declared.NewVectors.{NewVectors}
use Rattle.version_manager.specs.declared.Appended.{Appended}
use Rattle.version_manager.specs.declared.NewTable.{NewTable}
use Rattle.version_manager.specs.declared.TakenBack.{TakenBack}

abbrev pub RowsetAnswer : Type 0
RowsetAnswer = Result RowsetNo Refusal

abbrev pub VectorAnswer : Type 0
VectorAnswer = Result VectorNo Refusal

abbrev pub GroupAnswer : Type 0
GroupAnswer = Result NewVectors Refusal

abbrev pub CommitAnswer : Type 0
CommitAnswer = Result Appended Refusal

abbrev pub CreateAnswer : Type 0
CreateAnswer = Result NewTable Refusal

-- how many deletions are listed
abbrev pub VacuumAnswer : Type 0
VacuumAnswer = Result ℕ Refusal

-- how many bytes the rewritten manifest has
abbrev pub CheckpointAnswer : Type 0
CheckpointAnswer = Result ℕ Refusal

abbrev pub ReportAnswer : Type 0
ReportAnswer = Result TakenBack Refusal

abbrev pub DrawnRowset : Type 0
DrawnRowset = Answered RowsetNo

abbrev pub DrawnVector : Type 0
DrawnVector = Answered VectorNo

abbrev pub Grouped : Type 0
Grouped = Answered NewVectors

abbrev pub Committed : Type 0
Committed = Answered Appended

abbrev pub Created : Type 0
Created = Answered NewTable

abbrev pub Vacuumed : Type 0
Vacuumed = Answered ℕ

abbrev pub Checkpointed : Type 0
Checkpointed = Answered ℕ

abbrev pub Reported : Type 0
Reported = Answered TakenBack

abbrev pub Locked : Type 0
Locked = Answered Unit
