-- Report of a short write: the last commit is taken back, and the manifest keeps the bytes that landed. Assumes nothing.
use Rattle.std.specs.Prelude.{◌≡◌, Bool, ◌||◌, [], ◌∷◌, ℕ, ◌+◌, leb, Ok, Err}
use Rattle.ids.specs.declared.refusal.Refusal.TheVariants.{BadManager, BadPinBook, NotReportable}
use Rattle.ids.specs.Verdicts.{◌⇒◌, judged, Verdict}
use Rattle.ids.specs.Answers.{Told, told}
use Rattle.version_state.specs.State.{State, with_epoch}
use Rattle.pins.specs.declared.PinBook.{PinBook}
use Rattle.pins.specs.Book.{pins_of, bad_book, pinned}
use Rattle.version_manager.specs.declared.VersionManager.{VersionManager}
use Rattle.version_manager.specs.Answered.{Reported, ReportAnswer}
use Rattle.version_manager.specs.Managers.{held_by, former_by, bad_manager, HandsBack}

-- accepted: the epoch that is current again, and the manifest's length
abbrev pub report_told : ReportAnswer → Told
report_told (Ok a) = told (Ok tt) (a.epoch ∷ a.manifest ∷ [])
report_told (Err k) = told (Err k) []

-- of m, with the book b: so many bytes of the last append landed
module _ (m : VersionManager) (b : PinBook) (landed : ℕ) where
  -- 31: not fewer than were appended, which is so of any number where nothing is kept; or the current epoch is pinned
  abbrev pub not_reportable : Bool
  not_reportable = leb m.append landed || pinned (held_by m).epoch (pins_of b)

  -- 29, 28, 31
  abbrev pub report_verdict : Verdict
  report_verdict = judged ((bad_manager m ⇒ BadManager) ∷ (bad_book (held_by m).epoch b ⇒ BadPinBook) ∷ (not_reportable ⇒ NotReportable) ∷ [])

-- the state before the last commit in all parts, but for the bytes that landed
abbrev pub reported_state : VersionManager → ℕ → State
reported_state m landed = with_epoch (former_by m) (former_by m).epoch ((former_by m).manifest + landed)

-- a report to m, lent the book b, returns r
pub record ReportSays (m : VersionManager) (b : PinBook) (landed : ℕ) (r : Reported) : Type 0 where
  pub answer : report_told r.answer ≡ told (report_verdict m b landed) ((former_by m).epoch ∷ ((former_by m).manifest + landed) ∷ [])
  pub manager : HandsBack (report_verdict m b landed) m (reported_state m landed) r.manager
