-- `version_manager::VersionManager::report` meets its contract.
use mathlib.Core.Path.{refl, sym, ap, ◌∙◌}
use native.Mathlib.Omega.{arith}
use borrow.Author.Tests.{lt-leb}
use Rattle.version_state.specs.State.{lengthened}
use Rattle.version_state.proofs.Facts.{sound-of}
use Rattle.version_manager.specs.Report.{report_told}
use Rattle.version_manager.proofs.Managers.{kept-passes, manages}
use Rattle.version_manager.proofs.VersionManager.report.Goals as goal

pub overflow_add-inner : goal.overflow_add-inner
overflow_add-inner c =
    let good = kept-passes c.args.self c.args.landed c.if-self-landed.false (sym c.bad.ensures ∙ c.if-bad.false) in
    omega (arith, c.if-self-landed.false, (sound-of (lengthened c.args.self.append c.args.self.kept) good).manifest)

pub returns : goal.returns
returns c =
    let b = sym c.bad.ensures ∙ c.if-bad.false in
    let k = sym c.bad-2.ensures ∙ c.if-bad-2.false in
    let n = lt-leb _ _ c.if-self-landed.false in
    let p = sym c.is_pinned.ensures ∙ c.if-is_pinned.false in
    let f = (sound-of (lengthened c.args.self.append c.args.self.kept) (kept-passes c.args.self c.args.landed c.if-self-landed.false b)).fits in
    record {
      answer = rw (b, k, n, p) (ap report_told c.settled.ensures.0);
      manager = rw (b, k, n, p) (manages _ _ _ (c.settled.ensures.1, c.settled.ensures.2) (record { fits = record { tables = f.tables; rowsets = f.rowsets; vectors = f.vectors }; state = refl }));
    }
