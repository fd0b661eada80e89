-- `version_manager::VersionManager::commit` meets its contract.
use mathlib.Core.Path.{◌≡◌, refl, sym, ap, ◌∙◌}
use mathlib.Core.List.{map}
use Prim.Native.Nat.{◌≤◌}
use native.Mathlib.Omega.{arith}
use borrow.Author.Tests.{lt-ltb}
use lib.ListN.{length}
use Rattle.lists.proofs.Places.{known}
use Rattle.ids.specs.Limits.{most_operations}
use Rattle.manifest.specs.Operations.{batch_of}
use Rattle.commit.specs.Lent.{as_line}
use Rattle.version_manager.specs.Commit.{commit_told}
use Rattle.version_manager.proofs.Calls.{typed-says, says_same, lines_are, lines-count}
use Rattle.version_manager.proofs.VersionManager.commit.Goals as goal

pub returns-then-batch-gt-MOST_OPERATIONS : goal.returns-then-batch-gt-MOST_OPERATIONS
returns-then-batch-gt-MOST_OPERATIONS c =
    let e = c.refused-then-batch-gt-MOST_OPERATIONS.ensures in
    rw (sym c.bad.ensures ∙ c.if-bad.false, lt-ltb most_operations c.args.batch.count c.if-batch-gt-MOST_OPERATIONS.true) (ap commit_told e.0, e.1, refl)

pub returns : goal.returns
returns c =
    let b = c.args.batch in
    let full : length c.args.batch.changes ≡ most_operations = search known in
    let w : c.args.batch.count ≤ length c.args.batch.changes = omega (arith, c.if-batch-gt-MOST_OPERATIONS.false, full) in
    let q = c.as_slice.ensures ∙ c.put_lines.ensures in
    typed-says c.args.self c.args.batch.count (batch_of b) c.args.out.now _ _ (says_same c.args.self _ _ c.args.out.now _ _ c.args.batch.count (map as_line (batch_of b)) (lines-count b _ w q) (lines_are b _ w q) c.append.ensures)
