-- `commit::commit_lines` meets its contract.
use mathlib.Core.Path.{refl}
use Prim.Native.Nat.{◌+◌, ◌≤◌}
use native.Mathlib.Omega.{arith}
use lib.ListN.{length}
use Rattle.std.proofs.Common.{rules}
use Rattle.std.proofs.lemmas.Result.{err_from_is_err_and}
use Rattle.ids.specs.Limits.{most_operations}
use Rattle.version_state.specs.declared.VersionManagerInner.{VersionManagerInner}
use Rattle.version_state.specs.State.{state_of}
use Rattle.commit.specs.Lent.{operations_in}
use Rattle.commit.proofs.Stepwise.{went, steps-manifest}
use Rattle.commit.proofs.Calls.{handed, steps-off, end-off, end_on}
use Rattle.commit.proofs.commit_lines.Goals as goal

pub returns-in_err-steps : goal.returns-in_err-steps
returns-in_err-steps c =
    let few : length (operations_in c.args.ops.now) ≤ most_operations = omega (arith, c.count.ensures) in
    let p = err_from_is_err_and c.from_residual.result c.from_residual.ensures.1 in
    let x = steps-off c.args.ops.now (length c.args.out.now) c.args.inner.now few c.if-inner-ge-LAST_EPOCH.false c.steps.new.working.inner.now _ c.in_err-steps.ensures.told in
    rw (x, p.1, p.2) (refl, refl)

pub ending-requires : goal.ending-requires
ending-requires c = rw (steps-manifest _ _ _ _ (went _ (state_of c.steps.new.working.inner.now) c.in_ok-steps.ensures.told)) c.requires.manifest

pub returns-in_err-ending : goal.returns-in_err-ending
returns-in_err-ending c =
    let few : length (operations_in c.args.ops.now) ≤ most_operations = omega (arith, c.count.ensures) in
    let p = err_from_is_err_and c.from_residual-in_err-ending.result c.from_residual-in_err-ending.ensures.1 in
    let x = end-off c.args.ops.now (length c.args.out.now) c.args.inner.now few c.if-inner-ge-LAST_EPOCH.false c.steps.new.working.inner.now c.in_ok-steps.ensures.told _ (rw c.in_ok-steps.ensures.same.1 at c.ending.ensures) _ c.in_err-ending.was in
    rw (x, p.1, p.2) (refl, refl)

pub returns : goal.returns
returns c =
    let few : length (operations_in c.args.ops.now) ≤ most_operations = omega (arith, c.count.ensures) in
    let n = c.steps.new.working.inner.now in
    let f = c.steps.new.working.ready.fits in
    let left : VersionManagerInner = record n { epoch = c.args.inner.now.epoch + 1; manifest = n.manifest + (length c.args.ops.now + 6) } in
    end_on c.args.ops.now (length c.args.out.now) c.args.inner.now few c.if-inner-ge-LAST_EPOCH.false n c.in_ok-steps.ensures.told _ (rw c.in_ok-steps.ensures.same.1 at c.ending.ensures) c.in_ok-ending.was c.args.out.now _ _
    (handed _ left (search rules) (record { tables = f.tables; rowsets = f.rowsets; vectors = f.vectors })) c.put_append.ensures
