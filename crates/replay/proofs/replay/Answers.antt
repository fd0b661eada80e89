use Rattle.std.proofs.Common.{refl}
use borrow.Author.Tests.{lt-ltb, le-ltb}
use Rattle.std.proofs.lemmas.Result.{err_from_is_err_and}
use Rattle.replay.specs.Replay.{ReplayIs}
use Rattle.replay.proofs.replay.Goals as goal

pub returns-then-src-gt-LONGEST_MANIFEST : goal.returns-then-src-gt-LONGEST_MANIFEST
unfolding ReplayIs
returns-then-src-gt-LONGEST_MANIFEST c = rw (lt-ltb _ _ c.if-src-gt-LONGEST_MANIFEST.true) refl

pub returns-in_err-read : goal.returns-in_err-read
unfolding ReplayIs
returns-in_err-read c =
    let p = err_from_is_err_and c.from_residual.result c.from_residual.ensures.1 in
    rw (le-ltb _ _ c.if-src-gt-LONGEST_MANIFEST.false, c.in_err-read.ensures, p.1, p.2) refl

pub returns : goal.returns
returns c = rw (le-ltb _ _ c.if-src-gt-LONGEST_MANIFEST.false, c.in_ok-read.ensures.same) c.finish.ensures
