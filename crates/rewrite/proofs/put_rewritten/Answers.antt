-- `rewrite::put_rewritten` meets its contract.
use mathlib.Core.Path.{◌≡◌, ap, ◌∙◌}
use native.Mathlib.Omega.{arith}
use lib.ListN.{length}
use Rattle.version_state.specs.State.{state_of}
use Rattle.rewrite.specs.Rewritten.{rewritten_of}
use Rattle.rewrite.proofs.put_rewritten.Goals as goal

pub returns : goal.returns
returns c =
    let q : c.as_slice.result.now ≡ rewritten_of (state_of c.args.inner.now) = c.as_slice.ensures ∙ c.put_rewritten_lines.ensures.0 in
    (rw q at c.put_bytes.ensures, omega (arith, c.put_bytes.ensures.next, ap length c.as_slice.ensures, c.put_rewritten_lines.ensures.1))
