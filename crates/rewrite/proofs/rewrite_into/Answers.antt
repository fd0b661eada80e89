-- `rewrite::rewrite_into` meets its contract.
use mathlib.Core.Path.{◌≡◌, ap, ◌∙◌}
use mathlib.Core.List.{List}
use Prim.Native.Nat.{ℕ, ◌≤◌}
use native.Mathlib.Omega.{arith}
use borrow.Author.Tests.{le-ltb}
use lib.ListN.{length}
use Rattle.std.specs.Prelude.{Ok}
use Rattle.lists.specs.Written.{over}
use Rattle.lists.proofs.Written.{wrote-over}
use Rattle.version_state.specs.State.{state_of, with_epoch}
use Rattle.rewrite.specs.Rewritten.{rewritten_of}
use Rattle.rewrite.proofs.rewrite_into.Goals as goal

pub returns : goal.returns
returns c =
    let q : c.as_slice-printed.result.now ≡ rewritten_of (state_of c.args.inner.now) = c.as_slice-printed.ensures ∙ c.put_rewritten_lines.ensures.0 in
    let e = ap length q in
    let room : length (rewritten_of (state_of c.args.inner.now)) ≤ length c.args.out.now = omega (arith, c.if-out-n.false, e) in
    record {
      answer = rw (le-ltb _ _ room) (ap (λ (n : ℕ). Ok n) e);
      counted = e;
      within = omega (arith, ap length c.put_rewritten_lines.ensures.0, c.put_rewritten_lines.ensures.1);
      bytes = rw (le-ltb _ _ room) (wrote-over _ _ _ _ c.put_bytes.ensures ∙ ap (λ (l : List ℕ). over l c.args.out.now) q);
      inner = rw (le-ltb _ _ room) (record {
        fits = record { tables = c.requires.tables; rowsets = c.requires.rowsets; vectors = c.requires.vectors };
        state = ap (λ (n : ℕ). with_epoch (state_of c.args.inner.now) c.args.inner.now.epoch n) e;
      });
    }
