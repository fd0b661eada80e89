-- `version_state::VersionManagerInner::fresh` meets its contract.
use native.Mathlib.Omega.{arith}
use Rattle.std.proofs.Common.{◌≡◌, rules}
use Rattle.version_state.proofs.VersionManagerInner.fresh.Goals as goal

pub returns : goal.returns
returns c =
    let t : c.default.result.table.0 ≡ 0 = search rules in
    let r : c.default.result.rowset.0 ≡ 0 = search rules in
    let v : c.default.result.vector.0 ≡ 0 = search rules in
    record {
      fits = record { tables = omega (arith, c.none.ensures.0); rowsets = omega (arith, c.none-2.ensures.0); vectors = omega (arith, c.none-3.ensures.0) };
      state = rw (t, r, v, c.none.ensures.1, c.none-2.ensures.1, c.none-3.ensures.1);
    }
