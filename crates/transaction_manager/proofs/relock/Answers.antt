-- `transaction_manager::relock` meets its contract.
use mathlib.Core.Path.{sym, ap, ◌∙◌}
use mathlib.Core.List.{List}
use native.Mathlib.Omega.{arith}
use Rattle.snapshot.specs.Tables.{TableEntry}
use Rattle.version_state.specs.State.{state_of, with_tables}
use Rattle.version_state.proofs.Facts.{sound-of}
use Rattle.transaction_manager.proofs.relock.Goals as goal

pub judge-requires : goal.judge-requires
judge-requires c = (sound-of c.args.inner.now c.requires).fits.tables

pub returns : goal.returns
returns c =
    let f = (sound-of c.args.inner.now c.requires).fits in
    record {
      verdict = sym c.in_ok-judge.was ∙ c.judge.ensures;
      inner = record {
        fits = record { tables = omega (arith, c.set_locked.ensures.count, f.tables); rowsets = f.rowsets; vectors = f.vectors };
        state = ap (λ (l : List TableEntry). with_tables (state_of c.args.inner.now) l) c.set_locked.ensures.told;
      };
    }
