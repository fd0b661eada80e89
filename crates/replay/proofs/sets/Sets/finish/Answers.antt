use Rattle.std.proofs.Common.{refl}
use Rattle.replay.specs.Replay.{ReplayIs}
use Rattle.replay.proofs.sets.Sets.finish.Goals as goal

pub returns-then-not-have_tables : goal.returns-then-not-have_tables
unfolding ReplayIs
returns-then-not-have_tables c = rw (← c.have_tables.ensures, c.if-not-have_tables.true) refl

pub returns : goal.returns
unfolding ReplayIs
returns c =
    rw (← c.have_tables.ensures, c.if-not-have_tables.false) (
      _,
      refl,
      record {
        fits = record { tables = c.live_tables.ensures.fits; rowsets = c.live_rowsets.ensures.fits; vectors = c.live_vectors.ensures.fits };
        state = rw (c.live_tables.ensures.told, c.live_rowsets.ensures.told, c.live_vectors.ensures.told) refl;
      },
    )
