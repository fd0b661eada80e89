-- What stands on both sides between two calls. Assumes nothing.
use mathlib.Core.Path.{◌≡◌, sym, ap, subst, ◌∙◌}
use mathlib.Core.Bool.{true}
use mathlib.Core.Option.{Option, none, some}
use Prim.Native.Nat.{ℕ}
use native.Mathlib.Omega.{arith}
use lib.Dec.{eqb}
use borrow.Author.Tests.{eqb-true}
use Rattle.lists.proofs.Tests.{by_cases}
use Rattle.pins.specs.Book.{place_on}
use Rattle.pins.specs.Guards.{Guards, guards_of, may_show}
use Rattle.pins.specs.Counts.{pins_at}
use Rattle.version_manager.specs.Managers.{held_by}
use Rattle.plain_record.specs.Sets.{Sets}
use Rattle.plain_record.specs.Plain.{epoch_of, sets_at, guards_in, Record}
use Rattle.plain_record.specs.Run.{World, port}
use Rattle.plain_record.specs.Shows.{ShowsTables}
use Rattle.plain_record.proofs.Invariant.{Inv, guards-alike}
use Rattle.plain_record.proofs.Agree.{agree}
use Rattle.plain_record.proofs.CommitShows.{shows-now}
use Rattle.risinglight.specs.Maps.{unwrap_or, get}
use Rattle.risinglight.specs.Snapshot.{Snapshot, default}
use Rattle.risinglight.specs.Run.{Engine}
use Rattle.risinglight.specs.Agreement.{snapshot_at, Matches}
use Rattle.risinglight.proofs.Changes.{Shows}
use Rattle.risinglight.proofs.Counts.{counted_back}
use Rattle.risinglight.proofs.Relation.{Showing, Rel}
use Rattle.risinglight.proofs.Held.{Pool}
use Rattle.risinglight.proofs.Accepted.{pinned-within, valid-pins}

-- What stands on both sides.

some-shows : (o : Option Snapshot) (x : Sets) → Showing o x → Shows (unwrap_or default o) x
some-shows none x h = absurd h
some-shows (some s) x h = h

module _ (w : World) (g : Engine) (r : Record) (i : Inv w r) (k : Rel g r) (pool : Pool g (held_by w.manager) r) where
  shows-at : (d : ℕ) → may_show (guards_in r.whole) d ≡ true → Shows (snapshot_at d g.running.version) (sets_at d r.whole)
  shows-at d h =
      by_cases (eqb d (epoch_of r.whole))
      (λ t.
      let q : d ≡ epoch_of r.whole = eqb-true d (epoch_of r.whole) t in
      let z : sets_at d r.whole ≡ r.whole.now = shows-now r.whole.past r.whole.now d (omega arith) in
      let y : g.running.version.epoch ≡ d = k.whole.epoch ∙ sym q in
      subst (Shows (snapshot_at d g.running.version)) (sym z) (subst (λ (n : ℕ). Shows (snapshot_at n g.running.version) r.whole.now) y k.whole.now))
      (λ t.
      let b = pinned-within w.manager.inner.epoch d r.whole.pinned (valid-pins w r i) (rw t at h) in
      some-shows (get d g.running.version.status) (sets_at d r.whole) (k.whole.status d b.0 (omega (arith, b.1, i.epoch))))

  pub matches : Matches port w g
  matches =
      let z = agree w r i in
      let may : (d : ℕ) → may_show (guards_of (held_by w.manager) w.book) d ≡ true → may_show (guards_in r.whole) d ≡ true =
      λ d h. subst (λ (x : Guards). may_show x d ≡ true) (guards-alike w r i) h in
      record {
        epoch = i.epoch ∙ sym k.whole.epoch;
        tables = subst (ShowsTables port w (held_by w.manager).epoch) (sym k.whole.catalog) (subst (λ (d : ℕ). ShowsTables port w d r.whole.now.tables) (sym i.epoch) z.tables);
        pairs = λ d h. record { pairs = (sets_at d r.whole).pairs; shown = z.pairs d (may d h); same = (shows-at d (may d h)).pairs };
        vectors = λ d h. record { vectors = (sets_at d r.whole).vectors; shown = z.vectors d (may d h); same = (shows-at d (may d h)).vectors };
        pins = λ d. ap (pins_at (place_on d)) i.pins ∙ sym (ap (unwrap_or 0) (k.whole.counts d) ∙ counted_back (pins_at (place_on d) r.whole.pinned));
        rowsets = pool.rowsets;
        dvs = pool.dvs;
        next_rowset = pool.next_rowset;
        next_dv = pool.next_dv;
        waiting = i.waiting ∙ sym k.whole.waiting;
      }
