-- The first theorem: every turn of a run keeps the invariant, and it holds at the start. Assumes nothing.
use mathlib.Core.Path.{refl, sym, ap, subst, ◌∙◌}
use mathlib.Core.Bool.{true, false}
use mathlib.Core.List.{[], map}
use native.Mathlib.Omega.{arith}
use Rattle.version_state.specs.State.{State, start, with_epoch, pairs_at, vectors_at}
use Rattle.version_state.specs.Sets.{sets_of}
use Rattle.version_manager.specs.declared.Opened.{Opened}
use Rattle.version_manager.specs.Managers.{FreshSays}
use Rattle.version_manager.proofs.Laws.{draw-laws}
use Rattle.replay.specs.Replay.{reopened}
use Rattle.recovery.proofs.Appending.{empty_holds, holds-replayed}
use Rattle.plain_record.specs.Sets.{Sets, none}
use Rattle.plain_record.specs.Calls.{Call, draw_rowset, draw_vector, group, lock, unlock, commit, create, drop, compact, pin, unpin, vacuum, report, checkpoint, reopen, kind_of}
use Rattle.plain_record.specs.Plain.{Record, at_start}
use Rattle.plain_record.specs.Plain.{start as plain-start}
use Rattle.plain_record.specs.Run.{no_append, World, world, Event, value, port, LinkBy, Starts}
use Rattle.plain_record.specs.Claim.{waiting_in, Claim}
use Rattle.plain_record.proofs.Invariant.{plain_table, Torn, Inv, Kept}
use Rattle.plain_record.proofs.CommitShows.{shows-now}
use Rattle.plain_record.proofs.Draw.{draw-rowset-kept, draw-vector-kept, group-kept, relock-kept}
use Rattle.plain_record.proofs.Commit.{commit-keeps, create-keeps, drop_keeps, compact-keeps}
use Rattle.plain_record.proofs.Pin.{pin-kept, pin-answers}
use Rattle.plain_record.proofs.Unpin.{unpin-kept}
use Rattle.plain_record.proofs.Vacuum.{vacuum-kept, vacuum-lists}
use Rattle.plain_record.proofs.Report.{report-kept, report-refused, report-answers}
use Rattle.plain_record.proofs.Checkpoint.{checkpoint-kept, checkpoint-accepted}
use Rattle.plain_record.proofs.Reopen.{empty-book, reopen-keeps, reopen-accepted}
use Rattle.plain_record.proofs.Through.{claimed}

-- The start.

nothing_yet : Torn [] plain-start
nothing_yet = record { state = with_epoch start reopened 0; replayed = holds-replayed [] (with_epoch start reopened 0) empty_holds (omega arith); sets = refl; next = refl }

start-inv : (o : Opened) → FreshSays o → Inv (world o.manager o.book [] [] no_append) at_start
start-inv o f =
    let z = f.manager.hands.state in
    record {
      sound = draw-laws.fresh o f;
      book = empty-book o.manager.inner.epoch o.book f.book;
      epoch = ap (λ (s : State). s.epoch) z;
      tables = ap (λ (s : State). map plain_table s.tables) z;
      pairs = λ d h. ap (pairs_at d) z ∙ sym (ap (λ (s : Sets). s.pairs) (shows-now [] none d (omega arith)));
      vectors = λ d h. ap (vectors_at d) z ∙ sym (ap (λ (s : Sets). s.vectors) (shows-now [] none d (omega arith)));
      pins = f.book.pins;
      waiting = ap waiting_in z;
      next = refl;
      file =
          record {
            state = with_epoch start reopened 0;
            holds = empty_holds;
            same = ap sets_of z;
            long = sym (ap (λ (s : State). s.manifest) z);
            next = refl;
          };
      torn = nothing_yet;
      recalled = f.manager.nothing;
    }

pub starts : (w : World) → Starts port w → Inv w at_start
starts w s = subst (λ (x : World). Inv x at_start) (sym s.fresh) (start-inv s.opened s.says)

-- One turn, by its call.

pub turned : (c : Call) (e : Event) (r : Record) → Inv e.before r → LinkBy port e.before e.told e.listed e.after c → Kept r e (kind_of c)
turned draw_rowset e r i d = record { inv = draw-rowset-kept (value 0 e.told) e.before r e.told e.listed e.after i d; answer = tt }
turned draw_vector e r i d = record { inv = draw-vector-kept (value 0 e.told) e.before r e.told e.listed e.after i d; answer = tt }
turned (group h rs ls cs fs ms) e r i d = record { inv = group-kept (value 0 e.told) e.before r e.told e.listed e.after i h rs ls cs fs ms d; answer = tt }
turned (lock n) e r i d = record { inv = relock-kept (value 0 e.told) e.before r e.told e.listed e.after i true n d; answer = tt }
turned (unlock n) e r i d = record { inv = relock-kept (value 0 e.told) e.before r e.told e.listed e.after i false n d; answer = tt }
turned (commit os out missing) e r i d = record { inv = commit-keeps e.before e.told e.listed e.after os out missing r i d; answer = tt }
turned (create shape name out missing) e r i d = record { inv = create-keeps e.before e.told e.listed e.after shape name out missing r i d; answer = tt }
turned (drop n out missing) e r i d = record { inv = drop_keeps e.before e.told e.listed e.after n out missing r i d; answer = tt }
turned (compact n new taken out missing) e r i d = record { inv = compact-keeps e.before e.told e.listed e.after n new taken out missing r i d; answer = tt }
turned pin e r i d =
    record { inv = pin-kept e.before r e.told e.listed e.after i d (value 0 e.told); answer = pin-answers e.before r e.told e.listed e.after i d }
turned (unpin n) e r i d = record { inv = unpin-kept e.before r e.told e.listed e.after n i d (value 0 e.told); answer = tt }
turned (vacuum ts rs) e r i d =
    record {
      inv = vacuum-kept e.before r e.told e.listed e.after ts rs i d (value 0 e.told);
      answer = vacuum-lists e.before r e.told e.listed e.after ts rs i d;
    }
turned (report n) e r i d =
    record {
      inv = report-kept e.before r e.told e.listed e.after n i d (value 0 e.told);
      answer = (report-refused e.before r e.told e.listed e.after n i d, report-answers e.before r e.told e.listed e.after n i d);
    }
turned (checkpoint out stale) e r i d =
    record {
      inv = checkpoint-kept e.before e.told e.listed e.after out stale r i d (value 0 e.told);
      answer = checkpoint-accepted e.before e.told e.listed e.after out stale r i d;
    }
turned (reopen out stale) e r i d =
    record {
      inv = reopen-keeps e.before e.told e.listed e.after out stale r i d (value 0 e.told);
      answer = reopen-accepted e.before e.told e.listed e.after out stale r i d;
    }

pub theorem : Claim port
theorem = claimed (λ e r. turned e.call e r) starts
