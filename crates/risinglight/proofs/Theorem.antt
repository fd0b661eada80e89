-- The second theorem: every accepted call of a run is one that the Rust does too. Assumes nothing.
use mathlib.Core.Path.{◌≡◌, refl, sym, ap, subst, ◌∙◌}
use mathlib.Core.Bool.{Bool, true, false, ◌&&◌}
use mathlib.Core.List.{List, [], ◌∷◌}
use Prim.Native.Nat.{ℕ, ◌+◌}
use native.Mathlib.Omega.{arith}
use borrow.Author.Tests.{not-true}
use Rattle.lists.specs.Keyed.{any_of}
use Rattle.lists.proofs.Tests.{clash, neither}
use Rattle.version_state.specs.State.{State, start}
use Rattle.version_manager.specs.Managers.{held_by}
use Rattle.plain_record.specs.Sets.{none as plain-none}
use Rattle.plain_record.specs.Calls.{kind_of}
use Rattle.plain_record.specs.Plain.{Record, recorded, at_start, accepts as accepted, turn}
use Rattle.plain_record.specs.Claim.{is_report}
use Rattle.plain_record.specs.Run.{World, Event, is_accepted, value, port, Chain}
use Rattle.plain_record.specs.Run as run
use Rattle.plain_record.proofs.Invariant.{Inv}
use Rattle.plain_record.proofs.Theorem.{turned}
use Rattle.plain_record.proofs.Theorem as record-theorem
use Rattle.risinglight.specs.Run.{Engine, started}
use Rattle.risinglight.specs.Agreement.{reports, Agreed, Agreement}
use Rattle.risinglight.proofs.Files.{Boots}
use Rattle.risinglight.proofs.Relation.{Rel}
use Rattle.risinglight.proofs.Held.{Pool}
use Rattle.risinglight.proofs.Step.{step}
use Rattle.risinglight.proofs.Matches.{matches}
use Rattle.risinglight.proofs.Refused.{refused-manager}

unreported-one : (x y : Bool) → x && y ≡ false → y ≡ true → x ≡ false
unreported-one true true h a = h
unreported-one true false h a = clash a refl
unreported-one false y h a = refl

-- Call after call.

agreed : (cut : ℕ → ℕ) (n : ℕ) (w : World) (g : Engine) (r : Record) (es : List Event) → Inv w r → Rel g r → Pool g (held_by w.manager) r → Chain port w es → any_of reports es ≡ false → Agreed port cut n w g es
agreed cut n w g r [] i k o c u = matches w g r i k o
agreed cut n w g r (e ∷ es) i k o c u =
    let v = neither (reports e) (any_of reports es) u in
    let j : Inv e.before r = subst (λ (x : World). Inv x r) (sym c.0) i in
    let before : Pool g (held_by e.before.manager) r = subst (λ (x : World). Pool g (held_by x.manager) r) (sym c.0) o in
    let kept-one = turned e.call e r j c.1 in (
      (λ a.
          let after : Inv e.after (accepted (kind_of e.call) (value 0 e.told) r) = subst (λ (b : Bool). Inv e.after (turn (kind_of e.call) b (value 0 e.told) r)) a kept-one.inv in
          let s = step (cut n) g r k e j before a e.call (unreported-one (is_report (kind_of e.call)) (is_accepted e.told) v.0 a) c.1 after kept-one.answer in
          record { engine = s.engine; does = s.does; rest = agreed cut (n + 1) e.after s.engine (accepted (kind_of e.call) (value 0 e.told) r) es after s.rel s.pool c.2 v.1 }),
      (λ a.
          let after : Inv e.after (recorded r.whole r.torn r.former (r.place + 1)) = subst (λ (b : Bool). Inv e.after (turn (kind_of e.call) b (value 0 e.told) r)) a kept-one.inv in
          agreed cut (n + 1) e.after g (recorded r.whole r.torn r.former (r.place + 1)) es after (record { whole = k.whole; torn = k.torn }) (subst (λ (o : State). Pool g o (recorded r.whole r.torn r.former (r.place + 1))) (sym (ap held_by (refused-manager e.call e c.1 a))) (record { rowsets = before.rowsets; dvs = before.dvs; next_rowset = before.next_rowset; next_dv = before.next_dv; file = before.file; torn = before.torn })) c.2 v.1),
    )

start-rel : Rel started at_start
start-rel =
    let nothing : Boots [] plain-none = record { catalog = []; runs = refl; tables = refl; rowsets = λ k. refl; dvs = λ k. refl } in
    record {
      whole =
          record {
            epoch = refl;
            now = record { pairs = λ t r. refl; vectors = λ t r v. refl };
            status = λ d h q. absurd (omega arith);
            counts = λ d. refl;
            waiting = refl;
            up_to = tt;
            catalog = refl;
            file = record { ops = []; read = refl; boots = nothing };
          };
      torn = nothing;
    }

start-pool : (w : World) → run.Starts port w → Pool started (held_by w.manager) at_start
start-pool w s =
    let z : held_by w.manager ≡ start = ap (λ (x : World). held_by x.manager) s.fresh ∙ s.says.manager.hands.state in
    subst (λ (o : State). Pool started o at_start) (sym z)
    (record { rowsets = λ j. refl; dvs = λ t q v h. clash h refl; next_rowset = (omega arith, λ e. refl); next_dv = (omega arith, λ e. refl); file = λ P h. refl; torn = λ P h. refl })

pub theorem : Agreement port
theorem w es cut s c u = agreed cut 0 w started at_start es (record-theorem.starts w s) start-rel (start-pool w s) c (not-true _ u)
