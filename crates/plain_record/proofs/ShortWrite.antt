-- That a report takes back its commit and nothing else follows from the claim. Assumes nothing.
use mathlib.Core.Path.{◌≡◌, refl, sym, ap, subst, ◌∙◌}
use mathlib.Core.Bool.{Bool, true, false, not, ◌||◌}
use mathlib.Core.List.{List, [], ◌∷◌, ◌++◌}
use Prim.Native.Nat.{ℕ}
use native.Mathlib.Omega.{arith}
use lib.ListN.{length}
use borrow.Author.Tests.{eq-eqb}
use Rattle.lists.specs.Keyed.{all_of}
use Rattle.lists.proofs.Tests.{clash, both}
use Rattle.pins.specs.Guards.{may_show}
use Rattle.plain_record.specs.Sets.{Sets, apply_all}
use Rattle.plain_record.specs.Calls.{Kind, quiet, as_commit, as_pin, as_unpin, as_vacuum, as_report, as_checkpoint, as_reopen, kind_of}
use Rattle.plain_record.specs.Plain.{Plain, epoch_of, guards_in, former, Record, at_start, turn}
use Rattle.plain_record.specs.Run.{World, Event, is_accepted, value, port, last_of}
use Rattle.plain_record.specs.Shows.{ShowsTables, ShowsPairs, ShowsVectors}
use Rattle.plain_record.specs.Claim.{Agrees, is_pinning, next_record, record_of, Claim}
use Rattle.plain_record.specs.ShortWrite.{ShowsNow, only_pins, ShortWrite}
use Rattle.plain_record.proofs.CommitShows.{shows-now}
use Rattle.plain_record.proofs.Story.{chain-front, chain_back, last-append, record-append}

-- what the current epoch shows are the record's last sets
now-shown : (w : World) (p : Plain) → Agrees port w p → ShowsNow port w p.now
now-shown w p a =
    let e = sym a.epoch in
    let now = shows-now p.past p.now (epoch_of p) (omega arith) in
    let may : may_show (guards_in p) (epoch_of p) ≡ true = rw (eq-eqb (epoch_of p) (epoch_of p) refl) in
    record {
      tables = subst (λ (d : ℕ). ShowsTables port w d p.now.tables) e a.tables;
      pairs = subst (λ (d : ℕ). ShowsPairs port w d p.now.pairs) e (subst (λ (z : Sets). ShowsPairs port w (epoch_of p) z.pairs) now (a.pairs (epoch_of p) may));
      vectors = subst (λ (d : ℕ). ShowsVectors port w d p.now.vectors) e (subst (λ (z : Sets). ShowsVectors port w (epoch_of p) z.vectors) now (a.vectors (epoch_of p) may));
    }

-- between the commit and its report: p may be taken back to
pins-turn : (k : Kind) (a : Bool) (id : ℕ) (r : Record) → not a || is_pinning k ≡ true → (turn k a id r).former ≡ r.former
pins-turn quiet true id r h = clash h refl
pins-turn (as_commit made missing) true id r h = clash h refl
pins-turn as_pin true id r h = refl
pins-turn (as_unpin e) true id r h = refl
pins-turn as_vacuum true id r h = clash h refl
pins-turn (as_report n) true id r h = clash h refl
pins-turn (as_checkpoint lent) true id r h = clash h refl
pins-turn (as_reopen lent) true id r h = clash h refl
pins-turn k false id r h = refl

pins-turns : (r : Record) (ps : List Event) → all_of only_pins ps ≡ true → (record_of r ps).former ≡ r.former
pins-turns r [] h = refl
pins-turns r (e ∷ ps) h =
    let d = both (only_pins e) (all_of only_pins ps) h in
    pins-turns (next_record r e) ps d.1 ∙ pins-turn (kind_of e.call) (is_accepted e.told) (value 0 e.told) r d.0

-- the report, the further commit and the reopen
taken-now : (r : Record) (p : Plain) (n : ℕ) → r.former ≡ former p → (id : ℕ) → (turn (as_report n) true id r).whole.now ≡ p.now
taken-now r p n h id = rw h

accepted-turn : (r : Record) (e : Event) (k : Kind) → kind_of e.call ≡ k → is_accepted e.told ≡ true → next_record r e ≡ turn k true (value 0 e.told) r
accepted-turn r e k c a = rw (c, a)

pub short_write : Claim port → ShortWrite port
short_write claim w es c ps b d o made missing n os out lent stale s k c_call took pins b-call back d-call more o-call opens =
    let rest = c ∷ (ps ++ (b ∷ d ∷ o ∷ [])) in
    let r = record_of at_start es in
    let p = r.whole in
    let before : c.before ≡ last_of w es = (chain_back port w es rest k).0 in
    let first = (claim w es s (chain-front port w es rest k)).agrees in
    let one : ShowsNow port c.before p.now = rw before (now-shown (last_of w es) p first) in
    let r1 = next_record r c in
    let r2 = record_of r1 ps in
    let r3 = next_record r2 b in
    let r4 = next_record r3 d in
    let r5 = next_record r4 o in
    let f1 : r1.former ≡ former p = ap (λ (x : Record). x.former) (accepted-turn r c (as_commit made missing) c_call took) in
    let f2 : r2.former ≡ former p = pins-turns r1 ps pins ∙ f1 in
    let n3 : r3.whole.now ≡ p.now = ap (λ (x : Record). x.whole.now) (accepted-turn r2 b (as_report n) (ap kind_of b-call) back) ∙ taken-now r2 p n f2 (value 0 b.told) in
    let n4 : r4.torn.now ≡ apply_all os p.now = ap (λ (x : Record). x.torn.now) (accepted-turn r3 d (as_commit (λ id z. os) 0) (ap kind_of d-call) more) ∙ ap (apply_all os) n3 in
    let n5 : r5.whole.now ≡ apply_all os p.now = ap (λ (x : Record). x.whole.now) (accepted-turn r4 o (as_reopen (length lent)) (ap kind_of o-call) opens) ∙ n4 in
    let all = (claim w (es ++ rest) s k).agrees in
    let ends : last_of w (es ++ rest) ≡ o.after = last-append w es rest ∙ last-append c.after ps (b ∷ d ∷ o ∷ []) in
    let last : record_of at_start (es ++ rest) ≡ r5 = record-append at_start es rest ∙ record-append r1 ps (b ∷ d ∷ o ∷ []) in
    let a : Agrees port o.after r5.whole = subst (λ (x : World). Agrees port x r5.whole) ends (subst (λ (x : Record). Agrees port (last_of w (es ++ rest)) x.whole) last all) in
    let two : ShowsNow port o.after (apply_all os p.now) = subst (ShowsNow port o.after) n5 (now-shown o.after r5.whole a) in
    (p.now, one, two)
