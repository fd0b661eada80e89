-- A run gone through call by call: where every turn keeps the invariant, and it holds at the start, the claim holds. Assumes nothing.
use mathlib.Core.Path.{sym, subst}
use mathlib.Core.List.{List, [], ◌∷◌}
use Rattle.plain_record.specs.Calls.{kind_of}
use Rattle.plain_record.specs.Plain.{Record, at_start}
use Rattle.plain_record.specs.Run.{World, Event, port, Link, Chain, last_of, Starts}
use Rattle.plain_record.specs.Claim.{next_record, Answers, record_of, Claim}
use Rattle.plain_record.proofs.Invariant.{Inv, guards-alike, Kept}
use Rattle.plain_record.proofs.Deletions.{below-start, Seen, AllSeen, answer-lists, deletions-hold}
use Rattle.plain_record.proofs.Agree.{agree}

record Through (w : World) (r : Record) (es : List Event) : Type 0 where
  last : Inv (last_of w es) (record_of r es)
  answers : Answers r es
  seen : AllSeen r es

module _ (step : (e : Event) (r : Record) → Inv e.before r → Link port e → Kept r e (kind_of e.call)) (start : (w : World) → Starts port w → Inv w at_start) where
  through : (w : World) (r : Record) (es : List Event) → Inv w r → Chain port w es → Through w r es
  through w r [] i k = record { last = i; answers = tt; seen = tt }
  through w r (e ∷ es) i k =
      let j : Inv e.before r = subst (λ (x : World). Inv x r) (sym k.0) i in
      let n = step e r j k.1 in
      let t = through e.after (next_record r e) es n.inv k.2 in
      let s : Seen r e = record { guards = guards-alike e.before r j; apart = (agree e.before r j).apart; list = answer-lists r e (kind_of e.call) n.answer } in
      record { last = t.last; answers = (n.answer, t.answers); seen = (s, t.seen) }

  pub claimed : Claim port
  claimed w es s k =
      let t = through w at_start es (start w s) k in
      record { agrees = agree (last_of w es) (record_of at_start es) t.last; answers = t.answers; deletions = deletions-hold at_start es below-start t.seen }
