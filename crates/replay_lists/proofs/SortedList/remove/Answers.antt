use Rattle.std.proofs.Common.{sym, subst, refl}
use Rattle.replay_lists.specs.Entries.{by, StandsAt}
use Rattle.replay_lists.proofs.Searched.{removed, none_removed, rises-without}
use Rattle.replay_lists.proofs.SortedList.remove.Goals as goal

pub invariant_of-self : goal.invariant_of-self
invariant_of-self g c =
    let key = by g.T.Keyed.numbers g.T.Keyed.key in
    let at = subst (λ l. StandsAt key (g.T.Keyed.numbers c.args.key) l c.in-Ok.at) (sym c.self.view_is) c.in-Ok.ensures.found in
    rw (c.remove.ensures.items, removed key _ _ c.self.invariant _ at) (rises-without key _ _ c.self.invariant)

pub returns-in-Ok : goal.returns-in-Ok
returns-in-Ok g c =
    let key = by g.T.Keyed.numbers g.T.Keyed.key in
    let at = subst (λ l. StandsAt key (g.T.Keyed.numbers c.args.key) l c.in-Ok.at) (sym c.self.view_is) c.in-Ok.ensures.found in
    rw (c.remove.ensures.items, removed key _ _ c.self.invariant _ at, ← c.self.view_is)
    (record { told = refl; rising = rises-without key _ _ c.self.invariant })

pub returns-in_default : goal.returns-in_default
returns-in_default g c =
    let key = by g.T.Keyed.numbers g.T.Keyed.key in
    let rising = rw c.self.view_is at c.self.invariant in
    record { told = none_removed key _ _ rising _ c.in_default.ensures.missing; rising = rising }
