use Rattle.std.proofs.Common.{length, set, sym, ap, refl, subst, arith, length-set}
use Rattle.arrayvec.proofs.ArrayVecLemmas.{items-with_items}
use Rattle.replay_lists.specs.Entries.{by, StandsAt, MissingAt}
use Rattle.replay_lists.proofs.Searched.{replaced, inserted, rises-put, missing-within}
use Rattle.replay_lists.proofs.SortedList.put.Goals as goal

-- the entry at the place of its key is written over
pub invariant_of-self : goal.invariant_of-self
invariant_of-self g c =
    let key = by g.T.Keyed.numbers g.T.Keyed.key in
    let at = subst (λ l. StandsAt key (key c.args.x) l c.in-Ok.at) (sym c.self.view_is) (rw (ap g.T.Keyed.numbers c.key.ensures) at c.in-Ok.ensures.found) in
    rw (items-with_items c.self.inside.entries (set c.as_mut_slice.result.now c.in-Ok.at c.args.x) (simp length-set (ap length c.as_mut_slice.ensures.value)), c.as_mut_slice.ensures.value, replaced key c.args.x _ c.self.invariant _ at)
    (rises-put key c.args.x _ c.self.invariant)

pub returns-in-Ok : goal.returns-in-Ok
returns-in-Ok g c =
    let key = by g.T.Keyed.numbers g.T.Keyed.key in
    let at = subst (λ l. StandsAt key (key c.args.x) l c.in-Ok.at) (sym c.self.view_is) (rw (ap g.T.Keyed.numbers c.key.ensures) at c.in-Ok.ensures.found) in
    rw (items-with_items c.self.inside.entries (set c.as_mut_slice.result.now c.in-Ok.at c.args.x) (simp length-set (ap length c.as_mut_slice.ensures.value)), c.as_mut_slice.ensures.value, replaced key c.args.x _ c.self.invariant _ at, ← c.self.view_is)
    (record { told = refl; rising = rises-put key c.args.x _ c.self.invariant })

-- or it is put in there
pub insert-requires : goal.insert-requires
insert-requires g c =
    let within = missing-within _ _ _ _ c.in-Err.ensures.missing in
    let room = ap length c.self.view_is in
    (omega arith, omega arith)

pub invariant_of-self-in-Err : goal.invariant_of-self-in-Err
invariant_of-self-in-Err g c =
    let key = by g.T.Keyed.numbers g.T.Keyed.key in
    let at = subst (λ l. MissingAt key (key c.args.x) l c.in-Err.at) (sym c.self.view_is) (rw (ap g.T.Keyed.numbers c.key.ensures) at c.in-Err.ensures.missing) in
    rw (c.insert.ensures.items, inserted key c.args.x _ c.self.invariant _ at) (rises-put key c.args.x _ c.self.invariant)

pub returns-in-Err : goal.returns-in-Err
returns-in-Err g c =
    let key = by g.T.Keyed.numbers g.T.Keyed.key in
    let at = subst (λ l. MissingAt key (key c.args.x) l c.in-Err.at) (sym c.self.view_is) (rw (ap g.T.Keyed.numbers c.key.ensures) at c.in-Err.ensures.missing) in
    rw (c.insert.ensures.items, inserted key c.args.x _ c.self.invariant _ at, ← c.self.view_is)
    (record { told = refl; rising = rises-put key c.args.x _ c.self.invariant })
