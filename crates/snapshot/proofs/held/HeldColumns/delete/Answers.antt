-- `snapshot::held::HeldColumns::delete` meets its contract.
use mathlib.Core.Path.{sym, ap, ◌∙◌}
use lib.ListN.{set}
use Rattle.lists.specs.Keyed.{ascending}
use Rattle.snapshot.specs.Entries.{by_ids, shown_by, deleted_at}
use Rattle.snapshot.proofs.ByPlace.{shown-found, shown-missed}
use Rattle.snapshot.proofs.Listed.{deleted-found, deleted-rises}
use Rattle.snapshot.proofs.held.HeldColumns.delete.Goals as goal

pub returns-in-Ok-clause-told : goal.returns-in-Ok-clause-told
returns-in-Ok-clause-told g c =
    let s = c.args.self.now in
    sym (shown-found (g.Self.Ids.HeldIds.numbers c.args.ids) (g.Self.Counted.entries s) (g.Self.Counted.count s) _ c.requires.rises (shown_by c.args.epoch) c.in-Ok.ensures ∙ sym c.passes_at.ensures ∙ c.if-passes_at.true)

pub returns-in-Ok-clause-left : goal.returns-in-Ok-clause-left
returns-in-Ok-clause-left g c =
    let s = c.args.self.now in
    let l = g.Self.Counted.entries s in
    c.set.ensures.told
    ∙ ap (λ x. set l c.in-Ok.at (deleted_at c.args.epoch x)) c.get-held.ensures
    ∙ deleted-found l (g.Self.Counted.count s) (g.met.Self.HeldColumns.sized s) (g.Self.Ids.HeldIds.numbers c.args.ids) _ c.requires.rises (deleted_at c.args.epoch) c.in-Ok.ensures

pub returns-in-Ok-clause-rises : goal.returns-in-Ok-clause-rises
returns-in-Ok-clause-rises g c =
    let s = c.args.self.now in
    ap (ascending by_ids) (returns-in-Ok-clause-left g c) ∙ deleted-rises (g.Self.Counted.entries s) (g.Self.Ids.HeldIds.numbers c.args.ids) c.args.epoch c.requires.rises

pub returns-in_default-clause-told : goal.returns-in_default-clause-told
returns-in_default-clause-told g c =
    let s = c.args.self.now in
    sym (shown-found (g.Self.Ids.HeldIds.numbers c.args.ids) (g.Self.Counted.entries s) (g.Self.Counted.count s) _ c.requires.rises (shown_by c.args.epoch) c.in-Ok.ensures ∙ sym c.passes_at.ensures ∙ c.if-passes_at.false)

pub returns-in_default-2-clause-told : goal.returns-in_default-2-clause-told
returns-in_default-2-clause-told g c =
    let s = c.args.self.now in
    sym (shown-missed (g.Self.Ids.HeldIds.numbers c.args.ids) (g.Self.Counted.entries s) (g.Self.Counted.count s) _ c.requires.rises (shown_by c.args.epoch) (rw c.in_default.is at c.find.ensures))
