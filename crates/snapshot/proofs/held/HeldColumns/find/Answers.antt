-- `snapshot::held::HeldColumns::find` meets its contract.
use mathlib.Core.Path.{sym, ◌∙◌}
use Rattle.snapshot.proofs.Listed.{found, missed}
use Rattle.snapshot.proofs.held.HeldColumns.find.Goals as goal

pub returns-then-stands_at : goal.returns-then-stands_at
returns-then-stands_at g c =
    let s = c.args.self.now in
    found (g.Self.Counted.entries s) (g.Self.Counted.count s) (g.met.Self.HeldColumns.sized s) (g.Self.Ids.HeldIds.numbers c.args.ids) _ c.requires.rises c.place-at.ensures.told (sym c.stands_at.ensures ∙ c.if-stands_at.true)

pub returns-else-stands_at : goal.returns-else-stands_at
returns-else-stands_at g c =
    let s = c.args.self.now in
    missed (g.Self.Counted.entries s) (g.Self.Counted.count s) (g.met.Self.HeldColumns.sized s) (g.Self.Ids.HeldIds.numbers c.args.ids) _ c.requires.rises c.place-at.ensures.told c.place-at.ensures.inside (sym c.stands_at.ensures ∙ c.if-stands_at.false)
