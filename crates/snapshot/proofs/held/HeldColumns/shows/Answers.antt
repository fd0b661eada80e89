-- `snapshot::held::HeldColumns::shows` meets its contract.
use mathlib.Core.Path.{sym, ◌∙◌}
use Rattle.snapshot.specs.Entries.{shown_by}
use Rattle.snapshot.proofs.ByPlace.{shown-found, shown-missed}
use Rattle.snapshot.proofs.held.HeldColumns.shows.Goals as goal

pub returns-in-Ok : goal.returns-in-Ok
returns-in-Ok g c =
    let s = c.args.self.now in
    c.passes_at.ensures ∙ sym (shown-found (g.Self.Ids.HeldIds.numbers c.args.ids) (g.Self.Counted.entries s) (g.Self.Counted.count s) _ c.requires.rises (shown_by c.args.epoch) c.in-Ok.ensures)

pub returns-in-Err : goal.returns-in-Err
returns-in-Err g c =
    let s = c.args.self.now in
    sym (shown-missed (g.Self.Ids.HeldIds.numbers c.args.ids) (g.Self.Counted.entries s) (g.Self.Counted.count s) _ c.requires.rises (shown_by c.args.epoch) c.in-Err.ensures)
