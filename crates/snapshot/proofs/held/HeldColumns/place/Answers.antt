-- `snapshot::held::HeldColumns::place` meets its contract.
use mathlib.Core.Path.{sym, ◌∙◌}
use Rattle.std.proofs.Common.{rules, tests}
use Rattle.snapshot.proofs.Listed.{place-rank}
use Rattle.snapshot.proofs.held.HeldColumns.place.Goals as goal

pub returns-clause-told : goal.returns-clause-told
returns-clause-told g c =
    let s = c.args.self.now in
    place-rank (g.Self.Counted.entries s) c.count.result (g.met.Self.HeldColumns.sized s ∙ sym c.count.ensures) (g.Self.Ids.HeldIds.numbers c.args.ids) _ c.place.result c.requires.rises (λ i b h w. search (rules, tests)) c.place.ensures
