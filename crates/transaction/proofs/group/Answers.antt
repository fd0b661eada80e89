-- `transaction::group` meets its contract.
use Rattle.std.proofs.Common.{◌≡◌, map, take, length, not, sym, ap, ◌∙◌, arith, rules, length-take}
use Rattle.transaction.specs.Groups.{handle_of, handles_of}
use Rattle.transaction.specs.Says.{no_id}
use Rattle.transaction.proofs.Outputs.{first_handles, ids-told, no-id, too_many}
use Rattle.transaction.proofs.group.Goals as goal

pub returns-then-not-are_ids : goal.returns-then-not-are_ids
returns-then-not-are_ids c =
    let h = c.args.handles.now in
    let f : length h.items ≡ 4096 = search rules in
    let z = first_handles h.items h.count c.min.result f c.min.ensures in
    no-id (handles_of h) h.count c.args.next c.args.rs.now c.args.ls.now c.args.cs.now c.args.fs.now c.args.ms.now
    (ap (λ l. no_id (map handle_of l)) (sym z) ∙ ids-told (take c.min.result h.items) ∙ ap not (sym c.are_ids.ensures ∙ c.if-not-are_ids.true))

pub returns-then-handles-gt-MOST_HANDLES : goal.returns-then-handles-gt-MOST_HANDLES
returns-then-handles-gt-MOST_HANDLES c =
    let h = c.args.handles.now in
    let f : length h.items ≡ 4096 = search rules in
    let z = first_handles h.items h.count c.min.result f c.min.ensures in
    too_many (handles_of h) h.count c.args.next c.args.rs.now c.args.ls.now c.args.cs.now c.args.fs.now c.args.ms.now
    (ap (λ l. no_id (map handle_of l)) (sym z) ∙ ids-told (take c.min.result h.items) ∙ ap not (sym c.are_ids.ensures ∙ c.if-not-are_ids.false))
    c.if-handles-gt-MOST_HANDLES.true

pub grouped-requires : goal.grouped-requires
grouped-requires c =
    ids-told (take c.min.result c.args.handles.now.items) ∙ ap not (sym c.are_ids.ensures ∙ c.if-not-are_ids.false)

pub returns : goal.returns
returns c =
    let h = c.args.handles.now in
    let f : length h.items ≡ 4096 = search rules in
    let z = first_handles h.items h.count c.min.result f c.min.ensures in
    let n : length (take c.min.result h.items) ≡ h.count = omega (arith, c.min.ensures, length-take c.min.result h.items, c.if-handles-gt-MOST_HANDLES.false) in
    rw z at (rw n at c.grouped.ensures)
