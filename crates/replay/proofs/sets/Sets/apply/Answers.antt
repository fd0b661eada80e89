use Rattle.std.proofs.Common.{refl, rules}
use Rattle.replay.proofs.Entries.{rowset-put, rowset-without, vector-put, vector-without}
use Rattle.replay.proofs.sets.Sets.apply.Goals as goal

pub returns-in-AddRowSet : goal.returns-in-AddRowSet
returns-in-AddRowSet c = rw (c.in-AddRowSet.is, c.put.ensures.told, rowset-put, c.max.ensures) (search rules)

pub returns-in-DeleteRowSet : goal.returns-in-DeleteRowSet
returns-in-DeleteRowSet c = rw (c.in-DeleteRowSet.is, c.remove.ensures.told, rowset-without) refl

pub returns-in-AddDV : goal.returns-in-AddDV
returns-in-AddDV c = rw (c.in-AddDV.is, c.put-in-AddDV.ensures.told, vector-put, c.max-in-AddDV.ensures) (search rules)

pub returns-in-DeleteDV : goal.returns-in-DeleteDV
returns-in-DeleteDV c = rw (c.in-DeleteDV.is, c.remove-in-DeleteDV.ensures.told, vector-without) refl
