-- Bytes that always hold a rewritten manifest. Assumes nothing.
use Rattle.std.specs.Prelude.{◌≡◌, true, ◌≤◌, length}
use Rattle.lists.specs.Keyed.{all_of}
use Rattle.manifest.specs.Operations.{well_formed}
use Rattle.ids.specs.Limits.{most_tables, most_held}
use Rattle.ids.specs.Ids.{Next}
use Rattle.version_state.specs.Sets.{Sets}
use Rattle.rewrite.specs.Rewritten.{rewrite_of, written_of, longest_rewritten}

-- of sets within the limits whose ids and names can be written
abbrev pub RewrittenFits : Type 0
RewrittenFits =
    (n : Next) (z : Sets) → length z.tables ≤ most_tables → length z.pairs ≤ most_held → length z.vectors ≤ most_held → all_of well_formed (rewrite_of n z) ≡ true
    → length (written_of n z) ≤ longest_rewritten
