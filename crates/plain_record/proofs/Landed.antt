-- A file on which everything has landed is replayed to the record's last sets. Assumes nothing.
use mathlib.Core.Path.{◌≡◌, sym, ap, ◌∙◌}
use mathlib.Core.List.{List}
use Prim.Native.Nat.{ℕ, ◌≤◌}
use lib.ListN.{length}
use Rattle.ids.specs.Limits.{longest_manifest}
use Rattle.version_state.specs.State.{State}
use Rattle.version_state.specs.Sets as held
use Rattle.recovery.proofs.Appending.{holds-replayed}
use Rattle.plain_record.specs.Plain.{Plain}
use Rattle.plain_record.proofs.Invariant.{plain_sets, Filed, Torn}
use Rattle.plain_record.proofs.CommitSets.{plain_of, plain-of}

-- states that have committed the same show the same to the record
pub sets-plain : (s u : State) → held.sets_of s ≡ held.sets_of u → plain_sets s ≡ plain_sets u
sets-plain s u h = sym (plain-of s.epoch s) ∙ ap plain_of h ∙ plain-of u.epoch u

pub landed : (f : List ℕ) (s : State) (p : Plain) → s.manifest ≤ longest_manifest → plain_sets s ≡ p.now → Filed f s p → Torn f p
landed f s p h e k =
    let fits : length f ≤ longest_manifest = rw k.long h in
    record { state = k.state; replayed = holds-replayed f k.state k.holds fits; sets = sym (sets-plain s k.state k.same) ∙ e; next = k.next }
