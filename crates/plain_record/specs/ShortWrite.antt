-- A commit that came short, the report of it, a further commit and a reopen: what is shown is what was shown before the first commit, followed by
-- the operations of the further one. Nothing is lost and nothing doubled. Assumes nothing.
use Rattle.std.specs.Prelude.{◌≡◌, Bool, true, not, ◌||◌, List, [], ◌∷◌, ◌++◌, ℕ}
use Rattle.lists.specs.Keyed.{all_of}
use Rattle.manifest.specs.Operations.{Operation}
use Rattle.version_manager.specs.Managers.{held_by}
use Rattle.plain_record.specs.Sets.{Sets, apply_all}
use Rattle.plain_record.specs.Calls.{commit, report, reopen, as_commit, kind_of}
use Rattle.plain_record.specs.Run.{Steps, World, Event, is_accepted, Chain, Starts}
use Rattle.plain_record.specs.Claim.{is_pinning}
use Rattle.plain_record.specs.Shows.{ShowsTables, ShowsPairs, ShowsVectors}

-- the current epoch shows the sets z
pub record ShowsNow (S : Steps) (w : World) (z : Sets) : Type 0 where
  pub tables : ShowsTables S w (held_by w.manager).epoch z.tables
  pub pairs : ShowsPairs S w (held_by w.manager).epoch z.pairs
  pub vectors : ShowsVectors S w (held_by w.manager).epoch z.vectors

-- it may stand between a commit and its report
abbrev pub only_pins : Event → Bool
only_pins e = not (is_accepted e.told) || is_pinning (kind_of e.call)

-- After any calls an accepted commit c of any kind, pins, unpins and refused calls, an accepted report, an accepted commit d that
-- lands whole, and an accepted reopen o.
abbrev pub ShortWrite : Steps → Type 0
ShortWrite S =
    (w : World) (es : List Event) (c : Event) (ps : List Event) (b d o : Event)
    (made : ℕ → Sets → List Operation) (missing n : ℕ) (os : List Operation) (out lent : List ℕ) (stale : Bool)
    → Starts S w → Chain S w (es ++ (c ∷ (ps ++ (b ∷ d ∷ o ∷ []))))
    → kind_of c.call ≡ as_commit made missing → is_accepted c.told ≡ true
    → all_of only_pins ps ≡ true
    → b.call ≡ report n → is_accepted b.told ≡ true
    → d.call ≡ commit os out 0 → is_accepted d.told ≡ true
    → o.call ≡ reopen lent stale → is_accepted o.told ≡ true
    → (z : Sets) × ShowsNow S c.before z × ShowsNow S o.after (apply_all os z)
