-- The rewritten manifest handed out: what it says of the lent buffer and of the state whose manifest it is from then on. Assumes nothing.
use Rattle.std.specs.Prelude.{◌≡◌, List, [], ◌∷◌, ℕ, ◌≤◌, ltb, length, Result, Ok, Err}
use Rattle.std.specs.Result.{result_and}
use Rattle.lists.specs.Written.{over}
use Rattle.ids.specs.declared.refusal.Refusal.{Refusal}
use Rattle.ids.specs.declared.refusal.Refusal.TheVariants.{OutputTooShort}
use Rattle.ids.specs.Verdicts.{Rule, ◌⇒◌, judged}
use Rattle.ids.specs.Answers.{after}
use Rattle.version_state.specs.declared.VersionManagerInner.{VersionManagerInner}
use Rattle.version_state.specs.State.{State, with_epoch, Hands}
use Rattle.rewrite.specs.declared.TooShort.{TooShort}
use Rattle.rewrite.specs.Rewritten.{rewritten_of, longest_rewritten}

-- 9 goes by the bytes of the rewritten manifest
abbrev pub rewrite_rules : ℕ → State → List Rule
rewrite_rules room s = (ltb room (length (rewritten_of s)) ⇒ OutputTooShort) ∷ []

-- the manifest's length becomes the rewritten one's; all else goes on
abbrev pub with_rewritten : State → State
with_rewritten s = with_epoch s s.epoch (length (rewritten_of s))

-- the length that an answer tells, of an accepted call and of a refused one alike
abbrev pub length_told : Result ℕ TooShort → ℕ
length_told (Ok n) = n
length_told (Err e) = e.needed

-- the answer as other calls tell it: 9, which has no length
abbrev pub as_refusal : Result ℕ TooShort → Result ℕ Refusal
as_refusal (Ok n) = Ok n
as_refusal (Err e) = Err OutputTooShort

pub record RewriteIs (s : State) (out : List ℕ) (r : Result ℕ TooShort) (m : VersionManagerInner) (out' : List ℕ) : Type 0 where
  pub answer : as_refusal r ≡ result_and (judged (rewrite_rules (length out) s)) (Ok (length (rewritten_of s)))
  pub counted : length_told r ≡ length (rewritten_of s)
  pub within : length (rewritten_of s) ≤ longest_rewritten
  pub bytes : out' ≡ after (judged (rewrite_rules (length out) s)) (over (rewritten_of s) out) out
  pub inner : Hands m (after (judged (rewrite_rules (length out) s)) (with_rewritten s) s)
