-- What a reopen's answer says of the lent buffer. Assumes nothing.
use mathlib.Core.Path.{◌≡◌, refl, sym, ap, ◌∙◌}
use mathlib.Core.Bool.{Bool, true, false, cond}
use mathlib.Core.List.{List, []}
use Prim.Native.Nat.{ℕ, ◌≤◌}
use native.Mathlib.Omega.{arith}
use borrow.Author.Tests.{ltb-false}
use lib.Dec.{ltb}
use lib.ListN.{length, get_or}
use Rattle.std.specs.Prelude.{Result, Ok, Err}
use Rattle.std.specs.Result.{result_and}
use Rattle.ids.specs.declared.refusal.Refusal.{Refusal}
use Rattle.ids.specs.declared.refusal.Refusal.TheVariants.{OutputTooShort}
use Rattle.ids.specs.Answers.{Told, told}
use Rattle.ids.specs.Results.{and_then}
use Rattle.version_state.specs.State.{State}
use Rattle.rewrite.specs.Rewritten.{rewritten_of}
use Rattle.rewrite.specs.Says.{with_rewritten}
use Rattle.replay.specs.Replay.{replay_of}
use Rattle.storage.specs.declared.Reopened.{Reopened}
use Rattle.storage.specs.Reopen.{opened_of, reopen_told, ReopenIs, ReopenSays}

not-both : (r : Reopened) (n : ℕ) (k : Refusal) → reopen_told r.answer ≡ told (Err k) [] → r.answer ≡ Ok n → 1 ≤ 0
not-both r n k h e = let z : ◌≡◌ {A = ℕ} 1 0 = ap (λ (t : Told). length t.values) (sym (ap reopen_told e) ∙ h) in omega arith

opened : (b : Bool) (s : State) (out out' : List ℕ) (r : Reopened) (n : ℕ) → ReopenIs (result_and {T = Unit} (cond b (Err OutputTooShort) (Ok tt)) (Ok s)) out r out' → r.answer ≡ Ok n → (b ≡ false) × (n ≡ s.manifest)
opened true s out out' r n h e = absurd (let z = not-both r n OutputTooShort h.0 e in omega arith)
opened false s out out' r n h e = (refl, ap (λ (t : Told). get_or t.values 0 0) (sym (ap reopen_told e) ∙ h.0))

replayed : (x : Result State Refusal) (out out' : List ℕ) (r : Reopened) (n : ℕ) → ReopenIs (and_then x (opened_of (length out))) out r out' → r.answer ≡ Ok n → n ≤ length out
replayed (Err k) out out' r n h e = absurd (let z = not-both r n k h.0 e in omega arith)
replayed (Ok s) out out' r n h e =
    let p = opened (ltb (length out) (length (rewritten_of s))) (with_rewritten s) out out' r n h e in
    let room : length (rewritten_of s) ≤ length out = ltb-false _ _ p.0 in
    omega (arith, p.1, room)

-- an accepted reopen has written no more than the buffer holds
pub written-within : (src out out' : List ℕ) (r : Reopened) (n : ℕ) → ReopenSays src out r out' → r.answer ≡ Ok n → n ≤ length out
written-within src out out' r n h e = replayed (replay_of src) out out' r n h e
