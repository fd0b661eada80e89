-- What a replay's contract says of its result. Assumes nothing.
use Rattle.std.proofs.Common.{◌≡◌, sym, ap, ◌∙◌, Result, Ok, Err, arith, ℕ}
use Rattle.ids.specs.declared.refusal.Refusal.{Refusal}
use Rattle.version_state.specs.State.{State, state_of, Fit, Hands}
use Rattle.version_state.specs.declared.VersionManagerInner.{VersionManagerInner}
use Rattle.replay.specs.Replay.{ReplayIs}

pub replay-refused : (x : Result State Refusal) (k : Refusal) → ReplayIs x (Err k) → x ≡ Err k
unfolding ReplayIs
replay-refused (Err j) k h = let e : j ≡ k = cc h in ap Err e
replay-refused (Ok s) k h = absurd (let z : ◌≡◌ {A = ℕ} 0 1 = cc h.1 in omega arith)

pub replay-given : (x : Result State Refusal) (m : VersionManagerInner) → ReplayIs x (Ok m) → (x ≡ Ok (state_of m)) × Fit m
unfolding ReplayIs
replay-given (Err j) m h = absurd (let z : ◌≡◌ {A = ℕ} 0 1 = cc h in omega arith)
replay-given (Ok s) m h =
    let e : h.0 ≡ m = cc h.1 in
    let w : (◌≡◌ {A = Result State Refusal} (Ok s) (Ok (state_of h.0))) × Fit h.0 = (ap Ok (sym h.2.state), h.2.fits) in
    rw e at w
