-- What the steps keep: order, the manifest's length; and what a step tells. Assumes nothing.
use mathlib.Core.Path.{◌≡◌, refl, sym, ap}
use mathlib.Core.List.{List, [], ◌∷◌}
use Prim.Native.Nat.{ℕ, ◌+◌}
use native.Mathlib.Omega.{arith}
use Rattle.std.specs.Prelude.{Result, Ok, Err}
use Rattle.std.specs.Result.{result_and}
use Rattle.ids.specs.declared.refusal.Refusal.{Refusal}
use Rattle.ids.specs.Verdicts.{judged, Verdict}
use Rattle.ids.specs.Results.{and_then}
use Rattle.manifest.specs.Operations.{Operation}
use Rattle.version_state.specs.State.{State}
use Rattle.operations.specs.Effect.{applied}
use Rattle.operations.specs.Judge.{op_rules}
use Rattle.operations.specs.Steps.{step_of, steps_of}
use Rattle.operations.specs.Ready.{Leaves}

pub halt : {k : Refusal} {s : State} → Err k ≡ Ok s → ⊥
halt h = let z : ◌≡◌ {A = ℕ} 0 1 = cc in omega arith

-- an operation that is accepted leaves what it does
pub step_given : (i e : ℕ) (o : Operation) (s t : State) → step_of i e o s ≡ Ok t → (judged (op_rules i e o s) ≡ Ok tt) × (applied e o s ≡ t)
unfolding step_of
step_given i e o s t h = go (judged (op_rules i e o s)) refl h
  where
    go : (v : Verdict) → judged (op_rules i e o s) ≡ v → result_and v (Ok (applied e o s)) ≡ Ok t → (judged (op_rules i e o s) ≡ Ok tt) × (applied e o s ≡ t)
    go (Ok _) a h = (a, cc)
    go (Err r) a h = absurd (halt h)

-- a property that every accepted step keeps holds of what the steps leave
pub steps-keep : (P : State → Type 0) (e : ℕ) → ((i : ℕ) (o : Operation) (s : State) → P s → judged (op_rules i e o s) ≡ Ok tt → P (applied e o s))
    → (i : ℕ) (os : List Operation) (s t : State) → P s → steps_of i e os s ≡ Ok t → P t
steps-keep P e k i [] s t p h =
    let q : s ≡ t = cc in
    rw (← q) p
steps-keep P e k i (o ∷ os) s t p h =
    go (step_of i e o s) refl h (λ u q. steps-keep P e k (i + 1) os u t q)
  where
    go : (x : Result State Refusal) → step_of i e o s ≡ x → and_then x (λ u. steps_of (i + 1) e os u) ≡ Ok t
        → ((u : State) → P u → steps_of (i + 1) e os u ≡ Ok t → P t) → P t
    go (Ok u) a h ih =
        let w = step_given i e o s u a in
        ih u (rw w.1 at (k i o s p w.0)) h
    go (Err r) a h ih = absurd (halt h)

-- what a step tells where it is accepted, and where it is not
pub went : (x : Result State Refusal) (t : State) → Leaves x (Ok tt) t → x ≡ Ok t
unfolding Leaves
went (Ok s) t h = ap Ok (sym h.1)
went (Err k) t h = cc

pub halted : (x : Result State Refusal) (k : Refusal) (t : State) → Leaves x (Err k) t → x ≡ Err k
unfolding Leaves
halted (Ok s) k t h = cc
halted (Err j) k t h = cc

pub halts : (x : Result State Refusal) (k : Refusal) (t : State) → x ≡ Err k → Leaves x (Err k) t
unfolding Leaves
halts x k t h = rw h refl

pub goes : (x : Result State Refusal) (t : State) → x ≡ Ok t → Leaves x (Ok tt) t
unfolding Leaves
goes x t h = rw h (refl, refl)

pub steps-manifest : (e : ℕ) (os : List Operation) (s t : State) → steps_of 0 e os s ≡ Ok t → t.manifest ≡ s.manifest
steps-manifest e os s t h = steps-keep (λ u. u.manifest ≡ s.manifest) e (λ i o u p a. p) 0 os s t refl h
