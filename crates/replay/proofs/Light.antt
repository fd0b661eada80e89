-- To take out at once what is deleted, and to mark it and take it out at the `E`, leave the same. Assumes nothing.
use mathlib.Core.Path.{◌≡◌, refl, ap₂, ◌∙◌}
use mathlib.Core.List.{List, [], ◌∷◌}
use Prim.Native.Nat.{ℕ, ◌+◌}
use Rattle.std.specs.Prelude.{Result}
use Rattle.lists.specs.Keyed.{keep}
use Rattle.lists.proofs.Tests.{by_cases}
use Rattle.lists.proofs.Keyed.{Ascending}
use Rattle.lists.proofs.Kept.{keep-put, keep-changed}
use Rattle.ids.specs.declared.refusal.Refusal.{Refusal}
use Rattle.ids.specs.Results.{and_then}
use Rattle.manifest.specs.Operations.{Operation}
use Rattle.manifest.specs.Edits.{Edit, leaves, adds, deletes, edits_of}
use Rattle.snapshot.specs.Entries.{Entry, added_at, deleted_at, by_ids}
use Rattle.version_state.specs.State.{State, with_pairs, with_vectors}
use Rattle.operations.specs.Effect.{edited, marked, applied}
use Rattle.operations.proofs.Edits.{ascending-marked}
use Rattle.replay.specs.Replay.{reopened, conflicts, framed, stands, settled}
use Rattle.replay.specs.Sets.{lightly, framed_lightly}

-- what both lists of a state have
pub record Rising (s : State) : Type 0 where
  pub pairs : Ascending by_ids s.pairs
  pub vectors : Ascending by_ids s.vectors

rising-one : (o : Operation) (s : State) → Rising s → Rising (applied reopened o s)
rising-one o s r =
    record { pairs = ascending-marked reopened (edits_of o).pairs s.pairs r.pairs; vectors = ascending-marked reopened (edits_of o).vectors s.vectors r.vectors }

light-edit : (d : Edit (List ℕ)) (l : List Entry) → Ascending by_ids l → keep stands (marked reopened d l) ≡ edited by_ids (added_at reopened) d (keep stands l)
light-edit leaves l a = refl
light-edit (adds k) l a = keep-put by_ids stands (added_at reopened k) l refl a
light-edit (deletes k) l a = keep-changed by_ids stands k (deleted_at reopened) (λ x. refl) l

light-one : (o : Operation) (s : State) → Rising s → settled (applied reopened o s) ≡ lightly o (settled s)
light-one o s r =
    ap₂ (λ (p v : List Entry). with_vectors (with_pairs (applied reopened o s) p) v)
    (light-edit (edits_of o).pairs s.pairs r.pairs) (light-edit (edits_of o).vectors s.vectors r.vectors)

-- a frame, and what is done with what stands after it
pub frame-light : (g : State → Result State Refusal) (n : ℕ) (os : List Operation) (s : State) → Rising s
    → and_then (framed n os s) (λ u. g (settled u)) ≡ and_then (framed_lightly n os (settled s)) g
frame-light g n [] s r = refl
frame-light g n (o ∷ os) s r =
    by_cases (conflicts o s)
    (λ t. rw t)
    (λ t. rw t (frame-light g (n + 1) os (applied reopened o s) (rising-one o s r) ∙ rw (light-one o s r)))
