-- What a vacuum is where it refuses and where it accepts. Assumes nothing.
use mathlib.Core.Path.{◌≡◌, ap, ◌∙◌}
use mathlib.Core.Bool.{false}
use mathlib.Core.Logic.{◌⊎◌, inl, inr}
use mathlib.Core.List.{List, map, map-map}
use Prim.Native.Nat.{ℕ, ◌≤◌, ◌<◌}
use lib.ListN.{length, length-map}
use borrow.Author.Tests.{lt-ltb, le-ltb}
use Rattle.std.specs.Prelude.{Ok, Err}
use Rattle.lists.specs.Written.{over}
use Rattle.ids.specs.declared.refusal.Refusal.TheVariants.{OutputTooShort}
use Rattle.ids.specs.Verdicts.{judged}
use Rattle.snapshot.specs.Entries.{field}
use Rattle.version_state.specs.declared.VersionManagerInner.{VersionManagerInner}
use Rattle.version_state.specs.State.{State, Hands}
use Rattle.pins.specs.declared.PinBook.{PinBook}
use Rattle.pins.specs.Book.{bad_book}
use Rattle.vacuum.specs.LetGo.{vacuum_list, deletion_of, vacuumed}
use Rattle.vacuum.specs.Says.{bound_of, list_of, vacuum_rules, VacuumIs}

-- lent slices, and the vacuum's list up to the bound, n long
module _ (s : State) (b : PinBook) (ts rs : List ℕ) (m : VersionManagerInner) (gs : List (ℕ × ℕ × ℕ)) (e n : ℕ) (at : e ≡ bound_of s b)
    (long : n ≡ length gs) (told : gs ≡ map deletion_of (vacuum_list e s)) (good : bad_book s.epoch b ≡ false) where
  listed : gs ≡ map deletion_of (list_of s b)
  listed = told ∙ ap (λ (d : ℕ). map deletion_of (vacuum_list d s)) at

  counted : n ≡ length (list_of s b)
  counted = long ∙ ap length listed ∙ length-map (list_of s b) deletion_of

  pub too-short : (length ts < n) ⊎ ((n ≤ length ts) × (length rs < n)) → Hands m s → VacuumIs s b ts rs (Err OutputTooShort) m ts rs
  too-short (inl h) k = let d : judged (vacuum_rules s b (length ts) (length rs)) ≡ Err OutputTooShort = rw (good, ← counted, lt-ltb _ _ h) in
      record { answer = rw d; tables = rw d; rowsets = rw d; inner = rw d k }
  too-short (inr h) k = let d : judged (vacuum_rules s b (length ts) (length rs)) ≡ Err OutputTooShort = rw (good, ← counted, le-ltb _ _ h.0, lt-ltb _ _ h.1) in
      record { answer = rw d; tables = rw d; rowsets = rw d; inner = rw d k }

  pub accepts : (ts' rs' : List ℕ) → n ≤ length ts → n ≤ length rs → ts' ≡ over (map (λ (x : ℕ × ℕ × ℕ). x.1) gs) ts → rs' ≡ over (map (λ (x : ℕ × ℕ × ℕ). x.2) gs) rs
      → Hands m (vacuumed e s) → VacuumIs s b ts rs (Ok n) m ts' rs'
  accepts ts' rs' p q x y k =
      let d : judged (vacuum_rules s b (length ts) (length rs)) ≡ Ok tt = rw (good, ← counted, le-ltb _ _ p, le-ltb _ _ q) in
      let t : map (λ (x : ℕ × ℕ × ℕ). x.1) gs ≡ field 0 (list_of s b) = ap (map (λ (x : ℕ × ℕ × ℕ). x.1)) listed ∙ map-map (λ (x : ℕ × ℕ × ℕ). x.1) deletion_of (list_of s b) in
      let r : map (λ (x : ℕ × ℕ × ℕ). x.2) gs ≡ field 1 (list_of s b) = ap (map (λ (x : ℕ × ℕ × ℕ). x.2)) listed ∙ map-map (λ (x : ℕ × ℕ × ℕ). x.2) deletion_of (list_of s b) in
      record {
        answer = rw (d, ← counted);
        tables = rw d (x ∙ ap (λ (l : List ℕ). over l ts) t);
        rowsets = rw d (y ∙ ap (λ (l : List ℕ). over l rs) r);
        inner = rw d (rw at at k);
      }
