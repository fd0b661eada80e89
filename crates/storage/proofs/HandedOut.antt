-- What a reopen hands out, by what the rewriting of its manifest says. Assumes nothing.
use mathlib.Core.Path.{◌≡◌, sym, ap, subst, ◌∙◌}
use mathlib.Core.List.{List, [], ◌∷◌}
use Prim.Native.Nat.{ℕ}
use lib.ListN.{length}
use Rattle.std.specs.Prelude.{Result, Ok, Err}
use Rattle.std.specs.Result.{result_and}
use Rattle.lists.specs.Written.{over}
use Rattle.ids.specs.declared.refusal.Refusal.TheVariants.{OutputTooShort}
use Rattle.ids.specs.Verdicts.{judged, Verdict}
use Rattle.ids.specs.Answers.{told, after}
use Rattle.ids.proofs.Verdicts.{accepted-with, refused-with}
use Rattle.version_state.specs.declared.VersionManagerInner.{VersionManagerInner}
use Rattle.version_state.specs.State.{State, start, Hands}
use Rattle.pins.specs.Book.{Keeps}
use Rattle.version_manager.specs.Managers.{Manages}
use Rattle.version_manager.proofs.Managers.{manages}
use Rattle.rewrite.specs.declared.TooShort.{TooShort}
use Rattle.rewrite.specs.Rewritten.{rewritten_of}
use Rattle.rewrite.specs.Says.{rewrite_rules, with_rewritten, as_refusal, RewriteIs}
use Rattle.storage.specs.declared.Reopened.{Reopened}
use Rattle.storage.specs.Reopen.{opened_of, reopen_told, ReopenIs}

module _ (s : State) (out : List ℕ) (x : Result ℕ TooShort) (m : VersionManagerInner) (out' : List ℕ) (i : RewriteIs s out x m out') (r : Reopened) where
  abbrev own : Verdict
  own = judged (rewrite_rules (length out) s)

  -- by the verdict d
  outcome : (d : Verdict) → own ≡ d → ReopenIs (result_and d (Ok (with_rewritten s))) out r out' → ReopenIs (opened_of (length out) s) out r out'
  outcome d e h = subst (λ (v : Verdict). ReopenIs (result_and v (Ok (with_rewritten s))) out r out') (sym e) h

  bytes : (d : Verdict) → own ≡ d → out' ≡ after d (over (rewritten_of s) out) out
  bytes d e = i.bytes ∙ ap (λ (v : Verdict). after v (over (rewritten_of s) out) out) e

  pub opened-no : (e : TooShort) → x ≡ Err e → reopen_told r.answer ≡ told (Err OutputTooShort) [] → Manages r.manager start → Keeps r.book [] → ReopenIs (opened_of (length out) s) out r out'
  opened-no e p a h b =
      let v = refused-with own (length (rewritten_of s)) OutputTooShort (sym i.answer ∙ ap as_refusal p) in
      outcome (Err OutputTooShort) v (a, h, b, bytes (Err OutputTooShort) v)

  pub opened-yes : (n : ℕ) → x ≡ Ok n → (r.manager.inner ≡ m) × (r.manager.append ≡ 0) → Keeps r.book [] → r.answer ≡ Ok n → ReopenIs (opened_of (length out) s) out r out'
  opened-yes n e h b a =
      let v = accepted-with own (length (rewritten_of s)) n (sym i.answer ∙ ap as_refusal e) in
      outcome (Ok tt) v.0 (
        ap reopen_told a ∙ ap (λ (k : ℕ). told (Ok tt) (k ∷ [])) (sym v.1),
        manages r.manager m _ h (subst (λ (d : Verdict). Hands m (after d (with_rewritten s) s)) v.0 i.inner),
        b,
        bytes (Ok tt) v.0,
      )
