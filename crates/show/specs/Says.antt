-- What each show of a state that 29 let pass is: its verdict, its answer and the lent slices. Assumes nothing.
use Rattle.std.specs.Prelude.{◌≡◌, Bool, not, ◌||◌, List, [], ◌∷◌, map, ℕ, ◌*◌, ltb, eqb, length, get_or, Ok, Err, Result}
use Rattle.lists.specs.Written.{over}
use Rattle.ids.specs.declared.refusal.Refusal.{Refusal}
use Rattle.ids.specs.declared.refusal.Refusal.TheVariants.{BadPinBook, EpochNotPinned, OutputTooShort}
use Rattle.ids.specs.Names.{longest_name}
use Rattle.ids.specs.Verdicts.{Rule, ◌⇒◌, judged, Verdict}
use Rattle.ids.specs.Answers.{Told, told, after}
use Rattle.snapshot.specs.Tables.{TableEntry}
use Rattle.version_state.specs.State.{State, pairs_at, vectors_at}
use Rattle.pins.specs.declared.PinBook.{PinBook}
use Rattle.pins.specs.Book.{bad_book}
use Rattle.pins.specs.Guards.{guards_of, may_show}
use Rattle.show.specs.Names.{names_run}

-- how many are shown
abbrev pub ShowAnswer : Type 0
ShowAnswer = Result ℕ Refusal

-- the answer's number, place and values
abbrev pub show_told : ShowAnswer → Told
show_told (Ok n) = told (Ok tt) (n ∷ [])
show_told (Err q) = told (Err q) []

-- one field of each of the ids that are shown
abbrev pub shown_field : ℕ → List (List ℕ) → List ℕ
shown_field n l = map (λ k. get_or k n 0) l

module _ (s : State) (b : PinBook) where
  -- 28, 24, 9; before them 29
  abbrev pub show_rules : Bool → Bool → List Rule
  show_rules unseen short = (bad_book s.epoch b ⇒ BadPinBook) ∷ (unseen ⇒ EpochNotPinned) ∷ (short ⇒ OutputTooShort) ∷ []

  -- 24: pairs and vectors are shown of the current epoch or a guarded one
  abbrev pub unseen : ℕ → Bool
  unseen e = not (may_show (guards_of s b) e)

  -- 24: tables are shown of the current epoch
  abbrev pub not_current : ℕ → Bool
  not_current e = not (eqb e s.epoch)

  -- the slices are lent with so many places each; 9 where one is too short
  abbrev pub show_pairs_rules : ℕ → ℕ → ℕ → List Rule
  show_pairs_rules e t r = show_rules (unseen e) (ltb t (length (pairs_at e s)) || ltb r (length (pairs_at e s)))

  abbrev pub show_vectors_rules : ℕ → ℕ → ℕ → ℕ → List Rule
  show_vectors_rules e t r v =
      show_rules (unseen e) (ltb t (length (vectors_at e s)) || (ltb r (length (vectors_at e s)) || ltb v (length (vectors_at e s))))

  abbrev pub show_tables_rules : ℕ → ℕ → ℕ → ℕ → ℕ → List Rule
  show_tables_rules e i h l n =
      show_rules (not_current e) (ltb i (length s.tables) || (ltb h (length s.tables) || (ltb l (length s.tables) || ltb n (longest_name * length s.tables))))

-- under a verdict v, show of pairs, lent the slices ts and rs, returns r and leaves ts' and rs' in them
module _ (s : State) (e : ℕ) (v : Verdict) where
  pub record PairsShown (ts rs : List ℕ) (r : ShowAnswer) (ts' rs' : List ℕ) : Type 0 where
    pub answer : show_told r ≡ told v (length (pairs_at e s) ∷ [])
    pub tables : ts' ≡ after v (over (shown_field 0 (pairs_at e s)) ts) ts
    pub rowsets : rs' ≡ after v (over (shown_field 1 (pairs_at e s)) rs) rs

  pub record VectorsShown (ts rs vs : List ℕ) (r : ShowAnswer) (ts' rs' vs' : List ℕ) : Type 0 where
    pub answer : show_told r ≡ told v (length (vectors_at e s) ∷ [])
    pub tables : ts' ≡ after v (over (shown_field 0 (vectors_at e s)) ts) ts
    pub rowsets : rs' ≡ after v (over (shown_field 1 (vectors_at e s)) rs) rs
    pub vectors : vs' ≡ after v (over (shown_field 2 (vectors_at e s)) vs) vs

  pub record TablesShown (is hs ls ns : List ℕ) (r : ShowAnswer) (is' hs' ls' ns' : List ℕ) : Type 0 where
    pub answer : show_told r ≡ told v (length s.tables ∷ [])
    pub ids : is' ≡ after v (over (map (λ (t : TableEntry). t.table) s.tables) is) is
    pub shapes : hs' ≡ after v (over (map (λ (t : TableEntry). t.shape) s.tables) hs) hs
    pub lengths : ls' ≡ after v (over (map (λ (t : TableEntry). length t.name) s.tables) ls) ls
    pub names : ns' ≡ after v (over (names_run s.tables) ns) ns

-- show of a state that passed 29, with the book b
module _ (s : State) (b : PinBook) (e : ℕ) where
  abbrev pub ShowPairsIs : List ℕ → List ℕ → ShowAnswer → List ℕ → List ℕ → Type 0
  ShowPairsIs ts rs r ts' rs' = PairsShown s e (judged (show_pairs_rules s b e (length ts) (length rs))) ts rs r ts' rs'

  abbrev pub ShowVectorsIs : List ℕ → List ℕ → List ℕ → ShowAnswer → List ℕ → List ℕ → List ℕ → Type 0
  ShowVectorsIs ts rs vs r ts' rs' vs' = VectorsShown s e (judged (show_vectors_rules s b e (length ts) (length rs) (length vs))) ts rs vs r ts' rs' vs'

  abbrev pub ShowTablesIs : List ℕ → List ℕ → List ℕ → List ℕ → ShowAnswer → List ℕ → List ℕ → List ℕ → List ℕ → Type 0
  ShowTablesIs is hs ls ns r is' hs' ls' ns' = TablesShown s e (judged (show_tables_rules s b e (length is) (length hs) (length ls) (length ns))) is hs ls ns r is' hs' ls' ns'
