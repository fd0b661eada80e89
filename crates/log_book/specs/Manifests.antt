-- Entries on manifests: what a reopen of their bytes gives, and the manifest rewritten. Assumes nothing.
use Rattle.std.specs.Prelude.{◌≡◌, false, List, [], ◌∷◌, ◌++◌, ℕ, Ok}
use Rattle.manifest.specs.Split.{joined}
use Rattle.snapshot.specs.Tables.{TableEntry}
use Rattle.version_state.specs.State.{State}
use Rattle.rewrite.specs.Rewritten.{rewritten_of, longest_rewritten}
use Rattle.storage.specs.Reopen.{reopen_of}

-- `B`, `E`
abbrev pub begin : List ℕ
begin = 66 ∷ []

abbrev pub end : List ℕ
end = 69 ∷ []

-- `slots`, `T,0,7,slots`
abbrev pub slots : List ℕ
slots = 115 ∷ 108 ∷ 111 ∷ 116 ∷ 115 ∷ []

abbrev pub create : List ℕ
create = 84 ∷ 44 ∷ 48 ∷ 44 ∷ 55 ∷ 44 ∷ slots

-- `A,0,0`, `A,0,1`, `D,0,0`, `D,0,1`
abbrev pub add0 : List ℕ
add0 = 65 ∷ 44 ∷ 48 ∷ 44 ∷ 48 ∷ []

abbrev pub add1 : List ℕ
add1 = 65 ∷ 44 ∷ 48 ∷ 44 ∷ 49 ∷ []

abbrev pub delete0 : List ℕ
delete0 = 68 ∷ 44 ∷ 48 ∷ 44 ∷ 48 ∷ []

abbrev pub delete1 : List ℕ
delete1 = 68 ∷ 44 ∷ 48 ∷ 44 ∷ 49 ∷ []

-- the empty store at epoch 1, with the length of its rewritten manifest; written out, as all that the facts end in
abbrev pub empty : State
empty = record { epoch = 1; next_table = 0; next_rowset = 0; next_vector = 0; tables = []; pairs = []; vectors = []; manifest = 12 }

-- the table and the pair (0, 1)
abbrev pub table : TableEntry
table = record { table = 0; shape = 7; name = slots; locked = false }

abbrev pub merged : State
merged =
    record {
      epoch = 1;
      next_table = 1;
      next_rowset = 2;
      next_vector = 0;
      tables = table ∷ [];
      pairs = record { ids = 0 ∷ 1 ∷ []; added = 1; deleted = 0 } ∷ [];
      vectors = [];
      manifest = 30;
    }

pub record ManifestCases : Type 0 where
  -- of no bytes: the empty store at epoch 1, and a manifest of next ids alone
  pub nothing : reopen_of [] longest_rewritten ≡ Ok empty
  pub nothing_text : rewritten_of empty ≡ 66 ∷ 10 ∷ 78 ∷ 44 ∷ 48 ∷ 44 ∷ 48 ∷ 44 ∷ 48 ∷ 10 ∷ 69 ∷ 10 ∷ []
  -- two whole frames, the second of which exchanges a rowset for another, and one that never ends
  pub frames :
      reopen_of (joined (begin ∷ create ∷ add0 ∷ end ∷ begin ∷ add1 ∷ delete0 ∷ end ∷ begin ∷ delete1 ∷ [])) longest_rewritten
      ≡ Ok merged
  pub frames_text : rewritten_of merged
      ≡ 66 ∷ 10 ∷ 78 ∷ 44 ∷ 49 ∷ 44 ∷ 50 ∷ 44 ∷ 48 ∷ 10 ∷ 84 ∷ 44 ∷ 48 ∷ 44 ∷ 55 ∷ 44 ∷ 115 ∷ 108 ∷ 111 ∷ 116 ∷ 115 ∷ 10 ∷ 65 ∷ 44 ∷ 48 ∷ 44 ∷ 49 ∷ 10 ∷ 69 ∷ 10 ∷ []
  -- a second `B` drops the create before it
  pub begun_again : reopen_of (joined (begin ∷ create ∷ begin ∷ end ∷ [])) longest_rewritten ≡ Ok empty
  -- an `E` that no newline ends applies nothing
  pub unended : reopen_of (joined (begin ∷ create ∷ []) ++ end) longest_rewritten ≡ Ok empty
