-- How the abstract system tells what spawn has taken of what it is given, and where the next byte lies.
use Rattle.std.specs.Prelude.{◌≡◌, ◌<◌, ℕ, ◌+◌, ◌*◌, ◌%◌, ◌^◌, true, false, List, [], ◌∷◌, ◌++◌, length, slice_index, Some}
use Rattle.std.specs.List.{before_first}
use Rattle.jos_base.specs.Words.{word_at}
use Rattle.lib_os.specs.AbstractState.{Born, Stage, gathering, taking, listing, quoting}
use Rattle.lib_os.specs.AbstractSpawn.{has_nul}
use Rattle.lib_os.specs.FileServices.{is_nul}

-- How it is told that of the words' addresses these are taken, and these bytes of the next: behind the path none is; the last that is whole may
-- still be the bytes that were taken last.
pub data Lists (b : Born) : List ℕ → List ℕ → List ℕ → Stage → Type 0 where
  behind_path : (bytes : List ℕ) → has_nul bytes ≡ true → Lists b (before_first is_nul bytes) [] [] (gathering bytes)
  amid : (name addresses taken : List ℕ) → b.spawning ≡ Some (listing name addresses) → 0 < length taken → length taken < 4 →
      Lists b name addresses taken (taking taken)
  behind : (name addresses taken : List ℕ) → b.spawning ≡ Some (listing name addresses) → length taken ≡ 4 →
      Lists b name (addresses ++ word_at (slice_index taken) 0 ∷ []) [] (taking taken)

-- where the next byte of an address lies
abbrev pub address_place : ℕ → ℕ → ℕ → ℕ
address_place argv index done = (argv + 4 * index + done) % 2 ^ 32

-- How it is told that these words are taken, the others' addresses are these, and of the next word these bytes.
pub data Quotes (b : Born) : List ℕ → List ℕ → List (List ℕ) → List ℕ → Stage → Type 0 where
  -- all addresses were taken, behind which stands 0
  behind_addresses : (name addresses taken : List ℕ) → b.spawning ≡ Some (listing name addresses) → length taken ≡ 4 →
      word_at (slice_index taken) 0 ≡ 0 → Quotes b name addresses [] [] (taking taken)
  amid_word : (name : List ℕ) (address : ℕ) (left : List ℕ) (words : List (List ℕ)) (taken : List ℕ) →
      b.spawning ≡ Some (quoting name (address ∷ left) words) → has_nul taken ≡ false → Quotes b name (address ∷ left) words taken (taking taken)
  behind_word : (name : List ℕ) (address : ℕ) (left : List ℕ) (words : List (List ℕ)) (taken : List ℕ) →
      b.spawning ≡ Some (quoting name (address ∷ left) words) → has_nul taken ≡ true →
      Quotes b name left (words ++ before_first is_nul taken ∷ []) [] (taking taken)

-- where the next byte of a string lies
abbrev pub string_place : ℕ → ℕ → ℕ
string_place address done = (address + done) % 2 ^ 32
