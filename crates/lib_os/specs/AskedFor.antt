-- What a service asks the file server for, and what the server answers it by: a reply fits the service that waits for it.
use Rattle.std.specs.Prelude.{◌≡◌, ◌≢◌, ◌≤◌, ◌⊎◌, ℕ, nat_le, Bool, true, false, List, [], ◌∷◌, Option, Some, None, length, if◌then◌else◌}
use Rattle.jos_elf.specs.declared.numbers.TheConstants.{EHDR_LEN}
use Rattle.fs_layout.specs.declared.numbers.TheConstants.{MAXNAMELEN}
use Rattle.fs_layout.specs.FileActs.{file_act, file_named}
use Rattle.fs_layout.specs.FileTree.{FileSystem, NamedNode, named_at, open_path, read_file, remove_path, set_file_size, stat_file, sync_files, write_file}
use Rattle.lib_os.specs.declared.service.Service.{Service}
use Rattle.lib_os.specs.declared.service.Service.TheVariants as service
use Rattle.lib_os.specs.AbstractLaws.{client_served}
use Rattle.lib_os.specs.AbstractState.{AbstractState, Born, Request, Server, act, acted, asked, awaiting, born, busy, in_service, looking, seek}
use Rattle.lib_os.specs.AbstractState.{Spawning, opening, heading, tabling, loading}
use Rattle.lib_os.specs.AbstractSpawn.{Piece, pieces_left, table_size}
use Rattle.lib_os.specs.FileServer.{is_count, is_file_open}
use Rattle.lib_os.specs.StandsInHandler.{handed_with, wanted_of}

-- it has asked by this service, and has no reply yet
abbrev pub IsThere : Born → Service → Type 0
IsThere b s = (b.phase ≡ in_service s asked) ⊎ (b.phase ≡ in_service s awaiting)

-- the length of the first piece
abbrev pub first_len : List Piece → ℕ
first_len [] = 0
first_len (piece ∷ rest) = piece.len

-- how many bytes spawn wants of its file, by what it has found out: no more than a request moves
abbrev pub wanted_by : Spawning → ℕ
wanted_by (heading fd words) = EHDR_LEN
wanted_by (tabling fd words header) = wanted_of (table_size header)
wanted_by (loading fd image child pieces) = first_len (pieces_left image pieces)
wanted_by _ = 0

-- what spawn asks for: to open its file, and then so many bytes of it
abbrev pub SpawnAsks : Option Spawning → Request → Type 0
SpawnAsks (Some (opening words)) (act (open_path name bits) None) = Unit {0}
SpawnAsks (Some (heading fd words)) (act (read_file way at count) None) = count ≡ wanted_by (heading fd words)
SpawnAsks (Some (tabling fd words header)) (act (read_file way at count) None) = count ≡ wanted_by (tabling fd words header)
SpawnAsks (Some (loading fd image child pieces)) (act (read_file way at count) None) = count ≡ wanted_by (loading fd image child pieces)
SpawnAsks _ _ = ⊥

-- what a service asks for; read wants so many bytes
abbrev pub AsksBy : Service → Option Spawning → Request → Type 0
AsksBy (service.OpenFile path mode) found (act (open_path name bits) None) = Unit {0}
AsksBy (service.Read fd va len) found (act (read_file way at count) (Some name)) = count ≡ wanted_of len
AsksBy (service.Write fd va len) found (act (write_file way at bytes) (Some name)) = Unit {0}
AsksBy (service.Seek fd offset) found (seek name at) = Unit {0}
AsksBy (service.Stat fd va) found (act (stat_file way) None) = Unit {0}
AsksBy (service.SetSize fd size) found (act (set_file_size way at) None) = Unit {0}
AsksBy (service.Remove path) found (act (remove_path name) None) = Unit {0}
AsksBy service.Sync found (act sync_files None) = Unit {0}
AsksBy (service.Spawn path argv) found request = SpawnAsks found request
AsksBy _ _ _ = ⊥

-- it asks to open a file
abbrev pub is_opening : Service → Option Spawning → Bool
is_opening (service.OpenFile path mode) found = true
is_opening (service.Spawn path argv) (Some (opening words)) = true
is_opening _ _ = false

-- a file was opened where that was asked for and the answer is 0; where it was not opened, the answer is an error
abbrev pub OpensBy : Bool → ℕ → Option ℕ → Type 0
OpensBy true answer None = is_count answer ≡ false
OpensBy true answer (Some name) = answer ≡ 0
OpensBy false answer None = Unit {0}
OpensBy false answer (Some name) = ⊥

-- how many bytes come with a reply, by its word
abbrev pub handed_in : Service → Option Spawning → ℕ → ℕ
handed_in (service.Spawn path argv) None word = 0
handed_in (service.Spawn path argv) (Some found) word = if nat_le word (wanted_by found) then word else 0
handed_in call found word = handed_with call word

-- what answers it: as many bytes as the answer tells
pub record AnswersBy (call : Service) (found : Option Spawning) (answer : ℕ) (bytes : List ℕ) (object : Option ℕ) : Type 0 where
  pub many : length bytes ≡ handed_in call found answer
  pub opened : OpensBy (is_opening call found) answer object

-- what the server does is for a service
abbrev pub IsFor : Server → Service → Option Spawning → Type 0
IsFor (looking client request place) call found = AsksBy call found request
IsFor (busy client request place) call found = AsksBy call found request
IsFor (acted client answer bytes object) call found = AnswersBy call found answer bytes object
IsFor _ call found = Unit {0}

-- So it is with the service by which the client has asked.
abbrev pub ServesAsAsked : AbstractState → Type 0
ServesAsAsked a = (client : ℕ) (b : Born) (call : Service) → client_served a.server ≡ Some client → a.slots client ≡ born b → IsThere b call →
    IsFor a.server call b.spawning

-- ---- what the files have to be for that

-- each name has room in a record
abbrev pub HaveShortNames : FileSystem → Type 0
HaveShortNames files = (way : List ℕ) (named : NamedNode) → named_at files way ≡ Some named → length named.name ≤ MAXNAMELEN

-- where a file is opened, it has a place of the table, and its path names it then
abbrev pub OpensWell : AbstractState → Server → Type 0
OpensWell a (busy client (act (open_path path mode) object) place) =
    let did = file_act (is_file_open a) a.files (open_path path mode) in
    did.answer ≡ 0 → (k : ℕ) × (way : List ℕ) × (place ≡ Some k) × (file_named did.files path ≡ Some way)
OpensWell a _ = Unit {0}
