-- What is so of spawn, as it takes what it is given, stays so as its words tell another step, and as bytes are put into one of its pages.
use Rattle.std.proofs.Common.{◌≢◌, ◌≤◌, ℕ, List, [], ◌∷◌, length, arith}
use Rattle.std.proofs.lemmas.List.{length-append}
use Rattle.jos_base.specs.declared.numbers.TheConstants.{UTEMP}
use Rattle.jos_base.specs.Environments.{Slot}
use Rattle.jos_base.specs.Words.{page_number}
use Rattle.lib_os.specs.declared.numbers.TheConstants.{SPAWN_ADDRESSES}
use Rattle.lib_os.specs.AbstractState.{Born, Stage, Spawning}
use Rattle.lib_os.specs.LibraryPages.{View}
use Rattle.lib_os.specs.StandsAtSpawn.{Found, HasPath, IsIn, IsListing}
use Rattle.lib_os.proofs.PagesPut.{IsPutIn, page_before, page_beside}

-- an environment whose words are others
abbrev told : Slot → List ℕ → Slot
told k words = record k { extra = words }

module _ {k : Slot} {b : Born} {path argv : ℕ} (words : List ℕ) where
  pub in_told : {stage : Stage} → IsIn k b path argv stage → IsIn (told k words) b path argv stage
  in_told h = record {
    regs = h.regs;
    program = h.program;
    eax = h.eax;
    registers = h.registers;
    phase = h.phase;
    silent = h.silent;
    awake = h.awake;
  }

  pub found_told : {stage : Stage} {found : Spawning} → Found k b path argv stage found → Found (told k words) b path argv stage found
  found_told h = record { is_in = in_told h.is_in; is = h.is }

  pub listing_told : {v : View} {index done word : ℕ} → IsListing v k b path argv index done word → IsListing v (told k words) b path argv index done word
  listing_told h = record {
    name = h.name;
    addresses = h.addresses;
    taken = h.taken;
    stage = h.stage;
    lists = h.lists;
    is_in = in_told h.is_in;
    path_kept = h.path_kept;
    kept = h.kept;
    are = h.are;
    many = h.many;
    most = h.most;
    bytes = h.bytes;
    few = h.few;
    word_is = h.word_is;
    small = h.small;
  }

-- The path stands before what is put behind it in its page,
pub path_before : {v w : View} {at : ℕ} {bytes : List ℕ} {name : List ℕ} → IsPutIn v w (page_number UTEMP) at bytes → SPAWN_ADDRESSES ≤ at → HasPath v name →
    HasPath w name
path_before {name = name} put behind h =
    let few = h.few in
    let long = length-append name (0 ∷ []) in
    record { small = h.small; no_end = h.no_end; few = h.few; kept = page_before put (omega (arith, few, long, behind)) h.kept }

-- and so where another page is written.
pub path_beside : {v w : View} {p at : ℕ} {bytes : List ℕ} {name : List ℕ} → IsPutIn v w p at bytes → page_number UTEMP ≢ p → HasPath v name → HasPath w name
path_beside put other h = record { small = h.small; no_end = h.no_end; few = h.few; kept = page_beside put other h.kept }
