-- What is so of spawn, as it has its file opened, stays so as its words tell another step, and while it may run.
use Rattle.std.proofs.Common.{ℕ, List}
use Rattle.jos_base.specs.declared.environment.Status.{Status}
use Rattle.jos_base.specs.Environments.{Slot}
use Rattle.lib_os.specs.AbstractState.{Born, Spawning, Stage}
use Rattle.lib_os.specs.LibraryPages.{View}
use Rattle.lib_os.specs.StandsAtSpawn.{Found, HasFile, HasWords, IsIn, IsReady, TellsFile}

-- an environment whose status and words are others
abbrev pub moved : Slot → Status → List ℕ → Slot
moved k status words = record k { status = status; extra = words }

module _ {k : Slot} {b : Born} {path argv : ℕ} (status : Status) (words : List ℕ) where
  pub in_moved : {stage : Stage} → IsIn k b path argv stage → IsIn (moved k status words) b path argv stage
  in_moved h = record {
    regs = h.regs;
    program = h.program;
    eax = h.eax;
    registers = h.registers;
    phase = h.phase;
    silent = h.silent;
    awake = h.awake;
  }

  pub found_moved : {stage : Stage} {found : Spawning} → Found k b path argv stage found → Found (moved k status words) b path argv stage found
  found_moved h = record { is_in = in_moved h.is_in; is = h.is }

  pub words_moved : {v : View} {all : List (List ℕ)} → HasWords v k b path argv all → HasWords v (moved k status words) b path argv all
  words_moved h = record {
    name = h.name;
    stage = h.stage;
    quotes = h.quotes;
    is_in = in_moved h.is_in;
    path_kept = h.path_kept;
    fits = h.fits;
    small_words = h.small_words;
    no_ends = h.no_ends;
  }

  pub ready_moved : {v : View} {esp : ℕ} → IsReady v k b path argv esp → IsReady v (moved k status words) b path argv esp
  ready_moved h = record { words = h.words; has = words_moved h.has; stack = h.stack }

  pub tells_file_moved : {v : View} {esp fd : ℕ} → TellsFile v k b path argv esp fd → TellsFile v (moved k status words) b path argv esp fd
  tells_file_moved h = record { ready = ready_moved h.ready; free = h.free; mode = h.mode }

  pub has_file_moved : {v : View} {esp fd : ℕ} → HasFile v k b path argv esp fd → HasFile v (moved k status words) b path argv esp fd
  has_file_moved h = record { words = h.words; found = found_moved h.found; stack = h.stack; of_file = h.of_file }
