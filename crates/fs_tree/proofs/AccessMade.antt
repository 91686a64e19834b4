-- An access is one call of the file server's, and so are words that a job sets behind it.
use Rattle.std.proofs.Common.{◌≡◌, ◌≢◌, ◌-◌, ◌%◌, inl, inr, ℕ, true, [], ◌∷◌, Option, Ok, Err, refl}
use Rattle.jos_host.specs.Files.{Files}
use Rattle.jos_host.specs.Frames.{Around, from_to}
use Rattle.jos_base.specs.declared.called.Called.{Called}
use Rattle.jos_base.specs.declared.numbers.TheConstants.{SYS_GETENVID}
use Rattle.jos_base.specs.KernelState.{KernelState, slot_at, with_extra, with_registers}
use Rattle.jos_base.specs.Words.{page_number}
use Rattle.lib_os.specs.declared.user_os.Stop.{Stop}
use Rattle.lib_os.specs.declared.user_os.Stop.TheVariants as stop
use Rattle.lib_os.specs.Disk.{DiskFile}
use Rattle.lib_os.specs.MadeCalls.{IsMade, IsServersCall, MakesServersCall, PrintsPartOfSome, SetsWords, UserCall, faulted, gave, is_server_page}
use Rattle.lib_os.specs.MadeCalls.{asks_id, calls, loads, loads_byte, stores, stores_byte}
use Rattle.lib_os.specs.UserCalls.{IsCallStep, Output, system}
use Rattle.lib_os.proofs.CallsMade.{of_word}
use Rattle.fs_jobs.specs.declared.asks.TreeAsk.{TreeAsk}
use Rattle.fs_jobs.specs.declared.asks.TreeAsk.TheVariants as ask
use Rattle.fs_jobs.specs.declared.place.TreeState.{TreeState}
use Rattle.fs_jobs.specs.TreeTests.{low_byte}
use Rattle.fs_places.specs.TreePlaces.{registers_with, words_with}
use Rattle.fs_places.proofs.WordsLeft.{eflags_stay, esp_stays, first_is, twelve_stay}
use Rattle.fs_tree.specs.TreeMakes.{IsAccess}

module _ (s after : KernelState) (n : ℕ) (disk : DiskFile) (files : Around (Option Files)) (output : Output) (same : files.after ≡ files.before)
    (va : ℕ) (own : is_server_page (page_number va) ≡ true) where
  one : (call : UserCall) → IsServersCall call → IsMade call s n disk files after output → MakesServersCall (from_to s after) n disk files output
  one call servers made = record { call = call; own = servers; makes = record { mid = after; made = made; left = inl refl } }

  pub access_made : (a : TreeAsk) (word : ℕ) → IsAccess a va s n (Ok word) after output → MakesServersCall (from_to s after) n disk files output
  access_made (ask.Load at) word it = one (loads (va - va % 4)) (of_word va own).0 (gave word it, same)
  access_made (ask.LoadByte at) word it = one (loads_byte va) tt (gave word it, same)
  access_made (ask.Store at value) word it = one (stores (va - va % 4) value) (of_word va own) (gave tt it.1, same)
  access_made (ask.StoreByte at byte) word it = one (stores_byte va (low_byte byte)) own (gave tt it.1, same)
  access_made (ask.Request at) word it = one (loads_byte va) tt (gave word it, same)
  access_made (ask.HandBack at byte) word it = one (stores_byte va (low_byte byte)) own (gave tt it.1, same)

  pub access_faulted : (a : TreeAsk) (why : Stop) → why ≢ stop.Failed → IsAccess a va s n (Err why) after output →
      MakesServersCall (from_to s after) n disk files output
  access_faulted (ask.Load at) why other it = one (loads (va - va % 4)) (of_word va own).0 (faulted why other it, same)
  access_faulted (ask.LoadByte at) why other it = one (loads_byte va) tt (faulted why other it, same)
  access_faulted (ask.Store at value) why other it = one (stores (va - va % 4) value) (of_word va own) (faulted why other it, same)
  access_faulted (ask.StoreByte at byte) why other it = one (stores_byte va (low_byte byte)) own (faulted why other it, same)
  access_faulted (ask.Request at) why other it = one (loads_byte va) tt (faulted why other it, same)
  access_faulted (ask.HandBack at byte) why other it = one (stores_byte va (low_byte byte)) own (faulted why other it, same)

-- Where the host failed in it, no more came to the console than a part of some bytes.
pub access_failed : (a : TreeAsk) (va : ℕ) (s : KernelState) (n : ℕ) (after : KernelState) (output : Output) →
    IsAccess a va s n (Err stop.Failed) after output → PrintsPartOfSome output
access_failed (ask.Load at) va s n after output it = (_, it.1)
access_failed (ask.LoadByte at) va s n after output it = (_, it.1)
access_failed (ask.Store at value) va s n after output it = (_, it.1)
access_failed (ask.StoreByte at byte) va s n after output it = (_, it.1)
access_failed (ask.Request at) va s n after output it = (_, it.1)
access_failed (ask.HandBack at byte) va s n after output it = (_, it.1)

-- the call that asks for the own id
pub asked_made : (s after : KernelState) (n : ℕ) (disk : DiskFile) (files : Around (Option Files)) (output : Output) → files.after ≡ files.before →
    (called : Called) → IsCallStep (system s n SYS_GETENVID (0 ∷ 0 ∷ 0 ∷ 0 ∷ 0 ∷ [])) (Ok called) after output →
    MakesServersCall (from_to s after) n disk files output
asked_made s after n disk files output same called call = record {
  call = calls SYS_GETENVID (0 ∷ 0 ∷ 0 ∷ 0 ∷ 0 ∷ []);
  own = asks_id;
  makes = record { mid = after; made = (called, call, same); left = inl refl };
}

-- the words with which a job goes on
pub job_sets : (mid after : KernelState) (n : ℕ) (next : TreeState) →
    after ≡ with_extra (with_registers mid n (registers_with (slot_at mid n).registers next)) n (words_with (slot_at mid n).extra next) →
    SetsWords mid after n
job_sets mid after n next set =
    let slot = slot_at mid n in
    record {
      registers = registers_with slot.registers next;
      words = words_with slot.extra next;
      set = set;
      esp = esp_stays slot.registers next;
      eflags = eflags_stay slot.registers next;
      long = twelve_stay slot.extra next;
      first = λ twelve. inr (first_is slot.extra next);
    }
