-- What the steps come to at which read, write and stat on an end of a pipe load, take their page, or keep a byte in it.
-- (MIT 6.828, lab 5: lib/pipe.c.)
use Rattle.std.proofs.Common.{◌≡◌, ◌≢◌, ◌+◌, ◌-◌, ◌%◌, ◌^◌, ◌==◌, ◌||◌, not, ℕ, true, false, [], refl}
use Rattle.std.specs.Prelude.{nat_le, slice_index}
use Rattle.jos_base.specs.declared.numbers.TheConstants.{E_INVAL, E_NOT_SUPP, PGSIZE}
use Rattle.jos_base.specs.KernelState.{KernelState, slot_at, with_extra}
use Rattle.jos_base.specs.Words.{negated}
use Rattle.lib_os.specs.declared.numbers.TheConstants.{DEVICE_PIPE, PIPEBUFSIZ, STAT_SIZE}
use Rattle.lib_os.specs.declared.place.PipeStep.{PipeStep}
use Rattle.lib_os.specs.declared.place.PipeStep.TheVariants as pipe
use Rattle.lib_os.specs.declared.place.Place.TheVariants as place
use Rattle.lib_os.specs.declared.place.Step.TheVariants as step
use Rattle.lib_os.specs.declared.progress.Progress.TheVariants as progress
use Rattle.lib_os.specs.declared.service.Service.{Service}
use Rattle.lib_os.specs.declared.service.Service.TheVariants as service
use Rattle.lib_os.specs.DescriptorPages.{pipe_byte, read_of, written_of}
use Rattle.lib_os.specs.Fence.{is_buffer}
use Rattle.lib_os.specs.InOrder.{IsInOrder}
use Rattle.lib_os.specs.LibrarySteps.{KeepsStanding, service_answered}
use Rattle.lib_os.specs.Places.{place_of, words_at}
use Rattle.lib_os.specs.StandsInHandler.{wanted_of}
use Rattle.lib_os.proofs.DeviceLooks.{device_va, device_word}
use Rattle.lib_os.proofs.Loading.{loaded}
use Rattle.lib_os.proofs.Numbered.{number_of}
use Rattle.lib_os.proofs.PipeBegun.{mode_va, mode_word, read_end_none, read_end_refuses, read_end_takes, read_looks, seek_unsupported, set_size_unsupported}
use Rattle.lib_os.proofs.PipeBegun.{stat_locks, stat_refused, write_end_none, write_end_refuses, write_end_takes, write_looks}
use Rattle.lib_os.proofs.PipeHeld.{read_ends, read_finds, read_stuck, reads_byte, reads_from}
use Rattle.lib_os.proofs.PipeLoaded.{byte_va, pipe_held, read_va, written_va}
use Rattle.lib_os.proofs.PipeRoom.{own_held, own_va, write_finds, write_stuck, writes_byte, writes_from}
use Rattle.lib_os.proofs.PipeStated.{stat_from, stat_shows}

-- behind a load at an address it stands at another of its steps
abbrev pub gone_on : KernelState → ℕ → ℕ → Service → PipeStep → KernelState
gone_on s n va call to = with_extra (loaded s n va) n (words_at (number_of call) (step.Piped to))

abbrev pub IsPiped : KernelState → ℕ → Service → PipeStep → Type 0
IsPiped s n call at = place_of (slot_at s n) ≡ place.InService call (step.Piped at)

-- ---- the device is a pipe

module _ (s : KernelState) (n fd : ℕ) (word : device_word s n fd ≡ DEVICE_PIPE) (order : IsInOrder (loaded s n (device_va fd))) where
  pub seek_unsupported_keeps : (offset : ℕ) → place_of (slot_at s n) ≡ place.InService (service.Seek fd offset) step.ReadingDevice →
      KeepsStanding progress.Finished n s (service_answered (loaded s n (device_va fd)) n (negated E_NOT_SUPP)) []
  seek_unsupported_keeps offset stands a h turn quiet = seek_unsupported s n fd h.1 word order offset stands

  pub set_size_unsupported_keeps : (size : ℕ) → place_of (slot_at s n) ≡ place.InService (service.SetSize fd size) step.ReadingDevice →
      KeepsStanding progress.Finished n s (service_answered (loaded s n (device_va fd)) n (negated E_NOT_SUPP)) []
  set_size_unsupported_keeps size stands a h turn quiet = set_size_unsupported s n fd h.1 word order size stands

  pub stat_refused_keeps : (va : ℕ) → place_of (slot_at s n) ≡ place.InService (service.Stat fd va) step.ReadingDevice →
      is_buffer va STAT_SIZE ≡ false →
      KeepsStanding progress.Finished n s (service_answered (loaded s n (device_va fd)) n (negated E_INVAL)) []
  stat_refused_keeps va stands off a h turn quiet = stat_refused s n fd h.1 word order va stands off

  pub stat_locks_keeps : (va : ℕ) → place_of (slot_at s n) ≡ place.InService (service.Stat fd va) step.ReadingDevice → is_buffer va STAT_SIZE ≡ true →
      KeepsStanding progress.Hidden n s (gone_on s n (device_va fd) (service.Stat fd va) pipe.StatLocking) []
  stat_locks_keeps va stands buffer a h turn quiet = (refl, (h.0, stat_locks s n fd h.1 word order va stands buffer))

  pub read_looks_keeps : (va len : ℕ) → place_of (slot_at s n) ≡ place.InService (service.Read fd va len) step.ReadingDevice →
      KeepsStanding progress.Hidden n s (gone_on s n (device_va fd) (service.Read fd va len) pipe.EndMode) []
  read_looks_keeps va len stands a h turn quiet = (refl, (h.0, read_looks s n fd h.1 word order va len stands))

  pub write_looks_keeps : (va len : ℕ) → place_of (slot_at s n) ≡ place.InService (service.Write fd va len) step.ReadingDevice →
      KeepsStanding progress.Hidden n s (gone_on s n (device_va fd) (service.Write fd va len) pipe.EndMode) []
  write_looks_keeps va len stands a h turn quiet = (refl, (h.0, write_looks s n fd h.1 word order va len stands))

-- ---- read

module _ (s : KernelState) (n fd va len : ℕ) where
  abbrev reading : Service
  reading = service.Read fd va len

  module _ (stands : IsPiped s n reading pipe.EndMode) (order : IsInOrder (loaded s n (mode_va fd))) where
    pub read_end_refused : (mode_word s n fd == 1) || not (is_buffer va (wanted_of len)) ≡ true →
        KeepsStanding progress.Finished n s (service_answered (loaded s n (mode_va fd)) n (negated E_INVAL)) []
    read_end_refused test a h turn quiet = read_end_refuses s n fd va len stands h.1 order test

    pub read_end_empty : (mode_word s n fd == 1) || not (is_buffer va (wanted_of len)) ≡ false → wanted_of len ≡ 0 →
        KeepsStanding progress.Finished n s (service_answered (loaded s n (mode_va fd)) n 0) []
    read_end_empty test none a h turn quiet = read_end_none s n fd va len stands h.1 order test none

    pub read_end_keeps : (mode_word s n fd == 1) || not (is_buffer va (wanted_of len)) ≡ false → wanted_of len ≢ 0 →
        KeepsStanding progress.Hidden n s (gone_on s n (mode_va fd) reading pipe.TakingBytes) []
    read_end_keeps test some a h turn quiet = (refl, (h.0, read_end_takes s n fd va len stands h.1 order test some))

  pub reads_from_keeps : (done id runs : ℕ) → IsPiped s n reading (pipe.ReadFrom done id runs) → IsInOrder (loaded s n (read_va fd)) →
      KeepsStanding progress.Hidden n s (gone_on s n (read_va fd) reading (pipe.ReadTo done id runs (read_of (pipe_held s n fd)))) []
  reads_from_keeps done id runs stands order a h turn quiet = (refl, (h.0, reads_from s n fd va len done id runs stands h.1 order))

  module _ (done id runs from : ℕ) (stands : IsPiped s n reading (pipe.ReadTo done id runs from)) (order : IsInOrder (loaded s n (written_va fd))) where
    pub read_finds_keeps : (written_of (pipe_held s n fd) == from) ≡ false →
        KeepsStanding progress.Hidden n s (gone_on s n (written_va fd) reading (pipe.LoadingHeld done from)) []
    read_finds_keeps test a h turn quiet = (refl, (h.0, read_finds s n fd va len done id runs from stands h.1 order test))

    pub read_stuck_keeps : (written_of (pipe_held s n fd) == from) ≡ true → done ≡ 0 →
        KeepsStanding progress.Hidden n s (gone_on s n (written_va fd) reading (pipe.UnlockingTest done id runs)) []
    read_stuck_keeps test none a h turn quiet =
        (refl, (h.0, read_stuck s n fd va len done id runs from stands h.1 order test none turn.running))

    pub read_ends_keeps : (written_of (pipe_held s n fd) == from) ≡ true → done ≢ 0 →
        KeepsStanding progress.Visible n s (gone_on s n (written_va fd) reading (pipe.UnlockingEnd done)) []
    read_ends_keeps test some a h turn quiet = read_ends s n fd va len done id runs from stands h.1 order test some

  pub reads_byte_keeps : (done from : ℕ) → IsPiped s n reading (pipe.LoadingHeld done from) → IsInOrder (loaded s n (byte_va fd from)) →
      KeepsStanding progress.Hidden n s
      (gone_on s n (byte_va fd from) reading (pipe.KeepingHeld done from (pipe_byte (pipe_held s n fd) from))) []
  reads_byte_keeps done from stands order a h turn quiet = (refl, (h.0, reads_byte s n fd va len done from stands h.1 order))

-- ---- write

module _ (s : KernelState) (n fd va len : ℕ) where
  abbrev writing : Service
  writing = service.Write fd va len

  module _ (stands : IsPiped s n writing pipe.EndMode) (order : IsInOrder (loaded s n (mode_va fd))) where
    pub write_end_refused : (mode_word s n fd == 0) || not (is_buffer va (wanted_of len)) ≡ true →
        KeepsStanding progress.Finished n s (service_answered (loaded s n (mode_va fd)) n (negated E_INVAL)) []
    write_end_refused test a h turn quiet = write_end_refuses s n fd va len stands h.1 order test

    pub write_end_empty : (mode_word s n fd == 0) || not (is_buffer va (wanted_of len)) ≡ false → wanted_of len ≡ 0 →
        KeepsStanding progress.Finished n s (service_answered (loaded s n (mode_va fd)) n 0) []
    write_end_empty test none a h turn quiet = write_end_none s n fd va len stands h.1 order test none

    pub write_end_keeps : (mode_word s n fd == 0) || not (is_buffer va (wanted_of len)) ≡ false → wanted_of len ≢ 0 →
        KeepsStanding progress.Hidden n s (gone_on s n (mode_va fd) writing pipe.TakingBytes) []
    write_end_keeps test some a h turn quiet = (refl, (h.0, write_end_takes s n fd va len stands h.1 order test some))

  pub writes_from_keeps : (done id runs : ℕ) → IsPiped s n writing (pipe.ReadFrom done id runs) → IsInOrder (loaded s n (read_va fd)) →
      KeepsStanding progress.Hidden n s (gone_on s n (read_va fd) writing (pipe.ReadTo done id runs (read_of (pipe_held s n fd)))) []
  writes_from_keeps done id runs stands order a h turn quiet = (refl, (h.0, writes_from s n fd va len done id runs stands h.1 order))

  module _ (done id runs from : ℕ) (stands : IsPiped s n writing (pipe.ReadTo done id runs from)) (order : IsInOrder (loaded s n (written_va fd))) where
    pub write_finds_keeps : nat_le PIPEBUFSIZ ((written_of (pipe_held s n fd) + (2 ^ 32 - from)) % 2 ^ 32) ≡ false →
        KeepsStanding progress.Hidden n s (gone_on s n (written_va fd) writing (pipe.LoadingOwn done (written_of (pipe_held s n fd)))) []
    write_finds_keeps test a h turn quiet = (refl, (h.0, write_finds s n fd va len done id runs from stands h.1 order test))

    pub write_stuck_keeps : nat_le PIPEBUFSIZ ((written_of (pipe_held s n fd) + (2 ^ 32 - from)) % 2 ^ 32) ≡ true →
        KeepsStanding progress.Hidden n s (gone_on s n (written_va fd) writing (pipe.UnlockingTest done id runs)) []
    write_stuck_keeps test a h turn quiet = (refl, (h.0, write_stuck s n fd va len done id runs from stands h.1 order test turn.running))

  pub writes_byte_keeps : (done at : ℕ) → IsPiped s n writing (pipe.LoadingOwn done at) → IsInOrder (loaded s n (own_va done)) →
      KeepsStanding progress.Hidden n s
      (gone_on s n (own_va done) writing (pipe.PuttingOwn done at (slice_index (own_held s n) (done % PGSIZE)))) []
  writes_byte_keeps done at stands order a h turn quiet = (refl, (h.0, writes_byte s n fd va len done at stands h.1 order))

-- ---- stat

module _ (s : KernelState) (n fd va : ℕ) where
  abbrev telling : Service
  telling = service.Stat fd va

  pub stat_from_keeps : IsPiped s n telling pipe.StatFrom → IsInOrder (loaded s n (read_va fd)) →
      KeepsStanding progress.Hidden n s (gone_on s n (read_va fd) telling (pipe.StatTo (read_of (pipe_held s n fd)))) []
  stat_from_keeps stands order a h turn quiet = (refl, (h.0, stat_from s n fd va stands h.1 order))

  pub stat_shows_keeps : (from : ℕ) → IsPiped s n telling (pipe.StatTo from) → IsInOrder (loaded s n (written_va fd)) →
      KeepsStanding progress.Visible n s
      (gone_on s n (written_va fd) telling (pipe.StatUnlocking ((written_of (pipe_held s n fd) + (2 ^ 32 - from)) % 2 ^ 32))) []
  stat_shows_keeps from stands order a h turn quiet = stat_shows s n fd va from stands h.1 order
