-- The law of the stages in which a service finds what its descriptor names, for each service that has them: each is a part of its one step
-- in the abstract system, by the word that is read.
use Rattle.std.proofs.Common.{◌≡◌, ◌⊎◌, inl, inr, ◌||◌, ◌<◌, ◌≤◌, ℕ, Bool, true, false, not, [], Some}
use Rattle.std.proofs.Common.{refl, sym, ap, subst, arith, if◌then◌else◌}
use Rattle.std.specs.Prelude.{nat_lt}
use Rattle.std.proofs.lemmas.Bool.Decides.{nat_tests}
use Rattle.std.proofs.lemmas.Option.{none-some}
use Rattle.jos_base.specs.declared.called.Called.{Called}
use Rattle.jos_base.specs.declared.called.Called.TheVariants.{Answered}
use Rattle.jos_base.specs.declared.numbers.TheConstants.{E_INVAL, SYS_GETENVID}
use Rattle.jos_base.specs.Environments.{is_live}
use Rattle.jos_base.specs.KernelState.{KernelState, slot_at}
use Rattle.jos_base.specs.Words.{negated}
use Rattle.lib_os.specs.declared.numbers.TheConstants.{DESCRIPTORS, DEVICE_CONSOLE, DEVICE_FILE, DEVICE_PIPE}
use Rattle.lib_os.specs.declared.place.PipeStep.TheVariants as pipe
use Rattle.lib_os.specs.declared.place.Place.TheVariants as place
use Rattle.lib_os.specs.declared.place.Step.{Step}
use Rattle.lib_os.specs.declared.place.Step.TheVariants as step
use Rattle.lib_os.specs.declared.service.Service.{Service}
use Rattle.lib_os.specs.declared.service.Service.TheVariants as service
use Rattle.lib_os.specs.AbstractState.{AbstractState}
use Rattle.lib_os.specs.InOrder.{IsInOrder}
use Rattle.lib_os.specs.LibrarySteps.{AbstractFollows, is_pausing}
use Rattle.lib_os.specs.Places.{place_of}
use Rattle.lib_os.specs.Rows.{Names}
use Rattle.lib_os.specs.StandsFor.{StandsFor, descriptor_given}
use Rattle.lib_os.specs.UserCalls.{CallStep, answer_of, giving, load}
use Rattle.lib_os.proofs.Calls.{getenvid_is}
use Rattle.lib_os.proofs.DescriptorLooks.{entry_va, page_word, table_gives, table_va, table_word}
use Rattle.lib_os.proofs.DeviceLooks.{device_either, device_gives, device_va, device_word}
use Rattle.lib_os.proofs.DeviceLooks.{entry_found, entry_gives, entry_missing, past_keeps, table_found, table_missing}
use Rattle.lib_os.proofs.Loading.{loaded}
use Rattle.lib_os.proofs.Numbered.{number_of}
use Rattle.lib_os.proofs.Trying.{LivesOn}
use Rattle.lib_os.proofs.WindowWords.{read_at}
use Rattle.lib_stage.specs.declared.ask.Ask.{Ask}
use Rattle.lib_stage.specs.declared.ask.Ask.TheVariants as ask
use Rattle.lib_stage.specs.declared.ask.Next.{Next}
use Rattle.lib_stage.specs.declared.ask.Next.TheVariants as next
use Rattle.lib_stage.specs.Asks.{frames_of, no_args}
use Rattle.lib_stage.specs.Nexts.{seen_as, settled}
use Rattle.lib_stage.specs.ServiceSteps.{Plan, ServiceHolds}
use Rattle.lib_stage.proofs.Laws.{Falls, IsAt, KeepsBy, is_plain, law_of_call, law_of_load, plainly}
use Rattle.lib_fd.specs.DescriptorStages.{entry_asked, is_there, region_asked, region_asked_for}
use Rattle.lib_file.specs.Finding.{device_asked, next_of_entry, next_of_region}

-- what a service is at a stage: what it asks, and what it does by the word of the reply
abbrev pub staged : Service → Ask → (ℕ → Next) → Plan
staged service asks next = record { number = number_of service; asks = asks; next = λ called. next (answer_of called) }

-- what the step is in the abstract system by what it does next
abbrev pub Follows : KernelState → ℕ → Service → AbstractState → Next → Type 0
Follows s n service a x = AbstractFollows (seen_as x) n (settled (number_of service) x s n) a []

-- ---- a stage that loads a word

-- the step of a service that pauses
abbrev pub pauses : Step → Bool
pauses (step.Pausing perm) = true
pauses (step.Piped (pipe.LockPausing done)) = true
pauses (step.Piped (pipe.TestPausing done)) = true
pauses (step.Piped pipe.StatPausing) = true
pauses _ = false

seek_steady : (fd offset : ℕ) (from : Step) → pauses from ≡ false → is_pausing (place.InService (service.Seek fd offset) from) ≡ false
seek_steady fd offset (step.Pausing id) none = absurd (let contradiction : true ≡ false = none in cc)
seek_steady fd offset _ none = refl

set_size_steady : (fd size : ℕ) (from : Step) → pauses from ≡ false → is_pausing (place.InService (service.SetSize fd size) from) ≡ false
set_size_steady fd size (step.Pausing id) none = absurd (let contradiction : true ≡ false = none in cc)
set_size_steady fd size _ none = refl

write_steady : (fd va len : ℕ) (from : Step) → pauses from ≡ false → is_pausing (place.InService (service.Write fd va len) from) ≡ false
write_steady fd va len (step.Pausing id) none = absurd (let contradiction : true ≡ false = none in cc)
write_steady fd va len (step.Piped (pipe.LockPausing done)) none = absurd (let contradiction : true ≡ false = none in cc)
write_steady fd va len (step.Piped (pipe.TestPausing done)) none = absurd (let contradiction : true ≡ false = none in cc)
write_steady fd va len (step.Piped pipe.StatPausing) none = absurd (let contradiction : true ≡ false = none in cc)
write_steady fd va len _ none = refl

read_steady : (fd va len : ℕ) (from : Step) → pauses from ≡ false → is_pausing (place.InService (service.Read fd va len) from) ≡ false
read_steady fd va len (step.Pausing id) none = absurd (let contradiction : true ≡ false = none in cc)
read_steady fd va len (step.Piped (pipe.LockPausing done)) none = absurd (let contradiction : true ≡ false = none in cc)
read_steady fd va len (step.Piped (pipe.TestPausing done)) none = absurd (let contradiction : true ≡ false = none in cc)
read_steady fd va len (step.Piped pipe.StatPausing) none = absurd (let contradiction : true ≡ false = none in cc)
read_steady fd va len _ none = refl

stat_steady : (fd va : ℕ) (from : Step) → pauses from ≡ false → is_pausing (place.InService (service.Stat fd va) from) ≡ false
stat_steady fd va (step.Pausing id) none = absurd (let contradiction : true ≡ false = none in cc)
stat_steady fd va (step.Piped (pipe.LockPausing done)) none = absurd (let contradiction : true ≡ false = none in cc)
stat_steady fd va (step.Piped (pipe.TestPausing done)) none = absurd (let contradiction : true ≡ false = none in cc)
stat_steady fd va (step.Piped pipe.StatPausing) none = absurd (let contradiction : true ≡ false = none in cc)
stat_steady fd va _ none = refl

-- At no other step one that is given a descriptor gives up its turn.
pub is_steady : (s : Service) (fd : ℕ) → descriptor_given s ≡ Some fd → (from : Step) → pauses from ≡ false →
    is_pausing (place.InService s from) ≡ false
is_steady (service.Wait id) fd given from none = absurd (none-some fd given)
is_steady (service.Send id value va) fd given from none = absurd (none-some fd given)
is_steady service.Sync fd given from none = absurd (none-some fd given)
is_steady (service.Remove path) fd given from none = absurd (none-some fd given)
is_steady (service.OpenFile path mode) fd given from none = absurd (none-some fd given)
is_steady (service.Spawn path argv) fd given from none = absurd (none-some fd given)
is_steady (service.Seek other offset) fd given from none = seek_steady other offset from none
is_steady (service.SetSize other size) fd given from none = set_size_steady other size from none
is_steady (service.Write other va len) fd given from none = write_steady other va len from none
is_steady (service.Read other va len) fd given from none = read_steady other va len from none
is_steady (service.Stat other va) fd given from none = stat_steady other va from none
is_steady _ fd given from none = refl

module _ (s : KernelState) (n : ℕ) (service : Service) (from : Step) (live : is_live (slot_at s n) ≡ true)
    (steady : is_pausing (place.InService service from) ≡ false) (stands : place_of (slot_at s n) ≡ place.InService service from) where
  pub staged_at : (asks : Ask) (next : ℕ → Next) → is_plain asks ≡ true → frames_of asks ≤ 0 → ((word : ℕ) → Falls service from (next word)) →
      IsAt s n (staged service asks next) service from
  staged_at asks next plain few falls = record {
    stands = stands;
    live = live;
    numbered = refl;
    plain = plainly plain;
    goes_on = steady;
    falls = λ called. falls (answer_of called);
    few = omega (arith, few);
  }

  -- It loads a word that is known, and what follows is told by it.
  pub load_holds : (va word : ℕ) (next : ℕ → Next) → ((w : ℕ) → Falls service from (next w)) →
      ((names : Names) (a : AbstractState) → StandsFor names s a → load s n va ≡ read_at s n va word) →
      ((names : Names) (a : AbstractState) → StandsFor names s a → IsInOrder (loaded s n va) → Follows (loaded s n va) n service a (next word)) →
      ServiceHolds s n (staged service (ask.Load va) next)
  load_holds va word next falls gives follows =
      law_of_load s n (staged service (ask.Load va) next) service from (staged_at (ask.Load va) next refl (omega arith) falls) va refl
      (λ names a h. (record { word = word; is = gives names a h }, follows names a h))

-- ---- what it goes on to is lower

next_entry_falls : (service : Service) (at word : ℕ) → Falls service (step.DescriptorEntry at) (next_of_entry word)
next_entry_falls service at word = by_test (is_there word)
  where
    by_test : (t : Bool) → Falls service (step.DescriptorEntry at) (if not t then next.Answer (negated E_INVAL) else next.GoOn step.ReadingDevice)
    by_test true = omega arith
    by_test false = tt

next_region_falls : (service : Service) (fd word : ℕ) → Falls service step.Entered (next_of_region fd word)
next_region_falls service fd word = by_test (not (nat_lt fd DESCRIPTORS) || not (is_there word))
  where
    by_test : (t : Bool) → Falls service step.Entered (if t then next.Answer (negated E_INVAL) else next.GoOn (step.DescriptorEntry fd))
    by_test true = tt
    by_test false = omega arith

-- ---- the three stages

module _ (s : KernelState) (n : ℕ) (service : Service) (fd : ℕ) (given : descriptor_given service ≡ Some fd)
    (live : is_live (slot_at s n) ≡ true) where
  -- ---- whether the region of descriptors' pages has a table

  module _ (stands : place_of (slot_at s n) ≡ place.InService service step.Entered) where
    abbrev region_plan : Plan
    region_plan = staged service (region_asked_for fd) (next_of_region fd)

    region_follows : fd < DESCRIPTORS → (names : Names) (a : AbstractState) → StandsFor names s a → IsInOrder (loaded s n table_va) →
        Follows (loaded s n table_va) n service a (next_of_region fd (table_word s n))
    region_follows below names a h order =
        let inside : nat_lt fd DESCRIPTORS ≡ true = grind (arith, nat_tests) in
        subst (λ (t : Bool). Follows (loaded s n table_va) n service a
        (if not t || not (is_there (table_word s n)) then next.Answer (negated E_INVAL) else next.GoOn (step.DescriptorEntry fd)))
        (sym inside) (by_test (is_there (table_word s n)) refl)
      where
        by_test : (t : Bool) → is_there (table_word s n) ≡ t → Follows (loaded s n table_va) n service a
            (if not t then next.Answer (negated E_INVAL) else next.GoOn (step.DescriptorEntry fd))
        by_test false is = table_missing s n service fd given stands below h order is
        by_test true is = (refl, (names, table_found s n service fd given stands below h order is))

    region_by : (t : Bool) → nat_lt fd DESCRIPTORS ≡ t → ServiceHolds s n region_plan
    region_by true is =
        subst (λ (x : Ask). ServiceHolds s n (staged service x (next_of_region fd))) (sym asks)
        (load_holds s n service step.Entered live (is_steady service fd given step.Entered refl) stands table_va (table_word s n) (next_of_region fd)
        (next_region_falls service fd) (λ names a h. table_gives h n) (region_follows (grind (arith, nat_tests))))
      where
        asks : region_asked_for fd ≡ region_asked
        asks = ap (λ (c : Bool). if c then region_asked else ask.System SYS_GETENVID no_args) is
    region_by false is =
        subst (λ (x : Ask). ServiceHolds s n (staged service x (next_of_region fd))) (sym asks)
        (law_of_call s n asking service step.Entered
        (staged_at s n service step.Entered live (is_steady service fd given step.Entered refl) stands (ask.System SYS_GETENVID no_args)
        (next_of_region fd) refl (omega arith) (next_region_falls service fd)) SYS_GETENVID no_args refl refl
        (subst (λ (z : CallStep Called). LivesOn z n (slot_at s n).registers) (sym (getenvid_is s n live no_args))
        (record { live = live; registers = refl; written = refl }))
        (λ order. subst (λ (z : CallStep Called). KeepsBy s n asking z) (sym (getenvid_is s n live no_args)) keeps))
      where
        asking : Plan
        asking = staged service (ask.System SYS_GETENVID no_args) (next_of_region fd)

        asks : region_asked_for fd ≡ ask.System SYS_GETENVID no_args
        asks = ap (λ (c : Bool). if c then region_asked else ask.System SYS_GETENVID no_args) is

        keeps : KeepsBy s n asking (giving s (Answered (slot_at s n).id))
        keeps = rw is (past_keeps s n service fd given stands (grind (arith, nat_tests)))

    pub region_holds : ServiceHolds s n region_plan
    region_holds = region_by (nat_lt fd DESCRIPTORS) refl

  -- ---- whether the descriptor is open

  module _ (at : ℕ) (stands : place_of (slot_at s n) ≡ place.InService service (step.DescriptorEntry at)) where
    entry_follows : (names : Names) (a : AbstractState) → StandsFor names s a → IsInOrder (loaded s n (entry_va fd)) →
        Follows (loaded s n (entry_va fd)) n service a (next_of_entry (page_word s n fd))
    entry_follows names a h order = by_test (is_there (page_word s n fd)) refl
      where
        by_test : (t : Bool) → is_there (page_word s n fd) ≡ t → Follows (loaded s n (entry_va fd)) n service a
            (if not t then next.Answer (negated E_INVAL) else next.GoOn step.ReadingDevice)
        by_test false is = entry_missing s n service fd given at stands h order is
        by_test true is = (refl, (names, entry_found s n service fd given at stands h order is))

    pub entry_holds : ServiceHolds s n (staged service (entry_asked fd) next_of_entry)
    entry_holds =
        load_holds s n service (step.DescriptorEntry at) live (is_steady service fd given (step.DescriptorEntry at) refl) stands (entry_va fd)
        (page_word s n fd) next_of_entry (next_entry_falls service at) (λ names a h. entry_gives s n service fd given at stands h) entry_follows

  -- ---- what it names: the console, a file or an end of a pipe, of which it is told what the service does then

  module _ (stands : place_of (slot_at s n) ≡ place.InService service step.ReadingDevice) where
    -- it does what the abstract system does of an object with this word
    abbrev pub FollowsObject : (ℕ → Next) → ℕ → Type 0
    FollowsObject next device =
        (names : Names) (a : AbstractState) → StandsFor names s a → IsInOrder (loaded s n (device_va fd)) → device_word s n fd ≡ device →
        Follows (loaded s n (device_va fd)) n service a (next device)

    pub device_holds_each : (next : ℕ → Next) → ((word : ℕ) → Falls service step.ReadingDevice (next word)) →
        FollowsObject next DEVICE_CONSOLE → FollowsObject next DEVICE_FILE → FollowsObject next DEVICE_PIPE →
        ServiceHolds s n (staged service (device_asked fd) next)
    device_holds_each next falls of_console of_file of_pipe =
        load_holds s n service step.ReadingDevice live (is_steady service fd given step.ReadingDevice refl) stands (device_va fd) (device_word s n fd)
        next falls (λ names a h. device_gives s n service fd given stands h)
        (λ names a h order. by_word names a h order (device_either s n service fd given stands h))
      where
        by_word : (names : Names) (a : AbstractState) → StandsFor names s a → IsInOrder (loaded s n (device_va fd)) →
            (device_word s n fd ≡ DEVICE_CONSOLE) ⊎ (device_word s n fd ≡ DEVICE_FILE) ⊎ (device_word s n fd ≡ DEVICE_PIPE) →
            Follows (loaded s n (device_va fd)) n service a (next (device_word s n fd))
        by_word names a h order (inl word) =
            subst (λ (w : ℕ). Follows (loaded s n (device_va fd)) n service a (next w)) (sym word) (of_console names a h order word)
        by_word names a h order (inr (inl word)) =
            subst (λ (w : ℕ). Follows (loaded s n (device_va fd)) n service a (next w)) (sym word) (of_file names a h order word)
        by_word names a h order (inr (inr word)) =
            subst (λ (w : ℕ). Follows (loaded s n (device_va fd)) n service a (next w)) (sym word) (of_pipe names a h order word)
