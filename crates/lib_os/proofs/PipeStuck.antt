-- Read and write that can move no byte, by whether the counts of the pages of their end and of the pipe are the same: nobody has the other end, so that
-- they are over in the abstract system, or it may be open still, so that they may wait.
use Rattle.std.proofs.Common.{◌≡◌, ◌≢◌, ◌∙◌, ◌+◌, ◌-◌, ◌%◌, ◌^◌, ◌<◌, ◌≤◌, ◌==◌, ◌&&◌, ◌||◌, ℕ, zero, suc, Bool, true, false, not, Some, None}
use Rattle.std.proofs.Common.{List, [], ◌∷◌, length, refl, sym, ap, arith, if◌then◌else◌}
use Rattle.std.specs.Prelude.{drop, min, nat_le, nat_lt}
use Rattle.std.specs.Option.{option_map}
use Rattle.std.proofs.lemmas.Bool.Decides.{nat_tests}
use Rattle.std.proofs.lemmas.Option.{same_Some}
use Rattle.jos_base.specs.declared.numbers.TheConstants.{E_INVAL}
use Rattle.jos_base.specs.declared.registers.Regs.{Regs}
use Rattle.jos_base.specs.KernelState.{KernelState, slot_at}
use Rattle.jos_base.specs.Reach.{Entry}
use Rattle.lib_os.specs.declared.numbers.TheConstants.{PIPEBUFSIZ, SHORT_QUANTUM, TRANSFER_MAX}
use Rattle.lib_os.specs.declared.service.Service.{Service}
use Rattle.lib_os.specs.declared.service.Service.TheVariants as service
use Rattle.lib_os.specs.AbstractPipes.{is_read_end, is_such_held, is_write_end, read_pipe}
use Rattle.lib_os.specs.AbstractRun.{abs_step, is_moved_by_another, may_be_open, may_wait, phase_may_wait, pipe_may_wait, pipe_of, read_may_wait, slot_may_wait}
use Rattle.lib_os.specs.AbstractRun.{waits_to_ask}
use Rattle.lib_os.specs.AbstractState.{AbstractSlot, AbstractState, Born, Object, Phase, Stage, born, entered, in_service, read_end, write_end}
use Rattle.lib_os.specs.Answers.{answered, refused}
use Rattle.lib_os.specs.DescriptorPages.{HasPipe, held_of}
use Rattle.lib_os.specs.Descriptors.{object_of}
use Rattle.lib_os.specs.Fence.{is_buffer}
use Rattle.lib_os.specs.FileServices.{read_begun, write_gathering, write_moving}
use Rattle.lib_os.specs.LibraryCall.{library_step}
use Rattle.lib_os.specs.LibraryPages.{View}
use Rattle.lib_os.specs.Places.{place_of}
use Rattle.lib_os.specs.Rows.{IsPage, Names}
use Rattle.lib_os.specs.StandsAtPipe.{AreCounted, IsTesting, OfPipe, end_given, is_still, other_position, own_position}
use Rattle.lib_os.specs.StandsAtPipe.{stage_put, stage_taken}
use Rattle.lib_os.specs.StandsFor.{StandsFor, borne_in, things_in, view_of}
use Rattle.lib_os.proofs.ClosedTold as told
use Rattle.lib_os.proofs.DescriptorLooks.{SeesDescriptors, object_below}
use Rattle.lib_os.proofs.DeviceLooks.{NamesEnd, end_object, names_end}
use Rattle.lib_os.proofs.Logical.{is_making_pipe}
use Rattle.lib_os.proofs.PipeBytes.{empty_test, read_closed, told_long, told_none, wrapped_held, write_closed}
use Rattle.lib_os.proofs.Serving.{step_in}
use Rattle.lib_os.proofs.SlotsStand.{moves_bytes}

-- ---- in the abstract system

or_true : (t : Bool) → (t || true) ≡ true
or_true true = refl
or_true false = refl

module _ (a : AbstractState) (n : ℕ) (b : Born) (regs : Regs) (fd va len of : ℕ) where
  -- read answers that no byte comes any more
  read_ends : object_of a b fd ≡ Some (read_end of) → is_buffer va (min len TRANSFER_MAX) ≡ true → 0 < min len TRANSFER_MAX → a.pipes of ≡ [] →
      is_such_held a (is_write_end of) ≡ false → library_step a n b regs (service.Read fd va len) entered ≡ Some (answered a n b regs 0)
  unfolding library_step
  read_ends is inside wants none closed =
      (λ i. read_begun a n b regs (service.Read fd va len) fd va len (is i))
      ∙ (λ i. if not (inside i) then Some (refused a n b regs E_INVAL)
      else read_pipe a n b regs (service.Read fd va len) va of (min len TRANSFER_MAX) [])
      ∙ read_closed a n b regs (service.Read fd va len) of va (min len TRANSFER_MAX) none wants closed

  -- and write how many it has put
  module _ (is : object_of a b fd ≡ Some (write_end of)) (bytes : List ℕ) (many : length bytes ≡ min len TRANSFER_MAX)
      (full : PIPEBUFSIZ ≤ length (a.pipes of)) (closed : is_such_held a (is_read_end of) ≡ false) where
    write_ends : (done : ℕ) → done < length bytes →
        library_step a n b regs (service.Write fd va len) (stage_put bytes done) ≡ Some (answered a n b regs done)
    unfolding library_step
    write_ends zero more =
        let over : nat_lt (length bytes) (min len TRANSFER_MAX) ≡ false = grind (arith, nat_tests, many) in
        (λ i. write_gathering a n b regs (service.Write fd va len) fd va len bytes (is i))
        ∙ rw over (write_closed a n b regs (service.Write fd va len) of bytes 0 more full closed)
    write_ends (suc m) more =
        (λ i. write_moving a n b regs (service.Write fd va len) (drop (suc m) bytes) (suc m) (is i))
        ∙ write_closed a n b regs (service.Write fd va len) of bytes (suc m) more full closed

  -- or it may wait
  module _ (at : a.slots n ≡ born b) (stage : Stage) (quantum : ℕ) where
    read_waits : b.phase ≡ in_service (service.Read fd va len) stage → object_of a b fd ≡ Some (read_end of) → a.pipes of ≡ [] →
        may_be_open a of (is_write_end of) quantum ≡ true → may_wait a n quantum ≡ true
    unfolding may_wait
    read_waits phase is none may =
        ap (λ (x : AbstractSlot). slot_may_wait a n x quantum) at
        ∙ ap (λ (x : Phase). phase_may_wait a n b x quantum) phase
        ∙ (λ i. waits_to_ask a n || pipe_may_wait a n (service.Read fd va len) (pipe_of (is i)) quantum)
        ∙ (λ i. waits_to_ask a n || (read_may_wait a of quantum (none i) || is_moved_by_another a n of))
        ∙ (λ i. waits_to_ask a n || (may i || is_moved_by_another a n of))
        ∙ or_true (waits_to_ask a n)

    write_waits : b.phase ≡ in_service (service.Write fd va len) stage → object_of a b fd ≡ Some (write_end of) →
        PIPEBUFSIZ ≤ length (a.pipes of) → may_be_open a of (is_read_end of) quantum ≡ true → may_wait a n quantum ≡ true
    unfolding may_wait
    write_waits phase is full may =
        let none : nat_lt (length (a.pipes of)) PIPEBUFSIZ ≡ false = grind (arith, nat_tests, full) in
        ap (λ (x : AbstractSlot). slot_may_wait a n x quantum) at
        ∙ ap (λ (x : Phase). phase_may_wait a n b x quantum) phase
        ∙ (λ i. waits_to_ask a n || pipe_may_wait a n (service.Write fd va len) (pipe_of (is i)) quantum)
        ∙ (λ i. waits_to_ask a n || ((not (none i) && may i) || is_moved_by_another a n of))
        ∙ or_true (waits_to_ask a n)

-- ---- no byte can be moved

-- by how many its own end has moved, and how many the other
abbrev pub is_still_by : Service → ℕ → ℕ → Bool
is_still_by (service.Write fd va len) own other = (own + (2 ^ 32 - other)) % 2 ^ 32 == PIPEBUFSIZ
is_still_by _ own other = other == own

-- it holds no more than it can
full_test : (held : ℕ) → held ≤ PIPEBUFSIZ → nat_le PIPEBUFSIZ held ≡ (held == PIPEBUFSIZ)
full_test held few = grind (arith, nat_tests, few)

pub still_so : (s : Service) (page : List ℕ) → IsPage page → held_of page ≤ PIPEBUFSIZ →
    is_still s page ≡ is_still_by s (own_position s page) (other_position s page)
still_so (service.Write fd va len) page whole few = full_test (held_of page) few ∙ ap (λ (k : ℕ). k == PIPEBUFSIZ) (sym (wrapped_held page whole))
still_so _ page whole few = empty_test page whole

-- What comes of that, by whether the counts are the same.
pub record IsStuck (a : AbstractState) (n : ℕ) (b : Born) (regs : Regs) (done closed : ℕ) : Type 0 where
  pub waits : closed ≡ 0 → may_wait a n SHORT_QUANTUM ≡ true
  pub ends : closed ≢ 0 → abs_step a n ≡ Some (answered a n b regs done)

taken_none : (taken : List ℕ) → length taken ≡ 0 → taken ≡ []
taken_none [] none = refl
taken_none (byte ∷ rest) none = absurd (omega (arith, none))

module _ {names : Names} {s : KernelState} {a : AbstractState} (h : StandsFor names s a) (n : ℕ) (b : Born) (at : a.slots n ≡ born b)
    (unborne : borne_in (place_of (slot_at s n)) ≡ None) (unmade : is_making_pipe (place_of (slot_at s n)) ≡ false) (seen : SeesDescriptors names s n b)
    (done closed : ℕ) where
  abbrev view : View
  view = view_of s.spaces (slot_at s n).directory

  -- the object of a descriptor that names an end
  end_seen : (fd mode : ℕ) (x page : Entry) (named : NamesEnd names s a b fd mode x page) → object_of a b fd ≡ Some (end_object mode named.pipe)
  end_seen fd mode x page named = ap (option_map a.objects) named.named ∙ ap (λ (o : Object). Some o) named.is

  pub stuck : (call : Service) → moves_bytes call ≡ true → IsTesting view (slot_at s n) b call done →
      (still : OfPipe view call (λ page. is_still call page ≡ true)) →
      HasPipe (things_in s a) (names.name still.page.frame) still.page.frame (s.spaces.pages still.page.frame) →
      AreCounted view (end_given call) (λ one pages. (one == pages) ≡ not (closed == 0)) → IsStuck a n b (slot_at s n).registers done closed
  stuck (service.Read fd va len) moves has still shows counts = record {
    waits = λ apart. read_waits a n b (slot_at s n).registers fd va len named.pipe at (stage_taken has.0.taken) SHORT_QUANTUM has.0.is_in.phase object
        none (told.read_open h n fd named.name named.pipe b at has.0.below names_it (not (closed == 0)) counts named.is (test_open apart) SHORT_QUANTUM);
    ends = λ shut.
        step_in a n b (slot_at s n) (service.Read fd va len) (stage_taken has.0.taken) at has.0.is_in
        ∙ ap (λ (bytes : List ℕ). library_step a n b (slot_at s n).registers (service.Read fd va len) (stage_taken bytes)) nothing
        ∙ read_ends a n b (slot_at s n).registers fd va len named.pipe object has.0.inside wants none
        (told.read_closed h n fd named.name named.pipe b at has.0.below names_it (not (closed == 0)) counts named.is (test_shut shut))
        ∙ ap (λ (k : ℕ). Some (answered a n b (slot_at s n).registers k)) (sym has.2);
  }
    where
      test_open : closed ≡ 0 → not (closed == 0) ≡ false
      test_open is = grind (arith, nat_tests)

      test_shut : closed ≢ 0 → not (closed == 0) ≡ true
      test_shut is = grind (arith, nat_tests)

      named : NamesEnd names s a b fd 0 has.0.open_end.entry has.0.open_end.page
      named = names_end h n b at unborne unmade seen fd has.0.below 0 has.0.open_end

      object : object_of a b fd ≡ Some (read_end named.pipe)
      object = end_seen fd 0 has.0.open_end.entry has.0.open_end.page named

      names_it : b.descriptors fd ≡ Some named.name
      names_it = sym (object_below h n b at fd has.0.below) ∙ named.named

      page_same : names.name still.page.frame ≡ named.pipe
      page_same =
          ap (λ (e : Entry). names.name e.frame) (same_Some still.page has.0.open_end.page (sym still.lies ∙ has.0.open_end.lies)) ∙ named.page_is

      none : a.pipes named.pipe ≡ []
      none =
          let empty : held_of (s.spaces.pages still.page.frame) ≡ 0 = let test = still.so in grind (arith, nat_tests) in
          ap a.pipes (sym page_same) ∙ told_none shows empty

      wants : 0 < min len TRANSFER_MAX
      wants = let more = has.1 in omega (arith, more)

      nothing : has.0.taken ≡ []
      nothing = taken_none has.0.taken (has.0.many ∙ has.2)
  stuck (service.Write fd va len) moves has still shows counts = record {
    waits = λ apart. write_waits a n b (slot_at s n).registers fd va len named.pipe at (stage_put has.0.bytes done) SHORT_QUANTUM has.0.is_in.phase object
        full (told.write_open h n fd named.name named.pipe b at has.0.below names_it (not (closed == 0)) counts named.is (test_open apart) SHORT_QUANTUM);
    ends = λ shut.
        step_in a n b (slot_at s n) (service.Write fd va len) (stage_put has.0.bytes done) at has.0.is_in
        ∙ write_ends a n b (slot_at s n).registers fd va len named.pipe object has.0.bytes has.0.many full
        (told.write_closed h n fd named.name named.pipe b at has.0.below names_it (not (closed == 0)) counts named.is (test_shut shut)) done more;
  }
    where
      test_open : closed ≡ 0 → not (closed == 0) ≡ false
      test_open is = grind (arith, nat_tests)

      test_shut : closed ≢ 0 → not (closed == 0) ≡ true
      test_shut is = grind (arith, nat_tests)

      named : NamesEnd names s a b fd 1 has.0.open_end.entry has.0.open_end.page
      named = names_end h n b at unborne unmade seen fd has.0.below 1 has.0.open_end

      object : object_of a b fd ≡ Some (write_end named.pipe)
      object = end_seen fd 1 has.0.open_end.entry has.0.open_end.page named

      names_it : b.descriptors fd ≡ Some named.name
      names_it = sym (object_below h n b at fd has.0.below) ∙ named.named

      page_same : names.name still.page.frame ≡ named.pipe
      page_same =
          ap (λ (e : Entry). names.name e.frame) (same_Some still.page has.0.open_end.page (sym still.lies ∙ has.0.open_end.lies)) ∙ named.page_is

      full : PIPEBUFSIZ ≤ length (a.pipes named.pipe)
      full =
          let most : PIPEBUFSIZ ≤ held_of (s.spaces.pages still.page.frame) = let test = still.so in grind (arith, nat_tests) in
          let long : length (a.pipes named.pipe) ≡ held_of (s.spaces.pages still.page.frame) =
          ap (λ (k : ℕ). length (a.pipes k)) (sym page_same) ∙ told_long shows in
          omega (arith, most, long)

      more : done < length has.0.bytes
      more = let fewer = has.1 in let many = has.0.many in omega (arith, fewer, many)
  stuck call moves has still shows counts = absurd (let contradiction : false ≡ true = moves in cc)
