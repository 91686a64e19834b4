-- An environment that stands before an access that its page refuses ends by its next step, in the abstract system too: a program that is
-- marked with its fault, and a service that moves bytes to or from the program's memory.
use Rattle.std.proofs.Common.{◌≡◌, ◌∙◌, ◌+◌, ◌-◌, ◌<◌, ◌%◌, ◌^◌, ◌++◌, ◌&&◌, not, ℕ, Bool, true, false, List, [], ◌∷◌, length, refl, sym, ap}
use Rattle.std.proofs.Common.{arith}
use Rattle.std.proofs.lemmas.Bool.Decides.{nat_tests}
use Rattle.std.specs.Prelude.{Option, Some, is_ok, nat_lt}
use Rattle.jos_base.specs.declared.line.Line.TheVariants as line
use Rattle.jos_base.specs.declared.memory.Access.TheVariants.{Read, Write}
use Rattle.jos_base.specs.declared.registers.Regs.{Regs}
use Rattle.jos_base.specs.KernelState.{KernelState, slot_at}
use Rattle.jos_base.specs.Reach.{Entry}
use Rattle.jos_base.specs.SystemCalls.{has_write}
use Rattle.jos_base.specs.Words.{page_number}
use Rattle.fs_layout.specs.declared.numbers.TheConstants.{MAXPATHLEN}
use Rattle.lib_os.specs.declared.service.Service.{Service}
use Rattle.lib_os.specs.declared.service.Service.TheVariants as service
use Rattle.lib_os.specs.AbstractMemory.{page_allows, page_at}
use Rattle.lib_os.specs.AbstractRun.{abs_step}
use Rattle.lib_os.specs.AbstractState.{AbstractState, Born, Object, Stage, born, delivering, gathering, guest, replied}
use Rattle.lib_os.specs.Answers.{bytes_gathered, ended_at}
use Rattle.lib_os.specs.Descriptors.{object_of}
use Rattle.lib_os.specs.Fence.{is_buffer, is_inside}
use Rattle.lib_os.specs.FileServices.{is_only_for_reading, write_length, write_step, write_with}
use Rattle.lib_os.specs.GuestStep.{ends_with}
use Rattle.lib_os.specs.LibraryCall.{library_step}
use Rattle.lib_os.specs.Places.{place_of}
use Rattle.lib_os.specs.Rows.{EntryRow, IsUsers, Names, is_cow, rows_of}
use Rattle.lib_os.specs.StandsFor.{StandsFor, view_of}
use Rattle.lib_os.specs.StandsInHandler.{HasNoEnd, IsStoppedAt, is_refused_by, marked, may_follow, reading, stage_with, telling, wanted_from, writing}
use Rattle.lib_os.specs.StandsInHandler.{buffer_of, handing, hands_back, following, listed, quoted, takes_path}
use Rattle.lib_os.proofs.BytesRead.{user_allows, user_lost, users_inside}
use Rattle.lib_os.proofs.DescriptorLooks.{seen_calm}
use Rattle.lib_os.proofs.DeviceLooks.{IsWritten, begins_written}
use Rattle.lib_os.proofs.FaultEnds.{access_of, access_refused, faulted_step}
use Rattle.lib_os.proofs.Fences.{inside_below, inside_number}
use Rattle.lib_os.proofs.Logical.{inside_programs, is_plain, plain_unborne}
use Rattle.lib_os.proofs.Paths.{next_asked, path_gathers, path_stepped}
use Rattle.lib_os.proofs.PipesStand.{calm_unmade, is_calm}
use Rattle.lib_os.proofs.Serving.{service_step}
use Rattle.lib_os.proofs.SpawnStops.{list_ends, quote_ends}

-- ---- an access that a page refuses

module _ {names : Names} {s : KernelState} {a : AbstractState} (h : StandsFor names s a) (n : ℕ) (b : Born) (at : a.slots n ≡ born b) where
  abbrev d : ℕ
  d = (slot_at s n).directory

  abbrev row : EntryRow
  row = rows_of s.spaces d

  -- the page does not allow it in the abstract system either
  pub page_refuses : (write : Bool) (va : ℕ) → is_inside va ≡ true → is_refused_by write (row (page_number va)) ≡ true →
      page_allows (page_at b va) (access_of write) ≡ false
  page_refuses write va inside refused = by_kind write refused
    where
      users : (x : Entry) → row (page_number va) ≡ Some x → IsUsers x.perm
      users x is = users_inside names s a n b h at (page_number va) x (inside_programs va inside) is

      by_kind : (w : Bool) → is_refused_by w (row (page_number va)) ≡ true → page_allows (page_at b va) (access_of w) ≡ false
      by_kind false off =
          let it = access_refused s.spaces d va (inside_number va inside) users false off in
          sym (user_allows names s a n b h at va inside) ∙ ap is_ok it.is
      by_kind true off = by_test (page_allows (page_at b va) Write) refl
        where
          not_waiting : (writes copied : Bool) → (true && not writes && not copied) ≡ true → copied ≡ false
          not_waiting writes false is = refl
          not_waiting true true is = absurd (let contradiction : false ≡ true = is in cc)
          not_waiting false true is = absurd (let contradiction : false ≡ true = is in cc)

          by_test : (t : Bool) → page_allows (page_at b va) Write ≡ t → t ≡ false
          by_test false is = refl
          by_test true is =
              let it = access_refused s.spaces d va (inside_number va inside) users true off in
              let lost = user_lost names s a n b h at va inside (ap is_ok it.is) is in
              let entry = lost.page.entry in
              let waits : is_cow entry.perm ≡ false =
              not_waiting (has_write entry.perm) (is_cow entry.perm) (ap (is_refused_by true) (sym lost.page.stands) ∙ off) in
              let contradiction : true ≡ false = sym lost.page.copied ∙ waits in absurd cc

-- ---- the next step

module _ (a : AbstractState) (n : ℕ) (b : Born) (regs : Regs) (va : ℕ) where
  abbrev ended : AbstractState
  ended = ended_at a n b regs va

  -- bytes are to be put there
  read_ends : (fd buffer len : ℕ) (bytes : List ℕ) (answer : ℕ) → page_allows (page_at b va) Write ≡ false →
      library_step a n b regs (service.Read fd buffer len) (delivering va bytes answer) ≡ Some ended
  unfolding library_step
  read_ends fd buffer len bytes answer off = rw off refl

  stat_ends : (fd buffer : ℕ) (bytes : List ℕ) (answer : ℕ) → page_allows (page_at b va) Write ≡ false →
      library_step a n b regs (service.Stat fd buffer) (delivering va bytes answer) ≡ Some ended
  unfolding library_step
  stat_ends fd buffer bytes answer off = rw off refl

  -- or are to be put there, and none of them is put
  handing_ends : (call : Service) (bytes : List ℕ) (answer : ℕ) → hands_back call ≡ true → 0 < length bytes → va ≡ buffer_of call →
      page_allows (page_at b va) Write ≡ false → library_step a n b regs call (replied bytes answer) ≡ Some ended
  unfolding library_step
  handing_ends call [] answer hands some there off = absurd (omega (arith, some))
  handing_ends (service.Read fd buffer len) (byte ∷ rest) answer hands some there off = rw (sym there, off) refl
  handing_ends (service.Stat fd buffer) (byte ∷ rest) answer hands some there off = rw (sym there, off) refl
  handing_ends _ (byte ∷ rest) answer hands some there off = absurd (let contradiction : false ≡ true = hands in cc)

  -- more are to be taken
  gathering_ends : (call : Service) (fd buffer wanted : ℕ) (bytes : List ℕ) (object : Object) → nat_lt (length bytes) wanted ≡ true →
      (buffer + length bytes) % 2 ^ 32 ≡ va → page_allows (page_at b va) Read ≡ false →
      write_with a n b regs call fd buffer wanted bytes object ≡ Some ended
  gathering_ends call fd buffer wanted bytes object more there off =
      let stage : List ℕ → Stage = λ taken. gathering (bytes ++ taken) in
      let taken : (at : ℕ) → Option AbstractState = λ at. Some (bytes_gathered a n b regs call at (wanted - length bytes) stage) in
      rw more (ap taken there ∙ rw off refl)

  write_ends : (fd buffer len start : ℕ) (bytes : List ℕ) → IsWritten a b fd len start → is_buffer buffer (wanted_from start len) ≡ true →
      length bytes < wanted_from start len → va ≡ buffer + length bytes → is_inside va ≡ true → page_allows (page_at b va) Read ≡ false →
      library_step a n b regs (service.Write fd buffer len) (stage_with bytes) ≡ Some ended
  unfolding library_step
  write_ends fd buffer len start bytes it given fewer there inside off = by_bytes bytes fewer there
    where
      is : object_of a b fd ≡ Some it.object
      is = it.is

      reading : is_only_for_reading it.object ≡ false
      reading = it.not_reading

      long : write_length it.object len ≡ wanted_from start len
      long = it.long

      small : (bytes : List ℕ) → va ≡ buffer + length bytes → (buffer + length bytes) % 2 ^ 32 ≡ va
      small bytes there = let below = inside_below va inside in omega (arith, below, there)

      by_bytes : (bytes : List ℕ) → length bytes < wanted_from start len → va ≡ buffer + length bytes →
          write_step a n b regs (service.Write fd buffer len) fd buffer len (stage_with bytes) ≡ Some ended
      by_bytes [] fewer there =
          rw (is, reading, long, given)
          (gathering_ends (service.Write fd buffer len) fd buffer (wanted_from start len) [] it.object (grind (arith, nat_tests)) (small [] there) off)
      by_bytes (byte ∷ rest) fewer there =
          rw (is, long)
          (gathering_ends (service.Write fd buffer len) fd buffer (wanted_from start len) (byte ∷ rest) it.object (grind (arith, nat_tests)) (small (byte ∷ rest) there) off)

  path_stops : (call : Service) → takes_path call ≡ true → (bytes : List ℕ) → HasNoEnd bytes → may_follow (buffer_of call) (length bytes) ≡ true →
      va ≡ buffer_of call + length bytes → page_allows (page_at b va) Read ≡ false → library_step a n b regs call (stage_with bytes) ≡ Some ended
  path_stops call takes bytes none follows there off =
      path_stepped a n b regs call takes bytes
      ∙ path_gathers a n b regs call (buffer_of call) bytes (next_asked a n b regs call) none follows
      ∙ ap (λ (x : AbstractState). Some x) ends
    where
      ends : bytes_gathered a n b regs call (buffer_of call + length bytes) (MAXPATHLEN - length bytes) (λ more. gathering (bytes ++ more)) ≡ ended
      ends =
          ap (λ (at : ℕ). bytes_gathered a n b regs call at (MAXPATHLEN - length bytes) (λ more. gathering (bytes ++ more))) (sym there) ∙ rw off refl

module _ {names : Names} {s : KernelState} {a : AbstractState} (h : StandsFor names s a) (n : ℕ) (b : Born) (at : a.slots n ≡ born b) where
  pub stopped_step : is_plain (place_of (slot_at s n)) ≡ true → is_calm (place_of (slot_at s n)) ≡ true → (write : Bool) (va : ℕ) (regs : Regs) (eax : ℕ) →
      b.program ≡ guest (record regs { eax = eax }) → b.blocked ≡ false →
      is_inside va ≡ true → is_refused_by write (rows_of s.spaces (slot_at s n).directory (page_number va)) ≡ true →
      IsStoppedAt write (view_of s.spaces (slot_at s n).directory) b va regs.eip → abs_step a n ≡ Some (ends_with a n b (line.UserFault va regs.eip))
  stopped_step plain calm write va regs eax program awake inside refused (marked phase) = faulted_step a n b (record regs { eax = eax }) va regs.eip at awake program phase
  stopped_step plain calm write va regs eax program awake inside refused (reading fd buffer len bytes answer writes phase more) =
      service_step a n b (record regs { eax = eax }) (service.Read fd buffer len) (delivering va bytes answer) at program phase awake
      ∙ read_ends a n b (record regs { eax = eax }) va fd buffer len bytes answer
      (ap (λ (w : Bool). page_allows (page_at b va) (access_of w)) (sym writes) ∙ page_refuses h n b at write va inside refused)
  stopped_step plain calm write va regs eax program awake inside refused (telling fd buffer bytes answer writes phase more) =
      service_step a n b (record regs { eax = eax }) (service.Stat fd buffer) (delivering va bytes answer) at program phase awake
      ∙ stat_ends a n b (record regs { eax = eax }) va fd buffer bytes answer
      (ap (λ (w : Bool). page_allows (page_at b va) (access_of w)) (sym writes) ∙ page_refuses h n b at write va inside refused)
  stopped_step plain calm write va regs eax program awake inside refused (handing call bytes answer writes hands phase some there) =
      service_step a n b (record regs { eax = eax }) call (replied bytes answer) at program phase awake
      ∙ handing_ends a n b (record regs { eax = eax }) va call bytes answer hands some there
      (ap (λ (w : Bool). page_allows (page_at b va) (access_of w)) (sym writes) ∙ page_refuses h n b at write va inside refused)
  stopped_step plain calm write va regs eax program awake inside refused (writing fd buffer len start bytes reads wants there) =
      service_step a n b (record regs { eax = eax }) (service.Write fd buffer len) (stage_with bytes) at program wants.phase awake
      ∙ write_ends a n b (record regs { eax = eax }) va fd buffer len start bytes
      (begins_written h n b at (plain_unborne (place_of (slot_at s n)) plain) (calm_unmade (place_of (slot_at s n)) calm) (seen_calm h n b at calm) fd len start wants.given.below wants.given.begins) wants.given.buffer
      wants.fewer there inside
      (ap (λ (w : Bool). page_allows (page_at b va) (access_of w)) (sym reads) ∙ page_refuses h n b at write va inside refused)
  stopped_step plain calm write va regs eax program awake inside refused (following call bytes reads wants there) =
      service_step a n b (record regs { eax = eax }) call (stage_with bytes) at program wants.phase awake
      ∙ path_stops a n b (record regs { eax = eax }) va call wants.takes bytes wants.no_end wants.follows there
      (ap (λ (w : Bool). page_allows (page_at b va) (access_of w)) (sym reads) ∙ page_refuses h n b at write va inside refused)
  stopped_step plain calm write va regs eax program awake inside refused (listed path argv name addresses taken stage reads phase so are few fewer there) =
      service_step a n b (record regs { eax = eax }) (service.Spawn path argv) stage at program phase awake
      ∙ list_ends a n b (record regs { eax = eax }) path argv va inside
      (ap (λ (w : Bool). page_allows (page_at b va) (access_of w)) (sym reads) ∙ page_refuses h n b at write va inside refused) so are few there
  stopped_step plain calm write va regs eax program awake inside refused (quoted path argv address name left taken words stage reads phase so fewer there) =
      service_step a n b (record regs { eax = eax }) (service.Spawn path argv) stage at program phase awake
      ∙ quote_ends a n b (record regs { eax = eax }) path argv va inside
      (ap (λ (w : Bool). page_allows (page_at b va) (access_of w)) (sym reads) ∙ page_refuses h n b at write va inside refused) so fewer there
