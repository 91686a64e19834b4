-- What write does when its page has all bytes that it takes: they are read there and printed, and the environment goes on with its
-- answer in the abstract system, while here it gives its page back.
use Rattle.std.proofs.Common.{◌≡◌, ◌∙◌, ◌+◌, ◌<◌, ◌≤◌, ◌++◌, ℕ, Bool, true, false, List, ◌∷◌, length, Option, Some, Result, Ok, Err}
use Rattle.std.proofs.Common.{refl, sym, ap, subst, arith}
use Rattle.std.specs.Prelude.{nat_lt, slice_index}
use Rattle.std.proofs.Math.Nat.{min-le_right}
use Rattle.std.proofs.lemmas.Bool.Decides.{nat_tests}
use Rattle.jos_base.specs.declared.called.Called.{Called}
use Rattle.jos_base.specs.declared.called.Called.TheVariants.{Answered, Ended}
use Rattle.jos_base.specs.declared.memory.Access.TheVariants.{Read}
use Rattle.jos_base.specs.declared.memory.PageFault.{PageFault}
use Rattle.jos_base.specs.declared.numbers.TheConstants.{CPUTS_MAX, SYS_CPUTS, UTEMP}
use Rattle.jos_base.specs.declared.registers.Regs.{Regs}
use Rattle.jos_base.specs.Counting.{page_limit}
use Rattle.jos_base.specs.Environments.{Slot, is_live, records_of}
use Rattle.jos_base.specs.KernelState.{KernelState, slot_at, with_extra}
use Rattle.jos_base.specs.Reach.{Entry, allows, reach_entry}
use Rattle.jos_base.specs.SpacesState.{SpacesState}
use Rattle.jos_base.specs.SystemCalls.{is_page_perm, user_bytes, with_bytes_reached}
use Rattle.jos_base.specs.UserMemory.{all_touched, byte_or_fault, reach_in, read_byte}
use Rattle.jos_base.specs.Words.{page_number, page_offset}
use Rattle.jos_base.proofs.Walks.{walked_below}
use Rattle.lib_os.specs.declared.numbers.TheConstants.{SERVICE_WRITE, TRANSFER_MAX}
use Rattle.lib_os.specs.declared.place.Place.{Place}
use Rattle.lib_os.specs.declared.place.Place.TheVariants as place
use Rattle.lib_os.specs.declared.place.Step.TheVariants as step
use Rattle.lib_os.specs.declared.service.Service.{Service}
use Rattle.lib_os.specs.declared.service.Service.TheVariants as service
use Rattle.lib_os.specs.AbstractRun.{abs_step}
use Rattle.lib_os.specs.AbstractState.{AbstractState, Born, at_guest, gathering, guest, with_printed}
use Rattle.lib_os.specs.AbstractState.{Object, terminal}
use Rattle.lib_os.specs.Answers.{answered}
use Rattle.lib_os.specs.Descriptors.{object_of}
use Rattle.lib_os.specs.FileServices.{write_gathering}
use Rattle.lib_os.specs.InOrder.{IsInOrder}
use Rattle.lib_os.specs.LibraryCall.{library_step}
use Rattle.lib_os.specs.LibraryPages.{has_copy}
use Rattle.lib_os.specs.LibrarySteps.{GoesOn}
use Rattle.lib_os.specs.Places.{place_of, words_at}
use Rattle.lib_os.specs.Rows.{Names, rows_of}
use Rattle.lib_os.specs.StandsFor.{StandsFor, StandsForBorn, StandsAt, IsPrinting, IsStatusFor, borne_in, upcall_at, view_of}
use Rattle.lib_os.specs.StandsInHandler.{wanted_of}
use Rattle.lib_os.specs.UserCalls.{CallStep, got, system}
use Rattle.lib_os.proofs.BytesRead.{lasting_reads}
use Rattle.lib_os.proofs.Calls.{cputs_is, cputs_step, cputs_writes}
use Rattle.lib_os.proofs.DescriptorLooks.{seen_calm}
use Rattle.lib_os.proofs.DeviceLooks.{names_console}
use Rattle.lib_os.proofs.EntryWords.{row_entry}
use Rattle.lib_os.proofs.FrameRead.{bytes_read_is}
use Rattle.lib_os.proofs.Logical.{is_making_pipe, is_plain, logical_plain}
use Rattle.lib_os.proofs.Numbered.{named_at}
use Rattle.lib_os.proofs.PipesStand.{calm_places, descriptors_turned, is_calm}
use Rattle.lib_os.proofs.Serving.{IsServed, library_moved, served, step_in, pages_kept}
use Rattle.lib_os.proofs.SlotsStand.{born_at, born_live}
use Rattle.lib_os.proofs.StatesStand.{clients_live, printed_stands, quiet_stands, slot_changed}
use Rattle.lib_os.proofs.Touching.{all_touched_quiet}
use Rattle.lib_os.proofs.WordsTell.{place_at}

-- ---- the step of the abstract system

writes_terminal : (a : AbstractState) (n : ℕ) (b : Born) (regs : Regs) (fd va len : ℕ) (bytes : List ℕ) → object_of a b fd ≡ Some terminal →
    length bytes ≡ wanted_of len →
    library_step a n b regs (service.Write fd va len) (gathering bytes) ≡ Some (answered (with_printed a bytes) n b regs (length bytes))
unfolding library_step
writes_terminal a n b regs fd va len bytes is many =
    let test : nat_lt (length bytes) (wanted_of len) ≡ false = grind (arith, nat_tests) in
    ap (λ (o : Option Object). write_gathering a n b regs (service.Write fd va len) fd va len bytes o) is ∙ rw test refl

-- ---- a page that is read

reached_to_read : (s : SpacesState) (d va : ℕ) (e : Entry) → page_number va < page_limit → s.entries d (page_number va) ≡ Some e →
    allows e.perm Read ≡ true → reach_in s d va Read ≡ Ok (record { frame = e.frame; offset = page_offset va })
reached_to_read s d va e below stands may =
    ap (λ (o : Option Entry). reach_entry o va Read) (walked_below s d (page_number va) below ∙ stands) ∙ rw may refl

-- a byte of a page that an environment has
pub page_byte : (records : ℕ → List ℕ) (s : SpacesState) (d va : ℕ) (row : Entry) → page_number va < page_limit →
    rows_of s d (page_number va) ≡ Some row → is_page_perm row.perm ≡ true →
    read_byte records s d va ≡ Ok (slice_index (s.pages row.frame) (page_offset va))
unfolding read_byte
page_byte records s d va row below is user =
    let raw = row_entry s d (page_number va) row is in
    let reads = lasting_reads raw.0.perm (ap (λ (e : Entry). is_page_perm e.perm) raw.2 ∙ user) in
    let may : allows raw.0.perm Read ≡ true = grind (arith, nat_tests) in
    let test : nat_lt (page_number va) page_limit ≡ true = grind (arith, nat_tests) in
    ap (byte_or_fault records s d va) (reached_to_read s d va raw.0 below raw.1 may)
    ∙ rw test refl
    ∙ ap (λ (e : Entry). Ok (slice_index (s.pages e.frame) (page_offset va))) raw.2

-- ---- what a call of cputs leaves

-- Where it has answered a word, the environment lives on with its registers.
pub record PrintedOn (call : CallStep Called) (n : ℕ) (regs : Regs) : Type 0 where
  pub live : is_live (slot_at call.state n) ≡ true
  pub registers : (slot_at call.state n).registers ≡ regs

pub cputs_goes_on : (s : KernelState) (n va len : ℕ) (rest : List ℕ) → is_live (slot_at s n) ≡ true → len ≤ CPUTS_MAX → (word : ℕ) →
    (system s n SYS_CPUTS (va ∷ len ∷ rest)).gives ≡ got (Answered word) →
    PrintedOn (system s n SYS_CPUTS (va ∷ len ∷ rest)) n (slot_at s n).registers
cputs_goes_on s n va len rest live few word gives =
    subst (λ (call : CallStep Called). PrintedOn call n (slot_at s n).registers) (sym (cputs_is s n live va len rest few))
    (by_read (user_bytes s n va len)
    (subst (λ (call : CallStep Called). call.gives ≡ got (Answered word)) (cputs_is s n live va len rest few) gives))
  where
    by_read : (r : Result (List ℕ) PageFault) → (cputs_step s n va len r).gives ≡ got (Answered word) →
        PrintedOn (cputs_step s n va len r) n (slot_at s n).registers
    by_read (Ok bytes) is = record { live = live; registers = refl }
    by_read (Err fault) is = absurd (let contradiction : got Ended ≡ got (Answered word) = is in cc)

-- ---- write prints its bytes

-- how many they are
wanted_few : (len : ℕ) → wanted_of len ≤ 4096
wanted_few len = min-le_right len TRANSFER_MAX

-- What it comes to: the call prints them, and they are what the abstract step prints.
pub record IsPrinted (s : KernelState) (a : AbstractState) (n len : ℕ) (rest : List ℕ) : Type 0 where
  pub bytes : List ℕ
  pub step_is : system s n SYS_CPUTS (UTEMP ∷ wanted_of len ∷ rest)
      ≡ record { state = with_bytes_reached s n UTEMP (wanted_of len); gives = got (Answered 0); written = bytes }
  pub goes : IsInOrder (with_bytes_reached s n UTEMP (wanted_of len)) →
      GoesOn n (with_extra (with_bytes_reached s n UTEMP (wanted_of len)) n (words_at SERVICE_WRITE step.Releasing)) a bytes
  pub fails : (b : AbstractState) × (abs_step a n ≡ Some b) × (b.console ≡ a.console ++ bytes)

module _ {names : Names} {s : KernelState} {a : AbstractState} (h : StandsFor names s a) (n fd va len : ℕ)
    (stands : place_of (slot_at s n) ≡ place.InService (service.Write fd va len) step.Printing) where
  abbrev d : ℕ
  d = (slot_at s n).directory

  abbrev writing : Service
  writing = service.Write fd va len

  abbrev regs : Regs
  regs = (slot_at s n).registers

  abbrev v : IsServed names s a n (service.Write fd va len) step.Printing
  v = served h n (service.Write fd va len) step.Printing stands

  it : IsPrinting (view_of s.spaces d) (slot_at s n) v.b fd va len
  it = v.at

  few : length it.bytes ≤ 4096
  few = let most = wanted_few len in let many = it.many in omega (arith, most, many)

  -- ---- they are read

  user : is_page_perm it.kept.entry.perm ≡ true
  user =
      (h.users n (page_number UTEMP) it.kept.entry
      (logical_plain s.spaces s.environments.slots n (clients_live h n v.b v.is) (ap is_plain stands) (page_number UTEMP) ∙ it.kept.stands)).page

  each_read : (i : ℕ) → i < length it.bytes →
      read_byte (records_of s.environments) s.spaces d (UTEMP + i) ≡ Ok (slice_index it.bytes i)
  unfolding page_limit
  each_read i lt =
      let all = few in
      let there : page_number (UTEMP + i) ≡ page_number UTEMP = omega (arith, lt, all) in
      let offset : page_offset (UTEMP + i) ≡ i = omega (arith, lt, all) in
      let below : page_number (UTEMP + i) < page_limit = omega (arith, there) in
      page_byte (records_of s.environments) s.spaces d (UTEMP + i) it.kept.entry below (ap (rows_of s.spaces d) there ∙ it.kept.stands) user
      ∙ ap (λ (at : ℕ). Ok (slice_index (s.spaces.pages it.kept.entry.frame) at)) offset
      ∙ ap (λ (byte : ℕ). Ok byte) (it.kept.same i lt)

  all_read : user_bytes s n UTEMP (wanted_of len) ≡ Ok it.bytes
  all_read =
      ap (user_bytes s n UTEMP) (sym it.many)
      ∙ bytes_read_is (read_byte (records_of s.environments) s.spaces d) UTEMP it.bytes (let all = few in omega (arith, all)) each_read

  -- ---- the step of the abstract system

  abbrev printed : AbstractState
  printed = answered (with_printed a it.bytes) n v.b regs (length it.bytes)

  console : object_of a v.b fd ≡ Some terminal
  console = names_console h n v.b v.is (ap borne_in stands) (ap is_making_pipe stands) (seen_calm h n v.b v.is (ap is_calm stands)) fd
      it.given.below it.given.console

  printing_step : abs_step a n ≡ Some printed
  printing_step =
      step_in a n v.b (slot_at s n) writing (gathering it.bytes) v.is it.is_in
      ∙ writes_terminal a n v.b regs fd va len it.bytes console it.many

  -- ---- it stands for that

  module _ (order : IsInOrder (with_bytes_reached s n UTEMP (wanted_of len))) where
    abbrev sp : SpacesState
    sp = all_touched s.spaces d UTEMP (wanted_of len)

    reached : StandsFor names (with_bytes_reached s n UTEMP (wanted_of len)) (with_printed a it.bytes)
    reached = printed_stands (quiet_stands h (all_touched_quiet s.spaces d UTEMP (wanted_of len)) order) it.bytes

    abbrev words : List ℕ
    words = words_at SERVICE_WRITE step.Releasing

    abbrev k : Slot
    k = record (slot_at s n) { extra = words }

    abbrev after : Born
    after = record v.b { program = guest (record regs { eax = length it.bytes }); phase = at_guest; blocked = false }

    there : place_of k ≡ place.InService writing step.Releasing
    there =
        place_at regs SERVICE_WRITE step.Releasing v.outside
        ∙ ap (λ (x : Service). place.InService x step.Releasing) (named_at (slot_at s n) writing step.Printing stands)

    mine : StandsForBorn names sp k after
    mine =
        let own = born_at reached n v.b v.is in
        record {
          id = own.id;
          id_small = own.id_small;
          parent = own.parent;
          env_type = own.env_type;
          runs = subst (λ (blocked : Bool). IsStatusFor (slot_at s n).status blocked) it.is_in.awake own.runs;
          upcall = own.upcall ∙ ap upcall_at stands ∙ sym (ap upcall_at there);
          descriptors = descriptors_turned names sp d (place_of (slot_at s n)) (place_of k) v.b.descriptors (ap is_calm stands) (ap is_calm
              there) own.descriptors;
          memory = own.memory;
          library = library_moved (place_of (slot_at s n)) (place_of k) (slot_at s n).extra words (rows_of sp d)
              (ap has_copy stands ∙ sym (ap has_copy there))
              (ap (λ (p : Place). pages_kept p (slot_at s n).extra) stands ∙ sym (ap (λ (p : Place). pages_kept p words) there)) own.library;
          regions_have = own.regions_have;
          regions_only = own.regions_only;
          stack = own.stack;
          flags = own.flags;
          at = subst (λ (p : Place). StandsAt p (view_of sp d) k after) (sym there) (record {
            program = ap (λ (word : ℕ). guest (record regs { eax = word })) it.many;
            phase = refl;
            silent = it.is_in.silent;
            awake = refl;
          });
        }

    printing_stands : StandsFor names (with_extra (with_bytes_reached s n UTEMP (wanted_of len)) n words) printed
    printing_stands =
        slot_changed reached n v.b v.is k after refl (record { id = refl; env_type = refl; turns = refl; calm = λ runs. runs }) (ap is_plain stands)
        (ap is_plain there) mine (calm_places (ap is_calm stands) (ap is_calm there)) (λ fd. refl)

  pub prints_bytes : (rest : List ℕ) → IsPrinted s a n len rest
  prints_bytes rest = record {
    bytes = it.bytes;
    step_is = cputs_writes s n (born_live v.own) UTEMP (wanted_of len) rest (wanted_few len) it.bytes all_read;
    goes = λ order. (printed, printing_step, refl, (names, printing_stands order));
    fails = (printed, printing_step, refl);
  }
