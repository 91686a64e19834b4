-- How a service finds what its descriptor names: whether the region of descriptors' pages has a table, whether the descriptor is open, and
-- then the word of its page, which tells the console from a file. Where the descriptor is not open the service refuses in the abstract system too.
use Rattle.std.proofs.Common.{◌≡◌, ◌≢◌, ◌∙◌, ◌⊎◌, inl, inr, ◌+◌, ◌<◌, ◌≤◌, ◌%◌, ◌||◌, ℕ, zero, suc, Bool, true, false, Option, Some, None}
use Rattle.std.proofs.Common.{List, [], refl, sym, ap, subst, arith}
use Rattle.std.specs.Prelude.{is_some, slice_index}
use Rattle.std.specs.Option.{option_map}
use Rattle.std.proofs.lemmas.Bool.Decides.{nat_tests}
use Rattle.std.proofs.lemmas.Option.{same_Some, none-some}
use Rattle.jos_base.specs.declared.numbers.TheConstants.{E_INVAL}
use Rattle.jos_base.specs.declared.registers.Regs.{Regs}
use Rattle.jos_base.specs.Environments.{Slot}
use Rattle.jos_base.specs.KernelState.{KernelState, slot_at, with_extra}
use Rattle.jos_base.specs.Reach.{Entry}
use Rattle.jos_base.specs.Words.{negated, page_number, page_offset, word_at}
use Rattle.jos_base.proofs.Options.{some_is}
use Rattle.lib_os.specs.declared.numbers.TheConstants.{DESCRIPTORS, DEVICE_CONSOLE, DEVICE_FILE, DEVICE_PIPE, FD_DEVICE}
use Rattle.lib_os.specs.declared.place.Place.TheVariants as place
use Rattle.lib_os.specs.declared.place.Step.{Step}
use Rattle.lib_os.specs.declared.place.Step.TheVariants as step
use Rattle.lib_os.specs.declared.progress.Progress.TheVariants as progress
use Rattle.lib_os.specs.declared.service.Service.{Service}
use Rattle.lib_os.specs.declared.service.Service.TheVariants as service
use Rattle.lib_os.specs.AbstractState.{AbstractState, Born, Object, OpenFile, born, entered, file, terminal, read_end, write_end}
use Rattle.lib_os.specs.Answers.{answered, refused}
use Rattle.lib_os.specs.AbstractRun.{pipe_of}
use Rattle.lib_os.specs.DescriptorPages.{HasObject, IsEnd, IsOpenFile, Things, device_of, mode_of}
use Rattle.lib_os.specs.Descriptors.{object_name, object_of}
use Rattle.lib_os.specs.FileServices.{is_only_for_reading, write_length}
use Rattle.lib_os.specs.InOrder.{IsInOrder}
use Rattle.lib_os.specs.LibraryCall.{library_step}
use Rattle.lib_os.specs.LibraryPages.{View, keeps_page, keeps_request}
use Rattle.lib_os.specs.LibrarySteps.{GoesOn, KeepsStanding, service_answered}
use Rattle.lib_os.specs.Places.{place_of, words_at}
use Rattle.lib_os.specs.Rows.{EntryRow, HasThing, IsNamed, IsUsers, Names, ShowsBy, descriptor_page, is_pipe_page, is_shared, logical, rows_of}
use Rattle.lib_os.specs.InService.{IsIn}
use Rattle.lib_os.specs.StandsFor.{IsLookingUp, IsReadingDevice, StandsAtDevice, StandsAtStep, StandsFor}
use Rattle.lib_os.specs.StandsFor.{borne_in, descriptor_given, things_in, view_of}
use Rattle.lib_os.specs.StandsInHandler as stands
use Rattle.lib_os.specs.StandsInHandler.{BeginsAt, IsConsoleOpen, IsEndOpen, IsFileOpen, in_file, in_pipe, on_console, wanted_from}
use Rattle.lib_os.specs.UserCalls.{load}
use Rattle.lib_os.proofs.Answering.{back_stands}
use Rattle.lib_os.proofs.BufferLooks.{tells_page}
use Rattle.lib_os.proofs.DescriptorLooks.{descriptor_begins, descriptor_user, descriptor_va, entry_bits, entry_va, is_descriptors}
use Rattle.lib_os.proofs.DescriptorLooks.{no_table_row, none_there, object_is, object_missing, object_past, page_gives, page_told, page_word}
use Rattle.lib_os.proofs.DescriptorLooks.{SeesDescriptors, name_seen, read_answers, read_goes_on, seen_calm}
use Rattle.lib_os.proofs.DescriptorLooks.{table_told, table_va, table_word}
use Rattle.lib_os.proofs.GoingOn.{in_with_words}
use Rattle.lib_os.proofs.Loading.{loaded}
use Rattle.lib_os.proofs.Logical.{is_making_pipe, is_remapped, logical_beside, unborne_unremapped}
use Rattle.lib_os.proofs.Numbered.{number_of}
use Rattle.lib_os.proofs.PageWords.{load_page_word}
use Rattle.lib_os.proofs.Serving.{IsServed, holds_page, printed_nothing, served, step_in, kept_where}
use Rattle.lib_os.proofs.PipesStand.{calm_unmade, is_calm, is_calm_step}
use Rattle.lib_os.proofs.StatesStand.{clients_live, ends_at}
use Rattle.lib_os.proofs.WindowWords.{read_at}

-- ---- the page of a descriptor that is open

-- where the word stands that tells what it names
abbrev pub device_va : ℕ → ℕ
device_va fd = descriptor_va fd + FD_DEVICE

-- what that word is, as far as objects are built
abbrev pub device_for : Object → Option ℕ
device_for terminal = Some DEVICE_CONSOLE
device_for (file f) = Some DEVICE_FILE
device_for (read_end pipe) = Some DEVICE_PIPE
device_for (write_end pipe) = Some DEVICE_PIPE

object_device : (things : Things) (name frame : ℕ) (object : Object) (bytes : List ℕ) → HasObject things name frame object bytes →
    device_for object ≡ Some (device_of bytes)
object_device things name frame terminal bytes is = ap (λ (w : ℕ). Some w) (sym is.device)
object_device things name frame (file f) bytes is = ap (λ (w : ℕ). Some w) (sym is.device)
object_device things name frame (read_end pipe) bytes is = ap (λ (w : ℕ). Some w) (sym is.device)
object_device things name frame (write_end pipe) bytes is = ap (λ (w : ℕ). Some w) (sym is.device)

-- The word tells the object.
is_terminal : (object : Object) → device_for object ≡ Some DEVICE_CONSOLE → object ≡ terminal
is_terminal terminal is = refl
is_terminal (file f) is = absurd (let other = same_Some DEVICE_FILE DEVICE_CONSOLE is in omega (arith, other))
is_terminal (read_end pipe) is = absurd (let other = same_Some DEVICE_PIPE DEVICE_CONSOLE is in omega (arith, other))
is_terminal (write_end pipe) is = absurd (let other = same_Some DEVICE_PIPE DEVICE_CONSOLE is in omega (arith, other))

is_file : (object : Object) → device_for object ≡ Some DEVICE_FILE → (f : OpenFile) × (object ≡ file f)
is_file terminal is = absurd (let other = same_Some DEVICE_CONSOLE DEVICE_FILE is in omega (arith, other))
is_file (file f) is = (f, refl)
is_file (read_end pipe) is = absurd (let other = same_Some DEVICE_PIPE DEVICE_FILE is in omega (arith, other))
is_file (write_end pipe) is = absurd (let other = same_Some DEVICE_PIPE DEVICE_FILE is in omega (arith, other))

-- an end of a pipe, by the mode of its page
abbrev pub end_object : ℕ → ℕ → Object
end_object zero pipe = read_end pipe
end_object (suc n) pipe = write_end pipe

end_pipe : (mode pipe : ℕ) → pipe_of (Some (end_object mode pipe)) ≡ Some pipe
end_pipe zero pipe = refl
end_pipe (suc m) pipe = refl

-- the bytes of a page tell it
pub record IsEndObject (things : Things) (name frame : ℕ) (object : Object) (bytes : List ℕ) : Type 0 where
  pub pipe : ℕ
  pub is : object ≡ end_object (mode_of bytes) pipe
  pub told : IsEnd things name pipe frame (mode_of bytes) bytes

is_end : (things : Things) (name frame : ℕ) (object : Object) (bytes : List ℕ) → HasObject things name frame object bytes →
    device_for object ≡ Some DEVICE_PIPE → IsEndObject things name frame object bytes
is_end things name frame terminal bytes so is = absurd (let other = same_Some DEVICE_CONSOLE DEVICE_PIPE is in omega (arith, other))
is_end things name frame (file f) bytes so is = absurd (let other = same_Some DEVICE_FILE DEVICE_PIPE is in omega (arith, other))
is_end things name frame (read_end pipe) bytes so is = record {
  pipe = pipe;
  is = ap (λ (mode : ℕ). end_object mode pipe) (sym so.mode_is);
  told = subst (λ (mode : ℕ). IsEnd things name pipe frame mode bytes) (sym so.mode_is) so;
}
is_end things name frame (write_end pipe) bytes so is = record {
  pipe = pipe;
  is = ap (λ (mode : ℕ). end_object mode pipe) (sym so.mode_is);
  told = subst (λ (mode : ℕ). IsEnd things name pipe frame mode bytes) (sym so.mode_is) so;
}

is_either : (object : Object) (word : ℕ) → device_for object ≡ Some word → (word ≡ DEVICE_CONSOLE) ⊎ (word ≡ DEVICE_FILE) ⊎ (word ≡ DEVICE_PIPE)
is_either terminal word is = inl (sym (same_Some DEVICE_CONSOLE word is))
is_either (file f) word is = inr (inl (sym (same_Some DEVICE_FILE word is)))
is_either (read_end pipe) word is = inr (inr (sym (same_Some DEVICE_PIPE word is)))
is_either (write_end pipe) word is = inr (inr (sym (same_Some DEVICE_PIPE word is)))

-- A descriptor, whose page has this entry, names a file, of which that page tells.
pub record NamesFile (s : KernelState) (a : AbstractState) (b : Born) (fd : ℕ) (x : Entry) : Type 0 where
  pub name : ℕ
  pub f : OpenFile
  pub named : object_name b fd ≡ Some name
  pub is : a.objects name ≡ file f
  pub told : IsOpenFile (things_in s a) name x.frame f (s.spaces.pages x.frame)

-- It names an end of a pipe, and beside it stands the page of that pipe.
pub record NamesEnd (names : Names) (s : KernelState) (a : AbstractState) (b : Born) (fd mode : ℕ) (x page : Entry) : Type 0 where
  pub name : ℕ
  pub pipe : ℕ
  pub named : object_name b fd ≡ Some name
  pub is : a.objects name ≡ end_object mode pipe
  pub told : IsEnd (things_in s a) name pipe x.frame mode (s.spaces.pages x.frame)
  pub page_is : names.name page.frame ≡ pipe

module _ {names : Names} {s : KernelState} {a : AbstractState} (h : StandsFor names s a) (n : ℕ) (b : Born) (at : a.slots n ≡ born b)
    (fd : ℕ) (below : fd < DESCRIPTORS) where
  abbrev own_row : EntryRow
  own_row = rows_of s.spaces (slot_at s n).directory

  module _ (x : Entry) (is : own_row (descriptor_page fd) ≡ Some x) where
    shared_page : is_shared x.perm ≡ true
    shared_page = ap is_shared (entry_bits h n b at fd x below is)

    user : IsUsers x.perm
    user = subst (λ (perm : ℕ). IsUsers perm) (sym (entry_bits h n b at fd x below is)) descriptor_user

    -- a word of its page, at a place
    pub word_beside : (o : ℕ) → o % 4 ≡ 0 → o < 4096 →
        load s n (descriptor_va fd + o) ≡ read_at s n (descriptor_va fd + o) (word_at (slice_index (s.spaces.pages x.frame)) o)
    word_beside o aligned inside =
        let number : page_number (descriptor_va fd + o) ≡ descriptor_page fd = omega (arith, below, inside) in
        let offset : page_offset (descriptor_va fd + o) ≡ o = omega (arith, inside) in
        load_page_word s n (descriptor_va fd + o) x (omega (arith, aligned)) (ap own_row number ∙ is) user.page h.in_order.frames
        ∙ ap (λ (at : ℕ). read_at s n (descriptor_va fd + o) (stands.page_word (s.spaces.pages x.frame) at)) offset

    -- Where the page counts as it stands, it shows the object that its frame names.
    module _ (apart : is_remapped (place_of (slot_at s n)) (descriptor_page fd) ≡ false) where
      counts : logical s.spaces s.environments.slots n (descriptor_page fd) ≡ Some x
      counts =
          logical_beside s.spaces s.environments.slots n (clients_live h n b at) (descriptor_page fd)
          (λ same. absurd (omega (arith, same, below))) apart
          ∙ is

      named_so : IsNamed names s.spaces.pages a.shared (things_in s a) a.next_name (descriptor_page fd) x.frame
      named_so = h.named n (descriptor_page fd) x counts shared_page

      pub shows_beside : HasObject (things_in s a) (names.name x.frame) x.frame (a.objects (names.name x.frame)) (s.spaces.pages x.frame)
      shows_beside =
          let no_pipe : is_pipe_page (descriptor_page fd) ≡ false = grind (arith, nat_tests) in
          subst (λ (c : Bool). HasThing (things_in s a) (names.name x.frame) x.frame c (s.spaces.pages x.frame)) (named_so.of_pipe ∙ no_pipe)
          (subst
          (λ (c : Bool). ShowsBy (things_in s a) (names.name x.frame) x.frame c (names.is_pipe (names.name x.frame)) (a.shared (names.name x.frame))
          (s.spaces.pages x.frame))
          (named_so.kind ∙ is_descriptors fd below) named_so.shows)

      -- whose word stands there
      told_beside : device_for (a.objects (names.name x.frame)) ≡ Some (device_of (s.spaces.pages x.frame))
      told_beside = object_device (things_in s a) (names.name x.frame) x.frame (a.objects (names.name x.frame)) (s.spaces.pages x.frame) shows_beside

  -- By its word it is a file.
  pub names_file_beside : SeesDescriptors names s n b → is_remapped (place_of (slot_at s n)) (descriptor_page fd) ≡ false →
      (open_as : IsFileOpen (view_of s.spaces (slot_at s n).directory) fd) → NamesFile s a b fd open_as.entry
  names_file_beside seen apart open_as =
      let x = open_as.entry in
      let found = is_file (a.objects (names.name x.frame)) (told_beside x open_as.stands apart ∙ ap (λ (w : ℕ). Some w) open_as.device) in
      record {
        name = names.name x.frame;
        f = found.0;
        named = object_is h n b at seen fd x below open_as.stands;
        is = found.1;
        told = subst (λ (o : Object). HasObject (things_in s a) (names.name x.frame) x.frame o (s.spaces.pages x.frame)) found.1
            (shows_beside x open_as.stands apart);
      }

-- Outside of spawn each counts so, unless a pipe is made.
module _ {names : Names} {s : KernelState} {a : AbstractState} (h : StandsFor names s a) (n : ℕ) (b : Born) (at : a.slots n ≡ born b)
    (unborne : borne_in (place_of (slot_at s n)) ≡ None) (unmade : is_making_pipe (place_of (slot_at s n)) ≡ false) (seen : SeesDescriptors names s n b)
    (fd : ℕ) (below : fd < DESCRIPTORS) where
  abbrev row : EntryRow
  row = rows_of s.spaces (slot_at s n).directory

  apart_so : is_remapped (place_of (slot_at s n)) (descriptor_page fd) ≡ false
  apart_so = unborne_unremapped (place_of (slot_at s n)) (descriptor_page fd) unborne unmade

  module _ (x : Entry) (is : row (descriptor_page fd) ≡ Some x) where
    pub shows : HasObject (things_in s a) (names.name x.frame) x.frame (a.objects (names.name x.frame)) (s.spaces.pages x.frame)
    shows = shows_beside h n b at fd below x is apart_so

    -- it names the object of its frame
    object_seen : object_of a b fd ≡ Some (a.objects (names.name x.frame))
    object_seen = ap (option_map a.objects) (object_is h n b at seen fd x below is)

    -- whose word stands there
    object_told : device_for (a.objects (names.name x.frame)) ≡ Some (device_of (s.spaces.pages x.frame))
    object_told = told_beside h n b at fd below x is apart_so

    word_given : load s n (device_va fd) ≡ read_at s n (device_va fd) (device_of (s.spaces.pages x.frame))
    word_given =
        let begins = descriptor_begins fd below in
        let none : device_va fd ≡ descriptor_va fd = omega arith in
        let number : page_number (device_va fd) ≡ descriptor_page fd = ap page_number none ∙ begins.1 in
        let offset : page_offset (device_va fd) ≡ 0 = omega arith in
        load_page_word s n (device_va fd) x (omega arith) (ap row number ∙ is) (user h n b at fd below x is).page h.in_order.frames
        ∙ ap (λ (o : ℕ). read_at s n (device_va fd) (stands.page_word (s.spaces.pages x.frame) o)) offset

  -- a word of the page of a descriptor that is open, at a place
  pub word_there : (x : Entry) → row (descriptor_page fd) ≡ Some x → (o : ℕ) → o % 4 ≡ 0 → o < 4096 →
      load s n (descriptor_va fd + o) ≡ read_at s n (descriptor_va fd + o) (word_at (slice_index (s.spaces.pages x.frame)) o)
  word_there x is o aligned inside = word_beside h n b at fd below x is o aligned inside

  -- By its word it is a file,
  pub names_file : (open_as : IsFileOpen (view_of s.spaces (slot_at s n).directory) fd) → NamesFile s a b fd open_as.entry
  names_file open_as = names_file_beside h n b at fd below seen apart_so open_as

  -- or the console.
  pub names_console : IsConsoleOpen (view_of s.spaces (slot_at s n).directory) fd → object_of a b fd ≡ Some terminal
  names_console console =
      object_seen console.entry console.stands
      ∙ ap (λ (o : Object). Some o)
      (is_terminal (a.objects (names.name console.entry.frame))
      (object_told console.entry console.stands ∙ ap (λ (w : ℕ). Some w) console.device))

  -- Or an end of a pipe.
  pub names_end : (mode : ℕ) (open_end : IsEndOpen (view_of s.spaces (slot_at s n).directory) fd mode) →
      NamesEnd names s a b fd mode open_end.entry open_end.page
  names_end mode open_end =
      let x = open_end.entry in
      let found = is_end (things_in s a) (names.name x.frame) x.frame (a.objects (names.name x.frame)) (s.spaces.pages x.frame) (shows x open_end.stands)
      (object_told x open_end.stands ∙ ap (λ (w : ℕ). Some w) open_end.device) in
      let is : a.objects (names.name x.frame) ≡ end_object mode found.pipe = found.is ∙ ap (λ (m : ℕ). end_object m found.pipe) open_end.mode_is in
      let beside = (ends_at h n b at).have fd (names.name x.frame) found.pipe below (name_seen h n b at seen fd x below open_end.stands)
      (ap (λ (o : Object). pipe_of (Some o)) is ∙ end_pipe mode found.pipe) in
      record {
        name = names.name x.frame;
        pipe = found.pipe;
        named = object_is h n b at seen fd x below open_end.stands;
        is = is;
        told = subst (λ (m : ℕ). IsEnd (things_in s a) (names.name x.frame) found.pipe x.frame m (s.spaces.pages x.frame)) open_end.mode_is found.told;
        page_is = ap (λ (e : Entry). names.name e.frame) (same_Some open_end.page beside.0 (sym open_end.lies ∙ beside.1)) ∙ beside.2;
      }

-- ---- what write may write to

-- What may be written, and how many bytes are taken of the buffer for it.
pub record IsWritten (a : AbstractState) (b : Born) (fd len start : ℕ) : Type 0 where
  pub object : Object
  pub is : object_of a b fd ≡ Some object
  pub not_reading : is_only_for_reading object ≡ false
  pub long : write_length object len ≡ wanted_from start len

-- write's descriptor names such an object
pub begins_written : {names : Names} {s : KernelState} {a : AbstractState} → StandsFor names s a → (n : ℕ) (b : Born) → a.slots n ≡ born b →
    borne_in (place_of (slot_at s n)) ≡ None → is_making_pipe (place_of (slot_at s n)) ≡ false → SeesDescriptors names s n b →
    (fd len start : ℕ) → fd < DESCRIPTORS → BeginsAt (view_of s.spaces (slot_at s n).directory) fd start → IsWritten a b fd len start
begins_written h n b at unborne unmade seen fd len start below (on_console is console) = record {
  object = terminal;
  is = names_console h n b at unborne unmade seen fd below console;
  not_reading = refl;
  long = ap (λ (q : ℕ). wanted_from q len) (sym is);
}
begins_written {a = a} h n b at unborne unmade seen fd len start below (in_file is it) =
    let named = names_file h n b at unborne unmade seen fd below it.file in
    let mode : named.f.mode ≢ 0 = λ none. it.writable (named.told.mode ∙ none) in
    record {
      object = file named.f;
      is = ap (option_map a.objects) named.named ∙ ap (λ (o : Object). Some o) named.is;
      not_reading = grind (arith, nat_tests, mode);
      long = ap (λ (q : ℕ). wanted_from q len) (sym is);
    }
begins_written {a = a} h n b at unborne unmade seen fd len start below (in_pipe is open_end) =
    let named = names_end h n b at unborne unmade seen fd below 1 open_end in record {
      object = write_end named.pipe;
      is = ap (option_map a.objects) named.named ∙ ap (λ (o : Object). Some o) named.is;
      not_reading = refl;
      long = ap (λ (q : ℕ). wanted_from q len) (sym is);
    }

-- ---- the services that want to know what a descriptor names

neither_of : (t u : Bool) → t || u ≡ false → t ≡ false
neither_of false u is = refl
neither_of true u is = absurd (let contradiction : true ≡ false = is in cc)

or_neither : (t u : Bool) → t || u ≡ false → u ≡ false
or_neither false u is = is
or_neither true u is = absurd (let contradiction : true ≡ false = is in cc)

-- none of them keeps a page before it knows it
pub holds_none : (s : Service) (fd : ℕ) → descriptor_given s ≡ Some fd → (at : Step) → keeps_page at || keeps_request at ≡ false →
    holds_page (place.InService s at) ≡ kept_where false
holds_none (service.Write given va len) fd is at none = ap kept_where (neither_of (keeps_page at) (keeps_request at) none)
holds_none (service.Seek given offset) fd is at none = ap kept_where (or_neither (keeps_page at) (keeps_request at) none)
holds_none (service.SetSize given size) fd is at none = ap kept_where (or_neither (keeps_page at) (keeps_request at) none)
holds_none (service.Read given va len) fd is at none = ap kept_where (or_neither (keeps_page at) (keeps_request at) none)
holds_none (service.Stat given va) fd is at none = ap kept_where (or_neither (keeps_page at) (keeps_request at) none)
holds_none (service.Remove path) fd is at none = absurd (none-some fd is)
holds_none (service.Spawn path argv) fd is at none = absurd (none-some fd is)
holds_none (service.OpenFile path mode) fd is at none = absurd (none-some fd is)
holds_none _ fd is at none = refl

-- none bears a child
pub given_unborne : (s : Service) (fd : ℕ) → descriptor_given s ≡ Some fd → (at : Step) → borne_in (place.InService s at) ≡ None
given_unborne service.Fork fd given at = absurd (none-some fd given)
given_unborne (service.Spawn path argv) fd given at = absurd (none-some fd given)
given_unborne _ fd given at = refl

-- each looks its descriptor up
module _ (v : View) (k : Slot) (b : Born) (at fd : ℕ) where
  looks_up : (s : Service) → descriptor_given s ≡ Some fd → IsLookingUp v k b s at fd → StandsAtStep v k b s (step.DescriptorEntry at)
  looks_up (service.Read other va len) given h =
      subst (λ (f : ℕ). IsLookingUp v k b (service.Read other va len) at f) (sym (same_Some other fd given)) h
  looks_up (service.Write other va len) given h =
      subst (λ (f : ℕ). IsLookingUp v k b (service.Write other va len) at f) (sym (same_Some other fd given)) h
  looks_up (service.Seek other offset) given h =
      subst (λ (f : ℕ). IsLookingUp v k b (service.Seek other offset) at f) (sym (same_Some other fd given)) h
  looks_up (service.Stat other va) given h =
      subst (λ (f : ℕ). IsLookingUp v k b (service.Stat other va) at f) (sym (same_Some other fd given)) h
  looks_up (service.SetSize other size) given h =
      subst (λ (f : ℕ). IsLookingUp v k b (service.SetSize other size) at f) (sym (same_Some other fd given)) h
  looks_up _ given h = absurd (none-some fd given)

  looked_up : (s : Service) → descriptor_given s ≡ Some fd → StandsAtStep v k b s (step.DescriptorEntry at) → IsLookingUp v k b s at fd
  looked_up (service.Read other va len) given h =
      subst (λ (f : ℕ). IsLookingUp v k b (service.Read other va len) at f) (same_Some other fd given) h
  looked_up (service.Write other va len) given h =
      subst (λ (f : ℕ). IsLookingUp v k b (service.Write other va len) at f) (same_Some other fd given) h
  looked_up (service.Seek other offset) given h =
      subst (λ (f : ℕ). IsLookingUp v k b (service.Seek other offset) at f) (same_Some other fd given) h
  looked_up (service.Stat other va) given h =
      subst (λ (f : ℕ). IsLookingUp v k b (service.Stat other va) at f) (same_Some other fd given) h
  looked_up (service.SetSize other size) given h =
      subst (λ (f : ℕ). IsLookingUp v k b (service.SetSize other size) at f) (same_Some other fd given) h
  looked_up _ given h = absurd (none-some fd given)

nothing_named : (a : AbstractState) (b : Born) (other fd : ℕ) → Some other ≡ Some fd → object_name b fd ≡ None → object_of a b other ≡ None
nothing_named a b other fd same none = ap (λ (f : ℕ). object_of a b f) (same_Some other fd same) ∙ ap (option_map a.objects) none

-- Where it is not open they refuse.
pub no_object_refuses : (a : AbstractState) (n : ℕ) (b : Born) (regs : Regs) (s : Service) (fd : ℕ) → descriptor_given s ≡ Some fd →
    object_name b fd ≡ None → library_step a n b regs s entered ≡ Some (refused a n b regs E_INVAL)
unfolding library_step
no_object_refuses a n b regs (service.Read other va len) fd given none =
    let nothing = nothing_named a b other fd given none in rw nothing refl
no_object_refuses a n b regs (service.Write other va len) fd given none =
    let nothing = nothing_named a b other fd given none in rw nothing refl
no_object_refuses a n b regs (service.Seek other offset) fd given none =
    let nothing = nothing_named a b other fd given none in rw nothing refl
no_object_refuses a n b regs (service.Stat other va) fd given none =
    let nothing = nothing_named a b other fd given none in rw nothing refl
no_object_refuses a n b regs (service.SetSize other size) fd given none =
    let nothing = nothing_named a b other fd given none in rw nothing refl
no_object_refuses a n b regs _ fd given none = absurd (none-some fd given)

-- ---- behind a load a service answers what the abstract system answers

pub look_answers : {names : Names} {s : KernelState} {a : AbstractState} → StandsFor names s a → (n : ℕ) (service : Service) (from : Step) →
    (v : IsServed names s a n service from) → borne_in (place.InService service from) ≡ None → is_calm_step from ≡ true →
    holds_page (place.InService service from) ≡ kept_where false → (va : ℕ) → IsInOrder (loaded s n va) → IsIn (slot_at s n) v.b service entered → (word : ℕ) →
    library_step a n v.b (slot_at s n).registers service entered ≡ Some (answered a n v.b (slot_at s n).registers word) →
    GoesOn n (service_answered (loaded s n va) n word) a []
look_answers {names = names} {s = s} {a = a} h n service from v unborne calm none va order is_in word is = (
  answered a n v.b (slot_at s n).registers word,
  step_in a n v.b (slot_at s n) service entered v.is is_in ∙ is,
  printed_nothing a,
  (names, read_answers h n service from v unborne calm va order none is_in word),
)

-- ---- its steps

-- the word of the page of a descriptor
abbrev device_at : (ℕ → List ℕ) → Option Entry → ℕ
device_at pages (Some x) = device_of (pages x.frame)
device_at pages None = 0

abbrev pub device_word : KernelState → ℕ → ℕ → ℕ
device_word s n fd = device_at s.spaces.pages (rows_of s.spaces (slot_at s n).directory (descriptor_page fd))

module _ (s : KernelState) (n : ℕ) (service : Service) (fd : ℕ) (given : descriptor_given service ≡ Some fd) where
  abbrev space : View
  space = view_of s.spaces (slot_at s n).directory

  unborne_at : (at : Step) → borne_in (place.InService service at) ≡ None
  unborne_at at = given_unborne service fd given at

  -- ---- a number that is none of a descriptor, and whether the region has a table

  module _ (stands : place_of (slot_at s n) ≡ place.InService service step.Entered) where
    pub past_keeps : DESCRIPTORS ≤ fd → KeepsStanding progress.Finished n s (service_answered s n (negated E_INVAL)) []
    past_keeps above a h turn quiet =
        let v = served h.1 n service step.Entered stands in
        let here : IsIn (slot_at s n) v.b service entered = v.at in
        let regs = (slot_at s n).registers in (
          refused a n v.b regs E_INVAL,
          step_in a n v.b (slot_at s n) service entered v.is here
              ∙ no_object_refuses a n v.b regs service fd given (object_past h.1 n v.b v.is fd above),
          printed_nothing a,
          (
            h.0,
            back_stands h.1 n v.b v.is (record regs { eax = negated E_INVAL }) (ap borne_in v.place ∙ unborne_at step.Entered)
                (ap holds_page v.place ∙ holds_none service fd given step.Entered refl) (ap is_calm v.place) here.silent here.awake v.outside refl refl,
          ),
        )

    module _ (below : fd < DESCRIPTORS) {names : Names} {a : AbstractState} (h : StandsFor names s a) (order : IsInOrder (loaded s n table_va)) where
      abbrev at_entry : IsServed names s a n service step.Entered
      at_entry = served h n service step.Entered stands

      pub table_missing : tells_page (table_word s n) ≡ false → GoesOn n (service_answered (loaded s n table_va) n (negated E_INVAL)) a []
      table_missing told =
          let none = sym (table_told s n) ∙ told in
          look_answers h n service step.Entered at_entry (unborne_at step.Entered) refl (holds_none service fd given step.Entered refl) table_va order
          at_entry.at
          (negated E_INVAL)
          (no_object_refuses a n at_entry.b (slot_at s n).registers service fd given
          (object_missing h n at_entry.b at_entry.is (seen_calm h n at_entry.b at_entry.is (ap is_calm stands)) fd
          (no_table_row h n at_entry.b at_entry.is none fd below)))

      pub table_found : tells_page (table_word s n) ≡ true →
          StandsFor names (with_extra (loaded s n table_va) n (words_at (number_of service) (step.DescriptorEntry fd))) a
      table_found told =
          read_goes_on h n service step.Entered at_entry (unborne_at step.Entered) refl table_va order (step.DescriptorEntry fd)
          (unborne_at (step.DescriptorEntry fd)) refl
          (holds_none service fd given step.Entered refl ∙ sym (holds_none service fd given (step.DescriptorEntry fd) refl))
          (looks_up space (record (slot_at s n) { extra = words_at (number_of service) (step.DescriptorEntry fd) }) at_entry.b fd fd service given
          (record {
            is_in = in_with_words (words_at (number_of service) (step.DescriptorEntry fd)) at_entry.at;
            same = refl;
            below = below;
            table = sym (table_told s n) ∙ told;
          }))

  -- ---- whether the descriptor is open

  module _ (at : ℕ) (stands : place_of (slot_at s n) ≡ place.InService service (step.DescriptorEntry at)) {names : Names} {a : AbstractState}
      (h : StandsFor names s a) where
    abbrev at_page : IsServed names s a n service (step.DescriptorEntry at)
    at_page = served h n service (step.DescriptorEntry at) stands

    looking : IsLookingUp space (slot_at s n) at_page.b service at fd
    looking = looked_up space (slot_at s n) at_page.b at fd service given at_page.at

    pub entry_gives : load s n (entry_va fd) ≡ read_at s n (entry_va fd) (page_word s n fd)
    entry_gives = page_gives h n fd looking.below looking.table

    module _ (order : IsInOrder (loaded s n (entry_va fd))) where
      told_open : tells_page (page_word s n fd) ≡ is_some (space.row (descriptor_page fd))
      told_open = page_told h n at_page.b at_page.is fd looking.below

      pub entry_missing : tells_page (page_word s n fd) ≡ false → GoesOn n (service_answered (loaded s n (entry_va fd)) n (negated E_INVAL)) a []
      entry_missing told =
          look_answers h n service (step.DescriptorEntry at) at_page (unborne_at (step.DescriptorEntry at)) refl
          (holds_none service fd given (step.DescriptorEntry at) refl) (entry_va fd) order looking.is_in (negated E_INVAL)
          (no_object_refuses a n at_page.b (slot_at s n).registers service fd given
          (object_missing h n at_page.b at_page.is (seen_calm h n at_page.b at_page.is (ap is_calm stands)) fd
          (none_there (space.row (descriptor_page fd)) (sym told_open ∙ told))))

      pub entry_found : tells_page (page_word s n fd) ≡ true →
          StandsFor names (with_extra (loaded s n (entry_va fd)) n (words_at (number_of service) step.ReadingDevice)) a
      entry_found told =
          read_goes_on h n service (step.DescriptorEntry at) at_page (unborne_at (step.DescriptorEntry at)) refl (entry_va fd) order step.ReadingDevice
          (unborne_at step.ReadingDevice) refl
          (holds_none service fd given (step.DescriptorEntry at) refl ∙ sym (holds_none service fd given step.ReadingDevice refl))
          (subst
          (λ (o : Option ℕ). StandsAtDevice space (record (slot_at s n) { extra = words_at (number_of service) step.ReadingDevice }) at_page.b service o)
          (sym given) (record {
            is_in = in_with_words (words_at (number_of service) step.ReadingDevice) looking.is_in;
            below = looking.below;
            stands = sym told_open ∙ told;
          }))

  -- ---- what it names

  module _ (stands : place_of (slot_at s n) ≡ place.InService service step.ReadingDevice) {names : Names} {a : AbstractState}
      (h : StandsFor names s a) where
    abbrev pub at_device : IsServed names s a n service step.ReadingDevice
    at_device = served h n service step.ReadingDevice stands

    pub reading_device : IsReadingDevice space (slot_at s n) at_device.b service fd
    reading_device = subst (λ (o : Option ℕ). StandsAtDevice space (slot_at s n) at_device.b service o) given at_device.at

    open_entry : (x : Entry) × (space.row (descriptor_page fd) ≡ Some x)
    open_entry = some_is (space.row (descriptor_page fd)) reading_device.stands

    seen_here : SeesDescriptors names s n at_device.b
    seen_here = seen_calm h n at_device.b at_device.is (ap is_calm stands)

    word_is : device_word s n fd ≡ device_of (s.spaces.pages open_entry.0.frame)
    word_is = ap (device_at s.spaces.pages) open_entry.1

    pub device_gives : load s n (device_va fd) ≡ read_at s n (device_va fd) (device_word s n fd)
    device_gives =
        word_given h n at_device.b at_device.is (ap borne_in stands ∙ unborne_at step.ReadingDevice)
        (ap is_making_pipe stands ∙ calm_unmade (place.InService service step.ReadingDevice) refl)
        seen_here fd reading_device.below open_entry.0 open_entry.1
        ∙ ap (read_at s n (device_va fd)) (sym word_is)

    abbrev object : Object
    object = a.objects (names.name open_entry.0.frame)

    object_is_it : object_of a at_device.b fd ≡ Some object
    object_is_it =
        object_seen h n at_device.b at_device.is (ap borne_in stands ∙ unborne_at step.ReadingDevice)
        (ap is_making_pipe stands ∙ calm_unmade (place.InService service step.ReadingDevice) refl)
        seen_here fd reading_device.below open_entry.0 open_entry.1

    -- the word is that of the object
    told : device_for object ≡ Some (device_word s n fd)
    told =
        object_told h n at_device.b at_device.is (ap borne_in stands ∙ unborne_at step.ReadingDevice)
        (ap is_making_pipe stands ∙ calm_unmade (place.InService service step.ReadingDevice) refl)
        seen_here fd reading_device.below open_entry.0 open_entry.1
        ∙ ap (λ (w : ℕ). Some w) (sym word_is)

    pub device_either : (device_word s n fd ≡ DEVICE_CONSOLE) ⊎ (device_word s n fd ≡ DEVICE_FILE) ⊎ (device_word s n fd ≡ DEVICE_PIPE)
    device_either = is_either object (device_word s n fd) told

    -- By its word it is the console, or a file,
    pub device_object : device_word s n fd ≡ DEVICE_CONSOLE → object_of a at_device.b fd ≡ Some terminal
    device_object word = object_is_it ∙ ap (λ (o : Object). Some o) (is_terminal object (told ∙ ap (λ (w : ℕ). Some w) word))

    pub device_console : device_word s n fd ≡ DEVICE_CONSOLE → IsConsoleOpen space fd
    device_console word = record { entry = open_entry.0; stands = open_entry.1; device = sym word_is ∙ word }

    pub device_is_file : device_word s n fd ≡ DEVICE_FILE → IsFileOpen space fd
    device_is_file word = record { entry = open_entry.0; stands = open_entry.1; device = sym word_is ∙ word }

    pub device_file : device_word s n fd ≡ DEVICE_FILE → (f : OpenFile) × (object_of a at_device.b fd ≡ Some (file f))
    device_file word =
        let found = is_file object (told ∙ ap (λ (w : ℕ). Some w) word) in (found.0, object_is_it ∙ ap (λ (o : Object). Some o) found.1)

    -- or an end of a pipe,
    pub device_end : device_word s n fd ≡ DEVICE_PIPE → (mode : ℕ) × IsEndOpen space fd mode
    device_end word =
        let x = open_entry.0 in
        let so = shows h n at_device.b at_device.is (ap borne_in stands ∙ unborne_at step.ReadingDevice)
        (ap is_making_pipe stands ∙ calm_unmade (place.InService service step.ReadingDevice) refl) seen_here fd reading_device.below x open_entry.1 in
        let found = is_end (things_in s a) (names.name x.frame) x.frame object (s.spaces.pages x.frame) so (told ∙ ap (λ (w : ℕ). Some w) word) in
        let beside = (ends_at h n at_device.b at_device.is).have fd (names.name x.frame) found.pipe reading_device.below
        (name_seen h n at_device.b at_device.is seen_here fd x reading_device.below open_entry.1)
        (ap (λ (o : Object). pipe_of (Some o)) found.is ∙ end_pipe (mode_of (s.spaces.pages x.frame)) found.pipe) in (
          mode_of (s.spaces.pages x.frame),
          record {
            entry = x;
            stands = open_entry.1;
            device = sym word_is ∙ word;
            mode_is = refl;
            page = beside.0;
            lies = beside.1;
          },
        )

    -- and what it is has its word.
    pub word_of_object : (o : Object) → object_of a at_device.b fd ≡ Some o → device_for o ≡ Some (device_word s n fd)
    word_of_object o is = ap device_for (same_Some o object (sym is ∙ object_is_it)) ∙ told

    -- Behind it the service may answer what the abstract system answers of what it names.
    pub device_answers : IsInOrder (loaded s n (device_va fd)) → (word : ℕ) →
        library_step a n at_device.b (slot_at s n).registers service entered ≡ Some (answered a n at_device.b (slot_at s n).registers word) →
        GoesOn n (service_answered (loaded s n (device_va fd)) n word) a []
    device_answers order word is =
        look_answers h n service step.ReadingDevice at_device (unborne_at step.ReadingDevice) refl (holds_none service fd given step.ReadingDevice refl)
        (device_va fd) order reading_device.is_in word is

    -- or go on
    pub device_goes_on : IsInOrder (loaded s n (device_va fd)) → (to : Step) → is_calm_step to ≡ true → keeps_page to || keeps_request to ≡ false →
        StandsAtStep space (record (slot_at s n) { extra = words_at (number_of service) to }) at_device.b service to →
        StandsFor names (with_extra (loaded s n (device_va fd)) n (words_at (number_of service) to)) a
    device_goes_on order to calm plain so =
        read_goes_on h n service step.ReadingDevice at_device (unborne_at step.ReadingDevice) refl (device_va fd) order to (unborne_at to) calm
        (holds_none service fd given step.ReadingDevice refl ∙ sym (holds_none service fd given to plain)) so
