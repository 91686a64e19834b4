-- What read, write and stat load of the page of a pipe while they hold its lock: the positions and a byte. Nothing that is seen changes by a load; the
-- page stays as it is as long as the lock is held, so that what is read there is so at the next step.
-- (MIT 6.828, lab 5: lib/pipe.c.)
use Rattle.std.proofs.Common.{◌≡◌, ◌∙◌, ◌+◌, ◌*◌, ◌%◌, ◌<◌, ℕ, Bool, true, false, List, [], Option, Some, None, refl, sym, ap, subst, arith}
use Rattle.std.proofs.Common.{if◌then◌else◌}
use Rattle.std.specs.Prelude.{slice_index}
use Rattle.std.proofs.lemmas.Bool.Decides.{nat_tests}
use Rattle.std.proofs.lemmas.Option.{none-some}
use Rattle.jos_base.specs.declared.memory.Access.TheVariants.{Read}
use Rattle.jos_base.specs.declared.numbers.TheConstants.{FDTABLE, PGSIZE}
use Rattle.jos_base.specs.Environments.{Slot}
use Rattle.jos_base.specs.KernelState.{KernelState, slot_at, with_extra}
use Rattle.jos_base.specs.Reach.{Entry}
use Rattle.jos_base.specs.SystemCalls.{is_page_perm}
use Rattle.jos_base.specs.Words.{page_number, page_offset, word_at}
use Rattle.lib_os.specs.declared.numbers.TheConstants.{DESCRIPTORS, PIPEBUFSIZ, PIPE_BYTES, PIPE_READ, PIPE_WRITE}
use Rattle.lib_os.specs.declared.place.PipeStep.{PipeStep}
use Rattle.lib_os.specs.declared.place.Place.{Place}
use Rattle.lib_os.specs.declared.place.Place.TheVariants as place
use Rattle.lib_os.specs.declared.place.Step.{Step}
use Rattle.lib_os.specs.declared.place.Step.TheVariants as step
use Rattle.lib_os.specs.declared.service.Service.{Service}
use Rattle.lib_os.specs.declared.service.Service.TheVariants as service
use Rattle.lib_os.specs.AbstractState.{AbstractState, Born, Stage, born, in_service}
use Rattle.lib_os.specs.Answers.{at_stage}
use Rattle.lib_os.specs.DescriptorPages.{HasPipe, pipe_byte, read_of, written_of}
use Rattle.lib_os.specs.InOrder.{IsInOrder}
use Rattle.lib_os.specs.LibraryPages.{View, keeps_moved}
use Rattle.lib_os.specs.PipeEnds.{holds_lock, is_dropped, is_given, is_made, is_on_its_way}
use Rattle.lib_os.specs.Places.{is_handlers, place_of, words_at}
use Rattle.lib_os.specs.Rows.{HasThing, IsNamed, IsPage, IsUsers, Names, ShowsBy, descriptor_perm, is_of_descriptor, is_pipe_page}
use Rattle.lib_os.specs.Rows.{is_shared, logical, pipe_page, rows_of}
use Rattle.lib_os.specs.Services.{service_of}
use Rattle.lib_os.specs.StandsAtPipe.{end_given}
use Rattle.lib_os.specs.StandsFor.{StandsAt, StandsAtStep, StandsFor, borne_in, descriptor_given, things_in, view_of}
use Rattle.lib_os.specs.UserCalls.{load, load_byte}
use Rattle.lib_os.proofs.BufferAccesses.{frame_whole}
use Rattle.lib_os.proofs.DescriptorLooks.{SeesDescriptors, descriptor_user, loaded_view, seen_unmade}
use Rattle.lib_os.proofs.DeviceLooks.{given_unborne}
use Rattle.lib_os.proofs.FileLoaded.{load_page_byte}
use Rattle.lib_os.proofs.GoingOn.{words_alike}
use Rattle.lib_os.proofs.Loading.{loaded}
use Rattle.lib_os.proofs.Logical.{is_making_pipe, logical_beside, unborne_plain, unborne_unremapped}
use Rattle.lib_os.proofs.Numbered.{named_at, number_of}
use Rattle.lib_os.proofs.PageWords.{load_page_word}
use Rattle.lib_os.proofs.PipesStand.{PipesAlike, descriptors_alike}
use Rattle.lib_os.proofs.Serving.{IsServed, holds_page, library_moved, plain_copy, plain_upcall, plain_working, kept_where}
use Rattle.lib_os.proofs.SlotsStand.{born_at}
use Rattle.lib_os.proofs.StatesStand.{clients_live, quiet_stands, slot_changed}
use Rattle.lib_os.proofs.Touching.{touched_quiet}
use Rattle.lib_os.proofs.WindowWords.{read_at}
use Rattle.lib_os.proofs.WordsTell.{handler_runs, is_in_handler, place_at}

-- ---- services on an end, at their steps on its pipe

-- a service that is given a descriptor makes no pipe
pub piped_unmade : (call : Service) (fd : ℕ) → descriptor_given call ≡ Some fd → (at : PipeStep) →
    is_making_pipe (place.InService call (step.Piped at)) ≡ false
piped_unmade service.Pipe fd given at = absurd (none-some fd given)
piped_unmade _ fd given at = refl

pub piped_made : (call : Service) (fd : ℕ) → descriptor_given call ≡ Some fd → (at : PipeStep) (q : ℕ) →
    is_made (place.InService call (step.Piped at)) q ≡ false
piped_made service.Pipe fd given at q = absurd (none-some fd given)
piped_made _ fd given at q = refl

-- and gives no end on
piped_given : (call : Service) (fd : ℕ) → descriptor_given call ≡ Some fd → (at : PipeStep) (q : ℕ) →
    is_given (place.InService call (step.Piped at)) q ≡ false
piped_given (service.Dup old new) fd given at q = absurd (none-some fd given)
piped_given _ fd given at q = refl

piped_on_way : (call : Service) (fd : ℕ) → descriptor_given call ≡ Some fd → (at : PipeStep) (q : ℕ) →
    is_on_its_way (place.InService call (step.Piped at)) q ≡ false
piped_on_way call fd given at q =
    ap (λ (c : Bool). if c then true else is_given (place.InService call (step.Piped at)) q) (piped_made call fd given at q)
    ∙ piped_given call fd given at q

-- it has its page as long as it moves bytes
pub piped_held : (call : Service) (fd : ℕ) → descriptor_given call ≡ Some fd → (at : PipeStep) →
    holds_page (place.InService call (step.Piped at)) ≡ kept_where (keeps_moved at)
piped_held (service.Read other va len) fd given at = refl
piped_held (service.Write other va len) fd given at = refl
piped_held (service.Seek other offset) fd given at = refl
piped_held (service.Stat other va) fd given at = refl
piped_held (service.SetSize other size) fd given at = refl
piped_held _ fd given at = absurd (none-some fd given)

-- it drops none at a step
abbrev pub DropsNone : Service → PipeStep → Type 0
DropsNone call at = (q : ℕ) → is_dropped (place.InService call (step.Piped at)) q ≡ false

-- at two of its steps it holds the same lock, or none
pub piped_alike : (call : Service) (fd : ℕ) → descriptor_given call ≡ Some fd → (from to : PipeStep) → holds_lock to ≡ holds_lock from →
    DropsNone call from → DropsNone call to → PipesAlike (place.InService call (step.Piped from)) (place.InService call (step.Piped to))
piped_alike call fd given from to same drops drops_after = record {
  places = record {
    locked = ap (λ (c : Bool). if c then Some (end_given call) else None) same;
    on_way = λ q. piped_on_way call fd given to q ∙ sym (piped_on_way call fd given from q);
  };
  made = λ q. piped_made call fd given to q ∙ sym (piped_made call fd given from q);
  dropped = λ q. drops_after q ∙ sym (drops q);
}

-- ---- another stage, where a lock is held

-- A service has gone on: its words tell another of its steps, at which it holds the same lock, and it is at another stage.
pub stage_alike : {names : Names} {s : KernelState} {a : AbstractState} → StandsFor names s a → (n number : ℕ) (b : Born) →
    a.slots n ≡ born b → is_handlers (slot_at s n).registers.esp ≡ false → borne_in (place_of (slot_at s n)) ≡ None →
    (call : Service) (to : Step) (stage : Stage) → holds_page (place_of (slot_at s n)) ≡ holds_page (place.InService call to) →
    borne_in (place.InService call to) ≡ None → service_of (record (slot_at s n).registers { eax = number }) ≡ call →
    is_making_pipe (place_of (slot_at s n)) ≡ false → is_making_pipe (place.InService call to) ≡ false →
    PipesAlike (place_of (slot_at s n)) (place.InService call to) →
    StandsAtStep (view_of s.spaces (slot_at s n).directory) (record (slot_at s n) { extra = words_at number to })
    (record b { phase = in_service call stage }) call to →
    StandsFor names (with_extra s n (words_at number to)) (at_stage a n b call stage)
stage_alike {names = names} {s = s} h n number b is outside unborne call to stage held unborne_after names_it unmade unmade_after alike so =
    let own = born_at h n b is in
    let k : Slot = record (slot_at s n) { extra = words_at number to } in
    let after : Born = record b { phase = in_service call stage } in
    let there : place_of k ≡ place.InService call to =
    place_at (slot_at s n).registers number to outside ∙ ap (λ (x : Service). place.InService x to) names_it in
    let there_alike : PipesAlike (place_of (slot_at s n)) (place_of k) =
    subst (λ (at : Place). PipesAlike (place_of (slot_at s n)) at) (sym there) alike in
    let plain : is_in_handler (place_of (slot_at s n)) ≡ false = handler_runs (slot_at s n).registers (slot_at s n).extra ∙ outside in
    let plain_after : is_in_handler (place_of k) ≡ false = ap is_in_handler there in
    slot_changed h n b is k after refl (record { id = refl; env_type = refl; turns = refl; calm = λ runs. runs })
    (unborne_plain (place_of (slot_at s n)) plain unborne unmade)
    (unborne_plain (place_of k) plain_after (ap borne_in there ∙ unborne_after) (ap is_making_pipe there ∙ unmade_after)) (record {
      id = own.id;
      id_small = own.id_small;
      parent = own.parent;
      env_type = own.env_type;
      runs = own.runs;
      upcall = own.upcall ∙ plain_upcall (place_of (slot_at s n)) plain ∙ sym (plain_upcall (place_of k) plain_after);
      descriptors = descriptors_alike names s.spaces k.directory (place_of (slot_at s n)) (place_of k) b.descriptors there_alike own.descriptors;
      memory = own.memory;
      library = library_moved (place_of (slot_at s n)) (place_of k) (slot_at s n).extra k.extra (rows_of s.spaces k.directory)
          (plain_copy (place_of (slot_at s n)) plain ∙ sym (plain_copy (place_of k) plain_after))
          (plain_working (place_of (slot_at s n)) (slot_at s n).extra plain ∙ held ∙ sym (ap holds_page there)
          ∙ sym (plain_working (place_of k) k.extra plain_after)) own.library;
      regions_have = own.regions_have;
      regions_only = own.regions_only;
      stack = own.stack;
      flags = own.flags;
      at = subst (λ (p : Place). StandsAt p (view_of s.spaces k.directory) k after) (sym there) so;
    }) there_alike.places (λ fd. refl)

-- ---- the page of a pipe

-- where the page of the pipe of a descriptor begins, and where it has its words and bytes
abbrev pub pipe_va : ℕ → ℕ
pipe_va fd = FDTABLE + PGSIZE * (DESCRIPTORS + fd % DESCRIPTORS)

abbrev pub read_va : ℕ → ℕ
read_va fd = pipe_va fd + PIPE_READ

abbrev pub written_va : ℕ → ℕ
written_va fd = pipe_va fd + PIPE_WRITE

abbrev pub byte_va : ℕ → ℕ → ℕ
byte_va fd position = pipe_va fd + PIPE_BYTES + position % PIPEBUFSIZ

-- the bytes of a page, where one is
abbrev pub bytes_at : (ℕ → List ℕ) → Option Entry → List ℕ
bytes_at pages (Some x) = pages x.frame
bytes_at pages None = []

-- those of the pipe of a descriptor
abbrev pub pipe_held : KernelState → ℕ → ℕ → List ℕ
pipe_held s n fd = bytes_at s.spaces.pages (rows_of s.spaces (slot_at s n).directory (pipe_page fd))

pub is_pipes : (fd : ℕ) → fd < DESCRIPTORS → is_of_descriptor (pipe_page fd) ≡ true
is_pipes fd below = grind (arith, nat_tests)

is_pipes_page : (fd : ℕ) → fd < DESCRIPTORS → is_pipe_page (pipe_page fd) ≡ true
is_pipes_page fd below = grind (arith, nat_tests)

module _ {names : Names} {s : KernelState} {a : AbstractState} (h : StandsFor names s a) (n : ℕ) (call : Service) (other : ℕ)
    (given : descriptor_given call ≡ Some other) (from : PipeStep) (v : IsServed names s a n call (step.Piped from)) where
  pub piped_seen : DropsNone call from → SeesDescriptors names s n v.b
  piped_seen drops =
      seen_unmade h n v.b v.is (λ q. ap (λ (p : Place). is_made p q) v.place ∙ piped_made call other given from q)
      (λ q. ap (λ (p : Place). is_dropped p q) v.place ∙ drops q)

  pub piped_unborne : borne_in (place_of (slot_at s n)) ≡ None
  piped_unborne = ap borne_in v.place ∙ given_unborne call other given (step.Piped from)

  pub piped_makes_none : is_making_pipe (place_of (slot_at s n)) ≡ false
  piped_makes_none = ap is_making_pipe v.place ∙ piped_unmade call other given from

  module _ (fd : ℕ) (below : fd < DESCRIPTORS) (x : Entry) (lies : rows_of s.spaces (slot_at s n).directory (pipe_page fd) ≡ Some x) where
    bits : x.perm ≡ descriptor_perm
    bits = (born_at h n v.b v.is).library.descriptors (pipe_page fd) x (is_pipes fd below) lies

    pub pipe_is_shared : is_shared x.perm ≡ true
    pipe_is_shared = ap is_shared bits

    user : is_page_perm x.perm ≡ true
    user = (subst (λ (perm : ℕ). IsUsers perm) (sym bits) descriptor_user).page

    pub pipe_counts : logical s.spaces s.environments.slots n (pipe_page fd) ≡ Some x
    pipe_counts =
        logical_beside s.spaces s.environments.slots n (clients_live h n v.b v.is) (pipe_page fd)
        (λ same. absurd (omega (arith, same, below))) (unborne_unremapped (place_of (slot_at s n)) (pipe_page fd) piped_unborne piped_makes_none)
        ∙ lies

    pub held_is : pipe_held s n fd ≡ s.spaces.pages x.frame
    held_is = ap (bytes_at s.spaces.pages) lies

    pub pipe_whole : IsPage (s.spaces.pages x.frame)
    pipe_whole = frame_whole h n v.b v.is (pipe_page fd) x lies

    -- its bytes are those of the pipe of its name
    pub pipe_told : HasPipe (things_in s a) (names.name x.frame) x.frame (s.spaces.pages x.frame)
    pipe_told =
        let it : IsNamed names s.spaces.pages a.shared (things_in s a) a.next_name (pipe_page fd) x.frame =
        h.named n (pipe_page fd) x pipe_counts pipe_is_shared in
        subst (λ (c : Bool). HasThing (things_in s a) (names.name x.frame) x.frame c (s.spaces.pages x.frame)) (it.of_pipe ∙ is_pipes_page fd below)
        (subst
        (λ (c : Bool).
        ShowsBy (things_in s a) (names.name x.frame) x.frame c (names.is_pipe (names.name x.frame)) (a.shared (names.name x.frame))
        (s.spaces.pages x.frame))
        (it.kind ∙ is_pipes fd below) it.shows)

    -- a word and a byte of it
    pipe_word_there : (o : ℕ) → o % 4 ≡ 0 → o < 4096 →
        load s n (pipe_va fd + o) ≡ read_at s n (pipe_va fd + o) (word_at (slice_index (s.spaces.pages x.frame)) o)
    pipe_word_there o aligned inside =
        let number : page_number (pipe_va fd + o) ≡ pipe_page fd = omega (arith, below, inside) in
        let offset : page_offset (pipe_va fd + o) ≡ o = omega (arith, inside) in
        load_page_word s n (pipe_va fd + o) x (omega (arith, aligned)) (ap (rows_of s.spaces (slot_at s n).directory) number ∙ lies) user h.in_order.frames
        ∙ ap (λ (at : ℕ). read_at s n (pipe_va fd + o) (word_at (slice_index (s.spaces.pages x.frame)) at)) offset

    pub read_gives : load s n (read_va fd) ≡ read_at s n (read_va fd) (read_of (pipe_held s n fd))
    read_gives = pipe_word_there PIPE_READ refl (omega arith) ∙ ap (λ (page : List ℕ). read_at s n (read_va fd) (read_of page)) (sym held_is)

    pub written_gives : load s n (written_va fd) ≡ read_at s n (written_va fd) (written_of (pipe_held s n fd))
    written_gives = pipe_word_there PIPE_WRITE refl (omega arith) ∙ ap (λ (page : List ℕ). read_at s n (written_va fd) (written_of page)) (sym held_is)

    pub byte_gives : (position : ℕ) → load_byte s n (byte_va fd position) ≡ read_at s n (byte_va fd position) (pipe_byte (pipe_held s n fd) position)
    byte_gives position =
        let number : page_number (byte_va fd position) ≡ pipe_page fd = omega (arith, below) in
        let offset : page_offset (byte_va fd position) ≡ PIPE_BYTES + position % PIPEBUFSIZ = omega arith in
        load_page_byte s n (byte_va fd position) x (ap (rows_of s.spaces (slot_at s n).directory) number ∙ lies) user h.in_order.frames
        ∙ ap (λ (at : ℕ). read_at s n (byte_va fd position) (slice_index (s.spaces.pages x.frame) at)) offset
        ∙ ap (λ (page : List ℕ). read_at s n (byte_va fd position) (pipe_byte page position)) (sym held_is)

  -- ---- behind a load it goes on at another step

  module _ (va : ℕ) (order : IsInOrder (loaded s n va)) where
    reached : StandsFor names (loaded s n va) a
    reached = quiet_stands h (touched_quiet s.spaces (slot_at s n).directory va Read) order

    -- which nobody sees
    pub piped_goes_on : (to : PipeStep) → keeps_moved to ≡ keeps_moved from → holds_lock to ≡ holds_lock from → DropsNone call from →
        DropsNone call to →
        StandsAtStep (view_of s.spaces (slot_at s n).directory) (record (slot_at s n) { extra = words_at (number_of call) (step.Piped to) }) v.b call
        (step.Piped to) →
        StandsFor names (with_extra (loaded s n va) n (words_at (number_of call) (step.Piped to))) a
    piped_goes_on to keeps locks drops drops_after so =
        words_alike reached n (number_of call) v.b v.is (born_at reached n v.b v.is) v.outside piped_unborne call (step.Piped to)
        (ap holds_page v.place ∙ piped_held call other given from ∙ ap kept_where (sym keeps) ∙ sym (piped_held call other given to))
        (given_unborne call other given (step.Piped to)) (named_at (slot_at s n) call (step.Piped from) v.place) piped_makes_none
        (piped_unmade call other given to)
        (subst (λ (p : Place). PipesAlike p (place.InService call (step.Piped to))) (sym v.place)
        (piped_alike call other given from to locks drops drops_after))
        (subst
        (λ (w : View). StandsAtStep w (record (slot_at s n) { extra = words_at (number_of call) (step.Piped to) }) v.b call (step.Piped to))
        (sym (loaded_view s n va (slot_at s n).directory)) so)

    -- or at another stage
    pub piped_shows : (to : PipeStep) (stage : Stage) → keeps_moved to ≡ keeps_moved from → holds_lock to ≡ holds_lock from → DropsNone call from →
        DropsNone call to →
        StandsAtStep (view_of s.spaces (slot_at s n).directory) (record (slot_at s n) { extra = words_at (number_of call) (step.Piped to) })
        (record v.b { phase = in_service call stage }) call (step.Piped to) →
        StandsFor names (with_extra (loaded s n va) n (words_at (number_of call) (step.Piped to))) (at_stage a n v.b call stage)
    piped_shows to stage keeps locks drops drops_after so =
        stage_alike reached n (number_of call) v.b v.is v.outside piped_unborne call (step.Piped to) stage
        (ap holds_page v.place ∙ piped_held call other given from ∙ ap kept_where (sym keeps) ∙ sym (piped_held call other given to))
        (given_unborne call other given (step.Piped to)) (named_at (slot_at s n) call (step.Piped from) v.place) piped_makes_none
        (piped_unmade call other given to)
        (subst (λ (p : Place). PipesAlike p (place.InService call (step.Piped to))) (sym v.place)
        (piped_alike call other given from to locks drops drops_after))
        (subst
        (λ (w : View).
        StandsAtStep w (record (slot_at s n) { extra = words_at (number_of call) (step.Piped to) }) (record v.b { phase = in_service call stage }) call
        (step.Piped to))
        (sym (loaded_view s n va (slot_at s n).directory)) so)
