-- Read and write on an end of a pipe, where they hold no lock: how they go on behind a load, a call and their turn, and with their answer; and the page
-- of the pipe of their descriptor.
use Rattle.std.proofs.Common.{◌≡◌, ◌∙◌, ◌+◌, ◌*◌, ◌%◌, ◌<◌, ℕ, Bool, true, false, Some, None}
use Rattle.std.proofs.Common.{List, refl, sym, ap, subst, arith}
use Rattle.std.specs.Prelude.{slice_index}
use Rattle.std.proofs.lemmas.Bool.Decides.{nat_tests}
use Rattle.jos_base.specs.declared.environment.Status.TheVariants.{Runnable}
use Rattle.jos_base.specs.declared.numbers.TheConstants.{FDTABLE, PGSIZE}
use Rattle.jos_base.specs.Environments.{Slot}
use Rattle.jos_base.specs.KernelState.{KernelState, slot_at, with_extra, with_status}
use Rattle.jos_base.specs.Reach.{Entry}
use Rattle.jos_base.specs.Words.{page_number, page_offset, word_at}
use Rattle.jos_base.proofs.Maps.{upd-at}
use Rattle.lib_os.specs.declared.numbers.TheConstants.{DESCRIPTORS}
use Rattle.lib_os.specs.declared.place.Place.{Place}
use Rattle.lib_os.specs.declared.place.Place.TheVariants as place
use Rattle.lib_os.specs.declared.place.PipeStep.{PipeStep}
use Rattle.lib_os.specs.declared.place.Step.TheVariants as step
use Rattle.lib_os.specs.declared.service.Service.{Service}
use Rattle.lib_os.specs.declared.service.Service.TheVariants as service
use Rattle.lib_os.specs.AbstractState.{AbstractState, Born, at_guest, born, guest}
use Rattle.lib_os.specs.Answers.{answered}
use Rattle.lib_os.specs.DescriptorPages.{HasPipe}
use Rattle.lib_os.specs.InOrder.{IsInOrder}
use Rattle.lib_os.specs.LibraryPages.{View, has_copy, keeps_moved}
use Rattle.lib_os.specs.Places.{place_of, words_at}
use Rattle.lib_os.specs.Rows.{HasThing, IsNamed, IsPage, IsUsers, Names, ShowsBy, descriptor_perm, is_shared}
use Rattle.lib_os.specs.Rows.{logical, pipe_page, rows_of}
use Rattle.lib_os.specs.StandsAtPipe.{HasMoved, IsMoving, IsTesting, StandsAtPipe, StandsOnPipe, end_given, mode_wanted}
use Rattle.lib_os.specs.StandsFor.{IsStatusFor, StandsAt, StandsFor, StandsForBorn, borne_in, goes_back, things_in, upcall_at, view_of}
use Rattle.lib_os.specs.StandsInHandler.{IsEndOpen, page_word}
use Rattle.lib_os.specs.UserCalls.{load}
use Rattle.lib_os.proofs.DescriptorLooks.{SeesDescriptors, descriptor_user, read_goes_on, seen_calm}
use Rattle.lib_os.proofs.EndsHeld.{pipe_is}
use Rattle.lib_os.proofs.GoingOn.{in_with_words, words_stand}
use Rattle.lib_os.proofs.Loading.{loaded}
use Rattle.lib_os.proofs.Logical.{is_making_pipe, is_plain, logical_beside, unborne_plain, unborne_unremapped}
use Rattle.lib_os.proofs.Numbered.{named_at, number_of}
use Rattle.lib_os.proofs.PageWords.{load_page_word}
use Rattle.lib_os.proofs.PipesStand.{calm_places, calm_unmade, descriptors_turned, is_calm, is_calm_step}
use Rattle.lib_os.proofs.Serving.{IsServed, holds_page, library_moved, plain_working, served, kept_where, pages_kept}
use Rattle.lib_os.proofs.SlotsStand.{born_at, moves_bytes}
use Rattle.lib_os.proofs.StatesStand.{clients_live, slot_changed, status_stands}
use Rattle.lib_os.proofs.WindowWords.{read_at}
use Rattle.lib_os.proofs.WordsTell.{is_in_handler, outside_stack, place_at}

-- ---- the two services

none_moves : {A : Type 0} (service : Service) → false ≡ true → A
none_moves service is = absurd (let contradiction : false ≡ true = is in cc)

-- neither bears a child
pub moving_unborne : (s : Service) (at : PipeStep) → borne_in (place.InService s (step.Piped at)) ≡ None
moving_unborne service.Fork at = refl
moving_unborne _ at = refl

-- each has its page where it keeps the bytes that it moves
pub moving_holds : (s : Service) → moves_bytes s ≡ true → (at : PipeStep) → holds_page (place.InService s (step.Piped at)) ≡ kept_where (keeps_moved at)
moving_holds (service.Read fd va len) moves at = refl
moving_holds (service.Write fd va len) moves at = refl
moving_holds s moves at = none_moves s moves

-- and has it still where it is about to give it back
plain_back : (s : Service) → moves_bytes s ≡ true → (answer : ℕ) → is_plain (place.InService s (step.Returning answer)) ≡ true
plain_back (service.Read fd va len) moves answer = refl
plain_back (service.Write fd va len) moves answer = refl
plain_back s moves answer = none_moves s moves

holds_back : (s : Service) → moves_bytes s ≡ true → (answer : ℕ) → holds_page (place.InService s (step.Returning answer)) ≡ kept_where true
holds_back (service.Read fd va len) moves answer = refl
holds_back (service.Write fd va len) moves answer = refl
holds_back s moves answer = none_moves s moves

goes_so : (s : Service) → moves_bytes s ≡ true → goes_back s ≡ true
goes_so (service.Read fd va len) moves = refl
goes_so (service.Write fd va len) moves = refl
goes_so s moves = none_moves s moves

module _ (v : View) (k : Slot) (b : Born) (at : PipeStep) where
  pub on_pipe : (s : Service) → moves_bytes s ≡ true → StandsAtPipe v k b s at → StandsOnPipe v k b s at
  on_pipe (service.Read fd va len) moves h = h
  on_pipe (service.Write fd va len) moves h = h
  on_pipe s moves h = none_moves s moves

  pub at_pipe : (s : Service) → moves_bytes s ≡ true → StandsOnPipe v k b s at → StandsAtPipe v k b s at
  at_pipe (service.Read fd va len) moves h = h
  at_pipe (service.Write fd va len) moves h = h
  at_pipe s moves h = none_moves s moves

module _ (v : View) (k : Slot) (b : Born) where
  -- its words alone are others
  pub moved_with_words : (words : List ℕ) (s : Service) (done : ℕ) → HasMoved v k b s done → HasMoved v (record k { extra = words }) b s done
  moved_with_words words (service.Read fd va len) done h = record {
    taken = h.taken;
    is_in = in_with_words words h.is_in;
    below = h.below;
    open_end = h.open_end;
    many = h.many;
    inside = h.inside;
    small = h.small;
    kept = h.kept;
  }
  moved_with_words words (service.Write fd va len) done h = record {
    bytes = h.bytes;
    is_in = in_with_words words h.is_in;
    below = h.below;
    open_end = h.open_end;
    many = h.many;
    small = h.small;
    kept = h.kept;
  }
  moved_with_words words _ done h = absurd h

  pub moving_with_words : (words : List ℕ) (s : Service) (done : ℕ) → IsMoving v k b s done → IsMoving v (record k { extra = words }) b s done
  moving_with_words words s done h = (moved_with_words words s done h.0, h.1)

  pub testing_with_words : (words : List ℕ) (s : Service) (done : ℕ) → IsTesting v k b s done → IsTesting v (record k { extra = words }) b s done
  testing_with_words words s done h = (moved_with_words words s done h.0, h.1, h.2)

  -- one that tests wants to move more
  pub testing_moves : (s : Service) (done : ℕ) → IsTesting v k b s done → IsMoving v k b s done
  testing_moves s done h = (h.0, h.1)

  -- its end is open, and it may run
  pub moved_below : (s : Service) (done : ℕ) → HasMoved v k b s done → end_given s < DESCRIPTORS
  moved_below (service.Read fd va len) done h = h.below
  moved_below (service.Write fd va len) done h = h.below
  moved_below _ done h = absurd h

  pub moved_open : (s : Service) (done : ℕ) → HasMoved v k b s done → IsEndOpen v (end_given s) (mode_wanted s)
  moved_open (service.Read fd va len) done h = h.open_end
  moved_open (service.Write fd va len) done h = h.open_end
  moved_open _ done h = absurd h

  pub moved_silent : (s : Service) (done : ℕ) → HasMoved v k b s done → k.rendezvous.receiving ≡ false
  moved_silent (service.Read fd va len) done h = h.is_in.silent
  moved_silent (service.Write fd va len) done h = h.is_in.silent
  moved_silent _ done h = absurd h

  pub moved_awake : (s : Service) (done : ℕ) → HasMoved v k b s done → b.blocked ≡ false
  moved_awake (service.Read fd va len) done h = h.is_in.awake
  moved_awake (service.Write fd va len) done h = h.is_in.awake
  moved_awake _ done h = absurd h

-- ---- how it goes on

module _ {names : Names} {s : KernelState} {a : AbstractState} (h : StandsFor names s a) (n : ℕ) (service : Service)
    (moves : moves_bytes service ≡ true) (from : PipeStep) (stands : place_of (slot_at s n) ≡ place.InService service (step.Piped from))
    (keeps : keeps_moved from ≡ true) (calm : is_calm_step (step.Piped from) ≡ true) where
  abbrev pub here : IsServed names s a n service (step.Piped from)
  here = served h n service (step.Piped from) stands

  abbrev pub view_here : View
  view_here = view_of s.spaces (slot_at s n).directory

  abbrev pub words_to : PipeStep → List ℕ
  words_to to = words_at (number_of service) (step.Piped to)

  abbrev pub slot_to : PipeStep → Slot
  slot_to to = record (slot_at s n) { extra = words_to to }

  pub stands_here : StandsOnPipe view_here (slot_at s n) here.b service from
  stands_here = on_pipe view_here (slot_at s n) here.b from service moves here.at

  -- behind a load
  pub loads_on : (va : ℕ) → IsInOrder (loaded s n va) → (to : PipeStep) → keeps_moved to ≡ true → is_calm_step (step.Piped to) ≡ true →
      StandsOnPipe view_here (slot_to to) here.b service to → StandsFor names (with_extra (loaded s n va) n (words_to to)) a
  loads_on va order to keeps_to calm_to so =
      read_goes_on h n service (step.Piped from) here (moving_unborne service from) calm va order (step.Piped to) (moving_unborne service to) calm_to
      (moving_holds service moves from ∙ ap kept_where keeps ∙ sym (moving_holds service moves to ∙ ap kept_where keeps_to)) (at_pipe view_here (slot_to to) here.b to service moves so)

  -- behind a call that changes nothing
  pub calls_on : (to : PipeStep) → keeps_moved to ≡ true → is_calm_step (step.Piped to) ≡ true →
      StandsOnPipe view_here (slot_to to) here.b service to → StandsFor names (with_extra s n (words_to to)) a
  calls_on to keeps_to calm_to so =
      words_stand h n (number_of service) here.b here.is (born_at h n here.b here.is) here.outside (ap borne_in here.place ∙ moving_unborne service from)
      (ap is_calm here.place ∙ calm) service (step.Piped to)
      (ap holds_page here.place ∙ moving_holds service moves from ∙ ap kept_where keeps ∙ sym (moving_holds service moves to ∙ ap kept_where keeps_to)) (moving_unborne service to)
      calm_to (named_at (slot_at s n) service (step.Piped from) here.place) (at_pipe view_here (slot_to to) here.b to service moves so)

  -- ---- its descriptor, and the page of its pipe

  pub unborne_here : borne_in (place_of (slot_at s n)) ≡ None
  unborne_here = ap borne_in here.place ∙ moving_unborne service from

  pub unmade_here : is_making_pipe (place_of (slot_at s n)) ≡ false
  unmade_here = calm_unmade (place_of (slot_at s n)) (ap is_calm here.place ∙ calm)

  pub seen_here : SeesDescriptors names s n here.b
  seen_here = seen_calm h n here.b here.is (ap is_calm here.place ∙ calm)

  module _ (x : Entry) (below : end_given service < DESCRIPTORS) (is : view_here.row (pipe_page (end_given service)) ≡ Some x) where
    abbrev p : ℕ
    p = pipe_page (end_given service)

    bits : x.perm ≡ descriptor_perm
    bits = here.own.library.descriptors p x (pipe_is (end_given service) below) is

    shared_page : is_shared x.perm ≡ true
    shared_page = ap is_shared bits

    user : IsUsers x.perm
    user = subst (λ (perm : ℕ). IsUsers perm) (sym bits) descriptor_user

    counts_so : logical s.spaces s.environments.slots n p ≡ Some x
    counts_so =
        logical_beside s.spaces s.environments.slots n (clients_live h n here.b here.is) p (λ same. absurd (omega (arith, same, below)))
        (unborne_unremapped (place_of (slot_at s n)) p unborne_here unmade_here)
        ∙ is

    -- it has the bytes of a page
    pub pipe_whole : IsPage (s.spaces.pages x.frame)
    pipe_whole = h.whole n p x counts_so

    pipe_names : IsNamed names s.spaces.pages a.shared (things_in s a) a.next_name p x.frame
    pipe_names = h.named n p x counts_so shared_page

    -- and tells of a pipe
    pub pipe_shows : HasPipe (things_in s a) (names.name x.frame) x.frame (s.spaces.pages x.frame)
    pipe_shows =
        let object : names.is_object (names.name x.frame) ≡ true = pipe_names.kind ∙ pipe_is (end_given service) below in
        let pipes : names.is_pipe (names.name x.frame) ≡ true = pipe_names.of_pipe ∙ grind (arith, nat_tests, below) in
        subst (λ (c : Bool). HasThing (things_in s a) (names.name x.frame) x.frame c (s.spaces.pages x.frame)) pipes
        (subst
        (λ (c : Bool). ShowsBy (things_in s a) (names.name x.frame) x.frame c (names.is_pipe (names.name x.frame)) (a.shared (names.name x.frame))
        (s.spaces.pages x.frame))
        object pipe_names.shows)

    -- a word of it, at a place
    pub pipe_word : (o : ℕ) → o % 4 ≡ 0 → o < 4096 →
        load s n (FDTABLE + PGSIZE * (DESCRIPTORS + end_given service % DESCRIPTORS) + o)
        ≡ read_at s n (FDTABLE + PGSIZE * (DESCRIPTORS + end_given service % DESCRIPTORS) + o) (word_at (slice_index (s.spaces.pages x.frame)) o)
    pipe_word o aligned inside =
        let va : ℕ = FDTABLE + PGSIZE * (DESCRIPTORS + end_given service % DESCRIPTORS) + o in
        let number : page_number va ≡ p = omega (arith, below, inside) in
        let offset : page_offset va ≡ o = omega (arith, inside) in
        load_page_word s n va x (omega (arith, aligned)) (ap view_here.row number ∙ is) user.page h.in_order.frames
        ∙ ap (λ (at : ℕ). read_at s n va (page_word (s.spaces.pages x.frame) at)) offset

-- ---- the answer: the page is given back behind it

pub returns_at : {names : Names} {s : KernelState} {a : AbstractState} → StandsFor names s a → (n : ℕ) (b : Born) → a.slots n ≡ born b →
    (call : Service) → moves_bytes call ≡ true → (from : PipeStep) → place_of (slot_at s n) ≡ place.InService call (step.Piped from) →
    keeps_moved from ≡ true → is_calm_step (step.Piped from) ≡ true → (slot_at s n).rendezvous.receiving ≡ false → b.blocked ≡ false → (answer : ℕ) →
    StandsFor names (with_extra s n (words_at (number_of call) (step.Returning answer))) (answered a n b (slot_at s n).registers answer)
returns_at {names = names} {s = s} {a = a} h n b is call moves from stands keeps calm silent awake answer =
    slot_changed h n b is k after refl (record { id = refl; env_type = refl; turns = refl; calm = λ runs. runs })
    (unborne_plain (place_of (slot_at s n)) (ap is_in_handler stands) (ap borne_in stands ∙ moving_unborne call from)
    (calm_unmade (place_of (slot_at s n)) calm_here)) (ap is_plain there ∙ plain_back call moves answer) mine (calm_places calm_here calm_there) (λ fd. refl)
  where
    k : Slot
    k = record (slot_at s n) { extra = words_at (number_of call) (step.Returning answer) }

    after : Born
    after = record b { program = guest (record (slot_at s n).registers { eax = answer }); phase = at_guest; blocked = false }

    there : place_of k ≡ place.InService call (step.Returning answer)
    there =
        place_at (slot_at s n).registers (number_of call) (step.Returning answer)
        (outside_stack (slot_at s n).registers (slot_at s n).extra (place.InService call (step.Piped from)) stands refl)
        ∙ ap (λ (x : Service). place.InService x (step.Returning answer)) (named_at (slot_at s n) call (step.Piped from) stands)

    calm_here : is_calm (place_of (slot_at s n)) ≡ true
    calm_here = ap is_calm stands ∙ calm

    calm_there : is_calm (place_of k) ≡ true
    calm_there = ap is_calm there

    mine : StandsForBorn names s.spaces k after
    mine =
        let own = born_at h n b is in
        record {
          id = own.id;
          id_small = own.id_small;
          parent = own.parent;
          env_type = own.env_type;
          runs = subst (λ (blocked : Bool). IsStatusFor (slot_at s n).status blocked) awake own.runs;
          upcall = own.upcall ∙ ap upcall_at stands ∙ sym (ap upcall_at there);
          descriptors = descriptors_turned names s.spaces k.directory (place_of (slot_at s n)) (place_of k) b.descriptors calm_here calm_there
              own.descriptors;
          memory = own.memory;
          library = library_moved (place_of (slot_at s n)) (place_of k) (slot_at s n).extra k.extra (rows_of s.spaces k.directory)
              (ap has_copy stands ∙ sym (ap has_copy there))
              (ap (λ (q : Place). pages_kept q (slot_at s n).extra) stands ∙ plain_working (place.InService call (step.Piped from)) (slot_at s n).extra refl
              ∙ moving_holds call moves from ∙ ap kept_where keeps
              ∙ sym (ap (λ (q : Place). pages_kept q k.extra) there ∙ plain_working (place.InService call (step.Returning answer)) k.extra refl
              ∙ holds_back call moves answer)) own.library;
          regions_have = own.regions_have;
          regions_only = own.regions_only;
          stack = own.stack;
          flags = own.flags;
          at = subst (λ (q : Place). StandsAt q (view_of s.spaces k.directory) k after) (sym there) (record {
            goes = goes_so call moves;
            program = refl;
            phase = refl;
            silent = silent;
            awake = refl;
          });
        }

-- ---- it gives up its turn

module _ {names : Names} {s : KernelState} {a : AbstractState} (h : StandsFor names s a) (n : ℕ) (service : Service)
    (moves : moves_bytes service ≡ true) (from : PipeStep) (stands : place_of (slot_at s n) ≡ place.InService service (step.Piped from))
    (keeps : keeps_moved from ≡ true) (calm : is_calm_step (step.Piped from) ≡ true) where
  rested : slot_at (with_status s n Runnable) n ≡ record (slot_at s n) { status = Runnable }
  rested = upd-at s.environments.slots n (record (slot_at s n) { status = Runnable })

  -- it stands there as before
  pub stands_rested : place_of (slot_at (with_status s n Runnable) n) ≡ place.InService service (step.Piped from)
  stands_rested = ap place_of rested ∙ stands

  pub rests : (done : ℕ) → HasMoved (view_here h n service moves from stands keeps calm) (slot_at s n) (here h n service moves from stands keeps calm).b
      service done → StandsFor names (with_status s n Runnable) a
  rests done has =
      let v = here h n service moves from stands keeps calm in
      status_stands h n v.b v.is (moved_awake (view_of s.spaces (slot_at s n).directory) (slot_at s n) v.b service done has)
