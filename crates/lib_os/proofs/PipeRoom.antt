-- Write on an end of a pipe, which holds its lock: it loads the two positions, and goes on to the next byte of its own page, or to give the lock back
-- where there is no room for one.
-- (MIT 6.828, lab 5: lib/pipe.c, devpipe_write.)
use Rattle.std.proofs.Common.{◌≡◌, ◌∙◌, ◌+◌, ◌-◌, ◌%◌, ◌^◌, ℕ, true, false, List, refl, sym, ap, arith}
use Rattle.std.specs.Prelude.{nat_le, slice_index}
use Rattle.std.proofs.Math.Nat.{min-le_right}
use Rattle.std.proofs.lemmas.Bool.Decides.{nat_tests}
use Rattle.std.proofs.lemmas.Option.{same_Some}
use Rattle.jos_base.specs.declared.numbers.TheConstants.{PGSIZE, UTEMP}
use Rattle.jos_base.specs.Environments.{is_running}
use Rattle.jos_base.specs.KernelState.{KernelState, slot_at, with_extra}
use Rattle.jos_base.specs.Reach.{Entry}
use Rattle.jos_base.specs.SystemCalls.{is_page_perm}
use Rattle.jos_base.specs.Words.{page_number, page_offset}
use Rattle.lib_os.specs.declared.numbers.TheConstants.{PIPEBUFSIZ, TRANSFER_MAX}
use Rattle.lib_os.specs.declared.place.PipeStep.{PipeStep}
use Rattle.lib_os.specs.declared.place.PipeStep.TheVariants as pipe
use Rattle.lib_os.specs.declared.place.Place.TheVariants as place
use Rattle.lib_os.specs.declared.place.Step.TheVariants as step
use Rattle.lib_os.specs.declared.service.Service.{Service}
use Rattle.lib_os.specs.declared.service.Service.TheVariants as service
use Rattle.lib_os.specs.AbstractState.{AbstractState, Born}
use Rattle.lib_os.specs.DescriptorPages.{held_of, read_of, written_of}
use Rattle.lib_os.specs.InOrder.{IsInOrder}
use Rattle.lib_os.specs.LibraryPages.{View}
use Rattle.lib_os.specs.Places.{place_of, words_at}
use Rattle.lib_os.specs.Rows.{Names, rows_of}
use Rattle.lib_os.specs.StandsAtPipe.{IsWritingPipe}
use Rattle.lib_os.specs.StandsFor.{StandsFor, view_of}
use Rattle.lib_os.specs.UserCalls.{load, load_byte}
use Rattle.lib_os.proofs.FileLoaded.{load_page_byte}
use Rattle.lib_os.proofs.GoingOn.{in_with_words}
use Rattle.lib_os.proofs.Loading.{loaded}
use Rattle.lib_os.proofs.Logical.{is_plain, logical_plain}
use Rattle.lib_os.proofs.Numbered.{number_of}
use Rattle.lib_os.proofs.PipeBytes.{wrapped_held}
use Rattle.lib_os.proofs.PipeHeld.{has_tried, tries_with}
use Rattle.lib_os.proofs.PipeLoaded.{bytes_at, held_is, pipe_held, pipe_whole, piped_goes_on, read_gives, read_va, written_gives, written_va}
use Rattle.lib_os.proofs.Serving.{IsServed, served}
use Rattle.lib_os.proofs.StatesStand.{clients_live}
use Rattle.lib_os.proofs.WindowWords.{read_at}

-- the bytes of the page at UTEMP, and where the byte behind so many stands
abbrev pub own_held : KernelState → ℕ → List ℕ
own_held s n = bytes_at s.spaces.pages (rows_of s.spaces (slot_at s n).directory (page_number UTEMP))

abbrev pub own_va : ℕ → ℕ
own_va done = UTEMP + done % PGSIZE

module _ (s : KernelState) (n fd va len : ℕ) where
  abbrev space : View
  space = view_of s.spaces (slot_at s n).directory

  abbrev writing : Service
  writing = service.Write fd va len

  abbrev page : List ℕ
  page = pipe_held s n fd

  abbrev pub writing_with : (b : Born) (words : List ℕ) (done : ℕ) → IsWritingPipe space (slot_at s n) b fd va len done →
      IsWritingPipe space (record (slot_at s n) { extra = words }) b fd va len done
  writing_with b words done h = record {
    bytes = h.bytes;
    is_in = in_with_words words h.is_in;
    below = h.below;
    open_end = h.open_end;
    many = h.many;
    small = h.small;
    kept = h.kept;
  }

  -- ---- how many were read

  module _ (done id runs : ℕ) (stands : place_of (slot_at s n) ≡ place.InService writing (step.Piped (pipe.ReadFrom done id runs))) {names : Names}
      {a : AbstractState} (h : StandsFor names s a) where
    abbrev v : IsServed names s a n writing (step.Piped (pipe.ReadFrom done id runs))
    v = served h n writing (step.Piped (pipe.ReadFrom done id runs)) stands

    it : IsWritingPipe space (slot_at s n) v.b fd va len done
    it = v.at.0.0

    pub writes_from_gives : load s n (read_va fd) ≡ read_at s n (read_va fd) (read_of page)
    writes_from_gives = read_gives h n writing fd refl (pipe.ReadFrom done id runs) v fd it.below it.open_end.page it.open_end.lies

    pub writes_from : IsInOrder (loaded s n (read_va fd)) →
        StandsFor names (with_extra (loaded s n (read_va fd)) n (words_at (number_of writing) (step.Piped (pipe.ReadTo done id runs (read_of page))))) a
    writes_from order =
        let to : PipeStep = pipe.ReadTo done id runs (read_of page) in
        piped_goes_on h n writing fd refl (pipe.ReadFrom done id runs) v (read_va fd) order to refl refl (λ q. refl) (λ q. refl) (
          (writing_with v.b (words_at (number_of writing) (step.Piped to)) done it, v.at.0.1),
          tries_with space (slot_at s n) (words_at (number_of writing) (step.Piped to)) writing id runs v.at.1,
          record {
            page = it.open_end.page;
            lies = it.open_end.lies;
            so = ap read_of (sym (held_is h n writing fd refl (pipe.ReadFrom done id runs) v fd it.below it.open_end.page it.open_end.lies));
          },
        )

  -- ---- how many were written

  module _ (done id runs from : ℕ) (stands : place_of (slot_at s n) ≡ place.InService writing (step.Piped (pipe.ReadTo done id runs from)))
      {names : Names} {a : AbstractState} (h : StandsFor names s a) where
    abbrev here : PipeStep
    here = pipe.ReadTo done id runs from

    abbrev w : IsServed names s a n writing (step.Piped (pipe.ReadTo done id runs from))
    w = served h n writing (step.Piped (pipe.ReadTo done id runs from)) stands

    has : IsWritingPipe space (slot_at s n) w.b fd va len done
    has = w.at.0.0

    abbrev x : Entry
    x = has.open_end.page

    same_page : page ≡ s.spaces.pages x.frame
    same_page = held_is h n writing fd refl here w fd has.below x has.open_end.lies

    from_is : read_of (s.spaces.pages x.frame) ≡ from
    from_is =
        let told = w.at.2 in
        let same : told.page ≡ x = same_Some told.page x (sym told.lies ∙ has.open_end.lies) in
        ap (λ (e : Entry). read_of (s.spaces.pages e.frame)) (sym same) ∙ told.so

    -- how many are held
    many_is : (written_of page + (2 ^ 32 - from)) % 2 ^ 32 ≡ held_of (s.spaces.pages x.frame)
    many_is =
        (λ i. (written_of (same_page i) + (2 ^ 32 - sym from_is i)) % 2 ^ 32)
        ∙ wrapped_held (s.spaces.pages x.frame) (pipe_whole h n writing fd refl here w fd has.below x has.open_end.lies)

    pub writes_to_gives : load s n (written_va fd) ≡ read_at s n (written_va fd) (written_of page)
    writes_to_gives = written_gives h n writing fd refl here w fd has.below x has.open_end.lies

    module _ (order : IsInOrder (loaded s n (written_va fd))) where
      -- there is room for a byte
      pub write_finds : nat_le PIPEBUFSIZ ((written_of page + (2 ^ 32 - from)) % 2 ^ 32) ≡ false →
          StandsFor names (with_extra (loaded s n (written_va fd)) n
          (words_at (number_of writing) (step.Piped (pipe.LoadingOwn done (written_of page))))) a
      write_finds test =
          let to : PipeStep = pipe.LoadingOwn done (written_of page) in
          let off = sym (ap (nat_le PIPEBUFSIZ) many_is) ∙ test in
          piped_goes_on h n writing fd refl here w (written_va fd) order to refl refl (λ q. refl) (λ q. refl) (
            (writing_with w.b (words_at (number_of writing) (step.Piped to)) done has, w.at.0.1),
            record { page = x; lies = has.open_end.lies; so = (ap written_of (sym same_page), grind (arith, nat_tests, off)) },
          )

      -- there is none, and it tries whether there will be
      pub write_stuck : nat_le PIPEBUFSIZ ((written_of page + (2 ^ 32 - from)) % 2 ^ 32) ≡ true → is_running (slot_at s n).status ≡ true →
          StandsFor names (with_extra (loaded s n (written_va fd)) n (words_at (number_of writing) (step.Piped (pipe.UnlockingTest done id runs)))) a
      write_stuck test running =
          let to : PipeStep = pipe.UnlockingTest done id runs in
          let words : List ℕ = words_at (number_of writing) (step.Piped to) in
          piped_goes_on h n writing fd refl here w (written_va fd) order to refl refl (λ q. refl) (λ q. refl) (
            (writing_with w.b words done has, w.at.0.1, tt),
            has_tried space (slot_at s n) words writing id runs x has.open_end.lies (sym (ap (nat_le PIPEBUFSIZ) many_is) ∙ test) running w.at.1,
          )

  -- ---- the next byte

  module _ (done at : ℕ) (stands : place_of (slot_at s n) ≡ place.InService writing (step.Piped (pipe.LoadingOwn done at))) {names : Names}
      {a : AbstractState} (h : StandsFor names s a) where
    abbrev u : IsServed names s a n writing (step.Piped (pipe.LoadingOwn done at))
    u = served h n writing (step.Piped (pipe.LoadingOwn done at)) stands

    abbrev putting : IsWritingPipe space (slot_at s n) u.b fd va len done
    putting = u.at.0.0

    abbrev own : Entry
    own = putting.kept.entry

    own_is : own_held s n ≡ s.spaces.pages own.frame
    own_is = ap (bytes_at s.spaces.pages) putting.kept.stands

    user : is_page_perm own.perm ≡ true
    user =
        (h.users n (page_number UTEMP) own
        (logical_plain s.spaces s.environments.slots n (clients_live h n u.b u.is) (ap is_plain u.place) (page_number UTEMP) ∙ putting.kept.stands)).page

    pub writes_byte_gives : load_byte s n (own_va done) ≡ read_at s n (own_va done) (slice_index (own_held s n) (done % PGSIZE))
    writes_byte_gives =
        let number : page_number (own_va done) ≡ page_number UTEMP = omega arith in
        let offset : page_offset (own_va done) ≡ done % PGSIZE = omega arith in
        load_page_byte s n (own_va done) own (ap space.row number ∙ putting.kept.stands) user h.in_order.frames
        ∙ (λ i. read_at s n (own_va done) (slice_index (sym own_is i) (offset i)))

    -- it is the byte of the buffer
    byte_is : slice_index putting.bytes done ≡ slice_index (own_held s n) (done % PGSIZE)
    byte_is =
        let less = u.at.0.1 in
        let few = min-le_right len TRANSFER_MAX in
        let many = putting.many in
        let same : done % PGSIZE ≡ done = omega (arith, less, few) in
        sym (putting.kept.same done (omega (arith, less, many))) ∙ (λ i. slice_index (sym own_is i) (sym same i))

    pub writes_byte : IsInOrder (loaded s n (own_va done)) →
        StandsFor names (with_extra (loaded s n (own_va done)) n
        (words_at (number_of writing) (step.Piped (pipe.PuttingOwn done at (slice_index (own_held s n) (done % PGSIZE)))))) a
    writes_byte order =
        let to : PipeStep = pipe.PuttingOwn done at (slice_index (own_held s n) (done % PGSIZE)) in
        piped_goes_on h n writing fd refl (pipe.LoadingOwn done at) u (own_va done) order to refl refl (λ q. refl) (λ q. refl) (
          (writing_with u.b (words_at (number_of writing) (step.Piped to)) done putting, u.at.0.1),
          byte_is,
          record { page = u.at.1.page; lies = u.at.1.lies; so = u.at.1.so },
        )
