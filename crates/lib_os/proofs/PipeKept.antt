-- Read on an end of a pipe keeps the byte that it has loaded: it stores it in its own page, behind those that it has taken, which nobody sees.
-- (MIT 6.828, lab 5: lib/pipe.c, devpipe_read.)
use Rattle.std.proofs.Common.{◌≡◌, ◌≢◌, ◌∙◌, ◌+◌, ◌*◌, ◌%◌, ◌<◌, ℕ, zero, suc, true, false, List, [], ◌∷◌, ◌++◌, refl, sym, ap, subst, arith}
use Rattle.std.specs.Prelude.{Some, slice_index}
use Rattle.std.proofs.Math.ListN.{get_or-append}
use Rattle.std.proofs.Math.Nat.{min-le_right}
use Rattle.std.proofs.lemmas.List.{get_or-append-add}
use Rattle.std.proofs.lemmas.Option.{same_Some}
use Rattle.jos_base.specs.declared.numbers.TheConstants.{PGSIZE}
use Rattle.jos_base.specs.KernelState.{KernelState, slot_at, with_extra, with_spaces}
use Rattle.jos_base.specs.Reach.{Entry}
use Rattle.jos_base.specs.SpacesState.{SpacesState}
use Rattle.jos_base.specs.SystemCalls.{has_write, is_page_perm}
use Rattle.jos_base.proofs.Maps.{upd-at, upd-other}
use Rattle.lib_os.specs.declared.numbers.TheConstants.{PIPEBUFSIZ, PIPE_BYTES, TRANSFER_MAX}
use Rattle.lib_os.specs.declared.place.PipeStep.{PipeStep}
use Rattle.lib_os.specs.declared.place.PipeStep.TheVariants as pipe
use Rattle.lib_os.specs.declared.place.Place.{Place}
use Rattle.lib_os.specs.declared.place.Place.TheVariants as place
use Rattle.lib_os.specs.declared.place.Step.TheVariants as step
use Rattle.lib_os.specs.declared.service.Service.{Service}
use Rattle.lib_os.specs.declared.service.Service.TheVariants as service
use Rattle.lib_os.specs.AbstractState.{AbstractState}
use Rattle.lib_os.specs.DescriptorPages.{device_of, held_of, mode_of, pipe_byte, read_of}
use Rattle.lib_os.specs.InOrder.{IsInOrder}
use Rattle.lib_os.specs.LibraryPages.{IsOwnWritable, View, has_working}
use Rattle.lib_os.specs.Places.{place_of, words_at}
use Rattle.lib_os.specs.Rows.{EntryRow, IsPage, Names, Rows, descriptor_page, is_of_descriptor, is_shared, logical, pipe_page, rows_of}
use Rattle.lib_os.specs.StandsAtPipe.{IsReadingPipe}
use Rattle.lib_os.specs.StandsFor.{StandsAt, StandsAtStep, StandsFor, view_of}
use Rattle.lib_os.specs.UserCalls.{giving, store_byte}
use Rattle.lib_os.proofs.BytesKept.{PutsBytes, more_there, store_byte_puts, unseen_rewritten, working_below}
use Rattle.lib_os.proofs.BufferAccesses.{frame_whole}
use Rattle.lib_os.proofs.BytesPut.{bytes_put}
use Rattle.lib_os.proofs.DescriptorLooks.{is_descriptors}
use Rattle.lib_os.proofs.GoingOn.{in_with_words, words_alike}
use Rattle.lib_os.proofs.Logical.{is_plain, logical_plain}
use Rattle.lib_os.proofs.Numbered.{named_at, number_of}
use Rattle.lib_os.proofs.PageTaken.{working_no_descriptor, working_outside, working_page}
use Rattle.lib_os.proofs.PipeBytes.{with_byte_whole}
use Rattle.lib_os.proofs.PipeLoaded.{is_pipes, piped_alike, piped_makes_none, piped_unborne}
use Rattle.lib_os.proofs.PipeRoom.{own_va}
use Rattle.lib_os.proofs.PipesStand.{PipesAlike}
use Rattle.lib_os.proofs.Serving.{IsServed, holds_page, served}
use Rattle.lib_os.proofs.SlotsStand.{born_at}
use Rattle.lib_os.proofs.StatesStand.{clients_live, others_counts}

-- What comes of the store: the page has the byte, and the same abstract state stands behind it, at the next step.
pub record KeepsHeld (names : Names) (s : KernelState) (a : AbstractState) (n fd va len done from byte : ℕ) : Type 0 where
  pub spaces : SpacesState
  pub step_is : store_byte s n (own_va done) (byte % 256) ≡ giving (with_spaces s spaces) tt
  pub stands : IsInOrder (with_spaces s spaces) →
      StandsFor names (with_extra (with_spaces s spaces) n
      (words_at (number_of (service.Read fd va len)) (step.Piped (pipe.TakingHeld done from)))) a

module _ {names : Names} {s : KernelState} {a : AbstractState} (h : StandsFor names s a) (n fd va len done from byte : ℕ)
    (stands : place_of (slot_at s n) ≡ place.InService (service.Read fd va len) (step.Piped (pipe.KeepingHeld done from byte)))
    (last : s.last ≡ Some n) where
  abbrev reading : Service
  reading = service.Read fd va len

  abbrev here : PipeStep
  here = pipe.KeepingHeld done from byte

  abbrev d : ℕ
  d = (slot_at s n).directory

  abbrev row : EntryRow
  row = rows_of s.spaces d

  abbrev v : IsServed names s a n reading (step.Piped (pipe.KeepingHeld done from byte))
  v = served h n reading (step.Piped (pipe.KeepingHeld done from byte)) stands

  abbrev it : IsReadingPipe (view_of s.spaces d) (slot_at s n) v.b fd va len done
  it = v.at.0.0

  -- its own page, and the pipe's
  abbrev own : Entry
  own = it.kept.entry

  abbrev page : Entry
  page = v.at.1.page

  plain : is_plain (place_of (slot_at s n)) ≡ true
  plain = ap is_plain v.place

  counts : (q : ℕ) (e : Entry) → row q ≡ Some e → logical s.spaces s.environments.slots n q ≡ Some e
  counts q e is = logical_plain s.spaces s.environments.slots n (clients_live h n v.b v.is) plain q ∙ is

  writable : IsOwnWritable row working_page
  writable =
      (born_at h n v.b v.is).library.working (ap (λ (p : Place). has_working p (slot_at s n).extra) v.place)

  writes : has_write own.perm ≡ true
  writes =
      ap (λ (e : Entry). has_write e.perm) (same_Some own writable.entry (sym it.kept.stands ∙ writable.stands)) ∙ writable.writes

  user : is_page_perm own.perm ≡ true
  user = (h.users n working_page own (counts working_page own it.kept.stands)).page

  whole : IsPage (s.spaces.pages own.frame)
  whole = frame_whole h n v.b v.is working_page own it.kept.stands

  small : done < PGSIZE
  small = let less = v.at.0.1 in let few = min-le_right len TRANSFER_MAX in omega (arith, less, few)

  place_same : done % PGSIZE ≡ done
  place_same = let low = small in omega (arith, low)

  -- the byte is one
  byte_is : byte % 256 ≡ pipe_byte (s.spaces.pages page.frame) from
  byte_is =
      let told = v.at.1.so.2 in
      let low = (frame_whole h n v.b v.is (pipe_page fd) page v.at.1.lies).small (PIPE_BYTES + from % PIPEBUFSIZ) in
      let same : byte % 256 ≡ byte = omega (arith, told, low) in
      same ∙ sym told

  va_is : working_page * PGSIZE + done ≡ own_va done
  va_is = let low = small in omega (arith, low)

  abbrev puts : PutsBytes s n own done (byte % 256 ∷ []) (store_byte s n (working_page * PGSIZE + done) (byte % 256))
  puts = store_byte_puts s n working_page working_below own it.kept.stands user writes done small (byte % 256)

  abbrev sp : SpacesState
  sp = puts.spaces

  abbrev bytes : List ℕ
  bytes = bytes_put (s.spaces.pages own.frame) done (byte % 256 ∷ [])

  -- ---- what is there behind it

  row_kept : (q : ℕ) → rows_of sp d q ≡ row q
  row_kept q = ap (λ (rows : Rows). rows d q) puts.rewritten.rows

  -- pages of descriptors and of pipes have other frames
  beside : (q : ℕ) → is_of_descriptor q ≡ true → (e : Entry) → row q ≡ Some e → sp.pages e.frame ≡ s.spaces.pages e.frame
  beside q is e lies =
      ap (λ (pages : ℕ → List ℕ). pages e.frame) puts.rewritten.pages ∙ upd-other s.spaces.pages own.frame bytes e.frame apart
    where
      apart : e.frame ≢ own.frame
      apart same =
          let shared_page : is_shared e.perm ≡ true = ap is_shared ((born_at h n v.b v.is).library.descriptors q e is lies) in
          let ne : q ≢ working_page =
          λ equal. let contradiction : true ≡ false = sym is ∙ ap is_of_descriptor equal ∙ working_no_descriptor in cc in
          let agrees = h.apart n q n working_page e own (λ equal. ne) (counts q e lies) (counts working_page own it.kept.stands) same in
          let contradiction : true ≡ false = sym shared_page ∙ agrees.shared ∙ it.kept.own_page in
          cc

  own_bytes : sp.pages own.frame ≡ bytes
  own_bytes = ap (λ (pages : ℕ → List ℕ). pages own.frame) puts.rewritten.pages ∙ upd-at s.spaces.pages own.frame bytes

  -- it has those that it had, and the byte
  abbrev all : List ℕ
  all = it.taken ++ pipe_byte (s.spaces.pages page.frame) from ∷ []

  had : (i : ℕ) → i < done → slice_index all i ≡ slice_index it.taken i
  had i lt = let many = it.many in get_or-append it.taken (pipe_byte (s.spaces.pages page.frame) from ∷ []) 0 i (omega (arith, lt, many))

  next : (i : ℕ) → i < 1 → slice_index (byte % 256 ∷ []) i ≡ slice_index all (done + i)
  next zero lt =
      byte_is ∙ sym (get_or-append-add it.taken (pipe_byte (s.spaces.pages page.frame) from ∷ []) 0 0)
      ∙ ap (λ (m : ℕ). slice_index all (m + 0)) it.many
  next (suc i) lt = absurd (omega (arith, lt))

  there : (i : ℕ) → i < done + 1 → slice_index (sp.pages own.frame) i ≡ slice_index all i
  there i lt =
      ap (λ (l : List ℕ). slice_index l i) own_bytes
      ∙ more_there (s.spaces.pages own.frame) all (byte % 256 ∷ []) done (let long = whole.long in let low = small in omega (arith, long, low))
      (λ j low. it.kept.same j low ∙ sym (had j low)) next i lt

  abbrev after : View
  after = view_of sp d

  abbrev still : (words : List ℕ) → IsReadingPipe after (record (slot_at s n) { extra = words }) v.b fd va len done
  still words = record {
    taken = it.taken;
    is_in = in_with_words words it.is_in;
    below = it.below;
    open_end = record {
      entry = it.open_end.entry;
      stands = row_kept (descriptor_page fd) ∙ it.open_end.stands;
      device = ap device_of (beside (descriptor_page fd) (is_descriptors fd it.below) it.open_end.entry it.open_end.stands) ∙ it.open_end.device;
      mode_is = ap mode_of (beside (descriptor_page fd) (is_descriptors fd it.below) it.open_end.entry it.open_end.stands) ∙ it.open_end.mode_is;
      page = it.open_end.page;
      lies = row_kept (pipe_page fd) ∙ it.open_end.lies;
    };
    many = it.many;
    inside = it.inside;
    small = it.small;
    kept = record {
      entry = own;
      stands = row_kept working_page ∙ it.kept.stands;
      own_page = it.kept.own_page;
      same = λ i lt. there i (omega (arith, lt)) ∙ had i lt;
    };
  }

  pipe_same : sp.pages page.frame ≡ s.spaces.pages page.frame
  pipe_same = beside (pipe_page fd) (is_pipes fd it.below) page v.at.1.lies

  so_before : StandsAtStep after (slot_at s n) v.b reading (step.Piped here)
  so_before = (
    (still (slot_at s n).extra, v.at.0.1),
    record {
      page = page;
      lies = row_kept (pipe_page fd) ∙ v.at.1.lies;
      so = subst (λ (l : List ℕ). (read_of l ≡ from) × (held_of l ≢ 0) × (pipe_byte l from ≡ byte)) (sym pipe_same) v.at.1.so;
    },
  )

  pub keeps_held : KeepsHeld names s a n fd va len done from byte
  keeps_held = record {
    spaces = sp;
    step_is = subst (λ (at : ℕ). store_byte s n at (byte % 256) ≡ giving (with_spaces s sp) tt) va_is puts.step_is;
    stands = λ order.
        let to : PipeStep = pipe.TakingHeld done from in
        let words : List ℕ = words_at (number_of reading) (step.Piped to) in
        let same : StandsFor names (with_spaces s sp) a =
        unseen_rewritten h n v.b v.is working_page
        (logical_plain s.spaces s.environments.slots n (clients_live h n v.b v.is) plain working_page) working_outside working_no_descriptor own it.kept.stands it.kept.own_page writes bytes
        (with_byte_whole (s.spaces.pages own.frame) done (byte % 256) (omega arith) whole) puts.rewritten order (others_counts h n last sp)
        (subst (λ (p : Place). StandsAt p after (slot_at s n) v.b) (sym v.place) so_before) in
        words_alike same n (number_of reading) v.b v.is (born_at same n v.b v.is) v.outside (piped_unborne h n reading fd refl here v) reading
        (step.Piped to) (ap holds_page v.place) refl (named_at (slot_at s n) reading (step.Piped here) v.place)
        (piped_makes_none h n reading fd refl here v) refl
        (subst (λ (p : Place). PipesAlike p (place.InService reading (step.Piped to))) (sym v.place)
        (piped_alike reading fd refl here to refl (λ q. refl) (λ q. refl))) (
          (still words, v.at.0.1),
          record {
            page = page;
            lies = row_kept (pipe_page fd) ∙ v.at.1.lies;
            so = (
              ap read_of pipe_same ∙ v.at.1.so.0,
              subst (λ (l : List ℕ). held_of l ≢ 0) (sym pipe_same) v.at.1.so.1,
              record {
                entry = own;
                stands = row_kept working_page ∙ it.kept.stands;
                own_page = it.kept.own_page;
                same = λ i lt. there i (omega (arith, lt))
                    ∙ ap (λ (l : List ℕ). slice_index (it.taken ++ pipe_byte l from ∷ []) i) (sym pipe_same);
              },
            );
          },
        );
  }
