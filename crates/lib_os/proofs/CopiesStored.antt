-- The kernel's state goes on standing for the same abstract one where the handler of page faults stores a word in the copy of a page:
-- nobody else has the copy's frame, and nothing is seen of it.
use Rattle.std.proofs.Common.{◌≡◌, ◌≢◌, ◌∙◌, ◌⊎◌, ◌==◌, ◌+◌, ◌-◌, ◌*◌, ◌%◌, ◌<◌, ◌≤◌, inl, inr, ℕ, zero, suc, Bool, true, false, List, ◌∷◌, []}
use Rattle.std.proofs.Common.{length}
use Rattle.std.proofs.Common.{Some, refl, sym, ap, subst, arith}
use Rattle.std.specs.Prelude.{is_some, nat_lt, slice_index}
use Rattle.std.specs.Int.{w32, to_le_bytes}
use Rattle.std.proofs.lemmas.Bool.Decides.{nat_tests}
use Rattle.std.proofs.lemmas.Nat.{le_bytes_4}
use Rattle.std.proofs.lemmas.Option.{same_Some}
use Rattle.jos_base.specs.declared.memory.Access.TheVariants.{Write}
use Rattle.jos_base.specs.declared.numbers.TheConstants.{PGSIZE, UTEMP}
use Rattle.jos_base.specs.Counting.{page_limit}
use Rattle.jos_base.specs.KernelState.{KernelState, slot_at, with_spaces, with_registers}
use Rattle.jos_base.specs.Reach.{Entry, allows}
use Rattle.jos_base.specs.SpacesState.{SpacesState}
use Rattle.jos_base.specs.SystemCalls.{has_write, is_page_perm}
use Rattle.jos_base.specs.UserMemory.{touched}
use Rattle.jos_base.specs.Words.{page_number, upd}
use Rattle.lib_os.specs.declared.numbers.TheConstants.{PAGE_WORDS, PFTEMP, UXSTACK, PGFAULT_UPCALL}
use Rattle.lib_os.specs.declared.place.HandlerStep.{HandlerStep}
use Rattle.lib_os.specs.declared.place.HandlerStep.TheVariants as handler
use Rattle.lib_os.specs.declared.place.Place.{Place}
use Rattle.lib_os.specs.declared.place.Place.TheVariants as place
use Rattle.lib_os.specs.AbstractState.{AbstractState}
use Rattle.lib_os.specs.DescriptorPages.{lasting_words}
use Rattle.lib_os.specs.InOrder.{IsInOrder}
use Rattle.lib_os.specs.LibraryPages.{LibraryPages, IsOwnWritable, has_copy}
use Rattle.lib_os.specs.Places.{place_of, handler_registers}
use Rattle.lib_os.specs.Rows.{Names, Rows, AreBytes, IsPage, rows_of, logical, descriptor_seen, page_seen, seen_where, shown_at}
use Rattle.lib_os.specs.Rows.{is_clients, is_programs, is_shared, pipe_page}
use Rattle.lib_os.specs.StandingLaws.{IsHandlerStep}
use Rattle.lib_os.specs.StandsFor.{StandsFor, things_in, view_of, upcall_at, borne_in}
use Rattle.lib_os.specs.StandsInHandler.{Copies, CopiesAt, CopiesOrEnds, copies, ends, IsToCopy, IsCopiedTo, page_word}
use Rattle.lib_os.specs.UserCalls.{giving, accessing, with_user_word, store}
use Rattle.lib_os.proofs.Beneath.{same_writable}
use Rattle.lib_os.proofs.BytesPut.{bytes_put, put_whole, put_before, put_there, spaces_put, put_is, page_put, reached_to_write}
use Rattle.lib_os.proofs.BytesRead.{lasting_reads, lasting_writes}
use Rattle.lib_os.proofs.CopiesStand.{copy_page, copy_alone, copy_no_descriptor, copy_unseen, stack_beside, working_beside}
use Rattle.lib_os.proofs.CopiesStand.{handler_moved, copying_goes, copying_stands, counts_at}
use Rattle.lib_os.proofs.Effects.{Quiet}
use Rattle.lib_os.proofs.EntriesCount.{frames_apart, own_lacked}
use Rattle.lib_os.proofs.EntriesStand.{RowsStand, named_bytes, shown_same}
use Rattle.lib_os.proofs.EntryWords.{row_entry}
use Rattle.lib_os.proofs.Handled.{IsHandled, handled_part, handler_slot, handler_place}
use Rattle.lib_os.proofs.Logical.{is_plain, is_remapped, counted_plain, logical_plain, logical_beside, inside_programs, programs_beside}
use Rattle.lib_os.proofs.PageBytes.{word_bytes}
use Rattle.lib_os.proofs.Serving.{library_moved}
use Rattle.lib_os.proofs.SlotsStand.{SeenAlike, HasTables, descriptors_off, library_alike}
use Rattle.lib_os.proofs.StatesStand.{clients_live, others_count}
use Rattle.lib_os.proofs.Touching.{touched_quiet}
use Rattle.lib_os.proofs.StepsThere.{step_is_there}
use Rattle.jos_base.proofs.Maps.{upd-at, upd-other}
use Rattle.jos_base.proofs.Puts.{Elsewhere, place_cases}

-- ---- the bytes of one frame

-- They are others, and nothing else is.
pub record IsRewritten (s t : SpacesState) (frame : ℕ) (bytes : List ℕ) : Type 0 where
  pub rows : rows_of t ≡ rows_of s
  pub pages : t.pages ≡ upd s.pages frame bytes
  pub regions : (d r : ℕ) → is_some (t.regions d r) ≡ is_some (s.regions d r)

-- it copies, where it stores a word
storing_way : {names : Names} {s : KernelState} {a : AbstractState} {n va index word : ℕ} (v : IsHandled names s a n (handler.Storing va index word)) →
    Copies (handler.Storing va index word) (view_of s.spaces (slot_at s n).directory) (slot_at s n) v.b v.at.fault v.at.regs
storing_way {s = s} {n = n} {va = va} {index = index} {word = word} v = by_way v.at.way
  where
    by_way : CopiesOrEnds (handler.Storing va index word) (view_of s.spaces (slot_at s n).directory) (slot_at s n) v.b v.at.fault v.at.regs →
        Copies (handler.Storing va index word) (view_of s.spaces (slot_at s n).directory) (slot_at s n) v.b v.at.fault v.at.regs
    by_way (copies way) = way
    by_way (ends way) = absurd way.at

module _ {names : Names} {s : KernelState} {a : AbstractState} {sp : SpacesState} (h : StandsFor names s a) (n va index word : ℕ)
    (stands : place_of (slot_at s n) ≡ place.InHandler (handler.Storing va index word)) (copy : Entry)
    (copy_is : rows_of s.spaces (slot_at s n).directory copy_page ≡ Some copy) (bytes : List ℕ) (is_page : IsPage bytes)
    (rewritten : IsRewritten s.spaces sp copy.frame bytes) (in_order : IsInOrder (with_spaces s sp)) (last : s.last ≡ Some n) where
  abbrev from : HandlerStep
  from = handler.Storing va index word

  abbrev d : ℕ
  d = (slot_at s n).directory

  abbrev before : Rows
  before = logical s.spaces s.environments.slots

  abbrev v : IsHandled names s a n (handler.Storing va index word)
  v = handled_part h n (handler.Storing va index word) stands

  client : is_clients n (slot_at s n) ≡ true
  client = clients_live h n v.b v.is

  way : Copies from (view_of s.spaces d) (slot_at s n) v.b v.at.fault v.at.regs
  way = storing_way v

  library : LibraryPages (place.InHandler from) (slot_at s n).extra (rows_of s.spaces d)
  library = subst (λ (q : Place). LibraryPages q (slot_at s n).extra (rows_of s.spaces d)) stands v.own.library

  -- what stands in the space counts
  own_counts : (q : ℕ) (x : Entry) → rows_of s.spaces d q ≡ Some x → before n q ≡ Some x
  own_counts q x hx = logical_plain s.spaces s.environments.slots n client (ap is_plain stands) q ∙ hx

  copy_own : is_shared copy.perm ≡ false
  copy_own = let it = library.copy refl in ap (λ (e : Entry). is_shared e.perm) (same_Some copy it.entry (sym copy_is ∙ it.stands)) ∙ it.own_page

  copy_writes : has_write copy.perm ≡ true
  copy_writes = let it = library.copy refl in ap (λ (e : Entry). has_write e.perm) (same_Some copy it.entry (sym copy_is ∙ it.stands)) ∙ it.writes

  alone : (m q : ℕ) (x : Entry) → Elsewhere m q n copy_page → before m q ≡ Some x → x.frame ≢ copy.frame
  alone = copy_alone h n copy (own_counts copy_page copy copy_is) copy_own copy_writes

  -- ---- what is kept

  row_kept : (q r : ℕ) → rows_of sp q r ≡ rows_of s.spaces q r
  row_kept q r = ap (λ (rows : Rows). rows q r) rewritten.rows

  bytes_kept : (f : ℕ) → f ≢ copy.frame → sp.pages f ≡ s.spaces.pages f
  bytes_kept f ne = ap (λ (pages : ℕ → List ℕ). pages f) rewritten.pages ∙ upd-other s.spaces.pages copy.frame bytes f ne

  bytes_are : sp.pages copy.frame ≡ bytes
  bytes_are = ap (λ (pages : ℕ → List ℕ). pages copy.frame) rewritten.pages ∙ upd-at s.spaces.pages copy.frame bytes

  pub other_bytes : (q : ℕ) (x : Entry) → q ≢ copy_page → rows_of s.spaces (slot_at s n).directory q ≡ Some x → sp.pages x.frame ≡ s.spaces.pages x.frame
  other_bytes q x ne hx = bytes_kept x.frame (alone n q x (λ same. ne) (own_counts q x hx))

  others : (q : ℕ) → q ≢ d → SeenAlike names names s.spaces sp q
  others q ne = record {
    rows = ap (λ (rows : Rows). rows q) rewritten.rows;
    bytes = λ r x hx own_page. elsewhere r x hx;
    named_so = λ r x hx shared_page. refl;
    devices = λ r x descriptor hx shared_page. ap lasting_words (elsewhere r x hx);
    pipes = λ r x pipes hx shared_page. elsewhere r x hx;
    regions = rewritten.regions q;
  }
    where
      elsewhere : (r : ℕ) (x : Entry) → rows_of s.spaces q r ≡ Some x → sp.pages x.frame ≡ s.spaces.pages x.frame
      elsewhere r x hx =
          bytes_kept x.frame (frames_apart h copy.frame
          (own_lacked h n copy_page copy (own_counts copy_page copy copy_is) (λ it. working_beside (sym it)) copy_own) q r x hx (λ found.
          alone found.slot found.page found.entry (λ same. absurd (ne (sym (found.home n v.b v.is same)))) found.counts))

  shown_kept : (q : ℕ) → q ≢ copy_page → shown_at names sp d q ≡ shown_at names s.spaces d q
  shown_kept q other =
      shown_same names names s.spaces sp d q (row_kept d q) (λ x hx own_page. other_bytes q x other hx) (λ x hx shared_page. refl)

  memory_kept : (q : ℕ) → page_seen names sp d q ≡ page_seen names s.spaces d q
  memory_kept q = by_page (q == copy_page) refl
    where
      by_page : (c : Bool) → (q == copy_page) ≡ c → page_seen names sp d q ≡ page_seen names s.spaces d q
      by_page true test =
          let same : q ≡ copy_page = grind (arith, nat_tests) in
          subst (λ (r : ℕ). page_seen names sp d r ≡ page_seen names s.spaces d r) (sym same)
          (copy_unseen names sp d ∙ sym (copy_unseen names s.spaces d))
      by_page false test =
          let other : q ≢ copy_page = grind (arith, nat_tests) in ap (seen_where (is_programs q)) (shown_kept q other)

  descriptors_kept : (fd : ℕ) → descriptor_seen names sp d fd ≡ descriptor_seen names s.spaces d fd
  descriptors_kept = descriptors_off names names s.spaces sp d copy_page copy_no_descriptor shown_kept

  tables_kept : HasTables sp d v.b.regions
  tables_kept = record {
    have = λ r is. rewritten.regions d r ∙ v.own.regions_have r is;
    only = λ r is. v.own.regions_only r (sym (rewritten.regions d r) ∙ is);
  }

  -- ---- what counts

  counted_bytes : (m q : ℕ) (x : Entry) → before m q ≡ Some x → is_shared x.perm ≡ true → sp.pages x.frame ≡ s.spaces.pages x.frame
  counted_bytes m q x hx shared_page = by_place (place_cases m q n copy_page)
    where
      by_place : ((m ≡ n) × (q ≡ copy_page)) ⊎ Elsewhere m q n copy_page → sp.pages x.frame ≡ s.spaces.pages x.frame
      by_place (inl here) =
          let it : copy ≡ x =
          same_Some copy x (sym (own_counts copy_page copy copy_is) ∙ (λ i. before (sym here.0 i) (sym here.1 i)) ∙ hx) in
          let contradiction : false ≡ true = sym copy_own ∙ ap (λ (e : Entry). is_shared e.perm) it ∙ shared_page in absurd cc
      by_place (inr there) = bytes_kept x.frame (alone m q x there hx)

  as_whole : (m q : ℕ) (x : Entry) → before m q ≡ Some x → IsPage (sp.pages x.frame)
  as_whole m q x hx = by_frame (x.frame == copy.frame) refl
    where
      by_frame : (c : Bool) → (x.frame == copy.frame) ≡ c → IsPage (sp.pages x.frame)
      by_frame true test =
          let same : x.frame ≡ copy.frame = grind (arith, nat_tests) in
          subst (λ (page : List ℕ). IsPage page) (sym (ap sp.pages same ∙ bytes_are)) is_page
      by_frame false test =
          subst (λ (page : List ℕ). IsPage page) (sym (bytes_kept x.frame (grind (arith, nat_tests)))) (h.whole m q x hx)

  -- a step at which entries count as they stand, with the copy where it was made
  module _ (to : HandlerStep) (there : IsHandlerStep to) (plain : is_plain (place.InHandler to) ≡ true)
      (copy_stays : has_copy (place.InHandler to) ≡ true) (upcall : upcall_at (place.InHandler to) ≡ PGFAULT_UPCALL) where
    abbrev after : Rows
    after = logical sp (upd s.environments.slots n (handler_slot (slot_at s n) to))

    counts_kept : (m q : ℕ) → after m q ≡ before m q
    counts_kept m q = by_slot (m == n) refl
      where
        here : after n q ≡ before n q
        here =
            counts_at sp s.environments.slots n to client v.inside there q
            ∙ counted_plain (place.InHandler to) (rows_of sp d) plain q ∙ row_kept d q
            ∙ sym (logical_plain s.spaces s.environments.slots n client (ap is_plain stands) q)

        by_slot : (c : Bool) → (m == n) ≡ c → after m q ≡ before m q
        by_slot true test =
            let same : m ≡ n = grind (arith, nat_tests) in subst (λ (o : ℕ). after o q ≡ before o q) (sym same) here
        by_slot false test = others_count h n v.b v.is (handler_slot (slot_at s n) to) others m (grind (arith, nat_tests)) q

    rows_kept : RowsStand names sp.pages a.shared (things_in s a) a.next_name after
    rows_kept = record {
      apart = λ m o q r x y ne hx hy same. h.apart m o q r x y ne (sym (counts_kept m o) ∙ hx) (sym (counts_kept q r) ∙ hy) same;
      named = λ m q x hx shared_page.
          let it : before m q ≡ Some x = sym (counts_kept m q) ∙ hx in
          named_bytes (sym (counted_bytes m q x it shared_page)) (h.named m q x it shared_page);
      users = λ m q x hx. h.users m q x (sym (counts_kept m q) ∙ hx);
      whole = λ m q x hx. as_whole m q x (sym (counts_kept m q) ∙ hx);
      beside = λ m q r x y hx is. h.beside m q r x y (sym (counts_kept m q) ∙ hx) is;
    }

    library_kept : LibraryPages (place.InHandler to) (slot_at s n).extra (rows_of sp d)
    library_kept =
        library_moved (place.InHandler from) (place.InHandler to) (slot_at s n).extra (slot_at s n).extra (rows_of sp d) (sym copy_stays) refl
        (library_alike (place.InHandler from) (slot_at s n).extra (rows_of s.spaces d) (rows_of sp d) (ap (λ (rows : Rows). rows d) rewritten.rows) library)

    pub rewritten_stands : CopiesAt to (view_of sp (slot_at s n).directory) v.at.fault.va →
        StandsFor names (with_registers (with_spaces s sp) n (handler_registers (slot_at s n).registers to)) a
    rewritten_stands goes =
        copying_stands h n v.b v.is to (ap borne_in stands) (ap borne_in (handler_place (slot_at s n) to v.inside there)) others
        (handler_moved to v.own v.inside there (v.own.upcall ∙ ap upcall_at stands ∙ sym upcall) memory_kept descriptors_kept library_kept tables_kept
        (copying_goes from to (view_of s.spaces d) (view_of sp d) (slot_at s n) v.b v.at way (row_kept d (page_number UXSTACK))
        (λ x hx own_page. other_bytes (page_number UXSTACK) x stack_beside hx)
        (same_writable (rows_of s.spaces d) (rows_of sp d) (λ q inside. row_kept d q))
        (record { row = row_kept d (page_number UTEMP); bytes = λ x hx own_page. other_bytes (page_number UTEMP) x working_beside hx }) goes)) rows_kept
        in_order last v.inside there (λ fd below. row_kept d (pipe_page fd)) (λ m q is. counts_kept m q) (λ m q x is hx shared_page. counted_bytes m q x hx shared_page)

-- ---- a word

-- the four bytes of a page from a place on
abbrev four : List ℕ → ℕ → List ℕ
four page at = slice_index page at ∷ slice_index page (at + 1) ∷ slice_index page (at + 2) ∷ slice_index page (at + 3) ∷ []

four_at : (page : List ℕ) (at i : ℕ) → i < 4 → slice_index (four page at) i ≡ slice_index page (at + i)
four_at page at zero lt = let here : at ≡ at + 0 = omega arith in ap (slice_index page) here
four_at page at (suc zero) lt = refl
four_at page at (suc (suc zero)) lt = refl
four_at page at (suc (suc (suc zero))) lt = refl
four_at page at (suc (suc (suc (suc i)))) lt = absurd (omega (arith, lt))

four_small : (page : List ℕ) (at : ℕ) → AreBytes page → AreBytes (four page at)
four_small page at small zero = small at
four_small page at small (suc zero) = small (at + 1)
four_small page at small (suc (suc zero)) = small (at + 2)
four_small page at small (suc (suc (suc zero))) = small (at + 3)
four_small page at small (suc (suc (suc (suc i)))) = omega arith

-- the word of those four has them as its bytes
word_is_four : (page : List ℕ) (at word : ℕ) → AreBytes page → word ≡ page_word page at →
    to_le_bytes w32 word ≡ four page at
word_is_four page at word small is = le_bytes_4 (four page at) word refl (four_small page at small) is

-- The first bytes stand in the copy, and those of the next word are put there.
word_copied : (page copy : List ℕ) (at word : ℕ) → AreBytes page → word ≡ page_word page at → at + 4 ≤ length copy →
    ((i : ℕ) → i < at → slice_index copy i ≡ slice_index page i) →
    (i : ℕ) → i < at + 4 → slice_index (bytes_put copy at (to_le_bytes w32 word)) i ≡ slice_index page i
word_copied page copy at word small is fits same i lt =
    subst (λ (bytes : List ℕ). slice_index (bytes_put copy at bytes) i ≡ slice_index page i) (sym (word_is_four page at word small is))
    (by_place (nat_lt i at) refl)
  where
    by_place : (c : Bool) → nat_lt i at ≡ c → slice_index (bytes_put copy at (four page at)) i ≡ slice_index page i
    by_place true test =
        let first : i < at = grind (arith, nat_tests) in put_before copy at (four page at) i first ∙ same i first
    by_place false test =
        let later : at ≤ i = grind (arith, nat_tests) in
        let place : i ≡ at + (i - at) = omega (arith, later) in
        subst (λ (j : ℕ). slice_index (bytes_put copy at (four page at)) j ≡ slice_index page j) (sym place)
        (put_there copy at (four page at) (i - at) (omega (arith, lt, later)) (omega (arith, fits)) ∙ four_at page at (i - at) (omega (arith, lt, later)))

module _ {names : Names} {s : KernelState} {a : AbstractState} {sp : SpacesState} (h : StandsFor names s a) (n va index word : ℕ)
    (stands : place_of (slot_at s n) ≡ place.InHandler (handler.Storing va index word)) (there : index < PAGE_WORDS) (copy : Entry)
    (copy_is : rows_of s.spaces (slot_at s n).directory copy_page ≡ Some copy)
    (rewritten : IsRewritten s.spaces sp copy.frame (bytes_put (s.spaces.pages copy.frame) (4 * index) (to_le_bytes w32 word)))
    (in_order : IsInOrder (with_spaces s sp)) (last : s.last ≡ Some n) where
  abbrev home : ℕ
  home = (slot_at s n).directory

  abbrev page : List ℕ
  page = bytes_put (s.spaces.pages copy.frame) (4 * index) (to_le_bytes w32 word)

  abbrev w : IsHandled names s a n (handler.Storing va index word)
  w = handled_part h n (handler.Storing va index word) stands

  copy_whole : IsPage (s.spaces.pages copy.frame)
  copy_whole =
      h.whole n copy_page copy (logical_plain s.spaces s.environments.slots n (clients_live h n w.b w.is) (ap is_plain stands) copy_page ∙ copy_is)

  page_whole : IsPage page
  page_whole = put_whole (s.spaces.pages copy.frame) (4 * index) (to_le_bytes w32 word) (word_bytes word) copy_whole

  copying : Copies (handler.Storing va index word) (view_of s.spaces home) (slot_at s n) w.b w.at.fault w.at.regs
  copying = storing_way w

  beside : page_number w.at.fault.va ≢ copy_page
  beside = (programs_beside _ (inside_programs w.at.fault.va copying.inside)).0

  source_kept : sp.pages copying.at.1.entry.frame ≡ s.spaces.pages copying.at.1.entry.frame
  source_kept =
      other_bytes {sp = sp} h n va index word stands copy copy_is page page_whole rewritten in_order last (page_number w.at.fault.va) copying.at.1.entry
      beside copying.at.1.stands

  source_stands : rows_of sp home (page_number w.at.fault.va) ≡ Some copying.at.1.entry
  source_stands = ap (λ (rows : Rows). rows home (page_number w.at.fault.va)) rewritten.rows ∙ copying.at.1.stands

  to_copy : IsToCopy (rows_of sp home) w.at.fault.va
  to_copy = let it = copying.at.1 in record {
    entry = it.entry;
    stands = source_stands;
    own_page = it.own_page;
    copied = it.copied;
  }

  copied_further : IsCopiedTo (4 * (index + 1)) (view_of sp home) w.at.fault.va
  copied_further =
      let it = copying.at.1 in
      let was = copying.at.2 in
      let told = copying.at.3 in
      let copy_same : was.copy ≡ copy = same_Some was.copy copy (sym was.copy_is ∙ copy_is) in
      let source_same : was.source ≡ it.entry = same_Some was.source it.entry (sym was.source_is ∙ it.stands) in
      let told_same : told.entry ≡ it.entry = same_Some told.entry it.entry (sym told.stands ∙ it.stands) in
      let source_whole : IsPage (s.spaces.pages it.entry.frame) =
      h.whole n (page_number w.at.fault.va) it.entry
      (logical_beside s.spaces s.environments.slots n (clients_live h n w.b w.is) (page_number w.at.fault.va) beside
      (ap (λ (q : Place). is_remapped q (page_number w.at.fault.va)) stands) ∙ it.stands) in
      let now : sp.pages copy.frame ≡ page =
      ap (λ (pages : ℕ → List ℕ). pages copy.frame) rewritten.pages ∙ upd-at s.spaces.pages copy.frame page in
      record {
        source = it.entry;
        copy = copy;
        source_is = source_stands;
        copy_is = ap (λ (rows : Rows). rows home copy_page) rewritten.rows ∙ copy_is;
        source_own = it.own_page;
        copy_own = ap (λ (e : Entry). is_shared e.perm) (sym copy_same) ∙ was.copy_own;
        same = λ i lt. ap (λ (list : List ℕ). slice_index list i) now
            ∙ word_copied (s.spaces.pages it.entry.frame) (s.spaces.pages copy.frame) (4 * index) word source_whole.small
            (told.word_is ∙ ap (λ (e : Entry). page_word (s.spaces.pages e.frame) (4 * index)) told_same) (let long = copy_whole.long in omega (arith, there, long))
            (λ j below. (λ k. slice_index (s.spaces.pages (sym copy_same k).frame) j) ∙ was.same j below
            ∙ (λ k. slice_index (s.spaces.pages (source_same k).frame) j)) i (omega (arith, lt))
            ∙ ap (λ (list : List ℕ). slice_index list i) (sym source_kept);
      }

  -- the next word is copied then
  pub word_stored : index + 1 < PAGE_WORDS →
      StandsFor names (with_registers (with_spaces s sp) n (handler_registers (slot_at s n).registers (handler.Loading va (index + 1)))) a
  word_stored more =
      rewritten_stands {sp = sp} h n va index word stands copy copy_is page page_whole rewritten in_order last (handler.Loading va (index + 1)) more refl refl refl
      (copying.at.0, to_copy, copied_further)

  -- that was the last
  pub last_stored : index + 1 ≡ PAGE_WORDS →
      StandsFor names (with_registers (with_spaces s sp) n (handler_registers (slot_at s n).registers (handler.MappingOver va))) a
  last_stored all =
      rewritten_stands {sp = sp} h n va index word stands copy copy_is page page_whole rewritten in_order last (handler.MappingOver va) tt refl refl refl
      (copying.at.0, to_copy, subst (λ (k : ℕ). IsCopiedTo (4 * k) (view_of sp home) w.at.fault.va) all copied_further)

-- ---- the store

-- The copy may be written: what the store comes to.
pub record StoresWord (s : KernelState) (n va index word : ℕ) : Type 0 where
  pub copy : Entry
  pub stands : rows_of s.spaces (slot_at s n).directory copy_page ≡ Some copy
  pub spaces : SpacesState
  pub rewritten : IsRewritten s.spaces spaces copy.frame (bytes_put (s.spaces.pages copy.frame) (4 * index) (to_le_bytes w32 word))
  pub step : store s n (PFTEMP + 4 * (index % PAGE_WORDS)) word ≡ giving (with_spaces s spaces) tt

copy_below : copy_page < page_limit
unfolding page_limit
copy_below = omega arith

-- an entry of a row, by which its page may be written
record WritesBy (s : SpacesState) (d : ℕ) (row : Entry) : Type 0 where
  entry : Entry
  stands : s.entries d copy_page ≡ Some entry
  frame : entry.frame ≡ row.frame
  may : allows entry.perm Write ≡ true

writes_by : (s : SpacesState) (d : ℕ) (row : Entry) → rows_of s d copy_page ≡ Some row → is_page_perm row.perm ≡ true → has_write row.perm ≡ true →
    WritesBy s d row
writes_by s d row is page writes =
    let raw = row_entry s d copy_page row is in
    let reads = lasting_reads raw.0.perm (ap (λ (e : Entry). is_page_perm e.perm) raw.2 ∙ page) in
    record {
      entry = raw.0;
      stands = raw.1;
      frame = ap (λ (e : Entry). e.frame) raw.2;
      may = lasting_writes raw.0.perm reads ∙ ap (λ (e : Entry). has_write e.perm) raw.2 ∙ writes;
    }

-- bytes that were put in the copy
put_rewritten : (s t : SpacesState) (d at : ℕ) (row : Entry) (bytes : List ℕ) → Quiet s t → (by_entry : WritesBy t d row) → at + length bytes ≤ PGSIZE →
    IsRewritten s (spaces_put t d (copy_page * PGSIZE + at) bytes) row.frame (bytes_put (s.pages row.frame) at bytes)
unfolding rows_of
put_rewritten s t d at row bytes quiet by_entry fits =
    let e = by_entry.entry in
    subst (λ (z : SpacesState). IsRewritten s z row.frame (bytes_put (s.pages row.frame) at bytes))
    (sym (page_put d copy_page e copy_below by_entry.may t at bytes by_entry.stands fits))
    (record {
      rows = quiet.rows;
      pages = λ i. upd (quiet.pages i) (by_entry.frame i) (bytes_put (quiet.pages i (by_entry.frame i)) at bytes);
      regions = quiet.regions;
    })

module _ {names : Names} {s : KernelState} {a : AbstractState} (h : StandsFor names s a) (n va index word : ℕ)
    (stands : place_of (slot_at s n) ≡ place.InHandler (handler.Storing va index word)) where
  abbrev dir : ℕ
  dir = (slot_at s n).directory

  abbrev at : ℕ
  at = PFTEMP + 4 * (index % PAGE_WORDS)

  -- the spaces in which the access has set its bits
  abbrev reached : SpacesState
  reached = touched s.spaces dir at Write

  abbrev put : SpacesState
  put = spaces_put reached dir at (to_le_bytes w32 word)

  abbrev x : IsHandled names s a n (handler.Storing va index word)
  x = handled_part h n (handler.Storing va index word) stands

  small : index < PAGE_WORDS
  small = step_is_there (slot_at s n) (handler.Storing va index word) stands

  at_copy : page_number at ≡ copy_page
  at_copy = omega arith

  its_copy : IsOwnWritable (rows_of s.spaces dir) copy_page
  its_copy =
      let pages : LibraryPages (place.InHandler (handler.Storing va index word)) (slot_at s n).extra (rows_of s.spaces dir) =
      subst (λ (q : Place). LibraryPages q (slot_at s n).extra (rows_of s.spaces dir)) stands x.own.library in
      pages.copy refl

  is_user : is_page_perm its_copy.entry.perm ≡ true
  is_user =
      (h.users n copy_page its_copy.entry
      (logical_plain s.spaces s.environments.slots n (clients_live h n x.b x.is) (ap is_plain stands) copy_page ∙ its_copy.stands)).page

  before_it : WritesBy s.spaces dir its_copy.entry
  before_it = writes_by s.spaces dir its_copy.entry its_copy.stands is_user its_copy.writes

  store_is : store s n at word ≡ giving (with_spaces s put) tt
  unfolding store
  store_is =
      let it = before_it in
      ap (accessing s n at Write (λ (k : KernelState). giving (with_user_word k n at word) tt))
      (reached_to_write s.spaces dir at it.entry (subst (λ (q : ℕ). q < page_limit) (sym at_copy) copy_below)
      (ap (s.spaces.entries dir) at_copy ∙ it.stands) it.may)
      ∙ ap (λ (k : KernelState). giving k tt) (put_is (with_spaces s reached) n at (to_le_bytes w32 word))

  pub stores_word : StoresWord s n va index word
  stores_word =
      let quiet = touched_quiet s.spaces dir at Write in
      let later : WritesBy reached dir its_copy.entry =
      writes_by reached dir its_copy.entry (ap (λ (rows : Rows). rows dir copy_page) quiet.rows ∙ its_copy.stands) is_user its_copy.writes in
      let place_is : copy_page * PGSIZE + 4 * index ≡ at = let lt = small in omega (arith, lt) in
      record {
        copy = its_copy.entry;
        stands = its_copy.stands;
        spaces = put;
        rewritten = subst
            (λ (q : ℕ). IsRewritten s.spaces (spaces_put reached dir q (to_le_bytes w32 word)) its_copy.entry.frame
            (bytes_put (s.spaces.pages its_copy.entry.frame) (4 * index) (to_le_bytes w32 word)))
            place_is
            (put_rewritten s.spaces reached dir (4 * index) its_copy.entry (to_le_bytes w32 word) quiet later (let lt = small in omega (arith, lt)));
        step = store_is;
      }
