-- Service pipe puts into the pages of its two descriptors what they name: that this is an end of a pipe, and that one is the end for writing. Nobody
-- sees these pages: the kernel's state goes on standing for the same abstract one.
use Rattle.std.proofs.Common.{◌≡◌, ◌≢◌, ◌∙◌, ◌+◌, ◌*◌, ◌<◌, ◌≤◌, ◌==◌, ◌&&◌, ℕ, Bool, true, false, List, Some}
use Rattle.std.proofs.Common.{refl, sym, ap, subst, arith, if◌then◌else◌}
use Rattle.std.specs.Int.{to_le_bytes, w32}
use Rattle.std.specs.Option.{option_map}
use Rattle.std.proofs.lemmas.Bool.Decides.{nat_tests}
use Rattle.std.proofs.lemmas.Option.{same_Some}
use Rattle.jos_base.specs.declared.numbers.TheConstants.{PGSIZE}
use Rattle.jos_base.specs.KernelState.{KernelState, slot_at, with_extra, with_spaces}
use Rattle.jos_base.specs.Reach.{Entry}
use Rattle.jos_base.specs.SpacesState.{SpacesState}
use Rattle.jos_base.specs.SystemCalls.{has_write, is_page_perm}
use Rattle.jos_base.specs.Words.{page_number}
use Rattle.jos_base.proofs.Maps.{upd-at, upd-other}
use Rattle.jos_base.proofs.Puts.{Elsewhere}
use Rattle.lib_os.specs.declared.numbers.TheConstants.{DESCRIPTORS, DEVICE_PIPE, FD_DEVICE, FD_MODE, REQUEST}
use Rattle.lib_os.specs.declared.place.PipeStep.{PipeStep}
use Rattle.lib_os.specs.declared.place.PipeStep.TheVariants as pipe
use Rattle.lib_os.specs.declared.place.Place.TheVariants as place
use Rattle.lib_os.specs.declared.place.Step.TheVariants as step
use Rattle.lib_os.specs.declared.progress.Progress.TheVariants as progress
use Rattle.lib_os.specs.declared.service.Service.TheVariants as service
use Rattle.lib_os.specs.AbstractState.{AbstractState, Born, born}
use Rattle.lib_os.specs.DescriptorPages.{device_of, lasting_words, mode_of}
use Rattle.lib_os.specs.InOrder.{IsInOrder}
use Rattle.lib_os.specs.PipeEnds.{is_dropped}
use Rattle.lib_os.specs.Places.{place_of, words_at}
use Rattle.lib_os.specs.Rows.{EntryRow, IsPage, MayBeHad, Names, Rows, as_own, descriptor_at, descriptor_page, descriptor_perm, is_making}
use Rattle.lib_os.specs.Rows.{is_of_descriptor}
use Rattle.lib_os.specs.Rows.{is_shared, logical, makes, pipe_page, rows_of, server_row}
use Rattle.lib_os.specs.StandsAtPipe.{AreLowestFree, HasNone, IsMakingPipe, TellsEnd}
use Rattle.lib_os.specs.StandsFor.{StandsAt, StandsFor, things_in, view_of}
use Rattle.lib_os.specs.UserCalls.{giving, store}
use Rattle.lib_os.proofs.BytesKept.{PutsBytes, store_puts}
use Rattle.lib_os.proofs.BytesPut.{bytes_put, put_whole}
use Rattle.lib_os.proofs.CopiesStored.{IsRewritten}
use Rattle.lib_os.proofs.DescriptorLooks.{descriptor_va, entry_bits, page_is_below}
use Rattle.lib_os.proofs.EntriesCount.{entry_counts}
use Rattle.lib_os.proofs.EntriesStand.{RowsStand, named_bytes}
use Rattle.lib_os.proofs.GoingOn.{in_with_words}
use Rattle.lib_os.proofs.Logical.{both}
use Rattle.lib_os.proofs.Numbered.{number_of}
use Rattle.lib_os.proofs.PageBytes.{word_bytes}
use Rattle.lib_os.proofs.PipeBytes.{word_before, word_behind, word_there}
use Rattle.lib_os.proofs.PipeMaking.{IsNextMade, counted_before, counted_own, counted_still, counted_then, making_counts, making_descriptor}
use Rattle.lib_os.proofs.PipeMaking.{making_goes_on, making_moved}
use Rattle.lib_os.proofs.PipeTaken.{made_first, made_second, undescribed_made}
use Rattle.lib_os.proofs.Serving.{IsServed, served}
use Rattle.lib_os.proofs.SlotsStand.{SeenAlike, born_at}
use Rattle.lib_os.proofs.StatesStand.{others_count}

-- ---- a page that is made has other bytes

module _ {names : Names} {s : KernelState} {a : AbstractState} {sp : SpacesState} (h : StandsFor names s a) (n : ℕ) (b : Born)
    (is : a.slots n ≡ born b) (from to : PipeStep) (stands : place_of (slot_at s n) ≡ place.InService service.Pipe (step.Piped from))
    (next : IsNextMade from to) (alike : (fd : ℕ) → makes to fd ≡ makes from fd) (p : ℕ) (making : is_making from p ≡ true) (e : Entry)
    (e_is : rows_of s.spaces (slot_at s n).directory p ≡ Some e) (bytes : List ℕ) (is_page : IsPage bytes)
    (rewritten : IsRewritten s.spaces sp e.frame bytes) where
  abbrev home : ℕ
  home = (slot_at s n).directory

  abbrev before : Rows
  before = logical s.spaces s.environments.slots

  -- it counts as its maker's own
  counts_own : (q : ℕ) (x : Entry) → is_making from q ≡ true → rows_of s.spaces home q ≡ Some x → before n q ≡ Some (as_own x)
  counts_own q x made hx =
      counted_before h n b is from to stands q ∙ counted_own from (rows_of s.spaces home) q made ∙ ap (option_map as_own) hx

  e_counts : before n p ≡ Some (as_own e)
  e_counts = counts_own p e making e_is

  -- nothing else that counts has the frame
  alone : (m q : ℕ) (x : Entry) → Elsewhere m q n p → before m q ≡ Some x → x.frame ≢ e.frame
  alone m q x ne hx same =
      let agrees = h.apart m q n p x (as_own e) ne hx e_counts same in
      let contradiction : true ≡ false = (agrees.read_only agrees.shared).1 in cc

  -- nor has the file server
  no_servers : (q : ℕ) (y : Entry) → server_row s.spaces s.environments.slots q ≡ Some y → y.frame ≢ e.frame
  no_servers q y lies same = by_page (q == page_number REQUEST) (h.beside n p q (as_own e) y e_counts lies (sym same))
    where
      by_page : (c : Bool) → MayBeHad c p (as_own e) → ⊥
      by_page true had = let contradiction : true ≡ false = sym (both _ _ making).0 ∙ ap is_of_descriptor had.0 in cc
      by_page false had = let contradiction : false ≡ true = had.shared in cc

  row_kept : (q r : ℕ) → rows_of sp q r ≡ rows_of s.spaces q r
  row_kept q r = ap (λ (rows : Rows). rows q r) rewritten.rows

  bytes_kept : (f : ℕ) → f ≢ e.frame → sp.pages f ≡ s.spaces.pages f
  bytes_kept f ne = ap (λ (pages : ℕ → List ℕ). pages f) rewritten.pages ∙ upd-other s.spaces.pages e.frame bytes f ne

  bytes_are : sp.pages e.frame ≡ bytes
  bytes_are = ap (λ (pages : ℕ → List ℕ). pages e.frame) rewritten.pages ∙ upd-at s.spaces.pages e.frame bytes

  -- its other pages keep their bytes
  own_beside : (q : ℕ) (x : Entry) → q ≢ p → rows_of s.spaces home q ≡ Some x → sp.pages x.frame ≡ s.spaces.pages x.frame
  own_beside q x ne hx = by_page (is_making from q) refl
    where
      by_page : (c : Bool) → is_making from q ≡ c → sp.pages x.frame ≡ s.spaces.pages x.frame
      by_page true made = bytes_kept x.frame (alone n q (as_own x) (λ same. ne) (counts_own q x made hx))
      by_page false none =
          bytes_kept x.frame (alone n q x (λ same. ne)
          (counted_before h n b is from to stands q ∙ counted_still from (rows_of s.spaces home) q none ∙ hx))

  -- nothing that is seen of other spaces differs
  others : (q : ℕ) → q ≢ home → SeenAlike names names s.spaces sp q
  others q ne = record {
    rows = ap (λ (rows : Rows). rows q) rewritten.rows;
    bytes = λ r x hx own_too. elsewhere r x hx;
    named_so = λ r x hx shared_page. refl;
    devices = λ r x descriptor hx shared_page. ap lasting_words (elsewhere r x hx);
    pipes = λ r x pipes hx shared_page. elsewhere r x hx;
    regions = rewritten.regions q;
  }
    where
      by_space : (r : ℕ) (x : Entry) → rows_of s.spaces q r ≡ Some x → (c : Bool) → (q == (slot_at s 0).directory) ≡ c →
          sp.pages x.frame ≡ s.spaces.pages x.frame
      by_space r x hx true test =
          let same : q ≡ (slot_at s 0).directory = grind (arith, nat_tests) in
          bytes_kept x.frame (no_servers r x (ap (λ (d : ℕ). rows_of s.spaces d r) (sym same) ∙ hx))
      by_space r x hx false test =
          let found = entry_counts h q r x (grind (arith, nat_tests)) hx in
          let other : Elsewhere found.slot found.page n p =
          λ same. absurd (ne (sym (found.home n b is same))) in
          bytes_kept x.frame (λ same. alone found.slot found.page found.entry other found.counts (found.frame ∙ same))

      elsewhere : (r : ℕ) (x : Entry) → rows_of s.spaces q r ≡ Some x → sp.pages x.frame ≡ s.spaces.pages x.frame
      elsewhere r x hx = by_space r x hx (q == (slot_at s 0).directory) refl

  same_making : (q : ℕ) → is_making to q ≡ is_making from q
  same_making q = by_page (is_of_descriptor q)
    where
      by_page : (d : Bool) → (d && makes to (descriptor_at q)) ≡ (d && makes from (descriptor_at q))
      by_page true = alike (descriptor_at q)
      by_page false = refl

  unmade_beside : (q : ℕ) → is_making to q ≡ false → q ≢ p
  unmade_beside q none same =
      let contradiction : true ≡ false = sym making ∙ ap (is_making from) (sym same) ∙ sym (same_making q) ∙ none in cc

  -- all entries count as they did
  counts_kept : (m q : ℕ) → making_counts s n to sp m q ≡ before m q
  counts_kept m q = by_slot (m == n) refl
    where
      by_slot : (c : Bool) → (m == n) ≡ c → making_counts s n to sp m q ≡ before m q
      by_slot true test =
          let same : m ≡ n = grind (arith, nat_tests) in
          subst (λ (r : ℕ). making_counts s n to sp r q ≡ before r q) (sym same)
          (counted_then h n b is from to stands sp q
          ∙ (λ i. if same_making q i then option_map as_own (row_kept home q i) else row_kept home q i)
          ∙ sym (counted_before h n b is from to stands q))
      by_slot false test = others_count h n b is (making_moved s n to) others m (grind (arith, nat_tests)) q

  counted_bytes : (m q : ℕ) (x : Entry) → before m q ≡ Some x → is_shared x.perm ≡ true → sp.pages x.frame ≡ s.spaces.pages x.frame
  counted_bytes m q x hx shared_page = bytes_kept x.frame (alone m q x not_here hx)
    where
      not_here : Elsewhere m q n p
      not_here same too =
          let it : as_own e ≡ x = same_Some (as_own e) x (sym e_counts ∙ (λ i. before (sym same i) (sym too i)) ∙ hx) in
          let contradiction : false ≡ true = ap (λ (y : Entry). is_shared y.perm) it ∙ shared_page in cc

  as_whole : (m q : ℕ) (x : Entry) → before m q ≡ Some x → IsPage (sp.pages x.frame)
  as_whole m q x hx = by_frame (x.frame == e.frame) refl
    where
      by_frame : (c : Bool) → (x.frame == e.frame) ≡ c → IsPage (sp.pages x.frame)
      by_frame true test =
          let same : x.frame ≡ e.frame = grind (arith, nat_tests) in
          subst (λ (page : List ℕ). IsPage page) (sym (ap sp.pages same ∙ bytes_are)) is_page
      by_frame false test =
          subst (λ (page : List ℕ). IsPage page) (sym (bytes_kept x.frame (grind (arith, nat_tests)))) (h.whole m q x hx)

  rows_kept : RowsStand names sp.pages a.shared (things_in s a) a.next_name (making_counts s n to sp)
  rows_kept = record {
    apart = λ m o q r x y ne hx hy same. h.apart m o q r x y ne (sym (counts_kept m o) ∙ hx) (sym (counts_kept q r) ∙ hy) same;
    named = λ m q x hx shared_page.
        let it : before m q ≡ Some x = sym (counts_kept m q) ∙ hx in
        named_bytes (sym (counted_bytes m q x it shared_page)) (h.named m q x it shared_page);
    users = λ m q x hx. h.users m q x (sym (counts_kept m q) ∙ hx);
    whole = λ m q x hx. as_whole m q x (sym (counts_kept m q) ∙ hx);
    beside = λ m q r x y hx it. h.beside m q r x y (sym (counts_kept m q) ∙ hx) it;
  }

  pub stored_goes_on : s.last ≡ Some n →
      ((fd : ℕ) → is_dropped (place.InService service.Pipe (step.Piped from)) fd ≡ false) →
      StandsAt (place.InService service.Pipe (step.Piped to)) (view_of sp (slot_at s n).directory) (making_moved s n to) b →
      IsInOrder (with_spaces s sp) → StandsFor names (with_extra (with_spaces s sp) n (words_at (number_of service.Pipe) (step.Piped to))) a
  stored_goes_on last undropped so in_order =
      making_goes_on h n b is from to stands next others (λ q none. row_kept home q) (λ q x none hx. own_beside q x (unmade_beside q none) hx)
      (λ fd made. undescribed_made h n b is from stands undropped fd (sym (alike fd) ∙ made))
      (λ q x made hx. (born_at h n b is).library.descriptors q x (both _ _ made).0 (sym (row_kept home q) ∙ hx)) counted_bytes last
      (record {
        have = λ r has. rewritten.regions home r ∙ (born_at h n b is).regions_have r has;
        only = λ r has. (born_at h n b is).regions_only r (sym (rewritten.regions home r) ∙ has);
      }) rows_kept so in_order

  -- ---- what stands at the next step

  pub end_still : (fd device mode : ℕ) → descriptor_page fd ≢ p → TellsEnd (view_of s.spaces (slot_at s n).directory) fd device mode →
      TellsEnd (view_of sp (slot_at s n).directory) fd device mode
  end_still fd device mode ne it =
      let same = own_beside (descriptor_page fd) it.entry ne it.stands in
      record {
        entry = it.entry;
        stands = row_kept home (descriptor_page fd) ∙ it.stands;
        device_is = ap device_of same ∙ it.device_is;
        mode_is = ap mode_of same ∙ it.mode_is;
      }

  -- the page tells what its bytes tell
  pub end_told : (fd device mode : ℕ) → p ≡ descriptor_page fd → device_of bytes ≡ device → mode_of bytes ≡ mode →
      TellsEnd (view_of sp (slot_at s n).directory) fd device mode
  end_told fd device mode same device_is mode_is = record {
    entry = e;
    stands = row_kept home (descriptor_page fd) ∙ ap (rows_of s.spaces home) (sym same) ∙ e_is;
    device_is = ap device_of bytes_are ∙ device_is;
    mode_is = ap mode_of bytes_are ∙ mode_is;
  }

  pub none_still : (q : ℕ) → HasNone (view_of s.spaces (slot_at s n).directory) q → HasNone (view_of sp (slot_at s n).directory) q
  none_still q none = row_kept home q ∙ none

  pub lowest_still : (reading writing : ℕ) → AreLowestFree (rows_of s.spaces (slot_at s n).directory) reading writing →
      AreLowestFree (rows_of sp (slot_at s n).directory) reading writing
  lowest_still reading writing it =
      subst (λ (row : EntryRow). AreLowestFree row reading writing) (sym (ap (λ (rows : Rows). rows home) rewritten.rows)) it

-- ---- a word is put into it

-- What the store comes to: it gives nothing, and the state behind it stands for the same abstract one at the next step.
pub record IsEndStored (names : Names) (s : KernelState) (a : AbstractState) (n va word : ℕ) (to : PipeStep) : Type 0 where
  pub spaces : SpacesState
  pub step_is : store s n va word ≡ giving (with_spaces s spaces) tt
  pub stands : IsInOrder (with_spaces s spaces) →
      StandsFor names (with_extra (with_spaces s spaces) n (words_at (number_of service.Pipe) (step.Piped to))) a

-- The same with what is so then of the pages: this one tells what its bytes tell, and the others are as they were.
pub record EndStored (names : Names) (s : KernelState) (a : AbstractState) (n : ℕ) (b : Born) (to : PipeStep) (fd : ℕ) (page : List ℕ) (o word : ℕ) :
    Type 0 where
  pub spaces : SpacesState
  pub step_is : store s n (descriptor_va fd + o) word ≡ giving (with_spaces s spaces) tt
  pub goes_on : StandsAt (place.InService service.Pipe (step.Piped to)) (view_of spaces (slot_at s n).directory) (making_moved s n to) b →
      IsInOrder (with_spaces s spaces) → StandsFor names (with_extra (with_spaces s spaces) n (words_at (number_of service.Pipe) (step.Piped to))) a
  pub told : (device mode : ℕ) → device_of (bytes_put page o (to_le_bytes w32 word)) ≡ device →
      mode_of (bytes_put page o (to_le_bytes w32 word)) ≡ mode → TellsEnd (view_of spaces (slot_at s n).directory) fd device mode
  pub other : (q device mode : ℕ) → q ≢ fd → TellsEnd (view_of s.spaces (slot_at s n).directory) q device mode →
      TellsEnd (view_of spaces (slot_at s n).directory) q device mode
  pub none : (q : ℕ) → HasNone (view_of s.spaces (slot_at s n).directory) q → HasNone (view_of spaces (slot_at s n).directory) q
  pub lowest : (reading writing : ℕ) → AreLowestFree (rows_of s.spaces (slot_at s n).directory) reading writing →
      AreLowestFree (rows_of spaces (slot_at s n).directory) reading writing

device_within : FD_DEVICE + 4 ≤ PGSIZE
device_within = omega arith

mode_within : FD_MODE + 4 ≤ PGSIZE
mode_within = omega arith

module _ {names : Names} {s : KernelState} {a : AbstractState} (h : StandsFor names s a) (n : ℕ) (b : Born) (is : a.slots n ≡ born b)
    (from to : PipeStep) (stands : place_of (slot_at s n) ≡ place.InService service.Pipe (step.Piped from)) (next : IsNextMade from to)
    (alike : (fd : ℕ) → makes to fd ≡ makes from fd) (fd : ℕ) (below : fd < DESCRIPTORS) (made : makes from fd ≡ true) (device mode : ℕ)
    (it : TellsEnd (view_of s.spaces (slot_at s n).directory) fd device mode) (o word : ℕ) (within : o + 4 ≤ PGSIZE) where
  end_making : is_making from (descriptor_page fd) ≡ true
  end_making = making_descriptor from fd below ∙ made

  page_whole : IsPage (s.spaces.pages it.entry.frame)
  page_whole =
      h.whole n (descriptor_page fd) (as_own it.entry)
      (counted_before h n b is from to stands (descriptor_page fd)
      ∙ counted_own from (rows_of s.spaces (slot_at s n).directory) (descriptor_page fd) end_making ∙ ap (option_map as_own) it.stands)

  bits : it.entry.perm ≡ descriptor_perm
  bits = entry_bits h n b is fd it.entry below it.stands

  abbrev now : List ℕ
  now = bytes_put (s.spaces.pages it.entry.frame) o (to_le_bytes w32 word)

  pub end_whole : IsPage (s.spaces.pages it.entry.frame)
  end_whole = page_whole

  now_whole : IsPage (bytes_put (s.spaces.pages it.entry.frame) o (to_le_bytes w32 word))
  now_whole = put_whole (s.spaces.pages it.entry.frame) o (to_le_bytes w32 word) (word_bytes word) page_whole

  end_puts : PutsBytes s n it.entry o (to_le_bytes w32 word) (store s n (descriptor_va fd + o) word)
  end_puts =
      let place_is : descriptor_page fd * PGSIZE + o ≡ descriptor_va fd + o = omega (arith, below) in
      subst (λ (at : ℕ). PutsBytes s n it.entry o (to_le_bytes w32 word) (store s n at word)) place_is
      (store_puts s n (descriptor_page fd) (page_is_below fd below) it.entry it.stands (ap is_page_perm bits) (ap has_write bits) o
      (omega (arith, within)) word within)

  -- what stands then
  pub end_stored : s.last ≡ Some n → ((q : ℕ) → is_dropped (place.InService service.Pipe (step.Piped from)) q ≡ false) →
      EndStored names s a n b to fd (s.spaces.pages it.entry.frame) o word
  end_stored last undropped = record {
    spaces = end_puts.spaces;
    step_is = end_puts.step_is;
    goes_on = stored_goes_on h n b is from to stands next alike (descriptor_page fd) end_making it.entry it.stands now now_whole end_puts.rewritten last
        undropped;
    told = λ device_then mode_then device_is mode_is.
        end_told h n b is from to stands next alike (descriptor_page fd) end_making it.entry it.stands now now_whole end_puts.rewritten fd device_then
        mode_then refl device_is mode_is;
    other = λ q device_then mode_then ne.
        end_still h n b is from to stands next alike (descriptor_page fd) end_making it.entry it.stands now now_whole end_puts.rewritten q device_then
        mode_then (λ same. ne (omega (arith, same)));
    none = none_still h n b is from to stands next alike (descriptor_page fd) end_making it.entry it.stands now now_whole end_puts.rewritten;
    lowest = lowest_still h n b is from to stands next alike (descriptor_page fd) end_making it.entry it.stands now now_whole end_puts.rewritten;
  }

-- ---- the three stores

module _ {names : Names} {s : KernelState} {a : AbstractState} (h : StandsFor names s a) (n reading writing : ℕ) (last : s.last ≡ Some n) where
  -- the reading end's page tells that it is an end of a pipe
  pub reading_stored : place_of (slot_at s n) ≡ place.InService service.Pipe (step.Piped (pipe.StoringReading reading writing)) →
      IsEndStored names s a n (descriptor_va reading + FD_DEVICE) DEVICE_PIPE (pipe.TakingWriting reading writing)
  reading_stored stands =
      let v : IsServed names s a n service.Pipe (step.Piped (pipe.StoringReading reading writing)) =
      served h n service.Pipe (step.Piped (pipe.StoringReading reading writing)) stands in
      let it : IsMakingPipe (view_of s.spaces (slot_at s n).directory) (slot_at s n) v.b (pipe.StoringReading reading writing) reading writing = v.at in
      let order = it.lowest.order in
      let writing_below = it.lowest.below in
      let below : reading < DESCRIPTORS = omega (arith, order, writing_below) in
      let next : IsNextMade (pipe.StoringReading reading writing) (pipe.TakingWriting reading writing) =
      record { unlocked = refl; unlocked_after = refl; undropped = λ fd. refl; fewer = λ fd none. none } in
      let whole = end_whole h n v.b v.is (pipe.StoringReading reading writing) (pipe.TakingWriting reading writing) stands next (λ fd. refl) reading below
      (made_first reading writing) 0 0 it.so_far.0 FD_DEVICE DEVICE_PIPE device_within in
      let long = whole.long in
      let put = end_stored h n v.b v.is (pipe.StoringReading reading writing) (pipe.TakingWriting reading writing) stands next (λ fd. refl) reading below
      (made_first reading writing) 0 0 it.so_far.0 FD_DEVICE DEVICE_PIPE device_within last (λ fd. refl) in
      record {
        spaces = put.spaces;
        step_is = put.step_is;
        stands = put.goes_on (record {
          is_in = in_with_words (words_at (number_of service.Pipe) (step.Piped (pipe.TakingWriting reading writing))) it.is_in;
          lowest = put.lowest reading writing it.lowest;
          so_far = (
            put.told DEVICE_PIPE 0
                (word_there (s.spaces.pages it.so_far.0.entry.frame) FD_DEVICE DEVICE_PIPE (omega arith) (omega (arith, long)))
                (word_behind (s.spaces.pages it.so_far.0.entry.frame) FD_DEVICE (to_le_bytes w32 DEVICE_PIPE) FD_MODE (omega arith)
                ∙ it.so_far.0.mode_is),
            put.none (descriptor_page writing) it.so_far.1,
            put.none (pipe_page reading) it.so_far.2,
          );
          none = put.none (pipe_page writing) it.none;
        });
      }

  -- the writing end's tells so, too
  pub writing_stored : place_of (slot_at s n) ≡ place.InService service.Pipe (step.Piped (pipe.StoringWriting reading writing)) →
      IsEndStored names s a n (descriptor_va writing + FD_DEVICE) DEVICE_PIPE (pipe.StoringEndMode reading writing)
  writing_stored stands =
      let v : IsServed names s a n service.Pipe (step.Piped (pipe.StoringWriting reading writing)) =
      served h n service.Pipe (step.Piped (pipe.StoringWriting reading writing)) stands in
      let it : IsMakingPipe (view_of s.spaces (slot_at s n).directory) (slot_at s n) v.b (pipe.StoringWriting reading writing) reading writing = v.at in
      let order = it.lowest.order in
      let next : IsNextMade (pipe.StoringWriting reading writing) (pipe.StoringEndMode reading writing) =
      record { unlocked = refl; unlocked_after = refl; undropped = λ fd. refl; fewer = λ fd none. none } in
      let whole = end_whole h n v.b v.is (pipe.StoringWriting reading writing) (pipe.StoringEndMode reading writing) stands next (λ fd. refl) writing
      it.lowest.below (made_second reading writing) 0 0 it.so_far.1 FD_DEVICE DEVICE_PIPE device_within in
      let long = whole.long in
      let put = end_stored h n v.b v.is (pipe.StoringWriting reading writing) (pipe.StoringEndMode reading writing) stands next (λ fd. refl) writing
      it.lowest.below (made_second reading writing) 0 0 it.so_far.1 FD_DEVICE DEVICE_PIPE device_within last (λ fd. refl) in
      record {
        spaces = put.spaces;
        step_is = put.step_is;
        stands = put.goes_on (record {
          is_in = in_with_words (words_at (number_of service.Pipe) (step.Piped (pipe.StoringEndMode reading writing))) it.is_in;
          lowest = put.lowest reading writing it.lowest;
          so_far = (
            put.other reading DEVICE_PIPE 0 (λ same. omega (arith, same, order)) it.so_far.0,
            put.told DEVICE_PIPE 0
                (word_there (s.spaces.pages it.so_far.1.entry.frame) FD_DEVICE DEVICE_PIPE (omega arith) (omega (arith, long)))
                (word_behind (s.spaces.pages it.so_far.1.entry.frame) FD_DEVICE (to_le_bytes w32 DEVICE_PIPE) FD_MODE (omega arith)
                ∙ it.so_far.1.mode_is),
            put.none (pipe_page reading) it.so_far.2,
          );
          none = put.none (pipe_page writing) it.none;
        });
      }

  -- and that it is for writing
  pub end_mode_stored : place_of (slot_at s n) ≡ place.InService service.Pipe (step.Piped (pipe.StoringEndMode reading writing)) →
      IsEndStored names s a n (descriptor_va writing + FD_MODE) 1 (pipe.TakingPipe reading writing)
  end_mode_stored stands =
      let v : IsServed names s a n service.Pipe (step.Piped (pipe.StoringEndMode reading writing)) =
      served h n service.Pipe (step.Piped (pipe.StoringEndMode reading writing)) stands in
      let it : IsMakingPipe (view_of s.spaces (slot_at s n).directory) (slot_at s n) v.b (pipe.StoringEndMode reading writing) reading writing = v.at in
      let order = it.lowest.order in
      let next : IsNextMade (pipe.StoringEndMode reading writing) (pipe.TakingPipe reading writing) =
      record { unlocked = refl; unlocked_after = refl; undropped = λ fd. refl; fewer = λ fd none. none } in
      let whole = end_whole h n v.b v.is (pipe.StoringEndMode reading writing) (pipe.TakingPipe reading writing) stands next (λ fd. refl) writing
      it.lowest.below (made_second reading writing) DEVICE_PIPE 0 it.so_far.1 FD_MODE 1 mode_within in
      let long = whole.long in
      let put = end_stored h n v.b v.is (pipe.StoringEndMode reading writing) (pipe.TakingPipe reading writing) stands next (λ fd. refl) writing
      it.lowest.below (made_second reading writing) DEVICE_PIPE 0 it.so_far.1 FD_MODE 1 mode_within last (λ fd. refl) in
      record {
        spaces = put.spaces;
        step_is = put.step_is;
        stands = put.goes_on (record {
          is_in = in_with_words (words_at (number_of service.Pipe) (step.Piped (pipe.TakingPipe reading writing))) it.is_in;
          lowest = put.lowest reading writing it.lowest;
          so_far = (
            put.other reading DEVICE_PIPE 0 (λ same. omega (arith, same, order)) it.so_far.0,
            put.told DEVICE_PIPE 1
                (word_before (s.spaces.pages it.so_far.1.entry.frame) FD_MODE (to_le_bytes w32 1) FD_DEVICE (omega arith) ∙ it.so_far.1.device_is)
                (word_there (s.spaces.pages it.so_far.1.entry.frame) FD_MODE 1 (omega arith) (omega (arith, long))),
            put.none (pipe_page reading) it.so_far.2,
          );
          none = put.none (pipe_page writing) it.none;
        });
      }
