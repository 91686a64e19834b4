-- What goes on standing where a page of an environment's own gets other bytes, which nobody else sees.
use Rattle.std.proofs.Common.{◌≡◌, ◌≢◌, ◌∙◌, ◌==◌, ◌≤◌, ◌<◌, ◌+◌, ◌++◌, ◌⊎◌, inl, inr, ℕ, Bool, true, false, List, length}
use Rattle.std.proofs.Common.{refl, sym, ap, subst, arith}
use Rattle.std.specs.Prelude.{Some, is_some, slice_index, take, drop}
use Rattle.std.proofs.Math.ListN.{get_or-append}
use Rattle.std.proofs.lemmas.Bool.Decides.{nat_tests}
use Rattle.std.proofs.lemmas.List.{get_or-append-add, length-take-le}
use Rattle.jos_base.specs.Environments.{Slot, is_live}
use Rattle.jos_base.specs.KernelState.{KernelState, slot_at}
use Rattle.jos_base.specs.Reach.{Entry}
use Rattle.jos_base.specs.SpacesState.{SpacesState, overlaid}
use Rattle.jos_base.specs.SystemCalls.{has_write}
use Rattle.jos_base.specs.Words.{upd}
use Rattle.lib_os.specs.AbstractState.{AbstractState, Born, born}
use Rattle.lib_os.specs.DescriptorPages.{lasting_words}
use Rattle.lib_os.specs.PipeEnds.{LocksStand, locked_at}
use Rattle.lib_os.specs.Places.{place_of}
use Rattle.lib_os.specs.Rows.{Names, Rows, rows_of, counted, logical, logical_by, is_clients, is_of_descriptor, is_pipe_page, is_shared, own_perm, IsPage}
use Rattle.lib_os.specs.StandsFor.{StandsFor, things_in, view_of}
use Rattle.lib_os.proofs.EntriesCount.{Counts, ServerLacks, frames_apart}
use Rattle.lib_os.proofs.EntriesStand.{RowsStand, rows_same, same_sharing, other_frame, named_bytes}
use Rattle.lib_os.proofs.Logical.{is_plain, logical_plain}
use Rattle.lib_os.proofs.PipesStand.{locks_same}
use Rattle.lib_os.proofs.SlotsStand.{SameDevices, SamePipes, SeenAlike}
use Rattle.lib_os.proofs.StatesStand.{CountsAlike, set_counts, clients_live}
use Rattle.jos_base.proofs.Maps.{upd-alike, upd-at, upd-other}

-- ---- bytes that are laid over others

-- the page has them where they were laid
pub overlaid_at : (old bytes : List ℕ) (offset : ℕ) → offset ≤ length old → (i : ℕ) → i < length bytes →
    slice_index (overlaid old offset bytes) (offset + i) ≡ slice_index bytes i
overlaid_at old bytes offset within i lt =
    let first : length (take offset old) ≡ offset = length-take-le offset old within in
    ap (λ (m : ℕ). slice_index (overlaid old offset bytes) (m + i)) (sym first)
    ∙ get_or-append-add (take offset old) (bytes ++ drop (offset + length bytes) old) i 0
    ∙ get_or-append bytes (drop (offset + length bytes) old) 0 i lt

-- ---- entries as they count

-- in spaces with the same entries
pub same_rows_count : (s t : SpacesState) → rows_of t ≡ rows_of s → (slots : ℕ → Slot) (m q : ℕ) → logical t slots m q ≡ logical s slots m q
same_rows_count s t same slots m q = λ i. logical_by (is_clients m (slots m)) (counted (place_of (slots m)) (same i (slots m).directory)) q

-- the page of a pipe is one of those of descriptors
pipe_descriptors : (q : ℕ) → is_pipe_page q ≡ true → is_of_descriptor q ≡ true
pipe_descriptors q is = grind (arith, nat_tests)

-- ---- a page gets other bytes

-- a frame has these bytes, and nothing else that is seen changes
pub record Laid (s t : SpacesState) (frame : ℕ) (bytes : List ℕ) : Type 0 where
  pub rows : rows_of t ≡ rows_of s
  pub pages : t.pages ≡ upd s.pages frame bytes
  pub regions : (d r : ℕ) → is_some (t.regions d r) ≡ is_some (s.regions d r)

-- the frame of a page of an environment's own, which it may write
module _ {names : Names} {s : KernelState} {a : AbstractState} {sp : SpacesState} (h : StandsFor names s a) (n : ℕ) (b : Born)
    (at : a.slots n ≡ born b) (plain : is_plain (place_of (slot_at s n)) ≡ true) (p : ℕ) (e : Entry)
    (he : rows_of s.spaces (slot_at s n).directory p ≡ Some e) (own_page : is_shared e.perm ≡ false) (writes : has_write e.perm ≡ true)
    (bytes : List ℕ) (laid : Laid s.spaces sp e.frame bytes) where
  abbrev d : ℕ
  d = (slot_at s n).directory

  abbrev before : Rows
  before = logical s.spaces s.environments.slots

  -- what stands in its space counts
  own_counts : (q : ℕ) (x : Entry) → rows_of s.spaces d q ≡ Some x → before n q ≡ Some x
  own_counts q x hx = logical_plain s.spaces s.environments.slots n (clients_live h n b at) plain q ∙ hx

  counts_here : before n p ≡ Some e
  counts_here = own_counts p e he

  pub bytes_laid : sp.pages e.frame ≡ bytes
  bytes_laid = ap (λ (pages : ℕ → List ℕ). pages e.frame) laid.pages ∙ upd-at s.spaces.pages e.frame bytes

  -- another frame's bytes
  bytes_kept : (x : Entry) → x.frame ≢ e.frame → sp.pages x.frame ≡ s.spaces.pages x.frame
  bytes_kept x ne = ap (λ (pages : ℕ → List ℕ). pages x.frame) laid.pages ∙ upd-other s.spaces.pages e.frame bytes x.frame ne

  -- another page of its own is another frame, and so is one of anybody else
  pub laid_beside : (q : ℕ) (x : Entry) → q ≢ p → rows_of s.spaces d q ≡ Some x → is_shared x.perm ≡ false → sp.pages x.frame ≡ s.spaces.pages x.frame
  laid_beside q x ne hx own_too =
      bytes_kept x (other_frame before h.apart n p n q x e (λ same too. ne too) counts_here writes (own_counts q x hx) own_too)

  own_elsewhere : ServerLacks s e.frame → (q r : ℕ) (x : Entry) → q ≢ d → rows_of s.spaces q r ≡ Some x → is_shared x.perm ≡ false →
      sp.pages x.frame ≡ s.spaces.pages x.frame
  own_elsewhere lacked q r x ne hx own_too =
      bytes_kept x (frames_apart h e.frame lacked q r x hx (λ found.
      other_frame before h.apart n p found.slot found.page found.entry e
      (λ same too. ne (sym (found.home n b at same))) counts_here writes found.counts (found.own own_too)))

  -- it is no shared frame
  shared_elsewhere : (m q : ℕ) (x : Entry) → before m q ≡ Some x → is_shared x.perm ≡ true → x.frame ≢ e.frame
  shared_elsewhere m q x hx shared_page same =
      let contradiction : true ≡ false = sym shared_page ∙ same_sharing before h.apart m q n p x e hx counts_here same ∙ own_page in cc

  -- what the pages of its own descriptors tell is the same
  laid_descriptors : is_of_descriptor p ≡ false → (q : ℕ) (x : Entry) → is_of_descriptor q ≡ true → rows_of s.spaces d q ≡ Some x →
      sp.pages x.frame ≡ s.spaces.pages x.frame
  laid_descriptors none q x descriptor hx = by_sharing (is_shared x.perm) refl
    where
      by_sharing : (c : Bool) → is_shared x.perm ≡ c → sp.pages x.frame ≡ s.spaces.pages x.frame
      by_sharing true shared_page = bytes_kept x (shared_elsewhere n q x (own_counts q x hx) shared_page)
      by_sharing false own_too =
          laid_beside q x (λ same. let contradiction : true ≡ false = sym descriptor ∙ ap is_of_descriptor same ∙ none in cc) hx own_too

  pub laid_devices : is_of_descriptor p ≡ false → SameDevices (view_of s.spaces d) (view_of sp d)
  laid_devices none q x descriptor no_pipe hx = ap lasting_words (laid_descriptors none q x descriptor hx)

  -- and so are the bytes of the pages of pipes
  pub laid_pipes : is_of_descriptor p ≡ false → SamePipes (view_of s.spaces d) (view_of sp d)
  laid_pipes none q x pipes hx = laid_descriptors none q x (pipe_descriptors q pipes) hx

  shared_kept : ServerLacks s e.frame → (q r : ℕ) (x : Entry) → q ≢ d → rows_of s.spaces q r ≡ Some x → is_shared x.perm ≡ true →
      sp.pages x.frame ≡ s.spaces.pages x.frame
  shared_kept lacked q r x ne hx shared_too =
      bytes_kept x (frames_apart h e.frame lacked q r x hx (λ found. by_bits found (found.shared shared_too)))
    where
      by_bits : (found : Counts s a q r x) → (is_shared found.entry.perm ≡ true) ⊎ (found.entry.perm ≡ own_perm) → found.entry.frame ≢ e.frame
      by_bits found (inl is) = shared_elsewhere found.slot found.page found.entry found.counts is
      by_bits found (inr bits) =
          other_frame before h.apart n p found.slot found.page found.entry e
          (λ same too. ne (sym (found.home n b at same))) counts_here writes found.counts (ap is_shared bits)

  -- nothing that is seen of other spaces differs, where the file server lacks the frame
  pub laid_others : ServerLacks s e.frame → (q : ℕ) → q ≢ d → SeenAlike names names s.spaces sp q
  laid_others lacked q ne = record {
    rows = ap (λ (rows : Rows). rows q) laid.rows;
    bytes = λ r x hx own_too. own_elsewhere lacked q r x ne hx own_too;
    named_so = λ r x hx shared_page. refl;
    devices = λ r x descriptor hx shared_too. ap lasting_words (shared_kept lacked q r x ne hx shared_too);
    pipes = λ r x pipes hx shared_too. shared_kept lacked q r x ne hx shared_too;
    regions = laid.regions q;
  }

  -- where its slot is another, in the same space, which holds the same lock, locks are held by whom they were held
  pub laid_locks : (k : Slot) → is_live k ≡ is_live (slot_at s n) → k.directory ≡ d → CountsAlike (place_of (slot_at s n)) (place_of k) →
      locked_at (place_of k) ≡ locked_at (place_of (slot_at s n)) →
      LocksStand sp.pages (upd s.environments.slots n k) (logical sp (upd s.environments.slots n k))
  laid_locks k live directory counts locked =
      locks_same (upd-alike (λ (x : Slot). locked_at (place_of x)) s.environments.slots n k locked)
      (λ m q pipes. same_rows_count s.spaces sp laid.rows (upd s.environments.slots n k) m q ∙ set_counts s n k live directory counts m q)
      (λ m q x pipes hx shared_page. bytes_kept x (shared_elsewhere m q x hx shared_page)) h.locks

  -- where its slot is another, in the same space, and its entries count as before, all is as it was of entries
  pub laid_rows : IsPage bytes → (k : Slot) → is_live k ≡ is_live (slot_at s n) → k.directory ≡ d →
      CountsAlike (place_of (slot_at s n)) (place_of k) →
      RowsStand names sp.pages a.shared (things_in s a) a.next_name (logical sp (upd s.environments.slots n k))
  laid_rows page k live directory counts =
      rows_same before (logical sp (upd s.environments.slots n k))
      (λ m q. same_rows_count s.spaces sp laid.rows (upd s.environments.slots n k) m q ∙ set_counts s n k live directory counts m q)
      (record {
        apart = h.apart;
        named = λ m q x hx shared_page.
            named_bytes (sym (bytes_kept x (shared_elsewhere m q x hx shared_page))) (h.named m q x hx shared_page);
        users = h.users;
        whole = λ m q x hx. by_frame x (x.frame == e.frame) refl (h.whole m q x hx);
        beside = h.beside;
      })
    where
      by_frame : (x : Entry) (c : Bool) → (x.frame == e.frame) ≡ c → IsPage (s.spaces.pages x.frame) → IsPage (sp.pages x.frame)
      by_frame x true test was =
          let same : e.frame ≡ x.frame = grind (arith, nat_tests) in
          subst (λ (f : ℕ). IsPage (sp.pages f)) same (subst (λ (l : List ℕ). IsPage l) (sym bytes_laid) page)
      by_frame x false test was = subst (λ (l : List ℕ). IsPage l) (sym (bytes_kept x (grind (arith, nat_tests)))) was
