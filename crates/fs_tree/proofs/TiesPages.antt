-- What an access to a page does that may be read and written, as a block's page: it sets bits of the page's entry, and puts bytes into its frame.
use Rattle.std.proofs.Common.{◌≡◌, ◌∙◌, ◌+◌, ◌*◌, ◌/◌, ◌<◌, ◌≤◌, ℕ, true, false, List, [], ◌∷◌, length, Option, Some, Result, Ok, Err}
use Rattle.std.proofs.Common.{refl, sym, ap, arith}
use Rattle.std.proofs.lemmas.Bool.Decides.{nat_tests}
use Rattle.std.specs.Prelude.{is_some, nat_lt, slice_index}
use Rattle.std.specs.Int.{w32, to_le_bytes, from_le_bytes}
use Rattle.jos_base.specs.declared.memory.Access.{Access}
use Rattle.jos_base.specs.declared.memory.Access.TheVariants.{Read, Write}
use Rattle.jos_base.specs.declared.numbers.TheConstants.{NPTENTRIES, PGSIZE, PTE_D}
use Rattle.jos_base.specs.Counting.{page_limit}
use Rattle.jos_base.specs.Environments.{records_of}
use Rattle.jos_base.specs.KernelState.{KernelState, slot_at, with_spaces}
use Rattle.jos_base.specs.Reach.{Entry, reach_entry}
use Rattle.jos_base.specs.SpacesState.{SpacesState, put, with_page_bytes}
use Rattle.jos_base.specs.UserMemory.{access_bits, byte_at, byte_or_zero, entry_marked, reach_in, touched, touched_by, with_bits, with_page_bits}
use Rattle.jos_base.specs.Windows.{walked}
use Rattle.jos_base.specs.Words.{has_bit, page_number, page_offset, upd, word_at}
use Rattle.jos_base.proofs.Puts.{put-at}
use Rattle.jos_base.proofs.Walks.{walked_below}
use Rattle.lib_os.specs.declared.user_os.Stop.{Stop}
use Rattle.lib_os.specs.declared.user_os.Stop.TheVariants as stop
use Rattle.lib_os.specs.UserCalls.{CallStep, IsStep, Output, accessing, giving, got, to_handler, gone, load, load_byte, store, store_byte}
use Rattle.lib_os.specs.UserCalls.{user_byte, user_word, with_bytes_put, with_user_byte}
use Rattle.lib_os.proofs.BytesPut.{bytes_put, page_put, put_is, spaces_put}
use Rattle.lib_os.proofs.Slots.{upd-back}
use Rattle.lib_os.proofs.Touching.{region_quiet}
use Rattle.fs_cache.specs.CacheStands.{IsBlockEntry}
use Rattle.fs_cache.proofs.BlockMoves.{block_allows, marked, read_dirty, read_entry, write_bits, written_entry}

-- ---- the entry

module _ (e : Entry) (is : IsBlockEntry e) where
  marked_entry : (access : Access) → IsBlockEntry (marked access e)
  marked_entry Read = read_entry e is
  marked_entry Write = written_entry e is

  write_dirty : has_bit (marked Write e).perm PTE_D ≡ true
  write_dirty = ap (λ (perm : ℕ). has_bit perm PTE_D) (write_bits e is)

-- ---- the page

-- A space in which one page's entry has other bits and its frame other bytes. A page that is clean then was, and has the bytes that it had.
pub record PageAccessed (s t : SpacesState) (d p : ℕ) (e : Entry) (bytes : List ℕ) : Type 0 where
  pub entry : Entry
  pub entries : t.entries ≡ put s.entries d p (Some entry)
  pub frame : entry.frame ≡ e.frame
  pub bits : IsBlockEntry entry
  pub regions : (q r : ℕ) → is_some (t.regions q r) ≡ is_some (s.regions q r)
  pub pages : t.pages ≡ upd s.pages e.frame bytes
  pub clean : has_bit entry.perm PTE_D ≡ false → (has_bit e.perm PTE_D ≡ false) × (bytes ≡ s.pages e.frame)

module _ (s : SpacesState) (d p : ℕ) (e : Entry) (low : p < page_limit) (stands : s.entries d p ≡ Some e) (is : IsBlockEntry e) where
  -- it may be accessed at each address
  reached : (access : Access) (va : ℕ) → page_number va ≡ p → reach_in s d va access ≡ Ok (record { frame = e.frame; offset = page_offset va })
  reached access va at =
      let may = block_allows e is access in
      ap (λ (q : ℕ). reach_entry (walked_at q) va access) at
      ∙ ap (λ (o : Option Entry). reach_entry o va access) (walked_below s d p low ∙ stands)
      ∙ rw may refl
    where
      walked_at : ℕ → Option Entry
      walked_at q = walked s d q

  touched_is : (access : Access) (va : ℕ) → page_number va ≡ p → touched s d va access ≡ with_page_bits s d p access
  unfolding touched
  touched_is access va at =
      let inside : nat_lt p page_limit ≡ true = grind (arith, nat_tests) in
      ap (touched_by s d va access) (reached access va at)
      ∙ ap (λ (q : ℕ). touched_at q access) at
      ∙ rw inside refl
    where
      touched_at : ℕ → Access → SpacesState
      touched_at q a = with_bits s d q a

  entries_marked : (access : Access) → (with_page_bits s d p access).entries ≡ put s.entries d p (Some (marked access e))
  entries_marked access = ap (λ (o : Option Entry). put s.entries d p (entry_marked (access_bits access) o)) stands

  marked_stands : (access : Access) → (with_page_bits s d p access).entries d p ≡ Some (marked access e)
  marked_stands access = (λ i. entries_marked access i d p) ∙ put-at s.entries d p (Some (marked access e))

  regions_stay : (access : Access) (q r : ℕ) → is_some ((with_page_bits s d p access).regions q r) ≡ is_some (s.regions q r)
  regions_stay access q r = (region_quiet s d (p / NPTENTRIES)).regions q r

  -- its bytes are those of its frame
  pub byte_there : (records : ℕ → List ℕ) (va : ℕ) → page_number va ≡ p → byte_at records s d va ≡ slice_index (s.pages e.frame) (page_offset va)
  unfolding byte_at
  byte_there records va at =
      let inside : nat_lt (page_number va) page_limit ≡ true = grind (arith, nat_tests) in
      ap (byte_or_zero records s d va) (reached Read va at) ∙ rw inside refl

  read_done : PageAccessed s (with_page_bits s d p Read) d p e (s.pages e.frame)
  read_done = record {
    entry = marked Read e;
    entries = entries_marked Read;
    frame = refl;
    bits = marked_entry e is Read;
    regions = regions_stay Read;
    pages = sym (upd-back s.pages e.frame (s.pages e.frame) refl);
    clean = λ off. (sym (read_dirty e is) ∙ off, refl);
  }

  write_done : (bytes : List ℕ) → PageAccessed s (with_page_bytes (with_page_bits s d p Write) e.frame bytes) d p e bytes
  write_done bytes = record {
    entry = marked Write e;
    entries = entries_marked Write;
    frame = refl;
    bits = marked_entry e is Write;
    regions = regions_stay Write;
    pages = refl;
    clean = λ off. absurd (let contradiction : true ≡ false = sym (write_dirty e is) ∙ off in cc);
  }

-- ---- the calls

-- such an access of an environment
pub record HasAccessed (s mid : KernelState) (n p : ℕ) (e : Entry) (bytes : List ℕ) : Type 0 where
  pub spaces : SpacesState
  pub is : mid ≡ with_spaces s spaces
  pub accessed : PageAccessed s.spaces spaces (slot_at s n).directory p e bytes

-- what gives a word is not stopped
step_given : {X : Type 0} (step : CallStep X) (x : X) (result : Result X Stop) (mid : KernelState) (output : Output) → step.gives ≡ got x →
    IsStep step result mid output → (result ≡ Ok x) × (mid ≡ step.state)
step_given {X} step x (Ok y) mid output gives call =
    let same : ◌≡◌ (got x) (got y) = sym gives ∙ call.0 in
    let it : ◌≡◌ {A = X} y x = cc in
    ((λ i. Ok (it i)), call.1)
step_given step x (Err stop.Upcall) mid output gives call = absurd (let contradiction : to_handler ≡ got x = sym call.0 ∙ gives in cc)
step_given step x (Err stop.Ended) mid output gives call = absurd (let contradiction : gone ≡ got x = sym call.0 ∙ gives in cc)
step_given step x (Err stop.Failed) mid output gives call = absurd (let contradiction : gone ≡ got x = sym call.0 ∙ gives in cc)

module _ (s : KernelState) (n p : ℕ) (e : Entry) (low : p < page_limit) (stands : s.spaces.entries (slot_at s n).directory p ≡ Some e)
    (is : IsBlockEntry e) where
  abbrev d : ℕ
  d = (slot_at s n).directory

  abbrev page : List ℕ
  page = s.spaces.pages e.frame

  -- the byte of an environment there
  pub user_byte_there : (va : ℕ) → page_number va ≡ p → user_byte s n va ≡ slice_index page (page_offset va)
  user_byte_there va at = byte_there s.spaces d p e low stands is (records_of s.environments) va at

  abbrev behind : Access → KernelState
  behind access = with_spaces s (with_page_bits s.spaces d p access)

  behind_byte : (va : ℕ) → page_number va ≡ p → user_byte (behind Read) n va ≡ slice_index page (page_offset va)
  behind_byte va at =
      byte_there (with_page_bits s.spaces d p Read) d p (marked Read e) low (marked_stands s.spaces d p e low stands is Read) (marked_entry e is Read)
      (records_of s.environments) va at

  access_is : {X : Type 0} (access : Access) (va : ℕ) (done : KernelState → CallStep X) → page_number va ≡ p →
      accessing s n va access done (reach_in s.spaces d va access) ≡ done (behind access)
  access_is access va done at =
      ap (accessing s n va access done) (reached s.spaces d p e low stands is access va at)
      ∙ ap (λ (t : SpacesState). done (with_spaces s t)) (touched_is s.spaces d p e low stands is access va at)

  has_read : (mid : KernelState) → mid ≡ behind Read → HasAccessed s mid n p e page
  has_read mid at = record { spaces = with_page_bits s.spaces d p Read; is = at; accessed = read_done s.spaces d p e low stands is }

  -- a load
  module _ (va : ℕ) (at : page_number va ≡ p) (mid : KernelState) (output : Output) where
    pub byte_loaded : (result : Result ℕ Stop) → IsStep (load_byte s n va) result mid output →
        (result ≡ Ok (slice_index page (page_offset va))) × HasAccessed s mid n p e page
    unfolding load_byte
    byte_loaded result call =
        let step = access_is Read va (λ after. giving after (user_byte after n va)) at in
        let gives : (load_byte s n va).gives ≡ got (slice_index page (page_offset va)) =
        ap (λ (z : CallStep ℕ). z.gives) step ∙ ap (λ (byte : ℕ). got byte) (behind_byte va at) in
        let given = step_given (load_byte s n va) (slice_index page (page_offset va)) result mid output gives call in
        (given.0, has_read mid (given.1 ∙ ap (λ (z : CallStep ℕ). z.state) step))

    pub word_loaded : page_offset va + 4 ≤ PGSIZE → (result : Result ℕ Stop) → IsStep (load s n va) result mid output →
        (result ≡ Ok (word_at (slice_index page) (page_offset va))) × HasAccessed s mid n p e page
    unfolding load
    word_loaded fits result call =
        let step = access_is Read va (λ after. giving after (user_word after n va)) at in
        let word : user_word (behind Read) n va ≡ word_at (slice_index page) (page_offset va) =
        λ i. from_le_bytes w32 (behind_byte va at i ∷ further 1 (omega arith) i ∷ further 2 (omega arith) i ∷ further 3 (omega arith) i ∷ []) in
        let gives : (load s n va).gives ≡ got (word_at (slice_index page) (page_offset va)) =
        ap (λ (z : CallStep ℕ). z.gives) step ∙ ap (λ (w : ℕ). got w) word in
        let given = step_given (load s n va) (word_at (slice_index page) (page_offset va)) result mid output gives call in
        (given.0, has_read mid (given.1 ∙ ap (λ (z : CallStep ℕ). z.state) step))
      where
        further : (k : ℕ) → k < 4 → user_byte (behind Read) n (va + k) ≡ slice_index page (page_offset va + k)
        further k lt =
            let number : page_number (va + k) ≡ p = omega (arith, fits, lt, at) in
            let offset : page_offset (va + k) ≡ page_offset va + k = omega (arith, fits, lt) in
            behind_byte (va + k) number ∙ ap (slice_index page) offset

  -- a store
  module _ (va : ℕ) (at : page_number va ≡ p) (bytes : List ℕ) (fits : page_offset va + length bytes ≤ PGSIZE) (mid : KernelState) where
    put_there : with_bytes_put (behind Write) n va bytes
        ≡ with_spaces s (with_page_bytes (with_page_bits s.spaces d p Write) e.frame (bytes_put page (page_offset va) bytes))
    put_there =
        let place : va ≡ p * PGSIZE + page_offset va = omega (arith, at) in
        put_is (behind Write) n va bytes
        ∙ ap (λ (x : ℕ). with_spaces s (spaces_put (with_page_bits s.spaces d p Write) d x bytes)) place
        ∙ ap (with_spaces s)
        (page_put d p (marked Write e) low (block_allows (marked Write e) (marked_entry e is Write) Write) (with_page_bits s.spaces d p Write)
        (page_offset va) bytes (marked_stands s.spaces d p e low stands is Write) fits)

    bytes_stored : mid ≡ with_bytes_put (behind Write) n va bytes → HasAccessed s mid n p e (bytes_put page (page_offset va) bytes)
    bytes_stored after = record {
      spaces = with_page_bytes (with_page_bits s.spaces d p Write) e.frame (bytes_put page (page_offset va) bytes);
      is = after ∙ put_there;
      accessed = write_done s.spaces d p e low stands is (bytes_put page (page_offset va) bytes);
    }

  -- A page's access by itself, and bytes that are put behind it.
  pub accessed_to_read : (va : ℕ) → page_number va ≡ p → (mid : KernelState) → mid ≡ with_spaces s (touched s.spaces d va Read) →
      HasAccessed s mid n p e page
  accessed_to_read va at mid after = has_read mid (after ∙ ap (with_spaces s) (touched_is s.spaces d p e low stands is Read va at))

  pub accessed_to_write : (va : ℕ) → page_number va ≡ p → (bytes : List ℕ) → page_offset va + length bytes ≤ PGSIZE → (mid : KernelState) →
      mid ≡ with_bytes_put (with_spaces s (touched s.spaces d va Write)) n va bytes → HasAccessed s mid n p e (bytes_put page (page_offset va) bytes)
  accessed_to_write va at bytes fits mid after =
      bytes_stored va at bytes fits mid
      (after ∙ ap (λ (t : SpacesState). with_bytes_put (with_spaces s t) n va bytes) (touched_is s.spaces d p e low stands is Write va at))

  module _ (va : ℕ) (at : page_number va ≡ p) (mid : KernelState) (output : Output) where
    pub byte_stored : (byte : ℕ) → page_offset va + 1 ≤ PGSIZE → (result : Result (Unit {0}) Stop) → IsStep (store_byte s n va byte) result mid output →
        (result ≡ Ok tt) × HasAccessed s mid n p e (bytes_put page (page_offset va) (byte ∷ []))
    unfolding store_byte
    byte_stored byte fits result call =
        let step = access_is Write va (λ after. giving (with_user_byte after n va byte) tt) at in
        let given = step_given (store_byte s n va byte) tt result mid output (ap (λ (z : CallStep (Unit {0})). z.gives) step) call in
        (given.0, bytes_stored va at (byte ∷ []) fits mid (given.1 ∙ ap (λ (z : CallStep (Unit {0})). z.state) step))

    pub word_stored : (word : ℕ) → page_offset va + 4 ≤ PGSIZE → (result : Result (Unit {0}) Stop) → IsStep (store s n va word) result mid output →
        (result ≡ Ok tt) × HasAccessed s mid n p e (bytes_put page (page_offset va) (to_le_bytes w32 word))
    unfolding store
    word_stored word fits result call =
        let step = access_is Write va (λ after. giving (with_bytes_put after n va (to_le_bytes w32 word)) tt) at in
        let given = step_given (store s n va word) tt result mid output (ap (λ (z : CallStep (Unit {0})). z.gives) step) call in
        (given.0, bytes_stored va at (to_le_bytes w32 word) fits mid (given.1 ∙ ap (λ (z : CallStep (Unit {0})). z.state) step))
