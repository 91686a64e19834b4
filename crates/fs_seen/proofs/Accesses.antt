-- What a load and a store of a word do to a page that may be read and written: bits of its entry are set, and a store puts the word's bytes.
-- Neither is stopped.
use Rattle.std.proofs.Common.{◌≡◌, ◌∙◌, ◌+◌, ◌*◌, ◌/◌, ◌<◌, ◌≤◌, ◌==◌, ℕ, true, List, [], ◌∷◌, Option, Some, Ok, Err}
use Rattle.std.proofs.Common.{refl, sym, ap, arith}
use Rattle.std.proofs.lemmas.Bool.Decides.{nat_tests}
use Rattle.std.proofs.lemmas.Nat.{and_or_apart}
use Rattle.std.specs.Prelude.{is_some, nat_lt, slice_index}
use Rattle.std.specs.Int.{w32, to_le_bytes, from_le_bytes}
use Rattle.jos_base.specs.declared.memory.Access.{Access}
use Rattle.jos_base.specs.declared.memory.Access.TheVariants.{Read, Write}
use Rattle.jos_base.specs.declared.numbers.TheConstants.{NPTENTRIES, PGSIZE}
use Rattle.jos_base.specs.Counting.{named, page_count, page_limit}
use Rattle.jos_base.specs.Environments.{records_of}
use Rattle.jos_base.specs.KernelState.{KernelState, slot_at, with_spaces}
use Rattle.jos_base.specs.Reach.{Entry, allows, reach_entry}
use Rattle.jos_base.specs.SpacesState.{SpacesState, own_count, put, reference_count, with_page_bytes}
use Rattle.jos_base.specs.UserMemory.{access_bits, byte_at, byte_or_zero, entry_marked, reach_in, touched, touched_by, with_bits, with_page_bits}
use Rattle.jos_base.specs.Windows.{walked}
use Rattle.jos_base.specs.Words.{page_number, page_offset, upd, word_at}
use Rattle.jos_base.proofs.Counts.{page_count-same}
use Rattle.jos_base.proofs.Puts.{put-alike, put-at}
use Rattle.jos_base.proofs.Walks.{walked_below}
use Rattle.lib_os.specs.declared.user_os.Stop.{Stop}
use Rattle.lib_os.specs.declared.user_os.Stop.TheVariants as stop
use Rattle.lib_os.specs.UserCalls.{CallStep, IsStep, Output, accessing, giving, gone, got, load, store, to_handler, user_byte, user_word}
use Rattle.lib_os.specs.UserCalls.{with_bytes_put}
use Rattle.lib_os.proofs.BytesPut.{bytes_put, page_put, put_is, spaces_put}
use Rattle.lib_os.proofs.Slots.{upd-back}
use Rattle.lib_os.proofs.Touching.{region_quiet}
use Rattle.fs_cache.specs.CacheStands.{IsBlockEntry}
use Rattle.fs_cache.proofs.BlockMoves.{marked, read_entry, written_entry}

-- ---- the entry

abbrev pub MayBoth : Entry → Type 0
MayBoth e = (access : Access) → allows e.perm access ≡ true

marked_allows : (e : Entry) (by access : Access) → allows (marked by e).perm access ≡ allows e.perm access
marked_allows e Read Read = ap (λ (bits : ℕ). bits == 5) (and_or_apart 5 e.perm 0x20 refl)
marked_allows e Read Write = ap (λ (bits : ℕ). bits == 7) (and_or_apart 7 e.perm 0x20 refl)
marked_allows e Write Read = ap (λ (bits : ℕ). bits == 5) (and_or_apart 5 e.perm 0x60 refl)
marked_allows e Write Write = ap (λ (bits : ℕ). bits == 7) (and_or_apart 7 e.perm 0x60 refl)

marked_block : (e : Entry) (by : Access) → IsBlockEntry e → IsBlockEntry (marked by e)
marked_block e Read is = read_entry e is
marked_block e Write is = written_entry e is

-- ---- the page

-- A space in which one page's entry has other bits and its frame other bytes.
pub record Accessed (s t : SpacesState) (d p : ℕ) (e : Entry) (bytes : List ℕ) : Type 0 where
  pub entry : Entry
  pub entries : t.entries ≡ put s.entries d p (Some entry)
  pub frame : entry.frame ≡ e.frame
  pub allowed : (access : Access) → allows entry.perm access ≡ allows e.perm access
  pub block : IsBlockEntry e → IsBlockEntry entry
  pub regions : (q r : ℕ) → is_some (t.regions q r) ≡ is_some (s.regions q r)
  pub pages : t.pages ≡ upd s.pages e.frame bytes
  pub uses : t.uses ≡ s.uses

module _ (s : SpacesState) (d p : ℕ) (e : Entry) (low : p < page_limit) (stands : s.entries d p ≡ Some e) (may : MayBoth e) where
  reached : (access : Access) (va : ℕ) → page_number va ≡ p → reach_in s d va access ≡ Ok (record { frame = e.frame; offset = page_offset va })
  reached access va at =
      let allowed = may access in
      ap (λ (q : ℕ). reach_entry (walked_at q) va access) at
      ∙ ap (λ (o : Option Entry). reach_entry o va access) (walked_below s d p low ∙ stands)
      ∙ rw allowed refl
    where
      walked_at : ℕ → Option Entry
      walked_at q = walked s d q

  touched_is : (access : Access) (va : ℕ) → page_number va ≡ p → touched s d va access ≡ with_page_bits s d p access
  unfolding touched
  touched_is access va at =
      let inside : nat_lt p page_limit ≡ true = grind (arith, nat_tests) in
      ap (touched_by s d va access) (reached access va at)
      ∙ ap (λ (q : ℕ). touched_at q access) at
      ∙ rw inside refl
    where
      touched_at : ℕ → Access → SpacesState
      touched_at q a = with_bits s d q a

  entries_marked : (access : Access) → (with_page_bits s d p access).entries ≡ put s.entries d p (Some (marked access e))
  entries_marked access = ap (λ (o : Option Entry). put s.entries d p (entry_marked (access_bits access) o)) stands

  marked_stands : (access : Access) → (with_page_bits s d p access).entries d p ≡ Some (marked access e)
  marked_stands access = (λ i. entries_marked access i d p) ∙ put-at s.entries d p (Some (marked access e))

  byte_there : (records : ℕ → List ℕ) (va : ℕ) → page_number va ≡ p → byte_at records s d va ≡ slice_index (s.pages e.frame) (page_offset va)
  unfolding byte_at
  byte_there records va at =
      let inside : nat_lt (page_number va) page_limit ≡ true = grind (arith, nat_tests) in
      ap (byte_or_zero records s d va) (reached Read va at) ∙ rw inside refl

  accessed_so : (access : Access) (bytes : List ℕ) → Accessed s (with_page_bytes (with_page_bits s d p access) e.frame bytes) d p e bytes
  accessed_so access bytes = record {
    entry = marked access e;
    entries = entries_marked access;
    frame = refl;
    allowed = marked_allows e access;
    block = marked_block e access;
    regions = λ q r. (region_quiet s d (p / NPTENTRIES)).regions q r;
    pages = refl;
    uses = refl;
  }

  read_so : Accessed s (with_page_bits s d p Read) d p e (s.pages e.frame)
  read_so = record {
    entry = marked Read e;
    entries = entries_marked Read;
    frame = refl;
    allowed = marked_allows e Read;
    block = marked_block e Read;
    regions = λ q r. (region_quiet s d (p / NPTENTRIES)).regions q r;
    pages = sym (upd-back s.pages e.frame (s.pages e.frame) refl);
    uses = refl;
  }

-- how often frames are counted
pub counts_stay : (s t : SpacesState) (d p : ℕ) (e : Entry) (bytes : List ℕ) → s.entries d p ≡ Some e → Accessed s t d p e bytes → (frame : ℕ) →
    reference_count t frame ≡ reference_count s frame
counts_stay s t d p e bytes stands a frame =
    λ i. (ap (λ (f : ℕ → ℕ → Option Entry). page_count f frame) a.entries ∙ page_count-same (put s.entries d p (Some a.entry)) s.entries frame same) i
    + own_count (a.uses i frame)
  where
    here : named frame (Some a.entry) ≡ named frame (s.entries d p)
    here = ap (λ (f : ℕ). named frame (Some (record { frame = f; perm = 0 }))) a.frame ∙ sym (ap (named frame) stands)

    same : (q r : ℕ) → named frame (put s.entries d p (Some a.entry) q r) ≡ named frame (s.entries q r)
    same q r = put-alike s.entries d p (Some a.entry) (named frame) here q r

-- ---- the calls

-- what gives a value is not stopped
pub gives_value : {X : Type 0} (step : CallStep X) (x y : X) (mid : KernelState) (output : Output) → step.gives ≡ got x →
    IsStep step (Ok y) mid output → (y ≡ x) × (mid ≡ step.state)
gives_value {X} step x y mid output gives call =
    let same : ◌≡◌ (got x) (got y) = sym gives ∙ call.0 in
    let it : ◌≡◌ {A = X} y x = cc in
    (it, call.1)

pub never_stops : {X : Type 0} (step : CallStep X) (x : X) (why : Stop) (mid : KernelState) (output : Output) → step.gives ≡ got x →
    IsStep step (Err why) mid output → ⊥
never_stops step x stop.Upcall mid output gives call = let contradiction : to_handler ≡ got x = sym call.0 ∙ gives in cc
never_stops step x stop.Ended mid output gives call = let contradiction : gone ≡ got x = sym call.0 ∙ gives in cc
never_stops step x stop.Failed mid output gives call = let contradiction : gone ≡ got x = sym call.0 ∙ gives in cc

-- such an access of an environment
pub record HasAccessed (s mid : KernelState) (n p : ℕ) (e : Entry) (bytes : List ℕ) : Type 0 where
  pub spaces : SpacesState
  pub is : mid ≡ with_spaces s spaces
  pub accessed : Accessed s.spaces spaces (slot_at s n).directory p e bytes

module _ (s : KernelState) (n p : ℕ) (e : Entry) (low : p < page_limit) (stands : s.spaces.entries (slot_at s n).directory p ≡ Some e)
    (may : MayBoth e) where
  abbrev d : ℕ
  d = (slot_at s n).directory

  abbrev page : List ℕ
  page = s.spaces.pages e.frame

  abbrev behind : Access → KernelState
  behind access = with_spaces s (with_page_bits s.spaces d p access)

  behind_byte : (va : ℕ) → page_number va ≡ p → user_byte (behind Read) n va ≡ slice_index page (page_offset va)
  behind_byte va at =
      byte_there (with_page_bits s.spaces d p Read) d p (marked Read e) low (marked_stands s.spaces d p e low stands may Read)
      (λ access. marked_allows e Read access ∙ may access) (records_of s.environments) va at

  access_is : {X : Type 0} (access : Access) (va : ℕ) (done : KernelState → CallStep X) → page_number va ≡ p →
      accessing s n va access done (reach_in s.spaces d va access) ≡ done (behind access)
  access_is access va done at =
      ap (accessing s n va access done) (reached s.spaces d p e low stands may access va at)
      ∙ ap (λ (t : SpacesState). done (with_spaces s t)) (touched_is s.spaces d p e low stands may access va at)

  module _ (va : ℕ) (at : page_number va ≡ p) (fits : page_offset va + 4 ≤ PGSIZE) where
    further : (k : ℕ) → k < 4 → user_byte (behind Read) n (va + k) ≡ slice_index page (page_offset va + k)
    further k lt =
        let number : page_number (va + k) ≡ p = omega (arith, fits, lt, at) in
        let offset : page_offset (va + k) ≡ page_offset va + k = omega (arith, fits, lt) in
        behind_byte (va + k) number ∙ ap (slice_index page) offset

    load_is : load s n va ≡ giving (behind Read) (word_at (slice_index page) (page_offset va))
    unfolding load
    load_is =
        let word : user_word (behind Read) n va ≡ word_at (slice_index page) (page_offset va) =
        λ i. from_le_bytes w32 (behind_byte va at i ∷ further 1 (omega arith) i ∷ further 2 (omega arith) i ∷ further 3 (omega arith) i ∷ []) in
        access_is Read va (λ after. giving after (user_word after n va)) at ∙ ap (λ (w : ℕ). giving (behind Read) w) word

    pub load_gives : (load s n va).gives ≡ got (word_at (slice_index page) (page_offset va))
    load_gives = ap (λ (z : CallStep ℕ). z.gives) load_is

    pub word_loaded : (word : ℕ) (mid : KernelState) (output : Output) → IsStep (load s n va) (Ok word) mid output →
        (word ≡ word_at (slice_index page) (page_offset va)) × HasAccessed s mid n p e page
    word_loaded word mid output call =
        let given = gives_value (load s n va) (word_at (slice_index page) (page_offset va)) word mid output load_gives call in (
          given.0,
          record {
            spaces = with_page_bits s.spaces d p Read;
            is = given.1 ∙ ap (λ (z : CallStep ℕ). z.state) load_is;
            accessed = read_so s.spaces d p e low stands may;
          },
        )

    abbrev put_state : ℕ → SpacesState
    put_state word = with_page_bytes (with_page_bits s.spaces d p Write) e.frame (bytes_put page (page_offset va) (to_le_bytes w32 word))

    store_is : (word : ℕ) → store s n va word ≡ giving (with_spaces s (put_state word)) tt
    unfolding store
    store_is word =
        let place : va ≡ p * PGSIZE + page_offset va = omega (arith, at) in
        access_is Write va (λ after. giving (with_bytes_put after n va (to_le_bytes w32 word)) tt) at
        ∙ ap (λ (k : KernelState). giving k tt)
        (put_is (behind Write) n va (to_le_bytes w32 word)
        ∙ ap (λ (x : ℕ). with_spaces s (spaces_put (with_page_bits s.spaces d p Write) d x (to_le_bytes w32 word))) place
        ∙ ap (with_spaces s)
        (page_put d p (marked Write e) low (marked_allows e Write Write ∙ may Write) (with_page_bits s.spaces d p Write)
        (page_offset va) (to_le_bytes w32 word) (marked_stands s.spaces d p e low stands may Write) fits))

    pub store_gives : (word : ℕ) → (store s n va word).gives ≡ got tt
    store_gives word = ap (λ (z : CallStep (Unit {0})). z.gives) (store_is word)

    pub word_stored : (word : ℕ) (mid : KernelState) (output : Output) → IsStep (store s n va word) (Ok tt) mid output →
        HasAccessed s mid n p e (bytes_put page (page_offset va) (to_le_bytes w32 word))
    word_stored word mid output call =
        record {
          spaces = put_state word;
          is = call.1 ∙ ap (λ (z : CallStep (Unit {0})). z.state) (store_is word);
          accessed = accessed_so s.spaces d p e low stands may Write (bytes_put page (page_offset va) (to_le_bytes w32 word));
        }
