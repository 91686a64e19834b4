-- Who is inside read, write or stat on an end of a pipe writes into the page of the pipe: that never faults, and leaves the file server's space, which
-- has not that page.
use Rattle.std.proofs.Common.{◌≡◌, ◌≢◌, ◌∙◌, ◌+◌, ◌*◌, ◌<◌, ◌≤◌, ℕ, true, List, [], ◌∷◌, Option, Some, None, Result, Ok, Err, refl, sym, ap, subst, arith}
use Rattle.std.specs.Option.{option_map}
use Rattle.std.specs.Int.{w32, to_le_bytes}
use Rattle.jos_base.specs.declared.memory.Access.TheVariants.{Write}
use Rattle.jos_base.specs.declared.memory.PageFault.{PageFault}
use Rattle.jos_base.specs.declared.numbers.TheConstants.{PGSIZE}
use Rattle.jos_base.specs.Counting.{page_limit}
use Rattle.jos_base.specs.KernelState.{KernelState, slot_at, with_spaces}
use Rattle.jos_base.specs.Reach.{Entry, FrameOffset}
use Rattle.jos_base.specs.SpacesState.{SpacesState}
use Rattle.jos_base.specs.SystemCalls.{handled}
use Rattle.jos_base.specs.UserMemory.{reach_in, stored_byte, touched, with_byte_at}
use Rattle.jos_base.proofs.Maps.{upd-other}
use Rattle.lib_os.specs.declared.numbers.TheConstants.{DESCRIPTORS}
use Rattle.lib_os.specs.declared.place.PipeStep.{PipeStep}
use Rattle.lib_os.specs.declared.place.Place.TheVariants as place
use Rattle.lib_os.specs.declared.place.Step.TheVariants as step
use Rattle.lib_os.specs.declared.service.Service.{Service}
use Rattle.lib_os.specs.AbstractState.{AbstractState}
use Rattle.lib_os.specs.InOrder.{HasOneUse}
use Rattle.lib_os.specs.LibrarySteps.{KeepsServer, Stands, left_alone}
use Rattle.lib_os.specs.Places.{place_of}
use Rattle.lib_os.specs.Rows.{Names, lasting, pipe_page, rows_of}
use Rattle.lib_os.specs.StandsAtPipe.{end_given}
use Rattle.lib_os.specs.StandsFor.{StandsFor, view_of}
use Rattle.lib_os.specs.UserCalls.{CallStep, Got, accessing, by_access, exchange, faulting, giving, gone, got, store, store_byte, to_handler}
use Rattle.lib_os.specs.UserCalls.{user_word, with_bytes_put, with_user_byte, with_user_word}
use Rattle.lib_os.proofs.BytesKept.{PutsBytes, store_byte_puts, store_puts}
use Rattle.lib_os.proofs.PipeStored.{HasPipeOf}
use Rattle.lib_os.proofs.PipeWritten.{is_on_pipes, pipe_address, pipe_has, pipe_user, pipe_writes}
use Rattle.lib_os.proofs.ServerLeft.{aside_where}
use Rattle.lib_os.proofs.SpacesLeft.{SpaceLeft, same_left, touched_left}
use Rattle.lib_fd.specs.DescriptorStages.{pipe_va}

-- ---- bytes are put: entries and tables stay, and each slot

record SameEntries (s t : SpacesState) : Type 0 where
  entries : t.entries ≡ s.entries
  regions : t.regions ≡ s.regions

byte_same : (t : SpacesState) (d va byte : ℕ) → SameEntries t (stored_byte t d va byte)
unfolding stored_byte
byte_same t d va byte = by_reach (reach_in t d va Write)
  where
    by_reach : (r : Result FrameOffset PageFault) → SameEntries t (with_byte_at t byte r)
    by_reach (Ok location) = record { entries = refl; regions = refl }
    by_reach (Err fault) = record { entries = refl; regions = refl }

put_same : (k : KernelState) (n va : ℕ) (bytes : List ℕ) → SameEntries k.spaces (with_bytes_put k n va bytes).spaces
put_same k n va [] = record { entries = refl; regions = refl }
put_same k n va (byte ∷ rest) =
    let one = byte_same k.spaces (slot_at k n).directory va byte in
    let others = put_same (with_user_byte k n va byte) n (va + 1) rest in
    record { entries = others.entries ∙ one.entries; regions = others.regions ∙ one.regions }

put_slot : (k : KernelState) (n va : ℕ) (bytes : List ℕ) (m : ℕ) → slot_at (with_bytes_put k n va bytes) m ≡ slot_at k m
put_slot k n va [] m = refl
put_slot k n va (byte ∷ rest) m = put_slot (with_user_byte k n va byte) n (va + 1) rest m

-- ---- an access that gives something has reached a page

module _ {X : Type 0} (s : KernelState) (n va : ℕ) (done : KernelState → CallStep X) where
  abbrev reached : KernelState
  reached = with_spaces s (touched s.spaces (slot_at s n).directory va Write)

  fault_gives : (fault : PageFault) (o : Option KernelState) (x : X) → (faulting {X = X} s n fault o).gives ≡ got x → ⊥
  fault_gives fault (Some after) x is = let contradiction : ◌≡◌ {A = Got X} to_handler (got x) = is in cc
  fault_gives fault None x is = let contradiction : ◌≡◌ {A = Got X} gone (got x) = is in cc

  pub access_is : (x : X) → (by_access s n va Write done).gives ≡ got x → by_access s n va Write done ≡ done reached
  access_is x is = by_reach (reach_in s.spaces (slot_at s n).directory va Write) is
    where
      by_reach : (r : Result FrameOffset PageFault) → (accessing s n va Write done r).gives ≡ got x → accessing s n va Write done r ≡ done reached
      by_reach (Ok location) given = refl
      by_reach (Err fault) given = absurd (fault_gives fault (handled s n fault) x given)

-- one that gives something reaches the page for each other
reaches_too : {X Y : Type 0} (s : KernelState) (n va : ℕ) (done : KernelState → CallStep X) (other : KernelState → CallStep Y) (x : X) →
    (by_access s n va Write done).gives ≡ got x →
    by_access s n va Write other ≡ other (with_spaces s (touched s.spaces (slot_at s n).directory va Write))
reaches_too {X = X} {Y = Y} s n va done other x is = by_reach (reach_in s.spaces (slot_at s n).directory va Write) is
  where
    by_reach : (r : Result FrameOffset PageFault) → (accessing s n va Write done r).gives ≡ got x →
        accessing s n va Write other r ≡ other (with_spaces s (touched s.spaces (slot_at s n).directory va Write))
    by_reach (Ok location) given = refl
    by_reach (Err fault) given = absurd (fault_gives s n va done fault (handled s n fault) x given)

abbrev exchanging : ℕ → ℕ → ℕ → KernelState → CallStep ℕ
exchanging n va word after = record { state = with_user_word after n va word; gives = got (user_word after n va); written = [] }

abbrev pub storing : ℕ → ℕ → ℕ → KernelState → CallStep (Unit {0})
storing n va word after = giving (with_user_word after n va word) tt

-- an exchange is a store that gives what stood there
pub exchange_gives : (s : KernelState) (n va word : ℕ) (after : KernelState) → store s n va word ≡ giving after tt →
    (stood : ℕ) × (exchange s n va word ≡ record { state = after; gives = got stood; written = [] })
unfolding store exchange
exchange_gives s n va word after is =
    let given : (by_access s n va Write (storing n va word)).gives ≡ got tt = ap (λ (c : CallStep (Unit {0})). c.gives) is in
    let t = with_spaces s (touched s.spaces (slot_at s n).directory va Write) in
    let there : with_user_word t n va word ≡ after =
    ap (λ (c : CallStep (Unit {0})). c.state) (sym (access_is s n va (storing n va word) tt given) ∙ is) in (
      user_word t n va,
      reaches_too s n va (storing n va word) (exchanging n va word) tt given
          ∙ ap (λ (k : KernelState). record { state = k; gives = got (user_word t n va); written = [] }) there,
    )

pub exchange_slots : (s : KernelState) (n va word x : ℕ) → (exchange s n va word).gives ≡ got x →
    (m : ℕ) → slot_at (exchange s n va word).state m ≡ slot_at s m
unfolding exchange
exchange_slots s n va word x is m =
    let t = with_spaces s (touched s.spaces (slot_at s n).directory va Write) in
    ap (λ (c : CallStep ℕ). slot_at c.state m) (access_is s n va (exchanging n va word) x is) ∙ put_slot t n va (to_le_bytes w32 word) m

-- ---- the file server's space

-- a space of another keeps its entries and tables
module _ (s : KernelState) (n va d : ℕ) (frames : HasOneUse s.spaces) (other : (slot_at s n).directory ≢ d) (bytes : List ℕ) where
  abbrev at_page : KernelState
  at_page = with_spaces s (touched s.spaces (slot_at s n).directory va Write)

  abbrev own_left : SpaceLeft (slot_at s n).directory d s.spaces at_page.spaces
  own_left =
      touched_left (slot_at s n).directory d s.spaces frames (slot_at s n).directory other s.spaces va Write
      (same_left (slot_at s n).directory d s.spaces frames)

  pub entries_stay : (p : ℕ) → (with_bytes_put at_page n va bytes).spaces.entries d p ≡ s.spaces.entries d p
  entries_stay p = (λ i. (put_same at_page n va bytes).entries i d p) ∙ own_left.entries p

  pub regions_stay : (r : ℕ) → (with_bytes_put at_page n va bytes).spaces.regions d r ≡ s.spaces.regions d r
  regions_stay r = (λ i. (put_same at_page n va bytes).regions i d r) ∙ own_left.regions r

-- Where an access puts bytes in a page that the file server has not, that is left.
module _ {X : Type 0} (s : KernelState) (n va : ℕ) (done : KernelState → CallStep X) (bytes : List ℕ)
    (does : (k : KernelState) → (done k).state ≡ with_bytes_put k n va bytes) where
  abbrev did : CallStep X
  did = by_access s n va Write done

  record PutsAside (x : X) (step : CallStep (Unit {0})) : Type 0 where
    row : Entry
    at : ℕ
    puts : PutsBytes s n row at bytes step
    state : did.state ≡ step.state
    given : did.gives ≡ got x
    apart : (p : ℕ) (e : Entry) → rows_of s.spaces (slot_at s 0).directory p ≡ Some e → e.frame ≢ row.frame

  puts_keep : ((a : AbstractState) → Stands s a → (x : X) × (step : CallStep (Unit {0})) × PutsAside x step) → KeepsServer n s did.state
  unfolding rows_of
  puts_keep puts then_so other live a h =
      let it = (puts a h).2 in
      let x = (puts a h).0 in
      let d = (slot_at s 0).directory in
      let apart = ((aside_where h.1 n other live).homes n other live).0 in
      let frames = h.1.in_order.frames in
      let sp = it.puts.spaces in
      let is : did.state ≡ with_spaces s sp = it.state ∙ ap (λ (c : CallStep (Unit {0})). c.state) it.puts.step_is in
      let put : did.state ≡ with_bytes_put (with_spaces s (touched s.spaces (slot_at s n).directory va Write)) n va bytes =
      ap (λ (c : CallStep X). c.state) (access_is s n va done x it.given)
      ∙ does (with_spaces s (touched s.spaces (slot_at s n).directory va Write)) in
      left_alone (record {
        slot = λ i. slot_at (is i) 0;
        entries = λ p. (λ i. (put i).spaces.entries d p) ∙ entries_stay s n va d frames apart bytes p;
        regions = λ r. (λ i. (put i).spaces.regions d r) ∙ regions_stay s n va d frames apart bytes r;
        pages = λ p e stands lacks.
            (λ i. (is i).spaces.pages e.frame) ∙ (λ i. it.puts.rewritten.pages i e.frame)
            ∙ upd-other s.spaces.pages it.row.frame _ e.frame (it.apart p _ (ap (λ (o : Option Entry). option_map lasting o) stands));
      })

-- ---- the page of a pipe

-- An environment inside read, write or stat at a step on an end stores a word at an offset of its pipe's page.
module _ (s : KernelState) (n : ℕ) (call : Service) (on : is_on_pipes call ≡ true) (at : PipeStep)
    (stands : place_of (slot_at s n) ≡ place.InService call (step.Piped at))
    (has : (names : Names) (a : AbstractState) → StandsFor names s a → HasPipeOf (view_of s.spaces (slot_at s n).directory) call) where
  abbrev pub address : ℕ
  address = pipe_va (end_given call)

  -- its address in lib_os
  pub address_is : (names : Names) (a : AbstractState) → StandsFor names s a → pipe_address (end_given call) ≡ address
  address_is names a h = let below = (has names a h).below in omega (arith, below)

  page_address : (below : end_given call < DESCRIPTORS) (o : ℕ) → pipe_page (end_given call) * PGSIZE + o ≡ address + o
  page_address below o = omega (arith, below)

  under_limit : end_given call < DESCRIPTORS → pipe_page (end_given call) < page_limit
  unfolding page_limit
  under_limit below = omega (arith, below)

  module _ (names : Names) (a : AbstractState) (h : StandsFor names s a) where
    abbrev its : HasPipeOf (view_of s.spaces (slot_at s n).directory) call
    its = has names a h

    word_lands : (o word : ℕ) → o + 4 ≤ PGSIZE → PutsBytes s n its.page o (to_le_bytes w32 word) (store s n (address + o) word)
    word_lands o word fits =
        subst (λ (va : ℕ). PutsBytes s n its.page o (to_le_bytes w32 word) (store s n va word)) (page_address its.below o)
        (store_puts s n (pipe_page (end_given call)) (under_limit its.below) its.page its.lies
        (pipe_user h n call on at stands its.below its.page its.lies) (pipe_writes h n call on at stands its.below its.page its.lies) o
        (omega (arith, fits)) word fits)

    byte_lands : (o byte : ℕ) → o < PGSIZE → PutsBytes s n its.page o (byte ∷ []) (store_byte s n (address + o) byte)
    byte_lands o byte fits =
        subst (λ (va : ℕ). PutsBytes s n its.page o (byte ∷ []) (store_byte s n va byte)) (page_address its.below o)
        (store_byte_puts s n (pipe_page (end_given call)) (under_limit its.below) its.page its.lies
        (pipe_user h n call on at stands its.below its.page its.lies) (pipe_writes h n call on at stands its.below its.page its.lies) o fits byte)

    -- it is given, and it is in no space of the file server's
    pub word_comes : (o word : ℕ) → o + 4 ≤ PGSIZE → (sp : SpacesState) × (store s n (address + o) word ≡ giving (with_spaces s sp) tt)
    word_comes o word fits = let it = word_lands o word fits in (it.spaces, it.step_is)

    pub byte_comes : (o byte : ℕ) → o < PGSIZE → (sp : SpacesState) × (store_byte s n (address + o) byte ≡ giving (with_spaces s sp) tt)
    byte_comes o byte fits = let it = byte_lands o byte fits in (it.spaces, it.step_is)

    pub lock_comes : (o word : ℕ) → o + 4 ≤ PGSIZE →
        (after : KernelState) × (stood : ℕ) × (exchange s n (address + o) word ≡ record { state = after; gives = got stood; written = [] })
    lock_comes o word fits =
        let it = word_lands o word fits in
        let gives = exchange_gives s n (address + o) word (with_spaces s it.spaces) it.step_is in (with_spaces s it.spaces, gives.0, gives.1)

    beside_server : (p : ℕ) (e : Entry) → rows_of s.spaces (slot_at s 0).directory p ≡ Some e → e.frame ≢ its.page.frame
    beside_server p e is = (pipe_has h n call on at stands its.below its.page its.lies).apart p e is

  pub word_server : (o word : ℕ) → o + 4 ≤ PGSIZE → KeepsServer n s (store s n (address + o) word).state
  unfolding store
  word_server o word fits =
      puts_keep s n (address + o) (storing n (address + o) word) (to_le_bytes w32 word) (λ k. refl)
      (λ a h. let it = word_lands h.0 a h.1 o word fits in (
        tt,
        store s n (address + o) word,
        record {
          row = (its h.0 a h.1).page;
          at = o;
          puts = it;
          state = refl;
          given = ap (λ (c : CallStep (Unit {0})). c.gives) it.step_is;
          apart = beside_server h.0 a h.1;
        },
      ))

  pub byte_server : (o byte : ℕ) → o < PGSIZE → KeepsServer n s (store_byte s n (address + o) byte).state
  unfolding store_byte
  byte_server o byte fits =
      puts_keep s n (address + o) (λ after. giving (with_user_byte after n (address + o) byte) tt) (byte ∷ []) (λ k. refl)
      (λ a h. let it = byte_lands h.0 a h.1 o byte fits in (
        tt,
        store_byte s n (address + o) byte,
        record {
          row = (its h.0 a h.1).page;
          at = o;
          puts = it;
          state = refl;
          given = ap (λ (c : CallStep (Unit {0})). c.gives) it.step_is;
          apart = beside_server h.0 a h.1;
        },
      ))

  pub lock_server : (o word : ℕ) → o + 4 ≤ PGSIZE → KeepsServer n s (exchange s n (address + o) word).state
  unfolding exchange
  lock_server o word fits =
      puts_keep s n (address + o) (exchanging n (address + o) word) (to_le_bytes w32 word) (λ k. refl)
      (λ a h.
      let it = word_lands h.0 a h.1 o word fits in
      let gives = exchange_gives s n (address + o) word (with_spaces s it.spaces) it.step_is in (
        gives.0,
        store s n (address + o) word,
        record {
          row = (its h.0 a h.1).page;
          at = o;
          puts = it;
          state = ap (λ (c : CallStep ℕ). c.state) gives.1 ∙ sym (ap (λ (c : CallStep (Unit {0})). c.state) it.step_is);
          given = ap (λ (c : CallStep ℕ). c.gives) gives.1;
          apart = beside_server h.0 a h.1;
        },
      ))
