-- What a service looks at before it moves a byte to or from a page of its program: whether the page's region has a table, and the page's
-- entry. The words that it reads tell whether the page refuses the byte, and that is so in the abstract system too.
use Rattle.std.proofs.Common.{◌≡◌, ◌∙◌, ◌+◌, ◌*◌, ◌%◌, ◌^◌, ◌==◌, ◌&&◌, ◌||◌, not, ℕ, Bool, true, false, Option, Some, None}
use Rattle.std.proofs.Common.{List, [], ◌∷◌, refl, sym, ap, subst, arith, if◌then◌else◌}
use Rattle.std.specs.Prelude.{bit_and, drop, is_some}
use Rattle.std.specs.Option.{option_map}
use Rattle.std.proofs.lemmas.Nat.{and_assoc}
use Rattle.jos_base.specs.declared.memory.Access.{Access}
use Rattle.jos_base.specs.declared.memory.Access.TheVariants.{Read, Write}
use Rattle.jos_base.specs.declared.numbers.TheConstants.{PTE_P, PTE_SYSCALL, PTE_W, UVPT}
use Rattle.jos_base.specs.Counting.{page_limit}
use Rattle.jos_base.specs.Environments.{Slot}
use Rattle.jos_base.specs.KernelState.{KernelState, slot_at, with_extra}
use Rattle.jos_base.specs.Reach.{Entry}
use Rattle.jos_base.specs.SpacesState.{Region}
use Rattle.jos_base.specs.SystemCalls.{has_write}
use Rattle.jos_base.specs.Windows.{entry_word, region_entry}
use Rattle.jos_base.specs.Words.{page_number}
use Rattle.lib_os.specs.declared.numbers.TheConstants.{PTE_COW, UVPD}
use Rattle.lib_os.specs.declared.place.Place.TheVariants as place
use Rattle.lib_os.specs.declared.place.Step.{Step}
use Rattle.lib_os.specs.declared.place.Step.TheVariants as step
use Rattle.lib_os.specs.declared.service.Service.{Service}
use Rattle.lib_os.specs.declared.service.Service.TheVariants as service
use Rattle.lib_os.specs.AbstractMemory.{page_allows, page_at}
use Rattle.lib_os.specs.AbstractState.{AbstractState, Born, Page, born, own, named}
use Rattle.lib_os.specs.Fence.{is_inside}
use Rattle.lib_os.specs.InOrder.{IsInOrder}
use Rattle.lib_os.specs.LibraryPages.{View, region_index}
use Rattle.lib_os.specs.Places.{place_of, words_at}
use Rattle.lib_os.specs.Rows.{EntryRow, IsUsers, Names, is_cow, is_shared, page_by, rows_of, seen_where}
use Rattle.lib_os.specs.StandsFor.{IsTaking, IsTakingPath, StandsAtStep, StandsBefore, StandsFor, borne_in, refuses_next, view_of, writes_buffer}
use Rattle.lib_os.specs.StandsInHandler.{IsDelivering, buffer_of, is_refused_by, next_page, stat_told, wanted_from}
use Rattle.lib_os.specs.UserCalls.{load}
use Rattle.lib_os.proofs.BytesRead.{users_inside}
use Rattle.lib_os.proofs.DescriptorLooks.{read_goes_on}
use Rattle.lib_os.proofs.EntryWords.{region_told, row_entry, row_told, row_word_bits, row_word_none}
use Rattle.lib_os.proofs.Fences.{buffer_each, inside_below, inside_number}
use Rattle.lib_os.proofs.Loading.{loaded}
use Rattle.lib_os.proofs.Logical.{inside_programs}
use Rattle.lib_os.proofs.Numbered.{number_of}
use Rattle.lib_os.proofs.Paths.{follows_inside, gathers_path, taking_follows}
use Rattle.lib_os.proofs.PipesStand.{is_calm_step}
use Rattle.lib_os.proofs.Serving.{IsServed, holds_page, served}
use Rattle.lib_os.proofs.SlotsStand.{born_at}
use Rattle.lib_os.proofs.WindowWords.{read_at, load_directory_word, load_table_word}

-- ---- what an entry refuses

-- an access that writes, or one that reads
abbrev pub access_by : Bool → Access
access_by write = if write then Write else Read

refused_alike : (names : Names) (bytes : ℕ → List ℕ) (x : Entry) → IsUsers x.perm → (write : Bool) →
    is_refused_by write (Some x) ≡ not (page_allows (Some (page_by names bytes x)) (access_by write))
refused_alike names bytes x user false = refl
refused_alike names bytes x user true = by_bits (is_shared x.perm) (has_write x.perm) (is_cow x.perm) (λ copied. (user.copied copied).0)
  where
    by_bits : (shared_page writes copied : Bool) → (copied ≡ true → shared_page ≡ false) →
        (true && not writes && not copied)
        ≡ not (page_allows (Some (if shared_page then named (names.name x.frame) writes else own (bytes x.frame) (writes || copied))) Write)
    by_bits true true copied alone = refl
    by_bits true false false alone = refl
    by_bits true false true alone = absurd (let contradiction : true ≡ false = alone refl in cc)
    by_bits false true copied alone = refl
    by_bits false false true alone = refl
    by_bits false false false alone = refl

module _ {names : Names} {s : KernelState} {a : AbstractState} (h : StandsFor names s a) (n : ℕ) (b : Born) (at : a.slots n ≡ born b) where
  abbrev d : ℕ
  d = (slot_at s n).directory

  abbrev row : EntryRow
  row = rows_of s.spaces d

  -- The page of a byte in the fence refuses an access where the abstract system's page does not allow it.
  pub refused_is : (va : ℕ) → is_inside va ≡ true → (write : Bool) →
      is_refused_by write (row (page_number va)) ≡ not (page_allows (page_at b va) (access_by write))
  refused_is va inside write = by_row (row (page_number va)) refl ∙ sym (ap (λ (page : Option Page). not (page_allows page (access_by write))) seen)
    where
      seen : page_at b va ≡ option_map (page_by names s.spaces.pages) (row (page_number va))
      seen =
          (born_at h n b at).memory (page_number va)
          ∙ ap (λ (t : Bool). seen_where t (option_map (page_by names s.spaces.pages) (row (page_number va)))) (inside_programs va inside)

      by_row : (o : Option Entry) → row (page_number va) ≡ o →
          is_refused_by write o ≡ not (page_allows (option_map (page_by names s.spaces.pages) o) (access_by write))
      by_row None is = refl
      by_row (Some x) is =
          refused_alike names s.spaces.pages x (users_inside names s a n b h at (page_number va) x (inside_programs va inside) is) write

-- ---- what the words tell

-- an entry's word says that its page is there, and that it may be written, where it stands or as a copy of it
abbrev pub tells_page : ℕ → Bool
tells_page word = bit_and word PTE_P == PTE_P

abbrev pub tells_writable : ℕ → Bool
tells_writable word = tells_page word && ((bit_and word PTE_W == PTE_W) || (bit_and word PTE_COW == PTE_COW))

-- it allows an access
abbrev pub tells_allowed : Bool → ℕ → Bool
tells_allowed write word = if write then tells_writable word else tells_page word

-- a part of the bits that last
part_of_lasting : (word perm part : ℕ) → bit_and PTE_SYSCALL part ≡ part → bit_and word PTE_SYSCALL ≡ perm → bit_and word part ≡ bit_and perm part
part_of_lasting word perm part within is = sym (ap (bit_and word) within) ∙ sym (and_assoc part word PTE_SYSCALL) ∙ ap (λ (w : ℕ). bit_and w part) is

module _ {names : Names} {s : KernelState} {a : AbstractState} (h : StandsFor names s a) (n : ℕ) (b : Born) (at : a.slots n ≡ born b) where
  abbrev region_of : ℕ → Option Region
  region_of va = s.spaces.regions (slot_at s n).directory (region_index va)

  abbrev entry_of : ℕ → Option Entry
  entry_of va = s.spaces.entries (slot_at s n).directory (page_number va)

  abbrev entries : EntryRow
  entries = rows_of s.spaces (slot_at s n).directory

  module _ (va : ℕ) (inside : is_inside va ≡ true) where
    users : (x : Entry) → entries (page_number va) ≡ Some x → IsUsers x.perm
    users x is = users_inside names s a n b h at (page_number va) x (inside_programs va inside) is

    -- whether a page is there
    pub page_told : tells_page (entry_word (entry_of va)) ≡ is_some (entries (page_number va))
    page_told = row_told s.spaces (slot_at s n).directory (page_number va) users

    -- the entry refuses an access where its word does not allow it
    pub entry_told : (write : Bool) → is_refused_by write (entries (page_number va)) ≡ not (tells_allowed write (entry_word (entry_of va)))
    entry_told write = by_row (entries (page_number va)) refl write
      where
        by_row : (o : Option Entry) → entries (page_number va) ≡ o → (write : Bool) →
            is_refused_by write o ≡ not (tells_allowed write (entry_word (entry_of va)))
        by_row None is write =
            let none : entry_word (entry_of va) ≡ 0 = row_word_none s.spaces (slot_at s n).directory (page_number va) is in
            by_access write ∙ sym (ap (λ (w : ℕ). not (tells_allowed write w)) none)
          where
            by_access : (write : Bool) → true ≡ not (tells_allowed write 0)
            by_access true = refl
            by_access false = refl
        by_row (Some x) is false = sym (ap not (page_told ∙ ap is_some is))
        by_row (Some x) is true =
            let bits = row_word_bits s.spaces (slot_at s n).directory (page_number va) h.in_order.frames x is in
            let writes : bit_and (entry_word (entry_of va)) PTE_W ≡ bit_and x.perm PTE_W =
            part_of_lasting (entry_word (entry_of va)) x.perm PTE_W refl bits in
            let copied : bit_and (entry_word (entry_of va)) PTE_COW ≡ bit_and x.perm PTE_COW =
            part_of_lasting (entry_word (entry_of va)) x.perm PTE_COW refl bits in
            by_bits (has_write x.perm) (is_cow x.perm)
            ∙ sym (λ i. not ((page_told ∙ ap is_some is) i && ((writes i == PTE_W) || (copied i == PTE_COW))))
          where
            by_bits : (w c : Bool) → (true && not w && not c) ≡ not (true && (w || c))
            by_bits true c = refl
            by_bits false true = refl
            by_bits false false = refl

    -- a page that is there has a table
    pub table_none : is_some (region_of va) ≡ false → entries (page_number va) ≡ None
    table_none none = by_row (entries (page_number va)) refl
      where
        by_row : (o : Option Entry) → entries (page_number va) ≡ o → o ≡ None
        by_row None is = refl
        by_row (Some x) is =
            let e = row_entry s.spaces (slot_at s n).directory (page_number va) x is in
            let there : is_some (region_of va) ≡ true = h.in_order.frames.regions (slot_at s n).directory (page_number va) e.0 e.1 in
            let contradiction : true ≡ false = sym there ∙ none in absurd cc

    -- ---- the loads that give them

    pub region_given :
        load s n (UVPD + 4 * region_index va) ≡ read_at s n (UVPD + 4 * region_index va) (entry_word (option_map region_entry (region_of va)))
    unfolding page_limit
    region_given =
        let below = inside_number va inside in
        load_directory_word s n h.in_order.frames (region_index va) (omega (arith, below))

    pub entry_given : is_some (region_of va) ≡ true →
        load s n (UVPT + 4 * page_number va) ≡ read_at s n (UVPT + 4 * page_number va) (entry_word (entry_of va))
    entry_given there = load_table_word s n h.in_order.frames (page_number va) (inside_number va inside) there

-- ---- a service before a byte of its buffer

-- the byte lies in the fence
pub next_inside : (so : Type 0) (v : View) (k : Slot) (b : Born) (service : Service) (done word : ℕ) → StandsBefore so v k b service done word →
    is_inside (buffer_of service + done) ≡ true
next_inside so v k b (service.Read fd va len) done word h = buffer_each (va + done) 1 (va + done) h.0.inside (omega arith) (omega arith)
next_inside so v k b (service.Stat fd va) done word h =
    let some = h.0.some in buffer_each (va + done) _ (va + done) h.0.inside (omega arith) (omega (arith, some))
next_inside so v k b (service.Write fd va len) done word h =
    let fewer = h.0.wants.fewer in
    let many = h.0.many in
    buffer_each va (wanted_from word len) (va + done) h.0.wants.given.buffer (omega arith) (omega (arith, fewer, many))
next_inside so v k b (service.Remove path) done word h = follows_inside path done (taking_follows v k b (service.Remove path) done h.0)
next_inside so v k b (service.OpenFile path mode) done word h =
    follows_inside path done (taking_follows v k b (service.OpenFile path mode) done h.0)
next_inside so v k b (service.Spawn path argv) done word h =
    follows_inside path done (taking_follows v k b (service.Spawn path argv) done h.0)
next_inside so v k b _ done word h = absurd h

-- its address is as its sum says
pub next_small : (va : ℕ) → is_inside va ≡ true → va % 2 ^ 32 ≡ va
next_small va inside = let below = inside_below va inside in omega (arith, below)

-- The word that a step keeps: read's is the byte that it has, write's where its bytes begin in its page, stat's what it tells of, and the others'
-- says nothing.
abbrev pub KeepsWord : Service → ℕ → ℕ → Type 0
KeepsWord (service.Read fd va len) word to = to ≡ word
KeepsWord (service.Write fd va len) word to = to ≡ word
KeepsWord (service.Stat fd va) word to = to ≡ word
KeepsWord _ word to = Unit {0}

-- as it moves bytes it goes on to its access
abbrev pub moving_step : Service → ℕ → ℕ → Step
moving_step (service.Write fd va len) done word = step.GatheringBytes done word
moving_step (service.Remove path) done word = step.Gathering done
moving_step (service.OpenFile path mode) done word = step.Gathering done
moving_step (service.Spawn path argv) done word = step.Gathering done
moving_step _ done word = step.Delivering done word

moving_calm : (service : Service) (done word : ℕ) → is_calm_step (moving_step service done word) ≡ true
moving_calm (service.Write fd va len) done word = refl
moving_calm (service.Remove path) done word = refl
moving_calm (service.OpenFile path mode) done word = refl
moving_calm (service.Spawn path argv) done word = refl
moving_calm _ done word = refl

-- it stands in spawn, behind its path
abbrev pub is_spawning : Step → Bool
is_spawning (step.Spawning at) = true
is_spawning _ = false

moving_nothing : (service : Service) (done word : ℕ) → is_spawning (moving_step service done word) ≡ false
moving_nothing (service.Write fd va len) done word = refl
moving_nothing (service.Remove path) done word = refl
moving_nothing (service.OpenFile path mode) done word = refl
moving_nothing (service.Spawn path argv) done word = refl
moving_nothing _ done word = refl

module _ (v : View) (k : Slot) (b : Born) (words : List ℕ) where
  delivering_with : (s : Service) (at : ℕ) (bytes : List ℕ) (answer : ℕ) → IsDelivering k b s at bytes answer →
      IsDelivering (record k { extra = words }) b s at bytes answer
  delivering_with s at bytes answer h = record {
    program = h.program;
    phase = h.phase;
    silent = h.silent;
    awake = h.awake;
    some = h.some;
    inside = h.inside;
    small = h.small;
  }

  taking_too : (fd va len start done : ℕ) → IsTaking v k b fd va len start done → IsTaking v (record k { extra = words }) b fd va len start done
  taking_too fd va len start done h = record {
    bytes = h.bytes;
    program = h.program;
    wants = h.wants;
    many = h.many;
    kept = h.kept;
    silent = h.silent;
    awake = h.awake;
  }

  taking_with : (fd va len start to done : ℕ) → to ≡ start → IsTaking v k b fd va len start done →
      IsTaking v (record k { extra = words }) b fd va len to done
  taking_with fd va len start to done same it = subst (λ (q : ℕ). IsTaking v (record k { extra = words }) b fd va len q done) (sym same)
      (taking_too fd va len start done it)

  taking_path_with : (s : Service) (done : ℕ) → IsTakingPath v k b s done → IsTakingPath v (record k { extra = words }) b s done
  taking_path_with s done h = record {
    bytes = h.bytes;
    program = h.program;
    wants = h.wants;
    many = h.many;
    kept = h.kept;
    silent = h.silent;
    awake = h.awake;
  }

  -- it stands there as before, and more is known
  pub before_with : (so so_after : Type 0) (service : Service) (done word to : ℕ) → KeepsWord service word to → so_after →
      StandsBefore so v k b service done word → StandsBefore so_after v (record k { extra = words }) b service done to
  before_with so so_after (service.Read fd va len) done word to same known h = (
    subst (λ (byte : ℕ). IsDelivering (record k { extra = words }) b (service.Read fd va len) (va + done) (byte ∷ []) 1) (sym same)
        (delivering_with (service.Read fd va len) (va + done) (word ∷ []) 1 h.0),
    known,
  )
  before_with so so_after (service.Stat fd va) done word to same known h = (
    subst (λ (kept : ℕ). IsDelivering (record k { extra = words }) b (service.Stat fd va) (va + done) (drop done (stat_told kept)) 0) (sym same)
        (delivering_with (service.Stat fd va) (va + done) (drop done (stat_told word)) 0 h.0),
    known,
  )
  before_with so so_after (service.Write fd va len) done word to same known h = (taking_with fd va len word to done same h.0, known)
  before_with so so_after (service.Remove path) done word to same known h = (taking_path_with (service.Remove path) done h.0, known)
  before_with so so_after (service.OpenFile path mode) done word to same known h = (taking_path_with (service.OpenFile path mode) done h.0, known)
  before_with so so_after (service.Spawn path argv) done word to same known h = (taking_path_with (service.Spawn path argv) done h.0, known)
  before_with so so_after _ done word to same known h = absurd h

  -- and goes on to its access where the page does not refuse it
  pub moving_with : (so : Type 0) (service : Service) (done word to : ℕ) → KeepsWord service word to → refuses_next v.row service done ≡ false →
      StandsBefore so v k b service done word → StandsAtStep v (record k { extra = words }) b service (moving_step service done to)
  moving_with so (service.Read fd va len) done word to same free h = (
    subst (λ (byte : ℕ). IsDelivering (record k { extra = words }) b (service.Read fd va len) (va + done) (byte ∷ []) 1) (sym same)
        (delivering_with (service.Read fd va len) (va + done) (word ∷ []) 1 h.0),
    free,
  )
  moving_with so (service.Stat fd va) done word to same free h = (
    subst (λ (kept : ℕ). IsDelivering (record k { extra = words }) b (service.Stat fd va) (va + done) (drop done (stat_told kept)) 0) (sym same)
        (delivering_with (service.Stat fd va) (va + done) (drop done (stat_told word)) 0 h.0),
    free,
  )
  moving_with so (service.Write fd va len) done word to same free h = (taking_with fd va len word to done same h.0, free)
  moving_with so (service.Remove path) done word to same free h =
      gathers_path v (record k { extra = words }) b (service.Remove path) done (taking_path_with (service.Remove path) done h.0) free
  moving_with so (service.OpenFile path mode) done word to same free h =
      gathers_path v (record k { extra = words }) b (service.OpenFile path mode) done (taking_path_with (service.OpenFile path mode) done h.0) free
  moving_with so (service.Spawn path argv) done word to same free h =
      gathers_path v (record k { extra = words }) b (service.Spawn path argv) done (taking_path_with (service.Spawn path argv) done h.0) free
  moving_with so _ done word to same free h = absurd h

module _ (so : Type 0) (v : View) (k : Slot) (b : Born) (done word : ℕ) where
  -- what is known there
  known_before : (service : Service) → StandsBefore so v k b service done word → so
  known_before (service.Read fd va len) h = h.1
  known_before (service.Stat fd va) h = h.1
  known_before (service.Write fd va len) h = h.1
  known_before (service.Remove path) h = h.1
  known_before (service.OpenFile path mode) h = h.1
  known_before (service.Spawn path argv) h = h.1
  known_before _ h = absurd h

  -- it bears no child, and keeps its page, if it has one, as it goes on
  unborne_before : (service : Service) → StandsBefore so v k b service done word → (at : Step) → is_spawning at ≡ false →
      borne_in (place.InService service at) ≡ None
  unborne_before (service.Read fd va len) h at calm = refl
  unborne_before (service.Stat fd va) h at calm = refl
  unborne_before (service.Write fd va len) h at calm = refl
  unborne_before (service.Remove path) h at calm = refl
  unborne_before (service.OpenFile path mode) h at calm = refl
  unborne_before (service.Spawn path argv) h at calm = by_step at calm
    where
      by_step : (at : Step) → is_spawning at ≡ false → borne_in (place.InService (service.Spawn path argv) at) ≡ None
      by_step (step.Spawning at) none = absurd (let contradiction : true ≡ false = none in cc)
      by_step _ none = refl
  unborne_before _ h at calm = absurd h

  held_moving : (service : Service) → StandsBefore so v k b service done word → (to : ℕ) →
      holds_page (place.InService service (step.BufferEntry done word)) ≡ holds_page (place.InService service (moving_step service done to))
  held_moving (service.Read fd va len) h to = refl
  held_moving (service.Stat fd va) h to = refl
  held_moving (service.Write fd va len) h to = refl
  held_moving (service.Remove path) h to = refl
  held_moving (service.OpenFile path mode) h to = refl
  held_moving (service.Spawn path argv) h to = refl
  held_moving _ h to = absurd h

  held_entry : (service : Service) → StandsBefore so v k b service done word → (to : ℕ) →
      holds_page (place.InService service (step.BufferRegion done word)) ≡ holds_page (place.InService service (step.BufferEntry done to))
  held_entry (service.Read fd va len) h to = refl
  held_entry (service.Stat fd va) h to = refl
  held_entry (service.Write fd va len) h to = refl
  held_entry (service.Remove path) h to = refl
  held_entry (service.OpenFile path mode) h to = refl
  held_entry (service.Spawn path argv) h to = refl
  held_entry _ h to = absurd h

  held_faulting : (service : Service) → StandsBefore so v k b service done word → (to : ℕ) →
      (holds_page (place.InService service (step.BufferRegion done word)) ≡ holds_page (place.InService service (step.Faulting done to)))
      × (holds_page (place.InService service (step.BufferEntry done word)) ≡ holds_page (place.InService service (step.Faulting done to)))
  held_faulting (service.Read fd va len) h to = (refl, refl)
  held_faulting (service.Stat fd va) h to = (refl, refl)
  held_faulting (service.Write fd va len) h to = (refl, refl)
  held_faulting (service.Remove path) h to = (refl, refl)
  held_faulting (service.OpenFile path mode) h to = (refl, refl)
  held_faulting (service.Spawn path argv) h to = (refl, refl)
  held_faulting _ h to = absurd h

-- ---- the two looks

-- the address of the next byte, as the service computes it
abbrev pub buffer_va : Service → ℕ → ℕ
buffer_va service done = (buffer_of service + done) % 2 ^ 32

-- where the word of its region stands, and that of its page's entry
abbrev pub buffer_region_va : Service → ℕ → ℕ
buffer_region_va service done = UVPD + 4 * region_index (buffer_va service done)

abbrev pub buffer_entry_va : Service → ℕ → ℕ
buffer_entry_va service done = UVPT + 4 * page_number (buffer_va service done)

-- and these words
abbrev pub buffer_region_word : KernelState → ℕ → Service → ℕ → ℕ
buffer_region_word s n service done =
    entry_word (option_map region_entry (s.spaces.regions (slot_at s n).directory (region_index (buffer_of service + done))))

abbrev pub buffer_entry_word : KernelState → ℕ → Service → ℕ → ℕ
buffer_entry_word s n service done = entry_word (s.spaces.entries (slot_at s n).directory (next_page service done))

module _ (s : KernelState) (n : ℕ) (service : Service) (done word : ℕ) where
  abbrev space : View
  space = view_of s.spaces (slot_at s n).directory

  -- the region has a table
  abbrev HasTable : Type 0
  HasTable = is_some (s.spaces.regions (slot_at s n).directory (region_index (buffer_of service + done))) ≡ true

  abbrev Refuses : Type 0
  Refuses = refuses_next (rows_of s.spaces (slot_at s n).directory) service done ≡ true

  -- ---- whether the region has a table

  module _ (stands : place_of (slot_at s n) ≡ place.InService service (step.BufferRegion done word)) {names : Names} {a : AbstractState}
      (h : StandsFor names s a) where
    abbrev before : IsServed names s a n service (step.BufferRegion done word)
    before = served h n service (step.BufferRegion done word) stands

    region_inside : is_inside (buffer_of service + done) ≡ true
    region_inside = next_inside (Unit {0}) space (slot_at s n) before.b service done word before.at

    pub buffer_region_gives :
        load s n (buffer_region_va service done) ≡ read_at s n (buffer_region_va service done) (buffer_region_word s n service done)
    buffer_region_gives =
        subst (λ (va : ℕ). load s n (UVPD + 4 * region_index va) ≡ read_at s n (UVPD + 4 * region_index va) (buffer_region_word s n service done))
        (sym (next_small (buffer_of service + done) region_inside))
        (region_given h n before.b before.is (buffer_of service + done) region_inside)

    module _ (order : IsInOrder (loaded s n (buffer_region_va service done))) (to : ℕ) (same : KeepsWord service word to) where
      region_goes : (at : Step) → is_calm_step at ≡ true → is_spawning at ≡ false → holds_page (place.InService service (step.BufferRegion done word)) ≡ holds_page
          (place.InService service at) →
          StandsAtStep space (record (slot_at s n) { extra = words_at (number_of service) at }) before.b service at →
          StandsFor names (with_extra (loaded s n (buffer_region_va service done)) n (words_at (number_of service) at)) a
      region_goes at calm apart held so =
          let unborne = unborne_before (Unit {0}) space (slot_at s n) before.b done word service before.at in
          read_goes_on h n service (step.BufferRegion done word) before (unborne (step.BufferRegion done word) refl) refl (buffer_region_va service done)
          order at (unborne at apart) calm held so

      -- it has one: the page's entry is looked at
      pub buffer_region_found : tells_page (buffer_region_word s n service done) ≡ true →
          StandsFor names (with_extra (loaded s n (buffer_region_va service done)) n (words_at (number_of service) (step.BufferEntry done to))) a
      buffer_region_found told =
          let there : is_some (s.spaces.regions (slot_at s n).directory (region_index (buffer_of service + done))) ≡ true =
          sym (region_told (s.spaces.regions (slot_at s n).directory (region_index (buffer_of service + done)))) ∙ told in
          region_goes (step.BufferEntry done to) refl refl (held_entry (Unit {0}) space (slot_at s n) before.b done word service before.at to)
          (before_with space (slot_at s n) before.b (words_at (number_of service) (step.BufferEntry done to)) (Unit {0}) HasTable service done word to
          same there before.at)

      -- it has none, so that no page is there
      pub buffer_region_missing : tells_page (buffer_region_word s n service done) ≡ false →
          StandsFor names (with_extra (loaded s n (buffer_region_va service done)) n (words_at (number_of service) (step.Faulting done to))) a
      buffer_region_missing told =
          let none : is_some (s.spaces.regions (slot_at s n).directory (region_index (buffer_of service + done))) ≡ false =
          sym (region_told (s.spaces.regions (slot_at s n).directory (region_index (buffer_of service + done)))) ∙ told in
          let refused : refuses_next space.row service done ≡ true =
          ap (is_refused_by (writes_buffer service)) (table_none h n before.b before.is (buffer_of service + done) region_inside none) in
          region_goes (step.Faulting done to) refl refl ((held_faulting (Unit {0}) space (slot_at s n) before.b done word service before.at to).0)
          (before_with space (slot_at s n) before.b (words_at (number_of service) (step.Faulting done to)) (Unit {0}) Refuses service done word to
          same refused before.at)

  -- ---- whether the page allows the byte

  module _ (stands : place_of (slot_at s n) ≡ place.InService service (step.BufferEntry done word)) {names : Names} {a : AbstractState}
      (h : StandsFor names s a) where
    abbrev before_page : IsServed names s a n service (step.BufferEntry done word)
    before_page = served h n service (step.BufferEntry done word) stands

    entry_inside : is_inside (buffer_of service + done) ≡ true
    entry_inside = next_inside HasTable space (slot_at s n) before_page.b service done word before_page.at

    pub buffer_entry_gives : load s n (buffer_entry_va service done) ≡ read_at s n (buffer_entry_va service done) (buffer_entry_word s n service done)
    buffer_entry_gives =
        subst (λ (va : ℕ). load s n (UVPT + 4 * page_number va) ≡ read_at s n (UVPT + 4 * page_number va) (buffer_entry_word s n service done))
        (sym (next_small (buffer_of service + done) entry_inside))
        (entry_given h n before_page.b before_page.is (buffer_of service + done) entry_inside
        (known_before HasTable space (slot_at s n) before_page.b done word service before_page.at))

    refusal_is : refuses_next space.row service done ≡ not (tells_allowed (writes_buffer service) (buffer_entry_word s n service done))
    refusal_is = entry_told h n before_page.b before_page.is (buffer_of service + done) entry_inside (writes_buffer service)

    module _ (order : IsInOrder (loaded s n (buffer_entry_va service done))) (to : ℕ) (same : KeepsWord service word to) where
      entry_goes : (at : Step) → is_calm_step at ≡ true → is_spawning at ≡ false → holds_page (place.InService service (step.BufferEntry done word)) ≡ holds_page
          (place.InService service at) →
          StandsAtStep space (record (slot_at s n) { extra = words_at (number_of service) at }) before_page.b service at →
          StandsFor names (with_extra (loaded s n (buffer_entry_va service done)) n (words_at (number_of service) at)) a
      entry_goes at calm apart held so =
          let unborne = unborne_before HasTable space (slot_at s n) before_page.b done word service before_page.at in
          read_goes_on h n service (step.BufferEntry done word) before_page (unborne (step.BufferEntry done word) refl) refl
          (buffer_entry_va service done) order at (unborne at apart) calm held so

      -- it does: the service goes on to its access
      pub buffer_entry_allows : tells_allowed (writes_buffer service) (buffer_entry_word s n service done) ≡ true →
          StandsFor names (with_extra (loaded s n (buffer_entry_va service done)) n (words_at (number_of service) (moving_step service done to))) a
      buffer_entry_allows told =
          entry_goes (moving_step service done to) (moving_calm service done to) (moving_nothing service done to) (held_moving HasTable space (slot_at s n) before_page.b done
          word service before_page.at to)
          (moving_with space (slot_at s n) before_page.b (words_at (number_of service) (moving_step service done to)) HasTable service done word to
          same (refusal_is ∙ ap not told) before_page.at)

      -- it does not
      pub buffer_entry_refuses : tells_allowed (writes_buffer service) (buffer_entry_word s n service done) ≡ false →
          StandsFor names (with_extra (loaded s n (buffer_entry_va service done)) n (words_at (number_of service) (step.Faulting done to))) a
      buffer_entry_refuses told =
          entry_goes (step.Faulting done to) refl refl ((held_faulting HasTable space (slot_at s n) before_page.b done word service before_page.at to).1)
          (before_with space (slot_at s n) before_page.b (words_at (number_of service) (step.Faulting done to)) HasTable Refuses service done word to
          same (refusal_is ∙ ap not told) before_page.at)
