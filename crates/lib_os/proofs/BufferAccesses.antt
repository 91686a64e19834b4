-- Accesses of a service to the buffer that it is given: the state is in order behind each, what the entry of a page refuses its page does,
-- and a service that has made one stands at another of its stages.
use Rattle.std.proofs.Common.{◌≡◌, ◌∙◌, ◌+◌, ◌/◌, ◌%◌, ◌==◌, ◌<◌, ◌≤◌, ◌&&◌, ◌||◌, not, ℕ, Bool, true, false, [], refl, sym, ap, subst}
use Rattle.std.proofs.Common.{arith, if◌then◌else◌}
use Rattle.std.proofs.lemmas.Bool.Decides.{nat_tests}
use Rattle.std.specs.Prelude.{nat_le, nat_lt, Option, Some, None, Result, Ok, Err}
use Rattle.std.specs.Option.{option_map}
use Rattle.jos_base.specs.declared.memory.Access.{Access}
use Rattle.jos_base.specs.declared.memory.Access.TheVariants.{Read, Write}
use Rattle.jos_base.specs.declared.memory.PageFault.{PageFault}
use Rattle.jos_base.specs.declared.numbers.TheConstants.{NPTENTRIES}
use Rattle.jos_base.specs.Counting.{page_limit}
use Rattle.jos_base.specs.Environments.{Slot}
use Rattle.jos_base.specs.KernelState.{KernelState, HasSpaces, slot_at, with_extra, with_spaces}
use Rattle.jos_base.specs.Reach.{Entry, FrameOffset}
use Rattle.jos_base.specs.SpacesState.{SpacesState, Use, is_directory}
use Rattle.jos_base.specs.SystemCalls.{has_write}
use Rattle.jos_base.specs.UserMemory.{reach_in, stored_byte, touched, touched_by, with_bits, with_byte_at, with_page_bits, with_region_bit}
use Rattle.jos_base.specs.Windows.{table_index}
use Rattle.jos_base.specs.Words.{page_number, page_offset}
use Rattle.lib_os.specs.declared.place.Place.{Place}
use Rattle.lib_os.specs.declared.place.Place.TheVariants as place
use Rattle.lib_os.specs.declared.place.Step.{Step}
use Rattle.lib_os.specs.declared.service.Service.{Service}
use Rattle.lib_os.specs.AbstractMemory.{is_writable, page_allows, page_at}
use Rattle.lib_os.specs.AbstractMemory.{byte_at as abstract_byte_at}
use Rattle.lib_os.specs.AbstractState.{AbstractState, Born, Page, Stage, born, in_service, named, own}
use Rattle.lib_os.specs.Answers.{at_stage, moved_at_once}
use Rattle.lib_os.specs.Fence.{is_inside}
use Rattle.lib_os.specs.InOrder.{IsInOrder}
use Rattle.lib_os.specs.Places.{is_handlers, place_of, words_at}
use Rattle.lib_os.specs.Rows.{IsPage, Names, is_cow, is_shared, lasting, page_by, rows_of, seen_where}
use Rattle.lib_os.specs.Services.{service_of}
use Rattle.lib_os.specs.StandsFor.{StandsAt, StandsAtStep, StandsFor, borne_in, view_of}
use Rattle.lib_os.specs.StandsInHandler.{is_refused_by}
use Rattle.lib_os.proofs.BytesRead.{named_inside, page_byte, user_entry_read, users_inside}
use Rattle.lib_os.proofs.EntriesCount.{born_entry}
use Rattle.lib_os.proofs.Logical.{inside_programs, unborne_plain}
use Rattle.lib_os.proofs.Serving.{holds_page, library_moved, plain_copy, plain_upcall, plain_working}
use Rattle.lib_os.proofs.SlotsStand.{born_at}
use Rattle.lib_os.proofs.PipesStand.{calm_places, calm_unmade, descriptors_turned, is_calm, is_calm_step}
use Rattle.lib_os.proofs.StatesStand.{slot_changed}
use Rattle.lib_os.proofs.UsesKept.{stored_kept, touched_kept}
use Rattle.lib_os.proofs.WordsTell.{handler_runs, is_in_handler, place_at}

-- ---- the state is in order

bits_uses : (s : SpacesState) (d number : ℕ) (access : Access) → (with_bits s d number access).uses ≡ s.uses
bits_uses s d number access = by_place (nat_lt number page_limit) (number / NPTENTRIES == table_index)
  where
    by_place : (below window : Bool) →
        (if below then with_page_bits s d number access else if window then with_region_bit s d (number % NPTENTRIES) else s).uses ≡ s.uses
    by_place true window = refl
    by_place false true = refl
    by_place false false = refl

touched_uses : (s : SpacesState) (d va : ℕ) (access : Access) → (touched s d va access).uses ≡ s.uses
unfolding touched
touched_uses s d va access = by_outcome (reach_in s d va access)
  where
    by_outcome : (r : Result FrameOffset PageFault) → (touched_by s d va access r).uses ≡ s.uses
    by_outcome (Ok location) = bits_uses s d (page_number va) access
    by_outcome (Err fault) = refl

stored_uses : (s : SpacesState) (d va byte : ℕ) → (stored_byte s d va byte).uses ≡ s.uses
unfolding stored_byte
stored_uses s d va byte = by_outcome (reach_in s d va Write)
  where
    by_outcome : (r : Result FrameOffset PageFault) → (with_byte_at s byte r).uses ≡ s.uses
    by_outcome (Ok location) = refl
    by_outcome (Err fault) = refl

spaces_kept : (s : KernelState) (sp : SpacesState) → sp.uses ≡ s.spaces.uses → HasSpaces s.spaces s.environments → HasSpaces sp s.environments
spaces_kept s sp same h = record {
  in_use = λ n live. ap (λ (uses : ℕ → Use). is_directory (uses (slot_at s n).directory)) same ∙ h.in_use n live;
  apart = h.apart;
  owned = λ d is. h.owned d (ap (λ (uses : ℕ → Use). is_directory (uses d)) (sym same) ∙ is);
}

-- behind what is reached
pub reached_order : (s : KernelState) (n va : ℕ) (access : Access) → IsInOrder s →
    IsInOrder (with_spaces s (touched s.spaces (slot_at s n).directory va access))
reached_order s n va access h = record {
  frames = touched_kept s.spaces (slot_at s n).directory va access h.frames;
  spaces = spaces_kept s (touched s.spaces (slot_at s n).directory va access) (touched_uses s.spaces (slot_at s n).directory va access) h.spaces;
}

-- and behind a byte that is put
pub stored_order : (s : KernelState) (n va byte : ℕ) → IsInOrder s → IsInOrder (with_spaces s (stored_byte s.spaces (slot_at s n).directory va byte))
stored_order s n va byte h = record {
  frames = stored_kept s.spaces (slot_at s n).directory va byte h.frames;
  spaces = spaces_kept s (stored_byte s.spaces (slot_at s n).directory va byte) (stored_uses s.spaces (slot_at s n).directory va byte) h.spaces;
}

-- ---- pages

-- an access to a buffer is a write or not
abbrev pub access_of : Bool → Access
access_of true = Write
access_of false = Read

-- each frame that stands in an environment's space has the bytes of a page
pub frame_whole : {names : Names} {s : KernelState} {a : AbstractState} → StandsFor names s a → (n : ℕ) (b : Born) → a.slots n ≡ born b →
    (p : ℕ) (x : Entry) → rows_of s.spaces (slot_at s n).directory p ≡ Some x → IsPage (s.spaces.pages x.frame)
frame_whole {s = s} h n b at p x is =
    let found = born_entry h n b at p x is in
    subst (λ (f : ℕ). IsPage (s.spaces.pages f)) found.frame (h.whole found.slot found.page found.entry found.counts)

module _ {names : Names} {s : KernelState} {a : AbstractState} (h : StandsFor names s a) (n : ℕ) (b : Born) (at : a.slots n ≡ born b) (va : ℕ)
    (inside : is_inside va ≡ true) where
  abbrev d : ℕ
  d = (slot_at s n).directory

  abbrev o : Option Entry
  o = rows_of s.spaces d (page_number va)

  -- what the entry of a page refuses its page does, and no more
  entry_refuses : (write : Bool) → page_allows (page_at b va) (access_of write) ≡ not (is_refused_by write o)
  entry_refuses write =
      ap (λ (page : Option Page). page_allows page (access_of write))
      ((born_at h n b at).memory (page_number va)
      ∙ ap (λ (t : Bool). seen_where t (option_map (page_by names s.spaces.pages) o)) (inside_programs va inside))
      ∙ by_row write o refl
    where
      by_bits : (e : Entry) (shared_page writes copied : Bool) → (copied ≡ true → shared_page ≡ false) →
          is_writable (if shared_page then named (names.name e.frame) writes else own (s.spaces.pages e.frame) (writes || copied))
          ≡ not (true && not writes && not copied)
      by_bits e true true copied alone = refl
      by_bits e true false false alone = refl
      by_bits e true false true alone = absurd (let contradiction : true ≡ false = alone refl in cc)
      by_bits e false true copied alone = refl
      by_bits e false false true alone = refl
      by_bits e false false false alone = refl

      by_row : (write : Bool) (row : Option Entry) → o ≡ row →
          page_allows (option_map (page_by names s.spaces.pages) row) (access_of write) ≡ not (is_refused_by write row)
      by_row true None is = refl
      by_row false None is = refl
      by_row false (Some e) is = refl
      by_row true (Some e) is =
          let user = users_inside names s a n b h at (page_number va) e (inside_programs va inside) is in
          by_bits e (is_shared e.perm) (has_write e.perm) (is_cow e.perm) (λ copied. (user.copied copied).0)

  pub entry_lets : (write : Bool) → is_refused_by write o ≡ false → page_allows (page_at b va) (access_of write) ≡ true
  entry_lets write off = entry_refuses write ∙ ap not off

  pub entry_forbids : (write : Bool) → is_refused_by write o ≡ true → page_allows (page_at b va) (access_of write) ≡ false
  entry_forbids write on = entry_refuses write ∙ ap not on

  -- what is read of it is a byte
  pub byte_small : page_allows (page_at b va) Read ≡ true → abstract_byte_at a b va < 256
  unfolding rows_of
  byte_small may =
      let found = user_entry_read names s a n b h at va inside may in
      let page = frame_whole h n b at (page_number va) (lasting found.0) (ap (option_map lasting) found.1) in
      subst (λ (byte : ℕ). byte < 256)
      (sym (page_byte names s.spaces d b (born_at h n b at).memory (users_inside names s a n b h at) va inside a (named_inside names s a n b h at)
      (λ (i : ℕ). []) found.0 found.1))
      (page.small (page_offset va))

-- ---- another stage

-- A service has gone on: its words tell another of its steps, and it is at another stage.
pub stage_stands : {names : Names} {s : KernelState} {a : AbstractState} → StandsFor names s a → (n number : ℕ) (b : Born) →
    a.slots n ≡ born b → is_handlers (slot_at s n).registers.esp ≡ false → borne_in (place_of (slot_at s n)) ≡ None →
    is_calm (place_of (slot_at s n)) ≡ true → (service : Service) (to : Step) (stage : Stage) →
    holds_page (place_of (slot_at s n)) ≡ holds_page (place.InService service to) →
    borne_in (place.InService service to) ≡ None → is_calm_step to ≡ true → service_of (record (slot_at s n).registers { eax = number }) ≡ service →
    StandsAtStep (view_of s.spaces (slot_at s n).directory) (record (slot_at s n) { extra = words_at number to })
    (record b { phase = in_service service stage }) service to →
    StandsFor names (with_extra s n (words_at number to)) (at_stage a n b service stage)
stage_stands {names = names} {s = s} h n number b is outside unborne calm service to stage held unborne_after calm_after names_it so =
    let own = born_at h n b is in
    let k : Slot = record (slot_at s n) { extra = words_at number to } in
    let after : Born = record b { phase = in_service service stage } in
    let there : place_of k ≡ place.InService service to =
    place_at (slot_at s n).registers number to outside ∙ ap (λ (x : Service). place.InService x to) names_it in
    let plain : is_in_handler (place_of (slot_at s n)) ≡ false = handler_runs (slot_at s n).registers (slot_at s n).extra ∙ outside in
    let plain_after : is_in_handler (place_of k) ≡ false = ap is_in_handler there in
    let calm_there : is_calm (place_of k) ≡ true = ap is_calm there ∙ calm_after in
    slot_changed h n b is k after refl (record { id = refl; env_type = refl; turns = refl; calm = λ runs. runs })
    (unborne_plain (place_of (slot_at s n)) plain unborne (calm_unmade (place_of (slot_at s n)) calm))
    (unborne_plain (place_of k) plain_after (ap borne_in there ∙ unborne_after) (calm_unmade (place_of k) calm_there)) (record {
      id = own.id;
      id_small = own.id_small;
      parent = own.parent;
      env_type = own.env_type;
      runs = own.runs;
      upcall = own.upcall ∙ plain_upcall (place_of (slot_at s n)) plain ∙ sym (plain_upcall (place_of k) plain_after);
      descriptors = descriptors_turned names s.spaces k.directory (place_of (slot_at s n)) (place_of k) b.descriptors calm calm_there own.descriptors;
      memory = own.memory;
      library = library_moved (place_of (slot_at s n)) (place_of k) (slot_at s n).extra k.extra (rows_of s.spaces k.directory)
          (plain_copy (place_of (slot_at s n)) plain ∙ sym (plain_copy (place_of k) plain_after))
          (plain_working (place_of (slot_at s n)) (slot_at s n).extra plain ∙ held ∙ sym (ap holds_page there)
          ∙ sym (plain_working (place_of k) k.extra plain_after)) own.library;
      regions_have = own.regions_have;
      regions_only = own.regions_only;
      stack = own.stack;
      flags = own.flags;
      at = subst (λ (p : Place). StandsAt p (view_of s.spaces k.directory) k after) (sym there) so;
    }) (calm_places calm calm_there) (λ fd. refl)

-- ---- how much is moved at once

-- So many bytes from an address on: a word that lies at a multiple of four, or a byte. They lie in one page.
pub record IsMoved (va wanted count : ℕ) : Type 0 where
  pub some : 0 < count
  pub last : count ≤ 4
  pub within : count ≤ wanted
  pub page : (i : ℕ) → i < count → page_number (va + i) ≡ page_number va
  pub aligned : (count == 4) ≡ true → va % 4 ≡ 0
  pub word : (count == 4) ≡ true → count ≡ 4
  pub byte : (count == 4) ≡ false → count ≡ 1

pub moved_is : (va wanted : ℕ) → 0 < wanted → IsMoved va wanted (moved_at_once va wanted)
moved_is va wanted more = by_test ((va % 4 == 0) && nat_le 4 wanted) refl
  where
    by_test : (c : Bool) → ((va % 4 == 0) && nat_le 4 wanted) ≡ c → IsMoved va wanted (if c then 4 else 1)
    by_test true is =
        let at_word : va % 4 ≡ 0 = grind (arith, nat_tests) in
        let enough : 4 ≤ wanted = grind (arith, nat_tests) in record {
          some = omega arith;
          last = omega arith;
          within = enough;
          page = λ i lt. omega (arith, at_word, lt);
          aligned = λ test. at_word;
          word = λ test. refl;
          byte = λ test. absurd (let contradiction : true ≡ false = test in cc);
        }
    by_test false is = record {
      some = omega arith;
      last = omega arith;
      within = more;
      page = λ i lt. let first : va + i ≡ va = omega (arith, lt) in ap page_number first;
      aligned = λ test. absurd (let contradiction : false ≡ true = test in cc);
      word = λ test. absurd (let contradiction : false ≡ true = test in cc);
      byte = λ test. refl;
    }
