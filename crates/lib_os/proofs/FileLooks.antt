-- What a service that has bytes of a file looks at before it puts the next of them into its buffer: whether the region of the byte's page has a
-- table, and the page's entry.
use Rattle.std.proofs.Common.{◌≡◌, ◌∙◌, ◌+◌, ◌*◌, not, ℕ, Bool, true, false, List, refl, sym, ap, subst}
use Rattle.std.proofs.lemmas.Bool.{false≢true}
use Rattle.std.specs.Prelude.{is_some}
use Rattle.jos_base.specs.declared.numbers.TheConstants.{UVPT}
use Rattle.jos_base.specs.Environments.{Slot}
use Rattle.jos_base.specs.KernelState.{KernelState, slot_at, with_extra}
use Rattle.jos_base.specs.Words.{page_number}
use Rattle.lib_os.specs.declared.numbers.TheConstants.{UVPD}
use Rattle.lib_os.specs.declared.place.Place.TheVariants as place
use Rattle.lib_os.specs.declared.place.Step.{Step}
use Rattle.lib_os.specs.declared.place.Step.TheVariants as step
use Rattle.lib_os.specs.declared.service.Service.{Service}
use Rattle.lib_os.specs.declared.service.Service.TheVariants as service
use Rattle.lib_os.specs.AbstractState.{AbstractState, Born}
use Rattle.lib_os.specs.Fence.{is_inside}
use Rattle.lib_os.specs.InOrder.{IsInOrder}
use Rattle.lib_os.specs.LibraryPages.{View, keeps_request, region_index}
use Rattle.lib_os.specs.Places.{place_of, words_at}
use Rattle.lib_os.specs.Rows.{Names}
use Rattle.lib_os.specs.StandsFor.{StandsAtStep, StandsFor, refuses_next, view_of, writes_buffer}
use Rattle.lib_os.specs.StandsInHandler.{HasBytes, buffer_of, hands_back, is_refused_by, next_page}
use Rattle.lib_os.specs.UserCalls.{load}
use Rattle.lib_os.proofs.Beneath.{bytes_inside, handing_unborne}
use Rattle.lib_os.proofs.BufferLooks.{buffer_entry_va, buffer_entry_word, buffer_region_va, buffer_region_word, entry_given, entry_told, next_small}
use Rattle.lib_os.proofs.BufferLooks.{region_given, table_none, tells_allowed, tells_page}
use Rattle.lib_os.proofs.DescriptorLooks.{read_goes_on}
use Rattle.lib_os.proofs.EntryWords.{region_told}
use Rattle.lib_os.proofs.Loading.{loaded}
use Rattle.lib_os.proofs.Numbered.{number_of}
use Rattle.lib_os.proofs.PipesStand.{is_calm_step}
use Rattle.lib_os.proofs.Serving.{IsServed, holds_page, served, kept_where}
use Rattle.lib_os.proofs.WindowWords.{read_at}

-- one to which bytes are handed back has its page
pub handing_held : (s : Service) → hands_back s ≡ true → (at : Step) → keeps_request at ≡ true → holds_page (place.InService s at) ≡ kept_where true
handing_held (service.Read fd va len) hands at keeps = ap kept_where keeps
handing_held (service.Stat fd va) hands at keeps = ap kept_where keeps
handing_held _ hands at keeps = absurd (false≢true hands)

-- it writes its buffer
pub handing_writes : (s : Service) → hands_back s ≡ true → writes_buffer s ≡ true
handing_writes (service.Read fd va len) hands = refl
handing_writes (service.Stat fd va) hands = refl
handing_writes _ hands = absurd (false≢true hands)

-- with other words
abbrev pub bytes_with : (v : View) (k : Slot) (b : Born) (words : List ℕ) (s : Service) (done count : ℕ) → HasBytes v k b s done count →
    HasBytes v (record k { extra = words }) b s done count
bytes_with v k b words s done count h = record {
  hands = h.hands;
  regs = h.regs;
  program = h.program;
  eax = h.eax;
  registers = h.registers;
  bytes = h.bytes;
  hands_at = h.hands_at;
  many = h.many;
  fewer = h.fewer;
  most = h.most;
  inside = h.inside;
  small = h.small;
  kept = h.kept;
  silent = h.silent;
  awake = h.awake;
}

module _ (s : KernelState) (n : ℕ) (call : Service) (done count : ℕ) where
  abbrev space : View
  space = view_of s.spaces (slot_at s n).directory

  -- ---- whether the region has a table

  module _ (stands : place_of (slot_at s n) ≡ place.InService call (step.FileRegion done count)) {names : Names} {a : AbstractState}
      (h : StandsFor names s a) where
    abbrev v : IsServed names s a n call (step.FileRegion done count)
    v = served h n call (step.FileRegion done count) stands

    abbrev it : HasBytes space (slot_at s n) v.b call done count
    it = v.at

    inside : is_inside (buffer_of call + done) ≡ true
    inside = bytes_inside space (slot_at s n) v.b call done count it

    pub file_region_gives : load s n (buffer_region_va call done) ≡ read_at s n (buffer_region_va call done) (buffer_region_word s n call done)
    file_region_gives =
        subst (λ (va : ℕ). load s n (UVPD + 4 * region_index va) ≡ read_at s n (UVPD + 4 * region_index va) (buffer_region_word s n call done))
        (sym (next_small (buffer_of call + done) inside)) (region_given h n v.b v.is (buffer_of call + done) inside)

    module _ (order : IsInOrder (loaded s n (buffer_region_va call done))) where
      region_goes : (to : Step) → keeps_request to ≡ true → is_calm_step to ≡ true →
          StandsAtStep space (record (slot_at s n) { extra = words_at (number_of call) to }) v.b call to →
          StandsFor names (with_extra (loaded s n (buffer_region_va call done)) n (words_at (number_of call) to)) a
      region_goes to keeps calm so =
          read_goes_on h n call (step.FileRegion done count) v (handing_unborne call it.hands (step.FileRegion done count)) refl
          (buffer_region_va call done) order to (handing_unborne call it.hands to) calm
          (handing_held call it.hands (step.FileRegion done count) refl ∙ sym (handing_held call it.hands to keeps)) so

      -- it has one: the page's entry is looked at
      pub file_region_found : tells_page (buffer_region_word s n call done) ≡ true →
          StandsFor names (with_extra (loaded s n (buffer_region_va call done)) n (words_at (number_of call) (step.FileEntry done count))) a
      file_region_found told =
          let there : is_some (s.spaces.regions (slot_at s n).directory (region_index (buffer_of call + done))) ≡ true =
          sym (region_told (s.spaces.regions (slot_at s n).directory (region_index (buffer_of call + done)))) ∙ told in
          region_goes (step.FileEntry done count) refl refl
          (bytes_with space (slot_at s n) v.b (words_at (number_of call) (step.FileEntry done count)) call done count it, there)

      -- it has none, so that no page is there
      pub file_region_missing : tells_page (buffer_region_word s n call done) ≡ false →
          StandsFor names (with_extra (loaded s n (buffer_region_va call done)) n (words_at (number_of call) (step.FileFaulting done count))) a
      file_region_missing told =
          let none : is_some (s.spaces.regions (slot_at s n).directory (region_index (buffer_of call + done))) ≡ false =
          sym (region_told (s.spaces.regions (slot_at s n).directory (region_index (buffer_of call + done)))) ∙ told in
          let refused : refuses_next space.row call done ≡ true =
          ap (is_refused_by (writes_buffer call)) (table_none h n v.b v.is (buffer_of call + done) inside none) in
          region_goes (step.FileFaulting done count) refl refl
          (bytes_with space (slot_at s n) v.b (words_at (number_of call) (step.FileFaulting done count)) call done count it, refused)

  -- ---- whether the page allows the byte

  module _ (stands : place_of (slot_at s n) ≡ place.InService call (step.FileEntry done count)) {names : Names} {a : AbstractState}
      (h : StandsFor names s a) where
    abbrev w : IsServed names s a n call (step.FileEntry done count)
    w = served h n call (step.FileEntry done count) stands

    abbrev has : HasBytes space (slot_at s n) w.b call done count
    has = w.at.0

    entry_inside : is_inside (buffer_of call + done) ≡ true
    entry_inside = bytes_inside space (slot_at s n) w.b call done count has

    pub file_entry_gives : load s n (buffer_entry_va call done) ≡ read_at s n (buffer_entry_va call done) (buffer_entry_word s n call done)
    file_entry_gives =
        subst (λ (va : ℕ). load s n (UVPT + 4 * page_number va) ≡ read_at s n (UVPT + 4 * page_number va) (buffer_entry_word s n call done))
        (sym (next_small (buffer_of call + done) entry_inside)) (entry_given h n w.b w.is (buffer_of call + done) entry_inside w.at.1)

    -- by whether it may be written
    refusal_is : is_refused_by true (space.row (next_page call done)) ≡ not (tells_allowed true (buffer_entry_word s n call done))
    refusal_is = entry_told h n w.b w.is (buffer_of call + done) entry_inside true

    module _ (order : IsInOrder (loaded s n (buffer_entry_va call done))) where
      entry_goes : (to : Step) → keeps_request to ≡ true → is_calm_step to ≡ true →
          StandsAtStep space (record (slot_at s n) { extra = words_at (number_of call) to }) w.b call to →
          StandsFor names (with_extra (loaded s n (buffer_entry_va call done)) n (words_at (number_of call) to)) a
      entry_goes to keeps calm so =
          read_goes_on h n call (step.FileEntry done count) w (handing_unborne call has.hands (step.FileEntry done count)) refl
          (buffer_entry_va call done) order to (handing_unborne call has.hands to) calm
          (handing_held call has.hands (step.FileEntry done count) refl ∙ sym (handing_held call has.hands to keeps)) so

      -- it does: the bytes are loaded
      pub file_entry_allows : tells_allowed true (buffer_entry_word s n call done) ≡ true →
          StandsFor names (with_extra (loaded s n (buffer_entry_va call done)) n (words_at (number_of call) (step.LoadingBytes done count))) a
      file_entry_allows told =
          entry_goes (step.LoadingBytes done count) refl refl (record {
            has = bytes_with space (slot_at s n) w.b (words_at (number_of call) (step.LoadingBytes done count)) call done count has;
            allowed = refusal_is ∙ ap not told;
          })

      -- it does not
      pub file_entry_refuses : tells_allowed true (buffer_entry_word s n call done) ≡ false →
          StandsFor names (with_extra (loaded s n (buffer_entry_va call done)) n (words_at (number_of call) (step.FileFaulting done count))) a
      file_entry_refuses told =
          entry_goes (step.FileFaulting done count) refl refl (
            bytes_with space (slot_at s n) w.b (words_at (number_of call) (step.FileFaulting done count)) call done count has,
            ap (λ (t : Bool). is_refused_by t (space.row (next_page call done))) (handing_writes call has.hands) ∙ refusal_is ∙ ap not told,
          )
