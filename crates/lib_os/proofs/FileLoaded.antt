-- The bytes of a file that read and stat load before they put them into their buffer: a word of their page at UTEMP, or a byte of it; and where the
-- four bytes of a word stand in two words there, these one behind the other.
use Rattle.std.proofs.Common.{◌≡◌, ◌≢◌, ◌∙◌, ◌+◌, ◌-◌, ◌*◌, ◌/◌, ◌%◌, ◌^◌, ◌==◌, ◌<◌, ℕ, true, List, [], ◌∷◌, length, refl, sym, ap, subst, arith}
use Rattle.std.proofs.Common.{if◌then◌else◌, suc, zero}
use Rattle.std.proofs.lemmas.List.{get_or-drop, length-drop, length-take-le}
use Rattle.std.proofs.lemmas.Nat.{le_bytes_4}
use Rattle.std.specs.Int.{w32, from_le_bytes, to_le_bytes}
use Rattle.std.specs.Prelude.{drop, slice_index, take, Some}
use Rattle.jos_base.specs.declared.memory.Access.TheVariants.{Read}
use Rattle.jos_base.specs.declared.numbers.TheConstants.{UTEMP}
use Rattle.jos_base.specs.Counting.{page_limit}
use Rattle.jos_base.specs.Environments.{records_of}
use Rattle.jos_base.specs.KernelState.{KernelState, slot_at, with_extra, with_spaces}
use Rattle.jos_base.specs.Reach.{Entry}
use Rattle.jos_base.specs.SpacesState.{SpacesState}
use Rattle.jos_base.specs.SystemCalls.{is_page_perm}
use Rattle.jos_base.specs.UserMemory.{touched}
use Rattle.jos_base.specs.Words.{page_number, page_offset, word_at}
use Rattle.lib_os.specs.declared.place.Place.TheVariants as place
use Rattle.lib_os.specs.declared.place.Step.{Step}
use Rattle.lib_os.specs.declared.place.Step.TheVariants as step
use Rattle.lib_os.specs.declared.service.Service.{Service}
use Rattle.lib_os.specs.AbstractState.{AbstractState}
use Rattle.lib_os.specs.InOrder.{HasOneUse, IsInOrder}
use Rattle.lib_os.specs.LibraryPages.{View, keeps_request}
use Rattle.lib_os.specs.Places.{place_of, words_at}
use Rattle.lib_os.specs.Rows.{IsPage, Names, rows_of}
use Rattle.lib_os.specs.StandsFor.{StandsAtStep, StandsFor, view_of}
use Rattle.lib_os.specs.StandsInHandler.{HasBytes, IsLoadingBytes, IsLoadingRest, buffer_of, put_at_once}
use Rattle.lib_os.specs.UserCalls.{accessing, giving, load, load_byte, user_byte}
use Rattle.lib_os.proofs.Beneath.{handing_plain, handing_unborne}
use Rattle.lib_os.proofs.BufferAccesses.{IsMoved, frame_whole, moved_is}
use Rattle.lib_os.proofs.BytesDelivered.{take_first, take_four}
use Rattle.lib_os.proofs.DescriptorLooks.{read_goes_on}
use Rattle.lib_os.proofs.EntryWords.{row_entry}
use Rattle.lib_os.proofs.FileLooks.{bytes_with, handing_held}
use Rattle.lib_os.proofs.Loading.{loaded}
use Rattle.lib_os.proofs.Logical.{is_plain, logical_plain}
use Rattle.lib_os.proofs.Numbered.{number_of}
use Rattle.lib_os.proofs.PageBytes.{bytes_drop, bytes_take}
use Rattle.lib_os.proofs.PageWords.{load_page_word, page_byte, page_reached}
use Rattle.lib_os.proofs.PipesStand.{is_calm_step}
use Rattle.lib_os.proofs.Serving.{IsServed, served}
use Rattle.lib_os.proofs.StatesStand.{clients_live}
use Rattle.lib_os.proofs.Touching.{touched_quiet}
use Rattle.lib_os.proofs.WindowWords.{read_at}

-- ---- a byte of a page that is there

module _ (s : KernelState) (n va : ℕ) (row : Entry) (stands : rows_of s.spaces (slot_at s n).directory (page_number va) ≡ Some row)
    (readable : is_page_perm row.perm ≡ true) (uses : HasOneUse s.spaces) where
  abbrev reached : SpacesState
  reached = touched s.spaces (slot_at s n).directory va Read

  below : page_number va < page_limit
  below =
      let e = row_entry s.spaces (slot_at s n).directory (page_number va) row stands in
      (uses.within (slot_at s n).directory (page_number va) e.0 e.1).1

  pub load_page_byte : load_byte s n va ≡ read_at s n va (slice_index (s.spaces.pages row.frame) (page_offset va))
  unfolding load_byte
  load_page_byte =
      let quiet = touched_quiet s.spaces (slot_at s n).directory va Read in
      let there : rows_of reached (slot_at s n).directory (page_number va) ≡ Some row =
      (λ i. quiet.rows i (slot_at s n).directory (page_number va)) ∙ stands in
      let byte : user_byte (with_spaces s reached) n va ≡ slice_index (s.spaces.pages row.frame) (page_offset va) =
      page_byte reached (slot_at s n).directory va row there readable below (records_of s.environments)
      ∙ (λ i. slice_index (quiet.pages i row.frame) (page_offset va)) in
      ap (accessing s n va Read (λ t. giving t (user_byte t n va))) (page_reached s.spaces (slot_at s n).directory va row stands readable below)
      ∙ ap (λ (w : ℕ). giving (with_spaces s reached) w) byte

-- ---- a word of four bytes that stand in two words

-- how many of the first word's are left away, and the two words
abbrev pub joined : ℕ → ℕ → ℕ → ℕ
joined r first second =
    if r == 1 then first / 256 + second % 256 * 2 ^ 24
    else if r == 2 then first / 2 ^ 16 + second % 2 ^ 16 * 2 ^ 16
    else if r == 3 then first / 2 ^ 24 + second % 2 ^ 24 * 256
    else first

module _ (page : List ℕ) (small : (i : ℕ) → slice_index page i < 256) (base : ℕ) where
  abbrev byte : ℕ → ℕ
  byte = slice_index page

  joined_one : joined 1 (word_at byte base) (word_at byte (base + 4))
      ≡ from_le_bytes w32 (byte (base + 1) ∷ byte (base + 2) ∷ byte (base + 3) ∷ byte (base + 4) ∷ [])
  joined_one =
      let a = small base in
      let b = small (base + 1) in
      let c = small (base + 2) in
      let d = small (base + 3) in
      let e = small (base + 4) in
      omega (arith, a, b, c, d, e)

  joined_two : joined 2 (word_at byte base) (word_at byte (base + 4))
      ≡ from_le_bytes w32 (byte (base + 2) ∷ byte (base + 3) ∷ byte (base + 4) ∷ byte (base + 4 + 1) ∷ [])
  joined_two =
      let a = small base in
      let b = small (base + 1) in
      let c = small (base + 2) in
      let d = small (base + 3) in
      let e = small (base + 4) in
      let f = small (base + 4 + 1) in
      omega (arith, a, b, c, d, e, f)

  joined_three : joined 3 (word_at byte base) (word_at byte (base + 4))
      ≡ from_le_bytes w32 (byte (base + 3) ∷ byte (base + 4) ∷ byte (base + 4 + 1) ∷ byte (base + 4 + 2) ∷ [])
  joined_three =
      let a = small base in
      let b = small (base + 1) in
      let c = small (base + 2) in
      let d = small (base + 3) in
      let e = small (base + 4) in
      let f = small (base + 4 + 1) in
      let g = small (base + 4 + 2) in
      omega (arith, a, b, c, d, e, f, g)

-- the word that begins at a place
pub joined_is : (page : List ℕ) → ((i : ℕ) → slice_index page i < 256) → (at : ℕ) →
    joined (at % 4) (word_at (slice_index page) (at - at % 4)) (word_at (slice_index page) (at - at % 4 + 4)) ≡ word_at (slice_index page) at
joined_is page small at = by_rest (at % 4) refl
  where
    byte : ℕ → ℕ
    byte = slice_index page

    by_rest : (r : ℕ) → at % 4 ≡ r →
        joined r (word_at (slice_index page) (at - r)) (word_at (slice_index page) (at - r + 4)) ≡ word_at (slice_index page) at
    by_rest zero is =
        let same : at - 0 ≡ at = omega arith in ap (word_at (slice_index page)) same
    by_rest (suc zero) is =
        let here : at - 1 + 1 ≡ at = omega (arith, is) in
        let one : at - 1 + 2 ≡ at + 1 = omega (arith, is) in
        let two : at - 1 + 3 ≡ at + 2 = omega (arith, is) in
        let three : at - 1 + 4 ≡ at + 3 = omega (arith, is) in
        joined_one page small (at - 1)
        ∙ (λ i. from_le_bytes w32 (slice_index page (here i) ∷ slice_index page (one i) ∷ slice_index page (two i) ∷ slice_index page (three i) ∷ []))
    by_rest (suc (suc zero)) is =
        let here : at - 2 + 2 ≡ at = omega (arith, is) in
        let one : at - 2 + 3 ≡ at + 1 = omega (arith, is) in
        let two : at - 2 + 4 ≡ at + 2 = omega (arith, is) in
        let three : at - 2 + 4 + 1 ≡ at + 3 = omega (arith, is) in
        joined_two page small (at - 2)
        ∙ (λ i. from_le_bytes w32 (slice_index page (here i) ∷ slice_index page (one i) ∷ slice_index page (two i) ∷ slice_index page (three i) ∷ []))
    by_rest (suc (suc (suc zero))) is =
        let here : at - 3 + 3 ≡ at = omega (arith, is) in
        let one : at - 3 + 4 ≡ at + 1 = omega (arith, is) in
        let two : at - 3 + 4 + 1 ≡ at + 2 = omega (arith, is) in
        let three : at - 3 + 4 + 2 ≡ at + 3 = omega (arith, is) in
        joined_three page small (at - 3)
        ∙ (λ i. from_le_bytes w32 (slice_index page (here i) ∷ slice_index page (one i) ∷ slice_index page (two i) ∷ slice_index page (three i) ∷ []))
    by_rest (suc (suc (suc (suc more)))) is = absurd (omega (arith, is))

-- ---- its page

module _ {names : Names} {s : KernelState} {a : AbstractState} (h : StandsFor names s a) (n : ℕ) (call : Service) (from : Step) (done count : ℕ)
    (v : IsServed names s a n call from) (has : HasBytes (view_of s.spaces (slot_at s n).directory) (slot_at s n) v.b call done count) where
  abbrev space : View
  space = view_of s.spaces (slot_at s n).directory

  abbrev page : List ℕ
  page = s.spaces.pages has.kept.entry.frame

  whole : IsPage page
  whole = frame_whole h n v.b v.is (page_number UTEMP) has.kept.entry has.kept.stands

  user : is_page_perm has.kept.entry.perm ≡ true
  user =
      (h.users n (page_number UTEMP) has.kept.entry
      (logical_plain s.spaces s.environments.slots n (clients_live h n v.b v.is) (ap is_plain v.place ∙ handing_plain call has.hands from)
      (page_number UTEMP) ∙ has.kept.stands)).page

  -- a word of it, and a byte
  page_word_there : (o : ℕ) → o % 4 ≡ 0 → o < 4096 → load s n (UTEMP + o) ≡ read_at s n (UTEMP + o) (word_at (slice_index page) o)
  page_word_there o aligned inside =
      let number : page_number (UTEMP + o) ≡ page_number UTEMP = omega (arith, inside) in
      let offset : page_offset (UTEMP + o) ≡ o = omega (arith, inside) in
      load_page_word s n (UTEMP + o) has.kept.entry (omega (arith, aligned)) (ap space.row number ∙ has.kept.stands) user h.in_order.frames
      ∙ ap (λ (at : ℕ). read_at s n (UTEMP + o) (word_at (slice_index page) at)) offset

  page_byte_there : (o : ℕ) → o < 4096 → load_byte s n (UTEMP + o) ≡ read_at s n (UTEMP + o) (slice_index page o)
  page_byte_there o inside =
      let number : page_number (UTEMP + o) ≡ page_number UTEMP = omega (arith, inside) in
      let offset : page_offset (UTEMP + o) ≡ o = omega (arith, inside) in
      load_page_byte s n (UTEMP + o) has.kept.entry (ap space.row number ∙ has.kept.stands) user h.in_order.frames
      ∙ ap (λ (at : ℕ). read_at s n (UTEMP + o) (slice_index page at)) offset

  abbrev rest : List ℕ
  rest = drop done has.bytes

  rest_long : length rest ≡ count - done
  rest_long =
      let long = length-drop done has.bytes in
      let many = has.many in
      omega (arith, long, many)

  lies : IsMoved (buffer_of call + done) (count - done) (put_at_once call done count)
  lies = moved_is (buffer_of call + done) (count - done) (let fewer = has.fewer in omega (arith, fewer))

  -- each byte that is left stands there
  byte_there : (i : ℕ) → done + i < count → slice_index rest i ≡ slice_index page (done + i)
  byte_there i lt = get_or-drop done has.bytes i 0 ∙ sym (has.kept.same (done + i) lt)

  -- what is put then, where it is a word, and where it is a byte
  word_taken : put_at_once call done count ≡ 4 →
      take (put_at_once call done count) (to_le_bytes w32 (word_at (slice_index page) done)) ≡ take (put_at_once call done count) rest
  word_taken four =
      let within = lies.within in
      let fewer = has.fewer in
      let long = rest_long in
      let none : done + 0 ≡ done = omega arith in
      let zeroth = byte_there 0 (omega (arith, within, four, fewer)) ∙ ap (slice_index page) none in
      let one = byte_there 1 (omega (arith, within, four)) in
      let two = byte_there 2 (omega (arith, within, four)) in
      let three = byte_there 3 (omega (arith, within, four)) in
      let those : take 4 rest ≡ slice_index page done ∷ slice_index page (done + 1) ∷ slice_index page (done + 2) ∷ slice_index page (done + 3) ∷ [] =
      take_four rest (omega (arith, within, four, long)) ∙ (λ i. zeroth i ∷ one i ∷ two i ∷ three i ∷ []) in
      subst (λ (m : ℕ). take m (to_le_bytes w32 (word_at (slice_index page) done)) ≡ take m rest) (sym four)
      (le_bytes_4 (take 4 rest) (word_at (slice_index page) done) (length-take-le 4 rest (omega (arith, within, four, long)))
      (bytes_take 4 rest (bytes_drop done has.bytes has.small)) (ap (from_le_bytes w32) (sym those)))

  byte_taken : put_at_once call done count ≡ 1 →
      take (put_at_once call done count) (to_le_bytes w32 (slice_index page done)) ≡ take (put_at_once call done count) rest
  byte_taken one =
      let fewer = has.fewer in
      let long = rest_long in
      let none : done + 0 ≡ done = omega arith in
      let zeroth = byte_there 0 (omega (arith, fewer)) ∙ ap (slice_index page) none in
      let small = whole.small done in
      let byte_is : slice_index page done % 256 ≡ slice_index page done = omega (arith, small) in
      subst (λ (m : ℕ). take m (to_le_bytes w32 (slice_index page done)) ≡ take m rest) (sym one)
      (ap (λ (byte : ℕ). byte ∷ []) (byte_is ∙ sym zeroth) ∙ sym (take_first rest (omega (arith, fewer, long))))

  -- the first of two words is within the bytes
  first_same : put_at_once call done count ≡ 4 → word_at (slice_index has.bytes) (done - done % 4) ≡ word_at (slice_index page) (done - done % 4)
  first_same four =
      let none : done - done % 4 + 0 ≡ done - done % 4 = omega arith in
      let zeroth : slice_index has.bytes (done - done % 4) ≡ slice_index page (done - done % 4) =
      subst (λ (q : ℕ). slice_index has.bytes q ≡ slice_index page q) none (same 0 (omega arith)) in
      λ i. from_le_bytes w32 (zeroth i ∷ same 1 (omega arith) i ∷ same 2 (omega arith) i ∷ same 3 (omega arith) i ∷ [])
    where
      same : (i : ℕ) → i < 4 → slice_index has.bytes (done - done % 4 + i) ≡ slice_index page (done - done % 4 + i)
      same i lt =
          let within = lies.within in
          let fewer = has.fewer in
          sym (has.kept.same (done - done % 4 + i) (omega (arith, within, four, fewer, lt)))

  loads_goes : keeps_request from ≡ true → is_calm_step from ≡ true → (va : ℕ) → IsInOrder (loaded s n va) → (to : Step) →
      keeps_request to ≡ true → is_calm_step to ≡ true →
      StandsAtStep space (record (slot_at s n) { extra = words_at (number_of call) to }) v.b call to →
      StandsFor names (with_extra (loaded s n va) n (words_at (number_of call) to)) a
  loads_goes held calm va order to keeps calm_to so =
      read_goes_on h n call from v (handing_unborne call has.hands from) calm va order to (handing_unborne call has.hands to) calm_to
      (handing_held call has.hands from held ∙ sym (handing_held call has.hands to keeps)) so

-- ---- it loads the next bytes

module _ {names : Names} {s : KernelState} {a : AbstractState} (h : StandsFor names s a) (n : ℕ) (call : Service) (done count : ℕ)
    (stands : place_of (slot_at s n) ≡ place.InService call (step.LoadingBytes done count)) where
  abbrev from : Step
  from = step.LoadingBytes done count

  abbrev pub loading_service : IsServed names s a n call (step.LoadingBytes done count)
  loading_service = served h n call (step.LoadingBytes done count) stands

  abbrev v : IsServed names s a n call (step.LoadingBytes done count)
  v = loading_service

  abbrev it : IsLoadingBytes (view_of s.spaces (slot_at s n).directory) (slot_at s n) v.b call done count
  it = v.at

  abbrev has : HasBytes (view_of s.spaces (slot_at s n).directory) (slot_at s n) v.b call done count
  has = it.has

  -- the bytes of its page
  abbrev pub loading_page : List ℕ
  loading_page = s.spaces.pages has.kept.entry.frame

  inside : done < 4096
  inside = let fewer = has.fewer in let most = has.most in omega (arith, fewer, most)

  pub loading_word : done % 4 ≡ 0 → load s n (UTEMP + done) ≡ read_at s n (UTEMP + done) (word_at (slice_index loading_page) done)
  loading_word aligned = page_word_there h n call from done count v has done aligned inside

  pub loading_byte : load_byte s n (UTEMP + done) ≡ read_at s n (UTEMP + done) (slice_index loading_page done)
  loading_byte = page_byte_there h n call from done count v has done inside

  pub loading_first : load s n (UTEMP + (done - done % 4)) ≡ read_at s n (UTEMP + (done - done % 4)) (word_at (slice_index loading_page) (done - done % 4))
  loading_first =
      let low = inside in page_word_there h n call from done count v has (done - done % 4) (omega arith) (omega (arith, low))

  module _ (va : ℕ) (order : IsInOrder (loaded s n va)) where
    -- it has them
    pub loads_word : put_at_once call done count ≡ 4 →
        StandsFor names (with_extra (loaded s n va) n (words_at (number_of call) (step.PuttingBytes done count (word_at (slice_index loading_page) done)))) a
    loads_word four =
        let to : Step = step.PuttingBytes done count (word_at (slice_index loading_page) done) in
        loads_goes h n call from done count v has refl refl va order to refl refl (record {
          has = bytes_with (view_of s.spaces (slot_at s n).directory) (slot_at s n) v.b (words_at (number_of call) to) call done count has;
          allowed = it.allowed;
          word_is = word_taken h n call from done count v has four;
        })

    pub loads_byte : put_at_once call done count ≡ 1 →
        StandsFor names (with_extra (loaded s n va) n (words_at (number_of call) (step.PuttingBytes done count (slice_index loading_page done)))) a
    loads_byte one =
        let to : Step = step.PuttingBytes done count (slice_index loading_page done) in
        loads_goes h n call from done count v has refl refl va order to refl refl (record {
          has = bytes_with (view_of s.spaces (slot_at s n).directory) (slot_at s n) v.b (words_at (number_of call) to) call done count has;
          allowed = it.allowed;
          word_is = byte_taken h n call from done count v has one;
        })

    -- or the first of two words
    pub loads_first : put_at_once call done count ≡ 4 → done % 4 ≢ 0 →
        StandsFor names (with_extra (loaded s n va) n
        (words_at (number_of call) (step.LoadingRest done count (word_at (slice_index loading_page) (done - done % 4))))) a
    loads_first four apart =
        let to : Step = step.LoadingRest done count (word_at (slice_index loading_page) (done - done % 4)) in
        loads_goes h n call from done count v has refl refl va order to refl refl (record {
          has = bytes_with (view_of s.spaces (slot_at s n).directory) (slot_at s n) v.b (words_at (number_of call) to) call done count has;
          allowed = it.allowed;
          whole = four;
          apart = apart;
          first_is = first_same h n call from done count v has four;
        })

-- ---- and the second

module _ {names : Names} {s : KernelState} {a : AbstractState} (h : StandsFor names s a) (n : ℕ) (call : Service) (done count first : ℕ)
    (stands : place_of (slot_at s n) ≡ place.InService call (step.LoadingRest done count first)) where
  abbrev at : Step
  at = step.LoadingRest done count first

  abbrev w : IsServed names s a n call (step.LoadingRest done count first)
  w = served h n call (step.LoadingRest done count first) stands

  abbrev rest_it : IsLoadingRest (view_of s.spaces (slot_at s n).directory) (slot_at s n) w.b call done count first
  rest_it = w.at

  abbrev so : HasBytes (view_of s.spaces (slot_at s n).directory) (slot_at s n) w.b call done count
  so = rest_it.has

  abbrev pub rest_page : List ℕ
  rest_page = s.spaces.pages so.kept.entry.frame

  -- where it stands
  second_inside : done - done % 4 + 4 < 4096
  second_inside =
      let whole = rest_it.whole in
      let within = (lies h n call at done count w so).within in
      let apart = rest_it.apart in
      let most = so.most in
      let fewer = so.fewer in
      omega (arith, whole, within, apart, most, fewer)

  pub second_word : load s n (UTEMP + (done - done % 4 + 4))
      ≡ read_at s n (UTEMP + (done - done % 4 + 4)) (word_at (slice_index rest_page) (done - done % 4 + 4))
  second_word = page_word_there h n call at done count w so (done - done % 4 + 4) (omega arith) second_inside

  pub loads_second : (va : ℕ) → IsInOrder (loaded s n va) →
      StandsFor names (with_extra (loaded s n va) n (words_at (number_of call)
      (step.PuttingBytes done count (joined (done % 4) first (word_at (slice_index rest_page) (done - done % 4 + 4)))))) a
  loads_second va order =
      let word : ℕ = joined (done % 4) first (word_at (slice_index rest_page) (done - done % 4 + 4)) in
      let to : Step = step.PuttingBytes done count word in
      let first_there : first ≡ word_at (slice_index rest_page) (done - done % 4) =
      sym rest_it.first_is ∙ first_same h n call at done count w so rest_it.whole in
      let word_is : word ≡ word_at (slice_index rest_page) done =
      ap (λ (f : ℕ). joined (done % 4) f (word_at (slice_index rest_page) (done - done % 4 + 4))) first_there
      ∙ joined_is rest_page (whole h n call at done count w so).small done in
      loads_goes h n call at done count w so refl refl va order to refl refl (record {
        has = bytes_with (view_of s.spaces (slot_at s n).directory) (slot_at s n) w.b (words_at (number_of call) to) call done count so;
        allowed = rest_it.allowed;
        word_is = subst (λ (x : ℕ). take (put_at_once call done count) (to_le_bytes w32 x)
            ≡ take (put_at_once call done count) (drop done so.bytes)) (sym word_is)
            (word_taken h n call at done count w so rest_it.whole);
      })
