-- One page of a space has other bytes from a place on: what is told of the pages of spawn behind that.
use Rattle.std.proofs.Common.{◌≡◌, ◌≢◌, ◌∙◌, ◌+◌, ◌-◌, ◌<◌, ◌≤◌, ◌++◌, ℕ, Bool, true, false, List, [], length, Some, refl, sym, ap, subst, arith}
use Rattle.std.specs.Prelude.{drop, nat_lt, slice_index, take}
use Rattle.std.proofs.lemmas.Bool.Decides.{nat_tests}
use Rattle.std.proofs.lemmas.List.{get_or-append_right, get_or-drop, get_or-take, get_or_append_left, length-append, length-drop, length-take}
use Rattle.std.proofs.lemmas.Option.{same_Some}
use Rattle.jos_base.specs.declared.numbers.TheConstants.{PGSIZE}
use Rattle.jos_base.specs.Reach.{Entry}
use Rattle.jos_base.specs.SpacesState.{overlaid}
use Rattle.jos_base.specs.Words.{page_number}
use Rattle.lib_os.specs.LibraryPages.{IsOwnWritable, View}
use Rattle.lib_os.specs.Rows.{EntryRow, IsPage}
use Rattle.lib_os.specs.StandsAtSpawn.{MayLoad, PageHas}
use Rattle.lib_os.specs.StandsInHandler.{is_refused_by}
use Rattle.lib_os.proofs.BytesPut.{bytes_put, put_before, put_behind, put_there}

-- ---- bytes that lie over others

module _ (page : List ℕ) (at : ℕ) (bytes : List ℕ) (fits : at + length bytes ≤ length page) where
  first_long : length (take at page) ≡ at
  first_long = let long = length-take at page in omega (arith, long, fits)

  pub overlaid_length : length (overlaid page at bytes) ≡ length page
  overlaid_length =
      let all = length-append (take at page) (bytes ++ drop (at + length bytes) page) in
      let behind = length-append bytes (drop (at + length bytes) page) in
      let last = length-drop (at + length bytes) page in
      let first = first_long in
      omega (arith, all, behind, last, first, fits)

  pub overlaid_before : (i : ℕ) → i < at → slice_index (overlaid page at bytes) i ≡ slice_index page i
  overlaid_before i lt =
      let long = first_long in
      get_or_append_left (take at page) (bytes ++ drop (at + length bytes) page) 0 i (omega (arith, long, lt)) ∙ get_or-take at page i 0 lt

  pub overlaid_there : (i : ℕ) → i < length bytes → slice_index (overlaid page at bytes) (at + i) ≡ slice_index bytes i
  overlaid_there i lt =
      let same : at + i - at ≡ i = omega arith in
      get_or-append_right (take at page) (bytes ++ drop (at + length bytes) page) at (at + i) 0 first_long (omega arith)
      ∙ ap (slice_index (bytes ++ drop (at + length bytes) page)) same
      ∙ get_or_append_left bytes (drop (at + length bytes) page) 0 i lt

  pub overlaid_behind : (i : ℕ) → at + length bytes ≤ i → slice_index (overlaid page at bytes) i ≡ slice_index page i
  overlaid_behind i behind =
      let same : at + length bytes + (i - at - length bytes) ≡ i = omega (arith, behind) in
      get_or-append_right (take at page) (bytes ++ drop (at + length bytes) page) at i 0 first_long (omega (arith, behind))
      ∙ get_or-append_right bytes (drop (at + length bytes) page) (length bytes) (i - at) 0 refl (omega (arith, behind))
      ∙ get_or-drop (at + length bytes) page (i - at - length bytes) 0
      ∙ ap (slice_index page) same

  -- they are put there
  pub put_overlaid : (i : ℕ) → slice_index (bytes_put page at bytes) i ≡ slice_index (overlaid page at bytes) i
  put_overlaid i = by_place (nat_lt i at) refl (nat_lt i (at + length bytes)) refl
    where
      by_place : (c : Bool) → nat_lt i at ≡ c → (d : Bool) → nat_lt i (at + length bytes) ≡ d →
          slice_index (bytes_put page at bytes) i ≡ slice_index (overlaid page at bytes) i
      by_place true test d within =
          let before : i < at = grind (arith, nat_tests) in put_before page at bytes i before ∙ sym (overlaid_before i before)
      by_place false test true within =
          let later : at ≤ i = grind (arith, nat_tests, test) in
          let low : i < at + length bytes = grind (arith, nat_tests, within) in
          let place : i ≡ at + (i - at) = omega (arith, later) in
          subst (λ (j : ℕ). slice_index (bytes_put page at bytes) j ≡ slice_index (overlaid page at bytes) j) (sym place)
          (put_there page at bytes (i - at) (omega (arith, later, low)) fits ∙ sym (overlaid_there (i - at) (omega (arith, later, low))))
      by_place false test false within =
          let behind : at + length bytes ≤ i = grind (arith, nat_tests, within) in put_behind page at bytes i behind ∙ sym (overlaid_behind i behind)

-- ---- a page of a space

pub record IsPutIn (v w : View) (p at : ℕ) (bytes : List ℕ) : Type 0 where
  pub row : w.row ≡ v.row
  pub tables : (r : ℕ) → w.tables r ≡ v.tables r
  pub beside : (q : ℕ) (x : Entry) → q ≢ p → v.row q ≡ Some x → w.bytes x.frame ≡ v.bytes x.frame
  pub page : IsOwnWritable v.row p
  pub here : w.bytes page.entry.frame ≡ bytes_put (v.bytes page.entry.frame) at bytes
  pub whole : IsPage (v.bytes page.entry.frame)
  pub fits : at + length bytes ≤ PGSIZE

module _ {v w : View} {p at : ℕ} {bytes : List ℕ} (it : IsPutIn v w p at bytes) where
  abbrev now : List ℕ
  now = bytes_put (v.bytes it.page.entry.frame) at bytes

  stands_still : (q : ℕ) (x : Entry) → v.row q ≡ Some x → w.row q ≡ Some x
  stands_still q x stands = ap (λ (r : EntryRow). r q) it.row ∙ stands

  -- another page
  pub page_beside : {q from : ℕ} {had : List ℕ} → q ≢ p → PageHas v q from had → PageHas w q from had
  page_beside {q = q} {from = from} {had = had} other h = record {
    entry = h.entry;
    stands = stands_still q h.entry h.stands;
    own_page = h.own_page;
    same = λ i lt. ap (λ (l : List ℕ). slice_index l (from + i)) (it.beside q h.entry other h.stands) ∙ h.same i lt;
  }

  -- the page itself
  it_has : (from : ℕ) (has : List ℕ) → ((i : ℕ) → i < length has → slice_index now (from + i) ≡ slice_index has i) → PageHas w p from has
  it_has from has same = record {
    entry = it.page.entry;
    stands = stands_still p it.page.entry it.page.stands;
    own_page = it.page.own_page;
    same = λ i lt. ap (λ (l : List ℕ). slice_index l (from + i)) it.here ∙ same i lt;
  }

  was_same : {from : ℕ} {had : List ℕ} → PageHas v p from had → (i : ℕ) → i < length had →
      slice_index (v.bytes it.page.entry.frame) (from + i) ≡ slice_index had i
  was_same {from = from} h i lt =
      let same : h.entry ≡ it.page.entry = same_Some h.entry it.page.entry (sym h.stands ∙ it.page.stands) in
      ap (λ (e : Entry). slice_index (v.bytes e.frame) (from + i)) (sym same) ∙ h.same i lt

  long_enough : at + length bytes ≤ length (v.bytes it.page.entry.frame)
  long_enough = let long = it.whole.long in let fits = it.fits in omega (arith, long, fits)

  -- the bytes are there
  pub page_put : PageHas w p at bytes
  page_put = it_has at bytes (λ i lt. put_there (v.bytes it.page.entry.frame) at bytes i lt long_enough)

  -- and others, before them
  pub page_before : {from : ℕ} {had : List ℕ} → from + length had ≤ at → PageHas v p from had → PageHas w p from had
  page_before {from = from} {had = had} before h =
      it_has from had
      (λ i lt. put_before (v.bytes it.page.entry.frame) at bytes (from + i) (omega (arith, before, lt)) ∙ was_same h i lt)

  -- or behind them
  pub page_behind : {from : ℕ} {had : List ℕ} → at + length bytes ≤ from → PageHas v p from had → PageHas w p from had
  page_behind {from = from} {had = had} behind h =
      it_has from had
      (λ i lt. put_behind (v.bytes it.page.entry.frame) at bytes (from + i) (omega (arith, behind, lt)) ∙ was_same h i lt)

  -- Where they stand behind those that it had, it has all of them.
  pub page_more : {from : ℕ} {had : List ℕ} → from + length had ≡ at → PageHas v p from had → PageHas w p from (had ++ bytes)
  page_more {from = from} {had = had} joined h = it_has from (had ++ bytes) each
    where
      by_place : (i : ℕ) → i < length (had ++ bytes) → (c : Bool) → nat_lt i (length had) ≡ c →
          slice_index now (from + i) ≡ slice_index (had ++ bytes) i
      by_place i lt true test =
          let low : i < length had = grind (arith, nat_tests, test) in
          put_before (v.bytes it.page.entry.frame) at bytes (from + i) (omega (arith, joined, low)) ∙ was_same h i low
          ∙ sym (get_or_append_left had bytes 0 i low)
      by_place i lt false test =
          let later : length had ≤ i = grind (arith, nat_tests, test) in
          let all = length-append had bytes in
          let place : from + i ≡ at + (i - length had) = omega (arith, joined, later) in
          ap (slice_index now) place
          ∙ put_there (v.bytes it.page.entry.frame) at bytes (i - length had) (omega (arith, all, lt, later)) long_enough
          ∙ sym (get_or-append_right had bytes (length had) i 0 refl later)

      each : (i : ℕ) → i < length (had ++ bytes) →
          slice_index now (from + i) ≡ slice_index (had ++ bytes) i
      each i lt = by_place i lt (nat_lt i (length had)) refl

  -- where all bytes of the page were known, they are with these over them
  pub page_over : {had : List ℕ} → length had ≡ PGSIZE → PageHas v p 0 had → PageHas w p 0 (overlaid had at bytes)
  page_over {had = had} whole h =
      it_has 0 (overlaid had at bytes) (λ i lt. ap (slice_index now) (from_none i) ∙ by_place i lt (nat_lt i at) refl (nat_lt i (at + length bytes)) refl)
    where
      from_none : (i : ℕ) → 0 + i ≡ i
      from_none i = omega (arith)

      was_there : (i : ℕ) → i < length had → slice_index (v.bytes it.page.entry.frame) i ≡ slice_index had i
      was_there i lt = ap (slice_index (v.bytes it.page.entry.frame)) (sym (from_none i)) ∙ was_same h i lt

      within : at + length bytes ≤ length had
      within = let fits = it.fits in omega (arith, fits, whole)

      long : length (overlaid had at bytes) ≡ length had
      long = overlaid_length had at bytes within

      by_place : (i : ℕ) → i < length (overlaid had at bytes) → (c : Bool) → nat_lt i at ≡ c → (d : Bool) → nat_lt i (at + length bytes) ≡ d →
          slice_index now i ≡ slice_index (overlaid had at bytes) i
      by_place i lt true test d under =
          let low : i < at = grind (arith, nat_tests, test) in
          put_before (v.bytes it.page.entry.frame) at bytes i low ∙ was_there i (omega (arith, low, within))
          ∙ sym (overlaid_before had at bytes within i low)
      by_place i lt false test true under =
          let later : at ≤ i = grind (arith, nat_tests, test) in
          let low : i < at + length bytes = grind (arith, nat_tests, under) in
          let place : i ≡ at + (i - at) = omega (arith, later) in
          ap (slice_index now) place
          ∙ put_there (v.bytes it.page.entry.frame) at bytes (i - at) (omega (arith, later, low)) long_enough
          ∙ sym (overlaid_there had at bytes within (i - at) (omega (arith, later, low)))
          ∙ ap (slice_index (overlaid had at bytes)) (sym place)
      by_place i lt false test false under =
          let behind : at + length bytes ≤ i = grind (arith, nat_tests, under) in
          put_behind (v.bytes it.page.entry.frame) at bytes i behind ∙ was_there i (omega (arith, lt, long))
          ∙ sym (overlaid_behind had at bytes within i behind)

  -- a page of which nothing is told
  pub page_there : {from : ℕ} {had : List ℕ} → PageHas v p from had → (at_place : ℕ) → PageHas w p at_place []
  page_there h at_place = it_has at_place [] (λ i lt. absurd (omega (arith, lt)))

  -- what is told of the program's bytes stays
  pub may_load_still : {va : ℕ} → MayLoad v va → MayLoad w va
  may_load_still {va = va} h =
      record { inside = h.inside; allowed = ap (λ (r : EntryRow). is_refused_by false (r (page_number va))) it.row ∙ h.allowed }
