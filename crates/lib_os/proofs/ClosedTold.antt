-- Whether the other end of a pipe is open is told by how often the page of an end and that of its pipe are mapped: wherever the page of an end is,
-- that of the pipe stands so many pages higher, and that stands nowhere else but for the other end, and for ends that are given on or dropped.
use Rattle.std.proofs.Common.{◌≡◌, ◌≢◌, ◌∙◌, ◌+◌, ◌-◌, ◌<◌, ◌≤◌, ◌==◌, ◌||◌, ◌⊎◌, inl, inr, ℕ, Bool, true, false, List, Option, Some, None}
use Rattle.std.proofs.Common.{refl, sym, ap, subst, arith}
use Rattle.std.specs.Prelude.{nat_lt}
use Rattle.std.specs.Option.{option_map}
use Rattle.std.proofs.lemmas.Bool.Decides.{nat_tests}
use Rattle.std.proofs.lemmas.Option.{none-some, same_Some}
use Rattle.jos_base.specs.declared.numbers.TheConstants.{FDTABLE}
use Rattle.jos_base.specs.Counting.{frame_limit, named, page_count, page_limit}
use Rattle.jos_base.specs.KernelState.{KernelState, slot_at}
use Rattle.jos_base.specs.Reach.{Entry}
use Rattle.jos_base.specs.SpacesState.{SpacesState, Use, own_count, reference_count}
use Rattle.jos_base.specs.Words.{page_number}
use Rattle.jos_base.proofs.Counts.{named_is}
use Rattle.lib_os.specs.declared.numbers.TheConstants.{DESCRIPTORS, SHORT_QUANTUM}
use Rattle.lib_os.specs.AbstractPipes.{is_read_end, is_such_held, is_write_end}
use Rattle.lib_os.specs.AbstractRun.{is_changed, may_be_open, pipe_of}
use Rattle.lib_os.specs.AbstractState.{AbstractState, Born, Object, born, file, read_end, terminal, write_end}
use Rattle.lib_os.specs.DescriptorPages.{HasObject, HasPipe, Things}
use Rattle.lib_os.specs.PipeEnds.{is_made, pipe_named}
use Rattle.lib_os.specs.PipeLaws.{AreCountedAlike, CountsTellClosed, HasEnd, is_other_end}
use Rattle.lib_os.specs.Places.{place_of}
use Rattle.lib_os.specs.Rows.{HasThing, IsNamed, Names, ShowsBy, descriptor_page, is_of_descriptor, is_pipe_page, lasting, pipe_page, rows_of}
use Rattle.lib_os.specs.StandsAtPipe.{AreCounted}
use Rattle.lib_os.specs.StandsFor.{StandsFor, things_in, view_of}
use Rattle.lib_os.proofs.EndsCounted.{page_count-lowered, page_count-raised, page_count-raised_more}
use Rattle.lib_os.proofs.EndsHeld.{EndBeside, HoldsIt, PipeBeside, born_not_first, descriptor_is, descriptor_shares, has_end, has_pipe, holder_has}
use Rattle.lib_os.proofs.EndsHeld.{held_so, holder_of, holder_unmade, live, pipe_is, pipe_shares, seen_as, slot_small}
use Rattle.lib_os.proofs.SharedCount.{IsShared, Mapped, Shares, mapped_so, shares_stands}

-- ---- objects

-- the file server has no page of an end
lacks_end : (things : Things) (name frame pipe : ℕ) (o : Object) (bytes : List ℕ) → pipe_of (Some o) ≡ Some pipe → HasObject things name frame o bytes →
    (q : ℕ) (d : Entry) → things.row q ≡ Some d → d.frame ≢ frame
lacks_end things name frame pipe (read_end other) bytes of is = is.apart
lacks_end things name frame pipe (write_end other) bytes of is = is.apart
lacks_end things name frame pipe terminal bytes of is = absurd (none-some pipe of)
lacks_end things name frame pipe (file f) bytes of is = absurd (none-some pipe of)

-- Two ends of a pipe have one name, or are the two ends of it.
one_or_other : (things : Things) (pipe name frame other frame_other : ℕ) (o p : Object) (bytes more : List ℕ) → pipe_of (Some o) ≡ Some pipe →
    pipe_of (Some p) ≡ Some pipe → HasObject things name frame o bytes → HasObject things other frame_other p more →
    (other ≡ name) ⊎ (is_other_end o p ≡ true)
one_or_other things pipe name frame other frame_other (read_end m) (read_end n) bytes more of too is it =
    let one = same_Some m pipe of in let two = same_Some n pipe too in
    let first = is.numbered in let second = it.numbered in inl (omega (arith, one, two, first, second))
one_or_other things pipe name frame other frame_other (write_end m) (write_end n) bytes more of too is it =
    let one = same_Some m pipe of in let two = same_Some n pipe too in
    let first = is.numbered in let second = it.numbered in inl (omega (arith, one, two, first, second))
one_or_other things pipe name frame other frame_other (read_end m) (write_end n) bytes more of too is it =
    let one = same_Some m pipe of in let two = same_Some n pipe too in
    let same : m ≡ n = one ∙ sym two in inr (grind (arith, nat_tests))
one_or_other things pipe name frame other frame_other (write_end m) (read_end n) bytes more of too is it =
    let one = same_Some m pipe of in let two = same_Some n pipe too in
    let same : m ≡ n = one ∙ sym two in inr (grind (arith, nat_tests))
one_or_other things pipe name frame other frame_other terminal p bytes more of too is it = absurd (none-some pipe of)
one_or_other things pipe name frame other frame_other (file f) p bytes more of too is it = absurd (none-some pipe of)
one_or_other things pipe name frame other frame_other (read_end m) terminal bytes more of too is it = absurd (none-some pipe too)
one_or_other things pipe name frame other frame_other (read_end m) (file f) bytes more of too is it = absurd (none-some pipe too)
one_or_other things pipe name frame other frame_other (write_end m) terminal bytes more of too is it = absurd (none-some pipe too)
one_or_other things pipe name frame other frame_other (write_end m) (file f) bytes more of too is it = absurd (none-some pipe too)

-- the other end is one of the same pipe
other_so : (pipe : ℕ) (o p : Object) → pipe_of (Some o) ≡ Some pipe → is_other_end o p ≡ true → (pipe_of (Some p) ≡ Some pipe)
other_so pipe (read_end m) (write_end n) of is = let same : n ≡ m = grind (arith, nat_tests) in ap (λ (k : ℕ). Some k) same ∙ of
other_so pipe (write_end m) (read_end n) of is = let same : n ≡ m = grind (arith, nat_tests) in ap (λ (k : ℕ). Some k) same ∙ of
other_so pipe _ _ of is = absurd (let contradiction : false ≡ true = is in cc)

not_itself : (o : Object) → is_other_end o o ≡ true → ⊥
not_itself (read_end m) is = let contradiction : false ≡ true = is in cc
not_itself (write_end m) is = let contradiction : false ≡ true = is in cc
not_itself terminal is = let contradiction : false ≡ true = is in cc
not_itself (file f) is = let contradiction : false ≡ true = is in cc

-- ---- entries

raw_of : (s : SpacesState) (d p : ℕ) (y : Entry) → rows_of s d p ≡ Some y → (e : Entry) × (s.entries d p ≡ Some e) × (e.frame ≡ y.frame)
unfolding rows_of
raw_of s d p y is = by_entry (s.entries d p) is
  where
    by_entry : (o : Option Entry) → option_map lasting o ≡ Some y → (e : Entry) × (o ≡ Some e) × (e.frame ≡ y.frame)
    by_entry None is = absurd (none-some y is)
    by_entry (Some e) is = (e, refl, ap (λ (x : Entry). x.frame) (same_Some (lasting e) y is))

row_so : (s : SpacesState) (d p : ℕ) (e : Entry) → s.entries d p ≡ Some e → rows_of s d p ≡ Some (lasting e)
unfolding rows_of
row_so s d p e is = ap (λ (o : Option Entry). option_map lasting o) is

named_once : (e : Entry) (f : ℕ) → e.frame ≡ f → named f (Some e) ≡ 1
named_once e f same = elim (named_is f e) [ inl here ↦ here.1 | inr off ↦ absurd (off.0 (sym same)) ]

-- ---- in a state

module _ {names : Names} {s : KernelState} {a : AbstractState} (h : StandsFor names s a) where
  named_at : (m p : ℕ) (y : Entry) → Shares s m p y → IsNamed names s.spaces.pages a.shared (things_in s a) a.next_name p y.frame
  named_at m p y has = h.named m p y has.counts has.sharing

  object_at : (m fd : ℕ) (y : Entry) → fd < DESCRIPTORS → Shares s m (descriptor_page fd) y →
      HasObject (things_in s a) (names.name y.frame) y.frame (a.objects (names.name y.frame)) (s.spaces.pages y.frame)
  object_at m fd y below has =
      let it = named_at m (descriptor_page fd) y has in
      let object : names.is_object (names.name y.frame) ≡ true = it.kind ∙ descriptor_is fd below in
      let plain : names.is_pipe (names.name y.frame) ≡ false = it.of_pipe ∙ grind (arith, nat_tests) in
      subst (λ (c : Bool). HasThing (things_in s a) (names.name y.frame) y.frame c (s.spaces.pages y.frame)) plain
      (subst
      (λ (c : Bool).
      ShowsBy (things_in s a) (names.name y.frame) y.frame c (names.is_pipe (names.name y.frame)) (a.shared (names.name y.frame))
      (s.spaces.pages y.frame))
      object it.shows)

  pipe_there : (m fd : ℕ) (y : Entry) → fd < DESCRIPTORS → Shares s m (pipe_page fd) y →
      HasPipe (things_in s a) (names.name y.frame) y.frame (s.spaces.pages y.frame)
  pipe_there m fd y below has =
      let it = named_at m (pipe_page fd) y has in
      let object : names.is_object (names.name y.frame) ≡ true = it.kind ∙ pipe_is fd below in
      let pipes : names.is_pipe (names.name y.frame) ≡ true = it.of_pipe ∙ grind (arith, nat_tests) in
      subst (λ (c : Bool). HasThing (things_in s a) (names.name y.frame) y.frame c (s.spaces.pages y.frame)) pipes
      (subst
      (λ (c : Bool).
      ShowsBy (things_in s a) (names.name y.frame) y.frame c (names.is_pipe (names.name y.frame)) (a.shared (names.name y.frame))
      (s.spaces.pages y.frame))
      object it.shows)

  -- what has one name has one frame
  one_frame : (m p : ℕ) (y : Entry) (n q : ℕ) (z : Entry) → Shares s m p y → Shares s n q z → names.name y.frame ≡ names.name z.frame →
      y.frame ≡ z.frame
  one_frame m p y n q z has too same =
      sym (named_at m p y has).home ∙ ap names.frame same ∙ (named_at n q z too).home

  module _ (n fd name pipe : ℕ) (end page : Entry) (has : HasEnd s a n fd name pipe end page) where
    unmade : is_made (place_of (slot_at s n)) fd ≡ false
    unmade = holder_unmade h n has.b has.at fd name has.names_it

    end_there : Shares s n (descriptor_page fd) end
    end_there = descriptor_shares h n has.b has.at fd end has.below unmade has.stands

    page_there : Shares s n (pipe_page fd) page
    page_there = pipe_shares h n has.b has.at fd page has.below unmade has.lies

    end_name : names.name end.frame ≡ name
    end_name = same_Some (names.name end.frame) name (sym (seen_as h n has.b has.at fd end has.below unmade has.stands) ∙ has.names_it)

    page_name : names.name page.frame ≡ pipe
    page_name =
        let beside = holder_has h n has.b has.at fd name pipe has.below has.names_it has.of in
        let lies = shares_stands h n (born_not_first h n has.b has.at) (live h n has.b has.at) (pipe_page fd) beside.entry beside.there in
        let same : page ≡ beside.entry = same_Some page beside.entry (sym has.lies ∙ lies) in
        ap (λ (x : Entry). names.name x.frame) same ∙ beside.named

    end_of : pipe_named a.objects (names.name end.frame) ≡ Some pipe
    end_of = ap (pipe_named a.objects) end_name ∙ has.of

    end_shared : IsShared s end.frame
    end_shared = record { slot = n; page = descriptor_page fd; entry = end; there = end_there; same = refl }

    page_shared : IsShared s page.frame
    page_shared = record { slot = n; page = pipe_page fd; entry = page; there = page_there; same = refl }

    end_lacked : (q : ℕ) (d : Entry) → rows_of s.spaces (slot_at s 0).directory q ≡ Some d → d.frame ≢ end.frame
    end_lacked =
        lacks_end (things_in s a) (names.name end.frame) end.frame pipe (a.objects (names.name end.frame)) (s.spaces.pages end.frame) end_of
        (object_at n fd end has.below end_there)

    page_lacked : (q : ℕ) (d : Entry) → rows_of s.spaces (slot_at s 0).directory q ≡ Some d → d.frame ≢ page.frame
    page_lacked = (pipe_there n fd page has.below page_there).apart

    -- ---- beside each page of the end stands that of the pipe

    record Raised (d q : ℕ) : Type 0 where
      at : ℕ
      below : at < DESCRIPTORS
      page_is : descriptor_page at ≡ q
      entry : Entry
      there : s.spaces.entries d (pipe_page at) ≡ Some entry
      same : entry.frame ≡ page.frame

    raised : (d q : ℕ) (e : Entry) → s.spaces.entries d q ≡ Some e → e.frame ≡ end.frame → Raised d q
    raised d q e there same = record {
      at = at;
      below = below;
      page_is = page_is;
      entry = raw.0;
      there = ap (λ (k : ℕ). s.spaces.entries k (pipe_page at)) (sym it.home) ∙ raw.1;
      same = raw.2
          ∙ one_frame it.slot (pipe_page at) beside.entry n (pipe_page fd) page beside.there page_there (beside.named ∙ sym page_name);
    }
      where
        it : Mapped h d q end.frame
        it = mapped_so h end.frame end_shared end_lacked d q e there same

        names_so : IsNamed names s.spaces.pages a.shared (things_in s a) a.next_name q it.entry.frame
        names_so = named_at it.slot q it.entry it.there

        of : is_of_descriptor q ≡ true
        of = sym names_so.kind ∙ ap (λ (f : ℕ). names.is_object (names.name f)) it.same
            ∙ (named_at n (descriptor_page fd) end end_there).kind ∙ descriptor_is fd has.below

        no_pipe : is_pipe_page q ≡ false
        no_pipe =
            let below = has.below in
            let plain : is_pipe_page (descriptor_page fd) ≡ false = grind (arith, nat_tests) in
            sym names_so.of_pipe ∙ ap (λ (f : ℕ). names.is_pipe (names.name f)) it.same ∙ (named_at n (descriptor_page fd) end end_there).of_pipe
            ∙ plain

        at : ℕ
        at = q - page_number FDTABLE

        below : at < DESCRIPTORS
        below = let one = of in let two = no_pipe in grind (arith, nat_tests)

        page_is : descriptor_page at ≡ q
        page_is = let one = of in grind (arith, nat_tests)

        beside : PipeBeside h it.slot at pipe
        beside = has_pipe h it.slot it.not_first it.live at it.entry pipe below
            (subst (λ (p : ℕ). Shares s it.slot p it.entry) (sym page_is) it.there)
            (ap (λ (f : ℕ). pipe_named a.objects (names.name f)) it.same ∙ end_of)

        raw : (x : Entry) × (s.spaces.entries (slot_at s it.slot).directory (pipe_page at) ≡ Some x) × (x.frame ≡ beside.entry.frame)
        raw = raw_of s.spaces (slot_at s it.slot).directory (pipe_page at) beside.entry
            (shares_stands h it.slot it.not_first it.live (pipe_page at) beside.entry beside.there)

    end_once : (d q : ℕ) → named end.frame (s.spaces.entries d q) ≤ named page.frame (s.spaces.entries d (DESCRIPTORS + q))
    end_once d q = by_entry (s.spaces.entries d q) refl
      where
        by_entry : (o : Option Entry) → s.spaces.entries d q ≡ o →
            named end.frame o ≤ named page.frame (s.spaces.entries d (DESCRIPTORS + q))
        by_entry None is = omega arith
        by_entry (Some e) is = elim (named_is end.frame e) [
          | inl here ↦
              let up = raised d q e is (sym here.0) in
              let number : pipe_page up.at ≡ DESCRIPTORS + q = (let it = up.page_is in omega (arith, it)) in
              let one : named page.frame (s.spaces.entries d (DESCRIPTORS + q)) ≡ 1 =
              ap (λ (k : ℕ). named page.frame (s.spaces.entries d k)) (sym number) ∙ ap (named page.frame) up.there
              ∙ named_once up.entry page.frame up.same in
              let mine = here.1 in omega (arith, one, mine)
          | inr off ↦ let none = off.1 in omega (arith, none)
        ]

    end_not_last : (d q : ℕ) → page_limit ≤ q + DESCRIPTORS → named end.frame (s.spaces.entries d q) ≡ 0
    unfolding page_limit
    end_not_last d q last = by_entry (s.spaces.entries d q) refl
      where
        by_entry : (o : Option Entry) → s.spaces.entries d q ≡ o → named end.frame o ≡ 0
        by_entry None is = refl
        by_entry (Some e) is = elim (named_is end.frame e) [
          | inl here ↦
              let up = raised d q e is (sym here.0) in let number = up.page_is in let below = up.below in
              absurd (omega (arith, number, below, last))
          | inr off ↦ off.1
        ]

    room : DESCRIPTORS ≤ page_limit
    unfolding page_limit
    room = omega arith

    end_less : page_count s.spaces.entries end.frame ≤ page_count s.spaces.entries page.frame
    end_less = page_count-raised s.spaces.entries end.frame page.frame DESCRIPTORS room end_not_last end_once

    -- ---- that of the pipe stands once more where the other end is held

    held_more : is_such_held a (is_other_end (a.objects name)) ≡ true →
        1 + page_count s.spaces.entries end.frame ≤ page_count s.spaces.entries page.frame
    held_more held =
        page_count-raised_more s.spaces.entries end.frame page.frame DESCRIPTORS room end_not_last end_once home (descriptor_page held_by.fd) within.0
        (let above = within.1 in omega (arith, above)) (let one = there in let none = not_here in omega (arith, one, none))
      where
        held_by : HoldsIt a (is_other_end (a.objects name))
        held_by = holder_of a (is_other_end (a.objects name)) held

        home : ℕ
        home = (slot_at s held_by.slot).directory

        of : pipe_named a.objects held_by.name ≡ Some pipe
        of = other_so pipe (a.objects name) (a.objects held_by.name) has.of held_by.so

        beside : PipeBeside h held_by.slot held_by.fd pipe
        beside = holder_has h held_by.slot held_by.b held_by.at held_by.fd held_by.name pipe held_by.below held_by.names_it of

        raw : (x : Entry) × (s.spaces.entries home (pipe_page held_by.fd) ≡ Some x) × (x.frame ≡ beside.entry.frame)
        raw = raw_of s.spaces home (pipe_page held_by.fd) beside.entry
            (shares_stands h held_by.slot (born_not_first h held_by.slot held_by.b held_by.at) (live h held_by.slot held_by.b held_by.at)
            (pipe_page held_by.fd) beside.entry beside.there)

        within : (home < frame_limit) × (pipe_page held_by.fd < page_limit)
        within = h.in_order.frames.within home (pipe_page held_by.fd) raw.0 raw.1

        there : named page.frame (s.spaces.entries home (DESCRIPTORS + descriptor_page held_by.fd)) ≡ 1
        there =
            let number : DESCRIPTORS + descriptor_page held_by.fd ≡ pipe_page held_by.fd = omega arith in
            ap (λ (k : ℕ). named page.frame (s.spaces.entries home k)) number ∙ ap (named page.frame) raw.1
            ∙ named_once raw.0 page.frame
            (raw.2
            ∙ one_frame held_by.slot (pipe_page held_by.fd) beside.entry n (pipe_page fd) page beside.there page_there (beside.named ∙ sym page_name))

        not_here : named end.frame (s.spaces.entries home (descriptor_page held_by.fd)) ≡ 0
        not_here = by_entry (s.spaces.entries home (descriptor_page held_by.fd)) refl
          where
            by_entry : (o : Option Entry) → s.spaces.entries home (descriptor_page held_by.fd) ≡ o → named end.frame o ≡ 0
            by_entry None is = refl
            by_entry (Some e) is = elim (named_is end.frame e) [
              | inl here ↦
                  let seen : held_by.b.descriptors held_by.fd ≡ Some (names.name e.frame) =
                  seen_as h held_by.slot held_by.b held_by.at held_by.fd (lasting e) held_by.below
                  (holder_unmade h held_by.slot held_by.b held_by.at held_by.fd held_by.name held_by.names_it)
                  (row_so s.spaces home (descriptor_page held_by.fd) e is) in
                  let same : held_by.name ≡ name =
                  same_Some held_by.name (names.name e.frame) (sym held_by.names_it ∙ seen) ∙ ap names.name (sym here.0) ∙ end_name in
                  absurd (not_itself (a.objects name) (ap (λ (k : ℕ). is_other_end (a.objects name) (a.objects k)) (sym same) ∙ held_by.so))
              | inr off ↦ off.1
            ]

    -- ---- and where it is not, and nobody gives ends on or drops them, it stands beside the page of the end alone

    module _ (unheld : is_such_held a (is_other_end (a.objects name)) ≡ false) (still : is_changed a pipe ≡ false) where
      record Lowered (d q : ℕ) : Type 0 where
        at : ℕ
        page_is : pipe_page at ≡ q
        entry : Entry
        there : s.spaces.entries d (descriptor_page at) ≡ Some entry
        same : entry.frame ≡ end.frame

      lowered : (d q : ℕ) (e : Entry) → s.spaces.entries d q ≡ Some e → e.frame ≡ page.frame → Lowered d q
      lowered d q e there same = record {
        at = at;
        page_is = page_is;
        entry = raw.0;
        there = ap (λ (k : ℕ). s.spaces.entries k (descriptor_page at)) (sym it.home) ∙ raw.1;
        same = raw.2
            ∙ one_frame it.slot (descriptor_page at) beside.entry n (descriptor_page fd) end beside.there end_there one_name;
      }
        where
          it : Mapped h d q page.frame
          it = mapped_so h page.frame page_shared page_lacked d q e there same

          names_so : IsNamed names s.spaces.pages a.shared (things_in s a) a.next_name q it.entry.frame
          names_so = named_at it.slot q it.entry it.there

          of_pipe : is_pipe_page q ≡ true
          of_pipe =
              let below = has.below in
              let pipes : is_pipe_page (pipe_page fd) ≡ true = grind (arith, nat_tests) in
              sym names_so.of_pipe ∙ ap (λ (f : ℕ). names.is_pipe (names.name f)) it.same ∙ (named_at n (pipe_page fd) page page_there).of_pipe ∙ pipes

          at : ℕ
          at = q - (page_number FDTABLE + DESCRIPTORS)

          below : at < DESCRIPTORS
          below = let one = of_pipe in grind (arith, nat_tests)

          page_is : pipe_page at ≡ q
          page_is = let one = of_pipe in grind (arith, nat_tests)

          pipe_is_it : names.name it.entry.frame ≡ pipe
          pipe_is_it = ap names.name it.same ∙ page_name

          by_either : (is_changed a (names.name it.entry.frame) ≡ true) ⊎ EndBeside h it.slot at (names.name it.entry.frame) →
              EndBeside h it.slot at (names.name it.entry.frame)
          by_either (inl changed) =
              absurd (let contradiction : false ≡ true = sym still ∙ ap (is_changed a) (sym pipe_is_it) ∙ changed in cc)
          by_either (inr beside) = beside

          beside : EndBeside h it.slot at (names.name it.entry.frame)
          beside = by_either
              (has_end h it.slot it.not_first it.live at it.entry below (subst (λ (p : ℕ). Shares s it.slot p it.entry) (sym page_is) it.there))

          -- it is the same end, since nobody has the other
          one_name : names.name beside.entry.frame ≡ names.name end.frame
          one_name = by_end
              (one_or_other (things_in s a) pipe (names.name end.frame) end.frame (names.name beside.entry.frame) beside.entry.frame
              (a.objects (names.name end.frame)) (a.objects (names.name beside.entry.frame)) (s.spaces.pages end.frame)
              (s.spaces.pages beside.entry.frame) end_of (beside.of ∙ ap Some pipe_is_it) (object_at n fd end has.below end_there)
              (object_at it.slot at beside.entry below beside.there))
            where
              by_end : (names.name beside.entry.frame ≡ names.name end.frame)
                  ⊎ (is_other_end (a.objects (names.name end.frame)) (a.objects (names.name beside.entry.frame)) ≡ true) →
                  names.name beside.entry.frame ≡ names.name end.frame
              by_end (inl same) = same
              by_end (inr other) =
                  let held : is_such_held a (is_other_end (a.objects name)) ≡ true =
                  held_so a (is_other_end (a.objects name)) it.slot beside.b at (names.name beside.entry.frame) (slot_small h it.slot it.live) beside.at
                  below beside.names_it
                  (ap (λ (k : ℕ). is_other_end (a.objects k) (a.objects (names.name beside.entry.frame))) (sym end_name) ∙ other) in
                  absurd (let contradiction : false ≡ true = sym unheld ∙ held in cc)

          raw : (x : Entry) × (s.spaces.entries (slot_at s it.slot).directory (descriptor_page at) ≡ Some x) × (x.frame ≡ beside.entry.frame)
          raw = raw_of s.spaces (slot_at s it.slot).directory (descriptor_page at) beside.entry
              (shares_stands h it.slot it.not_first it.live (descriptor_page at) beside.entry beside.there)

      page_once : (d q : ℕ) → named page.frame (s.spaces.entries d (DESCRIPTORS + q)) ≤ named end.frame (s.spaces.entries d q)
      page_once d q = by_entry (s.spaces.entries d (DESCRIPTORS + q)) refl
        where
          by_entry : (o : Option Entry) → s.spaces.entries d (DESCRIPTORS + q) ≡ o → named page.frame o ≤ named end.frame (s.spaces.entries d q)
          by_entry None is = omega arith
          by_entry (Some e) is = elim (named_is page.frame e) [
            | inl here ↦
                let low = lowered d (DESCRIPTORS + q) e is (sym here.0) in
                let number : descriptor_page low.at ≡ q = (let it = low.page_is in omega (arith, it)) in
                let one : named end.frame (s.spaces.entries d q) ≡ 1 =
                ap (λ (k : ℕ). named end.frame (s.spaces.entries d k)) (sym number) ∙ ap (named end.frame) low.there
                ∙ named_once low.entry end.frame low.same in
                let mine = here.1 in omega (arith, one, mine)
            | inr off ↦ let none = off.1 in omega (arith, none)
          ]

      page_not_first : (d q : ℕ) → q < DESCRIPTORS → named page.frame (s.spaces.entries d q) ≡ 0
      page_not_first d q first = by_entry (s.spaces.entries d q) refl
        where
          by_entry : (o : Option Entry) → s.spaces.entries d q ≡ o → named page.frame o ≡ 0
          by_entry None is = refl
          by_entry (Some e) is = elim (named_is page.frame e) [
            | inl here ↦
                let low = lowered d q e is (sym here.0) in let number = low.page_is in absurd (omega (arith, number, first))
            | inr off ↦ off.1
          ]

      page_less : page_count s.spaces.entries page.frame ≤ page_count s.spaces.entries end.frame
      page_less = page_count-lowered s.spaces.entries end.frame page.frame DESCRIPTORS room page_not_first page_once

    -- ---- so it is told

    counts_only : (p : ℕ) (y : Entry) → rows_of s.spaces (slot_at s n).directory p ≡ Some y →
        reference_count s.spaces y.frame ≡ page_count s.spaces.entries y.frame
    counts_only p y is =
        let raw = raw_of s.spaces (slot_at s n).directory p y is in
        let own : own_count (s.spaces.uses y.frame) ≡ 0 =
        ap (λ (f : ℕ). own_count (s.spaces.uses f)) (sym raw.2)
        ∙ ap (λ (u : Use). own_count u) (h.in_order.frames.pages (slot_at s n).directory p raw.0 raw.1) in
        omega (arith, own)

    end_counts : reference_count s.spaces end.frame ≡ page_count s.spaces.entries end.frame
    end_counts = counts_only (descriptor_page fd) end has.stands

    page_counts : reference_count s.spaces page.frame ≡ page_count s.spaces.entries page.frame
    page_counts = counts_only (pipe_page fd) page has.lies

    -- Where they are mapped as often as one another nobody has the other end.
    pub closed_told : AreCountedAlike s end page → is_such_held a (is_other_end (a.objects name)) ≡ false
    closed_told alike = by_test (is_such_held a (is_other_end (a.objects name))) refl
      where
        by_test : (c : Bool) → is_such_held a (is_other_end (a.objects name)) ≡ c → is_such_held a (is_other_end (a.objects name)) ≡ false
        by_test false off = off
        by_test true on =
            let more = held_more on in let one = end_counts in let two = page_counts in absurd (omega (arith, more, one, two, alike))

    -- And where they are not it may be open still.
    pub open_told : (quantum : ℕ) → (AreCountedAlike s end page → ⊥) → may_be_open a pipe (is_other_end (a.objects name)) quantum ≡ true
    open_told quantum unlike = by_held (is_such_held a (is_other_end (a.objects name))) refl (is_changed a pipe) refl
      where
        by_held : (c : Bool) → is_such_held a (is_other_end (a.objects name)) ≡ c → (t : Bool) → is_changed a pipe ≡ t →
            may_be_open a pipe (is_other_end (a.objects name)) quantum ≡ true
        by_held true on t is = λ i. on i || is_changed a pipe || nat_lt quantum SHORT_QUANTUM
        by_held false off true is = λ i. off i || is i || nat_lt quantum SHORT_QUANTUM
        by_held false off false is =
            let less = end_less in let more = page_less off is in let one = end_counts in let two = page_counts in
            absurd (unlike (omega (arith, less, more, one, two)))

pub counts_tell_closed : CountsTellClosed
counts_tell_closed names s a n fd name pipe quantum end page h has = (
  closed_told h n fd name pipe end page has,
  open_told h n fd name pipe end page has quantum,
)

-- ---- as read and write find it

module _ {names : Names} {s : KernelState} {a : AbstractState} (h : StandsFor names s a) (n fd name pipe : ℕ) (b : Born) (at : a.slots n ≡ born b)
    (below : fd < DESCRIPTORS) (names_it : b.descriptors fd ≡ Some name) (closed : Bool)
    (counts : AreCounted (view_of s.spaces (slot_at s n).directory) fd (λ one pages. (one == pages) ≡ closed)) where
  end_had : pipe_named a.objects name ≡ Some pipe → HasEnd s a n fd name pipe counts.entry counts.page
  end_had of = record { b = b; at = at; below = below; names_it = names_it; of = of; stands = counts.stands; lies = counts.lies }

  alike : closed ≡ true → AreCountedAlike s counts.entry counts.page
  alike is = let test = counts.so ∙ is in grind (arith, nat_tests)

  unlike : closed ≡ false → AreCountedAlike s counts.entry counts.page → ⊥
  unlike is same = let test = counts.so ∙ is in grind (arith, nat_tests)

  -- Read has found that the counts are the same: nobody can write. Or they were not: one may.
  module _ (reads : a.objects name ≡ read_end pipe) where
    of_read : pipe_named a.objects name ≡ Some pipe
    of_read = ap (λ (o : Object). pipe_of (Some o)) reads

    pub read_closed : closed ≡ true → is_such_held a (is_write_end pipe) ≡ false
    read_closed is =
        ap (λ (o : Object). is_such_held a (is_other_end o)) (sym reads)
        ∙ closed_told h n fd name pipe counts.entry counts.page (end_had of_read) (alike is)

    pub read_open : closed ≡ false → (quantum : ℕ) → may_be_open a pipe (is_write_end pipe) quantum ≡ true
    read_open is quantum =
        ap (λ (o : Object). may_be_open a pipe (is_other_end o) quantum) (sym reads)
        ∙ open_told h n fd name pipe counts.entry counts.page (end_had of_read) quantum (unlike is)

  -- And so it is with write: nobody can read, or one may.
  module _ (writes : a.objects name ≡ write_end pipe) where
    of_write : pipe_named a.objects name ≡ Some pipe
    of_write = ap (λ (o : Object). pipe_of (Some o)) writes

    pub write_closed : closed ≡ true → is_such_held a (is_read_end pipe) ≡ false
    write_closed is =
        ap (λ (o : Object). is_such_held a (is_other_end o)) (sym writes)
        ∙ closed_told h n fd name pipe counts.entry counts.page (end_had of_write) (alike is)

    pub write_open : closed ≡ false → (quantum : ℕ) → may_be_open a pipe (is_read_end pipe) quantum ≡ true
    write_open is quantum =
        ap (λ (o : Object). may_be_open a pipe (is_other_end o) quantum) (sym writes)
        ∙ open_told h n fd name pipe counts.entry counts.page (end_had of_write) quantum (unlike is)
