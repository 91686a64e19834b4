-- Where each frame that is handed out has a use, and no more than one is free, the abstract system wants as many frames: each
-- stands in a place of a live slot or of the name of a shared page, of an object or of a pipe, and for each of these places the abstract
-- system wants one.
use Rattle.std.proofs.Common.{◌≡◌, ◌≢◌, ◌∙◌, ◌+◌, ◌-◌, ◌*◌, ◌/◌, ◌%◌, ◌<◌, ◌≤◌, ◌==◌, ◌||◌, ℕ, zero, suc, Bool, true, false}
use Rattle.std.proofs.Common.{List, [], ◌∷◌, length}
use Rattle.std.proofs.Common.{refl, sym, ap, subst, arith}
use Rattle.std.specs.Prelude.{Option, Some, None, is_some, nat_le, nat_lt, not, slice_index, ◌&&◌, if◌then◌else◌}
use Rattle.std.specs.List.{Contains}
use Rattle.std.specs.Option.{option_map}
use Rattle.jos_base.specs.declared.numbers.TheConstants.{FDTABLE, NENV, NPTENTRIES, UTEMP}
use Rattle.jos_base.specs.Counting.{total, page_limit}
use Rattle.jos_base.specs.Environments.{Slot, bit_of, free_slot, is_live}
use Rattle.jos_base.specs.KernelState.{KernelState, slot_at}
use Rattle.jos_base.specs.Reach.{Entry}
use Rattle.jos_base.specs.SpacesState.{SpacesState, Region, directory, is_directory, region_limit, reserved_frames}
use Rattle.jos_base.specs.SystemCalls.{has_write}
use Rattle.jos_base.specs.Words.{is_exactly, page_number}
use Rattle.fs_layout.specs.declared.numbers.TheConstants.{MAXBLOCKS}
use Rattle.lib_os.specs.declared.numbers.TheConstants.{DESCRIPTORS, DISKMAP, MAXOPEN, OPEN_RECORDS, PFTEMP, REQUEST, UXSTACK}
use Rattle.lib_os.specs.declared.numbers.TheConstants.{SPAWN_GIVEN, SPAWN_HERE, SPAWN_STACK}
use Rattle.jos_base.specs.declared.memory.PageFault.{PageFault}
use Rattle.jos_base.specs.declared.registers.Regs.{Regs}
use Rattle.jos_elf.specs.Headers.{entry_count_of}
use Rattle.lib_os.specs.declared.place.HandlerStep.{HandlerStep}
use Rattle.lib_os.specs.declared.place.HandlerStep.TheVariants as handler
use Rattle.lib_os.specs.declared.service.Service.{Service}
use Rattle.lib_os.specs.AbstractSpawn.{image_memory, spawned_memory}
use Rattle.lib_os.specs.SpawnedChild.{IsSpawned, Loads, bytes_replied, is_closed, is_loading, passing}
use Rattle.lib_os.specs.StandsInHandler.{CopiesOrEnds, EndsAt, StandsBeneath, at_program, copies as by_copy, ends as by_end, in_delivery, in_handing}
use Rattle.lib_os.specs.AbstractState.{AbstractState, Born, Page, own, named, AbstractSlot, free, unborn, born, serving, TablePlace}
use Rattle.lib_os.specs.declared.place.PipeStep.{PipeStep}
use Rattle.lib_os.specs.declared.place.PipeStep.TheVariants as pipe
use Rattle.lib_os.specs.declared.place.Place.{Place}
use Rattle.lib_os.specs.declared.place.Place.TheVariants as place
use Rattle.lib_os.specs.declared.place.Step.{Step}
use Rattle.lib_os.specs.declared.place.Step.TheVariants as step
use Rattle.lib_os.specs.declared.service.Service.TheVariants as service
use Rattle.lib_os.specs.AbstractRun.{pipe_of}
use Rattle.lib_os.specs.AbstractState.{Object, file, read_end, terminal, write_end, Phase, in_service, bearing, Spawning, Stage, closed, loading}
use Rattle.lib_os.specs.PipeEnds.{is_given, is_made, is_on_its_way, pipe_named}
use Rattle.lib_os.specs.AbstractMemory.{has_page_in}
use Rattle.lib_os.specs.InOrder.{HasOneUse}
use Rattle.lib_os.specs.Need.{NeedIsReached, HasUse, in_list, in_entry, as_directory, as_table, EachHasUse, pool_of, need}
use Rattle.lib_os.specs.Need.{slot_need, born_need, child_need, parent_need, spawned_need}
use Rattle.lib_os.specs.LibraryPages.{View, is_library_region, IsOwnWritable, has_copy, has_spawns, has_working, keeps_beneath, region_index}
use Rattle.lib_os.specs.Need.{server_need, count_below, is_own, someone, born_passes, has_end_of, has_object_of, has_page_of, is_end_at, is_end_of, is_page_of}
use Rattle.lib_os.specs.Places.{place_of}
use Rattle.lib_os.specs.Rows.{Names, EntryRow, IsNamed, rows_of, lasting, is_shared, may_write, page_by, page_seen, seen_where, is_programs}
use Rattle.lib_os.specs.Rows.{descriptor_at, descriptor_page, descriptor_perm, is_making, is_of_descriptor, makes, pipe_page}
use Rattle.lib_os.specs.StandsFor.{StandsFor, StandsForSlot, StandsForBorn, StandsForServer, StandsForUnborn, IsBorne, IsBorneBy, by_fork, by_spawn, is_passed, has_stack}
use Rattle.lib_os.specs.StandsFor.{HasServer, is_servers_page, is_servers_region, things_in, view_of, borne_at, IsBearing, StandsAt, StandsAtStep}
use Rattle.std.proofs.lemmas.Bool.{false≢true}
use Rattle.std.proofs.lemmas.Bool.Decides.{nat_tests}
use Rattle.std.proofs.lemmas.Option.{none-some, same_Some}
use Rattle.lib_os.proofs.Covering.{no_more_frames, filled, times_in}
use Rattle.lib_os.proofs.BytesRead.{remapped}
use Rattle.lib_os.proofs.EndsHeld.{born_not_first, given_from, live as live_born, seen_as}
use Rattle.lib_os.proofs.EntryWords.{row_entry}
use Rattle.lib_os.proofs.Children.{spawns_so}
use Rattle.lib_os.proofs.SpawnedPages.{own_among, parents_page, regions_among}
use Rattle.lib_os.proofs.KeptPages.{has_spawns_so, is_spawns, number_aside}
use Rattle.lib_os.proofs.Working.{spawns_are}
use Rattle.lib_os.proofs.Logical.{clients_so, is_plain, is_remapped, logical_beside, logical_plain}
use Rattle.lib_os.proofs.Serving.{words_of_none}
use Rattle.lib_os.proofs.SharedCount.{stands_shared}
use Rattle.lib_os.proofs.SlotsStand.{born_at}
use Rattle.lib_os.proofs.StatesStand.{clients_live, ends_at}
use Rattle.lib_os.proofs.Sums.{is_at, is_at-here, at_most_once}
use Rattle.jos_base.proofs.Sums.{total-mono, total-less, total-none, total-one, total-ones, total-sum}
use Rattle.jos_base.proofs.Below.{some_below-at, some_below-none}

-- ---- one of two

first_holds : (t u : Bool) → t ≡ true → t || u ≡ true
first_holds t u is = ap (λ (x : Bool). x || u) is

second_holds : (t u : Bool) → u ≡ true → t || u ≡ true
second_holds true u is = refl
second_holds false u is = is

both : (a b : Bool) → (a && b) ≡ true → (a ≡ true) × (b ≡ true)
both true true is = (refl, refl)
both true false is = absurd (false≢true is)
both false b is = absurd (false≢true is)

-- the second fails, where both do not hold and the first does
second_off : (t u : Bool) → t ≡ true → t && u ≡ false → u ≡ false
second_off true u on off = off
second_off false u on off = absurd (false≢true on)

never : (t : Bool) → t && false ≡ false
never true = refl
never false = refl

-- ---- the places

abbrev where_so : Bool → Option ℕ → Option ℕ
where_so true place = place
where_so false place = None

abbrev own_frame : Option Entry → Option ℕ
own_frame None = None
own_frame (Some e) = if is_shared e.perm then None else Some e.frame

abbrev head_of : List ℕ → Option ℕ
head_of [] = None
head_of (f ∷ rest) = Some f

abbrev directory_of : Slot → Option ℕ
directory_of k = where_so (is_live k) (Some k.directory)

abbrev table_of : SpacesState → Slot → ℕ → Option ℕ
table_of s k r = where_so (is_live k) (option_map (λ (x : Region). x.table) (s.regions k.directory r))

-- A page that service pipe makes is its environment's own.
abbrev is_made_page : Place → ℕ → Bool
is_made_page at p = is_of_descriptor p && is_made at (descriptor_at p)

abbrev own_where : Bool → Option Entry → Option ℕ
own_where true o = option_map (λ (e : Entry). e.frame) o
own_where false o = own_frame o

abbrev page_own : SpacesState → Slot → ℕ → Option ℕ
page_own s k p = where_so (is_live k) (own_frame (rows_of s k.directory p))

abbrev page_of : SpacesState → Slot → ℕ → Option ℕ
page_of s k p = where_so (is_live k) (own_where (is_made_page (place_of k) p) (rows_of s k.directory p))

unmade_page : (s : SpacesState) (k : Slot) (p : ℕ) → is_made_page (place_of k) p ≡ false → page_of s k p ≡ page_own s k p
unmade_page s k p off = ap (λ (c : Bool). where_so (is_live k) (own_where c (rows_of s k.directory p))) off

abbrev is_wanted : AbstractState → ℕ → Bool
is_wanted a m = someone a (has_page_of m) || (someone a (has_object_of m) || someone a (has_end_of a m))

abbrev named_frame : Names → AbstractState → ℕ → Option ℕ
named_frame names a m = where_so (is_wanted a m) (Some (names.frame m))

-- ---- each place is wanted

so_of_some : (t : Bool) (x : ℕ) → bit_of (is_some (where_so t (Some x))) ≤ bit_of t
so_of_some true x = omega arith
so_of_some false x = omega arith

bit_small : (t : Bool) → bit_of t ≤ 1
bit_small true = omega arith
bit_small false = omega arith

bit_of_either : (t u : Bool) → bit_of (t || u) ≤ bit_of t + bit_of u
bit_of_either true u = omega arith
bit_of_either false u = omega arith

so_of_region : (t : Bool) (o : Option Region) (wants : Bool) → (is_some o ≡ true → wants ≡ true) →
    bit_of (is_some (where_so t (option_map (λ (x : Region). x.table) o))) ≤ bit_of wants
so_of_region false o wants so = omega arith
so_of_region true None wants so = omega arith
so_of_region true (Some x) wants so = let one = ap bit_of (so refl) in omega (arith, one)

so_of_page : (names : Names) (bytes : ℕ → List ℕ) (t : Bool) (o : Option Entry) →
    bit_of (is_some (where_so t (own_frame o))) ≤ bit_of (is_own (option_map (page_by names bytes) o))
so_of_page names bytes false o = omega arith
so_of_page names bytes true None = omega arith
so_of_page names bytes true (Some e) = by_test (is_shared e.perm)
  where
    by_test : (shared : Bool) → bit_of (is_some (if shared then None else Some e.frame))
        ≤ bit_of (is_own (Some (if shared then named (names.name e.frame) (has_write e.perm) else own (bytes e.frame)
        (may_write e.perm))))
    by_test true = omega arith
    by_test false = omega arith

-- a descriptor's page is shared, and so none of its environment's own
descriptor_unowned : (t : Bool) (o : Option Entry) → ((e : Entry) → o ≡ Some e → e.perm ≡ descriptor_perm) →
    bit_of (is_some (where_so t (own_frame o))) ≡ 0
descriptor_unowned false o perm = refl
descriptor_unowned true None perm = refl
descriptor_unowned true (Some e) perm = ap (λ (q : ℕ). bit_of (is_some (if is_shared q then None else Some e.frame))) (perm e refl)

-- ---- the library's pages: the stack of its handler of page faults, the copy that this makes, and the page in which a service keeps bytes

abbrev is_stack : ℕ → ℕ
is_stack p = is_at (Some (page_number UXSTACK)) (0 + p)

abbrev is_copy : ℕ → ℕ
is_copy p = is_at (Some (page_number PFTEMP)) (0 + p)

abbrev is_working : ℕ → ℕ
is_working p = is_at (Some (page_number UTEMP)) (0 + p)

abbrev is_librarys : ℕ → ℕ
is_librarys p = is_stack p + (is_copy p + is_working p)

-- the pages that spawn keeps beside them
abbrev is_given_page : ℕ → ℕ
is_given_page p = is_at (Some (page_number SPAWN_GIVEN)) (0 + p)

abbrev is_childs_stack : ℕ → ℕ
is_childs_stack p = is_at (Some (page_number SPAWN_STACK)) (0 + p)

abbrev is_here_page : ℕ → ℕ
is_here_page p = is_at (Some (page_number SPAWN_HERE)) (0 + p)

-- where no copy is made
abbrev is_kept : ℕ → ℕ
is_kept p = is_stack p + (is_working p + (is_given_page p + (is_childs_stack p + is_here_page p)))

five_kept : total page_limit is_kept ≤ 5
five_kept =
    let first = total-sum page_limit is_stack (λ p. is_working p + (is_given_page p + (is_childs_stack p + is_here_page p))) in
    let second = total-sum page_limit is_working (λ p. is_given_page p + (is_childs_stack p + is_here_page p)) in
    let third = total-sum page_limit is_given_page (λ p. is_childs_stack p + is_here_page p) in
    let fourth = total-sum page_limit is_childs_stack is_here_page in
    let stack = at_most_once page_limit 0 (Some (page_number UXSTACK)) in
    let working = at_most_once page_limit 0 (Some (page_number UTEMP)) in
    let given = at_most_once page_limit 0 (Some (page_number SPAWN_GIVEN)) in
    let childs = at_most_once page_limit 0 (Some (page_number SPAWN_STACK)) in
    let here = at_most_once page_limit 0 (Some (page_number SPAWN_HERE)) in
    omega (arith, first, second, third, fourth, stack, working, given, childs, here)

three_beside : total page_limit is_librarys ≤ 3
three_beside =
    let sum = total-sum page_limit is_stack (λ p. is_copy p + is_working p) in
    let rest = total-sum page_limit is_copy is_working in
    let stack = at_most_once page_limit 0 (Some (page_number UXSTACK)) in
    let copy = at_most_once page_limit 0 (Some (page_number PFTEMP)) in
    let working = at_most_once page_limit 0 (Some (page_number UTEMP)) in
    omega (arith, sum, rest, stack, copy, working)

-- ---- the pages that service pipe makes: those of two descriptors, and of their pipes

abbrev ends_made : PipeStep → ℕ × ℕ
ends_made (pipe.StoringReading reading writing) = (reading, writing)
ends_made (pipe.TakingWriting reading writing) = (reading, writing)
ends_made (pipe.StoringWriting reading writing) = (reading, writing)
ends_made (pipe.StoringEndMode reading writing) = (reading, writing)
ends_made (pipe.TakingPipe reading writing) = (reading, writing)
ends_made (pipe.MappingPipe reading writing) = (reading, writing)
ends_made _ = (0, 0)

abbrev is_page_at : ℕ → ℕ → ℕ
is_page_at q p = is_at (Some q) (0 + p)

abbrev is_made_of : ℕ × ℕ → ℕ → ℕ
is_made_of ends p =
    is_page_at (descriptor_page ends.0) p
    + (is_page_at (descriptor_page ends.1) p + (is_page_at (pipe_page ends.0) p + is_page_at (pipe_page ends.1) p))

made_beside : (ends : ℕ × ℕ) → total page_limit (λ p. is_stack p + is_made_of ends p) ≤ 5
made_beside ends =
    let first = total-sum page_limit is_stack (is_made_of ends) in
    let second = total-sum page_limit (is_page_at (descriptor_page ends.0))
    (λ p. is_page_at (descriptor_page ends.1) p + (is_page_at (pipe_page ends.0) p + is_page_at (pipe_page ends.1) p)) in
    let third = total-sum page_limit (is_page_at (descriptor_page ends.1)) (λ p. is_page_at (pipe_page ends.0) p + is_page_at (pipe_page ends.1) p) in
    let fourth = total-sum page_limit (is_page_at (pipe_page ends.0)) (is_page_at (pipe_page ends.1)) in
    let stack = at_most_once page_limit 0 (Some (page_number UXSTACK)) in
    let reading = at_most_once page_limit 0 (Some (descriptor_page ends.0)) in
    let writing = at_most_once page_limit 0 (Some (descriptor_page ends.1)) in
    let one = at_most_once page_limit 0 (Some (pipe_page ends.0)) in
    let other = at_most_once page_limit 0 (Some (pipe_page ends.1)) in
    omega (arith, first, second, third, fourth, stack, reading, writing, one, other)

-- beside the pages of a program, by whether the handler of page faults has a copy
abbrev beside_by : Bool → ℕ → ℕ
beside_by true p = is_librarys p
beside_by false p = is_kept p

abbrev beside : Place → ℕ → ℕ
beside (place.InService service.Pipe (step.Piped at)) p = is_stack p + is_made_of (ends_made at) p
beside at p = beside_by (has_copy at) p

five_by : (c : Bool) → total page_limit (beside_by c) ≤ 5
five_by true = let three = three_beside in omega (arith, three)
five_by false = five_kept

five_beside : (at : Place) → total page_limit (beside at) ≤ 5
five_beside (place.InService service.Pipe (step.Piped at)) = made_beside (ends_made at)
five_beside at = five_by (has_copy at)

-- a page of a descriptor's, or of its pipe's
pages_of : (p e : ℕ) → is_of_descriptor p ≡ true → descriptor_at p ≡ e → 1 ≤ is_page_at (descriptor_page e) p + is_page_at (pipe_page e) p
pages_of p e of same = by_half (nat_lt p (page_number FDTABLE + DESCRIPTORS)) refl
  where
    from : page_number FDTABLE ≤ p
    from = grind (arith, nat_tests)

    to : p < page_number FDTABLE + 2 * DESCRIPTORS
    to = grind (arith, nat_tests)

    by_half : (c : Bool) → nat_lt p (page_number FDTABLE + DESCRIPTORS) ≡ c → 1 ≤ is_page_at (descriptor_page e) p + is_page_at (pipe_page e) p
    by_half true lower =
        let low : p < page_number FDTABLE + DESCRIPTORS = grind (arith, nat_tests, lower) in
        let here : descriptor_page e ≡ 0 + p = omega (arith, same, from, low) in
        let one = is_at-here (Some (descriptor_page e)) (0 + p) (descriptor_page e) refl here in
        omega (arith, one)
    by_half false upper =
        let high : page_number FDTABLE + DESCRIPTORS ≤ p = grind (arith, nat_tests, upper) in
        let here : pipe_page e ≡ 0 + p = omega (arith, same, high, to) in
        let one = is_at-here (Some (pipe_page e)) (0 + p) (pipe_page e) refl here in
        omega (arith, one)

one_of_ends : (reading writing p : ℕ) → is_of_descriptor p ≡ true → (descriptor_at p == reading) || (descriptor_at p == writing) ≡ true →
    1 ≤ is_made_of (reading, writing) p
one_of_ends reading writing p of is = by_test (descriptor_at p == reading) refl is
  where
    by_test : (c : Bool) → (descriptor_at p == reading) ≡ c → c || (descriptor_at p == writing) ≡ true → 1 ≤ is_made_of (reading, writing) p
    by_test true first rest = let one = pages_of p reading of (grind (arith, nat_tests, first)) in omega (arith, one)
    by_test false first rest = let one = pages_of p writing of (grind (arith, nat_tests, rest)) in omega (arith, one)

ends_of : (at : PipeStep) (p : ℕ) → is_of_descriptor p ≡ true → makes at (descriptor_at p) ≡ true → 1 ≤ is_made_of (ends_made at) p
ends_of (pipe.StoringReading reading writing) p of is = one_of_ends reading writing p of is
ends_of (pipe.TakingWriting reading writing) p of is = one_of_ends reading writing p of is
ends_of (pipe.StoringWriting reading writing) p of is = one_of_ends reading writing p of is
ends_of (pipe.StoringEndMode reading writing) p of is = one_of_ends reading writing p of is
ends_of (pipe.TakingPipe reading writing) p of is = one_of_ends reading writing p of is
ends_of (pipe.MappingPipe reading writing) p of is = one_of_ends reading writing p of is
ends_of _ p of is = absurd (false≢true is)

-- ---- an environment's pages

-- beneath the handler, where that copies, stands no spawn
beneath_alone : (v : View) (k : Slot) (b : Born) → StandsBeneath v k b → (p : ℕ) → keeps_beneath k.extra p ≡ false
beneath_alone v k b (at_program h) p = ap (λ (words : List ℕ). keeps_beneath words p) h.words
beneath_alone v k b (in_delivery s done word at h) p =
    sym (spawns_are k.registers k.extra p) ∙ ap (λ (q : Place). has_spawns q k.extra p) at ∙ by_service s
  where
    by_service : (s : Service) → has_spawns (place.InService s (step.Delivering done word)) k.extra p ≡ false
    by_service (service.Spawn path argv) = refl
    by_service _ = refl
beneath_alone v k b (in_handing s done count word at h) p =
    sym (spawns_are k.registers k.extra p) ∙ ap (λ (q : Place). has_spawns q k.extra p) at ∙ by_service s
  where
    by_service : (s : Service) → has_spawns (place.InService s (step.PuttingBytes done count word)) k.extra p ≡ false
    by_service (service.Spawn path argv) = refl
    by_service _ = refl

ends_uncopied : (h : HandlerStep) (fault : PageFault) (regs : Regs) → has_copy (place.InHandler h) ≡ true → EndsAt h fault regs → ⊥
ends_uncopied (handler.Loading va index) fault regs copy at = at
ends_uncopied (handler.Storing va index word) fault regs copy at = at
ends_uncopied (handler.MappingOver va) fault regs copy at = at
ends_uncopied (handler.Unmapping va) fault regs copy at = at
ends_uncopied _ fault regs copy at = absurd (false≢true copy)

copies_alone : (at : Place) (v : View) (k : Slot) (b : Born) → has_copy at ≡ true → StandsAt at v k b → (p : ℕ) → has_spawns at k.extra p ≡ false
copies_alone (place.InHandler step) v k b copy stands p = by_way stands.way
  where
    by_way : CopiesOrEnds step v k b stands.fault stands.regs → keeps_beneath k.extra p ≡ false
    by_way (by_copy way) = beneath_alone v (record k { registers = stands.regs }) b way.beneath p
    by_way (by_end way) = absurd (ends_uncopied step stands.fault stands.regs copy way.at)
copies_alone _ v k b copy stands p = absurd (false≢true copy)

-- where spawn keeps no page
own_wanted : (names : Names) (s : SpacesState) (k : Slot) (b : Born) → StandsForBorn names s k b →
    ((p : ℕ) → has_spawns (place_of k) k.extra p ≡ false) → (p : ℕ) →
    bit_of (is_some (page_own s k p)) ≤ bit_of (is_own (page_seen names s k.directory p)) + is_librarys p
own_wanted names s k b h none_kept p = by_inside (is_programs p) refl
  where
    nothing : (t : Bool) → rows_of s k.directory p ≡ None → bit_of (is_some (where_so t (own_frame (rows_of s k.directory p)))) ≡ 0
    nothing false none = refl
    nothing true none = ap (λ (o : Option Entry). bit_of (is_some (own_frame o))) none

    by_page : (c d e : Bool) → (page_number UXSTACK == 0 + p) ≡ c → (page_number PFTEMP == 0 + p) ≡ d → (page_number UTEMP == 0 + p) ≡ e →
        is_programs p ≡ false → bit_of (is_some (page_own s k p)) ≤ bit_of c + (bit_of d + bit_of e)
    by_page true d e stack copy working outside = let one = bit_small (is_some (page_own s k p)) in omega (arith, one)
    by_page false true e stack copy working outside = let one = bit_small (is_some (page_own s k p)) in omega (arith, one)
    by_page false false true stack copy working outside = let one = bit_small (is_some (page_own s k p)) in omega (arith, one)
    by_page false false false stack copy working outside = by_descriptor (is_of_descriptor p) refl
      where
        by_descriptor : (t : Bool) → is_of_descriptor p ≡ t → bit_of (is_some (page_own s k p)) ≤ 0
        by_descriptor true descriptor =
            let zeros = descriptor_unowned (is_live k) (rows_of s k.directory p) (λ e is. h.library.descriptors p e descriptor is) in
            omega (arith, zeros)
        by_descriptor false no_descriptor =
            let none =
            h.library.none p outside no_descriptor (grind (arith, nat_tests, stack)) (grind (arith, nat_tests, copy)) (grind (arith, nat_tests, working))
            (none_kept p) in
            let zeros = nothing (is_live k) none in
            omega (arith, zeros)

    by_inside : (inside : Bool) → is_programs p ≡ inside → bit_of (is_some (page_own s k p))
        ≤ bit_of (is_own (seen_where inside (option_map (page_by names s.pages) (rows_of s k.directory p)))) + is_librarys p
    by_inside true is = let mine = so_of_page names s.pages (is_live k) (rows_of s k.directory p) in omega (arith, mine)
    by_inside false is =
        let beside = by_page (page_number UXSTACK == 0 + p) (page_number PFTEMP == 0 + p) (page_number UTEMP == 0 + p) refl refl refl is in
        omega (arith, beside)

-- where no copy is made
own_kept : (names : Names) (s : SpacesState) (k : Slot) (b : Born) → StandsForBorn names s k b → has_copy (place_of k) ≡ false → (p : ℕ) →
    bit_of (is_some (page_own s k p)) ≤ bit_of (is_own (page_seen names s k.directory p)) + is_kept p
own_kept names s k b h uncopied p = by_inside (is_programs p) refl
  where
    nothing : (t : Bool) → rows_of s k.directory p ≡ None → bit_of (is_some (where_so t (own_frame (rows_of s k.directory p)))) ≡ 0
    nothing false none = refl
    nothing true none = ap (λ (o : Option Entry). bit_of (is_some (own_frame o))) none

    none_kept : is_spawns p ≡ false → has_spawns (place_of k) k.extra p ≡ false
    none_kept other = by_test (has_spawns (place_of k) k.extra p) refl
      where
        by_test : (t : Bool) → has_spawns (place_of k) k.extra p ≡ t → t ≡ false
        by_test false is = refl
        by_test true is = absurd (false≢true (sym other ∙ has_spawns_so (place_of k) k.extra p is))

    none_there : is_programs p ≡ false → is_of_descriptor p ≡ false → p ≢ page_number UXSTACK → p ≢ page_number UTEMP → is_spawns p ≡ false →
        (t : Bool) → (p == page_number PFTEMP) ≡ t → rows_of s k.directory p ≡ None
    none_there outside no_descriptor stack working other true copy =
        let same : p ≡ page_number PFTEMP = grind (arith, nat_tests) in ap (rows_of s k.directory) same ∙ h.library.no_copy uncopied
    none_there outside no_descriptor stack working other false copy =
        h.library.none p outside no_descriptor stack (grind (arith, nat_tests)) working (none_kept other)

    by_page : (c d e f g : Bool) → (page_number UXSTACK == 0 + p) ≡ c → (page_number UTEMP == 0 + p) ≡ d → (page_number SPAWN_GIVEN == 0 + p) ≡ e →
        (page_number SPAWN_STACK == 0 + p) ≡ f → (page_number SPAWN_HERE == 0 + p) ≡ g → is_programs p ≡ false →
        bit_of (is_some (page_own s k p)) ≤ bit_of c + (bit_of d + (bit_of e + (bit_of f + bit_of g)))
    by_page true d e f g stack working given childs here outside = let one = bit_small (is_some (page_own s k p)) in omega (arith, one)
    by_page false true e f g stack working given childs here outside = let one = bit_small (is_some (page_own s k p)) in omega (arith, one)
    by_page false false true f g stack working given childs here outside = let one = bit_small (is_some (page_own s k p)) in omega (arith, one)
    by_page false false false true g stack working given childs here outside = let one = bit_small (is_some (page_own s k p)) in omega (arith, one)
    by_page false false false false true stack working given childs here outside = let one = bit_small (is_some (page_own s k p)) in omega (arith, one)
    by_page false false false false false stack working given childs here outside = by_descriptor (is_of_descriptor p) refl
      where
        no_given : (p == page_number SPAWN_GIVEN) ≡ false
        no_given = grind (arith, nat_tests, given)

        no_childs : (p == page_number SPAWN_STACK) ≡ false
        no_childs = grind (arith, nat_tests, childs)

        no_here : (p == page_number SPAWN_HERE) ≡ false
        no_here = grind (arith, nat_tests, here)

        by_descriptor : (t : Bool) → is_of_descriptor p ≡ t → bit_of (is_some (page_own s k p)) ≤ 0
        by_descriptor true descriptor =
            let zeros = descriptor_unowned (is_live k) (rows_of s k.directory p) (λ e is. h.library.descriptors p e descriptor is) in
            omega (arith, zeros)
        by_descriptor false no_descriptor =
            let none =
            none_there outside no_descriptor (grind (arith, nat_tests, stack)) (grind (arith, nat_tests, working))
            (λ i. no_given i || no_childs i || no_here i) (p == page_number PFTEMP) refl in
            let zeros = nothing (is_live k) none in
            omega (arith, zeros)

    by_inside : (inside : Bool) → is_programs p ≡ inside → bit_of (is_some (page_own s k p))
        ≤ bit_of (is_own (seen_where inside (option_map (page_by names s.pages) (rows_of s k.directory p)))) + is_kept p
    by_inside true is = let mine = so_of_page names s.pages (is_live k) (rows_of s k.directory p) in omega (arith, mine)
    by_inside false is =
        let beside =
        by_page (page_number UXSTACK == 0 + p) (page_number UTEMP == 0 + p) (page_number SPAWN_GIVEN == 0 + p) (page_number SPAWN_STACK == 0 + p)
        (page_number SPAWN_HERE == 0 + p) refl refl refl refl refl is in
        omega (arith, beside)

-- without a copy, and without a page in which bytes are kept, only the stack is beside the program's
stack_alone : (names : Names) (s : SpacesState) (k : Slot) (b : Born) → StandsForBorn names s k b → has_copy (place_of k) ≡ false →
    has_working (place_of k) k.extra ≡ false → ((p : ℕ) → has_spawns (place_of k) k.extra p ≡ false) → (p : ℕ) →
    bit_of (is_some (page_own s k p)) ≤ bit_of (is_own (page_seen names s k.directory p)) + is_stack p
stack_alone names s k b h copy working none_kept p =
    by_tests (page_number PFTEMP == 0 + p) (page_number UTEMP == 0 + p) refl refl (own_wanted names s k b h none_kept p)
  where
    nothing : (t : Bool) → rows_of s k.directory p ≡ None → bit_of (is_some (where_so t (own_frame (rows_of s k.directory p)))) ≡ 0
    nothing false none = refl
    nothing true none = ap (λ (o : Option Entry). bit_of (is_some (own_frame o))) none

    by_tests : (c d : Bool) → (page_number PFTEMP == 0 + p) ≡ c → (page_number UTEMP == 0 + p) ≡ d →
        bit_of (is_some (page_own s k p)) ≤ bit_of (is_own (page_seen names s k.directory p)) + (is_stack p + (bit_of c + bit_of d)) →
        bit_of (is_some (page_own s k p)) ≤ bit_of (is_own (page_seen names s k.directory p)) + is_stack p
    by_tests false false off other most = omega (arith, most)
    by_tests false true off at most =
        let same : p ≡ page_number UTEMP = grind (arith, nat_tests, at) in
        let none = nothing (is_live k) (ap (rows_of s k.directory) same ∙ h.library.no_working working) in omega (arith, none)
    by_tests true d at other most =
        let same : p ≡ page_number PFTEMP = grind (arith, nat_tests, at) in
        let none = nothing (is_live k) (ap (rows_of s k.directory) same ∙ h.library.no_copy copy) in omega (arith, none)

page_wanted : (names : Names) (s : SpacesState) (k : Slot) (b : Born) → StandsForBorn names s k b → (p : ℕ) →
    bit_of (is_some (page_of s k p)) ≤ bit_of (is_own (page_seen names s k.directory p)) + beside (place_of k) p
page_wanted names s k b h p = by_place (place_of k) refl
  where
    unmade : is_made_page (place_of k) p ≡ false → bit_of (is_some (page_of s k p)) ≡ bit_of (is_some (page_own s k p))
    unmade off = ap (λ (o : Option ℕ). bit_of (is_some o)) (unmade_page s k p off)

    own_by : (c : Bool) → has_copy (place_of k) ≡ c →
        bit_of (is_some (page_own s k p)) ≤ bit_of (is_own (page_seen names s k.directory p)) + beside_by c p
    own_by true copy = own_wanted names s k b h (copies_alone (place_of k) (view_of s k.directory) k b copy h.at) p
    own_by false copy = own_kept names s k b h copy p

    by_place : (at : Place) → place_of k ≡ at → bit_of (is_some (page_of s k p)) ≤ bit_of (is_own (page_seen names s k.directory p)) + beside at p
    by_place (place.InService service.Pipe (step.Piped at)) is = by_made (is_making at p) refl
      where
        by_made : (c : Bool) → is_making at p ≡ c →
            bit_of (is_some (page_of s k p)) ≤ bit_of (is_own (page_seen names s k.directory p)) + (is_stack p + is_made_of (ends_made at) p)
        by_made true making =
            let parts = both (is_of_descriptor p) (makes at (descriptor_at p)) making in
            let one = ends_of at p parts.0 parts.1 in
            let most = bit_small (is_some (page_of s k p)) in
            omega (arith, one, most)
        by_made false off =
            let most = stack_alone names s k b h (ap has_copy is) (ap (λ (q : Place). has_working q k.extra) is)
            (λ r. ap (λ (q : Place). has_spawns q k.extra r) is) p in
            let same = unmade (ap (λ (q : Place). is_made_page q p) is ∙ off) in
            omega (arith, most, same)
    by_place at is =
        let most = own_by (has_copy at) (ap has_copy is) in
        let same = unmade (ap (λ (q : Place). is_made_page q p) is ∙ never (is_of_descriptor p)) in
        omega (arith, most, same)

abbrev slot_frames : SpacesState → Slot → ℕ
slot_frames s k = bit_of (is_some (directory_of k)) + (filled region_limit (table_of s k) + filled page_limit (page_of s k))

-- a slot that is not live has none
free_frames : (s : SpacesState) (id : ℕ) → slot_frames s (free_slot id) ≡ 0
free_frames s id =
    let tables = total-none region_limit (λ r. bit_of (is_some (table_of s (free_slot id) r))) (λ q lt. refl) in
    let pages = total-none page_limit (λ p. bit_of (is_some (page_of s (free_slot id) p))) (λ q lt. refl) in
    omega (arith, tables, pages)

born_frames : (names : Names) (s : SpacesState) (k : Slot) (b : Born) → StandsForBorn names s k b →
    slot_frames s k ≤ born_need b
born_frames names s k b h =
    let one = bit_small (is_some (directory_of k)) in
    let tables = total-mono region_limit (λ r. bit_of (is_some (table_of s k r))) (λ r. bit_of (b.regions r || is_library_region r))
    (λ r lt. so_of_region (is_live k) (s.regions k.directory r) (b.regions r || is_library_region r) (h.regions_only r)) in
    let pages = total-mono page_limit (λ p. bit_of (is_some (page_of s k p)))
    (λ p. bit_of (is_own (b.memory p)) + beside (place_of k) p)
    (λ p lt. subst (λ (x : Option Page). bit_of (is_some (page_of s k p)) ≤ bit_of (is_own x) + beside (place_of k) p)
    (sym (h.memory p)) (page_wanted names s k b h p)) in
    let sum = total-sum page_limit (λ p. bit_of (is_own (b.memory p))) (beside (place_of k)) in
    let five = five_beside (place_of k) in
    omega (arith, one, tables, pages, sum, five)

-- ---- the server

-- Of its pages each counts, be it shared or not.
abbrev place_by : Bool → SpacesState → Slot → ℕ → Option ℕ
place_by true s k p = where_so (is_live k) (option_map (λ (e : Entry). e.frame) (rows_of s k.directory p))
place_by false s k p = page_of s k p

abbrev frames_by : Bool → SpacesState → Slot → ℕ
frames_by first s k = bit_of (is_some (directory_of k)) + (filled region_limit (table_of s k) + filled page_limit (place_by first s k))

-- Where the numbers that pass lie in an interval, and pass as they stand in it, there are no more of them than pass there.
in_interval : (limit lo n : ℕ) (passes so : ℕ → Bool) →
    ((p : ℕ) → passes p ≡ true → (lo ≤ p) × (p < lo + n) × (so (p - lo) ≡ true)) → count_below limit passes ≤ count_below n so
unfolding total
in_interval limit lo zero passes so each =
    let none = total-none limit (λ p. bit_of (passes p)) (λ p lt. dead p (passes p) refl) in
    omega (arith, none)
  where
    dead : (p : ℕ) (c : Bool) → passes p ≡ c → bit_of c ≡ 0
    dead p false is = refl
    dead p true is = let at = each p is in let from = at.0 in let to = at.1 in absurd (omega (arith, from, to))
in_interval limit lo (suc n) passes so each =
    let split = total-mono limit (λ p. bit_of (passes p)) (λ p. bit_of (before p) + is_at last (0 + p))
    (λ p lt. one_of p (passes p) (lo + n == 0 + p) refl refl) in
    let sum = total-sum limit (λ p. bit_of (before p)) (λ p. is_at last (0 + p)) in
    let rest = in_interval limit lo n before so (λ p is. below p (passes p) (lo + n == 0 + p) refl refl is) in
    let one = at_most_once limit 0 last in
    let here = so_of_some (so n) (lo + n) in
    omega (arith, split, sum, rest, one, here)
  where
    before : ℕ → Bool
    before p = passes p && not (lo + n == 0 + p)

    last : Option ℕ
    last = where_so (so n) (Some (lo + n))

    one_of : (p : ℕ) (c d : Bool) → passes p ≡ c → (lo + n == 0 + p) ≡ d → bit_of c ≤ bit_of (c && not d) + is_at last (0 + p)
    one_of p false d is test = omega arith
    one_of p true false is test = omega arith
    one_of p true true is test =
        let same : lo + n ≡ 0 + p = grind (arith, nat_tests) in
        let place : p - lo ≡ n = omega (arith, same) in
        let passed : so n ≡ true = sym (ap so place) ∙ (each p is).2 in
        let at = is_at-here last (0 + p) (lo + n) (ap (λ (c : Bool). where_so c (Some (lo + n))) passed) same in
        omega (arith, at)

    below : (p : ℕ) (c d : Bool) → passes p ≡ c → (lo + n == 0 + p) ≡ d → (c && not d) ≡ true →
        (lo ≤ p) × (p < lo + n) × (so (p - lo) ≡ true)
    below p false d is test passed = absurd (false≢true passed)
    below p true true is test passed = absurd (false≢true passed)
    below p true false is test passed =
        let at = each p is in
        let from = at.0 in
        let to = at.1 in
        let other : lo + n ≢ p = grind (arith, nat_tests) in
        (from, omega (arith, from, to, other), at.2)

-- all that lie in an interval
all_below : (limit lo n : ℕ) (passes : ℕ → Bool) → ((p : ℕ) → passes p ≡ true → (lo ≤ p) × (p < lo + n)) → count_below limit passes ≤ n
all_below limit lo n passes each =
    let most = in_interval limit lo n passes (λ k. true) (λ p is. let at = each p is in (at.0, at.1, refl)) in
    let ones = total-ones n in
    omega (arith, most, ones)

-- one alone
one_alone : (limit x : ℕ) → count_below limit (λ p. p == x) ≤ 1
one_alone limit x =
    all_below limit x 1 (λ p. p == x) (λ p is. let same : p ≡ x = grind (arith, nat_tests) in (omega (arith, same), omega (arith, same)))

all_three : (a b c : Bool) → (a && b && c) ≡ true → (a ≡ true) × (b ≡ true) × (c ≡ true)
all_three true true true is = (refl, refl, refl)
all_three true true false is = absurd (false≢true is)
all_three true false c is = absurd (false≢true is)
all_three false b c is = absurd (false≢true is)

one_of_three : (a b c : Bool) → bit_of (a || b || c) ≤ bit_of a + (bit_of b + bit_of c)
one_of_three true b c = omega arith
one_of_three false true c = omega arith
one_of_three false false c = omega arith

one_of_four : (a b c d : Bool) → bit_of (a || b || c || d) ≤ bit_of a + (bit_of b + (bit_of c + bit_of d))
one_of_four true b c d = omega arith
one_of_four false true c d = omega arith
one_of_four false false true d = omega arith
one_of_four false false false d = omega arith

-- a page of a place of its table that was ever taken
abbrev is_records : (ℕ → TablePlace) → ℕ → Bool
is_records opened p = nat_le (page_number FDTABLE) p && nat_lt p (page_number FDTABLE + MAXOPEN) && (opened (p - page_number FDTABLE)).used

-- the page of a block
abbrev is_blocks : ℕ → ℕ → Bool
is_blocks blocks p = nat_le (page_number DISKMAP) p && nat_lt p (page_number DISKMAP + blocks)

-- a region of blocks
abbrev is_disks : ℕ → Bool
is_disks r = nat_le (region_index DISKMAP) r && nat_lt r (region_index DISKMAP + MAXBLOCKS / NPTENTRIES)

records_count : (limit : ℕ) (opened : ℕ → TablePlace) → count_below limit (is_records opened) ≤ count_below MAXOPEN (λ k. (opened k).used)
records_count limit opened = in_interval limit (page_number FDTABLE) MAXOPEN (is_records opened) (λ k. (opened k).used) each
  where
    each : (p : ℕ) → is_records opened p ≡ true →
        (page_number FDTABLE ≤ p) × (p < page_number FDTABLE + MAXOPEN) × ((opened (p - page_number FDTABLE)).used ≡ true)
    each p is =
        let at = all_three (nat_le (page_number FDTABLE) p) (nat_lt p (page_number FDTABLE + MAXOPEN))
        (opened (p - page_number FDTABLE)).used is in
        let from = at.0 in
        let to = at.1 in
        (grind (arith, nat_tests, from), grind (arith, nat_tests, to), at.2)

blocks_count : (limit blocks : ℕ) → count_below limit (is_blocks blocks) ≤ blocks
blocks_count limit blocks = all_below limit (page_number DISKMAP) blocks (is_blocks blocks) each
  where
    each : (p : ℕ) → is_blocks blocks p ≡ true → (page_number DISKMAP ≤ p) × (p < page_number DISKMAP + blocks)
    each p is =
        let at = both (nat_le (page_number DISKMAP) p) (nat_lt p (page_number DISKMAP + blocks)) is in
        let from = at.0 in
        let to = at.1 in
        (grind (arith, nat_tests, from), grind (arith, nat_tests, to))

disks_count : (limit : ℕ) → count_below limit is_disks ≤ 16
disks_count limit = all_below limit (region_index DISKMAP) 16 is_disks each
  where
    each : (r : ℕ) → is_disks r ≡ true → (region_index DISKMAP ≤ r) × (r < region_index DISKMAP + 16)
    each r is =
        let at = both (nat_le (region_index DISKMAP) r) (nat_lt r (region_index DISKMAP + MAXBLOCKS / NPTENTRIES)) is in
        let from = at.0 in
        let to = at.1 in
        (grind (arith, nat_tests, from), grind (arith, nat_tests, to))

servers_pages : (limit : ℕ) (opened : ℕ → TablePlace) (blocks : ℕ) →
    count_below limit (is_servers_page opened blocks) ≤ 2 + (count_below MAXOPEN (λ k. (opened k).used) + blocks)
servers_pages limit opened blocks =
    let each = total-mono limit (λ p. bit_of (is_servers_page opened blocks p))
    (λ p. bit_of (p == page_number REQUEST) + (bit_of (p == page_number OPEN_RECORDS) + (bit_of (is_records opened p) + bit_of (is_blocks blocks p))))
    (λ p lt. one_of_four (p == page_number REQUEST) (p == page_number OPEN_RECORDS) (is_records opened p) (is_blocks blocks p)) in
    let first = total-sum limit (λ p. bit_of (p == page_number REQUEST))
    (λ p. bit_of (p == page_number OPEN_RECORDS) + (bit_of (is_records opened p) + bit_of (is_blocks blocks p))) in
    let second = total-sum limit (λ p. bit_of (p == page_number OPEN_RECORDS)) (λ p. bit_of (is_records opened p) + bit_of (is_blocks blocks p)) in
    let third = total-sum limit (λ p. bit_of (is_records opened p)) (λ p. bit_of (is_blocks blocks p)) in
    let request = one_alone limit (page_number REQUEST) in
    let places = one_alone limit (page_number OPEN_RECORDS) in
    let records = records_count limit opened in
    let disk = blocks_count limit blocks in
    omega (arith, each, first, second, third, request, places, records, disk)

servers_regions : (limit : ℕ) → count_below limit is_servers_region ≤ 18
servers_regions limit =
    let each = total-mono limit (λ r. bit_of (is_servers_region r))
    (λ r. bit_of (r == region_index REQUEST) + (bit_of (r == region_index FDTABLE) + bit_of (is_disks r)))
    (λ r lt. one_of_three (r == region_index REQUEST) (r == region_index FDTABLE) (is_disks r)) in
    let first = total-sum limit (λ r. bit_of (r == region_index REQUEST)) (λ r. bit_of (r == region_index FDTABLE) + bit_of (is_disks r)) in
    let second = total-sum limit (λ r. bit_of (r == region_index FDTABLE)) (λ r. bit_of (is_disks r)) in
    let request = one_alone limit (region_index REQUEST) in
    let table = one_alone limit (region_index FDTABLE) in
    let disk = disks_count limit in
    omega (arith, each, first, second, request, table, disk)

so_of_frame : (t : Bool) (o : Option Entry) (wants : Bool) → (is_some o ≡ true → wants ≡ true) →
    bit_of (is_some (where_so t (option_map (λ (e : Entry). e.frame) o))) ≤ bit_of wants
so_of_frame false o wants so = omega arith
so_of_frame true None wants so = omega arith
so_of_frame true (Some e) wants so = let one = ap bit_of (so refl) in omega (arith, one)

-- the server wants more than it has
server_frames : (a : AbstractState) (s : SpacesState) (k : Slot) → HasServer s k a.opened a.files.blocks a.server →
    1 + frames_by true s k ≤ server_need a
server_frames a s k h =
    let one = bit_small (is_some (directory_of k)) in
    let tables = total-mono region_limit (λ r. bit_of (is_some (table_of s k r))) (λ r. bit_of (is_servers_region r))
    (λ r lt. so_of_region (is_live k) (s.regions k.directory r) (is_servers_region r) (h.tables r)) in
    let pages = total-mono page_limit (λ p. bit_of (is_some (place_by true s k p))) (λ p. bit_of (is_servers_page a.opened a.files.blocks p))
    (λ p lt. so_of_frame (is_live k) (rows_of s k.directory p) (is_servers_page a.opened a.files.blocks p) (h.pages p)) in
    let most_tables = servers_regions region_limit in
    let most_pages = servers_pages page_limit a.opened a.files.blocks in
    omega (arith, one, tables, pages, most_tables, most_pages)

-- ---- a child that is not born has no more than its parent

-- a region in which a page of the parent lies is one that it ever had a page in, or the library's
parent_region : (names : Names) (s : SpacesState) (k : Slot) (b : Born) → HasOneUse s → StandsForBorn names s k b → (r : ℕ) →
    has_page_in b.memory r ≡ true → b.regions r || is_library_region r ≡ true
parent_region names s k b frames h r has = by_table (is_some (s.regions k.directory r)) refl
  where
    by_table : (c : Bool) → is_some (s.regions k.directory r) ≡ c → b.regions r || is_library_region r ≡ true
    by_table true table = h.regions_only r table
    by_table false none =
        absurd (false≢true (sym (some_below-none (λ i. is_some (b.memory (r * NPTENTRIES + i))) NPTENTRIES nothing) ∙ has))
      where
        row_none : (i : ℕ) → i < NPTENTRIES → rows_of s k.directory (r * NPTENTRIES + i) ≡ None
        row_none i lt = by_row (rows_of s k.directory (r * NPTENTRIES + i)) refl
          where
            by_row : (o : Option Entry) → rows_of s k.directory (r * NPTENTRIES + i) ≡ o → rows_of s k.directory (r * NPTENTRIES + i) ≡ None
            by_row None is = is
            by_row (Some x) is =
                let e = row_entry s k.directory (r * NPTENTRIES + i) x is in
                let region : (r * NPTENTRIES + i) / NPTENTRIES ≡ r = omega (arith, lt) in
                absurd (false≢true (sym none ∙ sym (ap (λ (q : ℕ). is_some (s.regions k.directory q)) region)
                ∙ frames.regions k.directory (r * NPTENTRIES + i) e.0 e.1))

        seen_none : (inside : Bool) → is_some (seen_where inside None) ≡ false
        seen_none true = refl
        seen_none false = refl

        nothing : (i : ℕ) → i < NPTENTRIES → is_some (b.memory (r * NPTENTRIES + i)) ≡ false
        nothing i lt =
            ap (λ (x : Option Page). is_some x) (h.memory (r * NPTENTRIES + i))
            ∙ ap (λ (o : Option Entry). is_some (seen_where (is_programs (r * NPTENTRIES + i)) (option_map (page_by names s.pages) o))) (row_none i lt)
            ∙ seen_none (is_programs (r * NPTENTRIES + i))

module _ (names : Names) (s : SpacesState) (parent : Slot) (parent_is : AbstractSlot) (k : Slot) (id parent_id : ℕ)
    (c : IsBorne names s parent parent_is k id parent_id) (guest : place_of k ≡ place.Guest) where
  child_nothing : (t : Bool) (p : ℕ) → rows_of s k.directory p ≡ None → bit_of (is_some (where_so t (own_frame (rows_of s k.directory p)))) ≡ 0
  child_nothing false p none = refl
  child_nothing true p none = ap (λ (o : Option Entry). bit_of (is_some (own_frame o))) none

  child_page : StandsForBorn names s parent c.b → (p : ℕ) →
      bit_of (is_some (page_own s k p)) ≤ bit_of (is_own (c.b.memory p)) + is_librarys p
  child_page h p = by_inside (is_programs p) refl
    where
      by_handed : is_of_descriptor p ≡ true → (t : Bool) → is_passed c.step p ≡ t → bit_of (is_some (page_own s k p)) ≡ 0
      by_handed descriptor true passed =
          descriptor_unowned (is_live k) (rows_of s k.directory p)
          (λ e is. h.library.descriptors p e descriptor (sym (c.handed p descriptor passed) ∙ is))
      by_handed descriptor false off = child_nothing (is_live k) p (c.rest p (second_holds (is_programs p) (is_of_descriptor p) descriptor) off)

      by_stack : (t : Bool) → (page_number UXSTACK == 0 + p) ≡ t → is_programs p ≡ false → bit_of (is_some (page_own s k p)) ≤ bit_of t
      by_stack true stack outside = bit_small (is_some (page_own s k p))
      by_stack false stack outside = by_descriptor (is_of_descriptor p) refl
        where
          by_descriptor : (t : Bool) → is_of_descriptor p ≡ t → bit_of (is_some (page_own s k p)) ≤ 0
          by_descriptor true descriptor = let none = by_handed descriptor (is_passed c.step p) refl in omega (arith, none)
          by_descriptor false no_descriptor =
              let none = child_nothing (is_live k) p (c.library.none p outside no_descriptor (grind (arith, nat_tests))) in omega (arith, none)

      by_passed : is_programs p ≡ true → (t : Bool) → is_passed c.step p ≡ t → bit_of (is_some (page_own s k p)) ≤ bit_of (is_own (c.b.memory p))
      by_passed inside true passed =
          let seen : page_seen names s k.directory p ≡ option_map (page_by names s.pages) (rows_of s k.directory p) =
          ap (λ (t : Bool). seen_where t (option_map (page_by names s.pages) (rows_of s k.directory p))) inside in
          subst (λ (x : Option Page). bit_of (is_some (page_own s k p)) ≤ bit_of (is_own x)) (sym seen ∙ c.passed p inside passed)
          (so_of_page names s.pages (is_live k) (rows_of s k.directory p))
      by_passed inside false off =
          let none = child_nothing (is_live k) p (c.rest p (first_holds (is_programs p) (is_of_descriptor p) inside) off) in omega (arith, none)

      by_inside : (inside : Bool) → is_programs p ≡ inside →
          bit_of (is_some (page_own s k p)) ≤ bit_of (is_own (c.b.memory p)) + is_librarys p
      by_inside true is = let mine = by_passed is (is_passed c.step p) refl in omega (arith, mine)
      by_inside false is = let beside = by_stack (page_number UXSTACK == 0 + p) refl is in omega (arith, beside)

  child_wanted : StandsForBorn names s parent c.b → (p : ℕ) → bit_of (is_some (page_of s k p)) ≤ bit_of (is_own (c.b.memory p)) + is_librarys p
  child_wanted h p =
      let most = child_page h p in
      let same = ap (λ (o : Option ℕ). bit_of (is_some o))
      (unmade_page s k p (ap (λ (q : Place). is_made_page q p) guest ∙ never (is_of_descriptor p))) in
      omega (arith, most, same)

  child_region : HasOneUse s → StandsForBorn names s parent c.b → (r : ℕ) → is_some (s.regions k.directory r) ≡ true →
      c.b.regions r || is_library_region r ≡ true
  child_region frames h r table = by_has (has_page_in c.b.memory r) refl (c.tables r table)
    where
      by_has : (t : Bool) → has_page_in c.b.memory r ≡ t → t || is_library_region r ≡ true → c.b.regions r || is_library_region r ≡ true
      by_has true has is = parent_region names s parent c.b frames h r has
      by_has false has is = by_region (c.b.regions r)
        where
          by_region : (t : Bool) → t || is_library_region r ≡ true
          by_region true = refl
          by_region false = is

  child_frames : HasOneUse s → StandsForBorn names s parent c.b → slot_frames s k ≤ born_need c.b
  child_frames frames h =
      let one = bit_small (is_some (directory_of k)) in
      let tables = total-mono region_limit (λ r. bit_of (is_some (table_of s k r))) (λ r. bit_of (c.b.regions r || is_library_region r))
      (λ r lt. so_of_region (is_live k) (s.regions k.directory r) (c.b.regions r || is_library_region r) (child_region frames h r)) in
      let pages = total-mono page_limit (λ p. bit_of (is_some (page_of s k p)))
      (λ p. bit_of (is_own (c.b.memory p)) + is_librarys p) (λ p lt. child_wanted h p) in
      let sum = total-sum page_limit (λ p. bit_of (is_own (c.b.memory p))) is_librarys in
      let beside = three_beside in
      omega (arith, one, tables, pages, sum, beside)

-- ---- a child that spawn makes

module _ (names : Names) (s : SpacesState) (parent : Slot) (parent_is : AbstractSlot) (k : Slot) (id parent_id : ℕ)
    (c : IsSpawned names s parent parent_is k id parent_id) (guest : place_of k ≡ place.Guest) (pieces : List (List ℕ)) where
  abbrev child_memory : ℕ → Option Page
  child_memory = image_memory c.image pieces

  spawned_nothing : (t : Bool) (p : ℕ) → rows_of s k.directory p ≡ None → bit_of (is_some (where_so t (own_frame (rows_of s k.directory p)))) ≡ 0
  spawned_nothing false p none = refl
  spawned_nothing true p none = ap (λ (o : Option Entry). bit_of (is_some (own_frame o))) none

  spawned_page : StandsForBorn names s parent c.b → (p : ℕ) → bit_of (is_some (page_own s k p)) ≤ bit_of (is_own (child_memory p)) + is_stack p
  spawned_page h p = by_inside (is_programs p) refl
    where
      by_handed : is_of_descriptor p ≡ true → (t : Bool) → nat_le c.progress.passed p ≡ t → bit_of (is_some (page_own s k p)) ≡ 0
      by_handed descriptor true passed =
          descriptor_unowned (is_live k) (rows_of s k.directory p)
          (λ e is. h.library.descriptors p e descriptor (sym (c.handed p descriptor passed) ∙ is))
      by_handed descriptor false off = spawned_nothing (is_live k) p (c.rest p descriptor off)

      by_stack : (t : Bool) → (page_number UXSTACK == 0 + p) ≡ t → is_programs p ≡ false → bit_of (is_some (page_own s k p)) ≤ bit_of t
      by_stack true stack outside = bit_small (is_some (page_own s k p))
      by_stack false stack outside = by_descriptor (is_of_descriptor p) refl
        where
          by_descriptor : (t : Bool) → is_of_descriptor p ≡ t → bit_of (is_some (page_own s k p)) ≤ 0
          by_descriptor true descriptor = let none = by_handed descriptor (nat_le c.progress.passed p) refl in omega (arith, none)
          by_descriptor false no_descriptor =
              let none = spawned_nothing (is_live k) p (c.none p outside no_descriptor (grind (arith, nat_tests, stack))) in omega (arith, none)

      of_image : is_programs p ≡ true → bit_of (is_some (page_own s k p)) ≤ bit_of (is_own (child_memory p))
      of_image inside =
          let seen : page_seen names s k.directory p ≡ option_map (page_by names s.pages) (rows_of s k.directory p) =
          ap (λ (t : Bool). seen_where t (option_map (page_by names s.pages) (rows_of s k.directory p))) inside in
          let mine = subst (λ (x : Option Page). bit_of (is_some (page_own s k p)) ≤ bit_of (is_own x)) (sym seen ∙ c.memory p inside)
          (so_of_page names s.pages (is_live k) (rows_of s k.directory p)) in
          let among = own_among c.b c.image c.progress c.file pieces p in
          omega (arith, mine, among)

      by_inside : (inside : Bool) → is_programs p ≡ inside → bit_of (is_some (page_own s k p)) ≤ bit_of (is_own (child_memory p)) + is_stack p
      by_inside true is = let mine = of_image is in omega (arith, mine)
      by_inside false is = let beside = by_stack (page_number UXSTACK == 0 + p) refl is in omega (arith, beside)

  spawned_wanted : StandsForBorn names s parent c.b → (p : ℕ) → bit_of (is_some (page_of s k p)) ≤ bit_of (is_own (child_memory p)) + is_stack p
  spawned_wanted h p =
      let most = spawned_page h p in
      let same = ap (λ (o : Option ℕ). bit_of (is_some o))
      (unmade_page s k p (ap (λ (q : Place). is_made_page q p) guest ∙ never (is_of_descriptor p))) in
      omega (arith, most, same)

  spawned_frames : StandsForBorn names s parent c.b → slot_frames s k ≤ spawned_need c.b c.image pieces
  spawned_frames h =
      let one = bit_small (is_some (directory_of k)) in
      let tables = total-mono region_limit (λ r. bit_of (is_some (table_of s k r)))
      (λ r. bit_of (has_page_in (spawned_memory c.b c.image pieces) r || is_library_region r))
      (λ r lt. so_of_region (is_live k) (s.regions k.directory r) (has_page_in (spawned_memory c.b c.image pieces) r || is_library_region r)
      (λ table. regions_among c.b c.image (passing (entry_count_of (slice_index c.image.header)) 0) c.file pieces r (c.tables r table))) in
      let pages = total-mono page_limit (λ p. bit_of (is_some (page_of s k p)))
      (λ p. bit_of (is_own (child_memory p)) + is_stack p) (λ p lt. spawned_wanted h p) in
      let sum = total-sum page_limit (λ p. bit_of (is_own (child_memory p))) is_stack in
      let stack = at_most_once page_limit 0 (Some (page_number UXSTACK)) in
      omega (arith, one, tables, pages, sum, stack)

-- only the first slot serves
serving_first : {names : Names} {s : KernelState} {a : AbstractState} → StandsFor names s a → (n id : ℕ) → StandsForServer (slot_at s n) id → 0 ≡ n
serving_first h n id so = sym (ap (λ (i : ℕ). i % NENV) (so.id_is ∙ so.first)) ∙ h.tabled.ids n so.lives

-- who bears a child at a step of fork is in fork
in_fork_of : {k : Slot} {b : Born} (child id : ℕ) → ◌≡◌ {A = Option ℕ} (Some child) (Some id) → IsBearing k b child →
    b.phase ≡ in_service service.Fork (bearing (id % NENV))
in_fork_of child id is bearing_it = bearing_it.phase ∙ ap (λ (m : ℕ). in_service service.Fork (bearing (m % NENV))) (same_Some child id is)

forks_at : (v : View) (k : Slot) (b : Born) (at : Step) (id : ℕ) → borne_at at ≡ Some id → StandsAtStep v k b service.Fork at →
    b.phase ≡ in_service service.Fork (bearing (id % NENV))
forks_at v k b (step.ForkRegion child region) id is h = in_fork_of child id is h.0
forks_at v k b (step.ForkEntry child page) id is h = in_fork_of child id is h.0
forks_at v k b (step.MapChild child page perm) id is h = in_fork_of child id is h.0
forks_at v k b (step.Remap child page) id is h = in_fork_of child id is h.0
forks_at v k b (step.ChildStack child) id is h = in_fork_of child id is h
forks_at v k b (step.ChildUpcall child) id is h = in_fork_of child id is h
forks_at v k b (step.ChildRuns child) id is h = in_fork_of child id is h
forks_at v k b _ id is h = absurd (none-some id is)

wanted_frames : (names : Names) (s : KernelState) (a : AbstractState) → StandsFor names s a → (n : ℕ) → 0 ≢ n → (slot : AbstractSlot) →
    a.slots n ≡ slot → StandsForSlot names s.spaces (slot_at s n) slot → slot_frames s.spaces (slot_at s n) ≤ slot_need a slot
wanted_frames names s a h n other (free id) at k = let none = ap (slot_frames s.spaces) k ∙ free_frames s.spaces id in omega (arith, none)
wanted_frames names s a h n other (unborn id parent) at k = by_way (h.children.borne n id parent at)
  where
    parent_at : Slot
    parent_at = slot_at s (parent % NENV)

    view : View
    view = view_of s.spaces parent_at.directory

    by_way : IsBorneBy names s.spaces parent_at (a.slots (parent % NENV)) (slot_at s n) id parent →
        slot_frames s.spaces (slot_at s n) ≤ parent_need (a.slots (parent % NENV))
    by_way (by_fork child) =
        let own = born_at h (parent % NENV) child.b child.born_by in
        let forks : child.b.phase ≡ in_service service.Fork (bearing (id % NENV)) =
        forks_at view parent_at child.b child.step id child.borne
        (subst (λ (place : Place). StandsAt place view parent_at child.b) child.at own.at) in
        subst (λ (x : AbstractSlot). slot_frames s.spaces (slot_at s n) ≤ parent_need x) (sym child.born_by)
        (subst (λ (phase : Phase). slot_frames s.spaces (slot_at s n) ≤ child_need child.b phase child.b.spawning) (sym forks)
        (child_frames names s.spaces parent_at (a.slots (parent % NENV)) (slot_at s n) id parent child
        (words_of_none (slot_at s n).registers (slot_at s n).extra k.stack k.words) h.in_order.frames own))
    by_way (by_spawn child) =
        subst (λ (x : AbstractSlot). slot_frames s.spaces (slot_at s n) ≤ parent_need x) (sym child.born_by)
        (by_loads child.b.spawning (bytes_replied child.b.phase) child.file refl child.loads)
      where
        own_part : StandsForBorn names s.spaces parent_at child.b
        own_part = born_at h (parent % NENV) child.b child.born_by

        guest : place_of (slot_at s n) ≡ place.Guest
        guest = words_of_none (slot_at s n).registers (slot_at s n).extra k.stack k.words

        so : (stage : Stage) × (child.b.phase ≡ in_service (service.Spawn child.path child.argv) stage)
        so =
            spawns_so view parent_at child.b child.path child.argv child.at_step
            (subst (λ (place : Place). StandsAt place view parent_at child.b) child.at own_part.at)

        by_found : (found : Spawning) (pieces : List (List ℕ)) → child.b.spawning ≡ Some found →
            child_need child.b (in_service (service.Spawn child.path child.argv) so.0) (Some found) ≡ spawned_need child.b child.image pieces →
            slot_frames s.spaces (slot_at s n) ≤ child_need child.b child.b.phase child.b.spawning
        by_found found pieces same needs =
            let most = spawned_frames names s.spaces parent_at (a.slots (parent % NENV)) (slot_at s n) id parent child guest pieces own_part in
            let wants : child_need child.b child.b.phase child.b.spawning ≡ spawned_need child.b child.image pieces =
            (λ i. child_need child.b (so.1 i) (same i)) ∙ needs in
            omega (arith, most, wants)

        by_loads : (found : Option Spawning) (more bytes : List ℕ) → child.b.spawning ≡ found → Loads (id % NENV) child.image found more bytes →
            slot_frames s.spaces (slot_at s n) ≤ child_need child.b child.b.phase child.b.spawning
        by_loads _ _ _ same (is_loading fd pieces more) = by_found (loading fd child.image (id % NENV) pieces) pieces same refl
        by_loads _ _ _ same (is_closed pieces more) = by_found (closed child.image (id % NENV) pieces) pieces same refl
wanted_frames names s a h n other (born b) at k = born_frames names s.spaces (slot_at s n) b k
wanted_frames names s a h n other (serving id) at k = absurd (other (serving_first h n id k))

-- ---- each frame stands in a place

listed_first : (list : List ℕ) (f : ℕ) → length list ≤ 1 → Contains list f → is_at (head_of list) f ≡ 1
listed_first [] f small (k, lt, at) = absurd (omega (arith, lt))
listed_first (g ∷ rest) f small (zero, lt, at) = is_at-here (Some g) f g refl at
listed_first (g ∷ rest) f small (suc k, lt, at) = absurd (omega (arith, small, lt))

module _ (names : Names) (s : KernelState) (a : AbstractState) (h : StandsFor names s a) where
  abbrev slot : ℕ → Slot
  slot n = slot_at s n

  abbrev the_row : ℕ → ℕ → Option ℕ
  the_row n = table_of s.spaces (slot n)

  abbrev the_page : ℕ → ℕ → Option ℕ
  the_page n = place_by (n == 0) s.spaces (slot n)

  abbrev times_of : ℕ → ℕ → ℕ
  times_of n f = is_at (directory_of (slot n)) f + (times_in region_limit (the_row n) f + times_in page_limit (the_page n) f)

  abbrev times : ℕ → ℕ
  times f = is_at (head_of s.spaces.free) f + (total NENV (λ n. times_of n f) + times_in a.next_name (named_frame names a) f)

  record IsOwner (d n : ℕ) : Type 0 where
    below : n < NENV
    live : is_live (slot n) ≡ true
    home : (slot n).directory ≡ d

  owner : (d : ℕ) → s.spaces.uses d ≡ directory → (n : ℕ) × IsOwner d n
  owner d is =
      let found = h.in_order.spaces.owned d (ap is_directory is) in
      let id = h.tabled.ids found.0 found.1 in
      (found.0, record { below = omega (arith, id); live = found.1; home = found.2 })

  in_slot : (n f : ℕ) → n < NENV → 1 ≤ times_of n f → 1 ≤ times f
  in_slot n f lt once = let one = total-one NENV n (λ m. times_of m f) lt in omega (arith, one, once)

  -- a directory
  directory_stands : (f : ℕ) → s.spaces.uses f ≡ directory → 1 ≤ times f
  directory_stands f is =
      let found = owner f is in
      let n = found.0 in
      let o = found.1 in
      let here = is_at-here (directory_of (slot n)) f (slot n).directory
      (ap (λ (t : Bool). where_so t (Some (slot n).directory)) o.live) o.home in
      in_slot n f o.below (omega (arith, here))

  -- a table
  table_stands : (d r f : ℕ) (region : Region) → s.spaces.uses d ≡ directory → r < region_limit →
      s.spaces.regions d r ≡ Some region →
      region.table ≡ f → 1 ≤ times f
  table_stands d r f region is lt stands same =
      let found = owner d is in
      let n = found.0 in
      let o = found.1 in
      let at : the_row n r ≡ Some region.table =
      ap (λ (t : Bool). where_so t (option_map (λ (x : Region). x.table) (s.spaces.regions (slot n).directory r))) o.live
      ∙ ap (λ (q : ℕ). option_map (λ (x : Region). x.table) (s.spaces.regions q r)) o.home
      ∙ ap (option_map (λ (x : Region). x.table)) stands in
      let here = is_at-here (the_row n r) f region.table at same in
      let one = total-one region_limit r (λ q. is_at (the_row n q) f) lt in
      in_slot n f o.below (omega (arith, here, one))

  -- the library's pages are not shared
  own_alone : (row : EntryRow) (p q : ℕ) (e : Entry) → IsOwnWritable row q → p ≡ q → row p ≡ Some e → is_shared e.perm ≡ true → ⊥
  own_alone row p q e mine same stands shared =
      let entry_is : mine.entry ≡ e = same_Some mine.entry e (sym mine.stands ∙ sym (ap row same) ∙ stands) in
      false≢true (sym mine.own_page ∙ ap (λ (x : Entry). is_shared x.perm) entry_is ∙ shared)

  -- an environment has a page by this name, or a descriptor that names it, or an end of it
  abbrev Has : Born → ℕ → Type 0
  Has b m = has_page_of m b || (has_object_of m b || has_end_of a m b) ≡ true

  -- A shared page that stands in a slot's space is one that an environment has, or the page of an object that one of its descriptors
  -- names: the environment is that of the slot, or the parent of its child.
  record IsHad (p : ℕ) (e : Entry) : Type 0 where
    home : ℕ
    below : home < NENV
    b : Born
    at : a.slots home ≡ born b
    has : Has b (names.name e.frame)
    name : IsNamed names s.spaces.pages a.shared (things_in s a) a.next_name p e.frame

  -- it has the page that stands in its memory
  page_had : (b : Born) (p m : ℕ) (writable : Bool) → p < page_limit → b.memory p ≡ Some (named m writable) → Has b m
  page_had b p m writable lt memory =
      let self : is_page_of m (Some (named m writable)) ≡ true = grind (arith, nat_tests) in
      first_holds (has_page_of m b) (has_object_of m b || has_end_of a m b)
      (some_below-at (λ q. is_page_of m (b.memory q)) page_limit p lt (ap (is_page_of m) memory ∙ self))

  -- and what one of its descriptors names
  object_had : (b : Born) (fd m : ℕ) → fd < DESCRIPTORS → b.descriptors fd ≡ Some m → Has b m
  object_had b fd m lt names_it =
      let self : is_exactly m (Some m) ≡ true = grind (arith, nat_tests) in
      second_holds (has_page_of m b) (has_object_of m b || has_end_of a m b)
      (first_holds (has_object_of m b) (has_end_of a m b)
      (some_below-at (λ q. is_exactly m (b.descriptors q)) DESCRIPTORS fd lt (ap (is_exactly m) names_it ∙ self)))

  -- and the pipe of an end that one names
  end_had : (b : Born) (fd m name : ℕ) → fd < DESCRIPTORS → b.descriptors fd ≡ Some name → pipe_named a.objects name ≡ Some m → Has b m
  end_had b fd m name lt names_it of =
      second_holds (has_page_of m b) (has_object_of m b || has_end_of a m b)
      (second_holds (has_object_of m b) (has_end_of a m b)
      (some_below-at (λ q. is_end_at a m (b.descriptors q)) DESCRIPTORS fd lt (ap (is_end_at a m) names_it ∙ end_is (a.objects name) of)))
    where
      end_is : (o : Object) → pipe_of (Some o) ≡ Some m → is_end_of m o ≡ true
      end_is (read_end pipe) of = let same = same_Some pipe m of in grind (arith, nat_tests, same)
      end_is (write_end pipe) of = let same = same_Some pipe m of in grind (arith, nat_tests, same)
      end_is terminal of = absurd (none-some m of)
      end_is (file f) of = absurd (none-some m of)

  -- what is seen of a shared page
  seen_shared : (n p : ℕ) (e : Entry) → is_programs p ≡ true → rows_of s.spaces (slot n).directory p ≡ Some e → is_shared e.perm ≡ true →
      page_seen names s.spaces (slot n).directory p ≡ Some (named (names.name e.frame) (has_write e.perm))
  seen_shared n p e inside stands shared =
      ap (λ (c : Bool). seen_where c (option_map (page_by names s.spaces.pages) (rows_of s.spaces (slot n).directory p))) inside
      ∙ ap (option_map (page_by names s.spaces.pages)) stands
      ∙ ap (λ (t : Bool). Some (if t then named (names.name e.frame) (has_write e.perm) else own (s.spaces.pages e.frame)
      (may_write e.perm))) shared

  -- What stands at the page of a descriptor has the name of the descriptor's object, and what stands at that of its pipe the name of the pipe, where
  -- the two are not made.
  descriptor_had : (n p : ℕ) (e : Entry) (b : Born) → a.slots n ≡ born b → is_of_descriptor p ≡ true →
      rows_of s.spaces (slot n).directory p ≡ Some e → is_made (place_of (slot n)) (descriptor_at p) ≡ false → Has b (names.name e.frame)
  descriptor_had n p e b at descriptor stands unmade = by_half (nat_lt p (page_number FDTABLE + DESCRIPTORS)) refl
    where
      fd : ℕ
      fd = descriptor_at p

      from : page_number FDTABLE ≤ p
      from = grind (arith, nat_tests)

      to : p < page_number FDTABLE + 2 * DESCRIPTORS
      to = grind (arith, nat_tests)

      below : descriptor_at p < DESCRIPTORS
      below = omega arith

      by_given : rows_of s.spaces (slot n).directory (pipe_page (descriptor_at p)) ≡ Some e → (c : Bool) →
          is_given (place_of (slot n)) (descriptor_at p) ≡ c → Has b (names.name e.frame)
      by_given lies false off =
          let none : is_on_its_way (place_of (slot n)) (descriptor_at p) ≡ false =
          ap (λ (c : Bool). if c then true else is_given (place_of (slot n)) (descriptor_at p)) unmade ∙ off in
          let found = (ends_at h n b at).only (descriptor_at p) e below none lies in
          end_had b (descriptor_at p) (names.name e.frame) found.0 below found.1 found.2
      by_given lies true on =
          let from_it = given_from (place_of (slot n)) (view_of s.spaces (slot n).directory) (slot n) b (descriptor_at p) (born_at h n b at).at on in
          let found = (ends_at h n b at).only from_it.old e from_it.below from_it.off (sym from_it.same ∙ lies) in
          end_had b from_it.old (names.name e.frame) found.0 from_it.below found.1 found.2

      by_half : (c : Bool) → nat_lt p (page_number FDTABLE + DESCRIPTORS) ≡ c → Has b (names.name e.frame)
      by_half true lower =
          let low : p < page_number FDTABLE + DESCRIPTORS = grind (arith, nat_tests, lower) in
          let here : descriptor_page (descriptor_at p) ≡ p = omega (arith, from, low) in
          object_had b (descriptor_at p) (names.name e.frame) below
          (seen_as h n b at (descriptor_at p) e below unmade (ap (rows_of s.spaces (slot n).directory) here ∙ stands))
      by_half false upper =
          let high : page_number FDTABLE + DESCRIPTORS ≤ p = grind (arith, nat_tests, upper) in
          let here : pipe_page (descriptor_at p) ≡ p = omega (arith, high, to) in
          by_given (ap (rows_of s.spaces (slot n).directory) here ∙ stands) (is_given (place_of (slot n)) (descriptor_at p)) refl

  -- a shared page of an environment's space has its name, where it is not made, nor the copy that the handler of page faults makes
  its_name : (n p : ℕ) (e : Entry) (b : Born) → a.slots n ≡ born b → p ≢ page_number PFTEMP → is_spawns p ≡ false →
      rows_of s.spaces (slot n).directory p ≡ Some e → is_shared e.perm ≡ true → is_made_page (place_of (slot n)) p ≡ false →
      IsNamed names s.spaces.pages a.shared (things_in s a) a.next_name p e.frame
  its_name n p e b at aside no_spawns stands shared unmade = by_descriptor (is_of_descriptor p) refl
    where
      by_step : is_of_descriptor p ≡ false → (c : Bool) → is_remapped (place_of (slot n)) p ≡ c →
          IsNamed names s.spaces.pages a.shared (things_in s a) a.next_name p e.frame
      by_step none true twice =
          let it = remapped names s a n b h at p none no_spawns twice in
          let entry_is : it.entry ≡ e = same_Some it.entry e (sym it.stands ∙ stands) in
          absurd (false≢true (sym it.own_page ∙ ap (λ (x : Entry). is_shared x.perm) entry_is ∙ shared))
      by_step none false other =
          h.named n p e (logical_beside s.spaces s.environments.slots n (clients_live h n b at) p aside other ∙ stands) shared

      by_descriptor : (c : Bool) → is_of_descriptor p ≡ c → IsNamed names s.spaces.pages a.shared (things_in s a) a.next_name p e.frame
      by_descriptor true of =
          let made = second_off (is_of_descriptor p) (is_made (place_of (slot n)) (descriptor_at p)) of unmade in
          let has = stands_shared h n (born_not_first h n b at) (live_born h n b at) p (descriptor_at p) e of refl made stands shared in
          h.named n p e has.counts shared
      by_descriptor false none = by_step none (is_remapped (place_of (slot n)) p) refl

  -- in an environment's space it is a page that the program may have, or that of a descriptor
  of_born : (n p : ℕ) (e : Entry) → n < NENV → p < page_limit → rows_of s.spaces (slot n).directory p ≡ Some e → is_shared e.perm ≡ true →
      is_made_page (place_of (slot n)) p ≡ false → (b : Born) → a.slots n ≡ born b → StandsForBorn names s.spaces (slot n) b → IsHad p e
  of_born n p e lt within stands shared unmade b at k = record {
    home = n;
    below = lt;
    b = b;
    at = at;
    has = by_inside (is_programs p) refl;
    name = its_name n p e b at (no_copy (has_copy (place_of (slot n))) refl) (no_spawns (is_spawns p) refl) stands shared unmade;
  }
    where
      row : EntryRow
      row = rows_of s.spaces (slot n).directory

      no_copy : (c : Bool) → has_copy (place_of (slot n)) ≡ c → p ≢ page_number PFTEMP
      no_copy true has same = own_alone row p (page_number PFTEMP) e (k.library.copy has) same stands shared
      no_copy false has same = none-some e (sym (k.library.no_copy has) ∙ sym (ap row same) ∙ stands)

      no_working : (c : Bool) → has_working (place_of (slot n)) (slot n).extra ≡ c → p ≢ page_number UTEMP
      no_working true has same = own_alone row p (page_number UTEMP) e (k.library.working has) same stands shared
      no_working false has same = none-some e (sym (k.library.no_working has) ∙ sym (ap row same) ∙ stands)

      -- it is none that spawn keeps
      unkept : (c : Bool) → has_spawns (place_of (slot n)) (slot n).extra p ≡ c → has_spawns (place_of (slot n)) (slot n).extra p ≡ false
      unkept false none = none
      unkept true has = absurd (own_alone row p p e (k.library.spawns p has) refl stands shared)

      no_spawns : (c : Bool) → is_spawns p ≡ c → is_spawns p ≡ false
      no_spawns false none = none
      no_spawns true one =
          let it = number_aside p one in
          absurd (none-some e (sym
          (k.library.none p it.outside it.no_descriptor it.no_stack it.no_copy it.no_working
          (unkept (has_spawns (place_of (slot n)) (slot n).extra p) refl)) ∙ stands))

      by_inside : (inside : Bool) → is_programs p ≡ inside → Has b (names.name e.frame)
      by_inside true inside =
          page_had b p (names.name e.frame) (has_write e.perm) within (k.memory p ∙ seen_shared n p e inside stands shared)
      by_inside false outside = by_descriptor (is_of_descriptor p) refl
        where
          by_descriptor : (t : Bool) → is_of_descriptor p ≡ t → Has b (names.name e.frame)
          by_descriptor true descriptor =
              descriptor_had n p e b at descriptor stands (second_off (is_of_descriptor p) (is_made (place_of (slot n)) (descriptor_at p)) descriptor unmade)
          by_descriptor false no_descriptor = absurd (none-some e (sym
              (k.library.none p outside no_descriptor
              (λ same. own_alone row p (page_number UXSTACK) e k.library.stack same stands shared)
              (no_copy (has_copy (place_of (slot n))) refl) (no_working (has_working (place_of (slot n)) (slot n).extra) refl)
              (unkept (has_spawns (place_of (slot n)) (slot n).extra p) refl)) ∙ stands))

  -- and in that of a child it is one that its parent has, in fork
  of_forked : (n p : ℕ) (e : Entry) → 0 ≢ n → is_live (slot n) ≡ true → p < page_limit → rows_of s.spaces (slot n).directory p ≡ Some e →
      is_shared e.perm ≡ true → (id parent : ℕ) → StandsForUnborn (slot n) id parent →
      IsBorne names s.spaces (slot (parent % NENV)) (a.slots (parent % NENV)) (slot n) id parent → IsHad p e
  of_forked n p e other live within stands shared id parent k child = record {
    home = parent % NENV;
    below = omega arith;
    b = child.b;
    at = child.born_by;
    has = by_inside (is_programs p) refl;
    name = h.named n p e (logical_plain s.spaces s.environments.slots n (clients_so n (slot n) other live) (ap is_plain guest) p ∙ stands) shared;
  }
    where
      by_stack : (t : Bool) → has_stack child.step ≡ t → p ≢ page_number UXSTACK
      by_stack true has same =
          own_alone (rows_of s.spaces (slot n).directory) p (page_number UXSTACK) e (child.library.stack has) same stands shared
      by_stack false none same =
          none-some e (sym (child.library.no_stack none) ∙ sym (ap (rows_of s.spaces (slot n).directory) same) ∙ stands)

      guest : place_of (slot n) ≡ place.Guest
      guest = words_of_none (slot n).registers (slot n).extra k.stack k.words

      by_passed : is_programs p ≡ true → (t : Bool) → is_passed child.step p ≡ t → Has child.b (names.name e.frame)
      by_passed inside true passed =
          page_had child.b p (names.name e.frame) (has_write e.perm) within
          (sym (child.passed p inside passed) ∙ seen_shared n p e inside stands shared)
      by_passed inside false off =
          absurd (none-some e (sym (child.rest p (first_holds (is_programs p) (is_of_descriptor p) inside) off) ∙ stands))

      by_handed : is_of_descriptor p ≡ true → (t : Bool) → is_passed child.step p ≡ t → Has child.b (names.name e.frame)
      by_handed descriptor true passed =
          descriptor_had (parent % NENV) p e child.b child.born_by descriptor (sym (child.handed p descriptor passed) ∙ stands)
          (ap (λ (q : Place). is_made q (descriptor_at p)) child.at)
      by_handed descriptor false off =
          absurd (none-some e (sym (child.rest p (second_holds (is_programs p) (is_of_descriptor p) descriptor) off) ∙ stands))

      by_inside : (inside : Bool) → is_programs p ≡ inside → Has child.b (names.name e.frame)
      by_inside true inside = by_passed inside (is_passed child.step p) refl
      by_inside false outside = by_descriptor (is_of_descriptor p) refl
        where
          by_descriptor : (t : Bool) → is_of_descriptor p ≡ t → Has child.b (names.name e.frame)
          by_descriptor true descriptor = by_handed descriptor (is_passed child.step p) refl
          by_descriptor false no_descriptor =
              absurd (none-some e (sym (child.library.none p outside no_descriptor (by_stack (has_stack child.step) refl)) ∙ stands))

  -- and in spawn
  of_spawned : (n p : ℕ) (e : Entry) → 0 ≢ n → is_live (slot n) ≡ true → p < page_limit → rows_of s.spaces (slot n).directory p ≡ Some e →
      is_shared e.perm ≡ true → (id parent : ℕ) → StandsForUnborn (slot n) id parent →
      IsSpawned names s.spaces (slot (parent % NENV)) (a.slots (parent % NENV)) (slot n) id parent → IsHad p e
  of_spawned n p e other live within stands shared id parent k child = record {
    home = parent % NENV;
    below = omega arith;
    b = child.b;
    at = child.born_by;
    has = by_inside (is_programs p) refl;
    name = h.named n p e (logical_plain s.spaces s.environments.slots n (clients_so n (slot n) other live) (ap is_plain guest) p ∙ stands) shared;
  }
    where
      by_stack : (t : Bool) → child.progress.handler_stack ≡ t → p ≢ page_number UXSTACK
      by_stack true has same =
          own_alone (rows_of s.spaces (slot n).directory) p (page_number UXSTACK) e (child.handler_stack has) same stands shared
      by_stack false none same =
          none-some e (sym (child.no_handler_stack none) ∙ sym (ap (rows_of s.spaces (slot n).directory) same) ∙ stands)

      guest : place_of (slot n) ≡ place.Guest
      guest = words_of_none (slot n).registers (slot n).extra k.stack k.words

      by_handed : is_of_descriptor p ≡ true → (t : Bool) → nat_le child.progress.passed p ≡ t → Has child.b (names.name e.frame)
      by_handed descriptor true passed =
          descriptor_had (parent % NENV) p e child.b child.born_by descriptor (sym (child.handed p descriptor passed) ∙ stands)
          (ap (λ (q : Place). is_made q (descriptor_at p)) child.at)
      by_handed descriptor false off = absurd (none-some e (sym (child.rest p descriptor off) ∙ stands))

      by_inside : (inside : Bool) → is_programs p ≡ inside → Has child.b (names.name e.frame)
      by_inside true inside =
          page_had child.b p (names.name e.frame) (has_write e.perm) within
          (parents_page child.b child.image child.progress child.file p (names.name e.frame) (has_write e.perm)
          (sym (child.memory p inside) ∙ seen_shared n p e inside stands shared))
      by_inside false outside = by_descriptor (is_of_descriptor p) refl
        where
          by_descriptor : (t : Bool) → is_of_descriptor p ≡ t → Has child.b (names.name e.frame)
          by_descriptor true descriptor = by_handed descriptor (nat_le child.progress.passed p) refl
          by_descriptor false no_descriptor =
              let apart : p ≢ page_number UXSTACK = by_stack child.progress.handler_stack refl in
              absurd (none-some e (sym (child.none p outside no_descriptor (grind (arith, nat_tests))) ∙ stands))

  of_child : (n p : ℕ) (e : Entry) → 0 ≢ n → is_live (slot n) ≡ true → p < page_limit → rows_of s.spaces (slot n).directory p ≡ Some e →
      is_shared e.perm ≡ true → (id parent : ℕ) → a.slots n ≡ unborn id parent → StandsForUnborn (slot n) id parent → IsHad p e
  of_child n p e other live within stands shared id parent is k = by_way (h.children.borne n id parent is)
    where
      by_way : IsBorneBy names s.spaces (slot (parent % NENV)) (a.slots (parent % NENV)) (slot n) id parent → IsHad p e
      by_way (by_fork child) = of_forked n p e other live within stands shared id parent k child
      by_way (by_spawn child) = of_spawned n p e other live within stands shared id parent k child

  had : (n p : ℕ) (e : Entry) → n < NENV → 0 ≢ n → is_live (slot n) ≡ true → p < page_limit → rows_of s.spaces (slot n).directory p ≡ Some e →
      is_shared e.perm ≡ true → is_made_page (place_of (slot n)) p ≡ false → IsHad p e
  had n p e below other live within stands shared unmade = by_slot (a.slots n) refl (h.slots n)
    where
      by_slot : (y : AbstractSlot) → a.slots n ≡ y → StandsForSlot names s.spaces (slot n) y → IsHad p e
      by_slot (free id) at k_is = absurd (let e : ◌≡◌ {A = Bool} false true = sym (ap (λ (k : Slot). is_live k) k_is)
          ∙ live in cc)
      by_slot (unborn id parent) at k_is = of_child n p e other live within stands shared id parent at k_is
      by_slot (born b) at k_is = of_born n p e below within stands shared unmade b at k_is
      by_slot (serving id) at k_is = absurd (other (serving_first h n id k_is))

  -- so someone has it
  someone_has : (home : ℕ) (b : Born) (m : ℕ) → home < NENV → a.slots home ≡ born b → Has b m → is_wanted a m ≡ true
  someone_has home b m lt at has = by_page (has_page_of m b) refl has
    where
      there : (passes : Born → Bool) → passes b ≡ true → someone a passes ≡ true
      there passes so = some_below-at (λ q. born_passes passes (a.slots q)) NENV home lt (ap (born_passes passes) at ∙ so)

      by_object : (t : Bool) → has_object_of m b ≡ t → t || has_end_of a m b ≡ true → someone a (has_object_of m) || someone a (has_end_of a m) ≡ true
      by_object true object has = first_holds (someone a (has_object_of m)) (someone a (has_end_of a m)) (there (has_object_of m) object)
      by_object false object end = second_holds (someone a (has_object_of m)) (someone a (has_end_of a m)) (there (has_end_of a m) end)

      by_page : (t : Bool) → has_page_of m b ≡ t → t || (has_object_of m b || has_end_of a m b) ≡ true → is_wanted a m ≡ true
      by_page true page has =
          first_holds (someone a (has_page_of m)) (someone a (has_object_of m) || someone a (has_end_of a m)) (there (has_page_of m) page)
      by_page false page rest =
          second_holds (someone a (has_page_of m)) (someone a (has_object_of m) || someone a (has_end_of a m)) (by_object (has_object_of m b) refl rest)

  -- a page of the server, a page of an environment's own, or one that is shared
  page_stands : (n p : ℕ) (e : Entry) → n < NENV → is_live (slot n) ≡ true → p < page_limit →
      rows_of s.spaces (slot n).directory p ≡ Some e →
      1 ≤ times e.frame
  page_stands n p e below live lt stands = by_first (n == 0) refl
    where
      in_place : the_page n p ≡ Some e.frame → 1 ≤ times e.frame
      in_place at =
          let here = is_at-here (the_page n p) e.frame e.frame at refl in
          let one = total-one page_limit p (λ q. is_at (the_page n q) e.frame) lt in
          in_slot n e.frame below (omega (arith, here, one))

      by_test : (n == 0) ≡ false → is_made_page (place_of (slot n)) p ≡ false → (t : Bool) → is_shared e.perm ≡ t → 1 ≤ times e.frame
      by_test other unmade false mine = in_place
          (ap (λ (t : Bool). place_by t s.spaces (slot n) p) other
          ∙ unmade_page s.spaces (slot n) p unmade
          ∙ ap (λ (t : Bool). where_so t (own_frame (rows_of s.spaces (slot n).directory p))) live ∙ ap own_frame stands
          ∙ ap (λ (t : Bool). if t then None else Some e.frame) mine)
      by_test other unmade true shared =
          let m = names.name e.frame in
          let found = had n p e below (λ same. grind (arith, nat_tests)) live lt stands shared unmade in
          let some : is_wanted a m ≡ true = someone_has found.home found.b m found.below found.at found.has in
          let here = is_at-here (named_frame names a m) e.frame (names.frame m)
          (ap (λ (t : Bool). where_so t (Some (names.frame m))) some) found.name.home in
          let one = total-one a.next_name m (λ q. is_at (named_frame names a q) e.frame) found.name.old in
          omega (arith, here, one)

      by_made : (n == 0) ≡ false → (t : Bool) → is_made_page (place_of (slot n)) p ≡ t → 1 ≤ times e.frame
      by_made other true made = in_place
          (ap (λ (t : Bool). place_by t s.spaces (slot n) p) other
          ∙ ap (λ (t : Bool). where_so t (own_where (is_made_page (place_of (slot n)) p) (rows_of s.spaces (slot n).directory p))) live
          ∙ ap (λ (t : Bool). own_where t (rows_of s.spaces (slot n).directory p)) made ∙ ap (option_map (λ (x : Entry). x.frame)) stands)
      by_made other false unmade = by_test other unmade (is_shared e.perm) refl

      by_first : (first : Bool) → (n == 0) ≡ first → 1 ≤ times e.frame
      by_first true first = in_place
          (ap (λ (t : Bool). place_by t s.spaces (slot n) p) first
          ∙ ap (λ (t : Bool). where_so t (option_map (λ (x : Entry). x.frame) (rows_of s.spaces (slot n).directory p))) live
          ∙ ap (option_map (λ (x : Entry). x.frame)) stands)
      by_first false other = by_made other (is_made_page (place_of (slot n)) p) refl

  entry_stands : (d p : ℕ) (e : Entry) → s.spaces.entries d p ≡ Some e → 1 ≤ times e.frame
  unfolding rows_of
  entry_stands d p e stands =
      let uses = h.in_order.frames in
      let found = owner d (uses.owners d p e stands) in
      let o = found.1 in
      page_stands found.0 p (lasting e) o.below o.live (uses.within d p e stands).1
      (ap (λ (q : ℕ). option_map lasting (s.spaces.entries q p)) o.home ∙ ap (option_map lasting) stands)

  stands_somewhere : length s.spaces.free ≤ 1 → (f : ℕ) → HasUse s.spaces f → 1 ≤ times f
  stands_somewhere small f (in_list listed) = let here = listed_first s.spaces.free f small listed in omega (arith, here)
  stands_somewhere small f (in_entry d p e stands same) = subst (λ x. 1 ≤ times x) same (entry_stands d p e stands)
  stands_somewhere small f (as_directory is) = directory_stands f is
  stands_somewhere small f (as_table d r region is lt stands same) = table_stands d r f region is lt stands same

  -- ---- together

  server_wants : 1 + frames_by true s.spaces (slot 0) ≤ slot_need a (a.slots 0)
  server_wants =
      subst (λ (y : AbstractSlot). 1 + frames_by true s.spaces (slot 0) ≤ slot_need a y) (sym h.first) (server_frames a s.spaces (slot 0) h.server)

  each_wants : (n : ℕ) (first : Bool) → (n == 0) ≡ first → frames_by first s.spaces (slot n) ≤ slot_need a (a.slots n)
  each_wants n true first =
      let same : 0 ≡ n = grind (arith, nat_tests) in
      subst (λ (m : ℕ). frames_by true s.spaces (slot m) ≤ slot_need a (a.slots m)) same (let more = server_wants in omega (arith, more))
  each_wants n false other = wanted_frames names s a h n (λ same. grind (arith, nat_tests)) (a.slots n) refl (h.slots n)

  slots_want : 1 + total NENV (λ n. frames_by (n == 0) s.spaces (slot n)) ≤ total NENV (λ n. slot_need a (a.slots n))
  slots_want =
      total-less NENV 0 1 (λ n. frames_by (n == 0) s.spaces (slot n)) (λ n. slot_need a (a.slots n)) (omega arith)
      (λ n lt. each_wants n (n == 0) refl) server_wants

  abbrev pages_named : ℕ
  pages_named = count_below a.next_name (λ name. someone a (has_page_of name))

  abbrev objects_named : ℕ
  objects_named = count_below a.next_name (λ name. someone a (has_object_of name))

  abbrev pipes_named : ℕ
  pipes_named = count_below a.next_name (λ name. someone a (has_end_of a name))

  names_want : filled a.next_name (named_frame names a) ≤ pages_named + (objects_named + pipes_named)
  names_want =
      let each = total-mono a.next_name (λ m. bit_of (is_some (named_frame names a m)))
      (λ m. bit_of (someone a (has_page_of m)) + (bit_of (someone a (has_object_of m)) + bit_of (someone a (has_end_of a m))))
      (λ m lt. let some = so_of_some (is_wanted a m) (names.frame m) in
      let either = bit_of_either (someone a (has_page_of m)) (someone a (has_object_of m) || someone a (has_end_of a m)) in
      let rest = bit_of_either (someone a (has_object_of m)) (someone a (has_end_of a m)) in omega (arith, some, either, rest)) in
      let sum = total-sum a.next_name (λ m. bit_of (someone a (has_page_of m)))
      (λ m. bit_of (someone a (has_object_of m)) + bit_of (someone a (has_end_of a m))) in
      let more = total-sum a.next_name (λ m. bit_of (someone a (has_object_of m))) (λ m. bit_of (someone a (has_end_of a m))) in
      omega (arith, each, sum, more)

  need_covers : EachHasUse s.spaces → length s.spaces.free ≤ 1 → pool_of s.spaces ≤ need a
  unfolding need
  need_covers all small =
      let base = reserved_frames s.spaces.frames in
      let covered = no_more_frames (pool_of s.spaces) base NENV region_limit page_limit a.next_name (head_of s.spaces.free)
      (λ n. directory_of (slot n)) the_row the_page (named_frame names a)
      (λ i lt. stands_somewhere small (base + i) (all (base + i) (omega arith) (omega (arith, lt)))) in
      let first = bit_small (is_some (head_of s.spaces.free)) in
      let slots = slots_want in
      let shared = names_want in
      omega (arith, covered, first, slots, shared)

pub need_is_reached : NeedIsReached
need_is_reached names s a h all small = need_covers names s a h all small
