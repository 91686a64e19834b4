-- Who has the page of a descriptor of an end has that of the pipe beside it; and who has the page of a pipe has the end beside it, or is about to
-- get it, to give it on or to drop it.
use Rattle.std.proofs.Common.{◌≡◌, ◌≢◌, ◌∙◌, ◌-◌, ◌%◌, ◌<◌, ◌≤◌, ◌==◌, ◌&&◌, ◌||◌, ◌⊎◌, inl, inr, ℕ, zero, suc, Bool, true, false}
use Rattle.std.proofs.Common.{Option, Some, None, refl, sym, ap, subst, arith, if◌then◌else◌}
use Rattle.std.specs.Prelude.{nat_lt}
use Rattle.std.specs.Option.{option_map}
use Rattle.std.proofs.lemmas.Bool.Decides.{nat_tests}
use Rattle.std.proofs.lemmas.Option.{none-some, same_Some}
use Rattle.jos_base.specs.declared.numbers.TheConstants.{NENV}
use Rattle.jos_base.specs.Below.{some_below}
use Rattle.jos_base.specs.Environments.{Slot, is_live}
use Rattle.jos_base.specs.KernelState.{KernelState, slot_at}
use Rattle.jos_base.specs.Reach.{Entry}
use Rattle.jos_base.specs.SystemCalls.{has_write}
use Rattle.jos_base.proofs.Below.{some_below-at}
use Rattle.lib_os.specs.declared.numbers.TheConstants.{DESCRIPTORS}
use Rattle.lib_os.specs.declared.place.PipeStep.TheVariants as pipe
use Rattle.lib_os.specs.declared.place.Place.{Place}
use Rattle.lib_os.specs.declared.place.Place.TheVariants as place
use Rattle.lib_os.specs.declared.place.Step.{Step}
use Rattle.lib_os.specs.declared.place.Step.TheVariants as step
use Rattle.lib_os.specs.declared.service.Service.{Service}
use Rattle.lib_os.specs.declared.service.Service.TheVariants as service
use Rattle.lib_os.specs.AbstractPipes.{holds_such, is_such, is_such_held}
use Rattle.lib_os.specs.AbstractRun.{changes_holders, is_changed, is_changing, is_pipe_end, service_of_phase}
use Rattle.lib_os.specs.AbstractState.{AbstractSlot, AbstractState, Born, Object, Phase, born, file, free, named, own as own_page, read_end, serving}
use Rattle.lib_os.specs.AbstractState.{terminal, unborn, write_end}
use Rattle.lib_os.specs.GuestStep.{born_in}
use Rattle.lib_os.specs.LibraryPages.{View}
use Rattle.lib_os.specs.PipeEnds.{EndsStand, EndsStandAt, is_dropped, is_given, is_made, is_on_its_way, pipe_named}
use Rattle.lib_os.specs.Places.{place_of}
use Rattle.lib_os.specs.Rows.{EntryRow, Names, descriptor_at, descriptor_page, is_of_descriptor, is_shared, name_of, page_by}
use Rattle.lib_os.specs.Rows.{descriptor_seen, may_write, pipe_page, rows_of, shown_at}
use Rattle.lib_os.specs.StandsFor.{IsBorneBy, by_fork, by_spawn, StandsAt, StandsFor, StandsForBorn, StandsForSlot, borne_at, seen_unless, view_of}
use Rattle.lib_os.proofs.SharedCount.{Shares, born_lives, shares_stands, shares_unmade, stands_shared}
use Rattle.lib_os.proofs.Children.{IsOfParent, of_parent, spawns_so}

-- ---- who holds such an object

module _ (a : AbstractState) (is : Object → Bool) where
  pub holds_so : (b : Born) (fd name : ℕ) → fd < DESCRIPTORS → b.descriptors fd ≡ Some name → is (a.objects name) ≡ true →
      holds_such a is (Some b) ≡ true
  holds_so b fd name below names_it so =
      some_below-at (λ k. is_such a is (b.descriptors k)) DESCRIPTORS fd below (ap (λ (o : Option ℕ). is_such a is o) names_it ∙ so)

  pub held_so : (m : ℕ) (b : Born) (fd name : ℕ) → m < NENV → a.slots m ≡ born b → fd < DESCRIPTORS → b.descriptors fd ≡ Some name →
      is (a.objects name) ≡ true → is_such_held a is ≡ true
  held_so m b fd name small at below names_it so =
      some_below-at (λ k. holds_such a is (born_in (a.slots k))) NENV m small
      (ap (λ (slot : AbstractSlot). holds_such a is (born_in slot)) at ∙ holds_so b fd name below names_it so)

  -- and back
  pub record HoldsIt : Type 0 where
    pub slot : ℕ
    pub small : slot < NENV
    pub b : Born
    pub at : a.slots slot ≡ born b
    pub fd : ℕ
    pub below : fd < DESCRIPTORS
    pub name : ℕ
    pub names_it : b.descriptors fd ≡ Some name
    pub so : is (a.objects name) ≡ true

  passes_below : (n : ℕ) (passes : ℕ → Bool) → some_below n passes ≡ true → (k : ℕ) × (k < n) × (passes k ≡ true)
  unfolding some_below
  passes_below zero passes e = absurd (cc)
  passes_below (suc n) passes e = by (some_below n passes) refl (λ is. passes_below n passes is)
    where
      by : (t : Bool) → some_below n passes ≡ t → (some_below n passes ≡ true → (k : ℕ) × (k < n) × (passes k ≡ true)) →
          (k : ℕ) × (k < suc n) × (passes k ≡ true)
      by true is below = let found = below is in (found.0, omega (arith, found.1), found.2)
      by false is below = (n, omega arith, sym (ap (λ (t : Bool). t || passes n) is) ∙ e)

  pub holder_of : is_such_held a is ≡ true → HoldsIt
  holder_of held =
      let found = passes_below NENV (λ n. holds_such a is (born_in (a.slots n))) held in
      by_slot found.0 found.1 (a.slots found.0) refl found.2
    where
      by_name : (n : ℕ) → n < NENV → (b : Born) → a.slots n ≡ born b → (fd : ℕ) → fd < DESCRIPTORS → (o : Option ℕ) → b.descriptors fd ≡ o →
          is_such a is o ≡ true → HoldsIt
      by_name n small b at fd below None names_it so = absurd (let contradiction : false ≡ true = so in cc)
      by_name n small b at fd below (Some name) names_it so =
          record { slot = n; small = small; b = b; at = at; fd = fd; below = below; name = name; names_it = names_it; so = so }

      by_slot : (n : ℕ) → n < NENV → (slot : AbstractSlot) → a.slots n ≡ slot → holds_such a is (born_in slot) ≡ true → HoldsIt
      by_slot n small (free id) at has = absurd (let contradiction : false ≡ true = has in cc)
      by_slot n small (unborn id parent) at has = absurd (let contradiction : false ≡ true = has in cc)
      by_slot n small (serving id) at has = absurd (let contradiction : false ≡ true = has in cc)
      by_slot n small (born b) at has =
          let fd = passes_below DESCRIPTORS (λ k. is_such a is (b.descriptors k)) has in
          by_name n small b at fd.0 fd.1 (b.descriptors fd.0) refl fd.2

-- an object that is an end of the pipe
pub end_so : (pipe : ℕ) (o : Object) → pipe_named (λ k. o) 0 ≡ Some pipe → is_pipe_end pipe o ≡ true
end_so pipe (read_end other) is =
    let same : (pipe == other) ≡ true = (let e : other ≡ pipe = same_Some other pipe is in grind (arith, nat_tests)) in
    ap (λ (c : Bool). c || false) same
end_so pipe (write_end other) is = let e : other ≡ pipe = same_Some other pipe is in grind (arith, nat_tests)
end_so pipe terminal is = absurd (none-some pipe is)
end_so pipe (file f) is = absurd (none-some pipe is)

pub changed_so : (a : AbstractState) (m : ℕ) (b : Born) (fd name pipe : ℕ) → m < NENV → a.slots m ≡ born b → fd < DESCRIPTORS →
    b.descriptors fd ≡ Some name → pipe_named a.objects name ≡ Some pipe → changes_holders (service_of_phase b.phase) ≡ true → is_changed a pipe ≡ true
changed_so a m b fd name pipe small at below names_it of changes =
    some_below-at (λ k. is_changing a pipe (born_in (a.slots k))) NENV m small
    (ap (λ (slot : AbstractSlot). is_changing a pipe (born_in slot)) at
    ∙ ap (λ (c : Bool). c && changes_holders (service_of_phase b.phase))
    (holds_so a (is_pipe_end pipe) b fd name below names_it (end_so pipe (a.objects name) of))
    ∙ changes)

-- ---- places

-- Its page is dropped, and its environment is in a service that may drop it.
pub dropped_none : (at : Place) (v : View) (k : Slot) (b : Born) (fd : ℕ) → StandsAt at v k b → is_dropped at fd ≡ true →
    (v.row (descriptor_page fd) ≡ None) × (changes_holders (service_of_phase b.phase) ≡ true)
dropped_none (place.InService s (step.Piped (pipe.DroppingPipe dropped))) v k b fd stands is = by_service s stands
  where
    here : fd ≡ dropped
    here = grind (arith, nat_tests)

    by_service : (s : Service) → StandsAt (place.InService s (step.Piped (pipe.DroppingPipe dropped))) v k b →
        (v.row (descriptor_page fd) ≡ None) × (changes_holders (service_of_phase b.phase) ≡ true)
    by_service (service.Close c) stands = (
      ap (λ (q : ℕ). v.row (descriptor_page q)) (here ∙ stands.1) ∙ stands.3,
      ap (λ (phase : Phase). changes_holders (service_of_phase phase)) stands.0.phase,
    )
    by_service service.Exit stands = (
      ap (λ (q : ℕ). v.row (descriptor_page q)) here ∙ stands.1,
      ap (λ (phase : Phase). changes_holders (service_of_phase phase)) stands.0.is_in.phase,
    )
    by_service (service.Dup old new) stands = (
      ap (λ (q : ℕ). v.row (descriptor_page q)) (here ∙ stands.1) ∙ stands.2,
      ap (λ (phase : Phase). changes_holders (service_of_phase phase)) stands.0.is_in.phase,
    )
    by_service _ stands = absurd stands
dropped_none _ v k b fd stands is = absurd (let contradiction : false ≡ true = is in cc)

pub dropped_unmade : (at : Place) (fd : ℕ) → is_dropped at fd ≡ true → is_made at fd ≡ false
dropped_unmade (place.InService service.Pipe (step.Piped (pipe.DroppingPipe dropped))) fd is = refl
dropped_unmade (place.InService service.Pipe (step.Piped _)) fd is = absurd (let contradiction : false ≡ true = is in cc)
dropped_unmade _ fd is = refl

-- It is given on: the page of the pipe is that of another descriptor, which is not on its way.
pub record IsGivenFrom (at : Place) (v : View) (b : Born) (fd : ℕ) : Type 0 where
  pub old : ℕ
  pub below : old < DESCRIPTORS
  pub off : is_on_its_way at old ≡ false
  pub same : v.row (pipe_page fd) ≡ v.row (pipe_page old)
  pub changes : changes_holders (service_of_phase b.phase) ≡ true

pub given_from : (at : Place) (v : View) (k : Slot) (b : Born) (fd : ℕ) → StandsAt at v k b → is_given at fd ≡ true → IsGivenFrom at v b fd
given_from (place.InService (service.Dup old new) step.MappingDescriptor) v k b fd stands is = record {
  old = old;
  below = stands.1.old_below;
  off = let other = stands.1.other in let off : (old == new) ≡ false = grind (arith, nat_tests) in off;
  same = (let here : fd ≡ new = grind (arith, nat_tests) in ap (λ (q : ℕ). v.row (pipe_page q)) here) ∙ stands.4;
  changes = ap (λ (phase : Phase). changes_holders (service_of_phase phase)) stands.0.phase;
}
given_from _ v k b fd stands is = absurd (let contradiction : false ≡ true = is in cc)

-- a step at which fork bears a child
fork_changes : (at : Step) (v : View) (k : Slot) (b : Born) (id : ℕ) → StandsAt (place.InService service.Fork at) v k b → borne_at at ≡ Some id →
    changes_holders (service_of_phase b.phase) ≡ true
fork_changes (step.ForkRegion child region) v k b id stands is =
    ap (λ (phase : Phase). changes_holders (service_of_phase phase)) stands.0.phase
fork_changes (step.ForkEntry child page) v k b id stands is = ap (λ (phase : Phase). changes_holders (service_of_phase phase)) stands.0.phase
fork_changes (step.MapChild child page perm) v k b id stands is =
    ap (λ (phase : Phase). changes_holders (service_of_phase phase)) stands.0.phase
fork_changes (step.Remap child page) v k b id stands is = ap (λ (phase : Phase). changes_holders (service_of_phase phase)) stands.0.phase
fork_changes (step.ChildStack child) v k b id stands is = ap (λ (phase : Phase). changes_holders (service_of_phase phase)) stands.phase
fork_changes (step.ChildUpcall child) v k b id stands is = ap (λ (phase : Phase). changes_holders (service_of_phase phase)) stands.phase
fork_changes (step.ChildRuns child) v k b id stands is = ap (λ (phase : Phase). changes_holders (service_of_phase phase)) stands.phase
fork_changes _ v k b id stands is = absurd (none-some id is)

-- ---- the numbers of pages

pub descriptor_is : (fd : ℕ) → fd < DESCRIPTORS → is_of_descriptor (descriptor_page fd) ≡ true
descriptor_is fd below = grind (arith, nat_tests)

pub pipe_is : (fd : ℕ) → fd < DESCRIPTORS → is_of_descriptor (pipe_page fd) ≡ true
pipe_is fd below = grind (arith, nat_tests)

descriptor_back : (fd : ℕ) → fd < DESCRIPTORS → descriptor_at (descriptor_page fd) ≡ fd
descriptor_back fd below = omega (arith, below)

pipe_back : (fd : ℕ) → fd < DESCRIPTORS → descriptor_at (pipe_page fd) ≡ fd
pipe_back fd below = omega (arith, below)

-- ---- in a state

module _ {names : Names} {s : KernelState} {a : AbstractState} (h : StandsFor names s a) where
  abbrev row_at : ℕ → EntryRow
  row_at m = rows_of s.spaces (slot_at s m).directory

  abbrev stands_at : ℕ → Place
  stands_at m = place_of (slot_at s m)

  pub slot_small : (m : ℕ) → is_live (slot_at s m) ≡ true → m < NENV
  slot_small m live = let ids = h.tabled.ids m live in omega (arith, ids)

  -- the page of a pipe beside a descriptor
  pub record PipeBeside (m fd pipe : ℕ) : Type 0 where
    pub entry : Entry
    pub there : Shares s m (pipe_page fd) entry
    pub named : names.name entry.frame ≡ pipe

  -- the page of an end beside that of its pipe
  pub record EndBeside (m fd pipe : ℕ) : Type 0 where
    pub b : Born
    pub at : a.slots m ≡ born b
    pub entry : Entry
    pub there : Shares s m (descriptor_page fd) entry
    pub names_it : b.descriptors fd ≡ Some (names.name entry.frame)
    pub of : pipe_named a.objects (names.name entry.frame) ≡ Some pipe

  pub born_not_first : (m : ℕ) (b : Born) → a.slots m ≡ born b → 0 ≢ m
  born_not_first m b at first = let contradiction : a.slots 0 ≡ born b = ap a.slots first ∙ at in let server = h.first in cc

  -- ---- an environment

  module _ (m : ℕ) (b : Born) (at : a.slots m ≡ born b) where
    pub own : StandsForBorn names s.spaces (slot_at s m) b
    own = subst (λ (slot : AbstractSlot). StandsForSlot names s.spaces (slot_at s m) slot) at (h.slots m)

    pub live : is_live (slot_at s m) ≡ true
    live = born_lives own

    not_first : 0 ≢ m
    not_first = born_not_first m b at

    pub ends : EndsStand names a.objects (stands_at m) (row_at m) b
    ends = subst (λ (slot : AbstractSlot). EndsStandAt names a.objects (stands_at m) (row_at m) slot) at (h.ends m)

    pub not_dropped : (fd : ℕ) (y : Entry) → row_at m (descriptor_page fd) ≡ Some y → is_dropped (stands_at m) fd ≡ false
    not_dropped fd y is = by_test (is_dropped (stands_at m) fd) refl
      where
        by_test : (c : Bool) → is_dropped (stands_at m) fd ≡ c → is_dropped (stands_at m) fd ≡ false
        by_test false off = off
        by_test true on =
            let none = (dropped_none (stands_at m) (view_of s.spaces (slot_at s m).directory) (slot_at s m) b fd own.at on).0 in
            absurd (none-some y (sym none ∙ is))

    -- each page of a descriptor, or of a pipe, is shared
    pub shared_there : (p : ℕ) (y : Entry) → is_of_descriptor p ≡ true → row_at m p ≡ Some y → is_shared y.perm ≡ true
    shared_there p y of is = ap is_shared (own.library.descriptors p y of is)

    pub descriptor_shares : (fd : ℕ) (y : Entry) → fd < DESCRIPTORS → is_made (stands_at m) fd ≡ false → row_at m (descriptor_page fd) ≡ Some y →
        Shares s m (descriptor_page fd) y
    descriptor_shares fd y below unmade is =
        stands_shared h m not_first live (descriptor_page fd) fd y (descriptor_is fd below) (descriptor_back fd below) unmade is
        (shared_there (descriptor_page fd) y (descriptor_is fd below) is)

    pub pipe_shares : (fd : ℕ) (y : Entry) → fd < DESCRIPTORS → is_made (stands_at m) fd ≡ false → row_at m (pipe_page fd) ≡ Some y →
        Shares s m (pipe_page fd) y
    pipe_shares fd y below unmade is =
        stands_shared h m not_first live (pipe_page fd) fd y (pipe_is fd below) (pipe_back fd below) unmade is
        (shared_there (pipe_page fd) y (pipe_is fd below) is)

    shared_name : (y : Entry) → is_shared y.perm ≡ true → name_of (Some (page_by names s.spaces.pages y)) ≡ Some (names.name y.frame)
    shared_name y sharing =
        ap
        (λ (c : Bool).
        name_of (Some (if c then named (names.name y.frame) (has_write y.perm) else own_page (s.spaces.pages y.frame) (may_write y.perm)))) sharing

    seen : (fd : ℕ) → fd < DESCRIPTORS → is_made (stands_at m) fd ≡ false → is_dropped (stands_at m) fd ≡ false →
        b.descriptors fd ≡ name_of (option_map (page_by names s.spaces.pages) (row_at m (descriptor_page fd)))
    seen fd below unmade still =
        let test : nat_lt fd DESCRIPTORS ≡ true = grind (arith, nat_tests) in
        own.descriptors fd still
        ∙ ap (λ (c : Bool). seen_unless c (descriptor_seen names s.spaces (slot_at s m).directory fd)) unmade
        ∙ ap (λ (c : Bool). if c then name_of (shown_at names s.spaces (slot_at s m).directory (descriptor_page fd)) else None) test

    pub seen_as : (fd : ℕ) (y : Entry) → fd < DESCRIPTORS → is_made (stands_at m) fd ≡ false → row_at m (descriptor_page fd) ≡ Some y →
        b.descriptors fd ≡ Some (names.name y.frame)
    seen_as fd y below unmade is =
        seen fd below unmade (not_dropped fd y is) ∙ ap (λ (o : Option Entry). name_of (option_map (page_by names s.spaces.pages) o)) is
        ∙ shared_name y (shared_there (descriptor_page fd) y (descriptor_is fd below) is)

    -- whoever holds one does not make it
    pub holder_unmade : (fd name : ℕ) → b.descriptors fd ≡ Some name → is_made (stands_at m) fd ≡ false
    holder_unmade fd name names_it = by_test (is_made (stands_at m) fd) refl (is_dropped (stands_at m) fd) refl
      where
        by_test : (c : Bool) → is_made (stands_at m) fd ≡ c → (t : Bool) → is_dropped (stands_at m) fd ≡ t → is_made (stands_at m) fd ≡ false
        by_test false off t still = off
        by_test true on true dropped = dropped_unmade (stands_at m) fd dropped
        by_test true on false still =
            absurd
            (none-some name
            (sym
            (own.descriptors fd still ∙ ap (λ (c : Bool). seen_unless c (descriptor_seen names s.spaces (slot_at s m).directory fd)) on)
            ∙ names_it))

    -- whoever holds an end has the page of its pipe
    pub holder_has : (fd name pipe : ℕ) → fd < DESCRIPTORS → b.descriptors fd ≡ Some name → pipe_named a.objects name ≡ Some pipe → PipeBeside m fd pipe
    holder_has fd name pipe below names_it of =
        let found = ends.have fd name pipe below names_it of in
        record { entry = found.0; there = pipe_shares fd found.0 below (holder_unmade fd name names_it) found.1; named = found.2 }

    born_has : (fd : ℕ) (y : Entry) (pipe : ℕ) → fd < DESCRIPTORS → Shares s m (descriptor_page fd) y →
        pipe_named a.objects (names.name y.frame) ≡ Some pipe → PipeBeside m fd pipe
    born_has fd y pipe below has of =
        let unmade = shares_unmade h m not_first live (descriptor_page fd) fd y (descriptor_is fd below) (descriptor_back fd below) has in
        holder_has fd (names.name y.frame) pipe below
        (seen_as fd y below unmade (shares_stands h m not_first live (descriptor_page fd) y has)) of

    -- and whoever has the page of a pipe has the end, or is about to change who has it
    born_only : (fd : ℕ) (z : Entry) → fd < DESCRIPTORS → Shares s m (pipe_page fd) z →
        (is_changed a (names.name z.frame) ≡ true) ⊎ EndBeside m fd (names.name z.frame)
    born_only fd z below has = by_given (is_given (stands_at m) fd) refl
      where
        unmade : is_made (stands_at m) fd ≡ false
        unmade = shares_unmade h m not_first live (pipe_page fd) fd z (pipe_is fd below) (pipe_back fd below) has

        lies : row_at m (pipe_page fd) ≡ Some z
        lies = shares_stands h m not_first live (pipe_page fd) z has

        held : (name : ℕ) → b.descriptors fd ≡ Some name → pipe_named a.objects name ≡ Some (names.name z.frame) →
            is_dropped (stands_at m) fd ≡ false → (o : Option Entry) → row_at m (descriptor_page fd) ≡ o → EndBeside m fd (names.name z.frame)
        held name names_it of still None is =
            absurd
            (none-some name
            (sym (seen fd below unmade still ∙ ap (λ (o : Option Entry). name_of (option_map (page_by names s.spaces.pages) o)) is) ∙ names_it))
        held name names_it of still (Some y) is =
            let names_y : b.descriptors fd ≡ Some (names.name y.frame) = seen_as fd y below unmade is in
            let same : name ≡ names.name y.frame = same_Some name (names.name y.frame) (sym names_it ∙ names_y) in
            record {
              b = b;
              at = at;
              entry = y;
              there = descriptor_shares fd y below unmade is;
              names_it = names_y;
              of = ap (pipe_named a.objects) (sym same) ∙ of;
            }

        by_dropped : (name : ℕ) → b.descriptors fd ≡ Some name → pipe_named a.objects name ≡ Some (names.name z.frame) → (c : Bool) →
            is_dropped (stands_at m) fd ≡ c → (is_changed a (names.name z.frame) ≡ true) ⊎ EndBeside m fd (names.name z.frame)
        by_dropped name names_it of false still = inr (held name names_it of still (row_at m (descriptor_page fd)) refl)
        by_dropped name names_it of true dropped =
            inl
            (changed_so a m b fd name (names.name z.frame) (slot_small m live) at below names_it of
            (dropped_none (stands_at m) (view_of s.spaces (slot_at s m).directory) (slot_at s m) b fd own.at dropped).1)

        by_given : (c : Bool) → is_given (stands_at m) fd ≡ c → (is_changed a (names.name z.frame) ≡ true) ⊎ EndBeside m fd (names.name z.frame)
        by_given false off =
            let off_way : is_on_its_way (stands_at m) fd ≡ false =
            ap (λ (c : Bool). if c then true else is_given (stands_at m) fd) unmade ∙ off in
            let found = ends.only fd z below off_way lies in
            by_dropped found.0 found.1 found.2 (is_dropped (stands_at m) fd) refl
        by_given true on =
            let from = given_from (stands_at m) (view_of s.spaces (slot_at s m).directory) (slot_at s m) b fd own.at on in
            let found = ends.only from.old z from.below from.off (sym from.same ∙ lies) in
            inl (changed_so a m b from.old found.0 (names.name z.frame) (slot_small m live) at from.below found.1 found.2 from.changes)

  -- ---- a child that is being made

  module _ (m : ℕ) (not_first : 0 ≢ m) (lives : is_live (slot_at s m) ≡ true) (id parent : ℕ) (at : a.slots m ≡ unborn id parent) where
    abbrev bearer : ℕ
    bearer = parent % NENV

    c : IsOfParent s.spaces (slot_at s bearer) (a.slots bearer) (slot_at s m) id parent
    c = of_parent (h.children.borne m id parent at)

    bearer_not_first : 0 ≢ bearer
    bearer_not_first = born_not_first bearer c.b c.born_by

    bearer_live : is_live (slot_at s bearer) ≡ true
    bearer_live = live bearer c.b c.born_by

    -- it changes who holds what
    bearer_changes : changes_holders (service_of_phase c.b.phase) ≡ true
    bearer_changes = by_way (h.children.borne m id parent at)
      where
        same_born : (b d : Born) → born b ≡ born d → b ≡ d
        same_born b d same = cc

        its_phase : (b : Born) → a.slots bearer ≡ born b → changes_holders (service_of_phase b.phase) ≡ true →
            changes_holders (service_of_phase c.b.phase) ≡ true
        its_phase b is changes =
            subst (λ (d : Born). changes_holders (service_of_phase d.phase) ≡ true) (same_born b c.b (sym is ∙ c.born_by)) changes

        by_way : IsBorneBy names s.spaces (slot_at s bearer) (a.slots bearer) (slot_at s m) id parent →
            changes_holders (service_of_phase c.b.phase) ≡ true
        by_way (by_fork w) =
            its_phase w.b w.born_by (fork_changes w.step (view_of s.spaces (slot_at s bearer).directory) (slot_at s bearer) w.b id
            (subst (λ (stands : Place). StandsAt stands (view_of s.spaces (slot_at s bearer).directory) (slot_at s bearer) w.b) w.at
            (own bearer w.b w.born_by).at) w.borne)
        by_way (by_spawn w) =
            its_phase w.b w.born_by (ap (λ (phase : Phase). changes_holders (service_of_phase phase))
            (spawns_so (view_of s.spaces (slot_at s bearer).directory) (slot_at s bearer) w.b w.path w.argv w.at_step
            (subst (λ (stands : Place). StandsAt stands (view_of s.spaces (slot_at s bearer).directory) (slot_at s bearer) w.b) w.at
            (own bearer w.b w.born_by).at)).1)

    -- what it has its parent has, and has passed on
    parents : (q : ℕ) (y : Entry) → is_of_descriptor q ≡ true → row_at m q ≡ Some y → (c.passed q ≡ true) × (row_at bearer q ≡ Some y)
    parents q y of is = by_test (c.passed q) refl
      where
        by_test : (t : Bool) → c.passed q ≡ t → (c.passed q ≡ true) × (row_at bearer q ≡ Some y)
        by_test true on = (on, sym (c.handed q of on) ∙ is)
        by_test false off = absurd (none-some y (sym (c.rest q of off) ∙ is))

    unborn_has : (fd : ℕ) (y : Entry) (pipe : ℕ) → fd < DESCRIPTORS → Shares s m (descriptor_page fd) y →
        pipe_named a.objects (names.name y.frame) ≡ Some pipe → PipeBeside m fd pipe
    unborn_has fd y pipe below has of =
        let up = parents (descriptor_page fd) y (descriptor_is fd below) (shares_stands h m not_first lives (descriptor_page fd) y has) in
        let theirs : Shares s bearer (descriptor_page fd) y = descriptor_shares bearer c.b c.born_by fd y below (c.unmade fd) up.1 in
        let beside = born_has bearer c.b c.born_by fd y pipe below theirs of in
        let their_row = shares_stands h bearer bearer_not_first bearer_live (pipe_page fd) beside.entry beside.there in
        let on : c.passed (pipe_page fd) ≡ true = c.up (descriptor_page fd) (pipe_page fd) (omega arith) up.0 in
        let unmade = shares_unmade h m not_first lives (descriptor_page fd) fd y (descriptor_is fd below) (descriptor_back fd below) has in
        record {
          entry = beside.entry;
          there = stands_shared h m not_first lives (pipe_page fd) fd beside.entry (pipe_is fd below) (pipe_back fd below) unmade
              (c.handed (pipe_page fd) (pipe_is fd below) on ∙ their_row) beside.there.sharing;
          named = beside.named;
        }

    unborn_only : (fd : ℕ) (z : Entry) → fd < DESCRIPTORS → Shares s m (pipe_page fd) z → is_changed a (names.name z.frame) ≡ true
    unborn_only fd z below has =
        let up = parents (pipe_page fd) z (pipe_is fd below) (shares_stands h m not_first lives (pipe_page fd) z has) in
        let found = (ends bearer c.b c.born_by).only fd z below (c.off_way fd) up.1 in
        changed_so a bearer c.b fd found.0 (names.name z.frame) (slot_small bearer bearer_live) c.born_by below found.1 found.2 bearer_changes

  -- ---- either

  module _ (m : ℕ) (not_first : 0 ≢ m) (lives : is_live (slot_at s m) ≡ true) where
    pub has_pipe : (fd : ℕ) (y : Entry) (pipe : ℕ) → fd < DESCRIPTORS → Shares s m (descriptor_page fd) y →
        pipe_named a.objects (names.name y.frame) ≡ Some pipe → PipeBeside m fd pipe
    has_pipe fd y pipe below has of = by_slot (a.slots m) refl (h.slots m)
      where
        by_slot : (slot : AbstractSlot) → a.slots m ≡ slot → StandsForSlot names s.spaces (slot_at s m) slot → PipeBeside m fd pipe
        by_slot (free id) at k = absurd (let contradiction : false ≡ true = sym (ap (λ (j : Slot). is_live j) k) ∙ lives in cc)
        by_slot (serving id) at k =
            absurd (not_first (sym (sym (h.tabled.ids m lives) ∙ ap (λ (i : ℕ). i % NENV) (k.id_is ∙ k.first))))
        by_slot (born b) at k = born_has m b at fd y pipe below has of
        by_slot (unborn id parent) at k = unborn_has m not_first lives id parent at fd y pipe below has of

    pub has_end : (fd : ℕ) (z : Entry) → fd < DESCRIPTORS → Shares s m (pipe_page fd) z →
        (is_changed a (names.name z.frame) ≡ true) ⊎ EndBeside m fd (names.name z.frame)
    has_end fd z below has = by_slot (a.slots m) refl (h.slots m)
      where
        by_slot : (slot : AbstractSlot) → a.slots m ≡ slot → StandsForSlot names s.spaces (slot_at s m) slot →
            (is_changed a (names.name z.frame) ≡ true) ⊎ EndBeside m fd (names.name z.frame)
        by_slot (free id) at k = absurd (let contradiction : false ≡ true = sym (ap (λ (j : Slot). is_live j) k) ∙ lives in cc)
        by_slot (serving id) at k =
            absurd (not_first (sym (sym (h.tabled.ids m lives) ∙ ap (λ (i : ℕ). i % NENV) (k.id_is ∙ k.first))))
        by_slot (born b) at k = born_only m b at fd z below has
        by_slot (unborn id parent) at k = inl (unborn_only m not_first lives id parent at fd z below has)
