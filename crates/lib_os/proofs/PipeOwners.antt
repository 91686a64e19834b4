-- A page of a pipe that is shared stands beside the descriptor of an end: its own, or, where dup is about to map a second one, that which is there; a
-- child has those of its parent. So each pipe that has a page has an end.
use Rattle.std.proofs.Common.{◌≡◌, ◌≢◌, ◌∙◌, ◌-◌, ◌%◌, ◌<◌, ◌==◌, ◌||◌, ℕ, Bool, true, false, Some, refl, sym, ap, subst, arith, if◌then◌else◌}
use Rattle.std.proofs.lemmas.Bool.Decides.{nat_tests}
use Rattle.std.proofs.lemmas.Option.{none-some}
use Rattle.jos_base.specs.declared.numbers.TheConstants.{FDTABLE, NENV}
use Rattle.jos_base.specs.Environments.{Slot, is_live as is_live_slot}
use Rattle.jos_base.specs.KernelState.{KernelState, slot_at}
use Rattle.jos_base.specs.Reach.{Entry}
use Rattle.jos_base.specs.Words.{page_number}
use Rattle.lib_os.specs.declared.numbers.TheConstants.{DESCRIPTORS}
use Rattle.lib_os.specs.declared.place.Place.{Place}
use Rattle.lib_os.specs.declared.place.Place.TheVariants as place
use Rattle.lib_os.specs.declared.place.Step.TheVariants as step
use Rattle.lib_os.specs.declared.service.Service.TheVariants as service
use Rattle.lib_os.specs.AbstractRun.{pipe_of}
use Rattle.lib_os.specs.AbstractState.{AbstractSlot, AbstractState, Born, born, free, serving, unborn}
use Rattle.lib_os.specs.PipeEnds.{is_given, is_made, is_on_its_way}
use Rattle.lib_os.specs.Places.{place_of}
use Rattle.lib_os.specs.Rows.{EntryRow, Names, descriptor_at, is_of_descriptor, is_pipe_page, is_shared, logical, pipe_page, rows_of}
use Rattle.lib_os.specs.StandsFor.{StandsAt, StandsFor, StandsForServer, StandsForSlot, view_of}
use Rattle.lib_os.proofs.Logical.{clients_are, logical_of}
use Rattle.lib_os.proofs.SharedCount.{Shares, shares_stands, shares_unmade}
use Rattle.lib_os.proofs.SlotsStand.{born_at}
use Rattle.lib_os.proofs.StatesStand.{ends_at}
use Rattle.lib_os.proofs.Children.{IsOfParent, of_parent}

module _ {names : Names} {s : KernelState} {a : AbstractState} (h : StandsFor names s a) where
  abbrev pub HasEndOf : ℕ → Type 0
  HasEndOf pipe = (end : ℕ) × (pipe_of (Some (a.objects end)) ≡ Some pipe)

  abbrev its_rows : ℕ → EntryRow
  its_rows m = rows_of s.spaces (slot_at s m).directory

  -- of an environment
  born_ends : (m : ℕ) (b : Born) → a.slots m ≡ born b → (fd : ℕ) (x : Entry) → fd < DESCRIPTORS → is_made (place_of (slot_at s m)) fd ≡ false →
      its_rows m (pipe_page fd) ≡ Some x → HasEndOf (names.name x.frame)
  born_ends m b at fd x below unmade lies = by_test (is_given (place_of (slot_at s m)) fd) refl
    where
      by_place : (p : Place) → place_of (slot_at s m) ≡ p → is_given p fd ≡ true → HasEndOf (names.name x.frame)
      by_place (place.InService (service.Dup old new) step.MappingDescriptor) there on =
          let is : fd ≡ new = grind (arith, nat_tests, on) in
          let so = subst (λ (p : Place). StandsAt p (view_of s.spaces (slot_at s m).directory) (slot_at s m) b) there (born_at h m b at).at in
          let other = so.1.other in
          let off : (old == new) ≡ false = grind (arith, nat_tests, other) in
          let it = (ends_at h m b at).only old x so.1.old_below (ap (λ (p : Place). is_on_its_way p old) there ∙ off)
          (sym so.4 ∙ ap (λ (q : ℕ). its_rows m (pipe_page q)) (sym is) ∙ lies) in
          (it.0, it.2)
      by_place _ there on = absurd (let contradiction : false ≡ true = on in cc)

      by_test : (c : Bool) → is_given (place_of (slot_at s m)) fd ≡ c → HasEndOf (names.name x.frame)
      by_test false off =
          let it = (ends_at h m b at).only fd x below
          (ap (λ (c : Bool). if c then true else is_given (place_of (slot_at s m)) fd) unmade ∙ off) lies in
          (it.0, it.2)
      by_test true on = by_place (place_of (slot_at s m)) refl on

  pub pipe_ends : (m p : ℕ) (x : Entry) → logical s.spaces s.environments.slots m p ≡ Some x → is_shared x.perm ≡ true → is_pipe_page p ≡ true →
      HasEndOf (names.name x.frame)
  pipe_ends m p x counts shared_page pipes = by_slot (a.slots m) refl (h.slots m)
    where
      fd : ℕ
      fd = p - page_number FDTABLE - DESCRIPTORS

      below : fd < DESCRIPTORS
      below = grind (arith, nat_tests, pipes)

      page : p ≡ pipe_page fd
      page = grind (arith, nat_tests, pipes)

      descriptor : is_of_descriptor p ≡ true
      descriptor = grind (arith, nat_tests, pipes)

      fd_is : descriptor_at p ≡ fd
      fd_is = let there = page in let low = below in omega (arith, there, low)

      has : Shares s m p x
      has = record { counts = counts; sharing = shared_page }

      client : (0 ≢ m) × (is_live_slot (slot_at s m) ≡ true)
      client = clients_are m (slot_at s m) (logical_of s.spaces s.environments.slots m p x counts).0

      lies : its_rows m (pipe_page fd) ≡ Some x
      lies = ap (its_rows m) (sym page) ∙ shares_stands h m client.0 client.1 p x has

      by_slot : (slot : AbstractSlot) → a.slots m ≡ slot → StandsForSlot names s.spaces (slot_at s m) (a.slots m) → HasEndOf (names.name x.frame)
      by_slot (free id) at so =
          let k = subst (λ (slot : AbstractSlot). StandsForSlot names s.spaces (slot_at s m) slot) at so in
          absurd (let contradiction : false ≡ true = sym (ap (λ (j : Slot). is_live_slot j) k) ∙ client.1 in cc)
      by_slot (serving id) at so =
          let k : StandsForServer (slot_at s m) id = subst (λ (slot : AbstractSlot). StandsForSlot names s.spaces (slot_at s m) slot) at so in
          absurd (client.0 (sym (sym (h.tabled.ids m client.1) ∙ ap (λ (i : ℕ). i % NENV) (k.id_is ∙ k.first))))
      by_slot (born b) at so = born_ends m b at fd x below (shares_unmade h m client.0 client.1 p fd x descriptor fd_is has) lies
      by_slot (unborn id parent) at so = by_passed (it.passed p) refl
        where
          it : IsOfParent s.spaces (slot_at s (parent % NENV)) (a.slots (parent % NENV)) (slot_at s m) id parent
          it = of_parent (h.children.borne m id parent at)

          by_passed : (c : Bool) → it.passed p ≡ c → HasEndOf (names.name x.frame)
          by_passed true passed =
              born_ends (parent % NENV) it.b it.born_by fd x below (it.unmade fd)
              (ap (its_rows (parent % NENV)) (sym page) ∙ sym (it.handed p descriptor passed) ∙ ap (its_rows m) page ∙ lies)
          by_passed false not_yet =
              absurd (none-some x (sym (it.rest p descriptor not_yet) ∙ ap (its_rows m) page ∙ lies))
