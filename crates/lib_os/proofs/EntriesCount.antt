-- Whatever stands in a space counts for a slot: where it stands, or, where a copy is mapped over its page, at that page; and a page of the
-- child's that spawn has mapped for the child.
use Rattle.jos_base.specs.declared.numbers.TheConstants.{FIRST_ENV_ID, NENV, UTEMP}
use Rattle.std.proofs.Common.{◌≡◌, ◌≢◌, ◌∙◌, ◌⊎◌, inl, inr, ◌==◌, ℕ, ◌%◌, Bool, true, false, Option, Some, None, refl, sym, ap, subst, arith}
use Rattle.std.proofs.lemmas.Bool.Decides.{nat_tests}
use Rattle.std.proofs.lemmas.Option.{none-some, same_Some}
use Rattle.std.specs.Option.{option_map}
use Rattle.jos_base.specs.Environments.{Slot, is_live as is_live_slot}
use Rattle.jos_base.specs.KernelState.{KernelState, slot_at}
use Rattle.jos_base.specs.Reach.{Entry}
use Rattle.jos_base.specs.SpacesState.{is_directory}
use Rattle.jos_base.specs.Words.{page_number}
use Rattle.lib_os.specs.declared.numbers.TheConstants.{PFTEMP, REQUEST}
use Rattle.lib_os.specs.declared.place.HandlerStep.{HandlerStep}
use Rattle.lib_os.specs.declared.place.HandlerStep.TheVariants as handler
use Rattle.lib_os.specs.declared.place.Place.{Place}
use Rattle.lib_os.specs.declared.place.Place.TheVariants as place
use Rattle.lib_os.specs.declared.place.Step.TheVariants as step
use Rattle.lib_os.specs.declared.service.Service.TheVariants as service
use Rattle.lib_os.specs.AbstractState.{AbstractState, Born, AbstractSlot, free, unborn, born, serving}
use Rattle.lib_os.specs.LibraryPages.{View, has_copy, IsOwnWritable, has_spawns}
use Rattle.lib_os.specs.Places.{place_of}
use Rattle.lib_os.specs.Rows.{MayBeHad, Names, rows_of, lasting, logical, is_shared, as_cow, as_own, is_clients, is_programs, own_perm}
use Rattle.lib_os.specs.StandsFor.{StandsFor, StandsForSlot, StandsForBorn, StandsAt, view_of}
use Rattle.lib_os.specs.StandsInHandler.{IsInHandler, CopiesOrEnds, copies, ends, IsMappedTwice}
use Rattle.lib_os.proofs.Logical.{counted_made, is_making_pipe, is_plain, is_remapped, as_cow_alike, counted_remapped, clients_so, is_childs_page}
use Rattle.lib_os.proofs.Logical.{inside_programs, programs_beside, programs_no_descriptor, logical_live, logical_plain, logical_beside}
use Rattle.lib_os.proofs.Serving.{words_of_none}
use Rattle.lib_os.proofs.SlotsStand.{born_live, born_at}
use Rattle.lib_os.proofs.ChildsPages.{childs_page}
use Rattle.lib_os.proofs.KeptPages.{childs_kept}
use Rattle.std.specs.Prelude.{List}

-- The slot is that of a child that is not born, and the space that of its parent.
pub record IsOfBearer (s : KernelState) (a : AbstractState) (slot d : ℕ) : Type 0 where
  pub id : ℕ
  pub parent : ℕ
  pub unborn_is : a.slots slot ≡ unborn id parent
  pub parents : (slot_at s (parent % NENV)).directory ≡ d

-- A slot, a page of it that counts, and where that is not the page itself, a copy is mapped over its page, or the slot is that of a child that
-- is not born.
pub record Counts (s : KernelState) (a : AbstractState) (d p : ℕ) (x : Entry) : Type 0 where
  pub slot : ℕ
  pub live : is_live_slot (slot_at s slot) ≡ true
  pub client : is_clients slot (slot_at s slot) ≡ true
  pub home : (n : ℕ) (b : Born) → a.slots n ≡ born b → slot ≡ n → (slot_at s n).directory ≡ d
  pub owner : ((slot_at s slot).directory ≡ d) ⊎ IsOfBearer s a slot d
  pub page : ℕ
  pub entry : Entry
  pub shared_home : is_shared entry.perm ≡ true → (slot_at s slot).directory ≡ d
  pub counts : logical s.spaces s.environments.slots slot page ≡ Some entry
  pub frame : entry.frame ≡ x.frame
  pub own : is_shared x.perm ≡ false → is_shared entry.perm ≡ false
  -- it is shared, or it is a page that service pipe makes, which counts as its maker's own
  pub shared : is_shared x.perm ≡ true → (is_shared entry.perm ≡ true) ⊎ (entry.perm ≡ own_perm)
  pub itself : is_shared x.perm ≡ true → page ≡ p
  pub beside : is_programs page ≡ false → page ≡ p

-- the two entries of a page that a copy is mapped over
twice_at : (h : HandlerStep) (v : View) (k : Slot) (b : Born) → is_plain (place.InHandler h) ≡ false → IsInHandler h v k b →
    (va : ℕ) × (is_programs (page_number va) ≡ true) × IsMappedTwice v va
twice_at (handler.Unmapping found) v k b plain at = by_way at.way
  where
    by_way : CopiesOrEnds (handler.Unmapping found) v k b at.fault at.regs → (va : ℕ) × (is_programs (page_number va) ≡ true) × IsMappedTwice v va
    by_way (copies way) = (at.fault.va, inside_programs at.fault.va way.inside, way.at.1)
    by_way (ends way) = absurd way.at
twice_at _ v k b plain at = absurd (let contradiction : true ≡ false = plain in cc)

pub born_counts : {names : Names} {s : KernelState} {a : AbstractState} {b : Born} (m : ℕ) → 0 ≢ m → StandsForBorn names s.spaces (slot_at s m) b →
    (p : ℕ) (x : Entry) → rows_of s.spaces (slot_at s m).directory p ≡ Some x → is_childs_page (place_of (slot_at s m)) p ≡ false →
    Counts s a (slot_at s m).directory p x
born_counts {names = names} {s = s} {a = a} {b = b} m not_first own p x is mine = by_page (p == page_number PFTEMP) refl (is_plain (place_of (slot_at s m))) refl
  where
    live : is_live_slot (slot_at s m) ≡ true
    live = born_live own

    client : is_clients m (slot_at s m) ≡ true
    client = clients_so m (slot_at s m) not_first live

    itself : logical s.spaces s.environments.slots m p ≡ Some x → Counts s a (slot_at s m).directory p x
    itself counts = record {
      slot = m;
      live = live;
      client = client;
      home = λ n c at same. ap (λ (k : ℕ). (slot_at s k).directory) (sym same);
      owner = inl refl;
      shared_home = λ shared_entry. refl;
      page = p;
      entry = x;
      counts = counts;
      frame = refl;
      own = λ own_page. own_page;
      shared = λ shared_page. inl shared_page;
      itself = λ shared_page. refl;
      beside = λ off. refl;
    }

    at_page : (at : Place) → place_of (slot_at s m) ≡ at → is_plain at ≡ false → p ≡ page_number PFTEMP →
        StandsAt at (view_of s.spaces (slot_at s m).directory) (slot_at s m) b → Counts s a (slot_at s m).directory p x
    at_page place.Guest there plain same at = absurd (let contradiction : true ≡ false = plain in cc)
    at_page (place.InService service step) there plain same at =
        absurd (none-some x (sym (own.library.no_copy (ap has_copy there)) ∙ ap (rows_of s.spaces (slot_at s m).directory) (sym same) ∙ is))
    at_page (place.InHandler step) there plain same at =
        let found = twice_at step (view_of s.spaces (slot_at s m).directory) (slot_at s m) b plain at in
        let twice = found.2 in
        let copy : x ≡ twice.there =
        same_Some x twice.there (sym is ∙ ap (rows_of s.spaces (slot_at s m).directory) same ∙ twice.there_is) in
        record {
          slot = m;
          live = live;
          client = client;
          home = λ n c at same. ap (λ (k : ℕ). (slot_at s k).directory) (sym same);
          owner = inl refl;
          shared_home = λ shared_entry. refl;
          page = page_number found.0;
          entry = twice.here;
          counts = logical_beside s.spaces s.environments.slots m client (page_number found.0) (programs_beside (page_number found.0) found.1).0
              (ap (λ (q : Place). is_remapped q (page_number found.0)) there) ∙ twice.here_is;
          frame = sym twice.frames ∙ ap (λ (e : Entry). e.frame) (sym copy);
          own = λ own_page. twice.own_page;
          shared = λ shared_page. absurd
              (let contradiction : true ≡ false = sym shared_page ∙ ap (λ (e : Entry). is_shared e.perm) copy ∙ twice.own_copy in cc);
          itself = λ shared_page. absurd
              (let contradiction : true ≡ false = sym shared_page ∙ ap (λ (e : Entry). is_shared e.perm) copy ∙ twice.own_copy in cc);
          beside = λ off. absurd (let contradiction : true ≡ false = sym found.1 ∙ off in cc);
        }

    -- the page that fork maps onto itself
    twice_mapped : is_remapped (place_of (slot_at s m)) p ≡ true → is_making_pipe (place_of (slot_at s m)) ≡ false → Counts s a (slot_at s m).directory p x
    twice_mapped twice unmade =
        let alike = as_cow_alike x in
        record {
          slot = m;
          live = live;
          client = client;
          home = λ n c at same. ap (λ (k : ℕ). (slot_at s k).directory) (sym same);
          owner = inl refl;
          shared_home = λ shared_entry. refl;
          page = p;
          entry = as_cow x;
          counts = logical_live s.spaces s.environments.slots m client p
              ∙ counted_remapped (place_of (slot_at s m)) (rows_of s.spaces (slot_at s m).directory) p twice unmade mine
              ∙ ap (λ (o : Option Entry). option_map as_cow o) is;
          frame = alike.0;
          own = λ own_page. alike.1 ∙ own_page;
          shared = λ shared_page. inl (alike.1 ∙ shared_page);
          itself = λ shared_page. refl;
          beside = λ off. refl;
        }

    -- a page that service pipe makes
    made_own : is_remapped (place_of (slot_at s m)) p ≡ true → is_making_pipe (place_of (slot_at s m)) ≡ true → Counts s a (slot_at s m).directory p x
    made_own making is_so = record {
      slot = m;
      live = live;
      client = client;
      home = λ n c at same. ap (λ (k : ℕ). (slot_at s k).directory) (sym same);
      owner = inl refl;
      shared_home = λ shared_entry. refl;
      page = p;
      entry = as_own x;
      counts = logical_live s.spaces s.environments.slots m client p
          ∙ counted_made (place_of (slot_at s m)) (rows_of s.spaces (slot_at s m).directory) p making is_so
          ∙ ap (λ (o : Option Entry). option_map as_own o) is;
      frame = refl;
      own = λ own_page. refl;
      shared = λ shared_page. inr refl;
      itself = λ shared_page. refl;
      beside = λ off. refl;
    }

    by_step : p ≢ page_number PFTEMP → (c : Bool) → is_remapped (place_of (slot_at s m)) p ≡ c → Counts s a (slot_at s m).directory p x
    by_step ne true twice = by_making (is_making_pipe (place_of (slot_at s m))) refl
      where
        by_making : (t : Bool) → is_making_pipe (place_of (slot_at s m)) ≡ t → Counts s a (slot_at s m).directory p x
        by_making true making = made_own twice making
        by_making false unmade = twice_mapped twice unmade
    by_step ne false other = itself (logical_beside s.spaces s.environments.slots m client p ne other ∙ is)

    by_page : (c : Bool) → (p == page_number PFTEMP) ≡ c → (t : Bool) → is_plain (place_of (slot_at s m)) ≡ t → Counts s a (slot_at s m).directory p x
    by_page false test t plain = by_step (grind (arith, nat_tests)) (is_remapped (place_of (slot_at s m)) p) refl
    by_page true test true plain = itself (logical_plain s.spaces s.environments.slots m client plain p ∙ is)
    by_page true test false plain = at_page (place_of (slot_at s m)) refl plain (grind (arith, nat_tests)) own.at

-- a page of its child's it keeps
childs_keeps : (at : Place) (words : List ℕ) (p : ℕ) → is_childs_page at p ≡ true → has_spawns at words p ≡ true
childs_keeps (place.InService (service.Spawn path argv) (step.Spawning at)) words p childs = childs_kept at p childs
childs_keeps _ words p childs = absurd (let contradiction : false ≡ true = childs in cc)

-- in a state
pub born_entry : {names : Names} {s : KernelState} {a : AbstractState} → StandsFor names s a → (m : ℕ) (b : Born) → a.slots m ≡ born b →
    (p : ℕ) (x : Entry) → rows_of s.spaces (slot_at s m).directory p ≡ Some x → Counts s a (slot_at s m).directory p x
born_entry {s = s} {a = a} h m b at p x is = by_child (is_childs_page (place_of (slot_at s m)) p) refl
  where
    not_first : 0 ≢ m
    not_first first = let contradiction : serving FIRST_ENV_ID ≡ born b = sym h.first ∙ ap a.slots first ∙ at in cc

    by_child : (c : Bool) → is_childs_page (place_of (slot_at s m)) p ≡ c → Counts s a (slot_at s m).directory p x
    by_child false mine = born_counts m not_first (born_at h m b at) p x is mine
    by_child true childs =
        let c = childs_page h m b at p x is childs in
        let page : IsOwnWritable (rows_of s.spaces (slot_at s m).directory) p =
        (born_at h m b at).library.spawns p (childs_keeps (place_of (slot_at s m)) (slot_at s m).extra p childs) in
        let own_page : is_shared x.perm ≡ false =
        ap (λ (e : Entry). is_shared e.perm) (same_Some x page.entry (sym is ∙ page.stands)) ∙ page.own_page in
        record {
          slot = c.child;
          live = c.live;
          client = clients_so c.child (slot_at s c.child) c.not_first c.live;
          home = λ n o its same. let contradiction : born o ≡ unborn c.id c.parent = sym its ∙ ap a.slots (sym same) ∙ c.unborn_is in absurd cc;
          owner = inr (record {
            id = c.id;
            parent = c.parent;
            unborn_is = c.unborn_is;
            parents = ap (λ (j : ℕ). (slot_at s j).directory) c.borne;
          });
          shared_home = λ shared_entry. absurd (let contradiction : false ≡ true = sym c.own_page ∙ shared_entry in cc);
          page = c.page;
          entry = c.entry;
          counts = c.counts;
          frame = c.frame;
          own = λ own_too. c.own_page;
          shared = λ shared_page. absurd (let contradiction : false ≡ true = sym own_page ∙ shared_page in cc);
          itself = λ shared_page. absurd (let contradiction : false ≡ true = sym own_page ∙ shared_page in cc);
          beside = λ off. absurd (let contradiction : true ≡ false = sym c.programs ∙ off in cc);
        }

-- what stands in a space but the file server's
pub entry_counts : {names : Names} {s : KernelState} {a : AbstractState} → StandsFor names s a → (d p : ℕ) (x : Entry) →
    d ≢ (slot_at s 0).directory → rows_of s.spaces d p ≡ Some x → Counts s a d p x
unfolding rows_of
entry_counts {names = names} {s = s} {a = a} h d p x other is = by_entry (s.spaces.entries d p) refl is
  where
    not_first : (m : ℕ) → (slot_at s m).directory ≡ d → 0 ≢ m
    not_first m home first = other (sym home ∙ ap (λ (k : ℕ). (slot_at s k).directory) (sym first))

    of_slot : (m : ℕ) → (slot_at s m).directory ≡ d → is_live_slot (slot_at s m) ≡ true → (slot : AbstractSlot) → a.slots m ≡ slot →
        StandsForSlot names s.spaces (slot_at s m) slot → Counts s a d p x
    of_slot m home live (free id) at k =
        absurd (let contradiction : false ≡ true = sym (ap (λ (j : Slot). is_live_slot j) k) ∙ live in cc)
    of_slot m home live (unborn id parent) at k =
        let client : is_clients m (slot_at s m) ≡ true = clients_so m (slot_at s m) (not_first m home) live in
        let its_row = ap (λ (f : ℕ). rows_of s.spaces f p) home ∙ is in
        let guest : place_of (slot_at s m) ≡ place.Guest = words_of_none (slot_at s m).registers (slot_at s m).extra k.stack k.words in
        record {
          slot = m;
          live = live;
          client = client;
          home = λ n c at same. ap (λ (k : ℕ). (slot_at s k).directory) (sym same) ∙ home;
          owner = inl home;
          shared_home = λ shared_entry. home;
          page = p;
          entry = x;
          counts = logical_plain s.spaces s.environments.slots m client (ap is_plain guest) p ∙ its_row;
          frame = refl;
          own = λ own_page. own_page;
          shared = λ shared_page. inl shared_page;
          itself = λ shared_page. refl;
          beside = λ off. refl;
        }
    of_slot m home live (serving id) at k =
        absurd (not_first m home (sym (sym (h.tabled.ids m live) ∙ ap (λ (i : ℕ). i % NENV) (k.id_is ∙ k.first))))
    of_slot m home live (born b) at k =
        subst (λ (f : ℕ). Counts s a f p x) home (born_entry h m b at p x (ap (λ (f : ℕ). rows_of s.spaces f p) home ∙ is))

    by_entry : (o : Option Entry) → s.spaces.entries d p ≡ o → rows_of s.spaces d p ≡ Some x → Counts s a d p x
    by_entry None none is = absurd (none-some x (sym (ap (λ (o : Option Entry). option_map lasting o) none) ∙ is))
    by_entry (Some e) there is =
        let owner = h.in_order.spaces.owned d (ap is_directory (h.in_order.frames.owners d p e there)) in
        of_slot owner.0 owner.2 owner.1 (a.slots owner.0) refl (h.slots owner.0)

-- ---- the file server's pages

-- none of them has this frame
abbrev pub ServerLacks : KernelState → ℕ → Type 0
ServerLacks s f = (q : ℕ) (e : Entry) → rows_of s.spaces (slot_at s 0).directory q ≡ Some e → e.frame ≢ f

own_not_had : (request : Bool) (p : ℕ) (x : Entry) → p ≢ page_number UTEMP → is_shared x.perm ≡ false → MayBeHad request p x → ⊥
own_not_had true p x other own_page had = other had.0
own_not_had false p x other own_page had = let contradiction : true ≡ false = sym had.shared ∙ own_page in cc

programs_not_had : (request : Bool) (p : ℕ) (x : Entry) → is_programs p ≡ true → MayBeHad request p x → ⊥
programs_not_had true p x inside had = (programs_beside p inside).2 had.0
programs_not_had false p x inside had = let contradiction : true ≡ false = sym had.descriptor ∙ programs_no_descriptor p inside in cc

-- It has no page of an environment's own but that in which a service keeps what it moves,
pub own_lacked : {names : Names} {s : KernelState} {a : AbstractState} → StandsFor names s a → (n p : ℕ) (x : Entry) →
    logical s.spaces s.environments.slots n p ≡ Some x → p ≢ page_number UTEMP → is_shared x.perm ≡ false → ServerLacks s x.frame
own_lacked h n p x counts other own_page q e is same =
    own_not_had (q == page_number REQUEST) p x other own_page (h.beside n p q x e counts is (sym same))

-- and none that a program may have.
pub programs_lacked : {names : Names} {s : KernelState} {a : AbstractState} → StandsFor names s a → (n p : ℕ) (x : Entry) →
    logical s.spaces s.environments.slots n p ≡ Some x → is_programs p ≡ true → ServerLacks s x.frame
programs_lacked h n p x counts inside q e is same =
    programs_not_had (q == page_number REQUEST) p x inside (h.beside n p q x e counts is (sym same))

-- What stands in a space has another frame than this, which the file server lacks, where what counts for it has another.
pub frames_apart : {names : Names} {s : KernelState} {a : AbstractState} → StandsFor names s a → (f : ℕ) → ServerLacks s f →
    (d q : ℕ) (x : Entry) → rows_of s.spaces d q ≡ Some x → ((found : Counts s a d q x) → found.entry.frame ≢ f) → x.frame ≢ f
frames_apart {s = s} h f lacked d q x is apart same = by_space (d == (slot_at s 0).directory) refl
  where
    by_space : (c : Bool) → (d == (slot_at s 0).directory) ≡ c → ⊥
    by_space true test =
        let servers : d ≡ (slot_at s 0).directory = grind (arith, nat_tests) in
        lacked q x (ap (λ (r : ℕ). rows_of s.spaces r q) (sym servers) ∙ is) same
    by_space false test =
        let found = entry_counts h d q x (grind (arith, nat_tests)) is in
        apart found (found.frame ∙ same)
