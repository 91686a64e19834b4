-- The kernel's state goes on standing for the abstract one where one slot's environment changes, where nothing that is seen
-- of address spaces does, and where turns begin and end.
use Rattle.std.proofs.Common.{◌≡◌, ◌≢◌, ◌∙◌, ◌<◌, ◌≤◌, arith, ℕ, ◌+◌, ◌%◌, ◌^◌, Bool, true, false, List, Option, refl, sym, ap, subst, if◌then◌else◌}
use Rattle.std.specs.Prelude.{Some, None, not, ◌==◌, ◌&&◌, is_some}
use Rattle.std.specs.Option.{option_map}
use Rattle.std.proofs.lemmas.Option.{none-some, same_Some}
use Rattle.jos_base.specs.Counting.{named, page_count}
use Rattle.jos_base.proofs.Counts.{page_count-same}
use Rattle.jos_base.specs.Reach.{Entry}
use Rattle.jos_base.specs.Words.{upd}
use Rattle.jos_base.specs.declared.environment.EnvType.TheVariants.{User}
use Rattle.jos_base.specs.declared.environment.Status.{Status}
use Rattle.jos_base.specs.declared.environment.Status.TheVariants.{Runnable, Running, NotRunnable}
use Rattle.jos_base.specs.declared.numbers.TheConstants.{FIRST_ENV_ID, NENV}
use Rattle.jos_base.specs.Environments.{Slot, Environments, free_slot, is_live as is_live_slot, is_running}
use Rattle.jos_base.specs.KernelState.{KernelState, HasSpaces, slot_at, with_slot_at, with_spaces, with_status, turn_begun, turn_ended}
use Rattle.jos_base.specs.SpacesState.{SpacesState, directories, own_count, reference_count}
use Rattle.lib_os.specs.AbstractState.{AbstractState, Born, AbstractSlot, free, unborn, born, serving, is_live, with_born, with_printed, TablePlace, Server, leaving, idle, looking, busy, acted}
use Rattle.lib_os.specs.InOrder.{HasOneUse, IsInOrder}
use Rattle.lib_os.specs.DescriptorPages.{lasting_words, place_page}
use Rattle.lib_os.specs.declared.numbers.TheConstants.{DESCRIPTORS}
use Rattle.lib_os.specs.PipeEnds.{EndsStand, EndsStandAt, LocksStand, locked_at}
use Rattle.lib_os.specs.Rows.{server_row, Names, Rows, EntryRow, rows_of, counted, lasting, logical, logical_by, is_clients, pipe_page}
use Rattle.lib_os.specs.StandsFor.{view_of}
use Rattle.lib_os.specs.StandsFor.{NamesAreOld, StandsFor, StandsForSlot, StandsForBorn, IsStatusFor, IsTabled, HasChildren, borne_in, HasServer, StandsForServer, IsServerStatus, things_in}
use Rattle.lib_os.specs.declared.place.Place.{Place}
use Rattle.lib_os.specs.Places.{place_of}
use Rattle.lib_os.proofs.Effects.{Quiet}
use Rattle.lib_os.proofs.EntriesStand.{RowsStand, rows_stand, rows_same, rows_bytes, rows_turned}
use Rattle.lib_os.proofs.Children.{KeepsChild, bears_none, stands_still, SameChild, same_child, born_bears_none, children_kept, children_still, BearsNone}
use Rattle.lib_os.proofs.Logical.{is_plain, plain_unborne, counted_plain, logical_alike, clients_so}
use Rattle.lib_os.proofs.PipesStand.{PlacesAlike, ends_moved, ends_stay, locks_kept, locks_same, same_places}
use Rattle.std.proofs.lemmas.Bool.Decides.{nat_tests}
use Rattle.lib_os.proofs.SlotsStand.{counts_unpiped, is_piped}
use Rattle.lib_os.proofs.SlotsStand.{CountsKept, SeenAlike, all_counts, but_pipes, counts_stopped, slot_stands, born_at, born_live, live_stands, status_born}
use Rattle.jos_base.proofs.Maps.{upd-at, upd-other, upd-alike, upd-all, upd-both}

-- ---- one slot

-- as long as the same slots are live, in the same spaces
pub spaces_alike : (sp : SpacesState) (e after : Environments) →
    ((n : ℕ) → is_live_slot (after.slots n) ≡ is_live_slot (e.slots n)) →
    ((n : ℕ) → (after.slots n).directory ≡ (e.slots n).directory) → HasSpaces sp e → HasSpaces sp after
spaces_alike sp e after live directory h = record {
  in_use = λ n lives. subst (λ d. directories sp d ≡ true) (sym (directory n)) (h.in_use n (sym (live n) ∙ lives));
  apart = λ n m lives lives_too same. h.apart n m (sym (live n) ∙ lives) (sym (live m) ∙ lives_too) (sym (directory n) ∙ same ∙ directory m);
  owned = λ d used. let o = h.owned d used in (o.0, live o.0 ∙ o.1, directory o.0 ∙ o.2);
}

-- no environment stands in slot 0
pub born_not_first : {names : Names} {s : KernelState} {a : AbstractState} → StandsFor names s a → (n : ℕ) (b : Born) →
    a.slots n ≡ born b → 0 ≢ n
born_not_first {a = a} h n b at zero_is =
    let contradiction : serving FIRST_ENV_ID ≡ born b = sym h.first ∙ ap a.slots zero_is ∙ at in cc

-- whoever is born counts
pub clients_live : {names : Names} {s : KernelState} {a : AbstractState} → StandsFor names s a → (n : ℕ) (b : Born) → a.slots n ≡ born b →
    is_clients n (slot_at s n) ≡ true
clients_live {s = s} h n b at = clients_so n (slot_at s n) (born_not_first h n b at) (born_live (born_at h n b at))

-- ---- the file server

-- what it has, where nothing that is seen of its space differs
pub server_alike : {names after : Names} {s t : SpacesState} {k : Slot} {opened : ℕ → TablePlace} {blocks : ℕ} {server : Server} →
    SeenAlike names after s t k.directory → HasServer s k opened blocks server → HasServer t k opened blocks server
server_alike same h = record {
  status = h.status;
  pages = λ p is. h.pages p (ap (λ (r : EntryRow). is_some (r p)) (sym same.rows) ∙ is);
  tables = λ r is. h.tables r (sym (same.regions r) ∙ is);
  alone = λ j q x y below at there. h.alone j q x y below ((λ i. sym same.rows i (place_page j)) ∙ at) ((λ i. sym same.rows i q) ∙ there);
}

-- where its slot is the same
pub server_same : {s : SpacesState} {k l : Slot} {opened : ℕ → TablePlace} {blocks : ℕ} {server : Server} → l ≡ k →
    HasServer s k opened blocks server → HasServer s l opened blocks server
server_same {s = s} {opened = opened} {blocks = blocks} {server = server} same h =
    subst (λ (x : Slot). HasServer s x opened blocks server) (sym same) h

-- its row, where another slot is another
pub row_other : (sp : SpacesState) (slots : ℕ → Slot) (n : ℕ) (k : Slot) → 0 ≢ n → server_row sp (upd slots n k) ≡ server_row sp slots
row_other sp slots n k other = ap (λ (x : Slot). rows_of sp x.directory) (upd-other slots n k 0 other)

pub slot_in_order : (s : KernelState) (n : ℕ) (k : Slot) → is_live_slot k ≡ is_live_slot (slot_at s n) →
    k.directory ≡ (slot_at s n).directory → IsInOrder s → IsInOrder (with_slot_at s n k)
slot_in_order s n k live directory h = record {
  frames = h.frames;
  spaces = spaces_alike s.spaces s.environments (with_slot_at s n k).environments
      (upd-alike (λ (x : Slot). is_live_slot x) s.environments.slots n k live)
      (upd-alike (λ (x : Slot). x.directory) s.environments.slots n k directory) h.spaces;
}

-- a state is in order where one is that has the same spaces, and the same slots live in them
pub in_order_alike : (s t : KernelState) → t.spaces ≡ s.spaces → ((n : ℕ) → is_live_slot (slot_at t n) ≡ is_live_slot (slot_at s n)) →
    ((n : ℕ) → (slot_at t n).directory ≡ (slot_at s n).directory) → IsInOrder s → IsInOrder t
in_order_alike s t same live directory h = record {
  frames = subst (λ (sp : SpacesState). HasOneUse sp) (sym same) h.frames;
  spaces = subst (λ (sp : SpacesState). HasSpaces sp t.environments) (sym same)
      (spaces_alike s.spaces s.environments t.environments live directory h.spaces);
}

-- so it was before a slot was another, in the same space
pub slot_was_in_order : (s : KernelState) (n : ℕ) (k : Slot) → is_live_slot k ≡ is_live_slot (slot_at s n) →
    k.directory ≡ (slot_at s n).directory → IsInOrder (with_slot_at s n k) → IsInOrder s
slot_was_in_order s n k live directory h =
    in_order_alike (with_slot_at s n k) s refl
    (λ m. sym (upd-alike (λ (x : Slot). is_live_slot x) s.environments.slots n k live m))
    (λ m. sym (upd-alike (λ (x : Slot). x.directory) s.environments.slots n k directory m)) h

-- ---- the table

-- What a slot has when another is put in its place: its id and what it is there for, and it is not made RUNNING.
pub record Settles (before after : Slot) : Type 0 where
  pub id : after.id ≡ before.id
  pub env_type : after.env_type ≡ before.env_type
  pub turns : after.runs ≡ before.runs
  pub calm : is_running after.status ≡ true → is_running before.status ≡ true

-- one that is not RUNNING
pub stopped_settles : (before after : Slot) → after.id ≡ before.id → after.env_type ≡ before.env_type →
    is_running after.status ≡ false → after.runs ≡ before.runs → Settles before after
stopped_settles before after id env_type stopped turns = record {
  id = id;
  env_type = env_type;
  turns = turns;
  calm = λ runs. absurd (let contradiction : false ≡ true = sym stopped ∙ runs in cc);
}

tabled_at : {slots : ℕ → Slot} {last : Option ℕ} → IsTabled slots last → (n : ℕ) (k : Slot) → is_live_slot (slots n) ≡ true →
    Settles (slots n) k → (m : ℕ) → (is_live_slot (upd slots n k m) ≡ true → (upd slots n k m).id % NENV ≡ m)
    × (m ≢ 0 → (upd slots n k m).env_type ≡ User) × (is_running (upd slots n k m).status ≡ true → last ≡ Some m)
tabled_at {slots = slots} {last = last} h n k live settles =
    upd-all (λ m (x : Slot). (is_live_slot x ≡ true → x.id % NENV ≡ m) × (m ≢ 0 → x.env_type ≡ User) × (is_running x.status ≡ true → last ≡ Some m))
    slots n k
    ((λ is. ap (λ (id : ℕ). id % NENV) settles.id ∙ h.ids n live), (λ other. settles.env_type ∙ h.servers n other), (λ runs. h.running n (settles.calm runs)))
    (λ m ne. (h.ids m, h.servers m, h.running m))

pub tabled_set : {slots : ℕ → Slot} {last : Option ℕ} → IsTabled slots last → (n : ℕ) (k : Slot) → is_live_slot (slots n) ≡ true →
    Settles (slots n) k → IsTabled (upd slots n k) last
tabled_set h n k live settles = record {
  ids = λ m. (tabled_at h n k live settles m).0;
  servers = λ m. (tabled_at h n k live settles m).1;
  running = λ m. (tabled_at h n k live settles m).2;
}

pub tabled_freed : {slots : ℕ → Slot} {last : Option ℕ} → IsTabled slots last → (n id : ℕ) → IsTabled (upd slots n (free_slot id)) last
tabled_freed {slots = slots} {last = last} h n id = record {
  ids = λ m. (at_slot m).0;
  servers = λ m. (at_slot m).1;
  running = λ m. (at_slot m).2;
}
  where
    at_slot : (m : ℕ) → (is_live_slot (upd slots n (free_slot id) m) ≡ true → (upd slots n (free_slot id) m).id % NENV ≡ m)
        × (m ≢ 0 → (upd slots n (free_slot id) m).env_type ≡ User) × (is_running (upd slots n (free_slot id) m).status ≡ true → last ≡ Some m)
    at_slot =
        upd-all (λ m (x : Slot). (is_live_slot x ≡ true → x.id % NENV ≡ m) × (m ≢ 0 → x.env_type ≡ User) × (is_running x.status ≡ true → last ≡ Some m))
        slots n (free_slot id)
        ((λ is. absurd (let contradiction : false ≡ true = is in cc)), (λ other. refl), (λ is. absurd (let contradiction : false ≡ true = is in cc)))
        (λ m ne. (h.ids m, h.servers m, h.running m))

-- ---- turns

-- who does not have the last turn does not run
pub others_rest : {names : Names} {s : KernelState} {a : AbstractState} → StandsFor names s a → (n : ℕ) → s.last ≡ Some n →
    (m : ℕ) → m ≢ n → is_running (slot_at s m).status ≡ false
others_rest {s = s} h n last m ne = by_test (is_running (slot_at s m).status) refl
  where
    by_test : (c : Bool) → is_running (slot_at s m).status ≡ c → is_running (slot_at s m).status ≡ false
    by_test false stopped = stopped
    by_test true runs = absurd (ne (same_Some m n (sym (h.tabled.running m runs) ∙ last)))

-- What counts in one turn is kept by a step of that slot, where it is not on a pipe, for each slot,
pub counts_beside : {names : Names} {s : KernelState} {a : AbstractState} → StandsFor names s a → (n : ℕ) → s.last ≡ Some n →
    is_piped (place_of (slot_at s n)) ≡ false → (sp : SpacesState) → (m : ℕ) → CountsKept s.spaces sp (slot_at s m)
counts_beside {s = s} h n last off sp m = by_slot (m == n) refl
  where
    by_slot : (c : Bool) → (m == n) ≡ c → CountsKept s.spaces sp (slot_at s m)
    by_slot true test =
        let here : m ≡ n = grind (arith, nat_tests) in
        counts_unpiped s.spaces sp (slot_at s m) (ap (λ (q : ℕ). is_piped (place_of (slot_at s q))) here ∙ off)
    by_slot false test = counts_stopped s.spaces sp (slot_at s m) (others_rest h n last m (grind (arith, nat_tests)))

-- and for each other one in any case.
pub others_counts : {names : Names} {s : KernelState} {a : AbstractState} → StandsFor names s a → (n : ℕ) → s.last ≡ Some n →
    (sp : SpacesState) → (m : ℕ) → m ≢ n → CountsKept s.spaces sp (slot_at s m)
others_counts {s = s} h n last sp m ne = counts_stopped s.spaces sp (slot_at s m) (others_rest h n last m ne)

-- no slot has had more turns than there were
pub turns_set : (slots : ℕ → Slot) {turns : ℕ} (n : ℕ) (k : Slot) → ((m : ℕ) → (slots m).runs ≤ turns) → k.runs ≤ turns →
    (m : ℕ) → (upd slots n k m).runs ≤ turns
turns_set slots {turns = turns} n k few here = upd-all (λ m (x : Slot). x.runs ≤ turns) slots n k here (λ m ne. few m)

pub turns_settle : (slots : ℕ → Slot) {turns : ℕ} (n : ℕ) (k : Slot) → ((m : ℕ) → (slots m).runs ≤ turns) → Settles (slots n) k →
    (m : ℕ) → (upd slots n k m).runs ≤ turns
turns_settle slots {turns = turns} n k few settles =
    turns_set slots n k few (subst (λ (r : ℕ). r ≤ turns) (sym settles.turns) (few n))

-- ---- entries as they count

-- at two places they count alike
abbrev pub CountsAlike : Place → Place → Type 0
CountsAlike at after = (row : EntryRow) (p : ℕ) → counted after row p ≡ counted at row p

pub plain_alike : (at after : Place) → is_plain at ≡ true → is_plain after ≡ true → CountsAlike at after
plain_alike at after plain plain_after row p = counted_plain after row plain_after p ∙ sym (counted_plain at row plain p)

pub same_place : (at after : Place) → after ≡ at → CountsAlike at after
same_place at after same row p = ap (λ (x : Place). counted x row p) same

-- Where only one slot is another, in the same space, and stands where its entries count alike, all entries count as they did.
pub set_counts : (s : KernelState) (n : ℕ) (k : Slot) → is_live_slot k ≡ is_live_slot (slot_at s n) → k.directory ≡ (slot_at s n).directory →
    CountsAlike (place_of (slot_at s n)) (place_of k) → (m p : ℕ) →
    logical s.spaces (upd s.environments.slots n k) m p ≡ logical s.spaces s.environments.slots m p
set_counts s n k live directory counts =
    upd-all (λ m (x : Slot). (p : ℕ) → logical_by (is_clients m x) (counted (place_of x) (rows_of s.spaces x.directory)) p ≡ logical s.spaces s.environments.slots m p)
    s.environments.slots n k here (λ m ne p. refl)
  where
    here : (p : ℕ) → logical_by (is_clients n k) (counted (place_of k) (rows_of s.spaces k.directory)) p ≡ logical s.spaces s.environments.slots n p
    here p =
        (λ i. logical_by (not (n == 0) && live i) (counted (place_of k) (rows_of s.spaces (directory i))) p)
        ∙ ap (λ (o : Option Entry). if is_clients n (slot_at s n) then o else None) (counts (rows_of s.spaces (slot_at s n).directory) p)

rows_set : {names : Names} {s : KernelState} {a : AbstractState} → StandsFor names s a → (n : ℕ) (b : Born) → a.slots n ≡ born b → (k : Slot) →
    is_live_slot k ≡ is_live_slot (slot_at s n) → k.directory ≡ (slot_at s n).directory → CountsAlike (place_of (slot_at s n)) (place_of k) →
    RowsStand names s.spaces.pages a.shared (record (things_in s a) { row = server_row s.spaces (upd s.environments.slots n k) }) a.next_name
    (logical s.spaces (upd s.environments.slots n k))
rows_set {s = s} h n b at k live directory counts =
    rows_turned (row_other s.spaces s.environments.slots n k (born_not_first h n b at))
    (rows_same (logical s.spaces s.environments.slots) (logical s.spaces (upd s.environments.slots n k)) (set_counts s n k live directory counts) (rows_stand h))

-- ---- ends of pipes, and locks

-- those of the environment in a slot
pub ends_at : {names : Names} {s : KernelState} {a : AbstractState} → StandsFor names s a → (n : ℕ) (b : Born) → a.slots n ≡ born b →
    EndsStand names a.objects (place_of (slot_at s n)) (rows_of s.spaces (slot_at s n).directory) b
ends_at {names = names} {s = s} {a = a} h n b at =
    subst (λ (slot : AbstractSlot). EndsStandAt names a.objects (place_of (slot_at s n)) (rows_of s.spaces (slot_at s n).directory) slot) at (h.ends n)

-- Where only one slot is another, which stands where the same lock is held, all locks are held by whom they were.
locks_set : {names : Names} {s : KernelState} {a : AbstractState} → StandsFor names s a → (n : ℕ) (k : Slot) →
    locked_at (place_of k) ≡ locked_at (place_of (slot_at s n)) →
    ((m p : ℕ) → logical s.spaces (upd s.environments.slots n k) m p ≡ logical s.spaces s.environments.slots m p) →
    LocksStand s.spaces.pages (upd s.environments.slots n k) (logical s.spaces (upd s.environments.slots n k))
locks_set {s = s} h n k locked counts =
    locks_same (upd-alike (λ (x : Slot). locked_at (place_of x)) s.environments.slots n k locked) (λ m p is. counts m p)
    (λ m p x is stands shared_page. refl) h.locks

-- ---- children that are not born

pub same_space : (names : Names) (sp : SpacesState) (d : ℕ) → SeenAlike names names sp sp d
same_space names sp d = record {
  rows = refl;
  bytes = λ p x is own_page. refl;
  named_so = λ p x is shared_page. refl;
  devices = λ p x descriptor is shared_page. refl;
  pipes = λ p x pipes is shared_page. refl;
  regions = λ r. refl;
}

-- where only one environment's slot is another
children_set : {names : Names} {s : KernelState} {a : AbstractState} → StandsFor names s a → (n : ℕ) (b : Born) → a.slots n ≡ born b →
    (k : Slot) → KeepsChild (slot_at s n) k → HasChildren names s.spaces (upd s.environments.slots n k) a.slots
children_set {names = names} {s = s} {a = a} h n b at k (bears_none none none_after) =
    children_kept h.children n (λ m ne. upd-other s.environments.slots n k m ne) (λ m ne. refl)
    (λ m ne live. same_space names s.spaces (slot_at s m).directory) (born_bears_none (slot_at s n) (a.slots n) b at none)
    (born_bears_none (upd s.environments.slots n k n) (a.slots n) b at
    (ap (λ (x : Slot). borne_in (place_of x)) (upd-at s.environments.slots n k) ∙ none_after))
children_set {names = names} {s = s} h n b at k (stands_still place same) =
    children_still h.children (upd-alike (λ (x : Slot). place_of x) s.environments.slots n k place)
    (upd-all (λ m (x : Slot). SameChild (slot_at s m) x) s.environments.slots n k same (λ m ne. same_child (slot_at s m) (slot_at s m) refl))
    (λ m. refl) (λ m live. same_space names s.spaces (slot_at s m).directory)

-- a slot that only has another status
status_alike : (k : Slot) (status : Status) (runs : ℕ) → KeepsChild k (record k { status = status; runs = runs })
status_alike k status runs = stands_still refl (record { registers = refl; upcall = refl; directory = refl })

-- ---- names of descriptors

-- where an environment is another, whose descriptors name what was there before
pub old_set : {slots : ℕ → AbstractSlot} {next : ℕ} → NamesAreOld slots next → (n : ℕ) (c : Born) →
    ((fd name : ℕ) → c.descriptors fd ≡ Some name → name < next) → NamesAreOld (upd slots n (born c)) next
old_set {slots = slots} {next = next} old n c own m fd name b =
    upd-all (λ m (x : AbstractSlot). x ≡ born b → b.descriptors fd ≡ Some name → name < next) slots n (born c)
    (λ is names_it. own fd name (subst (λ (d : Born). d.descriptors fd ≡ Some name) (sym (same_born c b is)) names_it))
    (λ m ne is names_it. old m fd name b is names_it) m
  where
    same_born : (c d : Born) → born c ≡ born d → c ≡ d
    same_born c d same = cc

-- the same where one descriptor names another
pub old_with : {descriptors : ℕ → Option ℕ} {next : ℕ} → ((q name : ℕ) → descriptors q ≡ Some name → name < next) → (fd : ℕ) (one : Option ℕ) →
    ((name : ℕ) → one ≡ Some name → name < next) → (q name : ℕ) → upd descriptors fd one q ≡ Some name → name < next
old_with {descriptors = descriptors} {next = next} olds fd one it q name =
    upd-all (λ q (o : Option ℕ). o ≡ Some name → name < next) descriptors fd one (it name) (λ q ne. olds q name) q

-- where there are more names
pub old_later : {slots : ℕ → AbstractSlot} {next later : ℕ} → NamesAreOld slots next → next ≤ later → NamesAreOld slots later
old_later old more m fd name b is names_it = let before = old m fd name b is names_it in omega (arith, before, more)

-- or has the descriptors that one had
pub old_stays : {slots : ℕ → AbstractSlot} {next : ℕ} → NamesAreOld slots next → (m : ℕ) (b : Born) → slots m ≡ born b → (n : ℕ) (c : Born) →
    ((fd : ℕ) → c.descriptors fd ≡ b.descriptors fd) → NamesAreOld (upd slots n (born c)) next
old_stays old m b at n c same = old_set old n c (λ fd name names_it. old m fd name b at (sym (same fd) ∙ names_it))

-- the same of slots of which the others are what they were
pub old_but : {before : ℕ → AbstractSlot} {next : ℕ} → NamesAreOld before next → (n : ℕ) (b : Born) → before n ≡ born b → (after : ℕ → AbstractSlot)
    (c : Born) → after n ≡ born c → ((fd : ℕ) → c.descriptors fd ≡ b.descriptors fd) → ((m : ℕ) → m ≢ n → after m ≡ before m) → NamesAreOld after next
old_but {next = next} old n b at after c there same others m fd name d is names_it = by_slot (m == n) refl
  where
    same_born : (c d : Born) → born c ≡ born d → c ≡ d
    same_born c d same = cc

    by_slot : (t : Bool) → (m == n) ≡ t → name < next
    by_slot true test =
        let here : m ≡ n = grind (arith, nat_tests) in
        let it : d ≡ c = same_born d c (sym is ∙ ap after here ∙ there) in
        old n fd name b at (sym (same fd) ∙ ap (λ (x : Born). x.descriptors fd) (sym it) ∙ names_it)
    by_slot false test = let apart : m ≢ n = grind (arith, nat_tests) in old m fd name d (sym (others m apart) ∙ is) names_it

-- or is none that is born
pub old_gone : {slots : ℕ → AbstractSlot} {next : ℕ} → NamesAreOld slots next → (n : ℕ) (x : AbstractSlot) → ((c : Born) → x ≢ born c) →
    NamesAreOld (upd slots n x) next
old_gone {slots = slots} {next = next} old n x none m fd name b =
    upd-all (λ m (y : AbstractSlot). y ≡ born b → b.descriptors fd ≡ Some name → name < next) slots n x
    (λ is names_it. absurd (none b is)) (λ m ne is names_it. old m fd name b is names_it) m

-- ---- one slot is another

-- the environment in a slot is another, in the same space, and children are borne
pub slot_becomes : {names : Names} {s : KernelState} {a : AbstractState} → StandsFor names s a → (n : ℕ) (b : Born) →
    a.slots n ≡ born b → (k : Slot) (after : Born) → k.directory ≡ (slot_at s n).directory → Settles (slot_at s n) k →
    CountsAlike (place_of (slot_at s n)) (place_of k) → HasChildren names s.spaces (upd s.environments.slots n k) (upd a.slots n (born after)) →
    StandsForBorn names s.spaces k after → PlacesAlike (place_of (slot_at s n)) (place_of k) →
    ((fd : ℕ) → after.descriptors fd ≡ b.descriptors fd) → StandsFor names (with_slot_at s n k) (with_born a n after)
slot_becomes {names = names} {s = s} {a = a} h n b at k after directory settles counts children so alike descriptors =
    let rows = rows_set h n b at k (born_live so ∙ sym (born_live (born_at h n b at))) directory counts in
    record {
      slots = upd-both (λ m (x : Slot) (y : AbstractSlot). StandsForSlot names s.spaces x y) s.environments.slots a.slots n k (born after) so
          (λ m ne. h.slots m);
      apart = rows.apart;
      named = rows.named;
      users = rows.users;
      children = children;
      whole = rows.whole;
      free_slots = h.free_slots;
      beside = rows.beside;
      ends = upd-both (λ m (x : Slot) (y : AbstractSlot). EndsStandAt names a.objects (place_of x) (rows_of s.spaces x.directory) y)
          s.environments.slots a.slots n k (born after)
          (ends_moved alike descriptors (λ fd name is. refl) (λ fd below. ap (λ (d : ℕ). rows_of s.spaces d (pipe_page fd)) directory)
          (λ fd x below is. refl) (ends_at h n b at)) (λ m ne. h.ends m);
      locks = locks_set h n k alike.locked (set_counts s n k (born_live so ∙ sym (born_live (born_at h n b at))) directory counts);
      runs = turns_settle s.environments.slots n k h.runs settles;
      old = old_stays h.old n b at n after descriptors;
      first = upd-other a.slots n (born after) 0 (born_not_first h n b at) ∙ h.first;
      server = server_same (upd-other s.environments.slots n k 0 (born_not_first h n b at)) h.server;
      input = h.input;
      last = h.last;
      turns = h.turns;
      tabled = tabled_set h.tabled n k (born_live (born_at h n b at)) settles;
      in_order = slot_in_order s n k (born_live so ∙ sym (born_live (born_at h n b at))) directory h.in_order;
    }

-- it bears no child
pub slot_changed : {names : Names} {s : KernelState} {a : AbstractState} → StandsFor names s a → (n : ℕ) (b : Born) →
    a.slots n ≡ born b → (k : Slot) (after : Born) → k.directory ≡ (slot_at s n).directory → Settles (slot_at s n) k →
    is_plain (place_of (slot_at s n)) ≡ true → is_plain (place_of k) ≡ true →
    StandsForBorn names s.spaces k after → PlacesAlike (place_of (slot_at s n)) (place_of k) →
    ((fd : ℕ) → after.descriptors fd ≡ b.descriptors fd) → StandsFor names (with_slot_at s n k) (with_born a n after)
slot_changed {names = names} {s = s} {a = a} h n b at k after directory settles plain plain_after so alike descriptors =
    slot_becomes h n b at k after directory settles (plain_alike (place_of (slot_at s n)) (place_of k) plain plain_after)
    (children_kept h.children n (λ m ne. upd-other s.environments.slots n k m ne) (λ m ne. upd-other a.slots n (born after) m ne)
    (λ m ne live. same_space names s.spaces (slot_at s m).directory)
    (born_bears_none (slot_at s n) (a.slots n) b at (plain_unborne (place_of (slot_at s n)) plain))
    (born_bears_none (upd s.environments.slots n k n) (upd a.slots n (born after) n) after (upd-at a.slots n (born after))
    (ap (λ (x : Slot). borne_in (place_of x)) (upd-at s.environments.slots n k) ∙ plain_unborne (place_of k) plain_after)))
    so alike descriptors

-- only the kernel's slot is another
pub slot_replaced : {names : Names} {s : KernelState} {a : AbstractState} → StandsFor names s a → (n : ℕ) (b : Born) →
    a.slots n ≡ born b → (k : Slot) → k.directory ≡ (slot_at s n).directory → Settles (slot_at s n) k →
    CountsAlike (place_of (slot_at s n)) (place_of k) → KeepsChild (slot_at s n) k → StandsForBorn names s.spaces k b →
    PlacesAlike (place_of (slot_at s n)) (place_of k) → StandsFor names (with_slot_at s n k) a
slot_replaced {names = names} {s = s} {a = a} h n b at k directory settles counts bearing so alike =
    let rows = rows_set h n b at k (born_live so ∙ sym (born_live (born_at h n b at))) directory counts in
    record {
      slots = upd-all (λ m (x : Slot). StandsForSlot names s.spaces x (a.slots m)) s.environments.slots n k
          (subst (λ (y : AbstractSlot). StandsForSlot names s.spaces k y) (sym at) so) (λ m ne. h.slots m);
      children = children_set h n b at k bearing;
      apart = rows.apart;
      named = rows.named;
      users = rows.users;
      whole = rows.whole;
      beside = rows.beside;
      ends = upd-all (λ m (x : Slot). EndsStandAt names a.objects (place_of x) (rows_of s.spaces x.directory) (a.slots m)) s.environments.slots n k
          (subst (λ (y : AbstractSlot). EndsStandAt names a.objects (place_of k) (rows_of s.spaces k.directory) y) (sym at)
          (ends_moved alike (λ fd. refl) (λ fd name is. refl) (λ fd below. ap (λ (d : ℕ). rows_of s.spaces d (pipe_page fd)) directory)
          (λ fd x below is. refl) (ends_at h n b at))) (λ m ne. h.ends m);
      locks = locks_set h n k alike.locked (set_counts s n k (born_live so ∙ sym (born_live (born_at h n b at))) directory counts);
      runs = turns_settle s.environments.slots n k h.runs settles;
      old = h.old;
      free_slots = h.free_slots;
      first = h.first;
      server = server_same (upd-other s.environments.slots n k 0 (born_not_first h n b at)) h.server;
      input = h.input;
      last = h.last;
      turns = h.turns;
      tabled = tabled_set h.tabled n k (born_live (born_at h n b at)) settles;
      in_order = slot_in_order s n k (born_live so ∙ sym (born_live (born_at h n b at))) directory h.in_order;
    }

-- ---- the other slots

-- each live slot has a space of its own
pub directories_apart : {names : Names} {s : KernelState} {a : AbstractState} → StandsFor names s a → (n : ℕ) (b : Born) →
    a.slots n ≡ born b → (m : ℕ) → m ≢ n → is_live (a.slots m) ≡ true → (slot_at s m).directory ≢ (slot_at s n).directory
directories_apart h n b at m ne live same =
    ne (h.in_order.spaces.apart m n (live_stands h m ∙ live) (born_live (born_at h n b at)) same)

-- nothing that is seen of the server's space changes where only an environment's does
pub servers_seen : {names after : Names} {s : KernelState} {a : AbstractState} {sp : SpacesState} → StandsFor names s a →
    (n : ℕ) (b : Born) → a.slots n ≡ born b → ((d : ℕ) → d ≢ (slot_at s n).directory → SeenAlike names after s.spaces sp d) →
    SeenAlike names after s.spaces sp (slot_at s 0).directory
servers_seen {s = s} h n b at same =
    same (slot_at s 0).directory
    (directories_apart h n b at 0 (born_not_first h n b at) (ap (λ (x : AbstractSlot). is_live x) h.first))

-- where only one environment's space is seen to change, the others' slots stand for what they stood for
pub others_stand : {names after : Names} {s : KernelState} {a : AbstractState} {sp : SpacesState} → StandsFor names s a →
    (n : ℕ) (b : Born) → a.slots n ≡ born b → ((d : ℕ) → d ≢ (slot_at s n).directory → SeenAlike names after s.spaces sp d) →
    ((m : ℕ) → m ≢ n → CountsKept s.spaces sp (slot_at s m)) → (m : ℕ) → m ≢ n → StandsForSlot after sp (slot_at s m) (a.slots m)
others_stand {names = names} {after = after} {s = s} {a = a} {sp = sp} h n b at same counts m ne =
    slot_stands names after s.spaces sp (slot_at s m) (a.slots m) (h.slots m)
    (λ live. same (slot_at s m).directory (directories_apart h n b at m ne live))
    (counts m ne)

-- and the ends of their pipes stand as they stood
pub others_ends : {names after : Names} {s : KernelState} {a : AbstractState} {sp : SpacesState} → StandsFor names s a →
    (n : ℕ) (b : Born) → a.slots n ≡ born b → ((d : ℕ) → d ≢ (slot_at s n).directory → SeenAlike names after s.spaces sp d) →
    (m : ℕ) → m ≢ n → EndsStandAt after a.objects (place_of (slot_at s m)) (rows_of sp (slot_at s m).directory) (a.slots m)
others_ends {names = names} {after = after} {s = s} {a = a} {sp = sp} h n b at same m ne =
    ends_stay names after s.spaces sp a.objects (slot_at s m) (a.slots m) (h.slots m)
    (λ live. but_pipes (same (slot_at s m).directory (directories_apart h n b at m ne live))) (h.ends m)

-- nor are children that are borne by others seen to change
pub children_moved : {names after : Names} {s : KernelState} {a : AbstractState} {sp : SpacesState} → StandsFor names s a →
    (n : ℕ) (b : Born) → a.slots n ≡ born b → (slots : ℕ → Slot) (c : Born) → borne_in (place_of (slot_at s n)) ≡ None →
    borne_in (place_of (slots n)) ≡ None → ((m : ℕ) → m ≢ n → slots m ≡ slot_at s m) →
    ((d : ℕ) → d ≢ (slot_at s n).directory → SeenAlike names after s.spaces sp d) →
    HasChildren after sp slots (upd a.slots n (born c))
children_moved {s = s} {a = a} h n b at slots c none none_after same others =
    children_kept h.children n same (λ m ne. upd-other a.slots n (born c) m ne)
    (λ m ne live. others (slot_at s m).directory (directories_apart h n b at m ne live))
    (born_bears_none (slot_at s n) (a.slots n) b at none)
    (born_bears_none (slots n) (upd a.slots n (born c) n) c (upd-at a.slots n (born c)) none_after)

-- ---- the server's slot

servers_slot : {names : Names} {s : KernelState} {a : AbstractState} → StandsFor names s a → StandsForServer (slot_at s 0) FIRST_ENV_ID
servers_slot {names = names} {s = s} h = subst (λ (slot : AbstractSlot). StandsForSlot names s.spaces (slot_at s 0) slot) h.first (h.slots 0)

serving_bears_none : (k : Slot) (slot : AbstractSlot) (id : ℕ) → slot ≡ serving id → BearsNone k slot
serving_bears_none k slot id is = record {
  bears = λ b at. let contradiction : serving id ≡ born b = sym is ∙ at in absurd cc;
  no_child = λ child parent at. let contradiction : serving id ≡ unborn child parent = sym is ∙ at in absurd cc;
}

-- It is another, in the same space.
pub server_set : {names : Names} {s : KernelState} {a : AbstractState} → StandsFor names s a → (k : Slot) (server : Server) →
    k.directory ≡ (slot_at s 0).directory → Settles (slot_at s 0) k → StandsForServer k FIRST_ENV_ID →
    HasServer s.spaces k a.opened a.files.blocks server → StandsFor names (with_slot_at s 0 k) (record a { server = server })
server_set {names = names} {s = s} {a = a} h k server directory settles so has =
    let rows = rows_turned (ap (λ (x : Slot). rows_of s.spaces x.directory) (upd-at s.environments.slots 0 k) ∙ ap (λ (d : ℕ). rows_of s.spaces d) directory)
    (rows_same (logical s.spaces s.environments.slots) (logical s.spaces (upd s.environments.slots 0 k)) counts (rows_stand h)) in
    record {
      slots = upd-all (λ m (x : Slot). StandsForSlot names s.spaces x (a.slots m)) s.environments.slots 0 k
          (subst (λ (y : AbstractSlot). StandsForSlot names s.spaces k y) (sym h.first) so) (λ m ne. h.slots m);
      children = children_kept h.children 0 (λ m ne. upd-other s.environments.slots 0 k m ne) (λ m ne. refl)
          (λ m ne live. same_space names s.spaces (slot_at s m).directory)
          (serving_bears_none (slot_at s 0) (a.slots 0) FIRST_ENV_ID h.first)
          (serving_bears_none (upd s.environments.slots 0 k 0) (a.slots 0) FIRST_ENV_ID h.first);
      apart = rows.apart;
      named = rows.named;
      users = rows.users;
      whole = rows.whole;
      beside = rows.beside;
      ends = upd-all (λ m (x : Slot). EndsStandAt names a.objects (place_of x) (rows_of s.spaces x.directory) (a.slots m)) s.environments.slots 0 k
          (subst (λ (y : AbstractSlot). EndsStandAt names a.objects (place_of k) (rows_of s.spaces k.directory) y) (sym h.first) tt)
          (λ m ne. h.ends m);
      locks = locks_kept (record {
        back = held_back;
        forth = held_forth;
        were = λ m fd x below stands shared_page. record {
          slot = m;
          fd = fd;
          below = below;
          entry = x;
          stands = sym (counts m (pipe_page fd)) ∙ stands;
          shared = shared_page;
          same = refl;
        };
        bytes = λ m fd x below stands shared_page. refl;
      }) h.locks;
      runs = turns_settle s.environments.slots 0 k h.runs settles;
      old = h.old;
      free_slots = h.free_slots;
      first = h.first;
      server = server_same (upd-at s.environments.slots 0 k) has;
      input = h.input;
      last = h.last;
      turns = h.turns;
      tabled = tabled_set h.tabled 0 k (servers_slot h).lives settles;
      in_order = slot_in_order s 0 k (so.lives ∙ sym (servers_slot h).lives) directory h.in_order;
    }
  where
    counts : (m p : ℕ) → logical s.spaces (upd s.environments.slots 0 k) m p ≡ logical s.spaces s.environments.slots m p
    counts =
        upd-all (λ m (x : Slot). (p : ℕ) → logical_by (is_clients m x) (counted (place_of x) (rows_of s.spaces x.directory)) p ≡ logical s.spaces s.environments.slots m p)
        s.environments.slots 0 k (λ p. refl) (λ m ne p. refl)

    -- its pages do not count, so that it holds no lock
    held_back : (m fd : ℕ) (x : Entry) → fd < DESCRIPTORS → locked_at (place_of (upd s.environments.slots 0 k m)) ≡ Some fd →
        logical s.spaces (upd s.environments.slots 0 k) m (pipe_page fd) ≡ Some x →
        (locked_at (place_of (slot_at s m)) ≡ Some fd) × (logical s.spaces s.environments.slots m (pipe_page fd) ≡ Some x)
    held_back m fd x below locked stands = (
      upd-all (λ m (y : Slot). locked_at (place_of y) ≡ Some fd → logical s.spaces s.environments.slots m (pipe_page fd) ≡ Some x →
          locked_at (place_of (slot_at s m)) ≡ Some fd) s.environments.slots 0 k (λ locked stands. absurd (none-some x stands)) (λ m ne locked stands. locked)
          m locked (sym (counts m (pipe_page fd)) ∙ stands),
      sym (counts m (pipe_page fd)) ∙ stands,
    )

    held_forth : (m fd : ℕ) (x : Entry) → fd < DESCRIPTORS → locked_at (place_of (slot_at s m)) ≡ Some fd →
        logical s.spaces s.environments.slots m (pipe_page fd) ≡ Some x →
        (locked_at (place_of (upd s.environments.slots 0 k m)) ≡ Some fd) × (logical s.spaces (upd s.environments.slots 0 k) m (pipe_page fd) ≡ Some x)
    held_forth m fd x below locked stands = (
      upd-all (λ m (y : Slot). locked_at (place_of (slot_at s m)) ≡ Some fd → logical s.spaces s.environments.slots m (pipe_page fd) ≡ Some x →
          locked_at (place_of y) ≡ Some fd) s.environments.slots 0 k (λ locked stands. absurd (none-some x stands)) (λ m ne locked stands. locked)
          m locked stands,
      counts m (pipe_page fd) ∙ stands,
    )

-- ---- what is printed, and turns

pub printed_stands : {names : Names} {s : KernelState} {a : AbstractState} → StandsFor names s a → (bytes : List ℕ) →
    StandsFor names s (with_printed a bytes)
printed_stands h bytes = record {
  slots = h.slots;
  children = h.children;
  apart = h.apart;
  named = h.named;
  users = h.users;
  whole = h.whole;
  beside = h.beside;
  ends = h.ends;
  locks = h.locks;
  runs = h.runs;
  old = h.old;
  free_slots = h.free_slots;
  first = h.first;
  server = h.server;
  input = h.input;
  last = h.last;
  turns = h.turns;
  tabled = h.tabled;
  in_order = h.in_order;
}

-- an environment that does not wait may be RUNNABLE or RUNNING
awake_runs : (blocked : Bool) → blocked ≡ false → IsStatusFor Runnable blocked × IsStatusFor Running blocked
awake_runs blocked awake = subst (λ c. IsStatusFor Runnable c × IsStatusFor Running c) (sym awake) (tt, tt)

runnable_settles : (k : Slot) → Settles k (record k { status = Runnable })
runnable_settles k = stopped_settles k (record k { status = Runnable }) refl refl refl refl

pub status_stands : {names : Names} {s : KernelState} {a : AbstractState} → StandsFor names s a → (n : ℕ) (b : Born) →
    a.slots n ≡ born b → b.blocked ≡ false → StandsFor names (with_status s n Runnable) a
status_stands {s = s} h n b at awake =
    slot_replaced h n b at (record (slot_at s n) { status = Runnable }) refl (runnable_settles (slot_at s n)) (λ row p. refl)
    (status_alike (slot_at s n) Runnable (slot_at s n).runs)
    (status_born (slot_at s n) b Runnable (slot_at s n).runs (awake_runs b.blocked awake).0 (omega arith)
    (λ is again. let contradiction : false ≡ true = is in cc) (born_at h n b at)) (same_places refl)

pub turn_begun_stands : {names : Names} {s : KernelState} {a : AbstractState} → StandsFor names s a → (n : ℕ) (b : Born) →
    a.slots n ≡ born b → b.blocked ≡ false → ((m : ℕ) → is_running (slot_at s m).status ≡ false) →
    s.turns + 1 < 2 ^ 32 → StandsFor names (turn_begun s n) (record a { last = Some n; turns = a.turns + 1 })
turn_begun_stands {names = names} {s = s} {a = a} h n b at awake none few =
    let few_own = h.runs n in
    let one_more : ((slot_at s n).runs + 1) % 2 ^ 32 ≡ (slot_at s n).runs + 1 = grind (arith, few, few_own) in
    let runs = ((slot_at s n).runs + 1) % 2 ^ 32 in
    let k : Slot = record (slot_at s n) { status = Running; runs = runs } in
    let own = status_born (slot_at s n) b Running runs (awake_runs b.blocked awake).1 (omega (arith, one_more))
    (λ is again. absurd (omega (arith, one_more, again))) (born_at h n b at) in
    let rows = rows_set h n b at k (born_live own ∙ sym (born_live (born_at h n b at))) refl (λ row p. refl) in
    record {
      slots = upd-all (λ m (x : Slot). StandsForSlot names s.spaces x (a.slots m)) s.environments.slots n k
          (subst (λ (y : AbstractSlot). StandsForSlot names s.spaces k y) (sym at) own) (λ m ne. h.slots m);
      children = children_set h n b at k (status_alike (slot_at s n) Running runs);
      apart = rows.apart;
      named = rows.named;
      users = rows.users;
      whole = rows.whole;
      beside = rows.beside;
      ends = upd-all (λ m (x : Slot). EndsStandAt names a.objects (place_of x) (rows_of s.spaces x.directory) (a.slots m)) s.environments.slots n k
          (h.ends n) (λ m ne. h.ends m);
      locks = locks_set h n k refl (set_counts s n k (born_live own ∙ sym (born_live (born_at h n b at))) refl (λ row p. refl));
      runs = turns_set s.environments.slots n k (λ m. let was = h.runs m in omega (arith, was)) (omega (arith, one_more, few_own));
      old = h.old;
      free_slots = h.free_slots;
      first = h.first;
      server = server_same (upd-other s.environments.slots n k 0 (born_not_first h n b at)) h.server;
      input = h.input;
      last = refl;
      turns = ap (λ (t : ℕ). t + 1) h.turns;
      tabled = record {
        ids = λ m. (at_turn m).0;
        servers = λ m. (at_turn m).1;
        running = λ m. (at_turn m).2;
      };
      in_order = let order = slot_in_order s n k (born_live own ∙ sym (born_live (born_at h n b at))) refl h.in_order in
          record { frames = order.frames; spaces = order.spaces };
    }
  where
    at_turn : (m : ℕ) →
        (is_live_slot (upd s.environments.slots n (record (slot_at s n) { status = Running; runs = ((slot_at s n).runs + 1) % 2 ^ 32 }) m) ≡ true →
        (upd s.environments.slots n (record (slot_at s n) { status = Running; runs = ((slot_at s n).runs + 1) % 2 ^ 32 }) m).id % NENV ≡ m)
        × (m ≢ 0 → (upd s.environments.slots n (record (slot_at s n) { status = Running; runs = ((slot_at s n).runs + 1) % 2 ^ 32 }) m).env_type ≡ User)
        × (is_running (upd s.environments.slots n (record (slot_at s n) { status = Running; runs = ((slot_at s n).runs + 1) % 2 ^ 32 }) m).status ≡ true → Some n ≡ Some m)
    at_turn =
        upd-all (λ m (x : Slot). (is_live_slot x ≡ true → x.id % NENV ≡ m) × (m ≢ 0 → x.env_type ≡ User) × (is_running x.status ≡ true → Some n ≡ Some m))
        s.environments.slots n (record (slot_at s n) { status = Running; runs = ((slot_at s n).runs + 1) % 2 ^ 32 })
        ((λ is. h.tabled.ids n (born_live (born_at h n b at))), (λ other. h.tabled.servers n other), (λ is. refl))
        (λ m ne. (h.tabled.ids m, h.tabled.servers m, (λ is. absurd (let contradiction : false ≡ true = sym (none m) ∙ is in cc))))

running_awake : (status : Status) (blocked : Bool) → IsStatusFor status blocked → is_running status ≡ true → IsStatusFor Runnable blocked
running_awake Running false h is = tt
running_awake Runnable false h is = tt
running_awake NotRunnable true h is = absurd (let contradiction : false ≡ true = is in cc)
running_awake _ _ h is = absurd h

-- the server's turn ends
server_ended : {names : Names} {s : KernelState} {a : AbstractState} → StandsFor names s a → (n id : ℕ) → a.slots n ≡ serving id →
    is_running (slot_at s n).status ≡ true → StandsFor names (with_status s n Runnable) a
server_ended {names = names} {s = s} {a = a} h n id at running = subst (λ (m : ℕ). StandsFor names (with_status s m Runnable) a) first ended
  where
    so : StandsForServer (slot_at s n) id
    so = subst (λ (slot : AbstractSlot). StandsForSlot names s.spaces (slot_at s n) slot) at (h.slots n)

    first : 0 ≡ n
    first = sym (ap (λ (i : ℕ). i % NENV) (so.id_is ∙ so.first)) ∙ h.tabled.ids n so.lives

    k : Slot
    k = record (slot_at s 0) { status = Runnable }

    runs : is_running (slot_at s 0).status ≡ true
    runs = ap (λ (m : ℕ). is_running (slot_at s m).status) first ∙ running

    ready : (server : Server) → IsServerStatus server (slot_at s 0) → IsServerStatus server k
    ready idle is = absurd (let contradiction : false ≡ true = sym (ap is_running is.status) ∙ runs in cc)
    ready leaving is = (tt, is.1)
    ready (looking client request number) is = (tt, is.1)
    ready (busy client request place) is = (tt, is.1)
    ready (acted client answer bytes object) is = (tt, is.1)

    stopped : StandsForServer k FIRST_ENV_ID
    stopped = let so = servers_slot h in record {
      first = so.first;
      id_is = so.id_is;
      lives = refl;
      parent = so.parent;
      env_type = so.env_type;
      words = so.words;
      stack = so.stack;
    }

    ended : StandsFor names (with_status s 0 Runnable) a
    ended =
        server_set h k a.server refl (stopped_settles (slot_at s 0) k refl refl refl refl) stopped
        (record { status = ready a.server h.server.status; pages = h.server.pages; tables = h.server.tables; alone = h.server.alone })

pub turn_ended_stands : {names : Names} {s : KernelState} {a : AbstractState} → StandsFor names s a → (n : ℕ) →
    StandsFor names (turn_ended s n) a
turn_ended_stands {names = names} {s = s} {a = a} h n = by_running (is_running (slot_at s n).status) refl
  where
    by_slot : is_running (slot_at s n).status ≡ true → (slot : AbstractSlot) → a.slots n ≡ slot →
        StandsForSlot names s.spaces (slot_at s n) slot → StandsFor names (with_status s n Runnable) a
    by_slot running (free id) at so =
        absurd (let contradiction : true ≡ false = sym running ∙ ap (λ (x : Slot). is_running x.status) so in cc)
    by_slot running (unborn id parent) at so =
        absurd (let contradiction : true ≡ false = sym running ∙ ap (λ (x : Status). is_running x) so.status in cc)
    by_slot running (born b) at so =
        slot_replaced h n b at (record (slot_at s n) { status = Runnable }) refl (runnable_settles (slot_at s n)) (λ row p. refl)
        (status_alike (slot_at s n) Runnable (slot_at s n).runs)
        (status_born (slot_at s n) b Runnable (slot_at s n).runs (running_awake (slot_at s n).status b.blocked so.runs running) (omega arith)
        (λ is again. let contradiction : false ≡ true = is in cc) so) (same_places refl)
    by_slot running (serving id) at so = server_ended h n id at running

    by_running : (c : Bool) → is_running (slot_at s n).status ≡ c → StandsFor names (if c then with_status s n Runnable else s) a
    by_running true is = by_slot is (a.slots n) refl (h.slots n)
    by_running false is = h

-- ---- address spaces of which nothing that is seen changes

-- an entry without the bits of accesses names the same frame
pub lasting_named : (f : ℕ) (o : Option Entry) → named f o ≡ named f (option_map lasting o)
lasting_named f None = refl
lasting_named f (Some e) = refl

-- what stands is a page, which counts only where it is mapped
pub page_own : {s : SpacesState} → HasOneUse s → (d p : ℕ) (x : Entry) → rows_of s d p ≡ Some x → own_count (s.uses x.frame) ≡ 0
unfolding rows_of
page_own {s = s} one d p x is = by_entry (s.entries d p) refl is
  where
    by_entry : (o : Option Entry) → s.entries d p ≡ o → option_map lasting o ≡ Some x → own_count (s.uses x.frame) ≡ 0
    by_entry None none so = absurd (none-some x so)
    by_entry (Some e) stands so =
        ap (λ (f : ℕ). own_count (s.uses f)) (sym (ap (λ (y : Entry). y.frame) (same_Some (lasting e) x so)))
        ∙ ap own_count (one.pages d p e stands)

pub quiet_alike : {s t : SpacesState} (names : Names) → Quiet s t → (d : ℕ) → SeenAlike names names s t d
quiet_alike names quiet d = record {
  rows = ap (λ (r : Rows). r d) quiet.rows;
  bytes = λ p x at own_page. ap (λ (pages : ℕ → List ℕ). pages x.frame) quiet.pages;
  named_so = λ p x at shared_page. refl;
  devices = λ p x descriptor at shared_page. ap (λ (pages : ℕ → List ℕ). lasting_words (pages x.frame)) quiet.pages;
  pipes = λ p x pipes at shared_page. ap (λ (pages : ℕ → List ℕ). pages x.frame) quiet.pages;
  regions = quiet.regions d;
}

-- each page of an environment is mapped as often where entries are the same
pub rows_counts : {s t : SpacesState} → HasOneUse s → HasOneUse t → rows_of t ≡ rows_of s → (k : Slot) → CountsKept s t k
unfolding rows_of
rows_counts {s = s} {t = t} one one_after rows k piped runs = all_counts (view_of s k.directory) (view_of t k.directory) each
  where
    entry_same : (f d q : ℕ) → named f (t.entries d q) ≡ named f (s.entries d q)
    entry_same f d q = lasting_named f (t.entries d q) ∙ ap (λ (r : Rows). named f (r d q)) rows ∙ sym (lasting_named f (s.entries d q))

    mapped : (f : ℕ) → page_count t.entries f ≡ page_count s.entries f
    mapped f = page_count-same t.entries s.entries f (entry_same f)

    own : (p : ℕ) (x : Entry) → rows_of s k.directory p ≡ Some x → own_count (t.uses x.frame) ≡ own_count (s.uses x.frame)
    own p x is = page_own one_after k.directory p x (ap (λ (r : Rows). r k.directory p) rows ∙ is) ∙ sym (page_own one k.directory p x is)

    each : (p : ℕ) (x : Entry) → rows_of s k.directory p ≡ Some x → reference_count t x.frame ≡ reference_count s x.frame
    each p x is = λ i. mapped x.frame i + own p x is i

-- so it is where nothing that is seen differs
pub quiet_counts : {s t : SpacesState} → HasOneUse s → HasOneUse t → Quiet s t → (k : Slot) → CountsKept s t k
quiet_counts one one_after quiet k = rows_counts one one_after quiet.rows k

pub quiet_stands : {names : Names} {s : KernelState} {a : AbstractState} {sp : SpacesState} → StandsFor names s a →
    Quiet s.spaces sp → IsInOrder (with_spaces s sp) → StandsFor names (with_spaces s sp) a
quiet_stands {names = names} {s = s} {a = a} {sp = sp} h quiet in_order =
    let rows = rows_turned (ap (λ (r : Rows). r (slot_at s 0).directory) quiet.rows)
    (rows_bytes sp.pages (λ n p x is. ap (λ (pages : ℕ → List ℕ). pages x.frame) quiet.pages)
    (rows_same (logical s.spaces s.environments.slots) (logical sp s.environments.slots)
    (λ n p. logical_alike s.spaces sp s.environments.slots s.environments.slots n refl refl
    (λ live. ap (λ (r : Rows). r (slot_at s n).directory) quiet.rows) p) (rows_stand h))) in
    record {
      slots = λ m. slot_stands names names s.spaces sp (slot_at s m) (a.slots m) (h.slots m)
          (λ live. quiet_alike names quiet (slot_at s m).directory) (quiet_counts h.in_order.frames in_order.frames quiet (slot_at s m));
      children = children_still h.children (λ m. refl) (λ m. same_child (slot_at s m) (slot_at s m) refl) (λ m. refl)
          (λ m live. quiet_alike names quiet (slot_at s m).directory);
      apart = rows.apart;
      named = rows.named;
      users = rows.users;
      whole = rows.whole;
      beside = rows.beside;
      ends = λ m. ends_stay names names s.spaces sp a.objects (slot_at s m) (a.slots m) (h.slots m)
          (λ live. but_pipes (quiet_alike names quiet (slot_at s m).directory)) (h.ends m);
      locks = locks_same (λ m. refl) (λ m p is. logical_alike s.spaces sp s.environments.slots s.environments.slots m refl refl
          (λ live. ap (λ (r : Rows). r (slot_at s m).directory) quiet.rows) p)
          (λ m p x is stands shared_page. ap (λ (pages : ℕ → List ℕ). pages x.frame) quiet.pages) h.locks;
      runs = h.runs;
      old = h.old;
      free_slots = h.free_slots;
      first = h.first;
      server = server_alike (quiet_alike names quiet (slot_at s 0).directory) h.server;
      input = h.input;
      last = h.last;
      turns = h.turns;
      tabled = h.tabled;
      in_order = in_order;
    }

-- ---- one environment's space, and its slot

-- The spaces are others, of which only one environment's is seen to change, and its slot with it.
pub own_moves : {names after : Names} {s : KernelState} {a : AbstractState} → StandsFor names s a → (n : ℕ) (b : Born) →
    a.slots n ≡ born b → (sp : SpacesState) (k : Slot) (c : Born) (shared : ℕ → List ℕ) (next : ℕ) →
    k.directory ≡ (slot_at s n).directory → Settles (slot_at s n) k → borne_in (place_of (slot_at s n)) ≡ None → borne_in (place_of k) ≡ None →
    ((d : ℕ) → d ≢ (slot_at s n).directory → SeenAlike names after s.spaces sp d) → StandsForBorn after sp k c →
    RowsStand after sp.pages shared (things_in s a) next (logical sp (upd s.environments.slots n k)) →
    IsInOrder (with_slot_at (with_spaces s sp) n k) → ((m : ℕ) → m ≢ n → CountsKept s.spaces sp (slot_at s m)) →
    EndsStand after a.objects (place_of k) (rows_of sp k.directory) c →
    LocksStand sp.pages (upd s.environments.slots n k) (logical sp (upd s.environments.slots n k)) → a.next_name ≤ next →
    ((fd name : ℕ) → c.descriptors fd ≡ Some name → name < next) →
    StandsFor after (with_slot_at (with_spaces s sp) n k) (with_born (record a { shared = shared; next_name = next }) n c)
own_moves {names = names} {after = after} {s = s} {a = a} h n b at sp k c shared next directory settles none none_after others mine rows in_order counts
    ends locks more olds = record {
      slots = upd-both (λ m (x : Slot) (y : AbstractSlot). StandsForSlot after sp x y) s.environments.slots a.slots n k (born c) mine
          (others_stand h n b at others counts);
      ends = upd-both (λ m (x : Slot) (y : AbstractSlot). EndsStandAt after a.objects (place_of x) (rows_of sp x.directory) y)
          s.environments.slots a.slots n k (born c) ends (others_ends h n b at others);
      locks = locks;
      runs = turns_settle s.environments.slots n k h.runs settles;
      old = old_set (old_later h.old more) n c olds;
      children = children_moved h n b at (upd s.environments.slots n k) c none
          (ap (λ (x : Slot). borne_in (place_of x)) (upd-at s.environments.slots n k) ∙ none_after)
          (λ m ne. upd-other s.environments.slots n k m ne) others;
      apart = rows.apart;
      named = (turned rows).named;
      users = rows.users;
      whole = rows.whole;
      beside = (turned rows).beside;
      free_slots = h.free_slots;
      first = upd-other a.slots n (born c) 0 (born_not_first h n b at) ∙ h.first;
      server = server_same (upd-other s.environments.slots n k 0 (born_not_first h n b at)) (server_alike (servers_seen h n b at others) h.server);
      input = h.input;
      last = h.last;
      turns = h.turns;
      tabled = tabled_set h.tabled n k (born_live (born_at h n b at)) settles;
      in_order = in_order;
    }
  where
    turned : RowsStand after sp.pages shared (things_in s a) next (logical sp (upd s.environments.slots n k)) →
        RowsStand after sp.pages shared (record (things_in s a) { row = server_row sp (upd s.environments.slots n k) }) next
        (logical sp (upd s.environments.slots n k))
    turned =
        rows_turned (row_other sp s.environments.slots n k (born_not_first h n b at) ∙ (servers_seen h n b at others).rows)

-- the same where its slot is what it was
pub space_moves : {names after : Names} {s : KernelState} {a : AbstractState} → StandsFor names s a → (n : ℕ) (b : Born) →
    a.slots n ≡ born b → (sp : SpacesState) (c : Born) (shared : ℕ → List ℕ) (next : ℕ) → borne_in (place_of (slot_at s n)) ≡ None →
    ((d : ℕ) → d ≢ (slot_at s n).directory → SeenAlike names after s.spaces sp d) → StandsForBorn after sp (slot_at s n) c →
    RowsStand after sp.pages shared (things_in s a) next (logical sp s.environments.slots) → IsInOrder (with_spaces s sp) →
    ((m : ℕ) → m ≢ n → CountsKept s.spaces sp (slot_at s m)) →
    EndsStand after a.objects (place_of (slot_at s n)) (rows_of sp (slot_at s n).directory) c →
    LocksStand sp.pages s.environments.slots (logical sp s.environments.slots) → a.next_name ≤ next →
    ((fd name : ℕ) → c.descriptors fd ≡ Some name → name < next) →
    StandsFor after (with_spaces s sp) (with_born (record a { shared = shared; next_name = next }) n c)
space_moves {names = names} {after = after} {s = s} {a = a} h n b at sp c shared next none others mine rows in_order counts
    ends locks more olds = record {
      slots = upd-all (λ m (y : AbstractSlot). StandsForSlot after sp (slot_at s m) y) a.slots n (born c) mine (others_stand h n b at others counts);
      ends = upd-all (λ m (y : AbstractSlot). EndsStandAt after a.objects (place_of (slot_at s m)) (rows_of sp (slot_at s m).directory) y) a.slots n (born c) ends
          (others_ends h n b at others);
      locks = locks;
      runs = h.runs;
      old = old_set (old_later h.old more) n c olds;
      children = children_moved h n b at s.environments.slots c none none (λ m ne. refl) others;
      apart = rows.apart;
      named = (turned rows).named;
      users = rows.users;
      whole = rows.whole;
      beside = (turned rows).beside;
      free_slots = h.free_slots;
      first = upd-other a.slots n (born c) 0 (born_not_first h n b at) ∙ h.first;
      server = server_alike (servers_seen h n b at others) h.server;
      input = h.input;
      last = h.last;
      turns = h.turns;
      tabled = h.tabled;
      in_order = in_order;
    }
  where
    turned : RowsStand after sp.pages shared (things_in s a) next (logical sp s.environments.slots) →
        RowsStand after sp.pages shared (record (things_in s a) { row = server_row sp s.environments.slots }) next (logical sp s.environments.slots)
    turned = rows_turned ((servers_seen h n b at others).rows)

-- Entries of other slots count as they did, where only one environment's space is seen to change.
pub others_count : {names after : Names} {s : KernelState} {a : AbstractState} {sp : SpacesState} → StandsFor names s a →
    (n : ℕ) (b : Born) → a.slots n ≡ born b → (k : Slot) → ((d : ℕ) → d ≢ (slot_at s n).directory → SeenAlike names after s.spaces sp d) →
    (m : ℕ) → m ≢ n → (p : ℕ) →
    logical sp (upd s.environments.slots n k) m p ≡ logical s.spaces s.environments.slots m p
others_count {s = s} {a = a} {sp = sp} h n b at k same m ne p =
    let slot : upd s.environments.slots n k m ≡ slot_at s m = upd-other s.environments.slots n k m ne in
    logical_alike s.spaces sp s.environments.slots (upd s.environments.slots n k) m (ap (λ (x : Slot). is_live_slot x) slot)
    (ap (λ (x : Slot). place_of x) slot)
    (λ live. (ap (λ (x : Slot). rows_of sp x.directory) slot)
    ∙ (same (slot_at s m).directory (directories_apart h n b at m ne (sym (live_stands h m) ∙ live))).rows) p
