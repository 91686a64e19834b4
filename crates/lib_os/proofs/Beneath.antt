-- What stands beneath the handler of page faults while it copies a page, where entries change that the library has for itself, or those of
-- pages that may be written then; and what is so of a service that its fault is about to end.
use Rattle.std.proofs.Common.{◌≡◌, ◌<◌, ◌+◌, ◌*◌, ◌∙◌, ℕ, Bool, true, false, refl, sym, ap, List, [], ◌∷◌, length, arith, None}
use Rattle.std.proofs.lemmas.List.{length-drop}
use Rattle.std.specs.Prelude.{◌-◌, Some, drop, slice_index}
use Rattle.jos_base.specs.declared.numbers.TheConstants.{UTEMP}
use Rattle.jos_base.specs.Reach.{Entry}
use Rattle.jos_base.specs.Words.{page_number}
use Rattle.jos_base.specs.Environments.{Slot}
use Rattle.lib_os.specs.declared.numbers.TheConstants.{PGFAULT_UPCALL}
use Rattle.lib_os.specs.declared.place.Place.{Place}
use Rattle.lib_os.specs.declared.place.Place.TheVariants as place
use Rattle.lib_os.specs.declared.place.Step.{Step}
use Rattle.lib_os.specs.declared.place.Step.TheVariants as step
use Rattle.lib_os.specs.declared.service.Service.{Service}
use Rattle.lib_os.specs.declared.service.Service.TheVariants as service
use Rattle.lib_os.specs.AbstractState.{Born, Phase, delivering, guest, in_service}
use Rattle.lib_os.specs.Fence.{is_inside}
use Rattle.lib_os.specs.LibraryPages.{View, HasTaken, has_copy}
use Rattle.lib_os.specs.LibrarySteps.{left_at, copy_steps}
use Rattle.lib_os.specs.Places.{is_handlers, place_of}
use Rattle.lib_os.specs.Rows.{EntryRow, is_programs, is_shared}
use Rattle.lib_os.specs.StandsFor.{StandsAt, StandsBefore, borne_in, upcall_at, writes_buffer}
use Rattle.lib_os.specs.StandsInHandler.{IsDelivering, StandsBeneath, StandsDelivering, StandsPutting, at_program, in_delivery, is_refused_by, next_page}
use Rattle.lib_os.specs.StandsInHandler.{IsStoppedAt, buffer_of, reading, telling, wanted_from, writing, HasBytes, HandsAt, answer_behind}
use Rattle.lib_os.specs.StandsInHandler.{behind, by_reply, handing, hands_back, in_handing, stat_told, following}
use Rattle.lib_os.proofs.Fences.{buffer_each}
use Rattle.lib_os.proofs.Paths.{follows_inside, taking_follows}
use Rattle.lib_os.proofs.Logical.{inside_programs, is_plain}
use Rattle.lib_os.proofs.PipesStand.{is_calm}
use Rattle.lib_os.proofs.Serving.{words_of_none}

-- ---- the page of the next byte

-- the byte that is put next lies where a program may touch it
delivers_inside : (k : Slot) (b : Born) (s : Service) (at : ℕ) (bytes : List ℕ) (answer : ℕ) → IsDelivering k b s at bytes answer → is_inside at ≡ true
delivers_inside k b s at bytes answer h = let some = h.some in buffer_each at (length bytes) at h.inside (omega arith) (omega (arith, some))

pub next_programs : (s : Service) (done word : ℕ) (k : Slot) (b : Born) → StandsDelivering s done word k b → is_programs (next_page s done) ≡ true
next_programs (service.Read fd va len) done word k b h = inside_programs (va + done) (delivers_inside k b _ (va + done) _ _ h)
next_programs (service.Stat fd va) done word k b h = inside_programs (va + done) (delivers_inside k b _ (va + done) _ _ h)
next_programs _ done word k b h = absurd h

-- Pages of a program's that may be written, where they stand or as copies, may be written after.
abbrev pub KeepsWritable : EntryRow → EntryRow → Type 0
KeepsWritable row after = (p : ℕ) → is_programs p ≡ true → is_refused_by true (row p) ≡ false → is_refused_by true (after p) ≡ false

pub same_writable : (row after : EntryRow) → ((p : ℕ) → is_programs p ≡ true → after p ≡ row p) → KeepsWritable row after
same_writable row after same p inside writes = ap (is_refused_by true) (same p inside) ∙ writes

-- of one that has bytes of a file
pub bytes_inside : (v : View) (k : Slot) (b : Born) (s : Service) (done count : ℕ) → HasBytes v k b s done count → is_inside (buffer_of s + done) ≡ true
bytes_inside v k b s done count h =
    let fewer = h.fewer in buffer_each (buffer_of s) count (buffer_of s + done) h.inside (omega arith) (omega (arith, fewer))

pub bytes_programs : (v : View) (k : Slot) (b : Born) (s : Service) (done count : ℕ) → HasBytes v k b s done count →
    is_programs (next_page s done) ≡ true
bytes_programs v k b s done count h = inside_programs (buffer_of s + done) (bytes_inside v k b s done count h)

-- The page at UTEMP, if there is one, is the same after, and has the same bytes.
pub record KeepsTaken (v w : View) : Type 0 where
  pub row : w.row (page_number UTEMP) ≡ v.row (page_number UTEMP)
  pub bytes : (x : Entry) → v.row (page_number UTEMP) ≡ Some x → is_shared x.perm ≡ false → w.bytes x.frame ≡ v.bytes x.frame

pub taken_moved : (v w : View) → KeepsTaken v w → (bytes : List ℕ) (n : ℕ) → HasTaken v bytes n → HasTaken w bytes n
taken_moved v w same bytes n h = record {
  entry = h.entry;
  stands = same.row ∙ h.stands;
  own_page = h.own_page;
  same = λ i lt. ap (λ (l : List ℕ). slice_index l i) (same.bytes h.entry h.stands h.own_page) ∙ h.same i lt;
}

abbrev pub bytes_moved : (v w : View) → KeepsTaken v w → (k : Slot) (b : Born) (s : Service) (done count : ℕ) → HasBytes v k b s done count →
    HasBytes w k b s done count
bytes_moved v w same k b s done count h = record {
  hands = h.hands;
  regs = h.regs;
  program = h.program;
  eax = h.eax;
  registers = h.registers;
  bytes = h.bytes;
  hands_at = h.hands_at;
  many = h.many;
  fewer = h.fewer;
  most = h.most;
  inside = h.inside;
  small = h.small;
  kept = taken_moved v w same h.bytes count h.kept;
  silent = h.silent;
  awake = h.awake;
}

pub beneath_moved : (v w : View) (k : Slot) (b : Born) → KeepsWritable v.row w.row → KeepsTaken v w → StandsBeneath v k b → StandsBeneath w k b
beneath_moved v w k b kept taken (at_program h) = at_program h
beneath_moved v w k b kept taken (in_delivery s done word at h) =
    in_delivery s done word at (h.0, kept (next_page s done) (next_programs s done word k b h.0) h.1)
beneath_moved v w k b kept taken (in_handing s done count word at h) =
    in_handing s done count word at (record {
      has = bytes_moved v w taken k b s done count h.has;
      allowed = kept (next_page s done) (bytes_programs v k b s done count h.has) h.allowed;
      word_is = h.word_is;
    })

-- one to which bytes are handed back bears no child
pub handing_unborne : (s : Service) → hands_back s ≡ true → (at : Step) → borne_in (place.InService s at) ≡ None
handing_unborne (service.Read fd va len) hands at = refl
handing_unborne (service.Stat fd va) hands at = refl
handing_unborne _ hands at = absurd (let contradiction : false ≡ true = hands in cc)

pub handing_plain : (s : Service) → hands_back s ≡ true → (at : Step) → is_plain (place.InService s at) ≡ true
handing_plain (service.Read fd va len) hands at = refl
handing_plain (service.Stat fd va) hands at = refl
handing_plain _ hands at = absurd (let contradiction : false ≡ true = hands in cc)

-- ---- where it stands again

-- The registers are those with which the fault was raised, and the environment stands where it stood.
pub record StandsAgain (v : View) (k : Slot) (b : Born) : Type 0 where
  pub at : Place
  pub stands : place_of k ≡ at
  pub is_there : StandsAt at v k b
  pub plain : is_plain at ≡ true
  pub calm : is_calm at ≡ true
  pub unborne : borne_in at ≡ None
  pub upcall : upcall_at at ≡ PGFAULT_UPCALL
  pub no_copy : has_copy at ≡ false
  pub fewer : (copies : ℕ) → left_at at copies < 11 + copy_steps * copies

pub stands_again : (v : View) (k : Slot) (b : Born) → is_handlers k.registers.esp ≡ false → StandsBeneath v k b → StandsAgain v k b
stands_again v k b outside (at_program h) = record {
  at = place.Guest;
  stands = words_of_none k.registers k.extra outside h.words;
  is_there = h;
  plain = refl;
  calm = refl;
  unborne = refl;
  upcall = refl;
  no_copy = refl;
  fewer = λ copies. omega arith;
}
stands_again v k b outside (in_delivery (service.Read fd va len) done word at h) = record {
  at = place.InService (service.Read fd va len) (step.Delivering done word);
  stands = at;
  is_there = h;
  plain = refl;
  calm = refl;
  unborne = refl;
  upcall = refl;
  no_copy = refl;
  fewer = λ copies. omega arith;
}
stands_again v k b outside (in_delivery (service.Stat fd va) done word at h) = record {
  at = place.InService (service.Stat fd va) (step.Delivering done word);
  stands = at;
  is_there = h;
  plain = refl;
  calm = refl;
  unborne = refl;
  upcall = refl;
  no_copy = refl;
  fewer = λ copies. omega arith;
}
stands_again v k b outside (in_delivery _ done word at h) = absurd h.0
stands_again v k b outside (in_handing s done count word at h) = record {
  at = place.InService s (step.PuttingBytes done count word);
  stands = at;
  is_there = h;
  plain = handing_plain s h.has.hands (step.PuttingBytes done count word);
  calm = refl;
  unborne = handing_unborne s h.has.hands (step.PuttingBytes done count word);
  upcall = refl;
  no_copy = refl;
  fewer = λ copies. omega arith;
}

-- ---- a service that stands before a byte of its buffer, which its page refuses

-- It is about to end by its access at an address.
pub record IsStopping (write : Bool) (v : View) (k : Slot) (b : Born) (va : ℕ) : Type 0 where
  pub eax : ℕ
  pub program : b.program ≡ guest (record k.registers { eax = eax })
  pub silent : k.rendezvous.receiving ≡ false
  pub awake : b.blocked ≡ false
  pub inside : is_inside va ≡ true
  pub stopped : (ip : ℕ) → IsStoppedAt write v b va ip

pub stops_before : (so : Type 0) (v : View) (k : Slot) (b : Born) (s : Service) (done word : ℕ) → StandsBefore so v k b s done word →
    IsStopping (writes_buffer s) v k b (buffer_of s + done)
stops_before so v k b (service.Read fd va len) done word (h, known) = record {
  eax = k.registers.eax;
  program = h.program;
  silent = h.silent;
  awake = h.awake;
  inside = delivers_inside k b _ (va + done) _ _ h;
  stopped = λ ip. reading fd va len (word ∷ []) 1 refl h.phase h.some;
}
stops_before so v k b (service.Stat fd va) done word (h, known) = record {
  eax = k.registers.eax;
  program = h.program;
  silent = h.silent;
  awake = h.awake;
  inside = delivers_inside k b _ (va + done) _ _ h;
  stopped = λ ip. telling fd va (drop done (stat_told word)) 0 refl h.phase h.some;
}
stops_before so v k b (service.Write fd va len) done word (h, known) = record {
  eax = k.registers.eax;
  program = h.program;
  silent = h.silent;
  awake = h.awake;
  inside =
      let many = h.many in
      let fewer = h.wants.fewer in
      buffer_each va (wanted_from word len) (va + done) h.wants.given.buffer (omega arith) (omega (arith, many, fewer));
  stopped = λ ip. writing fd va len word h.bytes refl h.wants (ap (λ (n : ℕ). va + n) (sym h.many));
}
stops_before so v k b (service.Remove path) done word (h, known) = record {
  eax = k.registers.eax;
  program = h.program;
  silent = h.silent;
  awake = h.awake;
  inside = follows_inside path done (taking_follows v k b (service.Remove path) done h);
  stopped = λ ip. following (service.Remove path) h.bytes refl h.wants (ap (λ (n : ℕ). path + n) (sym h.many));
}
stops_before so v k b (service.OpenFile path mode) done word (h, known) = record {
  eax = k.registers.eax;
  program = h.program;
  silent = h.silent;
  awake = h.awake;
  inside = follows_inside path done (taking_follows v k b (service.OpenFile path mode) done h);
  stopped = λ ip. following (service.OpenFile path mode) h.bytes refl h.wants (ap (λ (n : ℕ). path + n) (sym h.many));
}
stops_before so v k b (service.Spawn path argv) done word (h, known) = record {
  eax = k.registers.eax;
  program = h.program;
  silent = h.silent;
  awake = h.awake;
  inside = follows_inside path done (taking_follows v k b (service.Spawn path argv) done h);
  stopped = λ ip. following (service.Spawn path argv) h.bytes refl h.wants (ap (λ (n : ℕ). path + n) (sym h.many));
}
stops_before so v k b _ done word h = absurd h

-- and so is one that has bytes of a file
pub stops_handing : (v : View) (k : Slot) (b : Born) (s : Service) (done count : ℕ) → HasBytes v k b s done count →
    IsStopping true v k b (buffer_of s + done)
stops_handing v k b s done count h = record {
  eax = h.regs.eax;
  program = h.program ∙ sym (λ i. guest (record (h.registers i) { eax = h.regs.eax }));
  silent = h.silent;
  awake = h.awake;
  inside = bytes_inside v k b s done count h;
  stopped = λ ip. by_done done b.phase refl h.fewer h.hands_at ip;
}
  where
    by_done : (done : ℕ) (q : Phase) → b.phase ≡ q → done < count → HandsAt s h.bytes (answer_behind s count) done q → (ip : ℕ) →
        IsStoppedAt true v b (buffer_of s + done) ip
    by_done _ _ phase some by_reply ip =
        let many = h.many in
        handing s h.bytes (answer_behind s count) refl h.hands phase (omega (arith, some, many)) (omega arith)
    by_done _ _ phase some (behind done) ip = by_service s h.hands phase
      where
        left : 0 < length (drop done h.bytes)
        left =
            let many = h.many in
            let rest : length (drop done h.bytes) ≡ length h.bytes - done = length-drop done h.bytes in omega (arith, some, many, rest)

        by_service : (t : Service) → hands_back t ≡ true →
            b.phase ≡ in_service t (delivering (buffer_of t + done) (drop done h.bytes) (answer_behind t count)) →
            IsStoppedAt true v b (buffer_of t + done) ip
        by_service (service.Read fd va len) hands phase = reading fd va len (drop done h.bytes) count refl phase left
        by_service (service.Stat fd va) hands phase = telling fd va (drop done h.bytes) 0 refl phase left
        by_service _ hands phase = absurd (let contradiction : false ≡ true = hands in cc)

-- what is known there beside
pub before_so : {so : Type 0} (v : View) (k : Slot) (b : Born) (s : Service) (done word : ℕ) → StandsBefore so v k b s done word → so
before_so v k b (service.Read fd va len) done word h = h.1
before_so v k b (service.Stat fd va) done word h = h.1
before_so v k b (service.Write fd va len) done word h = h.1
before_so v k b (service.Remove path) done word h = h.1
before_so v k b (service.OpenFile path mode) done word h = h.1
before_so v k b (service.Spawn path argv) done word h = h.1
before_so v k b _ done word h = absurd h

-- one that puts bytes bears no child, so that entries count as they stand
pub putting_plain : (row : EntryRow) (k : Slot) (b : Born) (s : Service) (done word : ℕ) (at : Step) → StandsPutting row s done word k b →
    is_plain (place.InService s at) ≡ true
putting_plain row k b (service.Read fd va len) done word at h = refl
putting_plain row k b (service.Stat fd va) done word at h = refl
putting_plain row k b _ done word at h = absurd h.0
