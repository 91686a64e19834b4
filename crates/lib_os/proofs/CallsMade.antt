-- A call behind which words are set once more, and the pages of the file server.
use Rattle.std.proofs.Common.{◌≡◌, ◌∙◌, ◌<◌, ◌≤◌, ◌+◌, ◌-◌, ◌%◌, ◌==◌, ◌||◌, ◌&&◌, ◌⊎◌, inl, inr, ℕ, Bool, true, false, nat_lt, nat_le, List, length}
use Rattle.std.proofs.Common.{Option, refl, sym, ap, subst, arith}
use Rattle.std.proofs.lemmas.Bool.Decides.{nat_tests}
use Rattle.std.specs.Prelude.{get_or}
use Rattle.jos_host.specs.Files.{Files}
use Rattle.jos_host.specs.Frames.{Around, from_to}
use Rattle.jos_base.specs.declared.numbers.TheConstants.{FDTABLE, PGSIZE}
use Rattle.jos_base.specs.Environments.{Slot}
use Rattle.jos_base.specs.KernelState.{KernelState, slot_at, with_extra, with_registers}
use Rattle.jos_base.specs.Words.{page_number}
use Rattle.lib_os.specs.declared.numbers.TheConstants.{CACHE_BLOCKS, DISKMAP, MAXOPEN, OPEN_RECORDS, REQUEST}
use Rattle.lib_os.specs.BlockCache.{block_address}
use Rattle.lib_os.specs.Disk.{DiskFile}
use Rattle.lib_os.specs.MadeCalls.{MakesServersCall, SetsWords, is_page_from, is_server_page, place_address}
use Rattle.lib_os.specs.UserCalls.{Output}
use Rattle.lib_os.proofs.Slots.{registers_and_words_put, slot_put}
use Rattle.lib_os.proofs.SlotsSet.{both_set}

-- ---- what is set

-- words that are set alone
pub sets_extra : (s after : KernelState) (n : ℕ) (words : List ℕ) → after ≡ with_extra s n words → (length (slot_at s n).extra ≡ 12 → length words ≡ 12) →
    (length (slot_at s n).extra ≡ 12 → get_or words 0 0 ≡ get_or (slot_at s n).extra 0 0) → SetsWords s after n
sets_extra s after n words is long first = record {
  registers = (slot_at s n).registers;
  words = words;
  set = is ∙ sym (both_set s n (slot_at s n).registers words);
  esp = refl;
  eflags = refl;
  long = long;
  first = λ twelve. inl (first twelve);
}

module _ (s k after : KernelState) (n : ℕ) (a : SetsWords s k n) (b : SetsWords k after n) where
  abbrev one : Slot
  one = record (slot_at s n) { registers = a.registers; extra = a.words }

  there : slot_at k n ≡ one
  there = ap (λ (x : KernelState). slot_at x n) (a.set ∙ both_set s n a.registers a.words) ∙ slot_put s n one

  twelve_there : length (slot_at s n).extra ≡ 12 → length (slot_at k n).extra ≡ 12
  twelve_there twelve = ap (λ (x : Slot). length x.extra) there ∙ a.long twelve

  first_of : (get_or a.words 0 0 ≡ get_or (slot_at s n).extra 0 0) ⊎ (get_or a.words 0 0 ≡ 0) →
      (get_or b.words 0 0 ≡ get_or (slot_at k n).extra 0 0) ⊎ (get_or b.words 0 0 ≡ 0) →
      (get_or b.words 0 0 ≡ get_or (slot_at s n).extra 0 0) ⊎ (get_or b.words 0 0 ≡ 0)
  first_of before (inr zero) = inr zero
  first_of (inl before) (inl same) = inl (same ∙ ap (λ (x : Slot). get_or x.extra 0 0) there ∙ before)
  first_of (inr before) (inl same) = inr (same ∙ ap (λ (x : Slot). get_or x.extra 0 0) there ∙ before)

  -- what is set twice is set once
  pub sets_twice : SetsWords s after n
  sets_twice = record {
    registers = b.registers;
    words = b.words;
    set =
        b.set
        ∙ ap (λ (x : KernelState). with_extra (with_registers x n b.registers) n b.words) (a.set ∙ both_set s n a.registers a.words)
        ∙ registers_and_words_put s n one b.registers b.words
        ∙ sym (both_set s n b.registers b.words);
    esp = b.esp ∙ ap (λ (x : Slot). x.registers.esp) there ∙ a.esp;
    eflags = b.eflags ∙ ap (λ (x : Slot). x.registers.eflags) there ∙ a.eflags;
    long = λ twelve. b.long (twelve_there twelve);
    first = λ twelve. first_of (a.first twelve) (b.first (twelve_there twelve));
  }

-- A step that is one call of the server's, and then words are set.
pub then_set : (s k after : KernelState) (n : ℕ) (disk : DiskFile) (files : Around (Option Files)) (output : Output) →
    MakesServersCall (from_to s k) n disk files output → SetsWords k after n → MakesServersCall (from_to s after) n disk files output
then_set s k after n disk files output one sets = record {
  call = one.call;
  own = one.own;
  makes = record { mid = one.makes.mid; made = one.makes.made; left = inr (by one.makes.left) };
}
  where
    by : (k ≡ one.makes.mid) ⊎ SetsWords one.makes.mid k n → SetsWords one.makes.mid after n
    by (inl same) = subst (λ (x : KernelState). SetsWords x after n) same sets
    by (inr before) = sets_twice one.makes.mid k after n before sets

-- ---- the server's pages

last_of : (a b c d : Bool) → d ≡ true → (a || b || c || d) ≡ true
last_of true b c d e = refl
last_of false true c d e = refl
last_of false false true d e = refl
last_of false false false d e = e

third_of : (a b c d : Bool) → c ≡ true → (a || b || c || d) ≡ true
third_of true b c d e = refl
third_of false true c d e = refl
third_of false false true d e = refl
third_of false false false d e = absurd (let contradiction : false ≡ true = e in cc)

from_page : (first count p : ℕ) → first ≤ p → p < first + count → is_page_from first count p ≡ true
from_page first count p low high = (λ i. reach i && within i)
  where
    reach : nat_le first p ≡ true
    reach = grind (arith, nat_tests)

    within : nat_lt p (first + count) ≡ true
    within = grind (arith, nat_tests)

pub in_block : (block at : ℕ) → block < CACHE_BLOCKS → at < PGSIZE → is_server_page (page_number (block_address block + at)) ≡ true
unfolding is_server_page
in_block block at below small =
    let p : ℕ = page_number (block_address block + at) in
    last_of (p == page_number REQUEST) (p == page_number OPEN_RECORDS) (is_page_from (page_number FDTABLE) MAXOPEN p) _
    (from_page (page_number DISKMAP) CACHE_BLOCKS p (omega arith) (omega (arith, below, small)))

pub in_place : (k at : ℕ) → k < MAXOPEN → at < PGSIZE → is_server_page (page_number (place_address k + at)) ≡ true
unfolding is_server_page
in_place k at below small =
    let p : ℕ = page_number (place_address k + at) in
    third_of (p == page_number REQUEST) (p == page_number OPEN_RECORDS) _ (is_page_from (page_number DISKMAP) CACHE_BLOCKS p)
    (from_page (page_number FDTABLE) MAXOPEN p (omega arith) (omega (arith, below, small)))

pub in_request : (at : ℕ) → at < PGSIZE → is_server_page (page_number (REQUEST + at)) ≡ true
unfolding is_server_page
in_request at small =
    let page : page_number REQUEST ≡ page_number (REQUEST + at) = omega (arith, small) in
    subst (λ (p : ℕ). is_server_page p ≡ true) page refl

pub in_records : (at : ℕ) → at < PGSIZE → is_server_page (page_number (OPEN_RECORDS + at)) ≡ true
unfolding is_server_page
in_records at small =
    let page : page_number OPEN_RECORDS ≡ page_number (OPEN_RECORDS + at) = omega (arith, small) in
    subst (λ (p : ℕ). is_server_page p ≡ true) page refl

-- the word of a byte is in its page
pub of_word : (va : ℕ) → is_server_page (page_number va) ≡ true → ((va - va % 4) % 4 ≡ 0) × (is_server_page (page_number (va - va % 4)) ≡ true)
of_word va own =
    let page : page_number va ≡ page_number (va - va % 4) = omega arith in
    (omega arith, subst (λ (p : ℕ). is_server_page p ≡ true) page own)
