-- A block that is moved between the disk and a page, over lists and states alone: what is read of the file, the page byte by byte, and
-- what a call for the block has done.
use Rattle.std.proofs.Common.{◌≡◌, ◌∙◌, ◌+◌, ◌-◌, ◌*◌, ◌%◌, ◌<◌, ◌≤◌, ◌++◌, inl, inr, ℕ, Bool, true, false, List, length}
use Rattle.std.proofs.Common.{Option, None, Some, Ok, refl, sym, ap, subst, arith, add-zero}
use Rattle.std.specs.Prelude.{◌&&◌, min, nat_lt, take, drop, replicate, slice_index}
use Rattle.std.proofs.lemmas.Bool.{cases_lt}
use Rattle.std.proofs.lemmas.Bool.Decides.{nat_tests}
use Rattle.std.proofs.lemmas.List.{drop_more, length-append, length-take-le, length-drop, length-replicate}
use Rattle.std.proofs.lemmas.List.{get_or_append_left, get_or-append_right, get_or-take, get_or-drop, get_or-replicate, get_or_past}
use Rattle.std.proofs.Math.ListN.{drop_of_length-le}
use Rattle.jos_host.specs.Files.{Files, bytes_of}
use Rattle.jos_host.specs.Told.{ReadsAt}
use Rattle.jos_base.specs.declared.environment.EnvType.{EnvType}
use Rattle.jos_base.specs.declared.environment.EnvType.TheVariants.{User, FileServer}
use Rattle.jos_base.specs.declared.memory.Access.TheVariants.{Write}
use Rattle.jos_base.specs.declared.numbers.TheConstants.{PGSIZE}
use Rattle.jos_base.specs.Environments.{is_live}
use Rattle.jos_base.specs.KernelState.{KernelState, slot_at}
use Rattle.jos_base.specs.SystemCalls.{is_page_address}
use Rattle.jos_base.specs.UserMemory.{is_allowed}
use Rattle.fs_layout.specs.declared.numbers.TheConstants.{BLKSIZE}
use Rattle.lib_os.specs.Disk.{DiskFile, BlockCame, AreToldOf, block_in}
use Rattle.lib_os.specs.UserCalls.{BlockCall, IsBlockRead, IsReadBy, is_file_server, with_user_byte, with_bytes_put}
use Rattle.lib_os.specs.UserCalls.{may_read_block, page_accessed, block_put}
use Rattle.lib_os.proofs.DiskBytes.{below_is}
use Rattle.jos_run.specs.Served.{serves_block}
use Rattle.jos_run.proofs.Puts.{MayWrite, page_allowed, put_allowed}

-- ---- what is read of the file

-- a buffer of zeros
abbrev zeros : List ℕ
zeros = replicate BLKSIZE 0

zeros_long : length zeros ≡ BLKSIZE
zeros_long = length-replicate {A = ℕ} BLKSIZE 0

module _ (file : List ℕ) (block n : ℕ) (count : n ≡ min (length zeros) (length file - BLKSIZE * block)) where
  abbrev came : List ℕ
  came = take n (drop (BLKSIZE * block) file)

  came_long : length came ≡ n
  came_long =
      let rest = length-drop (BLKSIZE * block) file in
      let all = zeros_long in
      length-take-le n (drop (BLKSIZE * block) file) (omega (arith, rest, count, all))

  read_long : length (came ++ drop n zeros) ≡ BLKSIZE
  read_long =
      let both = length-append came (drop n zeros) in
      let first = came_long in
      let last = length-drop n zeros in
      let all = zeros_long in
      omega (arith, both, first, last, all, count)

  read_each : (k : ℕ) → k < BLKSIZE → slice_index file (BLKSIZE * block + k) ≡ slice_index (came ++ drop n zeros) k
  read_each k within = elim (cases_lt k n) [
    | inl before ↦
        let first = came_long in
        sym (get_or_append_left came (drop n zeros) 0 k (omega (arith, first, before))
        ∙ get_or-take n (drop (BLKSIZE * block) file) k 0 before ∙ get_or-drop (BLKSIZE * block) file k 0)
    | inr past ↦
        let all = zeros_long in
        let place : n + (k - n) ≡ k = omega (arith, past) in
        get_or_past file (BLKSIZE * block + k) 0 (omega (arith, past, count, all, within))
        ∙ sym (get_or-append_right came (drop n zeros) n k 0 came_long past ∙ get_or-drop n zeros (k - n) 0
        ∙ ap (slice_index zeros) place ∙ get_or-replicate BLKSIZE k 0 0 within)
  ]

  read_is : came ++ drop n zeros ≡ block_in file block
  unfolding block_in
  read_is = sym (below_is BLKSIZE (λ k. slice_index file (BLKSIZE * block + k)) (came ++ drop n zeros) read_long read_each)

-- into a buffer of zeros
pub block_told : (files : Option Files) (disk : DiskFile) (block n : ℕ) (bytes : List ℕ) (name : List ℕ) (at : ℕ) → name ≡ disk.name →
    at ≡ BLKSIZE * block → ReadsAt files name at zeros bytes n → AreToldOf files disk block bytes
block_told None disk block n bytes name at same place told = tt
block_told (Some files) disk block n bytes name at same place told =
    let here = subst (λ (list : List ℕ). ReadsAt (Some files) list (BLKSIZE * block) zeros bytes n) same
    (subst (λ (q : ℕ). ReadsAt (Some files) name q zeros bytes n) place told) in
    here.1 ∙ read_is (bytes_of files disk.name) block n here.0

-- ---- bytes are put into a page

page_aligned : (va : ℕ) → is_page_address va ≡ true → va % PGSIZE ≡ 0
page_aligned va address = grind (arith, nat_tests)

-- so many of them are put
pub record IsPutting (first now : KernelState) (n va at : ℕ) (bytes : List ℕ) : Type 0 where
  pub left : with_bytes_put first n va bytes ≡ with_bytes_put now n (va + at) (drop at bytes)
  pub live : is_live (slot_at now n) ≡ true
  pub may : MayWrite now n va PGSIZE

pub putting_begins : (s : KernelState) (n va : ℕ) (bytes : List ℕ) → is_page_address va ≡ true → is_live (slot_at s n) ≡ true →
    is_allowed s.spaces (slot_at s n).directory va Write ≡ true → IsPutting s s n va 0 bytes
putting_begins s n va bytes address live allowed = record {
  left = ap (λ (q : ℕ). with_bytes_put s n q bytes) (sym (add-zero va));
  live = live;
  may = page_allowed s n va (page_aligned va address) allowed;
}

module _ {first now : KernelState} {n va at : ℕ} {bytes : List ℕ} (h : IsPutting first now n va at bytes) where
  -- the slot is the one that is served now
  module _ (m : ℕ) (same : m ≡ n) where
    pub putting_live : is_live (slot_at now m) ≡ true
    putting_live = subst (λ (q : ℕ). is_live (slot_at now q) ≡ true) (sym same) h.live

    pub putting_may : at < PGSIZE → is_allowed now.spaces (slot_at now m).directory (va + at) Write ≡ true
    putting_may within = subst (λ (q : ℕ). is_allowed now.spaces (slot_at now q).directory (va + at) Write ≡ true) (sym same) (h.may.each at within)

    -- one more is put
    pub putting_goes_on : (next : KernelState) (byte : ℕ) → at < length bytes → byte ≡ slice_index bytes at →
        next ≡ with_user_byte now m (va + at) byte → IsPutting first next n va (at + 1) bytes
    putting_goes_on next byte lt byte_is put =
        let place : (va + at) + 1 ≡ va + (at + 1) = omega arith in
        let next_is : next ≡ with_user_byte now n (va + at) byte = put ∙ ap (λ (q : ℕ). with_user_byte now q (va + at) byte) same in
        let one : with_user_byte now n (va + at) (slice_index bytes at) ≡ next = ap (with_user_byte now n (va + at)) (sym byte_is) ∙ sym next_is in
        record {
          left =
              h.left ∙ ap (with_bytes_put now n (va + at)) (drop_more bytes at 0 lt)
              ∙ (λ i. with_bytes_put (one i) n (place i) (drop (at + 1) bytes));
          live = subst (λ (k : KernelState). is_live (slot_at k n) ≡ true) (sym next_is) h.live;
          may = put_allowed now next n n va (va + at) byte next_is refl h.may;
        }

  -- all are put
  pub putting_ends : length bytes ≤ at → now ≡ with_bytes_put first n va bytes
  putting_ends past = sym (h.left ∙ ap (with_bytes_put now n (va + at)) (drop_of_length-le bytes past))

-- ---- what a call has done

-- whether the environment may ask for a block, by its kind
module _ (s : KernelState) (n : ℕ) (disk : DiskFile) (block : ℕ) (kind : EnvType) (there : kind ≡ (slot_at s n).env_type) where
  pub server_asks : (blocks : ℕ) → kind ≡ FileServer → blocks ≡ disk.blocks → nat_lt block blocks ≡ serves_block s n disk block
  server_asks blocks is same =
      ap (nat_lt block) same ∙ ap (λ (k : EnvType). is_file_server k && nat_lt block disk.blocks) (sym is ∙ there)

  pub user_asks : kind ≡ User → false ≡ serves_block s n disk block
  user_asks is = ap (λ (k : EnvType). is_file_server k && nat_lt block disk.blocks) (sym is ∙ there)

-- the page is accessed, and the bytes are put
pub block_put_is : (s mid after : KernelState) (n m va : ℕ) (bytes : List ℕ) → mid ≡ page_accessed s n va Write → m ≡ n →
    after ≡ with_bytes_put mid m va bytes → after ≡ block_put s n va bytes
unfolding block_put
block_put_is s mid after n m va bytes reached same put = put ∙ (λ i. with_bytes_put (reached i) (same i) va bytes)

-- a block is read
pub read_done : (call : BlockCall) (files : Option Files) (disk : DiskFile) (after : KernelState) (bytes : List ℕ) → true ≡ may_read_block call →
    disk ≡ call.disk → BlockCame files disk call.block bytes → after ≡ block_put call.state call.slot call.va bytes → IsBlockRead call files (Ok 0) after
read_done call files disk after bytes may same came put =
    subst (λ (b : Bool). IsReadBy b call files 0 after) may
    (refl, bytes, subst (λ (d : DiskFile). BlockCame files d call.block bytes) same came, put)
