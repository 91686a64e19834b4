-- What an open stores of its file at its place, word by word, and the last of these stores, which is the abstract server's act.
use Rattle.std.proofs.Common.{◌≡◌, ◌≢◌, ◌∙◌, ◌<◌, ◌≤◌, ◌+◌, ◌*◌, ◌/◌, ◌%◌, ◌^◌, inl, inr, ℕ, zero, suc, Bool, true, false, List, [], ◌∷◌, ◌++◌}
use Rattle.std.proofs.Common.{length, Option, Some, None, refl, sym, ap, subst, arith}
use Rattle.std.specs.Prelude.{◌==◌, ◌&&◌, is_some, nat_le, nat_lt, if◌then◌else◌}
use Rattle.std.proofs.lemmas.Bool.{and_parts}
use Rattle.std.proofs.lemmas.Bool.Decides.{nat_tests}
use Rattle.jos_base.specs.declared.numbers.TheConstants.{E_FILE_EXISTS, E_INVAL, E_NOT_FOUND, E_NO_DISK}
use Rattle.jos_base.specs.Words.{has_bit, upd, word_at}
use Rattle.jos_base.proofs.Maps.{upd-at, upd-other}
use Rattle.fs_layout.specs.declared.numbers.TheConstants.{BLKFILES, BLKSIZE, MAXFILESIZE, O_CREAT, O_EXCL, O_TRUNC}
use Rattle.fs_layout.specs.DiskFiles.{IsDiskImage, file_system_of}
use Rattle.fs_layout.specs.DiskImage.{block_count, block_number_at, first_data_block, is_data_block, is_directory_at, is_empty_record, root_place}
use Rattle.fs_layout.specs.DiskImage.{size_of, slot_count, slot_place}
use Rattle.fs_layout.specs.FileActs.{Acted, file_act, file_named, look_up}
use Rattle.fs_layout.specs.FileTree.{FileSystem, blocks_taken, file_size, needs_indirect, open_path}
use Rattle.fs_acts.specs.BlockActs.{Led, Planned, a_record, astray, blocks_grown, create_plan, create_plan_at, first_slot, fits, growth, led_to}
use Rattle.fs_acts.specs.BlockActs.{make_record, no_record, open_led, place_at, place_from, plan_of, planned, planned_if_it_fits}
use Rattle.fs_acts.specs.BlockActs.{resizing, size_plan, too_long, turned_down}
use Rattle.fs_acts.specs.BlockLaws.{AreGood, LeadsAlike}
use Rattle.fs_acts.proofs.ComposedChanges.{changes-acts}
use Rattle.fs_acts.proofs.DiskCounts.{image-counted}
use Rattle.fs_acts.proofs.Stored.{same-word}
use Rattle.fs_acts.proofs.Undamaged.{some-same, way-goes}
use Rattle.fs_acts.proofs.WalkCounts.{slot-parts}
use Rattle.fs_runs.specs.TreeRuns.{AreSmall, HasActed, Memory}
use Rattle.lib_os.specs.declared.numbers.TheConstants.{DEVICE_FILE, FD_DEVICE, FD_FILE, FD_MODE, FD_OFFSET, FD_SIZE, MAXOPEN, REQUEST_MODE}
use Rattle.lib_os.specs.AbstractState.{AbstractState, Object, OpenFile, Server, TablePlace, act, acted, busy, file}
use Rattle.lib_os.specs.Descriptors.{is_held}
use Rattle.lib_os.specs.FileServer.{act_done, after_act, file_opened, is_file_open, is_held_by, low_mode, served, server_step}
use Rattle.fs_requests.specs.declared.plan.ServerNext.{ServerNext}
use Rattle.fs_requests.specs.declared.state.ServerStep.TheVariants as step
use Rattle.fs_requests.specs.ServerPlans as plans
use Rattle.fs_serving.specs.ServerRuns as runs
use Rattle.fs_serving.specs.ServerRuns.{Follows, HasFile, HasFiles, HasPage, IsOpened, IsTold, PlaceStands, TableStands, client_of, size_opened}
use Rattle.fs_serving.specs.ServerViews.{Serving, View, gone_on, with_page_word, with_word}
use Rattle.fs_serving.proofs.OpenedSizes.{opened-short}
use Rattle.fs_serving.proofs.Opening.{opening-in, path-asked}
use Rattle.fs_serving.proofs.Pieces.{ActsAreDone, StepFollows}
use Rattle.fs_serving.proofs.Tables.{after, no-name, or-other, page-left, page-there, page-told, place-free, place-kept, table-seen}
use Rattle.fs_serving.proofs.Tables.{table-told}

-- ---- what is handed back

-- an open hands nothing back
no-bytes : (b : Bool) (one other : Planned) → one.bytes ≡ [] → other.bytes ≡ [] → (if b then one else other).bytes ≡ []
no-bytes true one other first second = first
no-bytes false one other first second = second

create-bytes : (byte : ℕ → ℕ) (directory : ℕ) (name : List ℕ) → (create_plan byte directory name).bytes ≡ []
unfolding create_plan
create-bytes byte directory name = by (first_slot byte directory (is_empty_record byte))
  where
    by : (slot : Option ℕ) → (create_plan_at byte directory name slot).bytes ≡ []
    by (Some i) = refl
    by None =
        let end : ℕ = size_of byte directory + BLKSIZE in
        let changes = growth byte directory end ++ make_record directory (slot_count byte directory) name ∷ [] in
        no-bytes (nat_lt MAXFILESIZE end) (turned_down E_NO_DISK) (planned_if_it_fits byte directory (blocks_grown byte directory end) 0 changes) refl
        (no-bytes (fits byte directory (blocks_grown byte directory end)) (planned changes 0) (turned_down E_NO_DISK) refl refl)

size-bytes : (byte : ℕ → ℕ) (place end : ℕ) → (size_plan byte place end).bytes ≡ []
unfolding size_plan
size-bytes byte place end =
    no-bytes (nat_lt MAXFILESIZE end) (turned_down E_NO_DISK)
    (planned_if_it_fits byte place (blocks_taken end (needs_indirect end)) 0 (resizing byte place end)) refl
    (no-bytes (fits byte place (blocks_taken end (needs_indirect end))) (planned (resizing byte place end) 0) (turned_down E_NO_DISK) refl refl)

led-bytes : (byte : ℕ → ℕ) (mode : ℕ) (led : Led) → (open_led byte mode led).bytes ≡ []
led-bytes byte mode too_long = refl
led-bytes byte mode astray = refl
led-bytes byte mode (no_record directory name) =
    no-bytes (has_bit mode O_CREAT) (create_plan byte directory name) (turned_down E_NOT_FOUND) (create-bytes byte directory name) refl
led-bytes byte mode (a_record place way) =
    no-bytes (has_bit mode O_CREAT && has_bit mode O_EXCL) (turned_down E_FILE_EXISTS)
    (if is_directory_at byte place then turned_down E_INVAL else if has_bit mode O_TRUNC then size_plan byte place 0 else planned [] 0) refl
    (no-bytes (is_directory_at byte place) (turned_down E_INVAL) (if has_bit mode O_TRUNC then size_plan byte place 0 else planned [] 0) refl
    (no-bytes (has_bit mode O_TRUNC) (size_plan byte place 0) (planned [] 0) (size-bytes byte place 0) refl))

open-bytes : (is_open : List ℕ → Bool) (byte : ℕ → ℕ) (path : List ℕ) (mode : ℕ) → (plan_of is_open byte (open_path path mode)).bytes ≡ []
unfolding plan_of
open-bytes is_open byte path mode = led-bytes byte mode (led_to byte path)

-- and so the page of the request stays
open-stays : (is_open : List ℕ → Bool) (path : List ℕ) (mode answer : ℕ) (before m : Memory) → HasActed is_open (open_path path mode) before answer m →
    (k : ℕ) → m.page k ≡ before.page k
open-stays is_open path mode answer before m did k =
    did.rest k (subst (λ (n : ℕ). n ≤ k) (sym (ap (λ (l : List ℕ). length l) (open-bytes is_open before.disk path mode))) (omega arith))

word-stays : (one other : ℕ → ℕ) (at : ℕ) → ((k : ℕ) → one k ≡ other k) → word_at one at ≡ word_at other at
word-stays one other at same = same-word one other at (same at) (same (at + 1)) (same (at + 2)) (same (at + 3))

-- ---- what is told

-- what is opened, wherever the server goes on with it
unfoldable pub opened-in : (a : AbstractState) (it : Serving) (before : Memory) (path : List ℕ) (mode home : ℕ) →
    IsOpened a it before path mode home → (next : Serving) → next.state.client ≡ it.state.client → next.state.number ≡ it.state.number →
    next.state.kind ≡ it.state.kind → next.view.memory ≡ it.view.memory → HasPage next → IsOpened a next before path mode home
opened-in a it before path mode home so next client number kind_is memory has_page =
    record {
      opening = opening-in a it before path mode so.opening next client number kind_is;
      has_page = has_page;
      has_acted = subst (λ (m : Memory). HasActed (is_file_open a) (open_path path mode) before 0 m) (sym memory) so.has_acted;
      way = so.way;
      leads = ap (λ (m : Memory). led_to m.disk path) memory ∙ so.leads;
      regular = ap (λ (m : Memory). is_directory_at m.disk home) memory ∙ so.regular;
      named = ap (λ (m : Memory). file_named (file_system_of m.disk) path) memory ∙ so.named;
    }

-- its size is as it was
size-stays : (a : AbstractState) (it : Serving) (before : Memory) (path : List ℕ) (mode home : ℕ)
    (so : IsOpened a it before path mode home) (next : Serving) (client : next.state.client ≡ it.state.client)
    (number : next.state.number ≡ it.state.number) (kind_is : next.state.kind ≡ it.state.kind)
    (memory : next.view.memory ≡ it.view.memory) (has_page : HasPage next) →
    size_opened (opened-in a it before path mode home so next client number kind_is memory has_page) ≡ size_opened so
unfolding opened-in
size-stays a it before path mode home so next client number kind_is memory has_page =
    ap (λ (m : Memory). file_size (file_system_of m.disk) so.way) memory

pub storing_record : StepFollows step.StoringRecord
storing_record count a it before small files table so word v reply seen =
    let k : ℕ = it.state.number in
    let home : ℕ = it.state.home in
    let next : ServerNext = plans.next_for it.state step.StoringRecord word in
    let w : View = record it.view { homes = upd it.view.homes it.state.number it.state.home } in
    let opening = so.opened.opening in
    subst (λ (u : View). Follows count a next.seen (gone_on it next u)) (sym seen) (record {
      before = before;
      files = files;
      table =
          table-seen before.disk a it.view w k table
          (place-free before.disk a w k opening.nobodys (table.places k opening.below).used (λ some. so.opened.has_page))
          (λ n less ne.
          place-kept before.disk a a.objects a.opened a.next_name a.files a.server it.view w n refl (upd-other it.view.homes k home n ne) refl
          (λ some. refl) (λ name is held. refl) (table.places n less));
      at =
          record {
            path = so.path;
            mode = so.mode;
            home = so.home;
            opened = opened-in a it before so.path so.mode so.home so.opened (gone_on it next w) refl refl refl refl so.opened.has_page;
            kept = λ far. absurd (omega (arith, far));
            home_is = λ far. upd-at it.view.homes k home ∙ so.kept refl;
            device = λ far. absurd (omega (arith, far));
            read = λ far. absurd (omega (arith, far));
            mode_is = λ far. absurd (omega (arith, far));
            number_is = λ far. absurd (omega (arith, far));
            sized = λ far. absurd (omega (arith, far));
            size = λ far. absurd (omega (arith, far));
            offset = λ far. absurd (omega (arith, far));
          };
    })

-- the page is there, with another word
page-in : (it : Serving) → HasPage it → (next : ServerNext) (at word : ℕ) → next.state.number ≡ it.state.number →
    HasPage (gone_on it next (with_page_word it.view it.state.number at word))
page-in it has next at word same =
    subst
    (λ (n : ℕ).
    let w = with_page_word it.view it.state.number at word in (is_some (w.pages n) ≡ true) × (nat_le 2 (w.holders (w.frames n)) ≡ false))
    (sym same) (page-there it.view it.state.number at word ∙ has.0, has.1)

pub storing_device : StepFollows step.StoringDevice
storing_device count a it before small files table so word v reply seen =
    let k : ℕ = it.state.number in
    let next : ServerNext = plans.next_for it.state step.StoringDevice word in
    let w : View = with_page_word it.view it.state.number FD_DEVICE DEVICE_FILE in
    let opening = so.opened.opening in
    subst (λ (u : View). Follows count a next.seen (gone_on it next u)) (sym seen) (record {
      before = before;
      files = files;
      table = table-told before.disk a it.view k FD_DEVICE DEVICE_FILE opening.below opening.nobodys table;
      at =
          record {
            path = so.path;
            mode = so.mode;
            home = so.home;
            opened =
                opened-in a it before so.path so.mode so.home so.opened (gone_on it next w) refl refl refl refl
                (page-in it so.opened.has_page next FD_DEVICE DEVICE_FILE refl);
            kept = λ far. absurd (omega (arith, far));
            home_is = λ far. so.home_is (omega arith);
            device = λ far. page-told it.view k FD_DEVICE DEVICE_FILE (omega arith) so.opened.has_page.0;
            read = λ far. absurd (omega (arith, far));
            mode_is = λ far. absurd (omega (arith, far));
            number_is = λ far. absurd (omega (arith, far));
            sized = λ far. absurd (omega (arith, far));
            size = λ far. absurd (omega (arith, far));
            offset = λ far. absurd (omega (arith, far));
          };
    })

pub reading_mode_again : StepFollows step.ReadingModeAgain
reading_mode_again count a it before small files table so word v reply seen =
    let next : ServerNext = plans.next_for it.state step.ReadingModeAgain word in
    let asked = path-asked a before.page so.path so.mode so.opened.opening.is_busy.asks in
    let stays = open-stays (is_file_open a) so.path so.mode 0 before it.view.memory so.opened.has_acted in
    subst (λ (u : View). Follows count a next.seen (gone_on it next u)) (sym seen) (record {
      before = before;
      files = files;
      table = table;
      at =
          record {
            path = so.path;
            mode = so.mode;
            home = so.home;
            opened =
                opened-in a it before so.path so.mode so.home so.opened (gone_on it next it.view) refl refl refl refl so.opened.has_page;
            kept = λ far. absurd (omega (arith, far));
            home_is = λ far. so.home_is (omega arith);
            device = λ far. so.device (omega arith);
            read = λ far. reply ∙ word-stays it.view.memory.page before.page REQUEST_MODE stays ∙ asked.1;
            mode_is = λ far. absurd (omega (arith, far));
            number_is = λ far. absurd (omega (arith, far));
            sized = λ far. absurd (omega (arith, far));
            size = λ far. absurd (omega (arith, far));
            offset = λ far. absurd (omega (arith, far));
          };
    })

low-small : (n : ℕ) → n % 4 < 2 ^ 32
low-small n = omega arith

number-small : (n : ℕ) → n < MAXOPEN → n < 2 ^ 32
number-small n below = omega (arith, below)

pub storing_mode : StepFollows step.StoringMode
storing_mode count a it before small files table so word v reply seen =
    let k : ℕ = it.state.number in
    let low : ℕ = it.state.count % 4 in
    let next : ServerNext = plans.next_for it.state step.StoringMode word in
    let w : View = with_page_word it.view it.state.number FD_MODE (it.state.count % 4) in
    let opening = so.opened.opening in
    subst (λ (u : View). Follows count a next.seen (gone_on it next u)) (sym seen) (record {
      before = before;
      files = files;
      table = table-told before.disk a it.view k FD_MODE low opening.below opening.nobodys table;
      at =
          record {
            path = so.path;
            mode = so.mode;
            home = so.home;
            opened =
                opened-in a it before so.path so.mode so.home so.opened (gone_on it next w) refl refl refl refl
                (page-in it so.opened.has_page next FD_MODE low refl);
            kept = λ far. absurd (omega (arith, far));
            home_is = λ far. so.home_is (omega arith);
            device = λ far. page-left it.view k FD_MODE low FD_DEVICE (inl (omega arith)) ∙ so.device (omega arith);
            read = λ far. absurd (omega (arith, far));
            mode_is =
                λ far. page-told it.view k FD_MODE low (low-small it.state.count) so.opened.has_page.0 ∙ ap (λ (n : ℕ). n % 4) (so.read refl);
            number_is = λ far. absurd (omega (arith, far));
            sized = λ far. absurd (omega (arith, far));
            size = λ far. absurd (omega (arith, far));
            offset = λ far. absurd (omega (arith, far));
          };
    })

pub storing_file : StepFollows step.StoringFile
storing_file count a it before small files table so word v reply seen =
    let k : ℕ = it.state.number in
    let next : ServerNext = plans.next_for it.state step.StoringFile word in
    let w : View = with_page_word it.view it.state.number FD_FILE it.state.number in
    let opening = so.opened.opening in
    subst (λ (u : View). Follows count a next.seen (gone_on it next u)) (sym seen) (record {
      before = before;
      files = files;
      table = table-told before.disk a it.view k FD_FILE k opening.below opening.nobodys table;
      at =
          record {
            path = so.path;
            mode = so.mode;
            home = so.home;
            opened =
                opened-in a it before so.path so.mode so.home so.opened (gone_on it next w) refl refl refl refl
                (page-in it so.opened.has_page next FD_FILE k refl);
            kept = λ far. absurd (omega (arith, far));
            home_is = λ far. so.home_is (omega arith);
            device = λ far. page-left it.view k FD_FILE k FD_DEVICE (inl (omega arith)) ∙ so.device (omega arith);
            read = λ far. absurd (omega (arith, far));
            mode_is = λ far. page-left it.view k FD_FILE k FD_MODE (inl (omega arith)) ∙ so.mode_is (omega arith);
            number_is = λ far. page-told it.view k FD_FILE k (number-small k opening.below) so.opened.has_page.0;
            sized = λ far. absurd (omega (arith, far));
            size = λ far. absurd (omega (arith, far));
            offset = λ far. absurd (omega (arith, far));
          };
    })

size-small : (n : ℕ) → n ≤ MAXFILESIZE → n < 2 ^ 32
size-small n short = omega (arith, short)

pub storing_size : StepFollows step.StoringSize
storing_size count a it before small files table so word v reply seen =
    let k : ℕ = it.state.number in
    let size : ℕ = it.state.count in
    let next : ServerNext = plans.next_for it.state step.StoringSize word in
    let w : View = with_page_word it.view it.state.number FD_SIZE it.state.count in
    let opening = so.opened.opening in
    let page : HasPage (gone_on it next w) = page-in it so.opened.has_page next FD_SIZE size refl in
    subst (λ (u : View). Follows count a next.seen (gone_on it next u)) (sym seen) (record {
      before = before;
      files = files;
      table = table-told before.disk a it.view k FD_SIZE size opening.below opening.nobodys table;
      at =
          runs.opened (record {
            path = so.path;
            mode = so.mode;
            home = so.home;
            opened = opened-in a it before so.path so.mode so.home so.opened (gone_on it next w) refl refl refl refl page;
            kept = λ far. absurd (omega (arith, far));
            home_is = λ far. so.home_is (omega arith);
            device = λ far. page-left it.view k FD_SIZE size FD_DEVICE (inl (omega arith)) ∙ so.device (omega arith);
            read = λ far. absurd (omega (arith, far));
            mode_is = λ far. page-left it.view k FD_SIZE size FD_MODE (inl (omega arith)) ∙ so.mode_is (omega arith);
            number_is = λ far. page-left it.view k FD_SIZE size FD_FILE (inl (omega arith)) ∙ so.number_is (omega arith);
            sized = λ far. absurd (omega (arith, far));
            size =
                λ far.
                page-told it.view k FD_SIZE size
                (size-small size
                (subst (λ (n : ℕ). n ≤ MAXFILESIZE) (sym (so.sized refl))
                (opened-short count a it before files table small so.path so.mode so.home so.opened))) so.opened.has_page.0
                ∙ so.sized refl
                ∙ sym (size-stays a it before so.path so.mode so.home so.opened (gone_on it next w) refl refl refl refl page);
            offset = λ far. (refl, refl);
          });
    })

-- ---- the place of a record

-- no record stands at the begin of a disk
way-past : (way : List ℕ) (depth : ℕ) (byte : ℕ → ℕ) (here place : ℕ) → AreGood depth byte here → 0 < here → place_from byte way here ≡ Some place →
    0 < place
unfolding place_from AreGood
way-past [] depth byte here place good past e = subst (λ (n : ℕ). 0 < n) (some-same here place e) past
way-past (i ∷ way) zero byte here place good past e =
    let goes = way-goes byte i way here place e in
    let parts = slot-parts (is_directory_at byte here) i (slot_count byte here) (is_empty_record byte (slot_place byte here i)) goes.0 in
    absurd (none (slot_count byte here) i (good.1 parts.0) parts.1.0)
  where
    none : (n i : ℕ) → n ≡ 0 → i < n → ⊥
    none n i e lt = omega arith
way-past (i ∷ way) (suc depth) byte here place good past e =
    let goes = way-goes byte i way here place e in
    let parts = slot-parts (is_directory_at byte here) i (slot_count byte here) (is_empty_record byte (slot_place byte here i)) goes.0 in
    let block : ℕ = block_number_at byte here (i / BLKFILES) in
    let is_data : is_data_block (block_count byte) block ≡ true = good.0.readable.within (i / BLKFILES) (slot-block (size_of byte here) i parts.1.0) in
    way-past way depth byte (slot_place byte here i) place (good.1 i goes.0).1 (slot-past block i (data-past (block_count byte) block is_data)) goes.1
  where
    slot-block : (size i : ℕ) → i < size / 256 → i / 16 < (size + 4095) / 4096
    slot-block size i within = omega arith

    at_least : (first block : ℕ) → nat_le (2 + first) block ≡ true → 0 < block
    at_least first block test = grind (arith, nat_tests)

    data-past : (count block : ℕ) → is_data_block count block ≡ true → 0 < block
    data-past count block is = at_least _ block (and_parts (nat_le (first_data_block count) block) (nat_lt block count) is).0

    slot-past : (block i : ℕ) → 0 < block → 0 < 4096 * block + 256 * (i % 16)
    slot-past block i some = omega (arith, some)

place-past : (size : ℕ) (byte : ℕ → ℕ) (way : List ℕ) (place : ℕ) → IsDiskImage size byte → place_at byte way ≡ Some place → place ≢ 0
place-past size byte way place sound e none =
    let past = way-past way (block_count byte) byte root_place place (image-counted size byte sound).records (omega arith) e in
    absurd (omega (arith, past, none))

led-place : (size : ℕ) (byte : ℕ → ℕ) (path way : List ℕ) (home : ℕ) → IsDiskImage size byte → led_to byte path ≡ a_record home way →
    place_at byte way ≡ Some home
led-place size byte path way home sound e =
    let alike = changes-acts.paths size byte sound path in
    let stands = subst (λ (led : Led). LeadsAlike byte led (look_up (file_system_of byte) path)) e alike in stands.0

-- ---- a name for what is opened

not-held : (a : AbstractState) → ((name : ℕ) → is_held a name ≡ true → name < a.next_name) → is_held a a.next_name ≡ false
not-held a old = by (is_held a a.next_name) refl
  where
    by : (b : Bool) → is_held a a.next_name ≡ b → is_held a a.next_name ≡ false
    by false is = is
    by true is = let less = old a.next_name is in absurd (omega (arith, less))

not-self : (n : ℕ) → n < n → ⊥
not-self n less = omega (arith, less)

-- the state in which a free place has a new file
abbrev pub with_opened : AbstractState → ℕ → OpenFile → FileSystem → Server → AbstractState
with_opened a k f files server =
    after a (upd a.objects a.next_name (file f)) (upd a.opened k (record { held_by = Some a.next_name; used = true })) (a.next_name + 1) files server

table-opened : (disk : ℕ → ℕ) (a : AbstractState) (v w : View) (k : ℕ) (f : OpenFile) (files : FileSystem) (server : Server) → k < MAXOPEN →
    (a.opened k).held_by ≡ None → w.homes k ≢ 0 → (is_some (w.pages k) ≡ true) × (nat_le 2 (w.holders (w.frames k)) ≡ false) →
    ((n : ℕ) → n ≢ k → (w.homes n ≡ v.homes n) × (w.pages n ≡ v.pages n) × (w.holders (w.frames n) ≡ v.holders (v.frames n))) →
    TableStands disk a v → TableStands disk (with_opened a k f files server) w
table-opened disk a v w k f files server below free home page others table =
    record { places = places; held = held; alone = alone; old = old; old_held = λ name is. more name a.next_name (table.old_held name is) }
  where
    more : (n m : ℕ) → n < m → n < m + 1
    more n m less = omega (arith, less)

    place : TablePlace
    place = record { held_by = Some a.next_name; used = true }

    opened : ℕ → TablePlace
    opened = upd a.opened k place

    objects : ℕ → Object
    objects = upd a.objects a.next_name (file f)

    here : opened k ≡ place
    here = upd-at a.opened k place

    other : (n : ℕ) → n ≢ k → opened n ≡ a.opened n
    other n ne = upd-other a.opened k place n ne

    new : is_held a a.next_name ≡ false
    new = not-held a table.old_held

    -- what is held has another name
    not-new : (name : ℕ) → is_held a name ≡ true → name ≢ a.next_name
    not-new name is same = not-self a.next_name (subst (λ (n : ℕ). n < a.next_name) same (table.old_held name is))

    object : (name : ℕ) → is_held a name ≡ true → objects name ≡ a.objects name
    object name is = upd-other a.objects a.next_name (file f) name (not-new name is)

    is-new : (n name : ℕ) → n ≡ k → (opened n).held_by ≡ Some name → name ≡ a.next_name
    is-new n name same is =
        some-same name a.next_name
        (sym is ∙ ap (λ (m : ℕ). (opened m).held_by) same ∙ ap (λ (p : TablePlace). p.held_by) here)

    was : (n name : ℕ) → n ≢ k → (opened n).held_by ≡ Some name → (a.opened n).held_by ≡ Some name
    was n name ne is = ap (λ (p : TablePlace). p.held_by) (sym (other n ne)) ∙ is

    at-place : PlaceStands disk (with_opened a k f files server) w k
    at-place =
        record {
          unused = λ none. absurd (home none);
          there = λ some. page.0;
          used = λ is. ap (λ (p : TablePlace). p.used) here;
          counts = λ some. ap (λ (p : TablePlace). is_held_by a p.held_by) here ∙ new ∙ sym page.1;
          holds = λ name is held. absurd (not-new name held (is-new k name refl is));
        }

    places : (n : ℕ) → n < MAXOPEN → PlaceStands disk (with_opened a k f files server) w n
    places n less =
        or-other n k (λ same. subst (λ (m : ℕ). PlaceStands disk (with_opened a k f files server) w m) (sym same) at-place)
        (λ ne.
        place-kept disk a objects opened (a.next_name + 1) files server v w n (other n ne) (others n ne).0 (others n ne).1
        (λ some. (others n ne).2) (λ name is held. object name held) (table.places n less))

    held : (name : ℕ) (g : OpenFile) → is_held a name ≡ true → objects name ≡ file g →
        (number : ℕ) × (number < MAXOPEN) × ((opened number).held_by ≡ Some name)
    held name g is its =
        let at = table.held name g is (sym (object name is) ∙ its) in (
          at.0,
          at.1,
          ap (λ (p : TablePlace). p.held_by) (other at.0 (λ same.
              no-name (a.opened k).held_by name free (ap (λ (n : ℕ). (a.opened n).held_by) (sym same) ∙ at.2))) ∙ at.2,
        )

    -- a name that is in the table already is not the new one
    clash : {X : Type 0} (n name : ℕ) → (a.opened n).held_by ≡ Some name → name ≡ a.next_name → X
    clash n name is same = absurd (not-self a.next_name (subst (λ (m : ℕ). m < a.next_name) same (table.old n name is)))

    alone : (n m name : ℕ) → (opened n).held_by ≡ Some name → (opened m).held_by ≡ Some name → n ≡ m
    alone n m name first second =
        or-other n k
        (λ one.
        or-other m k (λ two. one ∙ sym two) (λ two. clash m name (was m name two second) (is-new n name one first)))
        (λ one.
        or-other m k (λ two. clash n name (was n name one first) (is-new m name two second))
        (λ two. table.alone n m name (was n name one first) (was m name two second)))

    old : (n name : ℕ) → (opened n).held_by ≡ Some name → name < a.next_name + 1
    old n name is =
        or-other n k (λ same. subst (λ (m : ℕ). m < a.next_name + 1) (sym (is-new n name same is)) (last a.next_name))
        (λ ne. more name a.next_name (table.old n name (was n name ne is)))
      where
        last : (n : ℕ) → n < n + 1
        last n = omega arith

-- ---- the act

acts : (a : AbstractState) (client : ℕ) (path : List ℕ) (mode k : ℕ) (way : List ℕ) (did : Acted) → did.answer ≡ 0 →
    file_named did.files path ≡ Some way →
    after_act a client (open_path path mode) None (Some k) did
    ≡ with_opened a k (record { way = way; offset = 0; mode = low_mode mode; size = file_size did.files way }) did.files
    (acted client 0 [] (Some a.next_name))
acts a client path mode k way did zero_ named =
    ap
    (λ (n : ℕ).
    if n == 0 then file_opened (record a { files = did.files }) client 0 (Some k) (file_named did.files path) (low_mode mode)
    else record a { files = did.files; server = acted client n [] None }) zero_
    ∙ ap (λ (found : Option (List ℕ)). file_opened (record a { files = did.files }) client 0 (Some k) found (low_mode mode)) named

steps : (a b : AbstractState) (client : ℕ) (path : List ℕ) (mode k : ℕ) → a.server ≡ busy client (act (open_path path mode) None) (Some k) →
    act_done a client (act (open_path path mode) None) (Some k) ≡ b → server_step a ≡ Some b
unfolding server_step
steps a b client path mode k server is = ap (served a) server ∙ ap (λ (s : AbstractState). Some s) is

pub storing_opened : ActsAreDone → (count : ℕ) (a : AbstractState) (it : Serving) (before : Memory) → HasFiles count before a.files →
    TableStands before.disk a it.view → AreSmall it.view.memory → IsTold a it before 7 → (v : View) → v ≡ with_page_word it.view it.state.number FD_OFFSET it.state.at →
    (word : ℕ) →
    let next = plans.next_for it.state step.StoringOffset word in Follows count a next.seen (gone_on it next v)
storing_opened acts_are_done count a it before files table small so v seen word =
    let k : ℕ = it.state.number in
    let next : ServerNext = plans.next_for it.state step.StoringOffset word in
    let w : View = with_page_word it.view it.state.number FD_OFFSET it.state.at in
    let m : Memory = it.view.memory in
    let opened = so.opened in
    let opening = opened.opening in
    let asked = path-asked a before.page so.path so.mode opening.is_busy.asks in
    let done = acts_are_done count a it.view (open_path so.path so.mode) 0 before m asked.0.no_nul files table opened.has_acted in
    let did : Acted = file_act (is_file_open a) a.files (open_path so.path so.mode) in
    let f : OpenFile = record { way = opened.way; offset = 0; mode = low_mode so.mode; size = file_size did.files opened.way } in
    let client : ℕ = client_of it.state in
    let b : AbstractState = with_opened a k f did.files (acted client 0 [] (Some a.next_name)) in
    let named : file_named did.files so.path ≡ Some opened.way = ap (λ (s : FileSystem). file_named s so.path) (sym done.files.are) ∙ opened.named in
    let home : it.view.homes k ≡ so.home = so.home_is (omega arith) in
    let stands : place_at m.disk opened.way ≡ Some (it.view.homes k) =
    led-place (BLKSIZE * count) m.disk so.path opened.way so.home done.files.disk opened.leads ∙ ap (λ (n : ℕ). Some n) (sym home) in
    let told = so.offset (omega arith) in
    let its_file : HasFile m.disk b w k a.next_name = record {
      f = f;
      is = upd-at a.objects a.next_name (file f);
      home = stands;
      regular = ap (is_directory_at m.disk) home ∙ opened.regular;
      there = page-there it.view k FD_OFFSET it.state.at ∙ opened.has_page.0;
      device = page-left it.view k FD_OFFSET it.state.at FD_DEVICE (inl (omega arith)) ∙ so.device (omega arith);
      offset = page-told it.view k FD_OFFSET it.state.at (subst (λ (n : ℕ). n < 2 ^ 32) (sym told.0) (omega arith)) opened.has_page.0 ∙ told.0;
      mode = page-left it.view k FD_OFFSET it.state.at FD_MODE (inr (omega arith)) ∙ so.mode_is (omega arith);
      size =
          page-left it.view k FD_OFFSET it.state.at FD_SIZE (inr (omega arith)) ∙ so.size (omega arith)
          ∙ ap (λ (s : FileSystem). file_size s opened.way) done.files.are;
      number_is = page-left it.view k FD_OFFSET it.state.at FD_FILE (inr (omega arith)) ∙ so.number_is (omega arith);
      small = omega arith;
      sized =
          let short = opened-short count a it before files table small so.path so.mode so.home opened in
          subst (λ (s : FileSystem). file_size s opened.way < 2 ^ 31) done.files.are (omega (arith, short));
    } in
    subst (λ (u : View). Follows count a next.seen (gone_on it next u)) (sym seen) (
      b,
      steps a b client so.path so.mode k opening.is_busy.server (acts a client so.path so.mode k opened.way did done.answer_is named),
      record {
        before = m;
        files = done.files;
        table =
            table-opened m.disk a it.view w k f did.files (acted client 0 [] (Some a.next_name)) opening.below opening.nobodys
            (place-past (BLKSIZE * count) m.disk opened.way (it.view.homes k) done.files.disk stands)
            (page-there it.view k FD_OFFSET it.state.at ∙ opened.has_page.0, opened.has_page.1)
            (λ n ne. (refl, upd-other it.view.pages k (with_word (it.view.pages k) FD_OFFSET it.state.at) n ne, refl)) done.table;
        at =
            record {
              bytes = [];
              object = Some a.next_name;
              server = ap (λ (n : ℕ). acted client n [] (Some a.next_name)) (sym told.1);
              memory = refl;
              handed = λ i less. absurd (omega (arith, less));
              has_object = (
                opening.is_busy.kind_is,
                told.1,
                opening.below,
                ap (λ (p : TablePlace). p.held_by) (upd-at a.opened k (record { held_by = Some a.next_name; used = true })),
                its_file,
              );
            };
      },
    )
