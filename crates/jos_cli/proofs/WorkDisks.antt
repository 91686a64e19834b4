-- The disk that `gen` makes has no fault, and its program can be run.
use Rattle.std.proofs.Common.{◌≡◌, ◌≢◌, ◌∙◌, ℕ, zero, suc, ◌+◌, ◌*◌, ◌<◌, ◌≤◌, Bool, true, false, List, [], ◌∷◌, length, Option, Some, None}
use Rattle.std.proofs.Common.{Result, Ok, refl, ap, cond, arith}
use mathlib.Core.Logic.{inl, inr}
use Rattle.std.specs.Prelude.{◌&&◌, ◌||◌, codes, nat_lt, slice_index, slice_index_or, IsSome}
use Rattle.std.proofs.lemmas.Bool.{le-ltb, cases_lt, cases_eq}
use Rattle.jos_base.specs.Counting.{total}
use Rattle.jos_base.specs.Environments.{bit_of}
use Rattle.jos_base.specs.declared.errno.Errno.{Errno}
use Rattle.jos_base.specs.Words.{◌>>=◌}
use Rattle.jos_base.proofs.Sums.{total-change, total-le, total-none}
use Rattle.jos_host.specs.Files.{Files, with_bytes}
use Rattle.jos_host.specs.MemHost.{Named}
use Rattle.jos_elf.specs.declared.fault.ElfFault.{ElfFault}
use Rattle.jos_elf.specs.declared.image.Segment.{Segment}
use Rattle.jos_elf.specs.declared.writer.Part.{Part}
use Rattle.jos_elf.specs.Parsed.{Layout, Lies, Apart, parsed}
use Rattle.jos_elf.specs.Written.{AreParts, part_segment, part_segments}
use Rattle.jos_elf.proofs.Written.{reads-back, length-written}
use Rattle.jos_base.specs.declared.numbers.TheConstants.{UTEXT}
use Rattle.jos_demo.specs.declared.workloads.Workload.{Workload}
use Rattle.jos_demo.specs.Code.{image}
use Rattle.jos_demo.specs.Workloads.{work_file, workload_of}
use Rattle.jos_demo.proofs.WorkCode.{work_is_image}
use Rattle.jos_kernel.specs.Boot.{Loadable}
use Rattle.jos_elf.specs.Pages.{any_touches}
use Rattle.fs_layout.specs.DiskFiles.{IsDiskImage}
use Rattle.fs_layout.specs.FileTree.{listed, records_from}
use Rattle.fs_layout.specs.FileActs.{names_in, is_good_path, find_name, look_from, look_up}
use Rattle.fs_image.specs.DiskHeld.{HeldDisk, held_of, fault_in}
use Rattle.fs_contents.specs.Contents.{read_at}
use Rattle.fs_contents.proofs.Held.{held_faults, held_trees}
use Rattle.fs_make.specs.declared.fault.MakeFault.{MakeFault}
use Rattle.fs_make.specs.declared.fault.MakeFault.TheVariants as make
use Rattle.fs_make.specs.MakeFaults.{make_fault, is_file_name, first_taken, root_size, spans_of, blocks_used}
use Rattle.fs_make.specs.MadeImage.{made_image, made_files}
use Rattle.fs_make.proofs.MadeDisks.{made_is_disk}
use Rattle.fs_make.proofs.MadeTrees.{made_has_files}
use Rattle.jos_elf.specs.StackPage.{fits_stack, stack_size, strings_of}
use Rattle.jos_run.specs.Boot.{boot_frames, booted_within, pages_touched, regions_touched, touches_region}
use Rattle.jos_run.proofs.EnoughFrames.{programs_boot}
use Rattle.jos_words.specs.Arguments.{Word}
use Rattle.jos_words.specs.Commands.{Gen}
use Rattle.jos_sched.specs.Schedule as schedule
use Rattle.jos_cli.specs.Commands.{work_word, run_of_gen, texts_of}
use Rattle.jos_cli.specs.Limits.{limit_of_run, frames_of, numbers_of_run}
use Rattle.jos_cli.specs.Found.{FileAt, file_at, run_found_in}
use Rattle.jos_cli.specs.Answer.{Judged, schedule_of, loadable_of}
use Rattle.jos_cli.specs.Making.{work_files, work_disk, IsMemoryFault}
use Rattle.jos_cli.specs.Disks.{tree_of, if_there}
use Rattle.jos_cli.specs.RunAnswers.{image_on, program_on}
use Rattle.jos_cli.specs.Outcomes.{CanRunProgram, CanGenerate}
use Rattle.jos_cli.proofs.Cases.{there}
use Rattle.jos_cli.proofs.FilesWritten.{itself}

-- ---- the program

code : Workload → List ℕ
code w = (work_is_image w).0

-- where its code begins
abbrev text : ℕ
text = UTEXT + 0x20

-- it is one segment
abbrev part : List ℕ → Part
part bytes = record { va = text; at = 0; len = length bytes; mem_len = length bytes; writable = false }

record IsShort (bytes : List ℕ) : Type 0 where
  some : 0 < length bytes
  few : length bytes ≤ 4000

code_short : (w : Workload) → IsShort (code w)
unfolding code
code_short w = let is = (work_is_image w).2 in record { some = omega (arith, is); few = omega (arith, is) }

are_parts : (bytes : List ℕ) → IsShort bytes → AreParts (part bytes ∷ []) bytes
are_parts bytes h = record { few = omega arith; lie = lies; apart = alone }
  where
    lies : (i : ℕ) (d : Part) → i < 1 → Lies (length bytes) (part_segment 0 (slice_index_or (part bytes ∷ []) i d))
    lies zero d below = let some = h.some in let few = h.few in record { file = omega arith; room = omega arith; some = some; range = inr (omega arith, omega (arith, few)) }
    lies (suc i) d below = absurd (omega (arith, below))

    alone : (i j : ℕ) (d : Part) → i < j → j < 1 →
        Apart (part_segment 0 (slice_index_or (part bytes ∷ []) i d)) (part_segment 0 (slice_index_or (part bytes ∷ []) j d))
    alone i j d order below = absurd (omega (arith, order, below))

abbrev layout_with : List ℕ → Layout
layout_with bytes = record { entry = text; segments = part_segments (part bytes ∷ []) }

image_parsed : (bytes : List ℕ) → IsShort bytes → parsed (image bytes) ≡ Ok (layout_with bytes)
unfolding image
image_parsed bytes h =
    let few = h.few in
    reads-back text (part bytes ∷ []) bytes (omega arith) (are_parts bytes h) (omega (arith, few))

image_length : (bytes : List ℕ) → length bytes ≡ 297 → length (image bytes) ≡ 381
unfolding image
image_length bytes is = length-written text (part bytes ∷ []) bytes ∙ ap (λ (n : ℕ). 84 + n) is

-- ---- the frames that it wants

bit_small : (b : Bool) → bit_of b ≤ 1
bit_small true = omega arith
bit_small false = omega arith

-- it touches one page
module _ (bytes : List ℕ) (h : IsShort bytes) where
  abbrev segments : List Segment
  segments = part_segments (part bytes ∷ [])

  others_untouched : (q : ℕ) → q ≢ 2048 → any_touches q segments ≡ false
  others_untouched q apart = elim (cases_lt q 2048) [
    | inl below ↦ ap (λ (b : Bool). (b && nat_lt (q * 4096) (text + length bytes)) || false) (le-ltb text ((q + 1) * 4096) (omega (arith, below)))
    | inr past ↦
        let few = h.few in
        let above : 2048 < q = elim (cases_eq q 2048) [ inl same ↦ absurd (apart same) | inr other ↦ omega (arith, past, other) ] in
        let none : nat_lt (q * 4096) (text + length bytes) ≡ false = le-ltb (q * 4096) (text + length bytes) (omega (arith, above, few)) in
        rw none (both_false (nat_lt text ((q + 1) * 4096)))
  ]
    where
      both_false : (b : Bool) → ((b && false) || false) ≡ false
      both_false true = refl
      both_false false = refl

  few_pages : pages_touched segments ≤ 1
  few_pages =
      let none : total 851968 (λ q. 0) ≡ 0 = total-none 851968 (λ q. 0) (λ q below. refl) in
      let change = total-change 851968 2048 (λ q. bit_of (any_touches q segments)) (λ q. 0) (omega arith) (λ q apart. ap bit_of (others_untouched q apart)) in
      let one = bit_small (any_touches 2048 segments) in
      omega (arith, none, change, one)

  few_regions : regions_touched segments ≤ 832
  few_regions =
      let all = total-le 832 1 (λ region. bit_of (touches_region segments region)) (λ region. bit_small (touches_region segments region)) in
      omega (arith, all)

  few_frames : boot_frames (layout_with bytes) ≤ 16384
  unfolding boot_frames
  few_frames = let pages = few_pages in let regions = few_regions in omega (arith, pages, regions)

-- ---- the disk

abbrev the_file : List ℕ → List Named
the_file bytes = record { name = codes "work"; bytes = bytes } ∷ []

-- it has room
file_fits : (bytes : List ℕ) → length bytes ≡ 381 → make_fault 256 (the_file bytes) ≡ None
unfolding make_fault is_file_name first_taken root_size spans_of blocks_used
file_fits bytes is = rw is refl

-- and there it is
file_there : (bytes : List ℕ) → read_at (made_files 256 (the_file bytes)) (codes "work") ≡ Ok bytes
unfolding made_files root_size records_from listed look_up is_good_path names_in look_from find_name
file_there bytes = refl

work_length : (w : Workload) → length (work_file w) ≡ 381
work_length w = let c = work_is_image w in ap (λ (file : List ℕ). length file) c.1 ∙ image_length c.0 c.2

pub no_fault : (seed : ℕ) → make_fault 256 (work_files seed) ≡ None
no_fault seed = file_fits (work_file (workload_of seed)) (work_length (workload_of seed))

-- so there is none but want of memory
pub no_other_fault : (seed : ℕ) (fault : MakeFault) → (fault ≢ make.NoMemory → make_fault 256 (work_files seed) ≡ Some fault) → IsMemoryFault fault
no_other_fault seed fault h = go fault (λ apart. let none = no_fault seed in let some = h apart in cc)
  where
    go : (f : MakeFault) → (f ≢ make.NoMemory → ⊥) → IsMemoryFault f
    go make.NoMemory h = tt
    go make.TooManyBlocks h = absurd (h (λ e. cc))
    go (make.BadName place) h = absurd (h (λ e. cc))
    go (make.TwiceNamed place) h = absurd (h (λ e. cc))
    go (make.TooLong place) h = absurd (h (λ e. cc))
    go make.NoRoom h = absurd (h (λ e. cc))

work_image : (w : Workload) → parsed (work_file w) ≡ Ok (layout_with (code w))
unfolding code
work_image w = let c = work_is_image w in ap (λ (file : List ℕ). parsed file) c.1 ∙ image_parsed c.0 (code_short w)

-- ---- what is found

-- the program
pub program : ℕ → Loadable
program seed = record { image = layout_with (code (workload_of seed)); file = work_file (workload_of seed) }

module _ (seed : ℕ) where
  abbrev disk : List ℕ
  disk = made_image 256 (work_files seed)

  sound : IsDiskImage (length disk) (slice_index disk)
  sound = made_is_disk 256 (work_files seed) (no_fault seed)

  its_files : tree_of (held_of disk) ≡ made_files 256 (work_files seed)
  its_files = held_trees disk sound ∙ made_has_files 256 (work_files seed) (no_fault seed)

  on_disk : (path : Word) → path.text ≡ codes "work" → image_on path (held_of disk) ≡ Ok (program seed)
  unfolding image_on program
  on_disk path is =
      let bytes = work_file (workload_of seed) in
      let read : read_at (tree_of (held_of disk)) path.text ≡ Ok bytes =
      (λ k. read_at (its_files k) (is k)) ∙ file_there bytes in
      ap (λ (r : Result (List ℕ) Errno). if_there r >>= (λ b. loadable_of path.place b (parsed b))) read
      ∙ ap (λ (r : Result Layout ElfFault). loadable_of path.place bytes r) (work_image (workload_of seed))

  found_on : (path : Word) (file : FileAt) → path.text ≡ codes "work" → file.bytes ≡ Some disk → program_on path file ≡ Ok (program seed)
  unfolding program_on
  found_on path file is stands =
      ap (λ (j : Judged HeldDisk). j >>= image_on path) (there file disk (fault_in (held_of disk)) stands refl (held_faults disk ∙ sound)) ∙ on_disk path is

-- ---- the run

-- the path fits on the stack
words_fit : fits_stack (codes "work" ∷ []) ≡ true
unfolding fits_stack stack_size strings_of
words_fit = refl

pub no_limit : (g : Gen) → limit_of_run (run_of_gen g) ≡ None
unfolding limit_of_run
no_limit g = rw words_fit refl

-- no schedule is named
pub own_schedule : schedule_of None ≡ Ok (1000 ∷ [])
unfolding schedule_of schedule.parsed schedule.read_from
own_schedule = refl

is_some : {X : Type 0} (o : Option X) (x : X) → o ≡ Some x → IsSome o
is_some o x e = rw e refl

-- the files with the disk that is made
abbrev pub made_in : Files → Gen → Files
made_in files g = with_bytes files g.disk.text (work_disk g.seed.value)

pub work_read : (g : Gen) (files : Files) → program_on (work_word g) (file_at (made_in files g) g.disk) ≡ Ok (program g.seed.value)
unfolding work_disk
work_read g files =
    let bytes = made_image 256 (work_files g.seed.value) in
    found_on g.seed.value (work_word g) (file_at (with_bytes files g.disk.text bytes) g.disk) refl
    (ap (λ b. cond b (Some bytes) (files g.disk.text)) (itself g.disk.text))

-- the frames are enough
pub work_begins : (g : Gen) (input : List ℕ) →
    IsSome (booted_within (program g.seed.value).image (program g.seed.value).file (texts_of (run_of_gen g)) (frames_of (numbers_of_run (run_of_gen g))) input)
unfolding program
work_begins g input =
    let w = workload_of g.seed.value in
    let begun = programs_boot (layout_with (code w)) (work_file w) (codes "work" ∷ []) 16384 input (work_image w) words_fit (few_frames (code w) (code_short w)) (omega arith) in
    is_some _ begun.0 begun.1

pub can_run_work : (g : Gen) (files : Files) (input : List ℕ) → CanGenerate g input → CanRunProgram (run_of_gen g) (run_found_in (made_in files g) (run_of_gen g)) input
can_run_work g files input can = record {
  words = no_limit g;
  schedule = rw own_schedule refl;
  image = program g.seed.value;
  read = work_read g files;
  short = can.short;
  frames = work_begins g input;
}
