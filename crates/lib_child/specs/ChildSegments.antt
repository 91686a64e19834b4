-- The segments of spawn's child, which the program headers tell that it has copied into its page at SPAWN_GIVEN: which pages a segment
-- has, and where spawn goes on with the next segment.
use Rattle.std.specs.Prelude.{ℕ, ◌+◌, ◌-◌, ◌%◌, ◌^◌, nat_lt, if◌then◌else◌}
use Rattle.jos_base.specs.declared.numbers.TheConstants.{PTE_P, PTE_U, PTE_W}
use Rattle.jos_base.specs.Words.{page_number}
use Rattle.lib_os.specs.declared.spawn_steps.BearingStep.TheVariants as bearing
use Rattle.lib_os.specs.declared.spawn_steps.FinishingStep.TheVariants as finishing
use Rattle.lib_os.specs.declared.spawn_steps.SpawnStep.{SpawnStep}
use Rattle.lib_os.specs.declared.spawn_steps.SpawnStep.TheVariants as spawn

-- the last page of a segment that begins at an address and has so much memory; its first is that of the address
abbrev pub last_page : ℕ → ℕ → ℕ
last_page va memory = page_number ((va + (memory - 1)) % 2 ^ 32)

-- the bits of a page that may be written, and of one that may only be read
abbrev pub writable_perm : ℕ
writable_perm = PTE_P + PTE_U + PTE_W

abbrev pub readable_perm : ℕ
readable_perm = PTE_P + PTE_U

-- ---- where it goes on: at the program header of a number, or, where there is none, at what comes behind the last

-- the rights of pages, and then what the child has beside its segments
abbrev pub rights_from : ℕ → ℕ → ℕ → ℕ → SpawnStep
rights_from fd headers child header =
    if nat_lt header headers then spawn.Finishing (finishing.RightsKind fd headers child header) else spawn.Finishing (finishing.ChildStack fd child)

-- the bytes of the segments, and then the rights
abbrev pub pieces_from : ℕ → ℕ → ℕ → ℕ → SpawnStep
pieces_from fd headers child header =
    if nat_lt header headers then spawn.Bearing (bearing.PieceKind fd headers child header) else rights_from fd headers child 0

-- the pages of the segments, and then the bytes
abbrev pub pages_from : ℕ → ℕ → ℕ → ℕ → SpawnStep
pages_from fd headers child header =
    if nat_lt header headers then spawn.Bearing (bearing.PlacingKind fd headers child header) else pieces_from fd headers child 0
