-- The memory with which a program begins: the pages of its image, and that of its stack, on which its words stand.
-- (MIT 6.828, load_icode of kern/env.c, and init_stack of lib/spawn.c.)
use Rattle.std.specs.Prelude.{ℕ, ◌==◌, true, List, [], ◌∷◌, Option, Some, None, if◌then◌else◌}
use Rattle.jos_elf.specs.declared.image.Segment.{Segment}
use Rattle.jos_elf.specs.Pages.{any_touches, any_writes, page_bytes, stack_page}
use Rattle.jos_elf.specs.StackPage.{stack_contents}
use Rattle.jos_elf.specs.Started.{stack_segment}
use Rattle.lib_os.specs.AbstractState.{Page, own}

-- the page of this number, if a segment touches it
abbrev pub page_of : List Segment → List ℕ → ℕ → Option Page
page_of segments file number =
    if any_touches number segments then Some (own (page_bytes segments file number) (any_writes number segments)) else None

abbrev pub stack_of : List (List ℕ) → Page
stack_of words = own (page_bytes (stack_segment words ∷ []) (stack_contents words) stack_page) true

-- the pages of the image, and that of the stack
abbrev pub program_memory : List Segment → List ℕ → List (List ℕ) → ℕ → Option Page
program_memory segments file words number =
    if number == stack_page then Some (stack_of words) else page_of segments file number
