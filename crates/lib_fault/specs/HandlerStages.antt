-- The handler of page faults: what it asks at each step, and what it does next by the reply.
-- (MIT 6.828, lib/fork.c: pgfault. That a fault it can't mend is raised again is this system's own.)
use Rattle.std.specs.Prelude.{ℕ, ◌+◌, ◌-◌, ◌*◌, ◌/◌, ◌%◌, ◌==◌, ◌&&◌, not, Bool, [], ◌∷◌, nat_lt, bit_and, if◌then◌else◌}
use Rattle.jos_base.specs.declared.numbers.TheConstants.{FEC_PR, FEC_U, FEC_WR, PGSIZE, PTE_P, PTE_SYSCALL, PTE_U, PTE_W, UVPT}
use Rattle.jos_base.specs.declared.numbers.TheConstants.{SYS_ENV_SET_PGFAULT_UPCALL, SYS_PAGE_ALLOC, SYS_PAGE_MAP, SYS_PAGE_UNMAP}
use Rattle.lib_os.specs.declared.numbers.TheConstants.{PAGE_WORDS, PFTEMP, SERVICES}
use Rattle.lib_os.specs.declared.place.HandlerStep.{HandlerStep}
use Rattle.lib_os.specs.declared.place.HandlerStep.TheVariants as handler
use Rattle.lib_os.specs.LibraryPages.{frame_place}
use Rattle.lib_os.specs.Rows.{is_cow, is_shared}
use Rattle.lib_os.specs.StandsInHandler.{is_write}
use Rattle.lib_os.specs.UserCalls.{answer_of}
use Rattle.lib_stage.specs.declared.ask.Ask.{Ask}
use Rattle.lib_stage.specs.declared.ask.Ask.TheVariants as ask
use Rattle.lib_stage.specs.declared.ask.Next.{Next}
use Rattle.lib_stage.specs.declared.ask.Next.TheVariants as next
use Rattle.lib_stage.specs.ServiceSteps.{Plan}

-- ---- what it asks

-- the address of a word of the frame: 0 is the address of the fault, 1 its error code, 10 EIP
-- (MIT 6.828, inc/trap.h: struct UTrapframe)
abbrev pub frame_word : ℕ → ℕ
frame_word word = frame_place + 4 * word

-- where the page of an address begins
abbrev pub page_start : ℕ → ℕ
page_start va = va / PGSIZE * PGSIZE

-- the address of a word of the page that begins there
abbrev pub word_of_page : ℕ → ℕ → ℕ
word_of_page start index = start + 4 * (index % PAGE_WORDS)

-- the bits of a copy: its environment may read it and write it
abbrev pub copy_perm : ℕ
copy_perm = PTE_P + PTE_U + PTE_W

-- the error code of a write that the entry of its page has refused
abbrev pub refused_write : ℕ
refused_write = FEC_U + FEC_PR + FEC_WR

abbrev pub ask_of : HandlerStep → Ask
ask_of handler.Entered = ask.Load (frame_word 0)
ask_of (handler.ReadingError va) = ask.Load (frame_word 1)
ask_of (handler.Looking va) = ask.Load (UVPT + 4 * (va / PGSIZE))
ask_of (handler.Taking va) = ask.System SYS_PAGE_ALLOC (0 ∷ PFTEMP ∷ copy_perm ∷ 0 ∷ 0 ∷ [])
ask_of (handler.Loading va index) = ask.Load (word_of_page (page_start va) index)
ask_of (handler.Storing va index word) = ask.Store (word_of_page PFTEMP index) word
ask_of (handler.MappingOver va) = ask.System SYS_PAGE_MAP (0 ∷ PFTEMP ∷ 0 ∷ page_start va ∷ copy_perm ∷ [])
ask_of (handler.Unmapping va) = ask.System SYS_PAGE_UNMAP (0 ∷ PFTEMP ∷ 0 ∷ 0 ∷ 0 ∷ [])
ask_of handler.Restoring = ask.RestoreFrame
ask_of (handler.ReadingIp va error) = ask.Load (frame_word 10)
ask_of (handler.Unsetting va error ip) = ask.System SYS_ENV_SET_PGFAULT_UPCALL (0 ∷ 0 ∷ 0 ∷ 0 ∷ 0 ∷ [])
ask_of (handler.Touching va error ip) = ask.Touch ip va (is_write error)

-- ---- what it does next

-- the page of an entry's word is there, and waits to be copied
abbrev pub waits_to_be_copied : ℕ → Bool
waits_to_be_copied word =
    (bit_and word PTE_P == PTE_P) && (is_cow (bit_and word PTE_SYSCALL) && not (is_shared (bit_and word PTE_SYSCALL)))

-- by the word that came
abbrev pub next_of : HandlerStep → ℕ → Next
next_of handler.Entered word = next.Handle (handler.ReadingError word)
next_of (handler.ReadingError va) word =
    if not (word == refused_write) then next.Handle (handler.ReadingIp va word) else next.Handle (handler.Looking va)
next_of (handler.Looking va) word =
    if not (waits_to_be_copied word) then next.Handle (handler.ReadingIp va refused_write) else next.Handle (handler.Taking va)
next_of (handler.Taking va) word =
    if not (word == 0) then next.Handle (handler.ReadingIp va refused_write) else next.Handle (handler.Loading va 0)
next_of (handler.Loading va index) word = next.Handle (handler.Storing va index word)
next_of (handler.Storing va index stored) word =
    if nat_lt index (PAGE_WORDS - 1) then next.Handle (handler.Loading va (index + 1)) else next.Handle (handler.MappingOver va)
next_of (handler.MappingOver va) word = next.Handle (handler.Unmapping va)
next_of (handler.Unmapping va) word = next.Handle handler.Restoring
next_of handler.Restoring word = next.Leave
next_of (handler.ReadingIp va error) word = next.Handle (handler.Unsetting va error word)
next_of (handler.Unsetting va error ip) word = next.Handle (handler.Touching va error ip)
next_of (handler.Touching va error ip) word = next.Gone

-- ---- the plan

-- It has the number of no service.
abbrev pub handling : HandlerStep → Plan
handling step = record { number = SERVICES; asks = ask_of step; next = λ called. next_of step (answer_of called) }
