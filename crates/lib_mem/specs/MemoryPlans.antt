-- The services of this crate: what they ask, and what they do next by the reply.
use Rattle.std.specs.Prelude.{ℕ, ◌+◌, ◌||◌, nat_lt, not, Bool, true, false, [], ◌∷◌, Option, Some, None, if◌then◌else◌}
use Rattle.jos_base.specs.declared.called.Called.{Called}
use Rattle.jos_base.specs.declared.called.Called.TheVariants.{Answered}
use Rattle.jos_base.specs.declared.numbers.TheConstants.{CPUTS_MAX, E_INVAL, PTE_P, PTE_U, PTE_W, SYS_CPUTS, SYS_GETENVID, SYS_PAGE_ALLOC, SYS_PAGE_UNMAP, SYS_YIELD}
use Rattle.jos_base.specs.Words.{negated, has_bit}
use Rattle.lib_os.specs.declared.numbers.TheConstants.{PTE_SHARE, SERVICES, SERVICE_CPUTS, SERVICE_GETID, SERVICE_PAGE_DROP, SERVICE_PAGE_NEW, SERVICE_YIELD}
use Rattle.lib_os.specs.declared.service.Service.{Service}
use Rattle.lib_os.specs.declared.service.Service.TheVariants as service
use Rattle.lib_os.specs.Fence.{is_buffer, is_page_inside}
use Rattle.lib_stage.specs.declared.ask.Ask.{Ask}
use Rattle.lib_stage.specs.declared.ask.Ask.TheVariants as ask
use Rattle.lib_stage.specs.declared.ask.Next.{Next}
use Rattle.lib_stage.specs.declared.ask.Next.TheVariants as next
use Rattle.lib_stage.specs.Asks.{no_args}
use Rattle.lib_stage.specs.ServiceSteps.{Plan}
use Rattle.lib_mem.specs.declared.services.MemoryService.{MemoryService}
use Rattle.lib_mem.specs.declared.services.MemoryService.TheVariants as memory

-- the services of this crate
abbrev pub memory_service : Service → Option MemoryService
memory_service (service.Cputs va len) = Some (memory.Cputs va len)
memory_service service.GetId = Some memory.GetId
memory_service service.Yield = Some memory.Yield
memory_service (service.PageNew va flags) = Some (memory.PageNew va flags)
memory_service (service.PageDrop va) = Some (memory.PageDrop va)
memory_service service.Unknown = Some memory.Unknown
memory_service _ = None

abbrev pub service_number : MemoryService → ℕ
service_number (memory.Cputs va len) = SERVICE_CPUTS
service_number memory.GetId = SERVICE_GETID
service_number memory.Yield = SERVICE_YIELD
service_number (memory.PageNew va flags) = SERVICE_PAGE_NEW
service_number (memory.PageDrop va) = SERVICE_PAGE_DROP
service_number memory.Unknown = SERVICES

-- what is refused for what stands in the registers alone
abbrev pub is_refused : MemoryService → Bool
is_refused (memory.Cputs va len) = nat_lt CPUTS_MAX len || not (is_buffer va len)
is_refused (memory.PageNew va flags) = nat_lt 3 flags || not (is_page_inside va)
is_refused (memory.PageDrop va) = not (is_page_inside va)
is_refused memory.Unknown = true
is_refused memory.GetId = false
is_refused memory.Yield = false

-- the bits of the entry of a page that is made by these flags
abbrev pub perm_of_flags : ℕ → ℕ
perm_of_flags flags =
    (PTE_P + PTE_U + (if has_bit flags 1 then PTE_W else 0)) + (if has_bit flags 2 then PTE_SHARE else 0)

abbrev pub ask_of : MemoryService → Ask
ask_of (memory.Cputs va len) = ask.System SYS_CPUTS (va ∷ len ∷ 0 ∷ 0 ∷ 0 ∷ [])
ask_of memory.GetId = ask.System SYS_GETENVID no_args
ask_of memory.Yield = ask.System SYS_YIELD no_args
ask_of (memory.PageNew va flags) = ask.System SYS_PAGE_ALLOC (0 ∷ va ∷ perm_of_flags flags ∷ 0 ∷ 0 ∷ [])
ask_of (memory.PageDrop va) = ask.System SYS_PAGE_UNMAP (0 ∷ va ∷ 0 ∷ 0 ∷ 0 ∷ [])
ask_of memory.Unknown = ask.System SYS_GETENVID no_args

-- the call's answer is the service's, and where the call ended the environment, so has the service
abbrev pub passed_on : Called → Next
passed_on (Answered word) = next.Answer word
passed_on _ = next.Gone

-- each step makes one call, also where it is refused
abbrev pub plan_by : Bool → MemoryService → Plan
plan_by true m = record { number = service_number m; asks = ask.System SYS_GETENVID no_args; next = λ called. next.Answer (negated E_INVAL) }
plan_by false m = record { number = service_number m; asks = ask_of m; next = passed_on }

abbrev pub memory_plan : MemoryService → Plan
memory_plan m = plan_by (is_refused m) m
