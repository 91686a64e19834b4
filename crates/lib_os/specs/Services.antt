-- Which service a program asks for by INT 0x40. Its number stands in EAX, what it is given in EDX, ECX and EBX, in this
-- order, and it answers in EAX. (The numbers are this system's own.)
use Rattle.std.specs.Prelude.{ℕ, ◌==◌, nat_le, Bool, if◌then◌else◌}
use Rattle.jos_base.specs.declared.registers.Regs.{Regs}
use Rattle.lib_os.specs.declared.numbers.TheConstants.{SERVICE_EXIT, SERVICE_CPUTS, SERVICE_GETID, SERVICE_YIELD}
use Rattle.lib_os.specs.declared.numbers.TheConstants.{SERVICE_FORK, SERVICE_WAIT, SERVICE_PAGE_NEW, SERVICE_PAGE_DROP}
use Rattle.lib_os.specs.declared.numbers.TheConstants.{SERVICE_SEND, SERVICE_RECEIVE, SERVICE_OPEN_FILE, SERVICE_CLOSE}
use Rattle.lib_os.specs.declared.numbers.TheConstants.{SERVICE_READ, SERVICE_WRITE, SERVICE_SEEK, SERVICE_STAT}
use Rattle.lib_os.specs.declared.numbers.TheConstants.{SERVICE_SET_SIZE, SERVICE_REMOVE, SERVICE_SYNC, SERVICE_DUP}
use Rattle.lib_os.specs.declared.numbers.TheConstants.{SERVICE_PIPE, SERVICE_SPAWN}
use Rattle.lib_os.specs.declared.service.Service.{Service}
use Rattle.lib_os.specs.declared.service.Service.TheVariants as service

-- what runs, what it knows of itself, and messages
abbrev pub first_services : Regs → Service → Service
first_services r rest =
    if r.eax == SERVICE_EXIT then service.Exit
    else if r.eax == SERVICE_CPUTS then service.Cputs r.edx r.ecx
    else if r.eax == SERVICE_GETID then service.GetId
    else if r.eax == SERVICE_YIELD then service.Yield
    else if r.eax == SERVICE_FORK then service.Fork
    else if r.eax == SERVICE_WAIT then service.Wait r.edx
    else if r.eax == SERVICE_PAGE_NEW then service.PageNew r.edx r.ecx
    else if r.eax == SERVICE_PAGE_DROP then service.PageDrop r.edx
    else if r.eax == SERVICE_SEND then service.Send r.edx r.ecx r.ebx
    else if r.eax == SERVICE_RECEIVE then service.Receive r.edx r.ecx
    else rest

-- descriptors, files, pipes and programs
abbrev pub last_services : Regs → Service
last_services r =
    if r.eax == SERVICE_OPEN_FILE then service.OpenFile r.edx r.ecx
    else if r.eax == SERVICE_CLOSE then service.Close r.edx
    else if r.eax == SERVICE_READ then service.Read r.edx r.ecx r.ebx
    else if r.eax == SERVICE_WRITE then service.Write r.edx r.ecx r.ebx
    else if r.eax == SERVICE_SEEK then service.Seek r.edx r.ecx
    else if r.eax == SERVICE_STAT then service.Stat r.edx r.ecx
    else if r.eax == SERVICE_SET_SIZE then service.SetSize r.edx r.ecx
    else if r.eax == SERVICE_REMOVE then service.Remove r.edx
    else if r.eax == SERVICE_SYNC then service.Sync
    else if r.eax == SERVICE_DUP then service.Dup r.edx r.ecx
    else if r.eax == SERVICE_PIPE then service.Pipe
    else if r.eax == SERVICE_SPAWN then service.Spawn r.edx r.ecx
    else service.Unknown

-- the service of a number in this list
unfoldable pub named_service : Regs → Service
named_service r = first_services r (last_services r)

-- the numbers that name a service
abbrev pub is_built : ℕ → Bool
is_built number = nat_le number SERVICE_SPAWN

unfoldable pub service_of : Regs → Service
service_of r = if is_built r.eax then named_service r else service.Unknown
