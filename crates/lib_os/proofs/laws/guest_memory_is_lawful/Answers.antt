use Rattle.lib_os.proofs.GuestMemory.{guest_memory_is_lawful}
use Rattle.lib_os.proofs.laws.guest_memory_is_lawful.Goals as goal

pub returns : goal.returns
returns c = guest_memory_is_lawful
