-- How a service finds what its descriptor names: whether the region of descriptors' pages has a table, whether the descriptor is open, and
-- then the first word of its page. What is asked first, and of the entry, is as close asks.
-- (MIT 6.828, lab 5: lib/fd.c, fd_lookup and dev_lookup.)
use Rattle.std.specs.Prelude.{ℕ, ◌+◌, ◌||◌, not, nat_lt, if◌then◌else◌}
use Rattle.jos_base.specs.declared.numbers.TheConstants.{E_INVAL}
use Rattle.jos_base.specs.Words.{negated}
use Rattle.lib_os.specs.declared.numbers.TheConstants.{DESCRIPTORS, FD_DEVICE}
use Rattle.lib_os.specs.declared.place.Step.TheVariants as step
use Rattle.lib_stage.specs.declared.ask.Ask.{Ask}
use Rattle.lib_stage.specs.declared.ask.Ask.TheVariants as ask
use Rattle.lib_stage.specs.declared.ask.Next.{Next}
use Rattle.lib_stage.specs.declared.ask.Next.TheVariants as next
use Rattle.lib_fd.specs.DescriptorStages.{descriptor_va, is_there}

abbrev pub device_asked : ℕ → Ask
device_asked fd = ask.Load (descriptor_va fd + FD_DEVICE)

abbrev pub next_of_region : ℕ → ℕ → Next
next_of_region fd word =
    if not (nat_lt fd DESCRIPTORS) || not (is_there word) then next.Answer (negated E_INVAL) else next.GoOn (step.DescriptorEntry fd)

abbrev pub next_of_entry : ℕ → Next
next_of_entry word = if not (is_there word) then next.Answer (negated E_INVAL) else next.GoOn step.ReadingDevice
