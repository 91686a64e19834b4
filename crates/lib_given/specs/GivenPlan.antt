-- spawn with what the program gives: what it asks at each step, and what it does next by the reply. It takes the addresses of the strings, then the strings, and
-- makes the page of the stack of them, from where the file is opened with the child's ESP.
use Rattle.std.specs.Prelude.{ℕ, ◌+◌, ◌-◌, ◌*◌, ◌%◌, ◌==◌, not, min, if◌then◌else◌}
use Rattle.jos_base.specs.declared.numbers.TheConstants.{PGSIZE}
use Rattle.jos_elf.specs.declared.numbers.TheConstants.{ARGS_MAX}
use Rattle.lib_os.specs.declared.numbers.TheConstants.{SERVICE_SPAWN, SPAWN_GIVEN, SPAWN_STACK}
use Rattle.lib_os.specs.declared.place.Step.TheVariants as step
use Rattle.lib_os.specs.declared.spawn_steps.GivenStep.{GivenStep}
use Rattle.lib_os.specs.declared.spawn_steps.GivenStep.TheVariants as given
use Rattle.lib_os.specs.declared.spawn_steps.OpeningStep.TheVariants as opening
use Rattle.lib_os.specs.declared.spawn_steps.SpawnStep.TheVariants as spawn
use Rattle.lib_os.specs.UserCalls.{answer_of}
use Rattle.lib_stage.specs.declared.ask.Ask.{Ask}
use Rattle.lib_stage.specs.declared.ask.Ask.TheVariants as ask
use Rattle.lib_stage.specs.declared.ask.Next.{Next}
use Rattle.lib_stage.specs.declared.ask.Next.TheVariants as next
use Rattle.lib_stage.specs.ServiceSteps.{Plan}
use Rattle.lib_fd.specs.DescriptorStages.{is_there}
use Rattle.lib_file.specs.Buffers.{entry_asked, region_asked}
use Rattle.lib_file.specs.Keeping.{next_va}
use Rattle.lib_given.specs.declared.given.Given.{Given}
use Rattle.lib_given.specs.declared.stack.TheConstants.{STACK_VA}
use Rattle.lib_given.specs.Addresses.{address_asked, address_va, at_address, behind_kept, next_of_address}
use Rattle.lib_given.specs.Refusals.{at_given, kept_va, page_asked, path_refused_with, refused_with}
use Rattle.lib_given.specs.StackWords.{addresses_place, behind_copy, byte_place}
use Rattle.lib_given.specs.Strings.{behind_byte, behind_strings, keeping_asked, next_of_string, string_asked}

-- ---- what it asks

abbrev pub ask_of : ℕ → GivenStep → Ask
ask_of argv given.TakingGiven = page_asked SPAWN_GIVEN
ask_of argv (given.AddressRegion index done word) = region_asked (address_va argv index done)
ask_of argv (given.AddressEntry index done word) = entry_asked (address_va argv index done)
ask_of argv (given.AddressLoading index done word) = address_asked argv index done
ask_of argv (given.AddressFaulting index done) = ask.LoadByte (address_va argv index done)
ask_of argv (given.AddressKeeping index word) = ask.Store (kept_va index) word
ask_of argv (given.StringAddress index used) = ask.Load (kept_va index)
ask_of argv (given.StringRegion index address used done) = region_asked (next_va address done)
ask_of argv (given.StringEntry index address used done) = entry_asked (next_va address done)
ask_of argv (given.StringLoading index address used done) = string_asked address done
ask_of argv (given.StringFaulting address done) = ask.LoadByte (next_va address done)
ask_of argv (given.StringKeeping index address used done word left) = keeping_asked used done word
ask_of argv (given.TakingStack count size) = page_asked SPAWN_STACK
ask_of argv (given.StringFirst count size index copied) =
    ask.Store (SPAWN_STACK + addresses_place count size + 4 * min index ARGS_MAX) (STACK_VA + byte_place size copied)
ask_of argv (given.StringCopying count size index copied) = ask.LoadByte (SPAWN_GIVEN + copied % PGSIZE)
ask_of argv (given.StringPutting count size index copied byte) = ask.StoreByte (SPAWN_STACK + byte_place size copied) (byte % 256)
ask_of argv (given.StoringArgv count size) = ask.Store (SPAWN_STACK + (addresses_place count size - 4)) (STACK_VA + addresses_place count size)
ask_of argv (given.StoringArgc count size) = ask.Store (SPAWN_STACK + (addresses_place count size - 8)) count

-- ---- what it does next

abbrev pub next_of : ℕ → GivenStep → ℕ → Next
next_of argv given.TakingGiven word =
    if not (word == 0) then next.GoOn (path_refused_with word) else next.GoOn (at_address argv 0 0 0)
next_of argv (given.AddressRegion index done bytes) word =
    if not (is_there word) then next.GoOn (at_given (given.AddressFaulting index done)) else next.GoOn (at_given (given.AddressEntry index done bytes))
next_of argv (given.AddressEntry index done bytes) word =
    if not (is_there word) then next.GoOn (at_given (given.AddressFaulting index done)) else next.GoOn (at_given (given.AddressLoading index done bytes))
next_of argv (given.AddressLoading index done bytes) word = next_of_address argv index done bytes word
next_of argv (given.AddressFaulting index done) word = next.Gone
next_of argv (given.AddressKeeping index address) word = next.GoOn (behind_kept argv index address)
next_of argv (given.StringAddress index used) word = next.GoOn (behind_strings index used word)
next_of argv (given.StringRegion index address used done) word =
    if not (is_there word) then next.GoOn (at_given (given.StringFaulting address done))
    else next.GoOn (at_given (given.StringEntry index address used done))
next_of argv (given.StringEntry index address used done) word =
    if not (is_there word) then next.GoOn (at_given (given.StringFaulting address done))
    else next.GoOn (at_given (given.StringLoading index address used done))
next_of argv (given.StringLoading index address used done) word = next_of_string index address used done word
next_of argv (given.StringFaulting address done) word = next.Gone
next_of argv (given.StringKeeping index address used done kept left) word = next.GoOn (behind_byte index address used done kept left)
next_of argv (given.TakingStack count size) word =
    if not (word == 0) then next.GoOn (refused_with word) else next.GoOn (at_given (given.StringFirst count size 0 0))
next_of argv (given.StringFirst count size index copied) word = next.GoOn (at_given (given.StringCopying count size index copied))
next_of argv (given.StringCopying count size index copied) byte = next.GoOn (at_given (given.StringPutting count size index copied byte))
next_of argv (given.StringPutting count size index copied byte) word = next.GoOn (behind_copy count size index copied byte)
next_of argv (given.StoringArgv count size) word = next.GoOn (at_given (given.StoringArgc count size))
next_of argv (given.StoringArgc count size) word =
    next.GoOn (step.Spawning (spawn.Opening (opening.FreeRegion (STACK_VA + (addresses_place count size - 8)))))

-- ---- the plan

abbrev pub giving : Given → Plan
giving it = record {
  number = SERVICE_SPAWN;
  asks = ask_of it.argv it.at;
  next = λ called. next_of it.argv it.at (answer_of called);
}
