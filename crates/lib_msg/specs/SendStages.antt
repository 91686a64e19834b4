-- send: what it asks at each stage, and what it does next by the reply.
use Rattle.std.specs.Prelude.{ℕ, ◌+◌, ◌*◌, ◌/◌, ◌==◌, ◌&&◌, ◌||◌, not, Bool, [], ◌∷◌, Option, Some, None, bit_and, if◌then◌else◌}
use Rattle.std.specs.Option.{option_map}
use Rattle.jos_base.specs.declared.numbers.TheConstants.{E_INVAL, E_IPC_NOT_RECV, FIRST_ENV_ID, NPTENTRIES, PGSIZE, PTE_P, PTE_SYSCALL, UVPT}
use Rattle.jos_base.specs.declared.numbers.TheConstants.{SYS_GETENVID, SYS_IPC_TRY_SEND, SYS_YIELD}
use Rattle.jos_base.specs.Words.{negated}
use Rattle.lib_os.specs.declared.numbers.TheConstants.{SERVICE_SEND, UVPD}
use Rattle.lib_os.specs.declared.place.Step.{Step}
use Rattle.lib_os.specs.declared.place.Step.TheVariants as step
use Rattle.lib_os.specs.Fence.{is_page_inside}
use Rattle.lib_os.specs.Rows.{is_shared, may_write}
use Rattle.lib_os.specs.StandsFor.{destination_of}
use Rattle.lib_os.specs.UserCalls.{answer_of}
use Rattle.lib_stage.specs.declared.ask.Ask.{Ask}
use Rattle.lib_stage.specs.declared.ask.Ask.TheVariants as ask
use Rattle.lib_stage.specs.declared.ask.Next.{Next}
use Rattle.lib_stage.specs.declared.ask.Next.TheVariants as next
use Rattle.lib_stage.specs.Asks.{no_args}
use Rattle.lib_stage.specs.ServiceSteps.{Plan}
use Rattle.lib_msg.specs.declared.send.Send.{Send}
use Rattle.lib_msg.specs.declared.send.SendStage.{SendStage}
use Rattle.lib_msg.specs.declared.send.SendStage.TheVariants as stage

-- ---- stages

-- the stage of send that is kept as a step, if it is one of send's
abbrev pub stage_at : Step → Option SendStage
stage_at step.Entered = Some stage.Entered
stage_at step.ReadingRegion = Some stage.ReadingRegion
stage_at step.ReadingEntry = Some stage.ReadingEntry
stage_at (step.Trying perm) = Some (stage.Trying perm)
stage_at (step.Pausing perm) = Some (stage.Pausing perm)
stage_at _ = None

abbrev pub send_at : ℕ → ℕ → ℕ → Step → Option Send
send_at id value va step = option_map (λ at. record { id = id; value = value; va = va; at = at }) (stage_at step)

-- ---- what it asks

abbrev pub ask_of : ℕ → ℕ → ℕ → SendStage → Ask
ask_of id value va stage.Entered = ask.System SYS_GETENVID no_args
ask_of id value va stage.ReadingRegion = ask.Load (UVPD + 4 * (va / PGSIZE / NPTENTRIES))
ask_of id value va stage.ReadingEntry = ask.Load (UVPT + 4 * (va / PGSIZE))
ask_of id value va (stage.Trying perm) = ask.System SYS_IPC_TRY_SEND (id ∷ value ∷ destination_of va ∷ perm ∷ 0 ∷ [])
ask_of id value va (stage.Pausing perm) = ask.System SYS_YIELD no_args

-- ---- what it does next

-- who may send to whom: to no one with id 0, nor to itself or to the server
abbrev pub may_name : ℕ → ℕ → Bool
may_name id own = not (id == 0) && (not (id == own) && not (id == FIRST_ENV_ID))

-- The page of an entry's word is there and may pass: it is shared, or may not be written, neither where it stands nor as a copy
-- of it.
abbrev pub may_pass : ℕ → Bool
may_pass word =
    (bit_and word PTE_P == PTE_P) && (is_shared (bit_and word PTE_SYSCALL) || not (may_write (bit_and word PTE_SYSCALL)))

-- by the word that came
abbrev pub next_of : ℕ → ℕ → SendStage → ℕ → Next
next_of id va stage.Entered own =
    if not (may_name id own) then next.Answer (negated E_INVAL)
    else if va == 0 then next.GoOn (step.Trying 0)
    else if not (is_page_inside va) then next.Answer (negated E_INVAL)
    else next.GoOn step.ReadingRegion
next_of id va stage.ReadingRegion word =
    if not (bit_and word PTE_P == PTE_P) then next.Answer (negated E_INVAL) else next.GoOn step.ReadingEntry
next_of id va stage.ReadingEntry word =
    if not (may_pass word) then next.Answer (negated E_INVAL) else next.GoOn (step.Trying (bit_and word PTE_SYSCALL))
next_of id va (stage.Trying perm) word =
    if word == negated E_IPC_NOT_RECV then next.Wait (step.Pausing perm) else next.Answer word
next_of id va (stage.Pausing perm) word = next.GoOn (step.Trying perm)

-- ---- the plan

abbrev pub sending : Send → Plan
sending s = record {
  number = SERVICE_SEND;
  asks = ask_of s.id s.value s.va s.at;
  next = λ called. next_of s.id s.va s.at (answer_of called);
}
