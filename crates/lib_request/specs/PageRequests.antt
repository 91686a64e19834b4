-- What a service asks that asks the file server with a page, and what it does next, from where its page tells the request on.
use Rattle.std.specs.Prelude.{ℕ, ◌==◌, not, [], ◌∷◌, if◌then◌else◌}
use Rattle.jos_base.specs.declared.numbers.TheConstants.{E_IPC_NOT_RECV, FIRST_ENV_ID, SYS_IPC_RECV, SYS_IPC_TRY_SEND, SYS_PAGE_UNMAP, UTEMP, UTOP}
use Rattle.jos_base.specs.Words.{negated}
use Rattle.lib_os.specs.declared.place.Step.{Step}
use Rattle.lib_os.specs.declared.place.Step.TheVariants as step
use Rattle.lib_os.specs.LibrarySteps.{request_perm}
use Rattle.lib_stage.specs.declared.ask.Ask.{Ask}
use Rattle.lib_stage.specs.declared.ask.Ask.TheVariants as ask
use Rattle.lib_stage.specs.declared.ask.Next.{Next}
use Rattle.lib_stage.specs.declared.ask.Next.TheVariants as next

-- the word of its request, and its page
abbrev pub request_asked : ℕ → Ask
request_asked word = ask.System SYS_IPC_TRY_SEND (FIRST_ENV_ID ∷ word ∷ UTEMP ∷ request_perm ∷ 0 ∷ [])

-- It waits for the reply: a page that comes with it is put at this address, or none comes.
abbrev pub reply_asked_at : ℕ → Ask
reply_asked_at va = ask.System SYS_IPC_RECV (va ∷ FIRST_ENV_ID ∷ 0 ∷ 0 ∷ 0 ∷ [])

abbrev pub reply_asked : Ask
reply_asked = reply_asked_at UTOP

-- its page is given back
abbrev pub clearing_asked : Ask
clearing_asked = ask.System SYS_PAGE_UNMAP (0 ∷ UTEMP ∷ 0 ∷ 0 ∷ 0 ∷ [])

-- By the word that came: it may have asked in vain, or there may be no frame for a table of the server's.
abbrev pub next_by : Step → Step → ℕ → Next
next_by pausing awaiting word =
    if word == negated E_IPC_NOT_RECV then next.Wait pausing
    else if not (word == 0) then next.Answer word
    else next.Show awaiting

abbrev pub next_of_asking : ℕ → ℕ → Next
next_of_asking id word = next_by (step.Pausing id) (step.Awaiting id) word
