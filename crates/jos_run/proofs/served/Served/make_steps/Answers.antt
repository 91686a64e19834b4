use Rattle.std.proofs.Common.{◌≡◌, ◌∙◌, ℕ, true, false, Option, sym, subst}
use Rattle.jos_host.specs.Frames.{around}
use Rattle.jos_base.specs.KernelState.{slot_at}
use Rattle.lib_os.specs.declared.place.Place.{Place}
use Rattle.lib_os.specs.declared.place.Place.TheVariants as place
use Rattle.lib_os.specs.Disk.{Disk, DiskFile}
use Rattle.lib_os.specs.LibrarySteps.{GivesUp}
use Rattle.lib_os.specs.Places.{place_of}
use Rattle.lib_fault.proofs.HandlerLaw.{handler_holds}
use Rattle.lib_stage.specs.ServiceSteps.{IsServiceStep, Plan}
use Rattle.jos_run.specs.Served.{kernel_state}
use Rattle.jos_run.specs.ServerStands.{IsWholeStep}
use Rattle.jos_run.specs.Steps.{Raises, is_servers}
use Rattle.jos_run.specs.StepsAtOnce.{MakesSteps}
use Rattle.jos_run.specs.Worlds.{beside, told_disk}
use Rattle.jos_run.proofs.AwaitsReply.{handler_calm, service_calm}
use Rattle.jos_run.proofs.HostTouched.{came_whole, rest_touches, rest_whole, same_disk}
use Rattle.jos_run.proofs.LibraryMade.{library_made, server_made, server_rest}
use Rattle.jos_run.proofs.Printed.{printed}
use Rattle.jos_run.proofs.ServerSteps.{server_keeps, server_leaves}
use Rattle.jos_run.proofs.ServicesHold.{services_hold}
use Rattle.jos_run.proofs.served.Served.make_steps.Goals as goal

pub returns-then-is_server-clause-made : goal.returns-then-is_server-clause-made
returns-then-is_server-clause-made g c =
    let n = c.args.self.now.slot in
    let s = kernel_state c.args.self.now in
    let done = c.server_step-answer in
    let after = kernel_state done.new.os in
    let files = around g.H.Host.files c.args.host.now done.new.host in
    let disk = c.args.self.now.disk in
    let output = printed (around g.H.Host.console c.args.host.now done.new.host) c.args.self.now.written done.new.os.written in
    let server : is_servers s n ≡ true = sym c.is_server.ensures ∙ c.if-is_server.true in
    let before = told_disk files.before disk in
    let behind = told_disk files.after done.new.os.disk in
    server_made before behind s after n output server done.result c.came_with.result c.came_with.ensures.answer c.came_with.ensures.trap
    (subst (λ (d : DiskFile). IsWholeStep done.result n (beside s before) (beside after (told_disk files.after d)) output) (sym done.ensures.disk)
    (server_keeps done.result disk n s after files output c.keep_words.ensures done.ensures.step done.ensures.made server c.requires.awake
    done.ensures.in_order done.ensures.failed))
    (server_rest before behind s after n output server done.result disk files done.ensures.made)
    (server_leaves done.result disk n s after files output c.keep_words.ensures done.ensures.step done.ensures.made)

pub run_program-requires-clause-at : goal.run_program-requires-clause-at
run_program-requires-clause-at g c =
    rw (← c.registers-registers.ensures, ← c.extra-words.ensures) (sym c.find_place.ensures ∙ c.in-Guest.is)

pub drive-answer-requires-clause-holds : goal.drive-answer-requires-clause-holds
drive-answer-requires-clause-holds g c =
    let slot = slot_at (kernel_state c.args.self.now) c.args.self.now.slot in
    let is : place_of slot ≡ place.InService c.in-InService.service c.in-InService.step =
    rw (← c.registers-registers.ensures, ← c.extra-words.ensures) (sym c.find_place.ensures ∙ c.in-InService.is) in
    rw c.stage_of.ensures (services_hold (kernel_state c.args.self.now) c.args.self.now.slot c.requires.live c.requires.awake
    c.keep_small.ensures c.in-InService.step c.in-InService.service is)

pub drive-handled-requires-clause-holds : goal.drive-handled-requires-clause-holds
drive-handled-requires-clause-holds g c =
    let slot = slot_at (kernel_state c.args.self.now) c.args.self.now.slot in
    let is : place_of slot ≡ place.InHandler c.in-InHandler.step =
    rw (← c.registers-registers.ensures, ← c.extra-words.ensures) (sym c.find_place.ensures ∙ c.in-InHandler.is) in
    handler_holds (kernel_state c.args.self.now) c.args.self.now.slot c.requires.live c.in-InHandler.step is

pub returns-in-InService-clause-made : goal.returns-in-InService-clause-made
returns-in-InService-clause-made g c =
    let n = c.args.self.now.slot in
    let s = kernel_state c.args.self.now in
    let after = kernel_state c.drive-answer.new.os in
    let output = printed (around g.H.Host.console c.args.host.now c.drive-answer.new.host) c.args.self.now.written c.drive-answer.new.os.written in
    let is : place_of (slot_at s n) ≡ place.InService c.in-InService.service c.in-InService.step =
    rw (← c.registers-registers.ensures, ← c.extra-words.ensures) (sym c.find_place.ensures ∙ c.in-InService.is) in
    let user : is_servers s n ≡ false = sym c.is_server.ensures ∙ c.if-is_server.false in
    let same : c.drive-answer.new.os.slot ≡ n = c.drive-answer.ensures.one.same in
    let disk = told_disk (g.H.Host.files c.args.host.now) c.args.self.now.disk in
    let told : disk ≡ told_disk (g.H.Host.files c.drive-answer.new.host) c.drive-answer.new.os.disk =
    same_disk c.drive-answer.ensures.rest.first c.drive-answer.ensures.disk in
    subst (λ (d : Option Disk). MakesSteps n 0 c.came_with-in-InService.result (beside s disk) (beside after d) output) told
    (library_made disk s after n output user c.requires.awake c.raised_by-trap.result
    (subst (λ (p : Place). Raises p n s c.raised_by-trap.result after) (sym is) c.raised_by-trap.ensures)
    c.keep_words.ensures.counted c.drive-answer.result c.came_with-in-InService.result c.came_with-in-InService.ensures.answer c.came_with-in-InService.ensures.trap
    c.drive-answer.ensures.step c.drive-answer.ensures.leaves c.drive-answer.ensures.lowers
    (subst (λ (m : ℕ). GivesUp c.drive-answer.result (slot_at s n) (slot_at after m)) same c.drive-answer.ensures.gives_up)
    c.drive-answer.ensures.by_place
    (service_calm s n c.requires.live after output c.in-InService.service c.in-InService.step is c.drive-answer.result
    (subst (λ (p : Plan). IsServiceStep c.drive-answer.result s n p after output) c.stage_of.ensures c.drive-answer.ensures.made)))

pub returns-in-InHandler-clause-made : goal.returns-in-InHandler-clause-made
returns-in-InHandler-clause-made g c =
    let n = c.args.self.now.slot in
    let s = kernel_state c.args.self.now in
    let after = kernel_state c.drive-handled.new.os in
    let output = printed (around g.H.Host.console c.args.host.now c.drive-handled.new.host) c.args.self.now.written c.drive-handled.new.os.written in
    let is : place_of (slot_at s n) ≡ place.InHandler c.in-InHandler.step =
    rw (← c.registers-registers.ensures, ← c.extra-words.ensures) (sym c.find_place.ensures ∙ c.in-InHandler.is) in
    let user : is_servers s n ≡ false = sym c.is_server.ensures ∙ c.if-is_server.false in
    let same : c.drive-handled.new.os.slot ≡ n = c.drive-handled.ensures.one.same in
    let disk = told_disk (g.H.Host.files c.args.host.now) c.args.self.now.disk in
    let told : disk ≡ told_disk (g.H.Host.files c.drive-handled.new.host) c.drive-handled.new.os.disk =
    same_disk c.drive-handled.ensures.rest.first c.drive-handled.ensures.disk in
    subst (λ (d : Option Disk). MakesSteps n 0 c.came_with-in-InHandler.result (beside s disk) (beside after d) output) told
    (library_made disk s after n output user c.requires.awake c.raised_again-trap.result
    (subst (λ (p : Place). Raises p n s c.raised_again-trap.result after) (sym is) c.raised_again-trap.ensures)
    c.keep_words.ensures.counted c.drive-handled.result c.came_with-in-InHandler.result c.came_with-in-InHandler.ensures.answer c.came_with-in-InHandler.ensures.trap
    c.drive-handled.ensures.step c.drive-handled.ensures.leaves c.drive-handled.ensures.lowers
    (subst (λ (m : ℕ). GivesUp c.drive-handled.result (slot_at s n) (slot_at after m)) same c.drive-handled.ensures.gives_up)
    c.drive-handled.ensures.by_place (handler_calm s after n c.in-InHandler.step is c.drive-handled.result))

pub returns-in-Guest-clause-disk_only : goal.returns-in-Guest-clause-disk_only
returns-in-Guest-clause-disk_only g c = rest_touches c.run_program.ensures.rest c.args.self.now.disk

pub returns-in-Guest-clause-whole : goal.returns-in-Guest-clause-whole
returns-in-Guest-clause-whole g c =
    came_whole c.run_program.result.last (rest_whole c.run_program.ensures.rest c.args.self.now.disk c.run_program.new.self.disk c.run_program.ensures.disk c.requires.whole)

pub returns-in-InService-clause-disk_only : goal.returns-in-InService-clause-disk_only
returns-in-InService-clause-disk_only g c = rest_touches c.drive-answer.ensures.rest c.args.self.now.disk

pub returns-in-InService-clause-whole : goal.returns-in-InService-clause-whole
returns-in-InService-clause-whole g c =
    came_whole c.came_with-in-InService.result (rest_whole c.drive-answer.ensures.rest c.args.self.now.disk c.drive-answer.new.os.disk c.drive-answer.ensures.disk c.requires.whole)

pub returns-in-InHandler-clause-disk_only : goal.returns-in-InHandler-clause-disk_only
returns-in-InHandler-clause-disk_only g c = rest_touches c.drive-handled.ensures.rest c.args.self.now.disk

pub returns-in-InHandler-clause-whole : goal.returns-in-InHandler-clause-whole
returns-in-InHandler-clause-whole g c =
    came_whole c.came_with-in-InHandler.result (rest_whole c.drive-handled.ensures.rest c.args.self.now.disk c.drive-handled.new.os.disk c.drive-handled.ensures.disk c.requires.whole)
