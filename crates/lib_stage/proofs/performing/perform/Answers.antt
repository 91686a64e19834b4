use Rattle.std.proofs.Common.{refl}
use Rattle.lib_os.specs.UserCalls as call
use Rattle.lib_stage.specs.declared.ask.Ask.TheVariants as ask
use Rattle.lib_stage.specs.Asks.{performed}
use Rattle.lib_os.proofs.SlotsSet.{set_live}
use Rattle.lib_stage.proofs.Telling.{told, asked_not}
use Rattle.lib_stage.proofs.performing.perform.Goals as goal

pub returns-in-Ok-load-clause-step : goal.returns-in-Ok-load-clause-step
unfolding performed
returns-in-Ok-load-clause-step g c =
    rw c.in-Load.is (told (ask.Load c.in-Load.va) (λ gives e. e) (λ word. word) _ c.in-Ok-load.word _ _ c.in-Ok-load.ensures.step)

pub returns-in-Err-load-clause-step : goal.returns-in-Err-load-clause-step
unfolding performed
returns-in-Err-load-clause-step g c =
    asked_not (g.O.UserOs.state c.args.os.now) (g.O.UserOs.slot c.args.os.now) c.args.ask (ask.Load c.in-Load.va) (λ word. word) (call.load (g.O.UserOs.state c.args.os.now) (g.O.UserOs.slot c.args.os.now) c.in-Load.va) c.in-Err-load.stop _ _ c.in-Load.is refl (λ gives e. e) c.in-Err-load.ensures.step

pub returns-in-Ok-load_byte-clause-step : goal.returns-in-Ok-load_byte-clause-step
unfolding performed
returns-in-Ok-load_byte-clause-step g c =
    rw c.in-LoadByte.is (told (ask.LoadByte c.in-LoadByte.va) (λ gives e. e) (λ byte. byte) _ c.in-Ok-load_byte.byte _ _ c.in-Ok-load_byte.ensures.step)

pub returns-in-Err-load_byte-clause-step : goal.returns-in-Err-load_byte-clause-step
unfolding performed
returns-in-Err-load_byte-clause-step g c =
    asked_not (g.O.UserOs.state c.args.os.now) (g.O.UserOs.slot c.args.os.now) c.args.ask (ask.LoadByte c.in-LoadByte.va) (λ byte. byte) (call.load_byte (g.O.UserOs.state c.args.os.now) (g.O.UserOs.slot c.args.os.now) c.in-LoadByte.va) c.in-Err-load_byte.stop _ _ c.in-LoadByte.is refl (λ gives e. e) c.in-Err-load_byte.ensures.step

pub returns-in-Ok-store-clause-step : goal.returns-in-Ok-store-clause-step
unfolding performed
returns-in-Ok-store-clause-step g c =
    rw c.in-Store.is (told (ask.Store c.in-Store.va c.in-Store.word) (λ gives e. e) (λ done. 0) _ c.in-Ok-store.field-0 _ _ c.in-Ok-store.ensures.step)

pub returns-in-Err-store-clause-step : goal.returns-in-Err-store-clause-step
unfolding performed
returns-in-Err-store-clause-step g c =
    asked_not (g.O.UserOs.state c.args.os.now) (g.O.UserOs.slot c.args.os.now) c.args.ask (ask.Store c.in-Store.va c.in-Store.word) (λ done. 0) (call.store (g.O.UserOs.state c.args.os.now) (g.O.UserOs.slot c.args.os.now) c.in-Store.va c.in-Store.word) c.in-Err-store.stop _ _ c.in-Store.is refl (λ gives e. e) c.in-Err-store.ensures.step

pub returns-in-Ok-store_byte-clause-step : goal.returns-in-Ok-store_byte-clause-step
unfolding performed
returns-in-Ok-store_byte-clause-step g c =
    rw c.in-StoreByte.is (told (ask.StoreByte c.in-StoreByte.va c.in-StoreByte.byte) (λ gives e. e) (λ done. 0) _ c.in-Ok-store_byte.field-0 _ _ c.in-Ok-store_byte.ensures.step)

pub returns-in-Err-store_byte-clause-step : goal.returns-in-Err-store_byte-clause-step
unfolding performed
returns-in-Err-store_byte-clause-step g c =
    asked_not (g.O.UserOs.state c.args.os.now) (g.O.UserOs.slot c.args.os.now) c.args.ask (ask.StoreByte c.in-StoreByte.va c.in-StoreByte.byte) (λ done. 0) (call.store_byte (g.O.UserOs.state c.args.os.now) (g.O.UserOs.slot c.args.os.now) c.in-StoreByte.va c.in-StoreByte.byte) c.in-Err-store_byte.stop _ _ c.in-StoreByte.is refl (λ gives e. e) c.in-Err-store_byte.ensures.step

pub returns-in-Ok-exchange-clause-step : goal.returns-in-Ok-exchange-clause-step
unfolding performed
returns-in-Ok-exchange-clause-step g c =
    rw c.in-Exchange.is (told (ask.Exchange c.in-Exchange.va c.in-Exchange.word) (λ gives e. e) (λ stood. stood) _ c.in-Ok-exchange.stood _ _ c.in-Ok-exchange.ensures.step)

pub returns-in-Err-exchange-clause-step : goal.returns-in-Err-exchange-clause-step
unfolding performed
returns-in-Err-exchange-clause-step g c =
    asked_not (g.O.UserOs.state c.args.os.now) (g.O.UserOs.slot c.args.os.now) c.args.ask (ask.Exchange c.in-Exchange.va c.in-Exchange.word) (λ stood. stood) (call.exchange (g.O.UserOs.state c.args.os.now) (g.O.UserOs.slot c.args.os.now) c.in-Exchange.va c.in-Exchange.word) c.in-Err-exchange.stop _ _ c.in-Exchange.is refl (λ gives e. e) c.in-Err-exchange.ensures.step

pub returns-in-Ok-restore_frame-clause-step : goal.returns-in-Ok-restore_frame-clause-step
unfolding performed
returns-in-Ok-restore_frame-clause-step g c =
    rw c.in-RestoreFrame.is (told (ask.RestoreFrame) (λ gives e. e) (λ done. 0) _ c.in-Ok-restore_frame.field-0 _ _ c.in-Ok-restore_frame.ensures.step)

pub returns-in-Err-restore_frame-clause-step : goal.returns-in-Err-restore_frame-clause-step
unfolding performed
returns-in-Err-restore_frame-clause-step g c =
    asked_not (g.O.UserOs.state c.args.os.now) (g.O.UserOs.slot c.args.os.now) c.args.ask (ask.RestoreFrame) (λ done. 0) (call.restore_frame (g.O.UserOs.state c.args.os.now) (g.O.UserOs.slot c.args.os.now)) c.in-Err-restore_frame.stop _ _ c.in-RestoreFrame.is refl (λ gives e. e) c.in-Err-restore_frame.ensures.step

pub touch-requires-clause-live : goal.touch-requires-clause-live
touch-requires-clause-live g c =
    rw (c.set_registers.ensures.state, c.set_registers.ensures.slot) (set_live (g.O.UserOs.state c.args.os.now) (g.O.UserOs.slot c.args.os.now) _ c.requires.live)
