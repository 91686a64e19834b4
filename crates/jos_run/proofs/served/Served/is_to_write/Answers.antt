use Rattle.std.proofs.Common.{◌∙◌, ap}
use Rattle.jos_base.specs.Words.{is_exactly}
use Rattle.fs_blocks.specs.declared.place.CacheState.{CacheState}
use Rattle.fs_blocks.specs.CachePlaces.{state_in}
use Rattle.fs_cache.specs.CacheStands.{filling_at}
use Rattle.jos_run.specs.Served.{kernel_state}
use Rattle.jos_run.proofs.WrittenBack.{to_write_told}
use Rattle.jos_run.proofs.served.Served.is_to_write.Goals as goal

pub returns : goal.returns
returns c =
    to_write_told (kernel_state c.args.self.now) c.args.self.now.slot c.args.block c.address_of.result c.is_filling.result c.is_dirty_at.result
    c.requires.slot c.requires.below c.address_of.ensures c.if-is_filling.false
    (c.is_filling.ensures ∙ ap (λ (state : CacheState). is_exactly c.args.block (filling_at state.place)) c.find_state.ensures
    ∙ (λ i. is_exactly c.args.block (filling_at (state_in (c.extra.ensures i)).place)))
    c.is_dirty_at.ensures
