use Rattle.jos_host.specs.Frames.{around}
use Rattle.lib_os.specs.UserCalls.{block_call}
use Rattle.fs_cache.proofs.DiskTouched.{read_touches, write_touches}
use Rattle.fs_cache.proofs.steps.reply.Goals as goal

pub returns-in-Ok-block_read-clause-disk_only : goal.returns-in-Ok-block_read-clause-disk_only
returns-in-Ok-block_read-clause-disk_only g c =
    let call =
    block_call (g.O.UserOs.state c.args.os.now) (g.O.UserOs.slot c.args.os.now) (g.O.UserOs.disk c.args.os.now) c.in-ReadBlock.block c.address_of.result in
    read_touches call (around g.H.Host.files c.args.host.now c.block_read.new.host) (around g.H.Host.asked c.args.host.now c.block_read.new.host)
    c.block_read.ensures.files c.block_read.ensures.asked

pub returns-in-Err-block_read-clause-disk_only : goal.returns-in-Err-block_read-clause-disk_only
returns-in-Err-block_read-clause-disk_only g c =
    let call =
    block_call (g.O.UserOs.state c.args.os.now) (g.O.UserOs.slot c.args.os.now) (g.O.UserOs.disk c.args.os.now) c.in-ReadBlock.block c.address_of.result in
    read_touches call (around g.H.Host.files c.args.host.now c.block_read.new.host) (around g.H.Host.asked c.args.host.now c.block_read.new.host)
    c.block_read.ensures.files c.block_read.ensures.asked

pub returns-in-Ok-block_write-clause-disk_only : goal.returns-in-Ok-block_write-clause-disk_only
returns-in-Ok-block_write-clause-disk_only g c =
    let call =
    block_call (g.O.UserOs.state c.args.os.now) (g.O.UserOs.slot c.args.os.now) (g.O.UserOs.disk c.args.os.now) c.in-WriteBlock.block c.address_of-in-WriteBlock.result in
    write_touches call (around g.H.Host.files c.args.host.now c.block_write.new.host) (around g.H.Host.asked c.args.host.now c.block_write.new.host)
    c.block_write.result c.block_write.ensures.files c.block_write.ensures.asked

pub returns-in-Err-block_write-clause-disk_only : goal.returns-in-Err-block_write-clause-disk_only
returns-in-Err-block_write-clause-disk_only g c =
    let call =
    block_call (g.O.UserOs.state c.args.os.now) (g.O.UserOs.slot c.args.os.now) (g.O.UserOs.disk c.args.os.now) c.in-WriteBlock.block c.address_of-in-WriteBlock.result in
    write_touches call (around g.H.Host.files c.args.host.now c.block_write.new.host) (around g.H.Host.asked c.args.host.now c.block_write.new.host)
    c.block_write.result c.block_write.ensures.files c.block_write.ensures.asked
