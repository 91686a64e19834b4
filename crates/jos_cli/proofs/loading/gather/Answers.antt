use Rattle.std.proofs.Common.{map}
use Rattle.jos_words.specs.Arguments.{word_in_bytes}
use Rattle.jos_cli.specs.Found.{Found}
use Rattle.jos_cli.specs.Stages.{sources_in}
use Rattle.jos_cli.specs.FilesAsked.{files_calls, source_calls}
use Rattle.jos_cli.specs.Kinds.{kind_of}
use Rattle.jos_cli.proofs.Finding.{some_found, some_files, some_input, all_found}
use Rattle.jos_cli.proofs.Gathering.{words_refused, schedule_refused, images_refused, input_refused, all_read}
use Rattle.jos_cli.proofs.Doing as doing
use Rattle.jos_cli.proofs.loading.gather.Goals as goal

pub returns-in-Some-clause-told : goal.returns-in-Some-clause-told
returns-in-Some-clause-told g c =
    let found = some_found (g.H.Host.files c.args.host.now) (sources_in c.args.schedule c.args.images.now) in
    let input = some_input (g.H.Host.input c.args.host.now) in
    (found.0, input.0, found.1, input.1, rw c.in-Some.is (words_refused found.0 input.0 c.in-Some.which))

pub returns-in-Some-clause-did : goal.returns-in-Some-clause-did
returns-in-Some-clause-did g c =
    doing.limit_passed g.H.Host c.args.host.now (source_calls (sources_in c.args.schedule c.args.images.now)) c.in-Some.which (rw c.in-Some.is at c.requires)

pub returns-in-Err-clause-told : goal.returns-in-Err-clause-told
returns-in-Err-clause-told g c =
    let told = g.H.Host.files c.args.host.now in
    let sources = sources_in c.args.schedule c.args.images.now in
    let read = c.in-Err.ensures.told in
    let images = some_files told sources.images in
    let input = some_input (g.H.Host.input c.args.host.now) in
    let found : Found = record { schedule = read.0; images = images.0 } in (
      found,
      input.0,
      all_found told sources read.0 images.0 read.1 images.1,
      input.1,
      rw c.in_default.is (schedule_refused found input.0 (kind_of c.in-Err.outcome) read.2),
    )

pub returns-in-Err-clause-did : goal.returns-in-Err-clause-did
returns-in-Err-clause-did g c = doing.no_input (doing.first_refused (files_calls (map word_in_bytes c.args.images.now)) c.in-Err.ensures.did)

pub returns-in-Err-read_images-clause-told : goal.returns-in-Err-read_images-clause-told
returns-in-Err-read_images-clause-told g c =
    let told = g.H.Host.files c.args.host.now in
    let sources = sources_in c.args.schedule c.args.images.now in
    let read = c.in-Ok.ensures.told in
    let images = rw c.in-Ok.ensures.did.files at c.in-Err-read_images.ensures.told in
    let input = some_input (g.H.Host.input c.args.host.now) in
    let found : Found = record { schedule = read.0; images = images.0 } in (
      found,
      input.0,
      all_found told sources read.0 images.0 read.1 images.1,
      input.1,
      rw c.in_default.is (images_refused found input.0 c.in-Ok.schedule read.2 (kind_of c.in-Err-read_images.outcome) images.2),
    )

pub returns-in-Err-read_images-clause-did : goal.returns-in-Err-read_images-clause-did
returns-in-Err-read_images-clause-did g c =
    doing.no_input (doing.files_then_refused g.H.Host c.in-Ok.ensures.did c.in-Err-read_images.outcome c.in-Err-read_images.ensures.did)

pub returns-in-Ok-read_input-clause-told : goal.returns-in-Ok-read_input-clause-told
returns-in-Ok-read_input-clause-told g c =
    let told = g.H.Host.files c.args.host.now in
    let sources = sources_in c.args.schedule c.args.images.now in
    let read = c.in-Ok.ensures.told in
    let images = rw c.in-Ok.ensures.did.files at c.in-Ok-read_images.ensures.told in
    let input = rw (c.in-Ok-read_images.ensures.did.input, c.in-Ok.ensures.did.input) at c.in-Ok-read_input.ensures.told in
    let found : Found = record { schedule = read.0; images = images.0 } in (
      found,
      input.0,
      all_found told sources read.0 images.0 read.1 images.1,
      input.1,
      rw c.in_default.is (all_read found input.0 c.in-Ok.schedule read.2 _ images.2 c.in-Ok-read_input.input.items input.2),
    )

pub returns-in-Ok-read_input-clause-did : goal.returns-in-Ok-read_input-clause-did
returns-in-Ok-read_input-clause-did g c =
    doing.input_then g.H.Host (doing.files_then g.H.Host c.in-Ok.ensures.did c.in-Ok-read_images.ensures.did) c.in-Ok-read_input.ensures.did

pub returns-in-Err-read_input-clause-told : goal.returns-in-Err-read_input-clause-told
returns-in-Err-read_input-clause-told g c =
    let told = g.H.Host.files c.args.host.now in
    let sources = sources_in c.args.schedule c.args.images.now in
    let read = c.in-Ok.ensures.told in
    let images = rw c.in-Ok.ensures.did.files at c.in-Ok-read_images.ensures.told in
    let input = rw (c.in-Ok-read_images.ensures.did.input, c.in-Ok.ensures.did.input) at c.in-Err-read_input.ensures.told in
    let found : Found = record { schedule = read.0; images = images.0 } in (
      found,
      input.0,
      all_found told sources read.0 images.0 read.1 images.1,
      input.1,
      rw c.in_default.is (input_refused found input.0 c.in-Ok.schedule read.2 _ images.2 (kind_of c.in-Err-read_input.outcome) input.2),
    )

pub returns-in-Err-read_input-clause-did : goal.returns-in-Err-read_input-clause-did
returns-in-Err-read_input-clause-did g c =
    doing.input_refused g.H.Host (doing.files_then g.H.Host c.in-Ok.ensures.did c.in-Ok-read_images.ensures.did) c.in-Err-read_input.outcome c.in-Err-read_input.ensures.did
