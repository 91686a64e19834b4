use Rattle.std.proofs.Common.{◌∙◌, arith, map}
use Rattle.jos_kernel.proofs.ImagesRead.{read_lie}
use Rattle.jos_sys.specs.System.{state_of}
use Rattle.jos_run.proofs.Booted.{booted-less, booted-enough, booted-server, booted-no_server}
use Rattle.jos_run.proofs.StartStands.{begun_within, new_within}
use Rattle.jos_run.proofs.boot.boot_program.Goals as goal

pub returns-then-frames-boot_frames-clause-pool : goal.returns-then-frames-boot_frames-clause-pool
returns-then-frames-boot_frames-clause-pool c = λ pool input.
    booted-less c.args.image.now c.args.file.now (map (λ w. w.now) c.args.words.now) c.args.frames input
    (let less = c.if-frames-boot_frames.true in omega (arith, less, c.boot_frames.ensures))

pub start_program-requires-clause-lie : goal.start_program-requires-clause-lie
start_program-requires-clause-lie c = read_lie c.args.file.now c.args.image.now c.requires.read

pub returns-then-not-make_server-clause-pool : goal.returns-then-not-make_server-clause-pool
returns-then-not-make_server-clause-pool c = λ pool input.
    booted-enough c.args.image.now c.args.file.now (map (λ w. w.now) c.args.words.now) c.args.frames input
    (let enough = c.if-frames-boot_frames.false in omega (arith, enough, c.boot_frames.ensures))
    ∙ booted-no_server c.args.image.now c.args.file.now (map (λ w. w.now) c.args.words.now) c.args.frames input
    (state_of c.in_ok-system.system input)
    (c.in_ok-system.ensures.state input) (c.make_server.ensures.full c.if-not-make_server.true input)

pub returns-then-not-start_program-clause-pool : goal.returns-then-not-start_program-clause-pool
returns-then-not-start_program-clause-pool c = λ pool input.
    booted-enough c.args.image.now c.args.file.now (map (λ w. w.now) c.args.words.now) c.args.frames input
    (let enough = c.if-frames-boot_frames.false in omega (arith, enough, c.boot_frames.ensures))
    ∙ booted-server c.args.image.now c.args.file.now (map (λ w. w.now) c.args.words.now) c.args.frames input
    (state_of c.in_ok-system.system input) (state_of c.make_server.new.system input)
    (c.in_ok-system.ensures.state input) (c.make_server.ensures.made c.if-not-make_server.false input)
    ∙ c.start_program.ensures.full c.if-not-start_program.true input

pub returns-clause-booted : goal.returns-clause-booted
returns-clause-booted c = λ input.
    booted-enough c.args.image.now c.args.file.now (map (λ w. w.now) c.args.words.now) c.args.frames input
    (let enough = c.if-frames-boot_frames.false in omega (arith, enough, c.boot_frames.ensures))
    ∙ booted-server c.args.image.now c.args.file.now (map (λ w. w.now) c.args.words.now) c.args.frames input
    (state_of c.in_ok-system.system input) (state_of c.make_server.new.system input)
    (c.in_ok-system.ensures.state input) (c.make_server.ensures.made c.if-not-make_server.false input)
    ∙ c.start_program.ensures.booted c.if-not-start_program.false input

pub returns-clause-stands : goal.returns-clause-stands
returns-clause-stands c = λ input bytes. (let begins = begun_within c.args.image.now c.args.file.now (map (λ w. w.now) c.args.words.now)
    c.args.frames input (state_of c.start_program.new.system input)
    (λ i. (c.type_inv.file i).fits) (c.start_program.ensures.bytes c.if-not-start_program.false) bytes
    c.requires.read c.requires.fits c.requires.least c.requires.most (returns-clause-booted c input) in begins.1)

pub returns-clause-new : goal.returns-clause-new
returns-clause-new c = λ input. new_within c.args.image.now c.args.file.now (map (λ w. w.now) c.args.words.now) c.args.frames
    input (state_of c.start_program.new.system input) c.requires.read c.requires.fits c.requires.least c.requires.most
    (returns-clause-booted c input)
