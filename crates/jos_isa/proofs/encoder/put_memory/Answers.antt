use Rattle.std.proofs.Common.{◌≡◌, ℕ, ◌+◌, ◌*◌, ◌<◌, [], ◌∷◌, ◌++◌, take, sym, subst, ap, ◌∙◌}
use Rattle.jos_isa.specs.Encoding.{mode_of, rm_of, sib_bytes, disp_bytes, operand_bytes}
use Rattle.jos_isa.proofs.Writers.{rm_small}
use Rattle.jos_isa.proofs.Kept.{kept_on}
use Rattle.jos_isa.proofs.encoder.put_memory.Goals as goal
use Rattle.jos_base.proofs.Lists.{three_behind}

pub three_fields-modrm-requires-clause-low : goal.three_fields-modrm-requires-clause-low
three_fields-modrm-requires-clause-low c = subst (λ (n : ℕ). n < 8) (sym c.rm_of.ensures) (rm_small c.args.arg c.requires.lawful)

pub returns-clause-written : goal.returns-clause-written
unfolding operand_bytes
returns-clause-written c =
    let modrm : c.three_fields-modrm.result ≡ 64 * mode_of c.args.arg.base c.args.arg.disp + 8 * c.args.reg + rm_of c.args.arg =
    rw (← c.mode_of.ensures, ← c.rm_of.ensures) c.three_fields-modrm.ensures
    in
    let first : take c.put_byte-at.result c.put_byte-at.new.out ≡ take c.args.at c.args.out.now ++ (64 * mode_of c.args.arg.base c.args.arg.disp + 8 * c.args.reg + rm_of c.args.arg) ∷ [] =
    c.put_byte-at.ensures.written ∙ ap (λ (n : ℕ). take c.args.at c.args.out.now ++ n ∷ []) modrm
    in
    three_behind (take c.args.at c.args.out.now) (take c.put_byte-at.result c.put_byte-at.new.out) (take c.put_sib-at.result c.put_sib-at.new.out) (take c.put_disp.result c.put_disp.new.out)
    ((64 * mode_of c.args.arg.base c.args.arg.disp + 8 * c.args.reg + rm_of c.args.arg) ∷ []) (sib_bytes c.args.arg) (disp_bytes c.args.arg.disp)
    first c.put_sib-at.ensures.written c.put_disp.ensures.written

pub returns-clause-kept : goal.returns-clause-kept
returns-clause-kept c =
    kept_on c.put_sib-at.result c.put_disp.result c.args.out.now c.put_sib-at.new.out c.put_disp.new.out c.put_disp.ensures.behind
    (kept_on c.put_byte-at.result c.put_sib-at.result c.args.out.now c.put_byte-at.new.out c.put_sib-at.new.out c.put_sib-at.ensures.behind c.put_byte-at.ensures.kept c.put_sib-at.ensures.kept)
    c.put_disp.ensures.kept
