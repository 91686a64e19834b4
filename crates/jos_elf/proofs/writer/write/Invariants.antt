use Rattle.std.proofs.Common.{◌≡◌, ◌++◌, length, drop, flat_map}
use Rattle.jos_elf.specs.Written.{elf_header, headers_len, part_segment, program_header}
use Rattle.jos_elf.proofs.writer.write.Given as goal

-- what is written and the program headers that are still to come are the headers
abbrev pub invariant-loop-part : goal.invariant-loop-part
invariant-loop-part l =
    l.file.items ++ flat_map (λ part. program_header (part_segment (headers_len l.parts) part)) (drop l.part-index l.parts)
    ≡ elf_header l.entry (length l.parts) ++ flat_map (λ part. program_header (part_segment (headers_len l.parts) part)) l.parts
