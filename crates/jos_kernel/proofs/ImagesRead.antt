-- What is known of an image that was read.
use Rattle.std.proofs.Common.{◌≡◌, ℕ, List, Option, Some, None, Ok, length, All, refl, subst}
use Rattle.std.specs.Prelude.{slice_index}
use Rattle.jos_elf.specs.declared.fault.ElfFault.{ElfFault}
use Rattle.jos_elf.specs.Headers.{entry_point_of, entry_count_of, header_of}
use Rattle.jos_elf.specs.Tests.{first_failed, header_tests, table_tests, tests}
use Rattle.jos_elf.specs.Parsed.{Layout, Lies, segments_of, unless_failed, parsed_bytes, parsed}
use Rattle.jos_elf.proofs.Tests.{append-passed}
use Rattle.jos_elf.proofs.Parsed.{segments-lie}

read_by : (failed : Option ElfFault) (read image : Layout) → unless_failed failed read ≡ Ok image → (failed ≡ None) × (read ≡ image)
read_by None read image is = (refl, cc)
read_by (Some fault) read image is = absurd cc

-- its segments lie in the file and in the memory of programs
pub read_lie : (file : List ℕ) (image : Layout) → parsed file ≡ Ok image → All (Lies (length file)) image.segments
unfolding parsed parsed_bytes tests
read_lie file image is =
    let total = length file in
    let byte = slice_index file in
    let headers = header_of byte in
    let read = read_by (first_failed (tests total byte)) (record { entry = entry_point_of byte; segments = segments_of headers (entry_count_of byte) }) image is in
    subst (λ (x : Layout). All (Lies total) x.segments) read.1
    (segments-lie total headers (entry_count_of byte)
    (append-passed (header_tests total byte) (table_tests total headers (entry_count_of byte)) read.0).1)
