-- What a service looks at before it moves bytes to or from a page of its buffer.
use Rattle.std.specs.Prelude.{ℕ, ◌+◌, ◌*◌, ◌==◌, ◌&&◌, ◌||◌, Bool, bit_and}
use Rattle.jos_base.specs.declared.numbers.TheConstants.{PTE_W, UVPT}
use Rattle.jos_base.specs.Words.{page_number}
use Rattle.lib_os.specs.declared.numbers.TheConstants.{PTE_COW, UVPD}
use Rattle.lib_os.specs.LibraryPages.{region_index}
use Rattle.lib_stage.specs.declared.ask.Ask.{Ask}
use Rattle.lib_stage.specs.declared.ask.Ask.TheVariants as ask
use Rattle.lib_fd.specs.DescriptorStages.{is_there}

-- whether the region of an address has a table
abbrev pub region_asked : ℕ → Ask
region_asked va = ask.Load (UVPD + 4 * region_index va)

-- what stands at its page
abbrev pub entry_asked : ℕ → Ask
entry_asked va = ask.Load (UVPT + 4 * page_number va)

-- the page of an entry's word may be written, where it stands or as a copy of it
abbrev pub is_writable : ℕ → Bool
is_writable word = is_there word && ((bit_and word PTE_W == PTE_W) || (bit_and word PTE_COW == PTE_COW))
