-- Where the kernel's state stands for an abstract one, how often the page of a place is mapped tells who holds its file.
use Rattle.std.proofs.Common.{◌≡◌, ◌∙◌, ◌<◌, ℕ, ap, arith}
use Rattle.lib_os.specs.declared.numbers.TheConstants.{MAXOPEN}
use Rattle.lib_os.specs.DescriptorPages as descriptors
use Rattle.lib_os.proofs.Holders.{held_told}
use Rattle.fs_seen.specs.ServerMemory.{entry_of, place_page}
use Rattle.fs_seen.specs.ServerOthers.{StandingCountsTell}

-- the page of a place is that of its number
same_page : (number : ℕ) → number < MAXOPEN → descriptors.place_page number ≡ place_page number
same_page number below = omega (arith, below)

pub standing_counts_tell : StandingCountsTell
standing_counts_tell names s a h apart number e below there =
    held_told h number e below (ap (entry_of s 0) (same_page number below) ∙ there) (λ name by held. apart.files number name below by held)
    (λ other name by so. apart.alone number other name by so)
