-- The pages of an end of a pipe: where a descriptor is open its region has a table; and while the descriptor's page goes the pipe's stays.
use Rattle.std.proofs.Common.{◌≡◌, ◌≢◌, ◌∙◌, ◌/◌, ◌<◌, ℕ, true, None, sym, ap, arith}
use Rattle.std.specs.Prelude.{is_some}
use Rattle.jos_base.specs.declared.numbers.TheConstants.{NPTENTRIES}
use Rattle.jos_base.specs.KernelState.{KernelState, slot_at}
use Rattle.jos_base.proofs.Options.{some_is}
use Rattle.jos_base.proofs.Puts.{put-other}
use Rattle.lib_os.specs.declared.numbers.TheConstants.{DESCRIPTORS}
use Rattle.lib_os.specs.AbstractState.{AbstractState}
use Rattle.lib_os.specs.InService.{IsOpen}
use Rattle.lib_os.specs.Rows.{Names, Rows, descriptor_page, pipe_page, rows_of}
use Rattle.lib_os.specs.StandsFor.{StandsFor}
use Rattle.lib_os.proofs.DescriptorLooks.{HasTableAt, page_region}
use Rattle.lib_os.proofs.DescriptorsStand.{drop_removes, dropped}
use Rattle.lib_os.proofs.EntryWords.{row_entry}

pub has_table : {names : Names} {s : KernelState} {a : AbstractState} → StandsFor names s a → (n fd : ℕ) → fd < DESCRIPTORS →
    IsOpen (rows_of s.spaces (slot_at s n).directory) fd → HasTableAt s n
has_table {s = s} h n fd below is_open =
    let d : ℕ = (slot_at s n).directory in
    let x = some_is (rows_of s.spaces d (descriptor_page fd)) is_open in
    let e = row_entry s.spaces d (descriptor_page fd) x.0 x.1 in
    let there : is_some (s.spaces.regions d (descriptor_page fd / NPTENTRIES)) ≡ true =
    h.in_order.frames.regions d (descriptor_page fd) e.0 e.1 in
    sym (ap (λ (r : ℕ). is_some (s.spaces.regions d r)) (page_region fd below)) ∙ there

module _ (s : KernelState) (n fd : ℕ) {names : Names} {a : AbstractState} (h : StandsFor names s a) (below : fd < DESCRIPTORS) where
  abbrev own : ℕ
  own = (slot_at s n).directory

  -- all pages but the descriptor's stay
  pub still_there : (p : ℕ) → p ≢ descriptor_page fd → rows_of (dropped s n fd) own p ≡ rows_of s.spaces own p
  still_there p ne =
      ap (λ (rows : Rows). rows own p) (drop_removes s n fd h below).rows
      ∙ put-other (rows_of s.spaces) own (descriptor_page fd) None own p (λ same too. ne too)

  pub pipe_still : rows_of (dropped s n fd) own (pipe_page fd) ≡ rows_of s.spaces own (pipe_page fd)
  pipe_still = still_there (pipe_page fd) (λ same. absurd (omega (arith, same, below)))
