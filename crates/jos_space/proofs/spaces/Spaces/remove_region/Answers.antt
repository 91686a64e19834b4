use Rattle.std.proofs.Common.{◌≡◌, ◌∙◌, ◌+◌, ◌*◌, ℕ, ap, arith}
use Rattle.std.specs.Option.{option_map}
use Rattle.jos_base.specs.SpacesState.{SpacesState, Region, unmapped, pages_removed}
use Rattle.jos_space.specs.Frames.{state}
use Rattle.jos_space.proofs.Keeping.{keeps_same, keeps_both}
use Rattle.jos_space.proofs.Unmapping.{unmapped_is}
use Rattle.jos_space.proofs.Removing.{unmapped_regions, removed_one}
use Rattle.jos_space.proofs.spaces.Spaces.remove_region.Goals as goal

pub loop-i-preserved : goal.loop-i-preserved
loop-i-preserved c =
    let p : ℕ = c.args.index * 1024 + c.loop-i.i in
    let one : state c.release.new.self ≡ unmapped (state c.loop-i.self) c.args.space (c.args.index * 1024 + c.loop-i.i) =
    unmapped_is (state c.loop-i.self) (state c.clear_entry-gone.new.self) (state c.release.new.self) c.args.space (c.args.index * 1024 + c.loop-i.i) c.clear_entry-gone.result c.clear_entry-gone.ensures.state c.clear_entry-gone.ensures.gone c.release.ensures.state in
    record {
      records = c.release.ensures.records ∙ c.clear_entry-gone.ensures.records ∙ c.loop-i.invariant.records;
      directories =
          keeps_both (state c.args.self.now) (state c.loop-i.self) (state c.release.new.self) c.loop-i.invariant.directories
          (keeps_both (state c.loop-i.self) (state c.clear_entry-gone.new.self) (state c.release.new.self)
          (keeps_same (state c.loop-i.self) (state c.clear_entry-gone.new.self) (ap (λ (s : SpacesState). s.uses) c.clear_entry-gone.ensures.state)) c.release.ensures.kept);
      region =
          ap (λ (s : SpacesState). option_map (λ (r : Region). r.table) (s.regions c.args.space c.args.index)) one
          ∙ ap (λ (f : ℕ → ℕ → _). option_map (λ (r : Region). r.table) (f c.args.space c.args.index)) (unmapped_regions (state c.loop-i.self) c.args.space (c.args.index * 1024 + c.loop-i.i)) ∙ c.loop-i.invariant.region;
      pages = λ s e. one ∙ removed_one s (state c.loop-i.self) c.args.space (c.args.index * 1024 + c.loop-i.i) (c.loop-i.invariant.pages s e) ∙ ap (pages_removed s c.args.space) (omega arith);
    }
