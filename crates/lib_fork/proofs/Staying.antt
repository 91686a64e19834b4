-- Behind the call of each step of fork its environment lives on with its registers, whatever id its words name, but where it has
-- destroyed itself.
use Rattle.std.proofs.Common.{◌≡◌, ◌∙◌, ◌+◌, ◌*◌, ◌⊎◌, inl, inr, ℕ, true, false, [], ◌∷◌, refl, sym, ap}
use Rattle.jos_base.specs.declared.called.Called.{Called}
use Rattle.jos_base.specs.declared.called.Called.TheVariants.{Ended}
use Rattle.jos_base.specs.declared.numbers.TheConstants.{SYS_ENV_DESTROY, UVPT}
use Rattle.jos_base.specs.Environments.{is_live}
use Rattle.jos_base.specs.KernelState.{KernelState, slot_at}
use Rattle.lib_os.specs.declared.numbers.TheConstants.{PGFAULT_UPCALL, UVPD, UXSTACK}
use Rattle.lib_os.specs.Rows.{cow_perm}
use Rattle.lib_os.specs.UserCalls.{CallStep, Got, got, to_handler, gone, load, system}
use Rattle.lib_os.proofs.CallersStay.{alloc_answers, destroy_answers, exofork_answers, load_gives, map_answers, runs_answers, upcall_answers}
use Rattle.lib_os.proofs.Trying.{IsAnswered}
use Rattle.lib_stage.specs.Asks.{as_given, got_as, performed, told_as}
use Rattle.lib_stage.specs.Nexts.{is_gone}
use Rattle.lib_stage.specs.ServiceSteps.{Plan}
use Rattle.lib_stage.proofs.Laws.{GoesOn}
use Rattle.lib_fork.specs.declared.fork.ForkStage.{ForkStage}
use Rattle.lib_fork.specs.declared.fork.ForkStage.TheVariants as stage
use Rattle.lib_fork.specs.ForkStages.{ask_of, forking, page_of, page_va, region_of, stack_perm}

-- ---- a load

told_got : (called : Called) (g : Got ℕ) → got_as (λ w. w) g ≡ got called → (w : ℕ) × (g ≡ got w)
told_got called (got w) is = (w, refl)
told_got called to_handler is = absurd (let contradiction : ◌≡◌ {A = Got Called} to_handler (got called) = is in cc)
told_got called gone is = absurd (let contradiction : ◌≡◌ {A = Got Called} gone (got called) = is in cc)

-- ---- each step

abbrev plan : ForkStage → Plan
plan at = forking (record { at = at })

module _ (s : KernelState) (n : ℕ) (live : is_live (slot_at s n) ≡ true) where
  abbrev Goes : ForkStage → Type 0
  Goes at = GoesOn s n (plan at) (performed s n (ask_of at))

  load_goes : (p : Plan) (va : ℕ) → GoesOn s n p (told_as (λ w. w) (load s n va))
  load_goes p va = record {
    live = λ called is stays.
        let w = told_got called (load s n va).gives is in (λ i. is_live (slot_at (load_gives s n va w.0 w.1 i) n)) ∙ live;
    registers = λ called is stays. let w = told_got called (load s n va).gives is in λ i. (slot_at (load_gives s n va w.0 w.1 i) n).registers;
  }

  answered_goes : (p : Plan) (step : CallStep Called) → IsAnswered step n (slot_at s n).registers → GoesOn s n p step
  answered_goes p step it = record { live = λ called is stays. it.live; registers = λ called is stays. it.registers }

  region_goes : (id r : ℕ) → Goes (stage.Region id r)
  unfolding performed
  region_goes id r = load_goes (plan (stage.Region id r)) (UVPD + 4 * region_of r)

  entry_goes : (id page : ℕ) → Goes (stage.Entry id page)
  unfolding performed
  entry_goes id page = load_goes (plan (stage.Entry id page)) (UVPT + 4 * page_of page)

  map_child_goes : (id page perm : ℕ) → Goes (stage.MapChild id page perm)
  unfolding performed
  map_child_goes id page perm = answered_goes (plan (stage.MapChild id page perm)) _ (map_answers s n live 0 (page_va page) id (page_va page) perm)

  remap_goes : (id page : ℕ) → Goes (stage.Remap id page)
  unfolding performed
  remap_goes id page = answered_goes (plan (stage.Remap id page)) _ (map_answers s n live 0 (page_va page) 0 (page_va page) cow_perm)

  stack_goes : (id : ℕ) → Goes (stage.ChildStack id)
  unfolding performed
  stack_goes id = answered_goes (plan (stage.ChildStack id)) _ (alloc_answers s n live id UXSTACK stack_perm 0 0)

  upcall_goes : (id : ℕ) → Goes (stage.ChildUpcall id)
  unfolding performed
  upcall_goes id = answered_goes (plan (stage.ChildUpcall id)) _ (upcall_answers s n live id PGFAULT_UPCALL 0 0 0)

  runs_goes : (id : ℕ) → Goes (stage.ChildRuns id)
  unfolding performed
  runs_goes id = answered_goes (plan (stage.ChildRuns id)) _ (runs_answers s n live id 0 0 0)

  entered_goes : Goes stage.Entered
  unfolding performed
  entered_goes = answered_goes (plan stage.Entered) _ (exofork_answers s n live (as_given (slot_at s n).registers))

  -- whoever has destroyed itself does not go on
  gone_by : (p : Plan) (step : CallStep Called) → step.gives ≡ got Ended → is_gone (p.next Ended) ≡ true → (called : Called) →
      step.gives ≡ got called → is_gone (p.next called) ≡ false → ⊥
  gone_by p step ended is_over called is stays =
      let told : ◌≡◌ {A = Got Called} (got Ended) (got called) = sym ended ∙ is in
      let same : Ended ≡ called = cc in
      let contradiction : true ≡ false = sym is_over ∙ ap (λ (c : Called). is_gone (p.next c)) same ∙ stays in absurd cc

  abbrev destroying : ℕ → CallStep Called
  destroying id = system s n SYS_ENV_DESTROY (id ∷ 0 ∷ 0 ∷ 0 ∷ 0 ∷ [])

  undoing_goes : (id error : ℕ) → Goes (stage.Undoing id error)
  unfolding performed
  undoing_goes id error = by_end (destroy_answers s n live id 0 0 0 0)
    where
      by_end : ((destroying id).gives ≡ got Ended) ⊎ IsAnswered (destroying id) n (slot_at s n).registers →
          GoesOn s n (plan (stage.Undoing id error)) (destroying id)
      by_end (inl ended) = record {
        live = λ called is stays. absurd (gone_by (plan (stage.Undoing id error)) (destroying id) ended refl called is stays);
        registers = λ called is stays. absurd (gone_by (plan (stage.Undoing id error)) (destroying id) ended refl called is stays);
      }
      by_end (inr it) = answered_goes (plan (stage.Undoing id error)) (destroying id) it

  pub goes_on : (at : ForkStage) → Goes at
  goes_on stage.Entered = entered_goes
  goes_on (stage.Region id r) = region_goes id r
  goes_on (stage.Entry id page) = entry_goes id page
  goes_on (stage.MapChild id page perm) = map_child_goes id page perm
  goes_on (stage.Remap id page) = remap_goes id page
  goes_on (stage.ChildStack id) = stack_goes id
  goes_on (stage.ChildUpcall id) = upcall_goes id
  goes_on (stage.ChildRuns id) = runs_goes id
  goes_on (stage.Undoing id error) = undoing_goes id error
