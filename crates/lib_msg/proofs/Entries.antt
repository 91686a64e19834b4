-- send reads the entry of its page: whether it is there and may pass.
use Rattle.std.proofs.Common.{◌≡◌, ◌==◌, ◌+◌, ◌*◌, ◌/◌, ◌&&◌, ◌||◌, ℕ, Bool, true, false, not, [], Some, refl, sym, subst, arith, if◌then◌else◌, ap}
use Rattle.std.specs.Prelude.{bit_and, is_some}
use Rattle.std.proofs.lemmas.Bool.Decides.{nat_tests}
use Rattle.jos_base.specs.declared.memory.Access.TheVariants.{Read}
use Rattle.jos_base.specs.declared.numbers.TheConstants.{E_INVAL, NPTENTRIES, PGSIZE, PTE_P, PTE_SYSCALL, UVPT}
use Rattle.jos_base.specs.KernelState.{KernelState, slot_at}
use Rattle.jos_base.specs.Windows.{entry_word}
use Rattle.jos_base.specs.Words.{negated, page_number}
use Rattle.lib_os.specs.declared.numbers.TheConstants.{SERVICE_SEND}
use Rattle.lib_os.specs.declared.place.Place.TheVariants as place
use Rattle.lib_os.specs.declared.place.Step.TheVariants as step
use Rattle.lib_os.specs.declared.service.Service.TheVariants as service
use Rattle.lib_os.specs.AbstractRun.{abs_step}
use Rattle.lib_os.specs.AbstractState.{AbstractState}
use Rattle.lib_os.specs.Answers as abstract_system
use Rattle.lib_os.specs.InOrder.{IsInOrder}
use Rattle.lib_os.specs.LibrarySteps.{AbstractFollows}
use Rattle.lib_os.specs.Places.{place_of, words_at}
use Rattle.lib_os.specs.Rows.{Names, Rows, is_shared, may_write}
use Rattle.lib_os.specs.StandsFor.{StandsFor, MaySend, IsLooking, borne_in}
use Rattle.lib_os.specs.UserCalls.{load}
use Rattle.lib_os.proofs.Answering.{back_stands}
use Rattle.lib_os.proofs.Fences.{page_inside_number}
use Rattle.lib_os.proofs.GoingOn.{in_with_words, words_stand}
use Rattle.lib_os.proofs.Loading.{loaded}
use Rattle.lib_os.proofs.Looking.{refused_missing, refused_kept, may_send_it}
use Rattle.lib_os.proofs.Numbered.{named_at}
use Rattle.lib_os.proofs.PipesStand.{is_calm}
use Rattle.lib_os.proofs.Serving.{IsServed, holds_page, printed_nothing, served}
use Rattle.lib_os.proofs.SlotsStand.{born_at}
use Rattle.lib_os.proofs.StatesStand.{quiet_stands}
use Rattle.lib_os.proofs.Touching.{touched_quiet}
use Rattle.lib_os.proofs.WindowWords.{read_at, load_table_word}
use Rattle.lib_stage.specs.declared.ask.Next.TheVariants as next
use Rattle.lib_stage.specs.Nexts.{seen_as, settled}
use Rattle.lib_msg.specs.declared.send.SendStage.TheVariants as stage
use Rattle.lib_msg.specs.SendStages.{next_of}

module _ (s : KernelState) (n id value va : ℕ)
    (stands : place_of (slot_at s n) ≡ place.InService (service.Send id value va) step.ReadingEntry) where
  abbrev address : ℕ
  address = UVPT + 4 * (va / PGSIZE)

  abbrev pub word : ℕ
  word = entry_word (s.spaces.entries (slot_at s n).directory (va / PGSIZE))

  abbrev bits : ℕ
  bits = bit_and word PTE_SYSCALL

  -- the page's region has a table
  abbrev HasTable : Type 0
  HasTable = is_some (s.spaces.regions (slot_at s n).directory (page_number va / NPTENTRIES)) ≡ true

  pub entry_there : (names : Names) (a : AbstractState) → StandsFor names s a → load s n address ≡ read_at s n address word
  entry_there names a h =
      let v = served h n (service.Send id value va) step.ReadingEntry stands in
      let at : IsLooking (slot_at s n) v.b id value va × HasTable = v.at in
      load_table_word s n h.in_order.frames (va / PGSIZE) (page_inside_number va at.0.inside) at.1

  pub entry_follows : (names : Names) (a : AbstractState) (h : StandsFor names s a) → IsInOrder (loaded s n address) →
      let x = next_of id va stage.ReadingEntry word in AbstractFollows (seen_as x) n (settled SERVICE_SEND x (loaded s n address) n) a []
  entry_follows names a h order = by_tests (bit_and word PTE_P == PTE_P) (is_shared bits || not (may_write bits)) refl refl
    where
      v : IsServed names s a n (service.Send id value va) step.ReadingEntry
      v = served h n (service.Send id value va) step.ReadingEntry stands

      looking : IsLooking (slot_at s n) v.b id value va × HasTable
      looking = v.at

      at : IsLooking (slot_at s n) v.b id value va
      at = looking.0

      some : (va == 0) ≡ false
      some = let e = at.somewhere in grind (arith, nat_tests)

      there : StandsFor names (loaded s n address) a
      there = quiet_stands h (touched_quiet s.spaces (slot_at s n).directory address Read) order

      refused : abs_step a n ≡ Some (abstract_system.refused a n v.b (slot_at s n).registers E_INVAL) →
          AbstractFollows (seen_as (next.Answer (negated E_INVAL))) n (settled SERVICE_SEND (next.Answer (negated E_INVAL)) (loaded s n address) n) a []
      refused is = (
        abstract_system.refused a n v.b (slot_at s n).registers E_INVAL,
        is,
        printed_nothing a,
        (names, back_stands there n v.b v.is (record (slot_at s n).registers { eax = negated E_INVAL }) (ap borne_in v.place) (ap holds_page v.place) (ap is_calm v.place) at.is_in.silent at.is_in.awake v.outside refl refl),
      )

      by_tests : (t u : Bool) → (bit_and word PTE_P == PTE_P) ≡ t → (is_shared bits || not (may_write bits)) ≡ u →
          let x = if not (t && u) then next.Answer (negated E_INVAL) else next.GoOn (step.Trying bits) in
          AbstractFollows (seen_as x) n (settled SERVICE_SEND x (loaded s n address) n) a []
      by_tests false u first second = refused (refused_missing h n v.b v.is id value va at.is_in some at.inside first)
      by_tests true false first second = refused (refused_kept h n v.b v.is id value va at.is_in some at.inside first second)
      by_tests true true first second = (
        refl,
        (
          names,
          words_stand there n SERVICE_SEND v.b v.is (born_at there n v.b v.is) v.outside (ap borne_in v.place) (ap is_calm v.place) (service.Send id value va) (step.Trying bits) (ap holds_page v.place) refl refl
              (named_at (slot_at s n) (service.Send id value va) step.ReadingEntry stands)
              (record {
                is_in = in_with_words (words_at SERVICE_SEND (step.Trying bits)) at.is_in;
                some = at.some;
                other = at.other;
                page = subst (λ (r : Rows). MaySend (r (slot_at s n).directory) va bits)
                    (sym (touched_quiet s.spaces (slot_at s n).directory address Read).rows)
                    (may_send_it h n v.b v.is id value va at.is_in some at.inside first second);
              }),
        ),
      )
