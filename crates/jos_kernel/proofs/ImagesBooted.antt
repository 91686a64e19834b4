-- Images are booted one after another.
use Rattle.std.proofs.Common.{◌≡◌, ◌∙◌, ℕ, ◌⊎◌, inl, inr, true, false, List, [], ◌∷◌, All, Vec, Global, Option, Some, None}
use Rattle.std.proofs.Common.{Ok, Err, refl, sym, ap}
use Rattle.std.specs.Option.{option_map}
use Rattle.std.proofs.lemmas.List.Elements.{All-head, All-tail, All-same}
use Rattle.std.specs.Prelude.{option_and_then}
use Rattle.jos_base.specs.declared.environment.Status.TheVariants.{Runnable}
use Rattle.jos_base.specs.declared.errno.Errno.{Errno}
use Rattle.jos_base.specs.declared.registers.Regs.{Regs}
use Rattle.jos_base.specs.SpacesState.{SpacesState}
use Rattle.jos_base.specs.KernelState.{KernelState, slot_at, with_registers, with_status}
use Rattle.jos_base.specs.SystemCalls.{environment_made}
use Rattle.jos_elf.specs.declared.image.Segment.{Segment}
use Rattle.jos_elf.specs.Parsed.{Layout, parsed}
use Rattle.jos_kernel.specs.Boot.{image_loaded, started, image_booted_in, image_booted}
use Rattle.jos_elf.specs.Started.{first_registers}
use Rattle.jos_kernel.specs.Boot.{loadables, all_booted}
use Rattle.jos_kernel.specs.Loading.{IsRead, Loads}

-- ---- one image

module _ (image : Layout) (file : List ℕ) (s : KernelState) where
  pub booted-no_slot : (error : Errno) → environment_made s 0 ≡ Err error → image_booted image file s ≡ None
  unfolding image_booted
  booted-no_slot error is = rw is refl

  module _ (t u : KernelState) (n : ℕ) (segments : List Segment) (made : environment_made s 0 ≡ Ok (n, t)) (whole : segments ≡ image.segments) where
    booted-made : image_booted image file s ≡ image_booted_in image file (Ok (n, t))
    unfolding image_booted
    booted-made = ap (image_booted_in image file) made

    image_at : {loaded : Option SpacesState} → image_loaded segments file (slot_at t n).directory t.spaces ≡ loaded
        → image_loaded image.segments file (slot_at t n).directory t.spaces ≡ loaded
    image_at is = ap (λ (list : List Segment). image_loaded list file (slot_at t n).directory t.spaces) (sym whole) ∙ is

    pub booted-none : Loads (image_loaded segments file (slot_at t n).directory t.spaces) false t u → image_booted image file s ≡ None
    booted-none loads = booted-made ∙ ap (option_map (started t n image.entry)) (image_at loads.0)

    pub booted-some : (v w : KernelState) (registers : Regs) → Loads (image_loaded segments file (slot_at t n).directory t.spaces) true t u
        → registers ≡ first_registers image.entry → v ≡ with_registers u n registers → w ≡ with_status v n Runnable → image_booted image file s ≡ Some w
    booted-some v w registers loads is_registers v_is w_is =
        let state : w ≡ started t n image.entry u.spaces =
        w_is ∙ ap (λ (k : KernelState). with_status k n Runnable)
        (v_is ∙ ap (with_registers u n) is_registers ∙ ap (λ (k : KernelState). with_registers k n (first_registers image.entry)) loads.1) in
        booted-made ∙ ap (option_map (started t n image.entry)) (image_at loads.0) ∙ ap Some (sym state)

-- ---- one image after another

-- where an image and its file, which has these bytes, come before the rest
module _ (images rest : List Layout) (files more : List (Vec ℕ Global)) (image : Layout) (file : Vec ℕ Global) (bytes : List ℕ)
    (first : images ≡ image ∷ rest) (second : files ≡ file ∷ more) (is_bytes : bytes ≡ file.items) where
  loadables-next : loadables images files ≡ record { image = image; file = bytes } ∷ loadables rest more
  loadables-next = rw (first, second, is_bytes) refl

  read_all : All IsRead (loadables images files) → All IsRead (record { image = image; file = bytes } ∷ loadables rest more)
  read_all = All-same IsRead (record { image = image; file = bytes } ∷ loadables rest more) (loadables images files) (sym loadables-next)

  pub read_first : All IsRead (loadables images files) → parsed bytes ≡ Ok image
  read_first read = All-head IsRead (record { image = image; file = bytes }) (loadables rest more) (read_all read)

  pub read_rest : All IsRead (loadables images files) → All IsRead (loadables rest more)
  read_rest read = All-tail IsRead (record { image = image; file = bytes }) (loadables rest more) (read_all read)

  all_booted-next : (s : KernelState) → all_booted (loadables images files) s ≡ option_and_then (all_booted (loadables rest more)) (image_booted image bytes s)
  unfolding all_booted
  all_booted-next s = rw loadables-next refl

  pub all_booted-some : (s t : KernelState) → image_booted image bytes s ≡ Some t
      → all_booted (loadables rest more) t ≡ all_booted (loadables images files) s
  all_booted-some s t booted = sym (all_booted-next s ∙ ap (λ (o : Option KernelState). option_and_then (all_booted (loadables rest more)) o) booted)

  pub all_booted-none : (s : KernelState) → image_booted image bytes s ≡ None → all_booted (loadables images files) s ≡ None
  all_booted-none s none = all_booted-next s ∙ ap (λ (o : Option KernelState). option_and_then (all_booted (loadables rest more)) o) none

loadables-empty : (images : List Layout) (files : List (Vec ℕ Global)) → (images ≡ []) ⊎ (files ≡ []) → loadables images files ≡ []
loadables-empty [] files none = refl
loadables-empty (image ∷ images) files (inl none) = absurd cc
loadables-empty (image ∷ images) files (inr none) = rw none refl

pub all_booted-end : (images : List Layout) (files : List (Vec ℕ Global)) (s : KernelState) → (images ≡ []) ⊎ (files ≡ [])
    → all_booted (loadables images files) s ≡ Some s
unfolding all_booted
all_booted-end images files s none = rw (loadables-empty images files none) refl
