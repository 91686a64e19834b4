-- Images that are read one after another.
use Rattle.std.proofs.Common.{◌≡◌, ℕ, List, [], ◌∷◌, ◌++◌, length, Option, Ok, refl, sym, subst, arith}
use Rattle.std.proofs.lemmas.List.{length-append}
use Rattle.std.proofs.lemmas.List.Elements.{All-push}
use Rattle.std.specs.Prelude.{All, Vec}
use Rattle.std.specs.declared.alloc.Global.{Global}
use Rattle.jos_host.specs.Files.{Files}
use Rattle.jos_words.specs.Arguments.{Word}
use Rattle.jos_elf.specs.Parsed.{Layout, parsed}
use Rattle.jos_kernel.specs.Boot.{Loadable, loadables}
use Rattle.jos_kernel.specs.Loading.{IsRead}
use Rattle.jos_cli.specs.Found.{FileAt, IsFileAt}
use Rattle.jos_cli.specs.Answer.{loadable_in}
use Rattle.jos_cli.proofs.AllRead as each

loadables-append : (images : List Layout) (files : List (Vec ℕ Global)) (image : Layout) (file : Vec ℕ Global) → length images ≡ length files →
    loadables (images ++ image ∷ []) (files ++ file ∷ []) ≡ loadables images files ++ record { image = image; file = file.items } ∷ []
loadables-append [] [] image file e = refl
loadables-append [] (f ∷ files) image file e = absurd (omega (arith, e))
loadables-append (i ∷ images) [] image file e = absurd (omega (arith, e))
loadables-append (i ∷ images) (f ∷ files) image file e =
    let shorter : length images ≡ length files = omega (arith, e) in
    λ k. record { image = i; file = f.items } ∷ loadables-append images files image file shorter k

-- what is read so far
pub record HasRead (told : Option Files) (words : List Word) (images : List Layout) (files : List (Vec ℕ Global)) : Type 0 where
  pub all : each.HasRead loadable_in told words (loadables images files)
  pub count : length images ≡ length words
  pub pairs : length images ≡ length files
  pub read : All IsRead (loadables images files)

pub nothing_read : (told : Option Files) → HasRead told [] [] []
nothing_read told = record { all = each.nothing_read loadable_in told; count = refl; pairs = refl; read = λ k d within. absurd (omega (arith, within)) }

pub on_read : {told : Option Files} {words : List Word} {images : List Layout} {files : List (Vec ℕ Global)} → HasRead told words images files →
    (word : Word) (at : FileAt) (image : Layout) (file : Vec ℕ Global) → IsFileAt told word at → loadable_in at ≡ Ok (record { image = image; file = file.items }) →
    parsed file.items ≡ Ok image → HasRead told (words ++ word ∷ []) (images ++ image ∷ []) (files ++ file ∷ [])
on_read {told = told} {words = words} {images = images} {files = files} h word at image file is judged p =
    let more = sym (loadables-append images files image file h.pairs) in
    record {
      all =
          subst (λ (l : List Loadable). each.HasRead loadable_in told (words ++ word ∷ []) l) more
          (each.on_read h.all word at (record { image = image; file = file.items }) is judged);
      count = omega (arith, h.count, length-append images (image ∷ []), length-append words (word ∷ []));
      pairs = omega (arith, h.pairs, length-append images (image ∷ []), length-append files (file ∷ []));
      read = subst (λ (l : List Loadable). All IsRead l) more (All-push IsRead (loadables images files) (record { image = image; file = file.items }) h.read p);
    }
