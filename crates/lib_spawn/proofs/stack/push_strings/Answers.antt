use Rattle.std.proofs.Common.{◌≡◌, ◌∙◌, ◌+◌, ◌++◌, ℕ, List, [], ◌∷◌, drop, sym, ap, arith, append_assoc, length, length-append, map}
use Rattle.std.proofs.lemmas.List.{append-nil}
use Rattle.jos_elf.specs.StackPage.{strings_of}
use Rattle.lib_spawn.proofs.StackPages.{text, size-next, strings-next, texts-end, strings-none, more}
use Rattle.lib_spawn.proofs.stack.push_strings.Goals as goal

pub push_bytes-requires : goal.push_bytes-requires
push_bytes-requires c =
    let next = size-next c.args.words.now c.loop-word.word-index c.loop-word-test.true in
    let before = sym (length-append c.loop-word.page.items (strings_of (map (λ w. w.now) (drop c.loop-word.word-index c.args.words.now))))
    ∙ ap length c.loop-word.invariant.bytes ∙ length-append c.args.page.now.items (strings_of (map (λ w. w.now) c.args.words.now)) in
    let same = ap length c.as_bytes.ensures.value in
    omega (arith, next, before, same)

pub push-requires : goal.push-requires
push-requires c =
    let next = size-next c.args.words.now c.loop-word.word-index c.loop-word-test.true in
    let before = sym (length-append c.loop-word.page.items (strings_of (map (λ w. w.now) (drop c.loop-word.word-index c.args.words.now))))
    ∙ ap length c.loop-word.invariant.bytes ∙ length-append c.args.page.now.items (strings_of (map (λ w. w.now) c.args.words.now)) in
    let same = ap length c.as_bytes.ensures.value in
    let added = ap length c.push_bytes.ensures ∙ length-append c.loop-word.page.items c.as_bytes.result.now in
    omega (arith, next, before, same, added)

pub loop-word-preserved : goal.loop-word-preserved
loop-word-preserved c =
    let word = text c.args.words.now c.loop-word.word-index c.loop-word-test.true in
    let added : c.push.new.self.items ≡ c.loop-word.page.items ++ (word ++ (0 ∷ [])) =
    c.push.ensures.items ∙ ap (λ (bytes : List ℕ). bytes ++ (0 ∷ [])) (c.push_bytes.ensures
    ∙ ap (λ (bytes : List ℕ). c.loop-word.page.items ++ bytes) c.as_bytes.ensures.value)
    ∙ append_assoc c.loop-word.page.items word (0 ∷ []) in
    record {
      bytes = more c.loop-word.page.items (word ++ (0 ∷ [])) _ c.push.new.self.items _ added
          (strings-next c.args.words.now c.loop-word.word-index c.loop-word-test.true
          ∙ sym (append_assoc word (0 ∷ []) (strings_of (map (λ w. w.now) (drop (c.loop-word.word-index + 1) c.args.words.now)))))
          ∙ c.loop-word.invariant.bytes;
    }

pub returns : goal.returns
returns c =
    let none = texts-end c.args.words.now c.loop-word.word-index c.loop-word-test.false in
    sym (ap (λ (list : List (List ℕ)). c.loop-word.page.items ++ strings_of list) none
    ∙ ap (λ (bytes : List ℕ). c.loop-word.page.items ++ bytes) strings-none ∙ append-nil c.loop-word.page.items)
    ∙ c.loop-word.invariant.bytes
