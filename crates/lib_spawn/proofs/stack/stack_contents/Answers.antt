use Rattle.std.proofs.Common.{◌≡◌, ◌∙◌, ◌+◌, ◌-◌, ◌*◌, ◌/◌, ◌≤◌, ◌++◌, ℕ, List, [], ◌∷◌, sym, ap, arith, length, length-append, map}
use Rattle.std.proofs.Common.{take, replicate}
use Rattle.std.proofs.lemmas.List.{take-replicate, length-take}
use Rattle.std.specs.Int.{w32, to_le_bytes}
use Rattle.jos_base.specs.TrapFrames.{bytes_of_words}
use Rattle.jos_elf.specs.StackPage.{stack_size, strings_size, in_words, addresses_from}
use Rattle.lib_spawn.proofs.StackPages.{length-texts, fits, length-addresses, stack-has_size, stack-built}
use Rattle.lib_spawn.proofs.stack.stack_contents.Goals as goal
use Rattle.jos_base.proofs.WordBytes.{length-bytes_of_words}

pub overflow_cast-words : goal.overflow_cast-words
overflow_cast-words c =
    let h = fits (map (λ w. w.now) c.args.words.now) c.requires in omega (arith, h.few, length-texts c.args.words.now)

-- how many bytes two words are, and then the addresses too
two_words : (count esp : ℕ) (none one two : List ℕ) → none ≡ [] → one ≡ none ++ to_le_bytes w32 count →
    two ≡ one ++ to_le_bytes w32 esp → length two ≡ 8
two_words count esp none one two z a b =
    let none_len = ap length z in
    let one_len = ap length a ∙ length-append none (to_le_bytes w32 count) in
    let two_len = ap length b ∙ length-append one (to_le_bytes w32 esp) in
    omega (arith, none_len, one_len, two_len)

with_addresses : (words : List (List ℕ)) (first : ℕ) (two three : List ℕ) → length two ≡ 8 →
    three ≡ two ++ bytes_of_words (addresses_from first words) → length three ≡ 8 + 4 * (length words + 1)
with_addresses words first two three eight d =
    let three_len = ap length d ∙ length-append two (bytes_of_words (addresses_from first words)) in
    let bytes = length-bytes_of_words (addresses_from first words) in
    let addresses = length-addresses first words in
    omega (arith, three_len, bytes, addresses)

pub push_addresses-requires-clause-room : goal.push_addresses-requires-clause-room
push_addresses-requires-clause-room c =
    let h = fits (map (λ w. w.now) c.args.words.now) c.requires in
    let two = two_words (length c.args.words.now) (c.stack_pointer.result + 8) c.new-page.result.items c.push_word.new.page.items
    c.push_word-2.new.page.items
    c.new-page.ensures c.push_word.ensures c.push_word-2.ensures in
    omega (arith, h.few, length-texts c.args.words.now, two)

pub push_addresses-requires-clause-below : goal.push_addresses-requires-clause-below
push_addresses-requires-clause-below c =
    let h = fits (map (λ w. w.now) c.args.words.now) c.requires in omega (arith, h.strings)

abbrev zeros : List ℕ
zeros = 0 ∷ 0 ∷ 0 ∷ []

few_zeros : (n : ℕ) → (length (take n zeros) ≤ n) × (length (take n zeros) ≤ 3)
few_zeros n = let exact = length-take n zeros in (omega (arith, exact), omega (arith, exact))

pub push_bytes-requires : goal.push_bytes-requires
push_bytes-requires c =
    let h = fits (map (λ w. w.now) c.args.words.now) c.requires in
    let two = two_words (length c.args.words.now) (c.stack_pointer.result + 8) c.new-page.result.items c.push_word.new.page.items
    c.push_word-2.new.page.items
    c.new-page.ensures c.push_word.ensures c.push_word-2.ensures in
    let three = with_addresses (map (λ w. w.now) c.args.words.now) (4005552128 - c.strings_size-size.result) c.push_word-2.new.page.items
    c.push_addresses.new.page.items two c.push_addresses.ensures in
    let few = few_zeros ((c.strings_size-size.result + 3) / 4 * 4 - c.strings_size-size.result) in
    omega (arith, h.few, length-texts c.args.words.now, three, few.1)

pub push_strings-requires : goal.push_strings-requires
unfolding stack_size
push_strings-requires c =
    let h = fits (map (λ w. w.now) c.args.words.now) c.requires in
    let two = two_words (length c.args.words.now) (c.stack_pointer.result + 8) c.new-page.result.items c.push_word.new.page.items
    c.push_word-2.new.page.items
    c.new-page.ensures c.push_word.ensures c.push_word-2.ensures in
    let three = with_addresses (map (λ w. w.now) c.args.words.now) (4005552128 - c.strings_size-size.result) c.push_word-2.new.page.items
    c.push_addresses.new.page.items two c.push_addresses.ensures in
    let padding : ℕ = (c.strings_size-size.result + 3) / 4 * 4 - c.strings_size-size.result in
    let few = few_zeros padding in
    let four = ap length c.push_bytes.ensures ∙ length-append c.push_addresses.new.page.items (take padding zeros) in
    omega (arith, h.few, h.strings, h.size, length-texts c.args.words.now, three, four, few.0)

pub returns-clause-bytes : goal.returns-clause-bytes
returns-clause-bytes c =
    let h = fits (map (λ w. w.now) c.args.words.now) c.requires in
    let padding : ℕ = (c.strings_size-size.result + 3) / 4 * 4 - c.strings_size-size.result in
    let exact : c.strings_size-size.result ≡ strings_size (map (λ w. w.now) c.args.words.now) = omega (arith, h.strings) in
    let none : take padding zeros ≡ replicate padding 0 = take-replicate padding 3 0 (omega arith) in
    stack-built (map (λ w. w.now) c.args.words.now) (length c.args.words.now) (c.stack_pointer.result + 8)
    (4005552128 - c.strings_size-size.result) padding
    c.push_word.new.page.items c.push_word-2.new.page.items c.push_addresses.new.page.items c.push_bytes.new.page.items
    c.push_strings.new.page.items
    (sym (length-texts c.args.words.now)) (ap (λ (n : ℕ). n + 8) c.stack_pointer.ensures) (ap (λ (n : ℕ). 4005552128 - n) exact)
    (ap (λ (n : ℕ). in_words n - n) exact)
    (c.push_word.ensures ∙ ap (λ (bytes : List ℕ). bytes ++ to_le_bytes w32 (length c.args.words.now)) c.new-page.ensures)
    c.push_word-2.ensures c.push_addresses.ensures
    (c.push_bytes.ensures ∙ ap (λ (bytes : List ℕ). c.push_addresses.new.page.items ++ bytes) none) c.push_strings.ensures

pub returns-clause-size : goal.returns-clause-size
returns-clause-size c = ap length (returns-clause-bytes c) ∙ stack-has_size (map (λ w. w.now) c.args.words.now)
