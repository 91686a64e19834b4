use Rattle.std.proofs.Common.{◌≡◌, ◌+◌, drop, map}
use Rattle.jos_words.specs.Arguments.{words_read, reading_in_bytes, nothing_read, texts}
use Rattle.jos_words.proofs.arguments.read_arguments.Given as goal

abbrev pub invariant-loop-text : goal.invariant-loop-text
invariant-loop-text l = record {
  rest : words_read (map (λ known. known.now) l.names) (reading_in_bytes l.arguments l.waiting) l.place (map (λ word. word.now) (drop l.text-index l.behind)) ≡ words_read (map (λ known. known.now) l.names) nothing_read 1 (drop 1 (texts l.words));
  place : l.place ≡ l.text-index + 1;
}
