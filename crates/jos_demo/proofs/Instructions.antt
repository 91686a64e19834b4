-- The instructions of the programs are lawful.
use Rattle.std.proofs.Common.{◌≡◌, ℕ, ◌<◌, Bool, true, refl}
use Rattle.std.specs.Prelude.{IsTrue, nat_lt}
use Rattle.std.proofs.lemmas.Bool.{lt-ltb}
use Rattle.jos_isa.specs.OpcodeMap.{format_at, opcode_entry, from_00, from_40, from_70, from_a0, from_b0, from_f0, of_group, choice_of}
use Rattle.jos_isa.specs.OpcodeMap.{step_ff, unary_f7, format_behind, rep_at}
use Rattle.jos_isa.specs.RowOpcodes.{opcode_of, format_in, field_of, digit_of}
use Rattle.jos_isa.specs.Lawful.{is_numbered, is_named, is_immediate, is_base, is_index, is_operand, fits_choice, fits_format}
use Rattle.jos_isa.specs.Lawful.{format_for, is_lawful}
use Rattle.jos_isa.proofs.Booleans.{all_below, all_at}
use Rattle.jos_demo.specs.Code.{int, store_byte, load_al, mov_byte, lodsb, stosb, test_al, test_eax, push_eax, pop, dec}
use Rattle.jos_demo.specs.Code.{mov_register, add_register, sub_register}
use Rattle.jos_demo.specs.Code.{inc, inc_word, add_byte, div, lodsd, stosd, rep_stosb, store_at_edi}

pub lawful_int : (vector : ℕ) → vector < 256 → IsTrue (is_lawful (int vector))
unfolding is_lawful is_numbered is_named fits_format format_for format_in opcode_of opcode_entry format_at from_b0 is_immediate
lawful_int vector small = lt-ltb vector 256 small

pub lawful_store_byte : (va byte : ℕ) → byte < 256 → IsTrue (is_lawful (store_byte va byte))
unfolding is_lawful is_numbered is_named fits_format format_for format_in opcode_of opcode_entry format_at from_b0 of_group choice_of field_of digit_of fits_choice is_operand is_base is_index is_immediate
lawful_store_byte va byte small = lt-ltb byte 256 small

pub lawful_load_al : (va : ℕ) → IsTrue (is_lawful (load_al va))
unfolding is_lawful is_numbered is_named fits_format format_for format_in opcode_of opcode_entry format_at from_a0 is_immediate
lawful_load_al va = refl

-- one test eight times
eight : (test : Bool) → test ≡ true → all_below (λ _. test) 8 ≡ true
eight test is = rw is refl

pub lawful_mov_byte : (reg byte : ℕ) → reg < 8 → byte < 256 → is_lawful (mov_byte reg byte) ≡ true
unfolding is_lawful is_numbered is_named fits_format format_for format_in opcode_of opcode_entry format_at from_b0 is_immediate
lawful_mov_byte reg byte within small =
    all_at (λ reg. is_lawful (mov_byte reg byte)) 8 (eight (nat_lt byte 256) (lt-ltb byte 256 small)) reg within

pub lawful_lodsb : IsTrue (is_lawful lodsb)
unfolding is_lawful is_numbered is_named fits_format format_for format_in opcode_of opcode_entry format_at from_a0 is_immediate
lawful_lodsb = refl

pub lawful_stosb : IsTrue (is_lawful stosb)
unfolding is_lawful is_numbered is_named fits_format format_for format_in opcode_of opcode_entry format_at from_a0 is_immediate
lawful_stosb = refl

pub lawful_test_al : IsTrue (is_lawful test_al)
unfolding is_lawful is_numbered is_named fits_format format_for format_in opcode_of opcode_entry format_at from_70 choice_of field_of fits_choice is_operand is_immediate
lawful_test_al = refl

pub lawful_test_eax : IsTrue (is_lawful test_eax)
unfolding is_lawful is_numbered is_named fits_format format_for format_in opcode_of opcode_entry format_at from_70 choice_of field_of fits_choice is_operand is_immediate
lawful_test_eax = refl

pub lawful_push_eax : IsTrue (is_lawful push_eax)
unfolding is_lawful is_numbered is_named fits_format format_for format_in opcode_of opcode_entry format_at from_40 is_immediate
lawful_push_eax = refl

pub lawful_pop : (reg : ℕ) → reg < 8 → is_lawful (pop reg) ≡ true
unfolding is_lawful is_numbered is_named fits_format format_for format_in opcode_of opcode_entry format_at from_40 is_immediate
lawful_pop reg within = all_at (λ reg. is_lawful (pop reg)) 8 refl reg within

pub lawful_dec : (reg : ℕ) → reg < 8 → is_lawful (dec reg) ≡ true
unfolding is_lawful is_numbered is_named fits_format format_for format_in opcode_of opcode_entry format_at from_40 is_immediate
lawful_dec reg within = all_at (λ reg. is_lawful (dec reg)) 8 refl reg within

-- a test of two numbers below eight that is true
both_at : (test : ℕ → ℕ → Bool) → all_below (λ to. all_below (test to) 8) 8 ≡ true
    → (to from : ℕ) → to < 8 → from < 8 → test to from ≡ true
both_at test all to from small below =
    all_at (test to) 8 (all_at (λ to. all_below (test to) 8) 8 all to small) from below

pub lawful_mov_register : (to from : ℕ) → to < 8 → from < 8 → is_lawful (mov_register to from) ≡ true
unfolding is_lawful is_numbered is_named fits_format format_for format_in opcode_of opcode_entry format_at from_70 choice_of field_of fits_choice is_operand is_immediate
lawful_mov_register = both_at (λ to from. is_lawful (mov_register to from)) refl

pub lawful_add_register : (to from : ℕ) → to < 8 → from < 8 → is_lawful (add_register to from) ≡ true
unfolding is_lawful is_numbered is_named fits_format format_for format_in opcode_of opcode_entry format_at from_00 choice_of field_of fits_choice is_operand is_immediate
lawful_add_register = both_at (λ to from. is_lawful (add_register to from)) refl

pub lawful_sub_register : (to from : ℕ) → to < 8 → from < 8 → is_lawful (sub_register to from) ≡ true
unfolding is_lawful is_numbered is_named fits_format format_for format_in opcode_of opcode_entry format_at from_00 choice_of field_of fits_choice is_operand is_immediate
lawful_sub_register = both_at (λ to from. is_lawful (sub_register to from)) refl

pub lawful_inc : (reg : ℕ) → reg < 8 → is_lawful (inc reg) ≡ true
unfolding is_lawful is_numbered is_named fits_format format_for format_in opcode_of opcode_entry format_at from_40 is_immediate
lawful_inc reg within = all_at (λ reg. is_lawful (inc reg)) 8 refl reg within

pub lawful_inc_word : (va : ℕ) → IsTrue (is_lawful (inc_word va))
unfolding is_lawful is_numbered is_named fits_format format_for format_in opcode_of opcode_entry format_at from_f0 of_group step_ff choice_of field_of digit_of fits_choice is_operand is_base is_index is_immediate
lawful_inc_word va = refl

pub lawful_add_byte : (reg byte : ℕ) → reg < 8 → byte < 256 → is_lawful (add_byte reg byte) ≡ true
unfolding is_lawful is_numbered is_named fits_format format_for format_in opcode_of opcode_entry format_at from_70 of_group choice_of field_of digit_of fits_choice is_operand is_immediate
lawful_add_byte reg byte within small =
    all_at (λ reg. is_lawful (add_byte reg byte)) 8 (eight (nat_lt byte 256) (lt-ltb byte 256 small)) reg within

pub lawful_div : (reg : ℕ) → reg < 8 → is_lawful (div reg) ≡ true
unfolding is_lawful is_numbered is_named fits_format format_for format_in opcode_of opcode_entry format_at from_f0 of_group unary_f7 choice_of field_of digit_of fits_choice is_operand is_immediate
lawful_div reg within = all_at (λ reg. is_lawful (div reg)) 8 refl reg within

pub lawful_lodsd : IsTrue (is_lawful lodsd)
unfolding is_lawful is_numbered is_named fits_format format_for format_in opcode_of opcode_entry format_at from_a0 is_immediate
lawful_lodsd = refl

pub lawful_stosd : IsTrue (is_lawful stosd)
unfolding is_lawful is_numbered is_named fits_format format_for format_in opcode_of opcode_entry format_at from_a0 is_immediate
lawful_stosd = refl

pub lawful_rep_stosb : IsTrue (is_lawful rep_stosb)
unfolding is_lawful is_numbered is_named fits_format format_for format_in opcode_of format_behind rep_at is_immediate
lawful_rep_stosb = refl

pub lawful_store_at_edi : (reg : ℕ) → reg < 8 → is_lawful (store_at_edi reg) ≡ true
unfolding is_lawful is_numbered is_named fits_format format_for format_in opcode_of opcode_entry format_at from_70 choice_of field_of fits_choice is_operand is_base is_index is_immediate
lawful_store_at_edi reg within = all_at (λ reg. is_lawful (store_at_edi reg)) 8 refl reg within
