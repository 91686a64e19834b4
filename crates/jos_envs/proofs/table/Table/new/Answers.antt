use Rattle.std.proofs.Common.{None, refl}
use Rattle.jos_envs.proofs.Kept.{first_lawful, first_is}
use Rattle.jos_envs.proofs.table.Table.new.Goals as goal

pub invariant_of-result : goal.invariant_of-result
invariant_of-result c =
    first_lawful (record { slots = c.in_ok-vec.field-0.items; order = c.in_ok-first_order.field-0.items; free_len = 1024; runnable = c.empty.result.words; recent = None })
    c.free.result (c.in_ok-vec.ensures.items_if_clones_equal (λ y same. same)) c.free.ensures c.in_ok-first_order.ensures.len c.in_ok-first_order.ensures.each refl c.empty.ensures refl

pub returns : goal.returns
returns c =
    first_is (record { slots = c.in_ok-vec.field-0.items; order = c.in_ok-first_order.field-0.items; free_len = 1024; runnable = c.empty.result.words; recent = None })
    c.free.result (c.in_ok-vec.ensures.items_if_clones_equal (λ y same. same)) c.free.ensures c.in_ok-first_order.ensures.len c.in_ok-first_order.ensures.each refl c.empty.ensures refl
