use Rattle.std.proofs.Common.{◌-◌, ap}
use Rattle.jos_space.proofs.FirstState.{IsFirst, first_lists_sound, first_is, first_records}
use Rattle.jos_space.proofs.spaces.Spaces.new.Goals as goal

pub invariant_of-result : goal.invariant_of-result
invariant_of-result c =
    let is : IsFirst c.args.frames (record { words = c.in_ok-words.words.items; bytes = c.in_ok-bytes.bytes.items; roles = c.in_ok-roles.roles.items; counts = c.in_ok-counts.counts.items; order = c.in_ok-order.order.items; free_len = c.args.frames - c.reserved.result; records = c.in_ok-records.records.items }) = record {
      least = c.requires.least;
      most = c.requires.most;
      words = c.in_ok-words.ensures;
      bytes = c.in_ok-bytes.ensures;
      counts = c.in_ok-counts.ensures;
      roles_len = c.in_ok-roles.ensures.len;
      roles = c.in_ok-roles.ensures.each;
      order_len = c.in_ok-order.ensures.len;
      order = c.in_ok-order.ensures.each;
      free_len = ap (λ n. c.args.frames - n) c.reserved.ensures;
      records_len = c.in_ok-records.ensures.len;
      records = c.in_ok-records.ensures.each;
    } in
    first_lists_sound c.args.frames (record { words = c.in_ok-words.words.items; bytes = c.in_ok-bytes.bytes.items; roles = c.in_ok-roles.roles.items; counts = c.in_ok-counts.counts.items; order = c.in_ok-order.order.items; free_len = c.args.frames - c.reserved.result; records = c.in_ok-records.records.items }) is

pub returns-clause-state : goal.returns-clause-state
returns-clause-state c =
    let is : IsFirst c.args.frames (record { words = c.in_ok-words.words.items; bytes = c.in_ok-bytes.bytes.items; roles = c.in_ok-roles.roles.items; counts = c.in_ok-counts.counts.items; order = c.in_ok-order.order.items; free_len = c.args.frames - c.reserved.result; records = c.in_ok-records.records.items }) = record {
      least = c.requires.least;
      most = c.requires.most;
      words = c.in_ok-words.ensures;
      bytes = c.in_ok-bytes.ensures;
      counts = c.in_ok-counts.ensures;
      roles_len = c.in_ok-roles.ensures.len;
      roles = c.in_ok-roles.ensures.each;
      order_len = c.in_ok-order.ensures.len;
      order = c.in_ok-order.ensures.each;
      free_len = ap (λ n. c.args.frames - n) c.reserved.ensures;
      records_len = c.in_ok-records.ensures.len;
      records = c.in_ok-records.ensures.each;
    } in
    first_is c.args.frames (record { words = c.in_ok-words.words.items; bytes = c.in_ok-bytes.bytes.items; roles = c.in_ok-roles.roles.items; counts = c.in_ok-counts.counts.items; order = c.in_ok-order.order.items; free_len = c.args.frames - c.reserved.result; records = c.in_ok-records.records.items }) is

pub returns-clause-records : goal.returns-clause-records
returns-clause-records c =
    let is : IsFirst c.args.frames (record { words = c.in_ok-words.words.items; bytes = c.in_ok-bytes.bytes.items; roles = c.in_ok-roles.roles.items; counts = c.in_ok-counts.counts.items; order = c.in_ok-order.order.items; free_len = c.args.frames - c.reserved.result; records = c.in_ok-records.records.items }) = record {
      least = c.requires.least;
      most = c.requires.most;
      words = c.in_ok-words.ensures;
      bytes = c.in_ok-bytes.ensures;
      counts = c.in_ok-counts.ensures;
      roles_len = c.in_ok-roles.ensures.len;
      roles = c.in_ok-roles.ensures.each;
      order_len = c.in_ok-order.ensures.len;
      order = c.in_ok-order.ensures.each;
      free_len = ap (λ n. c.args.frames - n) c.reserved.ensures;
      records_len = c.in_ok-records.ensures.len;
      records = c.in_ok-records.ensures.each;
    } in
    first_records c.args.frames (record { words = c.in_ok-words.words.items; bytes = c.in_ok-bytes.bytes.items; roles = c.in_ok-roles.roles.items; counts = c.in_ok-counts.counts.items; order = c.in_ok-order.order.items; free_len = c.args.frames - c.reserved.result; records = c.in_ok-records.records.items }) is
