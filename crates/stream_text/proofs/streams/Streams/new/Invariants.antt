use Rattle.std.proofs.Common.{◌≡◌, [], map, replicate}
use Rattle.std.specs.Vec.{vec_capacity}
use Rattle.stream_text.proofs.streams.Streams.new.Given as goal

abbrev pub invariant-loop : goal.invariant-loop
invariant-loop l = record {
  rows : map (λ row. row.items) l.rows.items ≡ replicate l.counter [];
  capacity : vec_capacity l.rows ≡ vec_capacity l.initial.rows;
}
