use Rattle.std.proofs.Common.{arith, ap, ◌∙◌, ◌≡◌, List, get_or, []}
use Rattle.blk_base.specs.declared.request.Request.{Request}
use Rattle.core_model.specs.SessionLimits.{asks_read}
use Rattle.core_model.proofs.CountLaws.{few_with_row}
use Rattle.plain_laws.specs.Sums.{total}
use Rattle.core_model.proofs.scripts.count_reads.Goals as goal

pub overflow_add-count : goal.overflow_add-count
overflow_add-count c =
    let few = few_with_row c.args.requests.now c.loop-stream.stream c.loop-stream.count (rw c.count-stream-end.ensures at c.loop-stream-test.true) c.loop-stream.invariant in
    let row : c.count_row-count.result ≡ total asks_read (get_or c.args.requests.now c.loop-stream.stream []) =
    c.count_row-count.ensures ∙ ap (λ (requests : List Request). total asks_read requests) c.stream.ensures in
    omega (arith, few, row, c.requires.few)
