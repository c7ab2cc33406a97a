use Rattle.std.proofs.Common.{arith}
use Rattle.blk_base.specs.declared.sizes.TheConstants.{PAGE_SLOTS}
use Rattle.page_codec.specs.Grammar.{HasHead}
use Rattle.replay_map.proofs.PageLaws.{are_leading, both_ok, has_fault, read_as, where_err, where_ok}
use Rattle.replay_map.proofs.pages.read_page.Goals as goal
use Rattle.replay_map.specs.Pages.{AreSaid}

pub returns-clause-ok : goal.returns-clause-ok
returns-clause-ok c =
    let head = c.args.want.now in
    let block = c.args.block.now in
    let changes = c.args.changes.now in
    where_ok c.read_slots.result
    (both_ok (HasHead head block) (AreSaid head block changes PAGE_SLOTS c.read_slots.new.into) c.read_slots.result c.read_slots.ensures.head c.read_slots.ensures.ok)
    (λ read image stands. read_as image head block changes (omega arith) stands c.read_slots.new.into read.0 read.1)

pub returns-clause-fault : goal.returns-clause-fault
returns-clause-fault c =
    where_err c.read_slots.result c.read_slots.ensures.fault (λ fault refused image stands.
    has_fault image c.args.want.now c.args.block.now c.args.changes.now (omega arith) stands fault refused)

pub returns-clause-data : goal.returns-clause-data
returns-clause-data c =
    where_ok c.read_slots.result c.read_slots.ensures.ok
    (λ said. are_leading c.args.want.now c.args.block.now c.args.changes.now c.read_slots.new.into (omega arith) said)
