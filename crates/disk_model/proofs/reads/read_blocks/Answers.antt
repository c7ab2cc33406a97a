use Rattle.std.proofs.Common.{◌≡◌, ◌+◌, length, reverse, arith}
use Rattle.std.proofs.lemmas.List.{length-reverse}
use Rattle.disk_model.proofs.SinceLaws.{none_read, next_read, next_failed, were_only_read, next_only_read}
use Rattle.disk_model.proofs.reads.read_blocks.Goals as goal

pub loop-i-init : goal.loop-i-init
loop-i-init g c = record {
  count = c.new-blocks.ensures.len;
  read = rw c.new-blocks.ensures.items (none_read _ c.args.first.0 _ (g.met.D.Disk.told c.args.device.now));
}

pub loop-i-preserved : goal.loop-i-preserved
loop-i-preserved g c =
    let was = c.loop-i.invariant in
    let read = c.loop-i.blocks.items in
    let place : c.args.first.0 + c.loop-i.i ≡ c.args.first.0 + length read = omega (arith, was.count, c.loop-i.blocks.ok) in
    record {
      count = omega (arith, c.in-Ok-push.ensures.len, was.count);
      read = rw c.in-Ok-push.ensures.items (next_read _ c.args.first.0 _ _ _ read (record { 0 = c.args.first.0 + c.loop-i.i }) place was.read _ c.in-Ok.ensures.read);
    }

pub returns-in_default-clause-fault : goal.returns-in_default-clause-fault
returns-in_default-clause-fault g c =
    let was = c.loop-i.invariant in
    let read = c.loop-i.blocks.items in
    let place : c.args.first.0 + c.loop-i.i ≡ c.args.first.0 + length read = omega (arith, was.count, c.loop-i.blocks.ok) in (
      reverse read,
      omega (arith, length-reverse read, was.count, c.loop-i.blocks.ok),
      next_failed _ c.args.first.0 _ _ _ read (record { 0 = c.args.first.0 + c.loop-i.i }) place was.read c.in_default.ensures.failed,
    )

pub returns-in_default-clause-untouched : goal.returns-in_default-clause-untouched
returns-in_default-clause-untouched g c = let failed = returns-in_default-clause-fault g c in next_only_read _ _ _ _ _ failed.2

pub returns-in_default-push-clause-untouched : goal.returns-in_default-push-clause-untouched
returns-in_default-push-clause-untouched g c =
    let was = c.loop-i.invariant in
    let read = c.loop-i.blocks.items in
    let place : c.args.first.0 + c.loop-i.i ≡ c.args.first.0 + length read = omega (arith, was.count, c.loop-i.blocks.ok) in
    were_only_read _ _ _ _ _ (next_read _ c.args.first.0 _ _ _ read (record { 0 = c.args.first.0 + c.loop-i.i }) place was.read _ c.in-Ok.ensures.read)

pub returns-clause-count : goal.returns-clause-count
returns-clause-count g c = omega (arith, c.loop-i.invariant.count, c.loop-i-test.false, c.loop-i.blocks.ok)

pub returns-clause-read : goal.returns-clause-read
returns-clause-read g c = c.loop-i.invariant.read

pub returns-clause-untouched : goal.returns-clause-untouched
returns-clause-untouched g c = were_only_read _ _ _ _ _ c.loop-i.invariant.read
