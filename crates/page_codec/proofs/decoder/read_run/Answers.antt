use Rattle.std.proofs.Common.{◌<◌, arith}
use Rattle.page_codec.specs.Grammar.{IsPageFault}
use Rattle.page_codec.proofs.ReadLaws.{page_fault}
use Rattle.page_codec.proofs.RunLaws.{passed_on, zeros_read}
use Rattle.page_codec.proofs.decoder.read_run.Goals as goal

pub returns-then-has_zeros-clause-ok : goal.returns-then-has_zeros-clause-ok
returns-then-has_zeros-clause-ok c =
    let some = c.if-has_zeros.true in
    zeros_read c.args.want.now c.args.bytes.now c.args.into.now c.args.run c.requires.head (c.has_zeros.ensures.0 some) c.requires.read

pub returns-in_err-read_slot-clause-fault : goal.returns-in_err-read_slot-clause-fault
returns-in_err-read_slot-clause-fault c =
    let run = c.requires.run in
    let inside : c.loop-slot.slot < 812 = omega (arith, run) in
    passed_on c.from_residual.result (λ fault. IsPageFault c.args.want.now c.args.bytes.now fault) c.in_err-read_slot.field-0.0 c.from_residual.ensures.1
    (page_fault c.args.want.now c.args.bytes.now c.loop-slot.into c.loop-slot.slot c.in_err-read_slot.field-0.0 inside c.loop-slot.invariant.front c.in_err-read_slot.ensures.fault)
