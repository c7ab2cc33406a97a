use Rattle.std.proofs.Common.{◌≡◌, arith}
use Rattle.page_codec.proofs.ReadLaws.{page}
use Rattle.page_codec.proofs.RunLaws.{none_read, zeros_page}
use Rattle.page_codec.proofs.decoder.read_page.Goals as goal

pub loop-run-init : goal.loop-run-init
loop-run-init c = none_read c.args.want.now c.args.bytes.now c.clear.new.self c.clear.ensures

pub returns-clause-ok : goal.returns-clause-ok
returns-clause-ok c =
    let last : c.loop-run.run ≡ 29 = omega arith in
    let read = c.loop-run.invariant in
    page c.args.want.now c.args.bytes.now c.loop-run.into c.requires.size read.size (λ slot below. read.front slot (omega (arith, last, below)))

pub returns-then-all_zeros-clause-ok : goal.returns-then-all_zeros-clause-ok
returns-then-all_zeros-clause-ok c =
    zeros_page c.args.want.now c.args.bytes.now c.clear.new.self c.requires.size (c.has_head.ensures.0 c.if-not-has_head.false) (c.all_zeros.ensures.0 c.if-all_zeros.true) c.clear.ensures
