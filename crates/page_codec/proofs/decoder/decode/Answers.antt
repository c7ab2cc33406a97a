use Rattle.std.proofs.Common.{rules}
use Rattle.page_codec.proofs.ReadLaws.{no_page_fault}
use Rattle.page_codec.proofs.decoder.decode.Goals as goal

pub returns-in-Err-clause-outside : goal.returns-in-Err-clause-outside
returns-in-Err-clause-outside c ms is = no_page_fault c.args.want.now c.args.block.now ms c.in-Err.fault is c.in-Err.ensures.fault

pub returns-in-Err-clause-emptied : goal.returns-in-Err-clause-emptied
returns-in-Err-clause-emptied c = search rules
