use Rattle.page_codec.specs.PageBytes.{head_bytes}
use Rattle.std.proofs.Common.{rules}
use Rattle.page_codec.proofs.encoder.put_head.Goals as goal

pub returns : goal.returns
unfolding head_bytes
returns c = search rules
