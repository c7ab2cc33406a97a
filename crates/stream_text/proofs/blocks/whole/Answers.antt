use Rattle.std.proofs.Common.{sym}
use Rattle.stream_text.proofs.RunWordLaws.{whole_block}
use Rattle.stream_text.proofs.blocks.whole.Goals as goal

pub returns : goal.returns
returns c = λ bytes held.
    rw c.of_box.ensures (sym (whole_block bytes c.in_ok-filled.field-0 c.args.block.value c.if-branch-ne4096.false c.requires (rw c.in_ok-filled.was at held)))
