use Rattle.std.proofs.Common.{◌∙◌, ◌++◌, sym, ap, arith, replicate}
use Rattle.std.proofs.lemmas.List.{take_all}
use Rattle.image_layout.proofs.SpellingLaws.{super_block-fields}
use Rattle.image_layout.proofs.superblock_writer.put_super.Goals as goal

pub returns : goal.returns
returns c =
    sym (take_all 4096 c.put_zeros.new.out (omega arith)) ∙ c.put_zeros.ensures.front
    ∙ ap (λ f. f ++ replicate 4032 0) c.put_head.ensures ∙ sym (super_block-fields c.args.head.now)
