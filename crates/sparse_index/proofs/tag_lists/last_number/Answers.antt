use Rattle.std.proofs.Common.{◌∙◌, option_copied, ap, sym}
use Rattle.sparse_index.proofs.ListLaws.{last_is}
use Rattle.sparse_index.proofs.tag_lists.last_number.Goals as goal

pub returns-in-Some : goal.returns-in-Some
returns-in-Some c = c.number.ensures ∙ last_is c.args.chapters.now c.in-Some.chapter.now (sym c.last.ensures.value ∙ ap option_copied c.in-Some.is)
