use Rattle.std.proofs.Common.{not, ap, ◌∙◌, rules}
use Rattle.std.proofs.lemmas.Fn.{filter_same}
use Rattle.blk_base.specs.declared.place.PageId.{PageId}
use Rattle.image_model.specs.Pages.{is_page}
use Rattle.core_model.specs.PageTrees.{but_page}
use Rattle.core_model.proofs.page_list.PageList.strike.Goals as goal

pub returns : goal.returns
returns g c = filter_same _ (λ (other : PageId). not (is_page other c.args.page)) _ (λ x b f' k. search rules) _ _ c.retain.ensures.filtered ∙ ap (but_page c.args.page) c.self.view_is
