use Rattle.std.proofs.Common.{refl}
use Rattle.session_opening.proofs.PageLaws.{one_added}
use Rattle.session_opening.proofs.pages.push_page.Goals as goal

pub returns : goal.returns
returns c links are = one_added links c.args.link _ c.args.pages.now.items _ refl refl (c.lead.ensures links are) c.in_ok-push.ensures.items
