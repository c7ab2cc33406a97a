use Rattle.std.proofs.Common.{arith, subst}
use Rattle.map_page_cache.specs.CachedPages.{CachedPages, IsThere}
use Rattle.map_zone.proofs.ShownLaws.{says, shown}
use Rattle.map_zone.proofs.laws.what_was_applied_is_shown.Goals as goal

pub returns-clause-opened : goal.returns-clause-opened
returns-clause-opened c = λ opened zone zones frames m is. (
  is.form,
  λ page content there. let none = subst (λ (c : CachedPages). IsThere c page content) is.cache there in omega (arith, none.0.1),
)

pub returns-clause-shown : goal.returns-clause-shown
returns-clause-shown c = shown

pub returns-clause-says : goal.returns-clause-says
returns-clause-says c = says
