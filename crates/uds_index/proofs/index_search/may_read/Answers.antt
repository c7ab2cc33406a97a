use Rattle.std.proofs.Common.{◌∙◌, sym, arith}
use Rattle.std.proofs.lemmas.Bool.{false≢true, ltb-true, lt-ltb}
use Rattle.uds_index.proofs.AskLaws.{cached_there, given_there}
use Rattle.uds_index.proofs.CacheLaws.{uncached, not_given}
use Rattle.uds_index.proofs.index_search.may_read.Goals as goal

pub returns-then-given-lt-ASKED : goal.returns-then-given-lt-ASKED
returns-then-given-lt-ASKED c = (
  λ yes'. let fewer = ltb-true c.given_of_chapter.result 3 yes' in record {
    uncached = uncached c.args.cache.now.entries c.args.at (sym c.contains.ensures ∙ c.if-contains.false);
    new = not_given c.args.given.now c.args.at (sym c.contains-2.ensures.value ∙ c.if-contains-2.false);
    few_of_chapter = omega (arith, fewer, c.given_of_chapter.ensures);
    few = omega (arith, c.if-given-lt-ASKED.true);
  },
  λ new. let few = new.few_of_chapter in lt-ltb c.given_of_chapter.result 3 (omega (arith, few, c.given_of_chapter.ensures)),
)

pub returns-then-contains : goal.returns-then-contains
returns-then-contains c = (λ never. absurd (false≢true never), λ new. absurd (new.uncached (cached_there c.args.cache.now.entries c.args.at (sym c.contains.ensures ∙ c.if-contains.true))))

pub returns-then-contains-2 : goal.returns-then-contains-2
returns-then-contains-2 c = (λ never. absurd (false≢true never), λ new. absurd (new.new (given_there c.args.given.now c.args.at (sym c.contains-2.ensures.value ∙ c.if-contains-2.true))))
