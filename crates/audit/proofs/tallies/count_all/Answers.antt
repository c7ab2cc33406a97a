use Rattle.std.proofs.Common.{◌∙◌, ◌<◌, List, length, take, subst, arith}
use Rattle.std.proofs.lemmas.List.{take_all, length-take-le}
use Rattle.blk_base.specs.declared.place.Pbn.{Pbn}
use Rattle.audit.specs.Tallies.{AreNumbers, number_in}
use Rattle.audit.proofs.TallyLaws.{few_counted, mapped_tallied}
use Rattle.audit.proofs.tallies.count_all.Goals as goal

pub count-requires-clause-size : goal.count-requires-clause-size
count-requires-clause-size c = c.loop-at.invariant.size ∙ c.requires.size

pub count-requires-clause-room : goal.count-requires-clause-room
count-requires-clause-room c = λ place inside.
    let are = c.loop-at.invariant.tallied c.requires.tallied.0 c.requires.tallied.1 in
    let few = few_counted c.args.layout.now.geometry c.requires.tallied.0 (take c.loop-at.at-index c.args.mapped.now) (number_in c.loop-at.tally) place inside are in
    let below : c.loop-at.at-index < length c.args.mapped.now = omega arith in
    let size = length-take-le c.loop-at.at-index c.args.mapped.now (omega (arith, below)) in
    let short = c.requires.few in
    omega (arith, few, size, below, short)

pub loop-at-preserved : goal.loop-at-preserved
loop-at-preserved c =
    let were = c.loop-at.invariant in
    let inside : c.loop-at.at-index < length c.args.mapped.now = omega arith in
    record {
      size = c.count.ensures.size ∙ were.size;
      tallied = λ links first. mapped_tallied _ links _ c.loop-at.at-index _ _ _ inside (were.tallied links first) c.in_ok-count.ensures.counted;
      split = λ first. c.in_ok-count.ensures.split (were.split first);
    }

pub returns-clause-tallied : goal.returns-clause-tallied
returns-clause-tallied c = λ pages were.
    subst (λ (mapped : List Pbn). AreNumbers c.args.layout.now.geometry pages mapped (number_in c.loop-at.tally))
    (take_all c.loop-at.at-index c.args.mapped.now c.loop-at-test.false) (c.loop-at.invariant.tallied pages were)
