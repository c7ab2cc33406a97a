use Rattle.std.proofs.Common.{◌≡◌, ◌+◌, ◌*◌, ◌∙◌, List, length, ap, arith}
use Rattle.audit.proofs.ReportLaws.{few_below}
use Rattle.audit.specs.Tallies.{differences_below, number_in}
use Rattle.audit.specs.declared.forms.Difference.{Difference}
use Rattle.audit.proofs.comparison.compare.Goals as goal

pub loop-slab-preserved : goal.loop-slab-preserved
loop-slab-preserved c =
    let width = c.args.layout.now.geometry.slab_blocks in
    let next : c.loop-slab.slab * width + width ≡ (c.loop-slab.slab + 1) * width = omega arith in
    c.in_ok-push_slab.ensures ∙ ap (differences_below c.args.layout.now.geometry c.args.stored.now (number_in c.args.mapped.now)) next

pub returns-clause-few : goal.returns-clause-few
returns-clause-few c =
    let width = c.args.layout.now.geometry.slab_blocks in
    let few = few_below c.args.layout.now.geometry c.args.stored.now (number_in c.args.mapped.now) (c.loop-slab.slab * width) in
    let same = ap (λ (differs : List Difference). length differs) c.loop-slab.invariant in
    let inside = c.loop-slab.auto.slab-end in
    let ended = c.loop-slab-test.false in
    let all : c.loop-slab.slab ≡ c.args.layout.now.geometry.slabs = omega (arith, inside, ended) in
    let number = ap (λ n. n * width) all in
    let total = c.data_blocks-total.ensures in
    omega (arith, few, same, number, total)
