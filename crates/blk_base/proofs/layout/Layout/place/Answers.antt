use Rattle.std.proofs.Common.{◌≡◌, ◌+◌, ◌-◌, ◌*◌, arith}
use Rattle.std.proofs.lemmas.Nat.{mul-add-lt, mod-mul-add}
use Rattle.blk_base.specs.Regions.{slab_stride_of, first_slab_of}
use Rattle.blk_base.proofs.layout.Layout.place.Goals as goal
use Rattle.blk_base.proofs.layout.Layout.place.Goals.{then-at-first-via-then-at-first, then-at-first-via-else-at-first+then-needed-at}

pub returns-then-at-first-clause-none : goal.returns-then-at-first-clause-none
returns-then-at-first-clause-none c is =
    let g = c.args.self.now.geometry in
    let below = mul-add-lt is.slab (slab_stride_of g) is.offset g.slabs is.inside.0 (omega (arith, is.inside)) in
    let same = is.stands in
    elim c.then-at-first.branch [ then-at-first-via-then-at-first w ↦ omega arith | then-at-first-via-else-at-first+then-needed-at w ↦ omega arith ]

pub returns-else-offset-self-clause-none : goal.returns-else-offset-self-clause-none
returns-else-offset-self-clause-none c is =
    let g = c.args.self.now.geometry in
    let behind : is.slab * slab_stride_of g + is.offset ≡ c.args.at.0 - first_slab_of g = omega (arith, is.stands) in
    let rest = mod-mul-add is.slab (slab_stride_of g) is.offset (omega (arith, is.inside)) in
    let past = rw (c.slab_stride-stride.ensures.stride, c.first_slab-first.ensures.first) at c.if-offset-self.false in
    absurd (omega (arith, past, is.inside, rw behind at rest))
