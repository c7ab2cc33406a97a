use Rattle.std.proofs.Common.{◌<◌, sym, ◌∙◌, arith}
use Rattle.std.proofs.lemmas.List.{ext_get_or}
use Rattle.slab_codec.specs.declared.forms.ReferenceSector.{ReferenceSector}
use Rattle.force_rebuild.proofs.CounterLaws.{length-sectors, sector_of_block}
use Rattle.force_rebuild.specs.Written.{counted_sector, counted_sectors}
use Rattle.force_rebuild.proofs.slabs.sectors_of.Goals as goal

pub returns : goal.returns
returns c =
    let g = c.args.layout.now.geometry in
    let none : ReferenceSector = counted_sector g c.args.commit.0 c.args.own.now 0 in
    let size = c.loop-j.invariant.0 in
    let count = length-sectors g c.args.commit.0 c.args.own.now c.args.i in
    let ended = c.loop-j-test.false in
    ext_get_or none c.loop-j.sectors (counted_sectors g c.args.commit.0 c.args.own.now c.args.i) (size ∙ sym count)
    (λ k below.
    let inside : k < c.loop-j.j = omega (arith, below, size, ended) in
    c.loop-j.invariant.1 k none inside ∙ sym (sector_of_block g c.args.commit.0 c.args.own.now c.args.i none k (omega (arith, below, size))))
