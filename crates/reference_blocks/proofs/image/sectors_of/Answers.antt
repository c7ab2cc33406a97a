use Rattle.std.proofs.Common.{ℕ, ◌≡◌, ◌+◌, ◌*◌, [], arith}
use Rattle.std.proofs.lemmas.List.FromFn.{fill_by_all}
use Rattle.slab_codec.specs.declared.forms.ReferenceSector.{ReferenceSector}
use Rattle.reference_blocks.specs.References.{sector_at}
use Rattle.reference_blocks.proofs.image.sectors_of.Goals as goal

pub returns : goal.returns
returns c =
    let empty : ReferenceSector = record { commit = record { 0 = 0 }; counters = [] } in
    let last : c.loop-j.j ≡ 8 = omega arith in
    fill_by_all (λ (j : ℕ). sector_at c.args.layout.now.geometry c.args.points.now c.args.counters.now (8 * c.args.block + j)) c.loop-j.sectors 8 empty c.loop-j.invariant.size
    (λ k below. c.loop-j.invariant.made k (omega (arith, below, last)) empty)
