use Rattle.std.proofs.Common.{ℕ, ◌≡◌, ◌+◌, ◌*◌, ◌<◌, get_or, length}
use Rattle.slab_codec.specs.declared.forms.ReferenceSector.{ReferenceSector}
use Rattle.force_rebuild.specs.Written.{counted_sector}
use Rattle.force_rebuild.proofs.slabs.sectors_of.Given as goal

abbrev pub invariant-loop-j : goal.invariant-loop-j
invariant-loop-j l =
    (length l.sectors ≡ 8) × ((k : ℕ) (none : ReferenceSector) → k < l.j → get_or l.sectors k none ≡ counted_sector l.layout.geometry l.commit.0 l.own (l.i * 8 + k))
