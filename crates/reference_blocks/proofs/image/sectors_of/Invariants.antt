use Rattle.std.proofs.Common.{ℕ, ◌≡◌, ◌+◌, ◌*◌, ◌<◌, length, get_or}
use Rattle.slab_codec.specs.declared.forms.ReferenceSector.{ReferenceSector}
use Rattle.reference_blocks.specs.References.{sector_at}
use Rattle.reference_blocks.proofs.image.sectors_of.Given as goal

abbrev pub invariant-loop-j : goal.invariant-loop-j
invariant-loop-j l = record {
  size : length l.sectors ≡ 8;
  made : (k : ℕ) → k < l.j → (d : ReferenceSector) → get_or l.sectors k d ≡ sector_at l.layout.geometry l.points l.counters (8 * l.block + k);
}
