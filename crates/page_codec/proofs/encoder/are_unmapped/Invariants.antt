use Rattle.std.proofs.Common.{◌≡◌, take, replicate}
use Rattle.std.specs.Bool.{OnTrue}
use Rattle.blk_base.specs.declared.place.Mapping.TheVariants.{Unmapped}
use Rattle.page_codec.proofs.encoder.are_unmapped.Given as goal

-- the slots in front are unmapped
abbrev pub invariant-loop-mapping : goal.invariant-loop-mapping
invariant-loop-mapping l = OnTrue l.unmapped (take l.mapping-index l.slots ≡ replicate l.mapping-index Unmapped)
