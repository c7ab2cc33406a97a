use Rattle.std.proofs.Common.{◌≡◌, length, take}
use Rattle.byte_fields.specs.Mappings.{mapping_bytes}
use Rattle.page_codec.specs.Grammar.{slot_bytes}
use Rattle.replay_map.proofs.PutLaws.{AreOwn, ArePutBut}
use Rattle.recovery_blocks.proofs.page_patches.put_slots.Given as goal

abbrev pub invariant-loop-id : goal.invariant-loop-id
invariant-loop-id l = record {
  size : length l.block ≡ length l.fn.block;
  head : take 36 l.block ≡ take 36 l.fn.block;
  own : AreOwn l.changes l.fn.page l.id-iterator;
  put : ArePutBut slot_bytes mapping_bytes l.changes l.fn.page l.id-iterator l.fn.block l.block;
}
