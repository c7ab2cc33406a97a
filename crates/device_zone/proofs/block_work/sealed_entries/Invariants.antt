use Rattle.std.proofs.Common.{◌≡◌, length, map, take}
use Rattle.core_model.specs.Trace.{entry_of}
use Rattle.data_vio.specs.Vios.{logged}
use Rattle.data_vio.specs.declared.items.Vio.{Vio}
use Rattle.device_zone.proofs.block_work.sealed_entries.Given as goal

abbrev pub invariant-loop-index : goal.invariant-loop-index
invariant-loop-index l = record {
  entries : l.entries ≡ map (λ (v : Vio). entry_of (logged v)) (take l.index l.block.vios);
  count : length l.entries ≡ l.index;
  end : l.index-end ≡ length l.block.vios;
}
