-- Small images for rows about counts: counters, and updates in a slab journal.
use Rattle.std.proofs.Common.{ℕ, ◌+◌, List, [], ◌∷◌, ◌++◌, replicate, refl, arith}
use Rattle.std.proofs.lemmas.List.Elements.{All-cons, All-nil}
use Rattle.blk_base.specs.Sectors.{zero_block}
use Rattle.blk_base.specs.declared.journal_entry.CommittedEntry.{CommittedEntry}
use Rattle.blk_base.specs.declared.journal_entry.Entry.TheVariants.{Remap}
use Rattle.blk_base.specs.declared.place.Mapping.{Mapping}
use Rattle.blk_base.specs.declared.place.Mapping.TheVariants.{Unmapped, Zero, At}
use Rattle.blk_base.specs.Forms.{pbn}
use Rattle.slab_codec.specs.Grammar.{HoldsBlock, HoldsEntry}
use Rattle.slab_codec.specs.BlockBytes.{block_bytes}
use Rattle.slab_codec.proofs.ReadLaws.{written}
use Rattle.slab_codec.specs.Updates.{slab_entry as kept}
use Rattle.image_model.specs.Counts.{IsKept}
use Rattle.image_model.specs.Maps.{Image}
use Rattle.image_model.proofs.Example.{small}

-- A slab's journal: slot 1 has a block with an update of block 86 at point 1536. Its sequence is 0, which isn't looked at.
abbrev pub slab_block : List ℕ
slab_block = block_bytes 1 0 0 (kept 1536 1 ∷ [])

abbrev pub journaled : List (List ℕ)
journaled = replicate 151 zero_block ++ slab_block ∷ []

pub holds : HoldsBlock 64 0 (kept 1536 1 ∷ [])
holds = record { named = omega arith; few = omega arith; each = All-cons (HoldsEntry 64) (kept 1536 1) [] (omega arith, omega arith, omega arith) (All-nil (HoldsEntry 64)) }

pub kept_is : IsKept small journaled 0 (kept 1536 1)
kept_is = record {
  slot = 1;
  number = 0;
  inside = (omega arith, omega arith);
  sequence = 0;
  entries = kept 1536 1 ∷ [];
  valid = written 1 0 64 0 (kept 1536 1 ∷ []) 0 holds (omega arith);
  listed = (0, omega arith, refl);
}

-- What an entry updates: it adds one to the new block, at its point, and takes one from the old one, at the next point.
abbrev pub remap : Mapping → Mapping → CommittedEntry
remap old new = record { entry = Remap (record { 0 = 5 }) old new; point = record { 0 = 512 } }

-- The updates of block 86 above its commit point, 0: one that stands in the slab's journal and in the window, and one that
-- stands in the window alone.
abbrev pub newest : CommittedEntry
newest = record { entry = Remap (record { 0 = 5 }) (At (pbn 86)) Zero; point = record { 0 = 2048 } }

abbrev pub oldest : CommittedEntry
oldest = record { entry = Remap (record { 0 = 5 }) Unmapped (At (pbn 86)); point = record { 0 = 1536 } }

abbrev pub updated : Image
updated = record { geometry = small; blocks = journaled; window = newest ∷ oldest ∷ [] }
