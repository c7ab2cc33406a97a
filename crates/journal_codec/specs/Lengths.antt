-- How long the parts of a sector are.
use Rattle.std.specs.Prelude.{ℕ, ◌≡◌, length}
use Rattle.std.proofs.Common.{length-append}
use Rattle.blk_base.specs.declared.place.Mapping.{Mapping}
use Rattle.blk_base.specs.declared.place.Mapping.TheVariants.{Unmapped, At}
use Rattle.blk_base.specs.declared.journal_entry.Entry.{Entry}
use Rattle.blk_base.specs.declared.journal_entry.Entry.TheVariants.{Remap, NewPage}
use Rattle.byte_fields.proofs.FieldLaws.{length-le}
use Rattle.byte_fields.proofs.MappingLaws.{length-mapping}
use Rattle.journal_codec.specs.BlockBytes.{entry_form, entry_bytes, head_bytes}

length-form : (kind tree level number : ℕ) (old new : Mapping) → length (entry_form kind tree level number old new) ≡ 20
unfolding entry_form
length-form kind tree level number old new = simp (length-append, length-le, length-mapping)

pub length-entry : (e : Entry) → length (entry_bytes e) ≡ 20
length-entry (Remap at old new) = length-form 0 0 0 at.0 old new
length-entry (NewPage page at) = length-form 1 page.tree page.level page.index Unmapped (At at)

pub length-head : (nonce sequence head number count : ℕ) → length (head_bytes nonce sequence head number count) ≡ 32
unfolding head_bytes
length-head nonce sequence head number count = simp (length-append, length-le)
