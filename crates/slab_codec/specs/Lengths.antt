-- How long the parts of a sector are.
use Rattle.std.specs.Prelude.{ℕ, ◌≡◌, length}
use Rattle.std.proofs.Common.{length-append}
use Rattle.byte_fields.proofs.FieldLaws.{length-le}
use Rattle.slab_codec.specs.declared.forms.SlabEntry.{SlabEntry}
use Rattle.slab_codec.specs.BlockBytes.{entry_bytes, head_bytes}

pub length-entry : (e : SlabEntry) → length (entry_bytes e) ≡ 12
unfolding entry_bytes
length-entry e = simp (length-append, length-le)

pub length-head : (nonce sequence slab number count : ℕ) → length (head_bytes nonce sequence slab number count) ≡ 32
unfolding head_bytes
length-head nonce sequence slab number count = simp (length-append, length-le)
