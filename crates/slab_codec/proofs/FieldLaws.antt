-- The fields of entries and heads, as they are read back.
use Rattle.std.specs.Prelude.{ℕ, ◌≡◌, ◌<◌, ◌^◌, ◌%◌, List, [], ◌∷◌, ◌++◌, refl}
use Rattle.std.proofs.Common.{sym, ◌∙◌, ap, ap₂, arith, length-append, append_assoc}
use Rattle.byte_fields.specs.Fields.{le, number_at}
use Rattle.byte_fields.proofs.FieldLaws.{length-le, number_behind}
use Rattle.slab_codec.specs.declared.forms.SlabEntry.{SlabEntry}
use Rattle.slab_codec.specs.BlockBytes.{entry_bytes, head_bytes}
use Rattle.slab_codec.specs.Updates.{slab_entry}

-- entries

point_read : (e : SlabEntry) → e.point.0 < 2 ^ 64 → number_at 8 0 (entry_bytes e) ≡ e.point.0
unfolding entry_bytes
point_read e fits =
    number_behind 8 e.point.0 0 [] (le 2 e.offset ++ (le 1 (e.point.0 % 2) ++ le 1 0)) (entry_bytes e) (simp append_assoc) refl (omega (arith, fits))

offset_read : (e : SlabEntry) → e.offset < 2 ^ 16 → number_at 2 8 (entry_bytes e) ≡ e.offset
unfolding entry_bytes
offset_read e fits =
    number_behind 2 e.offset 8 (le 8 e.point.0) (le 1 (e.point.0 % 2) ++ le 1 0) (entry_bytes e) (simp append_assoc) (length-le 8 e.point.0) (omega (arith, fits))

-- what reads its fields gives the entry
pub entry_is : (point offset : ℕ) (bytes : List ℕ) (e : SlabEntry) → (e.point.0 < 2 ^ 64) × (e.offset < 2 ^ 16) → bytes ≡ entry_bytes e
    → point ≡ number_at 8 0 bytes → offset ≡ number_at 2 8 bytes → slab_entry point offset ≡ e
entry_is point offset bytes e fits same point_is offset_is =
    ap₂ (λ (p o : ℕ). slab_entry p o) (point_is ∙ ap (number_at 8 0) same ∙ point_read e fits.0) (offset_is ∙ ap (number_at 2 8) same ∙ offset_read e fits.1)

pub entry_injective : (e f : SlabEntry) → (e.point.0 < 2 ^ 64) × (e.offset < 2 ^ 16) → (f.point.0 < 2 ^ 64) × (f.offset < 2 ^ 16) → entry_bytes e ≡ entry_bytes f → e ≡ f
entry_injective e f fits fits' same =
    entry_is e.point.0 e.offset (entry_bytes e) f fits' same (sym (point_read e fits.0)) (sym (offset_read e fits.1))

-- heads

pub sequence_read : (nonce sequence slab number count : ℕ) → sequence < 2 ^ 64 → number_at 8 8 (head_bytes nonce sequence slab number count) ≡ sequence
unfolding head_bytes
sequence_read nonce sequence slab number count fits =
    number_behind 8 sequence 8 (le 8 nonce) (le 4 slab ++ (le 2 number ++ (le 2 count ++ ((86 ∷ 83 ∷ 83 ∷ 49 ∷ []) ++ le 4 0))))
    (head_bytes nonce sequence slab number count) (simp append_assoc) (length-le 8 nonce) (omega (arith, fits))

pub count_read : (nonce sequence slab number count : ℕ) → count < 2 ^ 16 → number_at 2 22 (head_bytes nonce sequence slab number count) ≡ count
unfolding head_bytes
count_read nonce sequence slab number count fits =
    number_behind 2 count 22 (le 8 nonce ++ (le 8 sequence ++ (le 4 slab ++ le 2 number))) ((86 ∷ 83 ∷ 83 ∷ 49 ∷ []) ++ le 4 0)
    (head_bytes nonce sequence slab number count) (simp append_assoc) (simp (length-append, length-le)) (omega (arith, fits))
