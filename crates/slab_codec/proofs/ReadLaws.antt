-- A sector of a slab's journal says one list of entries, and what is written is read back.
use Rattle.std.specs.Prelude.{ℕ, ◌≡◌, ◌<◌, ◌≤◌, ◌^◌, ◌-◌, ◌*◌, List, ◌++◌, length, drop, replicate, flat_map, All}
use Rattle.std.proofs.Common.{sym, ◌∙◌, ap, lit≤, arith}
use Rattle.std.proofs.lemmas.List.Elements.{All-weaker, All-take, All-drop}
use Rattle.blk_base.specs.Sectors.{sector}
use Rattle.byte_fields.specs.Fields.{number_at}
use Rattle.sector_records.proofs.SectorLaws.{records_fit, length-sector, sector-number, sector-records, one_list, few_in, written_sector}
use Rattle.slab_codec.specs.declared.forms.SlabEntry.{SlabEntry}
use Rattle.slab_codec.specs.BlockBytes.{entry_bytes, head_bytes, sector_bytes, entries_in, block_bytes}
use Rattle.slab_codec.specs.Grammar.{HoldsEntry, HoldsBlock, IsSlabSector}
use Rattle.slab_codec.specs.Lengths.{length-entry, length-head}
use Rattle.slab_codec.proofs.FieldLaws.{entry_injective, sequence_read, count_read}

-- an entry's numbers are within their fields
abbrev pub Fits : SlabEntry → Type 0
Fits entry = (entry.point.0 < 2 ^ 64) × (entry.offset < 2 ^ 16)

pub all_fit : (slab_blocks : ℕ) (es : List SlabEntry) → All (HoldsEntry slab_blocks) es → All Fits es
all_fit slab_blocks es held = All-weaker (HoldsEntry slab_blocks) Fits (λ e holds. (holds.0, holds.1)) es held

pub length-sector_bytes : (nonce sequence slab number : ℕ) (es : List SlabEntry) → length es ≤ 40 → length (sector_bytes nonce sequence slab number es) ≡ 512
length-sector_bytes nonce sequence slab number es few =
    length-sector entry_bytes (head_bytes nonce sequence slab number (length es)) es (length-head nonce sequence slab number (length es))
    (records_fit entry_bytes 12 40 length-entry (lit≤ tt) es few)

-- the fields of a valid sector
pub sequence_of : (nonce slab slab_blocks number : ℕ) (bytes : List ℕ) (s : ℕ) (es : List SlabEntry) → IsSlabSector nonce slab slab_blocks number bytes s es → number_at 8 8 bytes ≡ s
sequence_of nonce slab slab_blocks number bytes s es is =
    ap (number_at 8 8) is.spelled ∙ sector-number entry_bytes (head_bytes nonce s slab number (length es)) es 8 8 (length-head nonce s slab number (length es)) (lit≤ tt)
    ∙ sequence_read nonce s slab number (length es) is.named

pub count_of : (nonce slab slab_blocks number : ℕ) (bytes : List ℕ) (s : ℕ) (es : List SlabEntry) → IsSlabSector nonce slab slab_blocks number bytes s es → number_at 2 22 bytes ≡ length es
count_of nonce slab slab_blocks number bytes s es is =
    ap (number_at 2 22) is.spelled ∙ sector-number entry_bytes (head_bytes nonce s slab number (length es)) es 2 22 (length-head nonce s slab number (length es)) (lit≤ tt)
    ∙ count_read nonce s slab number (length es) (let few = is.few in omega arith)

-- a valid sector has one reading
pub one_reading : (nonce slab slab_blocks number : ℕ) (bytes : List ℕ) (s s' : ℕ) (es es' : List SlabEntry)
    → IsSlabSector nonce slab slab_blocks number bytes s es → IsSlabSector nonce slab slab_blocks number bytes s' es' → (s ≡ s') × (es ≡ es')
one_reading nonce slab slab_blocks number bytes s s' es es' is is' = (
  sym (sequence_of nonce slab slab_blocks number bytes s es is) ∙ sequence_of nonce slab slab_blocks number bytes s' es' is',
  one_list entry_bytes 12 Fits length-entry entry_injective _ _ es es' (length-head nonce s slab number (length es)) (length-head nonce s' slab number (length es'))
      (all_fit slab_blocks es is.each) (all_fit slab_blocks es' is'.each)
      (sym (count_of nonce slab slab_blocks number bytes s es is) ∙ count_of nonce slab slab_blocks number bytes s' es' is') (sym is.spelled ∙ is'.spelled),
)

-- what is written is read back
pub written : (nonce slab slab_blocks s : ℕ) (es : List SlabEntry) (i : ℕ) → HoldsBlock slab_blocks s es → i < 8
    → IsSlabSector nonce slab slab_blocks i (sector i (block_bytes nonce s slab es)) s (entries_in i es)
unfolding block_bytes
written nonce slab slab_blocks s es i holds lt = record {
  spelled = written_sector _ i (λ n. length-sector_bytes nonce s slab n (entries_in n es) (few_in 40 n es)) lt;
  named = holds.named;
  few = few_in 40 i es;
  each = All-take (HoldsEntry slab_blocks) 40 (drop (40 * i) es) (All-drop (HoldsEntry slab_blocks) (40 * i) es holds.each);
}

-- the entries of a valid sector
pub entries_of : (nonce slab slab_blocks number : ℕ) (bytes : List ℕ) (s : ℕ) (es : List SlabEntry) → IsSlabSector nonce slab slab_blocks number bytes s es
    → drop 32 bytes ≡ flat_map entry_bytes es ++ replicate (480 - length (flat_map entry_bytes es)) 0
entries_of nonce slab slab_blocks number bytes s es is =
    ap (drop 32) is.spelled ∙ sector-records entry_bytes (head_bytes nonce s slab number (length es)) es (length-head nonce s slab number (length es))
