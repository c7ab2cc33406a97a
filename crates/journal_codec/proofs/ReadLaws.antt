-- A sector of the journal says one list of entries, and what is written is read back.
use Rattle.std.specs.Prelude.{ℕ, ◌≡◌, ◌≤◌, ◌-◌, List, ◌++◌, length, take, drop, replicate, flat_map}
use Rattle.std.proofs.Common.{sym, ◌∙◌, ap, lit≤, arith}
use Rattle.blk_base.specs.declared.journal_entry.Entry.{Entry}
use Rattle.byte_fields.specs.Fields.{number_at}
use Rattle.sector_records.proofs.SectorLaws.{records_fit, length-sector, sector-head, sector-number, sector-records, one_list}
use Rattle.journal_codec.specs.BlockBytes.{entry_bytes, head_bytes, sector_bytes}
use Rattle.journal_codec.specs.Grammar.{HoldsEntry, IsSector}
use Rattle.journal_codec.specs.Lengths.{length-entry, length-head}
use Rattle.journal_codec.proofs.FieldLaws.{entry_injective, sequence_read, head_read, count_read}

pub length-sector_bytes : (nonce sequence head number : ℕ) (es : List Entry) → length es ≤ 24 → length (sector_bytes nonce sequence head number es) ≡ 512
length-sector_bytes nonce sequence head number es few =
    length-sector entry_bytes (head_bytes nonce sequence head number (length es)) es (length-head nonce sequence head number (length es))
    (records_fit entry_bytes 20 24 length-entry (lit≤ tt) es few)

-- the fields of a valid sector
pub record Fields (bytes : List ℕ) (s h : ℕ) (es : List Entry) : Type 0 where
  pub sequence : number_at 8 8 bytes ≡ s
  pub head : number_at 8 16 bytes ≡ h
  pub count : number_at 2 26 bytes ≡ length es
  pub entries : drop 32 bytes ≡ flat_map entry_bytes es ++ replicate (480 - length (flat_map entry_bytes es)) 0

pub fields_of : (nonce number : ℕ) (bytes : List ℕ) (s h : ℕ) (es : List Entry) → IsSector nonce number bytes s h es → Fields bytes s h es
fields_of nonce number bytes s h es is =
    let head = head_bytes nonce s h number (length es) in
    let size : length head ≡ 32 = length-head nonce s h number (length es) in
    record {
      sequence = ap (number_at 8 8) is.spelled ∙ sector-number entry_bytes head es 8 8 size (lit≤ tt) ∙ sequence_read nonce s h number (length es) (omega (arith, is.named));
      head = ap (number_at 8 16) is.spelled ∙ sector-number entry_bytes head es 8 16 size (lit≤ tt) ∙ head_read nonce s h number (length es) (omega (arith, is.named, is.head_below));
      count = ap (number_at 2 26) is.spelled ∙ sector-number entry_bytes head es 2 26 size (lit≤ tt) ∙ count_read nonce s h number (length es) (omega (arith, is.few));
      entries = ap (drop 32) is.spelled ∙ sector-records entry_bytes head es size;
    }

-- a valid sector has one reading
pub one_reading : (nonce number : ℕ) (bytes : List ℕ) (s h s' h' : ℕ) (es es' : List Entry)
    → IsSector nonce number bytes s h es → IsSector nonce number bytes s' h' es' → (s ≡ s') × (h ≡ h') × (es ≡ es')
one_reading nonce number bytes s h s' h' es es' is is' =
    let f = fields_of nonce number bytes s h es is in
    let f' = fields_of nonce number bytes s' h' es' is' in (
      sym f.sequence ∙ f'.sequence,
      sym f.head ∙ f'.head,
      one_list entry_bytes 20 HoldsEntry length-entry entry_injective _ _ es es' (length-head nonce s h number (length es)) (length-head nonce s' h' number (length es'))
          is.each is'.each (sym f.count ∙ f'.count) (sym is.spelled ∙ is'.spelled),
    )

-- the head of a sector
pub head_of_sector : (nonce sequence head number : ℕ) (es : List Entry) → take 32 (sector_bytes nonce sequence head number es) ≡ head_bytes nonce sequence head number (length es)
head_of_sector nonce sequence head number es =
    sector-head entry_bytes (head_bytes nonce sequence head number (length es)) es (length-head nonce sequence head number (length es))
