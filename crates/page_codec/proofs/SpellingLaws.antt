-- How long the parts of a page are, and where they stand.
use Rattle.std.specs.Prelude.{ℕ, suc, ◌≡◌, ◌<◌, ◌+◌, ◌*◌, List, [], ◌∷◌, length, take, drop, flat_map, slice_index_or}
use Rattle.std.proofs.Common.{sym, ◌∙◌, ap, arith, length-append, length-drop}
use Rattle.std.proofs.lemmas.List.{take_at, drop_at, drop-drop, append-nil, nil_from_length}
use Rattle.blk_base.specs.declared.place.Mapping.{Mapping}
use Rattle.blk_base.specs.declared.place.Mapping.TheVariants.{Unmapped}
use Rattle.byte_fields.proofs.FieldLaws.{length-le, length-records, record_at, parts}
use Rattle.byte_fields.proofs.MappingLaws.{length-mapping}
use Rattle.page_codec.specs.declared.forms.PageHead.{PageHead}
use Rattle.byte_fields.specs.Mappings.{mapping_bytes}
use Rattle.page_codec.specs.PageBytes.{head_bytes, page_bytes}
use Rattle.page_codec.specs.Grammar.{slot_bytes}

pub length-head : (head : PageHead) → length (head_bytes head) ≡ 36
unfolding head_bytes
length-head head = simp (length-append, length-le)

-- the head of a page
pub head_of_page : (head : PageHead) (ms : List Mapping) → take 36 (page_bytes head ms) ≡ head_bytes head
unfolding page_bytes
head_of_page head ms = take_at (head_bytes head) (flat_map mapping_bytes ms) 36 (length-head head)

-- and all of it
pub page_size : (head : PageHead) (mappings : List Mapping) → length mappings ≡ 812 → length (page_bytes head mappings) ≡ 4096
unfolding page_bytes
page_size head mappings count =
    let front = length-head head in
    let back = length-records mapping_bytes 5 length-mapping mappings in
    length-append (head_bytes head) (flat_map mapping_bytes mappings) ∙ omega (arith, front, back, count)

-- what is behind it
pub slots_of_page : (head : PageHead) (ms : List Mapping) → drop 36 (page_bytes head ms) ≡ flat_map mapping_bytes ms
unfolding page_bytes
slots_of_page head ms = drop_at (head_bytes head) (flat_map mapping_bytes ms) 36 (length-head head)

-- a slot of a page
pub slot_of_page : (head : PageHead) (ms : List Mapping) (slot : ℕ) → slot < length ms
    → slot_bytes slot (page_bytes head ms) ≡ mapping_bytes (slice_index_or ms slot Unmapped)
slot_of_page head ms slot lt =
    ap (take 5) (sym (drop-drop (5 * slot) 36 (page_bytes head ms)))
    ∙ ap (λ b. take 5 (drop (5 * slot) b)) (slots_of_page head ms ∙ sym (append-nil (flat_map mapping_bytes ms)))
    ∙ record_at mapping_bytes 5 length-mapping ms slot [] Unmapped lt

-- bytes that spell mappings one after the other spell the list of them
pub spelled_by_slots : (ms : List Mapping) (bytes : List ℕ) → length bytes ≡ 5 * length ms
    → ((i : ℕ) → i < length ms → take 5 (drop (5 * i) bytes) ≡ mapping_bytes (slice_index_or ms i Unmapped)) → bytes ≡ flat_map mapping_bytes ms
spelled_by_slots [] bytes size each = nil_from_length bytes size
spelled_by_slots (m ∷ ms) bytes size each =
    let back = spelled_by_slots ms (drop 5 bytes) (simp length-drop (omega (arith, size)))
    (λ i lt. let place : 5 + 5 * i ≡ 5 * suc i = omega arith in
    ap (take 5) (drop-drop (5 * i) 5 bytes ∙ ap (λ n. drop n bytes) place) ∙ each (suc i) (omega arith)) in
    parts 5 bytes (mapping_bytes m) (flat_map mapping_bytes ms) (each 0 (omega arith)) back

-- and with the head they spell the page
pub page_by_slots : (head : PageHead) (block : List ℕ) (ms : List Mapping) → length block ≡ 4096 → length ms ≡ 812 → take 36 block ≡ head_bytes head
    → ((slot : ℕ) → slot < 812 → slot_bytes slot block ≡ mapping_bytes (slice_index_or ms slot Unmapped)) → block ≡ page_bytes head ms
unfolding page_bytes
page_by_slots head block ms size count front each =
    parts 36 block (head_bytes head) (flat_map mapping_bytes ms) front
    (spelled_by_slots ms (drop 36 block) (simp length-drop (omega (arith, size, count)))
    (λ i lt. ap (take 5) (drop-drop (5 * i) 36 block) ∙ each i (omega (arith, count))))
