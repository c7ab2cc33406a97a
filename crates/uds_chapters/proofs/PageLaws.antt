-- A page's parts, and that a block is a page in one way.
use Rattle.std.specs.Prelude.{ℕ, ◌≡◌, ◌<◌, ◌≤◌, ◌^◌, ◌+◌, ◌-◌, ◌*◌, List, [], ◌∷◌, ◌++◌, length, take, drop, replicate, flat_map, All, refl}
use Rattle.std.proofs.Common.{sym, ◌∙◌, ap, ap₂, arith, get_or, length-append, append_assoc, subst, inl, inr}
use Rattle.std.specs.Int.{bytes_low_first}
use Rattle.std.proofs.lemmas.List.{take_at, drop_at, drop-drop, take-take, take-append-drop, length-replicate, length-take-le, take_all, get_or_default}
use Rattle.std.proofs.lemmas.Bool.{cases_eq}
use Rattle.std.proofs.lemmas.List.Elements.{All-head, All-tail, All-get_or}
use Rattle.byte_fields.specs.Fields.{le, number_at}
use Rattle.byte_fields.proofs.FieldLaws.{length-le, number_behind, length-records, record_at}
use Rattle.sector_records.proofs.SectorLaws.{records_injective}
use Rattle.uds_chapters.specs.declared.entry.Record.{Record}
use Rattle.uds_chapters.specs.Pages.{record_bytes, head_bytes, page_bytes, HoldsRecord, IsPage}

pub length-head : (nonce number page count : ℕ) → length (head_bytes nonce number page count) ≡ 16
unfolding head_bytes
length-head nonce number page count = simp (length-append, length-le)

-- records of names that are 16 bytes long

pub length-record : (one : Record) → HoldsRecord one → length (record_bytes one) ≡ 24
unfolding record_bytes
length-record one held = let name = held.0 in simp (length-append, length-le) (omega (arith, name))

-- the same bytes, which are 24 whatever the name is
sized_bytes : Record → List ℕ
sized_bytes one = take 24 (record_bytes one ++ replicate 24 0)

length-sized : (one : Record) → length (sized_bytes one) ≡ 24
unfolding sized_bytes
length-sized one = length-take-le 24 (record_bytes one ++ replicate 24 0) (simp (length-append, length-replicate) (omega arith))

sized_is : (one : Record) → HoldsRecord one → sized_bytes one ≡ record_bytes one
unfolding sized_bytes
sized_is one held = take_at (record_bytes one) (replicate 24 0) 24 (length-record one held)

all_sized : (records : List Record) → All HoldsRecord records → flat_map record_bytes records ≡ flat_map sized_bytes records
all_sized [] held = refl
all_sized (one ∷ records) held =
    ap₂ (λ (a b : List ℕ). a ++ b) (sym (sized_is one (All-head HoldsRecord one records held))) (all_sized records (All-tail HoldsRecord one records held))

pub length-held : (records : List Record) → All HoldsRecord records → length (flat_map record_bytes records) ≡ 24 * length records
length-held records held = ap length (all_sized records held) ∙ length-records sized_bytes 24 length-sized records

pub held_at : (records : List Record) (k : ℕ) (rest : List ℕ) (d : Record) → All HoldsRecord records → k < length records
    → take 24 (drop (24 * k) (flat_map record_bytes records ++ rest)) ≡ record_bytes (get_or records k d)
held_at records k rest d held lt =
    ap (λ (b : List ℕ). take 24 (drop (24 * k) (b ++ rest))) (all_sized records held)
    ∙ record_at sized_bytes 24 length-sized records k rest d lt
    ∙ sized_is (get_or records k d) (All-get_or HoldsRecord records k d lt held)

-- the fields of a record

abbrev made : List ℕ → ℕ → Record
made name at = record { name = name; at = record { 0 = at } }

location_low : (x : ℕ) → le 8 x ≡ le 4 x ++ bytes_low_first 4 4 x
unfolding le
location_low x = refl

name_of : (bytes : List ℕ) (one : Record) → HoldsRecord one → take 24 bytes ≡ record_bytes one → take 16 bytes ≡ one.name
unfolding record_bytes
name_of bytes one held spelled =
    sym (take-take 16 24 bytes (omega arith)) ∙ ap (take 16) spelled ∙ take_at one.name (le 8 one.at.0) 16 held.0

location_at : (bytes : List ℕ) (one : Record) → HoldsRecord one → take 24 bytes ≡ record_bytes one → number_at 4 16 bytes ≡ one.at.0
unfolding record_bytes
location_at bytes one held spelled =
    let rest = drop 24 bytes in
    let high = bytes_low_first 4 4 one.at.0 in
    let split = sym (take-append-drop 24 bytes) ∙ ap (λ f. f ++ rest) (spelled ∙ ap (λ b. one.name ++ b) (location_low one.at.0))
    ∙ append_assoc one.name (le 4 one.at.0 ++ high) rest ∙ ap (λ b. one.name ++ b) (append_assoc (le 4 one.at.0) high rest) in
    number_behind 4 one.at.0 16 one.name (high ++ rest) bytes split held.0 held.1

-- what reads its fields gives the record
pub record_is : (bytes : List ℕ) (one : Record) (name : List ℕ) (location : ℕ) → HoldsRecord one → take 24 bytes ≡ record_bytes one
    → name ≡ take 16 bytes → location ≡ number_at 4 16 bytes → made name location ≡ one
record_is bytes one name location held spelled named located =
    ap₂ (λ (n : List ℕ) (l : ℕ). made n l) (named ∙ name_of bytes one held spelled) (located ∙ location_at bytes one held spelled)

record_injective : (one other : Record) → HoldsRecord one → HoldsRecord other → sized_bytes one ≡ sized_bytes other → one ≡ other
record_injective one other held held' same =
    let joined : record_bytes one ≡ record_bytes other = sym (sized_is one held) ∙ same ∙ sized_is other held' in
    let whole : take 24 (record_bytes one) ≡ record_bytes one = take_all 24 (record_bytes one) (let size = length-record one held in omega (arith, size)) in
    record_is (record_bytes one) other one.name one.at.0 held' (whole ∙ joined) (sym (name_of (record_bytes one) one held whole)) (sym (location_at (record_bytes one) one held whole))

-- the fields of a page's head

pub nonce_read : (nonce number page : ℕ) (records : List Record) → nonce < 2 ^ 64 → number_at 8 0 (page_bytes nonce number page records) ≡ nonce
unfolding page_bytes head_bytes
nonce_read nonce number page records fits =
    number_behind 8 nonce 0 []
    (le 4 number ++ (le 1 page ++ (le 1 (length records) ++ (le 2 0 ++ (flat_map record_bytes records ++ replicate (4080 - 24 * length records) 0)))))
    (page_bytes nonce number page records) (simp append_assoc) refl (omega (arith, fits))

pub number_read : (nonce number page : ℕ) (records : List Record) → number < 2 ^ 32 → number_at 4 8 (page_bytes nonce number page records) ≡ number
unfolding page_bytes head_bytes
number_read nonce number page records fits =
    number_behind 4 number 8 (le 8 nonce)
    (le 1 page ++ (le 1 (length records) ++ (le 2 0 ++ (flat_map record_bytes records ++ replicate (4080 - 24 * length records) 0))))
    (page_bytes nonce number page records) (simp append_assoc) (length-le 8 nonce) (omega (arith, fits))

pub page_read : (nonce number page : ℕ) (records : List Record) → page < 4 → number_at 1 12 (page_bytes nonce number page records) ≡ page
unfolding page_bytes head_bytes
page_read nonce number page records fits =
    number_behind 1 page 12 (le 8 nonce ++ le 4 number)
    (le 1 (length records) ++ (le 2 0 ++ (flat_map record_bytes records ++ replicate (4080 - 24 * length records) 0)))
    (page_bytes nonce number page records) (simp append_assoc) (simp (length-append, length-le)) (omega (arith, fits))

pub count_read : (nonce number page : ℕ) (records : List Record) → length records ≤ 170 → number_at 1 13 (page_bytes nonce number page records) ≡ length records
unfolding page_bytes head_bytes
count_read nonce number page records few =
    number_behind 1 (length records) 13 (le 8 nonce ++ (le 4 number ++ le 1 page))
    (le 2 0 ++ (flat_map record_bytes records ++ replicate (4080 - 24 * length records) 0))
    (page_bytes nonce number page records) (simp append_assoc) (simp (length-append, length-le)) (omega (arith, few))

-- what stands behind it
pub records_of : (nonce number page : ℕ) (records : List Record)
    → drop 16 (page_bytes nonce number page records) ≡ flat_map record_bytes records ++ replicate (4080 - 24 * length records) 0
unfolding page_bytes
records_of nonce number page records =
    ap (drop 16) (append_assoc (head_bytes nonce number page (length records)) (flat_map record_bytes records) (replicate (4080 - 24 * length records) 0))
    ∙ drop_at (head_bytes nonce number page (length records)) _ 16 (length-head nonce number page (length records))

-- a block is a page in one way

pub one_head : (nonce nonce' number number' page page' : ℕ) (block : List ℕ) (records records' : List Record)
    → nonce < 2 ^ 64 → nonce' < 2 ^ 64 → number < 2 ^ 32 → number' < 2 ^ 32
    → IsPage nonce number page block records → IsPage nonce' number' page' block records' → (nonce ≡ nonce') × (number ≡ number') × (page ≡ page')
one_head nonce nonce' number number' page page' block records records' n n' c c' is is' =
    let same = sym is.spelled ∙ is'.spelled in (
      sym (nonce_read nonce number page records n) ∙ ap (number_at 8 0) same ∙ nonce_read nonce' number' page' records' n',
      sym (number_read nonce number page records c) ∙ ap (number_at 4 8) same ∙ number_read nonce' number' page' records' c',
      sym (page_read nonce number page records is.place) ∙ ap (number_at 1 12) same ∙ page_read nonce' number' page' records' is'.place,
    )

pub one_list : (nonce number page : ℕ) (block : List ℕ) (records records' : List Record)
    → IsPage nonce number page block records → IsPage nonce number page block records' → records ≡ records'
one_list nonce number page block records records' is is' =
    let same = sym is.spelled ∙ is'.spelled in
    let count = sym (count_read nonce number page records is.few) ∙ ap (number_at 1 13) same ∙ count_read nonce number page records' is'.few in
    records_injective sized_bytes 24 HoldsRecord length-sized record_injective records records'
    (replicate (4080 - 24 * length records) 0) (replicate (4080 - 24 * length records') 0) is.held is'.held count
    (ap (λ (b : List ℕ). b ++ replicate (4080 - 24 * length records) 0) (sym (all_sized records is.held))
    ∙ sym (records_of nonce number page records) ∙ ap (drop 16) same ∙ records_of nonce number page records'
    ∙ ap (λ (b : List ℕ). b ++ replicate (4080 - 24 * length records') 0) (all_sized records' is'.held))

-- the bytes at the k-th record are that record's
pub spelled_at : (bytes rest : List ℕ) (records : List Record) (k place : ℕ) (one : Record) → All HoldsRecord records → k < length records
    → drop 16 bytes ≡ flat_map record_bytes records ++ rest → place ≡ 16 + 24 * k → take 24 (drop place bytes) ≡ record_bytes (get_or records k one)
spelled_at bytes rest records k place one held lt spelled here =
    ap (λ (n : ℕ). take 24 (drop n bytes)) here ∙ ap (take 24) (sym (drop-drop (24 * k) 16 bytes))
    ∙ ap (λ b. take 24 (drop (24 * k) b)) spelled ∙ held_at records k rest one held lt

-- one record more is held
pub held_more : (records : List Record) (place : ℕ) (one : Record) → place < length records → one ≡ get_or records place one → HoldsRecord one
    → ((k : ℕ) (d : Record) → k < place → k < length records → HoldsRecord (get_or records k d))
    → (k : ℕ) (d : Record) → k < place + 1 → k < length records → HoldsRecord (get_or records k d)
held_more records place one inside is holds before k d lt within = elim (cases_eq k place) [
  | inl at ↦
      let same : get_or records k d ≡ one = ap (λ (n : ℕ). get_or records n d) at ∙ get_or_default records place d one inside ∙ sym is in
      subst HoldsRecord (sym same) holds
  | inr other ↦ before k d (omega arith) within
]

-- what a page's bytes say of its records
pub count_of : (nonce number page : ℕ) (bytes : List ℕ) (records : List Record) → IsPage nonce number page bytes records → number_at 1 13 bytes ≡ length records
count_of nonce number page bytes records is = ap (number_at 1 13) is.spelled ∙ count_read nonce number page records is.few

pub spelled_records : (nonce number page : ℕ) (bytes : List ℕ) (records : List Record) → IsPage nonce number page bytes records
    → drop 16 bytes ≡ flat_map record_bytes records ++ replicate (4080 - 24 * length records) 0
spelled_records nonce number page bytes records is = ap (drop 16) is.spelled ∙ records_of nonce number page records
