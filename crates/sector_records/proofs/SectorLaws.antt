-- Blocks of eight sectors with records: how long their parts are, where they stand, and that a sector says one list.
use Rattle.std.specs.Prelude.{ℕ, zero, suc, ◌≡◌, ◌<◌, ◌≤◌, ◌+◌, ◌-◌, ◌*◌, min, List, [], ◌∷◌, ◌++◌, length, take, drop, replicate, flat_map, All, Option, None, Some, IfSome, IfNone, MatchOption, refl}
use Rattle.std.proofs.Common.{sym, ◌∙◌, ap, ap₂, arith, get_or, length-append, length-drop, append_assoc}
use Rattle.std.proofs.Math.Nat.{mul-le-mul_left}
use Rattle.std.proofs.lemmas.List.{length-replicate, length-take, take-append-drop, drop-drop, drop_at, take_at, drop_all, drop_min, take_all, take_min, append-nil}
use Rattle.std.proofs.lemmas.List.Elements.{All-head, All-tail, All-get_or}
use Rattle.blk_base.specs.Sectors.{sector}
use Rattle.byte_fields.specs.Fields.{number_at}
use Rattle.byte_fields.proofs.FieldLaws.{length-records, record_at, records-more, number_at-append}
use Rattle.sector_records.specs.SectorBytes.{sector_form, records_in, sector_numbers, eight_sectors}

-- sizes

-- one more record fits, where the sector has fewer than it may have
pub one_fits : (width most i n : ℕ) → 32 + width * most ≤ 512 → n ≤ most → i < n → 32 + width * i + width ≤ 512
one_fits width most i n fits few lt =
    let more : width * suc i ≡ width * i + width = omega arith in
    let le : suc i ≤ most = omega arith in
    let all = mul-le-mul_left width le in
    omega (arith, fits, more, all)

pub records_fit : {R : Type 0} (form : R → List ℕ) (width most : ℕ) → ((r : R) → length (form r) ≡ width) → 32 + width * most ≤ 512
    → (records : List R) → length records ≤ most → length (flat_map form records) ≤ 480
records_fit form width most sized fits records few =
    let size = length-records form width sized records in
    let all = mul-le-mul_left width few in
    omega (arith, fits, size, all)

pub length-sector : {R : Type 0} (form : R → List ℕ) (head : List ℕ) (records : List R) → length head ≡ 32 → length (flat_map form records) ≤ 480
    → length (sector_form form head records) ≡ 512
unfolding sector_form
length-sector form head records size few = simp (length-append, length-replicate) (omega (arith, size, few))

pub few_in : {R : Type 0} (per number : ℕ) (records : List R) → length (records_in per number records) ≤ per
few_in per number records = simp length-take (omega arith)

-- what stands where in a sector

pub sector-head : {R : Type 0} (form : R → List ℕ) (head : List ℕ) (records : List R) → length head ≡ 32 → take 32 (sector_form form head records) ≡ head
unfolding sector_form
sector-head form head records size =
    ap (take 32) (append_assoc head (flat_map form records) (replicate (480 - length (flat_map form records)) 0))
    ∙ take_at head (flat_map form records ++ replicate (480 - length (flat_map form records)) 0) 32 size

pub sector-records : {R : Type 0} (form : R → List ℕ) (head : List ℕ) (records : List R) → length head ≡ 32
    → drop 32 (sector_form form head records) ≡ flat_map form records ++ replicate (480 - length (flat_map form records)) 0
unfolding sector_form
sector-records form head records size =
    ap (drop 32) (append_assoc head (flat_map form records) (replicate (480 - length (flat_map form records)) 0))
    ∙ drop_at head (flat_map form records ++ replicate (480 - length (flat_map form records)) 0) 32 size

-- a number of the head
pub sector-number : {R : Type 0} (form : R → List ℕ) (head : List ℕ) (records : List R) (n at : ℕ) → length head ≡ 32 → at + n ≤ 32
    → number_at n at (sector_form form head records) ≡ number_at n at head
unfolding sector_form
sector-number form head records n at size fits =
    ap (number_at n at) (append_assoc head (flat_map form records) (replicate (480 - length (flat_map form records)) 0))
    ∙ number_at-append n at head (flat_map form records ++ replicate (480 - length (flat_map form records)) 0) (omega arith)

-- what reads the bytes at the k-th record reads that record
pub record_is : {R : Type 0} (form : R → List ℕ) (width : ℕ) (IsHeld : R → Type 0) → ((r : R) → length (form r) ≡ width)
    → (bytes rest : List ℕ) (records : List R) (k w place : ℕ) (one : R) → All IsHeld records → k < length records
    → drop 32 bytes ≡ flat_map form records ++ rest → w ≡ width → place ≡ 32 + width * k
    → ((r : R) → IsHeld r → take w (drop place bytes) ≡ form r → one ≡ r) → one ≡ get_or records k one
record_is form width IsHeld sized bytes rest records k w place one held lt spelled wide here reads =
    reads (get_or records k one) (All-get_or IsHeld records k one lt held)
    (ap (λ (n : ℕ). take n (drop place bytes)) wide ∙ ap (λ (n : ℕ). take width (drop n bytes)) here ∙ ap (take width) (sym (drop-drop (width * k) 32 bytes))
    ∙ ap (λ b. take width (drop (width * k) b)) spelled ∙ record_at form width sized records k rest one lt)

-- records in a row spell one list of each length
pub records_injective : {R : Type 0} (form : R → List ℕ) (width : ℕ) (IsHeld : R → Type 0) → ((r : R) → length (form r) ≡ width)
    → ((r s : R) → IsHeld r → IsHeld s → form r ≡ form s → r ≡ s)
    → (xs ys : List R) (rest rest' : List ℕ) → All IsHeld xs → All IsHeld ys → length xs ≡ length ys → flat_map form xs ++ rest ≡ flat_map form ys ++ rest' → xs ≡ ys
records_injective form width IsHeld sized one [] [] rest rest' held held' size same = refl
records_injective form width IsHeld sized one [] (y ∷ ys) rest rest' held held' size same = absurd (omega arith)
records_injective form width IsHeld sized one (x ∷ xs) [] rest rest' held held' size same = absurd (omega arith)
records_injective form width IsHeld sized one (x ∷ xs) (y ∷ ys) rest rest' held held' size same =
    let joined = sym (append_assoc (form x) (flat_map form xs) rest) ∙ same ∙ append_assoc (form y) (flat_map form ys) rest' in
    let head = sym (take_at (form x) (flat_map form xs ++ rest) width (sized x)) ∙ ap (take width) joined ∙ take_at (form y) (flat_map form ys ++ rest') width (sized y) in
    let tail = sym (drop_at (form x) (flat_map form xs ++ rest) width (sized x)) ∙ ap (drop width) joined ∙ drop_at (form y) (flat_map form ys ++ rest') width (sized y) in
    ap₂ (λ r rs. r ∷ rs) (one x y (All-head IsHeld x xs held) (All-head IsHeld y ys held') head)
    (records_injective form width IsHeld sized one xs ys rest rest' (All-tail IsHeld x xs held) (All-tail IsHeld y ys held') (omega arith) tail)

-- a sector says one list of each length
pub one_list : {R : Type 0} (form : R → List ℕ) (width : ℕ) (IsHeld : R → Type 0) → ((r : R) → length (form r) ≡ width)
    → ((r s : R) → IsHeld r → IsHeld s → form r ≡ form s → r ≡ s)
    → (head head' : List ℕ) (xs ys : List R) → length head ≡ 32 → length head' ≡ 32 → All IsHeld xs → All IsHeld ys → length xs ≡ length ys
    → sector_form form head xs ≡ sector_form form head' ys → xs ≡ ys
one_list form width IsHeld sized one head head' xs ys wide wide' held held' size same =
    records_injective form width IsHeld sized one xs ys _ _ held held' size (sym (sector-records form head xs wide) ∙ ap (drop 32) same ∙ sector-records form head' ys wide')

-- blocks

pub count_of_sectors : length sector_numbers ≡ 8
unfolding sector_numbers
count_of_sectors = refl

pub sector_number : (i : ℕ) → i < 8 → get_or sector_numbers i 0 ≡ i
unfolding sector_numbers
sector_number zero lt = refl
sector_number (suc zero) lt = refl
sector_number (suc (suc zero)) lt = refl
sector_number (suc (suc (suc zero))) lt = refl
sector_number (suc (suc (suc (suc zero)))) lt = refl
sector_number (suc (suc (suc (suc (suc zero))))) lt = refl
sector_number (suc (suc (suc (suc (suc (suc zero)))))) lt = refl
sector_number (suc (suc (suc (suc (suc (suc (suc zero))))))) lt = refl
sector_number (suc (suc (suc (suc (suc (suc (suc (suc i)))))))) lt = absurd (omega arith)

-- the sectors in front of a place, and one more
pub sectors-more : (sectors : ℕ → List ℕ) (i : ℕ) → i < 8 → flat_map sectors (take (i + 1) sector_numbers) ≡ flat_map sectors (take i sector_numbers) ++ sectors i
sectors-more sectors i lt =
    let count = count_of_sectors in
    records-more sectors sector_numbers i 0 (omega arith) ∙ ap (λ (n : ℕ). flat_map sectors (take i sector_numbers) ++ sectors n) (sector_number i lt)

-- what is written in a sector is there
pub written_sector : (sectors : ℕ → List ℕ) (i : ℕ) → ((n : ℕ) → length (sectors n) ≡ 512) → i < 8 → sector i (eight_sectors sectors) ≡ sectors i
unfolding eight_sectors
written_sector sectors i sized lt =
    let count = count_of_sectors in
    ap (λ b. take 512 (drop (512 * i) b)) (sym (append-nil (flat_map sectors sector_numbers)))
    ∙ record_at sectors 512 sized sector_numbers i [] 0 (omega arith)
    ∙ ap sectors (sector_number i lt)

-- the items from a place on, as far as there are any
pub part_is : {X : Type 0} (w place : ℕ) (xs : List X) (first count : ℕ) → first ≡ min place (length xs)
    → count ≡ min w (length (take (length xs - first) (drop first xs))) → take count (take (length xs - first) (drop first xs)) ≡ take w (drop place xs)
part_is w place xs first count first_is count_is =
    let rest = take (length xs - first) (drop first xs) in
    let all : rest ≡ drop place xs = take_all (length xs - first) (drop first xs) (simp length-drop (omega arith)) ∙ ap (λ (k : ℕ). drop k xs) first_is ∙ drop_min place xs in
    ap (λ (k : ℕ). take k rest) count_is ∙ take_min w rest ∙ ap (take w) all

-- the records from a sector on are its own and those behind it
in_front : {R : Type 0} (per i : ℕ) (records rest : List R) → drop (per * suc i) records ≡ rest → drop (per * i) records ≡ records_in per i records ++ rest
in_front per i records rest behind =
    let place : per * i + per ≡ per * suc i = omega arith in
    sym (take-append-drop per (drop (per * i) records))
    ∙ ap (λ b. records_in per i records ++ b) (drop-drop per (per * i) records ∙ ap (λ (n : ℕ). drop n records) place ∙ behind)

-- the sectors of a block have all its records
pub all_records : {R : Type 0} (per : ℕ) (records : List R) → length records ≤ per * 8 → flat_map (λ i. records_in per i records) sector_numbers ≡ records
unfolding sector_numbers
all_records per records few =
    let none : per * 0 ≡ 0 = omega arith in
    sym (ap (λ (n : ℕ). drop n records) (sym none)
    ∙ in_front per 0 records _ (in_front per 1 records _ (in_front per 2 records _ (in_front per 3 records _ (in_front per 4 records _ (in_front per 5 records _ (in_front per 6 records _ (in_front per 7 records [] (drop_all (per * 8) records few)))))))))

-- what each value that may be there has, the one that is there has
pub some_of : {T : Type 0} (r : Option T) (N : Type 0) (P Q : T → Type 0) → ((x : T) → P x → Q x) → MatchOption r N P → IfSome r Q
some_of None N P Q all found = tt
some_of (Some x) N P Q all found = all x found

pub none_of : {T : Type 0} (r : Option T) (P : Type 0) → P → IfNone r P
none_of None P holds = holds
none_of (Some x) P holds = tt
