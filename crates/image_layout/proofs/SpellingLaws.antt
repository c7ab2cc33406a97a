-- How the bytes of a superblock and what they say go together.
use Rattle.std.specs.Prelude.{ℕ, ◌≡◌, ◌≤◌, ◌<◌, ◌+◌, ◌==◌, nat_eq, List, ◌++◌, length, take, drop, replicate, slice_index, Ok, refl}
use Rattle.std.specs.List.{slice_range, starts_with}
use Rattle.std.proofs.Common.{sym, ◌∙◌, ap, inl, inr, arith, append_assoc, length-append, length-drop}
use Rattle.std.proofs.Math.Seq.{take-add}
use Rattle.std.proofs.lemmas.List.{take_at, length-replicate, length-take-le, replicate-append-replicate}
use Rattle.std.proofs.lemmas.Bool.{eqb-true}
use Rattle.std.proofs.lemmas.Bool.Decides.{eqb_tells, Decides-eqb}
use Rattle.std.proofs.lemmas.Slice.Eq.{starts_is}
use Rattle.blk_base.specs.declared.geometry.Geometry.{Geometry}
use Rattle.blk_base.specs.declared.geometry.Super.{Super}
use Rattle.byte_fields.specs.Fields.{le, number_at}
use Rattle.byte_fields.proofs.FieldLaws.{le-number_at, length-le}
use Rattle.image_layout.specs.Superblock.{magic, size_bytes, clean_number, field_bytes, super_bytes, super_block, geometry_in, head_in, run_checks, identity_checks}
use Rattle.image_layout.proofs.CheckLaws.{passed, IsState}

-- a number's bytes are the number's spelling
next_number : (n at : ℕ) (xs front : List ℕ) → at + n ≤ length xs → ((k : ℕ) → slice_index xs k < 256) → take at xs ≡ front
    → take (at + n) xs ≡ front ++ le n (number_at n at xs)
next_number n at xs front fits bytes before =
    take-add at n xs ∙ ap (λ f. f ++ take n (drop at xs)) before
    ∙ ap (λ b. front ++ b) (sym (le-number_at n at xs fits bytes))

-- the sizes that are read are spelled so
pub sizes_spelled : (xs : List ℕ) → 48 ≤ length xs → ((k : ℕ) → slice_index xs k < 256) → take 48 xs ≡ take 12 xs ++ size_bytes (geometry_in xs)
unfolding size_bytes
sizes_spelled xs fits bytes =
    let height = next_number 4 12 xs (take 12 xs) (omega arith) bytes refl in
    let nonce = next_number 8 16 xs _ (omega arith) bytes height in
    let logical = next_number 4 24 xs _ (omega arith) bytes nonce in
    let slabs = next_number 4 28 xs _ (omega arith) bytes logical in
    let slab_blocks = next_number 4 32 xs _ (omega arith) bytes slabs in
    let journal = next_number 4 36 xs _ (omega arith) bytes slab_blocks in
    let index = next_number 4 40 xs _ (omega arith) bytes journal in
    let slab_journal = next_number 4 44 xs _ (omega arith) bytes index in
    slab_journal ∙ simp append_assoc

length-piece : (n at : ℕ) (xs : List ℕ) → at + n ≤ length xs → length (take n (drop at xs)) ≡ n
length-piece n at xs fits = length-take-le n (drop at xs) (simp length-drop (omega arith))

-- the first sector of a block that passes is spelled as what it says
one_or_none : (n : ℕ) → n ≤ 1 → n ≡ clean_number (n == 1)
one_or_none n small = elim (eqb_tells n 1) [ inl one ↦ rw (one.0) one.1 | inr other ↦ rw (other.0) (omega (arith, other.1)) ]

pub spelled : (xs : List ℕ) → length xs ≡ 4096 → ((k : ℕ) → slice_index xs k < 256) → run_checks (identity_checks xs) ≡ Ok tt → IsState xs
    → take 512 xs ≡ super_bytes (head_in xs)
unfolding super_bytes field_bytes
spelled xs size bytes identity state =
    let first = passed _ _ _ identity in
    let second = passed _ _ _ first.1 in
    let begins : xs ≡ magic ++ drop 8 xs = (starts_is Decides-eqb xs magic (starts_with nat_eq xs magic) refl).0 first.0 in
    let magic_is : take 8 xs ≡ magic = ap (take 8) begins ∙ take_at magic (drop 8 xs) 8 refl in
    let version : number_at 4 8 xs ≡ 1 = eqb-true (number_at 4 8 xs) 1 second.0 in
    let to_12 : take 12 xs ≡ magic ++ le 4 1 = next_number 4 8 xs magic (omega arith) bytes magic_is ∙ ap (λ n. magic ++ le 4 n) version in
    let to_48 : take 48 xs ≡ (magic ++ le 4 1) ++ size_bytes (geometry_in xs) = sizes_spelled xs (omega arith) bytes ∙ ap (λ f. f ++ size_bytes (geometry_in xs)) to_12 in
    let clean = number_at 4 48 xs in
    let to_52 : take 52 xs ≡ ((magic ++ le 4 1) ++ size_bytes (geometry_in xs)) ++ le 4 (clean_number (clean == 1)) =
    next_number 4 48 xs _ (omega arith) bytes to_48 ∙ ap (λ n. ((magic ++ le 4 1) ++ size_bytes (geometry_in xs)) ++ le 4 n) (one_or_none clean state.clean) in
    let gap_size : length (slice_range xs 52 56) ≡ 4 = length-piece 4 52 xs (omega arith) in
    let gap : slice_range xs 52 56 ≡ replicate 4 0 = state.gap ∙ ap (λ n. replicate n 0) gap_size in
    let to_56 : take 56 xs ≡ (((magic ++ le 4 1) ++ size_bytes (geometry_in xs)) ++ le 4 (clean_number (clean == 1))) ++ replicate 4 0 = take-add 52 4 xs ∙ ap (λ f. f ++ slice_range xs 52 56) to_52
    ∙ ap (λ b. (((magic ++ le 4 1) ++ size_bytes (geometry_in xs)) ++ le 4 (clean_number (clean == 1))) ++ b) gap in
    let to_64 = next_number 8 56 xs _ (omega arith) bytes to_56 in
    let rest_size : length (slice_range xs 64 512) ≡ 448 = length-piece 448 64 xs (omega arith) in
    let rest : slice_range xs 64 512 ≡ replicate 448 0 = state.rest ∙ ap (λ n. replicate n 0) rest_size in
    take-add 64 448 xs ∙ ap (λ f. f ++ slice_range xs 64 512) to_64 ∙ ap (λ b. field_bytes (head_in xs) ++ b) rest

-- A spelled block says what was spelled.

pub length-sizes : (g : Geometry) → length (size_bytes g) ≡ 36
unfolding size_bytes
length-sizes g = simp (length-append, length-le)

pub length-fields : (head : Super) → length (field_bytes head) ≡ 64
unfolding field_bytes
length-fields head = simp (length-append, length-le, length-sizes, length-replicate)

-- the parts of a spelled block, joined to the right
pub super_block-parts : (head : Super) → super_block head
    ≡ magic ++ (le 4 1 ++ (size_bytes head.geometry ++ (le 4 (clean_number head.clean) ++ (replicate 4 0 ++ (le 8 head.start ++ (replicate 448 0 ++ replicate 3584 0))))))
unfolding super_block super_bytes field_bytes
super_block-parts head = simp append_assoc

-- behind the fields a block is zeros
pub super_block-fields : (head : Super) → super_block head ≡ field_bytes head ++ replicate 4032 0
unfolding super_block super_bytes
super_block-fields head = append_assoc (field_bytes head) (replicate 448 0) (replicate 3584 0) ∙ ap (λ z. field_bytes head ++ z) (replicate-append-replicate 448 3584 0)

-- it is as long as a block
pub super_size : (head : Super) → length (super_block head) ≡ 4096
super_size head =
    ap length (super_block-fields head) ∙ length-append (field_bytes head) (replicate 4032 0)
    ∙ (let front = length-fields head in let back = length-replicate {A = ℕ} 4032 0 in omega (arith, front, back))
