-- A superblock that is written is read back.
use Rattle.std.specs.Prelude.{ℕ, ◌≡◌, ◌≤◌, ◌<◌, ◌^◌, ◌==◌, Bool, true, false, nat_eq, List, ◌++◌, length, take, drop, replicate, Ok, refl}
use Rattle.std.specs.List.{slice_range, starts_with}
use Rattle.std.proofs.Common.{◌∙◌, ap, inl, inr, arith, append_assoc, length-append}
use Rattle.std.proofs.lemmas.List.{drop_at, take_at, length-replicate}
use Rattle.std.proofs.lemmas.Bool.Decides.{eqb_tells, Decides-eqb}
use Rattle.std.proofs.lemmas.Slice.Eq.{starts_is}
use Rattle.blk_base.specs.declared.geometry.Geometry.{Geometry}
use Rattle.blk_base.specs.declared.geometry.Super.{Super}
use Rattle.blk_base.specs.Limits.{IsGeometry, logical_limit}
use Rattle.blk_base.specs.Regions.{needed_blocks}
use Rattle.byte_fields.specs.Fields.{le, number_at}
use Rattle.byte_fields.proofs.FieldLaws.{length-le, number_behind}
use Rattle.image_layout.specs.Superblock.{magic, size_bytes, clean_number, super_block, geometry_in, is_zeros, run_checks, identity_checks, state_checks, super_of}
use Rattle.image_layout.proofs.CheckLaws.{identity_passes, state_passes, zeros-pass, head_accepted}
use Rattle.image_layout.proofs.SpellingLaws.{length-sizes, super_block-parts}

limit_fits : (height : ℕ) → logical_limit height < 2 ^ 32
limit_fits height = elim (eqb_tells height 2) [ inl two ↦ rw two.0 (omega arith) | inr other ↦ rw other.0 (omega arith) ]

same_sizes : (g : Geometry) (height nonce logical slabs slab_blocks journal index slab_journal : ℕ)
    → height ≡ g.height → nonce ≡ g.nonce → logical ≡ g.logical → slabs ≡ g.slabs → slab_blocks ≡ g.slab_blocks → journal ≡ g.journal
    → index ≡ g.index → slab_journal ≡ g.slab_journal
    → ◌≡◌ {A = Geometry} (record { height = height; nonce = nonce; logical = logical; slabs = slabs; slab_blocks = slab_blocks; journal = journal; index = index; slab_journal = slab_journal }) g
same_sizes g height nonce logical slabs slab_blocks journal index slab_journal a b c d e f h i = rw (a, b, c, d, e, f, h, i) refl

-- sizes behind 12 bytes
sizes_read : (g : Geometry) (front rest xs : List ℕ) → IsGeometry g → g.nonce < 2 ^ 64 → length front ≡ 12 → xs ≡ front ++ (size_bytes g ++ rest) → geometry_in xs ≡ g
unfolding size_bytes
sizes_read g front rest xs sizes nonce_fits size is =
    same_sizes g _ _ _ _ _ _ _ _
    (number_behind 4 g.height 12 front (le 8 g.nonce ++ (le 4 g.logical ++ (le 4 g.slabs ++ (le 4 g.slab_blocks ++ (le 4 g.journal ++ (le 4 g.index ++ (le 4 g.slab_journal ++ rest))))))) xs (is ∙ simp append_assoc) size (omega arith))
    (number_behind 8 g.nonce 16 (front ++ le 4 g.height) (le 4 g.logical ++ (le 4 g.slabs ++ (le 4 g.slab_blocks ++ (le 4 g.journal ++ (le 4 g.index ++ (le 4 g.slab_journal ++ rest)))))) xs (is ∙ simp append_assoc) (simp (length-append, length-le) (omega arith)) nonce_fits)
    (number_behind 4 g.logical 24 (front ++ le 4 g.height ++ le 8 g.nonce) (le 4 g.slabs ++ (le 4 g.slab_blocks ++ (le 4 g.journal ++ (le 4 g.index ++ (le 4 g.slab_journal ++ rest))))) xs (is ∙ simp append_assoc) (simp (length-append, length-le) (omega arith)) (omega (arith, limit_fits g.height)))
    (number_behind 4 g.slabs 28 (front ++ le 4 g.height ++ le 8 g.nonce ++ le 4 g.logical) (le 4 g.slab_blocks ++ (le 4 g.journal ++ (le 4 g.index ++ (le 4 g.slab_journal ++ rest)))) xs (is ∙ simp append_assoc) (simp (length-append, length-le) (omega arith)) (omega arith))
    (number_behind 4 g.slab_blocks 32 (front ++ le 4 g.height ++ le 8 g.nonce ++ le 4 g.logical ++ le 4 g.slabs) (le 4 g.journal ++ (le 4 g.index ++ (le 4 g.slab_journal ++ rest))) xs (is ∙ simp append_assoc) (simp (length-append, length-le) (omega arith)) (omega arith))
    (number_behind 4 g.journal 36 (front ++ le 4 g.height ++ le 8 g.nonce ++ le 4 g.logical ++ le 4 g.slabs ++ le 4 g.slab_blocks) (le 4 g.index ++ (le 4 g.slab_journal ++ rest)) xs (is ∙ simp append_assoc) (simp (length-append, length-le) (omega arith)) (omega arith))
    (number_behind 4 g.index 40 (front ++ le 4 g.height ++ le 8 g.nonce ++ le 4 g.logical ++ le 4 g.slabs ++ le 4 g.slab_blocks ++ le 4 g.journal) (le 4 g.slab_journal ++ rest) xs (is ∙ simp append_assoc) (simp (length-append, length-le) (omega arith)) (omega arith))
    (number_behind 4 g.slab_journal 44 (front ++ le 4 g.height ++ le 8 g.nonce ++ le 4 g.logical ++ le 4 g.slabs ++ le 4 g.slab_blocks ++ le 4 g.journal ++ le 4 g.index) rest xs (is ∙ simp append_assoc) (simp (length-append, length-le) (omega arith)) (omega arith))

clean_reads : (clean : Bool) → (clean_number clean == 1) ≡ clean
clean_reads true = refl
clean_reads false = refl

same_head : (head : Super) (g : Geometry) (clean start : ℕ) → g ≡ head.geometry → clean ≡ clean_number head.clean → start ≡ head.start
    → ◌≡◌ {A = Super} (record { geometry = g; clean = clean == 1; start = start }) head
same_head head g clean start a b c = rw (a, b, c, clean_reads head.clean) refl

clean_small : (clean : Bool) → clean_number clean ≤ 1
clean_small true = omega arith
clean_small false = omega arith

-- zeros between others
zeros_between : (n at : ℕ) (front rest xs : List ℕ) → xs ≡ front ++ (replicate n 0 ++ rest) → length front ≡ at → is_zeros (take n (drop at xs)) ≡ true
zeros_between n at front rest xs is size =
    let zeros : take n (drop at xs) ≡ replicate n 0 =
    ap (λ ys. take n (drop at ys)) is ∙ ap (take n) (drop_at front (replicate n 0 ++ rest) at size) ∙ take_at (replicate n 0) rest n (length-replicate n 0) in
    ap is_zeros zeros ∙ zeros-pass n

-- a head within its limits is read back from its spelling, on a device that has the blocks
pub written_again : (head : Super) (blocks : ℕ) → IsGeometry head.geometry → head.geometry.nonce < 2 ^ 64 → 1 ≤ head.start → head.start < 2 ^ 54
    → needed_blocks head.geometry ≤ blocks → super_of (super_block head) blocks ≡ Ok head
written_again head blocks sizes nonce_fits some below room =
    let xs = super_block head in
    let g = head.geometry in
    let clean = clean_number head.clean in
    let behind_start : List ℕ = replicate 448 0 ++ replicate 3584 0 in
    let behind_gap : List ℕ = le 8 head.start ++ behind_start in
    let behind_clean : List ℕ = replicate 4 0 ++ behind_gap in
    let behind_sizes : List ℕ = le 4 clean ++ behind_clean in
    let parts = super_block-parts head in
    let begins : starts_with nat_eq xs magic ≡ true = (starts_is Decides-eqb xs magic (starts_with nat_eq xs magic) refl).1 (le 4 1 ++ (size_bytes g ++ behind_sizes)) parts in
    let version : number_at 4 8 xs ≡ 1 = number_behind 4 1 8 magic (size_bytes g ++ behind_sizes) xs parts refl (omega arith) in
    let read_sizes : geometry_in xs ≡ g = sizes_read g (magic ++ le 4 1) behind_sizes xs sizes nonce_fits (simp length-le) (parts ∙ simp append_assoc) in
    let read_clean : number_at 4 48 xs ≡ clean =
    number_behind 4 clean 48 ((magic ++ le 4 1) ++ size_bytes g) behind_clean xs (parts ∙ simp append_assoc) (simp (length-append, length-le, length-sizes)) (omega (arith, clean_small head.clean)) in
    let gap : is_zeros (take 4 (drop 52 xs)) ≡ true =
    zeros_between 4 52 (((magic ++ le 4 1) ++ size_bytes g) ++ le 4 clean) behind_gap xs (parts ∙ simp append_assoc) (simp (length-append, length-le, length-sizes)) in
    let read_start : number_at 8 56 xs ≡ head.start =
    number_behind 8 head.start 56 ((((magic ++ le 4 1) ++ size_bytes g) ++ le 4 clean) ++ replicate 4 0) behind_start xs (parts ∙ simp append_assoc) (simp (length-append, length-le, length-sizes)) (omega arith) in
    let rest : is_zeros (take 448 (drop 64 xs)) ≡ true =
    zeros_between 448 64 (((((magic ++ le 4 1) ++ size_bytes g) ++ le 4 clean) ++ replicate 4 0) ++ le 8 head.start) (replicate 3584 0) xs (parts ∙ simp append_assoc) (simp (length-append, length-le, length-sizes)) in
    let small = clean_small head.clean in
    let identity : run_checks (identity_checks xs) ≡ Ok tt = identity_passes (starts_with nat_eq xs magic) (number_at 4 8 xs) begins version in
    let state : run_checks (state_checks xs) ≡ Ok tt =
    state_passes (number_at 4 48 xs) (number_at 8 56 xs) (is_zeros (slice_range xs 52 56)) (is_zeros (slice_range xs 64 512))
    (rw read_clean small) gap (rw read_start some) (rw read_start below) rest in
    head_accepted xs blocks head identity state (same_head head (geometry_in xs) (number_at 4 48 xs) (number_at 8 56 xs) read_sizes read_clean read_start) sizes room
