-- What a superblock says stands in its first sector.
use Rattle.std.proofs.Common.{ℕ, ◌≡◌, ◌+◌, ◌<◌, ◌≤◌, List, [], ◌∷◌, ◌++◌, length, take, drop, Ok, refl, sym, ◌∙◌, ap, subst, inl, inr, arith, length-drop, length-take-le}
use Rattle.std.proofs.lemmas.Bool.{cases_lt}
use Rattle.std.proofs.lemmas.List.{drop-append-le, take-append-le, take_all, take-append-drop}
use Rattle.blk_base.specs.Regions.{needed_blocks}
use Rattle.blk_base.specs.Sectors.{sector}
use Rattle.blk_base.specs.declared.geometry.Geometry.{Geometry}
use Rattle.blk_base.specs.declared.geometry.Super.{Super}
use Rattle.byte_fields.specs.Fields.{number_at}
use Rattle.byte_fields.proofs.FieldLaws.{number_at-append}
use Rattle.disk_model.specs.Log.{Blocks, block_at}
use Rattle.image_layout.specs.Opened.{super_of_image}
use Rattle.image_layout.specs.Superblock.{super_of, run_checks, super_checks, identity_checks, size_checks, state_checks, room_checks, geometry_in, head_in}
use Rattle.image_layout.proofs.CheckLaws.{room_right}
use Rattle.image_model.proofs.EmptyLaws.{answered, back_passes}

-- An accepted superblock has room.

accepted_room : (block : List ℕ) (size : ℕ) (head : Super) → super_of block size ≡ Ok head → needed_blocks head.geometry ≤ size
unfolding super_of
accepted_room block size head is =
    let parts = answered (run_checks (super_checks block size)) (head_in block) head is in
    let a = identity_checks block in let b = size_checks (geometry_in block) in let c = state_checks block in let d = room_checks (geometry_in block) size in
    subst (λ (g : Geometry). needed_blocks g ≤ size) (ap (λ (h : Super). h.geometry) parts.1)
    (room_right (geometry_in block) size (back_passes c d (back_passes b (c ++ d) (back_passes a (b ++ c ++ d) parts.0))))

pub room_of_image : (blocks : Blocks) (head : Super) → super_of_image blocks ≡ Ok head → needed_blocks head.geometry ≤ length blocks
room_of_image [] head is = absurd (cc is)
room_of_image (block ∷ blocks) head is = accepted_room block (length (block ∷ blocks)) head is

-- Only the first sector is looked at.

in_front : (xs ys : List ℕ) (n at : ℕ) → length xs ≡ 512 → at + n ≤ 512 → number_at n at (xs ++ ys) ≡ number_at n at xs
in_front xs ys n at size within = number_at-append n at xs ys (omega (arith, size, within))

part_in_front : (xs ys : List ℕ) (n at : ℕ) → length xs ≡ 512 → at + n ≤ 512 → take n (drop at (xs ++ ys)) ≡ take n (drop at xs)
part_in_front xs ys n at size within =
    ap (take n) (drop-append-le at xs ys (omega (arith, size, within)))
    ∙ take-append-le n (drop at xs) ys (let left = length-drop at xs in omega (arith, left, size, within))

front_says : (xs ys : List ℕ) (size : ℕ) → length xs ≡ 512 → super_of (xs ++ ys) size ≡ super_of xs size
unfolding super_of
front_says xs ys size whole =
    rw (
      take-append-le 8 xs ys (omega (arith, whole)),
      in_front xs ys 4 8 whole (omega arith),
      in_front xs ys 4 12 whole (omega arith),
      in_front xs ys 8 16 whole (omega arith),
      in_front xs ys 4 24 whole (omega arith),
      in_front xs ys 4 28 whole (omega arith),
      in_front xs ys 4 32 whole (omega arith),
      in_front xs ys 4 36 whole (omega arith),
      in_front xs ys 4 40 whole (omega arith),
      in_front xs ys 4 44 whole (omega arith),
      in_front xs ys 4 48 whole (omega arith),
      part_in_front xs ys 4 52 whole (omega arith),
      in_front xs ys 8 56 whole (omega arith),
      part_in_front xs ys 448 64 whole (omega arith),
    ) refl

first_says : (block : List ℕ) (size : ℕ) → super_of block size ≡ super_of (take 512 block) size
first_says block size = elim (cases_lt (length block) 512) [
  | inl short ↦ ap (λ (b : List ℕ). super_of b size) (sym (take_all 512 block (omega (arith, short))))
  | inr long ↦ ap (λ (b : List ℕ). super_of b size) (sym (take-append-drop 512 block)) ∙ front_says (take 512 block) (drop 512 block) size (length-take-le 512 block long)
]

pub first_sector_says : (block other : List ℕ) (size : ℕ) → sector 0 block ≡ sector 0 other → super_of block size ≡ super_of other size
first_sector_says block other size same = first_says block size ∙ ap (λ (b : List ℕ). super_of b size) same ∙ sym (first_says other size)

-- the first block of a device with blocks
pub first_of_image : (blocks : Blocks) → 0 < length blocks → super_of_image blocks ≡ super_of (block_at blocks 0) (length blocks)
first_of_image [] some = absurd (omega (arith, some))
first_of_image (block ∷ blocks) some = refl
