-- Parts of blocks that are mixed by sectors.
use Rattle.std.proofs.Common.{ℕ, ◌≡◌, ◌+◌, ◌-◌, ◌*◌, ◌/◌, ◌<◌, ◌≤◌, List, length, get_or, take, drop, sym, ◌∙◌, ap, arith, length-drop, length-take-le}
use Rattle.std.specs.List.{AllByRecursion}
use Rattle.std.proofs.lemmas.List.{get_or-take, get_or-drop, ext_get_or}
use Rattle.blk_base.specs.Sectors.{sector}
use Rattle.disk_model.specs.Images.{IsMixOf}
use Rattle.disk_model.proofs.ImageLaws.{sector_of_mix, all_weaker}

byte_of_sector : (i k : ℕ) (block : List ℕ) → k < 512 → get_or (sector i block) k 0 ≡ get_or block (512 * i + k) 0
byte_of_sector i k block below = get_or-take 512 (drop (512 * i) block) k 0 below ∙ get_or-drop (512 * i) block k 0

byte_of_part : (at count k : ℕ) (block : List ℕ) → k < count → get_or (take count (drop at block)) k 0 ≡ get_or block (at + k) 0
byte_of_part at count k block below = get_or-take count (drop at block) k 0 below ∙ get_or-drop at block k 0

part_size : (at count : ℕ) (block : List ℕ) → at + count ≤ length block → length (take count (drop at block)) ≡ count
part_size at count block within = length-take-le count (drop at block) (let size = length-drop at block in omega (arith, size, within))

-- bytes that all contents have are those of each mix
pub part_of_mix : (options : List (List ℕ)) (block : List ℕ) (at count : ℕ) (bytes : List ℕ) → length bytes ≡ count → at + count ≤ 4096 → length block ≡ 4096 → IsMixOf options block
    → AllByRecursion (λ content. take count (drop at content) ≡ bytes) options → take count (drop at block) ≡ bytes
part_of_mix options block at count bytes size within whole mix all =
    ext_get_or 0 (take count (drop at block)) bytes (part_size at count block (omega (arith, within, whole)) ∙ sym size)
    (λ k below.
    let length_is = part_size at count block (omega (arith, within, whole)) in
    let inside : k < count = omega (arith, below, length_is) in
    let i = (at + k) / 512 in
    let r = at + k - 512 * i in
    let in_block : i < 8 = omega (arith, within, inside) in
    let small : r < 512 = omega arith in
    let place : at + k ≡ 512 * i + r = omega arith in
    byte_of_part at count k block inside
    ∙ ap (λ (n : ℕ). get_or block n 0) place ∙ sym (byte_of_sector i r block small)
    ∙ sector_of_mix (λ (s : List ℕ). get_or s r 0 ≡ get_or bytes k 0) options block i in_block mix
    (all_weaker (λ content. take count (drop at content) ≡ bytes) (λ content. get_or (sector i content) r 0 ≡ get_or bytes k 0) options
    (λ content same. byte_of_sector i r content small ∙ ap (λ (n : ℕ). get_or content n 0) (sym place)
    ∙ sym (byte_of_part at count k content inside) ∙ ap (λ (bs : List ℕ). get_or bs k 0) same) all))
