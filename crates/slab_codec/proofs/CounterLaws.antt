-- Sectors of counters, as they are read.
use Rattle.std.specs.Prelude.{ℕ, zero, suc, ◌≡◌, ◌<◌, ◌≤◌, ◌^◌, ◌+◌, ◌-◌, ◌*◌, List, [], ◌∷◌, ◌++◌, length, take, drop, replicate, flat_map, slice_index, slice_index_or, All}
use Rattle.std.proofs.Common.{sym, ◌∙◌, ap, ap₂, inl, inr, arith, length-append}
use Rattle.std.proofs.lemmas.List.{drop_at, drop-drop, take_at, take_all, take-append-le, take-replicate, drop-replicate, append-nil, length-take, get_or-take, get_or-drop, get_or-replicate, get_or_past}
use Rattle.std.proofs.Math.ListN.{get_or-append}
use Rattle.std.proofs.lemmas.Bool.{cases_lt}
use Rattle.std.proofs.Math.Seq.{take-append-add, get_or-append_right}
use Rattle.std.proofs.lemmas.List.Elements.{All-head, All-tail}
use Rattle.blk_base.specs.Sectors.{sector}
use Rattle.blk_base.specs.declared.sizes.TheConstants.{SECTOR_COUNTERS}
use Rattle.byte_fields.specs.Fields.{le, number_at}
use Rattle.byte_fields.proofs.FieldLaws.{length-le, le-injective, le-number_at, parts}
use Rattle.slab_codec.specs.declared.forms.ReferenceSector.{ReferenceSector}
use Rattle.slab_codec.specs.Reference.{reference_sector_bytes, reference_bytes}

abbrev made : ℕ → List ℕ → ReferenceSector
made commit counters = record { commit = record { 0 = commit }; counters = counters }

-- one reading
pub sector_injective : (s s' : ReferenceSector) → s.commit.0 < 2 ^ 64 → s'.commit.0 < 2 ^ 64 → reference_sector_bytes s ≡ reference_sector_bytes s' → s ≡ s'
unfolding reference_sector_bytes
sector_injective s s' fits fits' same =
    let front = sym (take_at (le 8 s.commit.0) s.counters 8 (length-le 8 s.commit.0)) ∙ ap (take 8) same ∙ take_at (le 8 s'.commit.0) s'.counters 8 (length-le 8 s'.commit.0) in
    let back = sym (drop_at (le 8 s.commit.0) s.counters 8 (length-le 8 s.commit.0)) ∙ ap (drop 8) same ∙ drop_at (le 8 s'.commit.0) s'.counters 8 (length-le 8 s'.commit.0) in
    ap₂ (λ (p : ℕ) (cs : List ℕ). made p cs) (le-injective 8 s.commit.0 s'.commit.0 (omega (arith, fits)) (omega (arith, fits')) front) back

-- what is read is spelled so
pub sector_spelled : (bytes : List ℕ) (s : ReferenceSector) → 8 ≤ length bytes → ((k : ℕ) → slice_index bytes k < 256)
    → s.commit.0 ≡ number_at 8 0 bytes → s.counters ≡ drop 8 bytes → bytes ≡ reference_sector_bytes s
unfolding reference_sector_bytes
sector_spelled bytes s fits small commit counters =
    parts 8 bytes (le 8 s.commit.0) s.counters (sym (le-number_at 8 0 bytes (omega arith) small) ∙ ap (le 8) (sym commit)) (sym counters)

length-reference : (s : ReferenceSector) → length s.counters ≡ SECTOR_COUNTERS → length (reference_sector_bytes s) ≡ 512
unfolding reference_sector_bytes
length-reference s size = simp (length-append, length-le) (omega (arith, size))

one_of : (sectors : List ReferenceSector) (i : ℕ) (d : ReferenceSector) → All (λ s. length s.counters ≡ SECTOR_COUNTERS) sectors → i < length sectors
    → take 512 (drop (512 * i) (flat_map reference_sector_bytes sectors)) ≡ reference_sector_bytes (slice_index_or sectors i d)
one_of [] i d sized lt = absurd (omega arith)
one_of (s ∷ ss) zero d sized lt =
    let size = length-reference s (All-head (λ s. length s.counters ≡ SECTOR_COUNTERS) s ss sized) in
    take_at (reference_sector_bytes s) (flat_map reference_sector_bytes ss) 512 size
one_of (s ∷ ss) (suc i) d sized lt =
    let size = length-reference s (All-head (λ s. length s.counters ≡ SECTOR_COUNTERS) s ss sized) in
    let place : 512 * suc i ≡ 512 + 512 * i = omega arith in
    let all = reference_sector_bytes s ++ flat_map reference_sector_bytes ss in
    ap (λ (n : ℕ). take 512 (drop n all)) place ∙ ap (take 512) (sym (drop-drop (512 * i) 512 all))
    ∙ ap (λ b. take 512 (drop (512 * i) b)) (drop_at (reference_sector_bytes s) (flat_map reference_sector_bytes ss) 512 size)
    ∙ one_of ss i d (All-tail (λ s. length s.counters ≡ SECTOR_COUNTERS) s ss sized) (omega arith)

-- what is written is read back
pub written_counters : (sectors : List ReferenceSector) (i : ℕ) (d : ReferenceSector) → All (λ s. length s.counters ≡ SECTOR_COUNTERS) sectors → i < length sectors
    → sector i (reference_bytes sectors) ≡ reference_sector_bytes (slice_index_or sectors i d)
unfolding reference_bytes
written_counters sectors i d sized lt = one_of sectors i d sized lt

-- a list with zeros behind it, cut to a length
pad : (n : ℕ) (r : List ℕ) → take n (r ++ replicate n 0) ≡ take n r ++ replicate (n - length (take n r)) 0
pad n r = elim (cases_lt (length r) n) [
  | inl short ↦
      let m = n - length r in
      let whole : n ≡ length r + m = omega arith in
      let all : take n r ≡ r = take_all n r (omega arith) in
      ap (λ (k : ℕ). take k (r ++ replicate n 0)) whole ∙ take-append-add r (replicate n 0) m ∙ ap (λ b. r ++ b) (take-replicate m n 0 (omega arith))
      ∙ ap (λ f. f ++ replicate (n - length f) 0) (sym all)
  | inr long ↦
      let none : n - length (take n r) ≡ 0 = simp length-take (omega arith) in
      take-append-le n r (replicate n 0) long ∙ sym (append-nil (take n r)) ∙ ap (λ (k : ℕ). take n r ++ replicate k 0) (sym none)
]

-- counters that were put in front of zeros
pub padded : (width : ℕ) (r t out : List ℕ) (k : ℕ) → t ≡ take width r → k ≡ length t → take k out ≡ t → drop k out ≡ drop k (replicate width 0)
    → out ≡ take width (r ++ replicate width 0)
padded width r t out k t_is k_is front back =
    parts k out t (drop k (replicate width 0)) front back
    ∙ ap (λ b. t ++ b) (drop-replicate k width 0 ∙ ap (λ (n : ℕ). replicate (width - n) 0) (k_is ∙ ap length t_is))
    ∙ ap (λ f. f ++ replicate (width - length (take width r)) 0) t_is
    ∙ sym (pad width r)

-- a counter at its place, among so many in each sector
pub counter_at : (width : ℕ) (counters : List ℕ) (n k : ℕ) → k < width
    → slice_index_or (take width (drop (width * n) counters ++ replicate width 0)) k 0 ≡ slice_index_or counters (width * n + k) 0
counter_at width counters n k lt =
    let r = drop (width * n) counters in
    let one : slice_index_or (r ++ replicate width 0) k 0 ≡ slice_index_or r k 0 = elim (cases_lt k (length r)) [
      | inl inside ↦ get_or-append r (replicate width 0) 0 k inside
      | inr past ↦ get_or-append_right r (replicate width 0) k 0 past ∙ get_or-replicate width (k - length r) 0 0 (omega arith) ∙ sym (get_or_past r k 0 past)
    ] in
    get_or-take width (r ++ replicate width 0) k 0 lt ∙ one ∙ get_or-drop (width * n) counters k 0
