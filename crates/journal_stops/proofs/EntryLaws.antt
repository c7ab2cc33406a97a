-- The entries of sealed blocks, and which of them an image shows.
use Rattle.std.proofs.Common.{ℕ, suc, ◌≡◌, ◌+◌, ◌-◌, ◌*◌, ◌≤◌, List, [], ◌∷◌, ◌++◌, length, take, drop, reverse, refl, sym, ◌∙◌, ap, ap₂, inl, inr, arith, append_assoc, length-append, length-drop}
use Rattle.std.proofs.lemmas.List.{length-map, map-append, take-append-drop, take_all, reverse-append}
use Rattle.blk_base.specs.Points.{point_of}
use Rattle.blk_base.specs.declared.point.Half.TheVariants.{Increment}
use Rattle.blk_base.specs.declared.geometry.Geometry.{Geometry}
use Rattle.blk_base.specs.declared.journal_entry.CommittedEntry.{CommittedEntry}
use Rattle.blk_base.specs.declared.journal_entry.Entry.{Entry}
use Rattle.disk_model.specs.declared.call.Call.{Call}
use Rattle.disk_model.specs.Images.{IsImage}
use Rattle.disk_model.specs.Log.{Blocks}
use Rattle.image_layout.specs.Values.{journal_of}
use Rattle.image_model.specs.Windows.{IsWindow, with_points, entries_from}
use Rattle.journal_stops.specs.Rings.{IsRing, IsAtRest, IsUnderWay}
use Rattle.journal_stops.specs.Sealed.{Sealed, next_of, head_of, lists_of, entries_of, since, before, window_of, front_of}
use Rattle.journal_stops.specs.Shown.{Extends, HasInWindow}
use Rattle.journal_stops.proofs.StepLaws.{head_within, front_grows}
use Rattle.journal_stops.proofs.ShownLaws.{window_at_rest, window_under_way}

-- Lists of entries.

entries_append : (first : ℕ) (xs ys : List (List Entry)) → entries_from first (xs ++ ys) ≡ entries_from (first + length ys) xs ++ entries_from first ys
entries_append first [] ys = refl
entries_append first (x ∷ xs) ys =
    let place : first + length (xs ++ ys) ≡ first + length ys + length xs = omega (arith, length-append xs ys) in
    ap₂ (λ (n : ℕ) (rest : List CommittedEntry). reverse (with_points n 0 x) ++ rest) place (entries_append first xs ys)
    ∙ sym (append_assoc (reverse (with_points (first + length ys + length xs) 0 x)) (entries_from (first + length ys) xs) (entries_from first ys))

points_append : (sequence number : ℕ) (xs ys : List Entry) → with_points sequence number (xs ++ ys) ≡ with_points sequence number xs ++ with_points sequence (number + length xs) ys
points_append sequence number [] ys = let same : number ≡ number + 0 = omega arith in ap (λ (n : ℕ). with_points sequence n ys) same
points_append sequence number (x ∷ xs) ys =
    let first : CommittedEntry = record { entry = x; point = record { 0 = point_of sequence number Increment } } in
    let place : suc number + length xs ≡ number + suc (length xs) = omega arith in
    ap (λ (rest : List CommittedEntry). first ∷ rest) (points_append sequence (suc number) xs ys
    ∙ ap (λ (n : ℕ). with_points sequence (suc number) xs ++ with_points sequence n ys) place)

-- The blocks from a sequence on have the newest entries, and the others those that are behind.
pub entries_since : (start from : ℕ) (blocks : List Sealed) → start ≤ from → from ≤ next_of start blocks
    → entries_of start blocks ≡ entries_of from (since start from blocks) ++ entries_of start (before start from blocks)
entries_since start from blocks low high =
    let k = next_of start blocks - from in
    let older = lists_of (drop k blocks) in
    let place : start + length older ≡ from = omega (arith, length-map (drop k blocks) (λ (b : Sealed). b.entries), length-drop k blocks, low, high) in
    ap (λ (list : List Sealed). entries_from start (lists_of list)) (sym (take-append-drop k blocks))
    ∙ ap (entries_from start) (map-append (λ (b : Sealed). b.entries) (take k blocks) (drop k blocks))
    ∙ entries_append start (lists_of (take k blocks)) older
    ∙ ap (λ (n : ℕ). entries_from n (lists_of (take k blocks)) ++ entries_from start older) place

-- Where the head is the first sequence the window has them all.
pub window_of_all : (start : ℕ) (blocks : List Sealed) → head_of start blocks ≡ start → window_of start blocks ≡ entries_of start blocks
window_of_all start blocks same =
    let all : length blocks ≤ next_of start blocks - start = omega arith in
    ap (λ (n : ℕ). entries_of n (since start n blocks)) same ∙ ap (λ (list : List Sealed). entries_from start (lists_of list)) (take_all (next_of start blocks - start) blocks all)

pub window_split : (g : Geometry) (start : ℕ) (blocks : List Sealed) → IsRing g start blocks
    → entries_of start blocks ≡ window_of start blocks ++ entries_of start (before start (head_of start blocks) blocks)
window_split g start blocks ring = entries_since start (head_of start blocks) blocks ring.head (head_within g start blocks ring)

in_window : (g : Geometry) (start : ℕ) (blocks : List Sealed) (image : Blocks) (last : ℕ) → IsRing g start blocks
    → IsWindow g start (journal_of g image) last (window_of start blocks) → HasInWindow g start image (entries_of start blocks)
in_window g start blocks image last ring is = record {
  last = last;
  window = window_of start blocks;
  is_window = is;
  reaped = entries_of start (before start (head_of start blocks) blocks);
  all = window_split g start blocks ring;
}

-- The front of a block has its first entries.

pub front_extends : (start n : ℕ) (blocks : List Sealed) (block : Sealed) → Extends (entries_of start (front_of n block ∷ blocks)) (entries_of start blocks)
front_extends start n blocks block = (reverse (with_points (start + length (lists_of blocks)) 0 (take (24 * n) block.entries)), refl)

pub block_extends : (start n : ℕ) (blocks : List Sealed) (block : Sealed) → Extends (entries_of start (block ∷ blocks)) (entries_of start (front_of n block ∷ blocks))
block_extends start n blocks block =
    let sequence = start + length (lists_of blocks) in
    let front = take (24 * n) block.entries in
    let behind = drop (24 * n) block.entries in
    let newer = reverse (with_points sequence (0 + length front) behind) in
    let reversed : reverse (with_points sequence 0 block.entries) ≡ newer ++ reverse (with_points sequence 0 front) =
    ap (λ (list : List Entry). reverse (with_points sequence 0 list)) (sym (take-append-drop (24 * n) block.entries))
    ∙ ap reverse (points_append sequence 0 front behind)
    ∙ reverse-append (with_points sequence 0 front) (with_points sequence (0 + length front) behind) in (
      newer,
      ap (λ (list : List CommittedEntry). list ++ entries_of start blocks) reversed
          ∙ append_assoc newer (reverse (with_points sequence 0 front)) (entries_of start blocks),
    )

-- What each image shows.

pub shown_at_rest : (opening : Blocks) (log : List Call) (g : Geometry) (start : ℕ) (blocks : List Sealed) (image : Blocks) → 1 + g.journal ≤ length opening
    → IsAtRest opening log g start blocks → IsImage opening log image → HasInWindow g start image (entries_of start blocks)
shown_at_rest opening log g start blocks image inside rest is =
    let last = next_of start blocks - 1 in
    in_window g start blocks image last rest.ring (window_at_rest opening log g start blocks image last inside rest is (omega (arith, rest.some)))

pub shown_under_way : (opening : Blocks) (log : List Call) (g : Geometry) (start : ℕ) (blocks : List Sealed) (block : Sealed) (image : Blocks) → 1 + g.journal ≤ length opening
    → IsUnderWay opening log g start blocks block → IsImage opening log image
    → (entries : List CommittedEntry) × HasInWindow g start image entries × Extends entries (entries_of start blocks) × Extends (entries_of start (block ∷ blocks)) entries
shown_under_way opening log g start blocks block image inside way is =
    let last = next_of start blocks - 1 in
    elim (window_under_way opening log g start blocks block image last inside way is (omega (arith, way.some))) [
      | inl old ↦ (
        entries_of start blocks,
        in_window g start blocks image last way.ring old,
        ([], refl),
        (reverse (with_points (start + length (lists_of blocks)) 0 block.entries), refl),
      )
      | inr new ↦
          let ring = front_grows g start new.0 blocks block way.ring way.is_sealed in (
            entries_of start (front_of new.0 block ∷ blocks),
            in_window g start (front_of new.0 block ∷ blocks) image (last + 1) ring new.3,
            front_extends start new.0 blocks block,
            block_extends start new.0 blocks block,
          )
    ]
