-- The entries of blocks, from a head on.
use Rattle.std.proofs.Common.{ℕ, suc, ◌≡◌, ◌+◌, ◌-◌, ◌≤◌, List, [], ◌∷◌, ◌++◌, length, take, reverse, sym, ◌∙◌, ap, arith}
use Rattle.std.proofs.lemmas.List.{append-nil, length-map, length-take-le, take-take}
use Rattle.blk_base.specs.declared.journal_entry.CommittedEntry.{CommittedEntry}
use Rattle.image_model.specs.Windows.{with_points}
use Rattle.journal_stops.specs.Sealed.{Sealed, before, entries_of, lists_of, next_of, since, window_of}
use Rattle.journal_stops.proofs.EntryLaws.{entries_since}
use Rattle.session_stops.specs.Sessions.{entries_next, window_from}

-- those of the newest block, and the others
pub newest_block : (start : ℕ) (blocks : List Sealed) (block : Sealed) → entries_of start (block ∷ blocks) ≡ entries_next start blocks block ++ entries_of start blocks
newest_block start blocks block =
    let place : start + length (lists_of blocks) ≡ next_of start blocks + 0 = omega (arith, length-map blocks (λ (b : Sealed). b.entries)) in
    ap (λ (n : ℕ). reverse (with_points n 0 block.entries) ++ entries_of start blocks) place
    ∙ ap (λ (list : List CommittedEntry). list ++ entries_of start blocks) (sym (append-nil (reverse (with_points (next_of start blocks + 0) 0 block.entries))))

next_since : (start head : ℕ) (blocks : List Sealed) → start ≤ head → head ≤ next_of start blocks → next_of head (since start head blocks) ≡ next_of start blocks
next_since start head blocks low high =
    let size = length-take-le (next_of start blocks - head) blocks (omega (arith, low)) in omega (arith, size, high)

-- the window of a newest block has its entries, and those of the other blocks from its head on
pub window_newest : (start : ℕ) (blocks : List Sealed) (block : Sealed) → start ≤ block.head → block.head ≤ next_of start blocks
    → window_of start (block ∷ blocks) ≡ entries_next start blocks block ++ window_from start block.head blocks
window_newest start blocks block low high =
    let k = next_of start blocks - block.head in
    let more : next_of start (block ∷ blocks) - block.head ≡ suc k = omega (arith, high) in
    ap (λ (n : ℕ). entries_of block.head (take n (block ∷ blocks))) more
    ∙ newest_block block.head (since start block.head blocks) block
    ∙ ap (λ (n : ℕ). entries_of n (block ∷ []) ++ window_from start block.head blocks) (next_since start block.head blocks low high)

-- a window from an earlier head on has that from a later one on
pub window_earlier : (start from later : ℕ) (blocks : List Sealed) → start ≤ from → from ≤ later → later ≤ next_of start blocks
    → (behind : List CommittedEntry) × (window_from start from blocks ≡ window_from start later blocks ++ behind)
window_earlier start from later blocks low between high =
    let some = since start from blocks in
    let next = next_since start from blocks low (omega (arith, between, high)) in
    let k = next_of start blocks - later in
    let k_is : next_of from some - later ≡ k = omega (arith, next) in
    let shorter : since from later some ≡ since start later blocks =
    ap (λ (n : ℕ). take n some) k_is ∙ take-take k (next_of start blocks - from) blocks (omega (arith, between)) in (
      entries_of from (before from later some),
      entries_since from later some between (omega (arith, high, next)) ∙ ap (λ (list : List Sealed). entries_of later list ++ entries_of from (before from later some)) shorter,
    )
