-- The points of the entries of blocks rise.
use Rattle.std.proofs.Common.{ℕ, suc, ◌≡◌, ◌+◌, ◌*◌, ◌≤◌, List, [], ◌∷◌, ◌++◌, length, reverse, sym, ◌∙◌, ap, subst, arith, append_assoc}
use Rattle.std.proofs.lemmas.List.{length-map, reverse-append}
use Rattle.blk_base.specs.Points.{point_of}
use Rattle.blk_base.specs.declared.journal_entry.CommittedEntry.{CommittedEntry}
use Rattle.blk_base.specs.declared.journal_entry.Entry.{Entry}
use Rattle.blk_base.specs.declared.point.Half.TheVariants.{Increment}
use Rattle.image_model.specs.Windows.{with_points}
use Rattle.journal_stops.specs.Sealed.{Sealed, entries_of, lists_of, next_of}
use Rattle.count_laws.specs.Points.{ArePointed, next_point}
use Rattle.session_stops.specs.Sessions.{AreFew}

abbrev first_entry : ℕ → ℕ → Entry → CommittedEntry
first_entry sequence number entry = record { entry = entry; point = record { 0 = point_of sequence number Increment } }

-- the newest entries of a block stand before its first one
first_last : (sequence number : ℕ) (entry : Entry) (entries : List Entry) (older : List CommittedEntry)
    → reverse (with_points sequence number (entry ∷ entries)) ++ older ≡ reverse (with_points sequence (suc number) entries) ++ (first_entry sequence number entry ∷ older)
first_last sequence number entry entries older =
    ap (λ (list : List CommittedEntry). list ++ older) (reverse-append (first_entry sequence number entry ∷ []) (with_points sequence (suc number) entries))
    ∙ append_assoc (reverse (with_points sequence (suc number) entries)) (first_entry sequence number entry ∷ []) older

of_block : (from sequence number : ℕ) (entries : List Entry) (older : List CommittedEntry) → next_point from older ≤ sequence * 512 + number * 2 → ArePointed from older
    → ArePointed from (reverse (with_points sequence number entries) ++ older)
    × (next_point from (reverse (with_points sequence number entries) ++ older) ≤ sequence * 512 + (number + length entries) * 2)
of_block from sequence number [] older next pointed = (pointed, omega (arith, next))
of_block from sequence number (entry ∷ entries) older next pointed =
    let first = first_entry sequence number entry in
    let rest = of_block from sequence (suc number) entries (first ∷ older) (omega arith) (omega (arith, next), omega arith, pointed) in
    let bound = rest.1 in (
      subst (ArePointed from) (sym (first_last sequence number entry entries older)) rest.0,
      subst (λ (list : List CommittedEntry). next_point from list ≤ sequence * 512 + (number + suc (length entries)) * 2) (sym (first_last sequence number entry entries older)) (omega (arith, bound)),
    )

-- they are pointed from the first sequence on, and below the next one
pub blocks_pointed : (start : ℕ) (blocks : List Sealed) → AreFew blocks
    → ArePointed (point_of start 0 Increment) (entries_of start blocks) × (next_point (point_of start 0 Increment) (entries_of start blocks) ≤ point_of (next_of start blocks) 0 Increment)
blocks_pointed start [] few = (tt, omega arith)
blocks_pointed start (block ∷ older) few =
    let before = blocks_pointed start older few.1 in
    let most = few.0 in
    let bound = before.1 in
    let size = length-map older (λ (b : Sealed). b.entries) in
    let all = of_block (point_of start 0 Increment) (start + length (lists_of older)) 0 block.entries (entries_of start older) (omega (arith, bound, size)) before.0 in
    let next = all.1 in
    (all.0, omega (arith, next, most, size))
