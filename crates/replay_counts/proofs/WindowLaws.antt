-- The points of a window are those of the halves that add.
use Rattle.std.proofs.Common.{ℕ, suc, ◌≡◌, ◌+◌, ◌*◌, ◌%◌, List, [], ◌∷◌, length, reverse, All, sym, subst, arith}
use Rattle.std.proofs.lemmas.List.Elements.{All-nil, All-cons, All-append}
use Rattle.std.proofs.lemmas.List.Sorted.{All-permutation, IsPermutation-reverse, IsPermutation-sym}
use Rattle.blk_base.specs.declared.geometry.Super.{Super}
use Rattle.blk_base.specs.declared.journal_entry.CommittedEntry.{CommittedEntry}
use Rattle.blk_base.specs.declared.journal_entry.Entry.{Entry}
use Rattle.disk_model.specs.Log.{Blocks}
use Rattle.image_model.specs.Windows.{entries_from, with_points}
use Rattle.journal_window.specs.States.{WindowState}
use Rattle.journal_window.specs.Windows.{IsWindowOf}

abbrev Adds : CommittedEntry → Type 0
Adds committed = committed.point.0 % 2 ≡ 0

even : (sequence number : ℕ) → (sequence * 512 + number * 2 + 0) % 2 ≡ 0
even sequence number = omega arith

of_block : (sequence number : ℕ) (entries : List Entry) → All Adds (with_points sequence number entries)
of_block sequence number [] = All-nil Adds
of_block sequence number (entry ∷ entries) =
    All-cons Adds (record { entry = entry; point = record { 0 = sequence * 512 + number * 2 + 0 } }) (with_points sequence (suc number) entries)
    (even sequence number) (of_block sequence (suc number) entries)

of_blocks : (first : ℕ) (blocks : List (List Entry)) → All Adds (entries_from first blocks)
of_blocks first [] = All-nil Adds
of_blocks first (entries ∷ older) =
    let newest = with_points (first + length older) 0 entries in
    All-append Adds (reverse newest) (entries_from first older) (All-permutation Adds newest (reverse newest) (IsPermutation-reverse newest) (of_block (first + length older) 0 entries)) (of_blocks first older)

pub window_adds : (head : Super) (journal : Blocks) (window : WindowState) (entries : List CommittedEntry) → IsWindowOf head journal window → window.entries ≡ reverse entries → All Adds entries
window_adds head journal window entries is same =
    All-permutation Adds (reverse entries) entries (IsPermutation-sym entries (reverse entries) (IsPermutation-reverse entries))
    (subst (λ (es : List CommittedEntry). All Adds es) same
    (subst (λ (es : List CommittedEntry). All Adds es) (sym is.is_window.entries) (of_blocks is.is_window.first is.is_window.blocks)))
