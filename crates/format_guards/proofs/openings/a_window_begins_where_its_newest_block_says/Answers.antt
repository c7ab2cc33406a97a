use Rattle.std.proofs.Common.{ℕ, ◌≡◌, ◌+◌, ◌≤◌, ◌∙◌, Bool, List, [], ◌∷◌, Result, Ok, Err, IfOk, length, reverse, ap₂, subst, inr, arith}
use Rattle.std.proofs.lemmas.List.{append-nil}
use Rattle.blk_base.specs.declared.geometry.Geometry.{Geometry}
use Rattle.blk_base.specs.declared.geometry.Super.{Super}
use Rattle.blk_base.specs.declared.journal_entry.CommittedEntry.{CommittedEntry}
use Rattle.blk_base.specs.declared.journal_entry.Entry.{Entry}
use Rattle.disk_model.specs.Log.{Blocks}
use Rattle.journal_codec.proofs.PrefixLaws.{one_prefix}
use Rattle.image_model.proofs.WindowLaws.{one_first}
use Rattle.image_model.specs.Windows.{AreReplayable, HasEntries, IsReplayable, IsThere, IsWindow, entries_from, in_slot, with_points}
use Rattle.image_model.specs.declared.fault.ImageFault.{ImageFault}
use Rattle.journal_window.specs.States.{WindowState}
use Rattle.journal_window.specs.Windows.{IsWindowOf}
use Rattle.format_guards.proofs.openings.a_window_begins_where_its_newest_block_says.Goals as goal

module _ (g : Geometry) (journal : List (List ℕ)) (last : ℕ) (entries : List Entry) (whole : Bool) (has : HasEntries g journal last entries whole) where
  same_entries : (own : List Entry) → IsReplayable g journal last last own → own ≡ entries
  same_entries own is = (one_prefix g.nonce (in_slot g journal last) last is.has.0 last has.0 own entries is.whole whole is.has.1 has.1).2

  alone : (first : ℕ) (blocks : List (List Entry)) → first ≡ last → length blocks ≡ 1 → AreReplayable g journal last first blocks
      → entries_from first blocks ≡ reverse (with_points last 0 entries)
  alone first [] same one are = absurd (omega (arith, one))
  alone first (own ∷ []) same one are =
      let here : first + 0 ≡ last = omega (arith, same) in
      append-nil (reverse (with_points (first + 0) 0 own))
      ∙ ap₂ (λ (n : ℕ) (es : List Entry). reverse (with_points n 0 es)) here (same_entries own (subst (λ (n : ℕ). IsReplayable g journal last n own) here are.0))
  alone first (own ∷ older ∷ rest) same one are = absurd (omega (arith, one))

  begins : (start : ℕ) (window : List CommittedEntry) → IsWindow g start journal last window → start ≤ last → IsThere g journal last last
      → window ≡ reverse (with_points last 0 entries)
  begins start window is from there =
      let same = one_first g start journal last is.first last is.is_first (inr (from, there)) in
      let count = is.count in
      is.entries ∙ alone is.first is.blocks same (omega (arith, same, count)) is.replayable

all_begin : (head : Super) (journal : Blocks) (result : Result WindowState ImageFault) → IfOk result (IsWindowOf head journal)
    → IfOk result (λ window. (entries : List Entry) (whole : Bool) → head.start ≤ window.last → IsThere head.geometry journal window.last window.last
    → HasEntries head.geometry journal window.last entries whole → window.entries ≡ reverse (with_points window.last 0 entries))
all_begin head journal (Ok window) is = λ entries whole from there has. begins head.geometry journal window.last entries whole has head.start window.entries is.is_window from there
all_begin head journal (Err why) is = tt

pub returns : goal.returns
returns c = all_begin c.args.head.now c.args.journal.now c.window_of.result c.window_of.ensures.window
