-- How many entries a window has at most.
use Rattle.std.proofs.Common.{ℕ, suc, ◌≡◌, ◌+◌, ◌*◌, ◌%◌, ◌^◌, ◌<◌, ◌≤◌, List, [], ◌∷◌, length, reverse, get_or, refl, ◌∙◌, ap, subst, inl, inr, arith}
use Rattle.std.proofs.Math.Nat.{add-mul-mod_self_right}
use Rattle.std.proofs.lemmas.Bool.{cases_lt}
use Rattle.std.proofs.lemmas.List.{length-append, length-reverse}
use Rattle.blk_base.specs.Limits.{IsGeometry}
use Rattle.blk_base.specs.Sectors.{sector, zero_block}
use Rattle.blk_base.specs.declared.geometry.Geometry.{Geometry}
use Rattle.blk_base.specs.declared.geometry.Super.{Super}
use Rattle.blk_base.specs.declared.journal_entry.CommittedEntry.{CommittedEntry}
use Rattle.blk_base.specs.declared.journal_entry.Entry.{Entry}
use Rattle.disk_model.specs.Log.{Blocks}
use Rattle.image_model.proofs.WindowLaws.{each_replayable}
use Rattle.image_model.specs.Windows.{AreReplayable, IsReplayable, IsThere, entries_from, in_slot, with_points}
use Rattle.journal_codec.proofs.ReadLaws.{one_reading}
use Rattle.journal_codec.specs.Grammar.{IsSector}
use Rattle.journal_codec.specs.BlockBytes.{entries_in}
use Rattle.journal_window.specs.States.{WindowState}
use Rattle.journal_window.specs.Windows.{IsWindowOf}

length_pointed : (sequence number : ℕ) (entries : List Entry) → length (with_points sequence number entries) ≡ length entries
length_pointed sequence number [] = refl
length_pointed sequence number (entry ∷ entries) = ap suc (length_pointed sequence (suc number) entries)

module _ (g : Geometry) (journal : Blocks) (last : ℕ) where
  few_in_block : (sequence : ℕ) (entries : List Entry) → IsReplayable g journal last sequence entries → length entries ≤ 192
  few_in_block sequence entries is =
      let prefix = is.has.1 in
      let fits = prefix.run.fits in
      let most = prefix.range.1 in
      omega (arith, fits, most)

  few_in_blocks : (first : ℕ) (blocks : List (List Entry)) → AreReplayable g journal last first blocks → length (entries_from first blocks) ≤ 192 * length blocks
  few_in_blocks first [] are = omega arith
  few_in_blocks first (entries ∷ older) are =
      let own = few_in_block (first + length older) entries are.0 in
      let before = few_in_blocks first older are.1 in
      let newest = with_points (first + length older) 0 entries in
      let sum = length-append (reverse newest) (entries_from first older) in
      let turned = length-reverse newest in
      let size = length_pointed (first + length older) 0 entries in
      omega (arith, own, before, sum, turned, size)

  there : (sequence : ℕ) (entries : List Entry) → IsReplayable g journal last sequence entries → (head : ℕ) × IsThere g journal sequence head
  there sequence entries is = let prefix = is.has.1 in let least = prefix.range.0 in (is.has.0, (entries_in 0 entries, prefix.run.sectors 0 (omega (arith, least))))

  -- two blocks that are one round apart would stand in one slot
  not_twice : (sequence : ℕ) (early late : ℕ) → 0 < g.journal → IsThere g journal sequence early → IsThere g journal (sequence + g.journal) late → ⊥
  not_twice sequence early late some here further =
      let slots : (sequence + g.journal) % g.journal ≡ sequence % g.journal = ap (λ (n : ℕ). n % g.journal) (omega arith) ∙ add-mul-mod_self_right sequence 1 g.journal in
      let again : IsSector g.nonce 0 (sector 0 (in_slot g journal sequence)) (sequence + g.journal) late further.0 =
      subst (λ (slot : ℕ). IsSector g.nonce 0 (sector 0 (get_or journal slot zero_block)) (sequence + g.journal) late further.0) slots further.1 in
      let same = (one_reading g.nonce 0 (sector 0 (in_slot g journal sequence)) sequence early (sequence + g.journal) late here.0 further.0 here.1 again).0 in
      absurd (omega (arith, same, some))

  few_blocks : (first : ℕ) (blocks : List (List Entry)) → 0 < g.journal → AreReplayable g journal last first blocks → length blocks ≤ g.journal
  few_blocks first blocks some are = elim (cases_lt g.journal (length blocks)) [
    | inl more ↦
        let one = each_replayable g journal last first blocks are first (omega arith) (omega (arith, more)) in
        let other = each_replayable g journal last first blocks are (first + g.journal) (omega arith) (omega (arith, more)) in
        let here = there first one.0 one.1 in
        let further = there (first + g.journal) other.0 other.1 in
        absurd (not_twice first here.0 further.0 some here.1 further.1)
    | inr few ↦ omega (arith, few)
  ]

pub few_entries : (head : Super) (journal : Blocks) (window : WindowState) → IsGeometry head.geometry → IsWindowOf head journal window → length window.entries < 2 ^ 32
few_entries head journal window sizes is =
    let some = sizes.journal.0 in
    let most = sizes.journal.1 in
    let is_window = is.is_window in
    let entries = few_in_blocks head.geometry journal window.last is_window.first is_window.blocks is_window.replayable in
    let blocks = few_blocks head.geometry journal window.last is_window.first is_window.blocks (omega (arith, some)) is_window.replayable in
    let size = ap (λ (all : List CommittedEntry). length all) is_window.entries in
    omega (arith, entries, blocks, size, most)
