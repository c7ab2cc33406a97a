use Rattle.std.proofs.Common.{◌≡◌, ◌<◌, ◌%◌, length, get_or, subst, refl, sym, arith, ℕ, List, All}
use Rattle.blk_base.specs.declared.journal_entry.Entry.{Entry}
use Rattle.image_model.specs.Windows.{IsOfImage}
use Rattle.std.proofs.Math.Nat.{mod-lt}
use Rattle.journal_window.proofs.ReplayLaws.{replayable, not_replayable, no_prefix}
use Rattle.journal_window.proofs.replayed_blocks.replayable.Goals.{else-is_whole-via-then-is_whole+else-are_of_image, else-is_whole-via-else-is_whole}
use Rattle.journal_window.proofs.replayed_blocks.replayable.Goals as goal

pub returns-in-None-clause-none : goal.returns-in-None-clause-none
returns-in-None-clause-none c =
    let g = c.args.layout.now.geometry in
    let journal : List (List ℕ) = c.args.journal.now in
    let some = c.args.layout.now.sizes.journal.0 in
    let inside : c.args.sequence % g.journal < length journal = subst (λ (n : ℕ). c.args.sequence % g.journal < n) (sym c.requires) (mod-lt c.args.sequence (omega (arith, some))) in
    let there = subst (λ (n : ℕ). c.index-journal-slot.result ≡ get_or journal (c.args.sequence % n) c.index-journal-slot.result) c.from.ensures c.index-journal-slot.is in
    no_prefix g journal c.args.last c.args.sequence c.index-journal-slot.result inside there c.in-None.ensures.none

pub returns-then-are_of_image-clause-some : goal.returns-then-are_of_image-clause-some
returns-then-are_of_image-clause-some c =
    let g = c.args.layout.now.geometry in
    let journal : List (List ℕ) = c.args.journal.now in
    let prefix = c.in-Some.prefix in
    let some = c.args.layout.now.sizes.journal.0 in
    let inside : c.args.sequence % g.journal < length journal = subst (λ (n : ℕ). c.args.sequence % g.journal < n) (sym c.requires) (mod-lt c.args.sequence (omega (arith, some))) in
    let there = subst (λ (n : ℕ). c.index-journal-slot.result ≡ get_or journal (c.args.sequence % n) c.index-journal-slot.result) c.from.ensures c.index-journal-slot.is in
    let whole = c.if-is_whole.ensures.yes in
    replayable g journal c.args.last c.args.sequence c.index-journal-slot.result inside there prefix.sequence prefix.head prefix.entries prefix.whole
    c.in-Some.ensures.some whole.0 whole.1 (subst (λ (es : List Entry). All (IsOfImage g) es) c.as_slice.ensures.value (c.if-are_of_image.ensures.0 refl))

pub returns-else-is_whole-clause-none : goal.returns-else-is_whole-clause-none
returns-else-is_whole-clause-none c =
    let g = c.args.layout.now.geometry in
    let journal : List (List ℕ) = c.args.journal.now in
    let prefix = c.in-Some.prefix in
    let some = c.args.layout.now.sizes.journal.0 in
    let inside : c.args.sequence % g.journal < length journal = subst (λ (n : ℕ). c.args.sequence % g.journal < n) (sym c.requires) (mod-lt c.args.sequence (omega (arith, some))) in
    let there = subst (λ (n : ℕ). c.index-journal-slot.result ≡ get_or journal (c.args.sequence % n) c.index-journal-slot.result) c.from.ensures c.index-journal-slot.is in
    not_replayable g journal c.args.last c.args.sequence c.index-journal-slot.result inside there prefix.sequence prefix.head prefix.entries prefix.whole
    c.in-Some.ensures.some (λ same complete each. elim c.else-is_whole.branch [
      | else-is_whole-via-then-is_whole+else-are_of_image w ↦ absurd (cc (w.if-are_of_image.ensures.1 (subst (λ (es : List Entry). All (IsOfImage g) es) (sym w.as_slice.ensures.value) each)))
      | else-is_whole-via-else-is_whole w ↦ w.if-is_whole.ensures.no same complete
    ])
