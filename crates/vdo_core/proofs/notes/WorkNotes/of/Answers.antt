use Rattle.std.proofs.Common.{ℕ, suc, ◌≡◌, ◌+◌, ◌∙◌, List, Some, ap, arith, length, slice_get, subst, sym, take}
use Rattle.std.proofs.Math.Seq.{take-length}
use Rattle.std.proofs.lemmas.Grind.{common_steps}
use Rattle.std.proofs.lemmas.Option.{gets}
use Rattle.core_model.specs.declared.zones.Zone.{Zone}
use Rattle.vdo_core.specs.Notes.{KnowsPosts, KnowsWork, TellsNone, TellsPosts, TellsWork}
use Rattle.vdo_core.proofs.NoteLaws.{last_taken, others_taken}
use Rattle.vdo_core.proofs.notes.WorkNotes.of.Goals as goal

pub note_work-requires-clause-can : goal.note_work-requires-clause-can
note_work-requires-clause-can c =
    let had : slice_get c.args.zones.now c.loop-number.number ≡ Some c.index-zone.result.now = grind (arith, common_steps, gets) in
    (c.requires.can c.loop-number.number c.index-zone.result.now had).begins

pub loop-number-preserved : goal.loop-number-preserved
loop-number-preserved c =
    let number = c.loop-number.number in
    let zone = c.index-zone.result.now in
    let zones = c.args.zones.now in
    let had : slice_get zones number ≡ Some zone = grind (arith, common_steps, gets) in
    let before = c.loop-number.invariant in
    let next : number + 1 ≡ suc number = omega arith in
    let count = c.len-count.result in
    let noted = c.note_posts.new.self in
    let last = c.note_work.new.self in
    let posts = c.note_posts.ensures.posts (take number zones) (take (suc number) zones) (last_taken zones number zone had)
    (record { posts = others_taken (TellsPosts count) zones number; senders = others_taken (TellsNone count) zones number }) before.posts in
    let work = c.note_work.ensures.work (take number zones) (take (suc number) zones) (last_taken zones number zone had) (others_taken (TellsWork c.args.sizes.now) zones number)
    (subst (λ (set : ℕ). KnowsWork count c.args.sizes.now set (take number zones)) (sym c.note_posts.ensures.works) before.work) in
    record {
      count = before.count;
      posts = rw (next, c.note_work.ensures.posted, c.note_work.ensures.senders) posts;
      work = rw next work;
    }

pub returns : goal.returns
returns c =
    let last = c.loop-number.invariant in
    let count = last.count in
    let behind = c.loop-number-test.false in
    let end = c.loop-number.auto.number-end in
    let zones = c.args.zones.now in
    let notes = c.loop-number.notes in
    let all : c.loop-number.number ≡ length zones = omega (arith, count, behind, end) in
    let whole : take c.loop-number.number zones ≡ zones = ap (λ (k : ℕ). take k zones) all ∙ take-length zones in
    record {
      posts = subst (λ (k : ℕ). KnowsPosts k notes.posted notes.senders zones) count (subst (λ (zs : List Zone). KnowsPosts c.len-count.result notes.posted notes.senders zs) whole last.posts);
      work = subst (λ (k : ℕ). KnowsWork k c.args.sizes.now notes.works zones) count (subst (λ (zs : List Zone). KnowsWork c.len-count.result c.args.sizes.now notes.works zs) whole last.work);
    }
