use Rattle.std.proofs.Common.{◌≡◌, ◌≤◌, Some, arith, length, slice_get, ℕ, subst, sym}
use Rattle.std.proofs.lemmas.Grind.{common_steps}
use Rattle.std.proofs.lemmas.Option.{gets}
use Rattle.vdo_core.specs.Notes.{KnowsPosts, OtherPostsStay}
use Rattle.vdo_core.proofs.NoteLaws.{posts_still}
use Rattle.vdo_core.proofs.notes.WorkNotes.follow_posts.Goals as goal

pub returns-in-Some-clause-posts : goal.returns-in-Some-clause-posts
returns-in-Some-clause-posts c before stay known =
    let had : slice_get c.args.zones.now c.args.number ≡ Some c.in-Some.zone.now = grind (arith, common_steps, gets) in
    let count : c.len.result ≡ length c.args.zones.now = grind (arith, common_steps) in
    let zones = c.args.zones.now in
    let old = c.args.self.now in
    let new = c.note_posts.new.self in
    subst (λ (k : ℕ). KnowsPosts k new.posted new.senders zones) count (c.note_posts.ensures.posts before zones had
    (subst (λ (k : ℕ). OtherPostsStay k c.args.number before zones) (sym count) stay) (subst (λ (k : ℕ). KnowsPosts k old.posted old.senders before) (sym count) known))

pub returns-in-None-clause-posts : goal.returns-in-None-clause-posts
returns-in-None-clause-posts c before stay known =
    let past : length c.args.zones.now ≤ c.args.number = grind (arith, common_steps, gets) in
    posts_still (length c.args.zones.now) c.args.number before c.args.zones.now c.args.self.now.posted c.args.self.now.senders past stay known
