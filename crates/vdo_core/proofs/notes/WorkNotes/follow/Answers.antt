use Rattle.std.proofs.Common.{ℕ, length, subst, sym}
use Rattle.vdo_core.specs.Notes.{KnowsPosts, KnowsWork, OtherPostsStay, OthersStay, TellsWork}
use Rattle.vdo_core.proofs.notes.WorkNotes.follow.Goals as goal

pub returns : goal.returns
returns c before long posts work known =
    let zones = c.args.zones.now in
    let sizes = c.args.sizes.now in
    let old = c.args.self.now in
    let first = c.follow_posts.new.self in
    let last = c.follow_work.new.self in
    let posted = c.follow_posts.ensures.posts before (subst (λ (k : ℕ). OtherPostsStay (length zones) k before zones) (sym c.sender_of.ensures) posts)
    (subst (λ (count : ℕ). KnowsPosts count old.posted old.senders before) long known.posts) in
    record {
      posts = rw (c.follow_work.ensures.posted, c.follow_work.ensures.senders) posted;
      work = c.follow_work.ensures.work before (subst (λ (k : ℕ). OthersStay (TellsWork sizes) k before zones) (sym c.worker_of.ensures) work)
          (subst (λ (set : ℕ). KnowsWork (length zones) sizes set before) (sym c.follow_posts.ensures.works) (subst (λ (count : ℕ). KnowsWork count sizes old.works before) long known.work));
    }
