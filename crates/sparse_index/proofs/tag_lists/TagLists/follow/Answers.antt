use Rattle.std.proofs.Common.{◌≡◌, ◌∙◌, ◌∷◌, ◌≤◌, ℕ, List, Some, filter, map, take, nat_le, option_copied, ap, sym, subst, arith}
use Rattle.std.specs.List.{slice_get}
use Rattle.uds_chapters.specs.Chapters.{Numbered}
use Rattle.index_advice.specs.Books.{chapters_elsewhere}
use Rattle.uds_index.specs.Tags.{AreListed, Listed}
use Rattle.sparse_index.specs.Hooks.{hooks_of}
use Rattle.sparse_index.specs.Keeps.{AreOlder, TwoLists, last_number}
use Rattle.sparse_index.specs.Orders.{dense_count}
use Rattle.sparse_index.proofs.ListLaws.{some_is}
use Rattle.sparse_index.proofs.DenseLaws.{dense_now, hooks_now, hooks_room, dense_room}
use Rattle.sparse_index.proofs.tag_lists.TagLists.follow.Goals as goal

pub add-requires-clause-rising : goal.add-requires-clause-rising
add-requires-clause-rising c =
    let lists : TwoLists = record { dense = c.self.inside.dense; hooks = c.self.inside.hooks } in
    let kept = c.args.kept.now in
    let places = c.args.places in
    let newest : Numbered = c.in-Some.newest.now in
    let to : AreOlder places kept c.args.last lists = subst (λ (l : TwoLists). AreOlder places kept c.args.last l) (sym c.self.view_is) c.requires.older in
    let first : slice_get kept 0 ≡ Some newest = sym c.first.ensures.value ∙ ap option_copied c.in-Some.is in
    let is : newest ≡ to.newest = some_is newest to.newest (sym first ∙ ap (λ (cs : List Numbered). slice_get cs 0) to.kept) in
    let left : AreListed (chapters_elsewhere places newest.number (map hooks_of to.older)) c.leave_out.new.self.tags =
    subst (λ (n : ℕ). AreListed (chapters_elsewhere places n (map hooks_of to.older)) c.leave_out.new.self.tags) c.number.ensures
    (c.leave_out.ensures.listed (map hooks_of to.older) to.both.hooks) in
    left.rising

pub add-requires-clause-room : goal.add-requires-clause-room
add-requires-clause-room c =
    let lists : TwoLists = record { dense = c.self.inside.dense; hooks = c.self.inside.hooks } in
    let kept = c.args.kept.now in
    let places = c.args.places in
    let newest : Numbered = c.in-Some.newest.now in
    let to : AreOlder places kept c.args.last lists = subst (λ (l : TwoLists). AreOlder places kept c.args.last l) (sym c.self.view_is) c.requires.older in
    let first : slice_get kept 0 ≡ Some newest = sym c.first.ensures.value ∙ ap option_copied c.in-Some.is in
    let is : newest ≡ to.newest = some_is newest to.newest (sym first ∙ ap (λ (cs : List Numbered). slice_get cs 0) to.kept) in
    let left : AreListed (chapters_elsewhere places newest.number (map hooks_of to.older)) c.leave_out.new.self.tags =
    subst (λ (n : ℕ). AreListed (chapters_elsewhere places n (map hooks_of to.older)) c.leave_out.new.self.tags) c.number.ensures
    (c.leave_out.ensures.listed (map hooks_of to.older) to.both.hooks) in
    let room = hooks_room places c.requires.some kept c.requires.order c.args.last lists to newest is c.leave_out.new.self.tags left c.requires.few in
    omega (arith, room, c.leave_out.ensures.room)

pub add-requires-then-last-oldest-clause-rising : goal.add-requires-then-last-oldest-clause-rising
add-requires-then-last-oldest-clause-rising c =
    let lists : TwoLists = record { dense = c.self.inside.dense; hooks = c.self.inside.hooks } in
    let kept = c.args.kept.now in
    let places = c.args.places in
    let newest : Numbered = c.in-Some.newest.now in
    let to : AreOlder places kept c.args.last lists = subst (λ (l : TwoLists). AreOlder places kept c.args.last l) (sym c.self.view_is) c.requires.older in
    let first : slice_get kept 0 ≡ Some newest = sym c.first.ensures.value ∙ ap option_copied c.in-Some.is in
    let is : newest ≡ to.newest = some_is newest to.newest (sym first ∙ ap (λ (cs : List Numbered). slice_get cs 0) to.kept) in
    let left : AreListed (chapters_elsewhere places newest.number (map hooks_of to.older)) c.leave_out.new.self.tags =
    subst (λ (n : ℕ). AreListed (chapters_elsewhere places n (map hooks_of to.older)) c.leave_out.new.self.tags) c.number.ensures
    (c.leave_out.ensures.listed (map hooks_of to.older) to.both.hooks) in
    let oldest : ℕ = last_number (take (dense_count places) kept) in
    let last_is : c.last_number-oldest.result ≡ oldest = c.last_number-oldest.ensures ∙ ap last_number c.dense_part-dense.ensures in
    let above : c.args.last ≤ oldest = omega (arith, last_is, c.if-last-oldest.true) in
    let others : List Numbered = chapters_elsewhere places newest.number (take (dense_count places) to.older) in
    let out : AreListed others c.leave_out-then-last-oldest.new.self.tags =
    subst (λ (n : ℕ). AreListed (chapters_elsewhere places n (take (dense_count places) to.older)) c.leave_out-then-last-oldest.new.self.tags) c.number-then-last-oldest.ensures
    (c.leave_out-then-last-oldest.ensures.listed (take (dense_count places) to.older) to.both.dense) in
    let older : AreListed (filter (λ one. nat_le oldest one.number) others) c.leave_out_older.new.self.tags =
    subst (λ (n : ℕ). AreListed (filter (λ one. nat_le n one.number) others) c.leave_out_older.new.self.tags) last_is (c.leave_out_older.ensures.listed others out) in
    older.rising

pub add-requires-then-last-oldest-clause-room : goal.add-requires-then-last-oldest-clause-room
add-requires-then-last-oldest-clause-room c =
    let lists : TwoLists = record { dense = c.self.inside.dense; hooks = c.self.inside.hooks } in
    let kept = c.args.kept.now in
    let places = c.args.places in
    let newest : Numbered = c.in-Some.newest.now in
    let to : AreOlder places kept c.args.last lists = subst (λ (l : TwoLists). AreOlder places kept c.args.last l) (sym c.self.view_is) c.requires.older in
    let first : slice_get kept 0 ≡ Some newest = sym c.first.ensures.value ∙ ap option_copied c.in-Some.is in
    let is : newest ≡ to.newest = some_is newest to.newest (sym first ∙ ap (λ (cs : List Numbered). slice_get cs 0) to.kept) in
    let left : AreListed (chapters_elsewhere places newest.number (map hooks_of to.older)) c.leave_out.new.self.tags =
    subst (λ (n : ℕ). AreListed (chapters_elsewhere places n (map hooks_of to.older)) c.leave_out.new.self.tags) c.number.ensures
    (c.leave_out.ensures.listed (map hooks_of to.older) to.both.hooks) in
    let oldest : ℕ = last_number (take (dense_count places) kept) in
    let last_is : c.last_number-oldest.result ≡ oldest = c.last_number-oldest.ensures ∙ ap last_number c.dense_part-dense.ensures in
    let above : c.args.last ≤ oldest = omega (arith, last_is, c.if-last-oldest.true) in
    let others : List Numbered = chapters_elsewhere places newest.number (take (dense_count places) to.older) in
    let out : AreListed others c.leave_out-then-last-oldest.new.self.tags =
    subst (λ (n : ℕ). AreListed (chapters_elsewhere places n (take (dense_count places) to.older)) c.leave_out-then-last-oldest.new.self.tags) c.number-then-last-oldest.ensures
    (c.leave_out-then-last-oldest.ensures.listed (take (dense_count places) to.older) to.both.dense) in
    let older : AreListed (filter (λ one. nat_le oldest one.number) others) c.leave_out_older.new.self.tags =
    subst (λ (n : ℕ). AreListed (filter (λ one. nat_le n one.number) others) c.leave_out_older.new.self.tags) last_is (c.leave_out_older.ensures.listed others out) in
    let room = dense_room places c.requires.some kept c.requires.order c.args.last lists to newest is above c.leave_out_older.new.self.tags older in
    omega (arith, room, c.leave_out_older.ensures.room, c.leave_out-then-last-oldest.ensures.room)

pub returns-then-last-oldest : goal.returns-then-last-oldest
returns-then-last-oldest c =
    let lists : TwoLists = record { dense = c.self.inside.dense; hooks = c.self.inside.hooks } in
    let kept = c.args.kept.now in
    let places = c.args.places in
    let newest : Numbered = c.in-Some.newest.now in
    let to : AreOlder places kept c.args.last lists = subst (λ (l : TwoLists). AreOlder places kept c.args.last l) (sym c.self.view_is) c.requires.older in
    let first : slice_get kept 0 ≡ Some newest = sym c.first.ensures.value ∙ ap option_copied c.in-Some.is in
    let is : newest ≡ to.newest = some_is newest to.newest (sym first ∙ ap (λ (cs : List Numbered). slice_get cs 0) to.kept) in
    let left : AreListed (chapters_elsewhere places newest.number (map hooks_of to.older)) c.leave_out.new.self.tags =
    subst (λ (n : ℕ). AreListed (chapters_elsewhere places n (map hooks_of to.older)) c.leave_out.new.self.tags) c.number.ensures
    (c.leave_out.ensures.listed (map hooks_of to.older) to.both.hooks) in
    let hooks : AreListed (map hooks_of kept) c.add.new.self.tags =
    subst (λ (cs : List Numbered). AreListed cs c.add.new.self.tags)
    (ap (λ (x : Numbered). x ∷ chapters_elsewhere places newest.number (map hooks_of to.older)) c.hooks_of.ensures ∙ hooks_now places c.requires.some kept c.requires.order c.args.last lists to newest is)
    (c.add.ensures.listed (chapters_elsewhere places newest.number (map hooks_of to.older)) left) in
    let hooks_room_is = c.add.ensures.room ∙ c.leave_out.ensures.room in
    let oldest : ℕ = last_number (take (dense_count places) kept) in
    let last_is : c.last_number-oldest.result ≡ oldest = c.last_number-oldest.ensures ∙ ap last_number c.dense_part-dense.ensures in
    let above : c.args.last ≤ oldest = omega (arith, last_is, c.if-last-oldest.true) in
    let others : List Numbered = chapters_elsewhere places newest.number (take (dense_count places) to.older) in
    let out : AreListed others c.leave_out-then-last-oldest.new.self.tags =
    subst (λ (n : ℕ). AreListed (chapters_elsewhere places n (take (dense_count places) to.older)) c.leave_out-then-last-oldest.new.self.tags) c.number-then-last-oldest.ensures
    (c.leave_out-then-last-oldest.ensures.listed (take (dense_count places) to.older) to.both.dense) in
    let older : AreListed (filter (λ one. nat_le oldest one.number) others) c.leave_out_older.new.self.tags =
    subst (λ (n : ℕ). AreListed (filter (λ one. nat_le n one.number) others) c.leave_out_older.new.self.tags) last_is (c.leave_out_older.ensures.listed others out) in
    let dense_room_is = c.add-then-last-oldest.ensures.room ∙ c.leave_out_older.ensures.room ∙ c.leave_out-then-last-oldest.ensures.room in
    record {
      dense = subst (λ (cs : List Numbered). AreListed cs c.add-then-last-oldest.new.self.tags)
          (dense_now places c.requires.some kept c.requires.order c.args.last lists to newest is above)
          (c.add-then-last-oldest.ensures.listed (filter (λ one. nat_le oldest one.number) others) older);
      hooks = hooks;
      room = record {
        dense = let room = to.both.room.dense in omega (arith, room, dense_room_is);
        hooks = let room = to.both.room.hooks in omega (arith, room, hooks_room_is);
      };
    }

pub returns-else-last-oldest : goal.returns-else-last-oldest
returns-else-last-oldest c =
    let lists : TwoLists = record { dense = c.self.inside.dense; hooks = c.self.inside.hooks } in
    let kept = c.args.kept.now in
    let places = c.args.places in
    let newest : Numbered = c.in-Some.newest.now in
    let to : AreOlder places kept c.args.last lists = subst (λ (l : TwoLists). AreOlder places kept c.args.last l) (sym c.self.view_is) c.requires.older in
    let first : slice_get kept 0 ≡ Some newest = sym c.first.ensures.value ∙ ap option_copied c.in-Some.is in
    let is : newest ≡ to.newest = some_is newest to.newest (sym first ∙ ap (λ (cs : List Numbered). slice_get cs 0) to.kept) in
    let left : AreListed (chapters_elsewhere places newest.number (map hooks_of to.older)) c.leave_out.new.self.tags =
    subst (λ (n : ℕ). AreListed (chapters_elsewhere places n (map hooks_of to.older)) c.leave_out.new.self.tags) c.number.ensures
    (c.leave_out.ensures.listed (map hooks_of to.older) to.both.hooks) in
    let hooks : AreListed (map hooks_of kept) c.add.new.self.tags =
    subst (λ (cs : List Numbered). AreListed cs c.add.new.self.tags)
    (ap (λ (x : Numbered). x ∷ chapters_elsewhere places newest.number (map hooks_of to.older)) c.hooks_of.ensures ∙ hooks_now places c.requires.some kept c.requires.order c.args.last lists to newest is)
    (c.add.ensures.listed (chapters_elsewhere places newest.number (map hooks_of to.older)) left) in
    let hooks_room_is = c.add.ensures.room ∙ c.leave_out.ensures.room in
    let room_is = ap (λ (l : Listed). l.room) c.clear.ensures in
    record {
      dense = subst (λ (cs : List Numbered). AreListed cs c.list_all.new.tags.tags) c.dense_part-dense.ensures c.list_all.ensures.listed;
      hooks = hooks;
      room = record {
        dense = let room = to.both.room.dense in omega (arith, room, room_is, c.list_all.ensures.room);
        hooks = let room = to.both.room.hooks in omega (arith, room, hooks_room_is);
      };
    }
