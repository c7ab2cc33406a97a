use Rattle.std.proofs.Common.{◌≡◌, ◌∙◌, ℕ, List, Some, option_copied, ap, sym, subst, arith}
use Rattle.std.specs.List.{slice_get}
use Rattle.uds_chapters.specs.Chapters.{Numbered}
use Rattle.index_advice.specs.Books.{Book, chapters_elsewhere}
use Rattle.uds_index.specs.Tags.{AreListed, IsListed, IsNewestToList}
use Rattle.uds_index.proofs.BookLaws.{kept_room}
use Rattle.uds_index.proofs.ListLaws.{newest_room, newest_listed}
use Rattle.uds_index.proofs.volume.Volume.list_newest.Goals as goal

pub add-requires-clause-rising : goal.add-requires-clause-rising
add-requires-clause-rising c =
    let v = c.self.inside in
    let book : Book = record { nonce = v.nonce; first = v.first; places = v.places; kept = v.kept.items; unclosed = v.unclosed; due = v.due.items } in
    let to : IsNewestToList book c.args.tags.now = subst (λ (b : Book). IsNewestToList b c.args.tags.now) (sym c.self.view_is) c.requires in
    let is : slice_get book.kept 0 ≡ Some c.in-Some.newest.now =
    ap (λ (cs : List Numbered). slice_get cs 0) (sym c.deref.ensures.value) ∙ sym c.first.ensures.value ∙ ap option_copied c.in-Some.is in
    let left : AreListed (chapters_elsewhere book.places c.in-Some.newest.now.number to.older) c.leave_out.new.self.tags =
    subst (λ (n : ℕ). AreListed (chapters_elsewhere book.places n to.older) c.leave_out.new.self.tags) c.number.ensures (c.leave_out.ensures.listed to.older to.listed) in
    left.rising

pub add-requires-clause-room : goal.add-requires-clause-room
add-requires-clause-room c =
    let v = c.self.inside in
    let book : Book = record { nonce = v.nonce; first = v.first; places = v.places; kept = v.kept.items; unclosed = v.unclosed; due = v.due.items } in
    let to : IsNewestToList book c.args.tags.now = subst (λ (b : Book). IsNewestToList b c.args.tags.now) (sym c.self.view_is) c.requires in
    let is : slice_get book.kept 0 ≡ Some c.in-Some.newest.now =
    ap (λ (cs : List Numbered). slice_get cs 0) (sym c.deref.ensures.value) ∙ sym c.first.ensures.value ∙ ap option_copied c.in-Some.is in
    let left : AreListed (chapters_elsewhere book.places c.in-Some.newest.now.number to.older) c.leave_out.new.self.tags =
    subst (λ (n : ℕ). AreListed (chapters_elsewhere book.places n to.older) c.leave_out.new.self.tags) c.number.ensures (c.leave_out.ensures.listed to.older to.listed) in
    let room = newest_room book c.args.tags.now c.in-Some.newest.now to is c.leave_out.new.self.tags left (kept_room book c.self.invariant.kept) in
    omega (arith, room, c.leave_out.ensures.room)

pub returns : goal.returns
returns c =
    let v = c.self.inside in
    let book : Book = record { nonce = v.nonce; first = v.first; places = v.places; kept = v.kept.items; unclosed = v.unclosed; due = v.due.items } in
    let to : IsNewestToList book c.args.tags.now = subst (λ (b : Book). IsNewestToList b c.args.tags.now) (sym c.self.view_is) c.requires in
    let is : slice_get book.kept 0 ≡ Some c.in-Some.newest.now =
    ap (λ (cs : List Numbered). slice_get cs 0) (sym c.deref.ensures.value) ∙ sym c.first.ensures.value ∙ ap option_copied c.in-Some.is in
    let left : AreListed (chapters_elsewhere book.places c.in-Some.newest.now.number to.older) c.leave_out.new.self.tags =
    subst (λ (n : ℕ). AreListed (chapters_elsewhere book.places n to.older) c.leave_out.new.self.tags) c.number.ensures (c.leave_out.ensures.listed to.older to.listed) in
    subst (λ (b : Book). IsListed b c.add.new.self) c.self.view_is
    (newest_listed book c.args.tags.now c.in-Some.newest.now to is c.add.new.self
    (c.add.ensures.listed (chapters_elsewhere book.places c.in-Some.newest.now.number to.older) left) (sym (c.add.ensures.room ∙ c.leave_out.ensures.room)))
