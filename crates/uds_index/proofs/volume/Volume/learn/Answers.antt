use Rattle.std.proofs.Common.{◌∙◌, inl, inr, ap, subst}
use Rattle.uds_chapters.specs.declared.entry.Record.{Record}
use Rattle.uds_chapters.specs.declared.added.Added.{Added}
use Rattle.uds_chapters.specs.Chapters.{Adds}
use Rattle.index_advice.specs.Books.{Book, number_after}
use Rattle.uds_index.proofs.BookLaws.{numbered, adds_new, adds_replaced, kept_learnt}
use Rattle.uds_index.proofs.volume.Volume.learn.Goals as goal

pub invariant_of-self : goal.invariant_of-self
invariant_of-self c =
    let v = c.self.inside in
    let book : Book = record { nonce = v.nonce; first = v.first; places = v.places; kept = v.kept.items; unclosed = v.unclosed; due = v.due.items } in
    let one : Record = record { name = c.args.name.now; at = c.args.at } in
    let has = numbered book c.in-Some.number (c.in-Some.ensures.some.0 ∙ ap number_after c.deref.ensures.value) c.in-Some.ensures.some.1 in
    record {
      kept = elim c.in-New.is [
        | inl new ↦ kept_learnt one book c.add.new.self c.self.invariant.kept
            (adds_new one book c.add.new.self has (subst (λ (added : Added). Adds book.unclosed c.add.new.self one added) new c.add.ensures))
        | inr replaced ↦ kept_learnt one book c.add.new.self c.self.invariant.kept
            (adds_replaced one book c.add.new.self has (subst (λ (added : Added). Adds book.unclosed c.add.new.self one added) replaced c.add.ensures))
      ];
      room = c.self.invariant.room;
      room_for_pages = c.self.invariant.room_for_pages;
    }
