-- What follows where the open chapter was closed.
use Rattle.std.specs.Prelude.{ℕ, ◌≡◌, ◌∷◌, Bool, true, false, take, AllPairs}
use Rattle.std.proofs.Common.{sym, ◌∙◌, ap, subst}
use Rattle.std.proofs.lemmas.Bool.{false≢true}
use Rattle.uds_chapters.specs.Chapters.{Numbered}
use Rattle.index_advice.specs.Books.{Book, chapters_elsewhere, number_after}
use Rattle.index_advice.specs.Orders.{IsNewer}
use Rattle.uds_index.specs.Places.{WasClosed}
use Rattle.sparse_index.specs.Orders.{dense_chapters, dense_count}
use Rattle.sparse_index.specs.Keeps.{AreBoth, AreOlder, TwoLists, last_number}

abbrev closed_chapter : Book → Numbered
closed_chapter book = record { number = number_after book.kept; records = book.unclosed }

-- the lists are those of the older chapters
pub closed_older : (was : Bool) (old new : Book) (last : ℕ) (lists : TwoLists) → was ≡ true → WasClosed was old new → AllPairs IsNewer old.kept → last ≡ last_number (dense_chapters old)
    → AreBoth old.places old.kept lists → AreOlder new.places new.kept last lists
closed_older false old new last lists is how order end both = absurd (false≢true is)
closed_older true old new last lists is how order end both = record {
  older = old.kept;
  newest = closed_chapter old;
  kept = how.1 ∙ ap (λ (places : ℕ). closed_chapter old ∷ chapters_elsewhere places (number_after old.kept) old.kept) (sym how.0);
  order = order;
  last = end ∙ ap (λ (places : ℕ). last_number (take (dense_count places) old.kept)) (sym how.0);
  both = subst (λ (places : ℕ). AreBoth places old.kept lists) (sym how.0) both;
}
