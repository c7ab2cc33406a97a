-- What of a book is in memory: there is room for all that later calls keep.
use Rattle.std.specs.Prelude.{◌≡◌, ◌+◌, ◌*◌, ◌<◌, ◌^◌, Bool, true, false}
use Rattle.index_advice.specs.Books.{Book, closed}
use Rattle.index_advice.specs.Orders.{IsInOrder}
use Rattle.uds_index.specs.Rooms.{FewAtPlaces, place_of_chapter, place_of_page}

-- a book in order, whose index blocks have numbers, with at most four chapters and four due pages for a place
pub record IsKept (book : Book) : Type 0 where
  pub some : 0 < book.places
  pub blocks : book.first + 4 * book.places < 2 ^ 32
  pub order : IsInOrder book
  pub chapters : FewAtPlaces (place_of_chapter book.places) book.kept
  pub pages : FewAtPlaces (place_of_page book.places) book.due

-- the open chapter was closed, and is kept in place of what stood in its index blocks; or the same chapters are kept
abbrev pub WasClosed : Bool → Book → Book → Type 0
WasClosed true old new = (new.places ≡ old.places) × (new.kept ≡ (closed old).kept)
WasClosed false old new = (new.places ≡ old.places) × (new.kept ≡ old.kept)
