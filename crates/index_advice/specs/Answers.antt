-- What an advisor that tells its book answers.
use Rattle.std.specs.Prelude.{ℕ, ◌≡◌, ◌⊎◌, ◌<◌, ◌≤◌, ◌+◌, ◌*◌, Bool, true, false, List, None, Some}
use Rattle.index_advice.specs.declared.look.Look.{Look}
use Rattle.index_advice.specs.declared.look.Look.TheVariants.{Known, Nothing, Read}
use Rattle.index_advice.specs.Books.{Book, newest_record}

-- A look ends with the newest record, or with nothing where there is none or a page couldn't be read; and the next look
-- begins anew. Until then it asks for blocks of the index.
abbrev pub Looks : List ℕ → Book → Bool → Bool → Look → Type 0
Looks name book unread after (Known at) = (newest_record name book ≡ Some at) × (unread ≡ false) × (after ≡ false)
Looks name book unread after Nothing = ((newest_record name book ≡ None) ⊎ (unread ≡ true)) × (after ≡ false)
Looks name book unread after (Read at) = (book.first ≤ at.0) × (at.0 < book.first + 4 * book.places) × (after ≡ unread)

-- only a page that couldn't be read makes a look fail
abbrev pub Reads : Bool → Bool → Bool → Type 0
Reads failed unread after = (after ≡ unread) ⊎ ((failed ≡ true) × (after ≡ true))
