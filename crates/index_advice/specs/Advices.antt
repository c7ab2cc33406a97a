-- What a list of advice says of a book, and what it leads to.
use Rattle.std.specs.Prelude.{ℕ, ◌≡◌, List, ◌∷◌, None, Some, if◌then◌else◌}
use Rattle.plain_laws.specs.Leads.{LeadsBy}
use Rattle.uds_chapters.specs.Chapters.{Numbered, records_in}
use Rattle.uds_chapters.specs.Pages.{IsPage}
use Rattle.index_advice.specs.declared.advice.Advice.{Advice}
use Rattle.index_advice.specs.declared.advice.Advice.TheVariants.{Looked, Learnt, Due, Finished}
use Rattle.index_advice.specs.Books.{Book, DuePage, chapter_of, newest_record, learnt, finished, block_of}

-- the first page that is to be written was given out, and stands at this block
pub record TakesDue (old new : Book) (at : ℕ) : Type 0 where
  pub page : DuePage
  pub first : old.due ≡ page ∷ new.due
  pub place : at ≡ block_of old page
  pub same : new ≡ record old { due = new.due }

-- One piece of advice. A look found the newest record, or nothing where it failed.
abbrev pub Leads : Book → Advice → Book → Type 0
Leads old (Looked name found failed) new = (found ≡ (if failed then None else newest_record name old)) × (new ≡ old)
Leads old (Learnt name at) new = new ≡ learnt (record { name = name; at = at }) old
Leads old (Due at) new = TakesDue old new at.0
Leads old Finished new = new ≡ finished old

-- these pieces of advice, the newest first, lead from the one to the other
abbrev pub LeadTo : Book → List Advice → Book → Type 0
LeadTo old advice new = LeadsBy (λ one before after. Leads before one after) old advice new

-- the block has the page that is to be written next, with the records that its chapter has
pub record HasDuePage (book : Book) (block : List ℕ) : Type 0 where
  pub page : DuePage
  pub pages : List DuePage
  pub next : book.due ≡ page ∷ pages
  pub chapter : Numbered
  pub kept : chapter_of page.number book.kept ≡ Some chapter
  pub filled : IsPage book.nonce page.number page.page block (records_in page.page chapter.records)
