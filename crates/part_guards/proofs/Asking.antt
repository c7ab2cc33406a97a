-- A look asks for the page of a chapter with the name's tag, where nothing is cached and nothing was given.
use Rattle.std.proofs.Common.{ℕ, ◌≡◌, true, false, Bool, cond, List, [], ◌∷◌, take, filter, refl, ◌∙◌, ap, subst, arith}
use Rattle.blk_base.specs.declared.place.Pbn.{Pbn}
use Rattle.block_names.specs.Names.{tag_of}
use Rattle.index_advice.specs.Books.{has_tag}
use Rattle.index_advice.specs.declared.look.Look.{Look}
use Rattle.index_advice.specs.declared.look.Look.TheVariants.{Known, Nothing, Read}
use Rattle.uds_chapters.specs.Chapters.{Numbered}
use Rattle.uds_index.specs.Looks.{Asks, Index, IsNew, NoneToAsk, chapters_for}

nothing_known : (first at : ℕ) → IsNew first [] [] at
nothing_known first at = record { uncached = λ there. absurd (omega (arith, there.1)); new = λ there. absurd (omega (arith, there.1)); few_of_chapter = omega arith; few = omega arith }

not_none : (first places : ℕ) (name : List ℕ) (chapter : Numbered) (chapters : List Numbered) (cached given : List ℕ) → chapters ≡ chapter ∷ [] → cached ≡ [] → given ≡ []
    → NoneToAsk (record { first = first; places = places }) cached given name chapters → ⊥
not_none first places name chapter chapters cached given one no_cached no_given none =
    let of_one = subst (λ (xs : List Numbered). NoneToAsk (record { first = first; places = places }) cached given name xs) one none in
    let uncached = subst (λ (xs : List ℕ). NoneToAsk (record { first = first; places = places }) xs given name (chapter ∷ [])) no_cached of_one in
    let ungiven = subst (λ (xs : List ℕ). NoneToAsk (record { first = first; places = places }) [] xs name (chapter ∷ [])) no_given uncached in
    ungiven.0.2 (nothing_known first ungiven.0.0)

one_chapter : (name : List ℕ) (index : Index) (chapter : Numbered) → index.book.kept ≡ chapter ∷ [] → has_tag (tag_of name) chapter ≡ true
    → chapters_for name index.book ≡ chapter ∷ []
one_chapter name index chapter kept tagged =
    ap (λ (xs : List Numbered). take 4 (filter (has_tag (tag_of name)) xs)) kept ∙ ap (λ (b : Bool). take 4 (cond b (chapter ∷ []) [])) tagged

pub asks_first : (name : List ℕ) (index : Index) (look : Look) (chapter : Numbered) → index.book.kept ≡ chapter ∷ [] → has_tag (tag_of name) chapter ≡ true
    → index.book.unclosed ≡ [] → index.cached ≡ [] → index.given ≡ [] → index.unread ≡ false → Asks name index look → (at : Pbn) × (look ≡ Read at)
asks_first name index (Read at) chapter kept tagged open_is cached given read asks = (at, refl)
asks_first name index (Known at) chapter kept tagged open_is cached given read asks =
    absurd (not_none index.book.first index.book.places name chapter (chapters_for name index.book) index.cached index.given (one_chapter name index chapter kept tagged) cached given (asks read (rw open_is refl)))
asks_first name index Nothing chapter kept tagged open_is cached given read asks =
    absurd (not_none index.book.first index.book.places name chapter (chapters_for name index.book) index.cached index.given (one_chapter name index chapter kept tagged) cached given (asks read (rw open_is refl)))
