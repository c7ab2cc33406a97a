use Rattle.std.proofs.Common.{◌≡◌, ◌∙◌, ◌&&◌, ℕ, List, Option, None, Some, drop, is_some, AllPairs, ap, sym, subst}
use Rattle.std.specs.List.{find}
use Rattle.std.specs.Option.{option_map, option_or}
use Rattle.blk_base.specs.declared.place.Pbn.{Pbn}
use Rattle.uds_chapters.specs.Chapters.{Numbered, location_of}
use Rattle.index_advice.specs.Books.{first_location}
use Rattle.index_advice.specs.Orders.{IsNewer}
use Rattle.uds_index.specs.declared.index_search.Region.{Region}
use Rattle.sparse_index.specs.Orders.{cached_in, dense_count, dense_with, is_among, sparse_chapters}
use Rattle.sparse_index.specs.Finds.{IsFound, location_by}
use Rattle.sparse_index.specs.Lookups.{SparseIndex, number_with}
use Rattle.sparse_index.proofs.LookLaws.{cached_none, cached_number, cached_says, finds_cached, finds_early, finds_later}
use Rattle.sparse_index.proofs.sparse.Sparse.find.Goals as goal

pub returns-in-Some : goal.returns-in-Some
returns-in-Some c =
    let index = c.args.self.now in
    let name = c.args.name.now in
    let open_is : c.open_location.result ≡ location_of name index.book.unclosed = c.open_location.ensures ∙ ap (λ (i : SparseIndex). location_of name i.book.unclosed) c.self.view_is in
    subst (IsFound name index) (sym c.known.ensures)
    (finds_early name index c.in-Some.at (ap (λ (o : Option Pbn). option_or o (first_location name (dense_with name index.book))) (sym open_is ∙ c.in-Some.is)))

pub returns-in-Some-find_dense : goal.returns-in-Some-find_dense
returns-in-Some-find_dense c =
    let index = c.args.self.now in
    let name = c.args.name.now in
    let open_is : c.open_location.result ≡ location_of name index.book.unclosed = c.open_location.ensures ∙ ap (λ (i : SparseIndex). location_of name i.book.unclosed) c.self.view_is in
    let dense_is : c.find_dense.result ≡ first_location name (dense_with name index.book) = c.find_dense.ensures in
    subst (IsFound name index) (sym c.known-in-Some-find_dense.ensures)
    (finds_early name index c.in-Some-find_dense.at
    (ap (λ (o : Option Pbn). option_or o (first_location name (dense_with name index.book))) (sym open_is ∙ c.in_default.is) ∙ sym dense_is ∙ c.in-Some-find_dense.is))

pub returns-in_default-newest_among : goal.returns-in_default-newest_among
returns-in_default-newest_among c =
    let index = c.args.self.now in
    let name = c.args.name.now in
    let open_is : c.open_location.result ≡ location_of name index.book.unclosed = c.open_location.ensures ∙ ap (λ (i : SparseIndex). location_of name i.book.unclosed) c.self.view_is in
    let dense_is : c.find_dense.result ≡ first_location name (dense_with name index.book) = c.find_dense.ensures in
    let early : option_or (location_of name index.book.unclosed) (first_location name (dense_with name index.book)) ≡ None =
    ap (λ (o : Option Pbn). option_or o (first_location name (dense_with name index.book))) (sym open_is ∙ c.in_default.is) ∙ sym dense_is ∙ c.in_default-find_dense.is in
    let sparse : c.sparse_part-sparse.result.now ≡ sparse_chapters index.book =
    c.sparse_part-sparse.ensures ∙ ap (λ (r : Region). drop (dense_count r.places) c.kept-kept.result.now) c.region-places.ensures
    ∙ ap (drop (dense_count c.self.inside.volume.places)) c.kept-kept.ensures.value ∙ ap (λ (i : SparseIndex). sparse_chapters i.book) c.self.view_is in
    let numbers : c.numbers.result.now ≡ index.cached = c.numbers.ensures ∙ ap (λ (i : SparseIndex). i.cached) c.self.view_is in
    let found : c.newest_among.result ≡ number_with name (cached_in index.cached index.book) =
    c.newest_among.ensures
    ∙ ap (λ (ns : List ℕ). option_map (λ chapter. chapter.number) (find (λ chapter. is_among ns chapter && is_some (location_of name chapter.records)) c.sparse_part-sparse.result.now)) numbers
    ∙ ap (λ (cs : List Numbered). option_map (λ chapter. chapter.number) (find (λ chapter. is_among index.cached chapter && is_some (location_of name chapter.records)) cs)) sparse
    ∙ cached_number name index in
    let none : number_with name (cached_in index.cached index.book) ≡ None = sym found ∙ c.in_default-newest_among.is in
    finds_later name index c.find_other.result.look c.find_other.result.used early (cached_none name index none) none c.find_other.ensures

pub returns : goal.returns
returns c =
    let index = c.args.self.now in
    let name = c.args.name.now in
    let open_is : c.open_location.result ≡ location_of name index.book.unclosed = c.open_location.ensures ∙ ap (λ (i : SparseIndex). location_of name i.book.unclosed) c.self.view_is in
    let dense_is : c.find_dense.result ≡ first_location name (dense_with name index.book) = c.find_dense.ensures in
    let early : option_or (location_of name index.book.unclosed) (first_location name (dense_with name index.book)) ≡ None =
    ap (λ (o : Option Pbn). option_or o (first_location name (dense_with name index.book))) (sym open_is ∙ c.in_default.is) ∙ sym dense_is ∙ c.in_default-find_dense.is in
    let sparse : c.sparse_part-sparse.result.now ≡ sparse_chapters index.book =
    c.sparse_part-sparse.ensures ∙ ap (λ (r : Region). drop (dense_count r.places) c.kept-kept.result.now) c.region-places.ensures
    ∙ ap (drop (dense_count c.self.inside.volume.places)) c.kept-kept.ensures.value ∙ ap (λ (i : SparseIndex). sparse_chapters i.book) c.self.view_is in
    let numbers : c.numbers.result.now ≡ index.cached = c.numbers.ensures ∙ ap (λ (i : SparseIndex). i.cached) c.self.view_is in
    let found : c.newest_among.result ≡ number_with name (cached_in index.cached index.book) =
    c.newest_among.ensures
    ∙ ap (λ (ns : List ℕ). option_map (λ chapter. chapter.number) (find (λ chapter. is_among ns chapter && is_some (location_of name chapter.records)) c.sparse_part-sparse.result.now)) numbers
    ∙ ap (λ (cs : List Numbered). option_map (λ chapter. chapter.number) (find (λ chapter. is_among index.cached chapter && is_some (location_of name chapter.records)) cs)) sparse
    ∙ cached_number name index in
    let number = c.in-Some-newest_among.number in
    let one : number_with name (cached_in index.cached index.book) ≡ Some number = sym found ∙ c.in-Some-newest_among.is in
    let newest : AllPairs IsNewer index.book.kept =
    subst (λ (i : SparseIndex). AllPairs IsNewer i.book.kept) c.self.view_is c.kept-kept.ensures.order.order.newest_first in
    let says = cached_says name index number newest one in
    let here : c.location_by.result ≡ location_by name (sparse_chapters index.book) number =
    c.location_by.ensures ∙ ap (λ (cs : List Numbered). location_by name cs number) sparse in
    subst (IsFound name index) (sym c.answer_of.ensures)
    (finds_cached name index c.location_by.result number early (here ∙ says.0) (ap is_some here ∙ says.1) one)
