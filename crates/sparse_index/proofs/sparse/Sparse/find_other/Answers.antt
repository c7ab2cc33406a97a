use Rattle.std.proofs.Common.{◌≡◌, ◌∙◌, ◌*◌, ◌+◌, ◌%◌, ℕ, List, Some, length, ap, sym, subst, arith}
use Rattle.std.proofs.lemmas.Bool.{le-leb, lt-leb}
use Rattle.uds_chapters.specs.Chapters.{Numbered, location_of}
use Rattle.index_advice.specs.Books.{first_location}
use Rattle.index_advice.specs.Kept.{known}
use Rattle.uds_index.specs.declared.index_search.Region.{Region}
use Rattle.sparse_index.specs.declared.sparse.Found.{Found}
use Rattle.sparse_index.specs.Orders.{to_read}
use Rattle.sparse_index.specs.Finds.{FindsOther, location_at, location_by}
use Rattle.sparse_index.specs.Lookups.{SparseIndex, blocks_of, first_missing, four_from}
use Rattle.sparse_index.proofs.LookLaws.{IsReadNext, other_asks, other_full, other_none, other_whole, read_next}
use Rattle.sparse_index.proofs.sparse.Sparse.find_other.Goals as goal

pub returns-in_default : goal.returns-in_default
returns-in_default c =
    let index = c.args.self.now in
    let name = c.args.name.now in
    let all = to_read name index.cached index.book in
    subst (λ (f : Found). FindsOther index all (first_location name all) f.look f.used) (sym c.answer_of.ensures)
    (other_none index name all (sym c.other_chapter.ensures ∙ c.in_default.is))

pub returns-in-None : goal.returns-in-None
returns-in-None c =
    let index = c.args.self.now in
    let name = c.args.name.now in
    let v = c.self.inside.volume in
    let all = to_read name index.cached index.book in
    let number = c.in-Some.number in
    let next = read_next name index.cached index.book number c.requires.kept.order.newest_first (sym c.other_chapter.ensures ∙ c.in-Some.is) in
    let chapter : Numbered = next.0 in
    let at : IsReadNext name index.cached index.book number chapter = next.1 in
    let of : c.location_by-location.result ≡ location_of name chapter.records =
    c.location_by-location.ensures ∙ ap (λ (cs : List Numbered). location_by name cs number) c.requires.sparse ∙ ap (location_at name) at.own in
    let is : c.first_missing-missing.result ≡ first_missing index.given (blocks_of index.book chapter) =
    c.first_missing-missing.ensures
    ∙ ap (λ (r : Region). first_missing c.as_slice.result.now (four_from (r.first + 4 * (number % r.places)))) c.region.ensures
    ∙ ap (λ (ns : List ℕ). first_missing ns (four_from (v.first + 4 * (number % v.places)))) c.as_slice.ensures.value
    ∙ ap (λ (n : ℕ). first_missing c.self.inside.given.items (four_from (v.first + 4 * (n % v.places)))) (sym at.number_is)
    ∙ ap (λ (i : SparseIndex). first_missing i.given (blocks_of i.book chapter)) c.self.view_is in
    subst (λ (f : Found). FindsOther index all (first_location name all) f.look f.used) (sym c.answer_of-in-None.ensures)
    (subst (λ (n : ℕ). FindsOther index all (first_location name all) (known c.location_by-location.result) (Some n)) at.number_is
    (other_whole index name chapter all at.one c.location_by-location.result of c.first_missing-missing.result is c.in-None.is))

pub returns-in-Some-2 : goal.returns-in-Some-2
returns-in-Some-2 c =
    let index = c.args.self.now in
    let name = c.args.name.now in
    let v = c.self.inside.volume in
    let all = to_read name index.cached index.book in
    let number = c.in-Some.number in
    let next = read_next name index.cached index.book number c.requires.kept.order.newest_first (sym c.other_chapter.ensures ∙ c.in-Some.is) in
    let chapter : Numbered = next.0 in
    let at : IsReadNext name index.cached index.book number chapter = next.1 in
    let of : c.location_by-location.result ≡ location_of name chapter.records =
    c.location_by-location.ensures ∙ ap (λ (cs : List Numbered). location_by name cs number) c.requires.sparse ∙ ap (location_at name) at.own in
    let is : c.first_missing-missing.result ≡ first_missing index.given (blocks_of index.book chapter) =
    c.first_missing-missing.ensures
    ∙ ap (λ (r : Region). first_missing c.as_slice.result.now (four_from (r.first + 4 * (number % r.places)))) c.region.ensures
    ∙ ap (λ (ns : List ℕ). first_missing ns (four_from (v.first + 4 * (number % v.places)))) c.as_slice.ensures.value
    ∙ ap (λ (n : ℕ). first_missing c.self.inside.given.items (four_from (v.first + 4 * (n % v.places)))) (sym at.number_is)
    ∙ ap (λ (i : SparseIndex). first_missing i.given (blocks_of i.book chapter)) c.self.view_is in
    let count : c.len.result ≡ length index.given = c.len.ensures.value ∙ ap (λ (i : SparseIndex). length i.given) c.self.view_is in
    subst (λ (f : Found). FindsOther index all (first_location name all) f.look f.used) (sym c.answer_of-in-Some-2.ensures)
    (other_full index name chapter all at.one c.location_by-location.result of c.first_missing-missing.result is c.in-Some-2.field-0 c.in-Some-2.is
    (le-leb 4 (length index.given) (omega (arith, count, c.if-len-lt-ASKED.false))))

pub returns-in-Some-missing : goal.returns-in-Some-missing
returns-in-Some-missing c =
    let index = c.args.self.now in
    let name = c.args.name.now in
    let v = c.self.inside.volume in
    let all = to_read name index.cached index.book in
    let number = c.in-Some.number in
    let next = read_next name index.cached index.book number c.requires.kept.order.newest_first (sym c.other_chapter.ensures ∙ c.in-Some.is) in
    let chapter : Numbered = next.0 in
    let at : IsReadNext name index.cached index.book number chapter = next.1 in
    let of : c.location_by-location.result ≡ location_of name chapter.records =
    c.location_by-location.ensures ∙ ap (λ (cs : List Numbered). location_by name cs number) c.requires.sparse ∙ ap (location_at name) at.own in
    let is : c.first_missing-missing.result ≡ first_missing index.given (blocks_of index.book chapter) =
    c.first_missing-missing.ensures
    ∙ ap (λ (r : Region). first_missing c.as_slice.result.now (four_from (r.first + 4 * (number % r.places)))) c.region.ensures
    ∙ ap (λ (ns : List ℕ). first_missing ns (four_from (v.first + 4 * (number % v.places)))) c.as_slice.ensures.value
    ∙ ap (λ (n : ℕ). first_missing c.self.inside.given.items (four_from (v.first + 4 * (n % v.places)))) (sym at.number_is)
    ∙ ap (λ (i : SparseIndex). first_missing i.given (blocks_of i.book chapter)) c.self.view_is in
    let count : c.len.result ≡ length index.given = c.len.ensures.value ∙ ap (λ (i : SparseIndex). length i.given) c.self.view_is in
    other_asks index name chapter all at.one c.location_by-location.result of c.first_missing-missing.result is (record { 0 = c.in-Some-missing.at }) c.in-Some-missing.is
    (lt-leb 4 (length index.given) (omega (arith, count, c.if-len-lt-ASKED.true)))
