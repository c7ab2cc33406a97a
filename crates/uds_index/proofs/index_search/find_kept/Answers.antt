use Rattle.std.proofs.Common.{◌≡◌, ◌+◌, ◌∙◌, ◌≤◌, ℕ, suc, None, Some, drop, take, filter, ap, sym, subst, arith, option_copied}
use Rattle.std.specs.Map.{keys_of}
use Rattle.std.proofs.lemmas.Bool.{false≢true}
use Rattle.block_names.specs.Names.{tag_of}
use Rattle.uds_chapters.specs.Chapters.{location_of}
use Rattle.index_advice.specs.Books.{first_location, has_tag}
use Rattle.uds_index.specs.Looks.{NeedsNone}
use Rattle.uds_index.specs.declared.tags.Tagged.{Tagged}
use Rattle.uds_index.proofs.AskLaws.{IsLeft, asks_here, left_all, left_on, none_known}
use Rattle.uds_index.proofs.SearchLaws.{step_is, step_there, search_on, search_found, search_start}
use Rattle.uds_index.proofs.index_search.find_kept.Goals as goal

pub unreachable-requires : goal.unreachable-requires
unreachable-requires c =
    let none : Tagged = record { tag = 0; number = 0 } in
    let few : c.min.result ≤ 4 = omega (arith, c.min.ensures) in
    step_there c.args.name.now c.args.kept.now c.args.tags.now.tags c.with_tag-tagged.result.now c.tag.result c.min.result c.loop-one.one-index none
    c.requires.order c.requires.listed c.with_tag-tagged.ensures c.tag.ensures few c.loop-one-test.true
    (sym c.chapter_of.ensures ∙ ap option_copied c.in_default.is)

pub returns-then-may_read : goal.returns-then-may_read
returns-then-may_read c =
    let none : Tagged = record { tag = 0; number = 0 } in
    let few : c.min.result ≤ 4 = omega (arith, c.min.ensures) in
    let step = step_is c.args.name.now c.args.kept.now c.args.tags.now.tags c.with_tag-tagged.result.now c.tag.result c.min.result c.loop-one.one-index none
    c.requires.order c.requires.listed c.with_tag-tagged.ensures c.tag.ensures few c.loop-one-test.true
    c.in-Some.chapter.now (sym c.chapter_of.ensures ∙ ap option_copied c.in-Some.is) in
    let new = c.may_read.ensures.0 c.if-may_read.true in
    record {
      finds = record { chapter = c.in-Some.chapter.now; one = step.one; page = c.page_of-at.ensures.page; asks = new };
      asks = asks_here c.args.region (keys_of c.args.cache.now.entries) c.args.given.now c.args.name.now (take 4 (filter (has_tag (tag_of c.args.name.now)) c.args.kept.now)) c.loop-one.one-index c.in-Some.chapter.now c.page_of-at.result
          step.here c.page_of-at.ensures.named new c.loop-one.invariant.left;
    }

pub returns-in-Some-location : goal.returns-in-Some-location
returns-in-Some-location c =
    let none : Tagged = record { tag = 0; number = 0 } in
    let few : c.min.result ≤ 4 = omega (arith, c.min.ensures) in
    let step = step_is c.args.name.now c.args.kept.now c.args.tags.now.tags c.with_tag-tagged.result.now c.tag.result c.min.result c.loop-one.one-index none
    c.requires.order c.requires.listed c.with_tag-tagged.ensures c.tag.ensures few c.loop-one-test.true
    c.in-Some.chapter.now (sym c.chapter_of.ensures ∙ ap option_copied c.in-Some.is) in
    let found : location_of c.args.name.now c.in-Some.chapter.now.records ≡ Some c.in-Some-location.at =
    ap (location_of c.args.name.now) (sym c.records.ensures.value) ∙ sym c.location.ensures ∙ c.in-Some-location.is in
    let needs : NeedsNone c.args.region (keys_of c.args.cache.now.entries) c.args.given.now c.args.name.now c.in-Some.chapter.now
    = (c.page_of-at.result, c.page_of-at.ensures.named, λ new. absurd (false≢true (sym c.if-may_read.false ∙ c.may_read.ensures.1 new))) in
    record {
      finds = search_found c.args.name.now (take 4 (filter (has_tag (tag_of c.args.name.now)) c.args.kept.now)) c.loop-one.one-index c.in-Some.chapter.now c.in-Some-location.at step.here found
          c.loop-one.invariant.same;
      asks = none_known c.args.region (keys_of c.args.cache.now.entries) c.args.given.now c.args.name.now (take 4 (filter (has_tag (tag_of c.args.name.now)) c.args.kept.now)) c.loop-one.one-index c.in-Some.chapter.now c.in-Some-location.at
          step.here needs found c.loop-one.invariant.left;
    }

pub loop-one-preserved : goal.loop-one-preserved
loop-one-preserved c =
    let none : Tagged = record { tag = 0; number = 0 } in
    let few : c.min.result ≤ 4 = omega (arith, c.min.ensures) in
    let step = step_is c.args.name.now c.args.kept.now c.args.tags.now.tags c.with_tag-tagged.result.now c.tag.result c.min.result c.loop-one.one-index none
    c.requires.order c.requires.listed c.with_tag-tagged.ensures c.tag.ensures few c.loop-one-test.true
    c.in-Some.chapter.now (sym c.chapter_of.ensures ∙ ap option_copied c.in-Some.is) in
    let nothing : location_of c.args.name.now c.in-Some.chapter.now.records ≡ None =
    ap (location_of c.args.name.now) (sym c.records.ensures.value) ∙ sym c.location.ensures ∙ c.in_default-location.is in
    let next : suc c.loop-one.one-index ≡ c.loop-one.one-index + 1 = omega arith in
    let needs : NeedsNone c.args.region (keys_of c.args.cache.now.entries) c.args.given.now c.args.name.now c.in-Some.chapter.now
    = (c.page_of-at.result, c.page_of-at.ensures.named, λ new. absurd (false≢true (sym c.if-may_read.false ∙ c.may_read.ensures.1 new))) in
    record {
      same = search_on c.args.name.now (take 4 (filter (has_tag (tag_of c.args.name.now)) c.args.kept.now)) c.loop-one.one-index c.in-Some.chapter.now step.here nothing
          c.loop-one.invariant.same
          ∙ ap (λ (n : ℕ). first_location c.args.name.now (drop n (take 4 (filter (has_tag (tag_of c.args.name.now)) c.args.kept.now)))) next;
      left = subst (λ (n : ℕ). IsLeft c.args.region (keys_of c.args.cache.now.entries) c.args.given.now c.args.name.now (take 4 (filter (has_tag (tag_of c.args.name.now)) c.args.kept.now))
          (drop n (take 4 (filter (has_tag (tag_of c.args.name.now)) c.args.kept.now)))) next
          (left_on c.args.region (keys_of c.args.cache.now.entries) c.args.given.now c.args.name.now (take 4 (filter (has_tag (tag_of c.args.name.now)) c.args.kept.now)) c.loop-one.one-index c.in-Some.chapter.now
          step.here needs nothing c.loop-one.invariant.left);
    }

pub loop-one-init : goal.loop-one-init
loop-one-init c = record {
  same = search_start c.args.name.now (take 4 (filter (has_tag (tag_of c.args.name.now)) c.args.kept.now));
  left = left_all c.args.region (keys_of c.args.cache.now.entries) c.args.given.now c.args.name.now (take 4 (filter (has_tag (tag_of c.args.name.now)) c.args.kept.now));
}
