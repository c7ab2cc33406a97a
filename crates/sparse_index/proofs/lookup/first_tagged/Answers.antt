use Rattle.std.proofs.Common.{◌∙◌, List, map, refl, sym}
use Rattle.uds_index.specs.declared.tags.Tagged.{Tagged}
use Rattle.sparse_index.specs.Finds.{first_by, location_by}
use Rattle.sparse_index.proofs.FoundLaws.{loop_start, loop_found, loop_next, loop_end}
use Rattle.sparse_index.proofs.lookup.first_tagged.Goals as goal

abbrev none : Tagged
none = record { tag = 0; number = 0 }

pub returns-in-Some : goal.returns-in-Some
returns-in-Some c =
    loop_found (λ (ones : List Tagged). first_by c.args.name.now c.args.chapters.now (map (λ one. one.number) ones))
    (λ (one : Tagged). location_by c.args.name.now c.args.chapters.now one.number) refl (λ one ones. refl) c.args.tagged.now c.loop-one.one-index none c.in-Some.at
    c.loop-one-test.true (sym c.location_by.ensures ∙ c.in-Some.is) c.loop-one.invariant

pub returns : goal.returns
returns c =
    loop_end (λ (ones : List Tagged). first_by c.args.name.now c.args.chapters.now (map (λ one. one.number) ones))
    (λ (one : Tagged). location_by c.args.name.now c.args.chapters.now one.number) refl (λ one ones. refl) c.args.tagged.now c.loop-one.one-index c.loop-one-test.false c.loop-one.invariant

pub loop-one-init : goal.loop-one-init
loop-one-init c =
    loop_start (λ (ones : List Tagged). first_by c.args.name.now c.args.chapters.now (map (λ one. one.number) ones))
    (λ (one : Tagged). location_by c.args.name.now c.args.chapters.now one.number) refl (λ one ones. refl) c.args.tagged.now

pub loop-one-preserved : goal.loop-one-preserved
loop-one-preserved c =
    loop_next (λ (ones : List Tagged). first_by c.args.name.now c.args.chapters.now (map (λ one. one.number) ones))
    (λ (one : Tagged). location_by c.args.name.now c.args.chapters.now one.number) refl (λ one ones. refl) c.args.tagged.now c.loop-one.one-index none
    c.loop-one-test.true (sym c.location_by.ensures ∙ c.in_default.is) c.loop-one.invariant
