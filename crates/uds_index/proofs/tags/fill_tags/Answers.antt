use Rattle.std.proofs.Common.{◌≡◌, ◌∙◌, ℕ, List, map, ap, subst, arith}
use Rattle.std.specs.List.Sorted.{IsPermutation}
use Rattle.std.proofs.lemmas.List.{take_all}
use Rattle.std.proofs.lemmas.List.Filters.{dedup_is}
use Rattle.block_names.specs.Names.{tag_of}
use Rattle.uds_chapters.specs.declared.entry.Record.{Record}
use Rattle.uds_index.proofs.ListLaws.{tags_are}
use Rattle.uds_index.proofs.tags.fill_tags.Goals as goal

pub returns-clause-own : goal.returns-clause-own
returns-clause-own c =
    let records = c.records-record-items.ensures in
    let all : c.loop-record.own.items ≡ map (λ one. tag_of one.name) c.args.chapter.now.records =
    c.loop-record.invariant.own ∙ ap (map (λ (one : Record). tag_of one.name)) (take_all c.loop-record.record-index _ c.loop-record-test.false ∙ records.value) in
    let sizes = c.sort_unstable.ensures.len in
    let less = c.dedup.ensures.bound in
    tags_are c.args.chapter.now c.sort_unstable.new.self.items c.dedup.new.self.items records.few
    (subst (λ (tags : List ℕ). IsPermutation tags c.sort_unstable.new.self.items) all c.sort_unstable.ensures.permutation)
    c.sort_unstable.ensures.sorted (dedup_is _ _ _ c.dedup.ensures.filtered)
    (let before = c.sort_unstable.new.self.ok in let after = c.dedup.new.self.ok in omega (arith, less, before, after))
