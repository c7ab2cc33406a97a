use Rattle.std.proofs.Common.{List, nat_le, filter, sym, rules, subst}
use Rattle.std.proofs.lemmas.Fn.{filter_same}
use Rattle.uds_chapters.specs.Chapters.{Numbered}
use Rattle.uds_index.specs.declared.tags.Tagged.{Tagged}
use Rattle.uds_index.specs.Tags.{Listed, AreListed}
use Rattle.uds_index.proofs.ListLaws.{listed_left}
use Rattle.uds_index.proofs.tags.TagList.leave_out_older.Goals as goal

pub returns-clause-listed : goal.returns-clause-listed
returns-clause-listed c = λ kept listed.
    subst (λ (ts : List Tagged). AreListed (filter (λ (chapter : Numbered). nat_le c.args.number chapter.number) kept) ts)
    (sym (filter_same _ (λ (one : Tagged). nat_le c.args.number one.number) _ (λ x b f' k. search rules) _ _ c.retain.ensures.filtered))
    (listed_left (nat_le c.args.number) kept c.self.inside.tags.items (subst (λ (l : Listed). AreListed kept l.tags) (sym c.self.view_is) listed))
