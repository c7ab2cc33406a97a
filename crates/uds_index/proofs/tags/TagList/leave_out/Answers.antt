use Rattle.std.proofs.Common.{not, sym, rules, subst}
use Rattle.std.proofs.lemmas.Fn.{filter_same}
use Rattle.index_advice.specs.Books.{is_same_place}
use Rattle.uds_index.specs.declared.tags.Tagged.{Tagged}
use Rattle.uds_index.specs.Tags.{Listed, AreListed}
use Rattle.uds_index.proofs.ListLaws.{listed_elsewhere}
use Rattle.uds_index.proofs.tags.TagList.leave_out.Goals as goal

pub returns-clause-listed : goal.returns-clause-listed
returns-clause-listed c = λ kept listed.
    listed_elsewhere c.args.places c.args.number kept c.self.inside.tags.items c.retain.new.self.items
    (filter_same _ (λ (one : Tagged). not (is_same_place c.args.places one.number c.args.number)) _ (λ x b f' k. search rules) _ _ c.retain.ensures.filtered)
    (subst (λ (l : Listed). AreListed kept l.tags) (sym c.self.view_is) listed)
