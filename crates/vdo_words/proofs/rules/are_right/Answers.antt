use Rattle.std.proofs.Common.{◌∙◌, ap, map, string_bytes}
use Rattle.std.specs.Option.{is_none}
use Rattle.vdo_words.specs.Given.{given}
use Rattle.vdo_words.proofs.RefusedLaws.{none_changed, right_where_none_is_wrong}
use Rattle.vdo_words.proofs.rules.are_right.Goals as goal

pub returns : goal.returns
returns c =
    none_changed _ c.first_wrong.result c.is_none.result c.is_none.ensures ∙ ap is_none c.first_wrong.ensures
    ∙ right_where_none_is_wrong c.args.names.now (given (map string_bytes c.args.words.now))
