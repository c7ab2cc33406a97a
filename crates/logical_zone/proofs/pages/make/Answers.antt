use Rattle.std.proofs.Common.{sym, ◌∙◌, refl, rules}
use Rattle.core_model.specs.LogicalRules.LogicalServes.{is_dropped, waits, makes_page}
use Rattle.logical_zone.proofs.pages.make.Goals as goal

pub returns-then-is_unlinkable : goal.returns-then-is_unlinkable
returns-then-is_unlinkable c = is_dropped c.args.page c.requires.phase c.requires.path c.requires.lacks (sym c.is_unlinkable.ensures ∙ c.if-is_unlinkable.true) (search rules) refl (search rules)

pub returns-then-is_being_made : goal.returns-then-is_being_made
returns-then-is_being_made c =
    waits c.args.page c.requires.phase c.requires.path c.requires.lacks (sym c.is_unlinkable.ensures ∙ c.if-is_unlinkable.false) (sym c.is_being_made.ensures ∙ c.if-is_being_made.true) (search rules) refl (search rules)

pub returns-else-is_being_made : goal.returns-else-is_being_made
returns-else-is_being_made c =
    makes_page c.args.page c.requires.phase c.requires.path c.requires.lacks (sym c.is_unlinkable.ensures ∙ c.if-is_unlinkable.false) (sym c.is_being_made.ensures ∙ c.if-is_being_made.false) (search rules) refl (search rules)
