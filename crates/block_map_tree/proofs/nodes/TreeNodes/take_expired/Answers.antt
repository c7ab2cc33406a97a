use Rattle.std.proofs.Common.{refl}
use Rattle.block_map_tree.proofs.StepLaws.{handed_form, handed_there, expires}
use Rattle.block_map_tree.proofs.nodes.TreeNodes.take_expired.Goals as goal

pub invariant_of-self-2 : goal.invariant_of-self-2
invariant_of-self-2 c = handed_form (record { forest = c.self.inside.forest; pages = c.self.inside.pages.items; dirty_points = c.self.inside.dirty_points }) c.take_expired.new.self c.args.point _ c.self.invariant c.in_ok-number.ensures.some

pub unreachable-requires : goal.unreachable-requires
unreachable-requires c =
    handed_there (record { forest = c.self.inside.forest; pages = c.self.inside.pages.items; dirty_points = c.self.inside.dirty_points }) c.take_expired.new.self c.args.point _ c.page_numbered-page.result
    c.self.invariant c.in_ok-number.ensures.some c.page_numbered-page.ensures.inner c.page_numbered-page.ensures.number c.in_default.ensures.none

pub invariant_of-self-3 : goal.invariant_of-self-3
invariant_of-self-3 c = handed_form (record { forest = c.self.inside.forest; pages = c.self.inside.pages.items; dirty_points = c.self.inside.dirty_points }) c.take_expired.new.self c.args.point _ c.self.invariant c.in_ok-number.ensures.some

pub returns-clause-some : goal.returns-clause-some
returns-clause-some c =
    expires c.args.self.now (record { forest = c.self.inside.forest; pages = c.self.inside.pages.items; dirty_points = c.self.inside.dirty_points }) c.take_expired.new.self _ c.page_numbered-page.result c.args.point _ _
    c.self.view_is c.self.invariant c.in_ok-number.ensures.some c.page_numbered-page.ensures.inner c.page_numbered-page.ensures.number c.in-Some.ensures.some refl refl
    c.index.ensures c.copy_from.ensures
