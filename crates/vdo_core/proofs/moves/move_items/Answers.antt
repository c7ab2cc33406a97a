use Rattle.std.proofs.Common.{◌≡◌, ◌<◌, ◌∙◌, Some, length, slice_get, refl, sym, subst}
use Rattle.std.proofs.lemmas.Option.{same_Some, slice_get_within}
use Rattle.core_model.specs.declared.zones.Zone.{Zone}
use Rattle.vdo_core.proofs.MoveLaws.{has_lane, moves_something, short_lane}
use Rattle.vdo_core.proofs.moves.move_items.Goals as goal

pub returns : goal.returns
returns c = (rw (← c.zones.view_is) c.carry.ensures, moves_something c.args.zones.now c.args.from c.args.to (c.can_move.ensures.yes c.if-not-can_move.false))

pub returns-then-not-can_move : goal.returns-then-not-can_move
returns-then-not-can_move c = (c.can_move.ensures.no c.if-not-can_move.true, refl)

pub carry-requires-clause-outbox : goal.carry-requires-clause-outbox
carry-requires-clause-outbox c = λ source got.
    (let some = c.can_move.ensures.yes c.if-not-can_move.false in
    let there : slice_get c.args.zones.now c.args.from ≡ Some source = cc (c.zones.view_is, got) in
    subst (λ (z : Zone). c.args.to < length z.ports.outboxes) (same_Some _ _ (sym some.had_source ∙ there)) (has_lane some.source.ports.outboxes c.args.to some.posted))

pub carry-requires-clause-sent : goal.carry-requires-clause-sent
carry-requires-clause-sent c = λ source lane got out.
    (let there : slice_get c.args.zones.now c.args.from ≡ Some source = cc (c.zones.view_is, got) in
    short_lane source.ports.outboxes c.args.to lane (c.requires.within c.args.from source there).outboxes out)

pub carry-requires-clause-there : goal.carry-requires-clause-there
carry-requires-clause-there c = λ target got.
    (let there : slice_get c.args.zones.now c.args.to ≡ Some target = cc (c.zones.view_is, got) in
    (c.requires.within c.args.to target there).inbox)

pub carry-requires-clause-source : goal.carry-requires-clause-source
carry-requires-clause-source c =
    let some = c.can_move.ensures.yes c.if-not-can_move.false in
    let there : slice_get c.zones.inside.zones.items c.args.from ≡ Some some.source = cc (c.zones.view_is, some.had_source) in
    slice_get_within c.zones.inside.zones.items c.args.from some.source there

pub carry-requires-clause-target : goal.carry-requires-clause-target
carry-requires-clause-target c =
    let some = c.can_move.ensures.yes c.if-not-can_move.false in
    let there : slice_get c.zones.inside.zones.items c.args.to ≡ Some some.target = cc (c.zones.view_is, some.had_target) in
    slice_get_within c.zones.inside.zones.items c.args.to some.target there
