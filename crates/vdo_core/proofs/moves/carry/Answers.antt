use Rattle.std.proofs.Common.{◌≡◌, ◌<◌, ◌++◌, ◌∙◌, ap, arith, get_or, length, sym}
use Rattle.std.proofs.lemmas.Grind.{common_steps}
use Rattle.core_model.specs.declared.zones.Zone.{Zone}
use Rattle.vdo_core.proofs.MoveLaws.{back_is, carried_down, carried_up, front_is}
use Rattle.vdo_core.proofs.moves.carry.Goals as goal

pub returns-then-from-to : goal.returns-then-from-to
returns-then-from-to c =
    let old = c.args.zones.now.items in
    let front = c.split_at_mut-front.result.0.now in
    let back = c.split_at_mut-front.result.1.now in
    let source : Zone = get_or front c.args.from c.index-front-from.result in
    let target : Zone = get_or back 0 c.index-back-0.result in
    let parts : old ≡ front ++ back = sym c.deref_mut.ensures.value ∙ c.split_at_mut-front.ensures.value in
    let long : length front ≡ c.args.to = c.split_at_mut-front.ensures.front_len in
    let below : c.args.from < c.args.to = c.if-from-to.true in
    let is : source ≡ get_or front c.args.from source = ap (λ (z : Zone). get_or front c.args.from z) c.index-front-from.is in
    let is' : target ≡ get_or back 0 target = ap (λ (z : Zone). get_or back 0 z) c.index-back-0.is in
    let had = front_is old front back c.args.from source parts (omega (arith, long, below)) is in
    let all : length old ≡ c.args.zones.now.len = grind (arith, common_steps) in
    carried_up old front back c.args.zones.now.len c.args.from c.args.to source target c.hand_over.new.self c.hand_over.new.receiver parts long c.requires.target all below is is'
    (c.requires.outbox source had) c.hand_over.ensures.left c.hand_over.ensures.added

pub returns-else-from-to : goal.returns-else-from-to
returns-else-from-to c =
    let old = c.args.zones.now.items in
    let front = c.split_at_mut-front-else-from-to.result.0.now in
    let back = c.split_at_mut-front-else-from-to.result.1.now in
    let source : Zone = get_or back 0 c.index-back-0-else-from-to.result in
    let target : Zone = get_or front c.args.to c.index-front-to.result in
    let parts : old ≡ front ++ back = sym c.deref_mut-else-from-to.ensures.value ∙ c.split_at_mut-front-else-from-to.ensures.value in
    let long : length front ≡ c.args.from = c.split_at_mut-front-else-from-to.ensures.front_len in
    let below : c.args.to < c.args.from = omega (arith, c.if-from-to.false, c.requires.apart) in
    let is : source ≡ get_or back 0 source = ap (λ (z : Zone). get_or back 0 z) c.index-back-0-else-from-to.is in
    let is' : target ≡ get_or front c.args.to target = ap (λ (z : Zone). get_or front c.args.to z) c.index-front-to.is in
    let had = back_is old front back c.args.from source parts long c.requires.source is in
    let all : length old ≡ c.args.zones.now.len = grind (arith, common_steps) in
    carried_down old front back c.args.zones.now.len c.args.from c.args.to source target c.hand_over-else-from-to.new.self c.hand_over-else-from-to.new.receiver parts long c.requires.source all below is is'
    (c.requires.outbox source had) c.hand_over-else-from-to.ensures.left c.hand_over-else-from-to.ensures.added
