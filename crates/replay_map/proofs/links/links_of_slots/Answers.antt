use Rattle.std.proofs.Common.{◌≡◌, ◌*◌, ◌∙◌, sym, subst, ap, arith, ℕ, List}
use Rattle.blk_base.specs.declared.sizes.TheConstants.{PAGE_SLOTS}
use Rattle.replay_map.specs.Forms.{links_in}
use Rattle.replay_map.specs.Links.{AreOfSlots}
use Rattle.replay_map.specs.declared.links.Link.{Link}
use Rattle.replay_map.proofs.FormLaws.{links_are}
use Rattle.replay_map.proofs.links.links_of_slots.Goals as goal

pub returns-clause-exact : goal.returns-clause-exact
returns-clause-exact c =
    let inside = c.loop-run.auto.run-end in
    let ended = c.loop-run-test.false in
    let all : 116 * c.loop-run.run ≡ PAGE_SLOTS = omega (arith, inside, ended) in
    c.loop-run.invariant ∙ ap (λ (n : ℕ). links_in c.args.page c.args.mappings.now n) all

pub returns-clause-of_slots : goal.returns-clause-of_slots
returns-clause-of_slots c =
    let inside = c.loop-run.auto.run-end in
    let ended = c.loop-run-test.false in
    let all : 116 * c.loop-run.run ≡ PAGE_SLOTS = omega (arith, inside, ended) in
    let exact = c.loop-run.invariant ∙ ap (λ (n : ℕ). links_in c.args.page c.args.mappings.now n) all in
    subst (λ (xs : List Link). AreOfSlots c.args.page c.args.mappings.now PAGE_SLOTS xs) (sym exact) (links_are c.args.page c.args.mappings.now PAGE_SLOTS)
