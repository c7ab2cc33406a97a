use Rattle.std.proofs.Common.{ℕ, suc, ◌≡◌, ◌+◌, ◌<◌, ◌∙◌, reverse, ap, sym, subst, inl, inr, arith}
use Rattle.std.proofs.lemmas.Bool.Decides.{eqb_tells}
use Rattle.blk_base.specs.Sectors.{sector}
use Rattle.disk_model.specs.Numbers.{next_state, state_after}
use Rattle.disk_model.specs.Picks.{choice, content_of, pending}
use Rattle.disk_model.proofs.picks.pick_block.Goals as goal

pub loop-i-preserved : goal.loop-i-preserved
loop-i-preserved c =
    let i = c.loop-i.i in
    let log = reverse c.args.calls.now in
    let state_is = c.next_state.ensures ∙ ap next_state c.loop-i.invariant.state in
    let below : i < 8 = c.loop-i-test.true in
    let chosen =
    ap (λ (n : ℕ). choice c.args.number n c.next_state.result) c.content-block.ensures.count
    ∙ ap (choice c.args.number (pending log c.args.at)) state_is in
    record {
      state = let next : suc i ≡ i + 1 = omega arith in state_is ∙ ap (state_after c.args.state.now) next;
      size = c.copy_sector.ensures.size;
      sectors = λ k within. elim (eqb_tells k i) [
        | inl same ↦ subst (λ (n : ℕ). sector n c.copy_sector.new.into
            ≡ sector n (content_of c.args.before.now log c.args.at (choice c.args.number (pending log c.args.at) (state_after c.args.state.now (suc n))))) (sym same.1)
            (c.copy_sector.ensures.here
            ∙ ap (sector i) (c.content-from.ensures.content ∙ ap (content_of c.args.before.now log c.args.at) (c.choose.ensures ∙ chosen)))
        | inr other ↦
            let apart = other.1 in
            c.copy_sector.ensures.others k (omega (arith, within, below)) apart ∙ c.loop-i.invariant.sectors k (omega (arith, within, apart))
      ];
    }
