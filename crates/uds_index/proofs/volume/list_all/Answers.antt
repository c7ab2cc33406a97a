use Rattle.std.proofs.Common.{◌≡◌, ◌+◌, ◌-◌, ◌<◌, ◌∙◌, ◌∷◌, ℕ, suc, drop, get_or, length, length-drop, refl, ap, subst, arith}
use Rattle.uds_index.specs.Tags.{AreListed}
use Rattle.uds_index.proofs.ListLaws.{listed_few, listed_next}
use Rattle.uds_index.proofs.volume.list_all.Goals as goal

pub add-requires-clause-room : goal.add-requires-clause-room
add-requires-clause-room c =
    let kept = c.args.kept.now in
    let few = listed_few (drop (length kept - c.loop-listed.listed) kept) c.loop-listed.tags.tags c.loop-listed.invariant.listed in
    let size = length-drop (length kept - c.loop-listed.listed) kept in
    omega (arith, few, size, c.loop-listed-test.true, c.requires.room, c.loop-listed.invariant.room)

pub loop-listed-preserved : goal.loop-listed-preserved
loop-listed-preserved c =
    let kept = c.args.kept.now in
    let k = c.loop-listed.listed in
    let place : ℕ = length kept - (k + 1) in
    let inside : place < length kept = omega (arith, c.loop-listed-test.true) in
    let next : length kept - k ≡ suc place = omega (arith, c.loop-listed-test.true) in
    let more = c.add.ensures.listed (drop (length kept - k) kept) c.loop-listed.invariant.listed in
    let same : length kept - 1 - k ≡ place = omega arith in
    let at = c.index-kept-count.is ∙ ap (λ (n : ℕ). get_or kept n c.index-kept-count.result) same in
    record {
      listed = listed_next kept place c.index-kept-count.result c.add.new.self.tags inside at
          (subst (λ (n : ℕ). AreListed (c.index-kept-count.result ∷ drop n kept) c.add.new.self.tags) next more);
      room = c.add.ensures.room ∙ c.loop-listed.invariant.room;
      count = refl;
    }
