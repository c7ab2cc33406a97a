use Rattle.std.proofs.Common.{◌≡◌, ◌+◌, ◌-◌, ◌∙◌, ◌++◌, ◌∷◌, [], ℕ, suc, List, length, length-drop, length-take-le, take, drop, get_or, ap, sym, subst, arith}
use Rattle.uds_index.specs.declared.tags.Tagged.{Tagged}
use Rattle.uds_index.specs.Tags.{AreTagsRising, with_tags}
use Rattle.uds_index.proofs.SearchLaws.{drop_here}
use Rattle.uds_index.proofs.ListLaws.{rising_drop, merged_next, take_rest}
use Rattle.uds_index.proofs.tags.merge.Goals as goal

pub loop-tag-preserved : goal.loop-tag-preserved
loop-tag-preserved c =
    let rest = c.loop-tag.rest.now in
    let own = c.args.own.now in
    let k = c.loop-tag.tag-index in
    let tag = get_or own k 0 in
    let below = c.count_below-below.result in
    let same = take_rest below rest in
    let size = ap length same ∙ length-drop below rest in
    let behind = c.count_below-below.ensures.inside in
    let taken = length-take-le below rest behind in
    let new : Tagged = record { tag = tag; number = c.args.number } in
    let here : drop k own ≡ tag ∷ drop (suc k) own = drop_here own k 0 c.loop-tag-test.true in
    let next : k + 1 ≡ suc k = omega arith in
    let put : c.push_reserved.new.self.items ≡ (c.loop-tag.into.items ++ take below rest) ++ new ∷ [] =
    c.push_reserved.ensures.items ∙ ap (λ (ts : List Tagged). ts ++ new ∷ []) c.append.ensures.items in
    let whole = merged_next c.args.number tag own k c.loop-tag.into.items rest _ below c.requires.own here c.count_below-below.ensures c.loop-tag.invariant.whole in
    record {
      rising = subst AreTagsRising (sym same) (rising_drop below rest c.loop-tag.invariant.rising);
      inside = omega (arith, size, c.loop-tag.invariant.inside);
      whole =
          ap (λ (ts : List Tagged). ts ++ with_tags c.args.number (drop (k + 1) own) (take (length rest - below) (drop below rest))) put
          ∙ ap (λ (n : ℕ). ((c.loop-tag.into.items ++ take below rest) ++ new ∷ []) ++ with_tags c.args.number (drop n own) (take (length rest - below) (drop below rest))) next
          ∙ ap (λ (ts : List Tagged). ((c.loop-tag.into.items ++ take below rest) ++ new ∷ []) ++ with_tags c.args.number (drop (suc k) own) ts) same
          ∙ whole;
      room = omega (arith, size, taken, behind, c.append.ensures.len, c.append.ensures.capacity, c.push_reserved.ensures.len, c.push_reserved.ensures.capacity, c.loop-tag.invariant.room);
      capacity = omega (arith, c.append.ensures.capacity, c.push_reserved.ensures.capacity, c.loop-tag.invariant.capacity);
    }
