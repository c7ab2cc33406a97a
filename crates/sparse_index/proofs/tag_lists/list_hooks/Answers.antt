use Rattle.std.proofs.Common.{◌≡◌, ◌+◌, ◌-◌, ◌<◌, ◌∙◌, ◌∷◌, ℕ, List, suc, drop, map, get_or, length, length-drop, refl, ap, subst, sym, arith}
use Rattle.uds_chapters.specs.Chapters.{Numbered}
use Rattle.uds_index.specs.Tags.{AreListed}
use Rattle.uds_index.proofs.ListLaws.{listed_few}
use Rattle.uds_index.proofs.SearchLaws.{drop_here}
use Rattle.sparse_index.specs.Hooks.{hooks_of}
use Rattle.sparse_index.proofs.ListLaws.{length_map}
use Rattle.sparse_index.proofs.tag_lists.list_hooks.Goals as goal

pub add-requires-clause-rising : goal.add-requires-clause-rising
add-requires-clause-rising c = c.loop-listed.invariant.listed.rising

pub add-requires-clause-room : goal.add-requires-clause-room
add-requires-clause-room c =
    let kept = c.args.kept.now in
    let few = listed_few (map hooks_of (drop (length kept - c.loop-listed.listed) kept)) c.loop-listed.hooks.tags c.loop-listed.invariant.listed in
    let same = length_map hooks_of (drop (length kept - c.loop-listed.listed) kept) in
    let size = length-drop (length kept - c.loop-listed.listed) kept in
    omega (arith, few, same, size, c.loop-listed-test.true, c.requires.room, c.loop-listed.invariant.room)

pub loop-listed-preserved : goal.loop-listed-preserved
loop-listed-preserved c =
    let kept = c.args.kept.now in
    let k = c.loop-listed.listed in
    let place : ℕ = length kept - (k + 1) in
    let inside : place < length kept = omega (arith, c.loop-listed-test.true) in
    let next : length kept - k ≡ suc place = omega (arith, c.loop-listed-test.true) in
    let more = c.add.ensures.listed (map hooks_of (drop (length kept - k) kept)) c.loop-listed.invariant.listed in
    let same : length kept - 1 - k ≡ place = omega arith in
    let one : Numbered = get_or kept place c.index-kept-count.result in
    let at : c.index-kept-count.result ≡ one = c.index-kept-count.is ∙ ap (λ (n : ℕ). get_or kept n c.index-kept-count.result) same in
    record {
      listed = subst (λ (cs : List Numbered). AreListed cs c.add.new.self.tags)
          (ap (λ (x : Numbered). x ∷ map hooks_of (drop (length kept - k) kept)) (c.hooks_of.ensures ∙ ap hooks_of at)
          ∙ ap (λ (n : ℕ). hooks_of one ∷ map hooks_of (drop n kept)) next
          ∙ ap (map hooks_of) (sym (drop_here kept place c.index-kept-count.result inside))) more;
      room = c.add.ensures.room ∙ c.loop-listed.invariant.room;
      count = refl;
    }
