use Rattle.std.proofs.Common.{◌≡◌, ◌∙◌, ap, ap₂, arith, List, map}
use Rattle.std.specs.BTreeMap.Range.{range_contains}
use Rattle.std.specs.List.{filter}
use Rattle.std.specs.declared.ops.Bound.TheVariants.{Included}
use Rattle.blk_base.specs.declared.place.Mapping.{Mapping}
use Rattle.replay_map.proofs.ChangeLaws.{slot_cmp}
use Rattle.replay_map.proofs.OwnLaws.{own, own_each, own_listed}
use Rattle.replay_map.specs.Changes.{changed}
use Rattle.replay_map.specs.Forms.{as_found, changes_in}
use Rattle.replay_map.specs.declared.changes.SlotId.{SlotId}
use Rattle.replay_map.proofs.changes.Changes.of_page.Goals as goal

is_own : (c : goal.After-range) → c.range.result ≡ own c.args.page 811 c.self.inside.newest.entries
is_own c =
    c.range.ensures.between c.new.ensures.exhausted
    ∙ ap₂ (λ (first last : SlotId). filter (λ (change : SlotId × Mapping). range_contains slot_cmp (Included first) (Included last) change.0) c.self.inside.newest.entries)
    c.new.ensures.start c.new.ensures.end

pub returns-clause-each : goal.returns-clause-each
returns-clause-each c = λ slot below.
    ap (λ (changes : List (SlotId × Mapping)). changed changes c.args.page slot) (is_own c)
    ∙ own_each c.args.page 811 c.self.inside.newest.entries slot (omega (arith, below))
    ∙ ap (λ (changes : List (SlotId × Mapping)). changed changes c.args.page slot) c.self.view_is

pub returns-clause-listed : goal.returns-clause-listed
returns-clause-listed c =
    ap (λ (changes : List (SlotId × Mapping)). map as_found changes) (is_own c)
    ∙ own_listed c.args.page 811 c.self.inside.newest.entries c.range.ensures.ordered
    ∙ ap (λ (changes : List (SlotId × Mapping)). changes_in changes c.args.page 812) c.self.view_is
