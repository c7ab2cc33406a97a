use Rattle.std.proofs.Common.{List, ap, length, rules}
use Rattle.page_codec.specs.declared.forms.MapPage.{MapPage}
use Rattle.map_page_cache.proofs.CacheLaws.{no_flags, opened_form}
use Rattle.map_page_cache.proofs.cache.Cache.new.Goals as goal

pub invariant_of-result : goal.invariant_of-result
invariant_of-result c = record {
  form = opened_form c.args.geometry.now c.args.frames c.in_ok-with_capacity.field-0.items c.in_ok-new.field-0 c.in_ok-new-3.field-0 c.in_ok-with_capacity.ensures.items c.in_ok-new.ensures;
  room = search rules;
  index = search rules;
  clean = no_flags c.in_ok-new-3.field-0 c.args.frames _ c.in_ok-new.field-0 c.in_ok-new-3.ensures (ap (λ (pages : List MapPage). length pages) c.in_ok-with_capacity.ensures.items);
}
