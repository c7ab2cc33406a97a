use Rattle.std.proofs.Common.{false, ◌≡◌, ap, ◌∙◌, sym, subst, refl}
use Rattle.std.proofs.lemmas.List.{length-set}
use Rattle.blk_base.specs.declared.place.PageId.{PageId}
use Rattle.page_codec.specs.declared.forms.MapPage.{MapPage}
use Rattle.dirty_pages.specs.DirtyPoints.{changed_at}
use Rattle.map_page_cache.specs.contracts.cache.Cache.{the_view}
use Rattle.map_page_cache.specs.CachedPages.{CachedPages, with_mapping}
use Rattle.map_page_cache.specs.Frames.{IsAt}
use Rattle.map_page_cache.proofs.FrameLaws.{follows-set}
use Rattle.map_page_cache.proofs.StepLaws.{sets, flags-changed, flags_turned}
use Rattle.map_page_cache.proofs.cache.Cache.set.Goals as goal

pub returns : goal.returns
returns c =
    sets c.args.self.now (the_view c.self.inside) c.args.page c.frame_of-frame.result c.args.slot c.args.mapping c.args.point c.index_mut.result.now c.map_slot.new.content c.change.new.self c.set.new.self
    c.self.view_is c.self.invariant.form c.frame_of-frame.ensures c.index_mut.ensures.value c.requires.held c.map_slot.ensures c.change.ensures c.set.ensures

pub invariant_of-self : goal.invariant_of-self
invariant_of-self c =
    let cache = the_view c.self.inside in
    let place = c.frame_of-frame.result in
    let content = c.map_slot.new.content in
    let at = subst (λ (known : CachedPages). IsAt known.pages c.args.page place) (sym c.self.view_is) c.frame_of-frame.ensures in
    let page : c.args.page ≡ content.head.page = sym (ap (λ (m : MapPage). m.head.page) (c.map_slot.ensures ∙ ap (with_mapping c.args.slot c.args.mapping) c.index_mut.ensures.value) ∙ at.named c.index_mut.result.now) in
    record {
      form = (returns c).form;
      room = c.self.invariant.room;
      index = follows-set c.self.inside.index cache.frames cache.pages place content c.self.invariant.index (subst (λ (p : PageId). IsAt cache.pages p place) page at);
      clean = flags-changed cache _ place (changed_at c.args.point) _ _ _ _ c.self.invariant.form c.self.invariant.clean at.inside c.change.ensures refl (flags_turned c.self.inside.clean c.set.new.self place false c.set.ensures)
          (length-set cache.pages place content);
    }
