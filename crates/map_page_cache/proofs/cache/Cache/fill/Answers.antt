use Rattle.std.proofs.Common.{ℕ, ◌≡◌, ◌<◌, ◌+◌, ◌∷◌, [], ◌∙◌, length, length-append, List, ap, sym, subst, arith, refl, true}
use Rattle.page_codec.specs.declared.forms.MapPage.{MapPage}
use Rattle.dirty_pages.specs.DirtyPoints.{clean_of}
use Rattle.map_page_cache.specs.contracts.cache.Cache.{the_view}
use Rattle.map_page_cache.specs.CachedPages.{CachedPages, IsAbsent, Fills}
use Rattle.map_page_cache.specs.Frames.{Follows}
use Rattle.map_page_cache.specs.Turns.{flags_of, with_turn}
use Rattle.map_page_cache.proofs.FrameLaws.{absent_at, follows-push}
use Rattle.map_page_cache.proofs.CacheLaws.{flags-set}
use Rattle.map_page_cache.proofs.StepLaws.{fills, flags_turned}
use Rattle.map_page_cache.proofs.cache.Cache.fill.Goals as goal

pub insert-requires-clause-absent : goal.insert-requires-clause-absent
insert-requires-clause-absent c = λ s has.
    absent_at c.self.inside.pages.items c.args.page (subst (λ (known : CachedPages). IsAbsent known c.args.page) (sym c.self.view_is) c.requires.absent) s
    (c.self.invariant.index.pages_at c.args.page s has)

pub returns : goal.returns
returns c =
    let size = c.self.inside.pages.ok in
    let place : c.len-frame.result ≡ length (the_view c.self.inside).pages = omega arith in
    subst (λ (pages : List MapPage). Fills c.args.self.now (record (the_view c.self.inside) { pages = pages; turns = c.set.new.self }) c.args.from.now) (sym {A = List MapPage} c.push_reserved.ensures.items)
    (fills c.args.self.now (the_view c.self.inside) c.args.page c.args.from.now c.copy_of.result c.set.new.self c.self.view_is c.self.invariant.form c.requires.absent c.requires.named c.requires.held
    c.requires.room c.copy_of.ensures (c.set.ensures ∙ ap (λ (n : ℕ). with_turn n true c.self.inside.clean) place))

pub invariant_of-self : goal.invariant_of-self
invariant_of-self c =
    let cache = the_view c.self.inside in
    let size = c.self.inside.pages.ok in
    let place : c.len-frame.result ≡ length cache.pages = omega arith in
    let room : length cache.pages < cache.frames = subst (λ (known : CachedPages). length known.pages < known.frames) (sym c.self.view_is) c.requires.room in
    let more = c.push_reserved.ensures.items in
    let grown : length c.push_reserved.new.self.items ≡ length cache.pages + 1 = omega (arith, ap (λ (ps : List MapPage). length ps) more, length-append cache.pages (c.copy_of.result ∷ [])) in
    record {
      form = (returns c).form;
      room = omega (arith, c.push_reserved.ensures.capacity, c.self.invariant.room);
      index = subst (λ (ps : List MapPage). Follows c.insert.new.self cache.frames ps) (sym {A = List MapPage} c.push_reserved.ensures.items)
          (follows-push c.self.inside.index c.insert.new.self cache.frames c.len-frame.result cache.pages c.copy_of.result c.args.page c.self.invariant.index c.insert.ensures place
          (ap (λ (m : MapPage). m.head.page) c.copy_of.ensures ∙ c.requires.named));
      clean = flags-set (flags_of c.self.inside.clean) (flags_of c.set.new.self) cache.frames (length cache.pages) _ c.len-frame.result true cache.dirty_points cache.dirty_points c.self.invariant.clean (omega arith) (omega arith)
          (omega arith) (λ other apart near. omega arith) (ap clean_of (sym (c.self.invariant.form.empty c.len-frame.result (omega arith)))) (λ other apart. refl)
          (flags_turned c.self.inside.clean c.set.new.self c.len-frame.result true c.set.ensures);
    }
