use Rattle.std.proofs.Common.{ℕ, ◌≡◌, ◌∙◌, ap, arith, map, refl, sym, subst, List, get_or}
use Rattle.std.proofs.lemmas.List.{get_or_default}
use Rattle.std.specs.BTreeMap.{get}
use Rattle.blk_base.specs.Pages.{page_order, leaf_of}
use Rattle.blk_base.specs.declared.place.Lba.{Lba}
use Rattle.blk_base.specs.declared.place.PageId.{PageId}
use Rattle.command_text.specs.declared.crashes.AddressValue.{AddressValue}
use Rattle.disk_model.proofs.SinceLaws.{untouched_on, untouched_yet}
use Rattle.image_model.specs.Sound.{image_of}
use Rattle.replay_map.specs.declared.links.Link.{Link}
use Rattle.crash_images.specs.Maps.{OfMap}
use Rattle.crash_images.specs.Values.{AreRefused, IsNoDamage, LinkTo, address_of, value_in}
use Rattle.crash_images.proofs.SearchLaws.{made_next, named_next}
use Rattle.crash_images.proofs.ValueLaws.{of_later, one_refused, passed_on}
use Rattle.crash_images.proofs.values.values_of.Goals as goal

pub loop-at-init : goal.loop-at-init
loop-at-init g c =
    let none = c.in-Ok-with_capacity.ensures.items in
    record {
      untouched = untouched_yet _ _;
      addresses = ap (λ (values : List AddressValue). map address_of values) none;
      values = λ blocks window is here. none;
      count = c.in-Ok-with_capacity.ensures.len;
      room = c.in-Ok-with_capacity.ensures.exact;
    }

pub loop-at-preserved : goal.loop-at-preserved
loop-at-preserved g c =
    let was = c.loop-at.invariant in
    let found = c.args.found.now in
    let addresses = c.args.addresses.now in
    let i = c.loop-at.at-index in
    let items = c.push_reserved.ensures.items in
    let first : Lba = record { 0 = 0 } in
    let at : Lba = get_or addresses i first in
    let value : AddressValue = record { at = at; block = c.in_ok-block.block } in
    let read = of_later found (λ image. c.in_ok-block.block ≡ (value_in image at).block) was.untouched c.in_ok-block.ensures.value in
    record {
      untouched = untouched_on _ _ _ _ was.untouched c.in_ok-block.ensures.untouched;
      addresses = named_next addresses i first c.loop-at-test.true address_of c.loop-at.values.items c.push_reserved.new.self.items value was.addresses refl items;
      values = λ blocks window is here.
          made_next addresses i first c.loop-at-test.true (value_in (image_of found.head blocks window)) c.loop-at.values.items c.push_reserved.new.self.items value (was.values blocks window is here)
          (ap (λ (block : List ℕ). record { at = at; block = block }) (read blocks window is here)) items;
      count = omega (arith, was.count, c.push_reserved.ensures.len);
      room = c.push_reserved.ensures.capacity ∙ was.room;
    }

pub read_value-requires-clause-leaf : goal.read_value-requires-clause-leaf
read_value-requires-clause-leaf g c =
    let first : Lba = record { 0 = 0 } in
    let at : Lba = get_or c.args.addresses.now c.loop-at.at-index first in
    let page : PageId = leaf_of at.0 in
    let blocks = get page_order c.in-Ok.blocks in
    let is : c.copied-leaf.result ≡ blocks page = c.copied-leaf.ensures ∙ c.get.ensures.value ∙ ap blocks c.leaf.ensures in
    subst (LinkTo c.args.found.now.pages.links.items page) (sym is)
    (subst (λ (links : List Link). LinkTo links page (blocks page)) c.deref.ensures.value (c.in-Ok.ensures page))

pub returns-in_err-block-clause-refused : goal.returns-in_err-block-clause-refused
returns-in_err-block-clause-refused g c =
    let seen = g.D.Disk.seen in
    let addresses = c.args.addresses.now in
    let first : Lba = record { 0 = 0 } in
    let at : Lba = get_or addresses c.loop-at.at-index first in
    passed_on c.from_residual.result (AreRefused c.args.found.now addresses (seen c.args.device.now) (seen c.read_value.new.device)) c.in_err-block.field-0.0 c.from_residual.ensures.1
    (one_refused c.args.found.now addresses at (seen c.args.device.now) (seen c.loop-at.device) (seen c.read_value.new.device) c.in_err-block.field-0.0 (c.loop-at.at-index, c.loop-at-test.true, get_or_default addresses c.loop-at.at-index at first c.loop-at-test.true)
    c.loop-at.invariant.untouched.later.faults c.in_err-block.ensures.refused)

pub returns-in_err-block-clause-undamaged : goal.returns-in_err-block-clause-undamaged
returns-in_err-block-clause-undamaged g c =
    let disk = g.D.Disk in
    let found = c.args.found.now in
    passed_on c.from_residual.result (λ why. OfMap disk.trust (disk.seen c.args.device.now) found (λ image. IsNoDamage why)) c.in_err-block.field-0.0 c.from_residual.ensures.1
    (of_later found (λ image. IsNoDamage c.in_err-block.field-0.0) c.loop-at.invariant.untouched c.in_err-block.ensures.undamaged)

pub returns-in_err-block-clause-untouched : goal.returns-in_err-block-clause-untouched
returns-in_err-block-clause-untouched g c = untouched_on _ _ _ _ c.loop-at.invariant.untouched c.in_err-block.ensures.untouched
