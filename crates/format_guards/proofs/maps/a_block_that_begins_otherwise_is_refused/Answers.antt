use Rattle.std.proofs.Common.{ℕ, ◌≡◌, List, Result, Ok, Err, OnOk, IfErr, refl, subst}
use Rattle.blk_base.specs.declared.geometry.Geometry.{Geometry}
use Rattle.blk_base.specs.declared.place.Mapping.{Mapping}
use Rattle.image_model.specs.Faults.{HasFault}
use Rattle.image_model.specs.Maps.{Image, head_of}
use Rattle.disk_model.specs.Log.{block_at}
use Rattle.page_codec.specs.Grammar.{HasHead}
use Rattle.page_codec.specs.declared.fault.PageFault.{PageFault}
use Rattle.page_codec.specs.declared.fault.PageFault.TheVariants.{Header, Compressed, OutOfRange}
use Rattle.page_codec.specs.declared.forms.PageHead.{PageHead}
use Rattle.replay_map.specs.Pages.{IsReadAs, Stands}
use Rattle.replay_map.specs.declared.changes.SlotId.{SlotId}
use Rattle.format_guards.proofs.maps.a_block_that_begins_otherwise_is_refused.Goals as goal

module _ (image : Image) (want : PageHead) (block : List ℕ) (changes : List (SlotId × Mapping)) (stands : Stands image want block changes) (other : HasHead want block → ⊥) where
  not_headed : HasHead (head_of image want.page want.at) (block_at image.blocks want.at.0) → ⊥
  not_headed headed =
      other (subst (λ (b : List ℕ). HasHead want b) stands.there
      (subst (λ (g : Geometry). HasHead (record { geometry = g; page = want.page; at = want.at }) (block_at image.blocks want.at.0)) stands.geometry headed))

  refused : (result : Result (Unit {0}) PageFault) (into : List Mapping)
      → OnOk result ((other_image : Image) → Stands other_image want block changes → IsReadAs other_image want into)
      → IfErr result (λ fault. (other_image : Image) → Stands other_image want block changes → HasFault other_image want.page want.at fault) → result ≡ Err Header
  refused (Ok done) into is fails = absurd (not_headed (is image stands).good.headed)
  refused (Err Header) into is fails = refl
  refused (Err (Compressed named)) into is fails = absurd (not_headed (fails image stands).of_slot.0)
  refused (Err (OutOfRange named)) into is fails = absurd (not_headed (fails image stands).of_slot.0)

pub returns : goal.returns
returns c = λ image stands.
    refused image c.args.want.now c.args.block.now c.args.changes.now stands c.requires.other c.read_page.result c.read_page.new.into c.read_page.ensures.ok c.read_page.ensures.fault
