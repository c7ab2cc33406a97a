-- What an audit lists of two images that say the same is the same.
use Rattle.std.proofs.Common.{ℕ, ◌≡◌, ◌↔◌, List, sym, ◌∙◌, ap, subst}
use Rattle.audit.specs.Reports.{Differs, HasNoFault}
use Rattle.audit.specs.declared.forms.Difference.{Difference}
use Rattle.blk_base.specs.declared.geometry.Geometry.{Geometry}
use Rattle.blk_base.specs.declared.geometry.Super.{Super as Superblock}
use Rattle.blk_base.specs.declared.journal_entry.CommittedEntry.{CommittedEntry}
use Rattle.disk_model.specs.Log.{Blocks}
use Rattle.image_model.specs.Counts.{block_of_data}
use Rattle.image_model.specs.Maps.{Image}
use Rattle.image_model.specs.Sound.{IsDataPlace, Opens, image_of}
use Rattle.recovery_laws.proofs.SayLaws.{map_back, mappings_alike}
use Rattle.recovery_laws.specs.Kept.{SayTheSame}
use Rattle.recovery_laws.specs.Recoverable.{IsJournalOfItsTime, IsRecoverable}

differs_too : (old new : Image) (difference : Difference) → SayTheSame old new → Differs old difference → Differs new difference
differs_too old new difference same is =
    let back : old.geometry ≡ new.geometry = sym same.geometry in
    record {
      place = is.place;
      inside = subst (λ (g : Geometry). IsDataPlace g is.place) back is.inside;
      stands = ap (λ (g : Geometry). block_of_data g is.place) same.geometry ∙ is.stands;
      stores = (same.counts is.place difference.stored is.inside).1 is.stores;
      maps = mappings_alike old new difference.at difference.mapped same.geometry same.map is.maps;
      apart = is.apart;
    }

same_back : (old new : Image) → SayTheSame old new → SayTheSame new old
same_back old new same = record {
  geometry = sym same.geometry;
  map = map_back old new same.map;
  values = λ address. sym (same.values address);
  counts = λ place count inside.
      let was = same.counts place count (subst (λ (g : Geometry). IsDataPlace g place) same.geometry inside) in (was.1, was.0);
}

pub differ_alike : (old new : Image) (difference : Difference) → SayTheSame old new → Differs old difference ↔ Differs new difference
differ_alike old new difference same = (differs_too old new difference same, differs_too new old difference (same_back old new same))

pub without_a_fault : (blocks : Blocks) (head : Superblock) (last : ℕ) (window : List CommittedEntry) → Opens blocks head last window → HasNoFault (image_of head blocks window)
    → IsJournalOfItsTime head.geometry blocks last → IsRecoverable blocks
without_a_fault blocks head last window opens right timely = record {
  head = head;
  last = last;
  window = window;
  opens = opens;
  pages = right.pages;
  stored = right.stored;
  unshared = right.unshared;
  timely = timely;
}
