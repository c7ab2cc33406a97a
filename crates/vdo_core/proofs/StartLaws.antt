-- The zones of a core at its start, one after another.
use Rattle.std.proofs.Common.{◌≡◌, ℕ, ◌+◌, replicate, List, [], ◌∷◌, ◌++◌, length, sym, ap, subst, ◌∙◌, length-append, refl}
use Rattle.std.proofs.lemmas.List.{length-replicate}
use Rattle.std.specs.List.{AllByRecursion}
use Rattle.core_laws.proofs.kept.FirstCore.{all_empty}
use Rattle.data_vio.specs.declared.items.Item.{Item}
use Rattle.data_vio.specs.declared.sizes.Sizes.{Sizes}
use Rattle.core_model.specs.declared.zones.ZoneData.{ZoneData}
use Rattle.core_model.specs.declared.zones.Zone.{Zone}
use Rattle.core_model.specs.PortsData.{Ports}
use Rattle.core_model.specs.Sessions.{Session}
use Rattle.vdo_model.specs.Scripts.{Script}
use Rattle.core_model.specs.DeskData.{Desk}
use Rattle.data_vio.specs.Zones.{desk_number, zone_count}
use Rattle.core_model.specs.Start.{IsFirstData, IsFirstDesk, IsFirstZone}
use Rattle.plain_laws.specs.Sums.{Each}
use Rattle.plain_laws.proofs.ListLaws.{Each-append}

-- no zone at all
pub no_zone : (s : Session) → Each (IsFirstZone s) []
no_zone s i x got = absurd cc

-- one zone more
pub one_more : (s : Session) (old new : List Zone) (zone : Zone) (number : ℕ)
    → new ≡ old ++ zone ∷ [] → length old ≡ number → IsFirstZone s number zone → Each (IsFirstZone s) old → Each (IsFirstZone s) new
one_more s old new zone number is count first each =
    rw is (Each-append (IsFirstZone s) old zone each (subst (λ (n : ℕ). IsFirstZone s n zone) (sym count) first))

pub one_longer : (old new : List Zone) (zone : Zone) → new ≡ old ++ zone ∷ [] → length new ≡ length old + 1
one_longer old new zone is = ap length is ∙ length-append old (zone ∷ [])

-- a zone with empty lanes and the data that it begins with
pub empty_first : (s : Session) (sizes : Sizes) (number count : ℕ) (keeps : ZoneData) (ports : Ports)
    → s.sizes ≡ sizes → ports ≡ record { inbox = []; outboxes = replicate count [] } → count ≡ zone_count sizes → IsFirstData s number keeps
    → IsFirstZone s number (record { number = number; steps = 0; keeps = keeps; ports = ports })
empty_first s sizes number count keeps ports is none counts first = record {
  number_is = refl;
  steps = refl;
  lanes = ap (λ (p : Ports). length p.outboxes) none ∙ length-replicate {A = List Item} count [] ∙ counts ∙ ap zone_count (sym is);
  inbox = ap (λ (p : Ports). p.inbox) none;
  outboxes = subst (λ (p : Ports). AllByRecursion (λ lane. lane ≡ []) p.outboxes) (sym none) (all_empty count);
  own = first;
}

-- the data of a zone by another name of its number
pub numbered : (s : Session) (number other : ℕ) (keeps : ZoneData) → other ≡ number → IsFirstData s number keeps → IsFirstData s other keeps
numbered s number other keeps is first = subst (λ (n : ℕ). IsFirstData s n keeps) (sym is) first

-- the desk that has the requests, and began none
pub first_desk : (s : Session) (desk : Desk) (requests : Script) → desk ≡ record { requests = requests; log = []; marks = []; receipts = []; notices = 0; parked = [] } → s.script ≡ requests → IsFirstDesk s desk_number desk
first_desk s desk requests is script = record {
  number_is = refl;
  requests = ap (λ (d : Desk). d.requests) is ∙ sym script;
  log = ap (λ (d : Desk). d.log) is;
  marks = ap (λ (d : Desk). d.marks) is;
  receipts = ap (λ (d : Desk). d.receipts) is;
  notices = ap (λ (d : Desk). d.notices) is;
  parked = ap (λ (d : Desk). d.parked) is;
}
