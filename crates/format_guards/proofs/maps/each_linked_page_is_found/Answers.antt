use Rattle.std.proofs.Common.{◌≡◌, ◌+◌, ◌<◌, List, Result, Ok, Err, IfOk, Some, Contains, subst}
use Rattle.blk_base.specs.declared.geometry.Super.{Super}
use Rattle.blk_base.specs.declared.journal_entry.CommittedEntry.{CommittedEntry}
use Rattle.disk_model.specs.Log.{Blocks}
use Rattle.disk_model.specs.Seen.{Seen}
use Rattle.disk_model.specs.Trust.{Trust}
use Rattle.image_layout.specs.Opened.{super_of_image}
use Rattle.image_layout.specs.Values.{journal_of}
use Rattle.image_model.proofs.WindowLaws.{one_window}
use Rattle.image_model.specs.Looked.{HasOneImageButIndex}
use Rattle.image_model.specs.Maps.{page_at}
use Rattle.image_model.specs.Sound.{Opens, image_of}
use Rattle.image_model.specs.declared.fault.ImageFault.{ImageFault}
use Rattle.replay_map.specs.Replayed.{HasMapOf, IsReplayed}
use Rattle.replay_map.specs.declared.links.Link.{Link}
use Rattle.replay_map.specs.declared.recovered.RecoveredMap.{RecoveredMap}
use Rattle.format_guards.proofs.maps.each_linked_page_is_found.Goals as goal

found : (image : Blocks) (head : Super) (map : RecoveredMap) (window : List CommittedEntry) (link : Link) → HasMapOf image head map → Opens image head map.last window
    → link.page.level + 1 < head.geometry.height → page_at (image_of head image window) link.page ≡ Some link.at → Contains map.links.items link
found image head map window link is opens below there =
    let same = (one_window head.geometry head.start (journal_of head.geometry image) map.last map.last window is.window opens.is_window is.opens.is_window).1 in
    (is.has.links link).1 (below, subst (λ (w : List CommittedEntry). page_at (image_of head image w) link.page ≡ Some link.at) same there)

all_found : (trust : Trust) (before now : Seen) (head : Super)
    → ((image : Blocks) (map : RecoveredMap) → HasOneImageButIndex before.opening before.log image → super_of_image image ≡ Ok head → IsReplayed trust head before now map
    → HasMapOf image head map)
    → (result : Result RecoveredMap ImageFault) → IfOk result (IsReplayed trust head before now)
    → IfOk result (λ map. (image : Blocks) (window : List CommittedEntry) (link : Link) → HasOneImageButIndex before.opening before.log image → super_of_image image ≡ Ok head
    → Opens image head map.last window → link.page.level + 1 < head.geometry.height → page_at (image_of head image window) link.page ≡ Some link.at → Contains map.links.items link)
all_found trust before now head law (Ok map) is = λ image window link one super opens below there. found image head map window link (law image map one super is) opens below there
all_found trust before now head law (Err why) is = tt

pub returns : goal.returns
returns g c =
    let trust = g.D.Disk.trust in
    let before = g.D.Disk.seen c.args.device.now in
    let now = g.D.Disk.seen c.replay.new.device in
    let head = c.args.head.now in
    all_found trust before now head
    (λ image map one super is. c.reads_show_the_map.ensures.map trust before now image head map c.requires.trust.0 c.requires.trust.1 one c.requires.room super is)
    c.replay.result c.replay.ensures.map
