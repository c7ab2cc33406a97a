-- What is said of the one image of an honest device.
use Rattle.std.proofs.Common.{ℕ, ◌≡◌, List, Ok, ◌∙◌, ap}
use Rattle.audit.specs.Audits.{IsAudited}
use Rattle.audit.specs.Reports.{HasNoFault, IsReport}
use Rattle.audit.specs.declared.forms.Report.{Report}
use Rattle.blk_base.specs.declared.geometry.Super.{Super as Superblock}
use Rattle.blk_base.specs.declared.journal_entry.CommittedEntry.{CommittedEntry}
use Rattle.disk_model.specs.Log.{Blocks}
use Rattle.disk_model.specs.Seen.{Seen}
use Rattle.disk_model.specs.Trust.{Trust}
use Rattle.image_layout.specs.Opened.{super_of_image}
use Rattle.image_model.specs.Sound.{Opens, image_of}
use Rattle.image_status.specs.Statuses.{IsStatusRead}
use Rattle.image_status.specs.declared.forms.ImageStatus.{ImageStatus}
use Rattle.rebuild.proofs.ReadLaws.{both_shown}
use Rattle.rebuild.proofs.ShownLaws.{accepted, enough_behind, one_behind, window_opens}
use Rattle.rebuild.specs.Recoveries.{IsTold}
use Rattle.format_guards.proofs.RecoveryFacts.{one_head}

-- what has a report has no fault
pub not_reported : (trust : Trust) (before now : Seen) (report : Report) → IsAudited trust before now report → (blocks : Blocks) → IsTold trust before blocks
    → ((head : Superblock) (last : ℕ) (window : List CommittedEntry) → Opens blocks head last window → HasNoFault (image_of head blocks window) → ⊥) → ⊥
not_reported trust before now report (head, window, second, opened_to, both) blocks is faulty =
    let first = opened_to.middle in
    let head_read = opened_to.head_read in
    let window_read = opened_to.window_read in
    let shown : IsReport (image_of head blocks window.entries) report =
    both_shown trust blocks is.told is.fair head window second now (λ image. IsReport image report) (accepted trust before blocks is first head head_read)
    (one_behind trust before blocks is first head head_read second window window_read) (enough_behind trust before blocks is first head head_read second window window_read) both in
    faulty head window.last window.entries (window_opens trust before blocks is first head head_read second window window_read) shown.right

-- it is called clean as its superblock says
pub called_clean : (trust : Trust) (before now : Seen) (status : ImageStatus) → IsStatusRead trust before now status → (blocks : Blocks) (head : Superblock)
    → IsTold trust before blocks → super_of_image blocks ≡ Ok head → status.clean ≡ head.clean
called_clean trust before now status read blocks head is own =
    let opened_to = read.opened in
    let there = accepted trust before blocks is opened_to.middle read.head opened_to.head_read in
    read.status_is.clean ∙ ap (λ (h : Superblock). h.clean) (one_head blocks read.head head there own)
