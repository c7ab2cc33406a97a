-- What an audit says of an honest device whose one image is sound.
use Rattle.std.proofs.Common.{◌≡◌, ◌⊎◌, Bool, List, [], ◌∷◌, Contains, length, Ok, refl, sym, ◌∙◌, subst, inl, inr}
use Rattle.audit.specs.Audits.{AuditFails, AuditWithFails, IsAudited, IsOpenedTo}
use Rattle.audit.specs.Reports.{Differs, IsReport}
use Rattle.audit.specs.declared.forms.Difference.{Difference}
use Rattle.audit.specs.declared.forms.Report.{Report}
use Rattle.blk_base.specs.declared.geometry.Super.{Super as Superblock}
use Rattle.blk_base.specs.declared.place.Pbn.{Pbn}
use Rattle.disk_model.specs.Log.{Blocks}
use Rattle.disk_model.specs.Seen.{Seen}
use Rattle.disk_model.specs.Trust.{Trust}
use Rattle.image_model.proofs.CountLaws.{is_first, one_number, one_stored}
use Rattle.image_model.proofs.FaultLaws.{no_fault}
use Rattle.image_model.proofs.LookedLaws.{looked_in_place}
use Rattle.image_model.specs.Counts.{HasMappings, block_of_data}
use Rattle.image_model.specs.Faults.{IsCountFault, IsImageFault, IsShareFault}
use Rattle.image_model.specs.Maps.{ArePagesGood, Image}
use Rattle.image_model.specs.Sound.{AreStored, IsSound, image_of}
use Rattle.image_model.specs.declared.fault.ImageFault.{ImageFault}
use Rattle.image_model.specs.declared.fault.ImageFault.TheVariants.{Super, Window, Page, Counter, SharedPage, Counts, Device, Unclean, Memory}
use Rattle.image_opening.specs.Heads.{HeadFails, IsHeadRead}
use Rattle.journal_window.proofs.ReadWindowLaws.{fault_shown}
use Rattle.journal_window.specs.Reads.{Fails}
use Rattle.journal_window.specs.States.{WindowState}
use Rattle.rebuild.proofs.KeptLaws.{image_alike}
use Rattle.rebuild.proofs.ReadLaws.{both_shown}
use Rattle.rebuild.proofs.ShownLaws.{accepted, enough, enough_behind, head_refused, one_behind, one_there, opened, window_opens}
use Rattle.rebuild.specs.Recoveries.{IsTold}
use Rattle.recovery_laws.specs.Kept.{image_in}
use Rattle.replay_map.proofs.HonestLaws.{all_shown}

-- what has no element is empty
none_of : (differs : List Difference) → ((d : Difference) → Contains differs d → ⊥) → differs ≡ []
none_of [] never = refl
none_of (d ∷ ds) never = absurd (never d (is_first d ds))

module _ (trust : Trust) (before : Seen) (blocks : Blocks) (is : IsTold trust before blocks) (sound : IsSound blocks) where
  abbrev here : Image
  here = image_in blocks sound

  -- the count of each data block is the number of its mappings
  no_block_differs : (d : Difference) → Differs here d → ⊥
  no_block_differs d differs =
      let is_true = sound.counts differs.place differs.inside in
      let one = one_stored here differs.place (Ok d.stored) (Ok is_true.0) differs.stores is_true.1 in
      let count : d.stored ≡ is_true.0 = cc one in
      let maps : HasMappings here (block_of_data here.geometry differs.place) d.mapped = subst (λ (b : Pbn). HasMappings here b d.mapped) (sym differs.stands) differs.maps in
      let other = one_number here (block_of_data here.geometry differs.place) d.mapped is_true.0 maps is_true.2 in
      absurd (differs.apart (count ∙ sym other))

  -- so none is reported
  pub no_difference : (now : Seen) (report : Report) → IsAudited trust before now report → report.differs.items ≡ []
  no_difference now report (head, window, second, opened_to, both) =
      let first = opened_to.middle in
      let head_read = opened_to.head_read in
      let window_read = opened_to.window_read in
      let shown : IsReport (image_of head blocks window.entries) report =
      both_shown trust blocks is.told is.fair head window second now (λ image. IsReport image report) (accepted trust before blocks is first head head_read)
      (one_behind trust before blocks is first head head_read second window window_read) (enough_behind trust before blocks is first head head_read second window window_read) both in
      let same = image_alike blocks sound head window.last window.entries (window_opens trust before blocks is first head head_read second window window_read) in
      let own : IsReport here report = subst (λ (image : Image). IsReport image report) same shown in
      none_of report.differs.items (λ d has. no_block_differs d ((own.each d).0 has))

  -- Nor is it refused for the image.
  abbrev OfNoImage : ImageFault → Type 0
  OfNoImage why = (why ≡ Device) ⊎ (why ≡ Memory)

  of_image : (why : ImageFault) → (why ≡ Unclean → ⊥) → IsImageFault blocks why → OfNoImage why
  of_image why other fault = elim (no_fault blocks sound why fault) [ inl same ↦ inl same | inr (inl same) ↦ absurd (other same) | inr (inr same) ↦ inr same ]

  by_head : (now : Seen) (why : ImageFault) → length before.opening ≡ before.size → HeadFails trust before now why → OfNoImage why
  by_head now (Super fault) size fails = of_image (Super fault) (λ same. absurd (cc same)) (head_refused trust before blocks is now (Super fault) size fails)
  by_head now Device size fails = inl refl
  by_head now Memory size fails = inr refl
  by_head now (Window sequence) size fails = absurd fails
  by_head now (Page at fault) size fails = absurd fails
  by_head now (Counter at point) size fails = absurd fails
  by_head now (SharedPage at) size fails = absurd fails
  by_head now (Counts at stored mapped) size fails = absurd fails
  by_head now Unclean size fails = absurd fails

  module _ (first : Seen) (head : Superblock) (head_read : IsHeadRead trust before first head) where
    shown_fault : (now : Seen) (why : ImageFault) → Fails trust first now head why → IsImageFault blocks why
    shown_fault now why fails =
        fault_shown trust first now blocks is.told is.fair (one_there trust before blocks is first head head_read) head (enough trust before blocks is first head head_read)
        (accepted trust before blocks is first head head_read) why fails

    by_window : (now : Seen) (why : ImageFault) → Fails trust first now head why → OfNoImage why
    by_window now (Super fault) fails = of_image (Super fault) (λ same. absurd (cc same)) (shown_fault now (Super fault) fails)
    by_window now (Window sequence) fails = of_image (Window sequence) (λ same. absurd (cc same)) (shown_fault now (Window sequence) fails)
    by_window now Device fails = inl refl
    by_window now Memory fails = inr refl
    by_window now (Page at fault) fails = absurd fails
    by_window now (Counter at point) fails = absurd fails
    by_window now (SharedPage at) fails = absurd fails
    by_window now (Counts at stored mapped) fails = absurd fails
    by_window now Unclean fails = absurd fails

  module _ (head : Superblock) (window : WindowState) (second : Seen) (to : IsOpenedTo trust before second head window) where
    by_rest : (now : Seen) (why : ImageFault) → AuditWithFails trust head window second now why → OfNoImage why
    by_rest now (Page at fault) (pages, pages_read, says) = of_image (Page at fault) (λ same. absurd (cc same)) (
      image_of head blocks window.entries,
      opened trust before blocks is to.middle head to.head_read second window to.window_read,
      says blocks
          (all_shown trust blocks is.told is.fair head.geometry second now pages (looked_in_place blocks head (accepted trust before blocks is to.middle head to.head_read))
          (one_behind trust before blocks is to.middle head to.head_read second window to.window_read) pages_read),
    )
    by_rest now (Counter at point) fails =
        let said = both_shown trust blocks is.told is.fair head window second now (λ image. ArePagesGood image × IsCountFault image at point.0) (accepted trust before blocks is to.middle head to.head_read)
        (one_behind trust before blocks is to.middle head to.head_read second window to.window_read)
        (enough_behind trust before blocks is to.middle head to.head_read second window to.window_read) fails in
        of_image (Counter at point) (λ same. absurd (cc same)) (
          image_of head blocks window.entries,
          opened trust before blocks is to.middle head to.head_read second window to.window_read,
          said.0,
          said.1,
        )
    by_rest now (SharedPage at) fails =
        let said = both_shown trust blocks is.told is.fair head window second now (λ image. ArePagesGood image × AreStored image × IsShareFault image at) (accepted trust before blocks is to.middle head to.head_read)
        (one_behind trust before blocks is to.middle head to.head_read second window to.window_read)
        (enough_behind trust before blocks is to.middle head to.head_read second window to.window_read) fails in
        of_image (SharedPage at) (λ same. absurd (cc same)) (
          image_of head blocks window.entries,
          opened trust before blocks is to.middle head to.head_read second window to.window_read,
          said.0,
          said.1,
          said.2,
        )
    by_rest now Device fails = inl refl
    by_rest now Memory fails = inr refl
    by_rest now (Super fault) fails = absurd fails
    by_rest now (Window sequence) fails = absurd fails
    by_rest now (Counts at stored mapped) fails = absurd fails
    by_rest now Unclean fails = absurd fails

  pub audit_refused : (now : Seen) (why : ImageFault) → length before.opening ≡ before.size → AuditFails trust before now why → OfNoImage why
  audit_refused now why size (inl fails) = by_head now why size fails
  audit_refused now why size (inr (inl (head, first, head_read, fails))) = by_window first head head_read now why fails
  audit_refused now why size (inr (inr (head, window, second, to, fails))) = by_rest head window second to now why fails
