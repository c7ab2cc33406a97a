-- What the values of an honest device's image are, and why there are none where it passed its audit.
use Rattle.std.proofs.Common.{ℕ, ◌≡◌, ◌⊎◌, false, Bool, List, length, map, Ok, refl, sym, ◌∙◌, ap, ap₂, subst, inl, inr, arith}
use Rattle.audit.specs.Audits.{IsAudited}
use Rattle.audit.specs.Reports.{HasNoFault, IsReport}
use Rattle.audit.specs.declared.forms.Report.{Report}
use Rattle.blk_base.specs.declared.geometry.Super.{Super as Superblock}
use Rattle.blk_base.specs.declared.journal_entry.CommittedEntry.{CommittedEntry}
use Rattle.blk_base.specs.declared.place.Pbn.{Pbn}
use Rattle.command_text.specs.declared.crashes.AddressValue.{AddressValue}
use Rattle.disk_model.specs.Log.{Blocks}
use Rattle.disk_model.specs.Seen.{Seen}
use Rattle.disk_model.specs.Trust.{Trust}
use Rattle.disk_model.specs.Since.{IsUntouched}
use Rattle.image_layout.specs.Opened.{super_of_image}
use Rattle.image_layout.specs.Values.{journal_of}
use Rattle.image_layout.specs.declared.fault.SuperFault.{SuperFault}
use Rattle.image_model.proofs.FaultLaws.{no_page_fault}
use Rattle.image_model.proofs.WindowLaws.{not_both, one_last, one_window}
use Rattle.image_model.specs.Faults.{IsAtEnd, IsOpened, IsPageFault, IsShareFault, IsSuperFault, IsWindowFault}
use Rattle.image_model.specs.Maps.{Image}
use Rattle.image_model.specs.Sound.{IsSound, Opens, image_of}
use Rattle.image_model.specs.Windows.{IsFaulty, IsLast, IsWindow}
use Rattle.image_model.specs.declared.fault.ImageFault.{ImageFault}
use Rattle.image_model.specs.declared.fault.ImageFault.TheVariants.{Super, Window, Page, Counter, SharedPage, Counts, Device, Unclean, Memory}
use Rattle.image_opening.specs.Heads.{HeadFails, IsHeadRead}
use Rattle.page_codec.specs.declared.fault.PageFault.{PageFault}
use Rattle.rebuild.proofs.KeptLaws.{image_alike, opened_alike}
use Rattle.rebuild.proofs.ReadLaws.{both_shown}
use Rattle.rebuild.proofs.ShownLaws.{accepted, enough, enough_behind, head_refused, one_behind, one_there, window_opens}
use Rattle.rebuild.specs.Recoveries.{Answers, IsTold}
use Rattle.rebuild.specs.declared.forms.Recovered.{Recovered}
use Rattle.rebuild.specs.declared.forms.Recovered.TheVariants.{Clean}
use Rattle.recovery_laws.specs.Kept.{image_in}
use Rattle.replay_map.proofs.HonestLaws.{fault_of_map}
use Rattle.replay_map.specs.Replayed.{IsMapFault, ReplayFails}
use Rattle.vdo_model.specs.Scripts.{Script}
use Rattle.crash_images.proofs.ValueLaws.{told_on}
use Rattle.crash_images.specs.Addresses.{AreAddresses}
use Rattle.crash_images.specs.Shows.{AreValues, HasNoValue, HasValues, IsShown, ValuesFail}
use Rattle.crash_images.specs.Values.{address_of, value_in}
use Rattle.crash_images.specs.declared.shown.Shown.{Shown}

-- Of a sound image.

pub sound_values : (trust : Trust) (script : Script) (before : Seen) (blocks : Blocks) (values : List AddressValue) → IsTold trust before blocks → (sound : IsSound blocks)
    → AreValues trust script before values
    → AreAddresses script sound.head.geometry.logical (map address_of values) × (values ≡ map (value_in (image_in blocks sound)) (map address_of values))
sound_values trust script before blocks values is sound are =
    let has = are.says blocks is in
    let one = opened_alike blocks sound are.found.head has.last has.window has.opens in
    let image = image_alike blocks sound are.found.head has.last has.window has.opens in (
      subst (λ (h : Superblock). AreAddresses script h.geometry.logical (map address_of values)) one.0 are.named,
      subst (λ (i : Image). values ≡ map (value_in i) (map address_of values)) image has.right,
    )

-- Of one that was closed, whatever its counts are: recovery and audit have left it as it was.

pub closed_values : (trust : Trust) (script : Script) (before : Seen) (blocks : Blocks) (shown : Shown) → IsTold trust before blocks → IsShown trust script before shown → shown.recovery ≡ Clean
    → (head : Superblock) × HasValues blocks head shown.values.items × AreAddresses script head.geometry.logical (map address_of shown.values.items)
closed_values trust script before blocks shown is shows clean =
    let answer : Answers trust before shows.middle Clean = subst (λ (found : Recovered). Answers trust before shows.middle found) clean shows.recovery.answers in
    let middle = told_on trust before shows.middle blocks is answer.3 in
    let behind = told_on trust shows.middle shows.behind blocks middle shows.untouched in
    (shows.values.found.head, shows.values.says blocks behind, shows.values.named)

-- Of one that passed its audit: none is refused for the image.

abbrev pub OfNoImage : ImageFault → Type 0
OfNoImage why = (why ≡ Device) ⊎ (why ≡ Memory)

module _ (blocks : Blocks) (head : Superblock) (last : ℕ) (window : List CommittedEntry) (opens : Opens blocks head last window) (right : HasNoFault (image_of head blocks window)) where
  abbrev here : Image
  here = image_of head blocks window

  -- it is opened in one way
  head_is : (other : Superblock) → super_of_image blocks ≡ Ok other → other ≡ head
  head_is other is = let own = opens.accepted in cc (is, own)

  image_is : (image : Image) → IsOpened blocks image → image ≡ here
  image_is image opened =
      let same : opened.head ≡ head = head_is opened.head opened.opens.accepted in
      let its_window : IsWindow head.geometry head.start (journal_of head.geometry blocks) opened.last image.window =
      subst (λ (h : Superblock). IsWindow h.geometry h.start (journal_of h.geometry blocks) opened.last image.window) same opened.opens.is_window in
      let one = (one_window head.geometry head.start (journal_of head.geometry blocks) opened.last last image.window window its_window opens.is_window).1 in
      opened.is_image ∙ ap₂ (λ (h : Superblock) (w : List CommittedEntry). image_of h blocks w) same one

  not_at_end : IsAtEnd blocks → ⊥
  not_at_end end =
      let same : end.head ≡ head = head_is end.head end.accepted in
      let unclean : head.clean ≡ false = ap (λ (h : Superblock). h.clean) (sym same) ∙ end.unclean in
      let its_last : IsLast head.geometry head.start (journal_of head.geometry blocks) end.last =
      subst (λ (h : Superblock). IsLast h.geometry h.start (journal_of h.geometry blocks) end.last) same end.is_last in
      let one = one_last head.geometry head.start (journal_of head.geometry blocks) end.last last its_last opens.is_window.is_last in
      let left = opens.sequences unclean in
      let past = end.past in
      omega (arith, one, left, past)

  no_super_fault : (fault : SuperFault) → IsSuperFault blocks fault → ⊥
  no_super_fault fault (inl refused) = let own = opens.accepted in absurd (cc (own, refused))
  no_super_fault fault (inr end) = not_at_end end.1

  no_window_fault : (sequence : ℕ) → IsWindowFault blocks sequence → ⊥
  no_window_fault sequence has =
      let same : has.head ≡ head = head_is has.head has.accepted in
      not_both head.geometry head.start (journal_of head.geometry blocks) last window sequence opens.is_window
      (subst (λ (h : Superblock). IsFaulty h.geometry h.start (journal_of h.geometry blocks) sequence) same has.faulty)

  no_page : (at : Pbn) (fault : PageFault) → IsMapFault blocks (Page at fault) → ⊥
  no_page at fault (image, opened, has) =
      let there : IsPageFault here at fault = subst (λ (i : Image). IsPageFault i at fault) (image_is image opened) has in
      no_page_fault here there.page at fault (right.pages there.page at there.there) there.has

  no_shared_page : (at : Pbn) → IsMapFault blocks (SharedPage at) → ⊥
  no_shared_page at (image, opened, pages, has) =
      let there : IsShareFault here at = subst (λ (i : Image). IsShareFault i at) (image_is image opened) has in
      right.unshared at there.address there.page there.mapped

  module _ (trust : Trust) (before : Seen) (is : IsTold trust before blocks) where
    by_head : (now : Seen) (why : ImageFault) → length before.opening ≡ before.size → HeadFails trust before now why → OfNoImage why
    by_head now (Super fault) size fails = absurd (no_super_fault fault (head_refused trust before blocks is now (Super fault) size fails))
    by_head now Device size fails = inl refl
    by_head now Memory size fails = inr refl
    by_head now (Window sequence) size fails = absurd fails
    by_head now (Page at fault) size fails = absurd fails
    by_head now (Counter at point) size fails = absurd fails
    by_head now (SharedPage at) size fails = absurd fails
    by_head now (Counts at stored mapped) size fails = absurd fails
    by_head now Unclean size fails = absurd fails

    module _ (other : Superblock) (middle : Seen) (read : IsHeadRead trust before middle other) where
      shown_fault : (now : Seen) (why : ImageFault) → ReplayFails trust other middle now why → IsMapFault blocks why
      shown_fault now why fails =
          fault_of_map trust blocks is.told is.fair middle now other (one_there trust before blocks is middle other read) (enough trust before blocks is middle other read)
          (accepted trust before blocks is middle other read) why fails

      by_map : (now : Seen) (why : ImageFault) → ReplayFails trust other middle now why → OfNoImage why
      by_map now (Super fault) fails = absurd (no_super_fault fault (shown_fault now (Super fault) fails))
      by_map now (Window sequence) fails = absurd (no_window_fault sequence (shown_fault now (Window sequence) fails))
      by_map now (Page at fault) fails = absurd (no_page at fault (shown_fault now (Page at fault) fails))
      by_map now (SharedPage at) fails = absurd (no_shared_page at (shown_fault now (SharedPage at) fails))
      by_map now (Counter at point) (inl none) = absurd none
      by_map now (Counter at point) (inr (second, states, window_read, none)) = absurd none
      by_map now (Counts at stored mapped) (inl none) = absurd none
      by_map now (Counts at stored mapped) (inr (second, states, window_read, none)) = absurd none
      by_map now Unclean (inl none) = absurd none
      by_map now Unclean (inr (second, states, window_read, none)) = absurd none
      by_map now Device fails = inl refl
      by_map now Memory fails = inr refl

    by_value : (now : Seen) (why : ImageFault) → HasNoValue trust before now why → OfNoImage why
    by_value now Device lacks = inl refl
    by_value now Memory lacks = inr refl
    by_value now (Page at fault) lacks = absurd (lacks.undamaged blocks is)
    by_value now (Super fault) lacks = absurd lacks.cause
    by_value now (Window sequence) lacks = absurd lacks.cause
    by_value now (Counter at point) lacks = absurd lacks.cause
    by_value now (SharedPage at) lacks = absurd lacks.cause
    by_value now (Counts at stored mapped) lacks = absurd lacks.cause
    by_value now Unclean lacks = absurd lacks.cause

    values_fail : (now : Seen) (why : ImageFault) → length before.opening ≡ before.size → ValuesFail trust before now why → OfNoImage why
    values_fail now why size (inl (inl fails)) = by_head now why size fails
    values_fail now why size (inl (inr (other, middle, read, fails))) = by_map other middle read now why fails
    values_fail now why size (inr lacks) = by_value now why lacks

pub values_refused : (trust : Trust) (before behind now : Seen) (blocks : Blocks) (report : Report) (why : ImageFault) → IsTold trust before blocks → length before.opening ≡ before.size
    → IsAudited trust before behind report → IsUntouched trust.tells before behind → ValuesFail trust behind now why → OfNoImage why
values_refused trust before behind now blocks report why is size (head, window, second, to, both) untouched fails =
    let shown : IsReport (image_of head blocks window.entries) report =
    both_shown trust blocks is.told is.fair head window second behind (λ image. IsReport image report) (accepted trust before blocks is to.middle head to.head_read)
    (one_behind trust before blocks is to.middle head to.head_read second window to.window_read) (enough_behind trust before blocks is to.middle head to.head_read second window to.window_read) both in
    let same_size : length behind.opening ≡ behind.size = ap (λ (bs : Blocks). length bs) untouched.stays.opening ∙ size ∙ sym untouched.stays.size in
    values_fail blocks head window.last window.entries (window_opens trust before blocks is to.middle head to.head_read second window to.window_read) shown.right
    trust behind (told_on trust before behind blocks is untouched) now why same_size fails
