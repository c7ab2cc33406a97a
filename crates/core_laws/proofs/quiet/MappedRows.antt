-- Which blocks an image maps: none, where it is empty. Those that a session's counters count are mapped (`opened_is_mapped`).
use Rattle.std.proofs.Common.{suc, ◌-◌, List, [], sym, subst, refl, arith}
use Rattle.core_laws.proofs.Common.{IsSession, Pbn, Session}
use Rattle.blk_base.specs.declared.journal_entry.CommittedEntry.{CommittedEntry}
use Rattle.core_laws.proofs.kept.NewImages.{IsNew, new_opened, none_counted}
use Rattle.core_model.specs.Reports.{IsMappedIn}
use Rattle.core_model.specs.Sessions.{IsAsOpened, opened_image}
use Rattle.disk_model.proofs.OneImageLaws.{one_image-is_image}
use Rattle.disk_model.specs.Images.{IsImage}
use Rattle.image_layout.specs.Values.{journal_of}
use Rattle.image_model.proofs.CountLaws.{one_number}
use Rattle.image_model.proofs.WindowLaws.{one_window}
use Rattle.image_model.specs.Counts.{HasMappings}
use Rattle.image_model.specs.Maps.{image_with}
use Rattle.image_model.specs.Windows.{IsWindow}
use Rattle.journal_stops.proofs.EntryLaws.{window_of_all}
use Rattle.journal_stops.proofs.ShownLaws.{window_at_rest}
use Rattle.journal_stops.specs.Rings.{IsAtRest}

module _ (s : Session) (session : IsSession s) (new : IsNew s) where
  own_image : IsImage s.image [] s.image
  own_image = one_image-is_image s.image [] s.image (record { size = refl; whole = new.whole; only = λ b below. (refl, tt) })

  opened : IsAsOpened s
  opened = new_opened s session new

  at_rest : IsAtRest s.image [] s.sizes.geometry s.sizes.start []
  at_rest = opened.journal

  no_window : IsWindow s.sizes.geometry s.sizes.start (journal_of s.sizes.geometry s.image) (s.sizes.start - 1) []
  no_window = subst (IsWindow s.sizes.geometry s.sizes.start (journal_of s.sizes.geometry s.image) (s.sizes.start - 1)) (window_of_all s.sizes.start [] refl)
      (window_at_rest s.image [] s.sizes.geometry s.sizes.start [] s.image (s.sizes.start - 1) (let room = new.room in omega (arith, room)) at_rest own_image (let some = session.start.0 in omega (arith, some)))

  none_mapped : (x : Pbn) → HasMappings (opened_image s) x 0
  none_mapped x = subst (HasMappings (opened_image s) x) (none_counted s session new x) (opened.counts x)

  -- no block of an empty image is mapped
  pub unmapped-where_it_is_empty : (x : Pbn) → IsMappedIn s.sizes.geometry s.sizes.start s.image x → ⊥
  unmapped-where_it_is_empty x has =
      let one = (one_window s.sizes.geometry s.sizes.start (journal_of s.sizes.geometry s.image) has.last (s.sizes.start - 1) has.window [] has.is_window no_window).1 in
      let none = subst (λ (window : List CommittedEntry). HasMappings (image_with s.sizes.geometry s.image window) x 0) (sym one) (none_mapped x) in
      let count = one_number (image_with s.sizes.geometry s.image has.window) x (suc has.more) 0 has.mapped none in
      absurd (omega (arith, count))
