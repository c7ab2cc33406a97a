-- Entries in turn make new pages.
use Rattle.std.proofs.Common.{◌≡◌, ◌+◌, ◌<◌, List, [], ◌∷◌, ◌++◌, None, sym, subst}
use Rattle.std.proofs.lemmas.List.{append-nil}
use Rattle.blk_base.specs.Regions.{IsDataBlock}
use Rattle.blk_base.specs.declared.journal_entry.CommittedEntry.{CommittedEntry}
use Rattle.blk_base.specs.declared.journal_entry.Entry.{Entry}
use Rattle.blk_base.specs.declared.journal_entry.Entry.TheVariants.{Remap, NewPage}
use Rattle.image_model.specs.Maps.{Image}
use Rattle.journal_stops.specs.Mapped.{page_after}
use Rattle.count_laws.specs.Turns.{AreInTurn, ComesInTurn}

-- an entry makes a page below a root that the ones before it don't link, at a data block
abbrev pub MakesNew : Image → List CommittedEntry → Entry → Type 0
MakesNew opened older (Remap at old new) = Unit {0}
MakesNew opened older (NewPage page at) =
    (page.level + 1 < opened.geometry.height) × (page_after opened older page ≡ None) × IsDataBlock opened.geometry at.0

-- each of these entries does, of those that came behind the older ones
abbrev pub AreMadeNew : Image → List CommittedEntry → List CommittedEntry → Type 0
AreMadeNew opened older [] = Unit {0}
AreMadeNew opened older (committed ∷ newer) = MakesNew opened (newer ++ older) committed.entry × AreMadeNew opened older newer

module _ (opened : Image) where
  -- the older ones of entries in turn come in turn
  pub older_in_turn : (newer older : List CommittedEntry) → AreInTurn opened (newer ++ older) → AreInTurn opened older
  older_in_turn [] older turns = turns
  older_in_turn (c ∷ newer) older turns = older_in_turn newer older turns.1

  entry_new : (e : Entry) (older : List CommittedEntry) → ComesInTurn opened older e → MakesNew opened older e
  entry_new (Remap at old new) older turn = tt
  entry_new (NewPage page at) older turn = (turn.0.level, turn.2, turn.3)

  pub turns_new : (newer older : List CommittedEntry) → AreInTurn opened (newer ++ older) → AreMadeNew opened older newer
  turns_new [] older turns = tt
  turns_new (c ∷ newer) older turns = (entry_new c.entry (newer ++ older) turns.0, turns_new newer older turns.1)

  pub turns_made : (entries : List CommittedEntry) → AreInTurn opened entries → AreMadeNew opened [] entries
  turns_made entries turns = turns_new entries [] (subst (AreInTurn opened) (sym (append-nil entries)) turns)
