-- The entries of a fair session come in turn over the image that was opened.
use Rattle.std.proofs.Common.{ℕ, ◌+◌, ◌*◌, ◌≡◌, ◌≢◌, ◌⊎◌, ◌<◌, ◌++◌, true, false, Bool, Option, None, Some, List, [], ◌∷◌, length, map, refl, sym, ◌∙◌, ap, subst, inl, inr, arith, if◌then◌else◌, Contains}
use Rattle.blk_base.specs.Regions.{IsDataBlock}
use Rattle.blk_base.specs.declared.journal_entry.CommittedEntry.{CommittedEntry}
use Rattle.blk_base.specs.declared.journal_entry.Entry.TheVariants as entry
use Rattle.blk_base.specs.declared.place.Mapping.{Mapping}
use Rattle.blk_base.specs.declared.place.Mapping.TheVariants.{Unmapped, Zero, At}
use Rattle.blk_base.specs.declared.place.PageId.{PageId}
use Rattle.blk_base.specs.declared.place.Pbn.{Pbn}
use Rattle.core_laws.proofs.Common.{Enters, IsAsOpened, IsFair, IsSession, Logged, Makes, OnBlock, Remaps, RightTrace, Session, Trace, Writer, cases_Bool, durable, entry_of, eqb_tells, fair_before, journaled, mapping_by, opened_image, passed, remappings, same_Some}
use Rattle.core_laws.proofs.kept.Spared.{mapping_same}
use Rattle.core_laws.proofs.trace.EntryMaps.{AreTurned, at_block, leaf_linked, made_block, made_in, mapping_is, pages_said, turned, up_linked}
use Rattle.core_laws.proofs.trace.PagesOfTrace.{linked_stands}
use Rattle.core_laws.proofs.trace.PassesOfTrace.{cut_passed}
use Rattle.core_model.specs.PageLinks.{page_in}
use Rattle.core_model.specs.RightTraces.{AreElsewhere, IsUnused}
use Rattle.core_model.specs.Sessions.{said_by}
use Rattle.count_laws.proofs.TurnLaws.{one_number_after}
use Rattle.count_laws.proofs.UnusedLaws.{unused_has_none}
use Rattle.count_laws.specs.Points.{ArePointed, next_point}
use Rattle.count_laws.specs.Turns.{AreInTurn, ComesInTurn, IsPageAfter, IsUnusedAfter, MayLeadTo}
use Rattle.image_model.specs.Pages.{is_page}
use Rattle.journal_stops.proofs.NewestLaws.{newest_is_block}
use Rattle.journal_stops.proofs.OpenedLaws.{above_linked, all_new_page, all_old_page, same_block}
use Rattle.journal_stops.specs.Mapped.{mapping_after, newest_page, page_after}

-- A block that nobody maps with these entries.

-- no address is mapped to it, and no page stands there, of the opened image or of theirs
pub record IsUnusedBy (s : Session) (es : List Logged) (x : Pbn) : Type 0 where
  pub unmapped : (a : ℕ) → OnBlock (λ y. x.0 ≢ y.0) (mapping_by s es a)
  pub no_page : (page : PageId) (y : Pbn) → page.level + 1 < s.sizes.geometry.height → s.links page ≡ Some y → x.0 ≢ y.0
  pub no_made : (page : PageId) (y : Pbn) → made_in es page ≡ Some y → x.0 ≢ y.0

-- entries that don't name it leave it so
still_unmapped : (s : Session) (newer older : List Logged) (x : Pbn) (a : ℕ) → AreElsewhere x.0 newer → OnBlock (λ y. x.0 ≢ y.0) (mapping_by s older a)
    → OnBlock (λ y. x.0 ≢ y.0) (mapping_by s (newer ++ older) a)
still_unmapped s [] older x a apart before = before
still_unmapped s (Makes p ∷ newer) older x a apart before = still_unmapped s newer older x a apart.1 before
still_unmapped s (Remaps f ∷ newer) older x a apart before = elim (eqb_tells f.at.0 a) [
  | inl same ↦ rw same.0 apart.0
  | inr other ↦ rw other.0 (still_unmapped s newer older x a apart.1 before)
]

still_unmade : (newer older : List Logged) (x : Pbn) → AreElsewhere x.0 newer → ((page : PageId) (y : Pbn) → made_in older page ≡ Some y → x.0 ≢ y.0)
    → (page : PageId) (y : Pbn) → made_in (newer ++ older) page ≡ Some y → x.0 ≢ y.0
still_unmade [] older x apart before page y made = before page y made
still_unmade (Remaps e ∷ newer) older x apart before page y made = still_unmade newer older x apart.1 before page y made
still_unmade (Makes p ∷ newer) older x apart before page y made = elim (cases_Bool (is_page p.page page)) [
  | inl here ↦ subst (λ (b : Pbn). x.0 ≢ b.0) (stands_at (is_page p.page page) p.at y (made_in (newer ++ older) page) here made) apart.0
  | inr there ↦ still_unmade newer older x apart.1 before page y (rw there at made)
]
  where
    stands_at : (b : Bool) (x y : Pbn) (o : Option Pbn) → b ≡ true → (if b then Some x else o) ≡ Some y → x ≡ y
    stands_at true x y o is same = same_Some x y same
    stands_at false x y o is same = absurd cc

-- so with the entries that were handed in, where nobody maps it
pub unused_by : (s : Session) (t : Trace) (x : Pbn) → IsUnused s t x → IsUnusedBy s (journaled t) x
unused_by s t x unused = subst (λ (es : List Logged). IsUnusedBy s es x) (sym unused.parts) (record {
  unmapped = λ a. still_unmapped s unused.newer (durable t) x a unused.unnamed (unused.unmapped a);
  no_page = unused.no_page;
  no_made = still_unmade unused.newer (durable t) x unused.unnamed no_made;
})
  where
    no_made : (page : PageId) (y : Pbn) → made_in (durable t) page ≡ Some y → x.0 ≢ y.0
    no_made page y made = by (linked_stands (λ q. None) (durable t) page y made)
      where
        by : (◌≡◌ {A = Option Pbn} None (Some y)) ⊎ ((w : Writer) × Contains (durable t) (Makes (record { request = w; page = page; at = y }))) → x.0 ≢ y.0
        by (inl none) = absurd cc
        by (inr (w, has)) = unused.no_new_page (record { request = w; page = page; at = y }) has

unused_at : (s : Session) (t : Trace) (m : Mapping) → OnBlock (IsUnused s t) m → OnBlock (IsUnusedBy s (journaled t)) m
unused_at s t (At x) unused = unused_by s t x unused
unused_at s t Unmapped unused = tt
unused_at s t Zero unused = tt

-- What each entry is, over those before it.

-- it names a data block that nobody maps with those; a write or a discard says what it replaces, and a new page is nowhere yet
abbrev pub IsOrdered : Session → List Logged → Logged → Type 0
IsOrdered s es (Remaps e) = OnBlock (λ x. IsDataBlock s.sizes.geometry x.0) e.new × OnBlock (IsUnusedBy s es) e.new × (e.old ≡ mapping_by s es e.at.0)
IsOrdered s es (Makes p) = IsDataBlock s.sizes.geometry p.at.0 × IsUnusedBy s es p.at × (page_in s.links es p.page ≡ None)

abbrev pub AreOrdered : Session → List Logged → Type 0
AreOrdered s [] = Unit {0}
AreOrdered s (e ∷ es) = IsOrdered s es e × AreOrdered s es

pub older_ordered : (s : Session) (newer es : List Logged) → AreOrdered s (newer ++ es) → AreOrdered s es
older_ordered s [] es ordered = ordered
older_ordered s (e ∷ newer) es ordered = older_ordered s newer es ordered.1

pub ordered : (s : Session) (t : Trace) → RightTrace s t → IsFair s t → AreOrdered s (journaled t)
ordered s [] right fair = tt
ordered s (Enters (Remaps e) ∷ t) right fair =
    let before = fair_before s (Enters (Remaps e)) t fair in
    let quiet = cut_passed e.at.0 (remappings (journaled t)) (remappings (durable t)) (passed t) right.0.quiet.all_committed in
    ((right.0.new_data, unused_at s t e.new (right.0.unused before), right.0.old_is before ∙ mapping_same s (durable t) (journaled t) e.at.0 (sym quiet)), ordered s t right.2 before)
ordered s (Enters (Makes p) ∷ t) right fair =
    let before = fair_before s (Enters (Makes p)) t fair in
    ((right.0.new_data, unused_by s t p.at (right.0.unused before), right.0.once), ordered s t right.2 before)
ordered s (h ∷ t) right fair = ordered s t right.2 (fair_before s h t fair)

-- a page that neither links nor entries put anywhere
stands_nowhere : (b : Bool) (x : Pbn) (o : Option Pbn) → (if b then Some x else o) ≡ None → (b ≡ false) × (o ≡ None)
stands_nowhere true x o none = absurd cc
stands_nowhere false x o none = (refl, none)

pub unmade : (links : PageId → Option Pbn) (es : List Logged) (page : PageId) → page_in links es page ≡ None → (made_in es page ≡ None) × (links page ≡ None)
unmade links [] page none = (refl, none)
unmade links (Remaps e ∷ es) page none = unmade links es page none
unmade links (Makes p ∷ es) page none =
    let cut = stands_nowhere (is_page p.page page) p.at (page_in links es page) none in
    let rest = unmade links es page cut.1 in
    (rw cut.0 rest.0, rest.1)

-- So entries with such facts come in turn.

module _ (s : Session) (session : IsSession s) (opened : IsAsOpened s) where
  module _ (es : List Logged) (entries : List CommittedEntry) (said : map entry_of es ≡ said_by entries) (turns : AreTurned s es) (x : Pbn) (free : IsUnusedBy s es x) where
    no_page : IsPageAfter (opened_image s) entries x → ⊥
    no_page (page, low, linked) = by (newest_page entries page) refl
      where
        by : (o : Option Mapping) → newest_page entries page ≡ o → ⊥
        by None none = free.no_page page x low (opened.links page low ∙ sym (all_old_page (opened_image s) entries page none) ∙ linked) refl
        by (Some m) some =
            let block = newest_is_block entries page m some in
            let put : newest_page entries page ≡ Some (At block.0) = some ∙ ap (λ (n : Mapping). Some n) block.1 in
            let up = above_linked (opened_image s) entries page x low linked in
            let here = all_new_page (opened_image s) entries page up.0 block.0 low up.1 put in
            let same : block.0 ≡ x = same_block block.0 x (sym here ∙ linked) in
            free.no_made page x (made_block es entries said page x (subst (λ (b : Pbn). newest_page entries page ≡ Some (At b)) same put)) refl

    unmapped : (a : ℕ) → mapping_after (opened_image s) entries a ≡ At x → ⊥
    unmapped a maps =
        let leads : mapping_by s es a ≡ At x = sym (mapping_is s session opened es entries said turns a) ∙ maps in
        subst (OnBlock (λ y. x.0 ≢ y.0)) leads (free.unmapped a) refl

    pub unused : IsUnusedAfter (opened_image s) entries x
    unused = record { unmapped = unmapped; no_page = no_page }

    pub may_lead : IsDataBlock s.sizes.geometry x.0 → MayLeadTo (opened_image s) entries (At x)
    may_lead is_data = (
      is_data,
      no_page,
      λ count has.
          let none = one_number_after (opened_image s) entries x count 0 has (unused_has_none (opened_image s) entries x unused) in
          omega (arith, none),
    )

  -- a page that no entry and no link puts anywhere isn't linked
  nowhere : (es : List Logged) (entries : List CommittedEntry) → map entry_of es ≡ said_by entries → (page : PageId) → page.level + 1 < s.sizes.geometry.height
      → page_in s.links es page ≡ None → page_after (opened_image s) entries page ≡ None
  nowhere es entries said page low none =
      let neither = unmade s.links es page none in
      all_old_page (opened_image s) entries page (pages_said es entries page said ∙ ap at_block neither.0) ∙ sym (opened.links page low) ∙ neither.1

  leads : (es : List Logged) (entries : List CommittedEntry) → map entry_of es ≡ said_by entries → AreTurned s es → (m : Mapping) → OnBlock (λ x. IsDataBlock s.sizes.geometry x.0) m → OnBlock (IsUnusedBy s es) m
      → MayLeadTo (opened_image s) entries m
  leads es entries said turns (At x) is_data free = may_lead es entries said turns x free is_data
  leads es entries said turns Unmapped is_data free = tt
  leads es entries said turns Zero is_data free = tt

  pub in_turn : (es : List Logged) (entries : List CommittedEntry) → map entry_of es ≡ said_by entries → AreTurned s es → AreOrdered s es → AreInTurn (opened_image s) entries
  in_turn [] [] said turns are = tt
  in_turn [] (c ∷ entries) said turns are = absurd cc
  in_turn (e ∷ es) [] said turns are = absurd cc
  in_turn (Remaps e ∷ es) (c ∷ entries) said turns are =
      let here : c.entry ≡ entry.Remap e.at e.old e.new = cc in
      let behind : map entry_of es ≡ said_by entries = cc in
      let leaf = leaf_linked s session opened es entries behind turns.1 e.at.0 turns.0.0 turns.0.1 in
      let old = are.0.2 ∙ sym (mapping_is s session opened es entries behind turns.1 e.at.0) in (
        subst (ComesInTurn (opened_image s) entries) (sym here) (turns.0.1, leaf, old, leads es entries behind turns.1 e.new are.0.0 are.0.1),
        in_turn es entries behind turns.1 are.1,
      )
  in_turn (Makes p ∷ es) (c ∷ entries) said turns are =
      let here : c.entry ≡ entry.NewPage p.page p.at = cc in
      let behind : map entry_of es ≡ said_by entries = cc in
      let path = turns.0.1 in
      let low : p.page.level + 1 < s.sizes.geometry.height = turns.0.2 in
      let up = up_linked s session opened es entries behind turns.1 p.page low path turns.0.0 in
      let gone = nowhere es entries behind p.page low are.0.2 in (
        subst (ComesInTurn (opened_image s) entries) (sym here)
            (record { address = path.address; inside = path.inside; level = low; there = path.on_path }, up, gone, are.0.0, unused es entries behind turns.1 p.at are.0.1),
        in_turn es entries behind turns.1 are.1,
      )

-- The entries as they would stand in a journal that is empty.

-- with points that rise from 0
abbrev pub pointed : List Logged → List CommittedEntry
pointed [] = []
pointed (e ∷ es) = record { entry = entry_of e; point = record { 0 = 2 * length es } } ∷ pointed es

pub pointed_said : (es : List Logged) → map entry_of es ≡ said_by (pointed es)
pointed_said [] = refl
pointed_said (e ∷ es) = ap (λ (older : List _). entry_of e ∷ older) (pointed_said es)

pub pointed_next : (es : List Logged) → next_point 0 (pointed es) ≡ 2 * length es
pointed_next [] = refl
pointed_next (e ∷ es) = omega arith

pub are_pointed : (es : List Logged) → ArePointed 0 (pointed es)
are_pointed [] = tt
are_pointed (e ∷ es) = let next = pointed_next es in (omega (arith, next), omega arith, are_pointed es)

-- So those that were handed in come in turn.
pub entries_in_turn : (s : Session) (t : Trace) → IsSession s → RightTrace s t → IsFair s t → AreInTurn (opened_image s) (pointed (journaled t))
entries_in_turn s t session right fair = in_turn s session fair.opened (journaled t) (pointed (journaled t)) (pointed_said (journaled t)) (turned s t right) (ordered s t right fair)
