-- The end of a fair session: each image shows each address an entry no older than its last settled one.
use Rattle.std.proofs.Common.{ℕ, ◌≡◌, ◌⊎◌, ◌+◌, ◌≤◌, ◌^◌, ◌++◌, true, false, List, length, sym, ◌∙◌, ap, subst, inl, inr}
use Rattle.std.proofs.lemmas.Bool.{false_from_ne_true}
use Rattle.core_laws.proofs.Common.{AllByRecursion, HistoryEntry, IsFair, IsSession, IsWrite, Logged, Mark, Remapping, RightTrace, Session, Shown, Trace, Writer, committed, done, durable, each_both, entered, every-front, every-map, lines, log, logged_of, newest, of_address, passed, places, remappings, value_from}
use Rattle.core_laws.proofs.lists.CoreLists.{Has, each_newer, each_older, has_at, has_it, has_older, not_in_both}
use Rattle.core_laws.proofs.trace.AnswersOfTrace.{there_some}
use Rattle.core_laws.proofs.trace.DeskOfTrace.{AreApart, AreData, HasData, both_parts, done_is_committed, entered_apart, entered_data, entered_writes, of_address_append, shown_of}
use Rattle.core_laws.proofs.trace.HistoriesOfTrace.{entered_walks, settled_walks}
use Rattle.core_laws.proofs.trace.PassesOfTrace.{value_past}
use Rattle.core_laws.proofs.trace.PlacesOfTrace.{places_drawn}
use Rattle.core_laws.proofs.trace.ShownMaps.{shown_mapping}
use Rattle.core_laws.proofs.trace.StopsOfTrace.{ImageEntries, each_there, image_entries, shown_part, shown_value, stands_last, stands_value}
use Rattle.core_laws.proofs.trace.Walks.{Walks}
use Rattle.core_model.specs.Reports.{drawn_histories, listed_places, opening_values, progress_of, report_of}
use Rattle.disk_model.specs.Images.{IsImage}
use Rattle.disk_model.specs.Log.{Blocks}
use Rattle.image_model.specs.Maps.{image_with, value_of, value_with}
use Rattle.vdo_model.proofs.ZoneOrderLaws.{drawn_history_same, listed_same}
use Rattle.vdo_model.specs.Histories.{history_of, is_settled}
use Rattle.vdo_model.specs.LastParts.{is_lasting, last_part}
use Rattle.vdo_model.specs.declared.report.Mark.TheVariants.{Settled, Unsettled, Refused}
use Rattle.core_stops.specs.Ends.{EndsRight, MayRemain}
use Rattle.core_stops.specs.Sequences.{ShowsValues}
use Rattle.core_stops.proofs.EndLaws.{before_flush, none_settled}
use Rattle.core_stops.proofs.SoundStops.{is_left, values_same}
use Rattle.session_stops.specs.Beginnings.{IsToServe}

settled_lasts : (mark : Mark) → is_settled mark ≡ true → is_lasting true mark ≡ false → ⊥
settled_lasts Settled is none = cc
settled_lasts Unsettled is none = cc
settled_lasts Refused is none = cc

module _ (s : Session) (t : Trace) (session : IsSession s) (right : RightTrace s t) where
  -- One address, by the entries that an image shows: the committed ones, and some of the others that were handed in.
  module _ (es more fewer : List Remapping) (of_entered : entered t ≡ more ++ es) (has_committed : es ≡ fewer ++ committed t) where
    -- an entry whose slot is set is shown
    set_is_shown : (w : Writer) → Has (done t) w → Has es w
    set_is_shown w set =
        let found = there_some (logged_of (done t) w) set in
        let at_commit = has_it (committed t) w found.0 (done_is_committed s t w found.0 right found.1) in
        subst (λ (xs : List Remapping). Has xs w) (sym has_committed) (has_older fewer (committed t) w at_commit)

    -- so none that is settled is newer
    not_newer : (a : ℕ) (x : HistoryEntry) → (is_lasting true x.mark ≡ false) ⊎ Has (of_address a more) x.request → (is_settled x.mark ≡ true → Has (of_address a (done t)) x.request)
        → is_settled x.mark ≡ true → ⊥
    not_newer a x (inl passes_not) there is = settled_lasts x.mark is passes_not
    not_newer a x (inr newer) there is =
        not_in_both more es x.request (subst AreApart of_entered (entered_apart s t right)) (has_at a more x.request newer) (set_is_shown x.request (has_at a (done t) x.request (there is)))

    abbrev history : ℕ → List HistoryEntry
    history a = history_of (drawn_histories s t) a

    may_remain : (a : ℕ) (value : List ℕ) → value ≡ value_from s a (newest (of_address a es)) → MayRemain s.script (history a) (opening_values s a) value
    may_remain a value value_is =
        let entries : of_address a (entered t) ≡ of_address a more ++ of_address a es = ap (of_address a) of_entered ∙ of_address_append a more es in
        let parts = shown_part (history a) (of_address a more) (of_address a es) (subst (Walks (is_lasting true) (history a)) entries (entered_walks s t a right)) in
        let IsThere : HistoryEntry → Type 0 = λ x. is_settled x.mark ≡ true → Has (of_address a (done t)) x.request in
        let there = each_newer IsThere parts.newer parts.shown (subst (AllByRecursion IsThere) parts.part (each_there is_settled (history a) (of_address a (done t)) (settled_walks s t a right))) in
        let facts = each_both _ _ parts.newer parts.of_newer there in
        record {
          newer = parts.newer;
          shown = parts.shown;
          part = parts.part;
          lasts = stands_last parts.shown (of_address a es) parts.stands;
          settled = subst (λ (h : List HistoryEntry). length (last_part false h) ≤ length parts.shown) (sym parts.part)
              (none_settled parts.newer parts.shown (every-map {Q = λ x. is_settled x.mark ≡ false} (λ x fact. false_from_ne_true (is_settled x.mark) (not_newer a x fact.0 fact.1)) parts.newer facts));
          value_is = value_is ∙ stands_value s a parts.shown (of_address a es) parts.stands;
        }

  -- All addresses, in the report's histories.
  module _ (fair : IsFair s t) (image : Blocks) (is : IsImage s.blocks (log s t) image) where
    stands : Shown s t
    stands = shown_of s t right fair

    pub entries : ImageEntries s t image
    entries = image_entries s t image session fair is stands

    abbrev pub values : ℕ → List ℕ
    values = value_of (image_with s.sizes.geometry image entries.window.shown)

    abbrev es : List Remapping
    es = remappings entries.es ++ passed t

    of_entered : entered t ≡ remappings entries.more ++ es
    of_entered = ap (λ (xs : List Logged). remappings xs ++ passed t) entries.of_entered ∙ both_parts entries.more entries.es (passed t)

    has_committed : es ≡ remappings entries.fewer ++ committed t
    has_committed = ap (λ (xs : List Logged). remappings xs ++ passed t) entries.has_committed ∙ both_parts entries.fewer (durable t) (passed t)

    writes : AllByRecursion (IsWrite s t) (remappings entries.es)
    writes = (every-front (IsWrite s t) (remappings entries.es) (passed t) (each_older (IsWrite s t) (remappings entries.more) es (subst (AllByRecursion (IsWrite s t)) of_entered (entered_writes s t right)))).0

    to_data : AreData s (remappings entries.es)
    to_data = (every-front (HasData s) (remappings entries.es) (passed t) (each_older (HasData s) (remappings entries.more) es (subst (AreData s) of_entered (entered_data s t right)))).0

    value_is : (a : ℕ) → values a ≡ value_from s a (newest (of_address a es))
    value_is a =
        ap (value_with image)
        (shown_mapping s t image session fair is right stands.kept entries.more entries.es entries.of_entered entries.pages entries.window.last entries.window.shown entries.window.is_window entries.window.said a)
        ∙ shown_value s t image session fair is right entries.es a entries.stand writes to_data ∙ sym (value_past s t a right fair.opened (remappings entries.es))

    pub each_remains : (a : ℕ) → MayRemain s.script (history_of (report_of s t).histories a) (opening_values s a) (values a)
    each_remains a =
        subst (λ (history : List HistoryEntry). MayRemain s.script history (opening_values s a) (values a))
        (drawn_history_same s.sizes.zones s.sizes.geometry.logical s.script (lines t) (progress_of t) (places t) (listed_places s t) a
        (listed_same s.sizes.zones s.sizes.geometry.logical s.script (lines t) (places t) session.zones.0 (places_drawn s t right)) (places_drawn s t right))
        (may_remain es (remappings entries.more) (remappings entries.fewer) of_entered has_committed a (values a) (value_is a))

-- So a session ends right.
pub session_ends : (s : Session) (t : Trace) (to : IsToServe s.image) → IsSession s → RightTrace s t → IsFair s t → to.sound.head.geometry ≡ s.sizes.geometry → to.sound.head.start ≡ s.sizes.start
    → EndsRight (ShowsValues s.sizes.geometry (s.sizes.start + 2 ^ 18)) s.blocks (log s t) s.sizes.geometry.logical (opening_values s) (report_of s t)
session_ends s t to session right fair sizes start image behind =
    let is : IsImage s.blocks (log s t) image = before_flush s.blocks (log s t) image behind in
    let left = is_left s t session fair right to sizes start image is (shown_of s t right fair) in
    let window = (entries s t session right fair image is).window in (
      values s t session right fair image is,
      record {
        sound = left.sound;
        sizes = left.sizes;
        next = left.next;
        values_are = λ a. values_same s image left window.last window.shown window.is_window a;
      },
      λ a below. each_remains s t session right fair image is a,
    )
