-- The history of an address walks a list of entries.
use Rattle.std.proofs.Common.{◌≡◌, ◌⊎◌, ◌++◌, Bool, true, false, List, [], ◌∷◌, refl, sym, ◌∙◌, ap, subst, inl, inr, ℕ, ◌≢◌, ◌+◌, ◌<◌, ◌≤◌, ◌==◌, Option, Some, None, IsNone, arith}
use Rattle.core_laws.proofs.Common.{AllByRecursion, AreDrawn, Asks, DeskLine, HistoryEntry, IsChange, Remapping, Mark, Placed, Request, Script, Writer, address_of, asked, cases_Bool, drawn, each_both, eqb_tells, every-map, logged_of, not_both, place_of, request_at, same_self, same_Some, same_tells}
use Rattle.data_vio.specs.declared.items.Asks.TheVariants.{Read, Write, Discard, Flush}
use Rattle.core_model.specs.Reports.{is_there}
use Rattle.vdo_model.specs.Histories.{Progress, mark_of, histories_of, history_of}
use Rattle.core_laws.proofs.lists.Changes.{change_address}
use Rattle.core_laws.proofs.trace.TurnsOfTrace.{IsFalling}
use Rattle.blk_base.specs.declared.request.Request.TheVariants as request
use Rattle.vdo_model.specs.Histories as model
use Rattle.vdo_model.specs.Places.{placed}

-- A history walks the entries of its address: each entry that passes a test stands for the next of them, the others for
-- none.

-- newest first
abbrev pub Walks : (Mark → Bool) → List HistoryEntry → List Remapping → Type 0
Walks test [] es = es ≡ []
Walks test (h ∷ hs) es =
    ((test h.mark ≡ false) × Walks test hs es)
    ⊎ ((e : Remapping) × (older : List Remapping) × (es ≡ e ∷ older) × (h.request ≡ e.request) × (test h.mark ≡ true) × Walks test hs older)

-- A history with an entry for the first of these: those before it pass no test.
pub record Found (test : Mark → Bool) (hs : List HistoryEntry) (e : Remapping) (es : List Remapping) : Type 0 where
  pub newer : List HistoryEntry
  pub entry : HistoryEntry
  pub older : List HistoryEntry
  pub part : hs ≡ newer ++ (entry ∷ older)
  pub of_none : AllByRecursion (λ (h : HistoryEntry). test h.mark ≡ false) newer
  pub request_is : entry.request ≡ e.request
  pub passes : test entry.mark ≡ true
  pub walks : Walks test older es

same_parts : (e f : Remapping) (es fs : List Remapping) → ◌≡◌ {A = List Remapping} (e ∷ es) (f ∷ fs) → (e ≡ f) × (es ≡ fs)
same_parts e f es fs is = (cc, cc)

-- a history that walks a list has an entry for its first
pub walks_front : (test : Mark → Bool) (hs : List HistoryEntry) (e : Remapping) (es : List Remapping) → Walks test hs (e ∷ es) → Found test hs e es
walks_front test [] e es walks = absurd cc
walks_front test (h ∷ hs) e es walks = elim walks [
  | inl passed ↦
      let rest = walks_front test hs e es passed.1 in
      record {
        newer = h ∷ rest.newer;
        entry = rest.entry;
        older = rest.older;
        part = ap (λ (xs : List HistoryEntry). h ∷ xs) rest.part;
        of_none = (passed.0, rest.of_none);
        request_is = rest.request_is;
        passes = rest.passes;
        walks = rest.walks;
      }
  | inr (f, older, is, request_is, passes, walks) ↦
      let same = same_parts e f es older is in
      record {
        newer = [];
        entry = h;
        older = hs;
        part = refl;
        of_none = tt;
        request_is = request_is ∙ ap (λ (x : Remapping). x.request) (sym same.0);
        passes = passes;
        walks = subst (Walks test hs) (sym same.1) walks;
      }
]

-- A history of older entries with newer ones before: its newer part stands for these alone.
pub record Split (test : Mark → Bool) (hs : List HistoryEntry) (newer_es older_es : List Remapping) : Type 0 where
  pub newer : List HistoryEntry
  pub older : List HistoryEntry
  pub part : hs ≡ newer ++ older
  pub of_newer : AllByRecursion (λ (h : HistoryEntry). (test h.mark ≡ false) ⊎ (is_there (logged_of newer_es h.request) ≡ true)) newer
  pub walks : Walks test older older_es

-- a history that walks two lists in turn has a part for each
pub walks_split : (test : Mark → Bool) (hs : List HistoryEntry) (newer_es older_es : List Remapping) → Walks test hs (newer_es ++ older_es) → Split test hs newer_es older_es
walks_split test hs [] es walks = record { newer = []; older = hs; part = refl; of_newer = tt; walks = walks }
walks_split test [] (e ∷ newer) es walks = absurd cc
walks_split test (h ∷ hs) (e ∷ newer) es walks = elim walks [
  | inl passed ↦
      let rest = walks_split test hs (e ∷ newer) es passed.1 in
      record {
        newer = h ∷ rest.newer;
        older = rest.older;
        part = ap (λ (xs : List HistoryEntry). h ∷ xs) rest.part;
        of_newer = (inl passed.0, rest.of_newer);
        walks = rest.walks;
      }
  | inr (f, older, is, request_is, passes, walks) ↦
      let same = same_parts e f (newer ++ es) older is in
      let rest = walks_split test hs newer es (subst (Walks test hs) (sym same.1) walks) in
      let mine : h.request ≡ e.request = request_is ∙ ap (λ (x : Remapping). x.request) (sym same.0) in
      record {
        newer = h ∷ rest.newer;
        older = rest.older;
        part = ap (λ (xs : List HistoryEntry). h ∷ xs) rest.part;
        of_newer = (
          inr (rw (mine, same_self e.request) refl),
          every-map {P = λ (g : HistoryEntry). (test g.mark ≡ false) ⊎ (is_there (logged_of newer g.request) ≡ true)} {Q = λ (g : HistoryEntry). (test g.mark ≡ false) ⊎ (is_there (logged_of (e ∷ newer) g.request) ≡ true)} (λ g is. elim is [ inl none ↦ inl none | inr some ↦ inr (there_too e newer g.request some) ]) rest.newer rest.of_newer,
        );
        walks = rest.walks;
      }
]
  where
    there_too : (e : Remapping) (es : List Remapping) (w : Writer) → is_there (logged_of es w) ≡ true → is_there (logged_of (e ∷ es) w) ≡ true
    there_too e es w is = elim (same_tells e.request w) [ inl same ↦ rw same.0 refl | inr other ↦ rw other.0 is ]

-- The history of an address, made of drawn places and marks, walks a list of entries that fall in place.

-- an entry is of a write or a discard of this address that has its place
pub record IsPut (script : Script) (ps : List Placed) (zone a : ℕ) (e : Remapping) : Type 0 where
  pub asks : Asks
  pub bytes : List ℕ
  pub asked : request_at script e.request ≡ Some (asked asks e.at bytes)
  pub change : IsChange asks
  pub at_address : e.at.0 ≡ a
  pub has_place : place_of ps e.request ≡ Some (placed e.request zone e.place)

-- how many places are drawn never falls
pub drawn_more : (zone : ℕ) (p : Placed) (ps : List Placed) → drawn zone ps ≤ drawn zone (p ∷ ps)
drawn_more zone p ps = elim (cases_Bool (p.zone == zone)) [ inl taken ↦ rw taken (omega arith) | inr passed ↦ rw passed (omega arith) ]

-- a place more of its own zone
pub drawn_one : (p : Placed) (ps : List Placed) → drawn p.zone (p ∷ ps) ≡ drawn p.zone ps + 1
drawn_one p ps = elim (eqb_tells p.zone p.zone) [ inl same ↦ rw same.0 refl | inr other ↦ absurd (other.1 refl) ]

-- a place is below the number of those that were drawn in its zone
pub place_below : (zones logical : ℕ) (script : Script) (desk : List DeskLine) (ps : List Placed) (w : Writer) (zone k : ℕ) → AreDrawn zones logical script desk ps → place_of ps w ≡ Some (placed w zone k) → k < drawn zone ps
place_below zones logical script desk [] w zone k drawn_so is = absurd cc
place_below zones logical script desk (p ∷ ps) w zone k drawn_so is = elim (same_tells p.request w) [
  | inl same ↦
      let here : Some p ≡ Some (placed w zone k) = rw same.0 at is in
      let p_is = same_Some p (placed w zone k) here in
      let zone_is : p.zone ≡ zone = ap (λ (x : Placed). x.zone) p_is in
      let place_is : p.place ≡ k = ap (λ (x : Placed). x.place) p_is in
      let more : drawn zone (p ∷ ps) ≡ drawn zone ps + 1 = subst (λ (z : ℕ). drawn z (p ∷ ps) ≡ drawn z ps + 1) zone_is (drawn_one p ps) in
      let number : p.place ≡ drawn zone ps = subst (λ (z : ℕ). p.place ≡ drawn z ps) zone_is drawn_so.0.number in
      omega (arith, more, number, place_is)
  | inr other ↦
      let rest = place_below zones logical script desk ps w zone k drawn_so.1 (rw other.0 at is) in
      let more = drawn_more zone p ps in
      omega (arith, rest, more)
]

-- a request without a place is none of those that have one
none_named : (ps : List Placed) (w : Writer) → IsNone (place_of ps w) → AllByRecursion (λ (q : Placed). q.request ≢ w) ps
none_named [] w none = tt
none_named (p ∷ ps) w none = elim (same_tells p.request w) [
  | inl same ↦ absurd (not_both (place_of (p ∷ ps) w) p none (rw same.0 refl))
  | inr other ↦ (other.1, none_named ps w (rw other.0 at none))
]

-- What an entry adds to the history of an address.

skip : (test : Mark → Bool) (o : Option Request) (w : Writer) (mark : Mark) (hs : List HistoryEntry) (a : ℕ) (es : List Remapping)
    → ((r : Request) → o ≡ Some r → address_of r ≡ Some a → test mark ≡ false)
    → Walks test (history_of hs a) es → Walks test (history_of (model.entry_of o w mark ++ hs) a) es
skip test None w mark hs a es none walks = walks
skip test (Some (request.Read at)) w mark hs a es none walks = walks
skip test (Some request.Flush) w mark hs a es none walks = walks
skip test (Some (request.Write at bytes fua)) w mark hs a es none walks = elim (eqb_tells at.0 a) [
  | inl same ↦ rw same.0 (inl (none _ refl (ap Some same.1), walks))
  | inr other ↦ rw other.0 walks
]
skip test (Some (request.Discard at)) w mark hs a es none walks = elim (eqb_tells at.0 a) [
  | inl same ↦ rw same.0 (inl (none _ refl (ap Some same.1), walks))
  | inr other ↦ rw other.0 walks
]

take : (test : Mark → Bool) (o : Option Request) (w : Writer) (mark : Mark) (hs : List HistoryEntry) (a : ℕ) (e : Remapping) (es : List Remapping) (q : Asks) (bytes : List ℕ) → IsChange q
    → o ≡ Some (asked q e.at bytes) → e.at.0 ≡ a → w ≡ e.request → test mark ≡ true
    → Walks test (history_of hs a) es → Walks test (history_of (model.entry_of o w mark ++ hs) a) (e ∷ es)
take test o w mark hs a e es Write bytes change is at same passes walks = elim (eqb_tells e.at.0 a) [
  | inl there ↦ rw (is, there.0) (inr (e, es, refl, same, passes, walks))
  | inr other ↦ absurd (other.1 at)
]
take test o w mark hs a e es Discard bytes change is at same passes walks = elim (eqb_tells e.at.0 a) [
  | inl there ↦ rw (is, there.0) (inr (e, es, refl, same, passes, walks))
  | inr other ↦ absurd (other.1 at)
]
take test o w mark hs a e es Read bytes change is at same passes walks = absurd change
take test o w mark hs a e es Flush bytes change is at same passes walks = absurd change

-- how far each write has come
abbrev pub progress : (Writer → Bool) → (Writer → Bool) → Progress
progress is_set handed = record { is_set = is_set; is_handed = handed }

-- the mark of a place at this address passes the test where its request is one of these
abbrev pub Fits : (Mark → Bool) → Script → (Writer → Bool) → (Writer → Bool) → ℕ → List Remapping → Placed → Type 0
Fits test script is_set handed a es p =
    (r : Request) → request_at script p.request ≡ Some r → address_of r ≡ Some a → test (mark_of None (is_set p.request) (handed p.request)) ≡ is_there (logged_of es p.request)

not_there : (es : List Remapping) (w : Writer) → AllByRecursion (λ (e : Remapping). w ≢ e.request) es → is_there (logged_of es w) ≡ false
not_there [] w others = refl
not_there (e ∷ es) w others = elim (same_tells e.request w) [
  | inl same ↦ absurd (others.0 (sym same.1))
  | inr other ↦ rw other.0 (not_there es w others.1)
]

module _ (test : Mark → Bool) (zones logical : ℕ) (script : Script) (desk : List DeskLine) (is_set handed : Writer → Bool) (zone a : ℕ) where
  -- an entry with another place than the newest one has it among the older ones
  older_place : (p : Placed) (ps : List Placed) (e : Remapping) → p.request ≢ e.request → IsPut script (p ∷ ps) zone a e → IsPut script ps zone a e
  older_place p ps e differs put = elim (same_tells p.request e.request) [
    | inl same ↦ absurd (differs same.1)
    | inr other ↦ record { asks = put.asks; bytes = put.bytes; asked = put.asked; change = put.change; at_address = put.at_address; has_place = rw other.0 at put.has_place }
  ]

  -- the place of an entry that is of the newest place's request
  newest_place : (p : Placed) (ps : List Placed) (e : Remapping) → p.request ≡ e.request → IsPut script (p ∷ ps) zone a e → p ≡ placed e.request zone e.place
  newest_place p ps e is put = elim (same_tells p.request e.request) [
    | inl same ↦ same_Some p (placed e.request zone e.place) (rw same.0 at put.has_place)
    | inr other ↦ absurd (other.1 is)
  ]

  -- the older entries have another request than the newest place's, which is that of an entry above them
  below_newest : (p : Placed) (ps : List Placed) (e f : Remapping) → p.request ≡ e.request → IsPut script (p ∷ ps) zone a e → f.place < e.place → IsPut script (p ∷ ps) zone a f → p.request ≢ f.request
  below_newest p ps e f is put less puts same =
      let here : p.place ≡ e.place = ap (λ (x : Placed). x.place) (newest_place p ps e is put) in
      let there : p.place ≡ f.place = ap (λ (x : Placed). x.place) (newest_place p ps f same puts) in
      absurd (omega (arith, here, there, less))

  -- an entry whose place is older has another request than the newest place's, and so have those below it
  below_older : (p : Placed) (ps : List Placed) (e f : Remapping) → AreDrawn zones logical script desk (p ∷ ps) → IsPut script ps zone a e → f.place < e.place → IsPut script (p ∷ ps) zone a f → p.request ≢ f.request
  below_older p ps e f drawn_so put less puts same =
      let p_is = newest_place p ps f same puts in
      let there : p.place ≡ f.place = ap (λ (x : Placed). x.place) p_is in
      let zone_is : p.zone ≡ zone = ap (λ (x : Placed). x.zone) p_is in
      let number : p.place ≡ drawn zone ps = subst (λ (z : ℕ). p.place ≡ drawn z ps) zone_is drawn_so.0.number in
      let low = place_below zones logical script desk ps e.request zone e.place drawn_so.1 put.has_place in
      absurd (omega (arith, there, number, low, less))

  all_older : (p : Placed) (ps : List Placed) (es : List Remapping) → AllByRecursion (λ (e : Remapping). p.request ≢ e.request) es → AllByRecursion (IsPut script (p ∷ ps) zone a) es → AllByRecursion (IsPut script ps zone a) es
  all_older p ps es differ puts =
      every-map {P = λ (e : Remapping). (p.request ≢ e.request) × IsPut script (p ∷ ps) zone a e} {Q = IsPut script ps zone a} (λ e is. older_place p ps e is.0 is.1) es (each_both (λ (e : Remapping). p.request ≢ e.request) (IsPut script (p ∷ ps) zone a) es differ puts)

  differ_from : (p : Placed) (ps : List Placed) (e : Remapping) (es : List Remapping) → ((f : Remapping) → f.place < e.place → IsPut script (p ∷ ps) zone a f → p.request ≢ f.request)
      → AllByRecursion (λ (f : Remapping). f.place < e.place) es → AllByRecursion (IsPut script (p ∷ ps) zone a) es → AllByRecursion (λ (f : Remapping). p.request ≢ f.request) es
  differ_from p ps e es differs falls puts =
      every-map {P = λ (f : Remapping). (f.place < e.place) × IsPut script (p ∷ ps) zone a f} {Q = λ (f : Remapping). p.request ≢ f.request} (λ f is. differs f is.0 is.1) es (each_both (λ (f : Remapping). f.place < e.place) (IsPut script (p ∷ ps) zone a) es falls puts)

  -- without an entry of the newest place's request
  walk_past : (p : Placed) (ps : List Placed) (es : List Remapping) → AllByRecursion (λ (e : Remapping). p.request ≢ e.request) es → Fits test script is_set handed a es p
      → Walks test (history_of (histories_of script [] (progress is_set handed) ps) a) es → Walks test (history_of (histories_of script [] (progress is_set handed) (p ∷ ps)) a) es
  walk_past p ps es differ fits walks =
      skip test (request_at script p.request) p.request (mark_of None (is_set p.request) (handed p.request)) (histories_of script [] (progress is_set handed) ps) a es
      (λ r asked at. fits r asked at ∙ not_there es p.request differ) walks

  fits_older : (e : Remapping) (es : List Remapping) (ps : List Placed) → AllByRecursion (λ (q : Placed). q.request ≢ e.request) ps → AllByRecursion (Fits test script is_set handed a (e ∷ es)) ps
      → AllByRecursion (Fits test script is_set handed a es) ps
  fits_older e es ps differ fits =
      every-map {P = λ (q : Placed). (q.request ≢ e.request) × Fits test script is_set handed a (e ∷ es) q} {Q = Fits test script is_set handed a es} (λ q is r asked at. elim (same_tells e.request q.request) [
        | inl same ↦ absurd (is.0 (sym same.1))
        | inr other ↦ rw other.0 at (is.1 r asked at)
      ]) ps (each_both (λ (q : Placed). q.request ≢ e.request) (Fits test script is_set handed a (e ∷ es)) ps differ fits)

  -- the history walks the entries
  pub places_walk : (ps : List Placed) (es : List Remapping) → AreDrawn zones logical script desk ps → IsFalling es → AllByRecursion (IsPut script ps zone a) es → AllByRecursion (Fits test script is_set handed a es) ps
      → Walks test (history_of (histories_of script [] (progress is_set handed) ps) a) es
  places_walk [] [] drawn_so falls puts fits = refl
  places_walk [] (e ∷ es) drawn_so falls puts fits = let none = puts.0.has_place in absurd cc
  places_walk (p ∷ ps) [] drawn_so falls puts fits = walk_past p ps [] tt fits.0 (places_walk ps [] drawn_so.1 tt tt fits.1)
  places_walk (p ∷ ps) (e ∷ es) drawn_so falls puts fits = elim (same_tells p.request e.request) [
    | inl same ↦
        let differ = differ_from p ps e es (λ f less put. below_newest p ps e f same.1 puts.0 less put) falls.0 puts.1 in
        let others = none_named ps e.request (subst (λ (x : Writer). IsNone (place_of ps x)) same.1 drawn_so.0.once) in
        let rest = places_walk ps es drawn_so.1 falls.1 (all_older p ps es differ puts.1) (fits_older e es ps others fits.1) in
        let asks = subst (λ (x : Writer). request_at script x ≡ Some (asked puts.0.asks e.at puts.0.bytes)) (sym same.1) puts.0.asked in
        let mine : is_there (logged_of (e ∷ es) p.request) ≡ true = rw (same.1, same_self e.request) refl in
        let passes = fits.0 _ asks (change_address puts.0.asks e.at puts.0.bytes puts.0.change ∙ ap Some puts.0.at_address) ∙ mine in
        take test (request_at script p.request) p.request (mark_of None (is_set p.request) (handed p.request)) (histories_of script [] (progress is_set handed) ps) a e es puts.0.asks puts.0.bytes puts.0.change asks puts.0.at_address same.1 passes rest
    | inr other ↦
        let put = older_place p ps e other.1 puts.0 in
        let differ = differ_from p ps e es (λ f less puts_f. below_older p ps e f drawn_so put less puts_f) falls.0 puts.1 in
        walk_past p ps (e ∷ es) (other.1, differ) fits.0 (places_walk ps (e ∷ es) drawn_so.1 falls (put, all_older p ps es differ puts.1) fits.1)
  ]
