-- The histories of a right trace: which entries of its address one walks, and what each entry says.
use Rattle.std.proofs.Common.{ℕ, ◌≡◌, ◌==◌, Bool, true, false, List, [], ◌∷◌, Some, None, refl, sym, ◌∙◌, ap, subst, inl, inr, ◌+◌, ◌<◌, ◌≤◌, ◌++◌, Option, IsNone, arith}
use Rattle.core_laws.proofs.Common.{AllByRecursion, AreDrawn, DeskLine, HistoryEntry, IsWrite, Lba, Remapping, Mark, Placed, Request, RightTrace, Script, Session, Trace, Writer, address_of, asked, cases_Bool, done, drawn, each_both, entered, eqb_tells, every-map, lines, logged_of, not_both, of_address, place_of, places, request_at, same_self, same_Some, same_tells, zone_of}
use Rattle.vdo_model.specs.LastParts.{is_lasting}
use Rattle.vdo_model.specs.Histories.{mark_of, history_of, is_settled, histories_of}
use Rattle.core_model.specs.Reports.{is_there, set_in, handed_in, drawn_histories}
use Rattle.core_laws.proofs.lists.Changes.{change_address, maps_change}
use Rattle.core_laws.proofs.trace.DeskOfTrace.{each_of_address, are_of_address, entered_writes, done_writes}
use Rattle.core_laws.proofs.trace.PlacesOfTrace.{places_drawn}
use Rattle.core_laws.proofs.trace.TurnsOfTrace.{entered_falling, done_falling}
use Rattle.core_laws.proofs.trace.Walks.{Walks, IsPut, Fits, places_walk, progress, drawn_more, drawn_one}
use Rattle.core_laws.proofs.trace.AnswersOfTrace.{set_is_handed, histories_are}
use Rattle.blk_base.specs.declared.request.Request.TheVariants as request
use Rattle.vdo_model.specs.Histories as model
use Rattle.vdo_model.specs.Places.{placed}

-- The histories of a right trace: the history of an address walks the entries of the address that were handed in, and
-- those whose slots were set.

-- the entries of an address are of writes and discards of it, with their places
pub writes_put : (s : Session) (t : Trace) (a : ℕ) (es : List Remapping) → AllByRecursion (IsWrite s t) es → AllByRecursion (IsPut s.script (places t) (zone_of s.sizes.zones a) a) (of_address a es)
writes_put s t a es writes =
    every-map {P = λ (e : Remapping). IsWrite s t e × (e.at.0 ≡ a)} {Q = IsPut s.script (places t) (zone_of s.sizes.zones a) a} (λ e is. record {
      asks = is.0.asks;
      bytes = is.0.bytes;
      asked = is.0.asked;
      change = maps_change is.0.asks is.0.bytes e.new is.0.maps;
      at_address = is.1;
      has_place = subst (λ (b : ℕ). place_of (places t) e.request ≡ Some (record { request = e.request; zone = zone_of s.sizes.zones b; place = e.place })) is.1 is.0.placed;
    }) (of_address a es) (each_both (IsWrite s t) (λ (e : Remapping). e.at.0 ≡ a) (of_address a es) (each_of_address (IsWrite s t) a es writes) (are_of_address a es))

-- the entry of a request of this address is among those of the address
pub logged_at : (s : Session) (t : Trace) (a : ℕ) (es : List Remapping) (w : Writer) (r : Request) → AllByRecursion (IsWrite s t) es → request_at s.script w ≡ Some r → address_of r ≡ Some a
    → logged_of (of_address a es) w ≡ logged_of es w
logged_at s t a [] w r writes asks has = refl
logged_at s t a (e ∷ es) w r writes asks has =
    let rest = logged_at s t a es w r writes.1 asks has in
    elim (same_tells e.request w) [
      | inl same ↦
          let write = writes.0 in
          let mine = subst (λ (x : Writer). request_at s.script x ≡ Some (asked write.asks e.at write.bytes)) same.1 write.asked in
          let r_is : asked write.asks e.at write.bytes ≡ r = same_Some _ _ (sym mine ∙ asks) in
          let change = maps_change write.asks write.bytes e.new write.maps in
          let here : Some e.at.0 ≡ Some a = sym (change_address write.asks e.at write.bytes change) ∙ subst (λ (q : Request). address_of q ≡ Some a) (sym r_is) has in
          elim (eqb_tells e.at.0 a) [
            | inl there ↦ rw (there.0, same.0) refl
            | inr other ↦ absurd (other.1 (same_Some e.at.0 a here))
          ]
      | inr other ↦ elim (cases_Bool (e.at.0 == a)) [
        | inl taken ↦ rw (taken, other.0) rest
        | inr passed ↦ rw (passed, other.0) rest
      ]
    ]

-- an unanswered write lasts where it was handed in
pub lasting_is : (is_set handed : Bool) → (is_set ≡ true → handed ≡ true) → is_lasting true (mark_of None is_set handed) ≡ handed
lasting_is true handed both = sym (both refl)
lasting_is false true both = refl
lasting_is false false both = refl

-- and is settled where its slot is set
pub settled_is : (is_set handed : Bool) → is_settled (mark_of None is_set handed) ≡ is_set
settled_is true handed = refl
settled_is false true = refl
settled_is false false = refl

every : (P : Placed → Type 0) (ps : List Placed) → ((p : Placed) → P p) → AllByRecursion P ps
every P [] all = tt
every P (p ∷ ps) all = (all p, every P ps all)

-- the history of an address walks its entries that were handed in: its settled and unsettled entries stand for them
pub entered_walks : (s : Session) (t : Trace) (a : ℕ) → RightTrace s t → Walks (is_lasting true) (history_of (drawn_histories s t) a) (of_address a (entered t))
entered_walks s t a right =
    let writes = entered_writes s t right in
    let fits : AllByRecursion (Fits (is_lasting true) s.script (set_in t) (handed_in t) a (of_address a (entered t))) (places t) =
    every _ (places t) (λ p r asked has.
    lasting_is (set_in t p.request) (handed_in t p.request) (set_is_handed s t p.request right)
    ∙ ap is_there (sym (logged_at s t a (entered t) p.request r writes asked has))) in
    subst (λ (hs : List HistoryEntry). Walks (is_lasting true) (history_of hs a) (of_address a (entered t))) (sym (histories_are s t right))
    (places_walk (is_lasting true) s.sizes.zones s.sizes.geometry.logical s.script (lines t) (set_in t) (handed_in t) (zone_of s.sizes.zones a) a (places t) (of_address a (entered t))
    (places_drawn s t right) (entered_falling s t a right) (writes_put s t a (entered t) writes) fits)

-- and those whose slots were set: its settled entries stand for these
pub settled_walks : (s : Session) (t : Trace) (a : ℕ) → RightTrace s t → Walks is_settled (history_of (drawn_histories s t) a) (of_address a (done t))
settled_walks s t a right =
    let writes = done_writes s t right in
    let fits : AllByRecursion (Fits is_settled s.script (set_in t) (handed_in t) a (of_address a (done t))) (places t) =
    every _ (places t) (λ p r asked has.
    settled_is (set_in t p.request) (handed_in t p.request)
    ∙ ap is_there (sym (logged_at s t a (done t) p.request r writes asked has))) in
    subst (λ (hs : List HistoryEntry). Walks is_settled (history_of hs a) (of_address a (done t))) (sym (histories_are s t right))
    (places_walk is_settled s.sizes.zones s.sizes.geometry.logical s.script (lines t) (set_in t) (handed_in t) (zone_of s.sizes.zones a) a (places t) (of_address a (done t))
    (places_drawn s t right) (done_falling s t a right) (writes_put s t a (done t) writes) fits)

-- The entries of a history of a right trace: their places fall, and their marks say whether they were handed in and set.

-- the places of a history's entries, all of one zone, fall from below this number
abbrev pub IsFallingIn : List Placed → ℕ → ℕ → List HistoryEntry → Type 0
IsFallingIn ps zone high [] = Unit {0}
IsFallingIn ps zone high (h ∷ hs) = (k : ℕ) × (place_of ps h.request ≡ Some (placed h.request zone k)) × (k < high) × IsFallingIn ps zone k hs

falling_higher : (ps : List Placed) (zone low high : ℕ) (hs : List HistoryEntry) → low ≤ high → IsFallingIn ps zone low hs → IsFallingIn ps zone high hs
falling_higher ps zone low high [] le falls = tt
falling_higher ps zone low high (h ∷ hs) le (k, is, less, rest) = (k, is, omega arith, rest)

falling_more : (p : Placed) (ps : List Placed) (zone high : ℕ) (hs : List HistoryEntry) → IsNone (place_of ps p.request) → IsFallingIn ps zone high hs → IsFallingIn (p ∷ ps) zone high hs
falling_more p ps zone high [] none falls = tt
falling_more p ps zone high (h ∷ hs) none (k, is, less, rest) =
    let still : place_of (p ∷ ps) h.request ≡ Some (placed h.request zone k) = elim (same_tells p.request h.request) [
      | inl same ↦ absurd (not_both (place_of ps h.request) _ (subst (λ (x : Writer). IsNone (place_of ps x)) same.1 none) is)
      | inr other ↦ rw other.0 is
    ] in
    (k, still, less, falling_more p ps zone k hs none rest)

falling_entry : (o : Option Request) (w : Writer) (mark : Mark) (hs : List HistoryEntry) (ps : List Placed) (zone a k high : ℕ)
    → ((r : Request) → o ≡ Some r → address_of r ≡ Some a → (place_of ps w ≡ Some (placed w zone k)) × (k < high)) → k ≤ high
    → IsFallingIn ps zone k (history_of hs a) → IsFallingIn ps zone high (history_of (model.entry_of o w mark ++ hs) a)
falling_entry None w mark hs ps zone a k high is le falls = falling_higher ps zone k high (history_of hs a) le falls
falling_entry (Some (request.Read at)) w mark hs ps zone a k high is le falls = falling_higher ps zone k high (history_of hs a) le falls
falling_entry (Some request.Flush) w mark hs ps zone a k high is le falls = falling_higher ps zone k high (history_of hs a) le falls
falling_entry (Some (request.Write at bytes fua)) w mark hs ps zone a k high is le falls = elim (eqb_tells at.0 a) [
  | inl same ↦ let here = is _ refl (ap Some same.1) in rw same.0 (k, here.0, here.1, falls)
  | inr other ↦ rw other.0 (falling_higher ps zone k high (history_of hs a) le falls)
]
falling_entry (Some (request.Discard at)) w mark hs ps zone a k high is le falls = elim (eqb_tells at.0 a) [
  | inl same ↦ let here = is _ refl (ap Some same.1) in rw same.0 (k, here.0, here.1, falls)
  | inr other ↦ rw other.0 (falling_higher ps zone k high (history_of hs a) le falls)
]

history_falling : (zones logical : ℕ) (script : Script) (desk log : List DeskLine) (is_set handed : Writer → Bool) (a : ℕ) (ps : List Placed) → AreDrawn zones logical script log ps
    → IsFallingIn ps (zone_of zones a) (drawn (zone_of zones a) ps) (history_of (histories_of script desk (progress is_set handed) ps) a)
history_falling zones logical script desk log is_set handed a [] drawn_so = tt
history_falling zones logical script desk log is_set handed a (p ∷ ps) drawn_so =
    let zone : ℕ = zone_of zones a in
    let (r, b, asked, has, below, zone_is) = drawn_so.0.zone in
    let rest = falling_more p ps zone (drawn zone ps) (history_of (histories_of script desk (progress is_set handed) ps) a) drawn_so.0.once (history_falling zones logical script desk log is_set handed a ps drawn_so.1) in
    falling_entry (request_at script p.request) p.request _ (histories_of script desk (progress is_set handed) ps) (p ∷ ps) zone a (drawn zone ps) (drawn zone (p ∷ ps))
    (λ q q_is at.
    let q_same : r ≡ q = same_Some r q (sym asked ∙ q_is) in
    let b_is : b ≡ a = same_Some b a (sym has ∙ ap address_of q_same ∙ at) in
    let in_zone : p.zone ≡ zone = zone_is ∙ ap (zone_of zones) b_is in
    let number : p.place ≡ drawn zone ps = drawn_so.0.number ∙ ap (λ (z : ℕ). drawn z ps) in_zone in
    let more : drawn zone (p ∷ ps) ≡ drawn zone ps + 1 = subst (λ (z : ℕ). drawn z (p ∷ ps) ≡ drawn z ps + 1) in_zone (drawn_one p ps) in
    (rw (same_self p.request) (ap Some (placed_is p.request p.zone p.place zone (drawn zone ps) in_zone number)), omega (arith, more)))
    (drawn_more zone p ps) rest
  where
    placed_is : (w : Writer) (z k z' k' : ℕ) → z ≡ z' → k ≡ k' → placed w z k ≡ placed w z' k'
    placed_is w z k z' k' p q = cc

-- the entries of an address fall strictly in place
pub history_falls : (s : Session) (t : Trace) (a : ℕ) → RightTrace s t
    → IsFallingIn (places t) (zone_of s.sizes.zones a) (drawn (zone_of s.sizes.zones a) (places t)) (history_of (drawn_histories s t) a)
history_falls s t a right =
    history_falling s.sizes.zones s.sizes.geometry.logical s.script (lines t) (lines t) (set_in t) (handed_in t) a (places t) (places_drawn s t right)

-- An entry of an address: of a write or a discard of it, settled where its slot is set, settled or unsettled where it was
-- handed in.
pub record IsEntryOf (s : Session) (t : Trace) (a : ℕ) (h : HistoryEntry) : Type 0 where
  pub at_address : h.at.0 ≡ a
  pub asked : (r : Request) × (request_at s.script h.request ≡ Some r) × (address_of r ≡ Some a)
  pub set_so : is_settled h.mark ≡ set_in t h.request
  pub handed_so : is_lasting true h.mark ≡ handed_in t h.request

entry_has : (P : HistoryEntry → Type 0) (o : Option Request) (w : Writer) (mark : Mark) (hs : List HistoryEntry) (a : ℕ)
    → ((r : Request) (at : Lba) → o ≡ Some r → address_of r ≡ Some a → at.0 ≡ a → P (record { at = at; request = w; mark = mark }))
    → AllByRecursion P (history_of hs a) → AllByRecursion P (history_of (model.entry_of o w mark ++ hs) a)
entry_has P None w mark hs a is each = each
entry_has P (Some (request.Read at)) w mark hs a is each = each
entry_has P (Some request.Flush) w mark hs a is each = each
entry_has P (Some (request.Write at bytes fua)) w mark hs a is each = elim (eqb_tells at.0 a) [
  | inl same ↦ rw same.0 (is _ at refl (ap Some same.1) same.1, each)
  | inr other ↦ rw other.0 each
]
entry_has P (Some (request.Discard at)) w mark hs a is each = elim (eqb_tells at.0 a) [
  | inl same ↦ rw same.0 (is _ at refl (ap Some same.1) same.1, each)
  | inr other ↦ rw other.0 each
]

each_entry : (s : Session) (t : Trace) (a : ℕ) (ps : List Placed) → RightTrace s t → AllByRecursion (IsEntryOf s t a) (history_of (histories_of s.script [] (progress (set_in t) (handed_in t)) ps) a)
each_entry s t a [] right = tt
each_entry s t a (p ∷ ps) right =
    entry_has (IsEntryOf s t a) (request_at s.script p.request) p.request (mark_of None (set_in t p.request) (handed_in t p.request)) (histories_of s.script [] (progress (set_in t) (handed_in t)) ps) a
    (λ r at asked has at_is. record {
      at_address = at_is;
      asked = (r, asked, has);
      set_so = settled_is (set_in t p.request) (handed_in t p.request);
      handed_so = lasting_is (set_in t p.request) (handed_in t p.request) (set_is_handed s t p.request right);
    })
    (each_entry s t a ps right)

-- each entry of the history of an address is one
pub entries_are : (s : Session) (t : Trace) (a : ℕ) → RightTrace s t → AllByRecursion (IsEntryOf s t a) (history_of (drawn_histories s t) a)
entries_are s t a right = subst (λ (hs : List HistoryEntry). AllByRecursion (IsEntryOf s t a) (history_of hs a)) (sym (histories_are s t right)) (each_entry s t a (places t) right)
