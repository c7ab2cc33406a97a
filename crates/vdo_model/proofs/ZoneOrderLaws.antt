-- What is right of places in one list is right of each list that has the same places in each zone.
use Rattle.std.proofs.Common.{ℕ, zero, suc, ◌≡◌, ◌≢◌, ◌⊎◌, ◌<◌, ◌≤◌, ◌++◌, List, [], ◌∷◌, Option, Some, None, IsSome, IsNone, length, refl, sym, ◌∙◌, ap, subst, inl, inr, arith}
use Rattle.std.proofs.lemmas.Bool.Decides.{eqb_tells}
use Rattle.std.proofs.lemmas.Option.{same_Some}
use Rattle.std.specs.List.{AllByRecursion}
use Rattle.blk_base.specs.declared.request.Request.{Request}
use Rattle.blk_base.specs.declared.request.Request.TheVariants as request
use Rattle.blk_base.specs.declared.request.Writer.{Writer}
use Rattle.vdo_model.specs.declared.report.DeskLine.{DeskLine}
use Rattle.vdo_model.specs.declared.report.HistoryEntry.{HistoryEntry}
use Rattle.vdo_model.specs.declared.report.Mark.{Mark}
use Rattle.vdo_model.specs.declared.report.Placed.{Placed}
use Rattle.vdo_model.specs.Histories.{Progress, mark_of, entry_of, histories_of, history_of}
use Rattle.vdo_model.specs.DeskLog.{answer_of}
use Rattle.vdo_model.specs.Places.{zone_of, drawn, place_of, IsOfZone, Follows, AreDrawn, ArePlaces}
use Rattle.vdo_model.specs.RightReads.{ReadsRight, value_below}
use Rattle.vdo_model.specs.Scripts.{Script, request_at, address_of}
use Rattle.vdo_model.specs.ZoneOrder.{places_in, by_zone, HaveSameZones}
use Rattle.plain_laws.proofs.OptionLaws.{option_cases}
use Rattle.vdo_model.proofs.NameLaws.{same_tells}

-- a place may follow those of its own zone
record NextInZone (zones logical : ℕ) (script : Script) (desk : List DeskLine) (p : Placed) (mine : List Placed) : Type 0 where
  pub of_zone : IsOfZone zones logical script p
  pub number : p.place ≡ length mine
  pub once : IsNone (place_of mine p.request)
  pub order : AllByRecursion (Follows desk p) mine

-- each place is of this zone, and the next of it
abbrev AreDrawnIn : ℕ → ℕ → Script → List DeskLine → ℕ → List Placed → Type 0
AreDrawnIn zones logical script desk zone [] = Unit {0}
AreDrawnIn zones logical script desk zone (p ∷ older) = (p.zone ≡ zone) × NextInZone zones logical script desk p older × AreDrawnIn zones logical script desk zone older

drawn_length : (zone : ℕ) (ps : List Placed) → drawn zone ps ≡ length (places_in zone ps)
drawn_length zone [] = refl
drawn_length zone (p ∷ older) = elim (eqb_tells p.zone zone) [
  | inl same ↦ rw same.0 (omega (arith, drawn_length zone older))
  | inr other ↦ rw other.0 (drawn_length zone older)
]

-- a request without a place has none in a zone
none_in : (zone : ℕ) (w : Writer) (ps : List Placed) → IsNone (place_of ps w) → IsNone (place_of (places_in zone ps) w)
none_in zone w [] none = refl
none_in zone w (p ∷ older) none = elim (same_tells p.request w) [
  | inl same ↦ let here : IsNone (Some p) = rw same.0 at none in absurd cc
  | inr other ↦
      let rest = none_in zone w older (rw other.0 at none) in
      elim (eqb_tells p.zone zone) [ inl same ↦ rw (same.0, other.0) rest | inr else ↦ rw else.0 rest ]
]

-- what follows each place of a zone, and back
order_in : (desk : List DeskLine) (zone : ℕ) (p : Placed) (ps : List Placed) → AllByRecursion (λ q. q.zone ≡ zone → Follows desk p q) ps → AllByRecursion (Follows desk p) (places_in zone ps)
order_in desk zone p [] order = tt
order_in desk zone p (q ∷ older) order = elim (eqb_tells q.zone zone) [
  | inl same ↦ rw same.0 (order.0 same.1, order_in desk zone p older order.1)
  | inr other ↦ rw other.0 (order_in desk zone p older order.1)
]

order_out : (desk : List DeskLine) (zone : ℕ) (p : Placed) (ps : List Placed) → AllByRecursion (Follows desk p) (places_in zone ps) → AllByRecursion (λ q. q.zone ≡ zone → Follows desk p q) ps
order_out desk zone p [] order = tt
order_out desk zone p (q ∷ older) order = elim (eqb_tells q.zone zone) [
  | inl same ↦ let here : Follows desk p q × AllByRecursion (Follows desk p) (places_in zone older) = rw same.0 at order in ((λ is. here.0), order_out desk zone p older here.1)
  | inr other ↦ ((λ is. absurd (other.1 is)), order_out desk zone p older (rw other.0 at order))
]

-- right places are right in each zone
drawn_in : (zones logical : ℕ) (script : Script) (desk : List DeskLine) (ps : List Placed) → AreDrawn zones logical script desk ps
    → (zone : ℕ) → AreDrawnIn zones logical script desk zone (places_in zone ps)
drawn_in zones logical script desk [] right zone = tt
drawn_in zones logical script desk (p ∷ older) right zone = elim (eqb_tells p.zone zone) [
  | inl same ↦ rw same.0 (
    same.1,
    record {
      of_zone = right.0.zone;
      number = right.0.number ∙ ap (λ (z : ℕ). drawn z older) same.1 ∙ drawn_length zone older;
      once = none_in zone p.request older right.0.once;
      order = order_in desk zone p older (subst (λ (z : ℕ). AllByRecursion (λ q. q.zone ≡ z → Follows desk p q) older) same.1 right.0.order);
    },
    drawn_in zones logical script desk older right.1 zone,
  )
  | inr other ↦ rw other.0 (drawn_in zones logical script desk older right.1 zone)
]

-- in each zone they are
abbrev InEachZone : ℕ → ℕ → Script → List DeskLine → List Placed → Type 0
InEachZone zones logical script desk ps = (zone : ℕ) → AreDrawnIn zones logical script desk zone (places_in zone ps)

in_rest : (zones logical : ℕ) (script : Script) (desk : List DeskLine) (p : Placed) (older : List Placed) → InEachZone zones logical script desk (p ∷ older) → InEachZone zones logical script desk older
in_rest zones logical script desk p older each zone =
    let mine : AreDrawnIn zones logical script desk zone (places_in zone (p ∷ older)) = each zone in
    elim (eqb_tells p.zone zone) [
      | inl same ↦ let here : AreDrawnIn zones logical script desk zone (p ∷ places_in zone older) = rw same.0 at mine in here.2
      | inr other ↦ rw other.0 at mine
    ]

in_own : (zones logical : ℕ) (script : Script) (desk : List DeskLine) (p : Placed) (older : List Placed) → InEachZone zones logical script desk (p ∷ older)
    → NextInZone zones logical script desk p (places_in p.zone older)
in_own zones logical script desk p older each =
    let mine : AreDrawnIn zones logical script desk p.zone (places_in p.zone (p ∷ older)) = each p.zone in
    elim (eqb_tells p.zone p.zone) [
      | inl same ↦ let here : AreDrawnIn zones logical script desk p.zone (p ∷ places_in p.zone older) = rw same.0 at mine in here.1
      | inr other ↦ absurd (other.1 refl)
    ]

all_of_zone : (zones logical : ℕ) (script : Script) (desk : List DeskLine) (ps : List Placed) → InEachZone zones logical script desk ps → AllByRecursion (IsOfZone zones logical script) ps
all_of_zone zones logical script desk [] each = tt
all_of_zone zones logical script desk (p ∷ older) each = ((in_own zones logical script desk p older each).of_zone, all_of_zone zones logical script desk older (in_rest zones logical script desk p older each))

-- the zone of a place is that of the address of its request
zone_is : (zones logical : ℕ) (script : Script) (p : Placed) (r : Request) (a : ℕ) → IsOfZone zones logical script p → request_at script p.request ≡ Some r → address_of r ≡ Some a
    → p.zone ≡ zone_of zones a
zone_is zones logical script p r a (q, b, asked, has, below, zone) asked_too has_too =
    let r_is : q ≡ r = same_Some _ _ (sym asked ∙ asked_too) in
    let a_is : b ≡ a = same_Some _ _ (sym has ∙ ap address_of r_is ∙ has_too) in
    zone ∙ ap (zone_of zones) a_is

-- so the place of a request is found in that zone alone
place_in_zone : (zones logical : ℕ) (script : Script) (ps : List Placed) (w : Writer) (r : Request) (a : ℕ) → AllByRecursion (IsOfZone zones logical script) ps
    → request_at script w ≡ Some r → address_of r ≡ Some a → place_of ps w ≡ place_of (places_in (zone_of zones a) ps) w
place_in_zone zones logical script [] w r a all asked has = refl
place_in_zone zones logical script (p ∷ older) w r a all asked has = elim (same_tells p.request w) [
  | inl same ↦
      let zone = zone_is zones logical script p r a all.0 (subst (λ (x : Writer). request_at script x ≡ Some r) (sym same.1) asked) has in
      elim (eqb_tells p.zone (zone_of zones a)) [ inl here ↦ rw (here.0, same.0) refl | inr else ↦ absurd (else.1 zone) ]
  | inr other ↦
      let rest = place_in_zone zones logical script older w r a all.1 asked has in
      elim (eqb_tells p.zone (zone_of zones a)) [ inl here ↦ rw (here.0, other.0) rest | inr else ↦ rw (else.0, other.0) rest ]
]

-- a request that isn't there, or has no address, has no place
no_place : (zones logical : ℕ) (script : Script) (ps : List Placed) (w : Writer) → AllByRecursion (IsOfZone zones logical script) ps
    → ((r : Request) (a : ℕ) → request_at script w ≡ Some r → address_of r ≡ Some a → ⊥) → place_of ps w ≡ None
no_place zones logical script [] w all none = refl
no_place zones logical script (p ∷ older) w all none = elim (same_tells p.request w) [
  | inl same ↦
      let (r, a, asked, has, below, zone) = all.0 in
      absurd (none r a (subst (λ (x : Writer). request_at script x ≡ Some r) same.1 asked) has)
  | inr other ↦ rw other.0 (no_place zones logical script older w all.1 none)
]

-- right in each zone is right
drawn_out : (zones logical : ℕ) (script : Script) (desk : List DeskLine) (ps : List Placed) → InEachZone zones logical script desk ps → AreDrawn zones logical script desk ps
drawn_out zones logical script desk [] each = tt
drawn_out zones logical script desk (p ∷ older) each =
    let own = in_own zones logical script desk p older each in
    let rest = in_rest zones logical script desk p older each in
    let all = all_of_zone zones logical script desk older rest in
    let (r, a, asked, has, below, zone) = own.of_zone in
    let found = place_in_zone zones logical script older p.request r a all asked has in (
      record {
        number = own.number ∙ sym (drawn_length p.zone older);
        once = subst (λ (o : Option Placed). IsNone o) (sym found) (subst (λ (z : ℕ). IsNone (place_of (places_in z older) p.request)) zone own.once);
        zone = own.of_zone;
        order = order_out desk p.zone p older own.order;
      },
      drawn_out zones logical script desk older rest,
    )

pub drawn_same : (zones logical : ℕ) (script : Script) (desk : List DeskLine) (ps qs : List Placed) → HaveSameZones ps qs → AreDrawn zones logical script desk ps → AreDrawn zones logical script desk qs
drawn_same zones logical script desk ps qs same right =
    drawn_out zones logical script desk qs (λ zone. subst (AreDrawnIn zones logical script desk zone) (same zone) (drawn_in zones logical script desk ps right zone))

of_zone_drawn : (zones logical : ℕ) (script : Script) (desk : List DeskLine) (ps : List Placed) → AreDrawn zones logical script desk ps → AllByRecursion (IsOfZone zones logical script) ps
of_zone_drawn zones logical script desk [] right = tt
of_zone_drawn zones logical script desk (p ∷ older) right = (right.0.zone, of_zone_drawn zones logical script desk older right.1)

-- each request has the same place in both
pub place_same : (zones logical : ℕ) (script : Script) (ps qs : List Placed) (w : Writer) → HaveSameZones ps qs
    → AllByRecursion (IsOfZone zones logical script) ps → AllByRecursion (IsOfZone zones logical script) qs → place_of ps w ≡ place_of qs w
place_same zones logical script ps qs w same all all' = elim (option_cases (request_at script w)) [
  | inl missing ↦ both (λ r a asked has. let none = sym missing ∙ asked in cc)
  | inr asks ↦ elim (option_cases (address_of asks.0)) [
    | inl bare ↦ both (λ r a asked has.
        let r_is : asks.0 ≡ r = same_Some _ _ (sym asks.1 ∙ asked) in
        let none = sym bare ∙ ap address_of r_is ∙ has in
        cc)
    | inr at ↦
        place_in_zone zones logical script ps w asks.0 at.0 all asks.1 at.1
        ∙ ap (λ (mine : List Placed). place_of mine w) (same (zone_of zones at.0))
        ∙ sym (place_in_zone zones logical script qs w asks.0 at.0 all' asks.1 at.1)
  ]
]
  where
    both : ((r : Request) (a : ℕ) → request_at script w ≡ Some r → address_of r ≡ Some a → ⊥) → place_of ps w ≡ place_of qs w
    both none = no_place zones logical script ps w all none ∙ sym (no_place zones logical script qs w all' none)

-- the history of an address in a list of two parts
history_parts : (xs ys : List HistoryEntry) (a : ℕ) → history_of (xs ++ ys) a ≡ history_of xs a ++ history_of ys a
history_parts [] ys a = refl
history_parts (x ∷ xs) ys a = elim (eqb_tells x.at.0 a) [
  | inl same ↦ rw same.0 (ap (λ (es : List HistoryEntry). x ∷ es) (history_parts xs ys a))
  | inr other ↦ rw other.0 (history_parts xs ys a)
]

-- a request of another address adds nothing
entry_elsewhere : (r : Request) (w : Writer) (mark : Mark) (b a : ℕ) → address_of r ≡ Some b → b ≢ a → history_of (entry_of (Some r) w mark) a ≡ []
entry_elsewhere (request.Read at) w mark b a has else = refl
entry_elsewhere request.Flush w mark b a has else = refl
entry_elsewhere (request.Write at bytes fua) w mark b a has else =
    let at_is : at.0 ≡ b = same_Some _ _ has in
    elim (eqb_tells at.0 a) [ inl same ↦ absurd (else (sym at_is ∙ same.1)) | inr other ↦ rw other.0 refl ]
entry_elsewhere (request.Discard at) w mark b a has else =
    let at_is : at.0 ≡ b = same_Some _ _ has in
    elim (eqb_tells at.0 a) [ inl same ↦ absurd (else (sym at_is ∙ same.1)) | inr other ↦ rw other.0 refl ]

-- the history of an address comes of its zone alone
history_in_zone : (zones logical : ℕ) (script : Script) (desk : List DeskLine) (progress : Progress) (ps : List Placed) (a : ℕ) → AllByRecursion (IsOfZone zones logical script) ps
    → history_of (histories_of script desk progress ps) a ≡ history_of (histories_of script desk progress (places_in (zone_of zones a) ps)) a
history_in_zone zones logical script desk progress [] a all = refl
history_in_zone zones logical script desk progress (p ∷ older) a all =
    let (r, b, asked, has, below, zone) = all.0 in
    let mark = mark_of (answer_of desk p.request) (progress.is_set p.request) (progress.is_handed p.request) in
    let mine = entry_of (request_at script p.request) p.request mark in
    let rest = history_in_zone zones logical script desk progress older a all.1 in
    history_parts mine (histories_of script desk progress older) a ∙
    elim (eqb_tells p.zone (zone_of zones a)) [
      | inl here ↦ rw here.0 (
          ap (λ (es : List HistoryEntry). history_of mine a ++ es) rest ∙ sym (history_parts mine (histories_of script desk progress (places_in (zone_of zones a) older)) a)
          )
      | inr other ↦
          let else : b ≢ a = λ same. other.1 (zone ∙ ap (zone_of zones) same) in
          let nothing : history_of mine a ≡ [] = rw asked (entry_elsewhere r p.request mark b a has else) in
          rw (other.0, nothing) rest
    ]

pub history_same : (zones logical : ℕ) (script : Script) (desk : List DeskLine) (progress : Progress) (ps qs : List Placed) (a : ℕ) → HaveSameZones ps qs
    → AllByRecursion (IsOfZone zones logical script) ps → AllByRecursion (IsOfZone zones logical script) qs
    → history_of (histories_of script desk progress ps) a ≡ history_of (histories_of script desk progress qs) a
history_same zones logical script desk progress ps qs a same all all' =
    history_in_zone zones logical script desk progress ps a all
    ∙ ap (λ (mine : List Placed). history_of (histories_of script desk progress mine) a) (same (zone_of zones a))
    ∙ sym (history_in_zone zones logical script desk progress qs a all')

pub drawn_history_same : (zones logical : ℕ) (script : Script) (desk : List DeskLine) (progress : Progress) (ps qs : List Placed) (a : ℕ) → HaveSameZones ps qs
    → AreDrawn zones logical script desk ps → history_of (histories_of script desk progress ps) a ≡ history_of (histories_of script desk progress qs) a
drawn_history_same zones logical script desk progress ps qs a same right =
    history_same zones logical script desk progress ps qs a same (of_zone_drawn zones logical script desk ps right)
    (of_zone_drawn zones logical script desk qs (drawn_same zones logical script desk ps qs same right))

-- a value below a place, where each request has the same place
value_same : (script : Script) (ps qs : List Placed) (opening : List ℕ) (history : List HistoryEntry) (n : ℕ) → ((w : Writer) → place_of ps w ≡ place_of qs w)
    → value_below script ps opening history n ≡ value_below script qs opening history n
value_same script ps qs opening [] n same = refl
value_same script ps qs opening (entry ∷ older) n same = rw (same entry.request, value_same script ps qs opening older n same) refl

pub places_same : (zones logical : ℕ) (script : Script) (desk : List DeskLine) (ps qs : List Placed) → HaveSameZones ps qs → ArePlaces zones logical script desk ps → ArePlaces zones logical script desk qs
places_same zones logical script desk ps qs same right =
    let drawn' = drawn_same zones logical script desk ps qs same right.places_drawn in
    record {
      places_drawn = drawn';
      all = λ w r a asked has below answered.
          let found = place_same zones logical script ps qs w same (of_zone_drawn zones logical script desk ps right.places_drawn) (of_zone_drawn zones logical script desk qs drawn') in
          elim (right.all w r a asked has below answered) [
            | inl placed ↦ inl (subst (λ (o : Option Placed). IsSome o) found placed)
            | inr at_once ↦ inr at_once
          ];
    }

pub reads_same : (zones logical : ℕ) (script : Script) (desk : List DeskLine) (progress : Progress) (opening : ℕ → List ℕ) (ps qs : List Placed) → HaveSameZones ps qs
    → AreDrawn zones logical script desk ps
    → ReadsRight opening script desk ps (histories_of script desk progress ps) → ReadsRight opening script desk qs (histories_of script desk progress qs)
reads_same zones logical script desk progress opening ps qs same right reads w at bytes p asked answered placed =
    let all = of_zone_drawn zones logical script desk ps right in
    let all' = of_zone_drawn zones logical script desk qs (drawn_same zones logical script desk ps qs same right) in
    let found : (v : Writer) → place_of ps v ≡ place_of qs v = λ v. place_same zones logical script ps qs v same all all' in
    reads w at bytes p asked answered (found w ∙ placed)
    ∙ ap (λ (history : List HistoryEntry). value_below script ps (opening at.0) history p.place) (history_same zones logical script desk progress ps qs at.0 same all all')
    ∙ value_same script ps qs (opening at.0) (history_of (histories_of script desk progress qs) at.0) p.place found

-- The zones' own lists, one behind the other.

in_parts : (zone : ℕ) (xs ys : List Placed) → places_in zone (xs ++ ys) ≡ places_in zone xs ++ places_in zone ys
in_parts zone [] ys = refl
in_parts zone (x ∷ xs) ys = elim (eqb_tells x.zone zone) [
  | inl same ↦ rw same.0 (ap (λ (ps : List Placed). x ∷ ps) (in_parts zone xs ys))
  | inr other ↦ rw other.0 (in_parts zone xs ys)
]

in_itself : (zone : ℕ) (ps : List Placed) → places_in zone (places_in zone ps) ≡ places_in zone ps
in_itself zone [] = refl
in_itself zone (p ∷ older) = elim (eqb_tells p.zone zone) [
  | inl same ↦ rw (same.0, same.0) (ap (λ (ps : List Placed). p ∷ ps) (in_itself zone older))
  | inr other ↦ rw other.0 (in_itself zone older)
]

in_another : (zone other : ℕ) (ps : List Placed) → zone ≢ other → places_in zone (places_in other ps) ≡ []
in_another zone other [] apart = refl
in_another zone other (p ∷ older) apart = elim (eqb_tells p.zone other) [
  | inl same ↦ rw same.0 (elim (eqb_tells p.zone zone) [ inl too ↦ absurd (apart (sym too.1 ∙ same.1)) | inr else ↦ rw else.0 (in_another zone other older apart) ])
  | inr else ↦ rw else.0 (in_another zone other older apart)
]

past_all : (zones zone : ℕ) (ps : List Placed) → zones ≤ zone → places_in zone (by_zone zones ps) ≡ []
past_all zero zone ps past = refl
past_all (suc zones) zone ps past =
    in_parts zone (places_in zones ps) (by_zone zones ps)
    ∙ rw (in_another zone zones ps (λ same. absurd (omega (arith, same)))) (past_all zones zone ps (omega arith))

listed_below : (zones zone : ℕ) (ps : List Placed) → zone < zones → places_in zone (by_zone zones ps) ≡ places_in zone ps
listed_below zero zone ps below = absurd (omega arith)
listed_below (suc zones) zone ps below =
    in_parts zone (places_in zones ps) (by_zone zones ps)
    ∙ elim (eqb_tells zone zones) [
      | inl same ↦ rw (same.1, in_itself zones ps, past_all zones zones ps (omega arith)) (append_nil (places_in zones ps))
      | inr other ↦ rw (in_another zone zones ps other.1) (listed_below zones zone ps (omega (arith, other.1)))
    ]
  where
    append_nil : (xs : List Placed) → xs ++ [] ≡ xs
    append_nil [] = refl
    append_nil (x ∷ xs) = ap (λ (ys : List Placed). x ∷ ys) (append_nil xs)

-- a zone past all has no place
none_past : (zones logical : ℕ) (script : Script) (zone : ℕ) (ps : List Placed) → 1 ≤ zones → zones ≤ zone → AllByRecursion (IsOfZone zones logical script) ps → places_in zone ps ≡ []
none_past zones logical script zone [] some past all = refl
none_past zones logical script zone (p ∷ older) some past all =
    let (r, a, asked, has, below, zone_is) = all.0 in
    elim (eqb_tells p.zone zone) [
      | inl same ↦ absurd (omega (arith, same.1, zone_is))
      | inr other ↦ rw other.0 (none_past zones logical script zone older some past all.1)
    ]

pub listed_same : (zones logical : ℕ) (script : Script) (desk : List DeskLine) (ps : List Placed) → 1 ≤ zones → AreDrawn zones logical script desk ps → HaveSameZones ps (by_zone zones ps)
listed_same zones logical script desk ps some right zone = elim (below_or_past zone zones) [
  | inl below ↦ sym (listed_below zones zone ps below)
  | inr past ↦ none_past zones logical script zone ps some past (of_zone_drawn zones logical script desk ps right) ∙ sym (past_all zones zone ps past)
]
  where
    below_or_past : (n m : ℕ) → (n < m) ⊎ (m ≤ n)
    below_or_past n zero = inr (omega arith)
    below_or_past zero (suc m) = inl (omega arith)
    below_or_past (suc n) (suc m) = elim (below_or_past n m) [ inl below ↦ inl (omega arith) | inr past ↦ inr (omega arith) ]
