-- What the entries of a session give on top of the opened image: where its pages are linked, and what an address is mapped to.
use Rattle.std.proofs.Common.{◌≡◌, ◌⊎◌, ℕ, zero, suc, ◌+◌, ◌-◌, ◌/◌, ◌%◌, ◌<◌, Bool, true, false, if◌then◌else◌, Option, None, Some, IsSome, List, [], ◌∷◌, ◌++◌, map, refl, sym, ◌∙◌, ap, subst, inl, inr, arith}
use Rattle.std.proofs.Math.Nat.{mod-lt, mod-one}
use Rattle.blk_base.specs.Regions.{Root, block_of}
use Rattle.blk_base.specs.declared.place.Lba.{Lba}
use Rattle.block_map_tree.proofs.PageLaws.{root_or_lower}
use Rattle.block_map_tree.specs.Pages.{IsForest, IsOnPath}
use Rattle.block_map_tree.specs.declared.forms.Forest.{Forest}
use Rattle.core_laws.proofs.kept.OpenedBlocks.{not_opened}
use Rattle.core_laws.proofs.logical.PagePaths.{above_path}
use Rattle.core_model.specs.RightTraces.{MapsTo}
use Rattle.data_vio.specs.Vios.{asked}
use Rattle.data_vio.specs.declared.items.Asks.{Asks}
use Rattle.data_vio.specs.declared.items.Asks.TheVariants.{Read, Write, Discard, Flush}
use Rattle.image_model.specs.Maps.{or_else}
use Rattle.journal_stops.proofs.OpenedLaws.{all_new, all_new_page, all_old, all_old_page}
use Rattle.core_laws.proofs.Common.{Enters, IsAsOpened, IsSession, Logged, Makes, Mapping, Pbn, Remapping, Remaps, Request, RightTrace, Session, Trace, Writer, address_of, cases_Bool, entry_of, eq-eqb, eqb_tells, journaled, lt-ltb, mapping_by, mapped_or, newest, of_address, opened_at, opened_image, place_of, places, remappings, request_at, same_Some, some_is, some_of}
use Rattle.blk_base.specs.Pages.{above, leaf_of, page_above}
use Rattle.blk_base.specs.declared.journal_entry.CommittedEntry.{CommittedEntry}
use Rattle.blk_base.specs.declared.journal_entry.Entry.TheVariants as entry
use Rattle.blk_base.specs.declared.place.Mapping.TheVariants.{At}
use Rattle.blk_base.specs.declared.place.PageId.{PageId}
use Rattle.blk_base.specs.declared.request.Request.TheVariants as request
use Rattle.core_model.proofs.TreeLinks.{page_is}
use Rattle.core_model.specs.PageLinks.{IsThere, MayLack, page_in}
use Rattle.core_model.specs.Sessions.{said_by}
use Rattle.image_model.specs.Pages.{is_page}
use Rattle.journal_stops.specs.Mapped.{mapping_after, newest_for, newest_page, page_after}
use Rattle.core_laws.proofs.trace.PagesOfTrace.{leafy_entered, linked_entered}
use Rattle.core_laws.proofs.trace.PlacesOfTrace.{place_of_zone, places_drawn}

-- What the entries of a window give, by those that were handed in.

abbrev pub given_by : Option Remapping → Option Mapping
given_by None = None
given_by (Some e) = Some e.new

pub newest_said : (es : List Logged) (window : List CommittedEntry) (a : ℕ) → map entry_of es ≡ said_by window → newest_for window a ≡ given_by (newest (of_address a (remappings es)))
newest_said [] [] a said = refl
newest_said [] (c ∷ window) a said = absurd cc
newest_said (e ∷ es) [] a said = absurd cc
newest_said (Remaps e ∷ es) (c ∷ window) a said =
    let here : c.entry ≡ entry.Remap e.at e.old e.new = cc in
    let behind : map entry_of es ≡ said_by window = cc in
    elim (eqb_tells e.at.0 a) [
      | inl same ↦ rw (here, same.0) refl
      | inr other ↦ rw (here, other.0) (newest_said es window a behind)
    ]
newest_said (Makes p ∷ es) (c ∷ window) a said =
    let here : c.entry ≡ entry.NewPage p.page p.at = cc in
    let behind : map entry_of es ≡ said_by window = cc in
    rw here (newest_said es window a behind)

page_turned : (p q : PageId) → is_page p q ≡ is_page q p
page_turned p q = elim (cases_Bool (is_page p q)) [
  | inl same ↦ let one = page_is p q same in subst (λ (r : PageId). is_page p r ≡ is_page r p) one refl
  | inr apart ↦ elim (cases_Bool (is_page q p)) [
    | inl same ↦ let one = page_is q p same in subst (λ (r : PageId). is_page r q ≡ is_page q r) one refl
    | inr also ↦ apart ∙ sym also
  ]
]

abbrev pub at_block : Option Pbn → Option Mapping
at_block None = None
at_block (Some x) = Some (At x)

-- where the entries alone put a page
abbrev pub made_in : List Logged → PageId → Option Pbn
made_in es page = page_in (λ q. None) es page

put_one : (b : Bool) (x : Pbn) (o : Option Pbn) → (if b then Some (At x) else at_block o) ≡ at_block (if b then Some x else o)
put_one true x o = refl
put_one false x o = refl

or_one : (b : Bool) (x : Pbn) (m : Option Mapping) → or_else (if b then Some (At x) else None) m ≡ (if b then Some (At x) else m)
or_one true x m = refl
or_one false x m = refl

pub pages_said : (es : List Logged) (window : List CommittedEntry) (page : PageId) → map entry_of es ≡ said_by window → newest_page window page ≡ at_block (made_in es page)
pages_said [] [] page said = refl
pages_said [] (c ∷ window) page said = absurd cc
pages_said (e ∷ es) [] page said = absurd cc
pages_said (Remaps e ∷ es) (c ∷ window) page said =
    let here : c.entry ≡ entry.Remap e.at e.old e.new = cc in
    let behind : map entry_of es ≡ said_by window = cc in
    rw here (pages_said es window page behind)
pages_said (Makes p ∷ es) (c ∷ window) page said =
    let here : c.entry ≡ entry.NewPage p.page p.at = cc in
    let behind : map entry_of es ≡ said_by window = cc in
    rw (here, page_turned page p.page) (or_one (is_page p.page page) p.at (newest_page window page) ∙ ap (λ (m : Option Mapping). if is_page p.page page then Some (At p.at) else m) (pages_said es window page behind) ∙ put_one (is_page p.page page) p.at (made_in es page))

-- a page is where the entries put it, or else where the links do
page_either : (links : PageId → Option Pbn) (es : List Logged) (page : PageId) (x : Pbn) → page_in links es page ≡ Some x → (made_in es page ≡ Some x) ⊎ ((made_in es page ≡ None) × (links page ≡ Some x))
page_either links [] page x is = inr (refl, is)
page_either links (Remaps e ∷ es) page x is = page_either links es page x is
page_either links (Makes p ∷ es) page x is = elim (cases_Bool (is_page p.page page)) [
  | inl here ↦ let stands : Some p.at ≡ Some x = rw here at is in inl (rw here stands)
  | inr there ↦ let rest : page_in links es page ≡ Some x = rw there at is in elim (page_either links es page x rest) [
    | inl made ↦ inl (rw there made)
    | inr linked ↦ inr (rw there linked.0, linked.1)
  ]
]

-- Entries come in turn.

-- a page of the path of an address of the image
pub record IsOfPath (s : Session) (page : PageId) : Type 0 where
  pub address : ℕ
  pub inside : address < s.sizes.geometry.logical
  pub on_path : page ≡ page_above page.level address

abbrev pub IsTurn : Session → List Logged → Logged → Type 0
IsTurn s es (Remaps e) = IsThere s.sizes.geometry.height s.links es (leaf_of e.at.0) × (e.at.0 < s.sizes.geometry.logical)
IsTurn s es (Makes p) = IsThere s.sizes.geometry.height s.links es (above p.page) × IsOfPath s p.page × (p.page.level + 1 < s.sizes.geometry.height) × (s.links p.page ≡ None)

abbrev pub AreTurned : Session → List Logged → Type 0
AreTurned s [] = Unit {0}
AreTurned s (e ∷ es) = IsTurn s es e × AreTurned s es

pub older_turned : (s : Session) (newer es : List Logged) → AreTurned s (newer ++ es) → AreTurned s es
older_turned s [] es turned = turned
older_turned s (e ∷ newer) es turned = older_turned s newer es turned.1

-- a request with a place is for an address of the image
pub placed_below : (s : Session) (t : Trace) (w : Writer) (r : Request) (a : ℕ) → RightTrace s t → IsSome (place_of (places t) w) → request_at s.script w ≡ Some r → address_of r ≡ Some a → a < s.sizes.geometry.logical
placed_below s t w r a right placed asked address =
    let p = some_of (place_of (places t) w) placed in
    let of_zone = place_of_zone _ _ s.script _ (places t) w p.0 (places_drawn s t right) p.1 in
    let same : of_zone.0.0 ≡ r = same_Some _ _ (sym of_zone.0.2 ∙ ap (request_at s.script) of_zone.1 ∙ asked) in
    let here : of_zone.0.1 ≡ a = same_Some _ _ (sym of_zone.0.3 ∙ ap address_of same ∙ address) in
    subst (λ (n : ℕ). n < s.sizes.geometry.logical) here of_zone.0.4

-- a write or a discard has an address
address_asked : (asks : Asks) (at : Lba) (bytes : List ℕ) (m : Mapping) → MapsTo asks bytes m → address_of (asked asks at bytes) ≡ Some at.0
address_asked Write at bytes m maps = refl
address_asked Discard at bytes m maps = refl
address_asked Read at bytes m maps = absurd maps
address_asked Flush at bytes m maps = absurd maps

lacked_path : (s : Session) (t : Trace) (w : Writer) (r : Request) (page : PageId) → RightTrace s t → IsSome (place_of (places t) w) → request_at s.script w ≡ Some r → MayLack s.sizes.geometry.height r page
    → IsOfPath s page × (page.level + 1 < s.sizes.geometry.height)
lacked_path s t w (request.Write at bytes fua) page right placed asks lacked =
    (record { address = at.0; inside = placed_below s t w (request.Write at bytes fua) at.0 right placed asks refl; on_path = lacked.0 }, lacked.1)
lacked_path s t w other page right placed asks lacked = absurd lacked

pub turned : (s : Session) (t : Trace) → RightTrace s t → AreTurned s (journaled t)
turned s [] right = tt
turned s (Enters (Remaps e) ∷ t) right =
    let write = right.0.is_write in
    let below = placed_below s t e.request (asked write.asks e.at write.bytes) e.at.0 right.2 (some_is _ _ write.placed) write.asked (address_asked write.asks e.at write.bytes e.new write.maps) in
    ((leafy_entered s t e.at.0 right.2 right.0.leaf, below), turned s t right.2)
turned s (Enters (Makes p) ∷ t) right =
    let path = lacked_path s t p.request right.0.lacked.0 p.page right.2 right.0.placed right.0.lacked.1 right.0.lacked.2 in
    ((linked_entered s t (above p.page) right.2 right.0.above, path.0, path.1, not_opened s.links (journaled t) p.page right.0.once), turned s t right.2)
turned s (other ∷ t) right = turned s t right.2

-- with more entries a page that is there is there yet
pub longer : (s : Session) (e : Logged) (es : List Logged) (page : PageId) → IsThere s.sizes.geometry.height s.links es page → IsThere s.sizes.geometry.height s.links (e ∷ es) page
longer s e es page (inl root) = inl root
longer s (Remaps e) es page (inr some) = inr some
longer s (Makes p) es page (inr some) = inr (by (is_page p.page page))
  where
    by : (b : Bool) → IsSome (if b then Some p.at else page_in s.links es page)
    by true = refl
    by false = some

-- one that an entry makes is below one that is there, and none of the opened image
pub made_turn : (s : Session) (es : List Logged) (page : PageId) (x : Pbn) → AreTurned s es → made_in es page ≡ Some x
    → IsThere s.sizes.geometry.height s.links es (above page) × (page.level + 1 < s.sizes.geometry.height) × (s.links page ≡ None)
made_turn s [] page x turns made = absurd cc
made_turn s (Remaps e ∷ es) page x turns made = let rest = made_turn s es page x turns.1 made in (longer s (Remaps e) es (above page) rest.0, rest.1, rest.2)
made_turn s (Makes p ∷ es) page x turns made = elim (cases_Bool (is_page p.page page)) [
  | inl here ↦
      let own : IsThere s.sizes.geometry.height s.links es (above p.page) × (p.page.level + 1 < s.sizes.geometry.height) × (s.links p.page ≡ None) = (turns.0.0, turns.0.2, turns.0.3) in
      let moved = subst (λ (q : PageId). IsThere s.sizes.geometry.height s.links es (above q) × (q.level + 1 < s.sizes.geometry.height) × (s.links q ≡ None)) (page_is p.page page here) own in
      (longer s (Makes p) es (above page) moved.0, moved.1, moved.2)
  | inr there ↦ let rest = made_turn s es page x turns.1 (rw there at made) in (longer s (Makes p) es (above page) rest.0, rest.1, rest.2)
]

-- a page that entries put somewhere is one that the session made
pub made_block : (es : List Logged) (window : List CommittedEntry) → map entry_of es ≡ said_by window → (page : PageId) (at : Pbn) → newest_page window page ≡ Some (At at) → made_in es page ≡ Some at
made_block es window said page at newest = of_block (made_in es page) (sym (pages_said es window page said) ∙ newest)
  where
    of_block : (o : Option Pbn) → at_block o ≡ Some (At at) → o ≡ Some at
    of_block None none = absurd cc
    of_block (Some x) same = cc

-- the page above one of the path of an address is on it too
path_above : (s : Session) (page : PageId) → IsOfPath s page → IsOfPath s (above page)
path_above s page path = record {
  address = path.address;
  inside = path.inside;
  on_path = ap above path.on_path ∙ above_path page.level path.address ∙ ap (λ (k : ℕ). page_above k path.address) (omega arith);
}

-- Of entries that come in turn.
module _ (s : Session) (session : IsSession s) (opened : IsAsOpened s) (es : List Logged) (entries : List CommittedEntry) (said : map entry_of es ≡ said_by entries) (turns : AreTurned s es) where
  -- a page of the path of an address that is there is linked
  root_linked : (page : PageId) → IsOfPath s page → page.level + 1 ≡ s.sizes.geometry.height → (at : Pbn) × (page_after (opened_image s) entries page ≡ Some at)
  root_linked page path top =
      let tree : page.tree < 60 = let here = ap (λ (q : PageId). q.tree) path.on_path in let low : path.address / 812 % 60 < 60 = mod-lt (path.address / 812) (omega arith) in omega (arith, here, low) in
      let forest : Forest = record { geometry = s.sizes.geometry; zone = 0; zones = 1 } in
      let is_forest : IsForest forest = record { sizes = session.sizes; zone = omega arith; zones = omega arith } in
      let on : IsOnPath forest page = record { address = path.address; inside = path.inside; level = omega (arith, top); there = path.on_path; tree = record { inside = tree; own = mod-one page.tree } } in
      let index : page.index ≡ 0 = elim (root_or_lower forest page is_forest on) [ inl root ↦ root.index | inr lower ↦ let low = lower.level in absurd (omega (arith, top, low)) ] in
      let none : s.sizes.geometry.height - 1 - page.level ≡ zero = omega (arith, top) in
      (record { 0 = block_of s.sizes.geometry (Root page.tree) }, rw (lt-ltb page.tree 60 tree, lt-ltb page.level s.sizes.geometry.height (omega (arith, top)), none, eq-eqb page.index 0 index) refl)

  pub linked_there : (n : ℕ) (page : PageId) → page.level + n + 1 ≡ s.sizes.geometry.height → IsOfPath s page → IsThere s.sizes.geometry.height s.links es page → (at : Pbn) × (page_after (opened_image s) entries page ≡ Some at)
  linked_there zero page level path is_there = root_linked page path (omega (arith, level))
  linked_there (suc n) page level path (inl root) = absurd (omega (arith, level, root))
  linked_there (suc n) page level path (inr some) =
      let found = some_of (page_in s.links es page) some in
      let low : page.level + 1 < s.sizes.geometry.height = omega (arith, level) in
      elim (page_either s.links es page found.0 found.1) [
        | inl made ↦
            let turn = made_turn s es page found.0 turns made in
            let over = path_above s page path in
            let up = linked_there n (above page) (omega (arith, level)) over turn.0 in
            (found.0, all_new_page (opened_image s) entries page up.0 found.0 low up.1 (pages_said es entries page said ∙ ap at_block made))
        | inr linked ↦ (found.0, all_old_page (opened_image s) entries page (pages_said es entries page said ∙ ap at_block linked.0) ∙ sym (opened.links page low) ∙ linked.1)
      ]

  -- the page above one that may be linked
  pub up_linked : (page : PageId) → page.level + 1 < s.sizes.geometry.height → IsOfPath s page → IsThere s.sizes.geometry.height s.links es (above page)
      → (at : Pbn) × (page_after (opened_image s) entries (above page) ≡ Some at)
  up_linked page low path is_there = linked_there (s.sizes.geometry.height - 1 - (page.level + 1)) (above page) (omega (arith, low)) (path_above s page path) is_there

  -- the leaf of an address of the image that is there
  pub leaf_linked : (a : ℕ) → IsThere s.sizes.geometry.height s.links es (leaf_of a) → a < s.sizes.geometry.logical → (at : Pbn) × (page_after (opened_image s) entries (leaf_of a) ≡ Some at)
  leaf_linked a is_there inside =
      let tall = session.sizes.height in
      linked_there (s.sizes.geometry.height - 1) (leaf_of a) (omega (arith, tall)) (record { address = a; inside = inside; on_path = refl }) is_there

  newest_turn : (fs : List Logged) (a : ℕ) (e : Remapping) → AreTurned s fs → newest (of_address a (remappings fs)) ≡ Some e → IsThere s.sizes.geometry.height s.links fs (leaf_of a) × (a < s.sizes.geometry.logical)
  newest_turn [] a e turn newest_is = absurd cc
  newest_turn (Makes p ∷ fs) a e turn newest_is = let rest = newest_turn fs a e turn.1 newest_is in (longer s (Makes p) fs (leaf_of a) rest.0, rest.1)
  newest_turn (Remaps f ∷ fs) a e turn newest_is = elim (eqb_tells f.at.0 a) [
    | inl same ↦ let here = subst (λ (b : ℕ). IsThere s.sizes.geometry.height s.links fs (leaf_of b) × (b < s.sizes.geometry.logical)) same.1 turn.0 in (longer s (Remaps f) fs (leaf_of a) here.0, here.1)
    | inr other ↦ let rest = newest_turn fs a e turn.1 (rw other.0 at newest_is) in (longer s (Remaps f) fs (leaf_of a) rest.0, rest.1)
  ]

  -- each address is mapped as they say
  pub mapping_is : (a : ℕ) → mapping_after (opened_image s) entries a ≡ mapping_by s es a
  mapping_is a = by (newest (of_address a (remappings es))) refl
    where
      by : (o : Option Remapping) → newest (of_address a (remappings es)) ≡ o → mapping_after (opened_image s) entries a ≡ mapped_or o (opened_at s a)
      by None none = all_old (opened_image s) entries a (newest_said es entries a said ∙ ap given_by none)
      by (Some e) newest_is =
          let turn = newest_turn es a e turns newest_is in
          let leaf = leaf_linked a turn.0 turn.1 in
          all_new (opened_image s) entries a leaf.0 e.new leaf.1 (newest_said es entries a said ∙ ap given_by newest_is)
