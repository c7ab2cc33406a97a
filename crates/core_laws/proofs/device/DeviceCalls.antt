-- The device's calls: what they write, what reads give, and which data blocks they are of.
use Rattle.std.proofs.Common.{◌≡◌, ◌≢◌, ℕ, zero, suc, ◌*◌, ◌/◌, ◌%◌, ◌<◌, ◌≤◌, ◌^◌, Bool, Some, List, [], ◌∷◌, ◌++◌, length, length-append, get_or, subst, inl, inr, arith, ◌⊎◌, false, Option, None, ap, sym, ◌∙◌, ◌+◌, true, refl}
use Rattle.core_laws.proofs.Common.{all_of, AllByRecursion, AreAllThere, asked, Asks, AtRest, Call, Calls, ComesLast, device_number, entry_of, eqb_tells, every-front, every-get, every-map, filled, Geometry, Happening, IsAsOpened, IsFair, IsServed, IsSession, IsWrite, Lba, log, Remapping, Mapping, MayFollow, newest, NewStands, of_address, OnBlock, OnItsWay, Pbn, Quiet, ReadsAs, ReadsBlock, Request, request_at, RightTrace, sealed, Session, Shown, Stands, Trace, value_from, value_written, Writer, Logged, Makes, Remaps, remappings, durable, journaled, new_of, NewPage as MadePage, applied, passed, mapped_or, mapping_by, opened_at}
use Rattle.core_laws.proofs.trace.PassesOfTrace.{cut_passed}
use Rattle.std.proofs.Math.Nat.{div-le_self, mod-lt, mul-le-mul_left}
use Rattle.std.proofs.lemmas.List.Elements.{All-from_recursion}
use Rattle.blk_base.specs.Limits.{IsGeometry, logical_limit}
use Rattle.blk_base.specs.Regions.{IsDataBlock, journal_slot_of, needed_blocks, slab_stride_of}
use Rattle.blk_base.proofs.RegionLaws.{data_block_high, data_block_inside}
use Rattle.blk_base.specs.declared.place.Mapping.TheVariants.{Unmapped, Zero, At}
use Rattle.disk_model.specs.Log.{block_at, Misses, settled}
use Rattle.disk_model.specs.declared.call.Call.TheVariants.{Write}
use Rattle.vdo_model.specs.Journals.{MissesJournal, block_of_slot}
use Rattle.disk_model.specs.Images.{IsMixOf}
use Rattle.disk_model.proofs.ImageLaws.{settled_are_contents, block_of_mix, settled-write}
use Rattle.core_laws.proofs.lists.Zeros.{zeros_length}
use Rattle.blk_base.specs.declared.place.PageId.{PageId}
use Rattle.image_model.specs.Pages.{IsBelowRoot}
use Rattle.core_laws.proofs.trace.DeskOfTrace.{HasBlock, journaled_data, changes_append, AreData, done_writes, each_of_address, shown_of}
use Rattle.byte_fields.specs.Mappings.{HoldsMapping}
use Rattle.journal_codec.specs.Grammar.{HoldsEntry}
use Rattle.core_model.specs.RightTraces.{IsUnused}
use Rattle.core_laws.proofs.kept.ActKept.{shown_kept}
use Rattle.core_laws.proofs.kept.Keys.{Key, OfBlock, OfJournal, Spares, Clears, OfAddress, OfPage, OfRequest}
use Rattle.core_laws.proofs.kept.StandsOn.{IsCallOf, SparesBlock, SparesBlocks, SparesKept, SparesMap, SparesMapped, SparesPages, block_spared, call_sealed, entered_parts, failed, harmed, journal_spared, left_kept, map_kept, mapped_all, mapped_more, new_kept, new_reads_kept, on_each, pages_kept, succeeded, superblock_kept, unused_spared}
use Rattle.blk_base.specs.declared.request.Request.TheVariants as request
use Rattle.disk_model.specs.Log as device
use Rattle.data_vio.specs.declared.items.Asks.TheVariants as asks
use Rattle.core_laws.proofs.journal.SealedBlocks.{block_has, block_length, blocks_length, heads_start}
use Rattle.core_laws.proofs.lists.CoreLists.{newest_has}
use Rattle.core_laws.proofs.kept.Spared.{SparesAddress, SparesPage, SparesRequest, mapping_same}
use Rattle.journal_stops.specs.Rings.{IsWhole, ring_slot_of}
use Rattle.journal_stops.specs.Sealed.{IsSealed, next_of}
use Rattle.journal_stops.proofs.StepLaws.{begins, is_written}
use Rattle.core_model.specs.Sessions.{IsKept, blocks_of, sealed_with}
use Rattle.core_laws.proofs.kept.OpenedBlocks.{opened_data}
use Rattle.image_model.specs.Maps.{value_with}
use Rattle.image_model.specs.Windows.{IsOfImage, LeadsToData}

-- Data blocks lie behind the journal and inside the image; the blocks that the window names are data blocks.

-- The number of a block fits 32 bits.
pub blocks_fit : (g : Geometry) → IsGeometry g → needed_blocks g < 2 ^ 32
blocks_fit g sizes =
    let stride : slab_stride_of g ≤ 40000 = omega (arith, sizes.slab_blocks, sizes.slab_journal) in
    let slabs : g.slabs * slab_stride_of g ≤ g.slabs * 40000 = mul-le-mul_left g.slabs stride in
    omega (arith, slabs, sizes.slabs, sizes.journal, sizes.index)

-- A write of a data block is none of the journal, nor of the superblock; a write of the journal none of a data block.
pub data_misses : (g : Geometry) (x : Pbn) (bytes : List ℕ) (ok : Bool) → IsDataBlock g x.0 → MissesJournal g (Write x bytes ok)
data_misses g x bytes ok is slot below same = omega (arith, same, below, data_block_high g x.0 is)

pub data_not_first : (g : Geometry) (x : ℕ) → IsDataBlock g x → x ≢ 0
data_not_first g x is same = omega (arith, same, data_block_high g x is)

pub slot_misses : (g : Geometry) (sequence slot x : ℕ) → 0 < g.journal → slot ≡ block_of_slot (journal_slot_of g sequence) → IsDataBlock g x → slot ≢ x
slot_misses g sequence slot x some place is same =
    let below : journal_slot_of g sequence < g.journal = mod-lt sequence some in
    omega (arith, same, place, below, data_block_high g x is)

-- what holds of each element holds of the one at a place, or of the other value
get_has : {X : Type 0} (P : X → Type 0) (xs : List X) (n : ℕ) (d : X) → AllByRecursion P xs → P d → P (get_or xs n d)
get_has P [] n d all other = other
get_has P (x ∷ xs) zero d all other = all.0
get_has P (x ∷ xs) (suc n) d all other = get_has P xs n d all.1 other

-- each request of a session's script is served
pub request_served : (s : Session) (w : Writer) (r : Request) → IsSession s → request_at s.script w ≡ Some r → IsServed r
request_served s w r is asks =
    every-get IsServed _ w.number r (get_has (λ (rs : List Request). AllByRecursion IsServed rs) s.script w.stream [] is.served tt) asks

-- a write has a whole block
pub write_whole : (s : Session) (w : Writer) (at : Lba) (bytes : List ℕ) (fua : Bool) → IsSession s → request_at s.script w ≡ Some (request.Write at bytes fua) → length bytes ≡ 4096
write_whole s w at bytes fua session asked = (request_served s w (request.Write at bytes fua) session asked).0

-- what a request that is served gives its address is a whole block
pub whole_written : (s : Session) (w : Writer) (q : Asks) (at : Lba) (bytes : List ℕ) → IsSession s → request_at s.script w ≡ Some (asked q at bytes) → length (value_written (Some (asked q at bytes))) ≡ 4096
whole_written s w asks.Write at bytes session is = write_whole s w at bytes false session is
whole_written s w asks.Read at bytes session is = zeros_length
whole_written s w asks.Discard at bytes session is = zeros_length
whole_written s w asks.Flush at bytes session is = zeros_length

-- A block to which the opened image maps an address had 4096 bytes.
pub opened_whole : (s : Session) (a : ℕ) (x : Pbn) → IsAsOpened s → opened_at s a ≡ At x → length (block_at s.image x.0) ≡ 4096
opened_whole s a x opened is = opened.one_image.whole x.0 (omega (arith, data_block_inside s.sizes.geometry x.0 (opened_data s opened a x is), opened.room))

-- A read of the device gives the value of its address, where the session is fair.

-- what stands is what a read gives
pub stands_reads : (s : Session) (t : Trace) (x : ℕ) (bytes : List ℕ) → Stands s t x bytes → ReadsAs s t x bytes
stands_reads s t x bytes k = settled_are_contents (λ content. content ≡ bytes) s.blocks (log s t) x k

-- Where these writes, on top of the opened image, map an address is a data block.
pub mapped_is_data : (s : Session) (es : List Logged) (a : ℕ) (x : Pbn) → IsAsOpened s → AreData s (remappings es) → mapping_by s es a ≡ At x → IsDataBlock s.sizes.geometry x.0
mapped_is_data s [] a x opened to_data is = opened_data s opened a x is
mapped_is_data s (Makes p ∷ es) a x opened to_data is = mapped_is_data s es a x opened to_data is
mapped_is_data s (Remaps e ∷ es) a x opened to_data is = elim (eqb_tells e.at.0 a) [
  | inl same ↦ let to : e.new ≡ At x = rw same.0 at is in subst (OnBlock (λ y. IsDataBlock s.sizes.geometry y.0)) to to_data.0
  | inr other ↦ mapped_is_data s es a x opened to_data.1 (rw other.0 at is)
]

-- a list in front of another that is no longer is empty
none_between : (front between behind : List Remapping) → front ++ (between ++ behind) ≡ behind → between ≡ []
none_between front [] behind is = refl
none_between front (e ∷ between) behind is =
    let longer = ap length is in
    let all = length-append front ((e ∷ between) ++ behind) in
    let rest = length-append between behind in
    absurd (omega (arith, longer, all, rest))

-- What an address has, by its last write or the opened image.
module _ (s : Session) (t : Trace) (session : IsSession s) (right : RightTrace s t) (fair : IsFair s t) where
  newest_of : (P : Remapping → Type 0) (es : List Remapping) (a : ℕ) (e : Remapping) → newest (of_address a es) ≡ Some e → AllByRecursion P es → P e
  newest_of P es a e is all = newest_has P (of_address a es) e is (each_of_address P a es all)

  -- a value that is mapped to a block is whole
  pub value_whole : (es : List Remapping) (a : ℕ) (x : Pbn) (o : Option Remapping) → AllByRecursion (IsWrite s t) es → newest (of_address a es) ≡ o → mapped_or o (opened_at s a) ≡ At x → length (value_from s a o) ≡ 4096
  value_whole es a x None writes is maps = let value : value_from s a None ≡ device.block_at s.image x.0 = ap (value_with s.image) maps in ap length value ∙ opened_whole s a x fair.opened maps
  value_whole es a x (Some e) writes is maps =
      let write = newest_of (IsWrite s t) es a e is writes in
      ap (λ o. length (value_written o)) write.asked ∙ whole_written s e.request write.asks e.at write.bytes session write.asked

  -- what the committed entries map an address to stands, where none of it is under way
  abbrev changes : ℕ → List Logged → List Remapping
  changes a es = of_address a (remappings es)

  abbrev StandsHere : ℕ → List Logged → Type 0
  StandsHere a es = OnBlock (λ x. Stands s t x.0 (value_from s a (newest (of_address a (remappings es))))) (mapping_by s es a)

  -- it is said by the entries of the address alone
  stands_same : (a : ℕ) (es fs : List Logged) → of_address a (remappings es) ≡ of_address a (remappings fs) → StandsHere a es → StandsHere a fs
  stands_same a es fs same k =
      subst (λ (m : Mapping). OnBlock (λ x. Stands s t x.0 (value_from s a (newest (of_address a (remappings fs))))) m) (mapping_same s es fs a same)
      (subst (λ (xs : List Remapping). OnBlock (λ x. Stands s t x.0 (value_from s a (newest xs))) (mapping_by s es a)) same k)

  quiet_stands : (a : ℕ) → Quiet t a → AreAllThere s t ⊎ ComesLast s t → StandsHere a (durable t)
  quiet_stands a quiet (inl k) = stands_same a (all_of (sealed t)) (durable t) same (k.stands.1 a)
    where
      entries : changes a (journaled t) ≡ changes a (durable t)
      entries = cut_passed a (remappings (journaled t)) (remappings (durable t)) (passed t) quiet.all_committed

      all : changes a (filled t) ++ (changes a k.rest ++ changes a (durable t)) ≡ changes a (durable t)
      all = ap (λ (xs : List Remapping). changes a (filled t) ++ xs) (sym (changes_append a k.rest (durable t))) ∙ sym (changes_append a (filled t) (k.rest ++ durable t))
          ∙ ap (changes a) (sym (entered_parts t ∙ ap (λ (es : List Logged). filled t ++ es) k.all)) ∙ entries

      same : changes a (all_of (sealed t)) ≡ changes a (durable t)
      same = ap (changes a) k.all ∙ changes_append a k.rest (durable t)
          ∙ ap (λ (xs : List Remapping). xs ++ changes a (durable t)) (none_between (changes a (filled t)) (changes a k.rest) (changes a (durable t)) all)
  quiet_stands a quiet (inr k) = subst (StandsHere a) (sym k.committed_is) (by k.stands)
    where
      by : AtRest s t k.older ⊎ OnItsWay s t k.older k.block → StandsHere a (all_of k.older)
      by (inl rest) = rest.1 a
      by (inr way) = way.1 a

  -- a read of the block that an address is mapped to gives its value
  pub read_value : (a : ℕ) (latest : Option Remapping) (x : Pbn) (bytes : List ℕ) → Quiet t a → latest ≡ newest (changes a (applied t)) → mapped_or latest (opened_at s a) ≡ At x
      → length bytes ≡ 4096 → IsMixOf (device.settled s.blocks (log s t) x.0) bytes → bytes ≡ value_from s a latest
  read_value a latest x bytes quiet is maps size mix =
      let same : newest (changes a (durable t)) ≡ latest = ap newest (cut_passed a (remappings (durable t)) (remappings (applied t)) (passed t) quiet.all_done) ∙ sym is in
      let writes = (every-front (IsWrite s t) (remappings (applied t)) (passed t) (done_writes s t right)).0 in
      let maps_now : mapping_by s (durable t) a ≡ At x = ap (λ o. mapped_or o (opened_at s a)) same ∙ maps in
      let here : Stands s t x.0 (value_from s a (newest (changes a (durable t))))
      = subst (OnBlock (λ y. Stands s t y.0 (value_from s a (newest (changes a (durable t)))))) maps_now (quiet_stands a quiet (shown_of s t right fair).journal) in
      let stands : Stands s t x.0 (value_from s a latest) = subst (λ (o : Option Remapping). Stands s t x.0 (value_from s a o)) same here in
      block_of_mix (device.settled s.blocks (log s t) x.0) (value_from s a latest) bytes (value_whole (remappings (applied t)) a x latest writes (sym is) maps) size mix (stands_reads s t x.0 _ stands)

-- What one call of the device does to what stands on it.

-- Calls that write nothing, and writes of data.

-- what a call is about: no request, no address
pub call_clears : {s : Session} {t : Trace} {n : ℕ} {mine : Key → Type 0} {h : Happening} {c : Call} → IsCallOf h c → n ≡ device_number s.sizes → ((x : Pbn) → mine (OfBlock x) ⊎ Spares s t h (OfBlock x)) → mine OfJournal ⊎ Spares s t h OfJournal
    → Clears s n mine h t
call_clears succeeded here block journal = record { zone = here; request = tt; address = tt; page = tt; block = block; journal = journal }
call_clears failed here block journal = record { zone = here; request = tt; address = tt; page = tt; block = block; journal = journal }
call_clears harmed here block journal = record { zone = here; request = tt; address = tt; page = tt; block = block; journal = journal }

-- a call hands in no entry
pub call_filled : (t : Trace) {h : Happening} {c : Call} → IsCallOf h c → filled (h ∷ t) ≡ filled t
call_filled t succeeded = refl
call_filled t failed = refl
call_filled t harmed = refl

-- a call that writes nothing
pub quiet_journal : (s : Session) (t : Trace) {h : Happening} (c : Call) → IsCallOf h c → ((x : ℕ) → Misses c x) → Spares s t h OfJournal
quiet_journal s t {h} c is misses = (call_sealed s t is, journal_spared s is (λ slot below. misses (block_of_slot slot)), λ fair newer parts. mapped_all s h (λ x. block_spared is x (misses x)) newer (durable t))

pub quiet_call : (s : Session) (t : Trace) {h : Happening} (c : Call) → IsCallOf h c → MayFollow s h t → ((x : ℕ) → Misses c x) → RightTrace s t → RightTrace s (h ∷ t)
quiet_call s t {h} c is may misses right =
    let same = quiet_journal s t c is misses in
    (may, shown_kept s h t same.0 (call_filled t is) same.1 same.2 (block_spared is 0 (misses 0)) (shown_of s t right), right)

-- One that writes no data block, and none that the session leaves as it was, spares all of entries that map to data blocks.
module _ (s : Session) (h : Happening) (opened : IsAsOpened s) (data_missed : (x : ℕ) → IsDataBlock s.sizes.geometry x → SparesBlock h x) where
  entries_missed : (es : List Logged) → AllByRecursion (HasBlock s) es → SparesBlocks h es
  entries_missed [] all = tt
  entries_missed (e ∷ es) all = (on_each (new_of e) (λ x to is_data. data_missed x.0 is_data) all.0, entries_missed es all.1)

  pages_missed : (es : List Logged) → AllByRecursion (HasBlock s) es → SparesPages h es
  pages_missed [] all = tt
  pages_missed (Remaps e ∷ es) all = pages_missed es all.1
  pages_missed (Makes p ∷ es) all = (data_missed p.at.0 all.0, pages_missed es all.1)

  map_missed : (es : List Logged) → AllByRecursion (HasBlock s) es → SparesMapped s h es
  map_missed [] all = λ a. on_opened a (opened_at s a) refl
    where
      on_opened : (a : ℕ) (m : Mapping) → opened_at s a ≡ m → OnBlock (λ x. SparesBlock h x.0) m
      on_opened a (At x) is = data_missed x.0 (opened_data s opened a x is)
      on_opened a other is = tt
  map_missed (e ∷ es) all = mapped_more s h (e ∷ []) es (on_each (new_of e) (λ x to is_data. data_missed x.0 is_data) all.0, tt) (map_missed es all.1)

  pub data_spared_all : SparesKept s h → (newer older : List Logged) → AllByRecursion (HasBlock s) (newer ++ older) → SparesMap s h newer older
  data_spared_all left newer older all =
      let both = every-front (HasBlock s) newer older all in
      (left, entries_missed newer both.0, map_missed older both.1, pages_missed older both.1)

-- A call that writes block 0 alone is about nothing else.
module _ (s : Session) (t : Trace) {h : Happening} {c : Call} (is : IsCallOf h c) (session : IsSession s) (right : RightTrace s t) (misses : (x : ℕ) → x ≢ 0 → Misses c x) where
  data_missed : (x : ℕ) → IsDataBlock s.sizes.geometry x → SparesBlock h x
  data_missed x is_data = block_spared is x (misses x (data_not_first s.sizes.geometry x is_data))

  pub first_journal : Spares s t h OfJournal
  first_journal = (
    call_sealed s t is,
    journal_spared s is (λ slot below. misses (block_of_slot slot) (λ same. omega (arith, same))),
    λ fair newer parts. data_spared_all s h fair.opened data_missed (λ x left. block_spared is x (misses x (λ same. let behind = left.behind in omega (arith, same, behind)))) newer (durable t) (subst (AllByRecursion (HasBlock s)) parts (journaled_data s t right)),
  )

  pub first_spares : (k : Key) → Spares s t h k
  first_spares (OfRequest w) = by is
    where
      by : {g : Happening} {d : Call} → IsCallOf g d → SparesRequest g w
      by succeeded = tt
      by failed = tt
      by harmed = tt
  first_spares (OfAddress a) = by is
    where
      by : {g : Happening} {d : Call} → IsCallOf g d → SparesAddress g a
      by succeeded = tt
      by failed = tt
      by harmed = tt
  first_spares (OfBlock x) = data_missed x.0
  first_spares (OfPage page) = by is
    where
      by : {g : Happening} {d : Call} → IsCallOf g d → SparesPage g page
      by succeeded = tt
      by failed = tt
      by harmed = tt
  first_spares OfJournal = first_journal

-- the data of a write
pub store_call : (s : Session) (t : Trace) {h : Happening} (x : Pbn) (bytes : List ℕ) (ok : Bool) → IsCallOf h (Write x bytes ok) → MayFollow s h t → IsDataBlock s.sizes.geometry x.0 → (IsFair s t → IsUnused s t x)
    → RightTrace s t → RightTrace s (h ∷ t)
store_call s t {h} x bytes ok is may is_data unused right = (
  may,
  shown_kept s h t (call_sealed s t is) (call_filled t is) (journal_spared s is (data_misses s.sizes.geometry x bytes ok is_data)) (λ fair. unused_spared s t x bytes ok is is_data (unused fair))
      (block_spared is 0 (data_not_first s.sizes.geometry x.0 is_data)) (shown_of s t right),
  right,
)

-- a read of it gives them
pub store_reads : (s : Session) (t : Trace) (x : Pbn) (bytes : List ℕ) → ReadsAs s (Calls (Write x bytes true) ∷ t) x.0 bytes
store_reads s t x bytes = subst (λ (options : List (List ℕ)). AllByRecursion (λ content. content ≡ bytes) options) (sym (settled-write s.blocks (log s t) x bytes)) (refl, tt)

-- The block of some entries.

logical_small : (height : ℕ) → logical_limit height ≤ 4000000000
logical_small height = elim (eqb_tells height 2) [ inl same ↦ rw same.0 (omega arith) | inr other ↦ rw other.0 (omega arith) ]

-- a mapping to a data block is one that an entry can hold
pub data_held : (g : Geometry) → IsGeometry g → (m : Mapping) → OnBlock (λ x. IsDataBlock g x.0) m → HoldsMapping m
data_held g sizes Unmapped inside = tt
data_held g sizes Zero inside = tt
data_held g sizes (At x) inside =
    let high = data_block_high g x.0 inside in
    let low = data_block_inside g x.0 inside in
    let fits = blocks_fit g sizes in
    (omega (arith, high), omega (arith, low, fits))

data_led : (g : Geometry) (m : Mapping) → OnBlock (λ x. IsDataBlock g x.0) m → LeadsToData g m
data_led g Unmapped inside = tt
data_led g Zero inside = tt
data_led g (At x) inside = inside

-- what the form of the journal needs of an entry
pub record IsSpelled (s : Session) (e : Remapping) : Type 0 where
  pub below : e.at.0 < s.sizes.geometry.logical
  pub old_data : OnBlock (λ x. IsDataBlock s.sizes.geometry x.0) e.old
  pub new_data : OnBlock (λ x. IsDataBlock s.sizes.geometry x.0) e.new

-- and that of a new page
pub record IsSpelledPage (s : Session) (p : MadePage) : Type 0 where
  pub below : IsBelowRoot s.sizes.geometry p.page
  pub new_data : IsDataBlock s.sizes.geometry p.at.0

abbrev pub CanStand : Session → Logged → Type 0
CanStand s (Remaps e) = IsSpelled s e
CanStand s (Makes p) = IsSpelledPage s p

-- its block is a data block
pub can_data : (s : Session) (e : Logged) → CanStand s e → HasBlock s e
can_data s (Remaps e) is = is.new_data
can_data s (Makes p) is = is.new_data

module _ (s : Session) (session : IsSession s) where
  spelled_page : (p : MadePage) → IsSpelledPage s p → HoldsEntry (entry_of (Makes p))
  spelled_page p is =
      let address = is.below.address in
      let tree = ap (λ (q : PageId). q.tree) is.below.there in
      let index = ap (λ (q : PageId). q.index) is.below.there in
      let few = div-le_self (address / 812 / 60) (812 ^ p.page.level) in
      let in_tree = div-le_self (address / 812) 60 in
      let in_leaf = div-le_self address 812 in
      let small = logical_small s.sizes.geometry.height in
      let limit = session.sizes.logical.1 in
      let inside = is.below.inside in
      let level = is.below.level in
      let height = session.sizes.height.1 in
      let most : address / 812 % 60 < 60 = mod-lt (address / 812) (omega arith) in
      (omega (arith, tree, most), omega (arith, level, height), omega (arith, index, few, in_tree, in_leaf, inside, limit, small), data_held s.sizes.geometry session.sizes (At p.at) is.new_data)

  spelled_entry : (e : Logged) → CanStand s e → HoldsEntry (entry_of e)
  spelled_entry (Makes p) is = spelled_page p is
  spelled_entry (Remaps e) is =
      let small = logical_small s.sizes.geometry.height in
      let limit = session.sizes.logical.1 in
      let below = is.below in
      (omega (arith, below, limit, small), data_held s.sizes.geometry session.sizes e.old is.old_data, data_held s.sizes.geometry session.sizes e.new is.new_data)

  spelled_of_image : (e : Logged) → CanStand s e → IsOfImage s.sizes.geometry (entry_of e)
  spelled_of_image (Makes p) is = (is.below, is.new_data)
  spelled_of_image (Remaps e) is = (is.below, data_led s.sizes.geometry e.old is.old_data, data_led s.sizes.geometry e.new is.new_data)

  -- their block can be sealed behind these
  pub spelled_sealed : (older : List (List Logged)) (es : List Logged) → AllByRecursion (CanStand s) es → length es ≤ 192 → length older + 1 < s.sizes.geometry.journal
      → IsSealed s.sizes.geometry s.sizes.start (blocks_of s older) (sealed_with s es)
  spelled_sealed older es each few left =
      let some = session.start.0 in
      let low = session.start.1 in
      let most = session.sizes.journal.1 in
      let count = blocks_length s older in
      let head = heads_start s older in
      record {
        holds = record {
          named = (omega (arith, some), omega (arith, low, left, most, count));
          head_below = omega arith;
          few = omega (arith, few, block_length s es);
          each = All-from_recursion HoldsEntry (sealed_with s es).entries (block_has s HoldsEntry es (every-map {P = CanStand s} {Q = λ e. HoldsEntry (entry_of e)} spelled_entry es each));
        };
        each = All-from_recursion (IsOfImage s.sizes.geometry) (sealed_with s es).entries
            (block_has s (IsOfImage s.sizes.geometry) es (every-map {P = CanStand s} {Q = λ e. IsOfImage s.sizes.geometry (entry_of e)} spelled_of_image es each));
        rises = omega (arith, head);
        ring = omega (arith, left, count);
        reach = omega (arith, left, most, count);
      }

-- The slot of the next block is written.
module _ (s : Session) (t : Trace) (older : List (List Logged)) (es : List Logged) (slot : Pbn) (bytes : List ℕ) (session : IsSession s) (fresh : AllByRecursion (HasBlock s) es)
    (can_seal : IsSealed s.sizes.geometry s.sizes.start (blocks_of s older) (sealed_with s es))
    (place : slot.0 ≡ ring_slot_of s.sizes.geometry (next_of s.sizes.start (blocks_of s older)))
    (says : IsWhole s.sizes.geometry (next_of s.sizes.start (blocks_of s older)) (sealed_with s es) bytes)
    (right : RightTrace s t) (opened : IsAsOpened s) (sealed_is : sealed t ≡ es ∷ older) (rest : AtRest s t older) (keeps : NewStands s t es) where
  -- it is no data block
  misses : (x : ℕ) → IsDataBlock s.sizes.geometry x → slot.0 ≢ x
  misses x held = let some = session.sizes.journal.0 in slot_misses s.sizes.geometry (next_of s.sizes.start (blocks_of s older)) slot.0 x (omega (arith, some)) place held

  data_spared : (h : Happening) (ok : Bool) → IsCallOf h (Write slot bytes ok) → (fs : List Logged) → AllByRecursion (HasBlock s) fs → SparesBlocks h fs
  data_spared h ok is [] to_data = tt
  data_spared h ok is (f ∷ fs) to_data = (on_each (new_of f) (λ x to inside. block_spared is x.0 (misses x.0 inside)) to_data.0, data_spared h ok is fs to_data.1)

  -- nor one that the session leaves as it was
  left_apart : (x : ℕ) → IsKept s x → slot.0 ≢ x
  left_apart x left same =
      let some = session.sizes.journal.0 in
      let below : journal_slot_of s.sizes.geometry (next_of s.sizes.start (blocks_of s older)) < s.sizes.geometry.journal = mod-lt (next_of s.sizes.start (blocks_of s older)) (omega (arith, some)) in
      let behind = left.behind in
      omega (arith, same, place, below, behind)

  -- the entries, those of the block being filled, and those of the older blocks
  abbrev parts : AllByRecursion (HasBlock s) (filled t) × AllByRecursion (HasBlock s) (es ++ all_of older)
  parts = every-front (HasBlock s) (filled t) (es ++ all_of older) (subst (AllByRecursion (HasBlock s)) (entered_parts t ∙ ap (λ (all : List (List Logged)). filled t ++ all_of all) sealed_is) (journaled_data s t right))

  older_data : AllByRecursion (HasBlock s) (all_of older)
  older_data = (every-front (HasBlock s) es (all_of older) parts.1).1

  pub slot_way : (ok : Bool) → OnItsWay s (Calls (Write slot bytes ok) ∷ t) older es
  slot_way ok =
      let h = Calls (Write slot bytes ok) in
      let spares = data_spared_all s h opened (λ x inside. misses x inside) (λ x left. left_apart x left) es (all_of older) parts.1 in (
        begins s.blocks (log s t) s.sizes.geometry s.sizes.start (blocks_of s older) (sealed_with s es) slot bytes ok place can_seal says rest.0,
        map_kept s h t (all_of older) spares.2 rest.1,
        pages_kept s h t (all_of older) spares.3 rest.2,
        new_kept s h t es spares.1 keeps,
      )

  pub slot_reads : ReadsBlock s (Calls (Write slot bytes true) ∷ t) older es
  slot_reads = is_written s.blocks (log s t) s.sizes.geometry s.sizes.start (blocks_of s older) (sealed_with s es) slot bytes place says

  pub slot_shown : (h : Happening) (ok : Bool) → IsCallOf h (Write slot bytes ok) → AtRest s (h ∷ t) older ⊎ OnItsWay s (h ∷ t) older es → durable t ≡ all_of older → Shown s t → Shown s (h ∷ t)
  slot_shown h ok is stands committed_is stood = record {
    superblock = superblock_kept s h t (block_spared is 0 (λ same. omega (arith, same, place))) stood.superblock;
    kept = left_kept s h t (λ x left. block_spared is x (left_apart x left)) stood.kept;
    journal = inr (record { block = es; older = older; sealed_is = (call_sealed s t is).sealed_same ∙ sealed_is; committed_is = (call_sealed s t is).committed_same ∙ committed_is; stands = stands });
    filling = rw (call_filled t is) (new_reads_kept s h t (filled t) (data_spared h ok is (filled t) parts.0) stood.filling);
  }
