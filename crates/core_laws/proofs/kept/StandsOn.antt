-- What stands on the device goes on over each call that misses it.
use Rattle.std.proofs.Common.{◌≡◌, ◌≢◌, ◌⊎◌, ℕ, Contains, Bool, true, false, List, [], ◌∷◌, ◌++◌, refl, inl, inr, subst, sym, ap, ◌∙◌, append_assoc, arith}
use Rattle.core_laws.proofs.Common.{AllByRecursion, AreAllThere, AtRest, Call, Calls, ComesLast, Enters, Fails, Happening, HasBlocks, Logged, Makes, MapStands, Mapping, NewPage, NewReads, NewStands, OnBlock, OnItsWay, PagesStand, Pbn, ReadsAs, ReadsBlock, Remaps, Seals, Session, Stands, Trace, Writer, all_of, durable, journaled, eqb_tells, filled, log, new_of, sealed, SuperblockStage, superblock_bytes, superblock_stage, Harms, KeptStands, mapping_by}
pub use Rattle.core_model.specs.RightTraces.{AreElsewhere}
use Rattle.std.proofs.lemmas.List.{append_cancel_right}
use Rattle.blk_base.specs.Regions.{IsDataBlock}
use Rattle.core_model.specs.RightTraces.{IsUnused}
use Rattle.core_laws.proofs.kept.Spared.{contains_more}
use Rattle.blk_base.specs.declared.place.Mapping.TheVariants.{Unmapped, Zero, At}
use Rattle.disk_model.specs.Log.{Misses}
use Rattle.page_codec.specs.declared.fault.PageFault.{PageFault}
use Rattle.disk_model.specs.declared.call.Call.TheVariants.{Read, Write, Flush}
use Rattle.disk_model.proofs.ImageLaws.{kept, settled-misses}
use Rattle.vdo_model.specs.Journals.{MissesJournal}
use Rattle.journal_stops.proofs.StepLaws.{rest_kept, under_way_kept, written_kept}
use Rattle.core_model.specs.Sessions.{IsKept, IsSuperblock, SuperblockStands, blocks_of, sealed_with}
use Rattle.core_model.specs.Superblocks.{stage_flushed}
use Rattle.core_model.specs.declared.zones.SuperblockStage.TheVariants.{AsOpened, Written, Durable}
use Rattle.journal_stops.specs.Rings.{IsAtRest, IsUnderWay}

-- the happening is no write of the block
abbrev pub SparesBlock : Happening → ℕ → Type 0
SparesBlock (Calls c) x = Misses c x
SparesBlock (Fails w c kept) x = Misses c x
SparesBlock other x = Unit {0}

-- nor one of the journal, nor of a block of these writes
abbrev pub SparesBlocks : Happening → List Logged → Type 0
SparesBlocks h [] = Unit {0}
SparesBlocks h (e ∷ older) = OnBlock (λ x. SparesBlock h x.0) (new_of e) × SparesBlocks h older

-- what holds of each block, or follows from what holds of it, holds of that of a mapping
pub on_any : {P : Pbn → Type 0} (m : Mapping) → ((x : Pbn) → P x) → OnBlock P m
on_any (At x) all = all x
on_any Unmapped all = tt
on_any Zero all = tt

pub on_both : {P Q R : Pbn → Type 0} (m : Mapping) → ((x : Pbn) → m ≡ At x → P x → Q x → R x) → OnBlock P m → OnBlock Q m → OnBlock R m
on_both (At x) so p q = so x refl p q
on_both Unmapped so p q = tt
on_both Zero so p q = tt

pub on_each : {P Q : Pbn → Type 0} (m : Mapping) → ((x : Pbn) → m ≡ At x → P x → Q x) → OnBlock P m → OnBlock Q m
on_each (At x) so p = so x refl p
on_each Unmapped so p = tt
on_each Zero so p = tt

-- nor one of a block that the session leaves as it was
abbrev pub SparesKept : Session → Happening → Type 0
SparesKept s h = (x : ℕ) → IsKept s x → SparesBlock h x

-- nor one of a block that these entries map an address to over the opened image, nor of one that they give a page
abbrev pub SparesMapped : Session → Happening → List Logged → Type 0
SparesMapped s h es = (a : ℕ) → OnBlock (λ x. SparesBlock h x.0) (mapping_by s es a)

abbrev pub SparesPages : Happening → List Logged → Type 0
SparesPages h [] = Unit {0}
SparesPages h (Remaps e ∷ es) = SparesPages h es
SparesPages h (Makes p ∷ es) = SparesBlock h p.at.0 × SparesPages h es

-- nor one of a block that the newer entries name, or that the older ones map an address to: a block that an older one names and a
-- newer one unmaps may be used again
abbrev pub SparesMap : Session → Happening → List Logged → List Logged → Type 0
SparesMap s h newer older = SparesKept s h × SparesBlocks h newer × SparesMapped s h older × SparesPages h older

-- the newer ones are those that aren't committed
abbrev pub SparesJournaled : Session → Happening → Trace → Type 0
SparesJournaled s h t = (newer : List Logged) → journaled t ≡ newer ++ durable t → SparesMap s h newer (durable t)

-- nor one of a block of the first of them, or of the others
pub spares_parts : (h : Happening) (es older : List Logged) → SparesBlocks h (es ++ older) → SparesBlocks h es × SparesBlocks h older
spares_parts h [] older apart = (tt, apart)
spares_parts h (e ∷ es) older apart = let rest = spares_parts h es older apart.1 in ((apart.0, rest.0), rest.1)

-- the pages that they give a block are among the blocks that they name
pub pages_spared : (h : Happening) (es older : List Logged) → SparesBlocks h es → SparesPages h older → SparesPages h (es ++ older)
pages_spared h [] older apart pages = pages
pages_spared h (Remaps e ∷ es) older apart pages = pages_spared h es older apart.1 pages
pages_spared h (Makes p ∷ es) older apart pages = (apart.0, pages_spared h es older apart.1 pages)

-- one that writes no block at all
pub spares_all : (h : Happening) → ((x : ℕ) → SparesBlock h x) → (es : List Logged) → SparesBlocks h es
spares_all h none [] = tt
spares_all h none (e ∷ es) = (on_any (new_of e) (λ x. none x.0), spares_all h none es)

pub mapped_all : (s : Session) (h : Happening) → ((x : ℕ) → SparesBlock h x) → (newer older : List Logged) → SparesMap s h newer older
mapped_all s h none newer older = ((λ x kept. none x), spares_all h none newer, (λ a. on_any (mapping_by s older a) (λ x. none x.0)), pages older)
  where
    pages : (es : List Logged) → SparesPages h es
    pages [] = tt
    pages (Remaps e ∷ es) = pages es
    pages (Makes p ∷ es) = (none p.at.0, pages es)

abbrev pub SparesJournal : Session → Happening → Type 0
SparesJournal s (Calls c) = MissesJournal s.sizes.geometry c
SparesJournal s (Fails w c kept) = MissesJournal s.sizes.geometry c
SparesJournal s other = Unit {0}

-- a call that was made, whether it succeeded or failed
pub data IsCallOf : Happening → Call → Type 0 where
  succeeded : {c : Call} → IsCallOf (Calls c) c
  failed : {w : Writer} {c : Call} {kept : Bool} → IsCallOf (Fails w c kept) c
  harmed : {w : Writer} {x : Pbn} {bytes : List ℕ} {fault : PageFault} → IsCallOf (Harms w x bytes fault) (Read x bytes true)

pub block_spared : {h : Happening} {c : Call} → IsCallOf h c → (x : ℕ) → Misses c x → SparesBlock h x
block_spared succeeded x misses = misses
block_spared failed x misses = misses
block_spared harmed x misses = tt

-- a write of a block that they don't name spares theirs
pub write_spares : {h : Happening} {x : Pbn} {bytes : List ℕ} {ok : Bool} → IsCallOf h (Write x bytes ok) → (es : List Logged) → AreElsewhere x.0 es → SparesBlocks h es
write_spares is [] apart = tt
write_spares is (e ∷ es) apart = (on_each (new_of e) (λ y to. block_spared is y.0) apart.0, write_spares is es apart.1)

pub journal_spared : (s : Session) {h : Happening} {c : Call} → IsCallOf h c → MissesJournal s.sizes.geometry c → SparesJournal s h
journal_spared s succeeded misses = misses
journal_spared s failed misses = misses
journal_spared s harmed misses = tt

-- an entry that was handed in is in the block being filled, or in a sealed one
pub entered_parts : (t : Trace) → journaled t ≡ filled t ++ all_of (sealed t)
entered_parts [] = refl
entered_parts (Enters e ∷ t) = ap (λ es. e ∷ es) (entered_parts t)
entered_parts (Seals ∷ t) = entered_parts t
entered_parts (other ∷ t) = entered_parts t

-- A write of a data block that nobody maps spares the blocks of the journal's entries, the map and the pages.
pub unused_spared : (s : Session) (t : Trace) {h : Happening} (x : Pbn) (bytes : List ℕ) (ok : Bool) → IsCallOf h (Write x bytes ok) → IsDataBlock s.sizes.geometry x.0 → IsUnused s t x → SparesJournaled s h t
unused_spared s t {h} x bytes ok is unused_data unused newer parts = (
  λ y left. block_spared is y (λ same. let (page, low, linked) = left.unfreed (subst (IsDataBlock s.sizes.geometry) same unused_data) in unused.no_page page (record { 0 = y }) low linked same),
  write_spares is newer (subst (AreElsewhere x.0) (append_cancel_right unused.newer newer (durable t) (sym unused.parts ∙ parts)) unused.unnamed),
  λ a. on_each (mapping_by s (durable t) a) (λ y to apart. block_spared is y.0 apart) (unused.unmapped a),
  pages (durable t) (λ p has. unused.no_new_page p has),
)
  where
    pages : (es : List Logged) → ((p : NewPage) → Contains es (Makes p) → x.0 ≢ p.at.0) → SparesPages h es
    pages [] apart = tt
    pages (Remaps e ∷ es) apart = pages es (λ p has. apart p (contains_more (Remaps e) es (Makes p) has))
    pages (Makes q ∷ es) apart = (block_spared is q.at.0 (apart q (0, omega arith, refl)), pages es (λ p has. apart p (contains_more (Makes q) es (Makes p) has)))

module _ (s : Session) where
  pub stands_kept : (h : Happening) (t : Trace) (x : ℕ) (bytes : List ℕ) → SparesBlock h x → Stands s t x bytes → Stands s (h ∷ t) x bytes
  stands_kept (Calls c) t x bytes apart k = kept (λ content. content ≡ bytes) s.blocks (log s t) c x apart k
  stands_kept (Fails w c true) t x bytes apart k = kept (λ content. content ≡ bytes) s.blocks (log s t) c x apart k
  stands_kept (Harms w at found fault) t x bytes apart k = kept (λ content. content ≡ bytes) s.blocks (log s t) (Read at found true) x tt k
  stands_kept other t x bytes apart k = k

  pub reads_kept : (h : Happening) (t : Trace) (x : ℕ) (bytes : List ℕ) → SparesBlock h x → ReadsAs s t x bytes → ReadsAs s (h ∷ t) x bytes
  reads_kept (Calls c) t x bytes apart k = subst (λ (options : List (List ℕ)). AllByRecursion (λ content. content ≡ bytes) options) (sym (settled-misses s.blocks (log s t) c x apart)) k
  reads_kept (Fails w c true) t x bytes apart k = subst (λ (options : List (List ℕ)). AllByRecursion (λ content. content ≡ bytes) options) (sym (settled-misses s.blocks (log s t) c x apart)) k
  reads_kept (Harms w at found fault) t x bytes apart k = subst (λ (options : List (List ℕ)). AllByRecursion (λ content. content ≡ bytes) options) (sym (settled-misses s.blocks (log s t) (Read at found true) x tt)) k
  reads_kept other t x bytes apart k = k

  -- the superblock, over a call that doesn't write it
  stage_kept : (c : Call) (h : Happening) (t : Trace) → log s (h ∷ t) ≡ c ∷ log s t → Misses c 0 → (now : SuperblockStage) → SuperblockStands s t now → SuperblockStands s (h ∷ t) now
  stage_kept c h t is misses AsOpened k = rw is (kept (IsSuperblock s) s.blocks (log s t) c 0 misses k)
  stage_kept c h t is misses Written k = rw is (
    kept (IsSuperblock s) s.blocks (log s t) c 0 misses k.0,
    subst (λ (options : List (List ℕ)). AllByRecursion (λ content. content ≡ superblock_bytes s.sizes) options) (sym (settled-misses s.blocks (log s t) c 0 misses)) k.1,
  )
  stage_kept c h t is misses Durable k = rw is (kept (λ content. content ≡ superblock_bytes s.sizes) s.blocks (log s t) c 0 misses k)

  -- and over a flush, by which it lasts once it is written
  stage_flushes : (t : Trace) (now : SuperblockStage) → SuperblockStands s t now → SuperblockStands s (Calls (Flush true) ∷ t) (stage_flushed now)
  stage_flushes t AsOpened k = stage_kept (Flush true) (Calls (Flush true)) t refl tt AsOpened k
  stage_flushes t Written k = k.1
  stage_flushes t Durable k = stage_kept (Flush true) (Calls (Flush true)) t refl tt Durable k

  pub superblock_kept : (h : Happening) (t : Trace) → SparesBlock h 0 → SuperblockStands s t (superblock_stage t) → SuperblockStands s (h ∷ t) (superblock_stage (h ∷ t))
  superblock_kept (Calls (Read at bytes ok)) t apart k = stage_kept (Read at bytes ok) (Calls (Read at bytes ok)) t refl tt (superblock_stage t) k
  superblock_kept (Calls (Write at bytes true)) t apart k = elim (eqb_tells at.0 0) [
    | inl same ↦ absurd (apart same.1)
    | inr other ↦ rw other.0 (stage_kept (Write at bytes true) (Calls (Write at bytes true)) t refl apart (superblock_stage t) k)
  ]
  superblock_kept (Calls (Write at bytes false)) t apart k = stage_kept (Write at bytes false) (Calls (Write at bytes false)) t refl apart (superblock_stage t) k
  superblock_kept (Calls (Flush true)) t apart k = stage_flushes t (superblock_stage t) k
  superblock_kept (Calls (Flush false)) t apart k = stage_kept (Flush false) (Calls (Flush false)) t refl tt (superblock_stage t) k
  superblock_kept (Fails w c true) t apart k = stage_kept c (Fails w c true) t refl apart (superblock_stage t) k
  superblock_kept (Harms w at bytes fault) t apart k = stage_kept (Read at bytes true) (Harms w at bytes fault) t refl tt (superblock_stage t) k
  superblock_kept other t apart k = k

  -- all that the session leaves as it was
  pub left_kept : (h : Happening) (t : Trace) → SparesKept s h → KeptStands s t → KeptStands s (h ∷ t)
  left_kept h t spares k = λ x is. stands_kept h t x _ (spares x is) (k x is)

  -- what newer entries map an address to is a block that they name, or what the older ones map it to
  pub mapped_more : (h : Happening) (es older : List Logged) → SparesBlocks h es → SparesMapped s h older → SparesMapped s h (es ++ older)
  mapped_more h [] older apart map = map
  mapped_more h (Makes p ∷ es) older apart map = mapped_more h es older apart.1 map
  mapped_more h (Remaps e ∷ es) older apart map = λ a. elim (eqb_tells e.at.0 a) [
    | inl same ↦ rw same.0 apart.0
    | inr other ↦ rw other.0 (mapped_more h es older apart.1 map a)
  ]

  -- so one that spares them spares the map of all
  pub spares_more : (h : Happening) (es older : List Logged) → SparesMap s h es older → SparesMap s h [] (es ++ older)
  spares_more h es older spares = (spares.0, tt, mapped_more h es older spares.1 spares.2, pages_spared h es older spares.1 spares.3)

  pub map_kept : (h : Happening) (t : Trace) (es : List Logged) → SparesMapped s h es → MapStands s t es → MapStands s (h ∷ t) es
  map_kept h t es spares k = λ a. on_both (mapping_by s es a) (λ x to spared stands. stands_kept h t x.0 _ spared stands) (spares a) (k a)

  pub new_kept : (h : Happening) (t : Trace) (es : List Logged) → SparesBlocks h es → NewStands s t es → NewStands s (h ∷ t) es
  new_kept h t [] apart k = tt
  new_kept h t (e ∷ es) apart k = (on_both (new_of e) (λ x to spared stands. stands_kept h t x.0 _ spared stands) apart.0 k.0, new_kept h t es apart.1 k.1)

  pub new_reads_kept : (h : Happening) (t : Trace) (es : List Logged) → SparesBlocks h es → NewReads s t es → NewReads s (h ∷ t) es
  new_reads_kept h t [] apart k = tt
  new_reads_kept h t (e ∷ es) apart k = (on_both (new_of e) (λ x to spared reads. reads_kept h t x.0 _ spared reads) apart.0 k.0, new_reads_kept h t es apart.1 k.1)

  -- so does each new page among them
  pub pages_kept : (h : Happening) (t : Trace) (es : List Logged) → SparesPages h es → PagesStand s t es → PagesStand s (h ∷ t) es
  pages_kept h t [] apart k = tt
  pages_kept h t (Remaps e ∷ es) apart k = pages_kept h t es apart k
  pages_kept h t (Makes p ∷ es) apart k = (stands_kept h t p.at.0 _ apart.0 k.0, pages_kept h t es apart.1 k.1)

  -- so does each block of the journal, over one that misses the journal
  blocks_kept : (c : Call) (t : Trace) (h : Happening) (blocks : List (List Logged)) → MissesJournal s.sizes.geometry c → log s (h ∷ t) ≡ c ∷ log s t → HasBlocks s t blocks → HasBlocks s (h ∷ t) blocks
  blocks_kept c t h blocks journal logged rest =
      subst (λ (l : List Call). IsAtRest s.blocks l s.sizes.geometry s.sizes.start (blocks_of s blocks)) (sym logged)
      (rest_kept s.blocks (log s t) s.sizes.geometry s.sizes.start (blocks_of s blocks) c journal rest)

  pub rests_kept : (h : Happening) (t : Trace) (blocks : List (List Logged)) → SparesJournal s h → SparesMap s h [] (all_of blocks) → AtRest s t blocks → AtRest s (h ∷ t) blocks
  rests_kept (Calls c) t blocks journal apart k = (
    blocks_kept c t (Calls c) blocks journal refl k.0,
    map_kept (Calls c) t (all_of blocks) apart.2 k.1,
    pages_kept (Calls c) t (all_of blocks) apart.3 k.2,
  )
  rests_kept (Fails w c true) t blocks journal apart k = (
    blocks_kept c t (Fails w c true) blocks journal refl k.0,
    map_kept (Fails w c true) t (all_of blocks) apart.2 k.1,
    pages_kept (Fails w c true) t (all_of blocks) apart.3 k.2,
  )
  rests_kept (Harms w x bytes fault) t blocks journal apart k = (
    blocks_kept (Read x bytes true) t (Harms w x bytes fault) blocks (λ slot below. tt) refl k.0,
    map_kept (Harms w x bytes fault) t (all_of blocks) apart.2 k.1,
    pages_kept (Harms w x bytes fault) t (all_of blocks) apart.3 k.2,
  )
  rests_kept other t blocks journal apart k = (k.0, map_kept other t (all_of blocks) apart.2 k.1, pages_kept other t (all_of blocks) apart.3 k.2)

  -- what stands is so still after a call that failed and isn't in the log
  pub rests_unlogged : (w : Writer) (c : Call) (t : Trace) (blocks : List (List Logged)) → AtRest s t blocks → AtRest s (Fails w c false ∷ t) blocks
  rests_unlogged w c t blocks k = (k.0, k.1, k.2)

  pub way_kept : (h : Happening) (t : Trace) (older : List (List Logged)) (es : List Logged) → SparesJournal s h → SparesMap s h es (all_of older) → OnItsWay s t older es → OnItsWay s (h ∷ t) older es
  way_kept h t older es journal apart k = (way h journal k.0, map_kept h t (all_of older) apart.2 k.1, pages_kept h t (all_of older) apart.3 k.2, new_kept h t es apart.1 k.3)
    where
      way : (h : Happening) → SparesJournal s h → IsUnderWay s.blocks (log s t) s.sizes.geometry s.sizes.start (blocks_of s older) (sealed_with s es)
          → IsUnderWay s.blocks (log s (h ∷ t)) s.sizes.geometry s.sizes.start (blocks_of s older) (sealed_with s es)
      way (Calls c) misses under = under_way_kept s.blocks (log s t) s.sizes.geometry s.sizes.start (blocks_of s older) (sealed_with s es) c misses under
      way (Fails w c true) misses under = under_way_kept s.blocks (log s t) s.sizes.geometry s.sizes.start (blocks_of s older) (sealed_with s es) c misses under
      way (Harms w x bytes fault) misses under =
          under_way_kept s.blocks (log s t) s.sizes.geometry s.sizes.start (blocks_of s older) (sealed_with s es) (Read x bytes true) (λ slot below. tt) under
      way other misses under = under

  -- with more entries, the map stands where what these map their addresses to does
  pub map_more : (t : Trace) (es : List Logged) (older : List Logged) → MapStands s t older → NewStands s t es → MapStands s t (es ++ older)
  map_more t [] older k new = k
  map_more t (Makes p ∷ es) older k new = map_more t es older k new.1
  map_more t (Remaps e ∷ es) older k new = λ a. elim (eqb_tells e.at.0 a) [ inl same ↦ rw same.0 new.0 | inr other ↦ rw other.0 (map_more t es older k new.1 a) ]

  -- and so do their pages
  pub pages_more : (t : Trace) (es older : List Logged) → PagesStand s t older → NewStands s t es → PagesStand s t (es ++ older)
  pages_more t [] older k new = k
  pages_more t (Remaps e ∷ es) older k new = pages_more t es older k new.1
  pages_more t (Makes p ∷ es) older k new = (new.0, pages_more t es older k new.1)

  -- the slot of the block, over a call that misses the journal
  block_missed : (c : Call) (t : Trace) (older : List (List Logged)) (es : List Logged) → MissesJournal s.sizes.geometry c → OnItsWay s t older es → ReadsBlock s t older es → ReadsBlock s (Calls c ∷ t) older es
  block_missed c t older es journal way k =
      let ring = way.0.is_sealed.ring in written_kept s.blocks (log s t) s.sizes.geometry s.sizes.start (blocks_of s older) (sealed_with s es) c (omega (arith, ring)) journal k

  pub block_reads_kept : (h : Happening) (t : Trace) (older : List (List Logged)) (es : List Logged) → SparesJournal s h → OnItsWay s t older es → ReadsBlock s t older es → ReadsBlock s (h ∷ t) older es
  block_reads_kept (Calls c) t older es journal way k = block_missed c t older es journal way k
  block_reads_kept (Fails w c true) t older es journal way k = block_missed c t older es journal way k
  block_reads_kept (Harms w x bytes fault) t older es journal way k = block_missed (Read x bytes true) t older es (λ slot below. tt) way k
  block_reads_kept other t older es journal way k = k

  -- a happening that neither seals a block nor commits an entry
  pub record SparesSealed (h : Happening) (t : Trace) : Type 0 where
    pub sealed_same : sealed (h ∷ t) ≡ sealed t
    pub committed_same : durable (h ∷ t) ≡ durable t

  -- a call does neither
  pub call_sealed : (t : Trace) {h : Happening} {c : Call} → IsCallOf h c → SparesSealed h t
  call_sealed t succeeded = record { sealed_same = refl; committed_same = refl }
  call_sealed t failed = record { sealed_same = refl; committed_same = refl }
  call_sealed t harmed = record { sealed_same = refl; committed_same = refl }

  -- the blocks that it spares are those of the block being filled, those of the sealed ones that aren't committed, and the map of the others
  all_parts : (t : Trace) (k : AreAllThere s t) → journaled t ≡ (filled t ++ k.rest) ++ durable t
  all_parts t k = entered_parts t ∙ ap (λ es. filled t ++ es) k.all ∙ sym (append_assoc (filled t) k.rest (durable t))

  last_parts : (t : Trace) (k : ComesLast s t) → journaled t ≡ (filled t ++ k.block) ++ durable t
  last_parts t k =
      let sealed_parts : all_of (sealed t) ≡ k.block ++ durable t = ap all_of k.sealed_is ∙ ap (λ es. k.block ++ es) (sym k.committed_is) in
      entered_parts t ∙ ap (λ es. filled t ++ es) sealed_parts ∙ sym (append_assoc (filled t) k.block (durable t))

  -- so it spares the block being filled
  pub filling_spared : (h : Happening) (t : Trace) → SparesJournaled s h t → AreAllThere s t ⊎ ComesLast s t → SparesBlocks h (filled t)
  filling_spared h t apart (inl k) = (spares_parts h (filled t) k.rest (apart _ (all_parts t k)).1).0
  filling_spared h t apart (inr k) = (spares_parts h (filled t) k.block (apart _ (last_parts t k)).1).0

  -- and where all are committed, their map
  pub resting_spared : (h : Happening) (t : Trace) → all_of (sealed t) ≡ durable t → SparesJournaled s h t → SparesMap s h [] (all_of (sealed t))
  resting_spared h t all apart =
      let spares = apart (filled t) (entered_parts t ∙ ap (λ es. filled t ++ es) all) in
      subst (λ es. SparesMap s h [] es) (sym all) (spares.0, tt, spares.2, spares.3)

  -- those of the last sealed block, and the map of the older ones
  pub last_spared : (h : Happening) (t : Trace) (block : List Logged) (older : List (List Logged)) → sealed t ≡ block ∷ older → durable t ≡ all_of older → SparesJournaled s h t → SparesMap s h block (all_of older)
  last_spared h t block older sealed_is committed_is apart =
      let sealed_parts : all_of (sealed t) ≡ block ++ durable t = ap all_of sealed_is ∙ ap (λ es. block ++ es) (sym committed_is) in
      let spares = apart _ (entered_parts t ∙ ap (λ es. filled t ++ es) sealed_parts ∙ sym (append_assoc (filled t) block (durable t))) in
      subst (λ es. SparesMap s h block es) committed_is (spares.0, (spares_parts h (filled t) block spares.1).1, spares.2, spares.3)

  -- and those that one that isn't committed leaves: the rest of the sealed ones
  pub rest_spared : (h : Happening) (t : Trace) (rest : List Logged) → all_of (sealed t) ≡ rest ++ durable t → SparesJournaled s h t → SparesMap s h [] (all_of (sealed t))
  rest_spared h t rest all apart =
      let spares = apart _ (entered_parts t ∙ ap (λ es. filled t ++ es) all ∙ sym (append_assoc (filled t) rest (durable t))) in
      subst (λ es. SparesMap s h [] es) (sym all) (spares_more h rest (durable t) (spares.0, (spares_parts h (filled t) rest spares.1).1, spares.2, spares.3))

  -- and what the session leaves as it was
  pub kept_spared : (h : Happening) (t : Trace) → SparesJournaled s h t → AreAllThere s t ⊎ ComesLast s t → SparesKept s h
  kept_spared h t apart (inl k) = (apart _ (all_parts t k)).0
  kept_spared h t apart (inr k) = (apart _ (last_parts t k)).0

  all_there_kept : (h : Happening) (t : Trace) → SparesSealed h t → SparesJournal s h → SparesJournaled s h t → AreAllThere s t → AreAllThere s (h ∷ t)
  all_there_kept h t same journal apart k =
      record {
        rest = k.rest;
        all = ap all_of same.sealed_same ∙ k.all ∙ ap (λ es. k.rest ++ es) (sym same.committed_same);
        stands = subst (λ blocks. AtRest s (h ∷ t) blocks) (sym same.sealed_same) (rests_kept h t (sealed t) journal (rest_spared h t k.rest k.all apart) k.stands);
      }

  pub comes_stands : (h : Happening) (t : Trace) (older : List (List Logged)) (es : List Logged) → SparesJournal s h → SparesMap s h es (all_of older) → AtRest s t older ⊎ OnItsWay s t older es
      → AtRest s (h ∷ t) older ⊎ OnItsWay s (h ∷ t) older es
  comes_stands h t older es journal apart (inl k) = inl (rests_kept h t older journal (apart.0, tt, apart.2, apart.3) k)
  comes_stands h t older es journal apart (inr k) = inr (way_kept h t older es journal apart k)

  comes_last_kept : (h : Happening) (t : Trace) → SparesSealed h t → SparesJournal s h → SparesJournaled s h t → ComesLast s t → ComesLast s (h ∷ t)
  comes_last_kept h t same journal apart k =
      let blocks = last_spared h t k.block k.older k.sealed_is k.committed_is apart in
      record { block = k.block; older = k.older; sealed_is = same.sealed_same ∙ k.sealed_is; committed_is = same.committed_same ∙ k.committed_is; stands = comes_stands h t k.older k.block journal blocks k.stands }

  pub journal_kept : (h : Happening) (t : Trace) → SparesSealed h t → SparesJournal s h → SparesJournaled s h t → AreAllThere s t ⊎ ComesLast s t → AreAllThere s (h ∷ t) ⊎ ComesLast s (h ∷ t)
  journal_kept h t same journal apart (inl k) = inl (all_there_kept h t same journal apart k)
  journal_kept h t same journal apart (inr k) = inr (comes_last_kept h t same journal apart k)
