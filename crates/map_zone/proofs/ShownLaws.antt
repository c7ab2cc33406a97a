-- What was applied is shown: over calls of which each leaf is read back as it was handed out.
use Rattle.std.specs.Prelude.{ℕ, ◌≡◌, ◌<◌, ◌/◌, ◌%◌, ◌==◌, if◌then◌else◌, List, [], ◌∷◌, slice_index_or, slice_set, length, refl}
use Rattle.std.proofs.Common.{ap, ◌∙◌, sym, subst, arith, inl, inr}
use Rattle.std.proofs.lemmas.Bool.Decides.{eqb_tells}
use Rattle.std.proofs.lemmas.List.{get_or-set_same, get_or-set_other}
use Rattle.blk_base.specs.Pages.{leaf_of}
use Rattle.blk_base.specs.declared.geometry.Geometry.{Geometry}
use Rattle.blk_base.specs.declared.sizes.TheConstants.{PAGE_SLOTS}
use Rattle.blk_base.specs.declared.journal_entry.Entry.TheVariants.{NewPage, Remap}
use Rattle.blk_base.specs.declared.place.Lba.{Lba}
use Rattle.blk_base.specs.declared.place.Mapping.{Mapping}
use Rattle.blk_base.specs.declared.place.Mapping.TheVariants.{Unmapped}
use Rattle.blk_base.specs.declared.place.PageId.{PageId}
use Rattle.blk_base.specs.declared.place.Pbn.{Pbn}
use Rattle.blk_base.specs.declared.point.Point.{Point}
use Rattle.dirty_pages.specs.History.{IsWaiting}
use Rattle.page_codec.specs.Grammar.{AreHeld, HoldsMapping, IsPage, IsSlot}
use Rattle.page_codec.specs.PageBytes.{page_bytes}
use Rattle.page_codec.specs.declared.forms.MapPage.{MapPage}
use Rattle.page_codec.specs.declared.forms.PageHead.{PageHead}
use Rattle.page_codec.proofs.ReadLaws.{one_mapping, slots}
use Rattle.block_map_tree.specs.declared.forms.Forest.{Forest}
use Rattle.map_page_cache.specs.CachedPages.{CachedPages, IsPageOf, IsThere}
use Rattle.map_page_cache.specs.Runs as runs
use Rattle.map_page_cache.proofs.RunLaws as cache_laws
use Rattle.map_zone.specs.Operations.{Apply, AreReadBack, Operation, HandOut, HasNoLeaf, Install, IsStored, LeadTo, Leads, SayOf, Write, events_of, mapped}
use Rattle.map_zone.specs.Lookups.{Installs, MayInstall, Remaps, Shows}
use Rattle.map_zone.specs.PageWrites.{Settles, Takes, TakesLeaf, TakesNode}
use Rattle.map_zone.specs.ZoneMap.{IsZoneMap, ZoneMap, head_at}
use Rattle.map_zone.proofs.OperationLaws.{Split, split_of}

pub same_head : (h k : PageHead) → h.geometry ≡ k.geometry → h.page ≡ k.page → h.at ≡ k.at → h ≡ k
same_head h k geometry page at =
    ap (λ (g : Geometry). let r : PageHead = record { geometry = g; page = h.page; at = h.at } in r) geometry
    ∙ ap (λ (p : PageId). let r : PageHead = record { geometry = k.geometry; page = p; at = h.at } in r) page
    ∙ ap (λ (b : Pbn). let r : PageHead = record { geometry = k.geometry; page = k.page; at = b } in r) at

-- an address is known by its leaf and its slot
one_address : (a b : ℕ) → leaf_of a ≡ leaf_of b → a % 812 ≡ b % 812 → a ≡ b
one_address a b leaves slots' =
    let tree : a / 812 % 60 ≡ b / 812 % 60 = ap (λ (p : PageId). p.tree) leaves in
    let index : a / 812 / 60 / 1 ≡ b / 812 / 60 / 1 = ap (λ (p : PageId). p.index) leaves in
    omega arith

-- the same bytes, read as the same page at whatever block, say the same
one_slot : (h h' : PageHead) (bytes : List ℕ) (ms ms' : List Mapping) (slot : ℕ) → h.geometry ≡ h'.geometry → h.page ≡ h'.page → IsPage h bytes ms → IsPage h' bytes ms' → slot < 812
    → slice_index_or ms slot Unmapped ≡ slice_index_or ms' slot Unmapped
one_slot h h' bytes ms ms' slot geometry page is is' inside =
    let one = slots h bytes ms slot is inside in
    let two = slots h' bytes ms' slot is' inside in
    one_mapping h bytes slot (slice_index_or ms slot Unmapped) (slice_index_or ms' slot Unmapped) one (record {
      headed = one.headed;
      spelled = two.spelled;
      held = subst (λ (g : Geometry). HoldsMapping g h.page.level (slice_index_or ms' slot Unmapped)) (sym geometry)
          (subst (λ (p : PageId). HoldsMapping h'.geometry p.level (slice_index_or ms' slot Unmapped)) (sym page) two.held);
    })

-- a page in memory is one of the image that the format can hold
of_image : (m : ZoneMap) (page : PageId) (content : MapPage) → IsZoneMap m → IsThere m.cache page content → IsPageOf m.cache.geometry content
of_image m page content form there = subst (λ (c : MapPage). IsPageOf m.cache.geometry c) there.0.2 (form.cache.each there.0.0 content there.0.1)

geometry_of : (m : ZoneMap) (page : PageId) (content : MapPage) → IsZoneMap m → IsThere m.cache page content → content.head.geometry ≡ m.tree.forest.geometry
geometry_of m page content form there = (of_image m page content form there).geometry ∙ form.geometry

-- and so are its bytes
spelled_so : (m : ZoneMap) (page : PageId) (content : MapPage) → IsZoneMap m → IsThere m.cache page content → IsPage content.head (page_bytes content.head content.mappings) content.mappings
spelled_so m page content form there =
    let is = of_image m page content form there in
    record { spelled = refl; held = subst (λ (g : Geometry). AreHeld g content.head.page.level content.mappings) (sym is.geometry) is.held }

-- these bytes of a leaf say of its addresses what they are mapped to
abbrev SaysSo : Geometry → PageId → List ℕ → (ℕ → Mapping) → Type 0
SaysSo g page bytes mapping =
    (at : Pbn) (mappings : List Mapping) → IsPage (record { geometry = g; page = page; at = at }) bytes mappings
    → (address : ℕ) → leaf_of address ≡ page → slice_index_or mappings (address % PAGE_SLOTS) Unmapped ≡ mapping address

-- a leaf in memory says what its addresses are mapped to; and so do the bytes of one that wasn't changed since they were handed out
record Known (g : Geometry) (first : PageId → List ℕ) (opened : ℕ → Mapping) (calls : List Operation) (m : ZoneMap) : Type 0 where
  there : (address : ℕ) (content : MapPage) → IsThere m.cache (leaf_of address) content → slice_index_or content.mappings (address % PAGE_SLOTS) Unmapped ≡ mapped opened calls address
  stored : (page : PageId) (bytes : List ℕ) → IsStored first calls page bytes → ((point : Point) → IsWaiting (events_of calls) page point → ⊥)
      → SaysSo g page bytes (mapped opened calls)

module _ (g : Geometry) (first : PageId → List ℕ) (opened : ℕ → Mapping) (begun between new : ZoneMap) (calls : List Operation) (split : Split begun calls between) (begun_form : IsZoneMap begun)
    (same : between.tree.forest.geometry ≡ g) (known : Known g first opened calls between) where
  -- what is there after a call of the cache
  content_now : (c : runs.Operation) (page : PageId) (content : MapPage) → runs.Leads between.cache c new.cache → IsThere new.cache page content → runs.IsContent between.cache (c ∷ []) page content
  content_now c page content leads there = cache_laws.content_after between.cache new.cache (c ∷ []) page content split.form.cache (between.cache, refl, leads) there

  -- and after one of the tree
  still_there : (page : PageId) (content : MapPage) → new ≡ record between { tree = new.tree } → IsThere new.cache page content → IsThere between.cache page content
  still_there page content after there = subst (λ (c : CachedPages). IsThere c page content) (ap (λ (m : ZoneMap). m.cache) after) there

  remapped : (at : Lba) (was now : Mapping) (point : Point) → Remaps between new at.0 now point → Known g first opened (Apply (Remap at was now) point ∷ calls) new
  remapped at was now point remaps = record { there = there_now; stored = stored_now }
    where
      slot_in : (before : MapPage) (page : PageId) → IsThere between.cache page before → at.0 % 812 < length before.mappings
      slot_in before page there = let held = (of_image between page before split.form there).held in omega (arith, held.count)

      there_now : (address : ℕ) (content : MapPage) → IsThere new.cache (leaf_of address) content
          → slice_index_or content.mappings (address % PAGE_SLOTS) Unmapped ≡ (if at.0 == address then now else mapped opened calls address)
      there_now address content there = elim (content_now (runs.Set (leaf_of at.0) (at.0 % PAGE_SLOTS) now point) (leaf_of address) content remaps.sets there) [
        | inl this ↦
            let read = ap (λ (c : MapPage). slice_index_or c.mappings (address % PAGE_SLOTS) Unmapped) this.1.2 in
            elim (eqb_tells at.0 address) [
              | inl own ↦ rw own.0 (read ∙ ap (λ (n : ℕ). slice_index_or (slice_set this.1.0.mappings (at.0 % PAGE_SLOTS) now) (n % PAGE_SLOTS) Unmapped) (sym own.1)
                  ∙ get_or-set_same this.1.0.mappings (at.0 % PAGE_SLOTS) now Unmapped (slot_in this.1.0 (leaf_of address) this.1.1))
              | inr other ↦ rw other.0 (read
                  ∙ get_or-set_other this.1.0.mappings (at.0 % PAGE_SLOTS) (address % PAGE_SLOTS) now Unmapped (λ (e : address % 812 ≡ at.0 % 812). other.1 (one_address at.0 address this.0 (sym e)))
                  ∙ known.there address this.1.0 this.1.1)
            ]
        | inr apart ↦ elim (eqb_tells at.0 address) [
          | inl own ↦ absurd (apart.0 (ap (λ (n : ℕ). leaf_of n) own.1))
          | inr other ↦ rw other.0 (known.there address content apart.1)
        ]
      ]

      stored_now : (page : PageId) (bytes : List ℕ) → IsStored first calls page bytes → ((p : Point) → IsWaiting (events_of (Apply (Remap at was now) point ∷ calls)) page p → ⊥)
          → SaysSo g page bytes (mapped opened (Apply (Remap at was now) point ∷ calls))
      stored_now page bytes is none b mappings reads address of_page = elim (eqb_tells at.0 address) [
        | inl own ↦ absurd (none point (inl (ap (λ (n : ℕ). leaf_of n) own.1 ∙ of_page, refl)))
        | inr other ↦ rw other.0 (known.stored page bytes is (λ p waits. none p (inr waits)) b mappings reads address of_page)
      ]

  added : (page : PageId) (at : Pbn) (point : Point) → new ≡ record between { tree = new.tree } → Known g first opened (Apply (NewPage page at) point ∷ calls) new
  added page at point after = record {
    there = λ address content there. known.there address content (still_there (leaf_of address) content after there);
    stored = λ other bytes is none. known.stored other bytes is (λ p waits. none p (inr waits));
  }

  installed : (page : PageId) (bytes : List ℕ) → MayInstall between page → Installs between new page bytes → IsStored first calls page bytes
      → Known g first opened (Install page bytes ∷ calls) new
  installed page bytes may installs read = record { there = there_now; stored = λ other given is none. known.stored other given is none }
    where
      content : MapPage
      content = record { head = head_at between page installs.at; mappings = installs.mappings }

      clean : (point : Point) → IsWaiting (events_of calls) page point → ⊥
      clean point waits =
          let found = cache_laws.owed_is_there begun.cache between.cache split.of_cache page point begun_form.cache split.cache (inl (split.leaf_waits page point may.level waits)) in
          may.absent found.1.0.0 found.0 found.1.0.1 (ap (λ (c : MapPage). c.head.page) found.1.0.2 ∙ found.1.1)

      there_now : (address : ℕ) (given : MapPage) → IsThere new.cache (leaf_of address) given → slice_index_or given.mappings (address % PAGE_SLOTS) Unmapped ≡ mapped opened calls address
      there_now address given there = elim (content_now (runs.Install content) (leaf_of address) given (may.absent, installs.fills) there) [
        | inl this ↦ ap (λ (c : MapPage). slice_index_or c.mappings (address % PAGE_SLOTS) Unmapped) this.1
            ∙ known.stored page bytes read clean installs.at installs.mappings
            (subst (λ (h : Geometry). IsPage (record { geometry = h; page = page; at = installs.at }) bytes installs.mappings) same installs.read) address (sym this.0)
        | inr old ↦ known.there address given old.1
      ]

  leaf_out : (page : PageId) (at : Pbn) (bytes : List ℕ) (point : Point) → TakesLeaf between new point page at bytes → Known g first opened (HandOut page at bytes ∷ calls) new
  leaf_out page at bytes point takes = record {
    there = λ address content there. known.there address content (content_now (runs.HandOut page) (leaf_of address) content (point, takes.copy, takes.expires) there);
    stored = λ other given is none. elim is [
      | inl now ↦ says other given now.0 now.1
      | inr was ↦ known.stored other given was.1 (λ p waits. none p (was.0, waits))
    ];
  }
    where
      there : IsThere between.cache page takes.copy
      there = ((takes.expires.frame, takes.expires.stood.inside, takes.expires.stood.is), takes.expires.stood.named)

      says : (other : PageId) (given : List ℕ) → page ≡ other → given ≡ bytes → SaysSo g other given (mapped opened calls)
      says other given named is b mappings reads address of_page =
          let spelled : IsPage takes.copy.head given takes.copy.mappings
          = subst (λ (bs : List ℕ). IsPage takes.copy.head bs takes.copy.mappings) (sym (is ∙ takes.spelled.said)) (spelled_so between page takes.copy split.form there) in
          one_slot (record { geometry = g; page = other; at = b }) takes.copy.head given mappings takes.copy.mappings (address % PAGE_SLOTS)
          (sym (geometry_of between page takes.copy split.form there ∙ same)) (sym (takes.expires.stood.named ∙ named)) reads spelled (omega arith)
          ∙ known.there address takes.copy (subst (λ (p : PageId). IsThere between.cache p takes.copy) (named ∙ sym of_page) there)

  node_out : (page : PageId) (at : Pbn) (bytes : List ℕ) (point : Point) → TakesNode between new point page at bytes → Known g first opened (HandOut page at bytes ∷ calls) new
  node_out page at bytes point takes = record {
    there = λ address content there. known.there address content (still_there (leaf_of address) content takes.after there);
    stored = λ other given is none. elim is [
      | inl now ↦ λ b mappings reads address of_page. absurd (omega (arith, takes.expires.inner.level, ap (λ (p : PageId). p.level) now.0, ap (λ (p : PageId). p.level) of_page))
      | inr was ↦ known.stored other given was.1 (λ p waits. none p (was.0, waits))
    ];
  }

  written_out : (page : PageId) → Settles between new page → Known g first opened (Write page ∷ calls) new
  written_out page (inl settles) = record {
    there = λ address content there. known.there address content (content_now (runs.Write page) (leaf_of address) content (settles.out, settles.writes) there);
    stored = λ other bytes is none. known.stored other bytes is none;
  }
  written_out page (inr settles) = record {
    there = λ address content there. known.there address content (still_there (leaf_of address) content settles.after there);
    stored = λ other bytes is none. known.stored other bytes is none;
  }

  known_step : (call : Operation) → Leads between call new → AreReadBack first (call ∷ calls) → Known g first opened (call ∷ calls) new
  known_step (Apply (Remap at was now) point) leads read = remapped at was now point leads.1
  known_step (Apply (NewPage page at) point) leads read = added page at point leads.1.after
  known_step (Install page bytes) leads read = installed page bytes leads.0 leads.1 read.0
  known_step (HandOut page at bytes) (point, inl takes) read = leaf_out page at bytes point takes
  known_step (HandOut page at bytes) (point, inr takes) read = node_out page at bytes point takes
  known_step (Write page) leads read = written_out page leads.1

read_before : (first : PageId → List ℕ) (call : Operation) (calls : List Operation) → AreReadBack first (call ∷ calls) → AreReadBack first calls
read_before first (Install page bytes) calls read = read.1
read_before first (Apply entry point) calls read = read
read_before first (HandOut page at bytes) calls read = read
read_before first (Write page) calls read = read

known_of : (first : PageId → List ℕ) (opened : ℕ → Mapping) (old new : ZoneMap) (calls : List Operation) → IsZoneMap old → HasNoLeaf old → SayOf old.tree.forest.geometry first opened
    → LeadTo old calls new → AreReadBack first calls → Known old.tree.forest.geometry first opened calls new
known_of first opened old new [] form empty say same read = subst (λ (m : ZoneMap). Known old.tree.forest.geometry first opened [] m) (sym same) (record {
  there = λ address content there. absurd (empty (leaf_of address) content there);
  stored = λ page bytes is none at mappings reads address of_page.
      say page at mappings (subst (λ (bs : List ℕ). IsPage (record { geometry = old.tree.forest.geometry; page = page; at = at }) bs mappings) is reads) address of_page;
})
known_of first opened old new (call ∷ calls) form empty say lead read =
    let split = split_of old lead.0 calls form lead.1 in
    known_step old.tree.forest.geometry first opened old lead.0 new calls split form (ap (λ (f : Forest). f.geometry) split.forest)
    (known_of first opened old lead.0 calls form empty say lead.1 (read_before first call calls read)) call lead.2 read

-- what was applied is shown
pub shown : (first : PageId → List ℕ) (opened : ℕ → Mapping) (old new : ZoneMap) (calls : List Operation) (address : ℕ) (mapping : Mapping) → IsZoneMap old → HasNoLeaf old
    → SayOf old.tree.forest.geometry first opened → LeadTo old calls new → AreReadBack first calls → Shows new address mapping → mapping ≡ mapped opened calls address
shown first opened old new calls address mapping form empty say lead read shows =
    shows.says ∙ (known_of first opened old new calls form empty say lead read).there address shows.content shows.there

-- a leaf that is handed out says what was applied, and nothing else
pub says : (first : PageId → List ℕ) (opened : ℕ → Mapping) (old between new : ZoneMap) (calls : List Operation) (point : Point) (page : PageId) (at : Pbn) (bytes : List ℕ) (address : ℕ)
    → IsZoneMap old → HasNoLeaf old → SayOf old.tree.forest.geometry first opened → LeadTo old calls between → AreReadBack first calls → Takes between new point page at bytes
    → leaf_of address ≡ page → IsSlot (head_at between page at) bytes (address % PAGE_SLOTS) (mapped opened calls address)
says first opened old between new calls point page at bytes address form empty say lead read (inr takes) of_page =
    absurd (omega (arith, takes.expires.inner.level, ap (λ (p : PageId). p.level) of_page))
says first opened old between new calls point page at bytes address form empty say lead read (inl takes) of_page =
    let split = split_of old between calls form lead in
    let there : IsThere between.cache page takes.copy = ((takes.expires.frame, takes.expires.stood.inside, takes.expires.stood.is), takes.expires.stood.named) in
    let reads = spelled_so between page takes.copy split.form there in
    let slot = slots takes.copy.head (page_bytes takes.copy.head takes.copy.mappings) takes.copy.mappings (address % PAGE_SLOTS) reads (omega arith) in
    let here = (known_of first opened old between calls form empty say lead read).there address takes.copy (subst (λ (p : PageId). IsThere between.cache p takes.copy) (sym of_page) there) in
    let head : takes.copy.head ≡ head_at between page at
    = same_head takes.copy.head (head_at between page at) (geometry_of between page takes.copy split.form there) takes.expires.stood.named (sym takes.spelled.placed) in
    subst (λ (h : PageHead). IsSlot h bytes (address % PAGE_SLOTS) (mapped opened calls address)) head
    (subst (λ (bs : List ℕ). IsSlot takes.copy.head bs (address % PAGE_SLOTS) (mapped opened calls address)) (sym takes.spelled.said)
    (subst (λ (m : Mapping). IsSlot takes.copy.head (page_bytes takes.copy.head takes.copy.mappings) (address % PAGE_SLOTS) m) here slot))
