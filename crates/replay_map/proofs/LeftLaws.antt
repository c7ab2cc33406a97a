-- The slots of a page by runs, and a walk that goes on over its links: slots that lead nowhere are passed over.
use Rattle.std.proofs.Common.{ℕ, zero, suc, ◌≡◌, ◌+◌, ◌-◌, ◌*◌, ◌<◌, ◌≤◌, ◌++◌, Bool, List, [], ◌∷◌, Some, None, length, take, drop, replicate, slice_index_or, refl, sym, ◌∙◌, ap, subst, inl, inr, arith, append_assoc, length-drop}
use Rattle.std.proofs.lemmas.Bool.{cases_lt}
use Rattle.std.proofs.lemmas.List.{append-nil, get_or-append_right, get_or-drop, get_or-replicate, get_or-take, length-append, length-take-le}
use Rattle.blk_base.specs.declared.geometry.Geometry.{Geometry}
use Rattle.blk_base.specs.declared.place.Mapping.{Mapping}
use Rattle.blk_base.specs.declared.place.Mapping.TheVariants.{Unmapped, Zero, At}
use Rattle.blk_base.specs.declared.place.PageId.{PageId}
use Rattle.blk_base.specs.declared.place.Pbn.{Pbn}
use Rattle.blk_base.specs.declared.sizes.TheConstants.{PAGE_SLOTS}
use Rattle.blk_base.specs.Pages.{page_below}
use Rattle.disk_model.specs.Seen.{Seen}
use Rattle.disk_model.specs.Trust.{Trust}
use Rattle.image_model.specs.Maps.{Image, target_of}
use Rattle.replay_map.proofs.FormLaws.{slot_passed, slot_walked}
use Rattle.replay_map.proofs.SlotLaws.{passed_slot, target_stands, walked_slot}
use Rattle.replay_map.proofs.TakenLaws.{mapped_more}
use Rattle.replay_map.specs.Forms.{AddsForm, HasVisited, links_in}
use Rattle.replay_map.specs.Links.{IsUnmappedRun, link_of}
use Rattle.replay_map.specs.Pages.{IsReadAs}
use Rattle.replay_map.specs.Reads.{AreLeading, IsPageBlock, IsShown}
use Rattle.replay_map.specs.Taken.{GainedMapped, block_in}
use Rattle.replay_map.specs.Walks.{IsLinked, IsUnder, WalkedUnder, WalkedUpTo, head_at}
use Rattle.replay_map.specs.declared.changes.SlotId.{SlotId}
use Rattle.replay_map.specs.declared.found.Found.{Found}
use Rattle.replay_map.specs.declared.links.Link.{Link}

-- Runs.

run_is : (mappings : List Mapping) (run : ℕ) → run < 7 → length mappings ≡ 812
    → take 116 (drop (116 * run) mappings) ≡ replicate (length (take 116 (drop (116 * run) mappings))) Unmapped → IsUnmappedRun mappings run
run_is mappings run below size unmapped slot from to =
    let within : slot - 116 * run < 116 = omega (arith, from, to) in
    let place : 116 * run + (slot - 116 * run) ≡ slot = omega (arith, from) in
    let left : length (drop (116 * run) mappings) ≡ length mappings - 116 * run = length-drop (116 * run) mappings in
    let long : length (take 116 (drop (116 * run) mappings)) ≡ 116 = length-take-le 116 (drop (116 * run) mappings) (omega (arith, left, size, below)) in
    ap (λ (n : ℕ). slice_index_or mappings n Unmapped) (sym place) ∙ sym (get_or-drop (116 * run) mappings (slot - 116 * run) Unmapped)
    ∙ sym (get_or-take 116 (drop (116 * run) mappings) (slot - 116 * run) Unmapped within)
    ∙ ap (λ (ms : List Mapping). slice_index_or ms (slot - 116 * run) Unmapped) (unmapped ∙ ap (λ (n : ℕ). replicate n Unmapped) long)
    ∙ get_or-replicate 116 (slot - 116 * run) Unmapped Unmapped within

-- a run whose slots are unmapped, of a page
pub run_of_slots : (mappings slots : List Mapping) (run many : ℕ) → run < 7 → length mappings ≡ 812 → slots ≡ mappings → many ≡ 116
    → take many (drop (116 * run) slots) ≡ replicate (length (take many (drop (116 * run) slots))) Unmapped → IsUnmappedRun mappings run
run_of_slots mappings slots run many below size same enough unmapped =
    run_is mappings run below size (subst (λ (ms : List Mapping). take 116 (drop (116 * run) ms) ≡ replicate (length (take 116 (drop (116 * run) ms))) Unmapped) same
    (subst (λ (n : ℕ). take n (drop (116 * run) slots) ≡ replicate (length (take n (drop (116 * run) slots))) Unmapped) enough unmapped))

-- it leads to no pages
passed_links : (page : PageId) (mappings : List Mapping) (first n : ℕ) → ((slot : ℕ) → first ≤ slot → slot < first + n → slice_index_or mappings slot Unmapped ≡ Unmapped)
    → links_in page mappings first ≡ links_in page mappings (n + first)
passed_links page mappings first zero unmapped = ap (λ (k : ℕ). links_in page mappings k) (let same : first ≡ 0 + first = omega arith in same)
passed_links page mappings first (suc n) unmapped =
    let last : slice_index_or mappings (n + first) Unmapped ≡ Unmapped = unmapped (n + first) (omega arith) (omega arith) in
    passed_links page mappings first n (λ slot from to. unmapped slot from (omega (arith, to)))
    ∙ sym (append-nil (links_in page mappings (n + first))) ∙ ap (λ (m : Mapping). links_in page mappings (n + first) ++ link_of page (n + first) m) (sym last)
    ∙ ap (λ (k : ℕ). links_in page mappings k) (let next : suc (n + first) ≡ suc n + first = omega arith in next)

pub run_passed : (page : PageId) (mappings : List Mapping) (run : ℕ) → IsUnmappedRun mappings run → links_in page mappings (116 * run) ≡ links_in page mappings (116 * (run + 1))
run_passed page mappings run unmapped =
    passed_links page mappings (116 * run) 116 (λ slot from to. unmapped slot from (omega (arith, to)))
    ∙ ap (λ (k : ℕ). links_in page mappings k) (let next : 116 + 116 * run ≡ 116 * (run + 1) = omega arith in next)

-- and maps to no blocks
passed_maps : (mappings : List Mapping) (first n : ℕ) (old new : List Pbn) → ((slot : ℕ) → first ≤ slot → slot < first + n → slice_index_or mappings slot Unmapped ≡ Unmapped)
    → GainedMapped mappings first old new → GainedMapped mappings (first + n) old new
passed_maps mappings first zero old new unmapped gained = subst (λ (k : ℕ). GainedMapped mappings k old new) (let same : first ≡ first + 0 = omega arith in same) gained
passed_maps mappings first (suc n) old new unmapped gained =
    let last : slice_index_or mappings (first + n) Unmapped ≡ Unmapped = unmapped (first + n) (omega arith) (omega arith) in
    subst (λ (k : ℕ). GainedMapped mappings k old new) (let next : first + n + 1 ≡ first + suc n = omega arith in next)
    (mapped_more mappings (first + n) old new new (passed_maps mappings first n old new (λ slot from to. unmapped slot from (omega (arith, to))) gained)
    (sym (append-nil new) ∙ ap (λ (m : Mapping). new ++ block_in m) (sym last)))

pub run_maps_none : (mappings : List Mapping) (run : ℕ) (old new : List Pbn) → IsUnmappedRun mappings run → GainedMapped mappings (116 * run) old new
    → GainedMapped mappings (116 * (run + 1)) old new
run_maps_none mappings run old new unmapped gained =
    subst (λ (k : ℕ). GainedMapped mappings k old new) (let next : 116 * run + 116 ≡ 116 * (run + 1) = omega arith in next)
    (passed_maps mappings (116 * run) 116 old new (λ slot from to. unmapped slot from (omega (arith, to))) gained)

-- The links that are left.

-- the links of so many slots from one on
abbrev pub links_from : PageId → List Mapping → ℕ → ℕ → List Link
links_from page mappings slot zero = []
links_from page mappings slot (suc n) = link_of page slot (slice_index_or mappings slot Unmapped) ++ links_from page mappings (suc slot) n

links_behind : (page : PageId) (mappings : List Mapping) (slot n : ℕ) → links_in page mappings slot ++ links_from page mappings slot n ≡ links_in page mappings (n + slot)
links_behind page mappings slot zero =
    append-nil (links_in page mappings slot) ∙ ap (λ (k : ℕ). links_in page mappings k) (let same : slot ≡ 0 + slot = omega arith in same)
links_behind page mappings slot (suc n) =
    sym (append_assoc (links_in page mappings slot) (link_of page slot (slice_index_or mappings slot Unmapped)) (links_from page mappings (suc slot) n))
    ∙ links_behind page mappings (suc slot) n ∙ ap (λ (k : ℕ). links_in page mappings k) (let next : n + suc slot ≡ suc n + slot = omega arith in next)

-- the next link is that of the first slot that leads somewhere
pub record NextLink (page : PageId) (mappings : List Mapping) (slot count : ℕ) : Type 0 where
  pub next : ℕ
  pub left : ℕ
  pub at : Pbn
  pub from : slot ≤ next
  pub all : next + suc left ≡ slot + count
  pub none : (i : ℕ) → slot ≤ i → i < next → target_of (slice_index_or mappings i Unmapped) ≡ None
  pub leads : slice_index_or mappings next Unmapped ≡ At at
  pub links : links_from page mappings slot count ≡ record { page = page_below page next; at = at } ∷ links_from page mappings (suc next) left

next_link : (page : PageId) (mappings : List Mapping) (slot count : ℕ) → 0 < length (links_from page mappings slot count) → NextLink page mappings slot count
next_link page mappings slot zero some = absurd (omega (arith, some))
next_link page mappings slot (suc n) some = of (λ more. next_link page mappings (suc slot) n more) (slice_index_or mappings slot Unmapped) refl
  where
    rest : List Link
    rest = links_from page mappings (suc slot) n

    onward : (0 < length rest → NextLink page mappings (suc slot) n) → link_of page slot (slice_index_or mappings slot Unmapped) ≡ []
        → target_of (slice_index_or mappings slot Unmapped) ≡ None → NextLink page mappings slot (suc n)
    onward go empty nowhere =
        let behind = go (subst (λ (xs : List Link). 0 < length (xs ++ rest)) empty some) in
        record {
          next = behind.next;
          left = behind.left;
          at = behind.at;
          from = let from = behind.from in omega (arith, from);
          all = let all = behind.all in omega (arith, all);
          none = λ i from below. elim (cases_lt slot i) [
            | inl later ↦ behind.none i (omega (arith, later)) below
            | inr here ↦
                let same : slot ≡ i = omega (arith, from, here) in
                subst (λ (k : ℕ). target_of (slice_index_or mappings k Unmapped) ≡ None) same nowhere
          ];
          leads = behind.leads;
          links = ap (λ (xs : List Link). xs ++ rest) empty ∙ behind.links;
        }

    of : (0 < length rest → NextLink page mappings (suc slot) n) → (m : Mapping) → slice_index_or mappings slot Unmapped ≡ m → NextLink page mappings slot (suc n)
    of go Unmapped is = onward go (ap (link_of page slot) is) (ap target_of is)
    of go Zero is = onward go (ap (link_of page slot) is) (ap target_of is)
    of go (At at) is = record {
      next = slot;
      left = n;
      at = at;
      from = omega arith;
      all = refl;
      none = λ i from below. absurd (omega (arith, from, below));
      leads = is;
      links = ap (λ (m : Mapping). link_of page slot m ++ rest) is;
    }

-- where no link is left, no slot leads anywhere
no_link : (page : PageId) (mappings : List Mapping) (slot count : ℕ) → length (links_from page mappings slot count) ≡ 0
    → (i : ℕ) → slot ≤ i → i < slot + count → target_of (slice_index_or mappings i Unmapped) ≡ None
no_link page mappings slot zero empty i from below = absurd (omega (arith, from, below))
no_link page mappings slot (suc n) empty i from below = of (λ none later. no_link page mappings (suc slot) n none i later (omega (arith, below))) (slice_index_or mappings slot Unmapped) refl
  where
    rest : List Link
    rest = links_from page mappings (suc slot) n

    onward : (length rest ≡ 0 → suc slot ≤ i → target_of (slice_index_or mappings i Unmapped) ≡ None) → link_of page slot (slice_index_or mappings slot Unmapped) ≡ []
        → target_of (slice_index_or mappings slot Unmapped) ≡ None → target_of (slice_index_or mappings i Unmapped) ≡ None
    onward go none nowhere = elim (cases_lt slot i) [
      | inl later ↦ go (subst (λ (xs : List Link). length (xs ++ rest) ≡ 0) none empty) (omega (arith, later))
      | inr here ↦
          let same : slot ≡ i = omega (arith, from, here) in
          subst (λ (k : ℕ). target_of (slice_index_or mappings k Unmapped) ≡ None) same nowhere
    ]

    of : (length rest ≡ 0 → suc slot ≤ i → target_of (slice_index_or mappings i Unmapped) ≡ None) → (m : Mapping) → slice_index_or mappings slot Unmapped ≡ m
        → target_of (slice_index_or mappings i Unmapped) ≡ None
    of go Unmapped is = onward go (ap (link_of page slot) is) (ap target_of is)
    of go Zero is = onward go (ap (link_of page slot) is) (ap target_of is)
    of go (At at) is =
        let some : length (link_of page slot (At at) ++ rest) ≡ 0 = subst (λ (m : Mapping). length (link_of page slot m ++ rest) ≡ 0) is empty in
        absurd (omega (arith, some))

-- the links of a page that stand in a list from a place on, before its end: those of the slots from one on
pub record AreLeft (page : PageId) (mappings : List Mapping) (links : List Link) (place end slot : ℕ) : Type 0 where
  pub count : ℕ
  pub front : List Link
  pub behind : List Link
  pub all : slot + count ≡ PAGE_SLOTS
  pub before : length front ≡ place
  pub is : links ≡ front ++ (links_from page mappings slot count ++ behind)
  pub ends : place + length (links_from page mappings slot count) ≡ end

-- at first all of them
all_left : (page : PageId) (mappings : List Mapping) (old links : List Link) → links ≡ old ++ links_in page mappings PAGE_SLOTS
    → AreLeft page mappings links (length old) (length links) 0
all_left page mappings old links is =
    let own : links_in page mappings PAGE_SLOTS ≡ links_from page mappings 0 PAGE_SLOTS = sym (links_behind page mappings 0 PAGE_SLOTS) in
    let whole : links ≡ old ++ links_from page mappings 0 PAGE_SLOTS = is ∙ ap (λ (xs : List Link). old ++ xs) own in
    record {
      count = PAGE_SLOTS;
      front = old;
      behind = [];
      all = refl;
      before = refl;
      is = whole ∙ ap (λ (xs : List Link). old ++ xs) (sym (append-nil (links_from page mappings 0 PAGE_SLOTS)));
      ends = sym (ap (λ (xs : List Link). length xs) whole ∙ length-append old (links_from page mappings 0 PAGE_SLOTS));
    }

-- Walks.

-- what is known of an image when so many slots of a page with these mappings were walked over
abbrev KnownTo : Geometry → Link → List Mapping → ℕ → Found → Found → Image → Type 0
KnownTo g top mappings slots old new image = IsLinked image top → WalkedUpTo image top.page slots old new × IsReadAs image (head_at g top) mappings

-- what a walk found before the link at a place of a list, and which links are left
pub record IsWalked (trust : Trust) (g : Geometry) (changes : List (SlotId × Mapping)) (top : Link) (before now : Seen) (old new : Found) (place end : ℕ) : Type 0 where
  pub mappings : List Mapping
  pub leading : AreLeading g mappings
  pub slot : ℕ
  pub left : AreLeft top.page mappings new.links.items place end slot
  pub shown : IsShown trust g changes before now (KnownTo g top mappings slot old new)
  pub form : HasVisited g top.page mappings slot old new

-- what is known at the link at a place of a list: which slot leads there, and that those in front of it were walked over
pub record AtLink (trust : Trust) (g : Geometry) (changes : List (SlotId × Mapping)) (top : Link) (before now : Seen) (old new : Found) (place : ℕ) : Type 0 where
  pub mappings : List Mapping
  pub slot : ℕ
  pub at : Pbn
  pub inside : slot < PAGE_SLOTS
  pub stands : IsPageBlock g at
  pub leads : target_of (slice_index_or mappings slot Unmapped) ≡ Some at
  pub is : (d : Link) → slice_index_or new.links.items place d ≡ record { page = page_below top.page slot; at = at }
  pub shown : IsShown trust g changes before now (KnownTo g top mappings slot old new)

module _ (trust : Trust) (g : Geometry) (changes : List (SlotId × Mapping)) (top : Link) (inner : 0 < top.page.level) where
  -- so many slots lead nowhere
  passed_slots : (mappings : List Mapping) (slot n : ℕ) → slot + n ≤ PAGE_SLOTS → ((i : ℕ) → slot ≤ i → i < slot + n → target_of (slice_index_or mappings i Unmapped) ≡ None) → (before now : Seen) (old new : Found)
      → IsShown trust g changes before now (KnownTo g top mappings slot old new) → HasVisited g top.page mappings slot old new
      → IsShown trust g changes before now (KnownTo g top mappings (slot + n) old new) × HasVisited g top.page mappings (slot + n) old new
  passed_slots mappings slot zero inside none before now old new shown form =
      subst (λ (k : ℕ). IsShown trust g changes before now (KnownTo g top mappings k old new) × HasVisited g top.page mappings k old new) (let same : slot ≡ slot + 0 = omega arith in same) (shown, form)
  passed_slots mappings slot (suc n) inside none before now old new shown form =
      let here : slot < PAGE_SLOTS = omega (arith, inside) in
      subst (λ (k : ℕ). IsShown trust g changes before now (KnownTo g top mappings k old new) × HasVisited g top.page mappings k old new) (let next : slot + 1 + n ≡ slot + suc n = omega arith in next)
      (passed_slots mappings (slot + 1) n (omega (arith, inside)) (λ i from below. none i (omega (arith, from)) (omega (arith, below))) before now old new
      (passed_slot trust g changes top mappings slot here inner before now old new (none slot (omega arith) (omega arith)) shown)
      (slot_passed g top.page mappings slot old new here form))

  -- at first the page alone
  pub begun : (mappings : List Mapping) (before now : Seen) (old new : Found) → AreLeading g mappings → new.links.items ≡ old.links.items ++ links_in top.page mappings PAGE_SLOTS
      → IsShown trust g changes before now (KnownTo g top mappings 0 old new) → HasVisited g top.page mappings 0 old new
      → IsWalked trust g changes top before now old new (length old.links.items) (length new.links.items)
  begun mappings before now old new leading is shown form = record { mappings = mappings; leading = leading; slot = 0; left = all_left top.page mappings old.links.items new.links.items is; shown = shown; form = form }

  module _ (before middle : Seen) (old found : Found) (place end : ℕ) (walked : IsWalked trust g changes top before middle old found place end) (more : place < end) where
    abbrev mappings : List Mapping
    mappings = walked.mappings

    abbrev links_left : List Link
    links_left = links_from top.page mappings walked.slot walked.left.count

    -- the link at the place
    pub next : NextLink top.page mappings walked.slot walked.left.count
    next = let ends = walked.left.ends in next_link top.page mappings walked.slot walked.left.count (omega (arith, ends, more))

    abbrev below : Link
    below = record { page = page_below top.page next.next; at = next.at }

    inside : next.next < PAGE_SLOTS
    inside = let all = next.all in let count = walked.left.all in omega (arith, all, count)

    rest : List Link
    rest = links_from top.page mappings (suc next.next) next.left ++ walked.left.behind

    found_is : found.links.items ≡ walked.left.front ++ below ∷ rest
    unfolding rest next
    found_is = walked.left.is ∙ ap (λ (xs : List Link). walked.left.front ++ (xs ++ walked.left.behind)) next.links

    is_below : (d : Link) → slice_index_or found.links.items place d ≡ below
    is_below d =
        let front = walked.left.before in
        let none : place - length walked.left.front ≡ 0 = omega (arith, front) in
        ap (λ (xs : List Link). slice_index_or xs place d) found_is ∙ get_or-append_right walked.left.front (below ∷ rest) (length walked.left.front) place d refl (omega (arith, front))
        ∙ ap (λ (k : ℕ). slice_index_or (below ∷ rest) k d) none

    -- the slots in front of it lead nowhere
    passed : IsShown trust g changes before middle (KnownTo g top mappings next.next old found) × HasVisited g top.page mappings next.next old found
    passed =
        let from = next.from in
        let in_page = inside in
        let far : walked.slot + (next.next - walked.slot) ≡ next.next = omega (arith, from) in
        subst (λ (k : ℕ). IsShown trust g changes before middle (KnownTo g top mappings k old found) × HasVisited g top.page mappings k old found) far
        (passed_slots mappings walked.slot (next.next - walked.slot) (omega (arith, far, in_page)) (λ i least most. next.none i least (omega (arith, most, far))) before middle old found walked.shown walked.form)

    pub at_link : AtLink trust g changes top before middle old found place
    at_link = record {
      mappings = mappings;
      slot = next.next;
      at = next.at;
      inside = inside;
      stands = target_stands g (slice_index_or mappings next.next Unmapped) next.at (walked.leading next.next inside) (ap target_of next.leads);
      leads = ap target_of next.leads;
      is = is_below;
      shown = passed.0;
    }

    -- the walk below it
    walked_below : (now : Seen) (new : Found) → IsShown trust g changes middle now (λ image. IsLinked image below → WalkedUnder image below.page found new)
        → AddsForm g (λ page. page ≡ below.page) (IsUnder below.page) found new → IsWalked trust g changes top before now old new (place + 1) end
    unfolding rest
    walked_below now new shown form = record {
      mappings = mappings;
      leading = walked.leading;
      slot = next.next + 1;
      left = left_on;
      shown = walked_slot trust g changes top mappings next.next inside inner below next.at (ap target_of next.leads) refl before middle now old found new passed.0 shown;
      form = slot_walked g top.page mappings next.next below next.at old found new inner inside next.leads refl passed.1 form;
    }
      where
        one_more : suc next.next ≡ next.next + 1
        one_more = omega arith

        own : List Link
        own = links_from top.page mappings (suc next.next) next.left

        left_on : AreLeft top.page mappings new.links.items (place + 1) end (next.next + 1)
        left_on = subst (λ (k : ℕ). AreLeft top.page mappings new.links.items (place + 1) end k) one_more (record {
          count = next.left;
          front = walked.left.front ++ below ∷ [];
          behind = walked.left.behind ++ form.links.added;
          all = let all = next.all in let count = walked.left.all in omega (arith, all, count);
          before = let front = walked.left.before in length-append walked.left.front (below ∷ []) ∙ omega (arith, front);
          is =
              form.links.after ∙ ap (λ (xs : List Link). xs ++ form.links.added) found_is
              ∙ append_assoc walked.left.front (below ∷ rest) form.links.added
              ∙ ap (λ (xs : List Link). walked.left.front ++ below ∷ xs) (append_assoc own walked.left.behind form.links.added)
              ∙ sym (append_assoc walked.left.front (below ∷ []) (own ++ (walked.left.behind ++ form.links.added)));
          ends =
              let ends = walked.left.ends in
              let size = ap (λ (xs : List Link). length xs) next.links in
              omega (arith, ends, size);
        })

    pub walked_more : (now : Seen) (new : Found) (link : Link) → link ≡ slice_index_or found.links.items place link
        → IsShown trust g changes middle now (λ image. IsLinked image link → WalkedUnder image link.page found new)
        → AddsForm g (λ page. page ≡ link.page) (IsUnder link.page) found new → IsWalked trust g changes top before now old new (place + 1) end
    walked_more now new link is shown form =
        let same : link ≡ below = is ∙ is_below link in
        walked_below now new (subst (λ (l : Link). IsShown trust g changes middle now (λ image. IsLinked image l → WalkedUnder image l.page found new)) same shown)
        (subst (λ (l : Link). AddsForm g (λ page. page ≡ l.page) (IsUnder l.page) found new) same form)

  -- at the end no slot is left
  pub all_passed : (before now : Seen) (old new : Found) (place end : ℕ) (walked : IsWalked trust g changes top before now old new place end) → end ≤ place
      → IsShown trust g changes before now (KnownTo g top walked.mappings PAGE_SLOTS old new) × HasVisited g top.page walked.mappings PAGE_SLOTS old new
  all_passed before now old new place end walked ended =
      let ends = walked.left.ends in
      let all = walked.left.all in
      let none = no_link top.page walked.mappings walked.slot walked.left.count (omega (arith, ends, ended)) in
      subst (λ (k : ℕ). IsShown trust g changes before now (KnownTo g top walked.mappings k old new) × HasVisited g top.page walked.mappings k old new) all
      (passed_slots walked.mappings walked.slot walked.left.count (omega (arith, all)) none before now old new walked.shown walked.form)
