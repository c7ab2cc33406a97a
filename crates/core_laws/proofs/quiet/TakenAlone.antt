-- A write that found no space with nothing else under way: before it was begun all data blocks were used, but those that it took
-- itself for pages of its path.
use Rattle.std.proofs.Common.{ℕ, zero, suc, ◌+◌, ◌-◌, ◌≡◌, ◌⊎◌, ◌<◌, ◌≤◌, Bool, true, false, Option, None, Some, IsSome, List, [], ◌∷◌, ◌++◌, append_assoc, length, length-append, Contains, refl, ap, sym, ◌∙◌, subst, inl, inr, arith, ◌||◌, ◌&&◌}
use Rattle.core_laws.proofs.Common.{append-nil, DeskLine, Drops, Flushes, Fails, HadNoFree, Happening, Harms, IsDeskLog, IsOpen, Mapping, MayAnswer, Pbn, Remapping, Removes, Request, RightTrace, Says, Script, Session, Takes, Trace, Writer, answer_of, begun, cases_lt, claimed, eqb_tells, is_block, is_old, leads_to, lines, not_both, place_of, places, request_at, same_Some, same_tells, some_of, total, has_taken, same_self, same_writer}
use Rattle.blk_base.specs.Pages.{page_above}
use Rattle.blk_base.specs.Regions.{IsDataBlock}
use Rattle.blk_base.specs.declared.place.Lba.{Lba}
use Rattle.blk_base.specs.declared.place.Mapping.TheVariants.{At}
use Rattle.blk_base.specs.declared.place.PageId.{PageId}
use Rattle.blk_base.specs.declared.request.Answer.TheVariants as reply
use Rattle.blk_base.specs.declared.request.Request.TheVariants as request
use Rattle.core_model.specs.PageLinks.{MayLack, block_in}
use Rattle.core_model.specs.RightTraces.{NeedsFor, NeedsPage}
use Rattle.core_model.specs.Sessions.{opened_uses}
use Rattle.core_model.specs.Trace.{passed_on, is_for}
use Rattle.core_model.specs.Uses.{NoneFree, gained, lost, IsUsedAt}
use Rattle.count_laws.proofs.PointLaws.{first_is, in_first, in_second}
use Rattle.slab_counts.specs.Operations.{one_of}
use Rattle.vdo_model.specs.declared.report.DeskLine.TheVariants.{Begin, Answer}
use Rattle.vdo_model.specs.declared.report.FlushMark.{FlushMark}
use Rattle.core_laws.proofs.kept.ActKept.{place_has}
use Rattle.core_laws.proofs.kept.Spared.{contains_cut, contains_more}
use Rattle.core_laws.proofs.lists.CoreLists.{answer_later, begun_later}
use Rattle.vdo_model.specs.QuietWrites.{AllBegunAreAnswered, IsFull, flush_and_write}
use Rattle.core_laws.proofs.tokens.PageTokens.{page_tells}
use Rattle.core_laws.proofs.trace.Cuts.{lines_append, one_is_part, right_part}
use Rattle.core_laws.proofs.trace.DeskOfTrace.{desk_log_right}
use Rattle.core_laws.proofs.trace.TicketsOfTrace.{one_or, others_pass}
use Rattle.core_model.proofs.TreeLinks.{page_itself}
use Rattle.core_laws.proofs.trace.PlacesOfTrace.{IsBegun, places_begun}

-- Where one of a list stands.

-- what stands before and behind one of a list
pub record CutAt {X : Type 0} (xs : List X) (x : X) : Type 0 where
  pub newer : List X
  pub older : List X
  pub parts : xs ≡ newer ++ x ∷ older

-- one of a list cuts it
pub cut_at : {X : Type 0} (xs : List X) (x : X) → Contains xs x → CutAt xs x
cut_at [] x (k, low, is) = absurd (omega (arith, low))
cut_at {X} (y ∷ xs) x has = elim (contains_cut y xs x has) [
  | inl here ↦ record { newer = []; older = xs; parts = ap (λ (z : X). z ∷ xs) here }
  | inr later ↦ let rest = cut_at xs x later in record { newer = y ∷ rest.newer; older = rest.older; parts = ap (λ (zs : List X). y ∷ zs) rest.parts }
]

-- How a block comes to be used.

-- a block that passes to a ticket makes no use less
passes_more : (x y : Pbn) (to : Option ℕ) (xs : List Pbn) → total (is_block y) xs ≤ total (is_block y) (passed_on (Some x) to ++ xs)
passes_more x y None xs = omega arith
passes_more x y (Some k) xs = omega arith

-- a request took this block among these happenings
pub record WasTaken (since : Trace) (x : Pbn) : Type 0 where
  pub by : Writer
  pub page : Option PageId
  pub there : Contains since (Takes by page x)

-- with one happening more
taken_later : {A : Type 0} (h : Happening) (since : Trace) (x : Pbn) → A ⊎ WasTaken since x → A ⊎ WasTaken (h ∷ since) x
taken_later h since x (inl before) = inl before
taken_later h since x (inr taken) = inr (record { by = taken.by; page = taken.page; there = contains_more h since (Takes taken.by taken.page x) taken.there })

module _ (s : Session) where
  -- a loss of a block that was used takes no more than there was
  loss_least : (t : Trace) (y x : Pbn) (to : Option ℕ) → IsUsedAt s t y → lost t x ≤ gained s t x → lost t x + one_of y x ≤ opened_uses s x + total (is_block x) (passed_on (Some y) to ++ claimed t)
  loss_least t y x to some least = elim (one_or y x) [
    | inl (same, one) ↦
        let own : IsUsedAt s t x = subst (IsUsedAt s t) same some in
        let more = passes_more y x to (claimed t) in
        omega (arith, own, more, one)
    | inr other ↦ let as_before = others_pass y x to (claimed t) other in omega (arith, least, as_before, other)
  ]

  -- what is lost and gained where a decrement is taken
  removed_parts : (t : Trace) (e : Remapping) (y x : Pbn) (to : Option ℕ) → e.old ≡ At y
      → (is_old x e ≡ one_of y x) × (total (is_block x) (passed_on (block_in e.old) to ++ claimed t) ≡ total (is_block x) (passed_on (Some y) to ++ claimed t))
  removed_parts t e y x to old_is = (ap (leads_to x) old_is, ap (λ (m : Mapping). total (is_block x) (passed_on (block_in m) to ++ claimed t)) old_is)

  -- no more uses of a block went than there were
  pub lost_least : (t : Trace) (x : Pbn) → RightTrace s t → lost t x ≤ gained s t x
  lost_least [] x right = omega arith
  lost_least (Takes w page y ∷ t) x right = let before = lost_least t x right.2 in omega (arith, before)
  lost_least (Drops w y to ∷ t) x right = let now = loss_least t y x to right.0.1.some (lost_least t x right.2) in omega (arith, now)
  lost_least (Removes e to ∷ t) x right =
      let y = right.0.block in
      let parts = removed_parts t e y x to right.0.old_is in
      let now = loss_least t y x to right.0.loss.some (lost_least t x right.2) in
      omega (arith, now, parts.0, parts.1)
  lost_least (other ∷ t) x right = lost_least t x right.2

  -- where no data block is free, each is used
  pub all_used : (t : Trace) (x : Pbn) → RightTrace s t → NoneFree s t → IsDataBlock s.sizes.geometry x.0 → IsUsedAt s t x
  all_used t x right none is_data = elim (cases_lt (lost t x) (gained s t x)) [
    | inl used ↦ used
    | inr past ↦ let least = lost_least t x right in absurd (none x is_data (omega (arith, past, least)))
  ]

  -- a block that is used behind a loss was used before it
  used_before : (t : Trace) (y x : Pbn) (to : Option ℕ) → IsUsedAt s t y → lost t x + one_of y x < opened_uses s x + total (is_block x) (passed_on (Some y) to ++ claimed t) → IsUsedAt s t x
  used_before t y x to some used = elim (one_or y x) [
    | inl (same, one) ↦ subst (IsUsedAt s t) same some
    | inr other ↦ let as_before = others_pass y x to (claimed t) other in omega (arith, used, as_before, other)
  ]

  -- a block that is used was used before, or was taken since
  pub used_since : (since older : Trace) (x : Pbn) → RightTrace s (since ++ older) → IsUsedAt s (since ++ older) x → IsUsedAt s older x ⊎ WasTaken since x
  used_since [] older x right used = inl used
  used_since (Takes w page y ∷ since) older x right used = elim (one_or y x) [
    | inl (same, one) ↦ inr (record { by = w; page = page; there = first_is (Takes w page y) since (Takes w page x) (ap (λ (b : Pbn). Takes w page b) same) })
    | inr other ↦ taken_later (Takes w page y) since x (used_since since older x right.2 (omega (arith, used, other)))
  ]
  used_since (Drops w y to ∷ since) older x right used = taken_later (Drops w y to) since x (used_since since older x right.2 (used_before (since ++ older) y x to right.0.1.some (omega (arith, used))))
  used_since (Removes e to ∷ since) older x right used =
      let y = right.0.block in
      let parts = removed_parts (since ++ older) e y x to right.0.old_is in
      taken_later (Removes e to) since x (used_since since older x right.2 (used_before (since ++ older) y x to right.0.loss.some (omega (arith, used, parts.0, parts.1))))
  used_since (other ∷ since) older x right used = taken_later other since x (used_since since older x right.2 used)

-- Lines of a trace.

-- a line is that of a happening: it was said, or is the answer of a flush
abbrev pub IsLineOf : DeskLine → Happening → Type 0
IsLineOf line h = (h ≡ Says line) ⊎ ((mark : FlushMark) × (line ≡ Answer mark.request reply.Ok))

-- the happening of a line, with what was before it
pub record LineCut (t : Trace) (line : DeskLine) (older : List DeskLine) : Type 0 where
  pub newer : Trace
  pub it : Happening
  pub before : Trace
  pub parts : t ≡ newer ++ it ∷ before
  pub said : IsLineOf line it
  pub lines_are : lines before ≡ older

-- with a happening more
cut_more : (h : Happening) (t : Trace) (line : DeskLine) (older : List DeskLine) → LineCut t line older → LineCut (h ∷ t) line older
cut_more h t line older cut = record { newer = h ∷ cut.newer; it = cut.it; before = cut.before; parts = ap (λ (u : Trace). h ∷ u) cut.parts; said = cut.said; lines_are = cut.lines_are }

-- each line is that of a happening
pub line_cut : (t : Trace) (later : List DeskLine) (line : DeskLine) (older : List DeskLine) → lines t ≡ later ++ line ∷ older → LineCut t line older
line_cut [] [] line older is = absurd cc
line_cut [] (l ∷ later) line older is = absurd cc
line_cut (Says l ∷ t) [] line older is = record { newer = []; it = Says l; before = t; parts = refl; said = inl cc; lines_are = cc }
line_cut (Says l ∷ t) (m ∷ later) line older is = cut_more (Says l) t line older (line_cut t later line older cc)
line_cut (Flushes mark ∷ t) [] line older is = record { newer = []; it = Flushes mark; before = t; parts = refl; said = inr (mark, cc); lines_are = cc }
line_cut (Flushes mark ∷ t) (m ∷ later) line older is = cut_more (Flushes mark) t line older (line_cut t later line older cc)
line_cut (Fails w c true ∷ t) later line older is = cut_more (Fails w c true) t line older (line_cut t later line older is)
line_cut (Harms w x bytes fault ∷ t) later line older is = cut_more (Harms w x bytes fault) t line older (line_cut t later line older is)
line_cut (other ∷ t) later line older is = cut_more other t line older (line_cut t later line older is)

-- Which requests are under way.

-- a request is known by its stream and its number
same_name : (v w : Writer) → v.stream ≡ w.stream → v.number ≡ w.number → v ≡ w
same_name v w streams numbers = ap (λ (n : ℕ). record { stream = n; number = v.number }) streams ∙ ap (λ (n : ℕ). record { stream = w.stream; number = n }) numbers

-- one that is begun when the next of a stream is is that, or was begun before
begun_then : (v w : Writer) (older : List DeskLine) → w.number ≡ begun w.stream older → v.number < begun v.stream (Begin w ∷ older) → (v ≡ w) ⊎ (v.number < begun v.stream older)
begun_then v w older next below = elim (eqb_tells w.stream v.stream) [
  | inl same ↦
      let now : v.number < begun v.stream older + 1 = rw same.0 at below in
      elim (cases_lt v.number (begun v.stream older)) [
        | inl before ↦ inr before
        | inr past ↦
            let here : begun w.stream older ≡ begun v.stream older = ap (λ (n : ℕ). begun n older) same.1 in
            inl (same_name v w (sym same.1) (omega (arith, now, past, next, here)))
      ]
  | inr other ↦ inr (rw other.0 at below)
]

-- what stands between the moment before and the write: nothing, or a flush that was begun and answered
abbrev pub IsAlone : Script → List DeskLine → Type 0
IsAlone script between = (between ≡ []) ⊎ ((f : Writer) × (request_at script f ≡ Some request.Flush) × (between ≡ Answer f reply.Ok ∷ Begin f ∷ []))

-- so whoever was begun since is the write, or a flush
begun_alone : (depth : ℕ) (script : Script) (between older : List DeskLine) (v w : Writer) → IsDeskLog depth script (Begin w ∷ (between ++ older)) → IsAlone script between
    → v.number < begun v.stream (Begin w ∷ (between ++ older)) → begun v.stream older ≤ v.number → (v ≡ w) ⊎ (request_at script v ≡ Some request.Flush)
begun_alone depth script between older v w log alone below late = elim (begun_then v w (between ++ older) log.0.0 below) [
  | inl same ↦ inl same
  | inr before ↦ inr (by alone before)
]
  where
    by : IsAlone script between → v.number < begun v.stream (between ++ older) → request_at script v ≡ Some request.Flush
    by (inl none) before =
        let here : v.number < begun v.stream older = subst (λ (ls : List DeskLine). v.number < begun v.stream (ls ++ older)) none before in
        absurd (omega (arith, here, late))
    by (inr (f, asked, is)) before =
        let whole : IsDeskLog depth script (Begin w ∷ (Answer f reply.Ok ∷ Begin f ∷ older)) = subst (λ (ls : List DeskLine). IsDeskLog depth script (Begin w ∷ (ls ++ older))) is log in
        let here : v.number < begun v.stream (Begin f ∷ older) = subst (λ (ls : List DeskLine). v.number < begun v.stream (ls ++ older)) is before in
        elim (begun_then v f older whole.1.1.0.0 here) [
          | inl same ↦ subst (λ (u : Writer). request_at script u ≡ Some request.Flush) (sym same) asked
          | inr earlier ↦ absurd (omega (arith, earlier, late))
        ]

-- What a request is that takes a block.

-- it is a write
takes_write : (s : Session) (t : Trace) (v : Writer) (page : Option PageId) → NeedsFor s t v page → (at : Lba) × (bytes : List ℕ) × (fua : Bool) × (request_at s.script v ≡ Some (request.Write at bytes fua))
takes_write s t v None (at, bytes, asked, needs) = (at, bytes, false, asked)
takes_write s t v (Some page) needs = by needs.lacked.0 needs.lacked.1 needs.lacked.2
  where
    by : (r : Request) → request_at s.script v ≡ Some r → MayLack s.sizes.geometry.height r page → (at : Lba) × (bytes : List ℕ) × (fua : Bool) × (request_at s.script v ≡ Some (request.Write at bytes fua))
    by (request.Write at bytes fua) asked may = (at, bytes, fua, asked)
    by other asked may = absurd may

-- a page that it needs is on the path of its address
takes_page : (s : Session) (t : Trace) (w : Writer) (page : PageId) (r : Request) → request_at s.script w ≡ Some r → NeedsPage s t w page → MayLack s.sizes.geometry.height r page
takes_page s t w page r asked needs = subst (λ (q : Request). MayLack s.sizes.geometry.height q page) (same_Some _ _ (sym needs.lacked.1 ∙ asked)) needs.lacked.2

-- one that is answered so is a write, claimed none for its data, and had no free block
no_space : (s : Session) (t : Trace) (w : Writer) (r : Request) → MayAnswer s t w r reply.NoSpace
    → ((at : Lba) × (bytes : List ℕ) × (fua : Bool) × (r ≡ request.Write at bytes fua)) × (has_taken t w None ≡ false) × HadNoFree s t w
no_space s t w (request.Write at bytes fua) may = ((at, bytes, fua, refl), may.2, may.3)
no_space s t w (request.Read at) may = absurd may
no_space s t w (request.Discard at) may = absurd may
no_space s t w request.Flush may = absurd may

-- What it took is known: so it takes no second block for a page, and one that is answered `no space` took none for its data.
taken_there : (t : Trace) (w : Writer) (page : Option PageId) (x : Pbn) → Contains t (Takes w page x) → has_taken t w page ≡ true
taken_there [] w page x has = absurd (let low = has.1 in omega (arith, low))
taken_there (Takes v one y ∷ t) w page x has = elim (contains_cut (Takes v one y) t (Takes w page x) has) [
  | inl is ↦
      let by : v ≡ w = cc in
      let same : one ≡ page = cc in
      rw (by, same, for_itself page, same_self w) refl
  | inr earlier ↦ rw (taken_there t w page x earlier) (or_true (is_for one page && same_writer v w))
]
  where
    for_itself : (q : Option PageId) → is_for q q ≡ true
    for_itself None = refl
    for_itself (Some q) = page_itself q

    or_true : (b : Bool) → (b || true) ≡ true
    or_true true = refl
    or_true false = refl
taken_there (h ∷ t) w page x has = elim (contains_cut h t (Takes w page x) has) [ inl is ↦ absurd cc | inr earlier ↦ taken_there t w page x earlier ]

once : (s : Session) (t : Trace) (w : Writer) (page : PageId) (x y : Pbn) → RightTrace s (Takes w (Some page) x ∷ t) → Contains t (Takes w (Some page) y) → ⊥
once s t w page x y right has = absurd (let both : false ≡ true = sym right.0.asked.none_taken ∙ taken_there t w (Some page) y has in cc)

none_own : (s : Session) (t : Trace) (w : Writer) (x : Pbn) (r : Request) → request_at s.script w ≡ Some r → RightTrace s (Says (Answer w reply.NoSpace) ∷ t) → Contains t (Takes w None x) → ⊥
none_own s t w x r asked right has =
    let none = (no_space s t w r (right.0.1 r asked)).1 in
    absurd (let both : false ≡ true = sym none ∙ taken_there t w None x has in cc)

-- The blocks that a write took for its pages.

-- those for one page: one at most
record TakenFor (since : Trace) (w : Writer) (page : PageId) : Type 0 where
  blocks : List Pbn
  at_most : length blocks ≤ 1
  each : (x : Pbn) → Contains since (Takes w (Some page) x) → Contains blocks x

-- a happening that is none of these adds none
taken_as_before : (h : Happening) (since : Trace) (w : Writer) (page : PageId) → ((x : Pbn) → h ≡ Takes w (Some page) x → ⊥) → TakenFor since w page → TakenFor (h ∷ since) w page
taken_as_before h since w page off rest = record {
  blocks = rest.blocks;
  at_most = rest.at_most;
  each = λ x has. elim (contains_cut h since (Takes w (Some page) x) has) [ inl here ↦ absurd (off x here) | inr earlier ↦ rest.each x earlier ];
}

-- those for the pages of the path of an address, below this level
record TakenBelow (since : Trace) (w : Writer) (a levels : ℕ) : Type 0 where
  blocks : List Pbn
  at_most : length blocks ≤ levels
  each : (x : Pbn) (level : ℕ) → level < levels → Contains since (Takes w (Some (page_above level a)) x) → Contains blocks x

module _ (s : Session) (older : Trace) (w : Writer) where
  -- a write takes no second block for a page, so one at most
  taken_for : (since : Trace) (page : PageId) → RightTrace s (since ++ older) → TakenFor since w page
  taken_for [] page right = record { blocks = []; at_most = omega arith; each = λ x has. absurd (let low = has.1 in omega (arith, low)) }
  taken_for (Takes v (Some p) y ∷ since) page right = elim (same_tells v w) [
    | inl same ↦ elim (page_tells p page) [
      | inl here ↦ record {
        blocks = y ∷ [];
        at_most = omega arith;
        each = λ x has. elim (contains_cut (Takes v (Some p) y) since (Takes w (Some page) x) has) [
          | inl is ↦ first_is y [] x cc
          | inr earlier ↦
              let its : RightTrace s (Takes w (Some page) y ∷ (since ++ older)) =
              subst (λ (u : Writer). RightTrace s (Takes u (Some page) y ∷ (since ++ older))) same.1 (subst (λ (q : PageId). RightTrace s (Takes v (Some q) y ∷ (since ++ older))) here.1 right) in
              absurd (once s (since ++ older) w page y x its (in_first since older (Takes w (Some page) x) earlier))
        ];
      }
      | inr other ↦ taken_as_before (Takes v (Some p) y) since w page (λ x is. other.1 cc) (taken_for since page right.2)
    ]
    | inr other ↦ taken_as_before (Takes v (Some p) y) since w page (λ x is. other.1 cc) (taken_for since page right.2)
  ]
  taken_for (h ∷ since) page right = taken_as_before h since w page (λ x is. absurd cc) (taken_for since page right.2)

  -- level by level
  taken_below : (since : Trace) (a levels : ℕ) → RightTrace s (since ++ older) → TakenBelow since w a levels
  taken_below since a zero right = record { blocks = []; at_most = omega arith; each = λ x level low has. absurd (omega (arith, low)) }
  taken_below since a (suc levels) right =
      let here = taken_for since (page_above levels a) right in
      let rest = taken_below since a levels right in
      record {
        blocks = here.blocks ++ rest.blocks;
        at_most = let size = length-append here.blocks rest.blocks in let first = here.at_most in let second = rest.at_most in omega (arith, size, first, second);
        each = λ x level low has. elim (cases_lt level levels) [
          | inl less ↦ in_second here.blocks rest.blocks x (rest.each x level less has)
          | inr past ↦
              let same : level ≡ levels = omega (arith, low, past) in
              in_first here.blocks rest.blocks x (here.each x (subst (λ (n : ℕ). Contains since (Takes w (Some (page_above n a)) x)) same has))
        ];
      }

-- The moment before the write.

-- whoever has its place was begun
placed_begun : (s : Session) (t : Trace) (w : Writer) → RightTrace s t → IsSome (place_of (places t) w) → w.number < begun w.stream (lines t)
placed_begun s t w right some =
    let p = some_of (place_of (places t) w) some in
    let has = place_has (IsBegun t) (places t) w p.0 p.1 (places_begun s t right) in
    subst (λ (v : Writer). v.number < begun v.stream (lines t)) has.1 has.0

-- what is open wasn't begun by a moment at which all that was begun was answered
open_late : (s : Session) (since older : Trace) (v : Writer) → RightTrace s (since ++ older) → AllBegunAreAnswered (lines older) → IsOpen (since ++ older) v → begun v.stream (lines older) ≤ v.number
open_late s since older v right quiet is_open = elim (cases_lt v.number (begun v.stream (lines older))) [
  | inl early ↦
      let answer = some_of (answer_of (lines older) v) (quiet v early) in
      let log : IsDeskLog s.sizes.depth s.script (lines since ++ lines older) = subst (IsDeskLog s.sizes.depth s.script) (lines_append since older) (desk_log_right s (since ++ older) right) in
      let still = answer_later s.sizes.depth s.script (lines since) (lines older) v answer.0 log answer.1 in
      absurd (not_both (answer_of (lines (since ++ older)) v) answer.0 is_open.unanswered (ap (λ (ls : List DeskLine). answer_of ls v) (lines_append since older) ∙ still))
  | inr late ↦ late
]

-- and it is begun in all lines of later
open_begun : (newer older : Trace) (ls : List DeskLine) (v : Writer) → lines (newer ++ older) ≡ ls → IsOpen older v → v.number < begun v.stream ls
open_begun newer older ls v said is_open =
    let more = begun_later (lines newer) (lines older) v.stream in
    let first = is_open.is_begun in
    subst (λ (all : List DeskLine). v.number < begun v.stream all) (sym (lines_append newer older) ∙ said) (omega (arith, more, first))

-- a block that was taken since then was taken by the write
taken_alone : (s : Session) (newer since older : Trace) (between : List DeskLine) (v w : Writer) (page : Option PageId) (x : Pbn) → RightTrace s (newer ++ (Takes v page x ∷ (since ++ older)))
    → lines (newer ++ (Takes v page x ∷ (since ++ older))) ≡ Begin w ∷ (between ++ lines older) → IsAlone s.script between → AllBegunAreAnswered (lines older) → v ≡ w
taken_alone s newer since older between v w page x right said alone quiet =
    let taking : RightTrace s (Takes v page x ∷ (since ++ older)) = right_part s newer (Takes v page x ∷ (since ++ older)) right in
    let log : IsDeskLog s.sizes.depth s.script (Begin w ∷ (between ++ lines older)) = subst (IsDeskLog s.sizes.depth s.script) said (desk_log_right s (newer ++ (Takes v page x ∷ (since ++ older))) right) in
    let late = open_late s since older v taking.2 quiet taking.0.is_open in
    let began : IsOpen (Takes v page x ∷ (since ++ older)) v = record { is_begun = taking.0.is_open.is_begun; unanswered = taking.0.is_open.unanswered } in
    let below = open_begun newer (Takes v page x ∷ (since ++ older)) (Begin w ∷ (between ++ lines older)) v said began in
    elim (begun_alone s.sizes.depth s.script between (lines older) v w log alone below late) [
      | inl same ↦ same
      | inr flush ↦
          let write = takes_write s (since ++ older) v page taking.0.asked in
          let both : request.Flush ≡ request.Write write.0 write.1 write.2 = same_Some _ _ (sym flush ∙ write.3) in
          absurd cc
    ]

module _ (s : Session) where
  -- from a moment at which each data block was used, back to one before the write was begun
  full_since : (newer since older : Trace) (between : List DeskLine) (w : Writer) (at : Lba) (bytes : List ℕ) (fua : Bool) → RightTrace s (Says (Answer w reply.NoSpace) ∷ (newer ++ (since ++ older)))
      → request_at s.script w ≡ Some (request.Write at bytes fua) → lines (newer ++ (since ++ older)) ≡ Begin w ∷ (between ++ lines older) → IsAlone s.script between → AllBegunAreAnswered (lines older)
      → NoneFree s (since ++ older) → IsFull s.sizes.geometry (IsUsedAt s older)
  full_since newer since older between w at bytes fua right asked said alone quiet none = record {
    others = taken.blocks;
    at_most = taken.at_most;
    used = λ x is_data. elim (used_since s since older x by_then (all_used s (since ++ older) x by_then none is_data)) [
      | inl used ↦ inl used
      | inr was ↦ inr (of_write x was.by was.page was.there)
    ];
  }
    where
      -- the trace by the moment at which each was used
      by_then : RightTrace s (since ++ older)
      by_then = right_part s newer (since ++ older) right.2

      -- the blocks that it took for pages since the earlier moment
      taken : TakenBelow since w at.0 (s.sizes.geometry.height - 1)
      taken = taken_below s older w since at.0 (s.sizes.geometry.height - 1) by_then

      -- what it took it took for a page of its path
      own : (t : Trace) (x : Pbn) (page : Option PageId) → NeedsFor s t w page → Contains since (Takes w page x) → Contains taken.blocks x
      own t x None needs has = absurd (none_own s (newer ++ (since ++ older)) w x (request.Write at bytes fua) asked right (in_second newer (since ++ older) (Takes w None x) (in_first since older (Takes w None x) has)))
      own t x (Some page) needs has =
          let lacked = takes_page s t w page (request.Write at bytes fua) asked needs in
          let low = lacked.1 in
          taken.each x page.level (omega (arith, low)) (subst (λ (p : PageId). Contains since (Takes w (Some p) x)) lacked.0 has)

      -- what anybody took the write did
      of_write : (x : Pbn) (v : Writer) (page : Option PageId) → Contains since (Takes v page x) → Contains taken.blocks x
      of_write x v page has =
          let cut = cut_at since (Takes v page x) has in
          let parts : newer ++ (since ++ older) ≡ (newer ++ cut.newer) ++ (Takes v page x ∷ (cut.older ++ older)) =
          ap (λ (m : Trace). newer ++ (m ++ older)) cut.parts ∙ ap (λ (m : Trace). newer ++ m) (append_assoc cut.newer (Takes v page x ∷ cut.older) older) ∙ sym (append_assoc newer cut.newer (Takes v page x ∷ (cut.older ++ older))) in
          let whole : RightTrace s ((newer ++ cut.newer) ++ (Takes v page x ∷ (cut.older ++ older))) = subst (RightTrace s) parts right.2 in
          let same = taken_alone s (newer ++ cut.newer) cut.older older between v w page x whole (ap lines (sym parts) ∙ said) alone quiet in
          let needs = (right_part s (newer ++ cut.newer) (Takes v page x ∷ (cut.older ++ older)) whole).0.asked in
          own (cut.older ++ older) x page (subst (λ (u : Writer). NeedsFor s (cut.older ++ older) u page) same needs) (subst (λ (u : Writer). Contains since (Takes u page x)) same has)

  -- the moment at which each was used is none before the write was begun
  full_at : (since older : Trace) (between : List DeskLine) (w : Writer) → RightTrace s (Says (Answer w reply.NoSpace) ∷ (since ++ older)) → lines (since ++ older) ≡ Begin w ∷ (between ++ lines older)
      → IsAlone s.script between → AllBegunAreAnswered (lines older) → IsFull s.sizes.geometry (IsUsedAt s older)
  full_at since older between w right said alone quiet = elim (one_is_part had.newer since had.older older (sym had.moment)) [
    | inl inside ↦
        let mid = inside.0 in
        let parts : since ++ older ≡ had.newer ++ (mid ++ older) = had.moment ∙ ap (λ (u : Trace). had.newer ++ u) inside.1 in
        full_since had.newer mid older between w write.0 write.1 write.2 (subst (λ (u : Trace). RightTrace s (Says (Answer w reply.NoSpace) ∷ u)) parts right)
        (asked.1 ∙ ap (λ (r : Request). Some r) write.3) (ap lines (sym parts) ∙ said) alone quiet (subst (NoneFree s) inside.1 had.none_free)
    | inr outside ↦
        let here = placed_begun s had.older w (right_part s had.newer had.older (subst (RightTrace s) had.moment right.2)) had.placed in
        let older_is : lines older ≡ lines (outside.0 ∷ outside.1) ++ lines had.older = ap lines outside.2 ∙ lines_append (outside.0 ∷ outside.1) had.older in
        let more = begun_later (lines (outside.0 ∷ outside.1)) (lines had.older) w.stream in
        let same = ap (begun w.stream) older_is in
        let rest = begun_later between (lines older) w.stream in
        let next = log.0.0 in
        absurd (omega (arith, here, more, same, rest, next))
  ]
    where
      -- the desk log since the write was begun
      log : IsDeskLog s.sizes.depth s.script (Begin w ∷ (between ++ lines older))
      log = subst (IsDeskLog s.sizes.depth s.script) said (desk_log_right s (since ++ older) right.2)

      -- what was asked, and why it was answered so
      asked : (r : Request) × (request_at s.script w ≡ Some r)
      asked = some_of (request_at s.script w) log.0.1

      cause : ((at : Lba) × (bytes : List ℕ) × (fua : Bool) × (asked.0 ≡ request.Write at bytes fua)) × (has_taken (since ++ older) w None ≡ false) × HadNoFree s (since ++ older) w
      cause = no_space s (since ++ older) w asked.0 (right.0.1 asked.0 asked.1)

      write : (at : Lba) × (bytes : List ℕ) × (fua : Bool) × (asked.0 ≡ request.Write at bytes fua)
      write = cause.0

      had : HadNoFree s (since ++ older) w
      had = cause.2

  -- At the moment before the write, or before the flush in front of it, all data blocks were used but those of its pages.
  pub full_before : (t older newer : Trace) (later between : List DeskLine) (w : Writer) → RightTrace s t → t ≡ newer ++ older
      → lines t ≡ later ++ Answer w reply.NoSpace ∷ Begin w ∷ (between ++ lines older) → IsAlone s.script between → AllBegunAreAnswered (lines older) → IsFull s.sizes.geometry (IsUsedAt s older)
  full_before t older newer later between w right parts said alone quiet = elim (one_is_part newer cut.newer older (cut.it ∷ cut.before) (sym parts ∙ cut.parts)) [
    | inl inside ↦
        let older_is : lines older ≡ lines inside.0 ++ (Answer w reply.NoSpace ∷ lines cut.before) = ap lines (inside.1 ∙ ap (λ (h : Happening). inside.0 ++ h ∷ cut.before) it) ∙ lines_append inside.0 (Says (Answer w reply.NoSpace) ∷ cut.before) in
        let all = ap length older_is in
        let first = length-append (lines inside.0) (Answer w reply.NoSpace ∷ lines cut.before) in
        let second = ap length cut.lines_are in
        let third = length-append between (lines older) in
        absurd (omega (arith, all, first, second, third))
    | inr outside ↦
        let before_is : cut.before ≡ outside.1 ++ older = let is = outside.2 in cc in
        full_at outside.1 older between w (subst (λ (u : Trace). RightTrace s (Says (Answer w reply.NoSpace) ∷ u)) before_is answered) (ap lines (sym before_is) ∙ cut.lines_are) alone quiet
  ]
    where
      -- the answer cuts the trace
      cut : LineCut t (Answer w reply.NoSpace) (Begin w ∷ (between ++ lines older))
      cut = line_cut t later (Answer w reply.NoSpace) (Begin w ∷ (between ++ lines older)) said

      it : cut.it ≡ Says (Answer w reply.NoSpace)
      it = elim cut.said [ inl is ↦ is | inr flush ↦ absurd (let other = flush.1 in cc) ]

      answered : RightTrace s (Says (Answer w reply.NoSpace) ∷ cut.before)
      answered = subst (λ (h : Happening). RightTrace s (h ∷ cut.before)) it (right_part s cut.newer (cut.it ∷ cut.before) (subst (RightTrace s) cut.parts right))

  -- so where a flush stands in front of the write
  pub full_before_flush : (t older newer : Trace) (later : List DeskLine) (f : FlushMark) (w : Writer) → RightTrace s t → t ≡ newer ++ older → lines t ≡ later ++ flush_and_write f w (lines older)
      → request_at s.script f.request ≡ Some request.Flush → AllBegunAreAnswered (lines older) → IsFull s.sizes.geometry (IsUsedAt s older)
  full_before_flush t older newer later f w right parts said asked quiet = full_before t older newer later (Answer f.request reply.Ok ∷ Begin f.request ∷ []) w right parts said (inr (f.request, asked, refl)) quiet

  -- and where the write is the first request of all
  pub full_at_first : (t : Trace) (later : List DeskLine) (w : Writer) → RightTrace s t → lines t ≡ later ++ Answer w reply.NoSpace ∷ Begin w ∷ [] → IsFull s.sizes.geometry (IsUsedAt s [])
  full_at_first t later w right said = full_before t [] t later [] w right (sym (append-nil t)) said (inl refl) (λ v early. absurd (omega (arith, early)))
