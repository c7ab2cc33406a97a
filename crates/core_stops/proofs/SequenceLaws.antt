-- Which sequences are left on the images that a run leaves.
use Rattle.std.proofs.Common.{ℕ, ◌≡◌, ◌⊎◌, ◌+◌, ◌-◌, ◌<◌, ◌≤◌, ◌^◌, true, false, List, [], ◌∷◌, ◌++◌, length, Ok, refl, sym, ◌∙◌, ap, subst, inl, inr, arith}
use Rattle.std.specs.List.{AllByRecursion}
use Rattle.std.proofs.lemmas.Bool.{cases_Bool}
use Rattle.blk_base.specs.Sectors.{sector}
use Rattle.blk_base.specs.declared.geometry.Geometry.{Geometry}
use Rattle.blk_base.specs.declared.geometry.Super.{Super}
use Rattle.blk_base.specs.declared.journal_entry.CommittedEntry.{CommittedEntry}
use Rattle.disk_model.specs.declared.call.Call.{Call}
use Rattle.disk_model.specs.Images.{IsImage, HasOneImage}
use Rattle.disk_model.specs.Log.{Blocks, block_at, contents}
use Rattle.disk_model.proofs.ImageLaws.{all_weaker}
use Rattle.disk_model.proofs.OneImageLaws.{one_image-opening}
use Rattle.image_layout.specs.Opened.{super_of_image}
use Rattle.image_layout.specs.Superblock.{super_of}
use Rattle.image_layout.specs.Values.{journal_of}
use Rattle.image_model.proofs.WindowLaws.{one_window}
use Rattle.image_model.specs.Maps.{value_of}
use Rattle.image_model.specs.Sound.{IsSound, image_of}
use Rattle.image_model.specs.Windows.{IsWindow}
use Rattle.image_model.specs.Looked.{HasOneImageButIndex}
use Rattle.image_model.proofs.LookedLaws.{looked_first}
use Rattle.recovery_laws.specs.Kept.{AreKept, AreStopsKept, IsHeadKept, IsRecovered, IsToRecover, PutsOnly, image_in, recovered_super}
use Rattle.recovery_laws.proofs.SoundLaws.{known, room}
use Rattle.recovery_laws.proofs.StillLaws.{same_journal}
use Rattle.recovery_laws.proofs.SuperLaws.{first_of_image, first_sector_says}
use Rattle.vdo_model.specs.declared.report.RunReport.{RunReport}
use Rattle.vdo_model.specs.Journals.{Surely}
use Rattle.journal_stops.specs.Sealed.{Sealed, next_of}
use Rattle.journal_stops.proofs.ShownLaws.{window_at_rest, window_under_way}
use Rattle.session_stops.specs.Beginnings.{IsAsOpened, IsToServe, head_in, opened_in}
use Rattle.session_stops.specs.Closings.{IsClosedImage, IsClosing, IsWrittenOut, last_in}
use Rattle.session_stops.specs.Sessions.{StandsAtRest, StandsUnderWay, ShowsSoundly}
use Rattle.session_stops.proofs.BeginLaws.{is_true, super_of_mix}
use Rattle.session_stops.proofs.SurelyLaws.{goes_on}
use Rattle.core_stops.specs.Logs.{StopsRight}
use Rattle.core_stops.specs.Sequences.{AreStopsServed, CanBegin, ShowsValues, next_by, next_start}

-- An image is sound in one way.

pub sound_alike : (blocks : Blocks) (one two : IsSound blocks) → (two.head ≡ one.head) × (two.last ≡ one.last) × (two.window ≡ one.window)
sound_alike blocks one two =
    let says : Ok two.head ≡ Ok one.head = sym two.opens.accepted ∙ one.opens.accepted in
    let heads : two.head ≡ one.head = cc says in
    let window : IsWindow one.head.geometry one.head.start (journal_of one.head.geometry blocks) two.last two.window =
    subst (λ (h : Super). IsWindow h.geometry h.start (journal_of h.geometry blocks) two.last two.window) heads two.opens.is_window in
    let same = one_window one.head.geometry one.head.start (journal_of one.head.geometry blocks) two.last one.last two.window one.window window one.opens.is_window in
    (heads, same.0, same.1)

pub next_alike : (blocks : Blocks) (one two : IsSound blocks) → next_start blocks two ≡ next_start blocks one
next_alike blocks one two = let same = sound_alike blocks one two in ap (λ (h : Super). next_by h two.last) same.0 ∙ ap (next_by one.head) same.1

pub next_clean : (head : Super) (last : ℕ) → head.clean ≡ true → next_by head last ≡ head.start
next_clean head last is = rw is refl

pub next_open : (head : Super) (last : ℕ) → head.clean ≡ false → next_by head last ≡ last + 2
next_open head last is = rw is refl

pub values_alike : (blocks : Blocks) (one two : IsSound blocks) (a : ℕ) → value_of (image_in blocks two) a ≡ value_of (image_in blocks one) a
values_alike blocks one two a =
    let same = sound_alike blocks one two in
    ap (λ (h : Super). value_of (image_of h blocks two.window) a) same.0 ∙ ap (λ (w : List CommittedEntry). value_of (image_of one.head blocks w) a) same.2

-- The next run.

pub may_begin : (opening : Blocks) (log : List Call) (image : Blocks) (g : Geometry) (most left : ℕ) (values : ℕ → List ℕ) → IsImage opening log image
    → ShowsValues g most image values → most + left ≤ 2 ^ 54 → g.nonce < 2 ^ 64 → HasOneImage image [] image × CanBegin left image
may_begin opening log image g most left values is shows late named =
    let whole : (b : ℕ) → b < length image → length (block_at image b) ≡ 4096 = λ b below. is.whole b (let size = is.size in omega (arith, size, below)) in (
      one_image-opening image whole,
      record {
        whole = whole;
        sound = shows.sound;
        late = let next = shows.next in omega (arith, next, late);
        named = subst (λ (sizes : Geometry). sizes.nonce < 2 ^ 64) (sym shows.sizes) named;
      },
    )

pub next_run : (blocks : Blocks) (entry now : List Call) (logical : ℕ) (opening : ℕ → List ℕ) (g : Geometry) (most left : ℕ) (report : RunReport)
    → StopsRight (ShowsValues g most) blocks entry now logical opening report → most + left ≤ 2 ^ 54 → g.nonce < 2 ^ 64
    → (later prefix : List Call) → now ≡ later ++ (prefix ++ entry) → (image : Blocks) → IsImage blocks (prefix ++ entry) image
    → HasOneImage image [] image × CanBegin left image
next_run blocks entry now logical opening g most left report right late named later prefix same image is =
    let shown = right later prefix same image is in may_begin blocks (prefix ++ entry) image g most left shown.0 is shown.1 late named

-- What the parts of a run need.

pub can_serve : (blocks : Blocks) (can : CanBegin (2 ^ 19) blocks) → can.sound.head.clean ≡ true → IsToServe blocks
can_serve blocks can clean = record {
  sound = can.sound;
  clean = clean;
  late = let late = can.late in let next = next_clean can.sound.head can.sound.last clean in omega (arith, late, next);
  named = can.named;
}

pub can_recover : (opening : Blocks) (first : List Call) (left : ℕ) (blocks : Blocks) (can : CanBegin left blocks) → HasOneImageButIndex opening first blocks → can.sound.head.clean ≡ false
    → IsToRecover opening first blocks
can_recover opening first left blocks can one unclean = record { one = one; sound = can.sound; unclean = unclean; named = can.named }

pub can_less : (blocks : Blocks) (left fewer : ℕ) → fewer ≤ left → CanBegin left blocks → CanBegin fewer blocks
can_less blocks left fewer few can = record { whole = can.whole; sound = can.sound; late = let late = can.late in omega (arith, late, few); named = can.named }

-- It's what is asked of both: of the start, and of an image that wasn't closed, also of what recovery makes it.
pub late_both : (blocks : Blocks) (sound : IsSound blocks) (left : ℕ) → sound.head.start + left ≤ 2 ^ 54 → (sound.head.clean ≡ false → (sound.last + 2) + left ≤ 2 ^ 54)
    → next_start blocks sound + left ≤ 2 ^ 54
late_both blocks sound left start last = elim (cases_Bool sound.head.clean) [
  | inl clean ↦ let same = next_clean sound.head sound.last clean in omega (arith, same, start)
  | inr open_yet ↦ let same = next_open sound.head sound.last open_yet in let late = last open_yet in omega (arith, same, late)
]

start_below : (blocks : Blocks) (sound : IsSound blocks) → sound.head.start ≤ sound.last + 1
start_below blocks sound = elim sound.opens.is_window.is_last.there [ inl none ↦ omega (arith, none) | inr some ↦ let low = some.0 in omega (arith, low) ]

pub both_late : (blocks : Blocks) (sound : IsSound blocks) (left : ℕ) → next_start blocks sound + left ≤ 2 ^ 54
    → (sound.head.start + left ≤ 2 ^ 54) × (sound.head.clean ≡ false → (sound.last + 2) + left ≤ 2 ^ 54)
both_late blocks sound left late = (
  elim (cases_Bool sound.head.clean) [
    | inl clean ↦ let same = next_clean sound.head sound.last clean in omega (arith, same, late)
    | inr open_yet ↦ let same = next_open sound.head sound.last open_yet in let low = start_below blocks sound in omega (arith, same, late, low)
  ],
  λ open_yet. let same = next_open sound.head sound.last open_yet in omega (arith, same, late),
)

-- Recovery raises nothing.

pub recovered_next : (blocks now : Blocks) (sound : IsSound blocks) → sound.head.clean ≡ false → (is : IsRecovered (image_in blocks sound) sound.last now)
    → next_start now is.kept.sound ≡ next_start blocks sound
recovered_next blocks now sound unclean is =
    ap (λ (h : Super). next_by h is.kept.sound.last) is.closed ∙ sym (next_open sound.head sound.last unclean)

pub recovered_can : (blocks : Blocks) (left : ℕ) (can : CanBegin left blocks) → can.sound.head.clean ≡ false → (opening : Blocks) (log : List Call) (now : Blocks) → HasOneImageButIndex opening log now
    → (is : IsRecovered (image_in blocks can.sound) can.sound.last now) → (new : CanBegin left now) × (new.sound.head.clean ≡ true)
recovered_can blocks left can unclean opening log now one is = (
  record {
    whole = λ b below. one.whole b (let size = one.size in omega (arith, size, below));
    sound = is.kept.sound;
    late = let same = recovered_next blocks now can.sound unclean is in let late = can.late in omega (arith, same, late);
    named = subst (λ (h : Super). h.geometry.nonce < 2 ^ 64) (sym is.closed) can.named;
  },
  ap (λ (h : Super). h.clean) is.closed,
)

-- By the superblock: where it is the old one the journal says the rest ..
pub next_by_same : (blocks now : Blocks) (sound : IsSound blocks) → length now ≡ length blocks → (kept : AreKept (image_in blocks sound) now) → super_of_image now ≡ Ok sound.head
    → next_start now kept.sound ≡ next_start blocks sound
next_by_same blocks now sound size kept old =
    let both : Ok kept.sound.head ≡ Ok sound.head = sym kept.sound.opens.accepted ∙ old in
    let heads : kept.sound.head ≡ sound.head = cc both in
    let journal = same_journal (image_in blocks sound) now sound.pages sound.last (known blocks blocks sound) (room blocks blocks sound) size kept.others in
    let window : IsWindow sound.head.geometry sound.head.start (journal_of sound.head.geometry now) kept.sound.last kept.sound.window =
    subst (λ (h : Super). IsWindow h.geometry h.start (journal_of h.geometry now) kept.sound.last kept.sound.window) heads kept.sound.opens.is_window in
    let window_too : IsWindow sound.head.geometry sound.head.start (journal_of sound.head.geometry blocks) kept.sound.last kept.sound.window =
    subst (λ (j : Blocks). IsWindow sound.head.geometry sound.head.start j kept.sound.last kept.sound.window) journal window in
    let same = one_window sound.head.geometry sound.head.start (journal_of sound.head.geometry blocks) kept.sound.last sound.last kept.sound.window sound.window window_too sound.opens.is_window in
    ap (λ (h : Super). next_by h kept.sound.last) heads ∙ ap (next_by sound.head) same.0

-- .. and else it is the one that recovery writes.
pub next_by_heads : (blocks now : Blocks) (sound : IsSound blocks) → length now ≡ length blocks → (kept : AreKept (image_in blocks sound) now)
    → (super_of_image now ≡ Ok sound.head) ⊎ ((sound.head.clean ≡ false) × (super_of_image now ≡ Ok (recovered_super sound.head.geometry sound.last)))
    → next_start now kept.sound ≡ next_start blocks sound
next_by_heads blocks now sound size kept (inl old) = next_by_same blocks now sound size kept old
next_by_heads blocks now sound size kept (inr (unclean, new)) =
    let both : Ok kept.sound.head ≡ Ok (recovered_super sound.head.geometry sound.last) = sym kept.sound.opens.accepted ∙ new in
    let heads : kept.sound.head ≡ recovered_super sound.head.geometry sound.last = cc both in
    ap (λ (h : Super). next_by h kept.sound.last) heads ∙ sym (next_open sound.head sound.last unclean)

module _ (opening blocks : Blocks) (first : List Call) (sound : IsSound blocks) (one : HasOneImageButIndex opening first blocks) where
  abbrev IsKeptHead : List ℕ → Type 0
  IsKeptHead = IsHeadKept blocks sound

  by_first : (content other : List ℕ) → sector 0 content ≡ sector 0 other → IsKeptHead content → IsKeptHead other
  by_first content other same (inl is) = inl (first_sector_says other content (length blocks) (sym same) ∙ is)
  by_first content other same (inr is) = inr (is.0, first_sector_says other content (length blocks) (sym same) ∙ is.1)

  some : 0 < length blocks
  some = let enough = room blocks blocks sound in omega (arith, enough)

  at_first : Surely opening first 0 IsKeptHead
  at_first =
      all_weaker (λ content. content ≡ block_at blocks 0) IsKeptHead (contents opening first 0)
      (λ content is. inl (ap (λ (c : List ℕ). super_of c (length blocks)) is ∙ sym (first_of_image blocks some) ∙ sound.opens.accepted))
      (one.only 0 (let size = one.size in let long = some in omega (arith, size, long)) (looked_first blocks))

  heads_of : (calls : List Call) → AllByRecursion (PutsOnly 0 IsKeptHead) calls → Surely opening (calls ++ first) 0 IsKeptHead
  heads_of [] each = at_first
  heads_of (call ∷ calls) each = goes_on IsKeptHead opening (calls ++ first) 0 call each.0 (heads_of calls each.1)

  behind : (newer older : List Call) → AllByRecursion (PutsOnly 0 IsKeptHead) (newer ++ older) → AllByRecursion (PutsOnly 0 IsKeptHead) older
  behind [] older each = each
  behind (call ∷ newer) older each = behind newer older each.1

  pub kept_next : (calls newer older : List Call) (now : Blocks) → AllByRecursion (PutsOnly 0 IsKeptHead) calls → calls ≡ newer ++ older → IsImage opening (older ++ first) now
      → (kept : AreKept (image_in blocks sound) now) → next_start now kept.sound ≡ next_start blocks sound
  kept_next calls newer older now each parts is kept =
      let size : length now ≡ length blocks = is.size ∙ sym one.size in
      let all = heads_of older (behind newer older (subst (AllByRecursion (PutsOnly 0 IsKeptHead)) parts each)) in
      let long : 0 < length opening = (let size = one.size in let long = some in omega (arith, size, long)) in
      let here = super_of_mix IsKeptHead by_first opening (older ++ first) now long is all in
      let says : super_of_image now ≡ super_of (block_at now 0) (length blocks) =
      first_of_image now (let long = some in omega (arith, long, size)) ∙ ap (super_of (block_at now 0)) size in
      next_by_heads blocks now sound size kept (elim here [ inl old ↦ inl (says ∙ old) | inr new ↦ inr (new.0, says ∙ new.1) ])

  pub served : (calls : List Call) → AreStopsKept blocks sound opening first calls → AreStopsServed opening first blocks sound calls
  served calls stops newer older now parts is =
      let kept = stops.kept newer older now parts is in (kept, kept_next calls newer older now stops.heads parts is kept)

-- A session raises it by at most 2 ^ 18.

module _ (base : Blocks) (to : IsToServe base) where
  abbrev g : Geometry
  g = to.sound.head.geometry

  abbrev start : ℕ
  start = to.sound.head.start

  pub base_next : next_start base to.sound ≡ start
  base_next = next_clean to.sound.head to.sound.last (is_true to.sound.head.clean to.clean)

  pub opened_next : (image : Blocks) (is : IsAsOpened base to image) → next_start image is.sound ≤ start + 1
  opened_next image is =
      let next = (to.sound.closed to.clean).next in
      let last = is.last in
      elim is.head [
        | inl was ↦ let same = ap (λ (h : Super). next_by h is.sound.last) was ∙ next_clean to.sound.head is.sound.last (is_true to.sound.head.clean to.clean) in omega (arith, same)
        | inr now ↦ let same = ap (λ (h : Super). next_by h is.sound.last) now in omega (arith, same, next, last)
      ]

  journal_inside : (opening : Blocks) → length opening ≡ length base → 1 + g.journal ≤ length opening
  journal_inside opening size = let enough = room base base to.sound in omega (arith, enough, size)

  last_by : (image : Blocks) (sound : IsSound image) (last : ℕ) (window : List CommittedEntry) → sound.head ≡ head_in base to
      → IsWindow g start (journal_of g image) last window → next_start image sound ≡ last + 2
  last_by image sound last window is_head is_window =
      let here : IsWindow g start (journal_of g image) sound.last sound.window =
      subst (λ (h : Super). IsWindow h.geometry h.start (journal_of h.geometry image) sound.last sound.window) is_head sound.opens.is_window in
      let same = one_window g start (journal_of g image) sound.last last sound.window window here is_window in
      ap (λ (h : Super). next_by h sound.last) is_head ∙ ap (λ (n : ℕ). n + 2) same.0

  module _ (opening : Blocks) (log : List Call) (blocks : List Sealed) (image : Blocks) (is : IsImage opening log image) where
    pub rest_next : StandsAtRest opening log base to blocks → (entries : List CommittedEntry) (shows : ShowsSoundly (opened_in base to) (head_in base to) image entries)
        → next_start image shows.sound ≡ start + length blocks + 1
    rest_next rest entries shows =
        let some = rest.journal.some in
        let last_is : (next_of start blocks - 1) + 1 ≡ next_of start blocks = omega (arith, some) in
        let same = last_by image shows.sound (next_of start blocks - 1) _ shows.is_head
        (window_at_rest opening log g start blocks image (next_of start blocks - 1) (journal_inside opening rest.behind.size) rest.journal is last_is) in
        omega (arith, same, some)

    pub torn_next : (block : Sealed) → StandsUnderWay opening log base to blocks block → (entries : List CommittedEntry) (shows : ShowsSoundly (opened_in base to) (head_in base to) image entries)
        → next_start image shows.sound ≤ start + length blocks + 2
    torn_next block way entries shows =
        let some = way.journal.some in
        let last_is : (next_of start blocks - 1) + 1 ≡ next_of start blocks = omega (arith, some) in
        elim (window_under_way opening log g start blocks block image (next_of start blocks - 1) (journal_inside opening way.behind.size) way.journal is last_is) [
          | inl window ↦ let same = last_by image shows.sound (next_of start blocks - 1) _ shows.is_head window in omega (arith, same, some)
          | inr torn ↦ let same = last_by image shows.sound ((next_of start blocks - 1) + 1) _ shows.is_head torn.3 in omega (arith, same, some)
        ]

    pub rest_values : StandsAtRest opening log base to blocks → (entries : List CommittedEntry) (shows : ShowsSoundly (opened_in base to) (head_in base to) image entries)
        → ShowsValues g (next_start base to.sound + 2 ^ 18) image (value_of (image_in image shows.sound))
    rest_values rest entries shows = record {
      sound = shows.sound;
      sizes = ap (λ (h : Super). h.geometry) shows.is_head;
      next = let next = rest_next rest entries shows in let reach = rest.behind.reach in let first = base_next in omega (arith, next, reach, first);
      values_are = λ a. refl;
    }

    pub torn_values : (block : Sealed) → StandsUnderWay opening log base to blocks block → (entries : List CommittedEntry) (shows : ShowsSoundly (opened_in base to) (head_in base to) image entries)
        → ShowsValues g (next_start base to.sound + 2 ^ 18) image (value_of (image_in image shows.sound))
    torn_values block way entries shows = record {
      sound = shows.sound;
      sizes = ap (λ (h : Super). h.geometry) shows.is_head;
      next = let next = torn_next block way entries shows in let reach = way.behind.reach in let first = base_next in omega (arith, next, reach, first);
      values_are = λ a. refl;
    }

  pub opened_values : (image : Blocks) (is : IsAsOpened base to image) → ShowsValues g (next_start base to.sound + 2 ^ 18) image (value_of (opened_in base to))
  opened_values image is = record {
    sound = is.sound;
    sizes = is.same.geometry;
    next = let next = opened_next image is in let first = base_next in omega (arith, next, first);
    values_are = λ a. sym (is.same.values a);
  }

  -- While it is closed, and once it is.

  pub closing_next : (opening : Blocks) (log : List Call) (blocks : List Sealed) (now : Blocks) (is : IsClosing opening log base to blocks now)
      → next_start now is.kept.sound ≡ last_in base to blocks + 2
  closing_next opening log blocks now is = elim is.head [
    | inl yet ↦ ap (λ (h : Super). next_by h is.kept.sound.last) yet.0 ∙ ap (λ (n : ℕ). n + 2) yet.1
    | inr closed ↦ ap (λ (h : Super). next_by h is.kept.sound.last) closed
  ]

  last_reached : (opening : Blocks) (log : List Call) (blocks : List Sealed) → IsWrittenOut opening log base to blocks → last_in base to blocks + 2 ≤ next_start base to.sound + 2 ^ 18
  last_reached opening log blocks all =
      let some = all.stands.journal.some in let reach = all.stands.behind.reach in let first = base_next in omega (arith, some, reach, first)

  pub closing_values : (opening : Blocks) (log : List Call) (blocks : List Sealed) (now : Blocks) → IsWrittenOut opening log base to blocks → (is : IsClosing opening log base to blocks now)
      → ShowsValues g (next_start base to.sound + 2 ^ 18) now (value_of (image_in is.old is.shows.sound))
  closing_values opening log blocks now all is = record {
    sound = is.kept.sound;
    sizes = is.kept.same.geometry ∙ ap (λ (h : Super). h.geometry) is.shows.is_head;
    next = let next = closing_next opening log blocks now is in let most = last_reached opening log blocks all in omega (arith, next, most);
    values_are = λ a. sym (is.kept.same.values a);
  }

  pub closed_values : (opening : Blocks) (log : List Call) (blocks : List Sealed) (now : Blocks) → IsWrittenOut opening log base to blocks → (is : IsClosedImage opening log base to blocks now)
      → ShowsValues g (next_start base to.sound + 2 ^ 18) now (value_of (image_in is.old is.shows.sound))
  closed_values opening log blocks now all is = record {
    sound = is.recovered.kept.sound;
    sizes = is.recovered.kept.same.geometry ∙ ap (λ (h : Super). h.geometry) is.shows.is_head;
    next = let next = ap (λ (h : Super). next_by h is.recovered.kept.sound.last) is.recovered.closed in let most = last_reached opening log blocks all in omega (arith, next, most);
    values_are = λ a. sym (is.recovered.kept.same.values a);
  }
