-- What is found in one slab more.
use Rattle.std.proofs.Common.{ℕ, suc, ◌≡◌, ◌⊎◌, ◌+◌, ◌-◌, ◌*◌, ◌<◌, ◌≤◌, List, [], ◌∷◌, length, get_or, Bool, Result, Ok, Err, IfErr, IsErrAnd, refl, sym, ◌∙◌, ap, subst, inl, inr, arith, length-append}
use Rattle.std.proofs.Math.ListN.{get_or-append}
use Rattle.std.proofs.Math.Seq.{get_or-append_right}
use Rattle.std.proofs.lemmas.Bool.{cases_lt, eq-eqb}
use Rattle.std.proofs.lemmas.Bool.Decides.{eqb_tells}
use Rattle.std.proofs.lemmas.List.Elements.{Contains-append_left, Contains-append_right, Contains-append_cases}
use Rattle.blk_base.specs.Counters.{sectors_per_slab}
use Rattle.blk_base.specs.declared.geometry.Geometry.{Geometry}
use Rattle.blk_base.specs.declared.journal_entry.Update.{Update}
use Rattle.blk_base.specs.declared.layout.DataPlace.{DataPlace}
use Rattle.blk_base.specs.declared.point.Point.{Point}
use Rattle.count_updates.specs.Counted.{commit_in}
use Rattle.count_updates.specs.Listed.{Lists}
use Rattle.count_updates.specs.Numbers.{block_number}
use Rattle.count_updates.proofs.NumberLaws.{row_ends}
use Rattle.count_updates.proofs.PointLaws.{made}
use Rattle.count_updates.specs.FoundLists.{found_lists}
use Rattle.disk_model.specs.Log.{Blocks}
use Rattle.disk_model.specs.Seen.{Seen}
use Rattle.disk_model.specs.Trust.{Trust}
use Rattle.slab_codec.specs.declared.forms.SlabEntry.{SlabEntry}
use Rattle.slab_reading.specs.Found.{Took, IsFound}
use Rattle.image_model.specs.declared.fault.ImageFault.{ImageFault}
use Rattle.image_model.specs.declared.fault.ImageFault.TheVariants.{Super, Window, Page, Counter, SharedPage, Counts, Device, Unclean, Memory}
use Rattle.slab_reading.specs.Reads.{read_of, SlabsRead, SlabFails, SlabFailed, SlabsFail}
use Rattle.slab_reading.specs.Slabs.{point_in, counter_in, SlabKeeps, IsOf}

pub read_last : (read : Blocks) (older : List Blocks) (slab : ℕ) → slab ≡ length older → read_of (read ∷ older) slab ≡ read
read_last read older slab same = rw (eq-eqb slab (length older) same) refl

pub read_before : (read : Blocks) (older : List Blocks) (slab : ℕ) → slab < length older → read_of (read ∷ older) slab ≡ read_of older slab
read_before read older slab less = elim (eqb_tells slab (length older)) [
  | inl same ↦ absurd (let is = same.1 in omega (arith, is, less))
  | inr other ↦ rw other.0 refl
]

pub found_none : (g : Geometry) (first : List Update) (counters : List ℕ) (commits : List Point) → counters ≡ [] → commits ≡ [] → IsFound g [] first (found_lists counters commits first)
found_none g first counters commits no_counters no_commits = record {
  counters_size = let none = ap length no_counters in omega (arith, none);
  counters_are = λ place below inside. absurd (omega (arith, below));
  commits_size = let none = ap length no_commits in omega (arith, none);
  commits_are = λ slab n below inside. absurd (omega (arith, below));
  updates_are = λ at point. (
    (λ has. inl has),
    (λ is. elim is [ inl has ↦ has | inr kept ↦ absurd (let below = kept.1 in omega (arith, below)) ]),
  );
}

module _ (g : Geometry) (reads : List Blocks) (read : Blocks) (first : List Update) (counters counters' : List ℕ) (commits commits' : List Point) (updates updates' : List Update)
    (found : IsFound g reads first (found_lists counters commits updates)) (took : Took g (length reads) read (found_lists counters commits updates) (found_lists counters' commits' updates')) where
  last_or_before : (slab : ℕ) → slab < suc (length reads) → (slab < length reads) ⊎ (slab ≡ length reads)
  last_or_before slab below = elim (cases_lt slab (length reads)) [ inl less ↦ inl less | inr most ↦ inr (omega (arith, below, most)) ]

  counter_more : (place : DataPlace) → place.slab < suc (length reads) → place.offset < g.slab_blocks
      → get_or counters' (block_number g place) 0 ≡ counter_in g (read_of (read ∷ reads) place.slab) place.offset
  counter_more place below inside =
      let adds = took.of_counters in
      ap (λ (cs : List ℕ). get_or cs (block_number g place) 0) adds.is ∙ elim (last_or_before place.slab below) [
        | inl less ↦
            let ends = row_ends place.slab (length reads) g.slab_blocks less in
            let low : block_number g place < length counters = let size = found.counters_size in omega (arith, ends, inside, size) in
            get_or-append counters adds.more 0 (block_number g place) low ∙ found.counters_are place less inside
            ∙ ap (λ (r : Blocks). counter_in g r place.offset) (sym (read_before read reads place.slab less))
        | inr here ↦
            let row = ap (λ (n : ℕ). n * g.slab_blocks) here in
            let past : length counters ≤ block_number g place = let size = found.counters_size in omega (arith, row, size) in
            let rest : block_number g place - length counters ≡ place.offset = let size = found.counters_size in omega (arith, row, size) in
            get_or-append_right counters adds.more (block_number g place) 0 past ∙ ap (λ (i : ℕ). get_or adds.more i 0) rest ∙ adds.each place.offset inside
            ∙ ap (λ (r : Blocks). counter_in g r place.offset) (sym (read_last read reads place.slab here))
      ]

  commit_more : (slab n : ℕ) → slab < suc (length reads) → n < sectors_per_slab g → commit_in commits' (slab * sectors_per_slab g + n) ≡ point_in (read_of (read ∷ reads) slab) n
  commit_more slab n below inside =
      let adds = took.of_commits in
      ap (λ (ps : List Point). commit_in ps (slab * sectors_per_slab g + n)) adds.is ∙ elim (last_or_before slab below) [
        | inl less ↦
            let ends = row_ends slab (length reads) (sectors_per_slab g) less in
            let low : slab * sectors_per_slab g + n < length commits = let size = found.commits_size in omega (arith, ends, inside, size) in
            ap (λ (p : Point). p.0) (get_or-append commits adds.more (record { 0 = 0 }) (slab * sectors_per_slab g + n) low) ∙ found.commits_are slab n less inside
            ∙ ap (λ (r : Blocks). point_in r n) (sym (read_before read reads slab less))
        | inr here ↦
            let row = ap (λ (m : ℕ). m * sectors_per_slab g) here in
            let past : length commits ≤ slab * sectors_per_slab g + n = let size = found.commits_size in omega (arith, row, size) in
            let rest : slab * sectors_per_slab g + n - length commits ≡ n = let size = found.commits_size in omega (arith, row, size) in
            ap (λ (p : Point). p.0) (get_or-append_right commits adds.more (slab * sectors_per_slab g + n) (record { 0 = 0 }) past)
            ∙ ap (commit_in adds.more) rest ∙ adds.each n inside ∙ ap (λ (r : Blocks). point_in r n) (sym (read_last read reads slab here))
      ]

  abbrev IsKeptIn : List Blocks → ℕ → ℕ → Type 0
  IsKeptIn all at point = (slab : ℕ) × (slab < length all) × (entry : SlabEntry) × IsOf g slab entry at point × SlabKeeps g slab (read_of all slab) g.slab_journal entry

  listed_then : (at point : ℕ) → Lists updates' at point → Lists first at point ⊎ IsKeptIn (read ∷ reads) at point
  listed_then at point has =
      let grew = took.of_updates in
      elim (Contains-append_cases updates grew.more (made at point) (subst (λ (us : List Update). Lists us at point) grew.is has)) [
        | inl old ↦ elim ((found.updates_are at point).0 old) [
          | inl one ↦ inl one
          | inr kept ↦ inr (kept.0, let below = kept.1 in omega (arith, below), kept.2, kept.3, subst (λ (r : Blocks). SlabKeeps g kept.0 r g.slab_journal kept.2) (sym (read_before read reads kept.0 kept.1)) kept.4)
        ]
        | inr new ↦ let is = (grew.each at point).0 new in
            inr (length reads, omega arith, is.0, is.1, subst (λ (r : Blocks). SlabKeeps g (length reads) r g.slab_journal is.0) (sym (read_last read reads (length reads) refl)) is.2)
      ]

  then_listed : (at point : ℕ) → Lists first at point ⊎ IsKeptIn (read ∷ reads) at point → Lists updates' at point
  then_listed at point is =
      let grew = took.of_updates in
      subst (λ (us : List Update). Lists us at point) (sym grew.is) (elim is [
        | inl one ↦ Contains-append_left updates grew.more (made at point) ((found.updates_are at point).1 (inl one))
        | inr (slab, below, entry, of, keeps) ↦ elim (last_or_before slab below) [
          | inl less ↦ Contains-append_left updates grew.more (made at point)
              ((found.updates_are at point).1 (inr (slab, less, entry, of, subst (λ (r : Blocks). SlabKeeps g slab r g.slab_journal entry) (read_before read reads slab less) keeps)))
          | inr here ↦ Contains-append_right updates grew.more (made at point)
              ((grew.each at point).1 (
                entry,
                subst (λ (s : ℕ). IsOf g s entry at point) here of,
                subst (λ (s : ℕ). SlabKeeps g s read g.slab_journal entry) here
                    (subst (λ (r : Blocks). SlabKeeps g slab r g.slab_journal entry) (read_last read reads slab here) keeps),
              ))
        ]
      ])

  pub found_more : IsFound g (read ∷ reads) first (found_lists counters' commits' updates')
  found_more = record {
    counters_size = let size = found.counters_size in let more = took.of_counters.size in omega (arith, ap length took.of_counters.is, length-append counters took.of_counters.more, size, more);
    counters_are = counter_more;
    commits_size = let size = found.commits_size in let more = took.of_commits.size in omega (arith, ap length took.of_commits.is, length-append commits took.of_commits.more, size, more);
    commits_are = commit_more;
    updates_are = λ at point. (listed_then at point, then_listed at point);
  }

-- a slab that isn't read behind others
pub slabs_fail : (trust : Trust) (g : Geometry) (reads : List Blocks) (slab : ℕ) (before middle now : Seen) (why : ImageFault) → length reads ≡ slab → slab < g.slabs
    → SlabsRead trust g before middle reads → SlabFails trust g slab middle now why → SlabsFail trust g before now why
slabs_fail trust g reads slab before middle now Device count below read fails =
    (reads, omega (arith, count, below), middle, read, subst (λ (s : ℕ). SlabFailed trust g s middle now) (sym count) fails)
slabs_fail trust g reads slab before middle now Memory count below read fails = tt
slabs_fail trust g reads slab before middle now (Super fault) count below read fails = absurd fails
slabs_fail trust g reads slab before middle now (Window sequence) count below read fails = absurd fails
slabs_fail trust g reads slab before middle now (Page at fault) count below read fails = absurd fails
slabs_fail trust g reads slab before middle now (Counter at point) count below read fails = absurd fails
slabs_fail trust g reads slab before middle now (SharedPage at) count below read fails = absurd fails
slabs_fail trust g reads slab before middle now (Counts at stored mapped) count below read fails = absurd fails
slabs_fail trust g reads slab before middle now Unclean count below read fails = absurd fails

-- what holds of an error holds of it where it is passed on
pub passed_on : {T : Type 0} (result : Result T ImageFault) (Is : ImageFault → Type 0) (why : ImageFault) → IsErrAnd result (λ e. e ≡ why) → Is why → IfErr result Is
passed_on (Ok x) Is why is has = tt
passed_on (Err e) Is why is has = rw is has
