-- Of the slabs of a zone the first is found that has a block to write.
use Rattle.std.specs.Prelude.{ℕ, ◌≡◌, ◌+◌, ◌<◌, false, List, length, Option, None, Some, IfSome, IfNone}
use Rattle.std.specs.Option.{is_some}
use Rattle.std.proofs.Common.{sym, ◌∙◌, ap, subst, arith, inl, inr, refl, get_or, set}
use Rattle.std.proofs.lemmas.Bool.{cases_lt, false≢true}
use Rattle.std.proofs.lemmas.List.{get_or_default}
use Rattle.std.proofs.Math.Seq.{set-get_or}
use Rattle.slab_counts.specs.Counts.{Counts}
use Rattle.slab_writes.specs.Due.{IsDue, NoneDue}
use Rattle.slab_writes.specs.Writes.{Writes}
use Rattle.slab_writes.specs.declared.forms.Need.{Need}
use Rattle.slab_writes.specs.declared.forms.SlabWork.{SlabWork}
use Rattle.slab_writes.proofs.OutLaws.{due_or_none}
use Rattle.slab_writes.proofs.OneDue.{one_due}
use Rattle.zone_counts.specs.Zone.{slab_at}
use Rattle.slab_zone.specs.Whole.{nothing, writes_at, WholeZone}
use Rattle.slab_zone.specs.ZoneWrites.{IsDueAmong, NoneDueBefore, IsDueIn}

-- what is to be written of a slab, as it was read
pub read_as : (writes : List Writes) (k : ℕ) (s : Writes) → k < length writes → s ≡ get_or writes k s → s ≡ writes_at writes k
read_as writes k s inside read = read ∙ get_or_default writes k s nothing inside

pub due_here : (need : Need) (slabs : List Counts) (old : List Writes) (k : ℕ) (s new : Writes) (counters bytes : List ℕ) (found : Option SlabWork) → k < length old → s ≡ get_or old k s
    → counters ≡ (slab_at slabs k).counters → NoneDueBefore need old k → IfSome found (λ work. IsDue need s new counters bytes work) → IfSome found (λ work. IsDueAmong need slabs old (set old k new) bytes work)
due_here need slabs old k s new counters bytes None inside read are before due = due
due_here need slabs old k s new counters bytes (Some work) inside read are before due = record {
  place = k;
  inside = inside;
  before = before;
  slab = new;
  due = subst (λ (cs : List ℕ). IsDue need (writes_at old k) new cs bytes work) are (subst (λ (w : Writes). IsDue need w new counters bytes work) (read_as old k s inside read) due);
  after = refl;
}

-- there it is as it was, and has none
pub still_here : (old : List Writes) (k : ℕ) (s new : Writes) (found : Option SlabWork) → is_some found ≡ false → k < length old → s ≡ get_or old k s → IfNone found (new ≡ s)
    → set old k new ≡ old
still_here old k s new None none inside read same = ap (λ (w : Writes). set old k w) (same ∙ read_as old k s inside read) ∙ set-get_or old k nothing
still_here old k s new (Some work) none inside read same = absurd (false≢true (sym none))

pub none_here : (need : Need) (old : List Writes) (k : ℕ) (s : Writes) (found : Option SlabWork) → is_some found ≡ false → k < length old → s ≡ get_or old k s → IfNone found (NoneDue need s)
    → NoneDueBefore need old k → NoneDueBefore need old (k + 1)
none_here need old k s (Some work) none inside read here before = absurd (false≢true (sym none))
none_here need old k s None none inside read here before = λ j below. elim (cases_lt j k) [
  | inl early ↦ before j early
  | inr past ↦ subst (λ (n : ℕ). NoneDue need (writes_at old n)) (let is : k ≡ j = omega (arith, below, past) in is) (subst (λ (w : Writes). NoneDue need w) (read_as old k s inside read) here)
]

-- a block that is due is of one slab, and then not each is being written
pub one_slab : (need : Need) (slabs : List Counts) (old new new' : List Writes) (bytes bytes' : List ℕ) (work work' : SlabWork) (one : IsDueAmong need slabs old new bytes work) (other : IsDueAmong need slabs old new' bytes' work')
    → one.place ≡ other.place
one_slab need slabs old new new' bytes bytes' work work' one other = elim (cases_lt one.place other.place) [
  | inl below ↦ absurd (due_or_none need _ one.slab _ bytes work one.due (other.before one.place below))
  | inr above ↦ elim (cases_lt other.place one.place) [
    | inl less ↦ absurd (due_or_none need _ other.slab _ bytes' work' other.due (one.before other.place less))
    | inr equal ↦ omega arith
  ]
]

pub due_or_none_in : (need : Need) (slabs : List Counts) (old new : List Writes) (bytes : List ℕ) (work : SlabWork) → IsDueAmong need slabs old new bytes work → NoneDueBefore need old (length old) → ⊥
due_or_none_in need slabs old new bytes work due none = due_or_none need _ due.slab _ bytes work due.due (none due.place due.inside)

-- and it is one block of it, with its bytes, and one zone behind it
pub one_due_in : (need : Need) (old new new' : WholeZone) (bytes bytes' : List ℕ) (work work' : SlabWork) → IsDueIn need old new bytes work → IsDueIn need old new' bytes' work'
    → (new ≡ new') × (bytes ≡ bytes') × (work ≡ work')
one_due_in need old new new' bytes bytes' work work' one other =
    let slabs = old.counts.slabs in
    let place = one_slab need slabs old.writes new.writes new'.writes bytes bytes' work work' one.due other.due in
    let there : IsDue need (writes_at old.writes one.due.place) other.due.slab (slab_at slabs one.due.place).counters bytes' work' =
    subst (λ (k : ℕ). IsDue need (writes_at old.writes k) other.due.slab (slab_at slabs k).counters bytes' work') (sym place) other.due.due in
    let both = one_due (writes_at old.writes one.due.place) one.due.slab other.due.slab (slab_at slabs one.due.place).counters bytes bytes' work work' need one.due.due there in
    let writes : new.writes ≡ new'.writes =
    one.due.after ∙ ap (λ (w : Writes). set old.writes one.due.place w) both.0 ∙ ap (λ (k : ℕ). set old.writes k other.due.slab) place ∙ sym other.due.after in
    (one.same ∙ ap (λ (ws : List Writes). record old { writes = ws }) writes ∙ sym other.same, both.1, both.2)
