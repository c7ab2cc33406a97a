-- Records, and blocks, say one thing of a name.
use Rattle.std.specs.Prelude.{ℕ, ◌≡◌, ◌<◌, ◌⊎◌, List, length, All, Any, None, refl}
use Rattle.std.proofs.Common.{sym, ◌∙◌, get_or, subst, inl, inr}
use Rattle.uds_chapters.specs.declared.entry.Record.{Record}
use Rattle.uds_chapters.specs.declared.found.PageFind.{PageFind}
use Rattle.uds_chapters.specs.declared.found.PageFind.TheVariants.{At, Before, After, Absent, NotAPage}
use Rattle.uds_chapters.specs.Chapters.{location_of}
use Rattle.uds_chapters.specs.Pages.{IsPage}
use Rattle.uds_chapters.specs.Finds.{IsUnder, IsOver, Says, Finds, location_in}
use Rattle.uds_chapters.proofs.NameLaws.{below_apart, above_apart}
use Rattle.uds_chapters.proofs.RecordLaws.{no_location}
use Rattle.uds_chapters.proofs.PageLaws.{one_list}

none_over : (records : List Record) (name : List ℕ) → All (IsOver name) records → location_of name records ≡ None
none_over records name over = no_location name records (λ k d inside. above_apart _ name (over k d inside))

none_under : (records : List Record) (name : List ℕ) → All (IsUnder name) records → location_of name records ≡ None
none_under records name under = no_location name records (λ k d inside. below_apart _ name (under k d inside))

not_both : (name : List ℕ) (one : Record) → IsUnder name one → IsOver name one → ⊥
not_both name one under over = cc

-- some record under the name, and all over it
mixed : (records : List Record) (name : List ℕ) → Any (IsUnder name) records → All (IsOver name) records → ⊥
mixed records name some all =
    not_both name (get_or records some.0 some.1) (subst (IsUnder name) (sym some.3) some.4) (all some.0 some.1 some.2)

mixed' : (records : List Record) (name : List ℕ) → Any (IsOver name) records → All (IsUnder name) records → ⊥
mixed' records name some all =
    not_both name (get_or records some.0 some.1) (all some.0 some.1 some.2) (subst (IsOver name) (sym some.3) some.4)

first_both : (records : List Record) (name : List ℕ) → 0 < length records → All (IsUnder name) records → All (IsOver name) records → ⊥
first_both records name some under over =
    let d : Record = record { name = name; at = record { 0 = 0 } } in
    not_both name (get_or records 0 d) (under 0 d some) (over 0 d some)

says_one : (records : List Record) (name : List ℕ) (f f' : PageFind) → Says records name f → Says records name f' → f ≡ f'
says_one records name (At l) (At l') is is' = let same = sym is ∙ is' in cc
says_one records name (At l) Before is is' = let none = none_over records name is' in absurd cc
says_one records name (At l) After is is' = let none = none_under records name is'.1 in absurd cc
says_one records name (At l) Absent is is' = let none = is'.0 in absurd cc
says_one records name (At l) NotAPage is is' = absurd is'
says_one records name Before (At l) is is' = let none = none_over records name is in absurd cc
says_one records name Before Before is is' = refl
says_one records name Before After is is' = absurd (first_both records name is'.0 is'.1 is)
says_one records name Before Absent is is' = absurd (mixed records name is'.1 is)
says_one records name Before NotAPage is is' = absurd is'
says_one records name After (At l) is is' = let none = none_under records name is.1 in absurd cc
says_one records name After Before is is' = absurd (first_both records name is.0 is.1 is')
says_one records name After After is is' = refl
says_one records name After Absent is is' = absurd (mixed' records name is'.2 is.1)
says_one records name After NotAPage is is' = absurd is'
says_one records name Absent (At l) is is' = let none = is.0 in absurd cc
says_one records name Absent Before is is' = absurd (mixed records name is.1 is')
says_one records name Absent After is is' = absurd (mixed' records name is.2 is'.1)
says_one records name Absent Absent is is' = refl
says_one records name Absent NotAPage is is' = absurd is'
says_one records name NotAPage f' is is' = absurd is

-- a block that is a page, and one that is none
abbrev IsRead : ℕ → ℕ → ℕ → List ℕ → List ℕ → PageFind → Type 0
IsRead nonce number page block name found = (records : List Record) × IsPage nonce number page block records × Says records name found

abbrev IsNone : ℕ → ℕ → ℕ → List ℕ → PageFind → Type 0
IsNone nonce number page block found = (found ≡ NotAPage) × ((records : List Record) → IsPage nonce number page block records → ⊥)

either : (nonce number page : ℕ) (block name : List ℕ) (f : PageFind) → Finds nonce number page block name f
    → IsRead nonce number page block name f ⊎ IsNone nonce number page block f
either nonce number page block name (At l) finds = inl finds
either nonce number page block name Before finds = inl finds
either nonce number page block name After finds = inl finds
either nonce number page block name Absent finds = inl finds
either nonce number page block name NotAPage finds = inr (refl, finds)

pub one_find : (nonce number page : ℕ) (block name : List ℕ) (f f' : PageFind)
    → Finds nonce number page block name f → Finds nonce number page block name f' → f ≡ f'
one_find nonce number page block name f f' finds finds' = elim (either nonce number page block name f finds) [
  | inl read ↦ elim (either nonce number page block name f' finds') [
    | inl read' ↦
        let same = one_list nonce number page block read.0 read'.0 read.1 read'.1 in
        says_one read'.0 name f f' (subst (λ (rs : List Record). Says rs name f) same read.2) read'.2
    | inr none' ↦ absurd (none'.1 read.0 read.1)
  ]
  | inr none ↦ elim (either nonce number page block name f' finds') [
    | inl read' ↦ absurd (none.1 read'.0 read'.1)
    | inr none' ↦ none.0 ∙ sym none'.0
  ]
]

-- a page that was read says of a name what its records say
pub read_says : (nonce number page : ℕ) (block name : List ℕ) (records : List Record) (f : PageFind)
    → IsPage nonce number page block records → Says records name f → Finds nonce number page block name f
read_says nonce number page block name records (At l) is says = (records, is, says)
read_says nonce number page block name records Before is says = (records, is, says)
read_says nonce number page block name records After is says = (records, is, says)
read_says nonce number page block name records Absent is says = (records, is, says)
read_says nonce number page block name records NotAPage is says = absurd says

says_location : (records : List Record) (name : List ℕ) (f : PageFind) → Says records name f → location_in f ≡ location_of name records
says_location records name (At l) says = sym says
says_location records name Before says = sym (none_over records name says)
says_location records name After says = sym (none_under records name says.1)
says_location records name Absent says = sym says.0
says_location records name NotAPage says = absurd says

pub finds_location : (nonce number page : ℕ) (block name : List ℕ) (records : List Record) (f : PageFind)
    → IsPage nonce number page block records → Finds nonce number page block name f → location_in f ≡ location_of name records
finds_location nonce number page block name records f is finds = elim (either nonce number page block name f finds) [
  | inl read ↦
      let same = one_list nonce number page block read.0 records read.1 is in
      says_location records name f (subst (λ (rs : List Record). Says rs name f) same read.2)
  | inr none ↦ absurd (none.1 records is)
]
