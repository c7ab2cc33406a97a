-- What clap keeps of the options that it met: the first value of each.
use Rattle.std.specs.Prelude.{◌≡◌, ◌++◌, Bool, true, false, List, [], ◌∷◌, Option, Some, None, slice_get, refl}
use Rattle.std.specs.Str.{bytes_eq}
use Rattle.std.proofs.Common.{◌∙◌, ◌⊎◌, inl, inr, ap}
use Rattle.std.proofs.lemmas.Slice.Eq.{bytes_eq-Decides}
use Rattle.clap.specs.Walk.{Row, Text, first_of, with_values}
use Rattle.clap.specs.declared.builder.value_parser.Reading.{Reading}
use Rattle.clap.specs.declared.parser.matches.ValueSource.TheVariants.{CommandLine}

abbrev pub first_some : {X : Type 0} → Option X → Option X → Option X
first_some (Some x) other = Some x
first_some None other = other

pub first_some-none : {X : Type 0} (one : Option X) → first_some one None ≡ one
first_some-none (Some x) = refl
first_some-none None = refl

pub same_text : (text : Text) → bytes_eq text text ≡ true
same_text text = (bytes_eq-Decides text text).1 refl

abbrev pub tells : (one other : Text) → Type 0
tells one other = ((bytes_eq one other ≡ true) × (one ≡ other)) ⊎ (bytes_eq one other ≡ false)

pub told : (one other : Text) → tells one other
told one other = go (bytes_eq one other) refl
  where
    go : (same : Bool) → bytes_eq one other ≡ same → tells one other
    go true is = inl (is, (bytes_eq-Decides one other).0 is)
    go false is = inr is

first_joined : (values more : List Text) → slice_get (values ++ more) 0 ≡ first_some (slice_get values 0) (slice_get more 0)
first_joined [] more = refl
first_joined (value ∷ values) more = refl

module _ (how : Reading) (values : List Text) where
  -- values that come behind those of the same option
  pub first-own : (id : Text) (rows : List Row) → first_of id (with_values id how CommandLine values rows) ≡ first_some (first_of id rows) (slice_get values 0)
  first-own id [] = rw (same_text id) refl
  first-own id (row ∷ rows) = elim (told row.id id) [
    | inl same ↦ rw (same.0, same.0) (first_joined row.values values)
    | inr other ↦ rw (other, other) (first-own id rows)
  ]

  -- values of another option
  pub first-other : (name id : Text) (rows : List Row) → bytes_eq name id ≡ false → first_of id (with_values name how CommandLine values rows) ≡ first_of id rows
  first-other name id [] differ = rw differ refl
  first-other name id (row ∷ rows) differ = elim (told row.id name) [
    | inl same ↦
        let other : bytes_eq row.id id ≡ false = ap (λ text. bytes_eq text id) same.1 ∙ differ in
        rw (same.0, other) refl
    | inr other ↦ elim (told row.id id) [
      | inl hit ↦ rw (other, hit.0) refl
      | inr miss ↦ rw (other, miss) (first-other name id rows differ)
    ]
  ]
