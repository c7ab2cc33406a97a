-- What is found after records were added to others.
use Rattle.std.specs.Prelude.{ℕ, ◌≡◌, ◌≢◌, ◌<◌, ◌≤◌, ◌+◌, Bool, true, false, List, [], ◌∷◌, ◌++◌, length, take, Option, None, Some, cond, slice_index_or, refl}
use Rattle.std.specs.Option.{option_or}
use Rattle.std.specs.Ordering.{match_ordering}
use Rattle.std.specs.Str.{bytes_eq}
use Rattle.std.proofs.Common.{sym, ◌∙◌, ap, subst, arith, Ordering, Less, Equal, Greater, length-take}
use Rattle.std.proofs.lemmas.Bool.{false≢true}
use Rattle.std.proofs.lemmas.List.{take_more, get_or-take, get_or_default}
use Rattle.std.proofs.lemmas.Slice.Eq.{bytes_eq-Decides}
use Rattle.blk_base.specs.declared.place.Pbn.{Pbn}
use Rattle.uds_chapters.specs.declared.entry.Record.{Record}
use Rattle.uds_chapters.specs.declared.added.Added.{Added}
use Rattle.uds_chapters.specs.declared.added.Added.TheVariants.{New, Replaced, Full}
use Rattle.uds_chapters.specs.Names.{name_cmp, AreRising}
use Rattle.uds_chapters.specs.Chapters.{Adds, location_of, with_record}
use Rattle.uds_chapters.proofs.NameLaws.{same_test, below_apart}
use Rattle.uds_chapters.proofs.RecordLaws.{own_location, other_location, no_location}

pub or_none : (o : Option Pbn) → option_or o None ≡ o
or_none None = refl
or_none (Some at) = refl

pub or_assoc : (a b c : Option Pbn) → option_or a (option_or b c) ≡ option_or (option_or a b) c
or_assoc None b c = refl
or_assoc (Some at) b c = refl

-- a record of the former list counts
location-append : (name : List ℕ) (xs ys : List Record) → location_of name (xs ++ ys) ≡ option_or (location_of name xs) (location_of name ys)
location-append name [] ys = refl
location-append name (one ∷ xs) ys = by (bytes_eq one.name name) (location-append name xs ys)
  where
    by : (b : Bool) → location_of name (xs ++ ys) ≡ option_or (location_of name xs) (location_of name ys)
        → cond b (Some one.at) (location_of name (xs ++ ys)) ≡ option_or (cond b (Some one.at) (location_of name xs)) (location_of name ys)
    by true rest = refl
    by false rest = rest

added_one : (name : List ℕ) (mid new old xs : List Record) (one : Record) → location_of one.name xs ≡ None → new ≡ with_record one mid
    → location_of name mid ≡ option_or (location_of name xs) (location_of name old)
    → location_of name new ≡ option_or (location_of name (xs ++ one ∷ [])) (location_of name old)
added_one name mid new old xs one fresh is before = by (bytes_eq one.name name) refl
  where
    by : (b : Bool) → bytes_eq one.name name ≡ b → location_of name new ≡ option_or (location_of name (xs ++ one ∷ [])) (location_of name old)
    by true same =
        let names : one.name ≡ name = (bytes_eq-Decides one.name name).0 same in
        ap (location_of name) is
        ∙ subst (λ (n : List ℕ). location_of n (with_record one mid) ≡ Some one.at) names (own_location one mid)
        ∙ sym (ap (λ (o : Option Pbn). option_or o (location_of name old))
        (location-append name xs (one ∷ [])
        ∙ ap (λ (b : Bool). option_or (location_of name xs) (cond b (Some one.at) None)) same
        ∙ ap (λ (o : Option Pbn). option_or o (Some one.at)) (subst (λ (n : List ℕ). location_of n xs ≡ None) names fresh)))
    by false other =
        let apart : name ≢ one.name = λ e. false≢true (sym other ∙ same_test one.name name (sym e)) in
        ap (location_of name) is ∙ other_location one name mid apart ∙ before
        ∙ sym (ap (λ (o : Option Pbn). option_or o (location_of name old))
        (location-append name xs (one ∷ [])
        ∙ ap (λ (b : Bool). option_or (location_of name xs) (cond b (Some one.at) None)) other
        ∙ or_none (location_of name xs)))

-- names that rise are new
fresh_name : (records : List Record) (k : ℕ) (one : Record) → AreRising records → k < length records → one ≡ slice_index_or records k one
    → location_of one.name (take k records) ≡ None
fresh_name records k one rising inside is = no_location one.name (take k records) (λ j d within.
    let size = length-take k records in
    let below : j < k = omega (arith, size, within) in
    let less = rising j k d below inside in
    let here : slice_index_or (take k records) j d ≡ slice_index_or records j d = get_or-take k records j d below in
    let own : slice_index_or records k d ≡ one = get_or_default records k d one inside ∙ sym is in
    below_apart (slice_index_or (take k records) j d).name one.name
    (ap (λ (r : Record). name_cmp r.name one.name) here ∙ ap (λ (r : Record). name_cmp (slice_index_or records j d).name r.name) (sym own) ∙ less))

length-with : (new : Record) (records : List Record) → length (with_record new records) ≤ length records + 1
length-with new [] = omega arith
length-with new (one ∷ records) = by (name_cmp one.name new.name) (length-with new records)
  where
    by : (o : Ordering) → length (with_record new records) ≤ length records + 1
        → length (match_ordering o (one ∷ with_record new records) (new ∷ records) (new ∷ one ∷ records)) ≤ length (one ∷ records) + 1
    by Less rest = omega (arith, rest)
    by Equal rest = omega arith
    by Greater rest = omega arith

-- what adding did, where there is room
with_one : (mid new : List Record) (one : Record) (added : Added) → Adds mid new one added → length mid < 680 → new ≡ with_record one mid
with_one mid new one New adds few = adds.2
with_one mid new one Replaced adds few = adds.1
with_one mid new one Full adds few = let full = adds.1 in absurd (omega (arith, full, few))

pub added_few : (mid new : List Record) (one : Record) (added : Added) → Adds mid new one added → length mid < 680 → length new ≤ length mid + 1
added_few mid new one added adds few =
    let is = ap length (with_one mid new one added adds few) in let more = length-with one mid in omega (arith, is, more)

pub added_next : (name : List ℕ) (records mid new old : List Record) (k : ℕ) (one : Record) (added : Added) → AreRising records → k < length records
    → one ≡ slice_index_or records k one → Adds mid new one added → length mid < 680
    → location_of name mid ≡ option_or (location_of name (take k records)) (location_of name old)
    → location_of name new ≡ option_or (location_of name (take (k + 1) records)) (location_of name old)
added_next name records mid new old k one added rising inside is adds few before =
    added_one name mid new old (take k records) one (fresh_name records k one rising inside is) (with_one mid new one added adds few) before
    ∙ ap (λ (xs : List Record). option_or (location_of name xs) (location_of name old))
    (sym (take_more records k one inside ∙ ap (λ (r : Record). take k records ++ r ∷ []) (sym is)))
