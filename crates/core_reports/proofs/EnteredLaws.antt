-- Whether the entries of requests were handed in, as it is noted.
use Rattle.std.proofs.Common.{ℕ, zero, suc, ◌≡◌, ◌≢◌, ◌<◌, Bool, true, false, Option, List, [], ◌∷◌, length, get_or, map, replicate, set, refl, sym, ◌∙◌, ap, arith, inl, inr, get_or-set_same, get_or-set_other, length-set}
use Rattle.std.proofs.Math.ListN.{get_or-map}
use Rattle.std.proofs.Math.Seq.{map-set_same}
use Rattle.std.proofs.lemmas.Bool.{cases_eq, eq-eqb, ne_eqb}
use Rattle.std.proofs.lemmas.List.{length-replicate}
use Rattle.blk_base.specs.declared.request.Writer.{Writer}
use Rattle.data_vio.specs.declared.logged.Logged.{Logged}
use Rattle.data_vio.specs.declared.logged.Logged.TheVariants.{Remaps}
use Rattle.data_vio.specs.declared.logged.Remapping.{Remapping}
use Rattle.core_model.specs.Reports.{is_there}
use Rattle.core_model.specs.Trace.{logged_of, remappings}
use Rattle.core_reports.specs.Found.{AreEntered, entered_in}

-- a list with an item is there
there : (lists : List (List Bool)) (s : ℕ) → 0 < length (get_or lists s []) → s < length lists
there [] s some = absurd (omega (arith, some))
there (list ∷ lists) zero some = omega arith
there (list ∷ lists) (suc s) some = let more = there lists s some in omega (arith, more)

-- the entry of one request is noted
module _ (old : List (List Bool)) (s n : ℕ) where
  abbrev noted : List (List Bool)
  noted = set old s (set (get_or old s []) n true)

  its_own : n < length (get_or old s []) → get_or (get_or noted s []) n false ≡ true
  its_own within =
      ap (λ (list : List Bool). get_or list n false) (get_or-set_same old s (set (get_or old s []) n true) [] (there old s (omega (arith, within))))
      ∙ get_or-set_same (get_or old s []) n true false within

  of_stream : (m : ℕ) → m ≢ n → m < length (get_or old s []) → get_or (get_or noted s []) m false ≡ get_or (get_or old s []) m false
  of_stream m other within =
      ap (λ (list : List Bool). get_or list m false) (get_or-set_same old s (set (get_or old s []) n true) [] (there old s (omega (arith, within))))
      ∙ get_or-set_other (get_or old s []) n m true false other

  of_another : (t m : ℕ) → t ≢ s → get_or (get_or noted t []) m false ≡ get_or (get_or old t []) m false
  of_another t m other = ap (λ (list : List Bool). get_or list m false) (get_or-set_other old s t (set (get_or old s []) n true) [] other)

-- one entry more, of an address
pub entered_more : (e : Remapping) (older : List Logged) (room : List ℕ) (old new : List (List Bool)) → AreEntered older room old
    → new ≡ set old e.request.stream (set (get_or old e.request.stream []) e.request.number true) → AreEntered (Remaps e ∷ older) room new
entered_more e older room old new are is = record {
  room_is =
      ap (λ (lists : List (List Bool)). map length lists) is
      ∙ map-set_same length old s (set (get_or old s []) n true) [] (length-set (get_or old s []) n true)
      ∙ are.room_is;
  told = λ w within. ap (λ (lists : List (List Bool)). entered_in lists w) is ∙ told w within;
}
  where
    s : ℕ
    s = e.request.stream

    n : ℕ
    n = e.request.number

    told : (w : Writer) → w.number < get_or room w.stream 0
        → entered_in (set old e.request.stream (set (get_or old e.request.stream []) e.request.number true)) w ≡ is_there (logged_of (remappings (Remaps e ∷ older)) w)
    told w within =
        let size : get_or room w.stream 0 ≡ length (get_or old w.stream [])
        = ap (λ (counts : List ℕ). get_or counts w.stream 0) (sym are.room_is) ∙ get_or-map length old w.stream [] in
        elim (cases_eq e.request.stream w.stream) [
          | inl same ↦
              let here : length (get_or old e.request.stream []) ≡ length (get_or old w.stream []) = ap (λ (t : ℕ). length (get_or old t [])) same in
              elim (cases_eq e.request.number w.number) [
                | inl it ↦ rw (eq-eqb e.request.stream w.stream same, eq-eqb e.request.number w.number it)
                    (ap (λ (t : ℕ). get_or (get_or (noted old e.request.stream e.request.number) t []) w.number false) (sym same)
                    ∙ ap (λ (m : ℕ). get_or (get_or (noted old e.request.stream e.request.number) e.request.stream []) m false) (sym it)
                    ∙ its_own old e.request.stream e.request.number (omega (arith, within, size, here, it)))
                | inr other ↦ rw (eq-eqb e.request.stream w.stream same, ne_eqb e.request.number w.number other)
                    (ap (λ (t : ℕ). get_or (get_or (noted old e.request.stream e.request.number) t []) w.number false) (sym same)
                    ∙ of_stream old e.request.stream e.request.number w.number (λ is. other (sym is)) (omega (arith, within, size, here))
                    ∙ ap (λ (t : ℕ). get_or (get_or old t []) w.number false) same
                    ∙ are.told w within)
              ]
          | inr other ↦ rw (ne_eqb e.request.stream w.stream other)
              (of_another old e.request.stream e.request.number w.stream w.number (λ is. other (sym is)) ∙ are.told w within)
        ]

-- room for the entries of as many requests of a stream as there are notes
abbrev pub blank : List (Option ℕ) → List Bool
blank noted = replicate (length noted) false

unset : (count n : ℕ) → get_or (replicate count false) n false ≡ false
unset zero n = refl
unset (suc count) zero = refl
unset (suc count) (suc n) = unset count n

lengths : (notes : List (List (Option ℕ))) → map length (map blank notes) ≡ map length notes
lengths [] = refl
lengths (noted ∷ notes) = rw (length-replicate {A = Bool} (length noted) false, lengths notes) refl

-- no entry is noted in it
pub none_entered : (notes : List (List (Option ℕ))) → AreEntered [] (map length notes) (map blank notes)
none_entered notes = record {
  room_is = lengths notes;
  told = λ w within.
      ap (λ (list : List Bool). get_or list w.number false) (get_or-map blank notes w.stream [])
      ∙ unset (length (get_or notes w.stream [])) w.number;
}
