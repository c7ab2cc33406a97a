use Rattle.std.proofs.Common.{◌≡◌, ◌∙◌, ℕ, Bool, true, false, List, ◌∷◌, Option, None, Some, cond, not, ap, refl, sym, get_or}
use Rattle.std.specs.List.{find}
use Rattle.std.specs.Option.{option_map, option_or}
use Rattle.uds_index.specs.declared.tags.Tagged.{Tagged}
use Rattle.sparse_index.specs.Finds.{is_listed}
use Rattle.sparse_index.proofs.FoundLaws.{loop_start, loop_found, loop_next, loop_end}
use Rattle.sparse_index.proofs.lookup.first_unlisted.Goals as goal

abbrev none : Tagged
none = record { tag = 0; number = 0 }

abbrev left : List ℕ → List Tagged → Option ℕ
left numbers ones = option_map (λ one. one.number) (find (λ one. not (is_listed numbers one.number)) ones)

abbrev here : List ℕ → Tagged → Option ℕ
here numbers one = cond (not (is_listed numbers one.number)) (Some one.number) None

step : (numbers : List ℕ) (one : Tagged) (ones : List Tagged) → left numbers (one ∷ ones) ≡ option_or (here numbers one) (left numbers ones)
step numbers one ones = by (not (is_listed numbers one.number))
  where
    by : (b : Bool) → option_map (λ (x : Tagged). x.number) (cond b (Some one) (find (λ x. not (is_listed numbers x.number)) ones))
        ≡ option_or (cond b (Some one.number) None) (left numbers ones)
    by true = refl
    by false = refl

pub returns-then-not-contains : goal.returns-then-not-contains
returns-then-not-contains c =
    loop_found (left c.args.numbers.now) (here c.args.numbers.now) refl (step c.args.numbers.now) c.args.tagged.now c.loop-one.one-index none
    (get_or c.args.tagged.now c.loop-one.one-index none).number c.loop-one-test.true
    (ap (λ (b : Bool). cond (not b) (Some (get_or c.args.tagged.now c.loop-one.one-index none).number) None) (sym c.contains.ensures.value ∙ c.if-not-contains.true))
    c.loop-one.invariant

pub returns : goal.returns
returns c = loop_end (left c.args.numbers.now) (here c.args.numbers.now) refl (step c.args.numbers.now) c.args.tagged.now c.loop-one.one-index c.loop-one-test.false c.loop-one.invariant

pub loop-one-init : goal.loop-one-init
loop-one-init c = loop_start (left c.args.numbers.now) (here c.args.numbers.now) refl (step c.args.numbers.now) c.args.tagged.now

pub loop-one-preserved : goal.loop-one-preserved
loop-one-preserved c =
    loop_next (left c.args.numbers.now) (here c.args.numbers.now) refl (step c.args.numbers.now) c.args.tagged.now c.loop-one.one-index none c.loop-one-test.true
    (ap (λ (b : Bool). cond (not b) (Some (get_or c.args.tagged.now c.loop-one.one-index none).number) None) (sym c.contains.ensures.value ∙ c.if-not-contains.false))
    c.loop-one.invariant
