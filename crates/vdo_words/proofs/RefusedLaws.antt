-- Options are right exactly where none of them is wrong.
use Rattle.std.proofs.Common.{◌≡◌, ◌&&◌, Bool, true, false, not, Option, Some, List, [], ◌∷◌, None, if◌then◌else◌, option_map, refl}
use Rattle.std.specs.Option.{is_none, is_some}
use Rattle.vdo_words.specs.Given.{Given, find}
use Rattle.vdo_words.specs.Options.{are_right, is_right}
use Rattle.vdo_words.specs.Refused.{first_wrong}
use Rattle.vdo_words.specs.declared.option_names.OptionName.{OptionName}

none_behind : {X : Type 0} (right once : Bool) (behind : Option X) (rest : Bool) (wrong : X) → is_none behind ≡ rest
    → is_none (if right && once then behind else Some wrong) ≡ (right && once && rest)
none_behind true true behind rest wrong same = same
none_behind true false behind rest wrong same = refl
none_behind false once behind rest wrong same = refl

pub right_where_none_is_wrong : (names : List OptionName) (options : List Given) → is_none (first_wrong names options) ≡ are_right names options
right_where_none_is_wrong names [] = refl
right_where_none_is_wrong names (option ∷ options) =
    none_behind (is_right names option) (is_none (find option.0 options)) (first_wrong names options) (are_right names options) option.0
    (right_where_none_is_wrong names options)

-- what may be there is changed, and isn't there exactly where it wasn't
pub none_changed : {X Y : Type 0} (f : X → Y) (found : Option X) (none : Bool) → is_some found ≡ not none → none ≡ is_none (option_map f found)
none_changed f (Some x) true same = same
none_changed f (Some x) false same = refl
none_changed f None true same = refl
none_changed f None false same = same
