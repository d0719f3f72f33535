-- Parts of the rules of valid types that one loop tests, and the bases of V18, which shapes don't show (DDS-XTypes 1.3, 7.2.2.4; limits are
-- this profile's own).
use Rattle.std.specs.Prelude.{ℕ, ℤ, Bool, true, ◌&&◌, ◌||◌, nat_le, nat_lt, List, [], ◌∷◌, length}
use Rattle.std.specs.Ordering.{int_eq}
use Rattle.xt_shapes.specs.Lists.{has, all}
use Rattle.xt_shapes.specs.NodeRules.{distinct, not_empty, at_most_one, labels_of, is_discriminator}
use Rattle.xt_shapes.specs.Shape.{Literal, CaseHead, Shape}
use Rattle.xt_shapes.specs.Vals.{int}
use Rattle.xt_shapes.specs.Typing.{has_type}
use Rattle.type_trees.specs.declared.types.Base.{Base}

-- ---- of V5 to V7

abbrev pub any_default : List Literal → Bool
any_default literals = has (λ l. l.is_default) literals

abbrev pub position_fits : ℕ → ℕ → Bool
position_fits bits position = nat_lt position bits

abbrev pub is_positive : ℕ → Bool
is_positive d = nat_le 1 d

-- ---- of V11

-- a value of a discriminator
abbrev pub is_value : Shape → ℤ → Bool
is_value disc label = is_discriminator disc && has_type disc (int label)

abbrev pub is_reached : CaseHead → Bool
is_reached c = not_empty c.labels || c.is_default

abbrev pub any_default_case : List CaseHead → Bool
any_default_case cases = has (λ c. c.is_default) cases

abbrev pub any_labelled : List CaseHead → Bool
any_labelled cases = has (λ c. not_empty c.labels) cases

-- V11 as it is tested case by case; where V10 holds it is the rule
abbrev pub labels_hold : Shape → List CaseHead → Bool
labels_hold disc cases =
    (distinct int_eq (labels_of cases) && all (is_value disc) (labels_of cases)) && (all is_reached cases && (at_most_one (λ c. c.is_default) cases && any_labelled cases))

-- ---- V18: there are at most 15 bases, their counts rise, the first is at least 1, and the last is below the number of members
-- (7.2.2.4.4: single inheritance; the limit is this profile's own)

-- counts that rise, from above the one before to below the end
abbrev pub counts_rise : ℕ → List Base → ℕ → Bool
counts_rise before [] end = true
counts_rise before (b ∷ bs) end = (nat_lt before b.count && nat_lt b.count end) && counts_rise b.count bs end

abbrev pub bases_fit : List Base → ℕ → Bool
bases_fit bases members = nat_le (length bases) 15 && counts_rise 0 bases members
