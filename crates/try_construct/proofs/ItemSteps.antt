-- One item more.
use Rattle.std.proofs.Common.{◌≡◌, refl, ap, Bool, true, false, cond, ◌||◌, List, [], ◌∷◌, ◌++◌, Option, Some, None, map}
use Rattle.std.proofs.lemmas.List.{map-append}
use Rattle.xt_shapes.specs.declared.leaves.Try.{Try}
use Rattle.xt_shapes.specs.declared.leaves.Try.TheVariants.{Discard, UseDefault, Trim}
use Rattle.xt_shapes.specs.Vals.{Val, present}
use Rattle.type_trees.specs.declared.values.Value.{Value}
use Rattle.type_trees.specs.View.{val}
use Rattle.type_trees.proofs.Views.{body_val_absent, body_val_present}
use Rattle.xcdr_model.specs.Projection.{Built, got, over, failed, settled}
use Rattle.try_construct.specs.Gathering.{one_more}
use Rattle.try_construct.specs.Items.{value_in}

pub kept_value : (none : Bool) (values : List Value) (v : Value) → cond none None (Some (map val (values ++ v ∷ []))) ≡ one_more (cond none None (Some (map val values))) (Some (val v))
kept_value true values v = refl
kept_value false values v = ap (λ l. Some l) (map-append val values (v ∷ []))

pub lost_value : (g : Option (List Val)) → one_more g None ≡ None
lost_value None = refl
lost_value (Some vs) = refl

pub settled_value : (tc : Try) (d : Val) (b : Built) → value_in (settled tc (present d) present b) ≡ settled tc d (λ v. v) b
settled_value Discard d (got v) = refl
settled_value UseDefault d (got v) = refl
settled_value Trim d (got v) = refl
settled_value Discard d (over v) = refl
settled_value UseDefault d (over v) = refl
settled_value Trim d (over v) = refl
settled_value Discard d failed = refl
settled_value UseDefault d failed = refl
settled_value Trim d failed = refl

-- a number that came is got by every setting
pub settled_got : (tc : Try) (d v : Val) → settled tc d (λ v. v) (got v) ≡ Some v
settled_got Discard d v = refl
settled_got UseDefault d v = refl
settled_got Trim d v = refl

pub unseen_still : (a : Bool) → (a || false) ≡ a
unseen_still true = refl
unseen_still false = refl

pub ruleset number_rules = (kept_value, settled_got, unseen_still)

pub ruleset item_rules = (kept_value, lost_value, body_val_absent, body_val_present)

pub ruleset settle_rules = (settled_value)
