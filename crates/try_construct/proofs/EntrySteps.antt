-- One entry more.
use Rattle.std.proofs.Common.{◌≡◌, refl, ap, Bool, true, false, cond, List, [], ◌∷◌, ◌++◌, Option, Some, None, map}
use Rattle.std.proofs.lemmas.List.{map-append}
use Rattle.xt_shapes.specs.Vals.{Val}
use Rattle.type_trees.specs.declared.values.Pair.{Pair}
use Rattle.type_trees.specs.View.{pair_val}
use Rattle.type_trees.proofs.Views.{body_val_absent, body_val_present, pair_val_is}
use Rattle.try_construct.specs.Gathering.{one_more}
use Rattle.try_construct.specs.Entries.{pair_up}
use Rattle.try_construct.proofs.ItemSteps.{settled_value}

pub kept_pair : (none : Bool) (pairs : List Pair) (p : Pair) → cond none None (Some (map pair_val (pairs ++ p ∷ []))) ≡ one_more (cond none None (Some (map pair_val pairs))) (Some (pair_val p))
kept_pair true pairs p = refl
kept_pair false pairs p = ap (λ l. Some l) (map-append pair_val pairs (p ∷ []))

pub lost_pair : (g : Option (List (Val × Val))) → one_more g None ≡ None
lost_pair None = refl
lost_pair (Some xs) = refl

pub lost_value : (k : Option Val) → pair_up k None ≡ None
lost_value None = refl
lost_value (Some k) = refl

pub ruleset entry_rules = (kept_pair, lost_pair, lost_value, body_val_absent, body_val_present, pair_val_is)

pub ruleset settle_rules = (settled_value)
