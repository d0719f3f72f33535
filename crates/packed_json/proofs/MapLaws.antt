-- What is written of maps.
use Rattle.std.proofs.Common.{◌≡◌, refl, ap, Bool, true, false, ◌&&◌, ◌∷◌}
use Rattle.std.proofs.lemmas.Bool.{and_parts}
use Rattle.serde_json.specs.Written.{items_text, compact_text}
use Rattle.xt_shapes.specs.Vals.{Val, int, text, listed, mapped, struct_of, union_of, Pairs, no_pairs, one_pair}
use Rattle.type_trees.specs.Trees.{Tree}
use Rattle.json_values.specs.Written.{data_of, pairs_data, map_data}
use Rattle.packed_json.specs.Plans.{Meaning, IsPlanOf, pairs_text, pairs_fit, map_text, map_fits}

pairs_are : (t u : Tree) (k v : Meaning) (later : Bool) (ps : Pairs) → IsPlanOf t k → IsPlanOf u v → pairs_fit k.fits v.fits ps ≡ true
    → pairs_text k.text v.text later ps ≡ items_text later (pairs_data (data_of t) (data_of u) ps)
pairs_are t u k v later no_pairs keys values fit = refl
pairs_are t u k v later (one_pair a b ps) keys values fit =
    let parts = and_parts (k.fits a && v.fits b) (pairs_fit k.fits v.fits ps) fit in
    let here = and_parts (k.fits a) (v.fits b) parts.0 in
    rw (keys a here.0, values b here.1, pairs_are t u k v true ps keys values parts.1) refl

pub map_planned : (t u : Tree) (k v : Meaning) → IsPlanOf t k → IsPlanOf u v → (w : Val) → map_fits k.fits v.fits w ≡ true → map_text k.text v.text w ≡ compact_text (map_data (data_of t) (data_of u) w)
map_planned t u k v keys values (int i) fits = absurd cc
map_planned t u k v keys values (text s) fits = absurd cc
map_planned t u k v keys values (listed vs) fits = absurd cc
map_planned t u k v keys values (mapped ps) fits = ap (λ s. 91 ∷ s) (pairs_are t u k v false ps keys values fits)
map_planned t u k v keys values (struct_of ss) fits = absurd cc
map_planned t u k v keys values (union_of d b) fits = absurd cc
