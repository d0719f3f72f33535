-- Members that are found by their names.
use Rattle.std.proofs.Common.{◌≡◌, sym, ◌∙◌, ℕ, zero, suc, ◌+◌, ◌<◌, ◌≤◌, Bool, true, false, cond, List, [], ◌∷◌, length, get_or, drop, Option, Some, None, String, Global, string_bytes, bytes_eq, subst, arith}
use Rattle.std.specs.Prelude.{position, IfSome}
use Rattle.std.proofs.lemmas.Grind.{common_steps}
use Rattle.std.proofs.lemmas.List.{drop_more, drop_all}
use Rattle.std.proofs.lemmas.List.Quantifiers.{position-Some}
use Rattle.std.proofs.lemmas.List.Sums.{fails_before_first}
use Rattle.std.proofs.lemmas.Map.Text.{btree_map_updates_text}
use Rattle.std.specs.BTreeMap as map
use Rattle.std.specs.BTreeMap.{BTreeMap, get_by_text}
use Rattle.std.specs.String.{string_cmp}
use Rattle.std.specs.List.{position_or_len}
use Rattle.json.specs.Json.{Json}
use Rattle.xt_shapes.specs.declared.leaves.Primitive.{Primitive}
use Rattle.type_trees.specs.declared.types.Member.{Member}
use Rattle.type_trees.specs.View.{tree, members_tree}
use Rattle.type_trees.proofs.Views.{member_tree_is}
use Rattle.type_rules.specs.Places.{depth, members_depth}
use Rattle.json_values.specs.Names.{name_text, has_text_names, members_have_text_names}
use Rattle.json_values.proofs.Order.{named_member}
use Rattle.dynamic_data.specs.numbers.Places.{place_of}
use Rattle.dynamic_data.specs.numbers.Walks.{Turn, Turns, MemberTurns}

-- ---- an index that is built from the last member on

-- a place counted from further on
abbrev pub shifted : ℕ → Option ℕ → Option ℕ
shifted n None = None
shifted n (Some i) = Some (n + i)

-- the members from there on are held
abbrev pub HoldsFrom : ℕ → List Member → BTreeMap (String Global) ℕ → Type 0
HoldsFrom at ms places = (name : List ℕ) → get_by_text places name ≡ shifted at (place_of (drop at ms) name)

shifted_next : {X : Type 0} (at : ℕ) (p : X → Bool) (x : X) (xs : List X) → shifted at (position p (x ∷ xs)) ≡ cond (p x) (Some at) (shifted (at + 1) (position p xs))
shifted_next at p x xs = grind (arith, common_steps)

pub places_step : (ms : List Member) (i j : ℕ) (m : Member) (name : String Global) (old new : BTreeMap (String Global) ℕ) → i + 1 ≡ j → i < length ms → m ≡ get_or ms i m → string_bytes name ≡ name_text m.name
    → map.UpdatesBy string_cmp (string_cmp name) old new (Some i) → HoldsFrom j ms old → HoldsFrom i ms new
places_step ms i j m name old new next within is named updates held s =
    btree_map_updates_text (string_bytes name) old new (Some i) updates s
    ∙ rw (drop_more ms i m within, ← is, named, held s, ← next) (sym (shifted_next i (λ (x : Member). bytes_eq (name_text x.name) s) m (drop (i + 1) ms)))

-- ---- what stands at a key, by the place of the first member with that name

past : (L : Primitive → Turn) (ms : List Member) (at : ℕ) (d : Member) (key : List ℕ) (j k : Json) → at ≤ length ms → ((i : ℕ) → i < at → bytes_eq (name_text (get_or ms i d).name) key ≡ false)
    → MemberTurns L (members_tree (drop at ms)) key j k → MemberTurns L (members_tree ms) key j k
past L ms zero d key j k within others turned = turned
past L [] (suc at) d key j k within others turned = absurd (omega arith)
past L (m ∷ ms) (suc at) d key j k within others turned = rw (member_tree_is m, others 0 (omega arith)) (past L ms at d key j k (omega arith) (λ i lt. others (suc i) (omega arith)) turned)

pub turned_at : (L : Primitive → Turn) (ms : List Member) (at : ℕ) (m : Member) (key : List ℕ) (j k : Json) → place_of ms key ≡ Some at → m ≡ get_or ms at m
    → Turns L (tree m.ty) j k → MemberTurns L (members_tree ms) key j k
turned_at L ms at m key j k found is turned =
    let (within, named, others) = position-Some (λ (x : Member). bytes_eq (name_text x.name) key) ms at m found in
    past L ms at m key j k (omega arith) others (rw (drop_more ms at m within, member_tree_is (get_or ms at m), named, ← is) turned)

pub kept_at : (L : Primitive → Turn) (ms : List Member) (key : List ℕ) (j k : Json) → place_of ms key ≡ None → k ≡ j → MemberTurns L (members_tree ms) key j k
kept_at L [] key j k none same = same
kept_at L (m ∷ ms) key j k none same =
    let p = λ (x : Member). bytes_eq (name_text x.name) key in
    let none_passes : length (m ∷ ms) ≤ position_or_len p (m ∷ ms) = grind (arith, common_steps) in
    past L (m ∷ ms) (length (m ∷ ms)) m key j k (omega arith) (λ i lt. fails_before_first p (m ∷ ms) i m (omega arith)) (rw (drop_all (length (m ∷ ms)) (m ∷ ms) (omega arith)) same)

pub places_within : (ms : List Member) (key : List ℕ) (o : Option ℕ) → o ≡ place_of ms key → IfSome o (λ at. at < length ms)
places_within ms key None is = tt
places_within [] key (Some at) is = absurd cc
places_within (m ∷ ms) key (Some at) is = (position-Some (λ (x : Member). bytes_eq (name_text x.name) key) (m ∷ ms) at m (sym is)).0

pub depth_at : (ms : List Member) (at : ℕ) (m : Member) → at < length ms → m ≡ get_or ms at m → members_depth (members_tree ms) ≤ 15 → depth (tree m.ty) ≤ 16
depth_at [] at m within is deep = absurd (omega arith)
depth_at (x ∷ ms) zero m within is deep = let here = rw (member_tree_is x, ← is) at deep in omega (arith, here)
depth_at (x ∷ ms) (suc at) m within is deep = let here = rw (member_tree_is x) at deep in depth_at ms at m (omega arith) is (omega (arith, here))

pub named_at : (ms : List Member) (at : ℕ) (m : Member) → at < length ms → m ≡ get_or ms at m → members_have_text_names (members_tree ms) ≡ true → has_text_names (tree m.ty) ≡ true
named_at ms at m within is named = subst (λ (x : Member). has_text_names (tree x.ty) ≡ true) (sym is) (named_member ms at m within named).1
