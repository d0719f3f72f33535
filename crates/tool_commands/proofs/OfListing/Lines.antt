-- The lines of declared types, by their names and identifiers.
use Rattle.std.proofs.Common.{◌≡◌, ℕ, zero, suc, ◌+◌, ◌<◌, ◌≤◌, List, [], ◌∷◌, ◌++◌, map, append_assoc, append-nil, length, drop, drop_of_length-le, get_or, refl, sym, ap, ◌∙◌, Some, None}
use Rattle.std.proofs.lemmas.List.{drop_more, map-append}
use Rattle.std.specs.Prelude.{slice_get}
use Rattle.std.proofs.lemmas.Option.{none-some, get_or_from_slice_get, slice_get_within}
use Rattle.std.specs.List.{concat}
use Rattle.type_trees.specs.Trees.{Tree}
use Rattle.idl_types.specs.State.{Declared}
use Rattle.idl_types.specs.declared.declarations.Declaration.{Declaration}
use Rattle.idl_types.specs.Definitions.{defined, declared_from, declared}
use Rattle.type_resolve.specs.declared.sides.Identifiers.{Identifiers}
use Rattle.tool_types.specs.Declaring.{AreIdentified, Identifies}
use Rattle.tool_commands.specs.listing.Listing.{type_line, named_line, named_lines}

names_from : (ts : Declared) (ds : List Declaration) → map (λ t. t.0) (declared_from ts ds) ≡ map (λ t. t.0) ts ++ map (λ d. d.name) ds
names_from ts [] = sym (append-nil (map (λ t. t.0) ts))
names_from ts (d ∷ ds) =
    let one : Declared = (d.name, defined ts d.name d.definition) ∷ [] in
    names_from (ts ++ one) ds ∙ ap (λ (ns : List (List ℕ)). ns ++ map (λ d. d.name) ds) (map-append (λ t. t.0) ts one) ∙ append_assoc (map (λ t. t.0) ts) (d.name ∷ []) (map (λ d. d.name) ds)

names_are : (ds : List Declaration) → map (λ t. t.0) (declared ds) ≡ map (λ d. d.name) ds
names_are ds = names_from [] ds

line_is : (name : List ℕ) (t : Tree) (ids : Identifiers) → Identifies t ids → named_line name ids ≡ type_line (name, t)
line_is name t ids is = rw (is.minimal, is.complete) refl

lines_by : (ts : Declared) (ids : List Identifiers) → AreIdentified ts ids → named_lines (map (λ t. t.0) ts) ids ≡ concat (map type_line ts)
lines_by [] [] each = refl
lines_by [] (i ∷ ids) each = absurd each
lines_by (t ∷ ts) [] each = absurd each
lines_by (t ∷ ts) (i ∷ ids) each =
    ap (λ (l : List ℕ). l ++ named_lines (map (λ t. t.0) ts) ids) (line_is t.0 t.1 i each.0) ∙ ap (λ (l : List ℕ). type_line t ++ l) (lines_by ts ids each.1)

pub lines_are : (ds : List Declaration) (ids : List Identifiers) → AreIdentified (declared ds) ids → named_lines (map (λ d. d.name) ds) ids ≡ concat (map type_line (declared ds))
lines_are ds ids each = ap (λ (ns : List (List ℕ)). named_lines ns ids) (sym (names_are ds)) ∙ lines_by (declared ds) ids each

-- one line more
pub line_on : (text line : List ℕ) (ds : List Declaration) (ids : List Identifiers) (i : ℕ) (d : Declaration) (k : Identifiers) → i < length ds → d ≡ get_or ds i d → slice_get ids i ≡ Some k → line ≡ named_line d.name k
    → text ++ named_lines (map (λ d. d.name) (drop i ds)) (drop i ids) ≡ (text ++ line) ++ named_lines (map (λ d. d.name) (drop (i + 1) ds)) (drop (i + 1) ids)
line_on text line ds ids i d k within is at said =
    let rest = named_lines (map (λ d. d.name) (drop (i + 1) ds)) (drop (i + 1) ids) in
    let types : drop i ds ≡ d ∷ drop (i + 1) ds = drop_more ds i d within ∙ ap (λ (x : Declaration). x ∷ drop (i + 1) ds) (sym is) in
    let beside : drop i ids ≡ k ∷ drop (i + 1) ids = drop_more ids i k (slice_get_within ids i k at) ∙ ap (λ (x : Identifiers). x ∷ drop (i + 1) ids) (get_or_from_slice_get ids i k k at) in
    ap (λ (x : List Declaration). text ++ named_lines (map (λ d. d.name) x) (drop i ids)) types ∙ ap (λ (x : List Identifiers). text ++ named_lines (d.name ∷ map (λ d. d.name) (drop (i + 1) ds)) x) beside ∙ ap (λ (l : List ℕ). text ++ (l ++ rest)) (sym said)
    ∙ sym (append_assoc text line rest)

nothing_beside : (names : List (List ℕ)) → named_lines names [] ≡ []
nothing_beside [] = refl
nothing_beside (n ∷ names) = refl

dropped : (ids : List Identifiers) (i : ℕ) → slice_get ids i ≡ None → drop i ids ≡ []
dropped [] zero none = refl
dropped [] (suc i) none = refl
dropped (k ∷ ids) zero none = absurd (none-some k (sym none))
dropped (k ∷ ids) (suc i) none = dropped ids i none

-- no identifiers are left
pub ids_end : (text : List ℕ) (names : List (List ℕ)) (ids : List Identifiers) (i : ℕ) → slice_get ids i ≡ None → text ++ named_lines names (drop i ids) ≡ text
ids_end text names ids i none = ap (λ (x : List Identifiers). text ++ named_lines names x) (dropped ids i none) ∙ ap (λ (l : List ℕ). text ++ l) (nothing_beside names) ∙ append-nil text

-- no line is left
pub lines_end : (text : List ℕ) (ds : List Declaration) (ids : List Identifiers) (i : ℕ) → length ds ≤ i → text ++ named_lines (map (λ d. d.name) (drop i ds)) (drop i ids) ≡ text
lines_end text ds ids i past = rw (drop_of_length-le ds past) (append-nil text)
