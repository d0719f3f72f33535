-- The objects of a type that is declared behind others: what they need, and then its own two.
use Rattle.std.proofs.Common.{◌≡◌, ℕ, zero, suc, List, [], ◌∷◌, ◌++◌, map, Option, Some, None, refl, sym, ap, subst, ◌∙◌, append_assoc}
use Rattle.std.proofs.lemmas.Bool.{and_parts}
use Rattle.std.specs.Prelude.{Bool, true, false, Result}
use mathlib.Core.Path.{fun_ext}
use Rattle.xt_shapes.specs.declared.leaves.Ext.{Ext}
use Rattle.xt_shapes.specs.declared.leaves.Step.{Step}
use Rattle.type_trees.specs.Trees.{Tree, UnionHead}
use Rattle.type_trees.specs.View.{cases_of}
use Rattle.type_rules.specs.Valid.{type_fault}
use Rattle.object_formats.specs.Objects.{Identifier, CasePart, Object}
use Rattle.idl_tokens.specs.Classes.{Text}
use Rattle.idl_types.specs.State.{Declared}
use Rattle.idl_types.specs.Uses.{tree_at, whole}
use Rattle.idl_types.specs.Definitions.{defined, fits, base_fits, is_structure_of, case_whole, members_before, bases_before}
use Rattle.idl_types.specs.declared.declarations.UsedCase.{UsedCase}
use Rattle.idl_types.specs.declared.declarations.StructDefinition.{StructDefinition}
use Rattle.idl_types.specs.declared.declarations.Definition.{Definition}
use Rattle.idl_types.specs.declared.declarations.Definition.TheVariants as definition_of
use Rattle.type_object.specs.Pools.{Texts}
use Rattle.type_object.specs.declared.pool.PoolFault.{PoolFault}
use Rattle.type_object.specs.declared.pool.PoolFault.TheVariants as F
use Rattle.type_resolve.specs.declared.sides.Identifiers.{Identifiers}
use Rattle.type_resolve.specs.Adding.{Adds, Halts}
use Rattle.type_resolve.specs.Held.{AreHeld}
use Rattle.type_resolve.specs.Objects.{own, union_object, is_plain, identifier, case_parts, texts, case_texts, joined, both_texts}
use Rattle.type_resolve.specs.Views.{sides, hashes_seen, both_forms, form_texts, form_ids, itself, Stores}
use Rattle.idl_types.specs.Kept.{is_clear, all_valid}
use Rattle.type_resolve.specs.Definitions.{types_texts, used_case_part, base_identifier, own_object, base_texts, needed_texts}
use Rattle.type_resolve.proofs.Added.{begins_none, stores_then}
use Rattle.type_resolve.proofs.Known.{adds_again}
use Rattle.type_resolve.proofs.Steps.{hashed_so, stores_same}
use Rattle.type_resolve.proofs.Flattened.{IsOn, head_on, on_none, on_base}
use Rattle.type_resolve.proofs.HeldUses.{needed_held}

-- ---- a base is valid

clear_is : (o : Option (ℕ × List Step)) → is_clear o ≡ true → o ≡ None
clear_is None e = refl
clear_is (Some f) e = absurd cc

valid_at : (ts : Declared) (ext : Ext) (at : ℕ) → all_valid ts ≡ true → is_structure_of ext (tree_at ts at) ≡ true → type_fault (tree_at ts at) ≡ None
valid_at [] ext at valid fits = absurd cc
valid_at (d ∷ ts) ext zero valid fits = clear_is (type_fault d.1) (and_parts (is_clear (type_fault d.1)) (all_valid ts) valid).0
valid_at (d ∷ ts) ext (suc at) valid fits = valid_at ts ext at (and_parts (is_clear (type_fault d.1)) (all_valid ts) valid).1 fits

module _ (ts : Declared) (valid : all_valid ts ≡ true) (name : Text) where
  struct_is_on : (s : StructDefinition) (base : Option ℕ) → base_fits ts s.ext base ≡ true
      → IsOn ts s name (head_on ts s name (bases_before ts base)) (members_before ts base) (base_texts ts base) (λ c. base_identifier c ts base)
  struct_is_on s None good = on_none ts s name
  struct_is_on s (Some at) good = on_base ts s name (tree_at ts at) good (valid_at ts s.ext at valid good)

  -- ---- cases

  case_texts_are : (cs : List UsedCase) → case_texts (cases_of (map (case_whole ts) cs)) ≡ joined (map (λ c. texts (whole ts c.used)) cs)
  unfolding case_texts
  case_texts_are [] = refl
  case_texts_are (c ∷ cs) = ap (λ us. texts (whole ts c.used) ++ us) (case_texts_are cs)

  case_parts_are : (b : Bool) (cs : List UsedCase) → case_parts b (cases_of (map (case_whole ts) cs)) ≡ map (used_case_part b ts) cs
  unfolding case_parts
  case_parts_are b [] = refl
  case_parts_are b (c ∷ cs) = ap (λ ps. used_case_part b ts c ∷ ps) (case_parts_are b cs)

  -- ---- a definition

  abbrev object : Definition → Bool → Object
  object d c = own_object c ts name d

  pub defined_texts : (d : Definition) → fits ts d ≡ true → texts (defined ts name d) ≡ needed_texts ts d ++ both_texts (object d)
  unfolding texts
  defined_texts (definition_of.Enum e) good = refl
  defined_texts (definition_of.Mask m) good = refl
  defined_texts (definition_of.Struct s) good = (struct_is_on s s.base good).texts_are ∙ sym (append_assoc (base_texts ts s.base) _ _)
  defined_texts (definition_of.Union u) good =
      let head : UnionHead = record { name = Some name; ext = u.ext; nested = u.nested; hashed_ids = u.hashed_ids; disc_key = u.disc_key } in
      let parts : ◌≡◌ {A = Bool → List CasePart} (λ c. case_parts c (cases_of (map (case_whole ts) u.cases))) (λ c. map (used_case_part c ts) u.cases) = fun_ext (λ c. case_parts_are c u.cases) in
      ap (λ us. texts (whole ts u.disc) ++ (us ++ both_texts (λ c. union_object c head (identifier c (whole ts u.disc)) (case_parts c (cases_of (map (case_whole ts) u.cases)))))) (case_texts_are u.cases)
      ∙ ap (λ (f : Bool → List CasePart). texts (whole ts u.disc) ++ (joined (map (λ c. texts (whole ts c.used)) u.cases) ++ both_texts (λ c. union_object c head (identifier c (whole ts u.disc)) (f c)))) parts
      ∙ sym (append_assoc (texts (whole ts u.disc)) _ _)
  defined_texts (definition_of.Alias used) good = refl

  pub defined_id : (c : Bool) (d : Definition) → fits ts d ≡ true → identifier c (defined ts name d) ≡ own (object d c)
  unfolding identifier
  defined_id c (definition_of.Enum e) good = refl
  defined_id c (definition_of.Mask m) good = refl
  defined_id c (definition_of.Struct s) good = (struct_is_on s s.base good).named c
  defined_id c (definition_of.Union u) good =
      let head : UnionHead = record { name = Some name; ext = u.ext; nested = u.nested; hashed_ids = u.hashed_ids; disc_key = u.disc_key } in
      ap (λ ps. own (union_object c head (identifier c (whole ts u.disc)) ps)) (case_parts_are c u.cases)
  defined_id c (definition_of.Alias used) good = refl

  no_plain : (d : Definition) → is_plain (defined ts name d) ≡ false
  unfolding is_plain
  no_plain (definition_of.Enum e) = refl
  no_plain (definition_of.Mask m) = refl
  no_plain (definition_of.Struct s) = refl
  no_plain (definition_of.Union u) = refl
  no_plain (definition_of.Alias used) = refl

  defined_sides : (d : Definition) → fits ts d ≡ true → sides (defined ts name d) ≡ hashes_seen (form_ids (both_forms (object d)))
  defined_sides d good =
      let t : Tree = defined ts name d in
      ap (λ (p : Bool). (p, identifier false t, identifier true t)) (no_plain d) ∙ ap (λ (i : Identifier). (false, i, identifier true t)) (defined_id false d good) ∙ ap (λ (i : Identifier). (false, own (object d false), i)) (defined_id true d good)

  -- its own objects are added to a pool that holds the texts of the types before it
  pub defined_stores : (d : Definition) → fits ts d ≡ true → (r : Result Identifiers PoolFault) (old new : Texts) (made : Object × Object) → AreHeld old (types_texts ts) → made ≡ both_forms (object d)
      → Stores itself r old (form_texts made) new (form_ids made) → Stores hashes_seen r old (texts (defined ts name d)) new (sides (defined ts name d))
  defined_stores d good r old new made held e h =
      let k : Stores itself r old (form_texts (both_forms (object d))) new (form_ids (both_forms (object d))) = subst (λ f. Stores itself r old (form_texts f) new (form_ids f)) e h in
      let needed : Adds old (needed_texts ts d) old = adds_again old (needed_texts ts d) (needed_held old ts held d) in
      stores_same hashes_seen r old new (needed_texts ts d ++ both_texts (object d)) (texts (defined ts name d)) (hashes_seen (form_ids (both_forms (object d)))) (sides (defined ts name d)) (sym (defined_texts d good)) (sym (defined_sides d good))
      (stores_then hashes_seen r old old new (needed_texts ts d) (both_texts (object d)) _ needed (hashed_so r old new (both_texts (object d)) (form_ids (both_forms (object d))) k))

-- memory was wanting before a text was added
pub nothing_added : (fault : PoolFault) (old : Texts) (xs : List (List ℕ)) → fault ≡ F.OutOfMemory → Halts fault old xs old
nothing_added fault old xs e = subst (λ f. Halts f old xs old) (sym e) (begins_none old xs)
