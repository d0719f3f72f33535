-- One more declaration, valid and over a base that fits.
use Rattle.std.proofs.Common.{◌≡◌, refl, sym, ap, subst, ◌∙◌, ◌&&◌, Bool, true, false, List, [], ◌∷◌, ◌++◌, None, Result, Ok, Err}
use Rattle.std.specs.Prelude.{OnOk, OnErr}
use Rattle.node_rules.proofs.Labelled.{all_append}
use Rattle.type_rules.specs.Valid.{type_fault}
use Rattle.idl_tokens.specs.Classes.{Text}
use Rattle.idl_types.specs.State.{Declared}
use Rattle.idl_types.specs.declared.declarations.Declaration.{Declaration}
use Rattle.idl_types.specs.Definitions.{defined, declared_from, declared, fits, all_fit_from}
use Rattle.idl_types.specs.Kept.{is_clear, all_valid, AreKept}
use Rattle.idl_types.proofs.NameLoops.{types_push}

fit_from : (ts : Declared) (ds : List Declaration) (d : Declaration) → all_fit_from ts ds ≡ true → fits (declared_from ts ds) d.definition ≡ true → all_fit_from ts (ds ++ d ∷ []) ≡ true
fit_from ts [] d each more = rw more refl
fit_from ts (x ∷ ds) d each more = parts (fits ts x.definition) _ _ each (λ rest. fit_from (ts ++ (x.name, defined ts x.name x.definition) ∷ []) ds d rest more)
  where
    parts : (a b c : Bool) → (a && b) ≡ true → (b ≡ true → c ≡ true) → (a && c) ≡ true
    parts true b c both on = on both
    parts false b c both on = both

valid_more : (ts : Declared) (name : Text) (d : Declaration) → all_valid ts ≡ true → type_fault (defined ts name d.definition) ≡ None → all_valid (ts ++ (name, defined ts name d.definition) ∷ []) ≡ true
valid_more ts name d each valid = all_append (λ t. is_clear (type_fault t.1)) ts ((name, defined ts name d.definition) ∷ []) ∙ rw (each, valid) refl

pub kept_more : (ds : List Declaration) (d : Declaration) → AreKept ds → fits (declared ds) d.definition ≡ true → type_fault (defined (declared ds) d.name d.definition) ≡ None → AreKept (ds ++ d ∷ [])
kept_more ds d kept fit valid = record {
  fit = fit_from [] ds d kept.fit fit;
  valid = ap all_valid (types_push ds d) ∙ valid_more (declared ds) d.name d kept.valid valid;
}

pub kept_pushed : {A E : Type 0} (r : Result A E) (old new : List Declaration) (d : Declaration) → OnOk r (new ≡ old ++ d ∷ []) → OnErr r (new ≡ old) → AreKept old → fits (declared old) d.definition ≡ true
    → type_fault (defined (declared old) d.name d.definition) ≡ None → AreKept new
kept_pushed (Ok a) old new d is same kept fit valid = subst AreKept (sym is) (kept_more old d kept fit valid)
kept_pushed (Err e) old new d is same kept fit valid = subst AreKept (sym same) kept
