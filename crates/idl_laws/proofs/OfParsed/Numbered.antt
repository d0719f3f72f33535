-- What literals and flags that were read are.
use Rattle.std.proofs.Common.{◌≡◌, refl, sym, subst, ◌⊎◌, inl, inr, true≢false, ℕ, ◌^◌, ◌≤◌, ◌<◌, Bool, true, false, cond, List, [], ◌∷◌, ◌++◌, map, Option, None, Result, Ok, Err, arith}
use Rattle.std.specs.Prelude.{ℤ, pos, negsuc, nat_lt}
use Rattle.std.proofs.lemmas.Nat.{pow_below}
use Rattle.std.proofs.lemmas.Bool.{cases_lt, ltb-true, lt-ltb, and_parts}
use Rattle.xt_shapes.specs.declared.leaves.Ext.{Ext}
use Rattle.xt_shapes.specs.Lists.{all}
use Rattle.xt_shapes.specs.NodeRules.{value_fits}
use Rattle.xt_shapes.specs.Typing.{in_range, is_below}
use Rattle.type_trees.specs.declared.types.Literal.{Literal}
use Rattle.type_trees.specs.declared.types.Flag.{Flag}
use Rattle.type_trees.specs.Bridge.{literal_shape}
use Rattle.type_trees.specs.Trees.{enumeration}
use Rattle.type_rules.specs.Valid.{type_fault}
use Rattle.xt_annotations.specs.declared.places.Site.{Site}
use Rattle.idl_tokens.specs.Classes.{Text}
use Rattle.idl_input.specs.declared.faults.IdlFault.{IdlFault}
use Rattle.idl_input.specs.Words.{is_keyword}
use Rattle.idl_input.specs.Input.{notes_at}
use Rattle.idl_definitions.specs.Notes.{settings}
use Rattle.idl_definitions.specs.Lists.{with_commas}
use Rattle.idl_definitions.specs.Numbered.{Numbered, number_or, with_number, part, no_parts, literals, flags}
use Rattle.idl_definitions.specs.declared.settings.Settings.{Settings}
use Rattle.idl_laws.specs.Printable.{is_spelled, is_number, literal_fits}
use Rattle.type_rules.proofs.OfFaultless.Nodes.{at_and_below, no_fault}
use Rattle.idl_laws.proofs.OfParsed.Gives.{Yields, bind, behind, given, fails}
use Rattle.idl_laws.proofs.OfParsed.Lists.{commas_yield}
use Rattle.idl_laws.proofs.OfParsed.Members.{new_name_yields, spelled_name}

pub all_more : {A : Type 0} (p : A → Bool) (l : List A) (a : A) → all p l ≡ true → p a ≡ true → all p (l ++ a ∷ []) ≡ true
all_more p [] a each more = rw more refl
all_more p (b ∷ l) a each more = let parts = and_parts (p b) (all p l) each in rw (parts.0, all_more p l a parts.1 more) refl

-- ---- literals

abbrev pub AllSpelled : List Literal → Type 0
AllSpelled ls = all (λ l. is_spelled l.name) ls ≡ true

value_yields : (r : Numbered Literal ℤ) (s : Text) (set : Settings) (v : Result ℤ IdlFault) → is_keyword s ≡ false → AllSpelled r.parts → Yields (with_number literals r s set v) (λ l. AllSpelled l.parts)
value_yields r s set (Ok v) free each = given (all_more (λ l. is_spelled l.name) r.parts (literals.part s set v) each (spelled_name s _ free refl))
value_yields r s set (Err e) free each = fails

literal_yields : (r : Numbered Literal ℤ) → AllSpelled r.parts → Yields (part literals r) (λ l. AllSpelled l.parts)
unfolding part
literal_yields r each = behind (notes_at Site.Literal) (λ ns. bind (new_name_yields r.names) (λ n free. value_yields r n.1 (settings ns) (number_or n.0 (settings ns).number r.following) free each))

pub literals_yield : Yields (with_commas (part literals) (no_parts literals)) (λ l. AllSpelled l.parts)
literals_yield = commas_yield (part literals) (λ l. AllSpelled l.parts) literal_yields (no_parts literals) refl

-- ---- their values, which a valid enumeration has within 32 bits

no_higher : (bits : ℕ) → bits < 32 → 2 ^ bits ≤ 2147483648
no_higher bits fits = by (cases_lt bits 31)
  where
    by : (bits < 31) ⊎ (31 ≤ bits) → 2 ^ bits ≤ 2147483648
    by (inl less) = omega (arith, pow_below bits 31 less)
    by (inr more) = let last : bits ≡ 31 = omega arith in subst (λ k. 2 ^ k ≤ 2147483648) (sym last) (omega arith)

below_number : (bits : ℕ) (v : ℤ) → bits < 32 → is_below (2 ^ bits) v ≡ true → is_number v ≡ true
below_number bits (pos n) fits e = lt-ltb n 2147483648 (omega (arith, no_higher bits fits, ltb-true n (2 ^ bits) e))
below_number bits (negsuc n) fits e = absurd (true≢false (sym e))

value_number : (bits : ℕ) (v : ℤ) → value_fits bits v ≡ true → is_number v ≡ true
value_number bits v e = by (nat_lt bits 32) refl e
  where
    by : (b : Bool) → nat_lt bits 32 ≡ b → cond b (is_below (2 ^ bits) v) (in_range 4 true v) ≡ true → is_number v ≡ true
    by true less e = below_number bits v (ltb-true bits 32 less) e
    by false more e = e

literals_fit : (bits : ℕ) (ls : List Literal) → AllSpelled ls → all (λ l. value_fits bits l.value) (map literal_shape ls) ≡ true → all literal_fits ls ≡ true
literals_fit bits [] each values = refl
literals_fit bits (l ∷ ls) each values =
    let spelled = and_parts (is_spelled l.name) (all (λ l. is_spelled l.name) ls) each in
    let fitting = and_parts (value_fits bits l.value) (all (λ l. value_fits bits l.value) (map literal_shape ls)) values in
    rw (spelled.0, value_number bits l.value fitting.0, literals_fit bits ls spelled.1 fitting.1) refl

-- what literals of a valid enumeration are
pub enumeration_fits : (name : Option Text) (ext : Ext) (bits : ℕ) (ls : List Literal) → AllSpelled ls → type_fault (enumeration name ext bits ls) ≡ None → all literal_fits ls ≡ true
enumeration_fits name ext bits ls each valid =
    let held = (at_and_below (enumeration name ext bits ls) (no_fault _ valid)).0 in
    literals_fit bits ls each (and_parts _ _ (and_parts _ _ held.1.1.1.0).1).0

-- ---- flags

abbrev pub AllNamed : List Flag → Type 0
AllNamed fs = all (λ f. is_spelled f.name) fs ≡ true

position_yields : (r : Numbered Flag ℕ) (s : Text) (set : Settings) (p : Result ℕ IdlFault) → is_keyword s ≡ false → AllNamed r.parts → Yields (with_number flags r s set p) (λ l. AllNamed l.parts)
position_yields r s set (Ok p) free each = given (all_more (λ f. is_spelled f.name) r.parts (flags.part s set p) each (spelled_name s _ free refl))
position_yields r s set (Err e) free each = fails

flag_yields : (r : Numbered Flag ℕ) → AllNamed r.parts → Yields (part flags r) (λ l. AllNamed l.parts)
unfolding part
flag_yields r each = behind (notes_at Site.Flag) (λ ns. bind (new_name_yields r.names) (λ n free. position_yields r n.1 (settings ns) (number_or n.0 (settings ns).position r.following) free each))

pub flags_yield : Yields (with_commas (part flags) (no_parts flags)) (λ l. AllNamed l.parts)
flags_yield = commas_yield (part flags) (λ l. AllNamed l.parts) flag_yields (no_parts flags) refl
