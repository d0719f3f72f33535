-- Findings that are reported one after another.
use Rattle.std.proofs.Common.{◌≡◌, ℕ, ◌+◌, ◌<◌, List, [], ◌∷◌, ◌++◌, append_assoc, append-nil, length, drop, get_or, true, false, Some, None, Ok, refl, sym, ap, ◌∙◌, subst}
use Rattle.std.specs.Prelude.{Bool, ◌||◌, IfSome, Option}
use Rattle.std.specs.Option.{option_map}
use Rattle.std.proofs.lemmas.List.{drop_more}
use Rattle.type_trees.specs.declared.types.Named.{Named}
use Rattle.type_trees.specs.View.{tree}
use Rattle.object_walks.specs.Resolving.{resolved}
use Rattle.type_object.specs.Pools.{Texts}
use Rattle.type_resolve.specs.declared.sides.Identifiers.{Identifiers}
use Rattle.idl_types.specs.State.{declared}
use Rattle.tool_types.specs.Coming.{ComeBack}
use Rattle.tool_types.specs.Declaring.{AreIdentified, Identifies}
use Rattle.tool_types.specs.names.Names.{type_by_name}
use Rattle.tool_types.proofs.OfNames.Identified.{name_back}
use Rattle.tool_verdicts.specs.Versions.{Finding, any_breaks, breaks, each, finding_line}
use Rattle.tool_verdicts.specs.Reports.{Reports, lines_of, tree_of}
use Rattle.tool_verdicts.specs.declared.versions.lookup.VersionType.{VersionType}
use Rattle.tool_verdicts.specs.declared.versions.reports.Report.{Report}

-- ---- reports

or_false : (b : Bool) → (b || false) ≡ b
or_false true = refl
or_false false = refl

or_assoc : (a b c : Bool) → ((a || b) || c) ≡ (a || (b || c))
or_assoc true b c = refl
or_assoc false b c = refl

lines-append : (xs ys : List Finding) → lines_of (xs ++ ys) ≡ lines_of xs ++ lines_of ys
lines-append [] ys = refl
lines-append (x ∷ xs) ys = ap (λ l. finding_line x ++ l) (lines-append xs ys) ∙ sym (append_assoc (finding_line x) (lines_of xs) (lines_of ys))

breaks-append : (xs ys : List Finding) → any_breaks (xs ++ ys) ≡ (any_breaks xs || any_breaks ys)
breaks-append [] ys = refl
breaks-append (x ∷ xs) ys = ap (λ b. breaks x.change || b) (breaks-append xs ys) ∙ sym (or_assoc (breaks x.change) (any_breaks xs) (any_breaks ys))

pub reports_none : (a : Report) → Reports a a []
reports_none a = record { text = sym (append-nil a.text); breaks = sym (or_false a.breaks) }

pub reports_then : (a b c : Report) (xs ys : List Finding) → Reports a b xs → Reports b c ys → Reports a c (xs ++ ys)
reports_then a b c xs ys p q =
    record {
      text = q.text ∙ ap (λ l. l ++ lines_of ys) p.text ∙ append_assoc a.text (lines_of xs) (lines_of ys) ∙ ap (λ l. a.text ++ l) (sym (lines-append xs ys));
      breaks = q.breaks ∙ ap (λ x. x || any_breaks ys) p.breaks ∙ or_assoc a.breaks (any_breaks xs) (any_breaks ys) ∙ ap (λ x. a.breaks || x) (sym (breaks-append xs ys));
    }

-- one more of a list of types: what comes behind it is what comes behind the whole
pub each_on : {A : Type 0} (f : A → List Finding) (x : A) (xs all rest : List A) (first before after : Report) → rest ≡ x ∷ xs → ((last : Report) → Reports before last (each f rest) → Reports first last (each f all)) → Reports before after (f x)
    → (last : Report) → Reports after last (each f xs) → Reports first last (each f all)
each_on {A} f x xs all rest first before after is goes one last more =
    goes last (subst (λ (l : List A). Reports before last (each f l)) (sym is) (reports_then before after last (f x) (each f xs) one more))

pub each_done : {A : Type 0} (f : A → List Finding) (all rest : List A) (first before : Report) → rest ≡ [] → ((last : Report) → Reports before last (each f rest) → Reports first last (each f all)) → Reports first before (each f all)
each_done {A} f all rest first before is goes = goes before (subst (λ (l : List A). Reports before before (each f l)) (sym is) (reports_none before))

-- ---- the types of a version

pub next_type : (types : List Named) (i : ℕ) (t : Named) → i < length types → t ≡ get_or types i t → drop i types ≡ t ∷ drop (i + 1) types
next_type types i t lt is = drop_more types i t lt ∙ ap (λ (x : Named). x ∷ drop (i + 1) types) (sym is)

-- the type that a version has under a name comes back
pub named_back : (pool : Texts) (name : List ℕ) (types : List Named) (found : VersionType) → ComeBack pool (declared types) → type_by_name name (declared types) ≡ Some (tree_of found) → Identifies (tree_of found) found.ids → resolved pool found.ids.complete ≡ Ok (tree_of found)
named_back pool name types found all is identified = name_back pool name (declared types) (tree_of found) found.ids.complete all is identified.complete

pub found_back : (pool : Texts) (name : List ℕ) (types : List Named) (found : Option VersionType) → ComeBack pool (declared types) → option_map tree_of found ≡ type_by_name name (declared types) → IfSome found (λ it. Identifies (tree_of it) it.ids) → IfSome found (λ it. resolved pool it.ids.complete ≡ Ok (tree_of it))
found_back pool name types None all is identified = tt
found_back pool name types (Some found) all is identified = named_back pool name types found all (sym is) identified

-- the type at a place comes back by its identifier
pub place_back : (pool : Texts) (types : List Named) (ids : List Identifiers) (t : Named) (d : Identifiers) (ts : List Named) (ds : List Identifiers) → types ≡ t ∷ ts → ids ≡ d ∷ ds → AreIdentified (declared types) ids → ComeBack pool (declared types) → resolved pool d.complete ≡ Ok (tree t.ty)
place_back pool types ids t d ts ds e f identified back =
    let here = subst (λ (l : List Identifiers). AreIdentified (declared (t ∷ ts)) l) f (subst (λ (l : List Named). AreIdentified (declared l) ids) e identified) in
    (subst (λ (l : List Named). ComeBack pool (declared l)) e back).0 d.complete here.0.complete

pub back_behind : (pool : Texts) (types : List Named) (t : Named) (ts : List Named) → types ≡ t ∷ ts → ComeBack pool (declared types) → ComeBack pool (declared ts)
back_behind pool types t ts e back = (subst (λ (l : List Named). ComeBack pool (declared l)) e back).1

-- ---- a whole report

pub reported_text : (a b c : Report) (xs ys : List Finding) → a.text ≡ [] → Reports a b xs → Reports b c ys → c.text ≡ lines_of (xs ++ ys)
reported_text a b c xs ys none p q = (reports_then a b c xs ys p q).text ∙ ap (λ l. l ++ lines_of (xs ++ ys)) none

pub reported_breaks : (a b c : Report) (xs ys : List Finding) → a.breaks ≡ false → Reports a b xs → Reports b c ys → c.breaks ≡ any_breaks (xs ++ ys)
reported_breaks a b c xs ys none p q = (reports_then a b c xs ys p q).breaks ∙ ap (λ x. x || any_breaks (xs ++ ys)) none
