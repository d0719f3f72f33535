-- A printed text declares the types that it was printed from.
use Rattle.std.proofs.Common.{◌≡◌, refl, sym, ◌∙◌, ap, subst, ℕ, zero, suc, ◌+◌, ◌-◌, true, [], ◌∷◌, ◌++◌, length, Option, Some, None, Ok, append_assoc, append-nil, arith}
use Rattle.std.proofs.lemmas.Bool.{and_parts}
use Rattle.type_trees.specs.Trees.{Tree, prim, str, enumeration, bitmask, sequence, array, map_of, structure, union, alias}
use Rattle.node_rules.specs.Names.{is_scoped, scope_fits}
use Rattle.type_rules.specs.Valid.{type_fault}
use Rattle.idl_tokens.specs.Classes.{Text}
use Rattle.idl_tokens.specs.Tokens.{skip}
use Rattle.idl_types.specs.State.{State, Declared, start, with_type}
use Rattle.idl_types.specs.Names.{innermost}
use Rattle.idl_printer.specs.Lines.{definition_text, line, printed}
use Rattle.xt_idl.specs.Whole.{items_from, at_end, types_of, idl}
use Rattle.idl_laws.specs.Printable.{IsDefinition, AreDefinitions, names_apart, IsPrintable}
use Rattle.type_rules.proofs.OfFaultless.Nodes.{at_and_below, no_fault}
use Rattle.idl_laws.proofs.Fronts.{skip_short, skip_line, end_front}
use Rattle.idl_laws.proofs.Steps.{at, kind_is}
use Rattle.idl_laws.proofs.Names.{Spelt, spelt, openings, openings_are, endings, endings_are, last_is}
use Rattle.idl_laws.proofs.Items.{Runs, runs_none, runs_on}
use Rattle.idl_laws.proofs.Scopes.{EachSpelt, Within, Opens, start_within, knows, modules_open, modules_close, none_open, name_is_new, full_name_is, type_within}
use Rattle.idl_laws.proofs.Definitions.{IsNewType}
use Rattle.idl_laws.proofs.DefinitionItems.{definition_runs}

-- ---- full names

scoped_full : (name : Option Text) (full : Text) → name ≡ Some full → scope_fits name ≡ true → is_scoped full ≡ true
scoped_full name full is fits = (and_parts _ _ (subst (λ n. scope_fits n ≡ true) is fits)).1

full_is_scoped : (known : Declared) (full : Text) (t : Tree) → type_fault t ≡ None → IsDefinition known full t → is_scoped full ≡ true
full_is_scoped known full (structure head ms) valid is = scoped_full head.name full is.0 (and_parts _ _ (and_parts _ _ (at_and_below (structure head ms) (no_fault (structure head ms) valid)).0.0).0).0
full_is_scoped known full (union head disc cs) valid is = scoped_full head.name full is.0 (and_parts _ _ (at_and_below (union head disc cs) (no_fault (union head disc cs) valid)).0.0).0
full_is_scoped known full (enumeration name ext bits ls) valid is = scoped_full name full is.0 (and_parts _ _ (at_and_below (enumeration name ext bits ls) (no_fault (enumeration name ext bits ls) valid)).0.0).0
full_is_scoped known full (bitmask name bits fs) valid is = scoped_full name full is.0 (and_parts _ _ (at_and_below (bitmask name bits fs) (no_fault (bitmask name bits fs) valid)).0.0).0
full_is_scoped known full (alias name t) valid is = scoped_full name full is.0 (at_and_below (alias name t) (no_fault (alias name t) valid)).0.0
full_is_scoped known full (prim p) valid is = absurd is
full_is_scoped known full (str n) valid is = absurd is
full_is_scoped known full (sequence n tc t) valid is = absurd is
full_is_scoped known full (array ds tc t) valid is = absurd is
full_is_scoped known full (map_of n kc k vc v) valid is = absurd is

each_spelt : (known ds : Declared) → AreDefinitions known ds → EachSpelt ds
each_spelt known [] are = tt
each_spelt known (d ∷ ds) are = (spelt d.0 (full_is_scoped known d.0 d.1 are.0 are.1.1.0) are.1.0, each_spelt (known ++ d ∷ []) ds are.1.1.1)

-- ---- a line

-- the next type's line was read
record LineRuns (ds : Declared) (s : State) (text rest : Text) (full : Text) (t : Tree) : Type 0 where
  new : State
  within : Within ds [] new
  types : new.types ≡ s.types ++ (full, t) ∷ []
  left : Text
  begins : skip left ≡ skip rest
  runs : Runs s text new left

line_is : (full : Text) (t : Tree) (n : Spelt full) (rest : Text) → line full t ++ rest ≡ openings n.path ++ (definition_text t n.last ++ (endings n.path ++ (10 ∷ rest)))
unfolding line
line_is full t n rest = rw (openings_are n, endings_are n, last_is n) (simp append_assoc)

line_runs : (ds : Declared) (full : Text) (t : Tree) (later : Declared) (s : State) → names_apart ds ≡ true → EachSpelt ds → Spelt full → Within ds [] s → ds ≡ s.types ++ (full, t) ∷ later → type_fault t ≡ None → IsDefinition s.types full t
    → (text rest : Text) → skip text ≡ skip (line full t ++ rest) → LineRuns ds s text rest full t
line_runs ds full t later s apart each n within next valid is text rest begins =
    let behind = endings n.path ++ (10 ∷ rest) in
    let o : Opens ds n.path s text (definition_text t n.last ++ behind) = modules_open ds full t later s n apart each within next text (definition_text t n.last ++ behind) (begins ∙ ap skip (line_is full t n rest)) in
    let next_in : ds ≡ o.new.types ++ (full, t) ∷ later = subst (λ ts. ds ≡ ts ++ (full, t) ∷ later) (sym o.same) next in
    let new : IsNewType o.new n.last full = record { free = (and_parts _ _ n.free).1; new = name_is_new ds full t later o.new n apart each o.within next_in; is = full_name_is ds n.path n.last o.new o.within ∙ sym n.is } in
    let defined = definition_runs o.new (knows ds n.path o.new apart each o.within) n.last full new t valid (subst (λ ts. IsDefinition ts full t) (sym o.same) is) o.left behind o.begins in
    let there = with_type (innermost o.new.opened) n.last full t o.new in
    let c : Opens ds [] there behind (10 ∷ rest) = modules_close ds n.path there (type_within ds full t later o.new n apart each o.within next_in) refl behind (10 ∷ rest) refl in
    record {
      new = c.new;
      within = c.within;
      types = c.same ∙ ap (λ ts. ts ++ (full, t) ∷ []) o.same;
      left = c.left;
      begins = c.begins ∙ skip_line rest;
      runs = runs_on o.runs (runs_on defined c.runs);
    }

-- ---- all lines

record AllRun (ds : Declared) (s : State) (text : Text) : Type 0 where
  new : State
  within : Within ds [] new
  types : new.types ≡ ds
  left : Text
  over : skip left ≡ []
  runs : Runs s text new left

skip_nothing : skip [] ≡ []
unfolding skip
skip_nothing = refl

all_run : (ds known later : Declared) (s : State) → names_apart ds ≡ true → EachSpelt ds → EachSpelt later → Within ds [] s → s.types ≡ known → ds ≡ known ++ later → AreDefinitions known later → (text : Text) → skip text ≡ skip (printed later) → AllRun ds s text
all_run ds known [] s apart each spelt within types parts are text begins =
    record { new = s; within = within; types = types ∙ sym (parts ∙ append-nil known); left = text; over = begins ∙ skip_nothing; runs = runs_none s text }
all_run ds known (d ∷ later) s apart each spelt within types parts are text begins =
    let next : ds ≡ s.types ++ (d.0, d.1) ∷ later = subst (λ ts. ds ≡ ts ++ d ∷ later) (sym types) parts in
    let l : LineRuns ds s text (printed later) d.0 d.1 = line_runs ds d.0 d.1 later s apart each spelt.0 within next are.0 (subst (λ ts. IsDefinition ts d.0 d.1) (sym types) are.1.1.0) text (printed later) begins in
    let grown : l.new.types ≡ known ++ d ∷ [] = l.types ∙ ap (λ ts. ts ++ d ∷ []) types in
    let more = all_run ds (known ++ d ∷ []) later l.new apart each spelt.1 l.within grown (parts ∙ sym (append_assoc known (d ∷ []) later)) are.1.1.1 l.left l.begins in
    record { new = more.new; within = more.within; types = more.types; left = more.left; over = more.over; runs = runs_on l.runs more.runs }

-- ---- the text

items_end : (n : ℕ) (s : State) (text : Text) (size : ℕ) → s.opened ≡ [] → skip text ≡ [] → items_from n s (at text size) ≡ Ok (s, at text size)
unfolding items_from at_end
items_end zero s text size closed over = rw (kind_is (end_front text over) size, closed) refl
items_end (suc n) s text size closed over = rw (kind_is (end_front text over) size, closed) refl

pub printed_is_read_again : (ds : Declared) → IsPrintable ds → idl (printed ds) ≡ Ok ds
unfolding idl
printed_is_read_again ds printable =
    let text = printed ds in
    let each = each_spelt [] ds printable.defined in
    let all = all_run ds [] ds start printable.apart each each (start_within ds printable.apart each) refl refl printable.defined text refl in
    let left = length text - all.runs.turns in
    let enough : length text ≡ all.runs.turns + left = omega (arith, all.runs.enough, skip_short text) in
    let read = all.runs.runs (length text) left (length text) enough ∙ items_end left all.new all.left (length text) (none_open ds all.new all.within) all.over in
    ap types_of read ∙ ap (λ ts. Ok ts) all.types
