-- What each version changes, told record after record.
use Rattle.std.proofs.Common.{◌≡◌, ℕ, ◌+◌, List, [], ◌∷◌, ◌++◌, ◌≤◌, suc, length, map, drop, true, false, Some, None, Result, Ok, Err, refl, sym, ap, ◌∙◌, subst}
use Rattle.std.specs.Prelude.{Bool, ◌||◌, Option}
use Rattle.std.specs.List.{concat}
use Rattle.std.specs.Option.{option_map}
use Rattle.std.specs.Result.{IsErrAnd}
use Rattle.std.proofs.KnownBytes.{Appends-nil}
use Rattle.xt_shapes.specs.declared.leaves.Rep.{Rep}
use Rattle.xcdr_model.specs.declared.verdict.Policy.{Policy}
use Rattle.type_object.specs.Pools.{Texts}
use Rattle.xt_io.specs.declared.Item.{Item}
use Rattle.tool_runs.specs.declared.output.ending.Style.TheVariants.{Lines}
use Rattle.tool_runs.specs.declared.output.stop.Stop.{Stop}
use Rattle.tool_runs.specs.output.Outputs.{Output, Refusal, ◌>>=◌, after_pieces, ended_as}
use Rattle.tool_runs.specs.output.Runs.{Leads, Steps}
use Rattle.tool_runs.proofs.OfOutput.Turning.{stop_on}
use Rattle.tool_runs.specs.declared.output.ending.Style.{Style}
use Rattle.idl_types.specs.State as idl_types
use Rattle.idl_types.specs.Definitions as definitions
use Rattle.idl_types.specs.declared.declarations.Declaration as definition
use Rattle.type_resolve.specs.declared.sides.Identifiers.{Identifiers}
use Rattle.tool_types.specs.Types.{Declared, types, Declaration, declare, declared_by}
use Rattle.tool_types.specs.Coming.{AllComeBack, ComeBack, ComesBack}
use Rattle.tool_types.specs.Declaring.{AreIdentified, IsGood, declared_view}
use Rattle.tool_types.specs.declared.declaring.Declared.{Declared as Record}
use Rattle.tool_types.specs.declared.declaring.Declared.TheVariants.{Types}
use Rattle.tool_verdicts.specs.Versions as spec
use Rattle.tool_verdicts.specs.Versions.{Finding, any_breaks, behind, between, breaks, ending_of, finding_line, findings, telling, versions}
use Rattle.tool_verdicts.specs.Reports.{IsVersion, lines_of, version_view}
use Rattle.tool_commands.specs.Comparing.{behind_last, next_findings, remaining, telling_on}
use Rattle.tool_verdicts.specs.declared.versions.comparing.Version.{Version}
use Rattle.tool_verdicts.specs.declared.versions.progress.Progress.{Progress}

-- ---- lines

or_assoc : (a b c : Bool) → (a || (b || c)) ≡ ((a || b) || c)
or_assoc true b c = refl
or_assoc false b c = refl

breaks-append : (xs ys : List Finding) → any_breaks (xs ++ ys) ≡ (any_breaks xs || any_breaks ys)
breaks-append [] ys = refl
breaks-append (x ∷ xs) ys = ap (λ b. breaks x.change || b) (breaks-append xs ys) ∙ or_assoc (breaks x.change) (any_breaks xs) (any_breaks ys)

map-lines : (xs ys : List Finding) → map finding_line (xs ++ ys) ≡ map finding_line xs ++ map finding_line ys
map-lines [] ys = refl
map-lines (x ∷ xs) ys = ap (λ (l : List (List ℕ)). finding_line x ∷ l) (map-lines xs ys)

-- the text of lines
pub lines_are : (fs : List Finding) → lines_of fs ≡ concat (map finding_line fs)
lines_are [] = refl
lines_are (f ∷ fs) = ap (λ l. finding_line f ++ l) (lines_are fs)

-- some of the findings, and then the others
pub told_first : (broke : Bool) (fs rest : List Finding) → telling broke (fs ++ rest) ≡ after_pieces (map finding_line fs) (telling (broke || any_breaks fs) rest)
told_first broke fs rest =
    let ends = ap (λ b. broke || b) (breaks-append fs rest) ∙ or_assoc broke (any_breaks fs) (any_breaks rest) in
    ap (λ (ps : List (List ℕ)). let o : Output = record { pieces = ps; ending = ending_of (broke || any_breaks (fs ++ rest)) } in o) (map-lines fs rest)
    ∙ ap (λ (b : Bool). let o : Output = record { pieces = map finding_line fs ++ map finding_line rest; ending = ending_of b } in o) ends

-- nothing was written
pub leads_nowhere : (output : Output) (now : Option (List ℕ)) → Leads (Some output) (Some output) now now
leads_nowhere output now = ([], refl, Appends-nil now)

-- a stop that is handed on to the caller
pub hands_on : (A B : Type 0) (style : Style) (output rest : Option Output) (more : Result B Stop → Option Output) (stop : Stop) (result : Result B Stop) (old new : Option (List ℕ)) → IsErrAnd result (λ e. e ≡ stop)
    → Steps {T = A} style output rest (Err stop) old new → Steps {T = B} style output (more result) result old new
hands_on A B style output rest more stop (Ok b) old new same steps = absurd same
hands_on A B style output rest more stop (Err e) old new same steps = rw same (stop_on A B style output rest (more (Err stop)) stop old new steps)

-- ---- the end

or_false : (b : Bool) → (b || false) ≡ b
or_false true = refl
or_false false = refl

none_behind : (q : Policy) (r : Rep) (last : Option spec.Version) → behind_last q r last [] ≡ []
none_behind q r None = refl
none_behind q r (Some v) = refl

pub all_told : (q : Policy) (r : Rep) (p : Progress) (k : ℕ) → remaining q r p k [] ≡ ended_as (ending_of p.broke)
all_told q r p k =
    ap (λ (fs : List Finding). telling p.broke fs) (none_behind q r (option_map version_view p.older))
    ∙ ap (λ (b : Bool). let o : Output = record { pieces = []; ending = ending_of b } in o) (or_false p.broke)

-- ---- the next record

pub back_record : (pool : Texts) (records : List Record) (i : ℕ) (d : Record) → drop i records ≡ d ∷ drop (i + 1) records → AllComeBack pool (map declared_view (drop i records)) → ComesBack pool (declared_view d) × AllComeBack pool (map declared_view (drop (i + 1) records))
back_record pool records i d e all = subst (λ (l : List Record). AllComeBack pool (map declared_view l)) e all

-- a version behind the last one
pub version_on : (q : Policy) (r : Rep) (last : Option spec.Version) (w : spec.Version) (vs : List spec.Version) → behind_last q r last (w ∷ vs) ≡ next_findings q r last w ++ behind_last q r (Some w) vs
version_on q r None w vs = refl
version_on q r (Some v) w vs = refl

-- all was told
pub end_told : (q : Policy) (r : Rep) (first : Option Output) (p : Progress) (k : ℕ) (ds : List Declared) (old now : Option (List ℕ)) → ds ≡ [] → Leads first (Some (remaining q r p k ds)) old now → Leads first (Some (ended_as (ending_of p.broke))) old now
end_told q r first p k ds old now none lead =
    subst (λ (o : Output). Leads first (Some o) old now) (all_told q r p k) (subst (λ (l : List Declared). Leads first (Some (remaining q r p k l)) old now) none lead)

-- a version is told where there is none before it
pub first_told : (q : Policy) (r : Rep) (broke : Bool) (w : spec.Version) (last : Option spec.Version) (rest : List Finding) (now : Option (List ℕ)) → last ≡ None → Leads (Some (telling broke (next_findings q r last w ++ rest))) (Some (telling broke rest)) now now
first_told q r broke w last rest now none = subst (λ (l : Option spec.Version). Leads (Some (telling broke (next_findings q r l w ++ rest))) (Some (telling broke rest)) now now) (sym none) (leads_nowhere (telling broke rest) now)

-- what is written of a version behind another
abbrev pub told_of : Policy → Rep → Bool → spec.Version → spec.Version → List Finding → Output
told_of q r broke v w rest = after_pieces (map finding_line (between q r v w)) (telling (broke || any_breaks (between q r v w)) rest)

told_behind : (q : Policy) (r : Rep) (broke : Bool) (v w : spec.Version) (last : Option spec.Version) (rest : List Finding) → last ≡ Some v → telling broke (next_findings q r last w ++ rest) ≡ told_of q r broke v w rest
told_behind q r broke v w last rest is = ap (λ (l : Option spec.Version). telling broke (next_findings q r l w ++ rest)) is ∙ told_first broke (between q r v w) rest

pub version_told : (q : Policy) (r : Rep) (broke now_broke breaks_now : Bool) (v w : spec.Version) (last : Option spec.Version) (rest : List Finding) (old new : Option (List ℕ)) → last ≡ Some v → breaks_now ≡ any_breaks (between q r v w) → now_broke ≡ (broke || breaks_now)
    → Leads (Some (told_of q r broke v w rest)) (Some (telling (broke || any_breaks (between q r v w)) rest)) old new → Leads (Some (telling broke (next_findings q r last w ++ rest))) (Some (telling now_broke rest)) old new
version_told q r broke now_broke breaks_now v w last rest old new is breaks_are both lead =
    let ends = both ∙ ap (λ b. broke || b) breaks_are in
    subst (λ (o : Output). Leads (Some o) (Some (telling now_broke rest)) old new) (sym (told_behind q r broke v w last rest is)) (subst (λ (b : Bool). Leads (Some (told_of q r broke v w rest)) (Some (telling b rest)) old new) (sym ends) lead)

pub version_stops : (q : Policy) (r : Rep) (broke : Bool) (v w : spec.Version) (last : Option spec.Version) (rest : List Finding) (stop : Stop) (result : Result Bool Stop) (old new : Option (List ℕ)) → last ≡ Some v → IsErrAnd result (λ e. e ≡ stop) → Steps {T = Unit {0}} Lines (Some (told_of q r broke v w rest)) (Some (telling (broke || any_breaks (between q r v w)) rest)) (Err stop) old new
    → Steps {T = Bool} Lines (Some (telling broke (next_findings q r last w ++ rest))) (telling_on rest result) result old new
version_stops q r broke v w last rest stop result old new is same steps =
    subst (λ (o : Output). Steps {T = Bool} Lines (Some o) (telling_on rest result) result old new) (sym (told_behind q r broke v w last rest is)) (hands_on (Unit {0}) Bool Lines (Some (told_of q r broke v w rest)) (Some (telling (broke || any_breaks (between q r v w)) rest)) (telling_on rest) stop result old new same steps)

-- ---- a record

-- what is still to be written from a text on
pub record_told : (q : Policy) (r : Rep) (p : Progress) (k : ℕ) (d : Declared) (ts : idl_types.Declared) (rest : List Declared) → d ≡ types ts
    → remaining q r p k (d ∷ rest) ≡ telling p.broke (next_findings q r (option_map version_view p.older) (record { number = k; types = ts }) ++ behind_last q r (Some (record { number = k; types = ts })) (versions (k + 1) rest))
record_told q r p k d ts rest is =
    ap (λ (x : Declared). remaining q r p k (x ∷ rest)) is ∙ ap (λ (fs : List Finding). telling p.broke fs) (version_on q r (option_map version_view p.older) (record { number = k; types = ts }) (versions (k + 1) rest))

-- the trees of a text's types are a version of them
pub is_version : (pool : Texts) (d : Record) (ds : List definition.Declaration) (ids : List Identifiers) (v : Version) → d ≡ Types ds ids → IsGood d → ComesBack pool (declared_view d) → idl_types.declared v.types ≡ definitions.declared ds → v.ids.now ≡ ids → IsVersion pool v
is_version pool d ds ids v is good back same beside =
    let g = subst IsGood is good in
    let b = subst (λ (x : Record). ComesBack pool (declared_view x)) is back in
    record {
      identified = subst (λ (l : List Identifiers). AreIdentified (idl_types.declared v.types) l) (sym beside) (subst (λ (ts : idl_types.Declared). AreIdentified ts ids) (sym same) g.1);
      back = subst (ComeBack pool) (sym same) b;
    }

-- ---- as many records as were declared

counted_on : (k : ℕ) (items : List Item) (front : List Declared × Texts) (d : Declared × Texts) → ((ds : List Declared × Texts) → declare (k + 1) d.1 items ≡ Ok ds → length ds.0 ≡ length items) → (r : Result (List Declared × Texts) Refusal) → declare (k + 1) d.1 items ≡ r
    → (let said : Result (List Declared × Texts) Refusal = r >>= λ ds. Ok (d.0 ∷ ds.0, ds.1) in said) ≡ Ok front → length front.0 ≡ suc (length items)
counted_on k items front d rest (Ok ds) is e =
    let made : List Declared × Texts = (d.0 ∷ ds.0, ds.1) in
    let same : made ≡ front = cc in
    subst (λ (f : List Declared × Texts). length f.0 ≡ suc (length items)) same (ap (λ n. suc n) (rest ds is))
counted_on k items front d rest (Err why) is e = absurd cc

counts_on : (k : ℕ) (items : List Item) (front : List Declared × Texts) → ((d : Declared × Texts) (ds : List Declared × Texts) → declare (k + 1) d.1 items ≡ Ok ds → length ds.0 ≡ length items) → (r : Declaration)
    → (let said : Result (List Declared × Texts) Refusal = r >>= λ d. declare (k + 1) d.1 items >>= λ ds. Ok (d.0 ∷ ds.0, ds.1) in said) ≡ Ok front → length front.0 ≡ suc (length items)
counts_on k items front rest (Ok d) e = counted_on k items front d (rest d) (declare (k + 1) d.1 items) refl e
counts_on k items front rest (Err why) e = absurd cc

counted : (k : ℕ) (pool : Texts) (items : List Item) (front : List Declared × Texts) → declare k pool items ≡ Ok front → length front.0 ≡ length items
unfolding declare
counted k pool [] front e =
    let made : List Declared × Texts = ([], pool) in
    let same : made ≡ front = cc in
    subst (λ (f : List Declared × Texts). length f.0 ≡ 0) same refl
counted k pool (item ∷ items) front e = counts_on k items front (λ d. counted (k + 1) d.1 items) (declared_by k pool item) e

views_counted : (records : List Record) → length (map declared_view records) ≡ length records
views_counted [] = refl
views_counted (d ∷ ds) = ap (λ n. suc n) (views_counted ds)

pub few_records : (items : List Item) (records : List Record) (pool : Texts) → declare 0 [] items ≡ Ok (map declared_view records, pool) → length items ≤ 1048576 → length records ≤ 1048576
few_records items records pool e few = let same = sym (views_counted records) ∙ counted 0 [] items (map declared_view records, pool) e in subst (λ (n : ℕ). n ≤ 1048576) (sym same) few
