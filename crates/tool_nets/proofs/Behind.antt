-- What a bundle without a body comes to: its front, what stands behind it, and its types.
use Rattle.std.proofs.Common.{◌≡◌, List, [], None, Some, Result, Ok, Err, ap, ◌∙◌}
use Rattle.std.specs.declared.option.Option.{Option}
use Rattle.std.specs.Option.{option_map}
use Rattle.xt_io.specs.declared.Item.{Item}
use Rattle.xt_io.specs.Bundles.{Bundle}
use Rattle.xt_io.specs.Readers.{Reading}
use Rattle.type_object.specs.Pools.{Texts}
use Rattle.tool_runs.specs.declared.output.stop.Stop.{Stop}
use Rattle.tool_runs.specs.declared.output.stop.Stop.TheVariants as stops
use Rattle.tool_runs.specs.output.Outputs.{Refusal, ◌>>=◌}
use Rattle.tool_runs.specs.output.Runs.{Comes, ComesTold, coming}
use Rattle.tool_runs.specs.declared.front.front.Front.{Front as Read}
use Rattle.tool_runs.specs.front.Fronts.{Front, closed}
use Rattle.tool_runs.specs.front.Reading.{FrontIs, GivesFront}
use Rattle.tool_types.specs.Types.{Declared, declare}
use Rattle.tool_nets.specs.Opened.{objects_behind, opened}

-- what the bundle comes to
abbrev pub Opens : Option Bundle → Result Texts Stop → Type 0
Opens first result = ComesTold {X = Texts} (option_map opened first) (λ pool. pool) result

-- the rest of the input was read to its end, or is refused
abbrev pub Closes : Option Bundle → Result (Unit {0}) Stop → Type 0
Closes body result = ComesTold {X = Unit {0}} (option_map closed body) (λ u. u) result

-- the stop that the types come to
abbrev pub Stops : Result (List Declared × Texts) Refusal → Stop → Type 0
Stops said stop = Comes {X = List Declared × Texts} said (λ types. types) (Err stop)

-- the front is refused
pub front_stops : (first : Option Bundle) (stop : Stop) (reader : Reading) → FrontIs first (Err stop) reader → Opens first (Err stop)
front_stops None stop reader p = tt
front_stops (Some before) (stops.Refused r) reader p = ap (λ (f : Result Front Refusal). f >>= objects_behind) p
front_stops (Some before) (stops.Halted halt) reader p = tt

abbrev types_of : List Item → Result Texts Refusal
types_of records = declare 0 [] records >>= λ types. Ok types.1

-- what the bundle comes to by its front and what stands behind it
behind : (before body : Bundle) (records : List Item) → GivesFront before records (Some body) → opened before ≡ (closed body >>= λ u. types_of records)
behind before body records p = ap (λ (f : Result Front Refusal). f >>= objects_behind) p

closing : (before body : Bundle) (records : List Item) (shut : Result (Unit {0}) Refusal) → GivesFront before records (Some body) → closed body ≡ shut → opened before ≡ (shut >>= λ u. types_of records)
closing before body records shut p q = behind before body records p ∙ ap (λ (x : Result (Unit {0}) Refusal). x >>= λ u. types_of records) q

rest_refused : (before : Bundle) (records : List Item) (body : Option Bundle) (stop : Stop) → GivesFront before records body → Closes body (Err stop) → Opens (Some before) (Err stop)
rest_refused before records None stop p q = absurd p
rest_refused before records (Some body) (stops.Refused r) p q = closing before body records (Err _) p q
rest_refused before records (Some body) (stops.Halted halt) p q = tt

-- what stands behind the front is refused
pub rest_stops : (first : Option Bundle) (front : Read) (reader : Reading) (stop : Stop) → FrontIs first (Ok front) reader → Closes (coming front.next reader) (Err stop) → Opens first (Err stop)
rest_stops None front reader stop p q = tt
rest_stops (Some before) front reader stop p q = rest_refused before front.records (coming front.next reader) stop p q

types_declared : (before : Bundle) (records : List Item) (body : Option Bundle) (types : List Declared × Texts) → GivesFront before records body → Closes body (Ok tt) → declare 0 [] records ≡ Ok types → Opens (Some before) (Ok types.1)
types_declared before records None types p q d = absurd p
types_declared before records (Some body) types p q d = closing before body records (Ok tt) p q ∙ ap (λ (r : Result (List Declared × Texts) Refusal). r >>= λ found. Ok found.1) d

-- the types are there
pub types_go : (first : Option Bundle) (front : Read) (reader : Reading) (types : List Declared × Texts) → FrontIs first (Ok front) reader → Closes (coming front.next reader) (Ok tt) → declare 0 [] front.records ≡ Ok types → Opens first (Ok types.1)
types_go None front reader types p q d = tt
types_go (Some before) front reader types p q d = types_declared before front.records (coming front.next reader) types p q d

types_refused : (before : Bundle) (records : List Item) (body : Option Bundle) (stop : Stop) → GivesFront before records body → Closes body (Ok tt) → Stops (declare 0 [] records) stop → Opens (Some before) (Err stop)
types_refused before records None stop p q d = absurd p
types_refused before records (Some body) (stops.Refused r) p q d = closing before body records (Ok tt) p q ∙ ap (λ (found : Result (List Declared × Texts) Refusal). found >>= λ types. Ok types.1) d
types_refused before records (Some body) (stops.Halted halt) p q d = tt

-- the types are refused
pub types_stop : (first : Option Bundle) (front : Read) (reader : Reading) (stop : Stop) → FrontIs first (Ok front) reader → Closes (coming front.next reader) (Ok tt) → Stops (declare 0 [] front.records) stop → Opens first (Err stop)
types_stop None front reader stop p q d = tt
types_stop (Some before) front reader stop p q d = types_refused before front.records (coming front.next reader) stop p q d
